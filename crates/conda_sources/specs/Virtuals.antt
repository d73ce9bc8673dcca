-- The virtual packages of a command, after conda's core/index.py; which ones the machine is taken to have is this project's own.
use Rattle.std.specs.Prelude.{◌≡◌, ℕ, Bool, true, if◌then◌else◌, List, [], ◌∷◌, ◌++◌, codes, map}
use Rattle.std.specs.List.{list_any}
use Rattle.conda_base.specs.Texts.{is_text}
use Rattle.conda_encode.specs.Matching.{lowered}
use Rattle.conda_words.specs.Values.{is_virtual, virtual_of}
use Rattle.conda_words.specs.declared.command.Virtual as words
use Rattle.conda_index.specs.declared.virtuals.Virtual.{Virtual}

-- a value of the option `--virtual` gives it
abbrev pub IsGiven : words.Virtual → Type 0
IsGiven virtual = (value : List ℕ) × (is_virtual value ≡ true) × (virtual_of value ≡ virtual)

abbrev pub virtual : List ℕ → List ℕ → List ℕ → Virtual
virtual name version build = record { name = name; version = version; build = build }

-- what a machine is taken to have
abbrev pub usual : List Virtual
usual =
    virtual (codes "__unix") (codes "0") (codes "0") ∷ virtual (codes "__linux") (codes "0") (codes "0")
    ∷ virtual (codes "__glibc") (codes "2.17") (codes "0") ∷ virtual (codes "__archspec") (codes "1") (codes "x86_64") ∷ []

-- one that is given has the build `0`
abbrev pub of_words : words.Virtual → Virtual
of_words given = virtual given.name given.version (codes "0")

-- the names are one, but for the case of their letters
abbrev pub have_one_name : Virtual → Virtual → Bool
have_one_name a b = is_text (lowered a.name) (lowered b.name)

-- of those of one name the last
abbrev pub last_of_each : List Virtual → List Virtual
last_of_each [] = []
last_of_each (one ∷ others) = if list_any (have_one_name one) others then last_of_each others else one ∷ last_of_each others

-- the usual ones and those that are given, which take the place of others of their names
abbrev pub virtual_list : List words.Virtual → List Virtual
virtual_list given = last_of_each (usual ++ map of_words given)
