-- The script that starts an entry point, as conda writes it (`path_actions.py`).
use Rattle.std.specs.Prelude.{ℕ, List, ◌++◌, codes}
use Rattle.std.specs.List.{before_first}
use Rattle.conda_base.specs.Signs.{dot}
use Rattle.conda_base.specs.Texts.{is_byte}
use Rattle.conda_link.specs.declared.info.EntryPoint.{EntryPoint}

-- the name that is imported: the function's up to its first dot
abbrev pub imported : List ℕ → List ℕ
imported func = before_first (is_byte dot) func

-- the script for a prefix, a module, the name that is imported of it, and a function
abbrev pub text_of : List ℕ → List ℕ → List ℕ → List ℕ → List ℕ
text_of prefix source name func =
    codes "#!" ++ prefix
    ++ codes "/bin/python\n# -*- coding: utf-8 -*-\nimport re\nimport sys\n\nfrom " ++ source
    ++ codes " import " ++ name
    ++ codes "\n\nif __name__ == '__main__':\n    sys.argv[0] = re.sub("
    ++ codes "r'(-script\\.pyw?|\\.exe)?$', '', sys.argv[0])\n    sys.exit(" ++ func
    ++ codes "())\n"

abbrev pub script : List ℕ → EntryPoint → List ℕ
script prefix entry = text_of prefix entry.«module» (imported entry.func) entry.func
