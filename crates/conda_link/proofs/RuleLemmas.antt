-- What is read as a link file is one, each link file is read, and a path that lies in no named folder stays.
use Rattle.std.specs.Prelude.{◌≡◌, ◌≢◌, ◌↔◌, ℕ, ◌+◌, Bool, true, false, ◌&&◌, ◌⊎◌, if◌then◌else◌, List, [], ◌∷◌, ◌++◌, codes, Option, None, Some, option_and_then, Ok, Err}
use Rattle.std.proofs.Common.{inl, inr, refl, ap, sym, ◌∙◌, subst}
use Rattle.std.proofs.lemmas.Bool.Decides.{Decides-eqb}
use Rattle.std.proofs.lemmas.Slice.Eq.{slice_eq-Decides}
use Rattle.std.specs.Bool.{Decides}
use Rattle.std.specs.Option.{ok_or, option_map_or}
use Rattle.serde_json.specs.Data.{Data, Items, no_items, item}
use Rattle.serde_json.specs.Find.{as_str}
use Rattle.conda_base.specs.Reads.{Read, ◌>>=◌}
use Rattle.conda_base.specs.Signs.{colon, equals, slash}
use Rattle.conda_base.specs.Texts.{cut_first, cut_last, is_text, IsFreeOf}
use Rattle.conda_version.specs.Text.{trimmed}
use Rattle.conda_json.specs.Fields.{each_from, optional}
use Rattle.conda_json.specs.Json.{inner_at, list_at}
use Rattle.conda_json.specs.Shown.{bound, found, present, same, same_some}
use Rattle.conda_json.specs.declared.optional.Null.{Null}
use Rattle.conda_link.specs.Links.{element_entry, entry_of, entry_read, is_command, is_name, listed_entries, made_entry, named_parts, noarch_read, parts_of}
use Rattle.conda_link.specs.Places.{placed, placed_part}
use Rattle.conda_link.specs.Rules.{AreEntries, IsEntry, IsLinkFile}
use Rattle.conda_link.specs.declared.info.EntryPoint.{EntryPoint}

-- what a cut at the last such byte is, and at the first
abbrev pub LastCut : Type 0
LastCut = (mark : ℕ) (text before behind : List ℕ) → (cut_last mark text ≡ Some (before, behind)) ↔ ((text ≡ before ++ mark ∷ behind) × IsFreeOf mark behind)

abbrev pub FirstCut : Type 0
FirstCut = (mark : ℕ) (text before behind : List ℕ) → (cut_first mark text ≡ Some (before, behind)) ↔ ((text ≡ before ++ mark ∷ behind) × IsFreeOf mark before)

-- ---- an entry point

all_true : (a b c : Bool) (x y : EntryPoint) → (if a && b && c then Some x else None) ≡ Some y → (a ≡ true) × (b ≡ true) × (c ≡ true) × (x ≡ y)
all_true true true true x y e = (refl, refl, refl, same_some x y e)
all_true true true false x y e = cc e
all_true true false c x y e = cc e
all_true false b c x y e = cc e

true_all : (a b c : Bool) (x : EntryPoint) → a ≡ true → b ≡ true → c ≡ true → (if a && b && c then Some x else None) ≡ Some x
true_all a b c x p q r = rw p (rw q (rw r refl))

abbrev entry_with : List ℕ → List ℕ → List ℕ → EntryPoint
entry_with command source func = record { command = command; «module» = source; func = func }

abbrev behind_colon : List ℕ × List ℕ → Option (List ℕ × List ℕ × List ℕ)
behind_colon halves = option_and_then (λ front. Some (named_parts halves.1 front)) (cut_last equals halves.0)

abbrev of_parts : List ℕ × List ℕ × List ℕ → Option EntryPoint
of_parts parts = made_entry parts.0 parts.1 parts.2

entry_ok : LastCut → (text : List ℕ) (entry : EntryPoint) → entry_of text ≡ Some entry → IsEntry text entry
entry_ok law text entry e =
    let a = found (parts_of text) of_parts entry e in
    let b = found (cut_last colon text) behind_colon a.0 a.1 in
    let c = found (cut_last equals b.0.0) (λ front. Some (named_parts b.0.1 front)) a.0 b.2 in
    let one = (law colon text b.0.0 b.0.1).0 b.1 in
    let two = (law equals b.0.0 c.0.0 c.0.1).0 c.1 in
    let made = subst (λ parts. of_parts parts ≡ Some entry) (sym (same_some (named_parts b.0.1 c.0) a.0 c.2)) a.2 in
    let t = all_true (is_command (trimmed c.0.0)) (is_name (trimmed c.0.1)) (is_name (trimmed b.0.1)) (entry_with (trimmed c.0.0) (trimmed c.0.1) (trimmed b.0.1)) entry made in
    subst (IsEntry text) t.3
    (record {
      command = c.0.0;
      source = c.0.1;
      func = b.0.1;
      spelled = one.0 ∙ ap (λ front. front ++ colon ∷ b.0.1) two.0;
      last_colon = one.1;
      last_equals = two.1;
      command_is = refl;
      module_is = refl;
      func_is = refl;
      good_command = t.0;
      good_module = t.1;
      good_func = t.2;
    })

entry_back : LastCut → (text : List ℕ) (entry : EntryPoint) → IsEntry text entry → entry_of text ≡ Some entry
entry_back law text entry h =
    ap (λ o. option_and_then of_parts (option_and_then behind_colon o)) ((law colon text (h.command ++ equals ∷ h.source) h.func).1 (h.spelled, h.last_colon))
    ∙ ap (λ o. option_and_then of_parts (option_and_then (λ front. Some (named_parts h.func front)) o)) ((law equals (h.command ++ equals ∷ h.source) h.command h.source).1 (refl, h.last_equals))
    ∙ ap (λ x. made_entry x (trimmed h.source) (trimmed h.func)) (sym h.command_is)
    ∙ ap (λ x. made_entry entry.command x (trimmed h.func)) (sym h.module_is)
    ∙ ap (made_entry entry.command entry.«module») (sym h.func_is)
    ∙ true_all (is_command entry.command) (is_name entry.«module») (is_name entry.func) entry h.good_command h.good_module h.good_func

pub entry_law : LastCut → (text : List ℕ) (entry : EntryPoint) → (entry_of text ≡ Some entry) ↔ IsEntry text entry
entry_law law text entry = (entry_ok law text entry, entry_back law text entry)

-- ---- the file

entries_ok : LastCut → (at : ℕ) (items : Items) (entries : List EntryPoint) → each_from at entry_read items ≡ Ok entries → AreEntries items entries
entries_ok law at no_items entries e = subst (AreEntries no_items) (same [] entries e) tt
entries_ok law at (item value rest) entries e =
    let a = bound (entry_read at value) (λ entry. each_from (at + 1) entry_read rest >>= (λ more. Ok (entry ∷ more))) entries e in
    let b = bound (each_from (at + 1) entry_read rest) (λ more. Ok (a.0 ∷ more)) entries a.2 in
    let text = found (as_str value) entry_of a.0 (present (element_entry value) at a.0 a.1) in
    subst (AreEntries (item value rest)) (same (a.0 ∷ b.0) entries b.2)
    ((text.0, text.1, entry_ok law text.0 a.0 text.2), entries_ok law (at + 1) rest b.0 b.1)

entries_back : LastCut → (at : ℕ) (items : Items) (entries : List EntryPoint) → AreEntries items entries → each_from at entry_read items ≡ Ok entries
entries_back law at no_items [] are = refl
entries_back law at no_items (entry ∷ entries) are = absurd are
entries_back law at (item value rest) [] are = absurd are
entries_back law at (item value rest) (entry ∷ entries) are =
    ap (λ o. ok_or (option_and_then entry_of o) at >>= (λ entry. each_from (at + 1) entry_read rest >>= (λ more. Ok (entry ∷ more)))) are.0.1
    ∙ ap (λ o. ok_or o at >>= (λ entry. each_from (at + 1) entry_read rest >>= (λ more. Ok (entry ∷ more)))) (entry_back law are.0.0 entry are.0.2)
    ∙ ap (λ r. r >>= (λ more. Ok (entry ∷ more))) (entries_back law (at + 1) rest entries are.1)

listed_ok : LastCut → (list : Read (Option Items) (List ℕ)) (entries : List EntryPoint) → listed_entries list ≡ Ok entries
    → ((list ≡ Ok None) × (entries ≡ [])) ⊎ ((elements : Items) × (list ≡ Ok (Some elements)) × AreEntries elements entries)
listed_ok law (Ok None) entries e = inl (refl, sym (same [] entries e))
listed_ok law (Ok (Some elements)) entries e = inr (elements, refl, entries_ok law 0 elements entries e)
listed_ok law (Err field) entries e = cc e

listed_back : LastCut → (list : Read (Option Items) (List ℕ)) (entries : List EntryPoint)
    → ((list ≡ Ok None) × (entries ≡ [])) ⊎ ((elements : Items) × (list ≡ Ok (Some elements)) × AreEntries elements entries)
    → listed_entries list ≡ Ok entries
listed_back law list entries (inl h) = ap listed_entries h.0 ∙ ap Ok (sym h.1)
listed_back law list entries (inr h) = ap listed_entries h.1 ∙ entries_back law 0 h.0 entries h.2

file_ok : LastCut → (value : Data) (entries : List EntryPoint) → noarch_read value ≡ Ok entries → IsLinkFile value entries
file_ok law value entries e =
    let a = bound (ok_or (inner_at value (codes "noarch")) 0) (λ noarch. listed_entries (optional list_at Null.Bad (codes "entry_points") noarch)) entries e in
    (a.0, present (inner_at value (codes "noarch")) 0 a.0 a.1, listed_ok law (optional list_at Null.Bad (codes "entry_points") a.0) entries a.2)

file_back : LastCut → (value : Data) (entries : List EntryPoint) → IsLinkFile value entries → noarch_read value ≡ Ok entries
file_back law value entries h =
    ap (λ o. ok_or o 0 >>= (λ noarch. listed_entries (optional list_at Null.Bad (codes "entry_points") noarch))) h.1
    ∙ listed_back law (optional list_at Null.Bad (codes "entry_points") h.0) entries h.2

pub file_law : LastCut → (value : Data) (entries : List EntryPoint) → (noarch_read value ≡ Ok entries) ↔ IsLinkFile value entries
file_law law value entries = (file_ok law value entries, file_back law value entries)

-- ---- places

same_text : (a b : List ℕ) → Decides (is_text a b) (a ≡ b)
same_text a b = slice_eq-Decides Decides-eqb a b (is_text a b) refl

neither : (a b : Bool) (x y z : List ℕ) → (a ≡ true → ⊥) → (b ≡ true → ⊥) → (if a then x else if b then y else z) ≡ z
neither true b x y z na nb = absurd (na refl)
neither false true x y z na nb = absurd (nb refl)
neither false false x y z na nb = refl

stays_at : FirstCut → (python path : List ℕ) (o : Option (List ℕ × List ℕ)) → cut_first slash path ≡ o
    → ((rest : List ℕ) → path ≢ codes "site-packages/" ++ rest) → ((rest : List ℕ) → path ≢ codes "python-scripts/" ++ rest)
    → option_map_or (placed_part python path) o path ≡ path
stays_at law python path None is site scripts = refl
stays_at law python path (Some halves) is site scripts =
    let whole = ((law slash path halves.0 halves.1).0 is).0 in
    neither (is_text halves.0 (codes "site-packages")) (is_text halves.0 (codes "python-scripts")) (codes "lib/python" ++ python ++ codes "/" ++ path) (codes "bin/" ++ halves.1) path
    (λ t. site halves.1 (whole ∙ ap (λ first. first ++ slash ∷ halves.1) ((same_text halves.0 (codes "site-packages")).0 t)))
    (λ t. scripts halves.1 (whole ∙ ap (λ first. first ++ slash ∷ halves.1) ((same_text halves.0 (codes "python-scripts")).0 t)))

pub stays : FirstCut → (python path : List ℕ) → ((rest : List ℕ) → path ≢ codes "site-packages/" ++ rest)
    → ((rest : List ℕ) → path ≢ codes "python-scripts/" ++ rest) → placed python path ≡ path
stays law python path site scripts = stays_at law python path (cut_first slash path) refl site scripts
