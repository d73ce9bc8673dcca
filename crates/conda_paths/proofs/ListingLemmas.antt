-- Rows read one after another, and the paths that stood before.
use Rattle.std.specs.Prelude.{◌≡◌, ℕ, ◌+◌, Bool, true, false, ◌||◌, cond, List, [], ◌∷◌, ◌++◌, map, Result, Ok, Err, IfOk}
use Rattle.std.proofs.Common.{refl, ap, sym, ◌∙◌}
use Rattle.std.proofs.lemmas.List.{append_assoc, map-append}
use Rattle.std.proofs.lemmas.List.Folds.{list_any-append}
use Rattle.std.specs.List.{list_any}
use Rattle.std.specs.BTreeSet.{BTreeSet, Updates, contains}
use Rattle.std.specs.Cmp.Lexicographic.{nat_list_eq_equiv, slice_cmp, texts_ties}
use Rattle.std.specs.Ordering.{nat_cmp}
use Rattle.serde_json.specs.Data.{Data, Items, item}
use Rattle.conda_base.specs.Reads.{Read, ◌>>=◌}
use Rattle.conda_base.specs.Texts.{is_text}
use Rattle.conda_json.specs.Fields.{read_on}
use Rattle.conda_paths.specs.Listings.{HasPaths, in_row, row_path, row_read, rows_read}
use Rattle.conda_paths.specs.declared.error.ListingWhy.{ListingWhy}
use Rattle.conda_paths.specs.declared.row.Row.{Row}

among : (b x y : Bool) → x ≡ y → cond b true x ≡ (y || (b || false))
among true x true same = refl
among true x false same = refl
among false x true same = same
among false x false same = same

-- a set of paths with one more
pub one_path : (old new : BTreeSet (List ℕ)) (key : List ℕ) (before : List (List ℕ)) → HasPaths old before
    → Updates (slice_cmp nat_cmp) old new key true → HasPaths new (before ++ key ∷ [])
one_path old new key before has updates = λ path.
    updates.0 path
    ∙ ap (λ b. cond b true (contains (slice_cmp nat_cmp) old path)) (sym (texts_ties key path) ∙ nat_list_eq_equiv.symm key path)
    ∙ among (is_text path key) (contains (slice_cmp nat_cmp) old path) (list_any (is_text path) before) (has path)
    ∙ sym (list_any-append (is_text path) before (key ∷ []))

-- what is said of a row's path
pub path_is : {E : Type 0} (P : List ℕ → Type 0) (path : List ℕ) (r : Result Row E) → IfOk r (λ row. row.path ≡ path) → P path → IfOk r (λ row. P row.path)
path_is P path (Ok row) same holds = rw same holds
path_is P path (Err e) same holds = tt

behind : {Fault : Type 0} (rows : List Row) (row : Row) (rest : Read (List Row) Fault)
    → read_on rows (rest >>= (λ more. Ok (row ∷ more))) ≡ read_on (rows ++ row ∷ []) rest
behind rows row (Ok more) = ap Ok (sym (append_assoc rows (row ∷ []) more))
behind rows row (Err fault) = refl

-- a row that is read stands behind those before
pub one_more : (rows : List Row) (at : ℕ) (value : Data) (rest : Items) (row : Row) → row_read (map row_path rows) value ≡ Ok row
    → read_on rows (rows_read (map row_path rows) at (item value rest))
    ≡ read_on (rows ++ row ∷ []) (rows_read (map row_path (rows ++ row ∷ [])) (at + 1) rest)
one_more rows at value rest row is =
    ap (λ r. read_on rows (in_row at r >>= (λ row. rows_read (map row_path rows ++ row.path ∷ []) (at + 1) rest >>= (λ more. Ok (row ∷ more))))) is
    ∙ behind rows row (rows_read (map row_path rows ++ row.path ∷ []) (at + 1) rest)
    ∙ ap (λ paths. read_on (rows ++ row ∷ []) (rows_read paths (at + 1) rest)) (sym (map-append row_path rows (row ∷ [])))

-- a bad row is what is wrong with the list
pub ended : (rows : List Row) (at : ℕ) (value : Data) (rest : Items) (why : ListingWhy) → row_read (map row_path rows) value ≡ Err why
    → read_on rows (rows_read (map row_path rows) at (item value rest)) ≡ Err (at, why)
ended rows at value rest why is =
    ap (λ r. read_on rows (in_row at r >>= (λ row. rows_read (map row_path rows ++ row.path ∷ []) (at + 1) rest >>= (λ more. Ok (row ∷ more))))) is
