-- The physical lines of a script, one behind the other, and the first bad one.
use Rattle.std.proofs.Common.{◌≡◌, ℕ, ◌+◌, ◌⊎◌, inl, inr, Bool, true, false, List, [], ◌∷◌, ◌++◌, length, refl, sym, ap, ◌∙◌, arith}
use Rattle.std.specs.Prelude.{Option, None, Some, Ok, Err, if◌then◌else◌, nat_lt, position}
use Rattle.conda_base.specs.Reads.{Read, ◌>>=◌}
use Rattle.conda_base.specs.Signs.{space}
use Rattle.conda_base.specs.Texts.{is_empty}
use Rattle.conda_words.specs.Reading.{Fault, command_read}
use Rattle.conda_words.specs.Scripts.{is_passed, judged, parted, with_fields, with_line, with_lines, with_reading, with_session}
use Rattle.conda_words.specs.Values.{number_in}
use Rattle.conda_words.specs.declared.error.Why.{Why}
use Rattle.conda_words.specs.declared.error.Why.TheVariants as whys
use Rattle.conda_words.specs.declared.reading.Reading.{Reading}
use Rattle.conda_words.specs.declared.script.Script.{Script}
use Rattle.conda_words.proofs.ReadingLemmas.{SecondErr, bind_err, bind_ok}

-- ---- a fault of a line stands at its number

err_place : {A : Type 0} (n m : ℕ) (w why : Why) → (let r : Read A Fault = Err (n, w) in r) ≡ Err (m, why) → m ≡ n
err_place {A} n m w why e =
    let first : Fault → ℕ = λ f. f.0 in
    ap first (err_fault (n, w) (m, why) e)
  where
    err_fault : (f g : Fault) → (let r : Read A Fault = Err f in r) ≡ Err g → g ≡ f
    err_fault f g e = cc

judged_place : (n : ℕ) (blank : Option ℕ) (r : Read Reading Fault) (m : ℕ) (why : Why) → judged n blank r ≡ Err (m, why) → m ≡ n
judged_place n None (Ok reading) m why e = cc
judged_place n (Some blank) (Ok reading) m why e = err_place n m whys.Unknown why e
judged_place n None (Err fault) m why e = err_place n m fault.1 why e
judged_place n (Some blank) (Err fault) m why e = err_place n m (if nat_lt fault.0 blank then fault.1 else whys.Unknown) why e

placed : (n session : ℕ) (script : Script) (line : Read Reading Fault) (m : ℕ) (why : Why) → (line ≡ Err (m, why) → m ≡ n)
    → (line >>= (λ r. Ok (with_reading n session script r))) ≡ Err (m, why) → m ≡ n
placed n session script (Ok reading) m why same e = cc
placed n session script (Err fault) m why same e = same (err_err fault (m, why) e)
  where
    err_err : (f g : Fault) → (let r : Read Script Fault = Err f in r) ≡ Err g → (let r : Read Reading Fault = Err f in r) ≡ Err g
    err_err f g e = cc

session_place : (n : ℕ) (script : Script) (words : List (List ℕ)) (session : Option ℕ) (m : ℕ) (why : Why)
    → with_session n script words session ≡ Err (m, why) → m ≡ n
session_place n script words None m why e = err_place n m whys.Number why e
session_place n script words (Some session) m why e =
    placed n session script (judged n (position is_empty words) (command_read (Some n) script.known script.nested words)) m why
    (judged_place n (position is_empty words) (command_read (Some n) script.known script.nested words) m why) e

fields_place : (n : ℕ) (script : Script) (fields : List (List ℕ)) (m : ℕ) (why : Why) → with_fields n script fields ≡ Err (m, why) → m ≡ n
unfolding with_fields
fields_place n script [] m why e = err_place n m whys.Missing why e
fields_place n script (session ∷ words) m why e = session_place n script words (number_in 0 15 session) m why e

either_place : (late passed : Bool) (n : ℕ) (script : Script) (fields : List (List ℕ)) (m : ℕ) (why : Why)
    → (if late then Err (n, whys.Limit) else if passed then Ok script else with_fields n script fields) ≡ Err (m, why) → m ≡ n
either_place true passed n script fields m why e = err_place n m whys.Limit why e
either_place false true n script fields m why e = cc
either_place false false n script fields m why e = fields_place n script fields m why e

line_place : (n : ℕ) (script : Script) (line : List ℕ) (m : ℕ) (why : Why) → with_line n script line ≡ Err (m, why) → m ≡ n
line_place n script line m why e = either_place (nat_lt 10000 n) (is_passed line) n script (parted space line) m why e

-- ---- lines

pub record BadFrom (k : ℕ) (script : Script) (lines : List (List ℕ)) (n : ℕ) (why : Why) : Type 0 where
  pub front : List (List ℕ)
  pub line : List ℕ
  pub behind : List (List ℕ)
  pub before : Script
  pub split : lines ≡ front ++ line ∷ behind
  pub right : with_lines k script front ≡ Ok before
  pub place : n ≡ k + length front
  pub wrong : with_line n before line ≡ Err (n, why)

pub lines_bad : (k : ℕ) (script : Script) (lines : List (List ℕ)) (n : ℕ) (why : Why) → with_lines k script lines ≡ Err (n, why)
    → BadFrom k script lines n why
lines_bad k script [] n why h = cc
lines_bad k script (line ∷ lines) n why h =
    by (bind_err (with_line k script line) (λ next. with_lines (k + 1) next lines) (n, why) h) (λ next. lines_bad (k + 1) next lines n why)
  where
    by : (with_line k script line ≡ Err (n, why)) ⊎ SecondErr (with_line k script line) (λ next. with_lines (k + 1) next lines) (n, why)
        → ((next : Script) → with_lines (k + 1) next lines ≡ Err (n, why) → BadFrom (k + 1) next lines n why)
        → BadFrom k script (line ∷ lines) n why
    by (inl e) rest =
        let same = line_place k script line n why e in record {
          front = [];
          line = line;
          behind = lines;
          before = script;
          split = refl;
          right = refl;
          place = grind (arith, same);
          wrong = ap (λ m. with_line m script line) same ∙ e;
        }
    by (inr s) rest =
        let more = rest s.value s.second in record {
          front = line ∷ more.front;
          line = more.line;
          behind = more.behind;
          before = more.before;
          split = ap (λ l. line ∷ l) more.split;
          right = ap (λ m. m >>= (λ next. with_lines (k + 1) next more.front)) s.first ∙ more.right;
          place = grind (arith, more.place);
          wrong = more.wrong;
        }

ok_same : (x y : Script) → (let m : Read Script Fault = Ok x in m) ≡ Ok y → x ≡ y
ok_same x y e = cc

pub bad_lines : (k : ℕ) (script : Script) (front : List (List ℕ)) (line : List ℕ) (behind : List (List ℕ)) (before : Script) (n : ℕ)
    (f : Fault) → with_lines k script front ≡ Ok before → n ≡ k + length front → with_line n before line ≡ Err f
    → with_lines k script (front ++ line ∷ behind) ≡ Err f
bad_lines k script [] line behind before n f right place wrong =
    let here : n ≡ k = grind (arith, place) in
    ap (λ m. m >>= (λ next. with_lines (k + 1) next behind))
    (ap (λ x. with_line k x line) (ok_same script before right) ∙ ap (λ m. with_line m before line) (sym here) ∙ wrong)
bad_lines k script (l ∷ front) line behind before n f right place wrong =
    let parts = bind_ok (with_line k script l) (λ next. with_lines (k + 1) next front) before right in
    let there : n ≡ k + 1 + length front = grind (arith, place) in
    ap (λ m. m >>= (λ next. with_lines (k + 1) next (front ++ line ∷ behind))) parts.first
    ∙ bad_lines (k + 1) parts.value front line behind before n f parts.second there wrong
