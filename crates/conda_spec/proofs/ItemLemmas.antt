-- Items in the brackets.
use Rattle.std.proofs.Common.{◌≡◌, ◌<◌, ◌+◌, ℕ, Bool, true, false, cond, length, List, [], ◌∷◌, take, drop, get_or, refl, sym, ap, ◌∙◌, arith, true≢false, suc, Option, Some, None, IfSome, Result, Ok, Err}
use Rattle.std.specs.List.{onto_first}
use Rattle.std.proofs.lemmas.Bool.{eqb-true}
use Rattle.conda_clause.specs.declared.error.SpecErr.{SpecErr}
use Rattle.conda_clause.specs.declared.error.SpecErr.TheVariants.{BadSpec, Memory}
use Rattle.conda_spec.specs.declared.given.Given.{Given}
use Rattle.conda_base.specs.Reads.{Gives, ◌>>=◌}
use Rattle.conda_clause.specs.Faults.{spec_fault_of}
use Rattle.conda_spec.specs.Reading.{SpecRead}
use Rattle.conda_spec.specs.Reading.{ends_item, item_end, item_read, items_of, items_read, quote_behind}

-- a refusal names its fault
abbrev pub Fails : {A : Type 0} → SpecErr → SpecRead A → Type 0
Fails e read = IfSome (spec_fault_of e) (λ fault. read ≡ Err fault)

-- where the first item ends

none_put : (at : ℕ) (found : Option ℕ) (v : Bool) → cond v (Some at) found ≡ None → (v ≡ false) × (found ≡ None)
none_put at found true h = absurd (cc)
none_put at found false h = (refl, h)

pub last_item : (at : ℕ) (quote : Option ℕ) (s : List ℕ) → item_end at quote s ≡ None → items_of quote s ≡ s ∷ []
last_item at quote [] h = refl
last_item at quote (b ∷ bs) h =
    let parts = none_put at (item_end (at + 1) (quote_behind quote b) bs) (ends_item quote b) h in
    ap (λ v. cond v ([] ∷ items_of None bs) (onto_first b (items_of (quote_behind quote b) bs))) parts.0
    ∙ ap (onto_first b) (last_item (at + 1) (quote_behind quote b) bs parts.1)

-- the first item, so many characters further on
pub record Ends (at : ℕ) (quote : Option ℕ) (s : List ℕ) (end : ℕ) : Type 0 where
  pub len : ℕ
  pub place : end ≡ at + len
  pub inside : len < length s
  pub comma : get_or s len 0 ≡ 44
  pub items : items_of quote s ≡ take len s ∷ items_of None (drop (len + 1) s)

pub comma_of : (quote : Option ℕ) (b : ℕ) → ends_item quote b ≡ true → b ≡ 44
comma_of None b h = eqb-true b 44 h
comma_of (Some q) b h = absurd (true≢false (sym h))

pub first_item : (at : ℕ) (quote : Option ℕ) (s : List ℕ) (end : ℕ) → item_end at quote s ≡ Some end → Ends at quote s end
first_item at quote [] end h = absurd (cc)
first_item at quote (b ∷ bs) end h = by (ends_item quote b) refl (first_item (at + 1) (quote_behind quote b) bs end)
  where
    some_same : (m n : ℕ) → Some m ≡ Some n → m ≡ n
    some_same m n e = cc

    by : (v : Bool) → ends_item quote b ≡ v
        → (item_end (at + 1) (quote_behind quote b) bs ≡ Some end → Ends (at + 1) (quote_behind quote b) bs end)
        → Ends at quote (b ∷ bs) end
    by true e more =
        let here : at ≡ end = some_same at end (sym (ap (λ v. cond v (Some at) (item_end (at + 1) (quote_behind quote b) bs)) e) ∙ h) in
        record {
          len = 0;
          place = omega (arith, here);
          inside = omega arith;
          comma = comma_of quote b e;
          items = ap (λ v. cond v ([] ∷ items_of None bs) (onto_first b (items_of (quote_behind quote b) bs))) e;
        }
    by false e more =
        let rest = more (sym (ap (λ v. cond v (Some at) (item_end (at + 1) (quote_behind quote b) bs)) e) ∙ h) in
        let step : suc (rest.len + 1) ≡ suc rest.len + 1 = omega arith in
        record {
          len = suc rest.len;
          place = omega (arith, rest.place);
          inside = omega (arith, rest.inside);
          comma = rest.comma;
          items =
              ap (λ v. cond v ([] ∷ items_of None bs) (onto_first b (items_of (quote_behind quote b) bs))) e
              ∙ ap (onto_first b) rest.items
              ∙ ap (λ n. (b ∷ take rest.len bs) ∷ items_of None (drop n (b ∷ bs))) step;
        }

-- items one after the other

pub items_fail : (e : SpecErr) (given : Given) (at : ℕ) (item : List ℕ) (items : List (List ℕ)) → Fails e (item_read given at item)
    → Fails e (items_read given at (item ∷ items))
unfolding items_read
items_fail (BadSpec place why) given at item items h = ap (λ r. r >>= λ next. items_read next (at + length item + 1) items) h
items_fail Memory given at item items h = tt

pub items_next : (given next : Given) (at : ℕ) (item : List ℕ) (items : List (List ℕ)) → item_read given at item ≡ Ok next
    → items_read given at (item ∷ items) ≡ items_read next (at + length item + 1) items
unfolding items_read
items_next given next at item items h = ap (λ r. r >>= λ next. items_read next (at + length item + 1) items) h

pub items_last : (r : Result Given SpecErr) (given : Given) (at : ℕ) (item : List ℕ) → Gives spec_fault_of r (item_read given at item)
    → Gives spec_fault_of r (items_read given at (item ∷ []))
unfolding items_read
items_last (Ok x) given at item h = ap (λ r. r >>= λ next. items_read next (at + length item + 1) []) h
items_last (Err e) given at item h = items_fail e given at item [] h
