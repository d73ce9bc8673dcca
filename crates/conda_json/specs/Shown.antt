-- What the value that is read shows of the reading: laws for those who tie a reader to a grammar.
use Rattle.std.specs.Prelude.{◌≡◌, Bool, true, false, if◌then◌else◌, Option, None, Some, option_and_then, Ok, Err, refl}
use Rattle.std.specs.Option.{ok_or}
use Rattle.conda_base.specs.Reads.{Read, ◌>>=◌, unless}
use Rattle.conda_json.specs.Fields.{or_fault}

-- equal answers have equal values
abbrev pub as_read : (A F : Type 0) → A → Read A F
as_read A F x = Ok x

pub same : {A F : Type 0} (x y : A) → as_read A F x ≡ as_read A F y → x ≡ y
same x y e = cc e

pub same_some : {A : Type 0} (x y : A) → Some x ≡ Some y → x ≡ y
same_some x y e = cc e

-- what is read next is read of a value that was read before
pub bound : {A B F : Type 0} (r : Read A F) (next : A → Read B F) (y : B) → (r >>= next) ≡ Ok y → (x : A) × (r ≡ Ok x) × (next x ≡ Ok y)
bound (Ok x) next y e = (x, refl, e)
bound (Err fault) next y e = cc e

pub found : {A B : Type 0} (o : Option A) (next : A → Option B) (y : B) → option_and_then next o ≡ Some y → (x : A) × (o ≡ Some x) × (next x ≡ Some y)
found (Some x) next y e = (x, refl, e)
found None next y e = cc e

-- what had to be there was there
pub present : {A F : Type 0} (o : Option A) (fault : F) (x : A) → ok_or o fault ≡ Ok x → o ≡ Some x
present (Some y) fault x e = cc e
present None fault x e = cc e

-- there was no fault, whatever it would be called
pub cleared : {A Other F : Type 0} (r : Read A Other) (fault : F) (x : A) → or_fault r fault ≡ Ok x → r ≡ Ok x
cleared (Ok y) fault x e = cc e
cleared (Err other) fault x e = cc e

pub kept : {A F : Type 0} (fault : Option F) (x y : A) → unless fault x ≡ Ok y → x ≡ y
kept None x y e = cc e
kept (Some f) x y e = cc e

-- what had to be false was, and what had to be true
pub refused : {A F : Type 0} (b : Bool) (fault : F) (x y : A) → (if b then Err fault else Ok x) ≡ Ok y → (b ≡ false) × (x ≡ y)
refused true fault x y e = cc e
refused false fault x y e = (refl, cc e)

pub guarded : {A F : Type 0} (b : Bool) (r : Read A F) (fault : F) (y : A) → (if b then r else Err fault) ≡ Ok y → (b ≡ true) × (r ≡ Ok y)
guarded true r fault y e = (refl, e)
guarded false r fault y e = cc e
