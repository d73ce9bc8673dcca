-- What was read of an input, and what it has left.
use Rattle.std.proofs.Common.{◌≡◌, ℕ, ◌<◌, ◌≤◌, List, [], ◌++◌, length, Option, Some, None, refl, sym, ap, ◌∙◌, arith, append_assoc, length-append}
use Rattle.std.specs.Prelude.{IfSome}
use Rattle.conda_dev.specs.Streams.{led_by}
use Rattle.conda_cli.specs.Refuting.{log_limit}

-- more was read
pub led_more : (xs ys : List ℕ) (before between now : Option (List ℕ)) → before ≡ led_by xs between → between ≡ led_by ys now
    → before ≡ led_by (xs ++ ys) now
led_more xs ys before between None h k = h ∙ ap (led_by xs) k
led_more xs ys before between (Some rest) h k = h ∙ ap (led_by xs) k ∙ ap Some (sym (append_assoc xs ys rest))

-- more than the limit was read
pub heard_long : (xs : List ℕ) (before between now : Option (List ℕ)) → before ≡ led_by xs between → log_limit < length xs
    → (text : List ℕ) × IfSome before (λ all. (text ≡ all) × (length text ≤ log_limit → now ≡ Some [])) × (log_limit < length text)
heard_long xs None between now h more = (xs, tt, more)
heard_long xs (Some all) None now h more = cc
heard_long xs (Some all) (Some rest) now h more =
    let whole : all ≡ xs ++ rest = cc in
    let long : log_limit < length all = omega (arith, ap length whole, length-append xs rest) in
    (all, (refl, λ short. absurd (omega arith)), long)
