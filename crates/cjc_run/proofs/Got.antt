-- What was read where a plan is complete.
use Rattle.std.proofs.Common.{◌≡◌, ℕ, true, false, cond, List, length, nat_lt, Option, Some, None, refl}
use Rattle.cjc_shelf.specs.Shelf.{longest_file}
use Rattle.cjc_shelf.specs.Command.Plan.{Verdict, at_file, complete, too_long}

-- a file that the plan reads is there
pub at_got : {X : Type 0} (name : List ℕ) (next : List ℕ → Verdict X) (o : Option (List ℕ)) (x : X)
    → at_file name next o ≡ complete x
    → (bytes : List ℕ) × (o ≡ Some bytes) × (next bytes ≡ complete x)
at_got name next None x e = absurd cc
at_got {X} name next (Some bytes) x e =
    elim (nat_lt longest_file (length bytes)) as (λ b. cond b (too_long name) (next bytes) ≡ complete x → (bs : List ℕ)
    × (Some bytes ≡ Some bs) × (next bs ≡ complete x)) [
      | true ↦ λ h. absurd cc
      | false ↦ λ h. (bytes, refl, h)
    ] e

pub same_complete : {X : Type 0} (x y : X) → complete x ≡ complete y → x ≡ y
same_complete x y e = cc
