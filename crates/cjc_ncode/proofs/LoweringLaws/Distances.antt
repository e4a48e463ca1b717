-- A jump by the distance from one place to another ends there.
use Rattle.std.proofs.Common.{◌≡◌, ℕ, suc, ◌+◌, ◌-◌, ◌<◌, ◌≤◌, ap, ◌∙◌, ⊎_elim, arith, true, false, pos, negsuc}
use Rattle.std.specs.Prelude.{nat_le, if◌then◌else◌}
use Rattle.std.proofs.lemmas.Bool.{cases_lt}
use Rattle.std.proofs.lemmas.Bool.Decides.{nat_tests}
use Rattle.cjc_card_semantics.specs.Machine.Operations.{moved}
use Rattle.cjc_ncode.specs.Lowering.Laid.{distance}

pub moved_distance : (at x : ℕ) → moved at (distance at x) ≡ x
moved_distance at x = ⊎_elim
    (λ lt. let e : nat_le at x ≡ false = grind (arith, nat_tests) in
    ap (λ t. moved at (if t then pos (x - at) else negsuc (at - suc x))) e ∙ back lt)
    (λ le. let e : nat_le at x ≡ true = grind (arith, nat_tests) in
    ap (λ t. moved at (if t then pos (x - at) else negsuc (at - suc x))) e ∙ forth le)
    (cases_lt x at)
  where
    back : x < at → at - suc (at - suc x) ≡ x
    back h = omega arith

    forth : at ≤ x → at + (x - at) ≡ x
    forth h = omega arith
