-- Distances between labels of a layout.
use Rattle.std.proofs.Common.{◌≡◌, ℕ, zero, suc, ◌+◌, ◌-◌, ◌<◌, ◌≤◌, sym, ap, subst, ⊎_elim, arith, Bool, true, false}
use Rattle.std.proofs.Common.{List, [], ◌∷◌, pos, negsuc}
use Rattle.std.specs.Prelude.{nat_le, if◌then◌else◌}
use Rattle.std.proofs.lemmas.Bool.{cases_lt}
use Rattle.std.proofs.lemmas.Bool.Decides.{nat_tests}
use Rattle.cjc_layout.specs.CapRead.Decode.{IsWithin, positive, negative}
use Rattle.cjc_ncode.specs.declared.narrow.NInsn.{NInsn}
use Rattle.cjc_ncode.specs.Lowering.Laid.{distance}
use Rattle.cjc_layout.specs.Legal.{is_near}
use Rattle.cjc_layout.specs.Sizes.{bytes_before, code_size}

-- no label is behind the end
pub before_end : (insns : List NInsn) (wide : List Bool) (k : ℕ) → bytes_before insns wide k ≤ code_size insns wide
before_end insns wide zero = omega arith
before_end [] wide (suc k) = omega arith
before_end (i ∷ insns) [] (suc k) = omega arith
before_end (i ∷ insns) (w ∷ wide) (suc k) = let rest = before_end insns wide k in omega (arith, rest)

forwards : (x y : ℕ) → x ≤ y → distance x y ≡ pos (y - x)
forwards x y le = let e : nat_le x y ≡ true = grind (arith, nat_tests) in ap (λ b. if b then pos (y - x)
    else negsuc (x - suc y)) e

backwards : (x y : ℕ) → y < x → distance x y ≡ negsuc (x - suc y)
backwards x y lt = let e : nat_le x y ≡ false = grind (arith, nat_tests) in ap (λ b. if b then pos (y - x)
    else negsuc (x - suc y)) e

-- a distance of no more than the half of what its operand can say
within : (half x y : ℕ) → y < x + half → x ≤ y + half → IsWithin half (distance x y)
within half x y up down = ⊎_elim
    (λ lt. subst (IsWithin half) (sym (backwards x y lt)) (negative (omega arith)))
    (λ le. subst (IsWithin half) (sym (forwards x y le)) (positive (omega arith)))
    (cases_lt y x)

pub near_within : (x y : ℕ) → is_near x y ≡ true → IsWithin 128 (distance x y)
near_within x y e = within 128 x y (grind (arith, nat_tests)) (grind (arith, nat_tests))

pub far_within : (x y : ℕ) → x ≤ 32767 → y ≤ 32767 → IsWithin 32768 (distance x y)
far_within x y a b = within 32768 x y (omega arith) (omega arith)
