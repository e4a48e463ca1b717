-- What conditional jumps and swap ask, by their opcodes and by what is not there.
use Rattle.std.proofs.Common.{◌≡◌, ℕ, ℤ, pos, negsuc, ◌-◌, ◌≤◌, ◌<ℤ◌, refl, ap, arith, List, [], ◌∷◌, Bool, true, false}
use Rattle.std.specs.Prelude.{nat_le, Option, slice_get}
use Rattle.std.proofs.lemmas.Bool.Decides.{nat_tests}
use Rattle.std.proofs.lemmas.Int.{ints}
use Rattle.cjc_script.specs.declared.value.Value.{Value}
use Rattle.cjc_jvm_semantics.specs.Arithmetic.{relation, condition, OfNumber, OfNumbers}
use Rattle.cjc_jvm_semantics.specs.Linked.{Linked, Method}
use Rattle.cjc_jvm_semantics.specs.Effects.{Effect, Go, Stick, Store, one_value, after_swap, entry_of, or_other}

pub condition_of_number : (op : ℕ) → 0x99 ≤ op → op ≤ 0x9E
    → condition op ≡ OfNumber (λ x. relation (op - 0x99) x (pos 0))
condition_of_number op a b =
    let e : nat_le 0x99 op ≡ true = grind (arith, nat_tests) in
    let f : nat_le op 0x9E ≡ true = grind (arith, nat_tests) in
    simp (e, f)

pub condition_of_numbers : (op : ℕ) → 0x9F ≤ op → op ≤ 0xA4 → condition op ≡ OfNumbers (relation (op - 0x9F))
condition_of_numbers op a b =
    let e : nat_le 0x99 op ≡ true = grind (arith, nat_tests) in
    let f : nat_le op 0x9E ≡ false = grind (arith, nat_tests) in
    let g : nat_le 0x9F op ≡ true = grind (arith, nat_tests) in
    let h : nat_le op 0xA4 ≡ true = grind (arith, nat_tests) in
    simp (e, f, g, h)

-- a stack without two values
pub swap_none : (l : Linked) (m : Method) (at : ℕ) (locals : List (Option Value)) (store : Store) (stack : List Value)
    → ((go : Value → Value → List Value → Effect) → one_value stack (λ b below. one_value below (go b)) ≡ Stick)
    → after_swap l m at locals store stack ≡ Stick
swap_none l m at locals store [] h = refl
swap_none l m at locals store (b ∷ []) h = refl
swap_none l m at locals store (b ∷ a ∷ rest) h = absurd (cc (h (λ x y more. Go 0 [] [] store)))

-- a number below the low value of a tableswitch, and one that is so far above
pub entry_below : (other : ℕ) (targets : List ℕ) (z : ℤ) → z <ℤ pos 0 → entry_of other targets z ≡ other
entry_below other targets (pos n) h = absurd (omega (arith, ints))
entry_below other targets (negsuc n) h = refl

pub entry_above : (other : ℕ) (targets : List ℕ) (z : ℤ) (n : ℕ) → z ≡ pos n → entry_of other targets z
    ≡ or_other other (slice_get targets n)
entry_above other targets z n e = ap (λ x. entry_of other targets x) e
