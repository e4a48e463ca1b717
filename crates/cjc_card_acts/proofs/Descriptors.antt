-- Type descriptors one behind the other, and the one at an offset.
use Rattle.std.proofs.Common.{◌≡◌, ℕ, ◌+◌, ◌-◌, ◌<◌, ◌≤◌, ◌^◌, Bool, true, false, List, [], ◌∷◌, length, take, drop}
use Rattle.std.proofs.Common.{get_or}
use Rattle.std.proofs.Common.{sum_by, refl, sym, ap, ◌∙◌, arith, Option, Some, None, option_map, ◌==◌}
use Rattle.std.proofs.lemmas.List.Sums.{sum_by-cons}
use Rattle.std.proofs.lemmas.Slice.{between_to_end}
use Rattle.std.specs.Prelude.{if◌then◌else◌}
use Rattle.std.specs.List.{find}
use Rattle.cjc_check_rules.specs.CapRead.declared.tree.TypeDescriptor.{TypeDescriptor}
use Rattle.cjc_check_rules.specs.Complete.{type_size}
use Rattle.cjc_check_rules.specs.Spots.{Placed, item_at, placed}
use Rattle.cjc_check_rules.proofs.BytesNumbers.{number_same_number, other_number}

stands : (at offset : ℕ) (t : Bool) (x : TypeDescriptor) (xs : List TypeDescriptor) → (at == offset) ≡ t
    → item_at (placed type_size at (x ∷ xs)) offset ≡ (if t then Some x else item_at (placed type_size
    (at + type_size x)
    xs) offset)
unfolding placed
stands at offset true x xs is = ap (λ (t : Bool). option_map (λ (p : Placed TypeDescriptor). p.item)
    (if t then Some (record { at = at; item = x }) else find (λ p. p.at == offset) (placed type_size (at + type_size x)
    xs))) is
stands at offset false x xs is = ap (λ (t : Bool). option_map (λ (p : Placed TypeDescriptor). p.item)
    (if t then Some (record { at = at; item = x }) else find (λ p. p.at == offset) (placed type_size (at + type_size x)
    xs))) is

-- the first one stands at the offset
pub starts_here : (at offset : ℕ) (x : TypeDescriptor) (left : List TypeDescriptor) (all : Option TypeDescriptor)
    → 1 ≤ length left → x ≡ get_or left 0 x → at ≡ offset → item_at (placed type_size at left) offset ≡ all
    → Some x ≡ all
starts_here at offset x [] all some is here so_far = absurd (omega (arith, some))
starts_here at offset x (y ∷ ys) all some is here so_far =
    ap (λ (z : TypeDescriptor). Some z) is
    ∙ sym (stands at offset true y ys (number_same_number at offset here))
    ∙ so_far

-- the first one stands elsewhere
pub starts_later : (at next offset : ℕ) (x : TypeDescriptor) (left : List TypeDescriptor) (all : Option TypeDescriptor)
    → 1 ≤ length left → x ≡ get_or left 0 x → (at ≡ offset → ⊥) → next ≡ at + type_size x
    → item_at (placed type_size at left) offset ≡ all
    → item_at (placed type_size next (take (length left - 1) (drop 1 left))) offset ≡ all
starts_later at next offset x [] all some is other on so_far = absurd (omega (arith, some))
starts_later at next offset x (y ∷ ys) all some is other on so_far =
    ap (λ (ts : List TypeDescriptor). item_at (placed type_size next ts) offset) (between_to_end (y ∷ ys) 1
    (length (y ∷ ys)) (omega arith))
    ∙ ap (λ (n : ℕ). item_at (placed type_size n ys) offset) (on ∙ ap (λ (z : TypeDescriptor). at + type_size z) is)
    ∙ sym (stands at offset false y ys (other_number at offset other))
    ∙ so_far

add_up : (at next size some rest all : ℕ) → next ≡ at + size → rest ≡ some → all ≡ size + some → at + all < 2 ^ 32
    → next + rest < 2 ^ 32
add_up at next size some rest all on same is small = omega arith

-- and the others have few bytes
pub still_small : (at next : ℕ) (x : TypeDescriptor) (left : List TypeDescriptor) → 1 ≤ length left → x
    ≡ get_or left 0 x
    → next ≡ at + type_size x → at + sum_by type_size left < 2 ^ 32
    → next + sum_by type_size (take (length left - 1) (drop 1 left)) < 2 ^ 32
still_small at next x [] some is on small = absurd (omega (arith, some))
still_small at next x (y ∷ ys) some is on small =
    let rest : sum_by type_size (take (length (y ∷ ys) - 1) (drop 1 (y ∷ ys))) ≡ sum_by type_size ys =
    ap (λ (ts : List TypeDescriptor). sum_by type_size ts) (between_to_end (y ∷ ys) 1 (length (y ∷ ys))
    (omega arith)) in
    add_up at next (type_size y) (sum_by type_size ys) (sum_by type_size (take (length (y ∷ ys) - 1) (drop 1 (y ∷ ys))))
    (sum_by type_size (y ∷ ys)) (on ∙ ap (λ (z : TypeDescriptor). at + type_size z) is) rest
    (sum_by-cons type_size y ys) small

-- none is left
pub nothing_left : (at offset : ℕ) (left : List TypeDescriptor) (all : Option TypeDescriptor) → length left < 1
    → item_at (placed type_size at left) offset ≡ all → None ≡ all
unfolding placed
nothing_left at offset [] all none so_far = so_far
nothing_left at offset (x ∷ xs) all none so_far = absurd (omega (arith, none))

-- a type descriptor that has few bytes has few nibbles
pub few_nibbles : (x : TypeDescriptor) (n : ℕ) → type_size x + n < 2 ^ 32 → length x.nibbles < 2 ^ 33
few_nibbles x n small = omega arith
