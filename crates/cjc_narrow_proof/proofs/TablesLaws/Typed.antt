-- What a row of a type table says of its instruction, where no rule is broken.
use Rattle.std.proofs.Common.{◌≡◌, ℕ, zero, suc, ◌+◌, ◌≤◌, ◌<◌, Bool, true, false, not, ◌&&◌, ◌||◌, nat_lt, List, []}
use Rattle.std.proofs.Common.{◌∷◌, length, refl, sym, subst, arith}
use Rattle.std.proofs.lemmas.Bool.Decides.{nat_tests}
use Rattle.std.proofs.lemmas.Bool.{or_parts, false_from_ne_true}
use Rattle.cjc_code.specs.declared.insn.JOp.{JOp}
use Rattle.cjc_world.specs.Classes.{Class}
use Rattle.cjc_types.specs.declared.cell.Cell.{Cell}
use Rattle.cjc_types.specs.declared.state.Stack.TheVariants as stacks
use Rattle.cjc_types.specs.declared.state.State.{State}
use Rattle.cjc_types.specs.Steps.{operand, takes, stack_behind}
use Rattle.cjc_types.specs.Flow.{Body}
use Rattle.cjc_types.specs.Rules.{accepts, has_wrong, has_wrong_local, is_wrong_return, is_wrong, is_off, Breaks, wrong}
use Rattle.cjc_types.specs.Rules.{off}
use Rattle.cjc_types.specs.Search.{cells_of}

pub record IsTypedRow (w : List Class) (b : Body) (op : JOp) (t : State) : Type 0 where
  pub there : takes op ≤ length (cells_of t.stack)
  pub operands : (k : ℕ) → k < takes op → accepts w b op k (operand (cells_of t.stack) k) ≡ true
  pub local : has_wrong_local op t.locals ≡ false
  pub result : is_wrong_return b op ≡ false
  pub room : length (cells_of t.stack) ≤ b.max_stack
  pub room_behind : length (stack_behind op t.locals (cells_of t.stack)) ≤ b.max_stack

none_of : (a b c : Bool) → (a || b || c) ≡ false → (a ≡ false) × ((b ≡ false) × (c ≡ false))
none_of true b c e = absurd cc
none_of false true c e = absurd cc
none_of false false c e = (refl, (refl, e))

right_where : (a b : Bool) → (a && not b) ≡ false → a ≡ true → b ≡ true
right_where true true e h = refl
right_where true false e h = cc
right_where false b e h = cc

-- from the k-th operand on
accepted : (w : List Class) (b : Body) (op : JOp) (count k : ℕ) (xs : List Cell) → has_wrong w b op count k xs ≡ false
    → (j : ℕ) → j < length xs → k + j < count → accepts w b op (k + j) (operand xs j) ≡ true
accepted w b op count k [] e j few lt = absurd (omega (arith, few))
accepted w b op count k (x ∷ xs) e zero few lt =
    let here = or_parts (nat_lt k count && not (accepts w b op k x)) (has_wrong w b op count (k + 1) xs) e in
    let low : nat_lt k count ≡ true = grind (arith, nat_tests, lt) in
    let same : k ≡ k + 0 = omega arith in
    subst (λ n. accepts w b op n x ≡ true) same (right_where (nat_lt k count) (accepts w b op k x) here.0 low)
accepted w b op count k (x ∷ xs) e (suc j) few lt =
    let here = or_parts (nat_lt k count && not (accepts w b op k x)) (has_wrong w b op count (k + 1) xs) e in
    let same : k + 1 + j ≡ k + suc j = omega arith in
    subst (λ n. accepts w b op n (operand xs j) ≡ true) same (accepted w b op count (k + 1) xs here.1 j (omega (
      arith,
      few,
    )) (omega (arith, lt)))

pub typed_row : (w : List Class) (b : Body) (op : JOp) (t : State) → t.stack ≡ stacks.Cells (cells_of t.stack)
    → ((rule : ℕ) → Breaks w b op t rule → ⊥) → IsTypedRow w b op t
typed_row w b op t is unbroken =
    let s = cells_of t.stack in
    let whole : (rule : ℕ) → Breaks w b op (record { stack = stacks.Cells s; locals = t.locals }) rule
    → ⊥ = λ rule breaks. unbroken rule (subst (λ x. Breaks w b op (record { stack = x; locals = t.locals }) rule)
    (sym is) breaks) in
    let right = false_from_ne_true (is_wrong w b op t.locals s) (λ e. whole 502 (wrong s t.locals e)) in
    let fits = false_from_ne_true (is_off b op t.locals s) (λ e. whole 503 (off s t.locals e)) in
    let first = none_of (has_wrong w b op (takes op) 0 s) (has_wrong_local op t.locals) (is_wrong_return b op) right in
    let second = first.1 in
    let high = none_of (nat_lt (length s) (takes op)) (nat_lt b.max_stack (length s))
    (nat_lt b.max_stack (length (stack_behind op t.locals s))) fits in
    let low = high.1 in
    let there = enough (length s) (takes op) high.0 in
    record {
      there = there;
      operands = λ k lt. of_zero k (accepted w b op (takes op) 0 s first.0 k (omega (arith, there, lt)) (omega (
        arith,
        lt,
      )));
      local = second.0;
      result = second.1;
      room = enough b.max_stack (length s) low.0;
      room_behind = enough b.max_stack (length (stack_behind op t.locals s)) low.1;
    }
  where
    enough : (a b : ℕ) → nat_lt a b ≡ false → b ≤ a
    enough a b e = grind (arith, nat_tests, e)

    of_zero : (k : ℕ) → accepts w b op (0 + k) (operand (cells_of t.stack) k) ≡ true
        → accepts w b op k (operand (cells_of t.stack) k) ≡ true
    of_zero k h = let same : 0 + k ≡ k = omega arith in subst (λ n. accepts w b op n (operand (cells_of t.stack) k)
        ≡ true) same h
