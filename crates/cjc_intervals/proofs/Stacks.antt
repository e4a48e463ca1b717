-- Intervals, and states of them, form orders with joins.
use Rattle.std.proofs.Common.{ℕ, refl, arith}
use Rattle.cjc_range.proofs.Order.{within_refl, within_trans, width_up, width_rises, width_small, join_left, join_right}
use Rattle.cjc_range.proofs.Order.{join_least, join_word}
use Rattle.cjc_fixpoint.specs.Lattice.{IsLattice, lists_of}
use Rattle.cjc_fixpoint.proofs.Lattices.{lists_lattice, parts_lattice}
use Rattle.cjc_types.specs.Working.StackLaws.{stack_lattice}
use Rattle.cjc_intervals.specs.Frames.{spans, stacks_of, RangeState, states}

pub span_lattice : IsLattice spans
span_lattice = record {
  reflexive = λ s own. within_refl s;
  transitive = λ s t u own_s own_t own_u h k. within_trans s t u h k;
  own_join = join_word;
  above_left = λ s t own_s own_t. join_left s t;
  above_right = λ s t own_s own_t. join_right s t;
  least = λ s t u own_s own_t own_u h k. join_least s t u h k;
  ranked = λ s t own_s own_t h. width_up s t own_s h;
  rises = λ s t own_s own_t h l. width_rises s t own_s h l;
  bounded = λ s own. (let w = width_small s own in omega (arith, w));
}

pub state_lattice : (max_locals : ℕ) → IsLattice (states max_locals)
state_lattice max_locals = parts_lattice (stacks_of spans) (lists_of spans max_locals) (λ (s : RangeState). s.stack)
    (λ (s : RangeState). s.locals) (λ stack locals. record { stack = stack; locals = locals })
    (stack_lattice spans span_lattice) (lists_lattice spans span_lattice max_locals) (λ a b. refl) (λ a b. refl)
