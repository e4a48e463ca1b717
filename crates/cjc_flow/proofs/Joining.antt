-- Where to join intervals changes nothing.
use Rattle.std.proofs.Common.{◌≡◌, ℕ, subst}
use Rattle.cjc_range.specs.Span.{Span, Within}
use Rattle.cjc_range.specs.Rows.{join_row}
use Rattle.cjc_range.proofs.Order.{within_refl, within_both, join_left, join_least}
use Rattle.cjc_intervals.specs.Frames.{RangeState, states}
use Rattle.cjc_intervals.proofs.Stacks.{state_lattice}

-- to join what lies inside changes nothing
pub join_same : (s t : Span) → Within t s → join_row s t ≡ s
join_same s t h = within_both (join_row s t) s (join_least s t s (within_refl s) h) (join_left s t)

pub above_from_same : (n : ℕ) (row state : RangeState) → (states n).Own row → (states n).Own state
    → (states n).join row state ≡ row → (states n).Below state row
above_from_same n row state own_row own same = subst (λ (s : RangeState). (states n).Below state s) same
    ((state_lattice n).above_right row state own_row own)
