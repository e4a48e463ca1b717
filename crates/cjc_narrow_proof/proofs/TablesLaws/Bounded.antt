-- Operands lie where their rules say, where a range table passes.
use Rattle.std.proofs.Common.{◌≡◌, ◌⊎◌, ℕ, slice_get, Some, ◌≤ℤ◌, ◌<ℤ◌, inl, inr, arith}
use Rattle.std.proofs.lemmas.Int.{ints}
use Rattle.cjc_range.specs.Span.{Span, Within}
use Rattle.cjc_range.proofs.Order.{le_cases}
use Rattle.cjc_code.specs.declared.insn.JInsn.{JInsn}
use Rattle.cjc_types.specs.Fixpoint.Tables.{HasRow}
use Rattle.cjc_types.specs.declared.state.State.{State}
use Rattle.cjc_types.specs.Search.{cells_of}
use Rattle.cjc_intervals.specs.Frames.{RangeState, spans_of}
use Rattle.cjc_intervals.specs.Steps.{operand}
use Rattle.cjc_intervals.specs.Bounds.{Bounds}
use Rattle.cjc_intervals.specs.Tables.{Passes}
use Rattle.cjc_narrow_proof.specs.Tables.Analysis.{Found}

within_or_not : (s t : Span) → Within s t ⊎ (Within s t → ⊥)
within_or_not s t = go (le_cases t.low s.low) (le_cases s.high t.high)
  where
    go : ((t.low ≤ℤ s.low) ⊎ (s.low <ℤ t.low)) → ((s.high ≤ℤ t.high) ⊎ (t.high <ℤ s.high)) → Within s t
        ⊎ (Within s t → ⊥)
    go (inl a) (inl b) = inl (record { low = a; high = b })
    go (inl a) (inr b) = inr (λ h. (let c = h.high in omega (arith, ints, b, c)))
    go (inr a) b = inr (λ h. (let c = h.low in omega (arith, ints, a, c)))

pub lies : (f : Found) → Passes f.body f.types f.ranges → (at : ℕ) (i : JInsn) (t : State) (x : RangeState)
    → slice_get f.body.insns at ≡ Some i → HasRow f.types at t → HasRow f.ranges at x → (rule k : ℕ) (s : Span)
    → Bounds f.body i.op (cells_of t.stack) rule k s → Within (operand (spans_of x.stack) k) s
lies f passes at i t x there row ranged rule k s bounds = go (within_or_not (operand (spans_of x.stack) k) s)
  where
    go : Within (operand (spans_of x.stack) k) s ⊎ (Within (operand (spans_of x.stack) k) s → ⊥)
        → Within (operand (spans_of x.stack) k) s
    go (inl h) = h
    go (inr h) = absurd (passes at rule (record {
      insn = i;
      is_insn = there;
      typed = t;
      has_types = row;
      ranged = x;
      has_ranges = ranged;
      k = k;
      bound = s;
      bounds = bounds;
      outside = h;
    }))
