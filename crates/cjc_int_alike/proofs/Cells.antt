-- Cells of stacks as tables tell them, as code in int mode asks them; and operands that lie where rules say.
use Rattle.std.proofs.Common.{◌≡◌, ◌⊎◌, ℕ, zero, suc, Bool, true, false, ◌&&◌, List, [], ◌∷◌, ◌++◌, map, take, drop}
use Rattle.std.proofs.Common.{slice_get, Some, inl, inr, refl, sym, ap, ◌∙◌, ◌≤ℤ◌, ◌<ℤ◌, arith, int_le}
use Rattle.std.proofs.lemmas.Int.{ints}
use Rattle.cjc_range.specs.Span.{Span, Within}
use Rattle.cjc_range.proofs.Order.{le_cases}
use Rattle.cjc_code.specs.declared.insn.JInsn.{JInsn}
use Rattle.cjc_script.specs.Sorts.{Shape}
use Rattle.cjc_types.specs.Fixpoint.Tables.{HasRow}
use Rattle.cjc_types.specs.declared.cell.Cell.{Cell}
use Rattle.cjc_types.specs.declared.cell.Cell.TheVariants.{Number, Refs, Unusable}
use Rattle.cjc_types.specs.declared.state.State.{State}
use Rattle.cjc_types.specs.Rules.{is_reference}
use Rattle.cjc_types.specs.Search.{cells_of}
use Rattle.cjc_intervals.specs.Bounds.{Bounds}
use Rattle.cjc_intervals.specs.Frames.{RangeState, spans_of}
use Rattle.cjc_intervals.specs.Steps.{operand}
use Rattle.cjc_flow.specs.Tests.Breaches.{NoBreach, lies_in}
use Rattle.cjc_ncode.specs.ByLabel.{Named}
use Rattle.cjc_narrow_proof.specs.Selection.Relation.{Kind, Range, Refers, AllWider, none_wider, one_wider}
use Rattle.cjc_narrow_proof.specs.Selection.Relation.{more_numbers, more_types, number_free, reference_free, free_free}
use Rattle.cjc_narrow_proof.specs.Selection.Relation.{away}
use Rattle.cjc_narrow_proof.specs.Tables.Analysis.{Found}
use Rattle.cjc_narrow_proof.specs.Tables.Kinds.{kind_of_cell, kinds_from}
use Rattle.cjc_int_runs.specs.IntFrames.{StackWider, no_wider, wider_number, wider_reference}
use Rattle.cjc_int_runs.specs.Steps.{refers}

-- ---- stacks without an unusable cell

-- each cell is a number or a reference
pub data AllKnown : List Kind → Type 0 where
  none_known : AllKnown []
  a_number_known : {s : Span} {ks : List Kind} → AllKnown ks → AllKnown (Range s ∷ ks)
  a_reference_known : {within : Shape (List ℕ) → Bool} {ks : List Kind} → AllKnown ks → AllKnown (Refers within ∷ ks)

pub stack_wider : {ks js : List Kind} → AllWider ks js → AllKnown js → StackWider ks js
stack_wider none_wider none_known = no_wider
stack_wider (one_wider (more_numbers h) more) (a_number_known known) = wider_number h (stack_wider more known)
stack_wider (one_wider (more_types h) more) (a_reference_known known) = wider_reference h (stack_wider more known)
stack_wider (one_wider number_free more) known = elim known [ ]
stack_wider (one_wider reference_free more) known = elim known [ ]
stack_wider (one_wider free_free more) known = elim known [ ]
stack_wider (one_wider (away h) more) known = elim known [ ]

pub all_known : (l : Named) (a : ℕ) (cs : List Cell) (s : List Span) → ((k : ℕ) → slice_get cs k ≡ Some Unusable → ⊥)
    → AllKnown (kinds_from l a cs s)
all_known l a [] s h = none_known
all_known l a (Number ∷ cs) s h = a_number_known (all_known l (suc a) cs s (λ k e. h (suc k) e))
all_known l a (Refs names ∷ cs) s h = a_reference_known (all_known l (suc a) cs s (λ k e. h (suc k) e))
all_known l a (Unusable ∷ cs) s h = absurd (h 0 refl)

-- ---- which cells are references

refers_is : (l : Named) (c : Cell) (s : Span) → refers (kind_of_cell l c s) ≡ is_reference c
refers_is l Number s = refl
refers_is l (Refs names) s = refl
refers_is l Unusable s = refl

-- of those that are taken by their kinds, of the others by their types
pub references_are : (l : Named) (a n : ℕ) (cs : List Cell) (s : List Span) → map is_reference cs
    ≡ map refers (kinds_from l a (take n cs) s) ++ map is_reference (drop n cs)
references_are l a zero cs s = refl
references_are l a (suc n) [] s = refl
references_are l a (suc n) (c ∷ cs) s =
    ap (λ b. b ∷ map is_reference cs) (sym (refers_is l c (operand s a)))
    ∙ ap (λ bs. refers (kind_of_cell l c (operand s a)) ∷ bs) (references_are l (suc a) n cs s)

-- ---- where operands lie

pub lies_within : (s bound : Span) → lies_in s bound ≡ true → Within s bound
lies_within s bound e = go (int_le bound.low s.low) (int_le s.high bound.high) refl refl e
  where
    go : (a b : Bool) → int_le bound.low s.low ≡ a → int_le s.high bound.high ≡ b → (a && b) ≡ true → Within s bound
    go true true l h k = record { low = grind (arith, ints, l); high = grind (arith, ints, h) }
    go true false l h k = absurd cc
    go false b l h k = absurd cc

within_or_not : (s t : Span) → Within s t ⊎ (Within s t → ⊥)
within_or_not s t = go (le_cases t.low s.low) (le_cases s.high t.high)
  where
    go : ((t.low ≤ℤ s.low) ⊎ (s.low <ℤ t.low)) → ((s.high ≤ℤ t.high) ⊎ (t.high <ℤ s.high)) → Within s t
        ⊎ (Within s t → ⊥)
    go (inl a) (inl b) = inl (record { low = a; high = b })
    go (inl a) (inr b) = inr (λ h. (let c = h.high in omega (arith, ints, b, c)))
    go (inr a) b = inr (λ h. (let c = h.low in omega (arith, ints, a, c)))

-- where none of the wanted rules is broken
pub lies : (wanted : ℕ → Bool) (f : Found) → NoBreach wanted f.body f.types f.ranges → (at : ℕ) (i : JInsn) (t : State)
    (x : RangeState) → slice_get f.body.insns at ≡ Some i → HasRow f.types at t → HasRow f.ranges at x → (rule k : ℕ)
    (s : Span) → wanted rule ≡ true → Bounds f.body i.op (cells_of t.stack) rule k s
    → Within (operand (spans_of x.stack) k) s
lies wanted f passes at i t x there row ranged rule k s is bounds =
    go (within_or_not (operand (spans_of x.stack) k) s)
  where
    go : Within (operand (spans_of x.stack) k) s ⊎ (Within (operand (spans_of x.stack) k) s → ⊥)
        → Within (operand (spans_of x.stack) k) s
    go (inl h) = h
    go (inr h) = absurd (passes at rule is (record {
      insn = i;
      is_insn = there;
      typed = t;
      has_types = row;
      ranged = x;
      has_ranges = ranged;
      k = k;
      bound = s;
      bounds = bounds;
      outside = h;
    }))
