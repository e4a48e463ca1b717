-- What is written for a method in int mode by its tables: its reached instructions, in the order of their offsets.
use Rattle.std.proofs.Common.{◌≡◌, ◌≤◌, ◌+◌, ℕ, zero, suc, List, [], ◌∷◌, slice_get, get_or}
use Rattle.std.proofs.Common.{Option, Some, None, refl, sym, ap, subst, ◌∙◌, arith}
use Rattle.std.proofs.lemmas.Option.{get_or_from_slice_get}
use Rattle.cjc_code.specs.ClassFile.Code.{CodeTree}
use Rattle.cjc_code.specs.declared.insn.JInsn.{JInsn}
use Rattle.cjc_types.specs.declared.state.State.{State}
use Rattle.cjc_intervals.specs.Frames.{RangeState}
use Rattle.cjc_ncode.specs.ByLabel.{Named}
use Rattle.cjc_ncode.specs.Written.{Resolution, catches_at}
use Rattle.cjc_ncode.specs.IntCode.IntCode.{Reached, place_in, scratch_pairs, scratch_pairs_of}
use Rattle.cjc_jvm_semantics.specs.Linked.{Method}
use Rattle.cjc_narrow_proof.specs.Tables.Analysis.{Found, IsDecoded, Ascend}
use Rattle.cjc_int_mode.specs.Written.{before, int_frame, reached_from, written_in_int_mode}
use Rattle.cjc_int_runs.specs.IntFrames.{IntPoint}
use Rattle.cjc_int_runs.specs.Placed.{Ascends, ascends_none, ascends_more}
use Rattle.cjc_int_runs.specs.Typed.{IsWritten}
use Rattle.cjc_int_alike.specs.Method.{IsIntRead, int_body, int_point, int_point_where, int_reached}

-- ---- both rows of a point

pub record IsIntPointOf (l : Named) (insn : Option JInsn) (types : Option (Option State))
    (ranges : Option (Option RangeState)) (p : IntPoint) : Type 0 where
  pub i : JInsn
  pub is_insn : insn ≡ Some i
  pub typed : State
  pub has_types : types ≡ Some (Some typed)
  pub ranged : RangeState
  pub has_ranges : ranges ≡ Some (Some ranged)
  pub is : p ≡ int_point l i.op typed ranged

pub int_point_from : (l : Named) (insn : Option JInsn) (types : Option (Option State))
    (ranges : Option (Option RangeState)) (p : IntPoint) → int_point_where l insn types ranges ≡ Some p
    → IsIntPointOf l insn types ranges p
int_point_from l None types ranges p e = cc
int_point_from l (Some i) None ranges p e = cc
int_point_from l (Some i) (Some None) ranges p e = cc
int_point_from l (Some i) (Some (Some t)) None p e = cc
int_point_from l (Some i) (Some (Some t)) (Some None) p e = cc
int_point_from l (Some i) (Some (Some t)) (Some (Some x)) p e = record {
  i = i;
  is_insn = refl;
  typed = t;
  has_types = refl;
  ranged = x;
  has_ranges = refl;
  is = (let same : int_point l i.op t x ≡ p = cc in sym same);
}

-- ---- reached instructions

-- a reached instruction is one of the list
pub reached_of : (ranges : List (Option RangeState)) (place : ℕ) (insns : List JInsn) (types : List (Option State))
    (k : ℕ) (i : Reached) → slice_get (reached_from ranges place insns types) k ≡ Some i
    → (at : ℕ) × (slice_get insns at ≡ Some i.insn)
reached_of ranges place [] types k i e = cc
reached_of ranges place (j ∷ insns) [] k i e = cc
reached_of ranges place (j ∷ insns) (None ∷ types) k i e =
    let h = reached_of ranges (place + 1) insns types k i e in (suc h.0, h.1)
reached_of ranges place (j ∷ insns) (Some t ∷ types) zero i e = (0, ap insn_of e)
  where
    insn_of : Option Reached → Option JInsn
    insn_of None = None
    insn_of (Some x) = Some x.insn
reached_of ranges place (j ∷ insns) (Some t ∷ types) (suc k) i e =
    let h = reached_of ranges (place + 1) insns types k i e in (suc h.0, h.1)

-- one that the types reach is among them, with what the tables say before it
pub reached_there : (ranges : List (Option RangeState)) (place : ℕ) (insns : List JInsn) (types : List (Option State))
    (at : ℕ) (i : JInsn) (t : State) → slice_get insns at ≡ Some i → slice_get types at ≡ Some (Some t)
    → (k : ℕ) × (slice_get (reached_from ranges place insns types) k ≡ Some (record {
      insn = i;
      before = before i.op t (get_or ranges (place + at) None);
    }))
reached_there ranges place [] types at i t e there = cc
reached_there ranges place (j ∷ insns) [] at i t e there = cc
reached_there ranges place (j ∷ insns) (Some u ∷ types) zero i t e there =
    let insn : j ≡ i = cc in
    let typed : u ≡ t = cc in
    let same : place ≡ place + 0 = omega arith in (
      0,
      ap (λ o. Some (reached o u place)) insn ∙ ap (λ o. Some (reached i o place)) typed
          ∙ ap (λ o. Some (reached i t o)) same,
    )
  where
    reached : JInsn → State → ℕ → Reached
    reached i t place = record { insn = i; before = before i.op t (get_or ranges place None) }
reached_there ranges place (j ∷ insns) (None ∷ types) zero i t e there = cc
reached_there ranges place (j ∷ insns) (Some u ∷ types) (suc at) i t e there =
    let h = reached_there ranges (place + 1) insns types at i t e there in
    let same : place + 1 + at ≡ place + suc at = omega arith in
    (suc h.0, h.1 ∙ ap (λ o. Some (reached o)) same)
  where
    reached : ℕ → Reached
    reached place = record { insn = i; before = before i.op t (get_or ranges place None) }
reached_there ranges place (j ∷ insns) (None ∷ types) (suc at) i t e there =
    let h = reached_there ranges (place + 1) insns types at i t e there in
    let same : place + 1 + at ≡ place + suc at = omega arith in
    (h.0, h.1 ∙ ap (λ o. Some (reached o)) same)
  where
    reached : ℕ → Reached
    reached place = record { insn = i; before = before i.op t (get_or ranges place None) }

-- their offsets ascend where those of all do
pub reached_ascend : (ranges : List (Option RangeState)) (place : ℕ) (insns : List JInsn)
    (types : List (Option State)) → Ascend insns → Ascends (reached_from ranges place insns types)
reached_ascend ranges place [] types h = ascends_none
reached_ascend ranges place (i ∷ insns) [] h = ascends_none
reached_ascend ranges place (i ∷ insns) (None ∷ types) h = reached_ascend ranges (place + 1) insns types
    (λ j k x y e d lt. h (suc j) (suc k) x y e d (omega (arith, lt)))
reached_ascend ranges place (i ∷ insns) (Some t ∷ types) h = ascends_more (λ k x e. (let j = reached_of ranges
    (place + 1) insns types k x e in h 0 (suc j.0) i x.insn refl j.1 (omega arith))) (reached_ascend ranges (place + 1)
    insns types (λ j k x y e d lt. h (suc j) (suc k) x y e d (omega (arith, lt))))

-- each has as many scratch pairs as the method, or fewer
pub pairs_there : (reached : List Reached) (k : ℕ) (i : Reached) → slice_get reached k ≡ Some i
    → scratch_pairs_of (let j = i.insn in j.op) ≤ scratch_pairs reached
pairs_there [] k i e = cc
pairs_there (x ∷ reached) zero i e =
    let same : x ≡ i = cc in
    subst (λ (y : Reached). scratch_pairs_of (let j = y.insn in j.op) ≤ scratch_pairs (x ∷ reached)) same (omega arith)
pairs_there (x ∷ reached) (suc k) i e = let h = pairs_there reached k i e in omega (arith, h)

-- ---- what is written

-- What is written for a method by its tables, as whole runs ask it.
pub is_written : (l : Named) (r : Resolution) (f : Found) (m : Method) (tree : CodeTree) (read : IsIntRead f m)
    → IsDecoded f.body → tree.catches ≡ (let b = f.body in b.catches) → tree.max_stack ≡ (let b = f.body in b.max_stack)
    → IsWritten (int_body l r f (written_in_int_mode r tree f.body f.types f.ranges)) m (int_reached f)
is_written l r f m tree read decoded catches stack = record {
  place_of = refl;
  insns = refl;
  catches = ap (catches_at (place_in (int_frame f.body) r (int_reached f))) (catches ∙ sym read.catches);
  has_room = (let max = read.max_stack in omega (arith, max, stack));
  ascends = reached_ascend f.ranges 0 f.body.insns f.types decoded.ascend;
  in_order = λ j k x y e d lt. decoded.ascend j k x y (by_read j x e) (by_read k y d) lt;
  is_reached = λ at p e. of_point at p (int_point_from l (slice_get f.body.insns at) (slice_get f.types at)
      (slice_get f.ranges at) p e);
  is_there = λ k i e. (let h = reached_of f.ranges 0 f.body.insns f.types k i e in (h.0, by_body h.0 i.insn h.1));
}
  where
    by_read : (at : ℕ) (i : JInsn) → slice_get m.insns at ≡ Some i → slice_get f.body.insns at ≡ Some i
    by_read at i e = ap (λ insns. slice_get insns at) (sym read.insns) ∙ e

    by_body : (at : ℕ) (i : JInsn) → slice_get f.body.insns at ≡ Some i → slice_get m.insns at ≡ Some i
    by_body at i e = ap (λ insns. slice_get insns at) read.insns ∙ e

    of_point : (at : ℕ) (p : IntPoint) → IsIntPointOf l (slice_get f.body.insns at) (slice_get f.types at)
        (slice_get f.ranges at) p → (k : ℕ) × (i : Reached) × (slice_get (int_reached f) k ≡ Some i)
        × (slice_get m.insns at ≡ Some i.insn) × (i.before ≡ p.before)
    of_point at p h =
        let k = reached_there f.ranges 0 f.body.insns f.types at h.i h.typed h.is_insn h.has_types in
        let zero_on : 0 + at ≡ at = omega arith in
        let rows : get_or f.ranges (0 + at) None ≡ Some h.ranged = ap (λ n. get_or f.ranges n None) zero_on
        ∙ get_or_from_slice_get f.ranges at (Some h.ranged) None h.has_ranges in (
          k.0,
          record { insn = h.i; before = before h.i.op h.typed (get_or f.ranges (0 + at) None) },
          k.1,
          by_body at h.i h.is_insn,
          ap (before h.i.op h.typed) rows ∙ sym (ap (λ (q : IntPoint). q.before) h.is),
        )
