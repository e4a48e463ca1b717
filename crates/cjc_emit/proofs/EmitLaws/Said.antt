-- Instructions that bytes can say with their labels where they are laid.
use Rattle.std.proofs.Common.{◌≡◌, ℕ, zero, suc, ◌+◌, ◌≤◌, refl, sym, ap, subst, ◌∙◌, arith, Bool, true, false, List}
use Rattle.std.proofs.Common.{[], ◌∷◌, ℤ, Some}
use Rattle.std.specs.Prelude.{slice_get, replicate, ◌&&◌, int_lt}
use Rattle.cjc_layout.specs.CapRead.Opcodes.{Fields, Table, Lookup, Operand, Signed1, Signed2, form}
use Rattle.cjc_layout.specs.CapRead.Decode.{Instruction, AllFit, none, more, IsWithin, IsWritable, before_table, pairs}
use Rattle.cjc_layout.specs.CapRead.Decode.{matches_ascend}
use Rattle.cjc_layout.specs.CardSemantics.Bytecode.Meanings.{Ranged, Paired, meaning}
use Rattle.cjc_ncode.specs.declared.narrow.NCase.{NCase}
use Rattle.cjc_ncode.specs.declared.narrow.NInsn.{NInsn}
use Rattle.cjc_ncode.specs.declared.narrow.NInsn.TheVariants as insns
use Rattle.cjc_ncode.specs.declared.narrow.NMethod.{NMethod}
use Rattle.cjc_ncode.specs.Lowering.Naming.{Naming}
use Rattle.cjc_ncode.specs.Lowering.Laid.{IsFormed, distance, laid, matches, offsets, switch_as, untabled, wide_jump}
use Rattle.cjc_ncode.specs.Lowering.Placed.{IsLaidOut, IsSpellable, bytes_before, first}
use Rattle.cjc_layout.specs.declared.layout.Layout.{Layout}
use Rattle.cjc_layout.specs.Forms.{HasForm, jump, range, lookup}
use Rattle.cjc_layout.specs.Layouts.{IsLayout}
use Rattle.cjc_layout.specs.Legal.{is_near}
use Rattle.cjc_layout.specs.Sizes as Sizes
use Rattle.cjc_layout.proofs.Lowered.{before_same, has_form}
use Rattle.cjc_emit.specs.Emitted.{CanBeWritten, placed_at}
use Rattle.cjc_emit.proofs.Shifted.{laid_shift}
use Rattle.cjc_emit.specs.Said.{CanBeSaid}
use Rattle.cjc_emit.proofs.EmitLaws.Forms.{is_branch, is_ranged, is_paired, jump_forms, range_form, pair_form}
use Rattle.cjc_emit.proofs.EmitLaws.Far.{before_end, near_within, far_within}

-- ---- one operand

one_operand : (op : ℕ) (k : Operand) (z : ℤ) → form op ≡ Some (Fields (k ∷ [])) → AllFit (k ∷ []) (z ∷ [])
    → IsSpellable (untabled op (z ∷ []))
one_operand op k z e h = record {
  form = Fields (k ∷ []);
  writable = record {
    form = e;
    operands = h;
    table = none;
    whole = refl;
  };
}

-- ---- one instruction, whose labels are this far

module _ (n : Naming) (to : ℕ → ℕ) (at : ℕ) (far : (label : ℕ) → IsWithin 32768 (distance at (to label))) where
  abbrev here : ℕ → ℕ
  here label = 0

  offsets_fit : (count : ℕ) (cases : List NCase) → AllFit (replicate count Signed2) (offsets n here 0 cases)
      → AllFit (replicate count Signed2) (offsets n to at cases)
  offsets_fit zero [] h = none
  offsets_fit zero (c ∷ cases) h = elim h [ ]
  offsets_fit (suc count) [] h = elim h [ ]
  offsets_fit (suc count) (c ∷ cases) (more a h) = more (far c.target) (offsets_fit count cases h)

  matches_fit : (m : Operand) (count : ℕ) (cases : List NCase) → AllFit (pairs m count) (matches n here 0 cases)
      → AllFit (pairs m count) (matches n to at cases)
  matches_fit m zero [] h = none
  matches_fit m zero (c ∷ cases) h = elim h [ ]
  matches_fit m (suc count) [] h = elim h [ ]
  matches_fit m (suc count) (c ∷ cases) (more a (more b h)) = more a (more (far c.target) (matches_fit m count cases h))

  ascend_same : (cases : List NCase) → matches_ascend (matches n to at cases) ≡ matches_ascend (matches n here 0 cases)
  ascend_same [] = refl
  ascend_same (c ∷ []) = refl
  ascend_same (c ∷ d ∷ cases) = ap (λ b. int_lt c.value d.value && b) (ascend_same (d ∷ cases))

  -- ---- switches

  module _ (op other : ℕ) (low : ℤ) (cases : List NCase) (is_int : Bool) where
    abbrev range_here : Instruction
    range_here = switch_as n here (Ranged is_int) 0 op other low cases

    abbrev range_there : Instruction
    range_there = switch_as n to (Ranged is_int) at op other low cases

    by_table : (m : Operand) → form op ≡ Some (Table m) → IsWritable (Table m) range_here → IsSpellable range_there
    by_table m is w = go w.operands
      where
        go : AllFit (before_table (Table m)) range_here.operands → IsSpellable range_there
        go (more a rest) = record {
          form = Table m;
          writable = record {
            form = is;
            operands = more (far other) rest;
            table = offsets_fit _ cases w.table;
            whole = w.whole;
          };
        }

    ranged : is_ranged (meaning op) ≡ true → IsSpellable range_here → IsSpellable range_there
    ranged e s =
        let f = range_form op e in
        let same : s.form ≡ Table f.0 = let g = sym s.writable.form ∙ f.1 in cc in
        by_table f.0 f.1 (subst (λ o. IsWritable o range_here) same s.writable)

    abbrev pairs_here : Instruction
    pairs_here = switch_as n here (Paired is_int) 0 op other low cases

    abbrev pairs_there : Instruction
    pairs_there = switch_as n to (Paired is_int) at op other low cases

    by_lookup : (m : Operand) → form op ≡ Some (Lookup m) → IsWritable (Lookup m) pairs_here → IsSpellable pairs_there
    by_lookup m is w = go w.operands
      where
        go : AllFit (before_table (Lookup m)) pairs_here.operands → IsSpellable pairs_there
        go (more a rest) = record {
          form = Lookup m;
          writable = record {
            form = is;
            operands = more (far other) rest;
            table = matches_fit m _ cases w.table;
            whole = ascend_same cases ∙ w.whole;
          };
        }

    paired : is_paired (meaning op) ≡ true → IsSpellable pairs_here → IsSpellable pairs_there
    paired e s =
        let f = pair_form op e in
        let same : s.form ≡ Lookup f.0 = let g = sym s.writable.form ∙ f.1 in cc in
        by_lookup f.0 f.1 (subst (λ o. IsWritable o pairs_here) same s.writable)

  -- ---- any instruction

  pub one : (i : NInsn) (w : Bool) → HasForm i → CanBeSaid n i → ((op target : ℕ) → i ≡ insns.Jump op target → w ≡ false
      → IsWithin 128 (distance at (to target))) → IsSpellable (laid n to at w i)
  one (insns.Op op) w f s near = s
  one (insns.Push op value) w f s near = s
  one (insns.Local op index) w f s near = s
  one (insns.Inc op index by) w f s near = s
  one (insns.Words op high low) w f s near = s
  one (insns.Jump op target) true (jump e f) s near = let t = jump_forms op (ap is_branch e) (ap is_branch f)
      in one_operand (wide_jump op) Signed2 (distance at (to target)) t.1 (more (far target) none)
  one (insns.Jump op target) false (jump e f) s near = let t = jump_forms op (ap is_branch e) (ap is_branch f)
      in one_operand op Signed1 (distance at (to target)) t.0 (more (near op target refl refl) none)
  one (insns.Switch op other low cases) w (range {is_int = is_int} e) s near =
      subst (λ m. IsSpellable (switch_as n to m at op other low cases)) (sym e)
      (ranged op other low cases is_int (ap is_ranged e)
      (subst (λ m. IsSpellable (switch_as n here m 0 op other low cases)) e s))
  one (insns.Switch op other low cases) w (lookup {is_int = is_int} e) s near =
      subst (λ m. IsSpellable (switch_as n to m at op other low cases)) (sym e)
      (paired op other low cases is_int (ap is_paired e)
      (subst (λ m. IsSpellable (switch_as n here m 0 op other low cases)) e s))
  one (insns.Named op key) w f s near = s
  one (insns.Interface nargs m) w f s near = s
  one (insns.NewArray kind) w f s near = s
  one (insns.TypeTest op kind class) w f s near = s

-- ---- a method at its layout

module _ (n : Naming) (m : NMethod) (l : Layout) (offset : ℕ) (is : IsLayout m l) (small : l.length ≤ 32767)
    (forms : (k : ℕ) (i : NInsn) → slice_get m.insns k ≡ Some i → HasForm i) (said : (k : ℕ) (i : NInsn)
    → slice_get m.insns k ≡ Some i → CanBeSaid n i) where
  abbrev to : ℕ → ℕ
  to k = bytes_before n m.insns l.wide k

  same_before : (k : ℕ) → to k ≡ Sizes.bytes_before m.insns l.wide k
  same_before k = before_same n m.insns l.wide forms k

  inside : (k : ℕ) → to k ≤ 32767
  inside k =
      let a = same_before k in
      let b = before_end m.insns l.wide k in
      let c = is.length in
      omega (arith, a, b, c, small)

  near : (k op target : ℕ) → slice_get m.insns k ≡ Some (insns.Jump op target) → slice_get l.wide k ≡ Some false
      → IsWithin 128 (distance (to k) (to target))
  near k op target e f =
      near_within (to k) (to target)
      (ap (λ x. is_near x (to target)) (same_before k) ∙ ap (λ y. is_near (Sizes.bytes_before m.insns l.wide k) y)
      (same_before target) ∙ is.wide.legal.near k op target e f)

  abbrev base : ℕ
  base = first (placed_at offset m l.wide)

  spell : (k : ℕ) (i : NInsn) (w : Bool) → slice_get m.insns k ≡ Some i → slice_get l.wide k ≡ Some w
      → IsSpellable (laid n (λ label. base + to label) (base + to k) w i)
  spell k i w e f =
      subst (λ x. IsSpellable x) (sym (laid_shift n base to (to k) w i))
      (one n to (to k) (λ label. far_within (to k) (to label) (inside k) (inside label)) i w (forms k i e) (said k i e)
      (λ op target a b. near k op target (e ∙ ap Some a) (f ∙ ap Some b)))

  pub layout_written : CanBeWritten n (placed_at offset m l.wide)
  layout_written = record { count = is.wide.legal.count; forms = forms; spellable = spell }

pub layout_laid : (n : Naming) (m : NMethod) (l : Layout) (offset : ℕ) → IsLayout m l → l.length ≤ 32767
    → ((k : ℕ) (i : NInsn) → slice_get m.insns k ≡ Some i → IsFormed n i) → ((k : ℕ) (i : NInsn)
    → slice_get m.insns k ≡ Some i → CanBeSaid n i) → IsLaidOut n (placed_at offset m l.wide)
layout_laid n m l offset is small formed said =
    let by = layout_written n m l offset is small (λ k i e. has_form n i (formed k i e)) said in
    record { forms = by.count; formed = formed; spellable = by.spellable }
