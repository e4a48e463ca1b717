-- What is selected for a method outside int mode, in a package by modes, can be written.
use Rattle.std.proofs.Common.{◌≡◌, ℕ, zero, suc, ◌≤◌, arith, refl, sym, ap, subst, ◌∙◌, Bool, true, false, List}
use Rattle.std.proofs.Common.{[], ◌∷◌}
use Rattle.std.specs.Prelude.{Option, Some, slice_get}
use Rattle.cjc_classes.specs.Emit.Emitted.{CanBeWritten, placed_at}
use Rattle.cjc_classes.specs.Layout.Forms.{HasForm}
use Rattle.cjc_classes.specs.Layout.Layouts.{IsWhole}
use Rattle.cjc_classes.specs.Layout.Legal.{IsLeast}
use Rattle.cjc_classes.specs.Narrow.Rows.Selected.{near_fields, paired, selected_code}
use Rattle.cjc_classes.specs.Narrow.Written.Operands.{CanBeSaid as IsSaid}
use Rattle.cjc_classes.specs.Narrow.Written.Rows.{has_rows, rows_by}
use Rattle.cjc_classes.specs.Types.Flow.{body_of}
use Rattle.cjc_classes.specs.Types.Tables.{IsLeastTable, IsMethodOf}
use Rattle.cjc_classes.specs.Types.declared.state.State.{State}
use Rattle.cjc_components.specs.Bytecode.declared.insn.JInsn.{JInsn}
use Rattle.cjc_components.specs.Bytecode.declared.method_code.MethodCode.{MethodCode}
use Rattle.cjc_components.specs.Package.{LaidMethod}
use Rattle.cjc_narrow_proof.proofs.SelectedLaws.Decoded.{one_of_all, operands_fit}
use Rattle.cjc_narrow_proof.proofs.SelectedLaws.Formed.{all_have_forms}
use Rattle.cjc_narrow_proof.proofs.SelectedLaws.Numbers.{selected_fit}
use Rattle.cjc_narrow_proof.proofs.SelectedLaws.Places.{reached_from}
use Rattle.cjc_narrow_proof.proofs.SelectedLaws.Said.{all_said}
use Rattle.cjc_narrow_proof.proofs.SelectedLaws.Whole.{selected_whole}
use Rattle.cjc_narrow_proof.specs.NCode.Lowering.Naming.{Naming}
use Rattle.cjc_narrow_proof.specs.NCode.Written.{Resolution, place_in, reached, widest_sum}
use Rattle.cjc_narrow_proof.specs.NCode.declared.narrow.NInsn.{NInsn}
use Rattle.cjc_narrow_proof.specs.NCode.declared.narrow.NMethod.{NMethod}
use Rattle.cjc_narrow_proof.specs.NCode.declared.narrow.PoolKey.{PoolKey}
use Rattle.cjc_narrow_proof.specs.Selected.Operands.{IsSmall, NumbersFit, OperandsFit}
use Rattle.cjc_narrow.specs.Select.Select.{IsSelectable}
use Rattle.cjc_world.specs.ClassFile.Code.{CodeTree}
use Rattle.cjc_world.specs.ClassFile.declared.tree.ClassTree.{ClassTree}
use Rattle.cjc_world.specs.ClassFile.declared.tree.MethodTree.{MethodTree}
use Rattle.cjc_world.specs.Files.{Files}
use Rattle.cjc_int_components.proofs.Layouts.{laid_written}

-- a row that is there is of an instruction that is reached
row_reached : (flags : List Bool) (k : ℕ) (row : Unit {0}) → slice_get (rows_by flags) k ≡ Some (Some row)
    → slice_get flags k ≡ Some true
row_reached [] k row e = absurd cc
row_reached (true ∷ flags) zero row e = refl
row_reached (false ∷ flags) zero row e = absurd cc
row_reached (b ∷ flags) (suc k) row e = row_reached flags k row e

module _ (files : Files) (code : MethodCode) (class : ClassTree) (method : MethodTree) (tree : CodeTree)
    (is : IsMethodOf files code class method tree)
    (rows : List (Option State)) (least : IsLeastTable (body_of class method tree code.insns) rows)
    (able : IsSelectable method tree code.insns (has_rows rows)) (ks : List PoolKey) where
  abbrev flags : List Bool
  flags = has_rows rows

  abbrev kept : List JInsn
  kept = reached code.insns (rows_by flags)

  abbrev r : Resolution
  r = paired files (near_fields ks) class method tree code.insns (has_rows (rows_by flags))

  abbrev pub narrow : NMethod
  narrow = selected_code files (near_fields ks) class method tree code.insns (rows_by flags)

  said : (k : ℕ) (i : JInsn) → slice_get kept k ≡ Some i → IsSaid i.op
  said k i e =
      let from = reached_from code.insns (rows_by flags) k i e in
      able.said from.0 i from.2 (row_reached flags from.0 from.1 from.3)

  fits : narrow.widest ≤ 32767 → (k : ℕ) (i : JInsn) → slice_get kept k ≡ Some i → OperandsFit i.op
  fits few k i e =
      let from = reached_from code.insns (rows_by flags) k i e in
      let one = one_of_all kept k i e in
      let sum : narrow.widest ≡ widest_sum kept = refl in
      operands_fit files code class method tree is from.0 i from.2 (said k i e) (omega (arith, one, sum, few))

  short_forms : (k : ℕ) (i : NInsn) → slice_get narrow.insns k ≡ Some i → HasForm i
  short_forms k i e = all_have_forms r (place_in r kept) kept k i e

  pub short_whole : IsWhole narrow
  short_whole = selected_whole files code class method tree is rows least (near_fields ks)

  pub short_written : (low n : Naming) → IsSmall low ks → (m : LaidMethod) → m.code ≡ narrow
      → (let c = m.code in IsLeast c.insns m.wide) → (let c = m.code in c.widest ≤ 32767)
      → ((k : ℕ) (i : NInsn) → (let c = m.code in slice_get c.insns k ≡ Some i) → NumbersFit low i → NumbersFit n i)
      → CanBeWritten n (placed_at 0 m.code m.wide)
  short_written low n small m made wide few stay =
      let there : (k : ℕ) (i : NInsn) → (let c = m.code in slice_get c.insns k ≡ Some i) → slice_get narrow.insns k
      ≡ Some i = λ k i e. ap (λ (c : NMethod). slice_get c.insns k) (sym made) ∙ e in
      let short : narrow.widest ≤ 32767 = subst (λ (c : NMethod). c.widest ≤ 32767) made few in
      laid_written m.code m.wide wide n (subst IsWhole (sym made) short_whole) few
      (λ k i e. short_forms k i (there k i e))
      (λ k i e. all_said n r (place_in r kept) kept (fits short) k i (there k i e)
      (stay k i e (selected_fit low ks small files class method tree code.insns (rows_by flags) able.ascending said k i
      (there k i e))))
