-- What is written for a method in int mode is that of its class file, by its tables.
use Rattle.std.proofs.Common.{◌≡◌, ◌<◌, ◌≤◌, ℕ, sym, ap, subst, ◌∙◌, List, length}
use Rattle.std.specs.Prelude.{Option, Some, Ok, slice_get}
use Rattle.cjc_int_narrow.specs.Bytes.declared.fault.MemberId.{MemberId}
use Rattle.std.specs.List.{Contains}
use Rattle.cjc_int_narrow.specs.Bytecode.PackageCodes.{all_codes}
use Rattle.cjc_int_narrow.specs.Bytecode.Decoded.{decoded, decoding, insns_of, of_code, of_method}
use Rattle.cjc_int_narrow.specs.Bytecode.declared.insn.JInsn.{JInsn}
use Rattle.cjc_int_narrow.specs.Bytecode.declared.method_code.MethodCode.{MethodCode}
use Rattle.cjc_check_proof.specs.LowerComponents.Package.{LaidMethod}
use Rattle.cjc_check_proof.specs.LowerEmit.Emitted.{CanBeWritten, placed_at}
use Rattle.cjc_check_proof.specs.LowerEmit.Said.{CanBeSaid}
use Rattle.cjc_check_proof.specs.Intervals.Frames.{RangeState}
use Rattle.cjc_check_proof.specs.JvmSemantics.Linked.{Method}
use Rattle.cjc_check_proof.specs.JvmSemantics.OnePackage.{method_at, method_by}
use Rattle.cjc_check_proof.specs.Layout.Legal.{IsLeast}
use Rattle.cjc_check_proof.specs.Layout.Layouts.{IsWhole}
use Rattle.cjc_int_narrow.specs.LowerNarrow.Rows.Package.{read_of, tree_of}
use Rattle.cjc_int_narrow.specs.LowerNarrow.Rows.Resolved.{resolution}
use Rattle.cjc_ncode.specs.Lowering.Naming.{Naming}
use Rattle.cjc_ncode.specs.Written.{Resolution}
use Rattle.cjc_ncode.specs.declared.narrow.NInsn.{NInsn}
use Rattle.cjc_ncode.specs.declared.narrow.NMethod.{NMethod}
use Rattle.cjc_check_proof.specs.Types.Flow.{body_of}
use Rattle.cjc_check_proof.specs.Types.Tables.{IsLeastTable, IsMethodOf}
use Rattle.cjc_check_proof.specs.Types.declared.state.State.{State}
use Rattle.cjc_int_narrow.specs.ClassFile.Code.{CodeTree}
use Rattle.cjc_int_narrow.specs.ClassFile.declared.tree.ClassTree.{ClassTree}
use Rattle.cjc_int_narrow.specs.ClassFile.declared.tree.MethodTree.{MethodTree}
use Rattle.cjc_int_narrow.specs.World.Files.{Files}
use Rattle.cjc_check_proof.specs.NarrowProof.Selected.Keeps.{FindsItself}
use Rattle.cjc_int_narrow.specs.LowerIntMode.Written.{int_frame, places_from, reached_from, written_in_int_mode}
use Rattle.cjc_int_narrow.specs.LowerIntMode.declared.modes.Mode.{Mode}
use Rattle.cjc_int_narrow.specs.LowerIntMode.declared.modes.Mode.TheVariants as modes
use Rattle.cjc_int_narrow.proofs.Stands.{int_code_whole}
use Rattle.cjc_int_narrow.proofs.IntProofForms.{all_have_forms}
use Rattle.cjc_int_components.specs.Made.{IsMadeByMode, in_int_mode}
use Rattle.cjc_int_components.specs.Modes.{AreLeast, Tables}
use Rattle.cjc_int_components.specs.Written.{IsWrittenByMode, code_by_mode, code_in, int_code_of}
use Rattle.cjc_int_components.proofs.Layouts.{laid_written}

module _ (files : Files) (code : MethodCode) (class : ClassTree) (method : MethodTree) (tree : CodeTree)
    (is : IsMethodOf files code class method tree) where
  pub insns_are : decoded class method tree ≡ code.insns
  unfolding decoded
  insns_are =
      let e : decoding class method tree ≡ Ok code.insns = sym (ap (of_method class) is.is_method
      ∙ ap (of_code class method) is.is_code) ∙ is.insns in
      ap insns_of e

  -- what the look-ups of a package give of a method is what its class file says
  pub int_code_same : (near : List MemberId) (t : Tables) → FindsItself files class method
      → int_code_of files near t (method_by class method (Some tree)) ≡ written_in_int_mode
      (resolution files near class.name) tree (body_of class method tree code.insns)
      (t.types (method_by class method (Some tree))) (t.ranges (method_by class method (Some tree)))
  int_code_same near t found =
      let x : Method = method_by class method (Some tree) in
      let r = resolution files near class.name in
      ap (λ flags. written_in_int_mode r (tree_of x) (read_of x flags) (t.types x) (t.ranges x)) found
      ∙ ap (λ (insns : List JInsn). written_in_int_mode r tree (body_of class method tree insns) (t.types x)
      (t.ranges x)) insns_are

  module _ (n : Naming) (m : LaidMethod) where
    pub int_made : (near : List MemberId) (t : Tables) → IsWrittenByMode files near t m
        → method_at files m.member ≡ Some (method_by class method (Some tree))
        → t.mode (method_by class method (Some tree)) ≡ modes.Int → FindsItself files class method
        → AreLeast files t → Contains (all_codes files.classes) code
        → 0 < length tree.bytes → CanBeWritten n (placed_at 0 m.code m.wide) → IsMadeByMode n files m
    int_made near t w at mode found least there some can =
        let x : Method = method_by class method (Some tree) in
        in_int_mode is (least code class method tree there is).0 some near (t.ranges x)
        (w.code ∙ ap (code_by_mode files near t m.member) at ∙ ap (λ (q : Mode). code_in files near t q x) mode
        ∙ int_code_same near t found) can

    pub int_written : (rows : List (Option State)) → IsLeastTable (body_of class method tree code.insns) rows
        → (ranges : List (Option RangeState)) (r : Resolution)
        → m.code ≡ written_in_int_mode r tree (body_of class method tree code.insns) rows ranges
        → IsLeast m.code.insns m.wide → m.code.widest ≤ 32767
        → ((k : ℕ) (i : NInsn) → slice_get m.code.insns k ≡ Some i → CanBeSaid n i)
        → CanBeWritten n (placed_at 0 m.code m.wide)
    int_written rows least ranges r made wide few said =
        let whole = int_code_whole files code class method tree is rows least ranges r in
        laid_written m.code m.wide wide n (subst IsWhole (sym made) whole) few
        (λ k i e. all_have_forms (int_frame (body_of class method tree code.insns)) r tree
        (reached_from ranges 0 code.insns rows) (places_from 0 code.insns rows) k i
        (ap (λ (x : NMethod). slice_get x.insns k) (sym made) ∙ e)) said
