-- The methods of interfaces that a package's code calls have tokens of one byte.
use Rattle.std.proofs.Common.{◌≡◌, ℕ, ◌<◌, refl, sym, ap, subst, ◌∙◌, List}
use Rattle.std.specs.Prelude.{Some, slice_get}
use Rattle.cjc_bytes.specs.declared.fault.MemberId.{MemberId}
use Rattle.cjc_bytes.proofs.Gets.{contains_at}
use Rattle.cjc_check_proof.specs.TokenProof.WrittenCalls.Standing.{AreMethods}
use Rattle.cjc_check_proof.specs.TokenProof.WrittenSends.Named.{CodeNamesAsWritten, NamesAsWritten, as_written, no_key}
use Rattle.cjc_classes.specs.JvmSemantics.Linked.{Method}
use Rattle.cjc_classes.specs.JvmSemantics.OnePackage.{method_at}
use Rattle.cjc_classes.specs.List.Listed.{ListTree}
use Rattle.cjc_classes.specs.Narrow.Rows.Resolved.{resolution, resolved_method}
use Rattle.cjc_classes.specs.Subset.Names.{names_missing, names_unfit, names_unfound}
use Rattle.cjc_components.specs.Bytecode.declared.insn.JOp.{JOp}
use Rattle.cjc_components.specs.Bytecode.declared.insn.JOp.TheVariants as jop
use Rattle.cjc_components.specs.Bytecode.declared.method_code.MethodCode.{MethodCode}
use Rattle.cjc_components.specs.Names.{interface_token, token_in_interface}
use Rattle.cjc_components.specs.Package.{LaidMethod, Package, world}
use Rattle.cjc_narrow_proof.specs.Laws.Unbroken.{IsInsnOf}
use Rattle.cjc_narrow_proof.specs.NCode.Written.{nargs_of}
use Rattle.cjc_narrow_proof.specs.NCode.declared.narrow.NInsn.{NInsn}
use Rattle.cjc_narrow_proof.specs.NCode.declared.narrow.NInsn.TheVariants as insns
use Rattle.cjc_narrow_proof.specs.Sources.{IsWrittenFor}
use Rattle.cjc_narrow_proof.specs.Sources as sources
use Rattle.cjc_shape.specs.LowerJudge.Rules.{has_applets}
use Rattle.cjc_shape.proofs.JudgedLaws.Called.{is_fit, is_found, is_there, resolved_declared, resolved_token}
use Rattle.cjc_vtable.specs.Tables.{or_zero}
use Rattle.cjc_world.proofs.Unbroken.{unbroken_is_acyclic}
use Rattle.cjc_world.specs.ClassFile.declared.tree.ClassTree.{ClassTree}
use Rattle.cjc_shape_proof.specs.Written.Checked.{IsChecked}
use Rattle.cjc_shape_proof.proofs.WrittenLaws.Coded.{holder, insn_of}
use Rattle.cjc_shape_proof.proofs.WrittenLaws.Sources.{one_source}
use Rattle.cjc_shape_proof.proofs.WrittenLaws.WholeLaws.Declared.{declared_place}

module _ (list : ListTree) (codes : List MethodCode) (p : Package) (is : IsChecked list codes p) where
  -- what an invokeinterface resolves to
  resolved_low : (class : ClassTree) (id : MemberId) → IsInsnOf p.files codes class (jop.Call 0xB9 id)
      → interface_token p (resolved_method (world p) id) < 256
  resolved_low class id of =
      let at = contains_at codes of.code of.listed in
      let there = ap (λ op. names_missing (world p) op) (sym of.is_op) ∙ is_there p.files codes is.names at.0 of.code
      at.1 class of.method of.tree of.of_package of.place of.insn of.is_insn in
      let found = ap (λ op. names_unfound (world p) op) (sym of.is_op) ∙ is_found p.files codes is.names at.0 of.code
      at.1 class of.method of.tree of.of_package of.place of.insn of.is_insn in
      let fit = ap (λ op. names_unfit p.files class op) (sym of.is_op) ∙ is_fit p.files codes is.names at.0 of.code
      at.1 class of.method of.tree of.of_package of.place of.insn of.is_insn in
      let acyclic = unbroken_is_acyclic list.name p.files is.unbroken in
      let m = resolved_method (world p) id in
      let d = resolved_declared p.files acyclic class id there found fit in
      let t = resolved_token p.files acyclic class id there found fit (has_applets list) is.tokens is.written in
      let place = declared_place list.name p.files is.unbroken is.written (has_applets list) m d t.0 t.1 in
      let same : interface_token p m ≡ t.0 = ap (token_in_interface (world p) (record { name = m.name; desc = m.desc }))
      place.1 ∙ ap or_zero place.2 in
      subst (λ k. k < 256) (sym same) t.2

  -- what is written for an instruction calls no other
  source_low : (near : List MemberId) (class : ClassTree) (op : JOp) (i : NInsn) → IsInsnOf p.files codes class op
      → IsWrittenFor (resolution p.files near class.name) op i → (nargs : ℕ) (id : MemberId)
      → i ≡ insns.Interface nargs id → interface_token p id < 256
  unfolding resolution
  source_low near class op i of (sources.interface_call {op = opcode} {m = m} is_call) nargs id e =
      let both : insns.Interface (nargs_of m) (resolved_method (world p) m) ≡ insns.Interface nargs id = e in
      let same : resolved_method (world p) m ≡ id = cc in
      subst (λ q. interface_token p q < 256) same
      (resolved_low class m (subst (λ o. IsInsnOf p.files codes class (jop.Call o m)) is_call of))
  source_low near class op i of (sources.plain none) nargs id e =
      let clash = ap sources.names_nothing (sym e) ∙ none in absurd cc
  source_low near class op i of (sources.of_static none) nargs id e = absurd cc
  source_low near class op i of sources.of_field nargs id e = absurd cc
  source_low near class op i of sources.of_own_field nargs id e = absurd cc
  source_low near class op i of (sources.virtual_call is_virtual) nargs id e = absurd cc
  source_low near class op i of (sources.special_call is_special) nargs id e = absurd cc
  source_low near class op i of (sources.static_call no_virtual no_special no_interface) nargs id e = absurd cc
  source_low near class op i of sources.of_class nargs id e = absurd cc
  source_low near class op i of sources.of_array nargs id e = absurd cc
  source_low near class op i of (sources.of_cast names) nargs id e = absurd cc
  source_low near class op i of (sources.of_test names) nargs id e = absurd cc

  module _ (are : AreMethods p) (near : List MemberId) (named : CodeNamesAsWritten p near) where
    pub token_low : (k : ℕ) (m : LaidMethod) → slice_get p.methods k ≡ Some m → (j nargs : ℕ) (id : MemberId)
        → (let code = m.code in slice_get code.insns j ≡ Some (insns.Interface nargs id))
        → interface_token p id < 256
    token_low k m e j nargs id at = by n.0 n.1 n.2
      where
        n : (from : Method) × (method_at p.files m.member ≡ Some from)
            × NamesAsWritten (resolution p.files near (let id = from.id in id.class)) from.insns (insns.Interface nargs
            id)
        n = named k m e j (insns.Interface nargs id) at

        by : (from : Method) → method_at p.files m.member ≡ Some from
            → NamesAsWritten (resolution p.files near (let id = from.id in id.class)) from.insns (insns.Interface nargs
            id) → interface_token p id < 256
        by from there (no_key none) = absurd cc
        by from there (as_written q l x role place is_x is_i) =
            let s = insn_of list codes p is are k m e from there q x is_x in
            source_low near (let h = holder list codes p is are k m e in h.class) x.op (insns.Interface nargs id) s.1
            (subst (λ name. IsWrittenFor (resolution p.files near name) x.op (insns.Interface nargs id)) s.0
            (one_source (resolution p.files near (let id = from.id in id.class)) role place x l
            (insns.Interface nargs id) is_i))
            nargs id refl
