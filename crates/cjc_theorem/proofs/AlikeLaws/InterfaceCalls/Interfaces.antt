-- What an invokeinterface calls stands among the methods of the interface in which it is found.
use Rattle.std.proofs.Common.{◌≡◌, ℕ, sym, ap, ◌∙◌, List}
use Rattle.std.specs.Prelude.{Some}
use Rattle.cjc_bytes.specs.AccessFlags.{is_interface}
use Rattle.cjc_bytes.specs.declared.fault.MemberId.{MemberId}
use Rattle.cjc_world.specs.ClassFile.declared.tree.ClassTree.{ClassTree}
use Rattle.cjc_components.specs.Bytecode.declared.method_code.MethodCode.{MethodCode}
use Rattle.cjc_components.specs.Bytecode.declared.insn.JOp.TheVariants as jop
use Rattle.cjc_components.specs.Package.{Package, world}
use Rattle.cjc_narrow_proof.proofs.LawsLaws.Instructions.{op_there}
use Rattle.cjc_shape_proof.specs.LowerJudge.Rules.{has_applets, settings_of}
use Rattle.cjc_shape_proof.proofs.ShapeCalled.{resolved_declared, resolved_token}
use Rattle.cjc_token_proof.specs.List.Listed.{ListTree}
use Rattle.cjc_token_proof.specs.Narrow.Rows.Resolved.{resolved_method}
use Rattle.cjc_narrow_proof.specs.Laws.Unbroken.{IsInsnOf}
use Rattle.cjc_ncode.specs.ByLabel.{OnInterface}
use Rattle.cjc_shape_proof.proofs.WrittenLaws.WholeLaws.Declared.{declared_place}
use Rattle.cjc_world.proofs.Unbroken.{unbroken_is_acyclic}
use Rattle.cjc_world.specs.Classes.{Class, class_named}
use Rattle.cjc_token_proof.specs.WrittenCalls.Calls.{IsNamed, on_interface}
use Rattle.cjc_shape_proof.proofs.WrittenLaws.Checked.{own_names, read_files}
use Rattle.cjc_shape_proof.specs.Written.Checked.{IsOfFiles}

module _ (list : ListTree) (codes : List MethodCode) (p : Package) (is : IsOfFiles list codes p) (class : ClassTree)
    (id : MemberId) (of : IsInsnOf p.files codes class (jop.Call 0xB9 id)) where
  pub interface_named : (words : ℕ) → IsNamed (world p) (OnInterface words (resolved_method (world p) id))
  interface_named words =
      let u = own_names list codes p is.checked in
      let writable = (let r = read_files list codes p is.checked in r.exports) in
      let acyclic = unbroken_is_acyclic list.name p.files u.world in
      let ok = op_there list.name p.files codes (settings_of list) u class (jop.Call 0xB9 id) of in
      let d = resolved_declared p.files acyclic class id ok.0 ok.1 ok.2 in
      let t = resolved_token p.files acyclic class id ok.0 ok.1 ok.2 (has_applets list) is.checked.tokens writable in
      let m = resolved_method (world p) id in
      let place = declared_place list.name p.files u.world writable (has_applets list) m d t.0 t.1 in
      let owner : Class = d.owner in
      let both : Some place.0 ≡ Some owner = sym place.1 ∙ ap (class_named (world p)) d.by_owner ∙ d.named in
      let same : place.0 ≡ owner = cc in
      on_interface place.0 t.0 place.1 (ap (λ (c : Class). is_interface c.flags) same ∙ d.interface) d.plain place.2
