-- What each instruction of a converted package's class files names is there.
use Rattle.std.proofs.Common.{◌≡◌, sym, ap, ◌∙◌, Bool, true, List}
use Rattle.std.specs.Prelude.{None, Some, option_and_then}
use Rattle.cjc_bytes.specs.declared.fault.MemberId.{MemberId}
use Rattle.cjc_jvm_semantics.specs.OnePackage.{constant_at, of_class}
use Rattle.cjc_token_proof.specs.ByToken.Cells.{HasCells, fields, is_one_of, letter}
use Rattle.cjc_narrow_proof.proofs.LawsLaws.Casts.{cast_there, test_there}
use Rattle.cjc_shape_proof.specs.WorldProof.Calls.Solid.{IsSolid}
use Rattle.cjc_token_proof.specs.CardSemantics.Machine.ByToken.{letter_of}
use Rattle.cjc_world.specs.ClassFile.declared.tree.ClassTree.{ClassTree}
use Rattle.cjc_components.specs.Bytecode.declared.insn.JOp.{JOp}
use Rattle.cjc_components.specs.Bytecode.declared.insn.JOp.TheVariants as jop
use Rattle.cjc_components.specs.Bytecode.declared.method_code.MethodCode.{MethodCode}
use Rattle.cjc_components.specs.Package.{Package, world}
use Rattle.cjc_theorem.proofs.AlikeLaws.InsnNames.Fields.{object_field, static_field}
use Rattle.cjc_theorem.proofs.AlikeLaws.InsnNames.Types.{class_is_there, made_is_there, type_is_there}
use Rattle.cjc_shape_proof.specs.LowerJudge.Rules.{settings_of}
use Rattle.cjc_token_proof.specs.List.Listed.{ListTree}
use Rattle.cjc_theorem.proofs.AlikeLaws.NamedLaws.Members.{field_named, static_named, static_own}
use Rattle.cjc_token_proof.specs.Narrow.Rows.Resolved.{constant_named, resolved_field}
use Rattle.cjc_narrow_proof.proofs.LawsLaws.Instructions.{array_of_class, new_fields, op_fit, op_there}
use Rattle.cjc_narrow_proof.specs.Laws.Unbroken.{IsInsnOf, KeepsNames}
use Rattle.cjc_token_proof.specs.Script.Sorts.{field_sort}
use Rattle.cjc_token_proof.specs.Tables.Known.{is_field_of, may_name, order_of, statics_of}
use Rattle.cjc_vtable.proofs.Filed.{filed}
use Rattle.cjc_world.specs.Classes.{Class}
use Rattle.cjc_shape_proof.proofs.WrittenLaws.Checked.{are_spelt, own_names}
use Rattle.cjc_shape_proof.proofs.WrittenLaws.Checked.{own_solid}
use Rattle.cjc_shape_proof.specs.Written.Checked.{IsOfFiles}
use Rattle.cjc_token_proof.specs.WrittenSends.Named.{NamesWhatIsThere}

module _ (list : ListTree) (codes : List MethodCode) (p : Package) (is : IsOfFiles list codes p)
    (cells : HasCells (order_of p.image) (statics_of (let w = p.files in w.classes))) (class : ClassTree) where
  abbrev w : List Class
  w = world p

  abbrev u : KeepsNames list.name p.files codes (settings_of list)
  u = own_names list codes p is.checked

  abbrev solid : IsSolid p.files
  solid = own_solid list codes p is.checked

  static_there : (put : Bool) (id : MemberId) → IsInsnOf p.files codes class (jop.Static put id)
      → constant_named p.files w id ≡ None
      → (is_one_of (resolved_field w id) (fields (order_of p.image)) ≡ true)
      × (letter_of (field_sort id.desc) ≡ Some (letter id))
  static_there put id at none =
      let n = static_named list.name p.files codes (settings_of list) u solid class put id at in
      let d = n.owner in
      let own = static_own list.name p.files codes (settings_of list) u solid id n none in
      let value : constant_at p.files n.place ≡ None = sym (ap (option_and_then (constant_at p.files)) n.found) ∙ none
      in
      let one = static_field p.files id d (filed p.files d.name d n.named) own n.place n.at n.is_static value in (
        ap (λ m. is_one_of m (fields (order_of p.image))) n.resolved ∙ cells.each (of_class d.name id) one,
        cells.typed (of_class d.name id) one,
      )

  field_there : (put : Bool) (id : MemberId) → IsInsnOf p.files codes class (jop.Field put id)
      → may_name w (resolved_field w id) ≡ true
  field_there put id at =
      let n = field_named list.name p.files codes (settings_of list) u solid class put id at in
      let d = n.owner in
      ap (may_name w) n.resolved ∙ ap (is_field_of (of_class d.name id)) n.named
      ∙ object_field id d n.place n.at n.is_static

  pub names_what_is_there : (op : JOp) → IsInsnOf p.files codes class op
      → NamesWhatIsThere p.files (order_of p.image) op
  names_what_is_there (jop.Static put id) at = static_there put id at
  names_what_is_there (jop.Field put id) at = field_there put id at
  names_what_is_there (jop.New name) at =
      let ok = op_there list.name p.files codes (settings_of list) u class (jop.New name) at in
      made_is_there w name (new_fields p.files class name ok.0 ok.2)
  names_what_is_there (jop.ANewArray name) at =
      let ok = op_there list.name p.files codes (settings_of list) u class (jop.ANewArray name) at in
      let fit = op_fit list.name p.files codes (settings_of list) u class (jop.ANewArray name) at in
      let found = array_of_class w name ok.0 fit.0 in
      class_is_there w name found.0 found.1
  names_what_is_there (jop.CheckCast name) at = type_is_there w name (cast_there list.name p.files codes
      (settings_of list) u (are_spelt list codes p is.checked) class name at)
  names_what_is_there (jop.InstanceOf name) at = type_is_there w name (test_there list.name p.files codes
      (settings_of list) u (are_spelt list codes p is.checked) class name at)
  names_what_is_there _ at = tt
