-- The descriptors of methods that a package has and calls.
use Rattle.std.proofs.Common.{◌≡◌, ℕ, ◌<◌, ◌^◌, refl, sym, ap, subst, ◌∙◌, Bool, true, false, List, ◌++◌, length}
use Rattle.std.specs.Prelude.{not, ◌&&◌, Some, is_some, slice_get}
use Rattle.std.specs.List.{Contains}
use Rattle.cjc_bytes.specs.AccessFlags.{is_interface}
use Rattle.cjc_bytes.specs.Breaks.{Break, RulePlace, at, broken_at, foremost}
use Rattle.cjc_bytes.specs.Descriptor.{Parts}
use Rattle.cjc_bytes.specs.Spots.{desc_of}
use Rattle.cjc_bytes.specs.declared.fault.MemberId.{MemberId}
use Rattle.cjc_bytes.specs.declared.settings.Settings.{Settings}
use Rattle.cjc_bytes.proofs.Bools.{or_right}
use Rattle.cjc_code.specs.ClassFile.Code.{CodeTree}
use Rattle.cjc_code.specs.ClassFile.declared.tree.ClassTree.{ClassTree}
use Rattle.cjc_code.specs.ClassFile.declared.tree.MethodTree.{MethodTree}
use Rattle.cjc_code.specs.declared.insn.JOp.TheVariants as jop
use Rattle.cjc_code.specs.declared.method_code.MethodCode.{MethodCode}
use Rattle.cjc_jvm_semantics.specs.OnePackage.{is_initialiser}
use Rattle.cjc_narrow_proof.specs.Laws.Unbroken.{IsInsnOf, IsUnbroken}
use Rattle.cjc_narrow_proof.proofs.LawsLaws.Instructions.{kept_names, op_fit}
use Rattle.cjc_narrow_proof.proofs.LawsLaws.WordTypes.{word_desc}
use Rattle.cjc_narrow_proof.proofs.SelectedLaws.IntFree.{op_free, own_desc}
use Rattle.cjc_vtable.specs.LowerSubset.Checks.{check_breaks, method_breaks}
use Rattle.cjc_vtable.specs.LowerSubset.Flags.{is_unfit_method}
use Rattle.cjc_vtable.specs.LowerSubset.Limits.{has_deep_stack, has_many_locals}
use Rattle.cjc_vtable.specs.LowerSubset.Places.{at_method}
use Rattle.cjc_vtable.specs.LowerSubset.Ints.{works_on_int}
use Rattle.cjc_vtable.specs.LowerSubset.Types.{is_unsupported_desc, is_unsupported_name, is_int_desc, names_unsupported}
use Rattle.cjc_narrow_proof.specs.Tables.Calls.{IsWordDesc}
use Rattle.cjc_types.specs.Tables.{IsMethodOf}
use Rattle.cjc_vtable.specs.Kept.{IsUnbroken as HasNone}
use Rattle.cjc_vtable.proofs.Clean.{unbroken-methods}
use Rattle.cjc_vtable.proofs.Filed.{get-has}
use Rattle.cjc_world.specs.Files.{Files}

module _ (list : List ℕ) (files : Files) (codes : List MethodCode) (settings : Settings) (is : IsUnbroken list files
    codes settings) where
  -- no break is of the rule
  none_of : (rule : ℕ) → HasNone rule (check_breaks list files codes settings)
  none_of rule = subst (HasNone rule) (sym is.checks) (λ b i g. elim i [ ])

  -- 301 of a method itself
  own_types : (class : ClassTree) (method : MethodTree) (n k : ℕ) → slice_get files.classes n ≡ Some class
      → slice_get class.methods k ≡ Some method → is_unsupported_desc method.desc ≡ false
  unfolding method_breaks
  own_types class method n k is_class is_method =
      let r = unbroken-methods 301 list files codes settings (none_of 301) class method (get-has class files.classes n
      is_class) (get-has method class.methods k is_method) in
      let spot = at_method r.0 class r.1.0 method 0 in
      let B = at (not settings.ints && is_int_desc method.desc) spot 302 in
      let C = at (is_unfit_method (is_interface class.flags) method.flags method.name (is_some method.code)) spot 304 in
      let D = at (has_many_locals method.code) spot 404 in
      let E = at (has_deep_stack method.code) spot 405 in
      go spot B C D E (is_unsupported_desc method.desc) r.1.1
    where
      go : (s : RulePlace) (B C D E : List Break) (b : Bool) → HasNone 301 (at b s 301 ++ B ++ C ++ D ++ E) → b ≡ false
      go s B C D E true h = absurd (h (broken_at s 301) foremost refl)
      go s B C D E false h = refl

  -- 301 of a method itself, which does not work on int
  pub own_word_desc : (code : MethodCode) (class : ClassTree) (method : MethodTree) (tree : CodeTree)
      → IsMethodOf files code class method tree → Contains codes code → is_initialiser method.name ≡ false
      → (d : Parts) → length method.desc < 2 ^ 32 → desc_of method.desc ≡ Some d → d.is_method ≡ true
      → IsWordDesc method.desc
  own_word_desc code class method tree of listed written d short e m =
      word_desc method.desc d short e m (own_types class method code.class code.method of.is_class of.is_method)
      (own_desc files code class method tree of (is.no_int code class method tree listed of written))

  -- 301 of a method that is called
  pub called_word_desc : (class : ClassTree) (op : ℕ) (id : MemberId) → IsInsnOf files codes class (jop.Call op id)
      → (d : Parts) → length id.desc < 2 ^ 32 → desc_of id.desc ≡ Some d → d.is_method ≡ true → IsWordDesc id.desc
  unfolding names_unsupported works_on_int
  called_word_desc class op id at d short e m =
      let unsupported = (op_fit list files codes settings (kept_names is) class (jop.Call op id) at).0 in
      word_desc id.desc d short e m (or_right (is_unsupported_name id.class) (is_unsupported_desc id.desc) unsupported)
      (op_free files codes is.no_int class (jop.Call op id) at)
