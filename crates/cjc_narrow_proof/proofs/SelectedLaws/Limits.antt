-- What the rules of a package say of one of its methods where none is broken.
use Rattle.std.proofs.Common.{◌≡◌, ℕ, ◌≤◌, sym, ap, ◌∙◌, false}
use Rattle.std.proofs.Common.{List, [], ◌++◌}
use Rattle.std.proofs.lemmas.Bool.{ltb-false}
use Rattle.cjc_bytes.specs.Breaks.{Break, each_from}
use Rattle.cjc_bytes.specs.Order.{file_of}
use Rattle.cjc_bytes.specs.declared.settings.Settings.{Settings}
use Rattle.cjc_bytes.proofs.BrokenRules.{not_broken, each_at}
use Rattle.cjc_bytes.proofs.Lists.{none_left, none_right}
use Rattle.cjc_code.specs.ClassFile.Code.{CodeTree}
use Rattle.cjc_code.specs.ClassFile.declared.tree.ClassTree.{ClassTree}
use Rattle.cjc_code.specs.ClassFile.declared.tree.MethodTree.{MethodTree}
use Rattle.cjc_code.specs.declared.method_code.MethodCode.{MethodCode}
use Rattle.cjc_vtable.specs.LowerSubset.Checks.{check_breaks, class_breaks, code_breaks, list_breaks, method_breaks}
use Rattle.cjc_vtable.specs.LowerSubset.Checks.{field_breaks, own_breaks}
use Rattle.cjc_vtable.specs.LowerSubset.Limits.{has_deep_stack, has_many_locals}
use Rattle.cjc_types.specs.Tables.{IsMethodOf}
use Rattle.cjc_world.specs.Files.{Files}

-- ---- one method

module _ (list : List ℕ) (files : Files) (codes : List MethodCode) (settings : Settings) (unbroken : check_breaks list
    files codes settings ≡ [])
    (code : MethodCode) (class : ClassTree) (method : MethodTree) (tree : CodeTree) (is : IsMethodOf files code class
    method tree) where
  abbrev by_classes : List Break
  by_classes = each_from (λ n c. class_breaks files settings (file_of files.lines n) n c) 0 files.classes

  abbrev by_codes : List Break
  by_codes = each_from (λ _ c. code_breaks files settings c) 0 codes

  -- the method's own breaks
  own_unbroken : method_breaks settings (file_of files.lines code.class) class code.method method ≡ []
  unfolding check_breaks class_breaks
  own_unbroken =
      let front : list_breaks list files settings ++ by_classes ≡ [] = none_left (list_breaks list files settings
      ++ by_classes) by_codes unbroken in
      let all : by_classes ≡ [] = none_right (list_breaks list files settings) by_classes front in
      let f = file_of files.lines code.class in
      let own = own_breaks files settings f code.class class in
      let fields = each_from (λ i m. field_breaks settings f class i m) 0 class.fields in
      let methods = each_from (λ i m. method_breaks settings f class i m) 0 class.methods in
      let here : class_breaks files settings f code.class class ≡ [] =
      each_at (λ n c. class_breaks files settings (file_of files.lines n) n c) code.class files.classes class all
      is.is_class in
      let three : own ++ fields ++ methods ≡ [] = none_left (own ++ fields ++ methods) _ here in
      each_at (λ i m. method_breaks settings f class i m) code.method class.methods method (none_right (own
      ++ fields) methods three) is.is_method

  pub few_locals : tree.max_locals ≤ 255
  unfolding method_breaks
  few_locals =
      let e : has_many_locals method.code ≡ false = not_broken _ _ 404 (none_right _ _ (none_left _ _ own_unbroken)) in
      ltb-false 255 tree.max_locals (sym (ap has_many_locals is.is_code) ∙ e)

  pub low_stack : tree.max_stack ≤ 255
  unfolding method_breaks
  low_stack =
      let e : has_deep_stack method.code ≡ false = not_broken _ _ 405 (none_right _ _ own_unbroken) in
      ltb-false 255 tree.max_stack (sym (ap has_deep_stack is.is_code) ∙ e)
