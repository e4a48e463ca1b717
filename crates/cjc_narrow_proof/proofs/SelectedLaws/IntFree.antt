-- Methods with code that don't work on int: none of a package whose list does not allow int does.
use Rattle.std.proofs.Common.{◌≡◌, ℕ, ◌+◌, refl, sym, ap, ◌∙◌, Bool, true, false, not, ◌&&◌, ◌||◌, ◌==◌, List}
use Rattle.std.proofs.Common.{[], ◌∷◌, ◌++◌, slice_get, Option, Some, None}
use Rattle.std.specs.List.{list_any}
use Rattle.std.proofs.lemmas.Option.{slice_get-get_or}
use Rattle.std.proofs.lemmas.Bool.{or_from}
use Rattle.cjc_bytes.specs.Breaks.{Break, at, each_from}
use Rattle.cjc_bytes.specs.Order.{FilePlace, file_of}
use Rattle.cjc_bytes.specs.declared.settings.Settings.{Settings}
use Rattle.cjc_bytes.proofs.BrokenRules.{not_broken, each_at}
use Rattle.cjc_bytes.proofs.Lists.{none_left, none_right}
use Rattle.cjc_bytes.proofs.Gets.{any_off}
use Rattle.cjc_bytes.proofs.Bools.{or_left, or_right}
use Rattle.cjc_code.specs.ClassFile.Code.{CodeTree}
use Rattle.cjc_code.specs.ClassFile.declared.tree.ClassTree.{ClassTree}
use Rattle.cjc_code.specs.ClassFile.declared.tree.MethodTree.{MethodTree}
use Rattle.cjc_code.specs.declared.insn.JInsn.{JInsn}
use Rattle.cjc_code.specs.declared.insn.JOp.{JOp}
use Rattle.cjc_code.specs.declared.insn.JOp.TheVariants as jop
use Rattle.cjc_code.specs.declared.method_code.MethodCode.{MethodCode}
use Rattle.cjc_narrow_proof.specs.Laws.Unbroken.{IsInsnOf, NoneWorksOnInt}
use Rattle.cjc_vtable.proofs.SubsetAny.{none_passes}
use Rattle.cjc_vtable.specs.LowerSubset.Checks.{check_breaks, class_breaks, code_breaks, field_breaks, insn_breaks}
use Rattle.cjc_vtable.specs.LowerSubset.Checks.{list_breaks}
use Rattle.cjc_vtable.specs.LowerSubset.Checks.{method_breaks, own_breaks}
use Rattle.cjc_vtable.specs.LowerSubset.Ints.{code_works_on_int, method_there, method_works_on_int}
use Rattle.cjc_vtable.specs.LowerSubset.Ints.{works_on_int}
use Rattle.cjc_vtable.specs.LowerSubset.Places.{of_class, of_method}
use Rattle.cjc_vtable.specs.LowerSubset.Types.{is_int_desc, is_int_name, names_int}
use Rattle.cjc_types.specs.Tables.{IsMethodOf}
use Rattle.cjc_world.specs.Files.{Files}

-- ---- what a method without int says

module _ (files : Files) (code : MethodCode) (class : ClassTree) (method : MethodTree) (tree : CodeTree)
    (is : IsMethodOf files code class method tree) (free : code_works_on_int files code ≡ false) where
  own_free : (is_int_desc method.desc || list_any (λ (i : JInsn). works_on_int i.op) code.insns) ≡ false
  unfolding code_works_on_int
  own_free =
      let there : method_there code.method (slice_get files.classes code.class) ≡ Some method =
      ap (method_there code.method) is.is_class ∙ is.is_method in
      sym (ap (method_works_on_int code.insns) there) ∙ free

  pub own_desc : is_int_desc method.desc ≡ false
  own_desc = or_left (is_int_desc method.desc) (list_any (λ (i : JInsn). works_on_int i.op) code.insns) own_free

  pub insn_free : (k : ℕ) (i : JInsn) → slice_get code.insns k ≡ Some i → works_on_int i.op ≡ false
  insn_free k i e = any_off (λ (x : JInsn). works_on_int x.op) code.insns k i
      (or_right (is_int_desc method.desc) (list_any (λ (x : JInsn). works_on_int x.op) code.insns) own_free) e

-- ---- a method of a package without int

module _ (files : Files) (codes : List MethodCode) (none : NoneWorksOnInt files codes) where
  pub op_free : (class : ClassTree) (op : JOp) → IsInsnOf files codes class op → works_on_int op ≡ false
  op_free class op at =
      let free = none at.code class at.method at.tree at.listed at.of_package at.written in
      ap works_on_int (sym at.is_op) ∙ insn_free files at.code class at.method at.tree at.of_package free at.place
      at.insn at.is_insn

-- ---- a list without int

-- what works on int names it
works_names : (op : JOp) → names_int op ≡ false → works_on_int op ≡ false
unfolding names_int works_on_int
works_names (jop.ArrayLoad op) e = e
works_names (jop.ArrayStore op) e = e
works_names (jop.Static put id) e = or_right (is_int_name id.class) (is_int_desc id.desc) e
works_names (jop.Field put id) e = or_right (is_int_name id.class) (is_int_desc id.desc) e
works_names (jop.Call op id) e = or_right (is_int_name id.class) (is_int_desc id.desc) e
works_names (jop.NewArray n) e = e
works_names jop.Nop e = refl
works_names jop.Null e = refl
works_names (jop.Number z) e = refl
works_names (jop.Load refs k) e = refl
works_names (jop.Store refs k) e = refl
works_names (jop.Stack op) e = refl
works_names (jop.Arith op) e = refl
works_names (jop.Inc k by) e = refl
works_names (jop.Narrow op) e = refl
works_names (jop.If op target) e = refl
works_names (jop.Goto target) e = refl
works_names (jop.TableSwitch other low targets) e = refl
works_names (jop.LookupSwitch other cases) e = refl
works_names (jop.Return op) e = refl
works_names (jop.New name) e = refl
works_names (jop.ANewArray name) e = refl
works_names jop.ArrayLength e = refl
works_names jop.Throw e = refl
works_names (jop.CheckCast name) e = refl
works_names (jop.InstanceOf name) e = refl

module _ (list : List ℕ) (files : Files) (codes : List MethodCode) (settings : Settings) (unbroken : check_breaks list
    files codes settings ≡ []) (no_int : settings.ints ≡ false) where
  abbrev by_classes : List Break
  by_classes = each_from (λ n c. class_breaks files settings (file_of files.lines n) n c) 0 files.classes

  abbrev by_codes : List Break
  by_codes = each_from (λ _ c. code_breaks files settings c) 0 codes

  unnamed : (b : Bool) → (not settings.ints && b) ≡ false → b ≡ false
  unnamed b e = go settings.ints no_int e
    where
      go : (ints : Bool) → ints ≡ false → (not ints && b) ≡ false → b ≡ false
      go false f e = e
      go true f e = absurd cc

  -- 302 of a method itself
  desc_unnamed : (n k : ℕ) (class : ClassTree) (method : MethodTree) → slice_get files.classes n ≡ Some class
      → slice_get class.methods k ≡ Some method → is_int_desc method.desc ≡ false
  unfolding check_breaks class_breaks method_breaks
  desc_unnamed n k class method e f =
      let front : list_breaks list files settings ++ by_classes ≡ [] = none_left (list_breaks list files settings
      ++ by_classes) by_codes unbroken in
      let all : by_classes ≡ [] = none_right (list_breaks list files settings) by_classes front in
      let g = file_of files.lines n in
      let own = own_breaks files settings g n class in
      let fields = each_from (λ i m. field_breaks settings g class i m) 0 class.fields in
      let methods = each_from (λ i m. method_breaks settings g class i m) 0 class.methods in
      let here : class_breaks files settings g n class ≡ [] =
      each_at (λ n c. class_breaks files settings (file_of files.lines n) n c) n files.classes class all e in
      let three : own ++ fields ++ methods ≡ [] = none_left (own ++ fields ++ methods) _ here in
      let one : method_breaks settings g class k method ≡ [] =
      each_at (λ i m. method_breaks settings g class i m) k class.methods method (none_right (own ++ fields) methods
      three) f in
      unnamed (is_int_desc method.desc)
      (not_broken _ _ 302 (none_right _ _ (none_left _ _ (none_left _ _ (none_left _ _ one)))))

  -- 302 of an instruction
  insn_unnamed : (n : ℕ) (code : MethodCode) (class : ClassTree) (method : MethodTree) → slice_get codes n ≡ Some code
      → slice_get files.classes code.class ≡ Some class → slice_get class.methods code.method ≡ Some method
      → (k : ℕ) (i : JInsn) → slice_get code.insns k ≡ Some i → names_int i.op ≡ false
  unfolding check_breaks code_breaks insn_breaks
  insn_unnamed n code class method there e f k i g =
      let all : by_codes ≡ [] = none_right (list_breaks list files settings ++ by_classes) by_codes unbroken in
      let here : code_breaks files settings code ≡ [] = each_at (λ _ c. code_breaks files settings c) n codes code all
      there in
      let place = file_of files.lines code.class in
      let breaks : FilePlace → ClassTree → MethodTree → List Break = λ h c m. each_from (λ _ insn. insn_breaks files
      settings h c code.method m insn) 0 code.insns in
      let mine : each_from (λ _ insn. insn_breaks files settings place class code.method method insn) 0 code.insns
      ≡ [] =
      sym (ap (of_method breaks place class) f) ∙ sym (ap (of_class breaks place code.method) e) ∙ here in
      let own = each_at (λ _ insn. insn_breaks files settings place class code.method method insn) k code.insns i mine g
      in
      unnamed (names_int i.op) (not_broken _ _ 302 (none_right _ _ (none_left _ _ own)))

  pub code_without : (n : ℕ) (code : MethodCode) → slice_get codes n ≡ Some code → code_works_on_int files code ≡ false
  unfolding code_works_on_int
  code_without n code there = by (slice_get files.classes code.class) refl
    where
      by_method : (class : ClassTree) → slice_get files.classes code.class ≡ Some class → (o : Option MethodTree)
          → slice_get class.methods code.method ≡ o → method_works_on_int code.insns o ≡ false
      by_method class e None f = refl
      by_method class e (Some method) f = or_from (is_int_desc method.desc) (list_any (λ (i : JInsn). works_on_int i.op)
          code.insns) (desc_unnamed code.class code.method class method e f)
          (none_passes (λ (i : JInsn). works_on_int i.op) code.insns (λ k i g. works_names i.op (insn_unnamed n code
          class method there e f k i g)))

      by : (o : Option ClassTree) → slice_get files.classes code.class ≡ o → method_works_on_int code.insns
          (method_there code.method o) ≡ false
      by None e = refl
      by (Some class) e = by_method class e (slice_get class.methods code.method) refl

  pub none_without : NoneWorksOnInt files codes
  none_without code class method tree listed of written =
      code_without listed.0 code (slice_get-get_or codes listed.0 code listed.1 ∙ ap Some listed.2)
