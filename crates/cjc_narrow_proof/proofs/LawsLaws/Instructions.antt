-- What an instruction names in a method that breaks no rule of names and types, whichever methods work on int.
use Rattle.std.proofs.Common.{◌≡◌, ℕ, refl, sym, ap, ◌∙◌, Bool, true, false, List, [], ◌++◌}
use Rattle.std.specs.Prelude.{not, ◌&&◌, ◌||◌, Option, Some, None, option_and_then, slice_get, if◌then◌else◌}
use Rattle.std.specs.List.{Contains}
use Rattle.std.proofs.lemmas.Option.{slice_get-get_or}
use Rattle.cjc_bytes.specs.AccessFlags.{is_abstract, is_interface}
use Rattle.cjc_bytes.specs.Breaks.{Break, at, each_from}
use Rattle.cjc_bytes.specs.Order.{FilePlace, file_of}
use Rattle.cjc_bytes.specs.declared.fault.MemberId.{MemberId}
use Rattle.cjc_bytes.specs.declared.settings.Settings.{Settings}
use Rattle.cjc_bytes.proofs.BrokenRules.{not_broken, each_at}
use Rattle.cjc_bytes.proofs.Lists.{none_left, none_right}
use Rattle.cjc_bytes.proofs.Bools.{or_left, or_right}
use Rattle.cjc_code.specs.ClassFile.Code.{CodeTree}
use Rattle.cjc_code.specs.ClassFile.declared.tree.ClassTree.{ClassTree}
use Rattle.cjc_code.specs.ClassFile.declared.tree.MethodTree.{MethodTree}
use Rattle.cjc_code.specs.declared.insn.JInsn.{JInsn}
use Rattle.cjc_code.specs.declared.insn.JOp.{JOp}
use Rattle.cjc_code.specs.declared.insn.JOp.TheVariants as jop
use Rattle.cjc_code.specs.declared.method_code.MethodCode.{MethodCode}
use Rattle.cjc_jvm_semantics.specs.OnePackage.{is_made, made_of, object_fields}
use Rattle.cjc_narrow_proof.specs.Laws.Unbroken.{IsInsnOf, IsUnbroken, KeepsNames}
use Rattle.cjc_narrow_proof.proofs.LawsLaws.Handlers.{class_there, entry_clean, insn_clean}
use Rattle.cjc_vtable.proofs.SubsetCallees.{method_unfound}
use Rattle.cjc_vtable.specs.LowerSubset.Checks.{check_breaks, class_breaks, code_breaks, insn_breaks, list_breaks}
use Rattle.cjc_vtable.specs.LowerSubset.Checks.{names_variable}
use Rattle.cjc_vtable.specs.LowerSubset.Members.{is_array, is_descriptor}
use Rattle.cjc_vtable.specs.LowerSubset.Names.{is_abstract_of, is_member_missing, is_name_missing, is_not_found}
use Rattle.cjc_vtable.specs.LowerSubset.Names.{is_unfound}
use Rattle.cjc_vtable.specs.LowerSubset.Names.{is_unfit_new, names_missing, names_other_kind, names_unfit}
use Rattle.cjc_vtable.specs.LowerSubset.Names.{names_unfound}
use Rattle.cjc_vtable.specs.LowerSubset.Places.{at_method, of_class, of_method}
use Rattle.cjc_vtable.specs.LowerSubset.Types.{names_unsupported, names_int}
use Rattle.cjc_types.specs.Tables.{IsMethodOf}
use Rattle.cjc_world.specs.declared.found.Found.{Found}
use Rattle.cjc_world.specs.Classes.{Class, all_classes, class_named}
use Rattle.cjc_world.specs.Files.{Files}
use Rattle.cjc_world.specs.Lookup.{find_field, find_method}
use Rattle.cjc_world.specs.Rules.{is_desc_missing, is_interface_of, is_missing, is_type_missing}

-- ---- 301 and 310 of an instruction

module _ (list : List ℕ) (files : Files) (codes : List MethodCode) (settings : Settings) (unbroken : check_breaks list
    files codes settings ≡ []) (code : MethodCode) (class : ClassTree) (method : MethodTree) (tree : CodeTree)
    (is : IsMethodOf files code class method tree) (listed : Contains codes code) where
  abbrev f : FilePlace
  f = file_of files.lines code.class

  abbrev by_insn : FilePlace → ClassTree → MethodTree → List Break
  by_insn g c m = each_from (λ _ insn. insn_breaks files settings g c code.method m insn) 0 code.insns

  pub types_fit : (k : ℕ) (i : JInsn) → slice_get code.insns k ≡ Some i → (names_unsupported i.op ≡ false)
      × (names_variable files i.op ≡ false)
  unfolding check_breaks code_breaks insn_breaks
  types_fit k i e =
      let front = list_breaks list files settings
      ++ each_from (λ n c. class_breaks files settings (file_of files.lines n) n c) 0 files.classes in
      let all = none_right front (each_from (λ _ c. code_breaks files settings c) 0 codes) unbroken in
      let there : slice_get codes listed.0 ≡ Some code = slice_get-get_or codes listed.0 code listed.1
      ∙ ap Some listed.2 in
      let here = each_at (λ _ c. code_breaks files settings c) listed.0 codes code all there in
      let mine : by_insn f class method ≡ [] = sym (ap (of_method by_insn f class) is.is_method)
      ∙ sym (ap (of_class by_insn f code.method) is.is_class) ∙ here in
      let own = each_at (λ _ insn. insn_breaks files settings f class code.method method insn) k code.insns i mine e in
      let spot = at_method f class code.method method i.at in
      let A = at (names_unsupported i.op) spot 301 in
      let B = at (not settings.ints && names_int i.op) spot 302 in
      let C = at (names_variable files i.op) spot 310 in (
        not_broken (names_unsupported i.op) spot 301 (none_left A B (none_left (A ++ B) C own)),
        not_broken (names_variable files i.op) spot 310 (none_right (A ++ B) C own),
      )

-- ---- names of classes

module _ (w : List Class) where
  -- what is no array and not missing is there
  plain_there : (name : List ℕ) → is_array name ≡ false → is_name_missing w name ≡ false → (c : Class)
      × (class_named w name ≡ Some c)
  unfolding is_name_missing
  plain_there name open_name e = class_there w name (by (is_array name) open_name e)
    where
      by : (b : Bool) → b ≡ false → (if b then not (is_descriptor name) || is_type_missing w name
          else is_missing w name) ≡ false → is_missing w name ≡ false
      by true f g = absurd cc
      by false f g = g

  pub array_of_class : (name : List ℕ) → names_missing w (jop.ANewArray name) ≡ false
      → names_unsupported (jop.ANewArray name) ≡ false → (c : Class) × (class_named w name ≡ Some c)
  unfolding names_missing names_unsupported
  array_of_class name there fit = plain_there name fit there

  pub new_is_made : (name : List ℕ) → is_name_missing w name ≡ false → is_unfit_new w name ≡ false
      → made_of w name ≡ Some (object_fields w name)
  new_is_made name there fit =
      let front = or_left (is_array name || is_abstract_of (class_named w name)) (is_interface_of (class_named w name))
      fit in
      let c = plain_there name (or_left (is_array name) (is_abstract_of (class_named w name)) front) there in
      let concrete : is_abstract c.0.flags ≡ false = ap is_abstract_of (sym c.1)
      ∙ or_right (is_array name) (is_abstract_of (class_named w name)) front in
      let is_class : is_interface c.0.flags ≡ false = ap is_interface_of (sym c.1) ∙ or_right (is_array name
      || is_abstract_of (class_named w name)) (is_interface_of (class_named w name)) fit in
      let made : is_made c.0 ≡ true = ap (λ b. not b && not (is_abstract c.0.flags)) is_class ∙ ap not concrete in
      ap (option_and_then (λ c. if is_made c then Some (object_fields w name) else None)) c.1
      ∙ ap (λ b. if b then Some (object_fields w name) else None) made

  -- a member that is named: its class is there, and it is found
  pub member_there : (id : MemberId) (o : Option Found) → is_member_missing w id ≡ false → is_unfound w id o ≡ false
      → (c : Class) × (f : Found) × (class_named w id.class ≡ Some c) × (o ≡ Some f)
  member_there id o there found =
      let class_is = or_left (is_name_missing w id.class) (is_desc_missing w id.desc) there in
      let two = by (is_name_missing w id.class) class_is found in
      let c = plain_there id.class (or_left (is_array id.class) (is_not_found o) two) class_is in
      let f = some o (or_right (is_array id.class) (is_not_found o) two) in
      (c.0, f.0, c.1, f.1)
    where
      by : (b : Bool) → b ≡ false → (not b && (is_array id.class || is_not_found o)) ≡ false
          → (is_array id.class || is_not_found o) ≡ false
      by true e g = absurd cc
      by false e g = g

      some : (o : Option Found) → is_not_found o ≡ false → (f : Found) × (o ≡ Some f)
      some None e = absurd cc
      some (Some f) e = (f, refl)

-- ---- by instruction

module _ (files : Files) (class : ClassTree) where
  abbrev w : List Class
  w = all_classes files

  pub new_fields : (name : List ℕ) → names_missing w (jop.New name) ≡ false → names_unfit files class (jop.New name)
      ≡ false → made_of w name ≡ Some (object_fields w name)
  unfolding names_missing names_unfit
  new_fields name there fit = new_is_made w name there fit

  pub field_there : (put : Bool) (id : MemberId) → names_missing w (jop.Field put id) ≡ false
      → names_unfound w (jop.Field put id) ≡ false → (c : Class) × (f : Found) × (class_named w id.class ≡ Some c)
      × (find_field w id.class id.name id.desc ≡ Some f)
  unfolding names_missing names_unfound
  field_there put id there found = member_there w id (find_field w id.class id.name id.desc) there found

  pub static_there : (put : Bool) (id : MemberId) → names_missing w (jop.Static put id) ≡ false
      → names_unfound w (jop.Static put id) ≡ false → (c : Class) × (f : Found) × (class_named w id.class ≡ Some c)
      × (find_field w id.class id.name id.desc ≡ Some f)
  unfolding names_missing names_unfound
  static_there put id there found = member_there w id (find_field w id.class id.name id.desc) there found

  pub method_there : (op : ℕ) (id : MemberId) → names_missing w (jop.Call op id) ≡ false
      → names_unfound w (jop.Call op id) ≡ false → (c : Class) × (f : Found) × (class_named w id.class ≡ Some c)
      × (find_method w id.class id.name id.desc ≡ Some f)
  unfolding names_missing
  method_there op id there found = member_there w id (find_method w id.class id.name id.desc) there
      (method_unfound w id op found)

-- ---- of a package

pub kept_names : {list : List ℕ} {files : Files} {codes : List MethodCode} {settings : Settings}
    → IsUnbroken list files codes settings → KeepsNames list files codes settings
kept_names is = record { listed = is.listed; world = is.world; names = is.names; checks = is.checks }

module _ (list : List ℕ) (files : Files) (codes : List MethodCode) (settings : Settings) (is : KeepsNames list files
    codes settings) (class : ClassTree) (op : JOp) (at : IsInsnOf files codes class op) where
  pub op_there : (names_missing (all_classes files) op ≡ false) × (names_unfound (all_classes files) op ≡ false)
      × (names_unfit files class op ≡ false)
  op_there =
      let clean = insn_clean files codes is.names at.code class at.method at.tree at.of_package at.listed at.place
      at.insn at.is_insn in (
        ap (names_missing (all_classes files)) (sym at.is_op) ∙ clean.0,
        ap (names_unfound (all_classes files))
            (sym at.is_op) ∙ clean.1,
        ap (names_unfit files class) (sym at.is_op) ∙ clean.2,
      )

  entry_there : names_other_kind (all_classes files) class at.method (let i = at.insn in i.at) op ≡ false
  entry_there =
      let i = at.insn in
      ap (names_other_kind (all_classes files) class at.method i.at) (sym at.is_op)
      ∙ entry_clean files codes is.names at.code class at.method at.tree at.of_package at.listed at.place at.insn
      at.is_insn

  pub op_fit : (names_unsupported op ≡ false) × (names_variable files op ≡ false)
  op_fit =
      let fit = types_fit list files codes settings is.checks at.code class at.method at.tree at.of_package at.listed
      at.place at.insn at.is_insn in
      (ap names_unsupported (sym at.is_op) ∙ fit.0, ap (names_variable files) (sym at.is_op) ∙ fit.1)

module _ (list : List ℕ) (files : Files) (codes : List MethodCode) (settings : Settings) (is : KeepsNames list files
    codes settings) (class : ClassTree) (id : MemberId) where
  -- 205: what invokevirtual names is no interface
  pub virtual_there : IsInsnOf files codes class (jop.Call 0xB6 id)
      → is_interface_of (class_named (all_classes files) id.class) ≡ false
  unfolding names_other_kind
  virtual_there at = entry_there list files codes settings is class (jop.Call 0xB6 id) at
