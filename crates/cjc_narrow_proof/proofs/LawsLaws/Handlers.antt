-- What the handlers of a method that breaks no rule of names catch.
use Rattle.std.proofs.Common.{◌≡◌, ℕ, refl, sym, ap, ◌∙◌, false, List, [], ◌++◌}
use Rattle.std.specs.Prelude.{Option, Some, None, slice_get}
use Rattle.std.specs.List.{Contains}
use Rattle.std.proofs.lemmas.Option.{slice_get-get_or}
use Rattle.cjc_bytes.specs.Breaks.{Break, at, each_from}
use Rattle.cjc_bytes.specs.Order.{FilePlace, file_of}
use Rattle.cjc_bytes.proofs.BrokenRules.{not_broken, each_at}
use Rattle.cjc_bytes.proofs.Lists.{none_left, none_right}
use Rattle.cjc_bytes.proofs.Bools.{or_right}
use Rattle.cjc_code.specs.ClassFile.Code.{CodeTree}
use Rattle.cjc_code.specs.ClassFile.declared.tree.Catch.{Catch}
use Rattle.cjc_code.specs.ClassFile.declared.tree.ClassTree.{ClassTree}
use Rattle.cjc_code.specs.ClassFile.declared.tree.MethodTree.{MethodTree}
use Rattle.cjc_code.specs.declared.insn.JInsn.{JInsn}
use Rattle.cjc_code.specs.declared.method_code.MethodCode.{MethodCode}
use Rattle.cjc_vtable.specs.LowerSubset.Members.{is_array}
use Rattle.cjc_vtable.specs.LowerSubset.Names.{catch_breaks, catches_missing, catches_of, code_breaks, insn_breaks}
use Rattle.cjc_vtable.specs.LowerSubset.Names.{method_breaks}
use Rattle.cjc_vtable.specs.LowerSubset.Names.{name_breaks, names_missing, names_other_kind, names_unfit, names_unfound}
use Rattle.cjc_vtable.specs.LowerSubset.Places.{at_method, of_class, of_method}
use Rattle.cjc_types.specs.Tables.{IsMethodOf}
use Rattle.cjc_world.specs.Classes.{Class, all_classes, class_named}
use Rattle.cjc_world.specs.Files.{Files}
use Rattle.cjc_world.specs.Rules.{is_missing, is_none_of}

-- a class that is not missing is there
pub class_there : (w : List Class) (name : List ℕ) → is_missing w name ≡ false → (c : Class)
    × (class_named w name ≡ Some c)
class_there w name e = by (class_named w name) refl e
  where
    by : (o : Option Class) → class_named w name ≡ o → is_none_of o ≡ false → (c : Class)
        × (class_named w name ≡ Some c)
    by None f e = absurd cc
    by (Some c) f e = (c, f)

module _ (files : Files) (codes : List MethodCode) (unbroken : name_breaks files codes ≡ []) (code : MethodCode)
    (class : ClassTree) (method : MethodTree) (tree : CodeTree) (is : IsMethodOf files code class method tree)
    (listed : Contains codes code) where
  abbrev f : FilePlace
  f = file_of files.lines code.class

  abbrev by_method : FilePlace → ClassTree → MethodTree → List Break
  by_method g c m = method_breaks files g c code.method m code.insns

  abbrev by_insn : ℕ → JInsn → List Break
  by_insn _ insn = insn_breaks files f class code.method method insn

  abbrev by_catch : ℕ → Catch → List Break
  by_catch _ k = catch_breaks files f class code.method method k

  -- nothing is broken in the method
  method_clean : method_breaks files f class code.method method code.insns ≡ []
  unfolding name_breaks code_breaks
  method_clean =
      let there : slice_get codes listed.0 ≡ Some code = slice_get-get_or codes listed.0 code listed.1
      ∙ ap Some listed.2 in
      let here = each_at (λ _ c. code_breaks files c) listed.0 codes code unbroken there in
      sym (ap (of_method by_method f class) is.is_method) ∙ sym (ap (of_class by_method f code.method) is.is_class)
      ∙ here

  -- 203 of a handler
  pub caught_there : (c : Catch) (name : List ℕ) → Contains tree.catches c → c.class ≡ Some name
      → is_missing (all_classes files) name ≡ false
  unfolding method_breaks catch_breaks catches_missing
  caught_there c name (n, lt, same) e =
      let catches : each_from by_catch 0 tree.catches ≡ [] =
      sym (ap (λ o. each_from by_catch 0 (catches_of o)) is.is_code) ∙ none_right (each_from by_insn 0 code.insns)
      (each_from by_catch 0 (catches_of method.code)) method_clean in
      let there : slice_get tree.catches n ≡ Some c = slice_get-get_or tree.catches n c lt ∙ ap Some same in
      let here = each_at by_catch n tree.catches c catches there in
      let fine = not_broken (catches_missing (all_classes files) c.class) (at_method f class code.method method
      c.target) 203 here in
      or_right (is_array name) (is_missing (all_classes files) name) (sym (ap (catches_missing (all_classes files)) e)
      ∙ fine)

  -- 203, 205 and 206 of an instruction
  pub insn_clean : (k : ℕ) (i : JInsn) → slice_get code.insns k ≡ Some i
      → (names_missing (all_classes files) i.op ≡ false) × (names_unfound (all_classes files) i.op ≡ false)
      × (names_unfit files class i.op ≡ false)
  unfolding method_breaks insn_breaks
  insn_clean k i e =
      let insns = none_left (each_from by_insn 0 code.insns) (each_from by_catch 0 (catches_of method.code))
      method_clean in
      let here = each_at by_insn k code.insns i insns e in
      let spot = at_method f class code.method method i.at in
      let A = at (names_missing (all_classes files) i.op) spot 203 in
      let B = at (names_unfound (all_classes files) i.op) spot 205 in
      let K = at (names_other_kind (all_classes files) class method i.at i.op) spot 205 in
      let C = at (names_unfit files class i.op) spot 206 in
      let front = none_left (A ++ B) K (none_left (A ++ B ++ K) C here) in (
        not_broken (names_missing (all_classes files) i.op) spot 203 (none_left A B front),
        not_broken (names_unfound (all_classes files) i.op) spot 205 (none_right A B front),
        not_broken (names_unfit files class i.op) spot 206 (none_right (A ++ B ++ K) C here),
      )

  -- 205 of the entry by which it names a method
  pub entry_clean : (k : ℕ) (i : JInsn) → slice_get code.insns k ≡ Some i
      → names_other_kind (all_classes files) class method i.at i.op ≡ false
  unfolding method_breaks insn_breaks
  entry_clean k i e =
      let insns = none_left (each_from by_insn 0 code.insns) (each_from by_catch 0 (catches_of method.code))
      method_clean in
      let here = each_at by_insn k code.insns i insns e in
      let spot = at_method f class code.method method i.at in
      let A = at (names_missing (all_classes files) i.op) spot 203 in
      let B = at (names_unfound (all_classes files) i.op) spot 205 in
      let K = at (names_other_kind (all_classes files) class method i.at i.op) spot 205 in
      let C = at (names_unfit files class i.op) spot 206 in
      not_broken (names_other_kind (all_classes files) class method i.at i.op) spot 205 (none_right (A
      ++ B) K (none_left (A ++ B ++ K) C here))
