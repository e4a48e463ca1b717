-- What files keep by the formats that they are read by.
use Rattle.std.proofs.Common.{◌≡◌, ℕ, zero, suc, ◌+◌, refl, sym, ap, subst, ◌∙◌, Bool, true, false, List, [], ◌∷◌, ◌++◌}
use Rattle.std.specs.Prelude.{◌&&◌, ◌==◌, length, Option, Some, None, option_and_then, is_some, is_none, if◌then◌else◌}
use Rattle.std.specs.Prelude.{codes}
use Rattle.std.specs.Int.{w16, from_be_bytes}
use Rattle.std.specs.Str.{bytes_eq}
use Rattle.cjc_world.specs.Bytes.Format.{Spells, FileSpells, repeated, iterated}
use Rattle.cjc_world.specs.ClassFile.declared.tree.ClassTree.{ClassTree}
use Rattle.cjc_world.specs.ClassFile.declared.tree.MethodTree.{MethodTree}
use Rattle.cjc_world.specs.ClassFile.Code.{CodeTree}
use Rattle.cjc_world.specs.ClassFile.Entry.{Entry}
use Rattle.cjc_world.specs.ClassFile.Items.{text_at}
use Rattle.cjc_world.specs.Bytes.AccessFlags.{has, is_interface}
use Rattle.cjc_world.proofs.BytesLists.{bytes_true}
use Rattle.cjc_world.specs.ClassFile.Methods.{is_code, code_name_at, method_content, method_attribute, attribute_count}
use Rattle.cjc_world.specs.ClassFile.Methods.{needs_code, method_tree}
use Rattle.cjc_world.specs.ClassFile.ClassFile.{back_part, class_file}
use Rattle.cjc_world.specs.ExportFile.declared.tree.ExportClass.{ExportClass}
use Rattle.cjc_world.specs.ExportFile.declared.tree.ExportMethod.{ExportMethod}
use Rattle.cjc_world.specs.ExportFile.declared.tree.ExportTree.{ExportTree}
use Rattle.cjc_world.specs.ExportFile.Members.{not_special}
use Rattle.cjc_world.specs.ExportFile.Writable.{EachAfter, MethodStands, ClassFits, IsWritable}
use Rattle.cjc_tokens.specs.Members.{is_constructor}
use Rattle.cjc_vtable.proofs.Filed.{Has, at_front, behind}

-- ---- the code of a method

-- where no attribute is left the code has come
IsAwaited : ℕ → Option CodeTree → Type 0
IsAwaited n s = n ≡ 0 → is_some s ≡ true

-- an attribute that is not the code, where none is left
not-code : (awaited : Bool) (n : ℕ) (name : List ℕ) → is_code awaited n name ≡ Some false → n ≡ 0 → awaited ≡ false
not-code false n name e z = refl
not-code true n name e z = by (bytes_eq name (codes "Code")) (n == 0) e (ap (λ k. k == 0) z)
  where
    by : (t last : Bool) → (if t then Some true else if true && last then None else Some false) ≡ Some false
        → last ≡ true → true ≡ false
    by true last e f = cc
    by false true e f = cc
    by false false e f = cc

come : (s : Option CodeTree) → is_none s ≡ false → is_some s ≡ true
come None e = cc
come (Some c) e = refl

named : (awaited : Bool) (n : ℕ) (o : Option (List ℕ)) (is_it : Bool) → option_and_then (is_code awaited n) o
    ≡ Some is_it → (name : List ℕ) × (is_code awaited n name ≡ Some is_it)
named awaited n None is_it e = cc
named awaited n (Some name) is_it e = (name, e)

module _ (pool : List Entry) where
  content : (is_it : Bool) (n at : ℕ) (s t : Option CodeTree) (bytes : List ℕ)
      → ((name : List ℕ) × (is_code (true && is_none s) n name ≡ Some is_it))
      → Spells (method_content pool is_it s) at t bytes → IsAwaited n t
  unfolding Spells method_content IsAwaited
  content true n at s t bytes r h = λ z. ap is_some (sym h.5.1)
  content false n at s t bytes r h = λ z. ap is_some (sym h.5.1) ∙ come s (not-code (is_none s) n r.0 r.1 z)

  attributes : (n at : ℕ) (s t : Option CodeTree) (bytes : List ℕ) → IsAwaited n s
      → Spells (iterated n (method_attribute pool true) s) at t bytes → is_some t ≡ true
  unfolding Spells iterated method_attribute code_name_at IsAwaited
  attributes zero at s t bytes a h = ap is_some (sym h.1) ∙ a refl
  attributes (suc n) at s t bytes a h =
      let one = h.4 in
      attributes n (at + length h.1) h.0 t h.2 (content one.0 n (at + length one.1) s h.0 one.2 (named (true
      && is_none s) n (text_at pool (from_be_bytes w16 one.1)) one.0 one.4.1) one.5) h.5

  counted : (k n : ℕ) → attribute_count true k ≡ Some n → n ≡ 0 → ⊥
  counted k n e z = by (k == 0) refl e
    where
      by : (b : Bool) → (k == 0) ≡ b → (if true && b then None else Some k) ≡ Some n → ⊥
      by true f e = cc
      by false f e = let is : k ≡ n = cc in let no : (k == 0) ≡ true = ap (λ v. v == 0) (is ∙ z) in cc

  method-code : (at : ℕ) (m : MethodTree) (bytes : List ℕ) → Spells (method_tree pool) at m bytes
      → has m.flags 0x0400 ≡ false → has m.flags 0x0100 ≡ false → is_some m.code ≡ true
  unfolding Spells method_tree IsAwaited
  method-code at m bytes h e f =
      let flags = h.0 in
      let name = h.5 in
      let desc = name.5 in
      let count = desc.5 in
      let tree = count.5 in
      let is = tree.5.1 in
      let same_flags : flags ≡ m.flags = ap (λ (v : MethodTree). v.flags) is in
      let needed : needs_code flags ≡ true = needs flags (ap (λ v. has v 0x0400) same_flags
      ∙ e) (ap (λ v. has v 0x0100) same_flags ∙ f) in
      let some = subst (λ (v : Bool). attribute_count v (from_be_bytes w16 count.1) ≡ Some count.0) needed count.4.1 in
      let place = at + length h.1 + length name.1 + length desc.1 + length count.1 in
      ap (λ (v : MethodTree). is_some v.code) (sym is) ∙ attributes count.0 place None tree.0 tree.1
      (λ z. absurd (counted (from_be_bytes w16 count.1) count.0 some z))
      (subst (λ (v : Bool). Spells (iterated count.0 (method_attribute pool v) None) place tree.0 tree.1) needed
      tree.4)
    where
      needs : (flags : ℕ) → has flags 0x0400 ≡ false → has flags 0x0100 ≡ false → needs_code flags ≡ true
      needs flags e f = ap (λ v. if v then false else (if has flags 0x0100 then false else true)) e
          ∙ ap (λ v. if v then false else true) f

  methods-code : (n at : ℕ) (m : MethodTree) (ms : List MethodTree) (bytes : List ℕ)
      → Spells (repeated n (method_tree pool)) at ms bytes → Has m ms → has m.flags 0x0400 ≡ false
      → has m.flags 0x0100 ≡ false → is_some m.code ≡ true
  unfolding Spells repeated
  methods-code zero at m ms bytes h i e f = absurd (none m (subst (Has m) (sym h.1) i))
    where
      none : (m : MethodTree) → Has m [] → ⊥
      none m i = elim i [ ]
  methods-code (suc n) at m ms bytes h i e f =
      either h.0 h.5.0 (subst (Has m) (sym h.5.5.1) i)
      (λ is. method-code at m h.1 (subst (λ (v : MethodTree). Spells (method_tree pool) at v h.1) (sym is) h.4) e f)
      (λ j. methods-code n (at + length h.1) m h.5.0 h.5.1 h.5.4 j e f)
    where
      either : (x : MethodTree) (xs : List MethodTree) → Has m (x ∷ xs) → (m ≡ x → is_some m.code ≡ true)
          → (Has m xs → is_some m.code ≡ true) → is_some m.code ≡ true
      either x xs at_front one rest = one refl
      either x xs (behind j) one rest = rest j

-- a method of a class file that is neither abstract nor native has code
pub has-code : (t : ClassTree) (bytes : List ℕ) (m : MethodTree) → FileSpells class_file t bytes → Has m t.methods
    → has m.flags 0x0400 ≡ false → has m.flags 0x0100 ≡ false → is_some m.code ≡ true
unfolding Spells class_file back_part
has-code t bytes m h i e f =
    let flags = h.5.5 in
    let name = flags.5 in
    let superclass = name.5 in
    let interface_count = superclass.5 in
    let interfaces = interface_count.5 in
    let field_count = interfaces.5 in
    let fields = field_count.5 in
    let method_count = fields.5 in
    let methods = method_count.5 in
    let is = methods.5.5.5.1 in
    methods-code h.0.1 method_count.0 _ m methods.0 methods.1 methods.4
    (subst (Has m) (ap (λ (v : ClassTree). v.methods) (sym is)) i) e f

-- ---- the methods of an interface

pub each-after : {A : Type 0} (P : List A → A → Type 0) (before xs : List A) (x : A) → EachAfter P before xs → Has x xs
    → (b : List A) × P b x
each-after P before [] x h i = elim i [ ]
each-after P before (y ∷ xs) x h at_front = (before, h.0)
each-after P before (y ∷ xs) x h (behind i) = each-after P (before ++ y ∷ []) xs x h.1 i

plain-name : (name : List ℕ) → not_special name ≡ Some name → is_constructor name ≡ false
plain-name name e = by (is_constructor name) refl
  where
    by : (b : Bool) → is_constructor name ≡ b → is_constructor name ≡ false
    by true f =
        let none : not_special name ≡ None = ap not_special (bytes_true name (codes "<init>") f) in
        cc
    by false f = f

-- no method of an interface of an export file is named like a constructor
pub plain-interface : (t : ExportTree) (c : ExportClass) (m : ExportMethod) → IsWritable t → Has c t.classes
    → Has m c.methods → is_interface c.flags ≡ true → is_constructor m.name ≡ false
plain-interface t c m w h i inter =
    let fits = each-after ClassFits [] t.classes c w.classes h in
    let stands = each-after (MethodStands (is_interface c.flags) (length c.methods)) [] c.methods m fits.1.methods i in
    let interface_stands = subst (λ (v : Bool). MethodStands v (length c.methods) stands.0 m) inter stands.1 in
    plain-name m.name interface_stands.2
