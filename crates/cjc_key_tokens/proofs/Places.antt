-- The tokens that a package and its export files keep of methods, by the places of the methods.
use Rattle.std.proofs.Common.{◌≡◌, ℕ, zero, suc, ◌+◌, refl, sym, ap, ◌∙◌, Bool, true, false, List, [], ◌∷◌, ◌++◌, map, length, arith, Option, Some, None}
use Rattle.std.specs.Prelude.{slice_get, option_map, option_and_then, not, ◌&&◌, ◌||◌, if◌then◌else◌}
use Rattle.std.proofs.lemmas.List.{length-map, map-append}
use Rattle.std.proofs.lemmas.Option.{slice_get-map}
use Rattle.cjc_bytes.specs.AccessFlags.{is_interface}
use Rattle.cjc_classfile.specs.declared.tree.ClassTree.{ClassTree}
use Rattle.cjc_classfile.specs.declared.tree.FieldTree.{FieldTree}
use Rattle.cjc_export.specs.declared.tree.ExportClass.{ExportClass}
use Rattle.cjc_export.specs.declared.tree.ExportMethod.{ExportMethod}
use Rattle.cjc_export.specs.declared.tree.ExportTree.{ExportTree}
use Rattle.cjc_world.specs.Files.{Files}
use Rattle.cjc_world.specs.Classes.{Class, Member, all_classes, declared, field_of_class, field_of_export, imported, method_of_export}
use Rattle.cjc_world.specs.Added.{added}
use Rattle.cjc_world.specs.Exported.{is_exported}
use Rattle.cjc_world.specs.Lookup.{is_selectable, member_at}
use Rattle.cjc_subset.specs.Members.{imports}
use Rattle.cjc_tokens.specs.Fields.{field_tokens}
use Rattle.cjc_tokens.specs.Lines.{line_at}
use Rattle.cjc_tokens.specs.Members.{is_constructor, is_hidden, is_initialiser, is_shown, is_virtual, signature_of}
use Rattle.cjc_tokens.specs.Methods.{class_method_token, class_method_tokens, interface_methods, interface_token, with_high_bit}
use Rattle.cjc_tokens.specs.Slots.{Slots, hidden_slots, slots, token}
use Rattle.cjc_tokens.specs.Tokens.{OfClass, assigned, classes_from, imports_of, joined, listed_field_token, listed_method_token, method_tokens, of_class, of_import, one_more, token_of_member}
use Rattle.cjc_tokens.proofs.Held.{at_front}
use Rattle.cjc_vtable.proofs.SlotNames.{get-behind}

-- ---- of the package

class_row : (w : List Class) (applets : Bool) (b m : ℕ) (cs : List ClassTree) (n : ℕ) (c : ClassTree) → slice_get cs n ≡ Some c → (a : ℕ) × (slice_get (classes_from w applets b m cs) n ≡ Some (of_class w applets a (m + n) c))
unfolding classes_from
class_row w applets b m [] n c e = cc
class_row w applets b m (x ∷ cs) zero c e =
    let same : x ≡ c = cc in
    let z : m ≡ m + 0 = omega arith in
    (b, ap (λ (t : ClassTree). Some (of_class w applets b m t)) same ∙ ap (λ k. Some (of_class w applets b k c)) z)
class_row w applets b m (x ∷ cs) (suc n) c e =
    let r = class_row w applets (one_more (is_exported w applets (declared m x)) b) (m + 1) cs n c e in
    let s : m + 1 + n ≡ m + suc n = omega arith in
    (r.0, r.1 ∙ ap (λ k. Some (of_class w applets r.0 k c)) s)

fields_long : (exported : Bool) (fs : List FieldTree) (i : ℕ) (rest : List FieldTree) → length (field_tokens exported fs i rest) ≡ length rest
unfolding field_tokens
fields_long exported fs i [] = refl
fields_long exported fs i (f ∷ rest) = ap suc (fields_long exported fs (i + 1) rest)

method_row : (exported : Bool) (shown hidden : Slots) (ms : List Member) (i : ℕ) (rest : List Member) (k : ℕ) (m : Member) → slice_get rest k ≡ Some m
    → slice_get (class_method_tokens exported shown hidden ms i rest) k ≡ Some (class_method_token exported shown hidden ms (i + k) m)
unfolding class_method_tokens
method_row exported shown hidden ms i [] k m e = cc
method_row exported shown hidden ms i (x ∷ rest) zero m e =
    let same : x ≡ m = cc in
    let z : i ≡ i + 0 = omega arith in
    ap (λ (y : Member). Some (class_method_token exported shown hidden ms i y)) same ∙ ap (λ j. Some (class_method_token exported shown hidden ms j m)) z
method_row exported shown hidden ms i (x ∷ rest) (suc k) m e =
    let s : i + 1 + k ≡ i + suc k = omega arith in
    method_row exported shown hidden ms (i + 1) rest k m e ∙ ap (λ j. Some (class_method_token exported shown hidden ms j m)) s

module _ (files : Files) (applets : Bool) (n : ℕ) (t : ClassTree) (there : slice_get files.classes n ≡ Some t) (plain : is_interface t.flags ≡ false) where
  abbrev c : Class
  c = declared n t

  abbrev shown_slots : Slots
  shown_slots = slots (line_at (all_classes files) c)

  abbrev hidden_ones : Slots
  hidden_ones = hidden_slots (line_at (all_classes files) c)

  kept : (k : ℕ) (m : Member) → slice_get c.methods k ≡ Some m
      → (b : Bool) × (token_of_member (assigned applets files) (member_at c (length c.fields + k)) ≡ class_method_token b shown_slots hidden_ones c.methods k m)
  unfolding assigned
  kept k m at =
      let w = all_classes files in
      let r = class_row w applets 0 0 files.classes n t there in
      let z : 0 + n ≡ n = omega arith in
      let zk : 0 + k ≡ k = omega arith in
      let row = r.1 ∙ ap (λ j. Some (of_class w applets r.0 j t)) z in
      let ex = is_exported w applets (declared n t) in
      let fields : length c.fields ≡ length (field_tokens ex t.fields 0 t.fields) = length-map t.fields field_of_class ∙ sym (fields_long ex t.fields 0 t.fields) in
      let own = method_row ex shown_slots hidden_ones c.methods 0 c.methods k m at in
      let methods : method_tokens w ex c ≡ class_method_tokens ex shown_slots hidden_ones c.methods 0 c.methods ++ map (λ m. token shown_slots (signature_of m)) (added w c) =
      ap (λ b. if b then map (interface_token (interface_methods w c)) c.methods else class_method_tokens ex shown_slots hidden_ones c.methods 0 c.methods ++ map (λ m. token shown_slots (signature_of m)) (added w c)) plain in
      let member : slice_get (field_tokens ex t.fields 0 t.fields ++ method_tokens w ex c) (length c.fields + k) ≡ Some (class_method_token ex shown_slots hidden_ones c.methods (0 + k) m) =
      ap (λ j. slice_get (field_tokens ex t.fields 0 t.fields ++ method_tokens w ex c) (j + k)) fields
      ∙ get-behind (field_tokens ex t.fields 0 t.fields) (method_tokens w ex c) k
      ∙ ap (λ xs. slice_get xs k) methods
      ∙ at_front (class_method_tokens ex shown_slots hidden_ones c.methods 0 c.methods) (map (λ m. token shown_slots (signature_of m)) (added w c)) k _ own in (
        ex,
        ap (λ (o : Option OfClass). option_and_then (λ (x : OfClass). joined (slice_get x.members (length c.fields + k))) o) row
            ∙ ap joined member
            ∙ ap (λ j. class_method_token ex shown_slots hidden_ones c.methods j m) zk,
      )

  -- a public or protected virtual method has its slot's
  pub shown_kept : (k : ℕ) (m : Member) → slice_get c.methods k ≡ Some m → is_shown m ≡ true → token_of_member (assigned applets files) (member_at c (length c.fields + k)) ≡ token shown_slots (signature_of m)
  unfolding class_method_token
  shown_kept k m at is = let r = kept k m at in r.1 ∙ first_of _ _ (is_shown m) is
    where
      first_of : (a b : Option ℕ) (p : Bool) → p ≡ true → (if p then a else b) ≡ a
      first_of a b true e = refl
      first_of a b false e = cc

  -- a package-visible one has the high bit
  pub hidden_kept : (k : ℕ) (m : Member) → slice_get c.methods k ≡ Some m → is_shown m ≡ false → is_hidden m ≡ true
      → token_of_member (assigned applets files) (member_at c (length c.fields + k)) ≡ option_map with_high_bit (token hidden_ones (signature_of m))
  unfolding class_method_token
  hidden_kept k m at isnt is = let r = kept k m at in r.1 ∙ second_of _ _ _ (is_shown m) (is_hidden m) isnt is
    where
      second_of : (a b d : Option ℕ) (p q : Bool) → p ≡ false → q ≡ true → (if p then a else if q then b else d) ≡ b
      second_of a b d true q e f = cc
      second_of a b d false true e f = refl
      second_of a b d false false e f = cc

-- ---- of export files

imports_are : (ts : List ExportTree) → imports_of ts ≡ map of_import (imports ts)
imports_are [] = refl
imports_are (t ∷ ts) = ap (λ xs. map of_import t.classes ++ xs) (imports_are ts) ∙ sym (map-append of_import t.classes (imports ts))

pub listed_kept : (files : Files) (applets : Bool) (n : ℕ) (e : ExportClass) (k : ℕ) (m : Member) → slice_get (imports files.exports) n ≡ Some e → slice_get (imported n e).methods k ≡ Some m → is_virtual m ≡ true
    → token_of_member (assigned applets files) (member_at (imported n e) (length (imported n e).fields + k)) ≡ Some m.token
unfolding assigned
listed_kept files applets n e k m there at virtual =
    let row : slice_get (imports_of files.exports) n ≡ Some (of_import e) = ap (λ xs. slice_get xs n) (imports_are files.exports) ∙ slice_get-map of_import (imports files.exports) n ∙ ap (option_map of_import) there in
    let fields : length (imported n e).fields ≡ length (map listed_field_token e.fields) = length-map e.fields field_of_export ∙ sym (length-map e.fields listed_field_token) in
    let member : slice_get (of_import e) (length (imported n e).fields + k) ≡ option_map listed_method_token (slice_get e.methods k) =
    ap (λ j. slice_get (of_import e) (j + k)) fields ∙ get-behind (map listed_field_token e.fields) (map listed_method_token e.methods) k ∙ slice_get-map listed_method_token e.methods k in
    ap (λ (o : Option (List (Option ℕ))). option_and_then (λ (x : List (Option ℕ)). joined (slice_get x (length (imported n e).fields + k))) o) row
    ∙ ap joined member
    ∙ by (slice_get e.methods k) (sym (slice_get-map method_of_export e.methods k) ∙ at)
  where
    never : (a x y : Bool) → (a && not (x || y)) ≡ true → y ≡ false
    never true false false f = refl
    never true true y f = cc
    never true false true f = cc
    never false x y f = cc

    by : (o : Option ExportMethod) → option_map method_of_export o ≡ Some m → joined (option_map listed_method_token o) ≡ Some m.token
    by None f = cc
    by (Some x) f =
        let is : method_of_export x ≡ m = cc in
        let plain : is_initialiser x.name ≡ false = ap (λ (y : Member). is_initialiser y.name) is ∙ not_initialiser in
        ap (λ b. if b then None else Some x.token) plain ∙ ap (λ (y : Member). Some y.token) is
      where
        not_initialiser : is_initialiser m.name ≡ false
        not_initialiser = never (is_selectable m.flags) (is_constructor m.name) (is_initialiser m.name) virtual
