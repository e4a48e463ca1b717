-- Constants of a package are numbers.
use Rattle.std.proofs.Common.{◌≡◌, ℕ, zero, suc, length, refl, sym, ap, ◌∙◌, Bool, true, false, List, [], ◌∷◌, ◌++◌}
use Rattle.std.proofs.Common.{Option, Some, None, get_or, ℤ}
use Rattle.std.specs.Prelude.{slice_get, option_map, option_and_then, position, map, codes, ◌&&◌, ◌||◌, if◌then◌else◌}
use Rattle.std.specs.List.{flat_map}
use Rattle.std.specs.Str.{bytes_eq}
use Rattle.std.proofs.lemmas.List.Quantifiers.{position-Some}
use Rattle.std.proofs.lemmas.Option.{slice_get-get_or, slice_get-map}
use Rattle.std.proofs.lemmas.Slice.Eq.{bytes_eq-Decides}
use Rattle.cjc_bytes.specs.AccessFlags.{is_static, is_final}
use Rattle.cjc_bytes.specs.Spots.{after, bad_at, desc_of, parts_of, types_from}
use Rattle.cjc_narrow.specs.LowerJvmSemantics.OnePackage.{constant_at, constant_in, exported_constant}
use Rattle.cjc_world.specs.ClassFile.declared.tree.ClassTree.{ClassTree}
use Rattle.cjc_world.specs.ClassFile.declared.tree.FieldTree.{FieldTree}
use Rattle.cjc_world.specs.ExportFile.Members.{is_constant_type, may_be_constant}
use Rattle.cjc_world.specs.ExportFile.declared.tree.ExportClass.{ExportClass}
use Rattle.cjc_world.specs.ExportFile.declared.tree.ExportField.{ExportField}
use Rattle.cjc_world.specs.ExportFile.declared.tree.ExportTree.{ExportTree}
use Rattle.cjc_flow.specs.Constants.{AreNumbers}
use Rattle.cjc_subset.specs.Members.{imports}
use Rattle.cjc_narrow.specs.Types.Rules.{is_number}
use Rattle.cjc_narrow.specs.Types.Types.{parts, value_of}
use Rattle.cjc_vtable.proofs.Filed.{IsFiled, in_class_file, in_export_file, filed}
use Rattle.cjc_world.specs.Classes.{Class, Member, all_classes, class_named, field_of_class, field_of_export}
use Rattle.cjc_world.specs.Files.{Files}
use Rattle.cjc_world.specs.Supertypes.{Supertypes, known_as, in_a_row, supertypes_within, supertypes}
use Rattle.cjc_world.specs.Lookup.{or_else, is_called, member_at, own_field, field_in, find_field}
use Rattle.cjc_world.specs.declared.found.Found.{Found}
use Rattle.cjc_int_narrow.specs.Constants.{constants_of}

-- ---- the class of a field that is found

-- A class of the world has it as its own.
record FoundIn (w : List Class) (own : Class → Option Found) (f : Found) : Type 0 where
  name : List ℕ
  class : Class
  is_class : class_named w name ≡ Some class
  is_own : own class ≡ Some f

module _ (w : List Class) (own : Class → Option Found) (f : Found) where
  one_of : (a i s n : Option Found) → (a ≡ Some f → FoundIn w own f) → (i ≡ Some f → FoundIn w own f)
      → (s ≡ Some f → FoundIn w own f) → (n ≡ Some f → FoundIn w own f)
      → or_else (or_else a (or_else i s)) n ≡ Some f → FoundIn w own f
  one_of (Some a) i s n p q r t e = p e
  one_of None (Some i) s n p q r t e = q e
  one_of None None (Some s) n p q r t e = r e
  one_of None None None n p q r t e = t e

  known_in : (above : List (List ℕ) → Supertypes) → ((xs : List (List ℕ)) → field_in own (above xs) ≡ Some f
      → FoundIn w own f) → (x : List ℕ) (o : Option Class) → class_named w x ≡ o
      → (next : Supertypes) → (field_in own next ≡ Some f → FoundIn w own f) → field_in own (known_as above x o next)
      ≡ Some f → FoundIn w own f
  known_in above up x None is next go e = go e
  known_in above up x (Some c) is next go e =
      one_of (own c) (field_in own (above c.interfaces)) (field_in own (above c.supers)) (field_in own next)
      (λ a. record { name = x; class = c; is_class = is; is_own = a }) (up c.interfaces) (up c.supers) go e

  row_in : (above : List (List ℕ) → Supertypes) → ((xs : List (List ℕ)) → field_in own (above xs) ≡ Some f
      → FoundIn w own f) → (xs : List (List ℕ)) → field_in own (in_a_row w above xs) ≡ Some f → FoundIn w own f
  row_in above up [] e = absurd cc
  row_in above up (x ∷ xs) e = known_in above up x (class_named w x) refl (in_a_row w above xs) (row_in above up xs) e

  grown_in : (n : ℕ) (xs : List (List ℕ)) → field_in own (supertypes_within w n xs) ≡ Some f → FoundIn w own f
  unfolding supertypes_within
  grown_in zero xs e = absurd cc
  grown_in (suc n) xs e = row_in (supertypes_within w n) (grown_in n) xs e

  found_in : (xs : List (List ℕ)) → field_in own (supertypes w xs) ≡ Some f → FoundIn w own f
  unfolding supertypes
  found_in xs e = grown_in (suc (length w)) xs e

-- ---- a class's own field

-- The field that is found, with the descriptor that was asked for.
record IsFieldOf (c : Class) (desc : List ℕ) (f : Found) : Type 0 where
  member : Member
  is_at : f ≡ member_at c f.member
  there : slice_get c.fields f.member ≡ Some member
  is_desc : member.desc ≡ desc

no_member : Member
no_member = record { flags = 0; name = []; desc = []; token = 0 }

same_desc : (a b : List ℕ) (named : Bool) → (named && bytes_eq a b) ≡ true → a ≡ b
same_desc a b true e = (bytes_eq-Decides a b).0 e
same_desc a b false e = absurd cc

own_is : (name desc : List ℕ) (c : Class) (f : Found) → own_field name desc c ≡ Some f → IsFieldOf c desc f
unfolding own_field
own_is name desc c f e = by (position (λ m. is_called name desc m) c.fields) refl e
  where
    by : (o : Option ℕ) → position (λ m. is_called name desc m) c.fields ≡ o → option_map (λ i. member_at c i) o
        ≡ Some f → IsFieldOf c desc f
    by None is e = absurd cc
    by (Some i) is e =
        let here : member_at c i ≡ f = cc in
        let place : i ≡ f.member = ap (λ (x : Found). x.member) here in
        let at = position-Some (λ m. is_called name desc m) c.fields i no_member is in
        record {
          member = get_or c.fields i no_member;
          is_at = sym here ∙ ap (member_at c) place;
          there = ap (slice_get c.fields) (sym place) ∙ slice_get-get_or c.fields i no_member at.0;
          is_desc = same_desc (get_or c.fields i no_member).desc desc (bytes_eq (get_or c.fields i no_member).name name)
              at.1;
        }

-- ---- constants are of types of numbers

if_constant : (flags : ℕ) (desc : List ℕ) (o : Option ℤ) (z : ℤ) → (if may_be_constant flags desc then o else None)
    ≡ Some z → is_constant_type desc ≡ true
if_constant flags desc o z e = by (is_static flags) (is_final flags) (is_constant_type desc) e
  where
    by : (a b c : Bool) → (if a && b && c then o else None) ≡ Some z → c ≡ true
    by true true true e = refl
    by true true false e = absurd cc
    by true false c e = absurd cc
    by false b c e = absurd cc

in_class : (k : ℕ) (t : ClassTree) (z : ℤ) (m : Member) → slice_get (map field_of_class t.fields) k ≡ Some m
    → constant_in k t ≡ Some z → is_constant_type m.desc ≡ true
in_class k t z m has e = by (slice_get t.fields k) (sym (slice_get-map field_of_class t.fields k) ∙ has) e
  where
    by : (o : Option FieldTree) → option_map field_of_class o ≡ Some m
        → option_and_then (λ f. if may_be_constant f.flags f.desc then f.constant else None) o ≡ Some z
        → is_constant_type m.desc ≡ true
    by None h e = absurd cc
    by (Some f) h e = let same : field_of_class f ≡ m = cc in ap (λ (x : Member). is_constant_type x.desc) (sym same)
        ∙ if_constant f.flags f.desc f.constant z e

in_export : (k : ℕ) (c : ExportClass) (z : ℤ) (m : Member) → slice_get (map field_of_export c.fields) k ≡ Some m
    → exported_constant k c ≡ Some z → is_constant_type m.desc ≡ true
in_export k c z m has e = by (slice_get c.fields k) (sym (slice_get-map field_of_export c.fields k) ∙ has) e
  where
    by : (o : Option ExportField) → option_map field_of_export o ≡ Some m
        → option_and_then (λ f. if may_be_constant f.flags f.desc then f.constant else None) o ≡ Some z
        → is_constant_type m.desc ≡ true
    by None h e = absurd cc
    by (Some f) h e = let same : field_of_export f ≡ m = cc in ap (λ (x : Member). is_constant_type x.desc) (sym same)
        ∙ if_constant f.flags f.desc f.constant z e

pub imports_flat : (ts : List ExportTree) → imports ts ≡ flat_map (λ t. t.classes) ts
imports_flat [] = refl
imports_flat (t ∷ ts) = ap (λ cs. t.classes ++ cs) (imports_flat ts)

module _ (files : Files) where
  of_filed : (c : Class) → IsFiled files c → (f : Found) (m : Member) (z : ℤ) → f ≡ member_at c f.member
      → slice_get c.fields f.member ≡ Some m → constant_at files f ≡ Some z → is_constant_type m.desc ≡ true
  of_filed c (in_class_file n t at) f m z is has e =
      let here = sym (ap (constant_at files) is) ∙ e in
      in_class f.member t z m has (sym (ap (option_and_then (constant_in f.member)) at) ∙ here)
  of_filed c (in_export_file n t at) f m z is has e =
      let here = sym (ap (constant_at files) is) ∙ e in
      in_export f.member t z m has (sym (ap (option_and_then (exported_constant f.member)) (ap (λ cs. slice_get cs n)
      (sym (imports_flat files.exports)) ∙ at)) ∙ here)

number_desc : (desc letter : List ℕ) → bytes_eq desc letter ≡ true → is_number (value_of (parts letter).result) ≡ true
    → is_number (value_of (parts desc).result) ≡ true
number_desc desc letter e is = ap (λ d. is_number (value_of (parts d).result)) ((bytes_eq-Decides desc letter).0 e) ∙ is

constant_number : (desc : List ℕ) → is_constant_type desc ≡ true → is_number (value_of (parts desc).result) ≡ true
unfolding parts desc_of parts_of bad_at after types_from
constant_number desc e = by (bytes_eq desc (codes "Z")) (bytes_eq desc (codes "B")) (bytes_eq desc (codes "S"))
    (bytes_eq desc (codes "I")) refl refl refl refl e
  where
    by : (a b c d : Bool) → bytes_eq desc (codes "Z") ≡ a → bytes_eq desc (codes "B") ≡ b → bytes_eq desc (codes "S")
        ≡ c → bytes_eq desc (codes "I") ≡ d → (a || b || c || d) ≡ true → is_number (value_of (parts desc).result)
        ≡ true
    by true b c d is_a is_b is_c is_d e = number_desc desc (codes "Z") is_a refl
    by false true c d is_a is_b is_c is_d e = number_desc desc (codes "B") is_b refl
    by false false true d is_a is_b is_c is_d e = number_desc desc (codes "S") is_c refl
    by false false false true is_a is_b is_c is_d e = number_desc desc (codes "I") is_d refl
    by false false false false is_a is_b is_c is_d e = absurd cc

pub constants_are_numbers : (files : Files) → AreNumbers (constants_of files)
unfolding find_field
constants_are_numbers files id z e = by (find_field (all_classes files) id.class id.name id.desc) refl e
  where
    by : (o : Option Found) → find_field (all_classes files) id.class id.name id.desc ≡ o
        → option_and_then (constant_at files) o ≡ Some z → is_number (value_of (parts id.desc).result) ≡ true
    by None is e = absurd cc
    by (Some f) is e =
        let found = found_in (all_classes files) (own_field id.name id.desc) f (id.class ∷ []) is in
        let own = own_is id.name id.desc found.class f found.is_own in
        let number = of_filed files found.class (filed files found.name found.class found.is_class) f own.member z
        own.is_at own.there e in
        constant_number id.desc (ap is_constant_type (sym own.is_desc) ∙ number)
