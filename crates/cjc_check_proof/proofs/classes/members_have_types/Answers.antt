use Rattle.std.proofs.Common.{◌≡◌, ℕ, zero, suc, ◌+◌, ◌-◌, ◌<◌, Bool, true, false, List, [], ◌∷◌, ◌++◌, length, refl}
use Rattle.std.proofs.Common.{sym, ap, subst, ◌∙◌, arith}
use Rattle.std.specs.Prelude.{Option, Some, None, is_some, map, flat_map, slice_get, unwrap_or, if◌then◌else◌, codes}
use Rattle.std.specs.Str.{bytes_eq}
use Rattle.cjc_world.specs.ClassFile.declared.tree.ClassTree.{ClassTree}
use Rattle.cjc_world.specs.ClassFile.declared.tree.FieldTree.{FieldTree}
use Rattle.cjc_token_proof.specs.Script.Sorts.{Sort, Boolean, Byte, Short, Int, Reference, NoValue, field_sort}
use Rattle.cjc_pool.specs.Clinit.Fields.{is_reference}
use Rattle.cjc_check_rules.specs.Spots.{in_info, along}
use Rattle.cjc_check_rules.specs.Complete.{described_size}
use Rattle.cjc_check_rules.specs.ClassRefs.{fields_begin}
use Rattle.cjc_check_rules.specs.Described.{is_type, type_is_there, type_of_field, type_of_method, methods_begin}
use Rattle.cjc_check_rules.specs.Described.{types_in_class}
use Rattle.cjc_world.specs.declared.found.Found.{Found}
use Rattle.cjc_world.specs.Classes.{Member, Class}
use Rattle.cjc_world.specs.Added.{added, without_initialiser}
use Rattle.cjc_world.specs.Lookup.{member_at}
use Rattle.cjc_world.specs.Order.{class_order, written, places, methods_of_class}
use Rattle.cjc_tokens.specs.Fields.{is_constant}
use Rattle.cjc_components.specs.Package.{Package, world, pool}
use Rattle.cjc_components.specs.Class.{fields_of, fields_in}
use Rattle.cjc_components.specs.Types.{desc_of_key, desc_of_field, descs_of_class, all_descs, type_offset}
use Rattle.cjc_components.specs.Descriptor.{descriptor, class_descriptor, field_descriptor, fields_from, field_type}
use Rattle.cjc_components.specs.Descriptor.{as_added, methods_with_added, method_in, method_descriptor, no_member}
use Rattle.cjc_vtable.proofs.Filed.{Has, at_front, behind, get-has, has-get}
use Rattle.cjc_token_proof.proofs.ComponentsLaws.Tests.{passes, none_in_both}
use Rattle.cjc_token_proof.specs.Tables.Sound.{AreTyped, IsTyped}
use Rattle.cjc_token_proof.specs.CardSemantics.Machine.ByToken.{letter_of}
use Rattle.cjc_token_proof.specs.ByToken.Objects.{is_reference as is_reference_sort}
use Rattle.cjc_tokens.specs.Fields.{is_reference as begins_reference}
use Rattle.cjc_check_proof.proofs.ClassesLaws.Lists.{get-map, has-front, has-back}
use Rattle.cjc_check_proof.proofs.ClassesLaws.Lists.{has-map, has-flat, none_along}
use Rattle.cjc_check_proof.proofs.ClassesLaws.Types.{type_begins}
use Rattle.cjc_bytes.proofs.Gets.{in_front, get_behind, get_inside}
use Rattle.cjc_check_proof.proofs.classes.members_have_types.Goals as goal

same_test : (desc : List ℕ) → is_reference desc ≡ begins_reference desc
same_test [] = refl
same_test (b ∷ bs) = refl

module _ (p : Package) where
  -- the descriptors of a class are among all
  of_class : (c : Class) (desc : List ℕ) → Has c (class_order (world p)) → Has desc (descs_of_class p c)
      → Has desc (all_descs p)
  of_class c desc h g = has-back desc (flat_map desc_of_key (pool p)) _ (has-flat (descs_of_class p) c desc
      (class_order (world p)) h g)

  -- ---- fields

  field_typed : (f : FieldTree) (sort : Sort) → is_some (letter_of sort) ≡ true → is_reference_sort sort
      ≡ begins_reference f.desc → (is_reference f.desc ≡ true → Has f.desc (all_descs p))
      → type_is_there (descriptor p) (field_type p f.desc sort) ≡ true
  field_typed f Boolean some t there = refl
  field_typed f Byte some t there = refl
  field_typed f Short some t there = refl
  field_typed f Int some t there = refl
  field_typed f (Reference shape) some t there = (type_begins p f.desc (there (same_test f.desc ∙ sym t))).0
  field_typed f NoValue some t there = absurd (cc)

  fields_typed : (c : Class) (i at : ℕ) (fields : List FieldTree) → ((f : FieldTree) → Has f fields → IsTyped f.desc)
      → ((f : FieldTree) → Has f fields → is_reference f.desc ≡ true → Has f.desc (all_descs p))
      → along (λ f. 7) (type_of_field (descriptor p)) at (fields_from p c i fields) ≡ []
  unfolding along
  fields_typed c i at [] typed there = refl
  fields_typed c i at (f ∷ fields) typed there =
      by (is_constant f)
      (passes _ (in_info 11 (at + 5)) (let t = typed f at_front in field_typed f (field_sort f.desc) t.some t.reference
      (there f at_front)))
      (λ k. fields_typed c (i + 1) k fields (λ g h. typed g (behind h)) (λ g h. there g (behind h)))
    where
      by : (b : Bool) → type_of_field (descriptor p) at (field_descriptor p c i f) ≡ []
          → ((k : ℕ) → along (λ f. 7) (type_of_field (descriptor p)) k (fields_from p c (i + 1) fields) ≡ [])
          → along (λ f. 7) (type_of_field (descriptor p)) at ((if b then [] else field_descriptor p c i f ∷ [])
          ++ fields_from p c (i + 1) fields) ≡ []
      by true here rest = rest at
      by false here rest = none_in_both here (rest (at + 7))

  class_fields : AreTyped p.files → (c : Class) (at : ℕ) → Has c (class_order (world p))
      → along (λ f. 7) (type_of_field (descriptor p)) at (fields_from p c 0 (fields_of p.files c)) ≡ []
  unfolding along
  class_fields typed c at h = by (let files = p.files in slice_get files.classes c.number) refl
    where
      by : (o : Option ClassTree) → (let files = p.files in slice_get files.classes c.number) ≡ o
          → along (λ f. 7) (type_of_field (descriptor p)) at (fields_from p c 0 (fields_in o)) ≡ []
      by None e = refl
      by (Some t) e =
          fields_typed c 0 at t.fields
          (λ f g. let r = has-get f t.fields g in typed c.number r.0 t f e r.1)
          (λ f g is. of_class c f.desc h (has-front f.desc _ _ (has-flat desc_of_field f f.desc (fields_of p.files c)
          (subst (λ o. Has f (fields_in o)) (sym e) g) (rw is at_front))))

  -- ---- methods

  method_typed : (c : Class) (at : ℕ) (f : Found) (m : Member) → method_in (world p) c f.member ≡ m
      → Has m.desc (all_descs p) → type_of_method (descriptor p) at (method_descriptor p c f) ≡ []
  method_typed c at f m is there =
      passes _ (in_info 11 (at + 4)) (ap (λ n. is_type (descriptor p) (type_offset p n.desc)) is
      ∙ (type_begins p m.desc there).0)

  added_typed : (c : Class) (i at n : ℕ) → ((k : ℕ) → k < n → (m : Member) × (method_in (world p) c (i + k) ≡ m)
      × Has m.desc (all_descs p)) → along (λ m. 12) (type_of_method (descriptor p)) at (map (method_descriptor p c)
      (places c i n)) ≡ []
  unfolding along
  added_typed c i at zero there = refl
  added_typed c i at (suc n) there =
      let r = there 0 (omega arith) in
      let none : i + 0 ≡ i = omega arith in
      none_in_both (method_typed c at (member_at c i) r.0 (ap (method_in (world p) c) (sym none) ∙ r.1) r.2)
      (added_typed c (i + 1) (at + 12) n (λ k lt. let s = there (suc k) (omega (arith, lt)) in let next : i + 1 + k
      ≡ i + suc k = omega arith in (s.0, ap (method_in (world p) c) next ∙ s.1, s.2)))

  own_typed : (c : Class) (rest : List Found) (i at : ℕ) (methods : List Member) → ((m : Member) (k : ℕ)
      → slice_get methods k ≡ Some m → method_in (world p) c (i + k) ≡ m)
      → ((desc : List ℕ) → Has desc (map (λ m. m.desc) (without_initialiser methods)) → Has desc (all_descs p))
      → ((k : ℕ) → along (λ m. 12) (type_of_method (descriptor p)) k (map (method_descriptor p c) rest) ≡ [])
      → along (λ m. 12) (type_of_method (descriptor p)) at (map (method_descriptor p c) (written c i methods ++ rest))
      ≡ []
  unfolding along
  own_typed c rest i at [] is there last = last at
  own_typed c rest i at (m ∷ methods) is there last =
      by (bytes_eq m.name (codes "<clinit>")) there (λ k h. own_typed c rest (i + 1) k methods (λ n j e. let next :
      i + 1 + j ≡ i + suc j = omega arith in ap (method_in (world p) c) next ∙ is n (suc j) e) h last)
    where
      first : method_in (world p) c i ≡ m
      first = let none : i + 0 ≡ i = omega arith in ap (method_in (world p) c) (sym none) ∙ is m 0 refl

      by : (b : Bool) → ((desc : List ℕ) → Has desc (map (λ m. m.desc) (if b then without_initialiser methods
          else m ∷ without_initialiser methods)) → Has desc (all_descs p))
          → ((k : ℕ) → ((desc : List ℕ) → Has desc (map (λ m. m.desc) (without_initialiser methods))
          → Has desc (all_descs p)) → along (λ m. 12) (type_of_method (descriptor p)) k (map (method_descriptor p c)
          (written c (i + 1) methods ++ rest)) ≡ [])
          → along (λ m. 12) (type_of_method (descriptor p)) at (map (method_descriptor p c) ((if b
          then written c (i + 1) methods else member_at c i ∷ written c (i + 1) methods) ++ rest)) ≡ []
      by true there next = next at there
      by false there next = none_in_both (method_typed c at (member_at c i) m first (there m.desc at_front))
          (next (at + 12) (λ desc h. there desc (behind h)))

  -- the method at a place
  placed_method : (c : Class) (k : ℕ) (m : Member) → slice_get (methods_with_added (world p) c) k ≡ Some m
      → method_in (world p) c (length c.fields + k) ≡ m
  placed_method c k m e =
      let back : length c.fields + k - length c.fields ≡ k = omega arith in
      ap (λ j. unwrap_or (slice_get (methods_with_added (world p) c) j) no_member) back
      ∙ ap (λ o. unwrap_or o no_member) e

  class_methods : (c : Class) (at : ℕ) → Has c (class_order (world p)) → along (λ m. 12) (type_of_method (descriptor p))
      at (map (method_descriptor p c) (methods_of_class (world p) c)) ≡ []
  class_methods c at h =
      let given = added (world p) c in
      own_typed c (places c (length c.fields + length c.methods) (length given)) (length c.fields) at c.methods
      (λ m k e. placed_method c k m (in_front c.methods (map as_added given) k m e))
      (λ desc g. of_class c desc h (has-back desc (flat_map desc_of_field (fields_of p.files c)) _
      (has-front desc _ _ g)))
      (λ k. added_typed c (length c.fields + length c.methods) k (length given)
      (λ j lt. let r = get_inside given j lt in
      let sum : length c.fields + length c.methods + j ≡ length c.fields + (length c.methods + j) = omega arith in (
        as_added r.0,
        ap (method_in (world p) c) sum ∙ placed_method c (length c.methods + j) (as_added r.0)
            (get_behind c.methods (map as_added given) j ∙ get-map as_added given j r.0 r.1),
        of_class c r.0.desc h (has-back r.0.desc (flat_map desc_of_field (fields_of p.files c)) _
            (has-back r.0.desc (map (λ m. m.desc) (without_initialiser c.methods)) _ (has-map (λ m. m.desc) r.0 given
            (get-has r.0 given j r.1)))),
      )))

pub returns : goal.returns
returns c p typed =
    none_along described_size (types_in_class (descriptor p)) (class_descriptor p) 1 (class_order (world p))
    (λ at x h. none_in_both (class_fields p typed x (fields_begin at (class_descriptor p x)) h)
    (class_methods p x (methods_begin at (class_descriptor p x)) h))
