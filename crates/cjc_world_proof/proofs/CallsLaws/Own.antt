-- Members that a class declares, and what look-ups say of them.
use Rattle.std.proofs.Common.{◌≡◌, ℕ, zero, suc, ◌+◌, ◌-◌, arith, refl, sym, ap, ◌∙◌, Bool, true, false, List, [], ◌∷◌}
use Rattle.std.proofs.Common.{map, length}
use Rattle.std.specs.Prelude.{◌&&◌, Option, Some, None, option_map, option_and_then, position, slice_get}
use Rattle.std.specs.Prelude.{if◌then◌else◌}
use Rattle.std.specs.Str.{bytes_eq}
use Rattle.std.proofs.lemmas.List.{length-map}
use Rattle.cjc_world.specs.ClassFile.declared.tree.ClassTree.{ClassTree}
use Rattle.cjc_world.specs.ClassFile.declared.tree.MethodTree.{MethodTree}
use Rattle.cjc_world.specs.declared.found.Found.{Found}
use Rattle.cjc_world.specs.Classes.{Class, Member, class_at, declared, field_of_class}
use Rattle.cjc_world.specs.Files.{Files}
use Rattle.cjc_world.specs.Lookup.{is_called, is_wanted, member_at, own_field, own_method}
use Rattle.cjc_jvm_semantics.specs.OnePackage.{field_hit, method_at, method_by, method_hit, method_in}
use Rattle.cjc_bytes.proofs.Lists.{bytes_true}
use Rattle.cjc_bytes.proofs.Bools.{both_front, both_back}
use Rattle.cjc_bytes.proofs.Gets.{position_there}
use Rattle.cjc_vtable.proofs.TokensFacts.{position-cons}

-- ---- the first place that passes

-- what passes is found, or one before it
pub is_found : {A : Type 0} (p : A → Bool) (xs : List A) (k : ℕ) (x : A) → slice_get xs k ≡ Some x → p x ≡ true
    → (i : ℕ) × (position p xs ≡ Some i)
is_found p [] k x e is = absurd cc
is_found p (y ∷ xs) zero x e is = let same : y ≡ x = cc in (
  0,
  position-cons p y xs ∙ ap (λ b. if b then Some 0
      else option_map suc (position p xs)) (ap p same ∙ is),
)
is_found p (y ∷ xs) (suc k) x e is = let r = is_found p xs k x e is in let s = by (p y) r in (
  s.0,
  position-cons p y xs
      ∙ s.1,
)
  where
    by : (b : Bool) → (i : ℕ) × (position p xs ≡ Some i) → (i : ℕ)
        × ((if b then Some 0 else option_map suc (position p xs)) ≡ Some i)
    by true r = (0, refl)
    by false r = (suc r.0, ap (option_map suc) r.1)

pub mapped_at : {A B : Type 0} (f : A → B) (xs : List A) (i : ℕ) (y : B) → slice_get (map f xs) i ≡ Some y → (x : A)
    × (slice_get xs i ≡ Some x) × (y ≡ f x)
mapped_at f [] i y e = absurd cc
mapped_at f (x ∷ xs) zero y e = (x, refl, cc)
mapped_at f (x ∷ xs) (suc i) y e = mapped_at f xs i y e

-- ---- methods

-- A method of a class at its place, as a look-up says it.
pub record IsAt (selecting : Bool) (name desc : List ℕ) (d : Class) (f : Found) : Type 0 where
  pub place : ℕ
  pub member : Member
  pub is_member : slice_get d.methods place ≡ Some member
  pub is : f ≡ member_at d (length d.fields + place)
  pub wanted : is_wanted selecting member.flags ≡ true
  pub has_name : member.name ≡ name
  pub has_desc : member.desc ≡ desc

pub own_at : (selecting : Bool) (name desc : List ℕ) (d : Class) (f : Found) → own_method selecting name desc d ≡ Some f
    → IsAt selecting name desc d f
unfolding own_method
own_at selecting name desc d f e = by (position P d.methods) refl e
  where
    P : Member → Bool
    P m = is_wanted selecting m.flags && is_called name desc m

    by : (o : Option ℕ) → position P d.methods ≡ o → option_map (λ i. member_at d (length d.fields + i)) o ≡ Some f
        → IsAt selecting name desc d f
    by None g e = absurd cc
    by (Some i) g e =
        let r = position_there P d.methods i g in
        let called = both_back (is_wanted selecting (let m = r.0 in m.flags)) (is_called name desc r.0) r.2 in
        record {
          place = i;
          member = r.0;
          is_member = r.1;
          is = (let same : member_at d (length d.fields + i) ≡ f = cc in sym same);
          wanted = both_front (is_wanted selecting (let m = r.0 in m.flags)) (is_called name desc r.0) r.2;
          has_name = bytes_true (let m = r.0 in m.name) name (both_front (bytes_eq (let m = r.0 in m.name) name)
              (bytes_eq (let m = r.0 in m.desc) desc) called);
          has_desc = bytes_true (let m = r.0 in m.desc) desc (both_back (bytes_eq (let m = r.0 in m.name) name)
              (bytes_eq (let m = r.0 in m.desc) desc) called);
        }

pub own_is : (selecting : Bool) (name desc : List ℕ) (d : Class) (i : ℕ) (m : Member) → slice_get d.methods i ≡ Some m
    → is_wanted selecting m.flags ≡ true → is_called name desc m ≡ true → (f : Found)
    × (own_method selecting name desc d ≡ Some f)
unfolding own_method
own_is selecting name desc d i m e wanted called =
    let r = is_found (λ m. is_wanted selecting m.flags && is_called name desc m) d.methods i m e (ap (λ b. b
    && is_called name desc m) wanted ∙ called) in
    (member_at d (length d.fields + r.0), ap (option_map (λ i. member_at d (length d.fields + i))) r.1)

pub hit_is : (w : List Class) (d : Class) (i : ℕ) (m : Member) → class_at w d.is_imported d.number ≡ Some d
    → slice_get d.methods i ≡ Some m → method_hit w (member_at d (length d.fields + i)) ≡ Some (record {
      owner = d;
      flags = m.flags;
    })
hit_is w d i m there e =
    let at : length d.fields + i - length d.fields ≡ i = omega arith in
    ap (option_and_then (λ c. option_map (λ m. record { owner = c; flags = m.flags })
    (slice_get c.methods (length d.fields + i - length c.fields)))) there
    ∙ ap (λ k. option_map (λ m. record { owner = d; flags = m.flags }) (slice_get d.methods k)) at
    ∙ ap (option_map (λ m. record { owner = d; flags = m.flags })) e

-- the method of a class file
pub method_is : (files : Files) (n : ℕ) (t : ClassTree) (i : ℕ) (m : MethodTree) → slice_get files.classes n ≡ Some t
    → slice_get t.methods i ≡ Some m
    → method_at files (member_at (declared n t) (length (map field_of_class t.fields) + i))
    ≡ Some (method_by t m m.code)
method_is files n t i m is_class is_method =
    let long = length-map t.fields field_of_class in
    let at : length (map field_of_class t.fields) + i - length t.fields ≡ i = omega (arith, long) in
    ap (option_and_then (method_in (length (map field_of_class t.fields) + i))) is_class
    ∙ ap (λ k. option_map (λ m. method_by t m m.code) (slice_get t.methods k)) at
    ∙ ap (option_map (λ m. method_by t m m.code)) is_method

-- ---- fields

-- A field of a class at its place.
pub record IsFieldAt (name desc : List ℕ) (d : Class) (f : Found) : Type 0 where
  pub place : ℕ
  pub member : Member
  pub is_member : slice_get d.fields place ≡ Some member
  pub is : f ≡ member_at d place
  pub has_name : member.name ≡ name
  pub has_desc : member.desc ≡ desc

pub field_at : (name desc : List ℕ) (d : Class) (f : Found) → own_field name desc d ≡ Some f → IsFieldAt name desc d f
unfolding own_field
field_at name desc d f e = by (position (λ m. is_called name desc m) d.fields) refl e
  where
    by : (o : Option ℕ) → position (λ m. is_called name desc m) d.fields ≡ o → option_map (λ i. member_at d i) o
        ≡ Some f → IsFieldAt name desc d f
    by None g e = absurd cc
    by (Some i) g e =
        let r = position_there (λ (m : Member). is_called name desc m) d.fields i g in
        record {
          place = i;
          member = r.0;
          is_member = r.1;
          is = (let same : member_at d i ≡ f = cc in sym same);
          has_name = bytes_true (let m = r.0 in m.name) name (both_front (bytes_eq (let m = r.0 in m.name) name)
              (bytes_eq (let m = r.0 in m.desc) desc) r.2);
          has_desc = bytes_true (let m = r.0 in m.desc) desc (both_back (bytes_eq (let m = r.0 in m.name) name)
              (bytes_eq (let m = r.0 in m.desc) desc) r.2);
        }

pub field_hit_is : (w : List Class) (d : Class) (i : ℕ) (m : Member) → class_at w d.is_imported d.number ≡ Some d
    → slice_get d.fields i ≡ Some m → field_hit w (member_at d i) ≡ Some (record { owner = d; flags = m.flags })
field_hit_is w d i m there e =
    ap (option_and_then (λ c. option_map (λ m. record { owner = c; flags = m.flags }) (slice_get c.fields i))) there
    ∙ ap (option_map (λ m. record { owner = d; flags = m.flags })) e
