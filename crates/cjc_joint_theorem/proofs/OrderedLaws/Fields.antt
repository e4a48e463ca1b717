-- The fields of objects of the joint world.
use Rattle.std.proofs.Common.{◌≡◌, ℕ, zero, suc, ◌+◌, Bool, true, false, List, [], ◌∷◌, ◌++◌, Some}
use Rattle.std.proofs.Common.{sym, ap, subst, ◌∙◌, map, reverse, ⊎_elim}
use Rattle.std.specs.Prelude.{slice_get, if◌then◌else◌}
use Rattle.std.specs.List.{flat_map}
use Rattle.std.proofs.lemmas.List.{reverse-append}
use Rattle.cjc_bytes.specs.AccessFlags.{is_interface, is_static}
use Rattle.cjc_bytes.proofs.Bools.{true_or_false}
use Rattle.cjc_world.specs.ClassFile.declared.tree.ClassTree.{ClassTree}
use Rattle.cjc_world.specs.ClassFile.declared.tree.FieldTree.{FieldTree}
use Rattle.cjc_world.specs.Classes.{Class, class_named, declared, field_of_class}
use Rattle.cjc_world.specs.Files.{Files}
use Rattle.cjc_world.specs.Lookup.{object}
use Rattle.cjc_world.specs.Supertypes.{line}
use Rattle.cjc_world.specs.Upwards.{Below, Has, after, foremost}
use Rattle.cjc_world.proofs.UpwardLaws.Lines.{below_abroad, has-back, has-cons, has-front, in_line, on_line}
use Rattle.cjc_jvm_semantics.specs.OnePackage.{declared_fields, instance_fields, member_of, object_fields}
use Rattle.cjc_joint_proof.specs.Worlds.{IsOwn, before}
use Rattle.cjc_joint_proof.proofs.WorldLaws.{own_is_found}
use Rattle.cjc_joint_theorem.specs.Ordered.{AreOrdered}
use Rattle.cjc_joint_theorem.specs.Together.Homes.{joint_world}
use Rattle.cjc_joint_theorem.proofs.OrderedLaws.Ordered.{object_abroad, ordered}
use Rattle.cjc_joint_theorem.proofs.OrderedLaws.Standing.{are_apart}

-- ---- lists

-- what one of some gives is among what they give from the last to the first
in_flat : {A B : Type 0} (f : A → List B) (x : A) (y : B) (xs : List A) → Has x xs → Has y (f x)
    → Has y (flat_map f xs)
in_flat f x y [] h g = elim h [ ]
in_flat f x y (z ∷ xs) h g = ⊎_elim (λ same. has-front y (f z) (flat_map f xs) (subst (λ v. Has y (f v)) same g))
    (λ more. has-back y (f z) (flat_map f xs) (in_flat f x y xs more g)) (has-cons x z xs h)

turned : {A : Type 0} (x : A) (xs : List A) → Has x xs → Has x (reverse xs)
turned x [] h = elim h [ ]
turned x (z ∷ xs) h = subst (Has x) (sym (reverse-append (z ∷ []) xs)) (⊎_elim
    (λ same. subst (λ v. Has v (reverse xs ++ z ∷ [])) (sym same) (has-back z (reverse xs) (z ∷ []) foremost))
    (λ more. has-front x (reverse xs) (z ∷ []) (turned x xs more))
    (has-cons x z xs h))

-- a field that is not static is one of objects
of_objects : (class : List ℕ) (fields : List FieldTree) (i : ℕ) (f : FieldTree) → slice_get fields i ≡ Some f
    → is_static f.flags ≡ false
    → Has (member_of class (field_of_class f)) (instance_fields class (map field_of_class fields))
of_objects class [] i f e plain = absurd cc
of_objects class (g ∷ fields) zero f e plain = let same : g ≡ f = cc
    in keep (is_static g.flags) (ap (λ (v : FieldTree). is_static v.flags) same ∙ plain) same
  where
    keep : (b : Bool) → b ≡ false → g ≡ f → Has (member_of class (field_of_class f)) (if b then instance_fields class
        (map field_of_class fields) else member_of class (field_of_class g) ∷ instance_fields class (map field_of_class
        fields))
    keep false e same = subst (λ (v : FieldTree). Has (member_of class (field_of_class f)) (member_of class
        (field_of_class v) ∷ instance_fields class (map field_of_class fields))) (sym same) foremost
    keep true e same = absurd cc
of_objects class (g ∷ fields) (suc i) f e plain = skip (is_static g.flags) (of_objects class fields i f e plain)
  where
    skip : (b : Bool) → Has (member_of class (field_of_class f)) (instance_fields class (map field_of_class fields))
        → Has (member_of class (field_of_class f)) (if b then instance_fields class (map field_of_class fields)
        else member_of class (field_of_class g) ∷ instance_fields class (map field_of_class fields))
    skip true h = h
    skip false h = after h

-- ---- objects

module _ (group : List Files) (is : AreOrdered group) (q k : ℕ) (p : Files) (t : ClassTree) (own : IsOwn group q k p t)
    (ground : is_interface t.flags ≡ false) where
  -- the class, by its number in the joint world
  abbrev d : Class
  d = declared (before group q + k) t

  there : class_named (joint_world group) t.name ≡ Some d
  there = own_is_found group (are_apart group is) q k p t own

  -- what is of a class of the group is of a class of the group
  pub not_abroad : (x : List ℕ) (c : Class) → class_named (joint_world group) x ≡ Some c
      → Below (joint_world group) x t.name → c.is_imported ≡ false
  not_abroad x c named below = ⊎_elim (λ imp. let no = below_abroad (joint_world group) (ordered group is) x t.name c d
      below named imp there in absurd (clash no)) (λ e. e) (true_or_false c.is_imported)
    where
      clash : false ≡ true → ⊥
      clash e = cc

  -- no array is
  pub no_array : Below (joint_world group) object t.name → ⊥
  no_array below =
      let order = ordered group is in
      let o = order.rooted t.name d there ground in
      clash (object_abroad group is o.0 o.1) (not_abroad object o.0 o.1 below)
    where
      clash : {b : Bool} → b ≡ true → b ≡ false → ⊥
      clash e f = let no : true ≡ false = sym e ∙ f in cc

  pub objects_have : (i : ℕ) (f : FieldTree) → slice_get t.fields i ≡ Some f → is_static f.flags ≡ false → (x : List ℕ)
      (c : Class) → class_named (joint_world group) x ≡ Some c → is_interface c.flags ≡ false
      → Below (joint_world group) x t.name
      → Has (member_of t.name (field_of_class f)) (object_fields (joint_world group) x)
  objects_have i f at plain x c named no_interface below =
      let order = ordered group is in
      let on = on_line (joint_world group) order x t.name c d below named no_interface there ground in
      in_flat declared_fields d (member_of t.name (field_of_class f)) (reverse (line (joint_world group) x))
      (turned d (line (joint_world group) x) (in_line (joint_world group) order.acyclic x d on))
      (of_objects t.name t.fields i f at plain)
