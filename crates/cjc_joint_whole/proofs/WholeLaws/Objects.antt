-- A class of which code of a package makes objects is one of which objects are made in the joint world, with fields
-- that have values.
use Rattle.std.proofs.Common.{◌≡◌, ℕ, suc, ◌&&◌, Bool, true, false, List, [], ◌∷◌, ◌++◌, Some, None, refl}
use Rattle.std.proofs.Common.{sym, ap, subst, ◌∙◌, map, reverse, ⊎_elim}
use Rattle.std.specs.Prelude.{is_some, not, option_and_then, slice_get, if◌then◌else◌}
use Rattle.std.specs.List.{flat_map, list_all}
use Rattle.std.proofs.lemmas.List.{reverse-append}
use Rattle.cjc_bytes.specs.AccessFlags.{is_abstract, is_interface, is_static}
use Rattle.cjc_bytes.specs.declared.fault.MemberId.{MemberId}
use Rattle.cjc_jvm_semantics.specs.OnePackage.{declared_fields, instance_fields, is_made, made_of, member_of}
use Rattle.cjc_jvm_semantics.specs.OnePackage.{object_fields}
use Rattle.cjc_world.specs.ClassFile.declared.tree.ClassTree.{ClassTree}
use Rattle.cjc_world.specs.ClassFile.declared.tree.FieldTree.{FieldTree}
use Rattle.cjc_world.specs.Classes.{Class, all_classes, class_named, field_of_class}
use Rattle.cjc_world.specs.Files.{Files}
use Rattle.cjc_world.specs.Supertypes.{line}
use Rattle.cjc_world.specs.Upwards.{Has, foremost, after}
use Rattle.cjc_world.proofs.UpwardLaws.Lines.{has-cons, has-either, line_named, of_line}
use Rattle.cjc_shape_proof.proofs.FindsLaws.Receivers.{made_class}
use Rattle.cjc_narrow_proof.specs.Selection.Objects.{has_values, is_field}
use Rattle.cjc_token_proof.specs.Script.Sorts.{field_sort}
use Rattle.cjc_theorem.proofs.WholeRuns.Objects.{own_field_values}
use Rattle.cjc_joint_proof.specs.Worlds.{IsOwn}
use Rattle.cjc_joint_theorem.specs.Members.{Member, files_of}
use Rattle.cjc_joint_theorem.specs.Together.Homes.{joint_world}
use Rattle.cjc_joint_theorem.proofs.MembersLaws.Worlds.{files_at, member_at}
use Rattle.cjc_joint_theorem.proofs.OrderedLaws.Ordered.{IsJoint, joint_class, ordered, outside_file, own_file}
use Rattle.cjc_joint_theorem.proofs.OrderedLaws.Standing.{class_stands, same_abstract, same_kind}
use Rattle.cjc_joint_whole.specs.Whole.{AreWholeWith}
use Rattle.cjc_joint_whole.proofs.WholeLaws.Members.{ordered_together}

-- ---- lists

all_both : (P : MemberId → Bool) (xs ys : List MemberId) → list_all P xs ≡ true → list_all P ys ≡ true
    → list_all P (xs ++ ys) ≡ true
all_both P [] ys p q = q
all_both P (x ∷ xs) ys p q = by (P x) p (all_both P xs ys)
  where
    by : (b : Bool) → (b && list_all P xs) ≡ true → (list_all P xs ≡ true → list_all P ys ≡ true → list_all P (xs ++ ys)
        ≡ true) → (b && list_all P (xs ++ ys)) ≡ true
    by true p rest = rest p q
    by false p rest = absurd cc

all_flat : (P : MemberId → Bool) (f : Class → List MemberId) (xs : List Class) → ((c : Class) → Has c xs
    → list_all P (f c) ≡ true) → list_all P (flat_map f xs) ≡ true
all_flat P f [] h = refl
all_flat P f (x ∷ xs) h = all_both P (f x) (flat_map f xs) (h x foremost) (all_flat P f xs (λ c g. h c (after g)))

of_reverse : {A : Type 0} (x : A) (xs : List A) → Has x (reverse xs) → Has x xs
of_reverse x [] h = elim h [ ]
of_reverse x (y ∷ xs) h = ⊎_elim (λ g. after (of_reverse x xs g)) (λ g. ⊎_elim (λ same. subst (λ z. Has z (y ∷ xs))
    (sym same) foremost) (λ more. elim more [ ]) (has-cons x y [] g))
    (has-either x (reverse xs) (y ∷ []) (subst (Has x) (reverse-append (y ∷ []) xs) h))

of_objects : (class : List ℕ) (fields : List FieldTree) → ((i : ℕ) (f : FieldTree) → slice_get fields i ≡ Some f
    → has_values (field_sort f.desc) ≡ true)
    → list_all is_field (instance_fields class (map field_of_class fields)) ≡ true
of_objects class [] h = refl
of_objects class (f ∷ fields) h = by (is_static f.flags) (of_objects class fields (λ i x e. h (suc i) x e))
  where
    by : (b : Bool) → list_all is_field (instance_fields class (map field_of_class fields)) ≡ true
        → list_all is_field (if b then instance_fields class (map field_of_class fields)
        else member_of class (field_of_class f) ∷ instance_fields class (map field_of_class fields)) ≡ true
    by true rest = rest
    by false rest = ap (λ x. x && list_all is_field (instance_fields class (map field_of_class fields))) (h 0 f refl)
        ∙ rest

module _ {K : _} (members : List Member) (is : AreWholeWith K members) where
  abbrev group : List Files
  group = files_of members

  abbrev w : List Class
  w = joint_world group

  -- 301 of the fields of a class file of any package
  own_fields : (q k : ℕ) (f : Files) (t : ClassTree) → IsOwn group q k f t
      → list_all is_field (instance_fields t.name (map field_of_class t.fields)) ≡ true
  own_fields q k f t own = of_objects t.name t.fields (λ i x there. values i x there)
    where
      values : (i : ℕ) (x : FieldTree) → slice_get t.fields i ≡ Some x → has_values (field_sort x.desc) ≡ true
      values i x there =
          let m = member_at members q f own.member in
          let p = m.0 in
          let one = is.each q p m.1 in
          let whole = one.whole in
          let u = whole.unbroken in
          own_field_values one.list p.files one.codes one.settings u.checks whole.read k i t x (ap (λ (v : Files).
          slice_get v.classes k) m.2 ∙ own.file) there

  declared_are : (c : Class) → IsJoint group c
      → list_all is_field (declared_fields c) ≡ true
  declared_are _ (own_file q k f t own) = own_fields q k f t own
  declared_are _ (outside_file n e at) = refl

  pub fields_have_values : (name : List ℕ) → list_all is_field (object_fields w name) ≡ true
  fields_have_values name =
      let together = ordered_together members is in
      let order = ordered group together in
      all_flat is_field declared_fields (reverse (line w name)) (λ c h. (let on = of_line w order.acyclic name c
      (of_reverse c (line w name) h) in declared_are c (joint_class group c.name c (line_named w name c on))))

  -- a class of which objects are made in a package's own world
  pub is_made_in : (q : ℕ) (p : Member) → slice_get members q ≡ Some p → (name : List ℕ) (fields : List MemberId)
      → made_of (all_classes p.files) name ≡ Some fields → (is_some (class_named (all_classes p.files) name) ≡ true)
      × (made_of w name ≡ Some (object_fields w name))
  is_made_in q p at name fields e =
      let c = made_class (all_classes p.files) name fields e in
      let h = class_stands group (ordered_together members is) q p.files (files_at members q p at) name c.class c.found
      in
      let d = h.class in (
        ap is_some c.found,
        ap (option_and_then (λ (v : Class). if is_made v then Some (object_fields w name) else None)) h.named
            ∙ by (is_interface d.flags) (is_abstract d.flags) (same_kind group q p.files c.class d h.stands
            ∙ c.no_interface) (same_abstract group q p.files c.class d h.stands ∙ c.no_abstract),
      )
    where
      by : (a b : Bool) → a ≡ false → b ≡ false → (if not a && not b then Some (object_fields w name) else None)
          ≡ Some (object_fields w name)
      by false false f g = refl
      by true b f g = absurd cc
      by false true f g = absurd cc
