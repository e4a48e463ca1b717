-- The fields of classes and of what stands above them, by the first of some names.
use Rattle.std.proofs.Common.{◌≡◌, ℕ, refl, sym, ap, ◌∙◌, List, [], ◌∷◌, ◌++◌, map, reverse}
use Rattle.std.specs.Prelude.{Option, Some, None}
use Rattle.std.specs.List.{flat_map}
use Rattle.std.proofs.lemmas.List.{reverse-append, map-append, append-nil}
use Rattle.std.proofs.lemmas.Grind.{flat_map-append}
use Rattle.cjc_jvm_step.specs.Script.declared.report.FieldValue.{FieldValue}
use Rattle.cjc_world.specs.Classes.{Class, class_named}
use Rattle.cjc_world.specs.Supertypes.{Supertypes, Known, IsAcyclic, supertypes, upwards}
use Rattle.cjc_jvm_semantics.specs.Effects.{fresh_field}
use Rattle.cjc_jvm_semantics.specs.OnePackage.{declared_fields}
use Rattle.cjc_jvm_link.specs.Fresh.{fresh_fields}
use Rattle.cjc_jvm_link.proofs.Heights.{supertypes_none, supertypes_unknown, supertypes_class}

-- those of the classes of a tree
fields_in : Supertypes → List FieldValue
fields_in k = map fresh_field (flat_map declared_fields (reverse (upwards k)))

fields_by : List Class → List FieldValue
fields_by cs = map fresh_field (flat_map declared_fields cs)

both : (a b : List Class) → fields_by (a ++ b) ≡ fields_by a ++ fields_by b
unfolding fields_by
both a b = ap (map fresh_field) (flat_map-append declared_fields a b)
    ∙ map-append fresh_field (flat_map declared_fields a) (flat_map declared_fields b)

alone : (c : Class) → fields_by (c ∷ []) ≡ map fresh_field (declared_fields c)
unfolding fields_by
alone c = ap (map fresh_field) (append-nil (declared_fields c))

turned : (c : Class) (a b : List Class) → reverse (c ∷ (a ++ b)) ≡ reverse b ++ (reverse a ++ c ∷ [])
turned c a b = reverse-append (c ∷ a) b ∙ ap (λ xs. reverse b ++ xs) (reverse-append (c ∷ []) a)

known_fields : (c : Class) (s i n : Supertypes) → fields_in (Known c s i n) ≡ fields_in n
    ++ (fields_in s ++ map fresh_field (declared_fields c))
unfolding fields_in fields_by
known_fields c s i n =
    ap fields_by (turned c (upwards s) (upwards n))
    ∙ both (reverse (upwards n)) (reverse (upwards s) ++ c ∷ [])
    ∙ ap (λ xs. fields_in n ++ xs) (both (reverse (upwards s)) (c ∷ []) ∙ ap (λ xs. fields_in s ++ xs) (alone c))

module _ (w : List Class) (acyclic : IsAcyclic w) where
  pub fresh_none : fresh_fields w [] ≡ []
  unfolding fields_in
  fresh_none = ap fields_in (supertypes_none w acyclic)

  pub fresh_unknown : (x : List ℕ) (xs : List (List ℕ)) → class_named w x ≡ None → fresh_fields w (x ∷ xs)
      ≡ fresh_fields w xs
  unfolding fields_in
  fresh_unknown x xs e = ap fields_in (supertypes_unknown w acyclic x xs e)

  fresh_known : (x : List ℕ) (xs : List (List ℕ)) (c : Class) → class_named w x ≡ Some c → fresh_fields w (x ∷ xs)
      ≡ fresh_fields w xs ++ (fresh_fields w c.supers ++ map fresh_field (declared_fields c))
  unfolding fields_in
  fresh_known x xs c e = ap fields_in (supertypes_class w acyclic x xs c e) ∙ known_fields c (supertypes w c.supers)
      (supertypes w c.interfaces) (supertypes w xs)

  pub fresh_class : (x : List ℕ) (c : Class) → class_named w x ≡ Some c → fresh_fields w (x ∷ [])
      ≡ fresh_fields w c.supers ++ map fresh_field (declared_fields c)
  fresh_class x c e = fresh_known x [] c e
      ∙ ap (λ xs. xs ++ (fresh_fields w c.supers ++ map fresh_field (declared_fields c))) fresh_none

  pub fresh_cons : (x : List ℕ) (xs : List (List ℕ)) → fresh_fields w (x ∷ xs) ≡ fresh_fields w xs
      ++ fresh_fields w (x ∷ [])
  fresh_cons x xs = by (class_named w x) (fresh_unknown x) (fresh_known x) (fresh_class x)
    where
      by : (o : Option Class)
          → ((ys : List (List ℕ)) → o ≡ None → fresh_fields w (x ∷ ys) ≡ fresh_fields w ys)
          → ((ys : List (List ℕ)) (c : Class) → o ≡ Some c → fresh_fields w (x ∷ ys) ≡ fresh_fields w ys
          ++ (fresh_fields w c.supers ++ map fresh_field (declared_fields c)))
          → ((c : Class) → o ≡ Some c → fresh_fields w (x ∷ []) ≡ fresh_fields w c.supers
          ++ map fresh_field (declared_fields c))
          → fresh_fields w (x ∷ xs) ≡ fresh_fields w xs ++ fresh_fields w (x ∷ [])
      by None f g h = f xs refl ∙ sym (append-nil (fresh_fields w xs)) ∙ ap (λ ys. fresh_fields w xs
          ++ ys) (sym (f [] refl ∙ fresh_none))
      by (Some c) f g h = g xs c refl ∙ ap (λ ys. fresh_fields w xs ++ ys) (sym (h c refl))
