-- What stands above a class in its package's own world stands above it in the joint world.
use Rattle.std.proofs.Common.{◌≡◌, ℕ, zero, suc, ◌+◌, ◌<◌, arith, refl, sym, ap, subst, ◌∙◌, Bool, true, false, List}
use Rattle.std.proofs.Common.{[], ◌∷◌, ◌++◌, length, take, inl, inr, ⊎_elim, flat_map}
use Rattle.std.specs.Prelude.{Some, slice_get, ◌||◌, ◌&&◌, ◌==◌, ◌-◌, ◌⊎◌, not, if◌then◌else◌}
use Rattle.std.specs.Str.{bytes_eq}
use Rattle.cjc_token_proof.proofs.BytesGets.{get_behind, in_front}
use Rattle.cjc_card_semantics.specs.ExportFile.declared.tree.ExportClass.{ExportClass}
use Rattle.cjc_card_semantics.specs.ExportFile.declared.tree.ExportTree.{ExportTree}
use Rattle.cjc_exported.specs.World.Classes.{Class, all_classes, class_named, declared, imported}
use Rattle.cjc_exported.specs.World.Files.{Files}
use Rattle.cjc_exported.specs.World.Lookup.{object}
use Rattle.cjc_exported.specs.World.Subtype.{array_is, element, inner, is_element, is_subclass, is_subtype, starts}
use Rattle.cjc_exported.specs.World.Supertypes.{Above, Lists, directly, foremost, after, onwards, supertypes}
use Rattle.cjc_exported.proofs.WorldCycles.{From, class_named-name, tree-above}
use Rattle.cjc_exported.proofs.WorldSubtypes.{reaches}
use Rattle.cjc_exported.proofs.WorldLines.{above_on}
use Rattle.cjc_token_proof.proofs.VTableFiled.{IsFiled, filed, get-has, has-get, in_class_file, in_export_file}
use Rattle.cjc_token_proof.proofs.VTableFiled.{of-imports}
use Rattle.cjc_link_semantics.specs.JvmSemantics.Group.{joint, joint_exports}
use Rattle.cjc_joint_proof.specs.Imports.{AreImports, IsImport, of_package, of_outside}
use Rattle.cjc_joint_proof.specs.Worlds.{AreApart, AreApartFromOutside, before}
use Rattle.cjc_joint_proof.proofs.WorldLaws.{outside_is_found, own_is_found}

-- what stands in a list that is joined with others
pub flat_at : {A B : Type 0} (f : A → List B) (xs : List A) (n k : ℕ) (x : A) (y : B) → slice_get xs n ≡ Some x
    → slice_get (f x) k ≡ Some y → (j : ℕ) × (slice_get (flat_map f xs) j ≡ Some y)
flat_at f [] n k x y is at = cc
flat_at f (z ∷ xs) zero k x y is at =
    let same : z ≡ x = cc in (
      k,
      in_front (f z) (flat_map f xs) k y (ap (λ v. slice_get (f v) k) same ∙ at),
    )
flat_at f (z ∷ xs) (suc n) k x y is at =
    let r = flat_at f xs n k x y is at in (length (f z) + r.0, get_behind (f z) (flat_map f xs) r.0 ∙ r.1)

module _ (group : List Files) (apart : AreApart group) (out : AreApartFromOutside group) (imports : AreImports group)
  where
    abbrev Stays : ℕ → Type 0
    Stays i = (p : Files) → slice_get group i ≡ Some p → (x y : List ℕ) → Above (all_classes p) x y
        → Above (all_classes (joint group)) x y

    module _ (i : ℕ) (p : Files) (is : slice_get group i ≡ Some p) (earlier : (j : ℕ) → j < i → Stays j) where
      of_import : (t : ExportTree) (n : ℕ) (e : ExportClass) (y : List ℕ) → slice_get t.classes n ≡ Some e
          → Lists y (e.supers ++ e.interfaces) → IsImport group i t → Above (all_classes (joint group)) e.name y
      of_import t n e y at l (of_package j m lt there told) =
          let c = told n e at in earlier j lt m there e.name y (c.above y l)
      of_import t n e y at l (of_outside k there) =
          let all = flat_at (λ (t : ExportTree). t.classes) (joint_exports group) k n t e there at in
          directly (imported all.0 e) (outside_is_found group apart out all.0 e all.1) l

      one_step : (x y : List ℕ) (c : Class) → class_named (all_classes p) x ≡ Some c
          → Lists y (c.supers ++ c.interfaces) → IsFiled p c → Above (all_classes (joint group)) x y
      one_step x y c named l (in_class_file k t file) =
          let name : t.name ≡ x = class_named-name (all_classes p) x (declared k t) named in
          let found = own_is_found group apart i k p t (record { member = is; file = file }) in
          directly (declared (before group i + k) t) (ap (class_named (all_classes (joint group))) (sym name) ∙ found) l
      one_step x y c named l (in_export_file n e file) =
          let name : e.name ≡ x = class_named-name (all_classes p) x (imported n e) named in
          let of = of-imports e p.exports (get-has e _ n file) in
          let at = has-get of.0 p.exports of.1 in
          let place = has-get e of.0.classes of.2 in
          subst (λ v. Above (all_classes (joint group)) v y) name
          (of_import of.0 place.0 e y place.1 l (imports i at.0 p
          of.0 is at.1))

      all_steps : (x y : List ℕ) → Above (all_classes p) x y → Above (all_classes (joint group)) x y
      all_steps x y (directly c e l) = one_step x y c e l (filed p x c e)
      all_steps x y (onwards {y = m} c e l rest) =
          above_on (all_classes (joint group)) x m y (one_step x m c e l (filed p x c e)) (all_steps m y rest)

    below : (limit i : ℕ) → i < limit → Stays i
    below zero i lt = absurd (omega (arith, lt))
    below (suc limit) i lt = λ p is. all_steps i p is (λ j less. below limit j (omega (arith, lt, less)))

    pub above_stays : (i : ℕ) (p : Files) → slice_get group i ≡ Some p → (x y : List ℕ) → Above (all_classes p) x y
        → Above (all_classes (joint group)) x y
    above_stays i = below (suc i) i (omega arith)

    -- ---- subtypes

    pub subclass_stays : (i : ℕ) (p : Files) → slice_get group i ≡ Some p → (x y : List ℕ)
        → is_subclass (all_classes p) x y ≡ true → is_subclass (all_classes (joint group)) x y ≡ true
    unfolding is_subclass supertypes From
    subclass_stays i p is x y e = by (tree-above (all_classes p) (suc (length (all_classes p))) y (x ∷ []) e)
      where
        by : (z : List ℕ) × Lists z (x ∷ []) × ((z ≡ y) ⊎ Above (all_classes p) z y) → is_subclass (all_classes (joint
            group)) x y ≡ true
        by (z, foremost, way) = reaches (all_classes (joint group)) x y (⊎_elim (λ same. inl same) (λ far. inr
            (above_stays i p is x y far)) way)
        by (z, after l, way) = elim l [ ]

under_tests : (t a g u s x x' y y' z z' : Bool) → (x ≡ true → x' ≡ true) → (y ≡ true → y' ≡ true)
    → (z ≡ true → z' ≡ true) → (t || (if a then (if g then x else u && y) else s && u && z)) ≡ true
    → (t || (if a then (if g then x' else u && y') else s && u && z')) ≡ true
under_tests true a g u s x x' y y' z z' f h k e = refl
under_tests false true true u s x x' y y' z z' f h k e = f e
under_tests false true false true s x x' y y' z z' f h k e = h e
under_tests false true false false s x x' y y' z z' f h k e = absurd cc
under_tests false false g true true x x' y y' z z' f h k e = k e
under_tests false false g false true x x' y y' z z' f h k e = absurd cc
under_tests false false g u false x x' y y' z z' f h k e = absurd cc

module _ (v w : List Class) (stays : (x y : List ℕ) → is_subclass v x y ≡ true → is_subclass w x y ≡ true) where
  element_stays : (x y : List ℕ) → is_element v x y ≡ true → is_element w x y ≡ true
  unfolding is_element
  element_stays [] y e = e
  element_stays (b ∷ bs) y e =
      under_tests (bytes_eq (b ∷ bs) y) (b == 91) (starts 91 y) (starts 76 y) (b == 76) (is_element v bs (element y))
      (is_element w bs (element y)) (array_is v (inner y)) (array_is w (inner y)) (is_subclass v (take (length bs - 1)
      bs) (inner y)) (is_subclass w (take (length bs - 1) bs) (inner y)) (element_stays bs (element y)) (stays object
      (inner y)) (stays (take (length bs - 1) bs) (inner y)) e

  pub subtype_stays : (x y : List ℕ) → is_subtype v x y ≡ true → is_subtype w x y ≡ true
  unfolding is_subtype
  subtype_stays x y e = by (starts 91 x) (starts 91 y) e
    where
      by : (a b : Bool) → (if a then (if b then is_element v (element x) (element y) else array_is v y) else not b
          && is_subclass v x y) ≡ true → (if a then (if b then is_element w (element x) (element y) else array_is w y)
          else not b && is_subclass w x y) ≡ true
      by true true f = element_stays (element x) (element y) f
      by true false f = stays object y f
      by false false f = stays x y f
      by false true f = absurd cc
