-- java/lang/Object stands among the superclasses of each class of a package.
use Rattle.std.proofs.Common.{◌≡◌, ℕ, ◌≤◌, refl, sym, ap, ◌∙◌, Bool, true, false, List, [], ◌∷◌, ◌++◌, length, inl, inr}
use Rattle.std.proofs.Common.{⊎_elim, Some, None}
use Rattle.std.specs.Prelude.{◌⊎◌, ◌||◌, slice_get, if◌then◌else◌}
use Rattle.std.specs.Str.{bytes_eq}
use Rattle.std.proofs.lemmas.Bool.{or_left, or_right}
use Rattle.cjc_world.specs.ClassFile.declared.tree.ClassTree.{ClassTree}
use Rattle.cjc_world.proofs.ExportFileRooted.{has_root}
use Rattle.cjc_world.specs.ExportFile.Root.{object}
use Rattle.cjc_world.specs.ExportFile.Supers.{is_one_of}
use Rattle.cjc_world.specs.ExportFile.Writable.{IsWritable}
use Rattle.cjc_world.specs.ExportFile.declared.tree.ExportTree.{ExportTree}
use Rattle.cjc_narrow_proof.proofs.LawsLaws.Own.{own_kept}
use Rattle.cjc_classes.specs.ClassOrder.Classes.Numbers.{class_count}
use Rattle.cjc_classes.specs.ClassOrder.Supers.Supers.{each_once, names_upwards, superclasses}
use Rattle.cjc_check_proof.proofs.TokenProofAbove.{class_there}
use Rattle.cjc_check_proof.proofs.TokenProofLists.{supers_there}
use Rattle.cjc_check_proof.proofs.TokenProofRooted.{import_root}
use Rattle.cjc_vtable.proofs.Filed.{IsFiled, filed, in_class_file, in_export_file}
use Rattle.cjc_world.specs.Classes.{Class, all_classes, class_named, declared}
use Rattle.cjc_world.specs.Files.{Files}
use Rattle.cjc_world.specs.Rules.{breaks}
use Rattle.cjc_world.specs.Supertypes.{AreSupertypes, IsAcyclic, Lists, Supertypes, after, ends, foremost, known_here}
use Rattle.cjc_world.specs.Supertypes.{supertypes, unknown_here}
use Rattle.cjc_world.proofs.Cycles.{class_named-name}
use Rattle.cjc_world.proofs.Settled.{supertypes-AreSupertypes}
use Rattle.cjc_bytes.proofs.Lists.{name_is, bytes_true}
use Rattle.cjc_bytes.proofs.Bools.{or_cases}

-- ---- lists of names

root_front : (xs ys : List (List ℕ)) → has_root xs ≡ true → has_root (xs ++ ys) ≡ true
root_front [] ys e = cc
root_front (x ∷ xs) ys e = ⊎_elim
    (λ f. or_left (bytes_eq x object) (has_root (xs ++ ys)) f)
    (λ f. or_right (bytes_eq x object) (has_root (xs ++ ys)) (root_front xs ys f))
    (or_cases (bytes_eq x object) (has_root xs) e)

root_behind : (xs ys : List (List ℕ)) → has_root ys ≡ true → has_root (xs ++ ys) ≡ true
root_behind [] ys e = e
root_behind (x ∷ xs) ys e = or_right (bytes_eq x object) (has_root (xs ++ ys)) (root_behind xs ys e)

-- a name that is another is not the one that was seen last
still_seen : (seen : List (List ℕ)) (x : List ℕ) → bytes_eq x object ≡ false → is_one_of (seen ++ x ∷ []) object ≡ true
    → is_one_of seen object ≡ true
still_seen [] x f e = by (bytes_eq x object) f e
  where
    by : (b : Bool) → b ≡ false → (b || false) ≡ true → false ≡ true
    by true f e = cc
    by false f e = e
still_seen (y ∷ seen) x f e = ⊎_elim
    (λ g. or_left (bytes_eq y object) (is_one_of seen object) g)
    (λ g. or_right (bytes_eq y object) (is_one_of seen object) (still_seen seen x f g))
    (or_cases (bytes_eq y object) (is_one_of (seen ++ x ∷ []) object) e)

-- each name once has it where the names have it
once_root : (seen xs : List (List ℕ)) → has_root xs ≡ true → (is_one_of seen object ≡ true)
    ⊎ (has_root (each_once seen xs) ≡ true)
once_root seen [] e = cc
once_root seen (x ∷ xs) e = by (bytes_eq x object) (is_one_of seen x) refl refl e (once_root seen xs) (once_root (seen
    ++ x ∷ []) xs)
  where
    by : (a b : Bool) → bytes_eq x object ≡ a → is_one_of seen x ≡ b → (a || has_root xs) ≡ true → (has_root xs ≡ true
        → (is_one_of seen object ≡ true) ⊎ (has_root (each_once seen xs) ≡ true)) → (has_root xs ≡ true
        → (is_one_of (seen ++ x ∷ []) object ≡ true) ⊎ (has_root (each_once (seen ++ x ∷ []) xs) ≡ true))
        → (is_one_of seen object ≡ true) ⊎ (has_root (if b then each_once seen xs else x ∷ each_once (seen
        ++ x ∷ []) xs) ≡ true)
    by true true f g e old new = inl (ap (is_one_of seen) (sym (bytes_true x object f)) ∙ g)
    by true false f g e old new = inr (or_left (bytes_eq x object) (has_root (each_once (seen ++ x ∷ []) xs)) f)
    by false true f g e old new = old e
    by false false f g e old new = ⊎_elim
        (λ s. inl (still_seen seen x f s))
        (λ h. inr (or_right (bytes_eq x object) (has_root (each_once (seen ++ x ∷ []) xs)) h))
        (new e)

-- what is listed stands among the names
listed_root : (w : List Class) (xs : List (List ℕ)) (k : Supertypes) → AreSupertypes w xs k → has_root xs ≡ true
    → has_root (names_upwards k) ≡ true
listed_root w xs k ends h = cc
listed_root w xs k (unknown_here {x = x} {xs = rest} {next = next} none n) h = ⊎_elim
    (λ f. or_left (bytes_eq x object) (has_root (names_upwards next)) f)
    (λ f. or_right (bytes_eq x object) (has_root (names_upwards next)) (listed_root w rest next n f))
    (or_cases (bytes_eq x object) (has_root rest) h)
listed_root w xs k (known_here {x = x} {xs = rest} {c = c} {supers = s} {next = next} f sk ik n) h = ⊎_elim
    (λ g. or_left (bytes_eq c.name object) (has_root (names_upwards s ++ names_upwards next))
    (ap (λ y. bytes_eq y object) (class_named-name w x c f) ∙ g))
    (λ g. or_right (bytes_eq c.name object) (has_root (names_upwards s ++ names_upwards next))
    (root_behind (names_upwards s) (names_upwards next) (listed_root w rest next n g)))
    (or_cases (bytes_eq x object) (has_root rest) h)

-- ---- the classes of a package

module _ (list : List ℕ) (files : Files) (own_listed : length files.classes ≤ class_count files.lines)
    (unbroken : breaks list files ≡ []) (writable : (n : ℕ) (t : ExportTree) → slice_get files.exports n ≡ Some t
    → IsWritable t) where
  abbrev w : List Class
  w = all_classes files

  -- the superclass of a class of the package is there
  super_there : (n : ℕ) (t : ClassTree) → slice_get files.classes n ≡ Some t → (d : Class)
      × (class_named w t.superclass ≡ Some d)
  super_there n t at =
      let kept = own_kept files list own_listed unbroken n t at in
      class_there w t.superclass (supers_there w (declared n t) kept.there t.superclass foremost)

  -- it is among the names of what stands above a class
  class_root : (c : Class) → IsFiled files c → (k : Supertypes) → AreSupertypes w c.supers k → ((y : List ℕ)
      (d : Class) → Lists y c.supers → class_named w y ≡ Some d → has_root (names_upwards k) ≡ true) → (c.name
      ≡ object) ⊎ (has_root (names_upwards k) ≡ true)
  class_root c (in_class_file n t at) k tree rest = let s = super_there n t at in inr (rest t.superclass s.0 foremost
      s.1)
  class_root c (in_export_file n t at) k tree rest = ⊎_elim
      (λ same. inl same)
      (λ h. inr (listed_root w t.supers k tree h))
      (import_root files writable n t at)

  -- or it is the class
  names_root : (x : List ℕ) (xs : List (List ℕ)) (k : Supertypes) (d : Class) → AreSupertypes w xs k → Lists x xs
      → class_named w x ≡ Some d → has_root (names_upwards k) ≡ true
  names_root x xs k d ends l e = elim l [ ]
  names_root x xs k d (unknown_here {next = next} none n) foremost e = absurd (clash (sym none ∙ e))
    where
      clash : {c : Class} → None ≡ Some c → ⊥
      clash e = cc
  names_root x xs k d (unknown_here {x = y} {xs = rest} {next = next} none n) (after l) e =
      or_right (bytes_eq y object) (has_root (names_upwards next)) (names_root x rest next d n l e)
  names_root x xs k d (known_here {c = c} {supers = s} {next = next} f sk ik n) foremost e = ⊎_elim
      (λ same. or_left (bytes_eq c.name object) (has_root (names_upwards s ++ names_upwards next))
      (ap (λ y. bytes_eq y object) same ∙ name_is object))
      (λ up. or_right (bytes_eq c.name object) (has_root (names_upwards s ++ names_upwards next))
      (root_front (names_upwards s) (names_upwards next) up))
      (class_root c (filed files x c f) s sk (λ y b l g. names_root y c.supers s b sk l g))
  names_root x xs k d (known_here {x = y} {xs = rest} {c = c} {supers = s} {next = next} f sk ik n) (after l) e =
      or_right (bytes_eq c.name object) (has_root (names_upwards s ++ names_upwards next))
      (root_behind (names_upwards s) (names_upwards next) (names_root x rest next d n l e))

  -- it is among the superclasses of a class of the package
  pub own_root : IsAcyclic w → (n : ℕ) (t : ClassTree) → slice_get files.classes n ≡ Some t
      → has_root (superclasses w (declared n t)) ≡ true
  own_root acyclic n t at =
      let s = super_there n t at in
      let tree = supertypes-AreSupertypes w acyclic (t.superclass ∷ []) in
      let up = names_root t.superclass (t.superclass ∷ []) (supertypes w (t.superclass ∷ [])) s.0 tree foremost s.1 in
      ⊎_elim
      (λ e. absurd (no e))
      (λ h. h)
      (once_root [] (names_upwards (supertypes w (t.superclass ∷ []))) up)
    where
      no : false ≡ true → ⊥
      no e = cc
