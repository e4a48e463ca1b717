-- The exceptions of the machine's own are imported classes, no interfaces, below java/lang/Throwable.
use Rattle.std.proofs.Common.{◌≡◌, ℕ, refl, ap, ◌∙◌, Bool, true, false, List, [], ◌∷◌}
use Rattle.std.specs.Prelude.{not, ◌&&◌, ◌||◌, map, codes, if◌then◌else◌}
use Rattle.std.specs.Str.{bytes_eq}
use Rattle.cjc_jvm_semantics.specs.Effects.{Arithmetic, ArrayStore, ClassCast, Fault, IndexOutside, NegativeSize}
use Rattle.cjc_jvm_semantics.specs.Effects.{NullPointer, exception_class}
use Rattle.cjc_jvm_semantics.specs.OnePackage.{is_plain_import}
use Rattle.cjc_world.specs.ExportFile.declared.tree.ExportTree.{ExportTree}
use Rattle.cjc_world_proof.specs.Files.{ExportsAreSound}
use Rattle.cjc_world.specs.Classes.{Class, all_classes, class_named}
use Rattle.cjc_world.specs.Files.{Files}
use Rattle.cjc_world.specs.Supertypes.{End, Supertypes, Known, Unknown, is_below, supertypes, stands, stands_by_supers}
use Rattle.cjc_world.specs.Rules.{breaks, has_array_exceptions, has_class, has_exception, has_language, has_needed}
use Rattle.cjc_world.specs.Rules.{has_other_exceptions, has_roots, throwable, when}
use Rattle.cjc_world.specs.Subtype.{array_is, is_subclass, is_subtype, starts}
use Rattle.cjc_world.proofs.Unbroken.{nil_of_map, not_when}
use Rattle.cjc_bytes.specs.Breaks.{broken_at, list_spot}
use Rattle.cjc_bytes.proofs.Bools.{both_front, both_back}
use Rattle.cjc_bytes.proofs.Lists.{none_left}
use Rattle.cjc_world.specs.Rules.{breaks_from}

-- what stands in a tree by supers alone stands in it
supers_stand : (y : List ℕ) (k : Supertypes) → stands_by_supers y k ≡ true → stands y k ≡ true
supers_stand y End e = absurd cc
supers_stand y (Unknown x next) e = by (bytes_eq x y) (stands_by_supers y next) e (supers_stand y next)
  where
    by : (a b : Bool) → (a || b) ≡ true → (b ≡ true → stands y next ≡ true) → (a || stands y next) ≡ true
    by true b e rest = refl
    by false b e rest = rest e
supers_stand y (Known c s i next) e = by (bytes_eq c.name y) (stands_by_supers y s) (stands_by_supers y next) e
    (supers_stand y s) (supers_stand y next)
  where
    second : (a b i n : Bool) → b ≡ true → (a || b || i || n) ≡ true
    second true b i n e = refl
    second false true i n e = refl
    second false false i n e = absurd cc

    last : (a b i n : Bool) → n ≡ true → (a || b || i || n) ≡ true
    last true b i n e = refl
    last false true i n e = refl
    last false false true n e = refl
    last false false false n e = e

    by : (a b n : Bool) → (a || b || n) ≡ true → (b ≡ true → stands y s ≡ true) → (n ≡ true → stands y next ≡ true)
        → (a || stands y s || stands y i || stands y next) ≡ true
    by true b n e f g = refl
    by false true n e f g = second false (stands y s) (stands y i) (stands y next) (f refl)
    by false false n e f g = last false (stands y s) (stands y i) (stands y next) (g e)

needed_there : (w : List Class) (ts : List ExportTree) → has_language w ts ≡ true → (t : ExportTree)
    × (has_needed w t ≡ true)
unfolding has_language
needed_there w [] e = absurd cc
needed_there w (t ∷ ts) e = by (bytes_eq t.name (codes "java/lang")) e (needed_there w ts)
  where
    by : (b : Bool) → (if b then has_needed w t else has_language w ts) ≡ true → (has_language w ts ≡ true
        → (t : ExportTree) × (has_needed w t ≡ true)) → (t : ExportTree) × (has_needed w t ≡ true)
    by true e rest = (t, e)
    by false e rest = rest e

module _ (list : List ℕ) (files : Files) (unbroken : breaks list files ≡ []) (sound : ExportsAreSound files) where
  abbrev w : List Class
  w = all_classes files

  language : has_language w files.exports ≡ true
  unfolding breaks
  language = is_true (has_language w files.exports) (not_when (not (has_language w files.exports)) 207
      (nil_of_map (λ rule. broken_at (list_spot list) rule) (when (not (has_language w files.exports)) 207)
      (none_left (map (λ rule. broken_at (list_spot list) rule) (when (not (has_language w files.exports)) 207))
      (breaks_from files w 0 0 0 0 files.lines) unbroken)))
    where
      is_true : (b : Bool) → not b ≡ false → b ≡ true
      is_true true e = refl
      is_true false e = absurd cc

  -- 207: each is below java/lang/Throwable
  below : (fault : Fault) → is_below w (exception_class fault) throwable ≡ true
  unfolding has_needed has_array_exceptions has_other_exceptions
  below fault =
      let t = needed_there w files.exports language in
      let others = both_back (has_roots t.0 && has_array_exceptions w t.0) (has_other_exceptions w t.0) t.1 in
      let arrays = both_back (has_roots t.0) (has_array_exceptions w t.0) (both_front (has_roots t.0
      && has_array_exceptions w t.0) (has_other_exceptions w t.0) t.1) in
      by t.0 arrays others fault
    where
      one : (t : ExportTree) (name : List ℕ) → has_exception w t name ≡ true → is_below w name throwable ≡ true
      one t name e = both_back (has_class t name) (is_below w name throwable) e

      by : (t : ExportTree) → has_array_exceptions w t ≡ true → has_other_exceptions w t ≡ true → (fault : Fault)
          → is_below w (exception_class fault) throwable ≡ true
      by t a o IndexOutside = one t (codes "java/lang/ArrayIndexOutOfBoundsException")
          (both_front (has_exception w t (codes "java/lang/ArrayIndexOutOfBoundsException"))
          (has_exception w t (codes "java/lang/ArrayStoreException"))
          (both_front (has_exception w t (codes "java/lang/ArrayIndexOutOfBoundsException")
          && has_exception w t (codes "java/lang/ArrayStoreException"))
          (has_exception w t (codes "java/lang/NegativeArraySizeException")) a))
      by t a o ArrayStore = one t (codes "java/lang/ArrayStoreException")
          (both_back (has_exception w t (codes "java/lang/ArrayIndexOutOfBoundsException"))
          (has_exception w t (codes "java/lang/ArrayStoreException"))
          (both_front (has_exception w t (codes "java/lang/ArrayIndexOutOfBoundsException")
          && has_exception w t (codes "java/lang/ArrayStoreException"))
          (has_exception w t (codes "java/lang/NegativeArraySizeException")) a))
      by t a o NegativeSize = one t (codes "java/lang/NegativeArraySizeException")
          (both_back (has_exception w t (codes "java/lang/ArrayIndexOutOfBoundsException")
          && has_exception w t (codes "java/lang/ArrayStoreException"))
          (has_exception w t (codes "java/lang/NegativeArraySizeException")) a)
      by t a o Arithmetic = one t (codes "java/lang/ArithmeticException")
          (both_front (has_exception w t (codes "java/lang/ArithmeticException"))
          (has_exception w t (codes "java/lang/ClassCastException"))
          (both_front (has_exception w t (codes "java/lang/ArithmeticException")
          && has_exception w t (codes "java/lang/ClassCastException"))
          (has_exception w t (codes "java/lang/NullPointerException")) o))
      by t a o ClassCast = one t (codes "java/lang/ClassCastException")
          (both_back (has_exception w t (codes "java/lang/ArithmeticException"))
          (has_exception w t (codes "java/lang/ClassCastException"))
          (both_front (has_exception w t (codes "java/lang/ArithmeticException")
          && has_exception w t (codes "java/lang/ClassCastException"))
          (has_exception w t (codes "java/lang/NullPointerException")) o))
      by t a o NullPointer = one t (codes "java/lang/NullPointerException")
          (both_back (has_exception w t (codes "java/lang/ArithmeticException")
          && has_exception w t (codes "java/lang/ClassCastException"))
          (has_exception w t (codes "java/lang/NullPointerException")) o)

  no_array : (fault : Fault) → starts 91 (exception_class fault) ≡ false
  no_array Arithmetic = refl
  no_array NullPointer = refl
  no_array IndexOutside = refl
  no_array NegativeSize = refl
  no_array ClassCast = refl
  no_array ArrayStore = refl

  pub exception_is : (fault : Fault) → (is_plain_import (class_named w (exception_class fault)) ≡ true)
      × (is_subtype w (exception_class fault) throwable ≡ true)
  unfolding is_subtype is_subclass is_below
  exception_is fault =
      let c = sound.exceptions fault in (
        ap is_plain_import c.found ∙ ap not c.no_interface,
        ap (λ b. if b then array_is w throwable else is_subclass w (exception_class fault) throwable) (no_array fault)
            ∙ supers_stand throwable (supertypes w (exception_class fault ∷ [])) (below fault),
      )
