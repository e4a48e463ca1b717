-- What a class that keeps the rules of classes and names lists.
use Rattle.std.proofs.Common.{◌≡◌, ℕ, refl, ap, ◌∙◌, Bool, true, false, List, [], ◌∷◌, ◌++◌, length, inl, inr, ⊎_elim}
use Rattle.std.specs.Prelude.{not, ◌&&◌, ◌||◌, ◌==◌, ◌⊎◌, drop, take, Option, Some, None, is_some}
use Rattle.std.specs.List.{list_any}
use Rattle.std.specs.Str.{bytes_eq}
use Rattle.std.proofs.lemmas.Bool.{eqb-true, or_parts}
use Rattle.cjc_bytes.specs.AccessFlags.{is_interface}
use Rattle.cjc_bytes.proofs.Lists.{bytes_true}
use Rattle.cjc_token_proof.specs.ByToken.Supers.{has_class}
use Rattle.cjc_world.specs.Classes.{Class, class_named}
use Rattle.cjc_world.specs.Supertypes.{Lists, foremost, after}
use Rattle.cjc_world.specs.Lookup.{object}
use Rattle.cjc_world.specs.Rules.{is_class_of, is_interface_of, is_missing, is_none_of, is_of_class_file, is_of_package}
use Rattle.cjc_world.specs.Rules.{is_part, is_slash_part, lists_missing, lists_wrong}
use Rattle.cjc_world.specs.Subtype.{starts}

pub none_lists : (test : List ℕ → Bool) (xs : List (List ℕ)) → list_any test xs ≡ false → (y : List ℕ) → Lists y xs
    → test y ≡ false
none_lists test [] e y l = elim l [ ]
none_lists test (x ∷ xs) e y foremost = by (test x) e
  where
    by : (b : Bool) → (b || list_any test xs) ≡ false → b ≡ false
    by true f = cc
    by false f = refl
none_lists test (x ∷ xs) e y (after l) = none_lists test xs (by (test x) e) y l
  where
    by : (b : Bool) → (b || list_any test xs) ≡ false → list_any test xs ≡ false
    by true f = cc
    by false f = f

pub lists_either : (xs ys : List (List ℕ)) (y : List ℕ) → Lists y (xs ++ ys) → Lists y xs ⊎ Lists y ys
lists_either [] ys y l = inr l
lists_either (x ∷ xs) ys y foremost = inl foremost
lists_either (x ∷ xs) ys y (after l) = ⊎_elim (λ m. inl (after m)) (λ m. inr m) (lists_either xs ys y l)

not_there : (w : List Class) (y : List ℕ) → is_missing w y ≡ false → has_class w y ≡ true
not_there w y e = by (class_named w y) e
  where
    by : (o : Option Class) → is_none_of o ≡ false → is_some o ≡ true
    by None f = cc
    by (Some c) f = refl

-- 203
pub supers_there : (w : List Class) (c : Class) → lists_missing w c ≡ false → (y : List ℕ) → Lists y c.supers
    → has_class w y ≡ true
unfolding lists_missing
supers_there w c e y l = not_there w y (none_lists (λ x. is_missing w x) c.supers
    (or_parts (list_any (λ x. is_missing w x) c.supers) (list_any (λ x. is_missing w x) c.interfaces) e).0 y l)

pub interfaces_there : (w : List Class) (c : Class) → lists_missing w c ≡ false → (y : List ℕ) → Lists y c.interfaces
    → has_class w y ≡ true
unfolding lists_missing
interfaces_there w c e y l = not_there w y (none_lists (λ x. is_missing w x) c.interfaces
    (or_parts (list_any (λ x. is_missing w x) c.supers) (list_any (λ x. is_missing w x) c.interfaces) e).1 y l)

-- 208
pub record RightSupers (w : List Class) (c : Class) : Type 0 where
  pub supers : (y : List ℕ) → Lists y c.supers → is_interface_of (class_named w y) ≡ false
  pub interfaces : (y : List ℕ) → Lists y c.interfaces → is_class_of (class_named w y) ≡ false
  pub of_interface : is_interface c.flags ≡ true → (y : List ℕ) → Lists y c.supers → y ≡ object
  pub of_import : c.is_imported ≡ true → (y : List ℕ) → Lists y (c.supers ++ c.interfaces)
      → is_of_class_file (class_named w y) ≡ false

pub right_supers : (w : List Class) (c : Class) → lists_wrong w c ≡ false → RightSupers w c
unfolding lists_wrong
right_supers w c e =
    let A = list_any (λ x. is_interface_of (class_named w x)) c.supers in
    let B = list_any (λ x. is_class_of (class_named w x)) c.interfaces in
    let C = list_any (λ x. not (bytes_eq x object)) c.supers in
    let D = list_any (λ x. is_of_class_file (class_named w x)) c.supers in
    let E = list_any (λ x. is_of_class_file (class_named w x)) c.interfaces in
    let r = parts A B (is_interface c.flags && C) (c.is_imported && (D || E)) e in
    record {
      supers = λ y l. none_lists (λ x. is_interface_of (class_named w x)) c.supers r.0 y l;
      interfaces = λ y l. none_lists (λ x. is_class_of (class_named w x)) c.interfaces r.1 y l;
      of_interface = λ i y l. bytes_true y object (opposite (bytes_eq y object)
          (none_lists (λ x. not (bytes_eq x object)) c.supers (where_so (is_interface c.flags) C i r.2) y l));
      of_import = λ i y l. (let q = or_parts D E (where_so c.is_imported (D || E) i r.3)
          in either c.supers c.interfaces q.0 q.1 y l);
    }
  where
    parts : (a b c d : Bool) → (a || b || c || d) ≡ false → (a ≡ false) × (b ≡ false) × (c ≡ false) × (d ≡ false)
    parts false false false false f = (refl, refl, refl, refl)
    parts false false false true f = cc
    parts false false true d f = cc
    parts false true c d f = cc
    parts true b c d f = cc

    where_so : (a b : Bool) → a ≡ true → (a && b) ≡ false → b ≡ false
    where_so true b i f = f
    where_so false b i f = cc

    opposite : (b : Bool) → not b ≡ false → b ≡ true
    opposite true f = refl
    opposite false f = cc

    either : (xs ys : List (List ℕ)) → list_any (λ x. is_of_class_file (class_named w x)) xs ≡ false
        → list_any (λ x. is_of_class_file (class_named w x)) ys ≡ false → (y : List ℕ) → Lists y (xs ++ ys)
        → is_of_class_file (class_named w y) ≡ false
    either xs ys f g y l = ⊎_elim (λ m. none_lists (λ x. is_of_class_file (class_named w x)) xs f y m)
        (λ m. none_lists (λ x. is_of_class_file (class_named w x)) ys g y m) (lists_either xs ys y l)

-- 201: 47 is /, 91 is [
pub no_array : (prefix name : List ℕ) → starts 91 prefix ≡ false → is_of_package prefix name ≡ true
    → starts 91 name ≡ false
unfolding is_of_package
no_array prefix [] e f = refl
no_array [] (c ∷ cs) e f = by (c == 47) (eqb-true c 47) f
  where
    by : (b : Bool) → (b ≡ true → c ≡ 47) → (b && is_part cs) ≡ true → (c == 91) ≡ false
    by true h g = ap (λ n. n == 91) (h refl)
    by false h g = cc
no_array (b ∷ prefix) (c ∷ cs) e f = by (c == b) (eqb-true c b) f
  where
    by : (q : Bool) → (q ≡ true → c ≡ b) → (q && bytes_eq (take (length prefix) cs) prefix
        && is_slash_part (drop (length prefix) cs)) ≡ true → (c == 91) ≡ false
    by true h g = ap (λ n. n == 91) (h refl) ∙ e
    by false h g = cc
