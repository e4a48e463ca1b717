-- The classes of a world and the files that they stand in.
use Rattle.std.proofs.Common.{◌≡◌, ℕ, zero, suc, ◌+◌, arith, refl, sym, ap, subst, ◌∙◌, Bool, true, false, List, []}
use Rattle.std.proofs.Common.{◌∷◌, ◌++◌, add-one, inl, inr, ⊎_elim}
use Rattle.std.specs.Prelude.{drop, length, not, ◌==◌, ◌&&◌, ◌⊎◌, Option, Some, None, slice_get, if◌then◌else◌}
use Rattle.std.specs.Str.{bytes_eq}
use Rattle.cjc_world.specs.Bytes.declared.settings.FileLine.{FileLine}
use Rattle.cjc_world.specs.ClassFile.declared.tree.ClassTree.{ClassTree}
use Rattle.cjc_world.specs.ExportFile.declared.tree.ExportClass.{ExportClass}
use Rattle.cjc_world.specs.ExportFile.declared.tree.ExportTree.{ExportTree}
use Rattle.cjc_world.specs.Files.{Files}
use Rattle.cjc_world.specs.Classes.{Class, declared, imported, numbered, size, of_class_file, of_export_file}
use Rattle.cjc_world.specs.Classes.{classes_from, all_classes, class_named, is_at, class_at}
use Rattle.cjc_subset.specs.Members.{imports}

-- the item stands in the list
pub data Has {A : Type 0} (x : A) : List A → Type 0 where
  at_front : {xs : List A} → Has x (x ∷ xs)
  behind : {y : A} {xs : List A} → Has x xs → Has x (y ∷ xs)

pub has-get : {A : Type 0} (x : A) (xs : List A) → Has x xs → (i : ℕ) × (slice_get xs i ≡ Some x)
has-get x [] h = elim h [ ]
has-get x (y ∷ xs) at_front = (0, refl)
has-get x (y ∷ xs) (behind h) = let r = has-get x xs h in (suc r.0, r.1)

pub get-has : {A : Type 0} (x : A) (xs : List A) (i : ℕ) → slice_get xs i ≡ Some x → Has x xs
get-has x [] i e = cc
get-has x (y ∷ xs) zero e = let is : y ≡ x = cc in subst (λ z. Has x (z ∷ xs)) (sym is) at_front
get-has x (y ∷ xs) (suc i) e = behind (get-has x xs i e)

pub has-either : {A : Type 0} (x : A) (a b : List A) → Has x (a ++ b) → Has x a ⊎ Has x b
has-either x [] b h = inr h
has-either x (y ∷ a) b at_front = inl at_front
has-either x (y ∷ a) b (behind h) = ⊎_elim (λ g. inl (behind g)) (λ g. inr g) (has-either x a b h)

-- a class of an export file
pub of-imports : (c : ExportClass) (ts : List ExportTree) → Has c (imports ts) → (t : ExportTree) × Has t ts
    × Has c t.classes
of-imports c [] h = elim h [ ]
of-imports c (t ∷ ts) h = ⊎_elim
    (λ g. (t, at_front, g))
    (λ g. let r = of-imports c ts g in (r.0, behind r.1, r.2))
    (has-either c t.classes (imports ts) h)

-- ---- what holds of each class

unfoldable pub Every : (Class → Type 0) → List Class → Type 0
Every P [] = Unit {0}
Every P (c ∷ cs) = P c × Every P cs

pub every-append : (P : Class → Type 0) (cs ds : List Class) → Every P cs → Every P ds → Every P (cs ++ ds)
unfolding Every
every-append P [] ds p q = q
every-append P (c ∷ cs) ds p q = (p.0, every-append P cs ds p.1 q)

pub every-named : (P : Class → Type 0) (cs : List Class) (x : List ℕ) (d : Class) → Every P cs
    → class_named cs x ≡ Some d → P d
unfolding Every class_named
every-named P [] x d p e = cc
every-named P (c ∷ cs) x d p e = by (bytes_eq c.name x) e (every-named P cs x d p.1)
  where
    by : (b : Bool) → (if b then Some c else class_named cs x) ≡ Some d → (class_named cs x ≡ Some d → P d) → P d
    by true e rest = let is : c ≡ d = cc in subst P is p.0
    by false e rest = rest e

every-at : (P : Class → Type 0) (cs : List Class) (imp : Bool) (n : ℕ) (d : Class) → Every P cs
    → class_at cs imp n ≡ Some d → P d
unfolding Every class_at
every-at P [] imp n d p e = cc
every-at P (c ∷ cs) imp n d p e = by (is_at imp n c) e (every-at P cs imp n d p.1)
  where
    by : (b : Bool) → (if b then Some c else class_at cs imp n) ≡ Some d → (class_at cs imp n ≡ Some d → P d) → P d
    by true e rest = let is : c ≡ d = cc in subst P is p.0
    by false e rest = rest e

-- ---- a class is that of its kind and number

pub data IsFiled (files : Files) : Class → Type 0 where
  in_class_file : (n : ℕ) (t : ClassTree) → slice_get files.classes n ≡ Some t → IsFiled files (declared n t)
  in_export_file : (n : ℕ) (c : ExportClass) → slice_get (imports files.exports) n ≡ Some c
      → IsFiled files (imported n c)

-- the classes of the export files from this one on have the numbers from this one on
IsNumbered : List ExportTree → (export_file number : ℕ) → Type 0
IsNumbered exports e i = (j : ℕ) → slice_get (imports exports) (i + j) ≡ slice_get (imports (drop e exports)) j

drop-some : (ts : List ExportTree) (e : ℕ) (t : ExportTree) → slice_get ts e ≡ Some t → drop e ts ≡ t ∷ drop (suc e) ts
drop-some [] e t f = cc
drop-some (u ∷ ts) zero t f = cc
drop-some (u ∷ ts) (suc e) t f = drop-some ts e t f

drop-nil : (e : ℕ) → drop {A = ExportTree} e [] ≡ []
drop-nil zero = refl
drop-nil (suc e) = refl

drop-none : (ts : List ExportTree) (e : ℕ) → slice_get ts e ≡ None → (drop e ts ≡ []) × (drop (suc e) ts ≡ [])
drop-none [] e f = (drop-nil e, drop-nil (suc e))
drop-none (u ∷ ts) zero f = cc
drop-none (u ∷ ts) (suc e) f = drop-none ts e f

filed-numbered : (files : Files) (n : ℕ) (cs rest : List ExportClass)
    → ((j : ℕ) → slice_get (imports files.exports) (n + j) ≡ slice_get (cs ++ rest) j)
    → Every (IsFiled files) (numbered n cs) × ((j : ℕ) → slice_get (imports files.exports) (n + length cs + j)
    ≡ slice_get rest j)
unfolding Every
filed-numbered files n [] rest h = (
  tt,
  λ j. let s : n + 0 + j ≡ n + j = omega arith
      in ap (slice_get (imports files.exports)) s ∙ h j,
)
filed-numbered files n (c ∷ cs) rest h =
    let r = filed-numbered files (n + 1) cs rest (λ j. let s : n + 1 + j ≡ n + suc j = omega arith
    in ap (slice_get (imports files.exports)) s ∙ h (suc j)) in
    let z : n ≡ n + 0 = omega arith in (
      (in_export_file n c (ap (slice_get (imports files.exports)) z ∙ h 0), r.0),
      λ j. let s : n + suc (length cs) + j
          ≡ n + 1 + length cs + j = omega arith in ap (slice_get (imports files.exports)) s ∙ r.1 j,
    )

module _ (files : Files) where
  numbered-next : (e i : ℕ) → IsNumbered files.exports e i
      → Every (IsFiled files) (of_export_file i (slice_get files.exports e))
      × IsNumbered files.exports (e + 1) (i + size (slice_get files.exports e))
  unfolding IsNumbered Every
  numbered-next e i h = by (slice_get files.exports e) refl
    where
      by : (o : Option ExportTree) → slice_get files.exports e ≡ o → Every (IsFiled files) (of_export_file i o)
          × ((j : ℕ) → slice_get (imports files.exports) (i + size o + j)
          ≡ slice_get (imports (drop (e + 1) files.exports)) j)
      by None f =
          let d = drop-none files.exports e f in (
            tt,
            λ j. let s : i + 0 + j ≡ i + j = omega arith in ap (slice_get (imports files.exports)) s ∙ h j
                ∙ ap (λ ts. slice_get (imports ts) j) (d.0 ∙ sym (ap (λ n. drop n files.exports) (add-one e) ∙ d.1)),
          )
      by (Some t) f = filed-numbered files i t.classes (imports (drop (e + 1) files.exports)) (λ j. h j
          ∙ ap (λ ts. slice_get (imports ts) j) (drop-some files.exports e t f
          ∙ ap (λ n. t ∷ drop n files.exports) (sym (add-one e))))

  filed-class_file : (c : ℕ) → Every (IsFiled files) (of_class_file c (slice_get files.classes c))
  unfolding Every
  filed-class_file c = by (slice_get files.classes c) refl
    where
      by : (o : Option ClassTree) → slice_get files.classes c ≡ o → Every (IsFiled files) (of_class_file c o)
      by None f = tt
      by (Some t) f = (in_class_file c t f, tt)

  filed-lines : (c e i : ℕ) (lines : List FileLine) → IsNumbered files.exports e i
      → Every (IsFiled files) (classes_from files.classes files.exports c e i lines)
  unfolding Every classes_from
  filed-lines c e i [] h = tt
  filed-lines c e i (line ∷ lines) h = by line.class_file (filed-lines (c + 1) e i lines h) (filed-lines c (e + 1)
      (i + size (slice_get files.exports e)) lines (numbered-next e i h).1)
    where
      by : (b : Bool) → Every (IsFiled files) (classes_from files.classes files.exports (c + 1) e i lines)
          → Every (IsFiled files) (classes_from files.classes files.exports c (e + 1)
          (i + size (slice_get files.exports e)) lines)
          → Every (IsFiled files) (if b then of_class_file c (slice_get files.classes c)
          ++ classes_from files.classes files.exports (c + 1) e i lines
          else of_export_file i (slice_get files.exports e) ++ classes_from files.classes files.exports c (e + 1)
          (i + size (slice_get files.exports e)) lines)
      by true r s = every-append (IsFiled files) (of_class_file c (slice_get files.classes c))
          (classes_from files.classes files.exports (c + 1) e i lines) (filed-class_file c) r
      by false r s = every-append (IsFiled files) (of_export_file i (slice_get files.exports e))
          (classes_from files.classes files.exports c (e + 1) (i + size (slice_get files.exports e)) lines)
          (numbered-next e i h).0 s

  every-filed : Every (IsFiled files) (all_classes files)
  unfolding all_classes IsNumbered
  every-filed = filed-lines 0 0 0 files.lines (λ j. let s : 0 + j ≡ j = omega arith
      in ap (slice_get (imports files.exports)) s)

  pub filed : (x : List ℕ) (d : Class) → class_named (all_classes files) x ≡ Some d → IsFiled files d
  filed x d e = every-named (IsFiled files) (all_classes files) x d every-filed e

  -- one kind and number is one class
  one-filed : (c d : Class) → IsFiled files c → IsFiled files d → c.is_imported ≡ d.is_imported → c.number ≡ d.number
      → c ≡ d
  one-filed c d (in_class_file n t e) (in_class_file k u f) same_kind same_number =
      let both : Some t ≡ Some u = sym e ∙ ap (slice_get files.classes) same_number ∙ f in
      let is : t ≡ u = cc in
      ap (λ (v : ClassTree). declared n v) is ∙ ap (λ (v : ℕ). declared v u) same_number
  one-filed c d (in_export_file n t e) (in_export_file k u f) same_kind same_number =
      let both : Some t ≡ Some u = sym e ∙ ap (slice_get (imports files.exports)) same_number ∙ f in
      let is : t ≡ u = cc in
      ap (λ (v : ExportClass). imported n v) is ∙ ap (λ (v : ℕ). imported v u) same_number
  one-filed c d (in_class_file n t e) (in_export_file k u f) same_kind same_number = cc
  one-filed c d (in_export_file n t e) (in_class_file k u f) same_kind same_number = cc

  is_at-itself : (d : Class) → is_at d.is_imported d.number d ≡ true
  is_at-itself d = by d.is_imported (let s : (d.number == d.number) ≡ true = grind arith in s)
    where
      by : (b : Bool) → (d.number == d.number) ≡ true → ((if b then b else not b) && (d.number == d.number)) ≡ true
      by true e = e
      by false e = e

  is_at-is : (imp : Bool) (n : ℕ) (d : Class) → is_at imp n d ≡ true → (d.is_imported ≡ imp) × (d.number ≡ n)
  is_at-is imp n d e = by d.is_imported imp (d.number == n) e (λ t. grind arith)
    where
      by : (b i q : Bool) → ((if b then i else not i) && q) ≡ true → (q ≡ true → d.number ≡ n) → (b ≡ i)
          × (d.number ≡ n)
      by true true true e h = (refl, h refl)
      by true false q e h = cc
      by false false true e h = (refl, h refl)
      by false true q e h = cc
      by true true false e h = cc
      by false false false e h = cc

  some-at : (w : List Class) (x : List ℕ) (d : Class) → class_named w x ≡ Some d → (c : Class)
      × (class_at w d.is_imported d.number ≡ Some c) × (is_at d.is_imported d.number c ≡ true)
  unfolding class_named class_at
  some-at [] x d e = cc
  some-at (b ∷ w) x d e = by (bytes_eq b.name x) (is_at d.is_imported d.number b) refl e (some-at w x d)
    where
      by : (named here : Bool) → is_at d.is_imported d.number b ≡ here → (if named then Some b else class_named w x)
          ≡ Some d → (class_named w x ≡ Some d → (c : Class) × (class_at w d.is_imported d.number ≡ Some c)
          × (is_at d.is_imported d.number c ≡ true))
          → (c : Class) × ((if here then Some b else class_at w d.is_imported d.number) ≡ Some c)
          × (is_at d.is_imported d.number c ≡ true)
      by named true f e rest = (b, refl, f)
      by true false f e rest = let is : b ≡ d = cc in let yes' = ap (is_at d.is_imported d.number) is ∙ is_at-itself d
          in cc
      by false false f e rest = rest e

  pub at-number : (x : List ℕ) (d : Class) → class_named (all_classes files) x ≡ Some d
      → class_at (all_classes files) d.is_imported d.number ≡ Some d
  at-number x d e =
      let r = some-at (all_classes files) x d e in
      let is = is_at-is d.is_imported d.number r.0 r.2 in
      let one = one-filed r.0 d (every-at (IsFiled files) (all_classes files) d.is_imported d.number r.0 every-filed
      r.1) (filed x d e) is.0 is.1 in
      r.1 ∙ ap (λ (v : Class). Some v) one
