-- How much the classes of a package are together: each class file stands at most once in the order of Class.
use Rattle.std.proofs.Common.{◌≡◌, ℕ, zero, suc, ◌+◌, ◌≤◌, refl, sym, ap, subst, ◌∙◌, arith, Bool, true, false, List}
use Rattle.std.proofs.Common.{[], ◌∷◌, ◌++◌, length, map, Option, Some, None, inl, inr, ⊎_elim}
use Rattle.std.specs.Prelude.{not, ◌&&◌, ◌==◌, ◌⊎◌, option_map, slice_get, sum_by}
use Rattle.std.proofs.lemmas.Bool.Decides.{nat_tests}
use Rattle.std.proofs.lemmas.List.Sums.{sum_by-cons}
use Rattle.cjc_bytes.specs.AccessFlags.{is_interface}
use Rattle.cjc_vtable.proofs.ClassOrderDeclared.{order_declared}
use Rattle.cjc_classes.specs.ClassOrder.Classes.Numbers.{declared_at, numbered_from}
use Rattle.cjc_world.specs.ClassFile.declared.tree.ClassTree.{ClassTree}
use Rattle.cjc_vtable.proofs.Filed.{Has, at_front, behind, has-either}
use Rattle.cjc_world.specs.Classes.{Class, all_classes, declared}
use Rattle.cjc_world.specs.Files.{Files}
use Rattle.cjc_world.specs.Order.{and_then, class_order, in_order, is_in, is_of_kind, lined_up, next, waits}
use Rattle.cjc_shape_proof.proofs.WrittenLaws.FittingLaws.Lists.{Apart, sum_within}
use Rattle.cjc_vtable.proofs.ClassOrderStanding.{next-waits}
use Rattle.cjc_check_proof.proofs.TokenProofApart.{in_neither}

-- ---- lists

apart_append : {A : Type 0} (xs ys : List A) → Apart xs → Apart ys → ((x : A) → Has x xs → Has x ys → ⊥)
    → Apart (xs ++ ys)
unfolding Apart
apart_append [] ys a b none = b
apart_append {A} (x ∷ xs) ys a b none = (here, apart_append xs ys a.1 b (λ y h g. none y (behind h) g))
  where
    here : Has x (xs ++ ys) → ⊥
    here h = ⊎_elim (λ g. a.0 g) (λ g. none x at_front g) (has-either x xs ys h)

pub has_cons : {A : Type 0} (x y : A) (xs : List A) → Has x (y ∷ xs) → (x ≡ y) ⊎ Has x xs
has_cons x y xs at_front = inl refl
has_cons x y xs (behind h) = inr h

pub has_none : {A B : Type 0} (x : A) → Has x [] → B
has_none x h = elim h [ ]

-- ---- classes by number

numbered_has : (m : ℕ) (cs : List ClassTree) (n : ℕ) (t : ClassTree) → slice_get cs n ≡ Some t
    → Has (declared (m + n) t) (numbered_from m cs)
numbered_has m [] n t e = cc
numbered_has m (c ∷ cs) zero t e =
    let is : c ≡ t = cc in
    let z : m ≡ m + 0 = omega arith in
    subst (λ k. Has (declared k t) (declared m c ∷ numbered_from (m + 1) cs)) z
    (subst (λ (x : ClassTree). Has (declared m x) (declared m c ∷ numbered_from (m + 1) cs)) is at_front)
numbered_has m (c ∷ cs) (suc n) t e =
    let z : m + 1 + n ≡ m + suc n = omega arith in
    subst (λ k. Has (declared k t) (declared m c ∷ numbered_from (m + 1) cs)) z (behind (numbered_has (m + 1) cs n t e))

has_numbered : (m : ℕ) (cs : List ClassTree) (d : Class) → Has d (numbered_from m cs) → (n : ℕ) × (t : ClassTree)
    × (slice_get cs n ≡ Some t) × (d ≡ declared (m + n) t)
has_numbered m [] d h = elim h [ ]
has_numbered m (c ∷ cs) d at_front = let z : m ≡ m + 0 = omega arith in (0, c, refl, ap (λ k. declared k c) z)
has_numbered m (c ∷ cs) d (behind h) = let r = has_numbered (m + 1) cs d h in let z : m + 1 + r.0 ≡ m + suc r.0 =
    omega arith in (suc r.0, r.1, r.2, r.3 ∙ ap (λ k. declared k r.1) z)

numbered_apart : (m : ℕ) (cs : List ClassTree) → Apart (numbered_from m cs)
unfolding Apart
numbered_apart m [] = tt
numbered_apart m (c ∷ cs) = (apart, numbered_apart (m + 1) cs)
  where
    apart : Has (declared m c) (numbered_from (m + 1) cs) → ⊥
    apart h = let r = has_numbered (m + 1) cs (declared m c) h in let same : m ≡ m + 1 + r.0 =
        ap (λ (x : Class). x.number) r.3 in omega (arith, same)

-- a sum over classes by number is one over their files
pub numbered_sum : (f : Class → ℕ) (g : ClassTree → ℕ) (m : ℕ) (cs : List ClassTree) → ((n : ℕ) (t : ClassTree)
    → slice_get cs n ≡ Some t → f (declared (m + n) t) ≡ g t) → sum_by f (numbered_from m cs) ≡ sum_by g cs
numbered_sum f g m [] same = refl
numbered_sum f g m (c ∷ cs) same =
    let a = sum_by-cons f (declared m c) (numbered_from (m + 1) cs) in
    let b = sum_by-cons g c cs in
    let z : m + 0 ≡ m = omega arith in
    let here : f (declared m c) ≡ g c = sym (ap (λ k. f (declared k c)) z) ∙ same 0 c refl in
    let rest = numbered_sum f g (m + 1) cs (λ n t e. let y : m + 1 + n ≡ m + suc n = omega arith
    in ap (λ k. f (declared k t)) y ∙ same (suc n) t e) in
    omega (arith, a, b, here, rest)

pub numbered_most : (f : Class → ℕ) (g : ClassTree → ℕ) (m : ℕ) (cs : List ClassTree) → ((n : ℕ) (t : ClassTree)
    → slice_get cs n ≡ Some t → f (declared (m + n) t) ≤ g t) → sum_by f (numbered_from m cs) ≤ sum_by g cs
numbered_most f g m [] most = let z : 0 ≤ 0 = omega arith in z
numbered_most f g m (c ∷ cs) most =
    let a = sum_by-cons f (declared m c) (numbered_from (m + 1) cs) in
    let b = sum_by-cons g c cs in
    let z : m + 0 ≡ m = omega arith in
    let here : f (declared m c) ≤ g c = subst (λ k. f (declared k c) ≤ g c) z (most 0 c refl) in
    let rest = numbered_most f g (m + 1) cs (λ n t e. let y : m + suc n ≡ m + 1 + n = omega arith
    in subst (λ k. f (declared k t) ≤ g t) y (most (suc n) t e)) in
    omega (arith, a, b, here, rest)

pub numbered_least : (f : Class → ℕ) (g : ClassTree → ℕ) (m : ℕ) (cs : List ClassTree) → ((n : ℕ) (t : ClassTree)
    → slice_get cs n ≡ Some t → g t ≤ f (declared (m + n) t)) → sum_by g cs ≤ sum_by f (numbered_from m cs)
numbered_least f g m [] least = let z : 0 ≤ 0 = omega arith in z
numbered_least f g m (c ∷ cs) least =
    let a = sum_by-cons f (declared m c) (numbered_from (m + 1) cs) in
    let b = sum_by-cons g c cs in
    let z : m + 0 ≡ m = omega arith in
    let here : g c ≤ f (declared m c) = subst (λ k. g c ≤ f (declared k c)) z (least 0 c refl) in
    let rest = numbered_least f g (m + 1) cs (λ n t e. let y : m + suc n ≡ m + 1 + n = omega arith
    in subst (λ k. g t ≤ f (declared k t)) y (least (suc n) t e)) in
    omega (arith, a, b, here, rest)

pub ones : {A : Type 0} (xs : List A) → sum_by (λ (x : A). 1) xs ≡ length xs
ones [] = refl
ones {A} (x ∷ xs) = let a = sum_by-cons (λ (y : A). 1) x xs in let rest = ones xs in omega (arith, a, rest)

-- ---- each stands once

waits_parts : (i : Bool) (placed : List ℕ) (c : Class) → waits i placed c ≡ true → (is_of_kind i c ≡ true)
    × (is_in placed c.number ≡ false)
waits_parts i placed c e = by c.is_imported (is_of_kind i c) (is_in placed c.number) e
  where
    by : (a b d : Bool) → (not a && b && not d) ≡ true → (b ≡ true) × (d ≡ false)
    by false true false f = (refl, refl)
    by false true true f = cc
    by false false d f = cc
    by true b d f = cc

module _ (w : List Class) (i : Bool) where
  lined_new : (n : ℕ) (placed : List ℕ) (c : Class) → Has c (lined_up w i n placed) → (is_of_kind i c ≡ true)
      × (is_in placed c.number ≡ false)
  unfolding lined_up
  lined_new zero placed c h = elim h [ ]
  lined_new (suc n) placed c h = by (next w i placed w) refl h (λ d. lined_new n (placed ++ d.number ∷ []) c)
    where
      front : (d : Class) → waits i placed d ≡ true → Has c (d ∷ lined_up w i n (placed ++ d.number ∷ []))
          → (Has c (lined_up w i n (placed ++ d.number ∷ [])) → (is_of_kind i c ≡ true)
          × (is_in (placed ++ d.number ∷ []) c.number ≡ false))
          → (is_of_kind i c ≡ true) × (is_in placed c.number ≡ false)
      front d e at_front more = waits_parts i placed c e
      front d e (behind g) more = let r = more g in (r.0, (in_neither placed d.number c.number r.1).0)

      by : (o : Option Class) → next w i placed w ≡ o
          → Has c (and_then o (λ d. lined_up w i n (placed ++ d.number ∷ [])))
          → ((d : Class) → Has c (lined_up w i n (placed ++ d.number ∷ [])) → (is_of_kind i c ≡ true)
          × (is_in (placed ++ d.number ∷ []) c.number ≡ false)) → (is_of_kind i c ≡ true)
          × (is_in placed c.number ≡ false)
      by None e g more = elim g [ ]
      by (Some d) e g more = front d (next-waits w i placed w d e) g (more d)

  lined_apart : (n : ℕ) (placed : List ℕ) → Apart (lined_up w i n placed)
  unfolding lined_up Apart
  lined_apart zero placed = tt
  lined_apart (suc n) placed = by (next w i placed w) (λ d. lined_apart n (placed ++ d.number ∷ []))
    where
      own : (k : ℕ) → (k == k) ≡ true
      own k = grind (arith, nat_tests)

      clash : (b : Bool) → b ≡ true → b ≡ false → ⊥
      clash true e f = cc
      clash false e f = cc

      by : (o : Option Class) → ((d : Class) → Apart (lined_up w i n (placed ++ d.number ∷ [])))
          → Apart (and_then o (λ d. lined_up w i n (placed ++ d.number ∷ [])))
      by None more = tt
      by (Some d) more = (
        (λ h. let r = lined_new n (placed ++ d.number ∷ []) d h
            in clash (d.number == d.number) (own d.number) (in_neither placed d.number d.number r.1).1),
        more d,
      )

  kind_apart : Apart (in_order w i)
  unfolding in_order
  kind_apart = lined_apart (length w) []

  pub kind_of : (c : Class) → Has c (in_order w i) → is_of_kind i c ≡ true
  unfolding in_order
  kind_of c h = (lined_new (length w) [] c h).0

order_apart : (w : List Class) → Apart (class_order w)
unfolding class_order
order_apart w = apart_append (in_order w true) (in_order w false) (kind_apart w true) (kind_apart w false)
    (λ c h g. by (is_interface c.flags) (kind_of w true c h) (kind_of w false c g))
  where
    by : (b : Bool) → b ≡ true → not b ≡ true → ⊥
    by true e f = cc
    by false e f = cc

-- ---- of the package's files

module _ (files : Files) where
  abbrev w : List Class
  w = all_classes files

  of_map : (cs : List Class) → map Some cs ≡ map (λ (c : Class). declared_at files.classes c.number) cs → (c : Class)
      → Has c cs → Some c ≡ declared_at files.classes c.number
  of_map [] e c h = elim h [ ]
  of_map (d ∷ cs) e c at_front = cc
  of_map (d ∷ cs) e c (behind h) = of_map cs (let tail : map Some cs ≡ map (λ (x : Class). declared_at files.classes
      x.number) cs = cc in tail) c h

  -- a class of either order by its file
  pub kind_filed : (i : Bool) (c : Class) → Has c (in_order w i) → (t : ClassTree)
      × (slice_get files.classes c.number ≡ Some t) × (c ≡ declared c.number t)
  kind_filed i c h = by (slice_get files.classes c.number) refl (of_map (in_order w i) (order_declared files i) c h)
    where
      by : (o : Option ClassTree) → slice_get files.classes c.number ≡ o → Some c ≡ option_map (declared c.number) o
          → (t : ClassTree) × (o ≡ Some t) × (c ≡ declared c.number t)
      by None e f = cc
      by (Some t) e f = (t, refl, cc)

  -- a class or interface of the order by its file
  pub order_filed : (c : Class) → Has c (class_order w) → (t : ClassTree) × (slice_get files.classes c.number ≡ Some t)
      × (c ≡ declared c.number t)
  unfolding class_order
  order_filed c h = ⊎_elim (λ g. kind_filed true c g) (λ g. kind_filed false c g) (has-either c (in_order w true)
      (in_order w false) h)

  in_files : (c : Class) → (t : ClassTree) × (slice_get files.classes c.number ≡ Some t) × (c ≡ declared c.number t)
      → Has c (numbered_from 0 files.classes)
  in_files c r =
      let z : 0 + c.number ≡ c.number = omega arith in
      subst (λ (d : Class). Has d (numbered_from 0 files.classes)) (ap (λ k. declared k r.0) z
      ∙ sym r.2) (numbered_has 0 files.classes c.number r.0 r.1)

  -- a sum over the order of Class is no more than that over all class files
  pub order_within : (f : Class → ℕ) → sum_by f (class_order w) ≤ sum_by f (numbered_from 0 files.classes)
  order_within f = sum_within f (class_order w) (numbered_from 0 files.classes) (order_apart w)
      (λ c h. in_files c (order_filed c h))

  -- that over the classes that are no interfaces too
  pub classes_within : (f : Class → ℕ) → sum_by f (in_order w false) ≤ sum_by f (numbered_from 0 files.classes)
  classes_within f = sum_within f (in_order w false) (numbered_from 0 files.classes) (kind_apart w false)
      (λ c h. in_files c (kind_filed false c h))

  pub few_ordered : length (class_order w) ≤ length files.classes
  few_ordered =
      let all = order_within (λ c. 1) in
      let a = ones (class_order w) in
      let b = numbered_sum (λ c. 1) (λ t. 1) 0 files.classes (λ n t e. refl) in
      let c = ones files.classes in
      omega (arith, all, a, b, c)

  -- where all class files stand in the order the sum over them is no more
  pub files_within : ((c : Class) → Has c (numbered_from 0 files.classes) → Has c (class_order w)) → (f : Class → ℕ)
      → sum_by f (numbered_from 0 files.classes) ≤ sum_by f (class_order w)
  files_within all f = sum_within f (numbered_from 0 files.classes) (class_order w) (numbered_apart 0 files.classes) all

  pub numbered_is : (c : Class) → Has c (numbered_from 0 files.classes) → (n : ℕ) × (t : ClassTree)
      × (slice_get files.classes n ≡ Some t) × (c ≡ declared n t)
  numbered_is c h = let r = has_numbered 0 files.classes c h in let z : 0 + r.0 ≡ r.0 = omega arith
      in (r.0, r.1, r.2, r.3 ∙ ap (λ k. declared k r.1) z)
