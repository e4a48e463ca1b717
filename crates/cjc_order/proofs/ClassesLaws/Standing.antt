-- The order of the classes of one kind, from the class files alone.
use Rattle.std.proofs.Common.{◌≡◌, ℕ, zero, suc, ◌+◌, ◌-◌, ◌<◌, ◌≤◌, refl, sym, ap, subst, ◌∙◌, arith, Bool, true}
use Rattle.std.proofs.Common.{false, List, [], ◌∷◌, ◌++◌, length, drop, take, append_assoc, append-nil}
use Rattle.std.proofs.Common.{eq-eqb}
use Rattle.std.specs.Prelude.{◌&&◌, ◌||◌, ◌==◌, not, if◌then◌else◌, cond, slice_get, map, filter, Option, Some}
use Rattle.std.specs.Prelude.{None, option_map, All}
use Rattle.std.specs.List.{list_any}
use Rattle.std.proofs.lemmas.List.Elements.{filter-append, All-append}
use Rattle.std.proofs.lemmas.List.Folds.{list_any-append}
use Rattle.std.proofs.lemmas.List.Sums.{sum_by-cons}
use Rattle.std.proofs.lemmas.List.{map-append}
use Rattle.cjc_world.specs.Bytes.declared.settings.FileLine.{FileLine}
use Rattle.cjc_world.specs.ClassFile.declared.tree.ClassTree.{ClassTree}
use Rattle.cjc_world.specs.ExportFile.declared.tree.ExportClass.{ExportClass}
use Rattle.cjc_world.specs.ExportFile.declared.tree.ExportTree.{ExportTree}
use Rattle.cjc_world.specs.Files.{Files}
use Rattle.cjc_world.specs.Classes.{Class, declared, numbered, size, of_class_file, of_export_file, classes_from}
use Rattle.cjc_world.specs.Classes.{all_classes, class_named}
use Rattle.cjc_world.specs.Order.{is_in, is_of_kind, waits, names_waiting, may_stand, next, and_then, lined_up}
use Rattle.cjc_world.specs.Order.{in_order}
use Rattle.cjc_order.specs.Classes.Numbers.{numbered_from, class_count, declared_at, IsOfKind}
use Rattle.cjc_order.specs.Classes.Queue.{IsBegun}
use Rattle.cjc_world.proofs.BytesGets.{get_past, drop_at}

pub class_count-cons : (line : FileLine) (lines : List FileLine) → class_count (line ∷ lines)
    ≡ cond line.class_file 1 0 +
    class_count lines
class_count-cons line lines = sum_by-cons (λ (l : FileLine). cond l.class_file 1 0) line lines

abbrev is_own : Class → Bool
is_own c = not c.is_imported

one : Bool → ℕ
one true = 1
one false = 0

-- how many pass the test
count : (Class → Bool) → List Class → ℕ
count test [] = 0
count test (c ∷ cs) = one (test c) + count test cs

count-length : (test : Class → Bool) (cs : List Class) → count test cs ≤ length cs
unfolding count one
count-length test [] = omega arith
count-length test (c ∷ cs) = by (test c) (count-length test cs)
  where
    by : (b : Bool) → count test cs ≤ length cs → one b + count test cs ≤ suc (length cs)
    by true e = omega arith
    by false e = omega arith

-- ---- the classes of the package among all

own-numbered : (n : ℕ) (cs : List ExportClass) → filter is_own (numbered n cs) ≡ []
own-numbered n [] = refl
own-numbered n (c ∷ cs) = own-numbered (n + 1) cs

own-export : (n : ℕ) (o : Option ExportTree) → filter is_own (of_export_file n o) ≡ []
own-export n None = refl
own-export n (Some t) = own-numbered n t.classes

pub taken-below : {A : Type 0} (n : ℕ) (xs : List A) (k : ℕ) (x : A) → slice_get (take n xs) k ≡ Some x → k < n
taken-below zero [] k x e = cc
taken-below zero (y ∷ xs) k x e = cc
taken-below (suc n) [] k x e = cc
taken-below (suc n) (y ∷ xs) zero x e = omega arith
taken-below (suc n) (y ∷ xs) (suc k) x e = let below = taken-below n xs k x e in omega arith

pub taken : {A : Type 0} (n : ℕ) (xs : List A) (k : ℕ) (x : A) → slice_get (take n xs) k ≡ Some x
    → slice_get xs k ≡ Some x
taken zero [] k x e = cc
taken zero (y ∷ xs) k x e = cc
taken (suc n) [] k x e = cc
taken (suc n) (y ∷ xs) zero x e = e
taken (suc n) (y ∷ xs) (suc k) x e = taken n xs k x e

own-classes : (trees : List ClassTree) (exports : List ExportTree) (c e i : ℕ) (lines : List FileLine)
    → filter is_own (classes_from trees exports c e i lines) ≡ numbered_from c (take (class_count lines) (drop c trees))
unfolding classes_from
own-classes trees exports c e i [] = refl
own-classes trees exports c e i (line ∷ lines) =
    by line.class_file (own-classes trees exports (c + 1) e i lines) (own-classes trees exports c (e + 1)
    (i + size (slice_get exports e)) lines)
    ∙ ap (λ n. numbered_from c (take n (drop c trees))) (sym (class_count-cons line lines))
  where
    empty : (n : ℕ) → numbered_from (c + 1) (take n []) ≡ []
    empty zero = refl
    empty (suc n) = refl

    at : (o : Option ClassTree) → slice_get trees c ≡ o → filter is_own (classes_from trees exports (c + 1) e i lines)
        ≡ numbered_from (c + 1) (take (class_count lines) (drop (c + 1) trees))
        → filter is_own (of_class_file c o ++ classes_from trees exports (c + 1) e i lines)
        ≡ numbered_from c (take (suc (class_count lines)) (drop c trees))
    at None f rest =
        let p = get_past trees c f in
        rest ∙ ap (λ q. numbered_from (c + 1) (take (class_count lines) q)) p.1 ∙ empty (class_count lines)
        ∙ ap (λ q. numbered_from c (take (suc (class_count lines)) q)) (sym p.0)
    at (Some t) f rest =
        ap (λ q. declared c t ∷ q) rest ∙ ap (λ q. numbered_from c (take (suc (class_count lines)) q))
        (sym (drop_at trees c t f))

    by : (b : Bool)
        → filter is_own (classes_from trees exports (c + 1) e i lines) ≡ numbered_from (c + 1) (take (class_count lines)
        (drop (c + 1) trees))
        → filter is_own (classes_from trees exports c (e + 1) (i + size (slice_get exports e)) lines)
        ≡ numbered_from c (take (class_count lines) (drop c trees))
        → filter is_own (if b then of_class_file c (slice_get trees c) ++ classes_from trees exports (c + 1) e i lines
        else of_export_file i (slice_get exports e) ++ classes_from trees exports c (e + 1)
        (i + size (slice_get exports e)) lines)
        ≡ numbered_from c (take (cond b 1 0 + class_count lines) (drop c trees))
    by true p q = at (slice_get trees c) refl p ∙ (let one_more : suc (class_count lines) ≡ 1 + class_count lines =
        omega arith in ap (λ n. numbered_from c (take n (drop c trees))) one_more)
    by false p q =
        filter-append is_own (of_export_file i (slice_get exports e)) (classes_from trees exports c (e + 1)
        (i + size (slice_get exports e)) lines)
        ∙ ap (λ r. r ++ filter is_own (classes_from trees exports c (e + 1) (i + size (slice_get exports e)) lines))
        (own-export i (slice_get exports e))
        ∙ q
        ∙ (let none : class_count lines ≡ 0 + class_count lines = omega arith
        in ap (λ n. numbered_from c (take n (drop c trees))) none)

own-all : (files : Files) → filter is_own (all_classes files) ≡ numbered_from 0 (take (class_count files.lines)
    files.classes)
unfolding all_classes
own-all files = own-classes files.classes files.exports 0 0 0 files.lines

-- ---- an imported class never waits

module _ (w : List Class) (i : Bool) (p : List ℕ) where
  imported-waits : (c : Class) → c.is_imported ≡ true → waits i p c ≡ false
  imported-waits c e = ap (λ b. not b && is_of_kind i c && not (is_in p c.number)) e

  imported-stands : (c : Class) → c.is_imported ≡ true → may_stand w i p c ≡ false
  unfolding may_stand
  imported-stands c e = ap (λ b. b && not (list_any (λ x. names_waiting i p (class_named w x)) c.supers
      || list_any (λ x. names_waiting i p (class_named w x)) c.interfaces)) (imported-waits c e)

  pub next-own : (cs : List Class) → next w i p cs ≡ next w i p (filter is_own cs)
  unfolding next
  next-own [] = refl
  next-own (c ∷ cs) = by c.is_imported refl (next-own cs)
    where
      by : (b : Bool) → c.is_imported ≡ b → next w i p cs ≡ next w i p (filter is_own cs)
          → (if may_stand w i p c then Some c else next w i p cs) ≡ next w i p (cond (not b) (c ∷ filter is_own cs)
          (filter is_own cs))
      by true e rest = ap (λ b. if b then Some c else next w i p cs) (imported-stands c e) ∙ rest
      by false e rest = ap (λ q. if may_stand w i p c then Some c else q) rest

  waits-own : (cs : List Class) → count (waits i p) cs ≡ count (waits i p) (filter is_own cs)
  unfolding count one
  waits-own [] = refl
  waits-own (c ∷ cs) = by c.is_imported refl (waits-own cs)
    where
      by : (b : Bool) → c.is_imported ≡ b → count (waits i p) cs ≡ count (waits i p) (filter is_own cs)
          → one (waits i p c) + count (waits i p) cs ≡ count (waits i p) (cond (not b) (c ∷ filter is_own cs)
          (filter is_own cs))
      by true e rest = let none : one (waits i p c) ≡ 0 = ap one (imported-waits c e) in omega arith
      by false e rest = ap (λ q. one (waits i p c) + q) rest

-- ---- each place that is taken leaves one less

pub is_in-more : (p : List ℕ) (k n : ℕ) → is_in (p ++ k ∷ []) n ≡ (is_in p n || ((k == n) || false))
is_in-more p k n = list_any-append (λ j. j == n) p (k ∷ [])

waits-less : (i : Bool) (p : List ℕ) (k : ℕ) (c : Class) → one (waits i (p ++ k ∷ []) c) ≤ one (waits i p c)
unfolding one
waits-less i p k c = rw (is_in-more p k c.number) (by (not c.is_imported && is_of_kind i c) (is_in p c.number)
    (k == c.number))
  where
    by : (a b d : Bool) → one (a && not (b || (d || false))) ≤ one (a && not b)
    by false b d = omega arith
    by true true d = omega arith
    by true false true = omega arith
    by true false false = omega arith

count-less : (i : Bool) (p : List ℕ) (k : ℕ) (cs : List Class) → count (waits i (p ++ k ∷ [])) cs ≤ count (waits i p) cs
unfolding count one
count-less i p k [] = omega arith
count-less i p k (c ∷ cs) = let one = waits-less i p k c in let rest = count-less i p k cs in omega arith

pub stands-waits : (w : List Class) (i : Bool) (p : List ℕ) (c : Class) → may_stand w i p c ≡ true → waits i p c ≡ true
unfolding may_stand
stands-waits w i p c e = by (waits i p c) (not (list_any (λ x. names_waiting i p (class_named w x)) c.supers
    || list_any (λ x. names_waiting i p (class_named w x)) c.interfaces)) e
  where
    by : (a b : Bool) → (a && b) ≡ true → a ≡ true
    by true b e = refl
    by false b e = cc

placed-waits : (i : Bool) (p : List ℕ) (c : Class) → waits i (p ++ c.number ∷ []) c ≡ false
placed-waits i p c = rw (is_in-more p c.number c.number) (by (not c.is_imported && is_of_kind i c) (is_in p c.number)
    (c.number == c.number) (eq-eqb c.number c.number refl))
  where
    by : (a b d : Bool) → d ≡ true → (a && not (b || (d || false))) ≡ false
    by false b d e = refl
    by true true d e = refl
    by true false true e = refl
    by true false false e = cc

fewer : (w : List Class) (i : Bool) (p : List ℕ) (cs : List Class) (c : Class) → next w i p cs ≡ Some c
    → count (waits i (p ++ c.number ∷ [])) cs < count (waits i p) cs
unfolding next count one
fewer w i p [] c e = cc
fewer w i p (d ∷ cs) c e = by (may_stand w i p d) refl e (fewer w i p cs c)
  where
    by : (b : Bool) → may_stand w i p d ≡ b → (if b then Some d else next w i p cs) ≡ Some c → (next w i p cs ≡ Some c
        → count (waits i (p ++ c.number ∷ [])) cs < count (waits i p) cs)
        → one (waits i (p ++ c.number ∷ []) d) + count (waits i (p ++ c.number ∷ [])) cs < one (waits i p d) + count
        (waits i p) cs
    by true f e rest =
        let is : d ≡ c = cc in
        let old : one (waits i p d) ≡ 1 = ap one (stands-waits w i p d f) in
        let new : one (waits i (p ++ c.number ∷ []) d) ≡ 0 =
        ap one (subst (λ (q : Class). waits i (p ++ q.number ∷ []) d ≡ false) is (placed-waits i p d)) in
        let less = count-less i p c.number cs in
        omega arith
    by false f e rest = let less = rest e in let one = waits-less i p c.number d in omega arith

pub next-waits : (w : List Class) (i : Bool) (p : List ℕ) (cs : List Class) (c : Class) → next w i p cs ≡ Some c
    → waits i p c ≡ true
unfolding next
next-waits w i p [] c e = cc
next-waits w i p (d ∷ cs) c e = by (may_stand w i p d) refl e (next-waits w i p cs c)
  where
    by : (b : Bool) → may_stand w i p d ≡ b → (if b then Some d else next w i p cs) ≡ Some c → (next w i p cs ≡ Some c
        → waits i p c ≡ true) → waits i p c ≡ true
    by true f e rest = let is : d ≡ c = cc in subst (λ (q : Class). waits i p q ≡ true) is (stands-waits w i p d f)
    by false f e rest = rest e

-- ---- as many steps as there are classes that wait reach all of them

module _ (w : List Class) (i : Bool) where
  lined-same : (n m : ℕ) (p : List ℕ) → count (waits i p) w ≤ n → count (waits i p) w ≤ m
      → lined_up w i n p ≡ lined_up w i m p
  unfolding lined_up
  lined-same zero zero p a b = refl
  lined-same zero (suc m) p a b = by (next w i p w) refl
    where
      by : (o : Option Class) → next w i p w ≡ o → [] ≡ and_then o (λ c. lined_up w i m (p ++ c.number ∷ []))
      by None e = refl
      by (Some c) e = let less = fewer w i p w c e in absurd (omega arith)
  lined-same (suc n) zero p a b = by (next w i p w) refl
    where
      by : (o : Option Class) → next w i p w ≡ o → and_then o (λ c. lined_up w i n (p ++ c.number ∷ [])) ≡ []
      by None e = refl
      by (Some c) e = let less = fewer w i p w c e in absurd (omega arith)
  lined-same (suc n) (suc m) p a b = by (next w i p w) refl (λ q. lined-same n m q)
    where
      by : (o : Option Class) → next w i p w ≡ o → ((q : List ℕ) → count (waits i q) w ≤ n → count (waits i q) w ≤ m
          → lined_up w i n q ≡ lined_up w i m q)
          → and_then o (λ c. lined_up w i n (p ++ c.number ∷ [])) ≡ and_then o (λ c. lined_up w i m (p ++ c.number
          ∷ []))
      by None e rest = refl
      by (Some c) e rest = let less = fewer w i p w c e
          in ap (λ q. c ∷ q) (rest (p ++ c.number ∷ []) (omega arith) (omega arith))

length-numbered : (n : ℕ) (cs : List ClassTree) → length (numbered_from n cs) ≡ length cs
length-numbered n [] = refl
length-numbered n (c ∷ cs) = ap suc (length-numbered (n + 1) cs)

-- the order, by as many steps as there are class files with a line
order-lined : (files : Files) (i : Bool) → in_order (all_classes files) i ≡ lined_up (all_classes files) i
    (length (take (class_count files.lines) files.classes)) []
unfolding in_order
order-lined files i =
    let w = all_classes files in
    let trees = take (class_count files.lines) files.classes in
    let own = own-all files in
    let few : count (waits i []) w ≤ length w = count-length (waits i []) w in
    let same = waits-own w i [] w ∙ ap (count (waits i [])) own in
    let all : count (waits i []) (numbered_from 0 trees) ≤ length (numbered_from 0 trees) =
    count-length (waits i []) (numbered_from 0 trees) in
    let long = length-numbered 0 trees in
    lined-same w i (length w) (length trees) [] few (omega arith)

-- ---- the list of the numbers

pub next-numbered : (files : Files) (i : Bool) (p : List ℕ) → next (all_classes files) i p (all_classes files)
    ≡ next (all_classes files) i p (numbered_from 0 (take (class_count files.lines) files.classes))
next-numbered files i p = next-own (all_classes files) i p (all_classes files)
    ∙ ap (next (all_classes files) i p) (own-all files)

pub begun-init : (files : Files) (i : Bool) (trees : List ClassTree)
    → trees ≡ take (class_count files.lines) files.classes → IsBegun (all_classes files) i files.classes []
    (length trees - 0) (in_order (all_classes files) i)
begun-init files i trees is =
    let z : length trees ≡ length trees - 0 = omega arith in
    ap (map Some) (order-lined files i ∙ ap (λ q. lined_up (all_classes files) i (length q) []) (sym is)
    ∙ ap (λ n. lined_up (all_classes files) i n []) z)

module _ (w : List Class) (i : Bool) (trees : List ClassTree) (p : List ℕ) (n k : ℕ) (all : List Class) where
  lined-none : (m : ℕ) → next w i p w ≡ None → lined_up w i m p ≡ []
  unfolding lined_up
  lined-none zero e = refl
  lined-none (suc m) e = ap (λ o. and_then o (λ c. lined_up w i m (p ++ c.number ∷ []))) e

  lined-some : (c : Class) → k < n → next w i p w ≡ Some c → lined_up w i (n - k) p ≡ c ∷ lined_up w i (n - (k + 1)) (p
      ++ c.number ∷ [])
  unfolding lined_up
  lined-some c lt e =
      let s : n - k ≡ suc (n - (k + 1)) = omega arith in
      ap (λ m. lined_up w i m p) s ∙ ap (λ o. and_then o (λ c. lined_up w i (n - (k + 1)) (p ++ c.number ∷ []))) e

  pub begun-end : next w i p w ≡ None → IsBegun w i trees p (n - k) all → map Some all ≡ map (declared_at trees) p
  begun-end e b = b ∙ ap (λ q. map (declared_at trees) p ++ map Some q) (lined-none (n - k) e)
      ∙ append-nil (map (declared_at trees) p)

  pub begun-on : (m : ℕ) (t : ClassTree) → k < n → slice_get trees m ≡ Some t → next w i p w ≡ Some (declared m t)
      → IsBegun w i trees p (n - k) all → IsBegun w i trees (p ++ m ∷ []) (n - (k + 1)) all
  begun-on m t lt e f b =
      b
      ∙ ap (λ q. map (declared_at trees) p ++ map Some q) (lined-some (declared m t) lt f)
      ∙ sym (append_assoc (map (declared_at trees) p) (Some (declared m t)
      ∷ []) (map Some (lined_up w i (n - (k + 1)) (p ++ m ∷ []))))
      ∙ ap (λ q. q ++ map Some (lined_up w i (n - (k + 1)) (p ++ m ∷ []))) (ap (λ o. map (declared_at trees) p
      ++ o ∷ []) (sym (ap (option_map (declared m)) e)) ∙ sym (map-append (declared_at trees) p (m ∷ [])))

-- as many steps as there are places
pub begun-full : (w : List Class) (i : Bool) (trees : List ClassTree) (p : List ℕ) (n k : ℕ) (all : List Class) → n ≤ k
    → IsBegun w i trees p (n - k) all → map Some all ≡ map (declared_at trees) p
unfolding lined_up
begun-full w i trees p n k all le b =
    let z : n - k ≡ zero = omega arith in
    b ∙ ap (λ m. map (declared_at trees) p ++ map Some (lined_up w i m p)) z ∙ append-nil (map (declared_at trees) p)

-- what stands next is of the kind
pub next-of_kind : (files : Files) (i : Bool) (p : List ℕ) (n : ℕ) (t : ClassTree) → n < class_count files.lines
    → slice_get files.classes n ≡ Some t → next (all_classes files) i p (all_classes files) ≡ Some (declared n t)
    → IsOfKind files i n
next-of_kind files i p n t listed e f = (
  listed,
  t,
  e,
  by (is_of_kind i (declared n t)) (is_in p n)
      (next-waits (all_classes files) i p (all_classes files) (declared n t) f),
)
  where
    by : (a b : Bool) → (a && not b) ≡ true → a ≡ true
    by false b e = cc
    by true b e = refl

-- one number more
pub of_kind-more : (files : Files) (i : Bool) (p new : List ℕ) (n : ℕ) → new ≡ p ++ n ∷ [] → All (IsOfKind files i) p
    → IsOfKind files i n → All (IsOfKind files i) new
of_kind-more files i p new n is all one = subst (λ q. All (IsOfKind files i) q) (sym is) (All-append (IsOfKind files i)
    p (n ∷ []) all alone)
  where
    alone : All (IsOfKind files i) (n ∷ [])
    alone zero d lt = one
    alone (suc k) d lt = absurd (omega arith)
