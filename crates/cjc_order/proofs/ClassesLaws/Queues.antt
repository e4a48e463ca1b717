-- Steps of the queue of classes, and that the least which is ready stands next.
use Rattle.std.proofs.Common.{◌≡◌, ℕ, zero, suc, ◌+◌, ◌<◌, ◌≤◌, ◌==◌, Bool, true, false, List, [], ◌∷◌, ◌++◌, length}
use Rattle.std.proofs.Common.{get_or, set, map, refl, sym, ap, subst, ◌∙◌, arith, inl, inr}
use Rattle.std.specs.Prelude.{nat_lt, ◌&&◌, ◌||◌, not, cond, slice_get, Option, Some, None, if◌then◌else◌}
use Rattle.std.specs.List.{list_any}
use Rattle.std.proofs.lemmas.Bool.{cases_lt, eqb-true, eqb-false}
use Rattle.std.proofs.lemmas.Bool.Decides.{nat_tests}
use Rattle.std.proofs.lemmas.Grind.{get_or-set_at}
use Rattle.std.proofs.lemmas.Option.{slice_get_within}
use Rattle.std.proofs.lemmas.List.{get_or-set_other, get_or_past, length-set, length-map}
use Rattle.std.proofs.lemmas.List.Folds.{list_any-append}
use Rattle.std.proofs.lemmas.List.Sums.{sum_by-cons}
use Rattle.cjc_world.specs.ClassFile.declared.tree.ClassTree.{ClassTree}
use Rattle.cjc_world.specs.Classes.{Class, declared, class_named}
use Rattle.cjc_world.specs.Order.{is_in, is_of_kind, names_waiting, may_stand, next}
use Rattle.cjc_world.proofs.Joined.{or-false}
use Rattle.cjc_order.specs.declared.classes.ready.Ready.{Ready}
use Rattle.cjc_order.specs.Classes.Numbers.{numbered_from, own_number, own_numbers, listed_numbers}
use Rattle.cjc_order.specs.Classes.Queue.{AreSubs, IsQueue, has, is_kind_at, is_kind_of, times, unplaced}
use Rattle.cjc_order.proofs.ClassesLaws.Standing.{is_in-more}
use Rattle.cjc_order.proofs.ClassesLaws.Edges.{times-cons}

-- ---- what has no place

unplaced-cons : (p : List ℕ) (x : ℕ) (xs : List ℕ) → unplaced p (x ∷ xs) ≡ cond (not (is_in p x)) 1 0 + unplaced p xs
unplaced-cons p x xs = sum_by-cons (λ y. cond (not (is_in p y)) 1 0) x xs

-- one more place
pub unplaced-more : (p : List ℕ) (k : ℕ) → is_in p k ≡ false → (xs : List ℕ)
    → unplaced p xs ≡ unplaced (p ++ k ∷ []) xs + times k xs
unplaced-more p k out [] = refl
unplaced-more p k out (x ∷ xs) =
    unplaced-cons p x xs
    ∙ ap (λ n. cond (not (is_in p x)) 1 0 + n) (unplaced-more p k out xs)
    ∙ by (is_in p x) (k == x) refl refl
    ∙ sym (ap (λ n. n + times k (x ∷ xs)) (unplaced-cons (p ++ k ∷ []) x xs
    ∙ ap (λ b. cond (not b) 1 0 + unplaced (p ++ k ∷ []) xs) (is_in-more p k x))
    ∙ ap (λ n. cond (not (is_in p x || ((k == x) || false))) 1 0 + unplaced (p ++ k ∷ []) xs + n)
    (times-cons k x xs))
  where
    turned : (b : Bool) → (k == x) ≡ b → (x == k) ≡ b
    turned true e = grind (arith, nat_tests, e)
    turned false e = grind (arith, nat_tests, e)

    by : (a b : Bool) → is_in p x ≡ a → (k == x) ≡ b
        → cond (not a) 1 0 + (unplaced (p ++ k ∷ []) xs + times k xs) ≡ cond (not (a || (b || false))) 1 0 + unplaced (p
        ++ k ∷ []) xs + (cond (x == k) 1 0 + times k xs)
    by true true e f = absurd_in (subst (λ (y : ℕ). is_in p y ≡ false) (eqb-true k x f) out) e
      where
        absurd_in : {P : Type 0} → is_in p x ≡ false → is_in p x ≡ true → P
        absurd_in g h = cc
    by true false e f = (let z : 0 + (unplaced (p ++ k ∷ []) xs + times k xs) ≡ 0 + unplaced (p
        ++ k ∷ []) xs + (0 + times k xs) = omega arith in z)
        ∙ ap (λ c. 0 + unplaced (p ++ k ∷ []) xs + (cond c 1 0 + times k xs)) (sym (turned false f))
    by false true e f = (let z : 1 + (unplaced (p ++ k ∷ []) xs + times k xs) ≡ 0 + unplaced (p
        ++ k ∷ []) xs + (1 + times k xs) = omega arith in z)
        ∙ ap (λ c. 0 + unplaced (p ++ k ∷ []) xs + (cond c 1 0 + times k xs)) (sym (turned true f))
    by false false e f = (let z : 1 + (unplaced (p ++ k ∷ []) xs + times k xs) ≡ 1 + unplaced (p
        ++ k ∷ []) xs + (0 + times k xs) = omega arith in z)
        ∙ ap (λ c. 1 + unplaced (p ++ k ∷ []) xs + (cond c 1 0 + times k xs)) (sym (turned false f))

-- nothing waits where none of these is without a place
pub unplaced-none : (p xs : List ℕ) → (unplaced p xs == 0) ≡ not (list_any (λ n. not (is_in p n)) xs)
unplaced-none p [] = refl
unplaced-none p (x ∷ xs) = ap (λ n. n == 0) (unplaced-cons p x xs) ∙ by (not (is_in p x)) (unplaced-none p xs)
  where
    by : (b : Bool) → (unplaced p xs == 0) ≡ not (list_any (λ n. not (is_in p n)) xs)
        → (cond b 1 0 + unplaced p xs == 0) ≡ not (b || list_any (λ n. not (is_in p n)) xs)
    by true e = grind (arith, nat_tests)
    by false e = (let z : 0 + unplaced p xs ≡ unplaced p xs = omega arith in ap (λ n. n == 0) z) ∙ e

-- at first nothing has a place
pub unplaced-all : (xs : List ℕ) → unplaced [] xs ≡ length xs
unplaced-all [] = refl
unplaced-all (x ∷ xs) = unplaced-cons [] x xs ∙ (let e = unplaced-all xs in omega arith)

-- ---- which classes may stand

module _ (w : List Class) (i : Bool) (p : List ℕ) where
  number-waits : (o : Option Class) → list_any (λ n. not (is_in p n)) (own_number i o) ≡ names_waiting i p o
  number-waits None = refl
  number-waits (Some c) = by (not c.is_imported && is_of_kind i c)
    where
      by : (b : Bool) → list_any (λ n. not (is_in p n)) (if b then c.number ∷ [] else [])
          ≡ (b && not (is_in p c.number))
      by true = or-false (not (is_in p c.number))
      by false = refl

  numbers-wait : (xs : List (List ℕ)) → list_any (λ n. not (is_in p n)) (own_numbers i w xs)
      ≡ list_any (λ x. names_waiting i p (class_named w x)) xs
  numbers-wait [] = refl
  numbers-wait (x ∷ xs) =
      list_any-append (λ n. not (is_in p n)) (own_number i (class_named w x)) (own_numbers i w xs)
      ∙ ap (λ b. b || list_any (λ n. not (is_in p n)) (own_numbers i w xs)) (number-waits (class_named w x))
      ∙ ap (λ b. names_waiting i p (class_named w x) || b) (numbers-wait xs)

  pub stands-counted : (k : ℕ) (t : ClassTree) → may_stand w i p (declared k t) ≡ (is_of_kind i (declared k t)
      && not (is_in p k) && (unplaced p (listed_numbers i w t) == 0))
  unfolding may_stand
  stands-counted k t =
      let g : List ℕ → Bool = λ x. names_waiting i p (class_named w x) in
      sym (ap (λ b. is_of_kind i (declared k t) && not (is_in p k) && b)
      (unplaced-none p (listed_numbers i w t) ∙ ap not (numbers-wait (t.superclass ∷ t.interfaces)
      ∙ list_any-append g (t.superclass ∷ []) t.interfaces)))

row_at : (w : List Class) (i : Bool) (trees : List ClassTree) (k : ℕ) (t : ClassTree) → slice_get trees k ≡ Some t
    → get_or (map (listed_numbers i w) trees) k [] ≡ listed_numbers i w t
row_at w i [] k t e = cc
row_at w i (x ∷ trees) zero t e = let same : x ≡ t = cc in ap (listed_numbers i w) same
row_at w i (x ∷ trees) (suc k) t e = row_at w i trees k t e

kind_at : (i : Bool) (trees : List ClassTree) (k : ℕ) → is_kind_at i trees k ≡ true → (t : ClassTree)
    × (slice_get trees k ≡ Some t)
kind_at i trees k e = by (slice_get trees k) refl e
  where
    by : (o : Option ClassTree) → slice_get trees k ≡ o → is_kind_of i k o ≡ true → (t : ClassTree)
        × (slice_get trees k ≡ Some t)
    by None f g = cc
    by (Some t) f g = (t, f)

first_holds : (a b c : Bool) → (a && b && c) ≡ true → a ≡ true
first_holds true b c e = refl
first_holds false b c e = cc

second_holds : (a b c : Bool) → (a && not b && c) ≡ true → b ≡ false
second_holds true true c e = cc
second_holds true false c e = refl
second_holds false b c e = cc

third_holds : (a b c : Bool) → (a && b && c) ≡ true → c ≡ true
third_holds true true c e = e
third_holds true false c e = cc
third_holds false b c e = cc

module _ (w : List Class) (i : Bool) (trees : List ClassTree) (listed : List (List ℕ)) (p counts : List ℕ)
    (ready : Ready) (is : listed ≡ map (listed_numbers i w) trees) (q : IsQueue i trees listed p [] counts ready) where
  stands : (k : ℕ) (t : ClassTree) → slice_get trees k ≡ Some t → may_stand w i p (declared k t) ≡ has ready k
  stands k t at =
      stands-counted w i p k t
      ∙ ap (λ n. is_of_kind i (declared k t) && not (is_in p k)
      && (n == 0)) (ap (unplaced p) (sym (row_at w i trees k t at))
      ∙ ap (λ (rows : List (List ℕ)). unplaced p (get_or rows k [])) (sym is)
      ∙ (let z : unplaced p (get_or listed k []) ≡ unplaced p (get_or listed k []) + 0 = omega arith in z)
      ∙ sym (q.left k))
      ∙ ap (λ (o : Option ClassTree). is_kind_of i k o && not (is_in p k) && (get_or counts k 0 == 0)) (sym at)
      ∙ sym (q.stands k)

  none-from : ((k : ℕ) → has ready k ≡ false) → (n : ℕ) (cs : List ClassTree) → ((j m : ℕ) (t : ClassTree) → m ≡ n + j
      → slice_get cs j ≡ Some t → slice_get trees m ≡ Some t) → next w i p (numbered_from n cs) ≡ None
  unfolding next
  none-from none n [] at = refl
  none-from none n (c ∷ cs) at =
      ap (λ b. if b then Some (declared n c) else next w i p (numbered_from (n + 1) cs))
      (stands n c (at 0 n c (omega arith) refl) ∙ none n)
      ∙ none-from none (n + 1) cs (λ j m t e f. at (suc j) m t (omega arith) f)

  pub next-none : ((k : ℕ) → has ready k ≡ false) → next w i p (numbered_from 0 trees) ≡ None
  next-none none = none-from none 0 trees (λ j m t e f. subst (λ (k : ℕ). slice_get trees k ≡ Some t) (let z : j
      ≡ m = omega arith in z) f)

  least-from : (k : ℕ) (x : ClassTree) → has ready k ≡ true → ((m : ℕ) → has ready m ≡ true → k ≤ m)
      → (n : ℕ) (cs : List ClassTree) → ((j m : ℕ) (t : ClassTree) → m ≡ n + j → slice_get cs j ≡ Some t
      → slice_get trees m ≡ Some t)
      → (d : ℕ) → k ≡ n + d → slice_get cs d ≡ Some x → next w i p (numbered_from n cs) ≡ Some (declared k x)
  unfolding next
  least-from k x there least n [] at d is_at e = cc
  least-from k x there least n (c ∷ cs) at zero is_at e =
      let same : k ≡ n = omega arith in
      let tree : c ≡ x = cc in
      ap (λ b. if b then Some (declared n c) else next w i p (numbered_from (n + 1) cs))
      (stands n c (at 0 n c (omega arith) refl) ∙ ap (has ready) (sym same) ∙ there)
      ∙ ap (λ (m : ℕ). Some (declared m c)) (sym same) ∙ ap (λ (t : ClassTree). Some (declared k t)) tree
  least-from k x there least n (c ∷ cs) at (suc d) is_at e =
      ap (λ b. if b then Some (declared n c) else next w i p (numbered_from (n + 1) cs))
      (stands n c (at 0 n c (omega arith) refl) ∙ before (has ready n) refl)
      ∙ least-from k x there least (n + 1) cs (λ j m t f g. at (suc j) m t (omega arith) g) d (omega arith) e
    where
      before : (b : Bool) → has ready n ≡ b → has ready n ≡ false
      before true f = let le = least n f in absurd (omega arith)
      before false f = f

  -- the least that is ready, with its class file
  pub next-least : (k : ℕ) → has ready k ≡ true → ((m : ℕ) → has ready m ≡ true → k ≤ m) → (t : ClassTree)
      × (slice_get trees k ≡ Some t) × (next w i p (numbered_from 0 trees) ≡ Some (declared k t))
  next-least k there least =
      let t = kind_at i trees k (first_holds (is_kind_at i trees k) (not (is_in p k)) (get_or counts k 0 == 0)
      (sym (q.stands k) ∙ there)) in (
        t.0,
        t.1,
        least-from k t.0 there least 0 trees (λ j m x e f. subst (λ (n : ℕ). slice_get trees n ≡ Some x)
            (let z : j ≡ m = omega arith in z) f) k (omega arith) t.1,
      )

-- ---- steps

pub queue-begun : (i : Bool) (trees : List ClassTree) (listed : List (List ℕ)) (counts : List ℕ) (ready : Ready)
    → length listed ≡ length trees → counts ≡ map (λ (row : List ℕ). length row) listed
    → ((k : ℕ) → has ready k ≡ (is_kind_at i trees k && (get_or counts k 0 == 0)))
    → IsQueue i trees listed [] [] counts ready
queue-begun i trees listed counts ready same is all = record {
  size = ap (λ (xs : List ℕ). length xs) is ∙ length-map listed (λ (row : List ℕ). length row) ∙ same;
  left = λ k. ap (λ (xs : List ℕ). get_or xs k 0) is ∙ length_at listed k ∙ sym (unplaced-all (get_or listed k []))
      ∙ (let z : unplaced [] (get_or listed k []) ≡ unplaced [] (get_or listed k []) + 0 = omega arith in z);
  stands = λ k. all k ∙ by (is_kind_at i trees k) (get_or counts k 0 == 0);
  done = λ k e. cc;
}
  where
    length_at : (rows : List (List ℕ)) (k : ℕ) → get_or (map (λ (row : List ℕ). length row) rows) k 0
        ≡ length (get_or rows k [])
    length_at [] k = refl
    length_at (row ∷ rows) zero = refl
    length_at (row ∷ rows) (suc k) = length_at rows k

    by : (a b : Bool) → (a && b) ≡ (a && true && b)
    by true b = refl
    by false b = refl

-- one that is ready gets its place
pub queue-placed : (i : Bool) (trees : List ClassTree) (listed subs : List (List ℕ)) (p counts : List ℕ)
    (ready rest : Ready) (k : ℕ) → IsQueue i trees listed p [] counts ready → AreSubs listed subs → k < length listed
    → has ready k ≡ true → ((m : ℕ) → has rest m ≡ cond (k == m) false (has ready m))
    → IsQueue i trees listed (p ++ k ∷ []) (get_or subs k []) counts rest
queue-placed i trees listed subs p counts ready rest k q s lt there taken = record {
  size = q.size;
  left = λ j. q.left j ∙ (let z : unplaced p (get_or listed j []) + 0 ≡ unplaced p (get_or listed j []) = omega arith
      in z) ∙ unplaced-more p k out (get_or listed j []) ∙ ap (λ n. unplaced (p ++ k ∷ []) (get_or listed j []) + n)
      (sym (s.each j k lt));
  stands = λ j. taken j ∙ by j (k == j) ∙ ap (λ b. is_kind_at i trees j && not b && (get_or counts j 0 == 0))
      (sym (is_in-more p k j));
  done = λ j e. done j (k == j) refl (sym (is_in-more p k j) ∙ e);
}
  where
    holds : (is_kind_at i trees k && not (is_in p k) && (get_or counts k 0 == 0)) ≡ true
    holds = sym (q.stands k) ∙ there

    out : is_in p k ≡ false
    out = second_holds (is_kind_at i trees k) (is_in p k) (get_or counts k 0 == 0) holds

    by : (j : ℕ) (b : Bool) → cond b false (has ready j) ≡ (is_kind_at i trees j && not (is_in p j || (b || false))
        && (get_or counts j 0 == 0))
    by j true = off (is_kind_at i trees j) (is_in p j) (get_or counts j 0 == 0)
      where
        off : (a b c : Bool) → false ≡ (a && not (b || true) && c)
        off true true c = refl
        off true false c = refl
        off false b c = refl
    by j false = q.stands j ∙ ap (λ b. is_kind_at i trees j && not b && (get_or counts j 0 == 0))
        (sym (or-false (is_in p j)))

    done : (j : ℕ) (b : Bool) → (k == j) ≡ b → (is_in p j || (b || false)) ≡ true → get_or counts j 0 ≡ 0
    done j true f e =
        let zero_here : (get_or counts k 0 == 0) ≡ true = third_holds (is_kind_at i trees k) (not (is_in p k))
        (get_or counts k 0 == 0) holds in
        subst (λ (m : ℕ). get_or counts m 0 ≡ 0) (eqb-true k j f) (eqb-true (get_or counts k 0) 0 zero_here)
    done j false f e = q.done j (sym (or-false (is_in p j)) ∙ e)

-- the least that is ready gets its place
module _ (w : List Class) (i : Bool) (trees : List ClassTree) (p counts : List ℕ) (ready : Ready)
    (q : IsQueue i trees (map (listed_numbers i w) trees) p [] counts ready) (k : ℕ) (there : has ready k ≡ true)
    (least : (m : ℕ) → has ready m ≡ true → k ≤ m) where
  pub least-next : (t : ClassTree) × (slice_get trees k ≡ Some t) × (next w i p (numbered_from 0 trees)
      ≡ Some (declared k t))
  least-next = next-least w i trees (map (listed_numbers i w) trees) p counts ready refl q k there least

  pub least-within : (subs : List (List ℕ)) → AreSubs (map (listed_numbers i w) trees) subs → k < length subs
  least-within subs s =
      let within = slice_get_within trees k least-next.0 least-next.1 in
      let rows = length-map trees (listed_numbers i w) in
      let same = s.size in
      omega arith

  pub least-placed : (subs : List (List ℕ)) (freed new : List ℕ) (rest : Ready)
      → AreSubs (map (listed_numbers i w) trees) subs → ((m : ℕ) → has rest m ≡ cond (k == m) false (has ready m))
      → freed ≡ get_or subs k [] → new ≡ p ++ k ∷ [] → IsQueue i trees (map (listed_numbers i w) trees) new freed counts
      rest
  least-placed subs freed new rest s taken row more =
      let within = slice_get_within trees k least-next.0 least-next.1 in
      let rows = length-map trees (listed_numbers i w) in
      subst (λ (n : List ℕ). IsQueue i trees (map (listed_numbers i w) trees) n freed counts rest) (sym more)
      (subst (λ (r : List ℕ). IsQueue i trees (map (listed_numbers i w) trees) (p ++ k ∷ []) r counts rest) (sym row)
      (queue-placed i trees (map (listed_numbers i w) trees) subs p counts ready rest k q s (omega arith) there taken))

-- what a sub waits for
pub queue-waits : (i : Bool) (trees : List ClassTree) (listed : List (List ℕ)) (p rest counts : List ℕ) (ready : Ready)
    (s : ℕ) → IsQueue i trees listed p (s ∷ rest) counts ready → (s < length counts) × (0 < get_or counts s 0)
queue-waits i trees listed p rest counts ready s q = (within, some)
  where
    itself : (s == s) ≡ true
    itself = grind (arith, nat_tests)

    positive : (g u t r : ℕ) → g ≡ u + t → t ≡ 1 + r → 0 < g
    positive g u t r e f = omega arith

    some : 0 < get_or counts s 0
    some = positive (get_or counts s 0) (unplaced p (get_or listed s [])) (times s (s ∷ rest)) (times s rest) (q.left s)
        (times-cons s s rest ∙ ap (λ b. cond b 1 0 + times s rest) itself)

    within : s < length counts
    within = elim (cases_lt s (length counts)) [
      | inl lt ↦ lt
      | inr le ↦ (let past : get_or counts s 0 ≡ 0 = get_or_past counts s 0 le in let more : 0 < get_or counts s 0 =
          some in absurd (omega arith))
    ]

-- one sub is counted out
pub queue-counted : (i : Bool) (trees : List ClassTree) (listed : List (List ℕ)) (p rest counts : List ℕ)
    (ready more : Ready) (s left : ℕ) → IsQueue i trees listed p (s ∷ rest) counts ready → left + 1 ≡ get_or counts s 0
    → ((m : ℕ) → has more m ≡ cond (((left == 0) && is_kind_at i trees s) && (s == m)) true (has ready m))
    → IsQueue i trees listed p rest (set counts s left) more
queue-counted i trees listed p rest counts ready more s left q is new = record {
  size = length-set counts s left ∙ q.size;
  left = λ j. counted j (s == j) refl (q.left j);
  stands = λ j. new j ∙ by j (s == j) refl;
  done = λ j e. elim_done j (s == j) refl e;
}
  where
    waits : (s < length counts) × (0 < get_or counts s 0)
    waits = queue-waits i trees listed p rest counts ready s q

    here : (j : ℕ) → (s == j) ≡ true → get_or (set counts s left) j 0 ≡ left
    here j e = let same : j ≡ s = sym (eqb-true s j e) in let lt = waits.0 in get_or-set_at counts s j left 0 same lt

    other : (j : ℕ) → (s == j) ≡ false → get_or (set counts s left) j 0 ≡ get_or counts j 0
    other j e = get_or-set_other counts s j left 0 (λ f. eqb-false s j e (sym f))

    less : (g u t r l : ℕ) → g ≡ u + t → t ≡ 1 + r → l + 1 ≡ g → l ≡ u + r
    less g u t r l e f h = omega arith

    same_left : (g u t r : ℕ) → g ≡ u + t → t ≡ 0 + r → g ≡ u + r
    same_left g u t r e f = omega arith

    counted : (j : ℕ) (b : Bool) → (s == j) ≡ b → get_or counts j 0 ≡ unplaced p (get_or listed j []) + times j (s
        ∷ rest) → get_or (set counts s left) j 0 ≡ unplaced p (get_or listed j []) + times j rest
    counted j true e f =
        here j e ∙ less (get_or counts j 0) (unplaced p (get_or listed j [])) (times j (s ∷ rest)) (times j rest) left f
        (times-cons j s rest ∙ ap (λ b. cond b 1 0 + times j rest) e) (is
        ∙ ap (λ (m : ℕ). get_or counts m 0) (eqb-true s j e))
    counted j false e f =
        other j e ∙ same_left (get_or counts j 0) (unplaced p (get_or listed j [])) (times j (s ∷ rest)) (times j rest)
        f (times-cons j s rest ∙ ap (λ b. cond b 1 0 + times j rest) e)

    unplaced_here : is_in p s ≡ false
    unplaced_here = by_in (is_in p s) refl
      where
        by_in : (b : Bool) → is_in p s ≡ b → is_in p s ≡ false
        by_in true e = let z = q.done s e in let lt = waits.1 in absurd (omega arith)
        by_in false e = e

    not_ready : has ready s ≡ false
    not_ready = q.stands s ∙ none (is_kind_at i trees s) (is_in p s) (get_or counts s 0 == 0) (let lt = waits.1
        in grind (arith, nat_tests))
      where
        none : (a b c : Bool) → c ≡ false → (a && not b && c) ≡ false
        none true true c e = refl
        none true false c e = e
        none false b c e = refl

    by : (j : ℕ) (b : Bool) → (s == j) ≡ b → cond ((left == 0) && is_kind_at i trees s && b) true (has ready j)
        ≡ (is_kind_at i trees j && not (is_in p j) && (get_or (set counts s left) j 0 == 0))
    by j true e =
        let same : s ≡ j = eqb-true s j e in
        ap (λ (m : ℕ). cond ((left == 0) && is_kind_at i trees s && true) true (has ready m)) (sym same)
        ∙ ap (λ b. cond ((left == 0) && is_kind_at i trees s && true) true b) not_ready
        ∙ turned (left == 0) (is_kind_at i trees s)
        ∙ ap (λ b. is_kind_at i trees s && not b && (left == 0)) (sym unplaced_here)
        ∙ ap (λ (m : ℕ). is_kind_at i trees m && not (is_in p m) && (left == 0)) same
        ∙ ap (λ n. is_kind_at i trees j && not (is_in p j) && (n == 0)) (sym (here j e))
      where
        turned : (a b : Bool) → cond (a && b && true) true false ≡ (b && true && a)
        turned true true = refl
        turned true false = refl
        turned false true = refl
        turned false false = refl
    by j false e =
        keeps (left == 0) (is_kind_at i trees s)
        ∙ q.stands j
        ∙ ap (λ n. is_kind_at i trees j && not (is_in p j) && (n == 0)) (sym (other j e))
      where
        keeps : (a b : Bool) → cond (a && b && false) true (has ready j) ≡ has ready j
        keeps true true = refl
        keeps true false = refl
        keeps false b = refl

    elim_done : (j : ℕ) (b : Bool) → (s == j) ≡ b → is_in p j ≡ true → get_or (set counts s left) j 0 ≡ 0
    elim_done j true e f = let g = subst (λ (m : ℕ). is_in p m ≡ false) (eqb-true s j e) unplaced_here in cc
    elim_done j false e f = other j e ∙ q.done j f

-- ---- what is ready at first

module _ (i : Bool) (trees : List ClassTree) (counts : List ℕ) where
  abbrev pub AreReady : (n : ℕ) → Ready → Type 0
  AreReady n ready = (k : ℕ) → has ready k ≡ (nat_lt k n && (is_kind_at i trees k && (get_or counts k 0 == 0)))

  pub ready-none : (ready : Ready) → ((k : ℕ) → has ready k ≡ false) → AreReady 0 ready
  ready-none ready none k = none k ∙ sym (let off : nat_lt k 0 ≡ false = grind (arith, nat_tests)
      in ap (λ b. b && (is_kind_at i trees k && (get_or counts k 0 == 0))) off)

  pub ready-more : (n : ℕ) (ready more : Ready)
      → ((k : ℕ) → has more k ≡ cond (((get_or counts n 0 == 0) && is_kind_at i trees n) && (n == k)) true
      (has ready k)) → AreReady n ready → AreReady (n + 1) more
  ready-more n ready more new old k = new k ∙ ap (λ b. cond (((get_or counts n 0 == 0) && is_kind_at i trees n)
      && (n == k)) true b) (old k) ∙ by (n == k) refl
    where
      stays : (a b c : Bool) → cond ((a && b) && false) true c ≡ c
      stays true true c = refl
      stays true false c = refl
      stays false b c = refl

      comes : (a b c : Bool) → c ≡ false → cond ((a && b) && true) true (c && (b && a)) ≡ (true && (b && a))
      comes true true c e = refl
      comes true false false e = refl
      comes false true false e = refl
      comes false false false e = refl
      comes true false true e = cc
      comes false true true e = cc
      comes false false true e = cc

      by : (b : Bool) → (n == k) ≡ b → cond (((get_or counts n 0 == 0) && is_kind_at i trees n) && b) true (nat_lt k n
          && (is_kind_at i trees k && (get_or counts k 0 == 0))) ≡ (nat_lt k (n + 1) && (is_kind_at i trees k
          && (get_or counts k 0 == 0)))
      by true e =
          let same : n ≡ k = eqb-true n k e in
          let before : nat_lt n n ≡ false = grind (arith, nat_tests) in
          let here : nat_lt n (n + 1) ≡ true = grind (arith, nat_tests) in
          subst (λ (m : ℕ). cond (((get_or counts n 0 == 0) && is_kind_at i trees n) && true) true (nat_lt m n
          && (is_kind_at i trees m && (get_or counts m 0 == 0))) ≡ (nat_lt m (n + 1) && (is_kind_at i trees m
          && (get_or counts m 0 == 0)))) same
          (comes (get_or counts n 0 == 0) (is_kind_at i trees n) (nat_lt n n) before
          ∙ ap (λ b. b && (is_kind_at i trees n && (get_or counts n 0 == 0))) (sym here))
      by false e =
          let other : n ≡ k → ⊥ = eqb-false n k e in
          let same : nat_lt k n ≡ nat_lt k (n + 1) = grind (arith, nat_tests, other) in
          stays (get_or counts n 0 == 0) (is_kind_at i trees n) (nat_lt k n && (is_kind_at i trees k
          && (get_or counts k 0 == 0)))
          ∙ ap (λ b. b && (is_kind_at i trees k && (get_or counts k 0 == 0))) same

  pub ready-all : (n : ℕ) (ready : Ready) → length trees ≤ n → AreReady n ready → (k : ℕ)
      → has ready k ≡ (is_kind_at i trees k && (get_or counts k 0 == 0))
  ready-all n ready long all k = all k ∙ elim (cases_lt k n) [
    | inl lt ↦ (let in_front : nat_lt k n ≡ true = grind (arith, nat_tests, lt)
        in ap (λ b. b && (is_kind_at i trees k && (get_or counts k 0 == 0))) in_front)
    | inr le ↦ (
        let none : is_kind_at i trees k ≡ false = ap (is_kind_of i k) (past trees k (omega (arith, long, le))) in
        none_of (nat_lt k n) (is_kind_at i trees k) (get_or counts k 0 == 0) none)
  ]
    where
      none_of : (a b c : Bool) → b ≡ false → (a && (b && c)) ≡ (b && c)
      none_of true b c e = refl
      none_of false false c e = refl
      none_of false true c e = cc

      past : (ts : List ClassTree) (m : ℕ) → length ts ≤ m → slice_get ts m ≡ None
      past [] m le = refl
      past (t ∷ ts) zero le = absurd (omega arith)
      past (t ∷ ts) (suc m) le = past ts m (omega arith)
