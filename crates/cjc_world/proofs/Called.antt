-- The index of a class's members: how it is made, and what a search in it finds.
use Rattle.std.proofs.Common.{◌≡◌, ℕ, zero, suc, ◌<◌, ◌≤◌, ◌+◌, refl, sym, ap, subst, ◌∙◌, arith, Bool, true, false}
use Rattle.std.proofs.Common.{Bor, cond, List, [], ◌∷◌, ◌++◌, length, get_or, drop, take, add-one}
use Rattle.std.specs.Prelude.{All, not, nat_lt, ◌&&◌, Option, Some, None, option_map, option_to_list, position}
use Rattle.std.specs.Prelude.{slice_get}
use Rattle.std.specs.Cmp.{IsStrictWeakOrder, IsTotalOrder, Equal-is, both_tied}
use Rattle.std.specs.Cmp.Lexicographic.{texts_ties, slice_cmp}
use Rattle.std.specs.Fn.{Called, ComparesAs}
use Rattle.std.specs.List.{filter, find, position_or_len, range_with_len}
use Rattle.std.specs.List.Sorted.{IsNonDecreasingBy, IsPartitionedBy, ties}
use Rattle.std.specs.declared.cmp.Ordering.{Ordering}
use Rattle.std.specs.declared.cmp.Ordering.TheVariants.{Less, Equal, Greater}
use Rattle.std.specs.Ordering.{is_eq, is_lt, nat_cmp, ordering_index, ordering_reverse}
use denote.Param.Members.{Mut}
use Rattle.std.proofs.Math.Seq.{drop-cons}
use Rattle.std.proofs.lemmas.Bool.Decides.{nat_tests}
use Rattle.std.proofs.lemmas.Cmp.{alike_right, nat_list_cmp_total, on_total, then_total}
use Rattle.std.proofs.lemmas.Fn.{always_returns_same}
use Rattle.std.proofs.lemmas.Grind.{common_steps}
use Rattle.std.proofs.lemmas.List.{append-nil, take_more}
use Rattle.std.proofs.lemmas.List.Elements.{All-head, All-tail, filter_agree}
use Rattle.std.proofs.lemmas.List.Sorted.{ranks_by, searchable_from_sorted}
use Rattle.std.proofs.lemmas.Option.{slice_get-get_or}
use Rattle.std.proofs.lemmas.Bool.{and_right}
use Rattle.cjc_classfile.specs.declared.tree.ClassTree.{ClassTree}
use Rattle.cjc_export.specs.declared.tree.ExportTree.{ExportTree}
use Rattle.cjc_world.specs.declared.members.MemberIndex.{MemberIndex}
use Rattle.cjc_world.specs.declared.spot.ClassPlace.{ClassPlace}
use Rattle.cjc_world.specs.Classes.{Class, Member}
use Rattle.cjc_world.specs.Lookup.{is_called, is_wanted}
use Rattle.cjc_world.specs.Working.Members.{AreIndices, flags_at, flags_of, id_at, id_cmp, id_of, IsIndexOf}
use Rattle.cjc_world.specs.Working.Members.{IsMemberIndex, precedes}
use Rattle.cjc_world.specs.Working.Spots.{at, IsCounted, stood}
use Rattle.cjc_world.proofs.Indexing.{stood_append}
use Rattle.cjc_bytes.proofs.Bools.{both_back}

-- ---- the first that passes a test

find-both : {A : Type 0} (p q : A → Bool) (xs : List A) → find (λ x. p x && q x) xs ≡ find p (filter q xs)
find-both p q [] = refl
find-both p q (x ∷ xs) = by (p x) (q x) refl (find-both p q xs)
  where
    by : (a b : Bool) → p x ≡ a → find (λ x. p x && q x) xs ≡ find p (filter q xs)
        → cond (a && b) (Some x) (find (λ x. p x && q x) xs) ≡ find p (cond b (x ∷ filter q xs) (filter q xs))
    by true true e rest = sym (ap (λ t. cond t (Some x) (find p (filter q xs))) e)
    by false true e rest = rest ∙ sym (ap (λ t. cond t (Some x) (find p (filter q xs))) e)
    by true false e rest = rest
    by false false e rest = rest

find-true : {A : Type 0} (p : A → Bool) (xs : List A) (x : A) → find p xs ≡ Some x → p x ≡ true
find-true p [] x e = cc
find-true p (y ∷ xs) x e = by (p y) refl e (find-true p xs x)
  where
    by : (b : Bool) → p y ≡ b → cond b (Some y) (find p xs) ≡ Some x → (find p xs ≡ Some x → p x ≡ true) → p x ≡ true
    by true f e rest = let is : y ≡ x = cc in ap p (sym is) ∙ f
    by false f e rest = rest e

module _ {A : Type 0} (p : A → Bool) where
  find-none : (xs : List A) → ((i : ℕ) (d : A) → i < length xs → p (get_or xs i d) ≡ false) → find p xs ≡ None
  find-none [] all = refl
  find-none (x ∷ xs) all = ap (λ b. cond b (Some x) (find p xs)) (all 0 x (omega arith))
      ∙ find-none xs (λ i d l. all (suc i) d (omega arith))

  -- none passes from a place on
  find-past : (xs : List A) (k : ℕ) → ((i : ℕ) (d : A) → k ≤ i → i < length xs → p (get_or xs i d) ≡ false)
      → find p (drop k xs) ≡ None
  find-past [] zero all = refl
  find-past [] (suc k) all = refl
  find-past (x ∷ xs) zero all = find-none (x ∷ xs) (λ i d l. all i d (omega arith) l)
  find-past (x ∷ xs) (suc k) all = find-past xs k (λ i d m l. all (suc i) d (omega arith) (omega arith))

  -- none passes before a place
  find-over : (xs : List A) (k : ℕ) → k ≤ length xs → ((i : ℕ) (d : A) → i < k → p (get_or xs i d) ≡ false)
      → find p (drop k xs) ≡ find p xs
  find-over [] zero l all = refl
  find-over [] (suc k) l all = refl
  find-over (x ∷ xs) zero l all = refl
  find-over (x ∷ xs) (suc k) l all = find-over xs k (omega arith) (λ i d m. all (suc i) d (omega arith))
      ∙ sym (ap (λ b. cond b (Some x) (find p xs)) (all 0 x (omega arith)))

  module _ (xs : List A) (i : ℕ) (d : A) (within : i < length xs) where
    find-next : find p (drop i xs) ≡ cond (p (get_or xs i d)) (Some (get_or xs i d)) (find p (drop (i + 1) xs))
    find-next = ap (find p) (drop-cons xs i d within)
        ∙ ap (λ n. cond (p (get_or xs i d)) (Some (get_or xs i d)) (find p (drop n xs))) (sym (add-one i))

    pub find-here : p (get_or xs i d) ≡ true → find p (drop i xs) ≡ Some (get_or xs i d)
    find-here e = find-next ∙ ap (λ b. cond b (Some (get_or xs i d)) (find p (drop (i + 1) xs))) e

    pub find-on : p (get_or xs i d) ≡ false → find p (drop i xs) ≡ find p (drop (i + 1) xs)
    find-on e = find-next ∙ ap (λ b. cond b (Some (get_or xs i d)) (find p (drop (i + 1) xs))) e

  pub find-end : (xs : List A) (i : ℕ) → length xs ≤ i → find p (drop i xs) ≡ None
  find-end xs i past = find-past xs i (λ k d m l. absurd (omega arith))

-- ---- places

range-more : (a n : ℕ) → range_with_len a (suc n) ≡ range_with_len a n ++ (a + n) ∷ []
range-more a zero = ap (λ m. m ∷ []) (let e : a ≡ a + 0 = omega arith in e)
range-more a (suc n) = ap (λ ps. a ∷ ps) (range-more (a + 1) n
    ∙ ap (λ m. range_with_len (a + 1) n ++ m ∷ []) (let e : a + 1 + n ≡ a + suc n = omega arith in e))

module _ {A : Type 0} (t : A → Bool) where
  position-cons : (x : A) (xs : List A) → position t (x ∷ xs) ≡ cond (t x) (Some 0) (option_map suc (position t xs))
  position-cons x xs = by (t x) (position_or_len t xs) (length xs)
    where
      inner : (b : Bool) (n : ℕ) → cond b (Some (1 + n)) None ≡ option_map suc (cond b (Some n) None)
      inner true n = ap Some (let e : 1 + n ≡ suc n = omega arith in e)
      inner false n = refl

      by : (b : Bool) (n m : ℕ) → cond (nat_lt (cond (not b) (1 + n) 0) (suc m)) (Some (cond (not b) (1 + n) 0)) None
          ≡ cond b (Some 0) (option_map suc (cond (nat_lt n m) (Some n) None))
      by true n m =
          let first : nat_lt 0 (suc m) ≡ true = grind (arith, nat_tests) in ap (λ b. cond b (Some 0) None) first
      by false n m =
          let less : nat_lt (1 + n) (suc m) ≡ nat_lt n m = grind (arith, nat_tests) in
          ap (λ b. cond b (Some (1 + n)) None) less ∙ inner (nat_lt n m) n

  -- the first place of a range at which a test passes is that of the first item that does
  range-finds : (f : ℕ → Bool) (a : ℕ) (xs : List A) → ((k : ℕ) (d : A) → k < length xs
      → f (a + k) ≡ t (get_or xs k d)) → find f (range_with_len a (length xs))
      ≡ option_map (λ k. a + k) (position t xs)
  range-finds f a [] same = refl
  range-finds f a (x ∷ xs) same =
      ap (λ b. cond b (Some a) (find f (range_with_len (a + 1) (length xs)))) (ap f (let e : a ≡ a + 0 = omega arith
      in e) ∙ same 0 x (omega arith))
      ∙ ap (cond (t x) (Some a)) (range-finds f (a + 1) xs (λ k d l. ap f (let e : a + 1 + k
      ≡ a + suc k = omega arith in e) ∙ same (suc k) d (omega arith)))
      ∙ by (t x) (position t xs)
      ∙ ap (option_map (λ k. a + k)) (sym (position-cons x xs))
    where
      by : (b : Bool) (o : Option ℕ) → cond b (Some a) (option_map (λ k. a + 1 + k) o)
          ≡ option_map (λ k. a + k) (cond b (Some 0) (option_map suc o))
      by true o = ap Some (let e : a ≡ a + 0 = omega arith in e)
      by false None = refl
      by false (Some k) = ap Some (let e : a + 1 + k ≡ a + suc k = omega arith in e)

-- ---- the order of an index

pub id_total : IsTotalOrder id_cmp
id_total = then_total (on_total (λ (k : List ℕ × List ℕ). k.0) nat_list_cmp_total)
    (on_total (λ (k : List ℕ × List ℕ). k.1) nat_list_cmp_total)

pub precedes-order : (ms : List Member) → IsStrictWeakOrder (precedes ms)
precedes-order ms = ranks_by id_total (id_at ms)

pub compares : {F : Type 0} (g : Mut F (Bor ℕ × (Bor ℕ × Unit {0})) Ordering) (f : F) (ms : List Member)
    → ((a : Bor ℕ × (Bor ℕ × Unit {0})) (r : Ordering) (f' : F) → Called g f a r f'
    → (r ≡ id_cmp (id_at ms a.0.now) (id_at ms a.1.0.now)) × (f' ≡ f)) → ComparesAs g (precedes ms) f
compares g f ms h = always_returns_same g (λ a r. is_lt r ≡ precedes ms a.0.now a.1.0.now) f
    (λ a r f' k. (ap is_lt (h a r f' k).0, (h a r f' k).1))

called-equal : (name desc : List ℕ) (m : Member) → is_called name desc m ≡ is_eq (id_cmp (id_of (Some m)) (name, desc))
called-equal name desc m = both_tied _ _ (slice_cmp nat_cmp m.name name) (slice_cmp nat_cmp m.desc desc)
    (texts_ties m.name name) (texts_ties m.desc desc)

tied : (a b : Ordering) → a ≡ ordering_reverse b → (not (is_lt a) && not (is_lt b)) ≡ is_eq b
tied a b e = ap (λ o. not (is_lt o) && not (is_lt b)) e ∙ by b
  where
    by : (b : Ordering) → (not (is_lt (ordering_reverse b)) && not (is_lt b)) ≡ is_eq b
    by Less = refl
    by Equal = refl
    by Greater = refl

less-lowest : (o : Ordering) → is_lt o ≡ true → ordering_index o ≡ 0
less-lowest Less e = refl
less-lowest Equal e = cc
less-lowest Greater e = cc

lowest-less : (o : Ordering) → ordering_index o ≤ 0 → is_lt o ≡ true
lowest-less Less l = refl
lowest-less Equal l = absurd (omega arith)
lowest-less Greater l = absurd (omega arith)

less-unequal : (o : Ordering) → is_lt o ≡ true → is_eq o ≡ false
less-unequal Less e = refl
less-unequal Equal e = cc
less-unequal Greater e = refl

highest : (o : Ordering) → is_lt o ≡ false → is_eq o ≡ false → 2 ≤ ordering_index o
highest Less e f = cc
highest Equal e f = cc
highest Greater e f = omega arith

high-unequal : (o : Ordering) → 2 ≤ ordering_index o → is_eq o ≡ false
high-unequal Less l = refl
high-unequal Equal l = absurd (omega arith)
high-unequal Greater l = refl

-- ---- what a search finds

-- the member at a place is wanted and has the name and the descriptor
abbrev pub passes : List Member → (selecting : Bool) → (name desc : List ℕ) → ℕ → Bool
passes ms selecting name desc p = is_wanted selecting (flags_at ms p) && is_eq (id_cmp (id_at ms p) (name, desc))

module _ (ms : List Member) (places : List ℕ) (index : IsMemberIndex ms places) (name desc : List ℕ) where
  rising : IsNonDecreasingBy (λ p. ordering_index (id_cmp (id_at ms p) (name, desc))) places
  rising = searchable_from_sorted id_total (id_at ms) places (name, desc) index.sorted

  pub parted : IsPartitionedBy (λ p. is_lt (id_cmp (id_at ms p) (name, desc))) places
  parted i j d le l h =
      let up = rising i j d le l in
      let low = less-lowest (id_cmp (id_at ms (get_or places j d)) (name, desc)) h in
      lowest-less (id_cmp (id_at ms (get_or places i d)) (name, desc)) (omega arith)

  -- places of one name and descriptor stand as they do in the class
  as-ordered : (wanted : ℕ → Bool) (q : ℕ) → is_eq (id_cmp (id_at ms q) (name, desc)) ≡ true
      → find (λ p. wanted p && is_eq (id_cmp (id_at ms p) (name, desc))) places
      ≡ find (λ p. wanted p && is_eq (id_cmp (id_at ms p) (name, desc))) (range_with_len 0 (length ms))
  as-ordered wanted q h =
      let called : ℕ → Bool = λ p. is_eq (id_cmp (id_at ms p) (name, desc)) in
      let same : (p : ℕ) → ties (precedes ms) q p ≡ called p = λ p.
      tied (id_cmp (id_at ms q) (id_at ms p)) (id_cmp (id_at ms p) (id_at ms q)) (id_total.antisymm (id_at ms q)
      (id_at ms p))
      ∙ ap is_eq (alike_right id_total (id_at ms q) (name, desc) (id_at ms p) ((Equal-is (id_cmp (id_at ms q) (
        name,
        desc,
      ))).0 h)) in
      find-both wanted called places
      ∙ ap (find wanted) (sym (filter_agree (ties (precedes ms) q) called same places) ∙ index.stable q
      ∙ filter_agree (ties (precedes ms) q) called same (range_with_len 0 (length ms)))
      ∙ sym (find-both wanted called (range_with_len 0 (length ms)))

  in-order : (selecting : Bool) → find (passes ms selecting name desc) places
      ≡ find (passes ms selecting name desc) (range_with_len 0 (length ms))
  in-order selecting =
      by (find (passes ms selecting name desc) places) (find (passes ms selecting name desc) (range_with_len 0
      (length ms))) refl refl
    where
      by : (a b : Option ℕ) → find (passes ms selecting name desc) places ≡ a
          → find (passes ms selecting name desc) (range_with_len 0 (length ms)) ≡ b
          → find (passes ms selecting name desc) places
          ≡ find (passes ms selecting name desc) (range_with_len 0 (length ms))
      by (Some q) b e f = as-ordered (λ p. is_wanted selecting (flags_at ms p)) q (both_back (is_wanted selecting
          (flags_at ms q)) (is_eq (id_cmp (id_at ms q) (name, desc))) (find-true (passes ms selecting name desc) places
          q e))
      by None (Some q) e f = as-ordered (λ p. is_wanted selecting (flags_at ms p)) q (both_back (is_wanted selecting
          (flags_at ms q)) (is_eq (id_cmp (id_at ms q) (name, desc))) (find-true (passes ms selecting name desc)
          (range_with_len 0 (length ms)) q f))
      by None None e f = e ∙ sym f

  pub index-finds : (selecting : Bool) → find (passes ms selecting name desc) places
      ≡ position (λ m. is_wanted selecting m.flags && is_called name desc m) ms
  index-finds selecting =
      in-order selecting
      ∙ range-finds (λ m. is_wanted selecting m.flags && is_called name desc m) (passes ms selecting name desc) 0 ms
      (λ k d l. ap (passes ms selecting name desc) (let e : 0 + k ≡ k = omega arith in e)
      ∙ ap (λ o. is_wanted selecting (flags_of o) && is_eq (id_cmp (id_of o) (name, desc)))
      (slice_get-get_or ms k d l) ∙ ap (λ b. is_wanted selecting (get_or ms k d).flags && b)
      (sym (called-equal name desc (get_or ms k d))))
      ∙ whole (position (λ m. is_wanted selecting m.flags && is_called name desc m) ms)
    where
      whole : (o : Option ℕ) → option_map (λ k. 0 + k) o ≡ o
      whole None = refl
      whole (Some k) = ap Some (let e : 0 + k ≡ k = omega arith in e)

  -- where those before a place have lesser names and descriptors
  pub found-behind : (selecting : Bool) (k : ℕ) → k ≤ length places → ((i d : ℕ) → i < k
      → is_lt (id_cmp (id_at ms (get_or places i d)) (name, desc)) ≡ true)
      → find (passes ms selecting name desc) (drop k places) ≡ find (passes ms selecting name desc) places
  found-behind selecting k l less = find-over (passes ms selecting name desc) places k l
      (λ i d m. and_right (is_wanted selecting (flags_at ms (get_or places i d))) _
      (less-unequal (id_cmp (id_at ms (get_or places i d)) (name, desc)) (less i d m)))

  -- where the one at a place has a greater one
  pub none-behind : (selecting : Bool) (k d : ℕ) → k < length places
      → is_lt (id_cmp (id_at ms (get_or places k d)) (name, desc)) ≡ false
      → is_eq (id_cmp (id_at ms (get_or places k d)) (name, desc)) ≡ false
      → find (passes ms selecting name desc) (drop k places) ≡ None
  none-behind selecting k d l e f = find-past (passes ms selecting name desc) places k
      (λ i x m n. and_right (is_wanted selecting (flags_at ms (get_or places i x))) _
      (high-unequal (id_cmp (id_at ms (get_or places i x)) (name, desc))
      (let up = rising k i x m n in
      let same : get_or places k x ≡ get_or places k d = grind (arith, common_steps) in
      let high = highest (id_cmp (id_at ms (get_or places k d)) (name, desc)) e f in
      let at : ordering_index (id_cmp (id_at ms (get_or places k x)) (name, desc))
      ≡ ordering_index (id_cmp (id_at ms (get_or places k d)) (name, desc)) =
      ap (λ p. ordering_index (id_cmp (id_at ms p) (name, desc))) same in
      omega arith)))

-- ---- one index for each class

pub indices-more : (cs : List Class) (rows : List MemberIndex) (c : Class) (i : MemberIndex) → AreIndices cs rows
    → IsIndexOf c i → AreIndices (cs ++ c ∷ []) (rows ++ i ∷ [])
unfolding AreIndices
indices-more [] [] c i a b = (b, tt)
indices-more [] (r ∷ rows) c i a b = absurd a
indices-more (e ∷ cs) [] c i a b = absurd a
indices-more (e ∷ cs) (r ∷ rows) c i a b = (a.0, indices-more cs rows c i a.1 b)

pub index-at : (cs : List Class) (rows : List MemberIndex) (p : ℕ) (c : Class) → AreIndices cs rows
    → slice_get cs p ≡ Some c → (i : MemberIndex) × (slice_get rows p ≡ Some i) × IsIndexOf c i
unfolding AreIndices
index-at [] rows p c a e = cc
index-at (d ∷ cs) [] p c a e = absurd a
index-at (d ∷ cs) (r ∷ rows) zero c a e = let is : d ≡ c = cc in (r, refl, subst (λ (v : Class). IsIndexOf v r) is a.0)
index-at (d ∷ cs) (r ∷ rows) (suc p) c a e = index-at cs rows p c a.1 e

module _ (cs : List ClassTree) (es : List ExportTree) where
  stood-more : (ss : List ClassPlace) (i : ℕ) (d : ClassPlace) → i < length ss → stood cs es (take (i + 1) ss)
      ≡ stood cs es (take i ss) ++ option_to_list (at cs es (get_or ss i d))
  stood-more ss i d l =
      ap (stood cs es) (take_more ss i d l)
      ∙ stood_append cs es (take i ss) (get_or ss i d ∷ [])
      ∙ ap (λ t. stood cs es (take i ss) ++ t) (append-nil (option_to_list (at cs es (get_or ss i d))))

  module _ (ss : List ClassPlace) (i : ℕ) (d : ClassPlace) (within : i < length ss) (rows : List MemberIndex)
      (so_far : AreIndices (stood cs es (take i ss)) rows) where
    pub indices-kept : at cs es (get_or ss i d) ≡ None → AreIndices (stood cs es (take (i + 1) ss)) rows
    indices-kept e = subst (λ w. AreIndices w rows) (sym (stood-more ss i d within
        ∙ ap (λ o. stood cs es (take i ss) ++ option_to_list o) e ∙ append-nil (stood cs es (take i ss)))) so_far

    pub indices-grow : (c : Class) (index : MemberIndex) → at cs es (get_or ss i d) ≡ Some c → IsIndexOf c index
        → AreIndices (stood cs es (take (i + 1) ss)) (rows ++ index ∷ [])
    indices-grow c index e is = subst (λ w. AreIndices w (rows ++ index ∷ [])) (sym (stood-more ss i d within
        ∙ ap (λ o. stood cs es (take i ss) ++ option_to_list o) e)) (indices-more (stood cs es (take i ss)) rows c
        index so_far is)

  pub spot-counted : (ss : List ClassPlace) (i : ℕ) (d : ClassPlace) (c : Class) → All IsCounted (stood cs es ss)
      → i < length ss → at cs es (get_or ss i d) ≡ Some c → IsCounted c
  spot-counted [] i d c all l e = absurd (omega arith)
  spot-counted (s ∷ ss) i d c all l e = by i (at cs es s) refl all l e (spot-counted ss)
    where
      by : (i : ℕ) (o : Option Class) → at cs es s ≡ o → All IsCounted (option_to_list o ++ stood cs es ss)
          → i < suc (length ss) → at cs es (get_or (s ∷ ss) i d) ≡ Some c
          → ((i : ℕ) (d : ClassPlace) (c : Class) → All IsCounted (stood cs es ss) → i < length ss
          → at cs es (get_or ss i d) ≡ Some c → IsCounted c) → IsCounted c
      by zero None h all l e rest = cc
      by zero (Some x) h all l e rest = let is : x ≡ c = cc in subst (λ (v : Class). IsCounted v) is
          (All-head IsCounted x (stood cs es ss) all)
      by (suc i) None h all l e rest = rest i d c all (omega arith) e
      by (suc i) (Some x) h all l e rest = rest i d c (All-tail IsCounted x (stood cs es ss) all) (omega arith) e
