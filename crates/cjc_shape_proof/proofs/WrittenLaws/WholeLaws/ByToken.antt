-- The methods of an interface that an export file describes stand at the places that are their tokens.
use Rattle.std.proofs.Common.{◌≡◌, ◌⊎◌, ℕ, zero, suc, ◌+◌, ◌<◌, ◌≤◌, refl, sym, ap, subst, ◌∙◌, arith, inl, inr, ⊎_elim}
use Rattle.std.proofs.Common.{Bool, true, false, List, [], ◌∷◌, ◌++◌, length, map}
use Rattle.std.specs.Prelude.{◌==◌, ◌||◌, Some, option_map, position, slice_get, if◌then◌else◌}
use Rattle.std.specs.Prelude.{codes}
use Rattle.std.specs.List.{AllByRecursion, IsDistinct, list_any}
use Rattle.std.specs.Str.{bytes_eq}
use Rattle.std.proofs.lemmas.Bool.{eqb-true, or_parts}
use Rattle.std.proofs.lemmas.List.{length-append, length-map}
use Rattle.std.proofs.lemmas.Map.Steps.{length-le_from_distinct_below}
use Rattle.std.proofs.lemmas.Option.{slice_get-map, slice_get_within}
use Rattle.cjc_tokens.proofs.Facts.{position-cons, same-refl, same-true}
use Rattle.cjc_tokens.specs.Members.{Signature, same, signature_of}
use Rattle.cjc_tokens.specs.Slots.{Slots, has_slot, new_in}
use Rattle.cjc_world.specs.Added.{by_token, with_token, without_initialiser}
use Rattle.cjc_world.specs.Classes.{Member}
use Rattle.cjc_bytes.proofs.Numbers.{like_number}

-- ---- numbers

none_equal : (t : ℕ) (xs : List ℕ) → list_any (λ x. t == x) xs ≡ false → AllByRecursion (λ x. (t == x) ≡ false) xs
none_equal t [] e = tt
none_equal t (x ∷ xs) e = let o = or_parts (t == x) (list_any (λ y. t == y) xs) e in (o.0, none_equal t xs o.1)

some_equal : (t : ℕ) (ms : List Member) → list_any (λ x. t == x) (map (λ m. m.token) ms) ≡ true → (i : ℕ) × (m : Member)
    × (slice_get ms i ≡ Some m) × (m.token ≡ t)
some_equal t [] e = cc
some_equal t (m ∷ ms) e = by (t == m.token) refl e (some_equal t ms)
  where
    by : (b : Bool) → (t == m.token) ≡ b → (b || list_any (λ x. t == x) (map (λ n. n.token) ms)) ≡ true
        → (list_any (λ x. t == x) (map (λ n. n.token) ms) ≡ true → (i : ℕ) × (n : Member) × (slice_get ms i ≡ Some n)
        × (n.token ≡ t))
        → (i : ℕ) × (n : Member) × (slice_get (m ∷ ms) i ≡ Some n) × (n.token ≡ t)
    by true is e rest = (0, m, refl, sym (eqb-true t m.token is))
    by false is e rest = let r = rest e in (suc r.0, r.1, r.2, r.3)

-- ---- signatures that are apart

-- each is new
new_same : (slots : Slots) (ss : List Signature) → IsDistinct same ss → AllByRecursion (λ s. has_slot slots s ≡ false)
    ss → new_in slots ss ≡ ss
unfolding IsDistinct
new_same slots [] d fresh = refl
new_same slots (s ∷ ss) d fresh =
    ap (λ b. if b then new_in slots ss else s ∷ new_in (slots ++ Some s ∷ []) ss) fresh.0
    ∙ ap (λ rest. s ∷ rest) (new_same (slots ++ Some s ∷ []) ss d.1 (behind ss fresh.1 d.0))
  where
    put_behind : (slots : Slots) (t : Signature) → has_slot slots t ≡ false → same s t ≡ false
        → has_slot (slots ++ Some s ∷ []) t ≡ false
    put_behind [] t e f = ap (λ b. b || false) f
    put_behind (slot ∷ slots) t e f =
        let o = or_parts _ (has_slot slots t) e in
        ap (λ b. b || has_slot (slots ++ Some s ∷ []) t) o.0 ∙ put_behind slots t o.1 f

    behind : (ts : List Signature) → AllByRecursion (λ t. has_slot slots t ≡ false) ts
        → AllByRecursion (λ t. same s t ≡ false) ts → AllByRecursion (λ t. has_slot (slots ++ Some s ∷ []) t ≡ false) ts
    behind [] f g = tt
    behind (t ∷ ts) f g = (put_behind slots t f.0 g.0, behind ts f.1 g.1)

fresh_all : (ss : List Signature) → AllByRecursion (λ s. has_slot [] s ≡ false) ss
fresh_all [] = tt
fresh_all (s ∷ ss) = (refl, fresh_all ss)

-- the place of one of them
apart_place : (ss : List Signature) (k : ℕ) (s : Signature) → IsDistinct same ss → slice_get ss k ≡ Some s
    → position (λ t. same t s) ss ≡ Some k
unfolding IsDistinct
apart_place [] k s d e = cc
apart_place (x ∷ ss) zero s d e =
    let is : x ≡ s = cc in
    position-cons (λ t. same t s) x ss ∙ ap (λ b. if b then Some 0 else option_map suc (position (λ t. same t s) ss))
    (ap (λ t. same t s) is ∙ same-refl s)
apart_place (x ∷ ss) (suc k) s d e =
    position-cons (λ t. same t s) x ss
    ∙ ap (λ b. if b then Some 0 else option_map suc (position (λ t. same t s) ss)) (at ss k d.0 e)
    ∙ ap (option_map suc) (apart_place ss k s d.1 e)
  where
    at : (ts : List Signature) (k : ℕ) → AllByRecursion (λ t. same x t ≡ false) ts → slice_get ts k ≡ Some s
        → same x s ≡ false
    at [] k all e = cc
    at (t ∷ ts) zero all e = let is : t ≡ s = cc in subst (λ u. same x u ≡ false) is all.0
    at (t ∷ ts) (suc k) all e = at ts k all.1 e

-- one member has a token
far : (xs : List Member) (t j : ℕ) (y : Member) → AllByRecursion (λ s. (t == s) ≡ false) (map (λ n. n.token) xs)
    → slice_get xs j ≡ Some y → t ≡ y.token → ⊥
far [] t j y all e f = cc
far (x ∷ xs) t zero y all e f =
    let is : x ≡ y = cc in
    let one : (t == x.token) ≡ true = ap (λ n. n == x.token) f ∙ ap (λ (z : Member). z.token == x.token) (sym is)
    ∙ like_number x.token in
    let none = all.0 in
    cc
far (x ∷ xs) t (suc j) y all e f = far xs t j y all.1 e f

in_one : (xs : List Member) (i j : ℕ) (x y : Member) → IsDistinct (λ s t. s == t) (map (λ n. n.token) xs)
    → slice_get xs i ≡ Some x → slice_get xs j ≡ Some y → x.token ≡ y.token → x ≡ y
unfolding IsDistinct
in_one [] i j x y d e f g = cc
in_one (z ∷ xs) zero zero x y d e f g = cc
in_one (z ∷ xs) zero (suc j) x y d e f g = let is : z ≡ x = cc
    in absurd (far xs z.token j y d.0 f (ap (λ (n : Member). n.token) is ∙ g))
in_one (z ∷ xs) (suc i) zero x y d e f g = let is : z ≡ y = cc
    in absurd (far xs z.token i x d.0 e (ap (λ (n : Member). n.token) is ∙ sym g))
in_one (z ∷ xs) (suc i) (suc j) x y d e f g = in_one xs i j x y d.1 e f g

-- ---- members by their tokens

module _ (ms : List Member) (apart : IsDistinct (λ s t. s == t) (map (λ m. m.token) ms)) (low : (q : ℕ)
    → list_any (λ x. q == x) (map (λ m. m.token) ms) ≡ true → q < length ms)
    (once : (i j : ℕ) (x y : Member) → slice_get ms i ≡ Some x → slice_get ms j ≡ Some y → x.name ≡ y.name
    → x.desc ≡ y.desc → i ≡ j)
    (plain : (i : ℕ) (x : Member) → slice_get ms i ≡ Some x → bytes_eq x.name (codes "<clinit>") ≡ false) where
  abbrev pub In : Member → Type 0
  In x = (i : ℕ) × (slice_get ms i ≡ Some x)

  -- one that has a token
  pub record HasToken (t : ℕ) (xs : List Member) : Type 0 where
    pub one : Member
    pub is : xs ≡ one ∷ []
    pub token : one.token ≡ t
    pub inside : In one

  -- each number below their count is the token of one
  there : (t : ℕ) → t < length ms → (i : ℕ) × (m : Member) × (slice_get ms i ≡ Some m) × (m.token ≡ t)
  unfolding IsDistinct
  there t l = by (list_any (λ x. t == x) (map (λ m. m.token) ms)) refl
    where
      by : (b : Bool) → list_any (λ x. t == x) (map (λ m. m.token) ms) ≡ b → (i : ℕ) × (m : Member)
          × (slice_get ms i ≡ Some m) × (m.token ≡ t)
      by true e = some_equal t ms e
      by false e =
          let more = length-le_from_distinct_below (t ∷ map (λ m. m.token) ms) (length ms)
          (none_equal t (map (λ m. m.token) ms) e, apart) below in
          let count = length-map ms (λ m. m.token) in
          absurd (omega (arith, more, count))
        where
          below : (q : ℕ) → list_any (λ x. q == x) (t ∷ map (λ m. m.token) ms) ≡ true → q < length ms
          below q h = at (q == t) refl h
            where
              at : (b : Bool) → (q == t) ≡ b → (b || list_any (λ x. q == x) (map (λ m. m.token) ms)) ≡ true
                  → q < length ms
              at true is h = let same_one = eqb-true q t is in omega (arith, same_one, l)
              at false is h = low q h

  -- what stands with a token, if anything
  with_is : (t : ℕ) (xs : List Member) → ((i : ℕ) (x : Member) → slice_get xs i ≡ Some x → In x)
      → (with_token t xs ≡ []) ⊎ HasToken t (with_token t xs)
  with_is t [] inside = inl refl
  with_is t (x ∷ xs) inside = by (x.token == t) refl (with_is t xs (λ i y e. inside (suc i) y e))
    where
      by : (b : Bool) → (x.token == t) ≡ b → (with_token t xs ≡ []) ⊎ HasToken t (with_token t xs)
          → ((if b then x ∷ [] else with_token t xs) ≡ []) ⊎ HasToken t (if b then x ∷ [] else with_token t xs)
      by true is rest = inr (record { one = x; is = refl; token = eqb-true x.token t is; inside = inside 0 x refl })
      by false is rest = rest

  own : (t : ℕ) → (with_token t ms ≡ []) ⊎ HasToken t (with_token t ms)
  own t = with_is t ms (λ i x e. (i, e))

  some_with : (t : ℕ) (xs : List Member) (i : ℕ) (m : Member) → slice_get xs i ≡ Some m → m.token ≡ t
      → with_token t xs ≡ [] → ⊥
  some_with t [] i m e f g = cc
  some_with t (x ∷ xs) zero m e f g =
      let is : x ≡ m = cc in
      let one : (x.token == t) ≡ true = ap (λ (y : Member). y.token == t) is ∙ ap (λ n. n == t) f ∙ like_number t in
      cc
  some_with t (x ∷ xs) (suc i) m e f g = by (x.token == t) g (some_with t xs i m e f)
    where
      by : (b : Bool) → (if b then x ∷ [] else with_token t xs) ≡ [] → (with_token t xs ≡ [] → ⊥) → ⊥
      by true g rest = cc
      by false g rest = rest g

  one_with : (t : ℕ) → t < length ms → HasToken t (with_token t ms)
  one_with t l = ⊎_elim (λ none. let h = there t l in absurd (some_with t ms h.0 h.1 h.2 h.3 none)) (λ h. h) (own t)

  -- two of different tokens are apart
  two_apart : (x y : Member) → In x → In y → x.token < y.token → same (signature_of x) (signature_of y) ≡ false
  two_apart x y i j l = by (same (signature_of x) (signature_of y)) refl
    where
      by : (b : Bool) → same (signature_of x) (signature_of y) ≡ b → b ≡ false
      by false e = refl
      by true e =
          let is = same-true (signature_of x) (signature_of y) e in
          let places = once i.0 j.0 x y i.1 j.1 (ap (λ (s : Signature). s.name) is) (ap (λ (s : Signature). s.desc) is)
          in
          let one : Some x ≡ Some y = sym i.1 ∙ ap (slice_get ms) places ∙ j.1 in
          let tokens : x.token ≡ y.token = (let both : x ≡ y = cc in ap (λ (m : Member). m.token) both) in
          absurd (omega (arith, l, tokens))

  -- ---- the list by tokens

  later : (x : Member) → In x → (count k : ℕ) → x.token < k → AllByRecursion (λ s. same (signature_of x) s ≡ false)
      (map signature_of (by_token count k ms))
  later x i zero k l = tt
  later x i (suc count) k l =
      ⊎_elim
      (λ none. subst (λ ys. AllByRecursion (λ s. same (signature_of x) s ≡ false) (map signature_of (ys
      ++ by_token count (k + 1) ms))) (sym none) (later x i count (k + 1) (omega (arith, l))))
      (λ (h : HasToken k (with_token k ms)).
      let t = h.token in
      subst (λ ys. AllByRecursion (λ s. same (signature_of x) s ≡ false) (map signature_of (ys
      ++ by_token count (k + 1) ms))) (sym h.is)
      (two_apart x h.one i h.inside (omega (arith, l, t)), later x i count (k + 1) (omega (arith, l))))
      (own k)

  all_apart : (count k : ℕ) → IsDistinct same (map signature_of (by_token count k ms))
  unfolding IsDistinct
  all_apart zero k = tt
  all_apart (suc count) k =
      ⊎_elim
      (λ none. subst (λ ys. IsDistinct same (map signature_of (ys ++ by_token count (k + 1) ms))) (sym none)
      (all_apart count (k + 1)))
      (λ (h : HasToken k (with_token k ms)).
      let t = h.token in
      subst (λ ys. IsDistinct same (map signature_of (ys ++ by_token count (k + 1) ms))) (sym h.is)
      (later h.one h.inside count (k + 1) (omega (arith, t)), all_apart count (k + 1)))
      (own k)

  -- no initialiser is among them
  none_left_out : (count k : ℕ) → without_initialiser (by_token count k ms) ≡ by_token count k ms
  none_left_out zero k = refl
  none_left_out (suc count) k =
      ⊎_elim
      (λ none. subst (λ ys. without_initialiser (ys ++ by_token count (k + 1) ms) ≡ ys ++ by_token count (k + 1) ms)
      (sym none) (none_left_out count (k + 1)))
      (λ (h : HasToken k (with_token k ms)).
      subst (λ ys. without_initialiser (ys ++ by_token count (k + 1) ms) ≡ ys ++ by_token count (k + 1) ms) (sym h.is)
      (ap (λ b. if b then without_initialiser (by_token count (k + 1) ms) else h.one
      ∷ without_initialiser (by_token count (k + 1) ms)) (plain h.inside.0 h.one h.inside.1)
      ∙ ap (λ ys. h.one ∷ ys) (none_left_out count (k + 1))))
      (own k)

  -- at each place the one with that token
  pub record StandsAt (xs : List Member) (j t : ℕ) : Type 0 where
    pub one : Member
    pub is : slice_get xs j ≡ Some one
    pub token : one.token ≡ t
    pub inside : In one

  at_place : (count k j : ℕ) → j < count → k + count ≤ length ms → StandsAt (by_token count k ms) j (k + j)
  at_place zero k j l few = absurd (omega (arith, l))
  at_place (suc count) k zero l few =
      let h = one_with k (omega (arith, few)) in
      let t = h.token in
      record {
        one = h.one;
        is = ap (λ ys. slice_get (ys ++ by_token count (k + 1) ms) 0) h.is;
        token = omega (arith, t);
        inside = h.inside;
      }
  at_place (suc count) k (suc j) l few =
      let h = one_with k (omega (arith, few)) in
      let r = at_place count (k + 1) j (omega (arith, l)) (omega (arith, few)) in
      let t = r.token in
      record {
        one = r.one;
        is = ap (λ ys. slice_get (ys ++ by_token count (k + 1) ms) (suc j)) h.is ∙ r.is;
        token = omega (arith, t);
        inside = r.inside;
      }

  -- so each has the place that is its token
  pub place_is_token : (i : ℕ) (m : Member) → slice_get ms i ≡ Some m
      → position (λ s. same s (signature_of m))
      (new_in [] (map signature_of (without_initialiser (by_token (length ms) 0 ms)))) ≡ Some m.token
  place_is_token i m e =
      let all = by_token (length ms) 0 ms in
      let l = low m.token (listed ms i m e) in
      let r = at_place (length ms) 0 m.token l (omega arith) in
      let t = r.token in
      let y = r.one in
      let same_token : y.token ≡ m.token = omega (arith, t) in
      let is : y ≡ m = in_one ms r.inside.0 i y m apart r.inside.1 e same_token in
      ap (λ ys. position (λ s. same s (signature_of m)) (new_in [] (map signature_of ys))) (none_left_out (length ms) 0)
      ∙ ap (position (λ s. same s (signature_of m))) (new_same [] (map signature_of all) (all_apart (length ms) 0)
      (fresh_all (map signature_of all)))
      ∙ apart_place (map signature_of all) m.token (signature_of m) (all_apart (length ms) 0)
      (slice_get-map signature_of all m.token ∙ ap (option_map signature_of) (r.is ∙ ap (λ (z : Member). Some z) is))
    where
      listed : (xs : List Member) (i : ℕ) (m : Member) → slice_get xs i ≡ Some m
          → list_any (λ x. m.token == x) (map (λ n. n.token) xs) ≡ true
      listed [] i m e = cc
      listed (x ∷ xs) zero m e =
          let is : x ≡ m = cc in
          ap (λ b. b || list_any (λ t. m.token == t) (map (λ n. n.token) xs)) (ap (λ (y : Member). m.token == y.token)
          is ∙ like_number m.token)
      listed (x ∷ xs) (suc i) m e = by (m.token == x.token) (listed xs i m e)
        where
          by : (b : Bool) → list_any (λ t. m.token == t) (map (λ n. n.token) xs) ≡ true
              → (b || list_any (λ t. m.token == t) (map (λ n. n.token) xs)) ≡ true
          by true h = refl
          by false h = h

  -- ---- and at each place stands the one with that token

  one_at_most : (t : ℕ) (xs : List Member) → length (with_token t xs) ≤ 1
  one_at_most t [] = omega arith
  one_at_most t (x ∷ xs) = by (x.token == t) (one_at_most t xs)
    where
      by : (b : Bool) → length (with_token t xs) ≤ 1 → length (if b then x ∷ [] else with_token t xs) ≤ 1
      by true rest = omega arith
      by false rest = rest

  few_by_token : (count k : ℕ) → length (by_token count k ms) ≤ count
  few_by_token zero k = omega arith
  few_by_token (suc count) k =
      let here = one_at_most k ms in
      let rest = few_by_token count (k + 1) in
      let both = length-append (with_token k ms) (by_token count (k + 1) ms) in
      omega (arith, here, rest, both)

  mapped_from : {A B : Type 0} (f : A → B) (xs : List A) (i : ℕ) (y : B) → slice_get (map f xs) i ≡ Some y → (x : A)
      × (slice_get xs i ≡ Some x) × (f x ≡ y)
  mapped_from f [] i y e = cc
  mapped_from f (x ∷ xs) zero y e = (x, refl, cc)
  mapped_from f (x ∷ xs) (suc i) y e = mapped_from f xs i y e

  -- one of a token is the only one
  pub only_one : (i j : ℕ) (x y : Member) → slice_get ms i ≡ Some x → slice_get ms j ≡ Some y → x.token ≡ y.token
      → x ≡ y
  only_one i j x y e f same_token = in_one ms i j x y apart e f same_token

  pub token_is_place : (t : ℕ) (s : Signature)
      → slice_get (new_in [] (map signature_of (without_initialiser (by_token (length ms) 0 ms)))) t ≡ Some s → (i : ℕ)
      × (m : Member) × (slice_get ms i ≡ Some m) × (m.token ≡ t) × (signature_of m ≡ s)
  token_is_place t s e =
      let all = by_token (length ms) 0 ms in
      let here : slice_get (map signature_of all) t ≡ Some s =
      sym (ap (λ ys. slice_get (new_in [] (map signature_of ys)) t) (none_left_out (length ms) 0)
      ∙ ap (λ ys. slice_get ys t) (new_same [] (map signature_of all) (all_apart (length ms) 0)
      (fresh_all (map signature_of all)))) ∙ e in
      let x = mapped_from signature_of all t s here in
      let within = slice_get_within all t x.0 x.1 in
      let few = few_by_token (length ms) 0 in
      let r = at_place (length ms) 0 t (omega (arith, within, few)) (omega arith) in
      let both : Some r.one ≡ Some x.0 = sym r.is ∙ x.1 in
      let is : r.one ≡ x.0 = cc in
      let token = r.token in
      (r.inside.0, r.one, r.inside.1, omega (arith, token), ap signature_of is ∙ x.2)
