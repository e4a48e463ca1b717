-- The own methods of an interface, position by position.
use Rattle.std.proofs.Common.{◌≡◌, ℕ, zero, suc, ◌<◌, ◌≤◌, ◌+◌, ◌-◌, cond, refl, sym, ap, ◌∙◌, arith, Bool, true, false}
use Rattle.std.proofs.Common.{List, [], ◌∷◌, ◌++◌, length, drop, get_or, add-one}
use Rattle.std.specs.Prelude.{◌==◌, ◌||◌, ◌&&◌, if◌then◌else◌, Option, Some, None, option_to_list, slice_get, codes}
use Rattle.std.specs.List.{find}
use Rattle.std.specs.Str.{bytes_eq}
use Rattle.std.proofs.Math.Seq.{drop-cons}
use Rattle.std.proofs.lemmas.Grind.{common_steps}
use Rattle.std.proofs.lemmas.List.Folds.{list_any-append}
use Rattle.cjc_bytes.specs.declared.fault.MemberId.{MemberId}
use Rattle.cjc_world.specs.Classes.{Member, Class}
use Rattle.cjc_world.specs.Lookup.{is_called}
use Rattle.cjc_world.specs.Added.{with_token, by_token, without_initialiser, own_methods, is_one_of}
use Rattle.cjc_world.specs.Working.Asked.{unless_initialiser, positioned, asked, asked_from, IsNamed, got_one, got}
use Rattle.cjc_world.specs.Working.Asked.{methods_of_option, got_all}

pub without-append : (xs ys : List Member) → without_initialiser (xs ++ ys) ≡ without_initialiser xs
    ++ without_initialiser ys
without-append [] ys = refl
without-append (m ∷ xs) ys = by (bytes_eq m.name (codes "<clinit>")) (without-append xs ys)
  where
    by : (b : Bool) → without_initialiser (xs ++ ys) ≡ without_initialiser xs ++ without_initialiser ys
        → (if b then without_initialiser (xs ++ ys) else m ∷ without_initialiser (xs ++ ys))
        ≡ (if b then without_initialiser xs else m ∷ without_initialiser xs) ++ without_initialiser ys
    by true e = e
    by false e = ap (λ v. m ∷ v) e

without-one : (o : Option Member) → without_initialiser (option_to_list o) ≡ option_to_list (unless_initialiser o)
without-one None = refl
without-one (Some m) = by (bytes_eq m.name (codes "<clinit>"))
  where
    by : (b : Bool) → (if b then [] else m ∷ []) ≡ option_to_list (if b then None else Some m)
    by true = refl
    by false = refl

token-found : (t : ℕ) (ms : List Member) → with_token t ms ≡ option_to_list (find (λ m. m.token == t) ms)
token-found t [] = refl
token-found t (m ∷ ms) = by (m.token == t) (token-found t ms)
  where
    by : (b : Bool) → with_token t ms ≡ option_to_list (find (λ m. m.token == t) ms)
        → (if b then m ∷ [] else with_token t ms) ≡ option_to_list (cond b (Some m) (find (λ m. m.token == t) ms))
    by true e = refl
    by false e = e

drop-got : {A : Type 0} (xs : List A) (k : ℕ) → drop k xs ≡ option_to_list (slice_get xs k) ++ drop (k + 1) xs
drop-got [] k = grind (arith, common_steps)
drop-got (x ∷ xs) zero = refl
drop-got (x ∷ xs) (suc k) = drop-got xs k ∙ ap (λ n. option_to_list (slice_get xs k) ++ drop n (x ∷ xs))
    (let e : suc (k + 1) ≡ suc k + 1 = omega arith in e)

module _ (c : Class) where
  raw : ℕ → ℕ → List Member
  raw k n = if c.is_imported then by_token n k c.methods else drop k c.methods

  raw-next : (k n : ℕ) → raw k (suc n) ≡ option_to_list (positioned c k) ++ raw (k + 1) n
  unfolding raw positioned
  raw-next k n = by c.is_imported
    where
      by : (b : Bool) → (if b then by_token (suc n) k c.methods else drop k c.methods) ≡ option_to_list (if b
          then find (λ m. m.token == k) c.methods else slice_get c.methods k) ++ (if b then by_token n (k + 1) c.methods
          else drop (k + 1) c.methods)
      by true = ap (λ v. v ++ by_token n (k + 1) c.methods) (token-found k c.methods)
      by false = drop-got c.methods k

  from-raw : (k n : ℕ) → k + n ≡ length c.methods → asked_from c k n ≡ without_initialiser (raw k n)
  unfolding asked_from raw
  from-raw k zero e = by c.is_imported
    where
      none : drop k c.methods ≡ []
      none = grind (arith, common_steps)

      by : (b : Bool) → [] ≡ without_initialiser (if b then [] else drop k c.methods)
      by true = refl
      by false = sym (ap without_initialiser none)
  from-raw k (suc n) e =
      ap (λ v. option_to_list (asked c k) ++ v) (from-raw (k + 1) n (omega arith))
      ∙ ap (λ v. v ++ without_initialiser (raw (k + 1) n)) (sym (without-one (positioned c k)))
      ∙ sym (without-append (option_to_list (positioned c k)) (raw (k + 1) n))
      ∙ ap without_initialiser (sym (raw-next k n))

  pub asked-own : asked_from c 0 (length c.methods) ≡ own_methods c
  unfolding own_methods raw
  asked-own = from-raw 0 (length c.methods) (omega arith)

  next : (k end : ℕ) → k < end → asked_from c k (end - k) ≡ option_to_list (asked c k)
      ++ asked_from c (k + 1) (end - (k + 1))
  unfolding asked_from
  next k end l = ap (asked_from c k) (let e : end - k ≡ suc (end - (k + 1)) = omega arith in e)

  none-left : (k end : ℕ) → end ≤ k → asked_from c k (end - k) ≡ []
  unfolding asked_from
  none-left k end l = ap (asked_from c k) (let e : end - k ≡ 0 = omega arith in e)

  -- ---- whether one is called so

  module _ (name desc : List ℕ) (k end : ℕ) where
    rest : Bool
    rest = is_one_of (asked_from c k (end - k)) name desc

    more : Bool
    more = is_one_of (asked_from c (k + 1) (end - (k + 1))) name desc

    step : k < end → rest ≡ (is_one_of (option_to_list (asked c k)) name desc || more)
    unfolding rest more
    step l = ap (λ ms. is_one_of ms name desc) (next k end l) ∙ list_any-append (λ m. is_called name desc m)
        (option_to_list (asked c k)) (asked_from c (k + 1) (end - (k + 1)))

    or-false : (b : Bool) → (b || false) ≡ b
    or-false true = refl
    or-false false = refl

    one : (o : Option Member) (own_name own_desc : List ℕ) → IsNamed o own_name own_desc
        → is_one_of (option_to_list o) name desc ≡ (bytes_eq own_name name && bytes_eq own_desc desc)
    one None a b h = absurd h
    one (Some m) a b h = or-false (bytes_eq m.name name && bytes_eq m.desc desc) ∙ ap (λ v. bytes_eq v name
        && bytes_eq m.desc desc) h.0 ∙ ap (λ v. bytes_eq a name && bytes_eq v desc) h.1

    pub asked-none : k < end → asked c k ≡ None → is_one_of (asked_from c k (end - k)) name desc
        ≡ is_one_of (asked_from c (k + 1) (end - (k + 1))) name desc
    unfolding rest more
    asked-none l e = step l ∙ ap (λ o. is_one_of (option_to_list o) name desc || more) e

    pub asked-other : (a b : List ℕ) → k < end → IsNamed (asked c k) a b → (bytes_eq a name && bytes_eq b desc) ≡ false
        → is_one_of (asked_from c k (end - k)) name desc ≡ is_one_of (asked_from c (k + 1) (end - (k + 1))) name desc
    unfolding rest more
    asked-other a b l h e = step l ∙ ap (λ v. v || more) (one (asked c k) a b h ∙ e)

    pub asked-same : (a b : List ℕ) → k < end → IsNamed (asked c k) a b → (bytes_eq a name && bytes_eq b desc) ≡ true
        → is_one_of (asked_from c k (end - k)) name desc ≡ true
    unfolding rest more
    asked-same a b l h e = step l ∙ ap (λ v. v || more) (one (asked c k) a b h ∙ e)

    pub asked-end : end ≤ k → is_one_of (asked_from c k (end - k)) name desc ≡ false
    asked-end l = ap (λ ms. is_one_of ms name desc) (none-left k end l)

  -- ---- getting them

  module _ (there : List ℕ → List ℕ → Bool) (class : List ℕ) (k end : ℕ) where
    got-append : (ids : List MemberId) (xs ys : List Member) → got there class ids (xs ++ ys)
        ≡ got there class (got there class ids xs) ys
    unfolding got
    got-append ids [] ys = refl
    got-append ids (m ∷ xs) ys = got-append (got_one there class ids m.name m.desc) xs ys

    got-step : (ids : List MemberId) → k < end → got there class ids (asked_from c k (end - k))
        ≡ got there class (got there class ids (option_to_list (asked c k))) (asked_from c (k + 1) (end - (k + 1)))
    got-step ids l = ap (got there class ids) (next k end l) ∙ got-append ids (option_to_list (asked c k))
        (asked_from c (k + 1) (end - (k + 1)))

    pub got-none : (ids : List MemberId) → k < end → asked c k ≡ None
        → got there class ids (asked_from c (k + 1) (end - (k + 1))) ≡ got there class ids (asked_from c k (end - k))
    unfolding got
    got-none ids l e = sym (got-step ids l ∙ ap (λ o. got there class (got there class ids (option_to_list o))
        (asked_from c (k + 1) (end - (k + 1)))) e)

    pub got-some : (ids new : List MemberId) (a b : List ℕ) → k < end → IsNamed (asked c k) a b
        → new ≡ got_one there class ids a b → got there class new (asked_from c (k + 1) (end - (k + 1)))
        ≡ got there class ids (asked_from c k (end - k))
    unfolding got
    got-some ids new a b l h e = ap (λ v. got there class v (asked_from c (k + 1) (end - (k + 1)))) (e
        ∙ one (asked c k) h) ∙ sym (got-step ids l)
      where
        one : (o : Option Member) → IsNamed o a b → got_one there class ids a b ≡ got there class ids (option_to_list o)
        one None h = absurd h
        one (Some m) h = ap (λ v. got_one there class ids v b) (sym h.0) ∙ ap (λ v. got_one there class ids m.name v)
            (sym h.1)

    pub got-end : (ids : List MemberId) → end ≤ k → ids ≡ got there class ids (asked_from c k (end - k))
    unfolding got
    got-end ids l = sym (ap (got there class ids) (none-left k end l))

-- ---- interface after interface

module _ (w : List Class) (there : List ℕ → List ℕ → Bool) (class : List ℕ) where
  all-next : (ids : List MemberId) (ps : List ℕ) (i d : ℕ) → i < length ps → got_all w there class ids (drop i ps)
      ≡ got_all w there class (got there class ids (methods_of_option (slice_get w (get_or ps i d)))) (drop (i + 1) ps)
  unfolding got_all
  all-next ids ps i d l =
      ap (got_all w there class ids) (drop-cons ps i d l)
      ∙ ap (λ n. got_all w there class (got there class ids (methods_of_option (slice_get w (get_or ps i d))))
      (drop n ps)) (sym (add-one i))

  pub all-some : (ids new : List MemberId) (ps : List ℕ) (i d : ℕ) (c : Class) → i < length ps
      → slice_get w (get_or ps i d) ≡ Some c → new ≡ got there class ids (own_methods c)
      → got_all w there class new (drop (i + 1) ps) ≡ got_all w there class ids (drop i ps)
  all-some ids new ps i d c l e f =
      ap (λ v. got_all w there class v (drop (i + 1) ps)) (f ∙ ap (λ o. got there class ids (methods_of_option o))
      (sym e)) ∙ sym (all-next ids ps i d l)

  pub all-none : (ids : List MemberId) (ps : List ℕ) (i d : ℕ) → i < length ps → slice_get w (get_or ps i d) ≡ None
      → got_all w there class ids (drop (i + 1) ps) ≡ got_all w there class ids (drop i ps)
  unfolding got
  all-none ids ps i d l e = ap (λ o. got_all w there class (got there class ids (methods_of_option o))
      (drop (i + 1) ps)) (sym e) ∙ sym (all-next ids ps i d l)

  pub all-end : (ids : List MemberId) (ps : List ℕ) (i : ℕ) → length ps ≤ i
      → ids ≡ got_all w there class ids (drop i ps)
  unfolding got_all
  all-end ids ps i l = let e : drop i ps ≡ [] = grind (arith, common_steps) in sym (ap (got_all w there class ids) e)
