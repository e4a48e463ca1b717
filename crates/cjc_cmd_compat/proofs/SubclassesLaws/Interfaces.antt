-- The methods of an interface by token, in two versions that list the same ones in any order.
use Rattle.std.proofs.Common.{◌≡◌, ℕ, zero, suc, ◌+◌, ◌<◌, refl, sym, ap, ◌∙◌, arith, Bool, true, false, List}
use Rattle.std.proofs.Common.{[], ◌∷◌, ◌++◌, length, eqb, inl, inr, eqb-true}
use Rattle.std.specs.Prelude.{◌⊎◌, ◌||◌, ◌&&◌, ◌==◌, not, Some, None, if◌then◌else◌, map, nat_lt}
use Rattle.std.specs.List.{AllByRecursion, IsDistinct, list_any}
use Rattle.std.proofs.lemmas.Bool.Decides.{nat_tests}
use Rattle.std.proofs.lemmas.List.{length-map}
use Rattle.std.proofs.lemmas.Map.Steps.{length-le_from_distinct_below}
use Rattle.cjc_compat.specs.ExportFile.Members.{interface_token, interface_token_taken}
use Rattle.cjc_compat.specs.ExportFile.Writable.{EachAfter, MethodStands}
use Rattle.cjc_compat.specs.ExportFile.declared.tree.ExportMethod.{ExportMethod}
use Rattle.cjc_world.specs.Added.{by_token, with_token}
use Rattle.cjc_world.specs.Classes.{Member, method_of_export}
use Rattle.cjc_world.specs.Upwards.{Has, after, foremost}
use Rattle.cjc_world.proofs.UpwardLaws.Lines.{has-back, has-cons, has-front}
use Rattle.cjc_cmd_compat.proofs.SubclassesLaws.Worlds.{any-got, has-map, has-mapped, none-of}

-- ---- tokens of an interface of an export file

-- the tokens of some methods
abbrev tokens_of : List ExportMethod → List ℕ
tokens_of ms = map (λ (m : ExportMethod). m.token) ms

standing : (count token : ℕ) (before : List ExportMethod) → interface_token count before token ≡ Some token
    → (token < count) × (interface_token_taken before token ≡ false)
standing count token before e = by (nat_lt token count) (interface_token_taken before token) refl e
  where
    by : (l t : Bool) → nat_lt token count ≡ l → (if l && not t then Some token else None) ≡ Some token
        → (token < count) × (t ≡ false)
    by true false h f = (grind (arith, nat_tests), refl)
    by true true h f = absurd cc
    by false t h f = absurd cc

low : (n : ℕ) (before ms : List ExportMethod) (m : ExportMethod) → EachAfter (MethodStands true n) before ms → Has m ms
    → m.token < n
low n before [] m e h = elim h [ ]
low n before (x ∷ ms) _ e foremost = (standing n x.token before e.0.1).0
low n before (x ∷ ms) m e (after h) = low n (before ++ x ∷ []) ms m e.1 h

other-token : (n : ℕ) (before ms : List ExportMethod) (b m : ExportMethod) → EachAfter (MethodStands true n) before ms
    → Has b before → Has m ms → (b.token == m.token) ≡ false
other-token n before [] b m e h i = elim i [ ]
other-token n before (x ∷ ms) b _ e h foremost = none-of (λ k. k.token == x.token) before b
    (standing n x.token before e.0.1).1 h
other-token n before (x ∷ ms) b m e h (after i) = other-token n (before ++ x ∷ []) ms b m e.1
    (has-front b before (x ∷ []) h) i

distinct : (n : ℕ) (before ms : List ExportMethod) → EachAfter (MethodStands true n) before ms
    → IsDistinct eqb (tokens_of ms)
unfolding IsDistinct
distinct n before [] e = tt
distinct n before (x ∷ ms) e = (
  all ms (λ m h. other-token n (before ++ x ∷ []) ms x m e.1 (has-back x before (x ∷ []) foremost) h),
  distinct n (before ++ x ∷ []) ms e.1,
)
  where
    all : (ys : List ExportMethod) → ((m : ExportMethod) → Has m ys → (x.token == m.token) ≡ false)
        → AllByRecursion (λ t. eqb x.token t ≡ false) (tokens_of ys)
    all [] each = tt
    all (y ∷ ys) each = (each y foremost, all ys (λ m h. each m (after h)))

one-token : (n : ℕ) (before ms : List ExportMethod) (a b : ExportMethod) → EachAfter (MethodStands true n) before ms
    → Has a ms → Has b ms → a.token ≡ b.token → a ≡ b
one-token n before [] a b e h i f = elim h [ ]
one-token n before (x ∷ ms) _ _ e foremost foremost f = refl
one-token n before (x ∷ ms) _ b e foremost (after i) f =
    let other = other-token n (before ++ x ∷ []) ms x b e.1 (has-back x before (x ∷ []) foremost) i in
    let same : (x.token == b.token) ≡ true = grind (arith, nat_tests) in
    absurd (let clash = sym same ∙ other in cc)
one-token n before (x ∷ ms) a _ e (after h) foremost f =
    let other = other-token n (before ++ x ∷ []) ms x a e.1 (has-back x before (x ∷ []) foremost) h in
    let same : (x.token == a.token) ≡ true = grind (arith, nat_tests) in
    absurd (let clash = sym same ∙ other in cc)
one-token n before (x ∷ ms) a b e (after h) (after i) f = one-token n (before ++ x ∷ []) ms a b e.1 h i f

any-low : (n : ℕ) (ms : List ExportMethod) → EachAfter (MethodStands true n) [] ms → (q : ℕ)
    → list_any (eqb q) (tokens_of ms) ≡ true → q < n
any-low n ms e q h =
    let r = any-got (eqb q) (tokens_of ms) h in
    let m = has-mapped (λ (m : ExportMethod). m.token) ms r.0 r.1 in
    let less = low n [] ms m.0 e m.1 in
    let is : q ≡ r.0 = eqb-true q r.0 r.2 in
    let at = m.2 in
    omega (arith, less, is, at)

-- each token below the number of methods is one's
pub each-token : (ms : List ExportMethod) → EachAfter (MethodStands true (length ms)) [] ms → (t : ℕ) → t < length ms
    → (m : ExportMethod) × Has m ms × (m.token ≡ t)
unfolding IsDistinct
each-token ms e t less = by (list_any (eqb t) (tokens_of ms)) refl
  where
    all : (ys : List ℕ) → list_any (eqb t) ys ≡ false → AllByRecursion (λ q. eqb t q ≡ false) ys
    all [] h = tt
    all (y ∷ ys) h = on (eqb t y) refl h (all ys)
      where
        on : (b : Bool) → eqb t y ≡ b → (b || list_any (eqb t) ys) ≡ false → (list_any (eqb t) ys ≡ false
            → AllByRecursion (λ q. eqb t q ≡ false) ys) → (eqb t y ≡ false) × AllByRecursion (λ q. eqb t q ≡ false) ys
        on true f g rest = absurd cc
        on false f g rest = (f, rest g)

    below : (q : ℕ) → list_any (eqb q) (t ∷ tokens_of ms) ≡ true → q < length ms
    below q h = on (eqb q t) refl h
      where
        on : (b : Bool) → eqb q t ≡ b → (b || list_any (eqb q) (tokens_of ms)) ≡ true → q < length ms
        on true f g = let is = eqb-true q t f in omega (arith, is, less)
        on false f g = any-low (length ms) ms e q g

    by : (b : Bool) → list_any (eqb t) (tokens_of ms) ≡ b → (m : ExportMethod) × Has m ms × (m.token ≡ t)
    by true h =
        let r = any-got (eqb t) (tokens_of ms) h in
        let m = has-mapped (λ (m : ExportMethod). m.token) ms r.0 r.1 in
        (m.0, m.1, sym m.2 ∙ sym (eqb-true t r.0 r.2))
    by false h =
        let le = length-le_from_distinct_below (t ∷ tokens_of ms) (length ms) (
          all (tokens_of ms) h,
          distinct
              (length ms) [] ms e,
        )
        below in
        let same = length-map ms (λ (m : ExportMethod). m.token) in
        absurd (omega (arith, le, same))

-- ---- the methods in the order of their tokens

with_token-one : (t : ℕ) (ms : List Member) (m : Member) → Has m ms → m.token ≡ t → ((n : Member) → Has n ms
    → n.token ≡ t → n ≡ m) → with_token t ms ≡ m ∷ []
with_token-one t [] m h e one = elim h [ ]
with_token-one t (x ∷ ms) m h e one =
    by (x.token == t) refl (has-cons m x ms h) (λ g. with_token-one t ms m g e (λ n i. one n (after i)))
  where
    here : m ≡ x → (x.token == t) ≡ true
    here is = let at : x.token ≡ t = sym (ap (λ (z : Member). z.token) is) ∙ e in grind (arith, nat_tests)

    by : (b : Bool) → (x.token == t) ≡ b → (m ≡ x) ⊎ Has m ms → (Has m ms → with_token t ms ≡ m ∷ [])
        → (if b then x ∷ [] else with_token t ms) ≡ m ∷ []
    by true f g rest = ap (λ z. z ∷ []) (one x foremost (eqb-true x.token t f))
    by false f (inl is) rest = absurd (let clash = sym (here is) ∙ f in cc)
    by false f (inr g) rest = rest g

by_token-same : (count t : ℕ) (ms ns : List Member) → ((k : ℕ) → k < t + count → with_token k ns ≡ with_token k ms)
    → by_token count t ns ≡ by_token count t ms
by_token-same zero t ms ns each = refl
by_token-same (suc count) t ms ns each =
    ap (λ l. l ++ by_token count (t + 1) ns) (each t (omega arith))
    ∙ ap (λ l. with_token t ms ++ l) (by_token-same count (t + 1) ms ns (λ k l. each k (omega (arith, l))))

-- Two lists of as many methods, of which the second has those of the first.
pub by_token-kept : (ms ns : List ExportMethod) → length ns ≡ length ms
    → EachAfter (MethodStands true (length ms)) [] ms → EachAfter (MethodStands true (length ns)) [] ns
    → ((m : Member) → Has m (map method_of_export ms) → Has m (map method_of_export ns))
    → by_token (length (map method_of_export ns)) 0 (map method_of_export ns)
    ≡ by_token (length (map method_of_export ms)) 0 (map method_of_export ms)
by_token-kept ms ns count e f kept =
    let p = length-map ms method_of_export in
    let q = length-map ns method_of_export in
    let same : length (map method_of_export ns) ≡ length (map method_of_export ms) = omega (arith, count, p, q) in
    ap (λ n. by_token n 0 (map method_of_export ns)) same
    ∙ by_token-same (length (map method_of_export ms)) 0 (map method_of_export ms) (map method_of_export ns)
    (λ k l. each k (omega (arith, l, p)))
  where
    alone : (xs : List ExportMethod) → EachAfter (MethodStands true (length xs)) [] xs → (a b : Member)
        → Has a (map method_of_export xs) → Has b (map method_of_export xs) → a.token ≡ b.token → a ≡ b
    alone xs g a b h i t =
        let x = has-mapped method_of_export xs a h in
        let y = has-mapped method_of_export xs b i in
        let tokens : x.0.token ≡ y.0.token = sym (ap (λ (z : Member). z.token) x.2) ∙ t ∙ ap (λ
        (z : Member). z.token) y.2
        in
        x.2 ∙ ap method_of_export (one-token (length xs) [] xs x.0 y.0 g x.1 y.1 tokens) ∙ sym y.2

    each : (k : ℕ) → k < length ms → with_token k (map method_of_export ns) ≡ with_token k (map method_of_export ms)
    each k l =
        let m = each-token ms e k l in
        let here = has-map method_of_export ms m.0 m.1 in
        let there = kept (method_of_export m.0) here in
        with_token-one k (map method_of_export ns) (method_of_export m.0) there m.2
        (λ n i t. alone ns f n (method_of_export m.0) i there (t ∙ sym m.2))
        ∙ sym (with_token-one k (map method_of_export ms) (method_of_export m.0) here m.2
        (λ n i t. alone ms e n (method_of_export m.0) i here (t ∙ sym m.2)))
