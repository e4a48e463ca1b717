-- Methods of an export file's interface: each can stand behind those before it where each fits, has a token below their
-- number, and no two have one token.
use Rattle.std.proofs.Common.{◌≡◌, ℕ, zero, suc, ◌+◌, ◌<◌, ◌≤◌, refl, sym, ap, subst, ◌∙◌, arith, Bool, true, false}
use Rattle.std.proofs.Common.{List, [], ◌∷◌, ◌++◌, length, map, ⊎_elim, Option, Some, None}
use Rattle.std.specs.Prelude.{not, ◌&&◌, ◌==◌, nat_lt, slice_get, if◌then◌else◌}
use Rattle.std.proofs.lemmas.Bool.{eqb-false, eqb-true}
use Rattle.std.proofs.lemmas.Bool.Decides.{nat_tests}
use Rattle.std.proofs.lemmas.List.{length-map}
use Rattle.cjc_components.specs.ExportFile.{declares, is_listed, method_entry, method_meant, methods_from, super_at}
use Rattle.cjc_components.specs.ExportFile.{super_entry, supers_from}
use Rattle.cjc_components.specs.Names.{member_token}
use Rattle.cjc_components.specs.Package.{Package}
use Rattle.cjc_world.specs.ExportFile.Members.{interface_token, interface_token_taken, not_special}
use Rattle.cjc_world.specs.ExportFile.Writable.{EachAfter, MethodFits, MethodStands}
use Rattle.cjc_world.specs.ExportFile.declared.tree.ExportMethod.{ExportMethod}
use Rattle.cjc_tokens.specs.Members.{Signature}
use Rattle.cjc_vtable.proofs.Filed.{Has, at_front, behind, has-either}
use Rattle.cjc_world.specs.Classes.{Class, Member}
use Rattle.cjc_world.specs.Lookup.{member_at}
use Rattle.cjc_world.specs.declared.found.Found.{Found}
use Rattle.cjc_shape_proof.proofs.WrittenLaws.FittingLaws.Lists.{Apart, sum_within}
use Rattle.cjc_shape_proof.proofs.WrittenLaws.FittingLaws.Order.{has_cons, has_none, ones}
use Rattle.cjc_shape_proof.proofs.WrittenLaws.FittingLaws.Standing.{listed_in, none_any}
use Rattle.cjc_bytes.proofs.Numbers.{other_number as other}
use Rattle.cjc_check_proof.proofs.TokenProofFiled.{has-front}
use Rattle.cjc_check_proof.proofs.ClassesLaws.Lists.{has-back}

-- ---- no two of one token

-- no two have one token
unfoldable pub Differ : List ExportMethod → Type 0
Differ [] = Unit {0}
Differ (x ∷ xs) = ((y : ExportMethod) → Has y xs → x.token ≡ y.token → ⊥) × Differ xs

pub differ_append : (xs ys : List ExportMethod) → Differ xs → Differ ys → ((x y : ExportMethod) → Has x xs → Has y ys
    → x.token ≡ y.token → ⊥) → Differ (xs ++ ys)
unfolding Differ
differ_append [] ys a b apart = b
differ_append (x ∷ xs) ys a b apart = (
  λ y h. ⊎_elim (λ g. a.0 y g) (λ g. apart x y at_front g) (has-either y xs ys h),
  differ_append xs ys a.1 b (λ z y h g. apart z y (behind h) g),
)

-- by itself it can stand among so many
pub record IsMet (n : ℕ) (x : ExportMethod) : Type 0 where
  pub fits : MethodFits x
  pub low : x.token < n
  pub plain : not_special x.name ≡ Some x.name

pub stand : (n : ℕ) (before xs : List ExportMethod) → ((m x : ExportMethod) → Has m before → Has x xs
    → m.token ≡ x.token → ⊥) → Differ xs → ((x : ExportMethod) → Has x xs → IsMet n x)
    → EachAfter (MethodStands true n) before xs
unfolding Differ
stand n before [] apart differ met = tt
stand n before (x ∷ xs) apart differ met = (
  (here.fits, free, here.plain),
  stand n (before ++ x ∷ []) xs more differ.1
      (λ y h. met y (behind h)),
)
  where
    here : IsMet n x
    here = met x at_front

    more : (m y : ExportMethod) → Has m (before ++ x ∷ []) → Has y xs → m.token ≡ y.token → ⊥
    more m y h g = ⊎_elim
        (λ i. apart m y i (behind g))
        (λ i. ⊎_elim (λ (same : m ≡ x). λ (e : m.token ≡ y.token). differ.0 y g
        (sym (ap (λ (z : ExportMethod). z.token) same) ∙ e)) (λ j. has_none m j) (has_cons m x [] i))
        (has-either m before (x ∷ []) h)

    none : interface_token_taken before x.token ≡ false
    none = none_any (λ m. m.token == x.token) before (λ m h. other m.token x.token (apart m x h at_front))

    below : nat_lt x.token n ≡ true
    below = let lt = here.low in grind (arith, nat_tests)

    free : interface_token n before x.token ≡ Some x.token
    free = by (nat_lt x.token n) (interface_token_taken before x.token) below none
      where
        by : (a b : Bool) → a ≡ true → b ≡ false → (if (a && not b) then Some x.token else None) ≡ Some x.token
        by true false e f = refl
        by true true e f = cc
        by false b e f = cc

-- ---- how many

-- so many numbers from one on
upto : (from count : ℕ) → List ℕ
upto from zero = []
upto from (suc count) = from ∷ upto (from + 1) count

upto_long : (from count : ℕ) → length (upto from count) ≡ count
unfolding upto
upto_long from zero = refl
upto_long from (suc count) = ap suc (upto_long (from + 1) count)

upto_has : (from count i : ℕ) → Has i (upto from count) → (from ≤ i) × (i < from + count)
unfolding upto
upto_has from zero i h = has_none i h
upto_has from (suc count) i h = ⊎_elim
    (λ is. (omega (arith, is), omega (arith, is)))
    (λ g. let r = upto_has (from + 1) count i g in let a = r.0 in let b = r.1 in (omega (arith, a), omega (arith, b)))
    (has_cons i from (upto (from + 1) count) h)

has_upto : (from count i : ℕ) → from ≤ i → i < from + count → Has i (upto from count)
unfolding upto
has_upto from zero i le lt = absurd (omega (arith, le, lt))
has_upto from (suc count) i le lt = by (from == i) refl (λ more. has_upto (from + 1) count i more (omega (arith, lt)))
  where
    by : (b : Bool) → (from == i) ≡ b → (from + 1 ≤ i → Has i (upto (from + 1) count))
        → Has i (from ∷ upto (from + 1) count)
    by true e rest = subst (λ k. Has i (k ∷ upto (from + 1) count)) (sym (eqb-true from i e)) at_front
    by false e rest = let ne = eqb-false from i e in behind (rest (omega (arith, le, ne)))

upto_apart : (from count : ℕ) → Apart (upto from count)
unfolding Apart upto
upto_apart from zero = tt
upto_apart from (suc count) = (
  λ h. (let r = upto_has (from + 1) count from h in let a = r.0 in omega (arith, a)),
  upto_apart (from + 1) count,
)

tokens : List ExportMethod → List ℕ
tokens xs = map (λ x. x.token) xs

token_has : (xs : List ExportMethod) (i : ℕ) → Has i (tokens xs) → (x : ExportMethod) × Has x xs × (x.token ≡ i)
unfolding tokens
token_has [] i h = has_none i h
token_has (x ∷ xs) i h = ⊎_elim (λ is. (x, at_front, sym is)) (λ g. let r = token_has xs i g in (r.0, behind r.1, r.2))
    (has_cons i x.token (tokens xs) h)

has_token : (xs : List ExportMethod) (x : ExportMethod) → Has x xs → Has x.token (tokens xs)
unfolding tokens
has_token [] x h = has_none x h
has_token (x ∷ xs) y h = ⊎_elim (λ (is : y ≡ x). subst (λ (z : ExportMethod). Has y.token (z.token ∷ tokens xs)) is
    at_front) (λ g. behind (has_token xs y g)) (has_cons y x xs h)

tokens_apart : (xs : List ExportMethod) → Differ xs → Apart (tokens xs)
unfolding Apart Differ tokens
tokens_apart [] differ = tt
tokens_apart (x ∷ xs) differ = (
  λ h. (let r = token_has xs x.token h in differ.0 r.0 r.1 (sym r.2)),
  tokens_apart xs differ.1,
)

counted : (xs ys : List ℕ) → Apart xs → ((i : ℕ) → Has i xs → Has i ys) → length xs ≤ length ys
counted xs ys apart has =
    let within = sum_within (λ (i : ℕ). 1) xs ys apart has in
    let a = ones xs in
    let b = ones ys in
    omega (arith, within, a, b)

-- where each of so many tokens is that of one, there are so many
pub as_many : (n : ℕ) (xs : List ExportMethod) → Differ xs → ((x : ExportMethod) → Has x xs → x.token < n)
    → ((i : ℕ) → i < n → (x : ExportMethod) × Has x xs × (x.token ≡ i)) → length xs ≡ n
unfolding tokens
as_many n xs differ low there =
    let long = length-map xs (λ (x : ExportMethod). x.token) in
    let all = upto_long 0 n in
    let most = counted (tokens xs) (upto 0 n) (tokens_apart xs differ) (λ i h. let r = token_has xs i h
    in let lt = low r.0 r.1 in let is = r.2 in has_upto 0 n i (omega arith) (omega (arith, lt, is))) in
    let least = counted (upto 0 n) (tokens xs) (upto_apart 0 n) (λ i h. let r = upto_has 0 n i h in let lt = r.1
    in let x = there i (omega (arith, lt)) in subst (λ k. Has k (tokens xs)) x.2 (has_token xs x.0 x.1)) in
    omega (arith, long, all, most, least)

-- ---- its own methods

pub listed_differ : (p : Package) (c : Class) (i : ℕ) (ms : List Member)
    → ((j k : ℕ) (m x : Member) → j < k → slice_get ms j ≡ Some m → slice_get ms k ≡ Some x → is_listed c m ≡ true
    → is_listed c x ≡ true
    → member_token p (Some (member_at c (i + j))) ≡ member_token p (Some (member_at c (i + k))) → ⊥)
    → Differ (methods_from p c i ms)
unfolding Differ
listed_differ p c i [] apart = tt
listed_differ p c i (m ∷ ms) apart = by (is_listed c m) refl (listed_differ p c (i + 1) ms (λ j k x y lt e f g h same.
    moved j k x y lt e f g h same))
  where
    token : ℕ → ℕ
    token k = member_token p (Some (member_at c k))

    moved : (j k : ℕ) (x y : Member) → j < k → slice_get ms j ≡ Some x → slice_get ms k ≡ Some y → is_listed c x ≡ true
        → is_listed c y ≡ true → token (i + 1 + j) ≡ token (i + 1 + k) → ⊥
    moved j k x y lt e f g h same =
        let a : i + 1 + j ≡ i + suc j = omega arith in
        let b : i + 1 + k ≡ i + suc k = omega arith in
        let more : suc j < suc k = omega (arith, lt) in
        apart (suc j) (suc k) x y more e f g h (ap token (sym a) ∙ same ∙ ap token b)

    by : (b : Bool) → is_listed c m ≡ b → Differ (methods_from p c (i + 1) ms)
        → Differ ((if b then method_entry (token i) m ∷ [] else []) ++ methods_from p c (i + 1) ms)
    by false e rest = rest
    by true e rest = (first, rest)
      where
        first : (y : ExportMethod) → Has y (methods_from p c (i + 1) ms) → token i ≡ y.token → ⊥
        first y h same =
            let r = listed_in p c (i + 1) ms y h in
            let a : i + 0 ≡ i = omega arith in
            let b : i + 1 + r.place ≡ i + suc r.place = omega arith in
            let z : 0 < suc r.place = omega arith in
            apart 0 (suc r.place) m r.member z refl r.there e r.listed (ap token a ∙ same
            ∙ sym (ap (λ (x : ExportMethod). x.token) r.is) ∙ ap token b)

pub listed_has : (p : Package) (c : Class) (i : ℕ) (ms : List Member) (k : ℕ) (m : Member) → slice_get ms k ≡ Some m
    → is_listed c m ≡ true → Has (method_entry (member_token p (Some (member_at c (i + k)))) m) (methods_from p c i ms)
listed_has p c i [] k m e l = cc
listed_has p c i (x ∷ ms) zero m e l =
    let is : x ≡ m = cc in
    let z : i + 0 ≡ i = omega arith in
    let entry : ExportMethod = method_entry (member_token p (Some (member_at c (i + 0)))) m in
    let one : method_entry (member_token p (Some (member_at c i))) x ≡ entry =
    ap (λ (y : Member). method_entry (member_token p (Some (member_at c i))) y) is
    ∙ ap (λ k. method_entry (member_token p (Some (member_at c k))) m) (sym z) in
    let shown : is_listed c x ≡ true = ap (is_listed c) is ∙ l in
    subst (λ b. Has entry ((if b then method_entry (member_token p (Some (member_at c i))) x ∷ [] else [])
    ++ methods_from p c (i + 1) ms)) (sym shown) (subst (λ (y : ExportMethod). Has entry (y
    ∷ methods_from p c (i + 1) ms)) (sym one) at_front)
listed_has p c i (x ∷ ms) (suc k) m e l =
    let s : i + 1 + k ≡ i + suc k = omega arith in
    let entry : ℕ → ExportMethod = λ j. method_entry (member_token p (Some (member_at c j))) m in
    has-back (entry (i + suc k)) (if is_listed c x then method_entry (member_token p (Some (member_at c i))) x ∷ []
    else []) (methods_from p c (i + 1) ms)
    (subst (λ j. Has (entry j) (methods_from p c (i + 1) ms)) s (listed_has p c (i + 1) ms k m e l))

-- ---- methods of superinterfaces

pub record IsSuperAt (w : List Class) (c : Class) (t : ℕ) (ss : List Signature) (row : List (Option Found))
    (e : ExportMethod) : Type 0 where
  pub place : ℕ
  pub signature : Signature
  pub found : Found
  pub wanted : slice_get ss place ≡ Some signature
  pub there : slice_get row place ≡ Some (Some found)
  pub other : declares c signature ≡ false
  pub member : Member
  pub meant : method_meant w found ≡ Some member
  pub is : method_entry (t + place) member ≡ e

pub supers_in : (w : List Class) (c : Class) (t : ℕ) (ss : List Signature) (row : List (Option Found))
    (e : ExportMethod) → Has e (supers_from w c t ss row) → IsSuperAt w c t ss row e
supers_in w c t [] row e h = has_none e h
supers_in w c t (s ∷ ss) [] e h = has_none e h
supers_in w c t (s ∷ ss) (f ∷ row) e h = ⊎_elim (λ g. here f refl g) (λ g. next (supers_in w c (t + 1) ss row e g))
    (has-either e (super_at w c t s f) (supers_from w c (t + 1) ss row) h)
  where
    next : IsSuperAt w c (t + 1) ss row e → IsSuperAt w c t (s ∷ ss) (f ∷ row) e
    next r =
        let at : t + 1 + r.place ≡ t + suc r.place = omega arith in
        record {
          place = suc r.place;
          signature = r.signature;
          found = r.found;
          wanted = r.wanted;
          there = r.there;
          other = r.other;
          member = r.member;
          meant = r.meant;
          is = ap (λ k. method_entry k r.member) (sym at)
              ∙ r.is;
        }

    here : (o : Option Found) → f ≡ o → Has e (super_at w c t s o) → IsSuperAt w c t (s ∷ ss) (f ∷ row) e
    here None same g = has_none e g
    here (Some x) same g = by (declares c s) refl (method_meant w x) refl g
      where
        by : (b : Bool) → declares c s ≡ b → (m : Option Member) → method_meant w x ≡ m
            → Has e (if b then [] else super_entry t m) → IsSuperAt w c t (s ∷ ss) (f ∷ row) e
        by true own m meant i = has_none e i
        by false own None meant i = has_none e i
        by false own (Some m) meant i = ⊎_elim
            (λ k. let at : t + 0 ≡ t = omega arith in record {
              place = 0;
              signature = s;
              found = x;
              wanted = refl;
              there = ap (λ (q : Option Found). Some q) same;
              other = own;
              member = m;
              meant = meant;
              is = ap (λ q. method_entry q m) at ∙ sym k;
            })
            (λ k. has_none e k)
            (has_cons e (method_entry t m) [] i)

pub supers_has : (w : List Class) (c : Class) (t : ℕ) (ss : List Signature) (row : List (Option Found)) (i : ℕ)
    (s : Signature) (f : Found) (m : Member) → slice_get ss i ≡ Some s → slice_get row i ≡ Some (Some f)
    → declares c s ≡ false → method_meant w f ≡ Some m
    → Has (method_entry (t + i) m) (supers_from w c t ss row)
supers_has w c t [] row i s f m a b d e = cc
supers_has w c t (x ∷ ss) [] i s f m a b d e = cc
supers_has w c t (x ∷ ss) (g ∷ row) zero s f m a b d e =
    let one : x ≡ s = cc in
    let two : g ≡ Some f = cc in
    let z : t + 0 ≡ t = omega arith in
    let entry : ExportMethod = method_entry (t + 0) m in
    let is : super_at w c t x g ≡ entry ∷ [] =
    ap (super_at w c t x) two ∙ ap (λ (q : Signature). super_at w c t q (Some f)) one ∙ ap (λ q. if q then []
    else super_entry t (method_meant w f)) d ∙ ap (super_entry t) e ∙ ap (λ k. method_entry k m ∷ []) (sym z) in
    has-front entry (super_at w c t x g) (supers_from w c (t + 1) ss row) (subst (λ (ys : List ExportMethod). Has entry
    ys) (sym is) at_front)
supers_has w c t (x ∷ ss) (g ∷ row) (suc i) s f m a b d e =
    let z : t + 1 + i ≡ t + suc i = omega arith in
    has-back (method_entry (t + suc i) m) (super_at w c t x g) (supers_from w c (t + 1) ss row)
    (subst (λ k. Has (method_entry k m) (supers_from w c (t + 1) ss row)) z (supers_has w c (t + 1) ss row i s f m a b d
    e))

pub supers_differ : (w : List Class) (c : Class) (t : ℕ) (ss : List Signature) (row : List (Option Found))
    → Differ (supers_from w c t ss row)
unfolding Differ
supers_differ w c t [] row = tt
supers_differ w c t (s ∷ ss) [] = tt
supers_differ w c t (s ∷ ss) (f ∷ row) = differ_append (super_at w c t s f) (supers_from w c (t + 1) ss row)
    (one (super_at w c t s f) few) (supers_differ w c (t + 1) ss row) across
  where
    -- a token has one method at most
    IsOne : List ExportMethod → Type 0
    IsOne [] = Unit {0}
    IsOne (x ∷ xs) = (x.token ≡ t) × (xs ≡ [])

    few : IsOne (super_at w c t s f)
    few = by f
      where
        by : (o : Option Found) → IsOne (super_at w c t s o)
        by None = tt
        by (Some g) = on (declares c s) (method_meant w g)
          where
            on : (b : Bool) (m : Option Member) → IsOne (if b then [] else super_entry t m)
            on true m = tt
            on false None = tt
            on false (Some m) = (refl, refl)

    one : (xs : List ExportMethod) → IsOne xs → Differ xs
    one [] h = tt
    one (x ∷ xs) h = (λ y g. has_none y (subst (λ zs. Has y zs) h.1 g), subst Differ (sym h.1) tt)

    its_token : (xs : List ExportMethod) (x : ExportMethod) → IsOne xs → Has x xs → x.token ≡ t
    its_token [] x h g = has_none x g
    its_token (z ∷ zs) x h g = ⊎_elim (λ same. ap (λ (y : ExportMethod). y.token) same
        ∙ h.0) (λ i. has_none x (subst (λ ys. Has x ys) h.1 i)) (has_cons x z zs g)

    across : (x y : ExportMethod) → Has x (super_at w c t s f) → Has y (supers_from w c (t + 1) ss row)
        → x.token ≡ y.token → ⊥
    across x y h g same =
        let r = supers_in w c (t + 1) ss row y g in
        let at = its_token (super_at w c t s f) x few h in
        let there : t + 1 + r.place ≡ y.token = ap (λ (z : ExportMethod). z.token) r.is in
        omega (arith, same, at, there)
