-- Methods of an export file's class: each can stand behind those before it where each fits and no two have one token of
-- a kind.
use Rattle.std.proofs.Common.{◌≡◌, ℕ, suc, ◌+◌, ◌<◌, ◌≤◌, refl, sym, ap, subst, ◌∙◌, arith, Bool, true, false, List, []}
use Rattle.std.proofs.Common.{◌∷◌, ◌++◌, ⊎_elim, Option, Some, None}
use Rattle.std.specs.Prelude.{not, ◌&&◌, ◌||◌, ◌==◌, nat_lt, option_and_then, slice_get, if◌then◌else◌}
use Rattle.std.specs.List.{list_any}
use Rattle.std.proofs.lemmas.Bool.Decides.{nat_tests}
use Rattle.cjc_components.specs.Descriptor.{as_added}
use Rattle.cjc_components.specs.ExportFile.{added_from, exposed_entry, inherited_at, inherited_from, is_listed}
use Rattle.cjc_components.specs.ExportFile.{method_entry, method_meant, methods_from}
use Rattle.cjc_components.specs.Names.{member_token}
use Rattle.cjc_components.specs.Package.{Package}
use Rattle.cjc_world.specs.ExportFile.Members.{is_unbound, method_token_wrong, same_bool}
use Rattle.cjc_world.specs.ExportFile.Writable.{EachAfter, MethodFits, MethodStands}
use Rattle.cjc_world.specs.ExportFile.declared.tree.ExportMethod.{ExportMethod}
use Rattle.cjc_tokens.specs.Members.{is_exposed}
use Rattle.cjc_vtable.proofs.Filed.{Has, at_front, behind, has-either}
use Rattle.cjc_vtable.specs.Tables.{is_own}
use Rattle.cjc_world.specs.Classes.{Class, Member}
use Rattle.cjc_world.specs.Lookup.{member_at}
use Rattle.cjc_world.specs.declared.found.Found.{Found}
use Rattle.cjc_shape_proof.proofs.WrittenLaws.FittingLaws.Order.{has_cons, has_none}

-- an earlier one has the token of a later one, of the same kind
abbrev pub clashes : ExportMethod → ExportMethod → Bool
clashes m x = (m.token == x.token) && same_bool (is_unbound x.flags x.name) (is_unbound m.flags m.name)

-- by itself it can stand
pub record IsGood (x : ExportMethod) : Type 0 where
  pub fits : MethodFits x
  pub low : is_unbound x.flags x.name ≡ false → x.token ≤ 127

-- no two have one token
unfoldable pub Alone : List ExportMethod → Type 0
Alone [] = Unit {0}
Alone (x ∷ xs) = ((y : ExportMethod) → Has y xs → clashes x y ≡ false) × Alone xs

pub alone_append : (xs ys : List ExportMethod) → Alone xs → Alone ys → ((x y : ExportMethod) → Has x xs → Has y ys
    → clashes x y ≡ false) → Alone (xs ++ ys)
unfolding Alone
alone_append [] ys a b apart = b
alone_append (x ∷ xs) ys a b apart = (
  λ y h. ⊎_elim (λ g. a.0 y g) (λ g. apart x y at_front g) (has-either y xs ys h),
  alone_append xs ys a.1 b (λ z y h g. apart z y (behind h) g),
)

pub none_any : {A : Type 0} (test : A → Bool) (xs : List A) → ((y : A) → Has y xs → test y ≡ false)
    → list_any test xs ≡ false
none_any test [] none = refl
none_any test (x ∷ xs) none = both (test x) (list_any test xs) (none x at_front)
    (none_any test xs (λ y h. none y (behind h)))
  where
    both : (a b : Bool) → a ≡ false → b ≡ false → (a || b) ≡ false
    both true b e f = cc
    both false b e f = f

pub stand : (n : ℕ) (before xs : List ExportMethod) → ((m x : ExportMethod) → Has m before → Has x xs
    → clashes m x ≡ false) → Alone xs → ((x : ExportMethod) → Has x xs → IsGood x)
    → EachAfter (MethodStands false n) before xs
unfolding Alone
stand n before [] apart alone good = tt
stand n before (x ∷ xs) apart alone good = (
  (here.fits, right (is_unbound x.flags x.name) refl),
  stand n (before
      ++ x ∷ []) xs more alone.1 (λ y h. good y (behind h)),
)
  where
    here : IsGood x
    here = good x at_front

    more : (m y : ExportMethod) → Has m (before ++ x ∷ []) → Has y xs → clashes m y ≡ false
    more m y h g = ⊎_elim
        (λ i. apart m y i (behind g))
        (λ i. ⊎_elim (λ (same : m ≡ x). subst (λ (z : ExportMethod). clashes z y ≡ false) (sym same) (alone.0 y g))
        (λ j. has_none m j) (has_cons m x [] i))
        (has-either m before (x ∷ []) h)

    none : list_any (λ m. clashes m x) before ≡ false
    none = none_any (λ m. clashes m x) before (λ m h. apart m x h at_front)

    high : (b : Bool) → (b ≡ false → x.token ≤ 127) → (not b && nat_lt 127 x.token) ≡ false
    high true low = refl
    high false low = let le = low refl in let z : nat_lt 127 x.token ≡ false = grind (arith, nat_tests) in z

    right : (b : Bool) → is_unbound x.flags x.name ≡ b → method_token_wrong before (is_unbound x.flags x.name) x.token
        ≡ false
    right b e = ap (λ t. t || (not (is_unbound x.flags x.name) && nat_lt 127 x.token)) none
        ∙ high (is_unbound x.flags x.name) here.low

-- ---- tokens that are apart

pub apart_numbers : (m n : ℕ) (b : Bool) → (m ≡ n → ⊥) → ((m == n) && b) ≡ false
apart_numbers m n b other = by (m == n) refl
  where
    by : (t : Bool) → (m == n) ≡ t → (t && b) ≡ false
    by true e = absurd (other (grind (arith, nat_tests)))
    by false e = refl

-- ---- its own methods

-- an entry is that of a method at a place
pub record IsListedAt (p : Package) (c : Class) (i : ℕ) (ms : List Member) (e : ExportMethod) : Type 0 where
  pub place : ℕ
  pub member : Member
  pub there : slice_get ms place ≡ Some member
  pub listed : is_listed c member ≡ true
  pub is : method_entry (member_token p (Some (member_at c (i + place)))) member ≡ e

pub listed_in : (p : Package) (c : Class) (i : ℕ) (ms : List Member) (e : ExportMethod) → Has e (methods_from p c i ms)
    → IsListedAt p c i ms e
listed_in p c i [] e h = has_none e h
listed_in p c i (m ∷ ms) e h = by (is_listed c m) refl h (listed_in p c (i + 1) ms e)
  where
    next : IsListedAt p c (i + 1) ms e → IsListedAt p c i (m ∷ ms) e
    next r =
        let at : i + 1 + r.place ≡ i + suc r.place = omega arith in
        record {
          place = suc r.place;
          member = r.member;
          there = r.there;
          listed = r.listed;
          is = ap (λ k. method_entry (member_token p (Some (member_at c k))) r.member) (sym at) ∙ r.is;
        }

    by : (b : Bool) → is_listed c m ≡ b → Has e ((if b then method_entry (member_token p (Some (member_at c i))) m ∷ []
        else []) ++ methods_from p c (i + 1) ms) → (Has e (methods_from p c (i + 1) ms) → IsListedAt p c (i + 1) ms e)
        → IsListedAt p c i (m ∷ ms) e
    by true f g rest = ⊎_elim
        (λ same. let at : i + 0 ≡ i = omega arith in record {
          place = 0;
          member = m;
          there = refl;
          listed = f;
          is = ap (λ k. method_entry (member_token p (Some (member_at c k))) m) at ∙ sym same;
        })
        (λ j. next (rest j))
        (has_cons e (method_entry (member_token p (Some (member_at c i))) m) (methods_from p c (i + 1) ms) g)
    by false f g rest = next (rest g)

pub listed_alone : (p : Package) (c : Class) (i : ℕ) (ms : List Member)
    → ((j k : ℕ) (m x : Member) → j < k → slice_get ms j ≡ Some m → slice_get ms k ≡ Some x → is_listed c m ≡ true
    → is_listed c x ≡ true
    → clashes (method_entry (member_token p (Some (member_at c (i + j)))) m)
    (method_entry (member_token p (Some (member_at c (i + k)))) x) ≡ false)
    → Alone (methods_from p c i ms)
unfolding Alone
listed_alone p c i [] apart = tt
listed_alone p c i (m ∷ ms) apart = by (is_listed c m) refl (listed_alone p c (i + 1) ms (λ j k x y lt e f g h. moved j
    k x y (apart (suc j) (suc k) x y (omega (arith, lt)) e f g h)))
  where
    entry : ℕ → Member → ExportMethod
    entry k x = method_entry (member_token p (Some (member_at c k))) x

    moved : (j k : ℕ) (x y : Member) → clashes (entry (i + suc j) x) (entry (i + suc k) y) ≡ false
        → clashes (entry (i + 1 + j) x) (entry (i + 1 + k) y) ≡ false
    moved j k x y e =
        let a : i + 1 + j ≡ i + suc j = omega arith in
        let b : i + 1 + k ≡ i + suc k = omega arith in
        ap (λ n. clashes (entry n x) (entry (i + 1 + k) y)) a ∙ ap (λ n. clashes (entry (i + suc j) x) (entry n y)) b
        ∙ e

    by : (b : Bool) → is_listed c m ≡ b → Alone (methods_from p c (i + 1) ms)
        → Alone ((if b then method_entry (member_token p (Some (member_at c i))) m ∷ [] else [])
        ++ methods_from p c (i + 1) ms)
    by false e rest = rest
    by true e rest = (first, rest)
      where
        first : (y : ExportMethod) → Has y (methods_from p c (i + 1) ms) → clashes (entry i m) y ≡ false
        first y h =
            let r = listed_in p c (i + 1) ms y h in
            let a : i ≡ i + 0 = omega arith in
            let b : i + 1 + r.place ≡ i + suc r.place = omega arith in
            let z : 0 < suc r.place = omega arith in
            ap (λ (x : ExportMethod). clashes (entry i m) x) (sym r.is)
            ∙ ap (λ n. clashes (entry n m) (entry (i + 1 + r.place) r.member)) a
            ∙ ap (λ n. clashes (entry (i + 0) m) (entry n r.member)) b
            ∙ apart 0 (suc r.place) m r.member z refl r.there e r.listed

-- ---- added methods

pub record IsAddedAt (p : Package) (c : Class) (i : ℕ) (ms : List Member) (e : ExportMethod) : Type 0 where
  pub place : ℕ
  pub member : Member
  pub there : slice_get ms place ≡ Some member
  pub is : method_entry (member_token p (Some (member_at c (i + place)))) (as_added member) ≡ e

pub added_in : (p : Package) (c : Class) (i : ℕ) (ms : List Member) (e : ExportMethod) → Has e (added_from p c i ms)
    → IsAddedAt p c i ms e
added_in p c i [] e h = has_none e h
added_in p c i (m ∷ ms) e h = ⊎_elim
    (λ same. let at : i + 0 ≡ i = omega arith in record {
      place = 0;
      member = m;
      there = refl;
      is = ap (λ k. method_entry (member_token p (Some (member_at c k))) (as_added m)) at ∙ sym same;
    })
    (λ g. next (added_in p c (i + 1) ms e g))
    (has_cons e (method_entry (member_token p (Some (member_at c i))) (as_added m)) (added_from p c (i + 1) ms) h)
  where
    next : IsAddedAt p c (i + 1) ms e → IsAddedAt p c i (m ∷ ms) e
    next r =
        let at : i + 1 + r.place ≡ i + suc r.place = omega arith in
        record {
          place = suc r.place;
          member = r.member;
          there = r.there;
          is = ap (λ k. method_entry (member_token p (Some (member_at c k))) (as_added r.member)) (sym at) ∙ r.is;
        }

pub added_alone : (p : Package) (c : Class) (i : ℕ) (ms : List Member)
    → ((j k : ℕ) (m x : Member) → j < k → slice_get ms j ≡ Some m → slice_get ms k ≡ Some x
    → member_token p (Some (member_at c (i + j))) ≡ member_token p (Some (member_at c (i + k))) → ⊥)
    → Alone (added_from p c i ms)
unfolding Alone
added_alone p c i [] apart = tt
added_alone p c i (m ∷ ms) apart = (
  first,
  added_alone p c (i + 1) ms (λ j k x y lt e f same. moved j k x y lt e f
      same),
)
  where
    token : ℕ → ℕ
    token k = member_token p (Some (member_at c k))

    moved : (j k : ℕ) (x y : Member) → j < k → slice_get ms j ≡ Some x → slice_get ms k ≡ Some y
        → token (i + 1 + j) ≡ token (i + 1 + k) → ⊥
    moved j k x y lt e f same =
        let a : i + 1 + j ≡ i + suc j = omega arith in
        let b : i + 1 + k ≡ i + suc k = omega arith in
        let more : suc j < suc k = omega (arith, lt) in
        apart (suc j) (suc k) x y more e f (ap token (sym a) ∙ same ∙ ap token b)

    first : (y : ExportMethod) → Has y (added_from p c (i + 1) ms) → clashes (method_entry (token i) (as_added m)) y
        ≡ false
    first y h =
        let r = added_in p c (i + 1) ms y h in
        let a : i + 0 ≡ i = omega arith in
        let b : i + 1 + r.place ≡ i + suc r.place = omega arith in
        let z : 0 < suc r.place = omega arith in
        apart_numbers (token i) y.token (same_bool (is_unbound y.flags y.name) (is_unbound (let x = as_added m
        in x.flags) m.name))
        (λ same. apart 0 (suc r.place) m r.member z refl r.there (ap token a ∙ same
        ∙ sym (ap (λ (x : ExportMethod). x.token) r.is) ∙ ap token b))

-- ---- inherited methods

pub record IsInheritedAt (w : List Class) (c : Class) (t : ℕ) (row : List (Option Found)) (e : ExportMethod) :
    Type 0 where
  pub place : ℕ
  pub found : Found
  pub there : slice_get row place ≡ Some (Some found)
  pub other : is_own c.number (Some found) ≡ false
  pub member : Member
  pub meant : method_meant w found ≡ Some member
  pub exposed : is_exposed member.flags ≡ true
  pub is : method_entry (t + place) member ≡ e

pub inherited_in : (w : List Class) (c : Class) (t : ℕ) (row : List (Option Found)) (e : ExportMethod)
    → Has e (inherited_from w c t row) → IsInheritedAt w c t row e
inherited_in w c t [] e h = has_none e h
inherited_in w c t (f ∷ row) e h = ⊎_elim (λ g. here f refl (is_own c.number f) refl g)
    (λ g. next (inherited_in w c (t + 1) row e g)) (has-either e (inherited_at w c t f) (inherited_from w c (t + 1) row)
    h)
  where
    next : IsInheritedAt w c (t + 1) row e → IsInheritedAt w c t (f ∷ row) e
    next r =
        let at : t + 1 + r.place ≡ t + suc r.place = omega arith in
        record {
          place = suc r.place;
          found = r.found;
          there = r.there;
          other = r.other;
          member = r.member;
          meant = r.meant;
          exposed = r.exposed;
          is = ap (λ k. method_entry k r.member) (sym at) ∙ r.is;
        }

    here : (o : Option Found) → f ≡ o → (b : Bool) → is_own c.number o ≡ b
        → Has e (if b then [] else exposed_entry t (option_and_then (method_meant w) o))
        → IsInheritedAt w c t (f ∷ row) e
    here o same true own g = has_none e g
    here None same false own g = has_none e g
    here (Some x) same false own g = by (method_meant w x) refl g
      where
        by : (m : Option Member) → method_meant w x ≡ m → Has e (exposed_entry t m) → IsInheritedAt w c t (f ∷ row) e
        by None meant i = has_none e i
        by (Some m) meant i = on (is_exposed m.flags) refl i
          where
            on : (b : Bool) → is_exposed m.flags ≡ b → Has e (if b then method_entry t m ∷ [] else [])
                → IsInheritedAt w c t (f ∷ row) e
            on true exposed j = ⊎_elim
                (λ k. let at : t + 0 ≡ t = omega arith in record {
                  place = 0;
                  found = x;
                  there = ap (λ (q : Option Found). Some q) same;
                  other = own;
                  member = m;
                  meant = meant;
                  exposed =
                      exposed;
                  is = ap (λ q. method_entry q m) at ∙ sym k;
                })
                (λ k. has_none e k)
                (has_cons e (method_entry t m) [] j)
            on false exposed j = has_none e j

pub inherited_alone : (w : List Class) (c : Class) (t : ℕ) (row : List (Option Found))
    → Alone (inherited_from w c t row)
unfolding Alone
inherited_alone w c t [] = tt
inherited_alone w c t (f ∷ row) = alone_append (inherited_at w c t f) (inherited_from w c (t + 1) row)
    (one (inherited_at w c t f) few) (inherited_alone w c (t + 1) row) across
  where
    -- a token has one method at most
    IsOne : List ExportMethod → Type 0
    IsOne [] = Unit {0}
    IsOne (x ∷ xs) = (x.token ≡ t) × (xs ≡ [])

    few : IsOne (inherited_at w c t f)
    few = by (is_own c.number f) (option_and_then (method_meant w) f)
      where
        by : (b : Bool) (m : Option Member) → IsOne (if b then [] else exposed_entry t m)
        by true m = tt
        by false None = tt
        by false (Some m) = on (is_exposed m.flags)
          where
            on : (b : Bool) → IsOne (if b then method_entry t m ∷ [] else [])
            on true = (refl, refl)
            on false = tt

    one : (xs : List ExportMethod) → IsOne xs → Alone xs
    one [] h = tt
    one (x ∷ xs) h = (λ y g. has_none y (subst (λ zs. Has y zs) h.1 g), subst Alone (sym h.1) tt)

    its_token : (xs : List ExportMethod) (x : ExportMethod) → IsOne xs → Has x xs → x.token ≡ t
    its_token [] x h g = has_none x g
    its_token (z ∷ zs) x h g = ⊎_elim (λ same. ap (λ (y : ExportMethod). y.token) same
        ∙ h.0) (λ i. has_none x (subst (λ ys. Has x ys) h.1 i)) (has_cons x z zs g)

    across : (x y : ExportMethod) → Has x (inherited_at w c t f) → Has y (inherited_from w c (t + 1) row)
        → clashes x y ≡ false
    across x y h g =
        let r = inherited_in w c (t + 1) row y g in
        let at = its_token (inherited_at w c t f) x few h in
        let there : t + 1 + r.place ≡ y.token = ap (λ (z : ExportMethod). z.token) r.is in
        apart_numbers x.token y.token (same_bool (is_unbound y.flags y.name) (is_unbound x.flags x.name))
        (λ same. omega (arith, same, at, there))
