-- Broken rules and their places.
use Rattle.cjc_bytes.proofs.Lists.{none_left, none_right}
use Rattle.cjc_bytes.specs.Breaks.{Among, Break, IsFirstOf, RulePlace, after, at, broken_at, each_from, foremost}
use Rattle.std.proofs.Common.{Bool, List, None, Option, Some, [], ap, arith, false, refl, slice_get, subst, suc, sym}
use Rattle.std.proofs.Common.{true, zero, ℕ, ◌++◌, ◌+◌, ◌∙◌, ◌∷◌, ◌≡◌}
use Rattle.std.specs.Prelude.{IfNone, option_map}

pub among_left : (b : Break) (xs ys : List Break) → Among b xs → Among b (xs ++ ys)
among_left b [] ys i = elim i [ ]
among_left b (x ∷ xs) ys foremost = foremost
among_left b (x ∷ xs) ys (after i) = after (among_left b xs ys i)

pub among_right : (b : Break) (xs ys : List Break) → Among b ys → Among b (xs ++ ys)
among_right b [] ys i = i
among_right b (x ∷ xs) ys i = after (among_right b xs ys i)

pub not_broken : (b : Bool) (s : RulePlace) (rule : ℕ) → at b s rule ≡ [] → b ≡ false
not_broken true s rule e = cc
not_broken false s rule e = refl

pub none_among : {P : Type 0} (b : Break) → Among b [] → P
none_among b among = elim among [ ]

pub in_at : (test : Bool) (s : RulePlace) (rule : ℕ) (b : Break) → Among b (at test s rule) → b ≡ broken_at s rule
in_at true s rule b foremost = refl
in_at true s rule b (after more) = none_among b more
in_at false s rule b among = none_among b among

pub empty_both : (xs ys : List Break) → xs ++ ys ≡ [] → (xs ≡ []) × (ys ≡ [])
empty_both [] ys e = (refl, e)
empty_both (x ∷ xs) ys e = absurd cc

pub break_kept : {X : Type 0} (f : X → Break) (o : Option X) (bs : List Break) (P : Type 0) → bs ≡ []
    → IsFirstOf bs (option_map f o) → IfNone o P → P
break_kept f None bs P e first p = p
break_kept f (Some x) bs P e first p = none_among (f x) (subst (Among (f x)) e first.among)

pub no_among : (b : Break) → Among b [] → ⊥
no_among b i = elim i [ ]

pub break_each_none : {A : Type 0} (breaks : ℕ → A → List Break) (n k : ℕ) (xs : List A) (x : A) → each_from breaks n xs
    ≡ []
    → slice_get xs k ≡ Some x → breaks (n + k) x ≡ []
unfolding each_from
break_each_none breaks n k [] x e is = cc
break_each_none breaks n zero (y ∷ xs) x e is =
    let same : y ≡ x = cc in
    let here : breaks n y ≡ [] = none_left (breaks n y) (each_from breaks (n + 1) xs) e in
    let place : n + 0 ≡ n = omega arith in
    ap (λ m. breaks m x) place ∙ ap (breaks n) (sym same) ∙ here
break_each_none breaks n (suc k) (y ∷ xs) x e is =
    let rest = break_each_none breaks (n + 1) k xs x (none_right (breaks n y) (each_from breaks (n + 1) xs) e) is in
    let place : n + suc k ≡ n + 1 + k = omega arith in
    ap (λ m. breaks m x) place ∙ rest

pub each_at : {A : Type 0} (breaks : ℕ → A → List Break) (k : ℕ) (xs : List A) (x : A) → each_from breaks 0 xs ≡ []
    → slice_get xs k ≡ Some x → breaks k x ≡ []
each_at breaks k xs x e is = let place : k ≡ 0 + k = omega arith in ap (λ m. breaks m x) place
    ∙ break_each_none breaks 0 k xs x e is

pub no_breaks : (bs : List Break) → ((b : Break) → Among b bs → ⊥) → bs ≡ []
no_breaks [] h = refl
no_breaks (b ∷ bs) h = absurd (h b foremost)
