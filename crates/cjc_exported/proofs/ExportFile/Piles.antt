-- Lists that are put one behind the other while a walk goes over another list.
use Rattle.std.proofs.Common.{◌≡◌, Bool, true, false, refl, sym, ap, ◌∙◌, List, [], ◌∷◌}
use Rattle.std.proofs.Common.{◌++◌, append_assoc, append-nil, map}
use Rattle.std.specs.Prelude.{filter, if◌then◌else◌, ◌&&◌}

-- One step: what it puts stands behind the rest.
pub piled : {A : Type 0} (new out step rest total : List A) → new ≡ out ++ step → out ++ (step ++ rest) ≡ total
    → new ++ rest ≡ total
piled new out step rest total is e = ap (λ q. q ++ rest) is ∙ append_assoc out step rest ∙ e

-- all is put
pub piled-all : {A : Type 0} (out rest total : List A) → rest ≡ [] → out ++ rest ≡ total → out ≡ total
piled-all out rest total is e = sym (append-nil out) ∙ ap (λ q. out ++ q) (sym is) ∙ e

-- what one item leaves of a filter
pub filtered : {A : Type 0} (p : A → Bool) (x : A) (rest : List A) → filter p (x ∷ rest) ≡ (if p x then x ∷ [] else [])
    ++ filter p rest
filtered {A = A} p x rest = by (p x)
  where
    by : (b : Bool) → (if b then x ∷ filter p rest else filter p rest) ≡ (if b then x ∷ [] else []) ++ filter p rest
    by true = refl
    by false = refl

-- two filters are one
pub filtered-twice : {A : Type 0} (p q : A → Bool) (xs : List A) → filter q (filter p xs) ≡ filter (λ x. p x && q x) xs
filtered-twice p q [] = refl
filtered-twice {A = A} p q (x ∷ xs) = by (p x) (q x) refl (filtered-twice p q xs)
  where
    by : (a b : Bool) → q x ≡ b → filter q (filter p xs) ≡ filter (λ x. p x && q x) xs
        → filter q (if a then x ∷ filter p xs else filter p xs) ≡ (if a && b then x ∷ filter (λ x. p x && q x) xs
        else filter (λ x. p x && q x) xs)
    by true true e r = ap (λ d. if d then x ∷ filter q (filter p xs) else filter q (filter p xs)) e
        ∙ ap (λ ys. x ∷ ys) r
    by true false e r = ap (λ d. if d then x ∷ filter q (filter p xs) else filter q (filter p xs)) e ∙ r
    by false true e r = r
    by false false e r = r

-- three lists that are put one behind the other
pub piled-three : {A : Type 0} (m0 m1 m2 m3 a b more d : List A) → m0 ≡ [] → m1 ≡ m0 ++ a → m2 ≡ m1 ++ b → b ≡ more
    → m3 ≡ m2 ++ d → m3 ≡ a ++ (more ++ d)
piled-three m0 m1 m2 m3 a b more d none first second same third =
    third
    ∙ ap (λ q. q ++ d) (second ∙ ap (λ q. q ++ b) (first ∙ ap (λ q. q ++ a) none))
    ∙ append_assoc a b d
    ∙ ap (λ q. a ++ (q ++ d)) same

-- what one item puts that passes a test
pub mapped : {A B : Type 0} (p : A → Bool) (f : A → B) (x : A) (rest : List A) → map f (filter p (x ∷ rest)) ≡ (if p x
    then f x ∷ [] else []) ++ map f (filter p rest)
mapped {A = A} p f x rest = by (p x)
  where
    by : (b : Bool) → map f (if b then x ∷ filter p rest else filter p rest) ≡ (if b then f x ∷ [] else [])
        ++ map f (filter p rest)
    by true = refl
    by false = refl
