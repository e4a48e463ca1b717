-- Operand stacks lie with their top last: what that is when they are read with the top first.
use Rattle.std.proofs.Common.{◌≡◌, ◌-◌, ℕ, List, [], ◌∷◌, ◌++◌, length, take, drop, reverse, sum_by, All, refl, sym}
use Rattle.std.proofs.Common.{◌∙◌, ap, subst, inl, inr, arith, length-drop}
use Rattle.std.proofs.lemmas.Bool.{cases_lt}
use Rattle.std.proofs.lemmas.List.{reverse-append, reverse-reverse, length-reverse, take-append-drop, drop_at, drop_all}
use Rattle.std.proofs.lemmas.List.Sorted.{IsPermutation-reverse, All-permutation, sum_by-IsPermutation}
use Rattle.std.proofs.lemmas.Grind.{reverse_onto}
use Rattle.cjc_fixpoint.specs.Lattice.{joined}

pub reverse_put : {X : Type 0} (xs : List X) (x : X) → reverse (xs ++ x ∷ []) ≡ x ∷ reverse xs
reverse_put xs x = reverse-append xs (x ∷ [])

-- without the last ones
pub reverse_kept : {X : Type 0} (xs : List X) (k : ℕ) → reverse (take (length xs - k) xs) ≡ drop k (reverse xs)
reverse_kept xs k =
    let n : ℕ = length xs - k in
    let parts : reverse xs ≡ reverse (drop n xs) ++ reverse (take n xs) = ap reverse (sym (take-append-drop n xs))
    ∙ reverse-append (take n xs) (drop n xs) in
    let sized = length-reverse xs in
    let rest = length-drop n xs in
    let back = length-reverse (drop n xs) in
    elim (cases_lt k (length xs)) [
      | inl lt ↦ sym (ap (drop k) parts ∙ drop_at (reverse (drop n xs)) (reverse (take n xs)) k (omega (
        arith,
        lt,
        rest,
        back,
      )))
      | inr ge ↦
          let none : n ≡ 0 = omega (arith, ge) in
          subst (λ (m : ℕ). reverse (take m xs) ≡ drop k (reverse xs)) (sym none)
          (sym (drop_all k (reverse xs) (omega (arith, ge, sized))))
    ]

joined_put : {X : Type 0} (join : X → X → X) (xs ys : List X) (x y : X) → length xs ≡ length ys
    → joined join (xs ++ x ∷ []) (ys ++ y ∷ []) ≡ joined join xs ys ++ join x y ∷ []
joined_put {X} join [] [] x y same = refl
joined_put {X} join [] (v ∷ ys) x y same = absurd (omega (arith, same))
joined_put {X} join (u ∷ xs) [] x y same = absurd (omega (arith, same))
joined_put {X} join (u ∷ xs) (v ∷ ys) x y same = ap (λ (zs : List X). join u v ∷ zs) (joined_put join xs ys x y
    (omega (arith, same)))

pub reverse_joined : {X : Type 0} (join : X → X → X) (xs ys : List X) → length xs ≡ length ys
    → reverse (joined join xs ys) ≡ joined join (reverse xs) (reverse ys)
reverse_joined {X} join [] [] same = refl
reverse_joined {X} join [] (v ∷ ys) same = absurd (omega (arith, same))
reverse_joined {X} join (u ∷ xs) [] same = absurd (omega (arith, same))
reverse_joined {X} join (u ∷ xs) (v ∷ ys) same =
    let rest : length xs ≡ length ys = omega (arith, same) in
    let lx = length-reverse xs in
    let ly = length-reverse ys in
    reverse_onto (joined join xs ys) (join u v) []
    ∙ ap (λ (zs : List X). zs ++ join u v ∷ []) (reverse_joined join xs ys rest)
    ∙ sym (joined_put join (reverse xs) (reverse ys) u v (omega (arith, rest, lx, ly)))
    ∙ ap (λ (zs : List X). joined join zs (reverse ys ++ v ∷ [])) (sym (reverse_onto xs u []))
    ∙ ap (λ (zs : List X). joined join (reverse (u ∷ xs)) zs) (sym (reverse_onto ys v []))

pub all_reversed : {X : Type 0} (P : X → Type 0) (xs : List X) → All P (reverse xs) → All P xs
all_reversed P xs h = subst (All P) (reverse-reverse xs) (All-permutation P (reverse xs) (reverse (reverse xs))
    (IsPermutation-reverse (reverse xs)) h)

pub sum_reversed : {X : Type 0} (f : X → ℕ) (xs : List X) → sum_by f xs ≡ sum_by f (reverse xs)
sum_reversed f xs = sym (sum_by-IsPermutation f xs (reverse xs) (IsPermutation-reverse xs))

-- ---- by what is read with the top first

pub all_view : {X : Type 0} (P : X → Type 0) (xs s : List X) → reverse xs ≡ s → All P s → All P xs
all_view P xs s is h = all_reversed P xs (subst (All P) (sym is) h)

sized_view : {X : Type 0} (xs ys s t : List X) → reverse xs ≡ s → reverse ys ≡ t → length s ≡ length t
    → length xs ≡ length ys
sized_view xs ys s t is_s is_t same = sym (length-reverse xs) ∙ ap length is_s ∙ same ∙ ap length (sym is_t)
    ∙ length-reverse ys

pub joined_view : {X : Type 0} (join : X → X → X) (xs ys out s t : List X) → reverse xs ≡ s → reverse ys ≡ t
    → length s ≡ length t → out ≡ joined join xs ys → reverse out ≡ joined join s t
joined_view join xs ys out s t is_s is_t same is =
    ap reverse is ∙ reverse_joined join xs ys (sized_view xs ys s t is_s is_t same)
    ∙ ap (λ (zs : List _). joined join zs (reverse ys)) is_s ∙ ap (joined join s) is_t

pub above_view : {X : Type 0} (join : X → X → X) (xs ys s t : List X) → reverse xs ≡ s → reverse ys ≡ t
    → length s ≡ length t → joined join xs ys ≡ xs → joined join s t ≡ s
above_view join xs ys s t is_s is_t same kept = sym (joined_view join xs ys xs s t is_s is_t same (sym kept)) ∙ is_s
