-- Counts over a mapped list.
use Rattle.std.proofs.Common.{◌≡◌, ℕ, zero, suc, ◌+◌, ◌<◌, refl, sym, ap, ◌∙◌, Bool, List, [], ◌∷◌, ◌++◌, cond, length}
use Rattle.std.proofs.Common.{get_or, take, arith}
use Rattle.std.specs.Prelude.{map, count_by, Option}
use Rattle.std.proofs.lemmas.List.Sums.{sum_by-cons}
use Rattle.std.proofs.lemmas.List.{take_more}
use Rattle.cjc_world.specs.Classes.{Member}
use Rattle.cjc_tokens.specs.Members.{Signature}
use Rattle.cjc_tokens.specs.Slots.{Slots}
use Rattle.cjc_tokens.specs.Methods.{class_method_token, class_method_tokens}
use Rattle.cjc_tokens.proofs.Sums.{take-length}

pub count_of_map : {A B : Type 0} (p : B → Bool) (f : A → B) (xs : List A) → count_by p (map f xs)
    ≡ count_by (λ x. p (f x)) xs
count_of_map p f [] = refl
count_of_map p f (x ∷ xs) =
    sum_by-cons (λ y. cond (p y) 1 0) (f x) (map f xs)
    ∙ ap (λ n. cond (p (f x)) 1 0 + n) (count_of_map p f xs)
    ∙ sym (sum_by-cons (λ y. cond (p (f y)) 1 0) x xs)

-- ---- a walk over mapped items

pub mapped-there : {A B : Type 0} (f : A → B) (xs : List A) (i : ℕ) (x : A) → i < length xs → x ≡ get_or xs i x
    → (i < length (map f xs)) × (f x ≡ get_or (map f xs) i (f x))
mapped-there f [] i x lt is = absurd (omega arith)
mapped-there f (y ∷ xs) zero x lt is = (omega arith, ap f is)
mapped-there f (y ∷ xs) (suc i) x lt is = let r = mapped-there f xs i x (omega arith) is in (omega (arith, r.0), r.1)

tokens-more : (exported : Bool) (shown : Signature → Option ℕ) (hidden : Slots) (ms : List Member) (i : ℕ)
    (rest : List Member) (m : Member)
    → class_method_tokens exported shown hidden ms i (rest ++ m ∷ []) ≡ class_method_tokens exported shown hidden ms i
    rest ++ class_method_token exported shown hidden ms (i + length rest) m ∷ []
unfolding class_method_tokens
tokens-more exported shown hidden ms i [] m = let e : i ≡ i + 0 = omega arith
    in ap (λ n. class_method_token exported shown hidden ms n m ∷ []) e
tokens-more exported shown hidden ms i (g ∷ rest) m =
    let e : i + 1 + length rest ≡ i + suc (length rest) = omega arith in
    ap (λ q. class_method_token exported shown hidden ms i g ∷ q) (tokens-more exported shown hidden ms (i + 1) rest m
    ∙ ap (λ n. class_method_tokens exported shown hidden ms (i + 1) rest ++ class_method_token exported shown hidden
    ms n m ∷ []) e)

pub tokens-next : (exported : Bool) (shown : Signature → Option ℕ) (hidden : Slots) (ms : List Member) (i : ℕ)
    (m : Member) → i < length ms
    → m ≡ get_or ms i m → class_method_tokens exported shown hidden ms 0 (take (i + 1) ms)
    ≡ class_method_tokens exported shown hidden ms 0 (take i ms) ++ class_method_token exported shown hidden ms i m ∷ []
tokens-next exported shown hidden ms i m lt is =
    ap (class_method_tokens exported shown hidden ms 0) (take_more ms i m lt)
    ∙ tokens-more exported shown hidden ms 0 (take i ms) (get_or ms i m)
    ∙ ap (λ n. class_method_tokens exported shown hidden ms 0 (take i ms) ++ class_method_token exported shown hidden ms
    n (get_or ms i m) ∷ []) (take-length ms i lt)
    ∙ ap (λ (g : Member). class_method_tokens exported shown hidden ms 0 (take i ms)
    ++ class_method_token exported shown hidden ms i g ∷ []) (sym is)
