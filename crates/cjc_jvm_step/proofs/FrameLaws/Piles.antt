-- A pile is read from its end.
use Rattle.std.proofs.Common.{◌≡◌, ℕ, ◌-◌, ◌≤◌, sym, ap, ◌∙◌, arith, List, [], ◌∷◌, ◌++◌, length, take, drop, reverse}
use Rattle.std.proofs.Common.{length-drop}
use Rattle.std.specs.List.{insert}
use Rattle.std.proofs.lemmas.List.{reverse-append, length-reverse, reverse-reverse, take-append-drop, drop_at, take_at}
use Rattle.std.proofs.lemmas.List.{append_assoc}

pub reverse-take : {A : Type 0} (xs : List A) (n : ℕ) → n ≤ length xs → reverse (take (length xs - n) xs)
    ≡ drop n (reverse xs)
reverse-take xs n h =
    let m = length xs - n in
    let split = ap reverse (sym (take-append-drop m xs)) ∙ reverse-append (take m xs) (drop m xs) in
    let len : length (reverse (drop m xs)) ≡ n = length-reverse (drop m xs) ∙ length-drop m xs ∙ omega arith in
    sym (ap (drop n) split ∙ drop_at (reverse (drop m xs)) (reverse (take m xs)) n len)

pub reverse-drop : {A : Type 0} (xs : List A) (n : ℕ) → n ≤ length xs → reverse (drop (length xs - n) xs)
    ≡ take n (reverse xs)
reverse-drop xs n h =
    let m = length xs - n in
    let split = ap reverse (sym (take-append-drop m xs)) ∙ reverse-append (take m xs) (drop m xs) in
    let len : length (reverse (drop m xs)) ≡ n = length-reverse (drop m xs) ∙ length-drop m xs ∙ omega arith in
    sym (ap (take n) split ∙ take_at (reverse (drop m xs)) (reverse (take m xs)) n len)

pub drop-newest : {A : Type 0} (xs : List A) (n : ℕ) → n ≤ length xs → drop (length xs - n) xs
    ≡ reverse (take n (reverse xs))
drop-newest xs n h = sym (reverse-reverse (drop (length xs - n) xs)) ∙ ap reverse (reverse-drop xs n h)

pub reverse-insert : {A : Type 0} (xs : List A) (n : ℕ) (x : A) → n ≤ length xs → reverse (insert xs (length xs - n) x)
    ≡ take n (reverse xs) ++ x ∷ drop n (reverse xs)
reverse-insert xs n x h =
    let m = length xs - n in
    let back = reverse (take m xs) in
    reverse-append (take m xs) (x ∷ drop m xs)
    ∙ ap (λ ys. ys ++ back) (reverse-append (x ∷ []) (drop m xs))
    ∙ append_assoc (reverse (drop m xs)) (x ∷ []) back
    ∙ ap (λ front. front ++ x ∷ back) (reverse-drop xs n h)
    ∙ ap (λ rest. take n (reverse xs) ++ x ∷ rest) (reverse-take xs n h)
