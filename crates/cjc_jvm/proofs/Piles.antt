-- A pile is read from its end.
use Rattle.std.proofs.Common.{◌≡◌, ℕ, ◌-◌, ◌≤◌, sym, ap, ◌∙◌, arith, List, length, take, drop, reverse, length-drop}
use Rattle.std.proofs.lemmas.List.{reverse-append, length-reverse, take-append-drop, drop_at}

pub reverse-take : {A : Type 0} (xs : List A) (n : ℕ) → n ≤ length xs → reverse (take (length xs - n) xs) ≡ drop n (reverse xs)
reverse-take xs n h =
    let m = length xs - n in
    let split = ap reverse (sym (take-append-drop m xs)) ∙ reverse-append (take m xs) (drop m xs) in
    let len : length (reverse (drop m xs)) ≡ n = length-reverse (drop m xs) ∙ length-drop m xs ∙ omega arith in
    sym (ap (drop n) split ∙ drop_at (reverse (drop m xs)) (reverse (take m xs)) n len)
