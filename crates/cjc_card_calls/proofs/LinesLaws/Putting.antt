-- Lists are put down item by item.
use Rattle.std.proofs.Common.{◌≡◌, ℕ, zero, suc, ◌+◌, ◌<◌, ◌≤◌, List, [], ◌∷◌, ◌++◌, length, get_or, drop, refl, sym}
use Rattle.std.proofs.Common.{ap, ◌∙◌, arith, append_assoc, Option, Some, None}
use Rattle.std.specs.Prelude.{option_map, option_and_then, option_to_list, slice_get}
use Rattle.std.proofs.lemmas.List.{drop_more, drop_all, append-nil, length-map}
use Rattle.std.proofs.lemmas.Option.{slice_get-map}
use Rattle.cjc_card_link.specs.LowerCheckRules.Spots.{starts}
use Rattle.cjc_card_semantics.specs.Machine.Loaded.{Part}
use Rattle.cjc_card_semantics.specs.Machine.Classes.{Class, Own, info_size, infos, offset_of}
use Rattle.cjc_card_link.specs.Tables.{class_count}
use Rattle.cjc_card_link.proofs.InfoPlaces.{offset_place, starts_count}
use Rattle.cjc_card_calls.specs.Lines.Every.{classes_at, part_classes}

-- One more item is put down, where the list gives from each number on what its first item gives and then what the rest
-- gives.
pub put_more : {A B : Type 0} (gives : ℕ → List A → List B) (one : ℕ → A → List B) → ((n : ℕ) (x : A) (xs : List A)
    → gives n (x ∷ xs) ≡ one n x ++ gives (n + 1) xs)
    → (i : ℕ) (x d : A) (xs : List A) (old new total : List B) → i < length xs → x ≡ get_or xs i d → new ≡ old
    ++ one i x
    → old ++ gives i (drop i xs) ≡ total → new ++ gives (i + 1) (drop (i + 1) xs) ≡ total
put_more {A} {B} gives one step i x d xs old new total lt is n so_far =
    let e : drop i xs ≡ x ∷ drop (i + 1) xs = drop_more xs i d lt ∙ ap (λ (y : A). y ∷ drop (i + 1) xs) (sym is) in
    ap (λ (ys : List B). ys ++ gives (i + 1) (drop (i + 1) xs)) n
    ∙ append_assoc old (one i x) (gives (i + 1) (drop (i + 1) xs))
    ∙ ap (λ (ys : List B). old ++ ys) (sym (step i x (drop (i + 1) xs)))
    ∙ ap (λ (ys : List A). old ++ gives i ys) (sym e)
    ∙ so_far

pub put_all : {A B : Type 0} (gives : ℕ → List A → List B) → ((n : ℕ) → gives n [] ≡ [])
    → (i : ℕ) (xs : List A) (done total : List B) → length xs ≤ i
    → done ++ gives i (drop i xs) ≡ total → done ≡ total
put_all {A} {B} gives none i xs done total le so_far =
    sym (append-nil done) ∙ ap (λ (ys : List B). done ++ ys) (sym (none i)) ∙ ap (λ (ys : List A). done
    ++ gives i ys) (sym (drop_all i xs le)) ∙ so_far

-- ---- the classes of a package by their numbers

pub own_next : (p : ℕ) (o : Option Part) (n : ℕ)
    → option_map (Own p) (option_and_then (λ q. offset_of q n) o) ≡ slice_get (classes_at p o) n
own_next p None n = refl
own_next p (Some q) n = ap (option_map (Own p)) (sym (offset_place 2 (infos q) n))
    ∙ sym (slice_get-map (Own p) (starts info_size 2 (infos q)) n)

pub own_count : (p : ℕ) (o : Option Part) → length (classes_at p o) ≤ class_count o
own_count p None = omega arith
own_count p (Some q) =
    let m = length-map (starts info_size 2 (infos q)) (Own p) in
    let s = starts_count 2 (infos q) in
    omega (arith, m, s)

-- ---- the classes of all packages

next_part : (k i : ℕ) (parts : List Part) → part_classes k (drop i parts) ≡ classes_at k (slice_get parts i)
    ++ part_classes (k + 1) (drop (suc i) parts)
next_part k zero [] = refl
next_part k (suc i) [] = refl
next_part k zero (q ∷ parts) = refl
next_part k (suc i) (q ∷ parts) = next_part k i parts

-- those of the package with a number
pub parts_more : (i : ℕ) (parts : List Part) (old new total : List Class) → new ≡ old
    ++ classes_at i (slice_get parts i)
    → old ++ part_classes i (drop i parts) ≡ total → new ++ part_classes (i + 1) (drop (i + 1) parts) ≡ total
parts_more i parts old new total put so_far =
    let next : i + 1 ≡ suc i = omega arith in
    ap (λ (ys : List Class). ys ++ part_classes (i + 1) (drop (i + 1) parts)) put
    ∙ ap (λ (k : ℕ). (old ++ classes_at i (slice_get parts i)) ++ part_classes (i + 1) (drop k parts)) next
    ∙ append_assoc old (classes_at i (slice_get parts i)) (part_classes (i + 1) (drop (suc i) parts))
    ∙ ap (λ (ys : List Class). old ++ ys) (sym (next_part i i parts))
    ∙ so_far

pub parts_all : (i : ℕ) (parts : List Part) (done total : List Class) → length parts ≤ i
    → done ++ part_classes i (drop i parts) ≡ total → done ≡ total
parts_all i parts done total le so_far =
    sym (append-nil done) ∙ ap (λ (ps : List Part). done ++ part_classes i ps) (sym (drop_all i parts le)) ∙ so_far

-- ---- items by their places

some_next : {A : Type 0} (xs : List A) (n : ℕ) → drop n xs ≡ option_to_list (slice_get xs n) ++ drop (suc n) xs
some_next [] zero = refl
some_next [] (suc n) = refl
some_next (x ∷ xs) zero = refl
some_next (x ∷ xs) (suc n) = some_next xs n

-- the class of a number, where there is one
pub some_more : {A : Type 0} (xs : List A) (n : ℕ) (o : Option A) (old new total : List A) → o ≡ slice_get xs n
    → new ≡ old ++ option_to_list o
    → old ++ drop n xs ≡ total → new ++ drop (n + 1) xs ≡ total
some_more {A} xs n o old new total is put so_far =
    let next : n + 1 ≡ suc n = omega arith in
    ap (λ (ys : List A). ys ++ drop (n + 1) xs) put
    ∙ ap (λ (k : ℕ). (old ++ option_to_list o) ++ drop k xs) next
    ∙ append_assoc old (option_to_list o) (drop (suc n) xs)
    ∙ ap (λ (p : Option A). old ++ (option_to_list p ++ drop (suc n) xs)) is
    ∙ ap (λ (ys : List A). old ++ ys) (sym (some_next xs n))
    ∙ so_far

pub some_all : {A : Type 0} (xs : List A) (n : ℕ) (done total : List A) → length xs ≤ n → done ++ drop n xs ≡ total
    → done ≡ total
some_all {A} xs n done total le so_far = sym (append-nil done) ∙ ap (λ (ys : List A). done
    ++ ys) (sym (drop_all n xs le)) ∙ so_far
