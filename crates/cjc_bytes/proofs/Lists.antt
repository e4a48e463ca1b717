-- Lists.
use Rattle.cjc_bytes.specs.Order.{AreUpTo, NotAfter, Rank}
use Rattle.std.proofs.Common.{Bool, List, [], ap, arith, false, inl, inr, length, length-append, refl, rules, suc, sym}
use Rattle.std.proofs.Common.{true, ℕ, ◌++◌, ◌+◌, ◌∙◌, ◌∷◌, ◌≡◌}
use Rattle.std.proofs.lemmas.List.Splits.{length-slice_split}
use Rattle.std.proofs.lemmas.List.Sums.{sum_by-cons}
use Rattle.std.proofs.lemmas.Slice.Eq.{bytes_eq-Decides}
use Rattle.std.specs.List.{slice_split}
use Rattle.std.specs.Prelude.{flat_map, map, sum_by, ◌==◌}
use Rattle.std.specs.Str.{bytes_eq}

pub name_is : (x : List ℕ) → bytes_eq x x ≡ true
name_is x = (bytes_eq-Decides x x).1 refl

pub bytes_true : (a b : List ℕ) → bytes_eq a b ≡ true → a ≡ b
bytes_true a b e = search rules

pub empty_both : {A : Type 0} (xs ys : List A) → xs ++ ys ≡ [] → (xs ≡ []) × (ys ≡ [])
empty_both [] ys e = (refl, e)
empty_both (x ∷ xs) ys e = cc

pub bytes_flip : (x y : List ℕ) → bytes_eq x y ≡ bytes_eq y x
bytes_flip x y = by (bytes_eq x y) (bytes_eq y x) refl refl
  where
    by : (a b : Bool) → bytes_eq x y ≡ a → bytes_eq y x ≡ b → a ≡ b
    by true true e f = refl
    by false false e f = refl
    by true false e f = grind (arith, bytes_eq-Decides)
    by false true e f = grind (arith, bytes_eq-Decides)

pub none_left : {A : Type 0} (xs ys : List A) → xs ++ ys ≡ [] → xs ≡ []
none_left [] ys e = refl
none_left (x ∷ xs) ys e = cc

pub none_right : {A : Type 0} (xs ys : List A) → xs ++ ys ≡ [] → ys ≡ []
none_right [] ys e = e
none_right (x ∷ xs) ys e = cc

pub map_map : {A B C : Type 0} (f : B → C) (g : A → B) (xs : List A) → map f (map g xs) ≡ map (λ x. f (g x)) xs
map_map f g [] = refl
map_map f g (x ∷ xs) = ap (λ ys. f (g x) ∷ ys) (map_map f g xs)

pub map_append : {A B : Type 0} (f : A → B) (xs ys : List A) → map f (xs ++ ys) ≡ map f xs ++ map f ys
map_append f [] ys = refl
map_append f (x ∷ xs) ys = ap (λ zs. f x ∷ zs) (map_append f xs ys)

pub length_mapped : {A B : Type 0} (f : A → B) (xs : List A) → length (map f xs) ≡ length xs
length_mapped f [] = refl
length_mapped f (x ∷ xs) = ap suc (length_mapped f xs)

pub map_same : {A B : Type 0} (f g : A → B) → ((x : A) → f x ≡ g x) → (xs : List A) → map f xs ≡ map g xs
map_same f g e [] = refl
map_same f g e (x ∷ xs) = ap (λ y. y ∷ map f xs) (e x) ∙ ap (λ ys. g x ∷ ys) (map_same f g e xs)

pub bytes_sym : (x y : List ℕ) → bytes_eq x y ≡ true → bytes_eq y x ≡ true
bytes_sym x y e = grind (arith, bytes_eq-Decides)

pub each_size : {X Y : Type 0} (f : X → List Y) (size : X → ℕ) → ((x : X) → length (f x) ≡ size x) → (xs : List X)
    → length (flat_map f xs) ≡ sum_by size xs
each_size f size h [] = refl
each_size f size h (x ∷ xs) =
    let e : length (f x) ≡ size x = h x in
    let r : length (flat_map f xs) ≡ sum_by size xs = each_size f size h xs in
    let s : sum_by size (x ∷ xs) ≡ size x + sum_by size xs = sum_by-cons size x xs in
    length-append (f x) (flat_map f xs) ∙ omega (arith, e, r, s)

pub sums_same : {X A : Type 0} (size : A → ℕ) (f g : X → A) → ((x : X) → size (f x) ≡ size (g x)) → (xs : List X)
    → sum_by size (map f xs) ≡ sum_by size (map g xs)
sums_same size f g h [] = refl
sums_same size f g h (x ∷ xs) =
    let e : size (f x) ≡ size (g x) = h x in
    let r : sum_by size (map f xs) ≡ sum_by size (map g xs) = sums_same size f g h xs in
    sum_by-cons size (f x) (map f xs) ∙ ap (λ n. n + sum_by size (map f xs)) e ∙ ap (λ n. size (g x) + n) r
    ∙ sym (sum_by-cons size (g x) (map g xs))

pub list_one_head : (x y : ℕ) (xs ys : List ℕ) → AreUpTo (x ∷ xs) (y ∷ ys) → AreUpTo (y ∷ ys) (x ∷ xs) → (x ≡ y)
    × AreUpTo xs ys
    × AreUpTo ys xs
list_one_head x y xs ys (inl lt) (inl gt) = absurd (omega (arith, lt, gt))
list_one_head x y xs ys (inl lt) (inr (e, more)) = absurd (omega (arith, lt, e))
list_one_head x y xs ys (inr (e, more)) (inl lt) = absurd (omega (arith, lt, e))
list_one_head x y xs ys (inr (e, more)) (inr (f, back)) = (e, more, back)

pub same_rank : (a b : Rank) → NotAfter a b → NotAfter b a → a ≡ b
same_rank a b h g =
    let one = list_one_head a.family b.family (a.file ∷ a.class ∷ a.member ∷ a.offset ∷ a.rule ∷ []) (b.file ∷ b.class
    ∷ b.member ∷ b.offset ∷ b.rule ∷ []) h g in
    let two = list_one_head a.file b.file (a.class ∷ a.member ∷ a.offset ∷ a.rule ∷ []) (b.class ∷ b.member ∷ b.offset
    ∷ b.rule ∷ []) one.1 one.2 in
    let three = list_one_head a.class b.class (a.member ∷ a.offset ∷ a.rule ∷ [])
    (b.member ∷ b.offset ∷ b.rule ∷ []) two.1
    two.2 in
    let four = list_one_head a.member b.member (a.offset ∷ a.rule ∷ []) (b.offset ∷ b.rule ∷ []) three.1 three.2 in
    let five = list_one_head a.offset b.offset (a.rule ∷ []) (b.rule ∷ []) four.1 four.2 in
    let six = list_one_head a.rule b.rule [] [] five.1 five.2 in
    λ i. record {
      family = one.0 i;
      file = two.0 i;
      class = three.0 i;
      member = four.0 i;
      offset = five.0 i;
      rule = six.0 i;
    }

pub never_none : (bs : List ℕ) → slice_split (λ b. b == 47) bs ≡ [] → ⊥
never_none bs e = let count = length-slice_split (λ b. b == 47) bs in let none = ap length e
    in omega (arith, count, none)
