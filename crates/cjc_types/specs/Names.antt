-- Sets of names: lists in ascending order with no name twice, so that equal sets are equal lists.
use Rattle.std.specs.Prelude.{◌≡◌, ◌⊎◌, ℕ, List, [], ◌∷◌}
use Rattle.std.specs.declared.cmp.Ordering.{Ordering}
use Rattle.std.specs.declared.cmp.Ordering.TheVariants.{Less, Equal, Greater}
use Rattle.std.specs.Ordering.{nat_cmp}
use Rattle.std.specs.Cmp.Lexicographic.{slice_cmp}

-- names are ordered byte by byte
abbrev pub compare : List ℕ → List ℕ → Ordering
compare x y = slice_cmp nat_cmp x y

-- the name is one of these
abbrev pub In : List ℕ → List (List ℕ) → Type 0
In n [] = ⊥
In n (x ∷ xs) = (x ≡ n) ⊎ In n xs

-- the name comes before each of these
abbrev pub IsBefore : List ℕ → List (List ℕ) → Type 0
IsBefore n [] = Unit {0}
IsBefore n (x ∷ xs) = (compare n x ≡ Less) × IsBefore n xs

-- each name comes before those behind it
abbrev pub IsSet : List (List ℕ) → Type 0
IsSet [] = Unit {0}
IsSet (x ∷ xs) = IsBefore x xs × IsSet xs

-- each name of the first is one of the second
abbrev pub IsWithin : List (List ℕ) → List (List ℕ) → Type 0
IsWithin xs ys = (n : List ℕ) → In n xs → In n ys

-- by how a name compares with the first of a set: what the set with the name is, where `more` is that of the rest
abbrev pub placed : Ordering → List ℕ → List ℕ → List (List ℕ) → List (List ℕ) → List (List ℕ)
placed Less n x xs more = n ∷ x ∷ xs
placed Equal n x xs more = x ∷ xs
placed Greater n x xs more = x ∷ more

-- the set with the name
abbrev pub insert : List ℕ → List (List ℕ) → List (List ℕ)
insert n [] = n ∷ []
insert n (x ∷ xs) = placed (compare n x) n x xs (insert n xs)

-- the names of either set
abbrev pub union : List (List ℕ) → List (List ℕ) → List (List ℕ)
union [] ys = ys
union (x ∷ xs) ys = union xs (insert x ys)
