-- What holds of sets of names: a union has the names of both, and a set within another has no more names.
use Rattle.std.proofs.Common.{◌≡◌, ◌⊎◌, ◌≤◌, ℕ, List, [], ◌∷◌, length, refl, sym, subst, inl, inr, arith}
use Rattle.std.specs.declared.cmp.Ordering.{Ordering}
use Rattle.std.specs.declared.cmp.Ordering.TheVariants.{Less, Equal, Greater}
use Rattle.std.specs.Cmp.Lexicographic.{nat_list_cmp_total}
use Rattle.std.specs.FinMap.{slice_cmp-IsAntisymmetric, nat_cmp-IsAntisymmetric}
use Rattle.std.proofs.lemmas.Cmp.{tied_itself}
use Rattle.cjc_types.specs.Names.{compare, In, IsBefore, IsSet, IsWithin, placed, insert, union}

-- names that compare equal are the same
pub same_name : (x y : List ℕ) → compare x y ≡ Equal → x ≡ y
same_name x y e = slice_cmp-IsAntisymmetric nat_cmp-IsAntisymmetric x y e

tied : (x : List ℕ) → compare x x ≡ Equal
tied x = tied_itself nat_list_cmp_total x

-- a name before one that is before a third is before the third
pub before_trans : (x y z : List ℕ) → compare x y ≡ Less → compare y z ≡ Less → compare x z ≡ Less
before_trans x y z h k = nat_list_cmp_total.trans x y z h k

-- where a name comes after another, the other comes before it
pub turned : (x y : List ℕ) → compare x y ≡ Greater → compare y x ≡ Less
turned x y h = let e = nat_list_cmp_total.antisymm y x in rw h at e

-- ---- members

-- a set with a name has the name
pub insert_new : (n : List ℕ) (xs : List (List ℕ)) → In n (insert n xs)
insert_new n [] = inl refl
insert_new n (x ∷ xs) = go (compare n x) refl (insert_new n xs)
  where
    go : (o : Ordering) → compare n x ≡ o → In n (insert n xs) → In n (placed o n x xs (insert n xs))
    go Less e rest = inl refl
    go Equal e rest = inl (sym (same_name n x e))
    go Greater e rest = inr rest

-- a set with a name has what it had without
pub insert_old : (n m : List ℕ) (xs : List (List ℕ)) → In m xs → In m (insert n xs)
insert_old n m [] h = absurd h
insert_old n m (x ∷ xs) h = go (compare n x) h (insert_old n m xs)
  where
    go : (o : Ordering) → (x ≡ m) ⊎ In m xs → (In m xs → In m (insert n xs)) → In m (placed o n x xs (insert n xs))
    go Less h rest = inr h
    go Equal h rest = h
    go Greater (inl is) rest = inl is
    go Greater (inr later) rest = inr (rest later)

-- a set with a name has nothing but the name and what it had without
pub insert_cases : (n m : List ℕ) (xs : List (List ℕ)) → In m (insert n xs) → (n ≡ m) ⊎ In m xs
insert_cases n m [] h = h
insert_cases n m (x ∷ xs) h = go (compare n x) h (insert_cases n m xs)
  where
    go : (o : Ordering) → In m (placed o n x xs (insert n xs)) → (In m (insert n xs) → (n ≡ m) ⊎ In m xs) → (n ≡ m)
        ⊎ ((x ≡ m) ⊎ In m xs)
    go Less h rest = h
    go Equal h rest = inr h
    go Greater (inl is) rest = inr (inl is)
    go Greater (inr later) rest = elim (rest later) [ inl is ↦ inl is | inr old ↦ inr (inr old) ]

-- the second set is within the union
pub union_right : (xs ys : List (List ℕ)) → IsWithin ys (union xs ys)
union_right [] ys n h = h
union_right (x ∷ xs) ys n h = union_right xs (insert x ys) n (insert_old x n ys h)

-- the first set is within the union
pub union_left : (xs ys : List (List ℕ)) → IsWithin xs (union xs ys)
union_left [] ys n h = absurd h
union_left (x ∷ xs) ys n (inl is) = subst (λ (m : List ℕ). In m (union xs (insert x ys))) is
    (union_right xs (insert x ys) x (insert_new x ys))
union_left (x ∷ xs) ys n (inr later) = union_left xs (insert x ys) n later

-- the union of two sets is within each set that both are within
pub union_least : (xs ys zs : List (List ℕ)) → IsWithin xs zs → IsWithin ys zs → IsWithin (union xs ys) zs
union_least [] ys zs h k n is = k n is
union_least (x ∷ xs) ys zs h k n is = union_least xs (insert x ys) zs (λ m later. h m (inr later))
    (λ m has. go m (insert_cases x m ys has)) n is
  where
    go : (m : List ℕ) → (x ≡ m) ⊎ In m ys → In m zs
    go m (inl same) = h m (inl same)
    go m (inr old) = k m old

-- ---- order

-- a name before one that comes before others comes before those others
pub before_weaker : (x y : List ℕ) (ys : List (List ℕ)) → compare x y ≡ Less → IsBefore y ys → IsBefore x ys
before_weaker x y [] h k = tt
before_weaker x y (z ∷ zs) h k = (before_trans x y z h k.0, before_weaker x y zs h k.1)

before_insert : (z n : List ℕ) (xs : List (List ℕ)) → compare z n ≡ Less → IsBefore z xs → IsBefore z (insert n xs)
before_insert z n [] h k = (h, tt)
before_insert z n (x ∷ xs) h k = go (compare n x) (before_insert z n xs h k.1)
  where
    go : (o : Ordering) → IsBefore z (insert n xs) → IsBefore z (placed o n x xs (insert n xs))
    go Less rest = (h, k)
    go Equal rest = k
    go Greater rest = (k.0, rest)

-- a set with a name is a set
pub set_insert : (n : List ℕ) (xs : List (List ℕ)) → IsSet xs → IsSet (insert n xs)
set_insert n [] h = (tt, tt)
set_insert n (x ∷ xs) h = go (compare n x) refl (set_insert n xs h.1)
  where
    go : (o : Ordering) → compare n x ≡ o → IsSet (insert n xs) → IsSet (placed o n x xs (insert n xs))
    go Less e rest = ((e, before_weaker n x xs e h.0), h)
    go Equal e rest = h
    go Greater e rest = (before_insert x n xs (turned n x e) h.0, rest)

-- the union of names with a set is a set
pub set_union : (xs ys : List (List ℕ)) → IsSet ys → IsSet (union xs ys)
set_union [] ys h = h
set_union (x ∷ xs) ys h = set_union xs (insert x ys) (set_insert x ys h)

-- ---- how many names

not_before : (x : List ℕ) → compare x x ≡ Less → ⊥
not_before x h = let e = tied x in cc

-- a name that comes before others comes before each of them
pub before_member : (x n : List ℕ) (xs : List (List ℕ)) → IsBefore x xs → In n xs → compare x n ≡ Less
before_member x n [] h is = absurd is
before_member x n (y ∷ ys) h (inl is) = subst (λ (m : List ℕ). compare x m ≡ Less) is h.0
before_member x n (y ∷ ys) h (inr later) = before_member x n ys h.1 later

-- a set whose names come behind a name is within what stands behind it
behind : (y : List ℕ) (xs ys : List (List ℕ)) → IsBefore y xs → IsWithin xs (y ∷ ys) → IsWithin xs ys
behind y xs ys h k n is = go (k n is)
  where
    go : (y ≡ n) ⊎ In n ys → In n ys
    go (inl same) = absurd (not_before n (subst (λ (m : List ℕ). compare m n ≡ Less) same (before_member y n xs h is)))
    go (inr later) = later

-- of two sets, one within the other
abbrev Counts : List (List ℕ) → List (List ℕ) → Type 0
Counts xs ys = (length xs ≤ length ys) × (length ys ≤ length xs → xs ≡ ys)

counted : (xs ys : List (List ℕ)) → IsSet xs → IsSet ys → IsWithin xs ys → Counts xs ys
counted [] [] h k w = (omega arith, λ l. refl)
counted [] (y ∷ ys) h k w = (omega arith, λ l. absurd (omega arith))
counted (x ∷ xs) [] h k w = absurd (w x (inl refl))
counted (x ∷ xs) (y ∷ ys) h k w = go (w x (inl refl)) (counted xs ys h.1 k.1) (counted (x ∷ xs) ys h k.1)
  where
    same : x ≡ y → (IsWithin xs ys → Counts xs ys) → Counts (x ∷ xs) (y ∷ ys)
    same e rest =
        let r = rest (behind y xs ys (subst (λ (m : List ℕ). IsBefore m xs) e h.0) (λ n is. w n (inr is))) in
        let le = r.0 in
        (omega (arith, le), λ l. let more : xs ≡ ys = r.1 (omega arith) in cc)

    later : In x ys → (IsWithin (x ∷ xs) ys → Counts (x ∷ xs) ys) → Counts (x ∷ xs) (y ∷ ys)
    later is rest =
        let first = before_member y x ys k.0 is in
        let le = (rest (behind y (x ∷ xs) ys (first, before_weaker y x xs first h.0) w)).0 in
        (omega (arith, le), λ l. absurd (omega (arith, le, l)))

    go : (y ≡ x) ⊎ In x ys → (IsWithin xs ys → Counts xs ys) → (IsWithin (x ∷ xs) ys → Counts (x ∷ xs) ys)
        → Counts (x ∷ xs) (y ∷ ys)
    go (inl e) rest more = same (sym e) rest
    go (inr is) rest more = later is more

-- a set within another has no more names
pub length_within : (xs ys : List (List ℕ)) → IsSet xs → IsSet ys → IsWithin xs ys → length xs ≤ length ys
length_within xs ys h k w = (counted xs ys h k w).0

-- a set within another that has no more names is the other
pub same_within : (xs ys : List (List ℕ)) → IsSet xs → IsSet ys → IsWithin xs ys → length ys ≤ length xs → xs ≡ ys
same_within xs ys h k w l = (counted xs ys h k w).1 l
