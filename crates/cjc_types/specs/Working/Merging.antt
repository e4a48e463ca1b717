-- The union of two sets by one walk along both: the lesser of the first names comes first.
use Rattle.std.proofs.Common.{◌≡◌, ◌≤◌, ◌<◌, ◌⊎◌, ◌+◌, ℕ, zero, suc, false, is_some, List, [], ◌∷◌, ◌++◌, length, take}
use Rattle.std.proofs.Common.{drop, slice_get, get_or, Option, Some, None, refl, sym, ◌∙◌, ap, subst, inl, inr, arith}
use Rattle.std.proofs.Common.{add-one, append_assoc}
use Rattle.std.specs.Option.{MatchOption}
use Rattle.std.proofs.lemmas.List.{drop_more, drop_all, drop-drop, append-nil}
use Rattle.std.specs.declared.cmp.Ordering.{Ordering}
use Rattle.std.specs.declared.cmp.Ordering.TheVariants.{Less, Equal, Greater}
use Rattle.std.specs.Cmp.Lexicographic.{nat_list_cmp_total}
use Rattle.cjc_types.specs.Names.{compare, In, IsBefore, IsSet, IsWithin, placed, insert, union}
use Rattle.cjc_types.specs.Working.NameLaws.{same_name, before_trans, turned, before_weaker, before_member, insert_new}
use Rattle.cjc_types.specs.Working.NameLaws.{union_left, union_right, union_least, set_union, length_within}
use Rattle.cjc_types.specs.Working.NameLaws.{same_within}

-- by how two names compare: the one that comes first
abbrev pub lesser : Ordering → List ℕ → List ℕ → List ℕ
lesser Less x y = x
lesser Equal x y = x
lesser Greater x y = y

-- by how the first names compare: how many names of the first set a step of the walk passes
abbrev pub steps_left : Ordering → ℕ
steps_left Less = 1
steps_left Equal = 1
steps_left Greater = 0

-- by how the first names compare: how many names of the second set a step of the walk passes
abbrev pub steps_right : Ordering → ℕ
steps_right Less = 0
steps_right Equal = 1
steps_right Greater = 1

-- ---- where a name stands

above_is : (x y : List ℕ) → compare x y ≡ Less → compare y x ≡ Greater
above_is x y h = let e = nat_list_cmp_total.antisymm y x in rw h at e

get_in : (xs : List (List ℕ)) (k : ℕ) (x : List ℕ) → slice_get xs k ≡ Some x → In x xs
get_in [] k x e = absurd cc
get_in (y ∷ ys) zero x e = inl cc
get_in (y ∷ ys) (suc k) x e = inr (get_in ys k x e)

-- a name above one of the set stands behind it
pub insert_past : (n : List ℕ) (xs : List (List ℕ)) (k : ℕ) (x : List ℕ) → IsSet xs → slice_get xs k ≡ Some x
    → compare n x ≡ Greater → insert n xs ≡ take (suc k) xs ++ insert n (drop (suc k) xs)
insert_past n [] k x h e o = absurd cc
insert_past n (y ∷ ys) zero x h e o =
    let same : y ≡ x = cc in
    let o' : compare n y ≡ Greater = subst (λ (z : List ℕ). compare n z ≡ Greater) (sym same) o in
    ap (λ (r : Ordering). placed r n y ys (insert n ys)) o'
insert_past n (y ∷ ys) (suc k) x h e o =
    let lower : compare y n ≡ Less = before_trans y x n (before_member y x ys h.0 (get_in ys k x e)) (turned n x o) in
    ap (λ (r : Ordering). placed r n y ys (insert n ys)) (above_is y n lower)
    ∙ ap (λ (zs : List (List ℕ)). y ∷ zs) (insert_past n ys k x h.1 e o)

-- a set with a name that it has is the same set
pub insert_found : (n : List ℕ) (xs : List (List ℕ)) (k : ℕ) (x : List ℕ) → IsSet xs → slice_get xs k ≡ Some x
    → compare n x ≡ Equal → insert n xs ≡ xs
insert_found n [] k x h e o = absurd cc
insert_found n (y ∷ ys) zero x h e o =
    let same : y ≡ x = cc in
    let o' : compare n y ≡ Equal = subst (λ (z : List ℕ). compare n z ≡ Equal) (sym same) o in
    ap (λ (r : Ordering). placed r n y ys (insert n ys)) o'
insert_found n (y ∷ ys) (suc k) x h e o =
    let lower : compare y n ≡ Less = subst (λ (z : List ℕ). compare y z ≡ Less) (sym (same_name n x o))
    (before_member y x ys h.0 (get_in ys k x e)) in
    ap (λ (r : Ordering). placed r n y ys (insert n ys)) (above_is y n lower)
    ∙ ap (λ (zs : List (List ℕ)). y ∷ zs) (insert_found n ys k x h.1 e o)

-- a name before the one at a place, or at the end, comes first of those from the place on
pub insert_here : (n : List ℕ) (xs : List (List ℕ)) (k : ℕ) → ((x : List ℕ) → slice_get xs k ≡ Some x
    → compare n x ≡ Less) → insert n (drop k xs) ≡ n ∷ drop k xs
insert_here n [] zero h = refl
insert_here n [] (suc k) h = refl
insert_here n (y ∷ ys) zero h = ap (λ (r : Ordering). placed r n y ys (insert n ys)) (h y refl)
insert_here n (y ∷ ys) (suc k) h = insert_here n ys k h

-- ---- the walk

-- a name before all of the first set stands first in the union
pub union_first : (x : List ℕ) (xs zs : List (List ℕ)) → IsBefore x xs → union xs (x ∷ zs) ≡ x ∷ union xs zs
union_first x [] zs h = refl
union_first x (y ∷ ys) zs h =
    ap (λ (r : Ordering). union ys (placed r y x zs (insert y zs))) (above_is x y h.0)
    ∙ union_first x ys (insert y zs) h.1

-- the union of a set with none is the set
pub union_none : (xs : List (List ℕ)) → IsSet xs → union xs [] ≡ xs
union_none [] h = refl
union_none (x ∷ xs) h = union_first x xs [] h.0 ∙ ap (λ (ys : List (List ℕ)). x ∷ ys) (union_none xs h.1)

-- one step of the walk
union_lesser : (o : Ordering) (x y : List ℕ) (xs ys : List (List ℕ)) → compare x y ≡ o → IsSet (x ∷ xs)
    → lesser o x y ∷ union (drop (steps_left o) (x ∷ xs)) (drop (steps_right o) (y ∷ ys)) ≡ union (x ∷ xs) (y ∷ ys)
union_lesser Less x y xs ys e h = sym (ap (λ (r : Ordering). union xs (placed r x y ys (insert x ys))) e
    ∙ union_first x xs (y ∷ ys) h.0)
union_lesser Equal x y xs ys e h =
    let same = same_name x y e in
    sym (ap (λ (r : Ordering). union xs (placed r x y ys (insert x ys))) e ∙ ap (λ (z : List ℕ). union xs (z ∷ ys))
    (sym same) ∙ union_first x xs ys h.0)
union_lesser Greater x y xs ys e h =
    sym (ap (λ (r : Ordering). union xs (placed r x y ys (insert x ys))) e
    ∙ union_first y xs (insert x ys) (before_weaker y x xs (turned x y e) h.0))

set_drop : (k : ℕ) (xs : List (List ℕ)) → IsSet xs → IsSet (drop k xs)
set_drop zero xs h = h
set_drop (suc k) [] h = h
set_drop (suc k) (x ∷ xs) h = set_drop k xs h.1

-- ---- names that are there

-- a set that a name leaves the same has the name
pub in_from_insert : (n : List ℕ) (xs : List (List ℕ)) → insert n xs ≡ xs → In n xs
in_from_insert n xs e = subst (λ (ys : List (List ℕ)). In n ys) e (insert_new n xs)

-- a name of a set, and names within it, are within it together
pub within_more : (n : List ℕ) (names set : List (List ℕ)) → In n set → IsWithin names set → IsWithin (n ∷ names) set
within_more n names set is rest m (inl same) = subst (λ (k : List ℕ). In k set) same is
within_more n names set is rest m (inr later) = rest m later

-- the union with names that are there already
pub union_same : (xs ys : List (List ℕ)) → IsSet xs → IsSet ys → IsWithin ys xs → union xs ys ≡ xs
union_same xs ys h k w =
    let own = set_union xs ys k in
    let less : IsWithin (union xs ys) xs = union_least xs ys xs (λ n is. is) w in
    same_within (union xs ys) xs own h less (length_within xs (union xs ys) h own (union_left xs ys))

-- the order of the sets does not matter
pub union_other : (xs ys : List (List ℕ)) → IsSet xs → IsSet ys → union ys xs ≡ union xs ys
union_other xs ys h k =
    let left = set_union xs ys k in
    let right = set_union ys xs h in
    let there : IsWithin (union ys xs) (union xs ys) = union_least ys xs (union xs ys) (union_right xs ys)
    (union_left xs ys) in
    let back : IsWithin (union xs ys) (union ys xs) = union_least xs ys (union ys xs) (union_right ys xs)
    (union_left ys xs) in
    same_within (union ys xs) (union xs ys) right left there (length_within (union xs ys) (union ys xs) left right back)

-- ---- steps of loops

-- a name above the one at a place of a set stands behind that place
pub insert_more : (n : List ℕ) (xs : List (List ℕ)) (k : ℕ) (x : List ℕ) → IsSet xs → slice_get xs k ≡ Some x
    → compare n x ≡ Greater → insert n xs ≡ take (k + 1) xs ++ insert n (drop (k + 1) xs)
insert_more n xs k x h e o = subst (λ (m : ℕ). insert n xs ≡ take m xs ++ insert n (drop m xs)) (sym (add-one k))
    (insert_past n xs k x h e o)

-- names compare as the same names did
pub compared_is : (n x y : List ℕ) (o p : Ordering) → y ≡ x → o ≡ compare n y → o ≡ p → compare n x ≡ p
compared_is n x y o p same is e = ap (compare n) (sym same) ∙ sym is ∙ e

-- where a search finds no place to put a name, the set with the name is the same set
pub none_found : (n : List ℕ) (set : List (List ℕ)) (o : Option ℕ)
    → MatchOption o (insert n set ≡ set) (λ at. (at ≤ length set) × (insert n set ≡ take at set ++ n ∷ drop at set))
    → is_some o ≡ false → insert n set ≡ set
none_found n set None h e = h
none_found n set (Some at) h e = absurd cc

-- where a set has the name at a place, and those behind it are within it, those from the place on are
pub within_next : (names set : List (List ℕ)) (i : ℕ) (name given : List ℕ) → i < length names
    → name ≡ get_or names i name → given ≡ name → insert given set ≡ set → IsWithin (drop (i + 1) names) set
    → IsWithin (drop i names) set
within_next names set i name given lt read same there rest =
    let is : name ∷ drop (i + 1) names ≡ drop i names = ap (λ (n : List ℕ). n ∷ drop (i + 1) names) read
    ∙ sym (drop_more names i name lt) in
    let has : In name set = subst (λ (n : List ℕ). In n set) same (in_from_insert given set there) in
    subst (λ (zs : List (List ℕ)). IsWithin zs set) is (within_more name (drop (i + 1) names) set has rest)

-- the union of the names from a place on is that of those behind it, with the one there put in first
pub union_next : (names all more : List (List ℕ)) (i : ℕ) (name given : List ℕ) → i < length names
    → name ≡ get_or names i name → given ≡ name → more ≡ insert given all → union (drop (i + 1) names) more
    ≡ union (drop i names) all
union_next names all more i name given lt read same is =
    let split : drop i names ≡ name ∷ drop (i + 1) names = drop_more names i name lt
    ∙ ap (λ (n : List ℕ). n ∷ drop (i + 1) names) (sym read) in
    ap (union (drop (i + 1) names)) (is ∙ ap (λ (n : List ℕ). insert n all) same)
    ∙ ap (λ (zs : List (List ℕ)). union zs all) (sym split)

-- a step of the walk changes nothing of what is gathered with the union of the rest behind it
pub merged_next : (xs ys set more : List (List ℕ)) (i k : ℕ) (x y a b : List ℕ) (o : Ordering) (p q : ℕ) → IsSet xs
    → i < length xs → k < length ys → x ≡ get_or xs i x → y ≡ get_or ys k y → a ≡ x → b ≡ y
    → o ≡ compare a b → more ≡ set ++ lesser (compare a b) a b ∷ [] → p ≡ steps_left o → q ≡ steps_right o
    → more ++ union (drop (i + p) xs) (drop (k + q) ys) ≡ set ++ union (drop i xs) (drop k ys)
merged_next xs ys set more i k x y a b o p q own lt lt' read_x read_y same_a same_b is_o is_more is_p is_q =
    let first : drop i xs ≡ x ∷ drop (i + 1) xs = drop_more xs i x lt ∙ ap (λ (n : List ℕ). n ∷ drop (i + 1) xs)
    (sym read_x) in
    let second : drop k ys ≡ y ∷ drop (k + 1) ys = drop_more ys k y lt' ∙ ap (λ (n : List ℕ). n ∷ drop (k + 1) ys)
    (sym read_y) in
    let order : o ≡ compare x y = is_o ∙ ap (λ (n : List ℕ). compare n b) same_a ∙ ap (compare x) same_b in
    let name : lesser (compare a b) a b ≡ lesser o x y = ap (λ (r : Ordering). lesser r a b) (sym is_o)
    ∙ ap (λ (n : List ℕ). lesser o n b) same_a ∙ ap (lesser o x) same_b in
    let put : more ≡ set ++ lesser o x y ∷ [] = is_more ∙ ap (λ (n : List ℕ). set ++ n ∷ []) name in
    let left : drop (i + p) xs ≡ drop (steps_left o) (x ∷ drop (i + 1) xs) = ap (λ (n : ℕ). drop (i + n) xs) is_p
    ∙ sym (drop-drop (steps_left o) i xs) ∙ ap (drop (steps_left o)) first in
    let right : drop (k + q) ys ≡ drop (steps_right o) (y ∷ drop (k + 1) ys) = ap (λ (n : ℕ). drop (k + n) ys) is_q
    ∙ sym (drop-drop (steps_right o) k ys) ∙ ap (drop (steps_right o)) second in
    let set_of : IsSet (x ∷ drop (i + 1) xs) = subst IsSet first (set_drop i xs own) in
    ap (λ (zs : List (List ℕ)). zs ++ union (drop (i + p) xs) (drop (k + q) ys)) put
    ∙ ap (λ (zs : List (List ℕ)). (set ++ lesser o x y ∷ []) ++ union zs (drop (k + q) ys)) left
    ∙ ap (λ (zs : List (List ℕ)). (set ++ lesser o x y ∷ []) ++ union (drop (steps_left o) (x ∷ drop (i + 1) xs)) zs)
    right
    ∙ append_assoc set (lesser o x y ∷ []) (union (drop (steps_left o) (x ∷ drop (i + 1) xs)) (drop (steps_right o) (y
    ∷ drop (k + 1) ys)))
    ∙ ap (λ (zs : List (List ℕ)). set ++ zs) (union_lesser o x y (drop (i + 1) xs) (drop (k + 1) ys) (sym order) set_of)
    ∙ ap (λ (zs : List (List ℕ)). set ++ union zs (y ∷ drop (k + 1) ys)) (sym first)
    ∙ ap (λ (zs : List (List ℕ)). set ++ union (drop i xs) zs) (sym second)

-- a step of the walk goes past the end of neither set
pub merged_within : (o : Ordering) (i k m n p q : ℕ) → i < m → k < n → p ≡ steps_left o → q ≡ steps_right o
    → (i + p ≤ m) × (k + q ≤ n)
merged_within Less i k m n p q lt lt' is_p is_q = (omega (arith, lt, is_p), omega (arith, lt', is_q))
merged_within Equal i k m n p q lt lt' is_p is_q = (omega (arith, lt, is_p), omega (arith, lt', is_q))
merged_within Greater i k m n p q lt lt' is_p is_q = (omega (arith, lt, is_p), omega (arith, lt', is_q))

-- at the end of either set, what is gathered and the rest of the other make the union
pub merged_end : (xs ys set more all : List (List ℕ)) (i k : ℕ) → IsSet xs → (length xs ≤ i) ⊎ (length ys ≤ k)
    → set ++ union (drop i xs) (drop k ys) ≡ union xs ys → more ≡ set ++ drop i xs → all ≡ more ++ drop k ys
    → all ≡ union xs ys
merged_end xs ys set more all i k own (inl none) is is_more is_all =
    let over = drop_all i xs none in
    is_all ∙ ap (λ (zs : List (List ℕ)). zs ++ drop k ys) (is_more ∙ ap (λ (zs : List (List ℕ)). set ++ zs) over
    ∙ append-nil set)
    ∙ ap (λ (zs : List (List ℕ)). set ++ union zs (drop k ys)) (sym over) ∙ is
merged_end xs ys set more all i k own (inr none) is is_more is_all =
    let over = drop_all k ys none in
    is_all ∙ ap (λ (zs : List (List ℕ)). more ++ zs) over ∙ append-nil more ∙ is_more
    ∙ ap (λ (zs : List (List ℕ)). set ++ zs) (sym (union_none (drop i xs) (set_drop i xs own)))
    ∙ ap (λ (zs : List (List ℕ)). set ++ union (drop i xs) zs) (sym over) ∙ is
