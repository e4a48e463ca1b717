-- Lists of names that are closed under the types that arrays hold, and how many names they have.
use Rattle.std.proofs.Common.{◌≡◌, ◌⊎◌, ℕ, zero, suc, ◌+◌, ◌-◌, ◌*◌, ◌≤◌, ◌==◌, Bool, true, false, cond, List, [], ◌∷◌}
use Rattle.std.proofs.Common.{◌++◌, map, length, take, Option, Some, None, refl, sym, ap, subst, ◌∙◌, inl, inr, arith}
use Rattle.std.specs.declared.cmp.Ordering.{Ordering}
use Rattle.std.specs.declared.cmp.Ordering.TheVariants.{Less, Equal, Greater}
use Rattle.std.proofs.lemmas.List.{length-append}
use Rattle.cjc_bytes.specs.Descriptor.{Part}
use Rattle.cjc_bytes.specs.Spots.{role_of, cut_by, types_from, types, part_of}
use Rattle.cjc_world.specs.Subtype.{starts, inner}
use Rattle.cjc_types.specs.Names.{compare, In, IsSet, IsWithin, placed, insert, union}
use Rattle.cjc_types.specs.Working.NameLaws.{union_left, union_least, set_union}
use Rattle.cjc_types.specs.Types.{array_of, held_by, held}

-- ---- what an array holds

take_short : (n : ℕ) (xs : List ℕ) → length (take n xs) ≤ length xs
take_short zero xs = omega arith
take_short (suc n) [] = omega arith
take_short (suc n) (x ∷ xs) = let le = take_short n xs in omega (arith, le)

inner_short : (name : List ℕ) → length (inner name) ≤ length name
inner_short [] = omega arith
inner_short (b ∷ bs) = let le = take_short (length bs - 1) bs in omega (arith, le)

held_by_short : (name m : List ℕ) → held_by name ≡ Some m → length m ≤ length name
held_by_short name m e = go (starts 91 name) (starts 76 name) e
  where
    go : (a b : Bool) → cond a (Some name) (cond b (Some (inner name)) None) ≡ Some m → length m ≤ length name
    go true b f = let same : name ≡ m = cc in let l = ap length same in omega (arith, l)
    go false true f = let same : inner name ≡ m = cc in let l = ap length same in let le = inner_short name
        in omega (arith, l, le)
    go false false f = absurd cc

held_shorter : (name m : List ℕ) → held name ≡ Some m → suc (length m) ≤ length name
held_shorter [] m e = absurd cc
held_shorter (b ∷ bs) m e = go (b == 91) e
  where
    go : (a : Bool) → cond a (held_by bs) None ≡ Some m → suc (length m) ≤ suc (length bs)
    go true f = let le = held_by_short bs m f in omega (arith, le)
    go false f = absurd cc

-- ---- a name, what it holds, what that holds, and so on

abbrev with_next : Option (List ℕ) → (List ℕ → List (List ℕ)) → List (List ℕ)
with_next None more = []
with_next (Some m) more = more m

chain_from : ℕ → List ℕ → List (List ℕ)
chain_from zero name = name ∷ []
chain_from (suc k) name = name ∷ with_next (held name) (λ m. chain_from k m)

chain_first : (k : ℕ) (name : List ℕ) → In name (chain_from k name)
unfolding chain_from
chain_first zero name = inl refl
chain_first (suc k) name = inl refl

chain_length : (k : ℕ) (name : List ℕ) → length (chain_from k name) ≤ suc k
unfolding chain_from
chain_length zero name = omega arith
chain_length (suc k) name = go (held name) (λ m. chain_length k m)
  where
    go : (o : Option (List ℕ)) → ((m : List ℕ) → length (chain_from k m) ≤ suc k)
        → length (name ∷ with_next o (λ m. chain_from k m)) ≤ suc (suc k)
    go None few = omega arith
    go (Some m) few = let le = few m in omega (arith, le)

chain_closed : (k : ℕ) (name n m : List ℕ) → length name ≤ k → In n (chain_from k name) → held n ≡ Some m
    → In m (chain_from k name)
unfolding chain_from
chain_closed zero name n m small (inl same) e =
    let less = held_shorter n m e in
    let l = ap length same in
    absurd (omega (arith, less, l, small))
chain_closed zero name n m small (inr none) e = absurd none
chain_closed (suc k) name n m small (inl same) e =
    let is : held name ≡ Some m = ap held same ∙ e in
    inr (subst (λ (o : Option (List ℕ)). In m (with_next o (λ z. chain_from k z))) (sym is) (chain_first k m))
chain_closed (suc k) name n m small (inr later) e =
    inr (go (held name) refl later (λ y less there. chain_closed k y n m less there e))
  where
    go : (o : Option (List ℕ)) → held name ≡ o → In n (with_next o (λ z. chain_from k z)) → ((y : List ℕ) → length y ≤ k
        → In n (chain_from k y) → In m (chain_from k y)) → In m (with_next o (λ z. chain_from k z))
    go None is there closed = absurd there
    go (Some y) is there closed =
        let less = held_shorter name y is in
        closed y (omega (arith, less, small)) there

-- ---- those of many names

pub in_left : (n : List ℕ) (xs ys : List (List ℕ)) → In n xs → In n (xs ++ ys)
in_left n [] ys h = absurd h
in_left n (x ∷ xs) ys (inl same) = inl same
in_left n (x ∷ xs) ys (inr later) = inr (in_left n xs ys later)

pub in_right : (n : List ℕ) (xs ys : List (List ℕ)) → In n ys → In n (xs ++ ys)
in_right n [] ys h = h
in_right n (x ∷ xs) ys h = inr (in_right n xs ys h)

in_either : (n : List ℕ) (xs ys : List (List ℕ)) → In n (xs ++ ys) → In n xs ⊎ In n ys
in_either n [] ys h = inr h
in_either n (x ∷ xs) ys (inl same) = inl (inl same)
in_either n (x ∷ xs) ys (inr later) = elim (in_either n xs ys later) [ inl is ↦ inl (inr is) | inr is ↦ inr is ]

chains : List (List ℕ) → List (List ℕ)
chains [] = []
chains (x ∷ xs) = chain_from (length x) x ++ chains xs

chains_have : (n : List ℕ) (xs : List (List ℕ)) → In n xs → In n (chains xs)
unfolding chains
chains_have n [] h = absurd h
chains_have n (x ∷ xs) (inl same) = subst (λ (m : List ℕ). In m (chain_from (length x) x ++ chains xs)) same
    (in_left x (chain_from (length x) x) (chains xs) (chain_first (length x) x))
chains_have n (x ∷ xs) (inr later) = in_right n (chain_from (length x) x) (chains xs) (chains_have n xs later)

chains_closed : (xs : List (List ℕ)) (n m : List ℕ) → In n (chains xs) → held n ≡ Some m → In m (chains xs)
unfolding chains
chains_closed [] n m h e = absurd h
chains_closed (x ∷ xs) n m h e = elim (in_either n (chain_from (length x) x) (chains xs) h) [
  | inl is ↦ in_left m (chain_from (length x) x) (chains xs) (chain_closed (length x) x n m (omega arith) is e)
  | inr is ↦ in_right m (chain_from (length x) x) (chains xs) (chains_closed xs n m is e)
]

-- the bytes of names, and one for each
unfoldable pub weight : List (List ℕ) → ℕ
weight [] = 0
weight (x ∷ xs) = suc (length x) + weight xs

chains_few : (xs : List (List ℕ)) → length (chains xs) ≤ weight xs
unfolding chains weight
chains_few [] = omega arith
chains_few (x ∷ xs) =
    let first = chain_length (length x) x in
    let rest = chains_few xs in
    let both = length-append (chain_from (length x) x) (chains xs) in
    omega (arith, first, rest, both)

pub weight-append : (xs ys : List (List ℕ)) → weight (xs ++ ys) ≡ weight xs + weight ys
unfolding weight
weight-append [] ys = omega arith
weight-append (x ∷ xs) ys = let rest = weight-append xs ys in omega (arith, rest)

-- ---- as a set

insert_few : (n : List ℕ) (xs : List (List ℕ)) → length (insert n xs) ≤ suc (length xs)
insert_few n [] = omega arith
insert_few n (x ∷ xs) = go (compare n x) (insert_few n xs)
  where
    go : (o : Ordering) → length (insert n xs) ≤ suc (length xs) → length (placed o n x xs (insert n xs)) ≤ suc
        (suc (length xs))
    go Less le = omega arith
    go Equal le = omega arith
    go Greater le = omega (arith, le)

union_few : (xs ys : List (List ℕ)) → length (union xs ys) ≤ length xs + length ys
union_few [] ys = omega arith
union_few (x ∷ xs) ys =
    let rest = union_few xs (insert x ys) in
    let first = insert_few x ys in
    omega (arith, rest, first)

-- A set of names that has these, and what each array of it holds.
pub record IsClosing (xs names : List (List ℕ)) : Type 0 where
  pub set : IsSet names
  pub few : length names ≤ weight xs
  pub has : IsWithin xs names
  pub held : (n m : List ℕ) → In n names → held n ≡ Some m → In m names

pub closing : List (List ℕ) → List (List ℕ)
closing xs = union (chains xs) []

pub closing_is : (xs : List (List ℕ)) → IsClosing xs (closing xs)
unfolding closing
closing_is xs = record {
  set = set_union (chains xs) [] tt;
  few = let a = union_few (chains xs) [] in let b = chains_few xs in omega (arith, a, b);
  has = λ n is. union_left (chains xs) [] n (chains_have n xs is);
  held = λ n m is e. union_left (chains xs) [] m (chains_closed xs n m (union_least (chains xs) [] (chains xs)
      (λ k h. h) (λ k h. absurd h) n is) e);
}

-- ---- the types of a descriptor

abbrev pub class_in : (type : List ℕ) → List ℕ
class_in type = (part_of type).class

pub pick : {T : Type 0} (P : T → Type 0) (b : Bool) (x y : T) → P x → P y → P (cond b x y)
pick P true x y h k = h
pick P false x y h k = k

class_short : (type : List ℕ) → length (class_in type) ≤ length type
class_short [] = omega arith
class_short (b ∷ bs) =
    let le = take_short (length bs - 1) bs in
    let array : suc (length bs) ≤ suc (length bs) = omega arith in
    let object : length (take (length bs - 1) bs) ≤ suc (length bs) = omega (arith, le) in
    let base : 0 ≤ suc (length bs) = omega arith in
    pick (λ (p : Part). length p.class ≤ suc (length bs)) (b == 91) _ _ array
    (pick (λ (p : Part). length p.class ≤ suc (length bs)) (b == 76) _ _ object base)

-- behind a byte of a descriptor, whatever it is to the type that it may belong to
cut_weight : (begun : List ℕ) (b : ℕ) (bs : List ℕ) (in_name : Bool) → ((more : List ℕ) (open_name : Bool)
    → weight (map class_in (types_from more open_name bs)) ≤ length more + 2 * length bs)
    → weight (map class_in (cut_by (role_of in_name b) (begun ++ b ∷ []) (λ more open_name. types_from more open_name
    bs))) ≤ length begun + 2 * suc (length bs)
unfolding weight
cut_weight begun b bs in_name rest = go in_name
  where
    between : weight (map class_in (types_from [] false bs)) ≤ length begun + 2 * suc (length bs)
    between = let le = rest [] false in omega (arith, le)

    inside : (name : Bool) → weight (map class_in (types_from (begun ++ b ∷ []) name bs)) ≤ length begun + 2 * suc
        (length bs)
    inside name =
        let le = rest (begun ++ b ∷ []) name in
        let l = length-append begun (b ∷ []) in
        omega (arith, le, l)

    last : weight (map class_in ((begun ++ b ∷ []) ∷ types_from [] false bs)) ≤ length begun + 2 * suc (length bs)
    last =
        let le = rest [] false in
        let l = length-append begun (b ∷ []) in
        let c = class_short (begun ++ b ∷ []) in
        omega (arith, le, l, c)

    go : (name : Bool)
        → weight (map class_in (cut_by (role_of name b) (begun ++ b ∷ []) (λ more open_name. types_from more open_name
        bs))) ≤ length begun + 2 * suc (length bs)
    go true = pick (λ role. weight (map class_in (cut_by role (begun ++ b ∷ []) (λ more open_name. types_from more
        open_name bs))) ≤ length begun + 2 * suc (length bs)) (b == 59) _ _ last (inside true)
    go false =
        pick (λ role. weight (map class_in (cut_by role (begun ++ b ∷ []) (λ more open_name. types_from more open_name
        bs))) ≤ length begun + 2 * suc (length bs)) (b == 91) _ _ (inside false)
        (pick (λ role. weight (map class_in (cut_by role (begun ++ b ∷ []) (λ more open_name. types_from more open_name
        bs))) ≤ length begun + 2 * suc (length bs)) (b == 76) _ _ (inside true)
        (pick (λ role. weight (map class_in (cut_by role (begun ++ b ∷ []) (λ more open_name. types_from more open_name
        bs))) ≤ length begun + 2 * suc (length bs)) (b == 40) _ _ between
        (pick (λ role. weight (map class_in (cut_by role (begun ++ b ∷ []) (λ more open_name. types_from more open_name
        bs))) ≤ length begun + 2 * suc (length bs)) (b == 41) _ _ between last)))

types_weight : (begun : List ℕ) (in_name : Bool) (bytes : List ℕ)
    → weight (map class_in (types_from begun in_name bytes)) ≤ length begun + 2 * length bytes
unfolding types_from weight
types_weight begun in_name [] = omega arith
types_weight begun in_name (b ∷ bs) = cut_weight begun b bs in_name (λ more open_name. types_weight more open_name bs)

-- ---- the names that a text may be written for

-- the text as a class, the array of it, and the classes of its types as a descriptor
abbrev pub readings_of : (text : List ℕ) → List (List ℕ)
readings_of text = text ∷ array_of text ∷ map class_in (types text)

array_short : (name : List ℕ) → length (array_of name) ≤ 3 + length name
array_short name = go (starts 91 name)
  where
    go : (b : Bool) → length (cond b (91 ∷ name) (91 ∷ 76 ∷ name ++ 59 ∷ [])) ≤ 3 + length name
    go true = omega arith
    go false = let l = length-append name (59 ∷ []) in omega (arith, l)

readings_weight : (text : List ℕ) → weight (readings_of text) ≤ 5 + 4 * length text
unfolding weight
readings_weight text =
    let array = array_short text in
    let rest = types_weight [] false text in
    omega (arith, array, rest)

unfoldable pub all_readings : List (List ℕ) → List (List ℕ)
all_readings [] = []
all_readings (t ∷ ts) = readings_of t ++ all_readings ts

pub readings_have : (ts : List (List ℕ)) (t n : List ℕ) → In t ts → In n (readings_of t) → In n (all_readings ts)
unfolding all_readings
readings_have [] t n h is = absurd h
readings_have (u ∷ us) t n (inl same) is = in_left n (readings_of u) (all_readings us)
    (subst (λ (x : List ℕ). In n (readings_of x)) (sym same) is)
readings_have (u ∷ us) t n (inr later) is = in_right n (readings_of u) (all_readings us) (readings_have us t n later is)

pub readings_few : (t : List ℕ) (ts : List (List ℕ)) → weight (all_readings (t ∷ ts)) ≤ 5 + 4 * length t + weight
    (all_readings ts)
unfolding all_readings
readings_few t ts =
    let first = readings_weight t in
    let both = weight-append (readings_of t) (all_readings ts) in
    omega (arith, first, both)

pub no_readings : weight (all_readings []) ≡ 0
unfolding all_readings weight
no_readings = refl
