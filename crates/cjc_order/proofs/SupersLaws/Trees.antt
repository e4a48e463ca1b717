-- What the names of a tree are, name by name, where no class stands above itself.
use Rattle.std.proofs.Common.{◌≡◌, ℕ, zero, suc, ◌<◌, ◌≤◌, Bool, true, false, List, [], ◌∷◌, ◌++◌, map, Option, Some}
use Rattle.std.proofs.Common.{None, refl, sym, ap, ◌∙◌, length, get_or, append-nil, arith}
use Rattle.std.specs.List.{flat_map}
use Rattle.std.proofs.lemmas.List.{map-append}
use Rattle.std.proofs.lemmas.List.Concat.{flat_map-cons}
use Rattle.cjc_world.specs.Classes.{Class, class_named}
use Rattle.cjc_world.specs.Supertypes.{Supertypes, End, IsAcyclic, AreSupertypes, unknown_here, known_here, known_as}
use Rattle.cjc_world.specs.Supertypes.{supertypes_within, supertypes}
use Rattle.cjc_world.specs.Interfaces.{Interface, where_listed, gathered}
use Rattle.cjc_world.proofs.Cycles.{class_named-name}
use Rattle.cjc_world.proofs.Settled.{supertypes-AreSupertypes, AreSupertypes-one}
use Rattle.cjc_order.specs.Supers.Supers.{names_upwards, name_of}
use Rattle.cjc_order.specs.Supers.Working.Walk.{supers_in, interfaces_in, upwards_from, interfaces_from, size}

supertypes_none : (w : List Class) → supertypes w [] ≡ End
unfolding supertypes supertypes_within
supertypes_none w = refl

-- the tree of a name before others
supertypes_step : (w : List Class) → IsAcyclic w → (x : List ℕ) (xs : List (List ℕ)) → supertypes w (x ∷ xs)
    ≡ known_as (supertypes w) x (class_named w x) (supertypes w xs)
supertypes_step w acyclic x xs = AreSupertypes-one w (x ∷ xs) (supertypes w (x ∷ xs)) (known_as (supertypes w) x
    (class_named w x) (supertypes w xs)) (supertypes-AreSupertypes w acyclic (x ∷ xs)) (go (class_named w x) refl)
  where
    go : (o : Option Class) → class_named w x ≡ o
        → AreSupertypes w (x ∷ xs) (known_as (supertypes w) x o (supertypes w xs))
    go None e = unknown_here e (supertypes-AreSupertypes w acyclic xs)
    go (Some c) e = known_here e (supertypes-AreSupertypes w acyclic c.supers) (supertypes-AreSupertypes w acyclic
        c.interfaces) (supertypes-AreSupertypes w acyclic xs)

-- ---- superclasses

upwards_front : (w : List Class) (x : List ℕ) (o : Option Class) (next : Supertypes)
    → names_upwards (known_as (supertypes w) x o next) ≡ names_upwards (known_as (supertypes w) x o End)
    ++ names_upwards next
upwards_front w x None next = refl
upwards_front w x (Some c) next = ap (λ ns. c.name ∷ ns ++ names_upwards next)
    (sym (append-nil (names_upwards (supertypes w c.supers))))

-- the names of a tree are those of each name
pub upwards_names : (w : List Class) → IsAcyclic w → (xs : List (List ℕ)) → names_upwards (supertypes w xs)
    ≡ flat_map (upwards_from w) xs
upwards_names w acyclic [] = ap names_upwards (supertypes_none w)
upwards_names w acyclic (x ∷ xs) =
    ap names_upwards (supertypes_step w acyclic x xs)
    ∙ (upwards_front w x (class_named w x) (supertypes w xs)
    ∙ (ap (λ k. names_upwards (known_as (supertypes w) x (class_named w x) k) ++ names_upwards (supertypes w xs))
    (sym (supertypes_none w))
    ∙ (ap (λ k. names_upwards k ++ names_upwards (supertypes w xs)) (sym (supertypes_step w acyclic x []))
    ∙ (ap (λ ns. upwards_from w x ++ ns) (upwards_names w acyclic xs)
    ∙ sym (flat_map-cons (upwards_from w) x xs)))))

pub upwards_step : (w : List Class) → IsAcyclic w → (x : List ℕ) → upwards_from w x ≡ x
    ∷ flat_map (upwards_from w) (supers_in (class_named w x))
upwards_step w acyclic x = ap names_upwards (supertypes_step w acyclic x [])
    ∙ (ap (λ k. names_upwards (known_as (supertypes w) x (class_named w x) k)) (supertypes_none w)
    ∙ go (class_named w x) refl)
  where
    go : (o : Option Class) → class_named w x ≡ o → names_upwards (known_as (supertypes w) x o End) ≡ x
        ∷ flat_map (upwards_from w) (supers_in o)
    go None e = refl
    go (Some c) e =
        ap (λ ns. c.name ∷ ns) (append-nil (names_upwards (supertypes w c.supers)))
        ∙ (ap (λ n. n ∷ names_upwards (supertypes w c.supers)) (class_named-name w x c e)
        ∙ ap (λ ns. x ∷ ns) (upwards_names w acyclic c.supers))

-- ---- interfaces

abbrev names_in : Bool → Supertypes → List (List ℕ)
names_in listed k = map name_of (gathered listed k)

-- the name, where it is listed
abbrev pub where_named : Bool → List ℕ → List (List ℕ)
where_named true x = x ∷ []
where_named false x = []

where_mapped : (listed : Bool) (i : Interface) → map name_of (where_listed listed i) ≡ where_named listed i.name
where_mapped true i = refl
where_mapped false i = refl

-- what a name of a class, or of none, stands for in a tree
abbrev piece : List Class → Bool → List ℕ → Option Class → List (List ℕ)
piece w listed x None = where_named listed x
piece w listed x (Some c) = names_in false (supertypes w c.supers) ++ names_in true (supertypes w c.interfaces)
    ++ where_named listed c.name

gathered_piece : (w : List Class) (listed : Bool) (x : List ℕ) (o : Option Class) (next : Supertypes)
    → names_in listed (known_as (supertypes w) x o next) ≡ piece w listed x o ++ names_in listed next
unfolding gathered
gathered_piece w listed x None next =
    map-append name_of (where_listed listed (record { name = x; class = None })) (gathered listed next)
    ∙ ap (λ ns. ns ++ names_in listed next) (where_mapped listed (record { name = x; class = None }))
gathered_piece w listed x (Some c) next =
    let supers = gathered false (supertypes w c.supers) in
    let interfaces = gathered true (supertypes w c.interfaces) in
    let own = where_listed listed (record { name = c.name; class = Some c }) in
    map-append name_of (supers ++ interfaces ++ own) (gathered listed next)
    ∙ ap (λ ns. ns ++ names_in listed next) (
    map-append name_of (supers ++ interfaces) own
    ∙ (ap (λ ns. ns ++ map name_of own) (map-append name_of supers interfaces)
    ∙ ap (λ ns. (map name_of supers ++ map name_of interfaces) ++ ns) (where_mapped listed (record {
      name = c.name;
      class = Some c;
    }))))

none_gathered : (listed : Bool) → names_in listed End ≡ []
unfolding gathered
none_gathered listed = refl

from_piece : (w : List Class) → IsAcyclic w → (listed : Bool) (x : List ℕ) → interfaces_from w listed x
    ≡ piece w listed x (class_named w x)
from_piece w acyclic listed x =
    ap (names_in listed) (supertypes_step w acyclic x [])
    ∙ (gathered_piece w listed x (class_named w x) (supertypes w [])
    ∙ (ap (λ k. piece w listed x (class_named w x) ++ names_in listed k) (supertypes_none w)
    ∙ (ap (λ ns. piece w listed x (class_named w x) ++ ns) (none_gathered listed)
    ∙ append-nil (piece w listed x (class_named w x)))))

pub interface_names : (w : List Class) → IsAcyclic w → (listed : Bool) (xs : List (List ℕ))
    → map name_of (gathered listed (supertypes w xs)) ≡ flat_map (interfaces_from w listed) xs
interface_names w acyclic listed [] = ap (names_in listed) (supertypes_none w) ∙ none_gathered listed
interface_names w acyclic listed (x ∷ xs) =
    ap (names_in listed) (supertypes_step w acyclic x xs)
    ∙ (gathered_piece w listed x (class_named w x) (supertypes w xs)
    ∙ (ap (λ ns. ns ++ names_in listed (supertypes w xs)) (sym (from_piece w acyclic listed x))
    ∙ (ap (λ ns. interfaces_from w listed x ++ ns) (interface_names w acyclic listed xs)
    ∙ sym (flat_map-cons (interfaces_from w listed) x xs))))

pub interfaces_step : (w : List Class) → IsAcyclic w → (listed : Bool) (x : List ℕ)
    → interfaces_from w listed x ≡ (flat_map (interfaces_from w false) (supers_in (class_named w x))
    ++ flat_map (interfaces_from w true) (interfaces_in (class_named w x))) ++ where_named listed x
interfaces_step w acyclic listed x = from_piece w acyclic listed x ∙ go (class_named w x) refl
  where
    go : (o : Option Class) → class_named w x ≡ o
        → piece w listed x o ≡ (flat_map (interfaces_from w false) (supers_in o)
        ++ flat_map (interfaces_from w true) (interfaces_in o)) ++ where_named listed x
    go None e = refl
    go (Some c) e =
        ap (λ ns. (ns ++ names_in true (supertypes w c.interfaces)) ++ where_named listed c.name)
        (interface_names w acyclic false c.supers)
        ∙ (ap (λ ns. (flat_map (interfaces_from w false) c.supers ++ ns) ++ where_named listed c.name)
        (interface_names w acyclic true c.interfaces)
        ∙ ap (λ n. (flat_map (interfaces_from w false) c.supers ++ flat_map (interfaces_from w true) c.interfaces)
        ++ where_named listed n) (class_named-name w x c e))

-- ---- each step goes on over less

less_here : (w : List Class) (x : List ℕ) (o : Option Class) (next : Supertypes)
    → (size (supertypes w (supers_in o)) < size (known_as (supertypes w) x o next))
    × (size (supertypes w (interfaces_in o)) < size (known_as (supertypes w) x o next))
less_here w x None next = let none = ap size (supertypes_none w) in (omega (arith, none), omega (arith, none))
less_here w x (Some c) next = (omega arith, omega arith)

rest_fits : (w : List Class) (x : List ℕ) (o : Option Class) (next : Supertypes)
    → size next ≤ size (known_as (supertypes w) x o next)
rest_fits w x None next = omega arith
rest_fits w x (Some c) next = omega arith

abbrev IsLess : List Class → List ℕ → List (List ℕ) → Type 0
IsLess w x xs = (size (supertypes w (supers_in (class_named w x))) < size (supertypes w xs))
    × (size (supertypes w (interfaces_in (class_named w x))) < size (supertypes w xs))

pub less_above : (w : List Class) → IsAcyclic w → (xs : List (List ℕ)) (i : ℕ) (d : List ℕ) → i < length xs
    → IsLess w (get_or xs i d) xs
less_above w acyclic [] i d lt = absurd (omega (arith, lt))
less_above w acyclic (x ∷ xs) zero d lt =
    let here = less_here w x (class_named w x) (supertypes w xs) in
    let same = ap size (supertypes_step w acyclic x xs) in
    let supers = here.0 in
    let interfaces = here.1 in
    (omega (arith, supers, same), omega (arith, interfaces, same))
less_above w acyclic (x ∷ xs) (suc i) d lt =
    let later = less_above w acyclic xs i d (omega (arith, lt)) in
    let fits = rest_fits w x (class_named w x) (supertypes w xs) in
    let same = ap size (supertypes_step w acyclic x xs) in
    let supers = later.0 in
    let interfaces = later.1 in
    (omega (arith, supers, fits, same), omega (arith, interfaces, fits, same))

one_within : (w : List Class) (x : List ℕ) (o : Option Class) (next : Supertypes)
    → size (known_as (supertypes w) x o (supertypes w [])) ≤ size (known_as (supertypes w) x o next)
one_within w x None next = let none = ap size (supertypes_none w) in omega (arith, none)
one_within w x (Some c) next = let none = ap size (supertypes_none w) in omega (arith, none)

-- above one of the names stands no more than above all
pub within_all : (w : List Class) → IsAcyclic w → (xs : List (List ℕ)) (i : ℕ) (d : List ℕ) → i < length xs
    → size (supertypes w (get_or xs i d ∷ [])) ≤ size (supertypes w xs)
within_all w acyclic [] i d lt = absurd (omega (arith, lt))
within_all w acyclic (x ∷ xs) zero d lt =
    let within = one_within w x (class_named w x) (supertypes w xs) in
    let one = ap size (supertypes_step w acyclic x []) in
    let same = ap size (supertypes_step w acyclic x xs) in
    omega (arith, within, one, same)
within_all w acyclic (x ∷ xs) (suc i) d lt =
    let later = within_all w acyclic xs i d (omega (arith, lt)) in
    let fits = rest_fits w x (class_named w x) (supertypes w xs) in
    let same = ap size (supertypes_step w acyclic x xs) in
    omega (arith, later, fits, same)
