-- Classes by their places in the order of the list, and lists of places without repeats.
use Rattle.std.specs.Prelude.{ℕ, suc, List, [], ◌∷◌, ◌++◌, ◌==◌, ◌||◌, Bool, false, if◌then◌else◌, Option, Some, None}
use Rattle.std.specs.Prelude.{◌≡◌, option_and_then, option_map, option_to_list, slice_get}
use Rattle.std.specs.List.{list_any}
use Rattle.std.specs.Str.{bytes_eq}
use Rattle.cjc_world.specs.declared.found.Found.{Found}
use Rattle.cjc_world.specs.Classes.{Class}
use Rattle.cjc_world.specs.Lookup.{or_else, first, own_field, own_method}

-- the place of the first class of a name
unfoldable pub place_named : List Class → List ℕ → Option ℕ
place_named [] name = None
place_named (c ∷ cs) name = if bytes_eq c.name name then Some 0 else option_map suc (place_named cs name)

-- the places of the names of these classes
unfoldable pub places_of : List Class → List Class → List ℕ
places_of w [] = []
places_of w (c ∷ cs) = option_to_list (place_named w c.name) ++ places_of w cs

-- the classes at these places
unfoldable pub at_places : List Class → List ℕ → List Class
at_places w [] = []
at_places w (p ∷ ps) = option_to_list (slice_get w p) ++ at_places w ps

-- the place is one of these
abbrev pub is_in : ℕ → List ℕ → Bool
is_in p ps = list_any (λ q. q == p) ps

-- the first places, then of the second each one that is new, once
unfoldable pub joined : List ℕ → List ℕ → List ℕ
joined ps [] = ps
joined ps (q ∷ qs) = if is_in q ps then joined ps qs else joined (ps ++ q ∷ []) qs

-- what the first place that answers does
unfoldable pub first_place : (ℕ → Option Found) → List ℕ → Option Found
first_place own [] = None
first_place own (p ∷ ps) = or_else (own p) (first_place own ps)

-- What the first of these places answers is what the first of these classes does.
abbrev pub IsWalk : List Class → List Class → List ℕ → Type 0
IsWalk w classes places = (own : Class → Option Found) → first_place (λ p. option_and_then own (slice_get w p)) places
    ≡ first own classes

-- ---- what the class at a place answers

-- the field that the class declares; none where there is no class
abbrev pub field_of : (name desc : List ℕ) → Option Class → Option Found
field_of name desc None = None
field_of name desc (Some c) = own_field name desc c

-- the method that the class declares; selection passes over private and static ones
abbrev pub method_of : (selecting : Bool) → (name desc : List ℕ) → Option Class → Option Found
method_of selecting name desc None = None
method_of selecting name desc (Some c) = own_method selecting name desc c

-- there is a class, and it has the name
abbrev pub has_name : List ℕ → Option Class → Bool
has_name name None = false
has_name name (Some c) = bytes_eq c.name name

-- the class has the name, or lists it
abbrev pub names : List ℕ → Class → Bool
names name c = bytes_eq c.name name || (list_any (λ x. bytes_eq x name) c.supers
    || list_any (λ x. bytes_eq x name) c.interfaces)

-- there is a class, and it has the name or lists it
abbrev pub names_of : List ℕ → Option Class → Bool
names_of name None = false
names_of name (Some c) = names name c

-- the class has the name, or lists it as a super
abbrev pub names_super : List ℕ → Class → Bool
names_super name c = bytes_eq c.name name || list_any (λ x. bytes_eq x name) c.supers

-- there is a class, and it has the name or lists it as a super
abbrev pub names_super_of : List ℕ → Option Class → Bool
names_super_of name None = false
names_super_of name (Some c) = names_super name c
