-- Classes by their places in the order of the list, and lists of places without repeats.
use Rattle.std.specs.Prelude.{ℕ, suc, List, [], ◌∷◌, ◌++◌, ◌==◌, Bool, if◌then◌else◌, Option, Some, None, option_map, option_to_list, slice_get}
use Rattle.std.specs.List.{list_any}
use Rattle.std.specs.Str.{bytes_eq}
use Rattle.cjc_world.specs.Classes.{Class}

-- the place of the first class of a name
unfoldable pub place_named : List Class → List ℕ → Option ℕ
place_named [] name = None
place_named (c ∷ cs) name = if bytes_eq c.name name then Some 0 else option_map suc (place_named cs name)

-- the places of the names of these classes
unfoldable pub places_of : List Class → List Class → List ℕ
places_of w [] = []
places_of w (c ∷ cs) = option_to_list (place_named w c.name) ++ places_of w cs

-- the classes at these places
unfoldable pub at_places : List Class → List ℕ → List Class
at_places w [] = []
at_places w (p ∷ ps) = option_to_list (slice_get w p) ++ at_places w ps

abbrev pub is_in : ℕ → List ℕ → Bool
is_in p ps = list_any (λ q. q == p) ps

-- the first places, then of the second each one that is new, once
unfoldable pub joined : List ℕ → List ℕ → List ℕ
joined ps [] = ps
joined ps (q ∷ qs) = if is_in q ps then joined ps qs else joined (ps ++ q ∷ []) qs
