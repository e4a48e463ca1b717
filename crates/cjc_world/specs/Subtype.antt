-- When one type is a subtype of another: classes by what stands above them, and arrays.
use Rattle.std.specs.Prelude.{ℕ, ◌-◌, List, [], ◌∷◌, length, take, Bool, false, not, ◌&&◌, ◌||◌, ◌==◌, if◌then◌else◌}
use Rattle.std.specs.Str.{bytes_eq}
use Rattle.cjc_world.specs.Classes.{Class}
use Rattle.cjc_world.specs.Supertypes.{supertypes, stands}
use Rattle.cjc_world.specs.Lookup.{object}

-- a class or interface, by its name: it is the other, or the other stands above it
unfoldable pub is_subclass : List Class → List ℕ → List ℕ → Bool
is_subclass w sub sup = stands sup (supertypes w (sub ∷ []))

-- 91 is [, 76 is L
abbrev pub starts : ℕ → List ℕ → Bool
starts b [] = false
starts b (c ∷ cs) = c == b

-- the name of the class of L, a name and ;
abbrev pub inner : List ℕ → List ℕ
inner [] = []
inner (b ∷ bs) = take (length bs - 1) bs

-- what stands behind [
abbrev pub element : List ℕ → List ℕ
element [] = []
element (b ∷ bs) = bs

-- an array is java/lang/Object and what stands above it
abbrev pub array_is : List Class → List ℕ → Bool
array_is w sup = is_subclass w object sup

-- Types of elements, as descriptors. They are one, or both are references and the first is a subtype of the second.
unfoldable pub is_element : List Class → List ℕ → List ℕ → Bool
is_element w [] sup = bytes_eq [] sup
is_element w (b ∷ bs) sup =
    bytes_eq (b ∷ bs) sup
    || (if b == 91 then (if starts 91 sup then is_element w bs (element sup) else starts 76 sup
    && array_is w (inner sup))
    else (b == 76) && starts 76 sup && is_subclass w (take (length bs - 1) bs) (inner sup))

-- Types by name: that of a class, or the descriptor of an array. Arrays are java/lang/Object and its supers, and
-- covariant in references at all depths.
unfoldable pub is_subtype : List Class → List ℕ → List ℕ → Bool
is_subtype w sub sup =
    if starts 91 sub then (if starts 91 sup then is_element w (element sub) (element sup) else array_is w sup)
    else not (starts 91 sup) && is_subclass w sub sup
