-- Whether an interface is among those of a class, by their names.
use Rattle.std.proofs.Common.{◌≡◌, refl, sym, ap, List, [], ◌∷◌, ◌++◌, ℕ, map}
use Rattle.std.specs.Prelude.{◌||◌, true, false}
use Rattle.std.specs.List.{list_any}
use Rattle.std.specs.Str.{bytes_eq}
use Rattle.cjc_world.specs.Classes.{Class}
use Rattle.cjc_world.specs.Supertypes.{supertypes}
use Rattle.cjc_world.specs.Interfaces.{Interface, each_once, gathered, is_among}
use Rattle.cjc_components.specs.LowerClassOrder.Supers.Supers.{interfaces, name_of}
use Rattle.cjc_tokens.specs.Methods.{interfaces_at}

among_names : (is : List Interface) (name : List ℕ) → is_among is name ≡ list_any (λ x. bytes_eq x name)
    (map name_of is)
among_names [] name = refl
among_names (i ∷ is) name = ap (λ b. bytes_eq i.name name || b) (among_names is name)

pub shares : (w : List Class) (c : Class) (name : List ℕ) → list_any (λ x. bytes_eq x name) (interfaces w c)
    ≡ is_among (interfaces_at w c) name
unfolding interfaces_at
shares w c name = sym (among_names (each_once [] (gathered false (supertypes w c.supers)
    ++ gathered true (supertypes w c.interfaces))) name)
