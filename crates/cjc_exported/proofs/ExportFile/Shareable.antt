-- Whether a class is shareable, by the names of its interfaces.
use Rattle.std.proofs.Common.{◌≡◌, refl, ap, ◌∙◌, List, [], ◌∷◌, map, ℕ}
use Rattle.std.specs.Prelude.{◌||◌, ◌&&◌}
use Rattle.std.specs.List.{list_any}
use Rattle.std.specs.Str.{bytes_eq}
use Rattle.cjc_world.specs.Bytes.AccessFlags.{is_interface}
use Rattle.cjc_world.specs.Classes.{Class}
use Rattle.cjc_world.specs.Exported.{shareable}
use Rattle.cjc_world.specs.Interfaces.{Interface, is_among}
use Rattle.cjc_components.specs.LowerClassOrder.Supers.Supers.{interfaces, name_of}
use Rattle.cjc_components.specs.LowerTokens.Methods.{interfaces_at}
use Rattle.cjc_components.specs.Class.{is_shareable}

any-named : (is : List Interface) (x : List ℕ) → list_any (λ n. bytes_eq n x) (map name_of is) ≡ is_among is x
any-named [] x = refl
any-named (i ∷ is) x = ap (λ b. bytes_eq i.name x || b) (any-named is x)

pub shareable-named : (w : List Class) (c : Class) (names : List (List ℕ)) → names ≡ interfaces w c
    → (list_any (λ n. bytes_eq n shareable) names || (is_interface c.flags && bytes_eq c.name shareable))
    ≡ is_shareable w c
unfolding interfaces_at
shareable-named w c names e =
    ap (λ xs. list_any (λ n. bytes_eq n shareable) xs || (is_interface c.flags && bytes_eq c.name shareable)) e
    ∙ ap (λ b. b || (is_interface c.flags && bytes_eq c.name shareable)) (any-named (interfaces_at w c) shareable)
