-- The maps of the interfaces at some places, and the places of a class's interfaces.
use Rattle.std.proofs.Common.{◌≡◌, ℕ, ◌+◌, ◌<◌, ◌≤◌, refl, sym, ap, ◌∙◌, arith, List, [], ◌∷◌, ◌++◌, length, map, drop}
use Rattle.std.proofs.Common.{get_or, add-one, append_assoc, append-nil}
use Rattle.std.proofs.Math.Seq.{drop-cons}
use Rattle.std.proofs.lemmas.Grind.{common_steps}
use Rattle.std.proofs.lemmas.List.{map-append}
use Rattle.std.specs.Prelude.{true, false, Option, Some, slice_get, option_to_list}
use Rattle.cjc_world.specs.Classes.{Class}
use Rattle.cjc_world.specs.Interfaces.{each_once, gathered, known}
use Rattle.cjc_world.specs.Supertypes.{supertypes}
use Rattle.cjc_world.specs.Working.Places.{at_places}
use Rattle.cjc_tokens.specs.Members.{Signature}
use Rattle.cjc_tokens.specs.Methods.{interfaces_at, interface_methods}
use Rattle.cjc_tokens.specs.Slots.{Slots}
use Rattle.cjc_vtable.specs.Tables.{interface_map, or_zero}
use Rattle.cjc_vtable.specs.Working.Naming.{index_of}
use Rattle.cjc_vtable.specs.declared.table.InterfaceMap.{InterfaceMap}

module _ (f : Class → InterfaceMap) (w : List Class) (places : List ℕ) (maps all : List InterfaceMap) where
  one_place : (i : ℕ) → i < length places → at_places w (drop i places)
      ≡ option_to_list (slice_get w (get_or places i 0)) ++ at_places w (drop (i + 1) places)
  unfolding at_places
  one_place i lt = ap (at_places w) (drop-cons places i 0 lt)
      ∙ ap (λ n. option_to_list (slice_get w (get_or places i 0)) ++ at_places w (drop n places)) (sym (add-one i))

  pub maps-next : (i : ℕ) (more : List InterfaceMap) → i < length places → more ≡ maps
      ++ map f (option_to_list (slice_get w (get_or places i 0))) → maps ++ map f (at_places w (drop i places)) ≡ all
      → more ++ map f (at_places w (drop (i + 1) places)) ≡ all
  maps-next i more lt e inv =
      let here = option_to_list (slice_get w (get_or places i 0)) in
      let rest = at_places w (drop (i + 1) places) in
      ap (λ q. q ++ map f rest) e
      ∙ append_assoc maps (map f here) (map f rest)
      ∙ ap (λ q. maps ++ q) (sym (map-append f here rest))
      ∙ ap (λ q. maps ++ map f q) (sym (one_place i lt))
      ∙ inv

  pub maps-end : (i : ℕ) → length places ≤ i → maps ++ map f (at_places w (drop i places)) ≡ all → maps ≡ all
  unfolding at_places
  maps-end i le inv =
      let past : drop i places ≡ [] = grind (arith, common_steps) in
      sym (append-nil maps) ∙ ap (λ q. maps ++ map f (at_places w q)) (sym past) ∙ inv

pub interfaces-are : (w : List Class) (c : Class) → known (each_once [] (gathered false (supertypes w c.supers)
    ++ gathered true (supertypes w c.interfaces))) ≡ known (interfaces_at w c)
unfolding interfaces_at
interfaces-are w c = refl

-- ---- one map

some-indices : (shown : Signature → Option ℕ) (ss : List Signature) → map (index_of shown) (map Some ss)
    ≡ map (λ s. or_zero (shown s)) ss
some-indices shown [] = refl
some-indices shown (s ∷ ss) = ap (λ q. or_zero (shown s) ∷ q) (some-indices shown ss)

made : List ℕ → List ℕ → InterfaceMap
made name index = record { interface = name; index = index }

pub map-is : (w : List Class) (shown : Signature → Option ℕ) (ms : Slots) (i : Class) (name index : List ℕ)
    → name ≡ i.name → index ≡ map (index_of shown) ms → ms ≡ map Some (interface_methods w i)
    → record { interface = name; index = index } ≡ interface_map w shown i
unfolding made
map-is w shown ms i name index e f g =
    ap (λ q. made q index) e ∙ ap (made i.name) (f ∙ ap (map (index_of shown)) g
    ∙ some-indices shown (interface_methods w i))
