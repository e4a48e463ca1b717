-- The map that a package wrote for a class and one of its interfaces gives on the card, where packages are loaded
-- together, the tokens that the class has for the methods of the interface.
use Rattle.std.proofs.Common.{◌≡◌, ℕ, sym, ap, ◌∙◌, Bool, true, false, List, [], ◌∷◌, map}
use Rattle.std.specs.Prelude.{Option, Some, option_map, slice_get, if◌then◌else◌}
use Rattle.std.specs.Str.{bytes_eq}
use Rattle.cjc_components.specs.Package.{Package, world}
use Rattle.cjc_token_proof.proofs.BytesGets.{get_mapped}
use Rattle.cjc_token_proof.proofs.WrittenCalls.Facts.{Facts}
use Rattle.cjc_tokens.specs.Lines.{line_at, line_in}
use Rattle.cjc_tokens.specs.Members.{Signature}
use Rattle.cjc_tokens.specs.Methods.{interface_methods, interfaces_at}
use Rattle.cjc_tokens.specs.Slots.{shown_token}
use Rattle.cjc_vtable.proofs.Worlds.{shown-place}
use Rattle.cjc_vtable.specs.Laws.{interface_named}
use Rattle.cjc_vtable.specs.Tables.{interface_map, or_zero}
use Rattle.cjc_world.proofs.Settled.{supertypes-known}
use Rattle.cjc_world.specs.Classes.{Class}
use Rattle.cjc_world.specs.Interfaces.{known}
use Rattle.cjc_joint_proof.specs.JointPackages.{files_together}
use Rattle.cjc_joint_proof.proofs.ClassLaws.{together_at}
use Rattle.cjc_joint_theorem.proofs.OrderedLaws.Standing.{class_stands}
use Rattle.cjc_joint_whole.specs.Faces.{MapsGoUp, MapsTell, map_or}
use Rattle.cjc_joint_whole.specs.Selected.{SelectTogether}

-- the map of an interface that is one of these
own_map : (w : List Class) (shown : Signature → Option ℕ) (is : List Class) (name : List ℕ) (over : Option (List ℕ))
    (i : Class) → interface_named is name ≡ Some i → map_or (map (interface_map w shown) is) name over
    ≡ Some (map (λ s. or_zero (shown s)) (interface_methods w i))
own_map w shown [] name over i e = cc
own_map w shown (j ∷ is) name over i e = by (bytes_eq j.name name) e (own_map w shown is name over i)
  where
    by : (b : Bool) → (if b then Some j else interface_named is name) ≡ Some i → (interface_named is name ≡ Some i
        → map_or (map (interface_map w shown) is) name over
        ≡ Some (map (λ s. or_zero (shown s)) (interface_methods w i)))
        → (if b then Some (map (λ s. or_zero (shown s)) (interface_methods w j))
        else map_or (map (interface_map w shown) is) name over)
        ≡ Some (map (λ s. or_zero (shown s)) (interface_methods w i))
    by true e rest = let same_one : j ≡ i = cc in ap (λ q. Some (map (λ s. or_zero (shown s)) (interface_methods w q)))
        same_one
    by false e rest = rest e

module _ (packages : List Package) (is : SelectTogether packages) (facts : (q : ℕ) (p : Package)
    → slice_get packages q ≡ Some p → Facts p) (goes : MapsGoUp packages) where
  pub maps_tell : MapsTell packages
  maps_tell q p here x c known_x mine plain y i is_i among k s at t its =
      let v = world p in
      let f = facts q p here in
      let r = f.rules in
      let u = r.single x c known_x mine in
      let shown = shown_token (line_at v c) in
      let hs = class_stands (files_together packages) is.ordered q p.files (together_at packages is.linked q p here) y i
      is_i in (
        map (λ z. or_zero (shown z)) (interface_methods v i),
        goes q p here x c known_x mine plain u.0 u.1 y hs.class hs.named
            ∙ own_map v shown (known (interfaces_at v c)) y _ i among,
        get_mapped (λ z. or_zero (shown z)) (interface_methods v i) k
            ∙ ap (option_map (λ z. or_zero (shown z))) at
            ∙ ap (λ l. Some (or_zero (shown_token l s))) (sym (ap (line_in v) (supertypes-known v r.acyclic x c known_x)))
            ∙ ap (λ o. Some (or_zero o)) (shown-place v f.are_supertypes f.one_supertypes r x c s known_x (λ import.
            plain) ∙ its),
      )
