use Rattle.std.proofs.Common.{◌≡◌, ℕ, ◌+◌, refl, sym, ap, subst, ◌∙◌, arith, Bool, true, false, List, [], ◌∷◌}
use Rattle.std.specs.Prelude.{◌&&◌, not, Option, Some, None, is_some, map, nat_lt, slice_get, unwrap_or}
use Rattle.std.proofs.lemmas.Bool.Decides.{nat_tests}
use Rattle.cjc_bytes.specs.AccessFlags.{is_interface}
use Rattle.cjc_capread.specs.declared.tree.ClassRef.{ClassRef}
use Rattle.cjc_check_rules.specs.Spots.{in_info, starts}
use Rattle.cjc_check_rules.specs.Complete.{interface_size, class_size, described_size, map_size}
use Rattle.cjc_check_rules.specs.Classes.{first_interface, first_class, names_class, names_interface}
use Rattle.cjc_check_rules.specs.ClassRefs.{one_ref, each_ref, in_interface, interfaces_in_described, maps_begin}
use Rattle.cjc_check_rules.specs.ClassRefs.{in_map, in_maps, has_superclass, stands_earlier, super_in_class}
use Rattle.cjc_world.specs.Classes.{Class, class_named}
use Rattle.cjc_world.specs.Interfaces.{known}
use Rattle.cjc_world.specs.Supertypes.{Lists, foremost}
use Rattle.cjc_world.specs.Order.{in_order, class_order}
use Rattle.cjc_world.specs.Rules.{is_interface_of}
use Rattle.cjc_world.proofs.Cycles.{class_named-name}
use Rattle.cjc_world.proofs.Unbroken.{unbroken_is_acyclic}
use Rattle.cjc_tokens.specs.Lines.{line_at}
use Rattle.cjc_tokens.specs.Slots.{shown_token}
use Rattle.cjc_tokens.specs.Methods.{interfaces_at}
use Rattle.cjc_vtable.specs.declared.table.InterfaceMap.{InterfaceMap}
use Rattle.cjc_vtable.specs.Tables.{interface_map, table_of}
use Rattle.cjc_vtable.proofs.Filed.{Has, get-has}
use Rattle.cjc_components.specs.Package.{Package, world}
use Rattle.cjc_components.specs.Class.{class_entry, interface_entry, implemented, interfaces_of, superclass}
use Rattle.cjc_components.specs.Names.{class_ref}
use Rattle.cjc_components.specs.Descriptor.{class_descriptor}
use Rattle.cjc_token_proof.specs.Components.Whole.{exports_of}
use Rattle.cjc_token_proof.proofs.ComponentsLaws.Tests.{passes, none_in_both}
use Rattle.cjc_token_proof.specs.Tables.Sound.{IsSound}
use Rattle.cjc_token_proof.proofs.TablesLaws.Clean.{has_named, kept, own_name}
use Rattle.cjc_token_proof.proofs.TablesLaws.Filed.{one_class, own_filed}
use Rattle.cjc_token_proof.proofs.TablesLaws.Interfaces.{interface_is}
use Rattle.cjc_token_proof.proofs.TablesLaws.Lists.{right_supers}
use Rattle.cjc_token_proof.proofs.TablesLaws.Named.{has_entry}
use Rattle.cjc_token_proof.proofs.TablesLaws.Order.{kind-in, order_in, own_names}
use Rattle.cjc_check_proof.proofs.ClassesLaws.Earlier.{super_before}
use Rattle.cjc_check_proof.proofs.ClassesLaws.Supers.{class_named_is, interface_named, is_one}
use Rattle.cjc_check_proof.proofs.ClassesLaws.Lists.{has-mapped, none_along, none_placed, starts_rise}
use Rattle.cjc_check_proof.proofs.ClassesLaws.Refs.{class_some, info, own_ref}
use Rattle.cjc_check_proof.proofs.ClassesLaws.There.{super_known}
use Rattle.cjc_check_proof.proofs.classes.superclasses_are_classes.Goals as goal

module _ (list : List ℕ) (p : Package) (sound : IsSound list p.files) where
  abbrev w : List Class
  w = world p

  abbrev test : ClassRef → Bool
  test = names_interface (info p) (exports_of p)

  -- ---- interfaces

  one : (c : Class) → Has c w → (d : Class) → Has d (interfaces_of w c) → test (class_ref p d.name) ≡ true
  one c h d g =
      let named = own_name list p.files sound c h in
      let r = interface_is w (unbroken_is_acyclic list p.files sound.unbroken) c c.name d named g in
      interface_named list p sound d r.0 (is_one list p sound c.name c d named g)

  listed : (tag : ℕ) (c : Class) (at : ℕ) → Has c w
      → each_ref test tag at (map (λ s. class_ref p s.name) (interfaces_of w c)) ≡ []
  listed tag c at h = none_along (λ r. 2) (one_ref test tag) (λ (s : Class). class_ref p s.name) at (interfaces_of w c)
      (λ k d g. passes _ (in_info tag k) (one c h d g))

  maps_name : (c : Class) (at : ℕ) → Has c w → in_maps test at (class_entry (class_ref p) p c) ≡ []
  maps_name c at h =
      let table = table_of w c in
      none_along map_size (in_map test) (implemented (class_ref p)) (maps_begin at (class_entry (class_ref p) p c))
      table.maps (λ k m g.
      let r = has-mapped (interface_map w (shown_token (line_at w c))) m (known (interfaces_at w c)) g in
      passes _ (in_info 6 k) (ap (λ (n : InterfaceMap). test (class_ref p n.interface)) (sym r.2) ∙ one c h r.0 r.1))

  -- ---- superclasses

  both : (a b : Bool) → a ≡ true → b ≡ true → (a && b) ≡ true
  both true true e f = refl
  both true false e f = absurd (cc)
  both false b e f = absurd (cc)

  abbrev has_superclass_of : (at : ℕ) → ClassRef → Bool
  has_superclass_of at ref = names_class (info p) (exports_of p) ref && stands_earlier ref at

  -- a superclass that some file has
  super_is : (k s : ℕ) (c d : Class) (y : List ℕ) → slice_get (in_order w false) k ≡ Some c
      → slice_get (starts class_size (first_class (info p)) (map (class_entry (class_ref p) p) (in_order w false))) k
      ≡ Some s
      → Has c w → Lists y c.supers → class_named w y ≡ Some d → has_superclass_of s (class_ref p d.name) ≡ true
  super_is k s c d y e start h l named =
      both (names_class (info p) (exports_of p) (class_ref p d.name)) (stands_earlier (class_ref p d.name) s)
      (class_named_is list p sound d (ap (class_named w) (class_named-name w y d named) ∙ named) kind)
      (by d.is_imported refl)
    where
      kind : is_interface d.flags ≡ false
      kind = let r = right_supers w c (let k = kept list p.files sound c h in k.supers)
          in sym (ap is_interface_of named) ∙ r.supers y l

      g : Has d w
      g = has_named w y d named

      by : (b : Bool) → d.is_imported ≡ b → stands_earlier (class_ref p d.name) s ≡ true
      by true f = let r = has_entry list p sound d g f in ap (λ o. stands_earlier o s) r.ref
      by false f =
          let r = super_before w false d y named f (ap not kind) k c e l in
          let m = kind-in list p.files sound false r.1 (get-has r.1 (in_order w false) r.0 r.3) in
          let is : r.1 ≡ d = one_class p.files sound.classes sound.exports r.1 d m.0 g (m.1 ∙ sym f) r.4 in
          let at = own_ref p (own_names list p.files sound) r.0 d (subst (λ (v : Class). slice_get (in_order w false)
          r.0 ≡ Some v) is r.3) in
          let lt = starts_rise class_size (first_class (info p)) (map (class_entry (class_ref p) p) (in_order w false))
          r.0 k at.0 s class_some r.2 at.1 start in
          ap (λ o. stands_earlier o s) at.2 ∙ (let less : nat_lt at.0 s ≡ true = grind (arith, nat_tests, lt) in less)

  super_of : (k s : ℕ) (c : Class) → slice_get (in_order w false) k ≡ Some c
      → slice_get (starts class_size (first_class (info p)) (map (class_entry (class_ref p) p) (in_order w false))) k
      ≡ Some s
      → Has c w → c.is_imported ≡ false → has_superclass (info p) (exports_of p) s (class_entry (class_ref p) p c)
      ≡ true
  super_of k s c e start h own =
      let r = own_filed p.files sound.classes sound.exports c h own in
      let t = r.1 in
      let is : c.supers ≡ t.superclass ∷ [] = ap (λ (v : Class). v.supers) r.3 in
      let name : superclass c ≡ t.superclass = ap (λ xs. unwrap_or (slice_get xs 0) []) is in
      ap (λ y. has_superclass_of s (class_ref p y)) name ∙ by t.superclass (class_named w t.superclass) refl
      (super_known list p sound c t.superclass h own is) (subst (Lists t.superclass) (sym is) foremost)
    where
      by : (y : List ℕ) (o : Option Class) → class_named w y ≡ o → is_some (class_named w y) ≡ true → Lists y c.supers
          → has_superclass_of s (class_ref p y) ≡ true
      by y None f g l = absurd (let no : is_some (class_named w y) ≡ false = ap is_some f in cc)
      by y (Some d) f g l = ap (λ x. has_superclass_of s (class_ref p x)) (sym (class_named-name w y d f))
          ∙ super_is k s c d y e start h l f

pub returns : goal.returns
returns c list p sound =
    none_in_both (none_in_both
    (none_along interface_size (in_interface (test list p sound)) (interface_entry (class_ref p) (world p))
    first_interface (in_order (world p) true)
    (λ at i h. listed list p sound 6 i (at + 1) (kind-in list p.files sound true i h).0))
    (none_placed class_size (super_in_class (info p) (exports_of p)) (class_entry (class_ref p) p)
    (first_class (info p)) (in_order (world p) false)
    (λ k s x e start.
    let r = kind-in list p.files sound false x (get-has x (in_order (world p) false) k e) in
    none_in_both (passes _ (in_info 6 (s + 1)) (super_of list p sound k s x e start r.0 r.1)) (maps_name list p sound x
    s r.0))))
    (none_along described_size (interfaces_in_described (test list p sound)) (class_descriptor p) 1
    (class_order (world p)) (λ at x h. listed list p sound 11 x (at + 9) (order_in list p.files sound x h).0))
