use Rattle.std.proofs.Common.{◌≡◌, ℕ, ◌+◌, refl, sym, ap, ◌∙◌, Bool, true, false, List, [], ◌∷◌, ◌++◌}
use Rattle.std.specs.Prelude.{if◌then◌else◌, Some, is_some, map, slice_get, unwrap_or}
use Rattle.cjc_capread.specs.declared.tree.ClassRef.{ClassRef}
use Rattle.cjc_capread.specs.declared.tree.FieldPlace.TheVariants as places
use Rattle.cjc_pool.specs.Clinit.Image.{field_id}
use Rattle.cjc_world.specs.Lookup.{member_at}
use Rattle.cjc_components.specs.Statics.{cell_offset}
use Rattle.cjc_world.specs.ClassFile.declared.tree.FieldTree.{FieldTree}
use Rattle.cjc_bytes.specs.AccessFlags.{is_static}
use Rattle.cjc_check_rules.specs.Spots.{along, in_info}
use Rattle.cjc_check_rules.specs.Complete.{interface_size, class_size, described_size, type_size, map_size}
use Rattle.cjc_check_rules.specs.Classes.{is_there, first_interface, first_class}
use Rattle.cjc_check_rules.specs.ClassRefs.{one_ref, each_ref, in_entry, in_interface, maps_begin, in_map, in_maps}
use Rattle.cjc_check_rules.specs.ClassRefs.{in_class, in_place, in_field, fields_begin, in_described, in_type}
use Rattle.cjc_check_rules.specs.ClassRefs.{types_begin}
use Rattle.cjc_world.specs.Classes.{Class}
use Rattle.cjc_world.specs.Order.{in_order, class_order}
use Rattle.cjc_world.specs.Interfaces.{known}
use Rattle.cjc_world.proofs.Unbroken.{unbroken_is_acyclic}
use Rattle.cjc_tokens.specs.Fields.{is_constant}
use Rattle.cjc_tokens.specs.Lines.{line_at}
use Rattle.cjc_tokens.specs.Slots.{shown_token}
use Rattle.cjc_tokens.specs.Methods.{interfaces_at}
use Rattle.cjc_vtable.specs.declared.table.InterfaceMap.{InterfaceMap}
use Rattle.cjc_vtable.specs.Tables.{interface_map, table_of}
use Rattle.cjc_vtable.proofs.Filed.{Has, has-get}
use Rattle.cjc_ncode.specs.declared.narrow.PoolKey.{PoolKey}
use Rattle.cjc_ncode.specs.declared.narrow.PoolKey.TheVariants as keys
use Rattle.cjc_token_proof.specs.Script.Sorts.{signature_of}
use Rattle.cjc_ncode.specs.Lowering.Naming.{entry_of}
use Rattle.cjc_components.specs.Package.{Package, pool, world}
use Rattle.cjc_components.specs.Class.{class_info, class_entry, interface_entry, implemented, interfaces_of, superclass}
use Rattle.cjc_components.specs.Class.{fields_of}
use Rattle.cjc_components.specs.Names.{class_ref, member_token, names}
use Rattle.cjc_components.specs.Types.{all_descs, type_descriptor, types_of}
use Rattle.cjc_components.specs.Descriptor.{class_descriptor, descriptor, field_descriptor, fields_from}
use Rattle.cjc_token_proof.specs.Components.Found.{IsFound}
use Rattle.cjc_token_proof.proofs.ComponentsLaws.Tests.{passes, none_in_both}
use Rattle.cjc_token_proof.specs.Tables.Sound.{IsSound}
use Rattle.cjc_token_proof.proofs.TablesLaws.Clean.{own_name}
use Rattle.cjc_token_proof.proofs.TablesLaws.Filed.{own_filed}
use Rattle.cjc_token_proof.proofs.TablesLaws.Interfaces.{interface_is}
use Rattle.cjc_token_proof.proofs.TablesLaws.Order.{kind-in, order_in}
use Rattle.cjc_check_proof.specs.Classes.Premises.{HasShortRefs, TypesAreKnown, is_known, names_known}
use Rattle.cjc_token_proof.specs.Components.Whole.{exports_of}
use Rattle.cjc_check_proof.proofs.ClassesLaws.Lists.{has-mapped, none_along}
use Rattle.cjc_check_proof.proofs.ClassesLaws.Nibbles.{IsClear, types_clear}
use Rattle.cjc_check_proof.proofs.ClassesLaws.Refs.{info}
use Rattle.cjc_check_proof.proofs.ClassesLaws.There.{known_found, short, super_known}
use Rattle.cjc_check_proof.proofs.ClassesLaws.Types.{type_said}
use Rattle.cjc_check_proof.proofs.classes.class_refs_are_there.Goals as goal

module _ (list : List ℕ) (p : Package) (sound : IsSound list p.files) (found_there : (name : List ℕ) → IsFound p name
    → is_there (class_info (class_ref p) p) (exports_of p) (class_ref p name) ≡ true) where
  abbrev w : List Class
  w = world p

  abbrev test : ClassRef → Bool
  test = is_there (info p) (exports_of p)

  there : (x : List ℕ) → is_known w x ≡ true → test (class_ref p x) ≡ true
  there x e = found_there x (known_found list p sound x e)

  -- ---- the pool

  in_pool : (at : ℕ) (key : PoolKey) → names_known w key ≡ true → in_entry test at (entry_of (names p) key) ≡ []
  in_pool at (keys.Class c) e = passes _ (in_info 5 (at + 1)) (there c e)
  in_pool at (keys.Field f) e = passes _ (in_info 5 (at + 1)) (there f.class e)
  in_pool at (keys.Virtual m) e = passes _ (in_info 5 (at + 1)) (there m.class e)
  in_pool at (keys.Super m) e = passes _ (in_info 5 (at + 1)) (there m.class e)
  in_pool at (keys.StaticField f) e = refl
  in_pool at (keys.StaticMethod m) e = refl

  -- ---- classes

  itself : (c : Class) → Has c w → test (class_ref p c.name) ≡ true
  itself c h = there c.name (ap is_some (own_name list p.files sound c h))

  interfaces_there : (c : Class) → Has c w → (d : Class) → Has d (interfaces_of w c) → test (class_ref p d.name) ≡ true
  interfaces_there c h d g =
      let r = interface_is w (unbroken_is_acyclic list p.files sound.unbroken) c c.name d (own_name list p.files sound c
      h) g in
      there d.name (ap is_some r.0)

  listed : (tag : ℕ) (c : Class) (at : ℕ) → Has c w
      → each_ref test tag at (map (λ s. class_ref p s.name) (interfaces_of w c)) ≡ []
  listed tag c at h = none_along (λ r. 2) (one_ref test tag) (λ (s : Class). class_ref p s.name) at (interfaces_of w c)
      (λ k d g. passes _ (in_info tag k) (interfaces_there c h d g))

  super_there : (c : Class) → Has c w → c.is_imported ≡ false → test (class_ref p (superclass c)) ≡ true
  super_there c h own =
      let r = own_filed p.files sound.classes sound.exports c h own in
      let t = r.1 in
      let is : c.supers ≡ t.superclass ∷ [] = ap (λ (v : Class). v.supers) r.3 in
      ap (λ xs. test (class_ref p (unwrap_or (slice_get xs 0) []))) is
      ∙ there t.superclass (super_known list p sound c t.superclass h own is)

  maps_there : (c : Class) (at : ℕ) → Has c w → in_maps test at (class_entry (class_ref p) p c) ≡ []
  maps_there c at h =
      let table = table_of w c in
      none_along map_size (in_map test) (implemented (class_ref p)) (maps_begin at (class_entry (class_ref p) p c))
      table.maps (λ k m g.
      let r = has-mapped (interface_map w (shown_token (line_at w c))) m (known (interfaces_at w c)) g in
      passes _ (in_info 6 k) (ap (λ (n : InterfaceMap). test (class_ref p n.interface)) (sym r.2)
      ∙ interfaces_there c h r.0 r.1))

  class_there : (c : Class) (at : ℕ) → Has c w → c.is_imported ≡ false
      → in_class test at (class_entry (class_ref p) p c) ≡ []
  class_there c at h own = none_in_both (passes _ (in_info 6 (at + 1)) (super_there c h own)) (maps_there c at h)

  -- ---- Descriptor

  place_there : (c : Class) (at offset token : ℕ) (static : Bool) → test (class_ref p c.name) ≡ true
      → in_place test at (if static then places.Static offset else places.Instance (class_ref p c.name) token) ≡ []
  place_there c at offset token true e = refl
  place_there c at offset token false e = passes _ (in_info 11 (at + 2)) e

  fields_there : (c : Class) (i at : ℕ) (fields : List FieldTree) → test (class_ref p c.name) ≡ true
      → along (λ f. 7) (in_field test) at (fields_from p c i fields) ≡ []
  unfolding along
  fields_there c i at [] e = refl
  fields_there c i at (f ∷ fields) e =
      by (is_constant f) (place_there c at (cell_offset p.image (field_id c.name f))
      (member_token p (Some (member_at c i))) (is_static f.flags) e) (λ k. fields_there c (i + 1) k fields e)
    where
      by : (b : Bool) → in_field test at (field_descriptor p c i f) ≡ []
          → ((k : ℕ) → along (λ f. 7) (in_field test) k (fields_from p c (i + 1) fields) ≡ [])
          → along (λ f. 7) (in_field test) at ((if b then [] else field_descriptor p c i f ∷ [])
          ++ fields_from p c (i + 1) fields) ≡ []
      by true here rest = rest at
      by false here rest = none_in_both here (rest (at + 7))

  described_there : (at : ℕ) (c : Class) → Has c w → in_described test at (class_descriptor p c) ≡ []
  described_there at c h =
      none_in_both (none_in_both (passes _ (in_info 11 (at + 2)) (itself c h)) (listed 11 c (at + 9) h))
      (fields_there c 0 (fields_begin at (class_descriptor p c)) (fields_of p.files c) (itself c h))

  -- ---- types

  types_there : TypesAreKnown p → HasShortRefs p → (at : ℕ) (nibbles : List ℕ) → Has nibbles (types_of p)
      → in_type test at (type_descriptor nibbles) ≡ []
  unfolding IsClear
  types_there types few at nibbles h =
      let r = type_said p nibbles h in
      let k = has-get r.0 (all_descs p) r.1 in
      ap (λ ns. in_type test at (type_descriptor ns)) (sym r.2)
      ∙ types_clear test at (class_ref p) (is_known w) (λ x e. (short list p sound few x e, there x e)) r.0
      (signature_of r.0) (types k.0 r.0 k.1) 0

pub returns : goal.returns
returns c list p sound keys types few =
    let law = c.named_classes_are_there.ensures p in
    let names = names p in
    let d = descriptor p in
    none_in_both (none_in_both (none_in_both (none_in_both
    (none_along (λ x. 4) (in_entry (test list p sound law)) (entry_of names) 2 (pool p) (λ at key h. let k = has-get key
    (pool p) h in in_pool list p sound law at key (keys k.0 key k.1)))
    (none_along interface_size (in_interface (test list p sound law)) (interface_entry (class_ref p) (world p))
    first_interface (in_order (world p) true)
    (λ at i h. listed list p sound law 6 i (at + 1) (kind-in list p.files sound true i h).0)))
    (none_along class_size (in_class (test list p sound law)) (class_entry (class_ref p) p) (first_class (info p))
    (in_order (world p) false)
    (λ at x h. let r = kind-in list p.files sound false x h in class_there list p sound law x at r.0 r.1)))
    (none_along described_size (in_described (test list p sound law)) (class_descriptor p) 1 (class_order (world p))
    (λ at x h. described_there list p sound law at x (order_in list p.files sound x h).0)))
    (none_along type_size (in_type (test list p sound law)) type_descriptor (types_begin d) (types_of p)
    (types_there list p sound law types few))
