-- The indices of interface maps are tokens of virtual methods that their classes have.
use Rattle.std.proofs.Common.{◌≡◌, ℕ, ◌+◌, ◌==◌, sym, ap, subst, ◌∙◌, arith, true, false, List, [], length}
use Rattle.std.specs.Prelude.{Some, map, not, ◌&&◌, slice_get}
use Rattle.std.proofs.lemmas.Bool.Decides.{nat_tests}
use Rattle.cjc_bytes.specs.AccessFlags.{is_interface}
use Rattle.cjc_bytes.proofs.Bools.{not_true}
use Rattle.cjc_capread.specs.declared.tree.ClassRef.TheVariants.{Inside}
use Rattle.cjc_capread.specs.declared.tree.ClassEntry.{ClassEntry}
use Rattle.cjc_capread.specs.declared.tree.ImplementedInterface.{ImplementedInterface}
use Rattle.cjc_check_rules.specs.Spots.{along, in_info, starts, unless}
use Rattle.cjc_check_rules.specs.Complete.{class_size, map_size}
use Rattle.cjc_check_rules.specs.Classes.{first_class}
use Rattle.cjc_check_rules.specs.ClassRefs.{maps_begin}
use Rattle.cjc_check_rules.specs.Members.{has_virtual}
use Rattle.cjc_check_rules.specs.Tables.{in_all_maps, in_map, is_index, is_long_enough, map_spots}
use Rattle.cjc_world.specs.Classes.{Class, class_named}
use Rattle.cjc_world.specs.Interfaces.{known}
use Rattle.cjc_world.specs.Supertypes.{AreSupertypes, Supertypes, supertypes}
use Rattle.cjc_world.specs.Order.{in_order}
use Rattle.cjc_tokens.specs.Lines.{line_at, line_in}
use Rattle.cjc_tokens.specs.Members.{Signature}
use Rattle.cjc_tokens.specs.Methods.{interface_methods, interfaces_at}
use Rattle.cjc_tokens.specs.Slots.{shown_token}
use Rattle.cjc_tokens.proofs.Walks.{supertypes-known}
use Rattle.cjc_vtable.specs.declared.table.InterfaceMap.{InterfaceMap}
use Rattle.cjc_vtable.specs.Laws.{KeepsRules}
use Rattle.cjc_vtable.specs.Tables.{interface_map, or_zero, table_of}
use Rattle.cjc_vtable.proofs.Filed.{Has, get-has, has-get}
use Rattle.cjc_vtable.proofs.Worlds.{shown-place}
use Rattle.cjc_vtable.specs.Meant.{AskedHaveTokens, TokensMean}
use Rattle.cjc_components.specs.Package.{Package, world}
use Rattle.cjc_components.specs.Class.{class_entry, class_info, implemented}
use Rattle.cjc_components.specs.Names.{class_ref}
use Rattle.cjc_token_proof.specs.Components.Whole.{exports_of, whole}
use Rattle.cjc_token_proof.proofs.ComponentsLaws.Tests.{none_in_both, passes}
use Rattle.cjc_token_proof.specs.Tables.Sound.{IsSound}
use Rattle.cjc_token_proof.proofs.TablesLaws.Clean.{own_name}
use Rattle.cjc_token_proof.proofs.TablesLaws.Order.{kind-in, own_names}
use Rattle.cjc_check_proof.proofs.ClassesLaws.Lists.{get-map, has-map, has-mapped, none_along, none_placed}
use Rattle.cjc_check_proof.proofs.ClassesLaws.Refs.{info, own_ref}
use Rattle.cjc_token_proof.specs.WrittenCalls.Calls.{KeepsTokens}
use Rattle.cjc_check_proof.proofs.TokensLaws.Reached.{open_there}

-- the maps of classes are long enough
abbrev pub AreLong : Package → Type 0
AreLong p =
    (j k : ℕ) (x : ClassEntry) (m : ImplementedInterface) → (let info = class_info (class_ref p) p
    in slice_get info.classes j ≡ Some x) → slice_get x.interfaces k ≡ Some m
    → is_long_enough (whole p) (exports_of p) m.interface (length m.index) ≡ true

module _ (list : List ℕ) (p : Package) (sound : IsSound list p.files) (are_supertypes : (xs : List (List ℕ))
    → AreSupertypes (world p) xs (supertypes (world p) xs)) (one_supertypes : (xs : List (List ℕ)) (j k : Supertypes)
    → AreSupertypes (world p) xs j → AreSupertypes (world p) xs k → j ≡ k)
    (rules : KeepsRules (world p)) (tokens : KeepsTokens (world p)) (long : AreLong p) (mean : TokensMean (world p))
    (asked : AskedHaveTokens (world p)) where
  abbrev w : List Class
  w = world p

  module _ (k s : ℕ) (c : Class) (e : slice_get (in_order w false) k ≡ Some c)
      (start : slice_get (starts class_size (first_class (info p)) (map (class_entry (class_ref p) p)
      (in_order w false))) k ≡ Some s) where
    m : Has c w × (c.is_imported ≡ false) × (Rattle.cjc_world.specs.Order.is_of_kind false c ≡ true)
    m = kind-in list p.files sound false c (get-has c (in_order w false) k e)

    class_here : is_interface c.flags ≡ false
    class_here = not_true (is_interface c.flags) m.2

    named : class_named w c.name ≡ Some c
    named = own_name list p.files sound c m.0

    stands : class_ref p c.name ≡ Inside s
    stands =
        let r = own_ref p (own_names list p.files sound) k c e in
        let both : Some r.0 ≡ Some s = sym r.1 ∙ start in
        let same : r.0 ≡ s = cc in
        r.2 ∙ ap Inside same

    -- an index of a map of this class
    index_there : (i : Class) → Has i (known (interfaces_at w c)) → (q : Signature) → Has q (interface_methods w i)
        → is_index (whole p) (exports_of p) s (or_zero (shown_token (line_at w c) q)) ≡ true
    index_there i h q g =
        let j = has-get i (known (interfaces_at w c)) h in
        let n = has-get q (interface_methods w i) g in
        let t = asked c.name c named m.1 class_here j.0 i j.1 n.0 q n.1 in
        let here : shown_token (line_at w c) q ≡ Some t.0 = ap (λ x. shown_token (line_in w x) q)
        (sym (supertypes-known w are_supertypes one_supertypes c.name c named))
        ∙ shown-place w are_supertypes one_supertypes rules c.name c q named (λ far. class_here) ∙ t.1 in
        let low = tokens c.name c q t.0 named class_here t.1 in
        let other : (t.0 == 0xFF) ≡ false = grind (arith, nat_tests, low) in
        let is = mean c.name c named class_here q t.0 t.1 in
        ap (λ o. is_index (whole p) (exports_of p) s (or_zero o)) here
        ∙ ap (λ b. not b && has_virtual (whole p) (exports_of p) (Inside s) t.0) other
        ∙ ap (λ r. has_virtual (whole p) (exports_of p) r t.0) (sym stands)
        ∙ open_there list p sound are_supertypes one_supertypes rules c.name c named class_here t.0 low is.method
        is.by_token

    one_map : (at : ℕ) (x : InterfaceMap) → Has x (let table = table_of w c in table.maps)
        → in_map (whole p) (exports_of p) s at (implemented (class_ref p) x) ≡ []
    one_map at x h =
        let table = table_of w c in
        let entry = class_entry (class_ref p) p c in
        let i = has-mapped (interface_map w (shown_token (line_at w c))) x (known (interfaces_at w c)) h in
        let y = implemented (class_ref p) x in
        let j = has-get y entry.interfaces (has-map (implemented (class_ref p)) x table.maps h) in
        none_in_both
        (passes _ (in_info 6 (at + 2)) (long k j.0 entry y (get-map (class_entry (class_ref p) p) (in_order w false) k c
        e) j.1))
        (subst (λ (z : InterfaceMap). along (λ n. 1) (λ a n. unless (is_index (whole p) (exports_of p) s n)
        (in_info 6 a)) (at + 3) z.index ≡ []) i.2
        (none_along (λ n. 1) (λ a n. unless (is_index (whole p) (exports_of p) s n) (in_info 6 a))
        (λ q. or_zero (shown_token (line_at w c) q)) (at + 3) (interface_methods w i.0)
        (λ a q g. passes _ (in_info 6 a) (index_there i.0 i.1 q g))))

    class_maps : in_all_maps (whole p) (exports_of p) s (class_entry (class_ref p) p c) ≡ []
    class_maps = none_along map_size (in_map (whole p) (exports_of p) s) (implemented (class_ref p))
        (maps_begin s (class_entry (class_ref p) p c)) (let table = table_of w c in table.maps) one_map

  pub all_maps : map_spots (whole p) (exports_of p) ≡ []
  all_maps = none_placed class_size (in_all_maps (whole p) (exports_of p)) (class_entry (class_ref p) p)
      (first_class (info p)) (in_order w false) (λ k s c e start. class_maps k s c e start)
