-- The infos of Class are those of the package's classes: their flags, supers, items on instance fields, tables and
-- maps.
use Rattle.std.proofs.Common.{◌≡◌, ℕ, suc, ◌+◌, ◌*◌, ◌==◌, ◌&&◌, refl, sym, ap, subst, ◌∙◌, Bool, true, false}
use Rattle.std.proofs.Common.{List, [], ◌∷◌, ◌++◌, length, map, slice_get, Option, Some, None}
use Rattle.std.specs.Prelude.{if◌then◌else◌}
use Rattle.std.specs.List.{AllByRecursion}
use Rattle.cjc_types.proofs.BytesBools.{not_true}
use Rattle.cjc_types.proofs.BytesGets.{all_at}
use Rattle.cjc_types.proofs.BytesLists.{length_mapped, map_map, map_same}
use Rattle.cjc_types.proofs.BytesNumbers.{like_number, number_same_number}
use Rattle.cjc_types.specs.Bytes.AccessFlags.{is_interface}
use Rattle.cjc_verify.specs.CapRead.ClassRefs.{same_class}
use Rattle.cjc_verify.specs.CapRead.declared.tree.ClassEntry.{ClassEntry}
use Rattle.cjc_verify.specs.CapRead.declared.tree.ClassRef.{ClassRef}
use Rattle.cjc_verify.specs.CheckRules.Classes.{first_interface}
use Rattle.cjc_verify.specs.CheckRules.ClassRefs.{maps_begin}
use Rattle.cjc_verify.specs.CheckRules.Complete.{map_size}
use Rattle.cjc_verify.specs.CheckRules.Spots.{beside, in_info, unless}
use Rattle.cjc_verify.specs.CheckRules.declared.spot.ComponentPlace.{ComponentPlace}
use Rattle.cjc_verify.specs.CardSemantics.Machine.Classes.{Info, IsClass, IsInterface, info_size}
use Rattle.cjc_types.specs.World.Classes.{Class}
use Rattle.cjc_types.specs.World.Order.{class_order, in_order}
use Rattle.cjc_types.specs.World.declared.found.Found.{Found}
use Rattle.cjc_check_proof.specs.Tokens.Fields.{instance_cells}
use Rattle.cjc_check_proof.specs.VTable.Tables.{table_of}
use Rattle.cjc_check_proof.specs.VTable.declared.table.ClassTable.{ClassTable}
use Rattle.cjc_check_proof.specs.VTable.declared.table.InterfaceMap.{InterfaceMap}
use Rattle.cjc_verify.specs.Components.Class.{class_entry, fields_of, first_reference_token, implemented}
use Rattle.cjc_verify.specs.Components.Class.{info_flags}
use Rattle.cjc_verify.specs.Components.Class.{interface_entry, interfaces_of, reference_count, superclass}
use Rattle.cjc_verify.specs.Components.Class.{table_entry}
use Rattle.cjc_verify.specs.Components.Methods.{method_offset}
use Rattle.cjc_verify.specs.Components.Names.{class_ref}
use Rattle.cjc_verify.specs.Components.Package.{Package, world}
use Rattle.cjc_check_proof.specs.TokenProof.Components.Methods.{HasMethods}
use Rattle.cjc_check_proof.proofs.TokenProofTests.{none_in_both, passes}
use Rattle.cjc_check_proof.proofs.TokenProofApart.{IsPlaced, line_placed}
use Rattle.cjc_verify.specs.Infos.{all_info_spots, all_table_spots, class_spots, entries_differ, head_of, info_spots}
use Rattle.cjc_verify.specs.Infos.{interface_refs, interface_spots, map_interface, map_spots, public_entry, refs_differ}
use Rattle.cjc_verify.specs.Infos.{table_items, table_spots}
use Rattle.cjc_verify.specs.Pairs.{Pair}
use Rattle.cjc_verify.specs.Pairs as pairs
use Rattle.cjc_accepted_proof.specs.Written.{written_pair}
use Rattle.cjc_accepted_proof.proofs.NamesLaws.{ref_alike, same_itself}
use Rattle.cjc_accepted_proof.proofs.OffsetsLaws.{offset_same}

-- ---- lists

-- nothing is broken in items that are made of what stands beside them, nor in those behind them
pub none_beside : {A C : Type 0} (size : A → ℕ) (broken : ℕ → A → C → List ComponentPlace) (f : C → A) (cs : List C)
    (us : List A) (vs : List C) → ((at k : ℕ) (c : C) → slice_get cs k ≡ Some c → broken at (f c) c ≡ [])
    → ((at : ℕ) → beside size broken at us vs ≡ []) → (at : ℕ) → beside size broken at (map f cs ++ us) (cs ++ vs) ≡ []
unfolding beside
none_beside size broken f [] us vs each rest at = rest at
none_beside size broken f (c ∷ cs) us vs each rest at =
    none_in_both (each at 0 c refl) (none_beside size broken f cs us vs (λ n k d e. each n (suc k) d e) rest (at +
    size (f
    c)))

nothing_beside : {A C : Type 0} (size : A → ℕ) (broken : ℕ → A → C → List ComponentPlace) (at : ℕ)
    → beside size broken at [] [] ≡ []
unfolding beside
nothing_beside size broken at = refl

-- nor in all of them
pub none_of_all : {A C : Type 0} (size : A → ℕ) (broken : ℕ → A → C → List ComponentPlace) (f : C → A) (cs : List C)
    → ((at k : ℕ) (c : C) → slice_get cs k ≡ Some c → broken at (f c) c ≡ []) → (at : ℕ)
    → beside size broken at (map f cs) cs ≡ []
unfolding beside
none_of_all size broken f [] each at = refl
none_of_all size broken f (c ∷ cs) each at = none_in_both (each at 0 c refl) (none_of_all size broken f cs (λ n k d e.
    each n (suc k) d e) (at + size (f c)))

-- items beside themselves
none_differ : {A : Type 0} (size : A → ℕ) (broken : ℕ → A → A → List ComponentPlace)
    → ((at : ℕ) (x : A) → broken at x x ≡ []) → (at : ℕ) (xs : List A) → beside size broken at xs xs ≡ []
unfolding beside
none_differ size broken each at [] = refl
none_differ size broken each at (x ∷ xs) = none_in_both (each at x) (none_differ size broken each (at + size x) xs)

pub numbers_alike : (n : ℕ) (tag at : ℕ) (xs : List ℕ) → beside (λ (b : ℕ). n) (λ (k x y : ℕ). unless (x == y) (in_info
    tag k)) at xs xs ≡ []
numbers_alike n tag at xs = none_differ (λ (b : ℕ). n) (λ (k x y : ℕ). unless (x == y) (in_info tag k)) (λ k x. passes
    (x == x) (in_info tag k) (like_number x)) at xs

pub both_hold : {a b : Bool} → a ≡ true → b ≡ true → (a && b) ≡ true
both_hold {a} {b} e f = ap (λ x. x && b) e ∙ f

no_head : (ss : List ComponentPlace) → ss ≡ [] → head_of ss ≡ []
no_head ss e = ap head_of e

-- ---- one info

module _ (p : Package) (has : HasMethods p) where
  abbrev q : Pair
  q = written_pair p

  abbrev w : List Class
  w = world p

  same_ref : (x : List ℕ) → same_class (class_ref p x) (pairs.class_ref q x) ≡ true
  same_ref x = ap (same_class (class_ref p x)) (ref_alike p x) ∙ same_itself (class_ref p x)

  refs_alike : (c : Class) → interface_refs q c ≡ map (λ (s : Class). class_ref p s.name) (interfaces_of w c)
  refs_alike c = map_same (λ (s : Class). pairs.class_ref q s.name) (λ (s : Class). class_ref p s.name) (λ s.
      ref_alike p s.name) (interfaces_of w c)

  refs_none : (at : ℕ) (rs : List ClassRef) → refs_differ at rs rs ≡ []
  refs_none at rs = none_differ (λ (r : ClassRef). 2) (λ (n : ℕ) (r v : ClassRef). unless (same_class r v) (in_info 6
      n)) (λ n r. passes (same_class r r) (in_info 6 n) (same_itself r)) at rs

  interface_none : (at : ℕ) (c : Class) → interface_spots q at (interface_entry (class_ref p) w c) c ≡ []
  interface_none at c =
      let rs = map (λ (s : Class). class_ref p s.name) (interfaces_of w c) in
      let flags = info_flags w c in
      subst (λ (vs : List ClassRef). unless ((flags == flags) && (length rs == length vs)) (in_info 6 at)
      ++ refs_differ (at + 1) rs vs ≡ []) (sym (refs_alike c)) (none_in_both (passes ((flags == flags) && (length rs ==
      length rs)) (in_info 6 at) (both_hold (like_number flags) (like_number (length rs)))) (refs_none (at + 1) rs))

  map_named : (at : ℕ) (m : InterfaceMap) → map_interface q at (implemented (class_ref p) m) m ≡ []
  map_named at m = passes (same_class (class_ref p m.interface) (pairs.class_ref q m.interface)) (in_info 6 at)
      (same_ref m.interface)

  map_none : (at : ℕ) (m : InterfaceMap) → map_spots q at (implemented (class_ref p) m) m ≡ []
  map_none at m = none_in_both (none_in_both (map_named at m) (passes (length m.index == length m.index) (in_info 6
      (at + 2)) (like_number (length m.index)))) (numbers_alike 1 6 (at + 3) m.index)

  public_same : (o : Option Found) → public_entry q o ≡ table_entry p o
  public_same None = refl
  public_same (Some f) = offset_same p has f

  module _ (at : ℕ) (c : Class) where
    abbrev x : ClassEntry
    x = class_entry (class_ref p) p c

    abbrev t : ClassTable
    t = table_of w c

    as_many : (length x.interfaces == length t.maps) ≡ true
    as_many = number_same_number (length x.interfaces) (length t.maps) (length_mapped (implemented (class_ref p))
        t.maps)

    class_none : class_spots q at x c ≡ []
    class_none =
        let fields = fields_of p.files c in
        none_in_both (none_in_both (none_in_both (none_in_both (none_in_both (passes ((x.flags == x.flags)
        && (length x.interfaces == length t.maps)) (in_info 6 at) (both_hold (like_number x.flags) as_many))
        (passes (same_class x.superclass (pairs.class_ref q (superclass c))) (in_info 6 (at + 1)) (same_ref (superclass
        c)))) (passes (instance_cells fields == instance_cells fields) (in_info 6 (at + 3)) (like_number (instance_cells
        fields)))) (passes (first_reference_token fields == first_reference_token fields) (in_info 6 (at + 4))
        (like_number
        (first_reference_token fields)))) (passes (reference_count fields == reference_count fields) (in_info 6 (at +
        5))
        (like_number (reference_count fields)))) (none_of_all map_size (map_interface q) (implemented (class_ref p))
        t.maps
        (λ n k m e. map_named n m) (maps_begin at x))

    public_alike : map (public_entry q) t.public ≡ x.public_methods
    public_alike = map_same (public_entry q) (table_entry p) public_same t.public

    package_alike : map (pairs.method_offset q) t.«package» ≡ x.package_methods
    package_alike = map_same (pairs.method_offset q) (method_offset p) (offset_same p has) t.«package»

    tables_none : table_items q at x t ≡ []
    tables_none =
        let behind = at + 10 + 2 * length x.public_methods in
        let counted = passes (length x.interfaces == length t.maps) (in_info 6 at) as_many in
        let base = passes (x.public_base == x.public_base) (in_info 6 (at + 6)) (like_number x.public_base) in
        let public = passes (length x.public_methods == length t.public) (in_info 6 (at + 7)) (number_same_number
        (length
        x.public_methods) (length t.public) (length_mapped (table_entry p) t.public)) in
        let hidden = passes (x.package_base == x.package_base) (in_info 6 (at + 8)) (like_number x.package_base) in
        let visible = passes (length x.package_methods == length t.«package») (in_info 6 (at + 9)) (number_same_number
        (length x.package_methods) (length t.«package») (length_mapped (method_offset p) t.«package»)) in
        let one : entries_differ (at + 10) x.public_methods (map (public_entry q) t.public) ≡ [] = ap (entries_differ
        (at +
        10) x.public_methods) public_alike ∙ numbers_alike 2 6 (at + 10) x.public_methods in
        let two : entries_differ behind x.package_methods (map (pairs.method_offset q) t.«package») ≡ [] =
        ap (entries_differ behind x.package_methods) package_alike ∙ numbers_alike 2 6 behind x.package_methods in
        let maps = none_of_all map_size (map_spots q) (implemented (class_ref p)) t.maps (λ n k m e. map_none n m)
        (maps_begin at x) in
        none_in_both (none_in_both (none_in_both (none_in_both (none_in_both (none_in_both (none_in_both counted base)
        public) hidden) visible) one) two) maps

  -- ---- all infos

  abbrev front : Class → Info
  front c = IsInterface (interface_entry (class_ref p) w c)

  abbrev back : Class → Info
  back c = IsClass (class_entry (class_ref p) p c)

  order_placed : (i : Bool) → AllByRecursion (IsPlaced i []) (in_order w i)
  unfolding in_order
  order_placed i = line_placed w i (length w) []

  -- what holds of the infos of each kind holds of all
  by_kinds : (broken : ℕ → Info → Class → List ComponentPlace)
      → ((at : ℕ) (c : Class) → is_interface c.flags ≡ true → broken at (front c) c ≡ [])
      → ((at : ℕ) (c : Class) → is_interface c.flags ≡ false → broken at (back c) c ≡ [])
      → beside info_size broken first_interface (map IsInterface (map (interface_entry (class_ref p) w) (in_order w
      true))
      ++ map IsClass (map (class_entry (class_ref p) p) (in_order w false))) (class_order w) ≡ []
  unfolding class_order
  by_kinds broken interfaces classes =
      let is = in_order w true in
      let cs = in_order w false in
      ap (λ xs. beside info_size broken first_interface (xs ++ map IsClass (map (class_entry (class_ref p) p) cs)) (is
      ++ cs)) (map_map IsInterface (interface_entry (class_ref p) w) is)
      ∙ none_beside info_size broken front is (map IsClass (map (class_entry (class_ref p) p) cs)) cs (λ at k c e. let
      r = all_at
      (IsPlaced true []) is k c (order_placed true) e in interfaces at c r.kind) (λ at. ap (λ xs. beside info_size
      broken at xs cs) (map_map IsClass (class_entry (class_ref p) p) cs) ∙ none_of_all info_size broken back cs (λ n
      k c
      e. let r = all_at (IsPlaced false []) cs k c (order_placed false) e in classes n c (not_true (is_interface
      c.flags)
      r.kind)) at) first_interface

  pub infos_none : all_info_spots q ≡ []
  infos_none = by_kinds (info_spots q) (λ at c e. ap (λ b. if b then interface_spots q at (interface_entry (class_ref
      p) w c) c else in_info 6 at ∷ []) e ∙ interface_none at c) (λ at c e. ap (λ b. if b then in_info 6 at ∷ []
      else class_spots q at (class_entry (class_ref p) p c) c) e ∙ class_none at c)

  pub tables_are : all_table_spots q ≡ []
  tables_are = by_kinds (table_spots q) (λ at c e. refl) (λ at c e. ap (λ b. if b then [] else head_of (table_items q at
      (class_entry (class_ref p) p c) (table_of w c))) e ∙ no_head (table_items q at (class_entry (class_ref p) p c)
      (table_of w c)) (tables_none at c))
