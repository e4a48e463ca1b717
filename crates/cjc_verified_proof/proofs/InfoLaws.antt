-- Class infos are those of the package's classes, by the rules of tables and of the other items.
use Rattle.std.proofs.Common.{◌≡◌, ◌+◌, ◌*◌, ◌==◌, ◌&&◌, ℕ, suc, Bool, true, false, not, List, [], ◌∷◌, ◌++◌, length}
use Rattle.std.proofs.Common.{map, slice_get, Some, refl, sym, ap, subst, ◌∙◌, arith, length-append}
use Rattle.std.specs.Prelude.{if◌then◌else◌}
use Rattle.std.proofs.lemmas.List.{length-map, map-append, map-id}
use Rattle.cjc_bytes.specs.AccessFlags.{is_interface}
use Rattle.cjc_capread.specs.declared.tree.ClassEntry.{ClassEntry}
use Rattle.cjc_capread.specs.declared.tree.ClassRef.{ClassRef}
use Rattle.cjc_capread.specs.declared.tree.ClassRef.TheVariants.{Inside, Outside}
use Rattle.cjc_capread.specs.declared.tree.ImplementedInterface.{ImplementedInterface}
use Rattle.cjc_capread.specs.declared.tree.InterfaceEntry.{InterfaceEntry}
use Rattle.cjc_capread.specs.ClassRefs.{same_class}
use Rattle.cjc_check_rules.specs.declared.spot.ComponentPlace.{ComponentPlace}
use Rattle.cjc_check_rules.specs.Spots.{beside, bytes_differ, in_info, unless}
use Rattle.cjc_check_rules.specs.Classes.{first_interface}
use Rattle.cjc_check_rules.specs.ClassRefs.{maps_begin}
use Rattle.cjc_check_rules.specs.Complete.{Complete, map_size}
use Rattle.cjc_check_rules.specs.Consistent.{break_at}
use Rattle.cjc_world.specs.declared.image.StaticImage.{StaticImage}
use Rattle.cjc_world.specs.Classes.{Class, all_classes}
use Rattle.cjc_world.specs.Files.{Files}
use Rattle.cjc_world.specs.Order.{class_order, in_order}
use Rattle.cjc_tokens.specs.Fields.{instance_cells}
use Rattle.cjc_card_semantics.specs.Machine.Classes.{Info, IsInterface, IsClass, info_size}
use Rattle.cjc_components.specs.Class.{fields_of, first_reference_token, implemented, info_flags, interface_entry}
use Rattle.cjc_components.specs.Class.{reference_count, superclass}
use Rattle.cjc_components.specs.Paired.Pairs.{ArePaired, cell_spots, count_spots, head_of as first_of, info_count}
use Rattle.cjc_components.specs.Paired.Pairs.{method_spots as paired_methods}
use Rattle.cjc_token_proof.specs.VTable.Tables.{table_of}
use Rattle.cjc_token_proof.specs.VTable.declared.table.ClassTable.{ClassTable}
use Rattle.cjc_token_proof.specs.VTable.declared.table.InterfaceMap.{InterfaceMap}
use Rattle.cjc_token_proof.specs.Tables.Sound.{IsSound}
use Rattle.cjc_verify.specs.Described.{all_array_spots, described_spots}
use Rattle.cjc_verify.specs.Infos.{all_abstract_spots, all_info_spots, all_table_spots, class_spots, entries_differ}
use Rattle.cjc_verify.specs.Infos.{head_of, info_spots, infos, interface_refs, interface_spots, map_interface}
use Rattle.cjc_verify.specs.Infos.{map_spots}
use Rattle.cjc_verify.specs.Infos.{public_entry, refs_differ, table_items, table_spots}
use Rattle.cjc_verify.specs.Pairs.{Pair, class_ref, method_offset, pair_of, world}
use Rattle.cjc_verify.specs.Verified.{IsVerified, class_breaks, header_breaks, listed}
use Rattle.cjc_verified_proof.specs.ClassInfos.{wanted_info, wanted_infos}
use Rattle.cjc_verify.specs.WantedInfos.{wanted_entry}
use Rattle.cjc_bytes.proofs.BrokenRules.{among_left, among_right}
use Rattle.cjc_bytes.proofs.Bools.{and_true}
use Rattle.cjc_bytes.proofs.Lists.{none_left, none_right}
use Rattle.cjc_bytes.proofs.Numbers.{number_same}
use Rattle.cjc_components.proofs.VTableFiled.{Has, get-has}
use Rattle.cjc_token_proof.proofs.TablesLaws.Order.{kind-in}
use Rattle.cjc_verified_proof.proofs.EntryLaws.{no_spots, unless_holds}

-- ---- items beside those that are wanted

-- items in which two rules break nothing are those that are wanted
both_same : {A B : Type 0} (size : A → ℕ) (one two : ℕ → A → B → List ComponentPlace) (f : B → A)
    → ((at : ℕ) (x : A) (y : B) → one at x y ≡ [] → two at x y ≡ [] → x ≡ f y) → (at : ℕ) (xs : List A) (ys : List B)
    → length xs ≡ length ys → beside size one at xs ys ≡ [] → beside size two at xs ys ≡ [] → xs ≡ map f ys
unfolding beside
both_same size one two f h at [] [] l d e = refl
both_same size one two f h at [] (y ∷ ys) l d e = absurd (omega (arith, l))
both_same size one two f h at (x ∷ xs) [] l d e = absurd (omega (arith, l))
both_same size one two f h at (x ∷ xs) (y ∷ ys) l d e =
    let first = h at x y (none_left (one at x y) (beside size one (at + size x) xs ys) d) (none_left (two at x y)
    (beside size two (at + size x) xs ys) e) in
    let rest = both_same size one two f h (at + size x) xs ys (omega (arith, l)) (none_right (one at x y)
    (beside size one
    (at + size x) xs ys) d) (none_right (two at x y) (beside size two (at + size x) xs ys) e) in
    ap (λ z. z ∷ xs) first ∙ ap (λ zs. f y ∷ zs) rest

-- the same by one rule
each_same : {A B : Type 0} (size : A → ℕ) (broken : ℕ → A → B → List ComponentPlace) (f : B → A)
    → ((at : ℕ) (x : A) (y : B) → broken at x y ≡ [] → x ≡ f y) → (at : ℕ) (xs : List A) (ys : List B)
    → length xs ≡ length ys → beside size broken at xs ys ≡ [] → xs ≡ map f ys
each_same size broken f h at xs ys l e = both_same size broken broken f (λ n x y d g. h n x y d) at xs ys l e e

ref_same : (a b : ClassRef) → same_class a b ≡ true → a ≡ b
ref_same (Inside a) (Inside b) e = ap Inside (number_same a b e)
ref_same (Outside i a) (Outside j b) e =
    let r = and_true (i == j) (a == b) e in
    ap (λ n. Outside n a) (number_same i j r.0) ∙ ap (Outside j) (number_same a b r.1)
ref_same (Inside a) (Outside j b) e = cc
ref_same (Outside i a) (Inside b) e = cc

refs_same : (at : ℕ) (refs wanted : List ClassRef) → length refs ≡ length wanted → refs_differ at refs wanted ≡ []
    → refs ≡ wanted
refs_same at refs wanted l e = each_same (λ (r : ClassRef). 2) (λ (n : ℕ) (r w : ClassRef). unless (same_class r w)
    (in_info 6 n)) (λ (w : ClassRef). w) (λ n r w h. ref_same r w (unless_holds (same_class r w)
    (in_info 6 n) h)) at refs
    wanted l e ∙ map-id wanted

numbers_same : (n : ℕ) (broken : ℕ → ℕ → ℕ → List ComponentPlace) → ((at x y : ℕ) → broken at x y ≡ unless (x == y)
    (in_info 6 at)) → (at : ℕ) (xs ys : List ℕ) → length xs ≡ length ys → beside (λ (b : ℕ). n) broken at xs ys ≡ []
    → xs ≡ ys
numbers_same n broken is at xs ys l e = each_same (λ (b : ℕ). n) broken (λ (y : ℕ). y) (λ at x y h. number_same x y
    (unless_holds (x == y) (in_info 6 at) (sym (is at x y) ∙ h))) at xs ys l e ∙ map-id ys

-- ---- a class by its items

entry_is : (x : ClassEntry) (flags : ℕ) (super : ClassRef) (size first count base hidden : ℕ)
    (public hidden_ones : List ℕ)
    (maps : List ImplementedInterface) → x.flags ≡ flags → x.superclass ≡ super → x.declared_instance_size ≡ size
    → x.first_reference_token ≡ first → x.reference_count ≡ count → x.public_base ≡ base → x.package_base ≡ hidden
    → x.public_methods ≡ public → x.package_methods ≡ hidden_ones → x.interfaces ≡ maps → x ≡ record {
      flags = flags;
      superclass = super;
      declared_instance_size = size;
      first_reference_token = first;
      reference_count = count;
      public_base = base;
      package_base = hidden;
      public_methods = public;
      package_methods = hidden_ones;
      interfaces = maps;
    }
entry_is x flags super size first count base hidden public hidden_ones maps a b c d e f g h i j =
    ap (λ v. record x { flags = v }) a
    ∙ ap (λ v. record x { flags = flags; superclass = v }) b
    ∙ ap (λ v. record x { flags = flags; superclass = super; declared_instance_size = v }) c
    ∙ ap (λ v. record x {
      flags = flags;
      superclass = super;
      declared_instance_size = size;
      first_reference_token = v;
    }) d
    ∙ ap (λ v. record x {
      flags = flags;
      superclass = super;
      declared_instance_size = size;
      first_reference_token = first;
      reference_count = v;
    }) e
    ∙ ap (λ v. record x {
      flags = flags;
      superclass = super;
      declared_instance_size = size;
      first_reference_token = first;
      reference_count = count;
      public_base = v;
    }) f
    ∙ ap (λ v. record x {
      flags = flags;
      superclass = super;
      declared_instance_size = size;
      first_reference_token = first;
      reference_count = count;
      public_base = base;
      package_base = v;
    }) g
    ∙ ap (λ v. record x {
      flags = flags;
      superclass = super;
      declared_instance_size = size;
      first_reference_token = first;
      reference_count = count;
      public_base = base;
      package_base = hidden;
      public_methods = v;
    }) h
    ∙ ap (λ v. record x {
      flags = flags;
      superclass = super;
      declared_instance_size = size;
      first_reference_token = first;
      reference_count = count;
      public_base = base;
      package_base = hidden;
      public_methods = public;
      package_methods = v;
    }) i
    ∙ ap (λ v. record {
      flags = flags;
      superclass = super;
      declared_instance_size = size;
      first_reference_token = first;
      reference_count = count;
      public_base = base;
      package_base = hidden;
      public_methods = public;
      package_methods = hidden_ones;
      interfaces = v;
    }) j

-- tests in a row of which none is broken
one_more : (b : Bool) (s : ComponentPlace) (rest : List ComponentPlace) → unless b s ++ rest ≡ [] → (b ≡ true) × (rest
    ≡ [])
one_more true s rest e = (refl, e)
one_more false s rest e = cc

no_head : (ss : List ComponentPlace) → head_of ss ≡ [] → ss ≡ []
no_head [] e = refl
no_head (s ∷ ss) e = cc

-- ---- what is wanted of a package

module _ (p : Pair) where
  interface_same : (at : ℕ) (i : InterfaceEntry) (c : Class) → interface_spots p at i c ≡ [] → i
      ≡ interface_entry (class_ref p) (world p) c
  interface_same at i c e =
      let first = one_more ((i.flags == info_flags (world p) c) && (length i.superinterfaces == length (interface_refs p
      c))) (in_info 6 at) (refs_differ (at + 1) i.superinterfaces (interface_refs p c)) e in
      let both = and_true (i.flags == info_flags (world p) c) (length i.superinterfaces == length (interface_refs p c))
      first.0 in
      let refs = refs_same (at + 1) i.superinterfaces (interface_refs p c) (number_same (length i.superinterfaces)
      (length (interface_refs p c)) both.1) first.1 in
      ap (λ v. record i { flags = v }) (number_same i.flags (info_flags (world p) c) both.0)
      ∙ ap (λ v. record { flags = info_flags (world p) c; superinterfaces = v }) refs

  map_same : (at : ℕ) (m : ImplementedInterface) (w : InterfaceMap) → map_spots p at m w ≡ [] → m
      ≡ implemented (class_ref p) w
  map_same at m w e =
      let differ = bytes_differ 6 (at + 3) m.index w.index in
      let a = map_interface p at m w in
      let b = unless (length m.index == length w.index) (in_info 6 (at + 2)) in
      let ab = none_left (a ++ b) differ e in
      let ref = ref_same m.interface (class_ref p w.interface) (unless_holds (same_class m.interface (class_ref p
      w.interface)) (in_info 6 at) (none_left a b ab)) in
      let long = number_same (length m.index) (length w.index) (unless_holds (length m.index == length w.index)
      (in_info 6
      (at + 2)) (none_right a b ab)) in
      let index = numbers_same 1 (λ (n x y : ℕ). unless (x == y) (in_info 6 n)) (λ n x y. refl) (at + 3) m.index w.index
      long (none_right (a ++ b) differ e) in
      ap (λ v. record m { interface = v }) ref ∙ ap (λ v. record { interface = class_ref p w.interface; index = v })
      index

  module _ (at below : ℕ) (x : ClassEntry) (c : Class) (one : class_spots p at x c ≡ [])
      (two : table_items p below x (table_of (world p) c) ≡ []) where
    abbrev t : ClassTable
    t = table_of (world p) c

    class_same : x ≡ wanted_entry p c
    class_same =
        let fields = fields_of p.files c in
        let maps = beside map_size (map_interface p) (maps_begin at x) x.interfaces t.maps in
        let s1 = unless ((x.flags == info_flags (world p) c) && (length x.interfaces == length t.maps))
        (in_info 6 at) in
        let s2 = unless (same_class x.superclass (class_ref p (superclass c))) (in_info 6 (at + 1)) in
        let s3 = unless (x.declared_instance_size == instance_cells fields) (in_info 6 (at + 3)) in
        let s4 = unless (x.first_reference_token == first_reference_token fields) (in_info 6 (at + 4)) in
        let s5 = unless (x.reference_count == reference_count fields) (in_info 6 (at + 5)) in
        let e5 = none_left ((((s1 ++ s2) ++ s3) ++ s4) ++ s5) maps one in
        let e4 = none_left (((s1 ++ s2) ++ s3) ++ s4) s5 e5 in
        let e3 = none_left ((s1 ++ s2) ++ s3) s4 e4 in
        let e2 = none_left (s1 ++ s2) s3 e3 in
        let flags = and_true (x.flags == info_flags (world p) c) (length x.interfaces == length t.maps) (unless_holds
        ((x.flags == info_flags (world p) c) && (length x.interfaces == length t.maps)) (in_info 6 at) (none_left s1 s2
        e2)) in
        let super = unless_holds (same_class x.superclass (class_ref p (superclass c))) (in_info 6 (at + 1))
        (none_right s1
        s2 e2) in
        let size = unless_holds (x.declared_instance_size == instance_cells fields) (in_info 6 (at + 3)) (none_right (s1
        ++ s2) s3 e3) in
        let first = unless_holds (x.first_reference_token == first_reference_token fields) (in_info 6 (at + 4))
        (none_right
        ((s1 ++ s2) ++ s3) s4 e4) in
        let count = unless_holds (x.reference_count == reference_count fields) (in_info 6 (at + 5)) (none_right (((s1
        ++ s2) ++ s3) ++ s4) s5 e5) in
        let t1 = unless (length x.interfaces == length t.maps) (in_info 6 below) in
        let t2 = unless (x.public_base == t.public_base) (in_info 6 (below + 6)) in
        let t3 = unless (length x.public_methods == length t.public) (in_info 6 (below + 7)) in
        let t4 = unless (x.package_base == t.package_base) (in_info 6 (below + 8)) in
        let t5 = unless (length x.package_methods == length t.«package») (in_info 6 (below + 9)) in
        let t6 = entries_differ (below + 10) x.public_methods (map (public_entry p) t.public) in
        let t7 = entries_differ (below + 10 + 2 * length x.public_methods) x.package_methods (map (method_offset p)
        t.«package») in
        let t8 = beside map_size (map_spots p) (maps_begin below x) x.interfaces t.maps in
        let d7 = none_left ((((((t1 ++ t2) ++ t3) ++ t4) ++ t5) ++ t6) ++ t7) t8 two in
        let d6 = none_left (((((t1 ++ t2) ++ t3) ++ t4) ++ t5) ++ t6) t7 d7 in
        let d5 = none_left ((((t1 ++ t2) ++ t3) ++ t4) ++ t5) t6 d6 in
        let d4 = none_left (((t1 ++ t2) ++ t3) ++ t4) t5 d5 in
        let d3 = none_left ((t1 ++ t2) ++ t3) t4 d4 in
        let d2 = none_left (t1 ++ t2) t3 d3 in
        let base = unless_holds (x.public_base == t.public_base) (in_info 6 (below + 6)) (none_right t1 t2 d2) in
        let long = unless_holds (length x.public_methods == length t.public) (in_info 6 (below + 7)) (none_right (t1
        ++ t2) t3 d3) in
        let hidden = unless_holds (x.package_base == t.package_base) (in_info 6 (below + 8)) (none_right ((t1 ++ t2)
        ++ t3) t4 d4) in
        let longer = unless_holds (length x.package_methods == length t.«package») (in_info 6 (below + 9)) (none_right
        (((t1 ++ t2) ++ t3) ++ t4) t5 d5) in
        let public = numbers_same 2 (λ (n a b : ℕ). unless (a == b) (in_info 6 n)) (λ n a b. refl) (below + 10)
        x.public_methods (map (public_entry p) t.public) (number_same (length x.public_methods) (length t.public) long
        ∙ sym (length-map t.public (public_entry p))) (none_right ((((t1 ++ t2) ++ t3) ++ t4) ++ t5) t6 d6) in
        let visible = numbers_same 2 (λ (n a b : ℕ). unless (a == b) (in_info 6 n)) (λ n a b. refl) (below + 10 + 2
        * length x.public_methods) x.package_methods (map (method_offset p) t.«package») (number_same (length
        x.package_methods) (length t.«package») longer ∙ sym (length-map t.«package» (method_offset p))) (none_right
        (((((t1 ++ t2) ++ t3) ++ t4) ++ t5) ++ t6) t7 d7) in
        let mapped = each_same map_size (map_spots p) (implemented (class_ref p)) map_same (maps_begin below x)
        x.interfaces t.maps (number_same (length x.interfaces) (length t.maps) flags.1) (none_right ((((((t1 ++ t2)
        ++ t3)
        ++ t4) ++ t5) ++ t6) ++ t7) t8 two) in
        entry_is x (info_flags (world p) c) (class_ref p (superclass c)) (instance_cells fields) (first_reference_token
        fields) (reference_count fields) t.public_base t.package_base (map (public_entry p) t.public) (map
        (method_offset
        p) t.«package») (map (implemented (class_ref p)) t.maps) (number_same x.flags (info_flags (world p) c) flags.0)
        (ref_same x.superclass (class_ref p (superclass c)) super) (number_same x.declared_instance_size (instance_cells
        fields) size) (number_same x.first_reference_token (first_reference_token fields) first) (number_same
        x.reference_count (reference_count fields) count) (number_same x.public_base t.public_base base) (number_same
        x.package_base t.package_base hidden) public visible mapped

  info_same : (at below : ℕ) (i : Info) (c : Class) → info_spots p at i c ≡ [] → table_spots p below i c ≡ [] → i
      ≡ wanted_info p c
  info_same at below i c one two = by i (is_interface c.flags) refl one two
    where
      by : (x : Info) (b : Bool) → is_interface c.flags ≡ b → info_spots p at x c ≡ [] → table_spots p below x c ≡ []
          → x ≡ wanted_info p c
      by (IsInterface e) true is h g =
          let spots : interface_spots p at e c ≡ [] = sym (ap (λ b. if b then interface_spots p at e c else in_info 6 at
          ∷ []) is) ∙ h in
          ap IsInterface (interface_same at e c spots) ∙ sym (ap (λ b. if b then IsInterface (interface_entry
          (class_ref p)
          (world p) c) else IsClass (wanted_entry p c)) is)
      by (IsInterface e) false is h g = let no : in_info 6 at ∷ [] ≡ [] = sym (ap
          (λ b. if b then interface_spots p at e c
          else in_info 6 at ∷ []) is) ∙ h in cc
      by (IsClass e) true is h g = let no : in_info 6 at ∷ [] ≡ [] = sym (ap (λ b. if b then in_info 6 at ∷ []
          else class_spots p at e c) is) ∙ h in cc
      by (IsClass e) false is h g =
          let spots : class_spots p at e c ≡ [] = sym (ap (λ b. if b then in_info 6 at ∷ [] else class_spots p at e c)
          is)
          ∙ h in
          let tables : head_of (table_items p below e (table_of (world p) c)) ≡ [] = sym (ap (λ b. if b then []
          else head_of (table_items p below e (table_of (world p) c))) is) ∙ g in
          ap IsClass (class_same at below e c spots (no_head (table_items p below e (table_of (world p) c)) tables))
          ∙ sym
          (ap (λ b. if b then IsInterface (interface_entry (class_ref p) (world p) c) else IsClass
          (wanted_entry p c)) is)

-- ---- interfaces before classes

-- lists that are alike have alike interfaces and classes
split_infos : (is js : List InterfaceEntry) (cs ds : List ClassEntry) → map IsInterface is ++ map IsClass cs
    ≡ map IsInterface js ++ map IsClass ds → (is ≡ js) × (cs ≡ ds)
split_infos [] [] cs ds e = (refl, classes_alike cs ds e)
  where
    classes_alike : (xs ys : List ClassEntry) → map IsClass xs ≡ map IsClass ys → xs ≡ ys
    classes_alike [] [] h = refl
    classes_alike [] (y ∷ ys) h = cc
    classes_alike (x ∷ xs) [] h = cc
    classes_alike (x ∷ xs) (y ∷ ys) h =
        let rest : map IsClass xs ≡ map IsClass ys = cc in
        let first : x ≡ y = cc in
        ap (λ z. z ∷ xs) first ∙ ap (λ zs. y ∷ zs) (classes_alike xs ys rest)
split_infos [] (j ∷ js) [] ds e = cc
split_infos [] (j ∷ js) (c ∷ cs) ds e = cc
split_infos (i ∷ is) [] cs [] e = cc
split_infos (i ∷ is) [] cs (d ∷ ds) e = cc
split_infos (i ∷ is) (j ∷ js) cs ds e =
    let rest : map IsInterface is ++ map IsClass cs ≡ map IsInterface js ++ map IsClass ds = cc in
    let first : i ≡ j = cc in
    let r = split_infos is js cs ds rest in
    (ap (λ z. z ∷ is) first ∙ ap (λ zs. j ∷ zs) r.0, r.1)

no_first : (ss : List ComponentPlace) → first_of ss ≡ [] → ss ≡ []
no_first [] e = refl
no_first (s ∷ ss) e = cc

-- what holds of each class of a kind
mapped_kind : {A : Type 0} (f g : Class → A) (cs : List Class) → ((k : ℕ) (c : Class) → slice_get cs k ≡ Some c → f c
    ≡ g c) → map f cs ≡ map g cs
mapped_kind f g [] h = refl
mapped_kind f g (c ∷ cs) h = ap (λ x. x ∷ map f cs) (h 0 c refl) ∙ ap (λ xs. g c ∷ xs) (mapped_kind f g cs (λ k d e. h
    (suc k) d e))

pub map_twice : {A B C : Type 0} (f : B → C) (g : A → B) (xs : List A) → map f (map g xs) ≡ map (λ (x : A). f (g x)) xs
map_twice f g [] = refl
map_twice f g (x ∷ xs) = ap (λ ys. f (g x) ∷ ys) (map_twice f g xs)

-- infos by the order of classes
pub infos_by_order : (list : List ℕ) (files : Files) (sound : IsSound list files) (w : List Class) → w
    ≡ all_classes files
    → (interface : Class → InterfaceEntry) (class : Class → ClassEntry) → map IsInterface (map interface
    (in_order w true))
    ++ map IsClass (map class (in_order w false)) ≡ map (λ (c : Class). if is_interface c.flags then IsInterface
    (interface c) else IsClass (class c)) (class_order w)
unfolding class_order
infos_by_order list files sound w same interface class =
    let by = λ (c : Class). if is_interface c.flags then IsInterface (interface c) else IsClass (class c) in
    let kind_in = λ (b : Bool) (c : Class) (h : Has c (in_order w b)). kind-in list files sound b c (subst (λ v. Has c
    (in_order v b)) same h) in
    let front : map IsInterface (map interface (in_order w true)) ≡ map by (in_order w true) = map_twice IsInterface
    interface (in_order w true) ∙ mapped_kind (λ (c : Class). IsInterface (interface c)) by (in_order w true) (λ k c e.
    sym (ap (λ b. if b then IsInterface (interface c) else IsClass (class c)) (kind_in true c (get-has c
    (in_order w true)
    k e)).2)) in
    let back : map IsClass (map class (in_order w false)) ≡ map by (in_order w false) = map_twice IsClass class
    (in_order
    w false) ∙ mapped_kind (λ (c : Class). IsClass (class c)) by (in_order w false) (λ k c e. sym (ap (λ b. if b
    then IsInterface (interface c) else IsClass (class c)) (no_kind (is_interface c.flags) (kind_in false c (get-has c
    (in_order w false) k e)).2))) in
    ap (λ xs. xs ++ map IsClass (map class (in_order w false))) front ∙ ap (λ xs. map by (in_order w true) ++ xs) back
    ∙ sym (map-append by (in_order w true) (in_order w false))
  where
    no_kind : (b : Bool) → not b ≡ true → b ≡ false
    no_kind true h = cc
    no_kind false h = refl

module _ (list : List ℕ) (applets : Bool) (files : Files) (image : StaticImage) (c : Complete)
    (sound : IsSound list files) (paired : ArePaired files image c) (verified : IsVerified
    (pair_of applets files image c))
  where
    abbrev p : Pair
    p = pair_of applets files image c

    infos_clean : all_info_spots p ≡ []
    infos_clean = no_spots 729 (all_info_spots p) (λ b among. verified b (listed b (among_left b (class_breaks p
        ++ header_breaks p ++ map (break_at 728) (all_array_spots p)) (map (break_at 721) (described_spots p))
        (among_left b (class_breaks p ++ header_breaks p) (map (break_at 728) (all_array_spots p)) (among_left b
        (class_breaks p) (header_breaks p) (among_right b (map (break_at 725) (all_table_spots p)
        ++ map (break_at 727) (all_abstract_spots p)) (map (break_at 729) (all_info_spots p)) among))))))

    tables_clean : all_table_spots p ≡ []
    tables_clean = no_spots 725 (all_table_spots p) (λ b among. verified b (listed b (among_left b (class_breaks p
        ++ header_breaks p ++ map (break_at 728) (all_array_spots p)) (map (break_at 721) (described_spots p))
        (among_left b (class_breaks p ++ header_breaks p) (map (break_at 728) (all_array_spots p)) (among_left b
        (class_breaks p) (header_breaks p) (among_left b (map (break_at 725) (all_table_spots p)
        ++ map (break_at 727) (all_abstract_spots p)) (map (break_at 729) (all_info_spots p)) (among_left b (map
        (break_at 725) (all_table_spots p)) (map (break_at 727) (all_abstract_spots p)) among)))))))

    pub abstract_clean : all_abstract_spots p ≡ []
    abstract_clean = no_spots 727 (all_abstract_spots p) (λ b among. verified b (listed b (among_left b (class_breaks p
        ++ header_breaks p ++ map (break_at 728) (all_array_spots p)) (map (break_at 721) (described_spots p))
        (among_left b (class_breaks p ++ header_breaks p) (map (break_at 728) (all_array_spots p)) (among_left b
        (class_breaks p) (header_breaks p) (among_left b (map (break_at 725) (all_table_spots p)
        ++ map (break_at 727) (all_abstract_spots p)) (map (break_at 729) (all_info_spots p)) (among_right b (map
        (break_at 725) (all_table_spots p)) (map (break_at 727) (all_abstract_spots p)) among)))))))

    -- as many infos as classes
    pub as_many : length (infos c.class) ≡ length (class_order (world p))
    as_many =
        let i = c.class in
        let none = no_first (cell_spots image c.statics ++ (count_spots (world p) c.class ++ paired_methods (world p)
        c.descriptor)) paired in
        let counted = none_left (count_spots (world p) c.class) (paired_methods (world p) c.descriptor) (none_right
        (cell_spots image c.statics) (count_spots (world p) c.class ++ paired_methods (world p) c.descriptor) none) in
        let same = number_same (info_count c.class) (length (class_order (world p))) (unless_holds
        (info_count c.class ==
        length (class_order (world p))) (in_info 11 0) counted) in
        length-append (map IsInterface i.interfaces) (map IsClass i.classes) ∙ ap (λ n. n + length
        (map IsClass i.classes))
        (length-map i.interfaces IsInterface) ∙ ap (λ n. length i.interfaces + n) (length-map i.classes IsClass) ∙ same

    pub infos_are : infos c.class ≡ map (wanted_info p) (class_order (world p))
    infos_are = both_same info_size (info_spots p) (table_spots p) (wanted_info p)
        (λ at i k one two. info_same p at at i k
        one two) first_interface (infos c.class) (class_order (world p)) as_many infos_clean tables_clean

    -- Class has the infos of the package
    pub class_is : c.class ≡ wanted_infos p
    class_is =
        let i = c.class in
        let w = world p in
        let r = split_infos i.interfaces (map (interface_entry (class_ref p) w) (in_order w true)) i.classes (map
        (wanted_entry p) (in_order w false)) (infos_are ∙ sym (infos_by_order list files sound w refl (interface_entry
        (class_ref p) w) (wanted_entry p))) in
        ap (λ v. record i { interfaces = v }) r.0 ∙ ap (λ v. record {
          interfaces = map (interface_entry (class_ref p) w) (in_order w true);
          classes = v;
        }) r.1
