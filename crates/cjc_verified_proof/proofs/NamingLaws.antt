-- What the components of a package name: classes are told, and stand below one another, as the class files and export
-- files say.
use Rattle.std.proofs.Common.{◌≡◌, ◌+◌, ◌*◌, ◌==◌, ℕ, zero, suc, Bool, true, false, List, [], ◌∷◌, ◌++◌, length}
use Rattle.std.proofs.Common.{map, slice_get, Option, Some, None, refl, sym, ap, subst, ◌∙◌, nat_lt}
use Rattle.std.specs.Prelude.{codes, if◌then◌else◌, is_some, option_and_then, option_map, option_to_list, position}
use Rattle.std.specs.Prelude.{sum_by, unwrap_or}
use Rattle.std.specs.Str.{bytes_eq}
use Rattle.std.proofs.lemmas.List.{length-map}
use Rattle.std.proofs.lemmas.Option.{slice_get-map}
use Rattle.cjc_bytes.proofs.Gets.{mapped_at}
use Rattle.cjc_bytes.proofs.Lists.{sums_same}
use Rattle.cjc_bytes.specs.AccessFlags.{is_interface}
use Rattle.cjc_capread.specs.declared.tree.ClassRef.{ClassRef}
use Rattle.cjc_capread.specs.declared.tree.ClassRef.TheVariants.{Inside, Outside}
use Rattle.cjc_capread.specs.declared.tree.ImplementedInterface.{ImplementedInterface}
use Rattle.cjc_check_rules.specs.Spots.{placed, starts}
use Rattle.cjc_check_rules.specs.Classes.{first_class, first_interface}
use Rattle.cjc_check_rules.specs.Complete.{Complete, class_size, interface_size, map_size}
use Rattle.cjc_check_rules.specs.Described.{all_starts}
use Rattle.cjc_verify.specs.List.Listed.{ListTree}
use Rattle.cjc_world.specs.declared.image.StaticImage.{StaticImage}
use Rattle.cjc_world.specs.Classes.{Class, all_classes}
use Rattle.cjc_world.specs.Files.{Files}
use Rattle.cjc_world.specs.Order.{class_order, in_order}
use Rattle.cjc_card_semantics.specs.Machine.Loaded.{Import, Loaded}
use Rattle.cjc_card_semantics.specs.Machine.Classes.{Own, Info, IsInterface, IsClass, class_of, external_from}
use Rattle.cjc_card_semantics.specs.Machine.Classes.{external_named, imported_class, info_of, info_size, info_supers}
use Rattle.cjc_card_semantics.specs.Machine.Classes.{number_from, number_named, object_above, object_class, offset_from}
use Rattle.cjc_card_semantics.specs.Machine.Classes.{or_else}
use Rattle.cjc_card_semantics.specs.Machine.Classes as card
use Rattle.cjc_verify.specs.CardLink.Indices.{first_place}
use Rattle.cjc_components.specs.Class.{class_entry, class_info, implemented, interface_entry, interfaces_of, superclass}
use Rattle.cjc_components.specs.Class.{table_entry}
use Rattle.cjc_components.specs.Methods.{method_offset}
use Rattle.cjc_components.specs.Names.{class_at, class_ref as written_ref, info_starts, ref_to}
use Rattle.cjc_token_proof.specs.NCode.Lowering.Naming.{Naming}
use Rattle.cjc_components.specs.Package.{Package}
use Rattle.cjc_components.specs.Paired.Naming.{class_names, files_from}
use Rattle.cjc_components.specs.Paired.Pairs.{ArePaired}
use Rattle.cjc_token_proof.specs.VTable.Tables.{table_of}
use Rattle.cjc_token_proof.specs.VTable.declared.table.InterfaceMap.{InterfaceMap}
use Rattle.cjc_token_proof.specs.ByToken.Supers.{IsToldOf, SaysKinds, SaysSupers, above_each, listed_there, of_file}
use Rattle.cjc_token_proof.specs.ByToken.Supers.{of_package}
use Rattle.cjc_token_proof.specs.Tables.Infos.{HasInfo}
use Rattle.cjc_token_proof.specs.Tables.Loading.{info_for, loaded as written_loaded, naming, part as written_part}
use Rattle.cjc_token_proof.specs.Tables.Sound.{IsSound}
use Rattle.cjc_verify.specs.Infos.{infos, public_entry}
use Rattle.cjc_verify.specs.Pairs.{Pair, class_named as class_on_card, class_ref, pair_of}
use Rattle.cjc_verify.specs.Pairs as pairs
use Rattle.cjc_verify.specs.Verified.{IsVerified}
use Rattle.cjc_verified_proof.specs.ClassInfos.{wanted_info, wanted_infos}
use Rattle.cjc_verify.specs.WantedInfos.{wanted_entry}
use Rattle.cjc_verified_proof.specs.Dispatching.{naming_of, package_of}
use Rattle.cjc_verify.proofs.CardLinkInfoPlaces as places
use Rattle.cjc_token_proof.proofs.ComponentsLaws.Starts.{infos_stand_alike}
use Rattle.cjc_token_proof.proofs.TablesLaws.Above.{says_kinds}
use Rattle.cjc_verified_proof.proofs.InfoLaws.{class_is, infos_are, infos_by_order, map_twice}
use Rattle.cjc_verified_proof.proofs.PlaceLaws.{import_is}

-- ---- lists

pub mapped_same : {A B : Type 0} (f g : A → B) → ((x : A) → f x ≡ g x) → (xs : List A) → map f xs ≡ map g xs
mapped_same f g h [] = refl
mapped_same f g h (x ∷ xs) = ap (λ y. y ∷ map f xs) (h x) ∙ ap (λ ys. g x ∷ ys) (mapped_same f g h xs)

starts_same : {X A : Type 0} (size : A → ℕ) (f g : X → A) → ((x : X) → size (f x) ≡ size (g x)) → (at : ℕ) (xs : List X)
    → starts size at (map f xs) ≡ starts size at (map g xs)
unfolding placed
starts_same size f g h at [] = refl
starts_same size f g h at (x ∷ xs) =
    ap (λ n. at ∷ starts size (at + n) (map f xs)) (h x) ∙ ap (λ ys. at ∷ ys) (starts_same size f g h (at + size (g x))
    xs)

some_alike : {A B : Type 0} (f g : A → B) (xs : List A) (k : ℕ) → is_some (slice_get (map f xs) k) ≡ is_some (slice_get
    (map g xs) k)
some_alike f g [] k = refl
some_alike f g (x ∷ xs) zero = refl
some_alike f g (x ∷ xs) (suc k) = some_alike f g xs k

module _ (name : List ℕ) (list : ListTree) (files : Files) (image : StaticImage) (c : Complete)
    (sound : IsSound name files) (paired : ArePaired files image c)
    (verified : IsVerified (pair_of (nat_lt 0 (length list.applets)) files image c)) where
  abbrev applets : Bool
  applets = nat_lt 0 (length list.applets)

  abbrev p : Pair
  p = pair_of applets files image c

  abbrev l : Loaded
  l = p.loaded

  abbrev w : List Class
  w = all_classes files

  -- the package, as if it had no methods: what is written for it has the same classes
  abbrev pub q : Package
  q = package_of list files image

  abbrev m : Loaded
  m = written_loaded q

  abbrev order : List Class
  order = class_order w

  here : c.class ≡ wanted_infos p
  here = class_is name applets files image c sound paired verified

  -- ---- where infos stand

  module _ (ref : List ℕ → ClassRef) where
    interface_alike : (i : Class) → interface_size (interface_entry (class_ref p) w i) ≡ interface_size (interface_entry
        ref w i)
    interface_alike i = let is = interfaces_of w i in ap (λ n. 1 + 2 * n) (length-map is (λ (s : Class). class_ref p
        s.name) ∙ sym (length-map is (λ (s : Class). ref s.name)))

    class_alike : (k : Class) → class_size (wanted_entry p k) ≡ class_size (class_entry ref q k)
    class_alike k =
        let t = table_of w k in
        let wanted = wanted_entry p k in
        let entry = class_entry ref q k in
        ap (λ n. 10 + 2 * n + 2 * length wanted.package_methods + sum_by map_size wanted.interfaces)
        (length-map t.public
        (public_entry p) ∙ sym (length-map t.public (table_entry q)))
        ∙ ap (λ n. 10 + 2 * length entry.public_methods + 2 * n + sum_by map_size wanted.interfaces) (length-map
        t.«package» (pairs.method_offset p) ∙ sym (length-map t.«package» (method_offset q)))
        ∙ ap (λ n. 10 + 2 * length entry.public_methods + 2 * length entry.package_methods + n) (sums_same map_size
        (implemented (class_ref p)) (implemented ref) (λ i. refl) t.maps)

    starts_by : all_starts (wanted_infos p) ≡ all_starts (class_info ref q)
    starts_by =
        let is = in_order w true in
        let cs = in_order w false in
        ap (λ ss. ss ++ starts class_size (first_class (wanted_infos p)) (map (wanted_entry p) cs)) (starts_same
        interface_size (interface_entry (class_ref p) w) (interface_entry ref w) interface_alike first_interface is)
        ∙ ap (λ n. starts interface_size first_interface (map (interface_entry ref w) is) ++ starts class_size
        (first_interface + n) (map (wanted_entry p) cs)) (sums_same interface_size (interface_entry (class_ref p) w)
        (interface_entry ref w) interface_alike is)
        ∙ ap (λ ss. starts interface_size first_interface (map (interface_entry ref w) is) ++ ss)
        (starts_same class_size
        (wanted_entry p) (class_entry ref q) class_alike (first_class (class_info ref q)) cs)

  starts_alike : pairs.starts p ≡ info_starts q
  starts_alike = ap all_starts here ∙ starts_by (λ (x : List ℕ). Inside 0)

  -- a name is the same class on the card
  pub class_same : (x : List ℕ) → class_on_card p x ≡ class_at q x
  class_same x = ap (λ ss. unwrap_or (or_else (option_map (Own 0) (option_and_then (slice_get ss) (position
      (λ (d : Class). bytes_eq d.name x) order))) (external_from 0 files.exports x)) (Own 0 0)) starts_alike

  pub ref_same : (x : List ℕ) → class_ref p x ≡ written_ref q x
  ref_same x = ap ref_to (class_same x)

  -- ---- infos by their numbers

  abbrev own_infos : List Info
  own_infos = infos c.class

  abbrev other_infos : List Info
  other_infos = card.infos (written_part q)

  others_are : other_infos ≡ map (info_for q) order
  others_are = infos_by_order name files sound w refl (interface_entry (written_ref q) w) (class_entry
      (written_ref q) q)

  own_are : own_infos ≡ map (wanted_info p) order
  own_are = infos_are name applets files image c sound paired verified

  -- there are as many
  pub depth_alike : card.depth m ≡ card.depth l
  depth_alike = ap (λ k. 1 + (k + 0)) (ap length others_are ∙ length-map order (info_for q) ∙ sym (length-map order
      (wanted_info p)) ∙ sym (ap length own_are))

  all_alike : starts info_size 2 own_infos ≡ starts info_size 2 other_infos
  all_alike = sym (places.all_starts c.class) ∙ starts_alike ∙ infos_stand_alike (λ (x : List ℕ). Inside 0)
      (written_ref q) q ∙ places.all_starts (class_info (written_ref q) q)

  pub number_alike : (offset : ℕ) → number_from 2 own_infos offset ≡ number_from 2 other_infos offset
  number_alike offset = sym (places.number_place 2 own_infos offset) ∙ ap (first_place (λ n. n == offset)) all_alike
      ∙ places.number_place 2 other_infos offset

  pub offset_alike : (k : ℕ) → offset_from 2 own_infos k ≡ offset_from 2 other_infos k
  offset_alike k = sym (places.offset_place 2 own_infos k) ∙ ap (λ ss. slice_get ss k) all_alike
      ∙ places.offset_place 2 other_infos k

  there_alike : (offset : ℕ) → is_some (info_of l 0 offset) ≡ is_some (info_of m 0 offset)
  there_alike offset = ap (λ o. is_some (option_and_then (slice_get own_infos) o)) (number_alike offset) ∙ by
      (number_from
      2 other_infos offset)
    where
      by : (o : Option ℕ) → is_some (option_and_then (slice_get own_infos) o) ≡ is_some (option_and_then (slice_get
          other_infos) o)
      by None = refl
      by (Some k) = ap (λ xs. is_some (slice_get xs k)) own_are ∙ some_alike (wanted_info p) (info_for q) order k
          ∙ sym (ap (λ xs. is_some (slice_get xs k)) others_are)

  -- ---- what class_refs and names mean

  pub meant_alike : (r : ClassRef) → class_of l 0 r ≡ class_of m 0 r
  meant_alike (Inside offset) = ap (λ b. if b then Some (Own 0 offset) else None) (there_alike offset)
  meant_alike (Outside import token) = by (slice_get (files_from 0 files.exports) import) refl
    where
      by : (o : Option Import) → slice_get (files_from 0 files.exports) import ≡ o
          → option_and_then (imported_class l token) o ≡ option_and_then (imported_class m token) o
      by None e = refl
      by (Some x) e = subst (λ (i : Import). imported_class l token i ≡ imported_class m token i) (sym (import_is 0
          files.exports import x e)) refl

  pub named_alike : (x : List ℕ) → card.class_named l x ≡ card.class_named m x
  named_alike x = by (number_named (map (class_names files (let v = p in v.tokens)) order) x)
    where
      by : (o : Option ℕ) → or_else (or_else (option_and_then (λ (k : ℕ). option_map (Own 0)
          (offset_from 2 own_infos k))
          o) None) (external_named l x) ≡ or_else (or_else (option_and_then (λ (k : ℕ). option_map (Own 0)
          (offset_from 2
          other_infos k)) o) None) (external_named m x)
      by None = refl
      by (Some k) = ap (λ o. or_else (or_else (option_map (Own 0) o) None) (external_named l x)) (offset_alike k)

  objects_alike : object_class l ≡ object_class m
  objects_alike = named_alike (codes "java/lang/Object")

  -- ---- supers of infos

  supers_alike : (k : Class) → info_supers (wanted_info p k) ≡ info_supers (info_for q k)
  supers_alike k = by (is_interface k.flags)
    where
      listed : map (λ (s : Class). class_ref p s.name) (interfaces_of w k) ≡ map (λ (s : Class). written_ref q s.name)
          (interfaces_of w k)
      listed = mapped_same (λ (s : Class). class_ref p s.name) (λ (s : Class). written_ref q s.name) (λ (s : Class).
          ref_same s.name) (interfaces_of w k)

      maps : map (λ (x : ImplementedInterface). x.interface) (map (implemented (class_ref p)) (let t = table_of w k
          in t.maps)) ≡ map (λ (x : ImplementedInterface). x.interface) (map (implemented (written_ref q)) (let t =
          table_of w k in t.maps))
      maps = map_twice (λ (x : ImplementedInterface). x.interface) (implemented (class_ref p)) (let t = table_of w k
          in t.maps) ∙ mapped_same (λ (i : InterfaceMap). class_ref p i.interface) (λ (i : InterfaceMap). written_ref q
          i.interface) (λ (i : InterfaceMap). ref_same i.interface) (let t = table_of w k in t.maps) ∙ sym (map_twice
          (λ (x : ImplementedInterface). x.interface) (implemented (written_ref q)) (let t = table_of w k in t.maps))

      by : (b : Bool) → info_supers (if b then IsInterface (interface_entry (class_ref p) w k) else IsClass
          (wanted_entry p
          k)) ≡ info_supers (if b then IsInterface (interface_entry (written_ref q) w k) else IsClass (class_entry
          (written_ref q) q k))
      by true = listed
      by false = ap (λ r. r ∷ map (λ (x : ImplementedInterface). x.interface) (map (implemented (class_ref p)) (let t =
          table_of w k in t.maps))) (ref_same (superclass k)) ∙ ap (λ rs. written_ref q (superclass k) ∷ rs) maps

  above_alike : (k : Class) → object_above l (Some (wanted_info p k)) ≡ object_above m (Some (info_for q k))
  above_alike k = by (is_interface k.flags)
    where
      by : (b : Bool) → object_above l (Some (if b then IsInterface (interface_entry (class_ref p) w k) else IsClass
          (wanted_entry p k))) ≡ object_above m (Some (if b then IsInterface (interface_entry (written_ref q) w k)
          else IsClass (class_entry (written_ref q) q k)))
      by true = ap option_to_list objects_alike
      by false = refl

  -- the info at an offset, here and there
  pub record IsInfo (offset : ℕ) (info : Info) : Type 0 where
    pub class : Class
    pub here_is : info_of l 0 offset ≡ Some (wanted_info p class)
    pub there_is : info_for q class ≡ info

  info_alike : (offset : ℕ) (info : Info) → info_of m 0 offset ≡ Some info → IsInfo offset info
  info_alike offset info e = by (number_from 2 other_infos offset) refl e
    where
      by : (o : Option ℕ) → number_from 2 other_infos offset ≡ o → option_and_then (slice_get other_infos) o ≡ Some info
          → IsInfo offset info
      by None f h = cc
      by (Some k) f h =
          let r = mapped_at (info_for q) order k info (sym (ap (λ xs. slice_get xs k) others_are) ∙ h) in
          record {
            class = r.0;
            here_is = ap (option_and_then (slice_get own_infos)) (number_alike offset ∙ f) ∙ ap (λ xs. slice_get xs k)
                own_are ∙ slice_get-map (wanted_info p) order k ∙ ap (option_map (wanted_info p)) r.1;
            there_is = r.2;
          }

  -- the info of a class of the package
  pub own_info : (k : Class) → (h : HasInfo q k) → info_of l 0 h.offset ≡ Some (wanted_info p k)
  own_info k h = ap (option_and_then (slice_get own_infos)) (number_alike h.offset ∙ h.numbered) ∙ ap
      (λ xs. slice_get xs
      h.number) own_are ∙ slice_get-map (wanted_info p) order h.number ∙ ap (option_map (wanted_info p)) h.ordered

  -- ---- kinds

  -- what the components name
  abbrev pub n : Naming
  n = naming_of p q

  written_kinds : SaysKinds w (naming q)
  written_kinds = says_kinds name q sound

  supers_by : (x : List ℕ) (k : Class) → SaysSupers w (naming q) x k → SaysSupers w n x k
  supers_by x k (of_file tree token e on there supers interfaces named) = of_file tree token e on there supers
      interfaces
      named
  supers_by x k (of_package offset info listed on there are told all) =
      let i = info_alike offset info there in
      let objects : option_to_list (object_class l) ≡ option_to_list
      (object_class m) = ap option_to_list objects_alike in
      let above : object_above l (Some (wanted_info p i.class)) ≡ object_above m (Some info) = above_alike i.class
      ∙ ap (λ z. object_above m (Some z)) i.there_is in
      of_package offset (wanted_info p i.class) listed on i.here_is (supers_alike i.class ∙ ap info_supers i.there_is
      ∙ are) (λ y t. told y (there_told info (wanted_info p i.class) listed y objects above t)) (λ y s h. here_told info
      (wanted_info p i.class) listed y objects above (all y s h))
    where
      there_told : (info mine : Info) (listed : List (List ℕ)) (y : List ℕ) → option_to_list (object_class l)
          ≡ option_to_list (object_class m) → object_above l (Some mine) ≡ object_above m (Some info) → IsToldOf n mine
          listed y → IsToldOf (naming q) info listed y
      there_told info mine listed y objects above (listed_there h) = listed_there h
      there_told info mine listed y objects above (above_each h) = above_each (sym above ∙ h ∙ objects)

      here_told : (info mine : Info) (listed : List (List ℕ)) (y : List ℕ) → option_to_list (object_class l)
          ≡ option_to_list (object_class m) → object_above l (Some mine) ≡ object_above m (Some info) → IsToldOf
          (naming q)
          info listed y → IsToldOf n mine listed y
      here_told info mine listed y objects above (listed_there h) = listed_there h
      here_told info mine listed y objects above (above_each h) = above_each (above ∙ h ∙ sym objects)

  -- class infos and export files say of each class what stands above it
  pub kinds : SaysKinds w n
  kinds = record {
    class_ref = λ y has. meant_alike (written_ref q y) ∙ (let k = written_kinds in k.class_ref y has);
    object_there = (let k = written_kinds in k.object_there);
    object_class = objects_alike ∙ (let k = written_kinds in k.object_class);
    once = (let k = written_kinds in k.once);
    no_array = (let k = written_kinds in k.no_array);
    supers = λ x d e. supers_by x d (let k = written_kinds in k.supers x d e);
  }
