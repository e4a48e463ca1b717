-- The map of an interface on the card, where packages are loaded together: that of the class by its own tables, or else
-- that of its superclass, whichever package that is of.
use Rattle.std.proofs.Common.{◌≡◌, ℕ, suc, refl, sym, ap, ◌∙◌, Bool, true, false, List, [], ◌∷◌, map}
use Rattle.std.specs.Prelude.{◌&&◌, ◌==◌, Option, Some, is_some, slice_get, unwrap_or, if◌then◌else◌}
use Rattle.std.specs.Str.{bytes_eq}
use Rattle.cjc_bytes.specs.AccessFlags.{is_interface}
use Rattle.cjc_bytes.proofs.Bools.{both_back, both_front}
use Rattle.cjc_bytes.proofs.Numbers.{like_number, number_same}
use Rattle.cjc_components.specs.Class.{class_entry, implemented}
use Rattle.cjc_components.specs.Names.{class_ref}
use Rattle.cjc_components.specs.Package.{Package, world}
use Rattle.cjc_joint_proof.specs.JointPackages.{class_together, files_together}
use Rattle.cjc_joint_proof.specs.JointTables.{world_together}
use Rattle.cjc_joint_proof.specs.JointTowers.{loaded_together}
use Rattle.cjc_joint_proof.specs.Loading.{AllLead, group_of, member_of, offset_in}
use Rattle.cjc_joint_proof.proofs.ClassLaws.{class_means, own_named, together_at}
use Rattle.cjc_joint_proof.proofs.ClimbLaws.{superclass_stands}
use Rattle.cjc_joint_proof.proofs.MeantLaws.{class_there, once, part_of}
use Rattle.cjc_joint_proof.proofs.PartLaws.{infos_same}
use Rattle.cjc_joint_proof.proofs.ReferLaws.{offset_is}
use Rattle.cjc_joint_theorem.proofs.OrderedLaws.Standing.{class_stands}
use Rattle.cjc_token_proof.proofs.ByToken.Members.{bytes_same, bytes_tell}
use Rattle.cjc_token_proof.proofs.WrittenCalls.Facts.{Facts}
use Rattle.cjc_token_proof.proofs.WrittenCalls.Tables.{entry_there, tables}
use Rattle.cjc_token_proof.specs.ByToken.Supers.{has_class}
use Rattle.cjc_token_proof.specs.CardSemantics.Machine.Classes.{Class as CardClass, External, IsClass, Own, class_of}
use Rattle.cjc_token_proof.specs.CardSemantics.Machine.Classes.{depth, info_of, same_class}
use Rattle.cjc_token_proof.specs.CardSemantics.Machine.Dispatch.{Table, Tower, above, is_same, map_in, map_of}
use Rattle.cjc_token_proof.specs.CardSemantics.Machine.Dispatch.{table_or_missing, tower, tower_from}
use Rattle.cjc_token_proof.specs.CardSemantics.Machine.Loaded.{Loaded}
use Rattle.cjc_token_proof.specs.Tables.Infos.{HasInfo}
use Rattle.cjc_token_proof.specs.Tables.Loading.{loaded}
use Rattle.cjc_vtable.specs.Tables.{table_of}
use Rattle.cjc_vtable.specs.declared.table.InterfaceMap.{InterfaceMap}
use Rattle.cjc_world.proofs.Cycles.{class_named-name}
use Rattle.cjc_world.specs.Classes.{Class, class_named}
use Rattle.cjc_world.specs.Files.{Files}
use Rattle.cjc_joint_whole.specs.Faces.{MapsGoUp, map_or}
use Rattle.cjc_joint_whole.specs.Selected.{SelectTogether}

tells : (a b : CardClass) → same_class a b ≡ true → a ≡ b
tells (Own p a) (Own q b) e = ap (λ x. Own x a) (number_same p q (both_front (p == q) (a == b) e))
    ∙ ap (Own q) (number_same a b (both_back (p == q) (a == b) e))
tells (External p a) (External q b) e = ap (λ x. External x a) (number_same p q (both_front (p == q) (a == b) e))
    ∙ ap (External q) (number_same a b (both_back (p == q) (a == b) e))
tells (Own p a) (External q b) e = cc
tells (External p a) (Own q b) e = cc

like : (a : CardClass) → same_class a a ≡ true
like (Own p a) = ap (λ t. t && (a == a)) (like_number p) ∙ like_number a
like (External p a) = ap (λ t. t && (a == a)) (like_number p) ∙ like_number a

module _ (packages : List Package) (is : SelectTogether packages) (facts : (q : ℕ) (p : Package)
    → slice_get packages q ≡ Some p → Facts p) (leads : (q : ℕ) (p : Package) → slice_get packages q ≡ Some p
    → AllLead (group_of packages) (member_of p)) where
  abbrev l : Loaded
  l = loaded_together packages

  abbrev group : List Files
  group = files_together packages

  abbrev w : List Class
  w = world_together packages

  module _ (i : List ℕ) (i_there : has_class w i ≡ true) where
    abbrev on_card : CardClass
    on_card = class_together packages i

    -- two names stand for one class where they are one
    name_same : (y : List ℕ) → has_class w y ≡ true → same_class (class_together packages y) on_card ≡ bytes_eq y i
    name_same y there = by (same_class (class_together packages y) on_card) refl (bytes_eq y i) refl
      where
        by : (s : Bool) → same_class (class_together packages y) on_card ≡ s → (t : Bool) → bytes_eq y i ≡ t → s ≡ t
        by true e true f = refl
        by false e false f = refl
        by true e false f =
            let one : y ≡ i = once packages is.linked y i there i_there (tells (class_together packages y) on_card e) in
            let clash : true ≡ false = sym (ap (bytes_eq y) (sym one) ∙ bytes_same y) ∙ f in
            cc
        by false e true f =
            let clash : true ≡ false = sym (ap (λ z. same_class (class_together packages y) (class_together packages z))
            (sym (bytes_tell y i f)) ∙ like (class_together packages y)) ∙ e in
            cc

    module _ (q : ℕ) (p : Package) (here : slice_get packages q ≡ Some p) where
      -- maps that are written have the classes of their interfaces
      map_in_same : (ms : List InterfaceMap) → ((k : ℕ) (m : InterfaceMap) → slice_get ms k ≡ Some m
          → has_class (world p) m.interface ≡ true) → (over : Option (List ℕ))
          → map_in l q (map (implemented (class_ref p)) ms) on_card over ≡ map_or ms i over
      map_in_same [] has over = refl
      map_in_same (m ∷ ms) has over =
          let there = class_there (world p) m.interface (has 0 m refl) in
          let hs = class_stands group is.ordered q p.files (together_at packages is.linked q p here) m.interface there.0
          there.1 in
          ap (λ o. if is_same o on_card then Some m.index else map_in l q (map (implemented (class_ref p)) ms) on_card
          over) (class_means packages is.linked q p here m.interface there.0 there.1)
          ∙ ap (λ b. if b then Some m.index else map_in l q (map (implemented (class_ref p)) ms) on_card over)
          (name_same m.interface (ap is_some hs.named))
          ∙ by (bytes_eq m.interface i) (map_in_same ms (λ k o h. has (suc k) o h) over)
        where
          by : (b : Bool) → map_in l q (map (implemented (class_ref p)) ms) on_card over ≡ map_or ms i over
              → (if b then Some m.index else map_in l q (map (implemented (class_ref p)) ms) on_card over)
              ≡ (if b then Some m.index else map_or ms i over)
          by true rest = refl
          by false rest = rest

      module _ (x : List ℕ) (c : Class) (known : class_named (world p) x ≡ Some c) (mine : c.is_imported ≡ false)
          (plain : is_interface c.flags ≡ false) where
        abbrev its : Facts p
        its = facts q p here

        abbrev info : HasInfo p c
        info = let f = its in f.own x c known mine

        own_is : class_together packages x ≡ Own q (let h = info in h.offset)
        own_is = ap (λ o. unwrap_or o (Own 0 0)) (own_named packages is.linked q p here x c known mine)
            ∙ ap (Own q) (ap (offset_in p) (sym (class_named-name (world p) x c known)) ∙ offset_is p c info)

        there : info_of l q (let h = info in h.offset) ≡ Some (IsClass (class_entry (class_ref p) p c))
        there = infos_same (loaded p) l q (part_of packages is.linked q p here) (let h = info in h.offset)
            ∙ entry_there p its x c known mine plain

        abbrev over_it : Tower
        over_it = tower_from l (depth l) (class_of l q (let e = class_entry (class_ref p) p c in e.superclass))

        is_table : tower l (class_together packages x) ≡ Table q (class_entry (class_ref p) p c) over_it
        is_table = ap (tower l) own_is ∙ ap (λ o. table_or_missing q o (λ e. tower_from l (depth l) (class_of l q
            e.superclass))) there

        maps_up : (super : List ℕ) → c.supers ≡ super ∷ []
            → map_of l (tower l (class_together packages x)) on_card
            ≡ map_or (let t = table_of (world p) c in t.maps) i (map_of l (tower l (class_together packages super))
            on_card)
        maps_up super supers =
            let t = tables p its x super c known mine plain supers in
            ap (λ t. map_of l t on_card) is_table
            ∙ ap (λ t. map_in l q (let e = class_entry (class_ref p) p c in e.interfaces) on_card (map_of l t on_card))
            (sym (ap above is_table) ∙ superclass_stands packages is.linked leads facts q p here x c known plain mine
            super supers)
            ∙ map_in_same (let t = table_of (world p) c in t.maps) t.mapped (map_of l (tower l (class_together packages
            super)) on_card)

  -- so maps go up
  pub maps_go_up : MapsGoUp packages
  maps_go_up q p here x c known mine plain super supers i d named =
      maps_up i (ap is_some named) q p here x c known mine plain super supers
