-- A class or interface of the joint world on the card, where packages are loaded together: it is there what it is where
-- the package by itself is loaded that declares it, or that imports it from outside.
use Rattle.std.proofs.Common.{◌≡◌, ℕ, refl, sym, ap, ◌∙◌, true, false, List, Some, ⊎_elim}
use Rattle.std.specs.Prelude.{option_and_then, slice_get, unwrap_or}
use Rattle.cjc_bytes.specs.declared.fault.MemberId.{MemberId}
use Rattle.cjc_components.specs.Names.{class_at}
use Rattle.cjc_components.specs.Package.{Package, world}
use Rattle.cjc_joint_proof.specs.JointPackages.{AreLinked, IsLinked, class_together, to_outside, to_package}
use Rattle.cjc_joint_proof.specs.JointTables.{world_together}
use Rattle.cjc_joint_proof.specs.JointTowers.{loaded_together}
use Rattle.cjc_joint_proof.specs.Loading.{offset_in}
use Rattle.cjc_joint_proof.proofs.ApartLaws.{token_there}
use Rattle.cjc_joint_proof.proofs.ClassLaws.{entry_in, exported, named_in, number_in}
use Rattle.cjc_joint_proof.proofs.MeantLaws.{part_of}
use Rattle.cjc_joint_proof.proofs.PartLaws.{infos_same, names_same}
use Rattle.cjc_joint_proof.proofs.ReferLaws.{offset_is}
use Rattle.cjc_joint_proof.proofs.StandLaws.{Inside, Outside, stands}
use Rattle.cjc_token_proof.proofs.WrittenCalls.Facts.{Facts}
use Rattle.cjc_token_proof.specs.CardSemantics.Machine.Calls.{interface_token, listed_token, place_named}
use Rattle.cjc_token_proof.specs.CardSemantics.Machine.Classes.{External, Own, is_interface_file, is_interface_info}
use Rattle.cjc_token_proof.specs.CardSemantics.Machine.Classes.{token_named}
use Rattle.cjc_token_proof.specs.CardSemantics.Machine.Classes as card
use Rattle.cjc_token_proof.specs.CardSemantics.Machine.Loaded.{ClassNames, Loaded}
use Rattle.cjc_token_proof.specs.Tables.Infos.{HasEntry}
use Rattle.cjc_token_proof.specs.Tables.Loading.{loaded}
use Rattle.cjc_world.specs.Classes.{Class, class_named, declared, imported}
use Rattle.cjc_world.specs.ExportFile.declared.tree.ExportClass.{ExportClass}
use Rattle.cjc_joint_whole.specs.Selected.{SelectTogether}

module _ (packages : List Package) where
  abbrev l : Loaded
  l = loaded_together packages

  -- A package that has a class of the joint world as that has it, and says the same of it on the card.
  pub record StandsAt (y : List ℕ) (d : Class) : Type 0 where
    pub part : ℕ
    pub «package» : Package
    pub here : slice_get packages part ≡ Some «package»
    pub class : Class
    pub known : class_named (world «package») y ≡ Some class
    pub same_flags : d.flags ≡ class.flags
    pub same_methods : d.methods ≡ class.methods
    pub same_supers : d.supers ≡ class.supers
    pub token_alone : (id : MemberId) → interface_token l (class_together packages y) id ≡ interface_token (loaded
        «package») (class_at «package» y) id
    pub kind_alone : card.is_interface l (class_together packages y) ≡ card.is_interface (loaded «package») (class_at
        «package» y)

module _ (packages : List Package) (is : SelectTogether packages) (facts : (q : ℕ) (p : Package)
    → slice_get packages q ≡ Some p → Facts p) where
  -- one of a class file
  inside : (y : List ℕ) (d : Class) → Inside packages is.linked y d → StandsAt packages y d
  inside y d i =
      let p = i.«package» in
      let c = declared i.place i.tree in
      let h = (let f = facts i.part p i.here in f.own) y c i.there refl in
      let offset = offset_in p y in
      let at : class_at p y ≡ Own 0 offset = sym (ap (class_at p) i.name) ∙ h.on_card ∙ ap (Own 0) (sym (offset_is p c
      h)
      ∙ ap (offset_in p) i.name) in
      let its = part_of packages is.linked i.part p i.here in
      record {
        part = i.part;
        «package» = p;
        here = i.here;
        class = c;
        known = i.there;
        same_flags = ap (λ (k : Class). k.flags) i.is;
        same_methods = ap (λ (k : Class). k.methods) i.is;
        same_supers = ap (λ (k : Class). k.supers) i.is;
        token_alone = λ id. ap (λ k. interface_token (l packages) k id) i.on_card
            ∙ ap (option_and_then (λ (names : ClassNames). place_named names.interface_methods id)) (names_same (loaded
            p) (l packages) i.part its offset) ∙ ap (λ k. interface_token (loaded p) k id) (sym at);
        kind_alone = ap (card.is_interface (l packages)) i.on_card ∙ ap is_interface_info (infos_same (loaded p) (l
            packages) i.part its offset)
            ∙ ap (card.is_interface (loaded p)) (sym at);
      }

  -- one from outside
  outside : (y : List ℕ) (d : Class) → Outside packages is.linked y d → StandsAt packages y d
  outside y d o = by (linked.imports o.part h.file p h.tree (record { member = o.here; file = h.in_list }))
    where
      linked : AreLinked packages
      linked = is.linked

      p : Package
      p = o.importer

      c : Class
      c = imported o.import_number o.class

      h : HasEntry p c
      h = (let f = facts o.part p o.here in f.file) y c o.imported_there refl

      at : class_at p y ≡ External h.file (let e = h.entry in e.token)
      at = sym (ap (class_at p) o.name) ∙ h.on_card

      by : IsLinked packages o.part h.tree → StandsAt packages y d
      by (to_package r e less there same) =
          let x = exported packages linked o.part p o.here y c o.imported_there h r e there same in
          let t = o.tree in
          let token = token_there t.classes o.place o.class o.in_file in
          let no : true ≡ false = sym (linked.no_own o.file r t e x.class y token.0 o.in_list (ap (token_named
          t.classes) (sym o.name) ∙ token.1) there x.there) ∙ x.own in
          absurd cc
      by (to_outside out) =
          let number = number_in packages linked o.part p o.here y c o.imported_there h out in
          let entry = h.entry in
          let on_card : class_together packages y ≡ External number entry.token = ap (λ v. unwrap_or v (Own 0 0))
          (named_in packages linked o.part p o.here y c o.imported_there h out) in
          let found = entry_in packages linked o.part p o.here y c o.imported_there h out ∙ sym h.there in
          record {
            part = o.part;
            «package» = p;
            here = o.here;
            class = c;
            known = o.imported_there;
            same_flags = ap (λ (k : Class). k.flags) o.is;
            same_methods = ap (λ (k : Class). k.methods) o.is;
            same_supers = ap (λ (k : Class). k.supers) o.is;
            token_alone = λ id. ap (λ k. interface_token (l packages) k id) on_card
                ∙ ap (option_and_then (λ (k : ExportClass). option_and_then (λ t. t) (listed_token k.methods id))) found
                ∙ ap (λ k. interface_token (loaded p) k id) (sym at);
            kind_alone = ap (card.is_interface (l packages)) on_card ∙ ap is_interface_file found
                ∙ ap (card.is_interface (loaded p)) (sym at);
          }

  -- each has one
  pub stands_at : (y : List ℕ) (d : Class) → class_named (world_together packages) y ≡ Some d → StandsAt packages y d
  stands_at y d named = ⊎_elim (inside y d) (outside y d) (stands packages is.linked y d named)
