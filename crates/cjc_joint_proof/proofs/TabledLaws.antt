-- The tables of several packages agree with the look-ups by name: classes, objects, static fields and names.
use Rattle.std.proofs.Common.{◌≡◌, ℕ, refl, sym, ap, subst, ◌∙◌, Bool, true, false, List, [], ◌∷◌, map, Some, None}
use Rattle.std.proofs.Common.{⊎_elim}
use Rattle.std.specs.Prelude.{Option, codes, is_some, not, ◌&&◌, ◌||◌, if◌then◌else◌, option_and_then, option_map}
use Rattle.std.specs.Prelude.{slice_get}
use Rattle.std.specs.List.{list_any}
use Rattle.std.specs.Str.{bytes_eq}
use Rattle.cjc_token_proof.proofs.BytesGets.{get_mapped}
use Rattle.cjc_card_semantics.specs.Bytecode.Calculations.{ArrayStore, Arithmetic, ClassCast, Fault, IndexOutside}
use Rattle.cjc_card_semantics.specs.Bytecode.Calculations.{NegativeSize, NullPointer}
use Rattle.cjc_card_semantics.specs.Bytecode.Effects.{IsOperand, Letter, Object, Slot, slot_of}
use Rattle.cjc_card_semantics.specs.Bytecode.Renaming.{AreAlike, KnownHeapObject, KnownShape, keys, object_known}
use Rattle.cjc_card_semantics.specs.Bytecode.Renaming.{option_as}
use Rattle.cjc_card_semantics.specs.Bytes.AccessFlags.{is_abstract, is_interface}
use Rattle.cjc_card_semantics.specs.Bytes.declared.fault.MemberId.{MemberId}
use Rattle.cjc_card_semantics.specs.Machine.ByToken as ByToken
use Rattle.cjc_card_semantics.specs.Machine.Classes.{IsClass, IsInterface, Own, class_of, info_of, is_interface_file}
use Rattle.cjc_card_semantics.specs.Machine.Classes.{is_interface_info}
use Rattle.cjc_card_semantics.specs.Machine.Classes as card
use Rattle.cjc_card_semantics.specs.Machine.Loaded.{Loaded}
use Rattle.cjc_card_semantics.specs.Machine.Statics.{get_static, put_static}
use Rattle.cjc_card_semantics.specs.Script.Sorts.{OfClass, OfNumbers, OfReferences, Shape}
use Rattle.cjc_card_semantics.specs.Script.declared.value.Value.{Value}
use Rattle.cjc_exported.specs.Components.Class.{class_entry, interface_entry}
use Rattle.cjc_exported.specs.Narrow.Rows.Package.{name_there, named_by, plain_import}
use Rattle.cjc_exported.specs.Narrow.Rows.Package as narrow
use Rattle.cjc_exported.specs.World.Classes.{Class, class_named, declared}
use Rattle.cjc_exported.specs.World.Files.{Files}
use Rattle.cjc_exported.specs.World.Subtype.{is_subtype}
use Rattle.cjc_exported.specs.World.declared.image.StaticImage.{StaticImage}
use Rattle.cjc_exported.proofs.WorldCycles.{class_named-name}
use Rattle.cjc_link_semantics.specs.Components.Names.{class_ref, ref_to}
use Rattle.cjc_link_semantics.specs.Components.Package.{Package, world}
use Rattle.cjc_link_semantics.specs.JvmSemantics.Group.{joint}
use Rattle.cjc_link_semantics.specs.JvmSemantics.Linked.{Method}
use Rattle.cjc_link_semantics.specs.JvmSemantics.OnePackage.{is_made, is_plain_import, made_of, object_fields}
use Rattle.cjc_link_semantics.specs.Loaded.{group_loaded}
use Rattle.cjc_token_proof.specs.ByToken.Cells.{are_cells, may_access}
use Rattle.cjc_token_proof.specs.ByToken.Names.{IsImport}
use Rattle.cjc_token_proof.specs.ByToken.Objects.{ObjectsAgree, slots_of}
use Rattle.cjc_token_proof.specs.ByToken.Supers.{HasShape, has_class}
use Rattle.cjc_token_proof.specs.NCode.ByLabel.{Named, shown_slot, slot_for}
use Rattle.cjc_token_proof.specs.NCode.ByLabel as ByLabel
use Rattle.cjc_token_proof.specs.NCode.Lowering.Agreement.{Cells, known_by}
use Rattle.cjc_token_proof.specs.NCode.Lowering.Naming.{IsClass as MeansClass, Naming, field}
use Rattle.cjc_token_proof.specs.NCode.PoolOrder.{same_member}
use Rattle.cjc_token_proof.specs.NCode.declared.narrow.NMethod.{NMethod}
use Rattle.cjc_token_proof.specs.Tables.Known.{is_holder, is_own_exception, may_hold, may_name, order_of}
use Rattle.cjc_token_proof.specs.Tables.Known.{own_exceptions, same_members}
use Rattle.cjc_token_proof.specs.Tables.Loading.{loaded}
use Rattle.cjc_token_proof.specs.Tables.Sound.{AreTyped}
use Rattle.cjc_token_proof.specs.Tables.Tables.{ClassTablesAgree}
use Rattle.cjc_token_proof.proofs.ByToken.Members.{member_same}
use Rattle.cjc_token_proof.proofs.ByToken.Objects as objects
use Rattle.cjc_token_proof.proofs.TablesLaws.Clean.{has_named}
use Rattle.cjc_token_proof.proofs.TablesLaws.Infos.{none_at_zero}
use Rattle.cjc_token_proof.proofs.TablesLaws.Named.{has_info, has_none}
use Rattle.cjc_token_proof.proofs.TablesLaws.Statics.{offset_is as cell_is}
use Rattle.cjc_joint_proof.specs.Begun.{AreBegun, all_files, statics_in}
use Rattle.cjc_joint_proof.specs.Cells.{JointCellsAgree, all_fields, cell_in, images_of}
use Rattle.cjc_joint_proof.specs.JointAlike.{naming_at}
use Rattle.cjc_joint_proof.specs.JointPackages.{AreLinked, class_together, files_together}
use Rattle.cjc_joint_proof.specs.JointTables.{KeepSupers, known_together as known_names, may_access_by}
use Rattle.cjc_joint_proof.specs.JointTables.{memories_together, world_together}
use Rattle.cjc_joint_proof.specs.JointTogether.{cell_together, names_by, naming_together, offset_by, place_together}
use Rattle.cjc_joint_proof.specs.Loading.{group_of, member_of, offset_in}
use Rattle.cjc_joint_proof.specs.Worlds.{AreApart}
use Rattle.cjc_joint_proof.proofs.ApartLaws.{packages_apart}
use Rattle.cjc_joint_proof.proofs.BegunLaws.{have_statics, shown_alike}
use Rattle.cjc_joint_proof.proofs.CellLaws.{joint_cells_agree}
use Rattle.cjc_joint_proof.proofs.ClassLaws.{sound_at}
use Rattle.cjc_joint_proof.proofs.FieldedLaws.{has_objects, import_holds}
use Rattle.cjc_joint_proof.proofs.MeantLaws.{kinds_together, lang_together, names_together, part_of}
use Rattle.cjc_joint_proof.proofs.PartLaws.{infos_same}
use Rattle.cjc_joint_proof.proofs.ReferLaws.{offset_is}
use Rattle.cjc_joint_proof.proofs.StandLaws.{Inside, Outside, known_together, stands}

same_all : (fs : List MemberId) → same_members fs fs ≡ true
same_all [] = refl
same_all (f ∷ fs) = ap (λ b. b && same_members fs fs) (member_same f) ∙ same_all fs

keys_for : (own : List MemberId) → keys (map slot_for own) ≡ own
keys_for [] = refl
keys_for (f ∷ own) = ap (λ ks. f ∷ ks) (keys_for own)

pub files_are : (packages : List Package) → all_files packages ≡ files_together packages
files_are [] = refl
files_are (p ∷ packages) = ap (λ fs. p.files ∷ fs) (files_are packages)

-- where no package is, no class_ref means a class
no_part : (packages : List Package) (q : ℕ) → slice_get packages q ≡ None
    → (let l = group_loaded (group_of packages) in slice_get l.parts q ≡ None)
no_part packages q e =
    let l = group_loaded (group_of packages) in
    get_mapped _ (group_of packages) q ∙ ap (option_map _) (get_mapped member_of packages q
    ∙ ap (option_map member_of) e)

module _ (packages : List Package) (linked : AreLinked packages) (keep : KeepSupers packages)
    (begun : AreBegun packages) (first : Package) (here : slice_get packages 0 ≡ Some first) where
  abbrev l : Loaded
  l = group_loaded (group_of packages)

  abbrev group : List Files
  group = files_together packages

  abbrev w : List Class
  w = world_together packages

  abbrev n : Naming
  n = naming_at (naming_together packages) 0

  typed : (q : ℕ) (p : Package) → slice_get packages q ≡ Some p → AreTyped p.files
  typed q p at = let b = begun q p at in b.typed

  apart : AreApart (all_files packages)
  apart = subst AreApart (sym (files_are packages)) (packages_apart packages linked)

  cells_agree : JointCellsAgree (map statics_in packages)
  cells_agree = joint_cells_agree (map statics_in packages) (have_statics packages begun apart)

  object_agrees : (c : List ℕ) (own : List MemberId) → may_hold w c own ≡ true → ObjectsAgree n (may_name w) c own
  object_agrees c own is = objects.objects_agree n (may_name w) c own (has_objects packages linked keep typed c own is)

  -- ---- static cells

  record Accessed (k : Letter) (f : MemberId) : Type 0 where
    place : ℕ
    «package» : Package
    there : slice_get packages place ≡ Some «package»
    may : may_access (let p = «package» in order_of p.image) k f ≡ true
    cell : cell_together packages f ≡ cell_in place (let p = «package» in order_of p.image) f

  accessed : (k : Letter) (f : MemberId) → may_access_by (slice_get packages (place_together packages f)) k f ≡ true
      → Accessed k f
  accessed k f e = by (slice_get packages (place_together packages f)) refl e
    where
      by : (o : Option Package) → slice_get packages (place_together packages f) ≡ o → may_access_by o k f ≡ true
          → Accessed k f
      by None at g = cc
      by (Some p) at g =
          let b = begun (place_together packages f) p at in
          record {
            place = place_together packages f;
            «package» = p;
            there = at;
            may = g;
            cell = ap (λ o. record { part = place_together packages f; offset = offset_by o f }) at
                ∙ ap (λ o. record { part = place_together packages f; offset = o }) (cell_is b.list p b.sound b.typed
                b.codes b.image b.once f);
          }

  statics_there : (q : ℕ) (p : Package) → slice_get packages q ≡ Some p
      → slice_get (map statics_in packages) q ≡ Some (statics_in p)
  statics_there q p at = get_mapped statics_in packages q ∙ ap (option_map statics_in) at

  get_there : (k : Letter) (f : MemberId) (x : Cells) → may_access_by (slice_get packages (place_together packages f))
      k f ≡ true → are_cells (all_fields (map statics_in packages)) x ≡ true
      → get_static k (cell_together packages f) (images_of (map statics_in packages) x) ≡ slot_of same_member x f
  get_there k f x may are =
      let a = accessed k f may in
      ap (λ s. get_static k s (images_of (map statics_in packages) x)) a.cell
      ∙ cells_agree.get a.place (statics_in a.«package») k f x (statics_there a.place a.«package» a.there) a.may are

  put_there : (k : Letter) (f : MemberId) (v : Value) (x : Cells) → IsOperand k v
      → may_access_by (slice_get packages (place_together packages f)) k f ≡ true
      → are_cells (all_fields (map statics_in packages)) x ≡ true
      → put_static k (cell_together packages f) v (images_of (map statics_in packages) x)
      ≡ option_as (images_of (map statics_in packages)) (ByLabel.put_static x f v)
  put_there k f v x operand may are =
      let a = accessed k f may in
      ap (λ s. put_static k s v (images_of (map statics_in packages) x)) a.cell
      ∙ cells_agree.put a.place (statics_in a.«package») k f v x (statics_there a.place a.«package» a.there) operand
      a.may are

  put_known : (k : Letter) (f : MemberId) (v : Value) (x after : Cells) → IsOperand k v
      → may_access_by (slice_get packages (place_together packages f)) k f ≡ true
      → are_cells (all_fields (map statics_in packages)) x ≡ true → ByLabel.put_static x f v ≡ Some after
      → are_cells (all_fields (map statics_in packages)) after ≡ true
  put_known k f v x after operand may are put =
      let a = accessed k f may in
      cells_agree.put_known a.place (statics_in a.«package») k f v x after (statics_there a.place a.«package» a.there)
      operand a.may are put

  -- ---- names that are known

  plain_is : (x y : List ℕ) → plain_import w x ≡ Some y → (y ≡ x)
      × ((i : IsImport w x) × (is_interface i.class.flags ≡ false))
  plain_is x y e = by (class_named w x) refl e
    where
      parts : (a b : Bool) → (a && not b) ≡ true → (a ≡ true) × (b ≡ false)
      parts true true f = cc
      parts true false f = (refl, refl)
      parts false b f = cc

      only : (b : Bool) → (if b then Some x else None) ≡ Some y → (y ≡ x) × (b ≡ true)
      only true f = let is : x ≡ y = cc in (sym is, refl)
      only false f = cc

      by : (o : Option Class) → class_named w x ≡ o → (if is_plain_import o then Some x else None) ≡ Some y → (y ≡ x)
          × ((i : IsImport w x) × (is_interface i.class.flags ≡ false))
      by None m f = cc
      by (Some c) m f = let r = only (is_plain_import (Some c)) f in let q = parts c.is_imported (is_interface c.flags)
          r.1 in (r.0, (record { class = c; there = m; imported = q.0 }, q.1))

  there_is : (x y : List ℕ) → name_there w x ≡ Some y → (y ≡ x) × (has_class w x ≡ true)
  there_is x y e = by (class_named w x) refl e
    where
      by : (o : Option Class) → class_named w x ≡ o → option_map (λ (c : Class). c.name) o ≡ Some y → (y ≡ x)
          × (is_some (class_named w x) ≡ true)
      by None m f = cc
      by (Some c) m f = let is : c.name ≡ y = cc in (sym is ∙ class_named-name w x c m, ap is_some m)

  -- no interface
  plain_holds : (c : Class) → c.is_imported ≡ true → is_interface c.flags ≡ false → is_holder (Some c) ≡ true
  plain_holds c im f = ap (λ b. if b then is_own_exception c else (c.is_imported || not (is_abstract c.flags))) f
      ∙ ap (λ b. b || not (is_abstract c.flags)) im

  -- an exception of the machine's own
  exception_holds : (c : Class) → c.is_imported ≡ true → list_any (λ name. bytes_eq name c.name) own_exceptions ≡ true
      → is_holder (Some c) ≡ true
  exception_holds c im own = by (is_interface c.flags)
    where
      by : (b : Bool) → (if b then is_own_exception c else (c.is_imported || not (is_abstract c.flags))) ≡ true
      by true = ap (λ q. q && list_any (λ name. bytes_eq name c.name) own_exceptions) im ∙ own
      by false = ap (λ q. q || not (is_abstract c.flags)) im

  object_here : (x y : List ℕ) → y ≡ x → (i : IsImport w x) → is_holder (Some i.class) ≡ true
      → KnownHeapObject (known_by (known_names packages)) (Object y [])
  object_here x y same i holds = object_known (ap (has_class w) same ∙ ap is_some i.there) (ap (λ z. may_hold w z [])
      same ∙ import_holds packages linked keep x i.class i.there i.imported holds)

  plain_here : (x y : List ℕ) → (y ≡ x) × ((i : IsImport w x) × (is_interface i.class.flags ≡ false))
      → KnownHeapObject (known_by (known_names packages)) (Object y [])
  plain_here x y r = let i = r.1.0 in object_here x y r.0 i (plain_holds i.class i.imported r.1.1)

  thrown : (x c : List ℕ) (b : Bool) → (if b then plain_import w x else None) ≡ Some c → (c ≡ x)
      × ((i : IsImport w x) × (is_interface i.class.flags ≡ false))
  thrown x c true e = plain_is x c e
  thrown x c false e = cc

  -- ---- classes that objects are made of

  class_is : (c : List ℕ) (d : Class) → class_named w c ≡ Some d → is_interface d.flags ≡ false
      → card.is_interface l (class_together packages c) ≡ false
  class_is c d m plain = ⊎_elim inside outside (stands packages linked c d m)
    where
      outside : Outside packages linked c d → card.is_interface l (class_together packages c) ≡ false
      outside o =
          ap (card.is_interface l) o.on_card ∙ ap is_interface_file o.there
          ∙ ap (λ (v : Class). is_interface v.flags) (o.alike o.number ∙ sym o.is) ∙ plain

      inside : Inside packages linked c d → card.is_interface l (class_together packages c) ≡ false
      inside i =
          let p = i.«package» in
          let s = sound_at packages linked i.part p i.here in
          let x = declared i.place i.tree in
          let h = has_info s.list p s.sound x (has_named (world p) c x i.there) refl in
          ap (card.is_interface l) i.on_card
          ∙ ap (λ o. is_interface_info (info_of l i.part o)) (sym (ap (offset_in p) i.name) ∙ offset_is p x h)
          ∙ ap is_interface_info (infos_same (loaded p) l i.part (part_of packages linked i.part p i.here) h.offset
          ∙ h.info)
          ∙ ap (λ b. is_interface_info (Some (if b then IsInterface (interface_entry (class_ref p) (world p) x)
          else IsClass (class_entry (class_ref p) p x)))) (sym (ap (λ (v : Class). is_interface v.flags) i.is) ∙ plain)

  holder : (c : List ℕ) (d : Class) → class_named w c ≡ Some d → is_interface d.flags ≡ false
      → is_abstract d.flags ≡ false → may_hold w c (object_fields w c) ≡ true
  holder c d m f g =
      ap (λ o. is_holder o && same_members (object_fields w c) (object_fields w c)) m
      ∙ ap (λ b. (if b then is_own_exception d else (d.is_imported || not (is_abstract d.flags)))
      && same_members (object_fields w c) (object_fields w c)) f
      ∙ ap (λ b. (d.is_imported || not b) && same_members (object_fields w c) (object_fields w c)) g
      ∙ ap (λ b. (d.is_imported || true) && b) (same_all (object_fields w c))
      ∙ go d.is_imported
    where
      go : (b : Bool) → ((b || true) && true) ≡ true
      go true = refl
      go false = refl

  made_is : (c : List ℕ) (own : List MemberId) → made_of w c ≡ Some own → (o : Option Class) → class_named w c ≡ o
      → (may_hold w c own ≡ true) × (card.is_interface l (class_together packages c) ≡ false)
  made_is c own e None m = let none : None ≡ Some own =
      sym (ap (option_and_then (λ d. if is_made d then Some (object_fields w c) else None)) m) ∙ e in cc
  made_is c own e (Some d) m =
      go (is_made d) refl (sym (ap (option_and_then (λ d. if is_made d then Some (object_fields w c) else None)) m) ∙ e)
    where
      both : (a b : Bool) → (not a && not b) ≡ true → (a ≡ false) × (b ≡ false)
      both false false e = (refl, refl)
      both false true e = cc
      both true b e = cc

      go : (b : Bool) → is_made d ≡ b → (if b then Some (object_fields w c) else None) ≡ Some own
          → (may_hold w c own ≡ true) × (card.is_interface l (class_together packages c) ≡ false)
      go false t f = cc
      go true t f =
          let same : object_fields w c ≡ own = cc in
          let plain = both (is_interface d.flags) (is_abstract d.flags) t in
          (ap (may_hold w c) (sym same) ∙ holder c d m plain.0 plain.1, class_is c d m plain.0)

  -- ---- what a class_ref of a package means

  class_known : (q : ℕ) (c : List ℕ) → MeansClass (naming_at (naming_together packages) q) c → has_class w c ≡ true
  class_known q c h = by (slice_get packages q) refl h
    where
      by : (o : Option Package) → slice_get packages q ≡ o → class_of l q (let v = names_by l q o in v.class_ref c)
          ≡ Some (class_together packages c) → has_class w c ≡ true
      by None e h =
          let nowhere : info_of l q 0 ≡ None = ap (option_and_then (λ part. card.info_at part 0)) (no_part packages q e)
          in
          let clash : None ≡ Some (class_together packages c) =
          sym (ap (λ o. if is_some o then Some (Own q 0) else None) nowhere) ∙ h in
          absurd cc
      by (Some p) e h = known (class_named (world p) c) refl
        where
          known : (o : Option Class) → class_named (world p) c ≡ o → has_class w c ≡ true
          known (Some d) f = known_together packages linked q p e c d f
          known None f =
              let s = sound_at packages linked q p e in
              let r = has_none s.list p s.sound c f in
              let zero : info_of l q 0 ≡ None = infos_same (loaded p) l q (part_of packages linked q p e) 0
              ∙ none_at_zero p in
              let nowhere : class_of l q (class_ref p c) ≡ None = ap (λ x. class_of l q (ref_to x)) r.on_card
              ∙ ap (λ o. if is_some o then Some (Own q 0) else None) zero in
              let clash : None ≡ Some (class_together packages c) = sym nowhere ∙ h in
              absurd cc

  -- ---- the tables

  module _ (v : Named) (image : StaticImage) (code : Method → NMethod) (is : v ≡ named_by (joint group) image w code)
    where
      shape_known : (s : Shape (List ℕ)) → KnownShape (known_by (known_names packages)) s → HasShape w s
      shape_known (OfClass c) k = k
      shape_known (OfNumbers element) k = k
      shape_known (OfReferences c) k = k

      fields_of : (c : List ℕ) (own : List MemberId) → v.fields c ≡ Some own → (may_hold w c own ≡ true)
          × (card.is_interface l (class_together packages c) ≡ false)
      fields_of c own e = made_is c own (sym (ap (λ (v : Named). v.fields c) is) ∙ e) (class_named w c) refl

      made_there : (c : List ℕ) (held : List (Slot MemberId)) → has_class w c ≡ true → ByLabel.fresh v c ≡ Some held
          → card.fresh l (class_together packages c) ≡ Some (slots_of n c held)
      made_there c held known e = by (v.fields c) refl e
        where
          by : (o : Option (List MemberId)) → v.fields c ≡ o → option_map (map slot_for) o ≡ Some held
              → card.fresh l (class_together packages c) ≡ Some (slots_of n c held)
          by None h made = cc
          by (Some own) h made =
              let m = fields_of c own h in
              let a = object_agrees c own m.0 in
              let same : map slot_for own ≡ held = cc in
              a.fresh m.1 ∙ ap (λ slots. Some (slots_of n c slots)) same

      made_known : (c : List ℕ) (held : List (Slot MemberId)) → has_class w c ≡ true → ByLabel.fresh v c ≡ Some held
          → KnownHeapObject (known_by (known_names packages)) (Object c held)
      made_known c held known e = by (v.fields c) refl e
        where
          by : (o : Option (List MemberId)) → v.fields c ≡ o → option_map (map slot_for) o ≡ Some held
              → KnownHeapObject (known_by (known_names packages)) (Object c held)
          by None h made = cc
          by (Some own) h made =
              let m = fields_of c own h in
              let same : map slot_for own ≡ held = cc in
              object_known known (ap (may_hold w c) (ap keys (sym same) ∙ keys_for own) ∙ m.0)

      alike : AreAlike (known_by (known_names packages)) (class_together packages) (field n) (slots_of n) (cell_together
          packages) (images_of (map statics_in packages)) (ByLabel.classes v) (ByToken.classes l)
      alike = record {
        is_of = λ a b ka kb. kinds_together packages linked first here keep a b (shape_known a ka) (shape_known b kb)
            ∙ ap (λ (v : Named). v.is_of a b) (sym is);
        get = λ c held f known may. let a = object_agrees c (keys held) known in a.get held f refl may;
        put = λ c held f old new known may there. let a = object_agrees c (keys held) known in a.put held f old new refl
            may there;
        fresh = made_there;
        fresh_known = made_known;
        bare = λ c known. let a = object_agrees c [] known in a.bare refl;
        get_static = get_there;
        put_static = put_there;
        put_known = put_known;
      }

      fault_one : (f : Fault) (c : List ℕ) → name_there w (narrow.fault_name f) ≡ Some c
          → KnownHeapObject (known_by (known_names packages)) (Object c [])
      fault_one f c e =
          let r = there_is (narrow.fault_name f) c e in
          let i = there f in
          object_here (narrow.fault_name f) c r.0 i (exception_holds i.class i.imported (ap (λ x. list_any (λ name.
          bytes_eq name x) own_exceptions) (class_named-name w (narrow.fault_name f) i.class i.there) ∙ among f))
        where
          there : (f : Fault) → IsImport w (narrow.fault_name f)
          there Arithmetic = let lang = lang_together packages linked first here in lang.faults Arithmetic
          there NullPointer = let lang = lang_together packages linked first here in lang.faults NullPointer
          there IndexOutside = let lang = lang_together packages linked first here in lang.faults IndexOutside
          there NegativeSize = let lang = lang_together packages linked first here in lang.faults NegativeSize
          there ClassCast = let lang = lang_together packages linked first here in lang.faults ClassCast
          there ArrayStore = let lang = lang_together packages linked first here in lang.faults ArrayStore

          among : (f : Fault) → list_any (λ name. bytes_eq name (narrow.fault_name f)) own_exceptions ≡ true
          among Arithmetic = refl
          among NullPointer = refl
          among IndexOutside = refl
          among NegativeSize = refl
          among ClassCast = refl
          among ArrayStore = refl

      fields_shown : (c : List ℕ) (slots : List (Slot MemberId)) → KnownHeapObject (known_by (known_names packages))
          (Object c slots) → ByToken.shown_fields l (class_together packages c) (slots_of n c slots) ≡ map shown_slot
          slots
      fields_shown c slots (object_known known holds) = let a = object_agrees c (keys slots) holds in a.shown slots refl

      pub tables_agree : (q : ℕ) → ClassTablesAgree (naming_at (naming_together packages) q) (memories_together packages)
          v (known_by (known_names packages))
      tables_agree q =
          let names = names_together packages linked first here keep in
          record {
            classes = alike;
            class_known = class_known q;
            fault = λ f. names.fault f ∙ ap (λ (v : Named). option_as (class_together packages) (v.fault f)) (sym is);
            fault_known = λ f c e. fault_one f c (sym (ap (λ (v : Named). v.fault f) is) ∙ e);
            class_named = λ x. names.class_named x ∙ ap (λ (v : Named). option_as (class_together packages)
                (v.class_named x)) (sym is);
            class_named_known = λ x c e. (let r = there_is x c (sym (ap (λ (v : Named). v.class_named x) is) ∙ e)
                in ap (has_class w) r.0 ∙ r.1);
            imported = λ x. names.imported x ∙ ap (λ (v : Named). option_as (class_together packages) (v.imported x)) (sym
                is);
            imported_known = λ x c e. plain_here x c (plain_is x c (sym (ap (λ (v : Named). v.imported x) is) ∙ e));
            throwable = λ x. names.throwable x ∙ ap (λ (v : Named). option_as (class_together packages) (v.throwable x))
                (sym is);
            throwable_known = λ x c e. plain_here x c (thrown x c (is_subtype w x (codes "java/lang/Throwable")) (sym (ap
                (λ (v : Named). v.throwable x) is) ∙ e));
            name = λ c k. names.name c k;
            fields = fields_shown;
            cells = λ x k. shown_alike packages begun apart x k;
          }
