-- Names of several packages mean the same by the files and on the card, and a type is of another by token where it is a
-- subtype by name.
use Rattle.std.proofs.Common.{◌≡◌, ℕ, ◌+◌, arith, refl, sym, ap, subst, ◌∙◌, true, false, List, []}
use Rattle.std.proofs.Common.{◌∷◌, ◌++◌, map, Some, None, ⊎_elim}
use Rattle.std.specs.Prelude.{Option, is_some, option_map, option_to_list, slice_get, unwrap_or, codes, ◌⊎◌}
use Rattle.std.specs.Prelude.{if◌then◌else◌}
use Rattle.cjc_card_semantics.specs.Bytes.AccessFlags.{is_interface}
use Rattle.cjc_card_semantics.specs.ExportFile.declared.tree.ExportClass.{ExportClass}
use Rattle.cjc_card_semantics.specs.Machine.Classes.{Class as CardClass, External, Info, Own, external_named}
use Rattle.cjc_card_semantics.specs.Machine.Classes.{fault_name, info_of, info_supers, is_in, name_of, object_above}
use Rattle.cjc_card_semantics.specs.Machine.Classes.{object_class, supers}
use Rattle.cjc_card_semantics.specs.Machine.Classes as card
use Rattle.cjc_card_semantics.specs.Machine.Loaded.{Loaded}
use Rattle.cjc_exported.specs.World.Classes.{Class, class_named, declared, imported}
use Rattle.cjc_exported.specs.World.Files.{Files}
use Rattle.cjc_exported.specs.World.Lookup.{object}
use Rattle.cjc_exported.specs.World.Subtype.{starts}
use Rattle.cjc_exported.specs.World.Supertypes.{Above, Lists}
use Rattle.cjc_exported.proofs.WorldCycles.{class_named-name}
use Rattle.cjc_link_semantics.specs.Components.Names.{class_at, class_ref}
use Rattle.cjc_link_semantics.specs.Components.Package.{Package, world}
use Rattle.cjc_link_semantics.specs.Loaded.{group_loaded}
use Rattle.cjc_token_proof.specs.NCode.Lowering.Naming.{IsClass, Naming}
use Rattle.cjc_token_proof.specs.ByToken.Names.{HasLang, IsImport, NamesAgree, NamesStand}
use Rattle.cjc_token_proof.specs.ByToken.Supers.{IsAboveByName, IsToldOf, KindsAgree, SaysKinds, SaysSteps, SaysSupers}
use Rattle.cjc_token_proof.specs.ByToken.Supers.{above_each, has_class, listed_there, of_file, of_package}
use Rattle.cjc_token_proof.specs.Tables.Infos.{HasEntry}
use Rattle.cjc_token_proof.specs.Tables.Kept.{KeepsRules}
use Rattle.cjc_token_proof.specs.Tables.Loading.{loaded, naming, part}
use Rattle.cjc_token_proof.specs.Tables.Sound.{IsSound}
use Rattle.cjc_token_proof.proofs.ByToken.Names.{standing_names_agree}
use Rattle.cjc_token_proof.proofs.ByToken.Subtypes.{down_in_file, down_in_package, steps_agree, up_in_file}
use Rattle.cjc_token_proof.proofs.ByToken.Subtypes.{up_in_package}
use Rattle.cjc_token_proof.proofs.TablesLaws.Above.{says_kinds}
use Rattle.cjc_token_proof.proofs.TablesLaws.Clean.{has_named, kept}
use Rattle.cjc_token_proof.proofs.TablesLaws.Lists.{interfaces_there, lists_either, supers_there}
use Rattle.cjc_token_proof.proofs.TablesLaws.Named.{has_entry, has_info}
use Rattle.cjc_token_proof.proofs.TablesLaws.Tables.{names_agree}
use Rattle.cjc_token_proof.proofs.TablesLaws.Telling.{has_lang}
use Rattle.cjc_joint_proof.specs.JointAlike.{naming_at}
use Rattle.cjc_joint_proof.specs.JointPackages.{AreLinked, IsLinked, class_together, files_together, to_outside}
use Rattle.cjc_joint_proof.specs.JointPackages.{to_package}
use Rattle.cjc_joint_proof.specs.JointTables.{KeepSupers, world_together}
use Rattle.cjc_joint_proof.specs.JointTogether.{naming_together}
use Rattle.cjc_joint_proof.specs.Loading.{group_of, member_of, offset_in}
use Rattle.cjc_joint_proof.specs.Parts.{IsPart}
use Rattle.cjc_joint_proof.proofs.AboveLaws.{above_stays}
use Rattle.cjc_joint_proof.proofs.ApartLaws.{apart_outside, packages_apart}
use Rattle.cjc_joint_proof.proofs.ClassLaws.{class_means, kept_in, name_means, number_in, sound_at, together_at}
use Rattle.cjc_joint_proof.proofs.ClassLaws.{token_in}
use Rattle.cjc_joint_proof.proofs.LoadLaws.{is_part}
use Rattle.cjc_joint_proof.proofs.NameLaws.{name_same}
use Rattle.cjc_joint_proof.proofs.PartLaws.{infos_same}
use Rattle.cjc_joint_proof.proofs.ReferLaws.{of_package as member_at, offset_is}
use Rattle.cjc_joint_proof.proofs.StandLaws.{Inside, Outside, file_together, known_together, none_named, none_outside}
use Rattle.cjc_joint_proof.proofs.StandLaws.{stands, stands_inside, stands_outside}

pub class_there : (w : List Class) (x : List ℕ) → has_class w x ≡ true → (c : Class) × (class_named w x ≡ Some c)
class_there w x e = by (class_named w x) refl e
  where
    by : (o : Option Class) → class_named w x ≡ o → is_some o ≡ true → (c : Class) × (class_named w x ≡ Some c)
    by None f g = cc
    by (Some c) f g = (c, f)

module _ (packages : List Package) (linked : AreLinked packages) where
  abbrev l : Loaded
  l = group_loaded (group_of packages)

  abbrev group : List Files
  group = files_together packages

  abbrev w : List Class
  w = world_together packages

  -- what all packages name, as one of them does
  abbrev n : Naming
  n = naming_at (naming_together packages) 0

  pub part_of : (q : ℕ) (p : Package) → slice_get packages q ≡ Some p → IsPart (loaded p) l q
  part_of q p here = is_part (group_of packages) q (member_of p) (member_at packages q p here)

  -- ---- names

  -- a class of a package has the name of its info
  pub own_name_is : (q : ℕ) (p : Package) → slice_get packages q ≡ Some p → (x : List ℕ) (c : Class)
      → class_named (world p) x ≡ Some c → c.is_imported ≡ false → name_of l (Own q (offset_in p x)) ≡ x
  own_name_is q p here x c e own =
      let s = sound_at packages linked q p here in
      let h = has_info s.list p s.sound c (has_named (world p) x c e) own in
      let name : c.name ≡ x = class_named-name (world p) x c e in
      let agree = names_agree s.list p s.sound in
      let offset : offset_in p x ≡ h.offset = sym (ap (offset_in p) name) ∙ offset_is p c h in
      let at : class_at p x ≡ Own 0 h.offset = sym (ap (class_at p) name) ∙ h.on_card in
      ap (λ o. name_of l (Own q o)) offset
      ∙ name_same (loaded p) l q (part_of q p here) h.offset
      ∙ sym (ap (name_of (loaded p)) at)
      ∙ agree.name x (ap is_some e)

  name_inside : (x : List ℕ) (c : Class) → Inside packages linked x c → name_of l (class_together packages x) ≡ x
  name_inside x c i = ap (name_of l) i.on_card
      ∙ own_name_is i.part i.«package» i.here x (declared i.place i.tree) i.there refl

  name_outside : (x : List ℕ) (c : Class) → Outside packages linked x c → name_of l (class_together packages x) ≡ x
  name_outside x c o =
      ap (name_of l) o.on_card ∙ ap (λ y. unwrap_or (option_map (λ (c : ExportClass). c.name) y) []) o.there
      ∙ ap (λ (v : Class). v.name) (o.alike 0) ∙ o.name

  pub names_stand : NamesStand w n
  names_stand = record {
    own = λ x c e own. (let i = stands_inside packages linked x c e own in
        record { named = i.named; in_no_file = i.in_no_file; name = name_inside x c i });
    file = λ x c e im. (let o = stands_outside packages linked x c e im in
        record {
          named = o.named;
          found = o.found;
          name = name_outside x c o;
          tree = o.file;
          token = (let v = o.entry in v.token);
          entry = o.entry;
          on_card = o.on_card;
          there = o.there;
          flags = ap (λ (v : Class). is_interface v.flags) (o.alike 0) ∙ sym (ap (λ (v : Class). is_interface v.flags)
              o.is);
        });
    none = λ x e. (none_named packages linked x e, none_outside packages linked x e);
  }

  pub name_is : (x : List ℕ) → has_class w x ≡ true → name_of l (class_together packages x) ≡ x
  name_is x h = let c = class_there w x h in ⊎_elim (name_inside x c.0) (name_outside x c.0) (stands packages linked x
      c.0 c.1)

  pub once : (x y : List ℕ) → has_class w x ≡ true → has_class w y ≡ true
      → class_together packages x ≡ class_together packages y → x ≡ y
  once x y h g same = sym (name_is x h) ∙ ap (name_of l) same ∙ name_is y g

  -- ---- what the first package imports

  module _ (first : Package) (here : slice_get packages 0 ≡ Some first) where
    imported_first : (x : List ℕ) → IsImport (world first) x → IsImport w x
    imported_first x i =
        let s = sound_at packages linked 0 first here in
        let h = has_entry s.list first s.sound i.class (has_named (world first) x i.class i.there) i.imported in
        by h (linked.imports 0 h.file first h.tree (record { member = here; file = h.in_list }))
      where
        by : (h : HasEntry first i.class) → IsLinked packages 0 h.tree → IsImport w x
        by h (to_package r e less there same) = absurd (omega (arith, less))
        by h (to_outside out) =
            let r = file_together packages linked (number_in packages linked 0 first here x i.class i.there h out)
            h.tree x (let v = h.entry in v.token) (kept_in packages linked 0 first here x i.class i.there h out)
            (token_in packages linked 0 first here x i.class i.there h out) in
            record { class = imported r.0 r.1; there = r.2; imported = refl }

    pub lang_together : HasLang w
    lang_together =
        let s = sound_at packages linked 0 first here in
        let lang = has_lang s.list first s.sound in
        record {
          throwable = imported_first (codes "java/lang/Throwable") lang.throwable;
          faults = λ f. imported_first (fault_name f) (lang.faults f);
        }

    object_known : (c : Class) × (class_named (world first) object ≡ Some c)
    object_known =
        let s = sound_at packages linked 0 first here in
        let k = says_kinds s.list first s.sound in
        class_there (world first) object k.object_there

    pub object_is : object_class l ≡ Some (class_together packages object)
    object_is = let k = object_known in name_means packages linked 0 first here object k.0 k.1

    -- ---- what stands above a class

    module _ (keep : KeepSupers packages) where
      pub no_array : (x : List ℕ) → has_class w x ≡ true → starts 91 x ≡ false
      no_array x h = let c = class_there w x h in ⊎_elim inside outside (stands packages linked x c.0 c.1)
        where
          inside : {c : Class} → Inside packages linked x c → starts 91 x ≡ false
          inside i =
              let s = sound_at packages linked i.part i.«package» i.here in
              let k = says_kinds s.list i.«package» s.sound in
              k.no_array x (ap is_some i.there)

          outside : {c : Class} → Outside packages linked x c → starts 91 x ≡ false
          outside o =
              let s = sound_at packages linked o.part o.importer o.here in
              let k = says_kinds s.list o.importer s.sound in
              k.no_array x (ap is_some o.imported_there)

      -- of a class of a package
      module _ (x : List ℕ) (c : Class) (known : class_named w x ≡ Some c) (i : Inside packages linked x c) where
        abbrev q : ℕ
        q = i.part

        abbrev p : Package
        p = i.«package»

        -- what its package names
        abbrev m : Naming
        m = record n { part = q; class_ref = class_ref p }

        abbrev sound_is : IsSound (let s = sound_at packages linked q p i.here in s.list) p.files
        sound_is = let s = sound_at packages linked q p i.here in s.sound

        abbrev kinds : SaysKinds (world p) (naming p)
        kinds = says_kinds (let s = sound_at packages linked q p i.here in s.list) p sound_is

        abbrev d : Class
        d = declared i.place i.tree

        module _ (offset : ℕ) (info : Info) (listed : List (List ℕ)) (at : class_at p x ≡ Own 0 offset)
            (there : info_of (loaded p) 0 offset ≡ Some info) (refs : info_supers info ≡ map (class_ref p) listed)
            (all : (y : List ℕ) → IsToldOf (naming p) info listed y → (has_class (world p) y ≡ true)
            × Above (world p) x y)
            (each : (y : List ℕ) → Lists y (d.supers ++ d.interfaces) → has_class (world p) y ≡ true
            → IsToldOf (naming p) info listed y) where
          at_there : class_together packages x ≡ Own q offset
          at_there =
              let h = has_info (let s = sound_at packages linked q p i.here in s.list) p sound_is d (has_named (world p)
              x d i.there) refl in
              let same : Own 0 offset ≡ Own 0 h.offset = sym at ∙ sym (ap (class_at p) i.name) ∙ h.on_card in
              let offsets : offset ≡ h.offset = cc in
              i.on_card ∙ ap (Own q) (sym (ap (offset_in p) i.name) ∙ offset_is p d h ∙ sym offsets)

          info_there : info_of l q offset ≡ Some info
          info_there = infos_same (loaded p) l q (part_of q p i.here) offset ∙ there

          mean : (y : List ℕ) → Lists y listed → IsClass m y
          mean y j =
              let k = class_there (world p) y (all y (listed_there j)).0 in
              class_means packages linked q p i.here y k.0 k.1

          there_told : (y : List ℕ) → IsToldOf (naming p) info listed y → IsToldOf m info listed y
          there_told y (listed_there j) = listed_there j
          there_told _ (above_each e) = above_each (by info e)
            where
              by : (info : Info) → object_above (loaded p) (Some info) ≡ option_to_list (object_class (loaded p))
                  → object_above l (Some info) ≡ option_to_list (object_class l)
              by (card.IsInterface v) e = refl
              by (card.IsClass v) e =
                  let clash : [] ≡ class_at p object ∷ [] = e ∙ ap option_to_list kinds.object_class in cc

          here_told : (y : List ℕ) → IsToldOf m info listed y → IsToldOf (naming p) info listed y
          here_told y (listed_there j) = listed_there j
          here_told _ (above_each e) = above_each (by info e)
            where
              by : (info : Info) → object_above l (Some info) ≡ option_to_list (object_class l)
                  → object_above (loaded p) (Some info) ≡ option_to_list (object_class (loaded p))
              by (card.IsInterface v) e = refl
              by (card.IsClass v) e =
                  let clash : [] ≡ class_together packages object ∷ [] = e ∙ ap option_to_list object_is in cc

          up_here : (y : List ℕ) → Lists y (d.supers ++ d.interfaces)
              → is_in (class_together packages y) (supers l (class_together packages x)) ≡ true
          up_here y j = up_in_package w m object_is x offset info listed at_there info_there refs mean y
              (there_told y (each y j (listed_known y j)))
            where
              rules : KeepsRules (let f = p.files in f.package_name) (world p) d
              rules = kept (let s = sound_at packages linked q p i.here in s.list) p.files sound_is d (has_named (world
                  p) x d i.there)

              listed_known : (y : List ℕ) → Lists y (d.supers ++ d.interfaces) → has_class (world p) y ≡ true
              listed_known y j = ⊎_elim (supers_there (world p) d (rules.there refl) y) (interfaces_there (world p) d
                  (rules.there refl) y) (lists_either d.supers d.interfaces y j)

          down_here : (b : CardClass) → is_in b (supers l (class_together packages x)) ≡ true → IsAboveByName w n x b
          down_here b e =
              let r = down_in_package w m object_is x offset info listed at_there info_there refs mean b (λ y t. (let a
              = all y (here_told y t) in let k = class_there (world p) y a.0 in (
                known_together packages linked q p
                    i.here y k.0 k.1,
                above_stays group (packages_apart packages linked) (apart_outside packages linked)
                    keep.imports q p.files (together_at packages linked q p i.here) x y a.1,
              ))) e in
              record { name = r.name; there = r.there; is = r.is; above = r.above }

        own_clash : (tree token offset : ℕ) → External tree token ≡ Own 0 offset → ⊥
        own_clash tree token offset e = cc

        not_file : (tree token : ℕ) → class_at p x ≡ External tree token → ⊥
        not_file tree token at =
            let h = has_info (let s = sound_at packages linked q p i.here in s.list) p sound_is d (has_named (world p)
            x d i.there) refl in
            own_clash tree token h.offset (sym at ∙ sym (ap (class_at p) i.name) ∙ h.on_card)

        up_inside : (y : List ℕ) → Lists y (d.supers ++ d.interfaces)
            → is_in (class_together packages y) (supers l (class_together packages x)) ≡ true
        up_inside y j = by (kinds.supers x d i.there)
          where
            by : SaysSupers (world p) (naming p) x d → is_in (class_together packages y) (supers l (class_together
                packages x)) ≡ true
            by (of_package offset info listed at there refs all each) =
                up_here offset info listed at there refs all each y j
            by (of_file tree token e at there s f named) = absurd (not_file tree token at)

        down_inside : (b : CardClass) → is_in b (supers l (class_together packages x)) ≡ true → IsAboveByName w n x b
        down_inside b e = by (kinds.supers x d i.there)
          where
            by : SaysSupers (world p) (naming p) x d → IsAboveByName w n x b
            by (of_package offset info listed at there refs all each) =
                down_here offset info listed at there refs all each b e
            by (of_file tree token v at there s f named) = absurd (not_file tree token at)

      -- of a class of an export file from outside
      module _ (x : List ℕ) (c : Class) (known : class_named w x ≡ Some c) (o : Outside packages linked x c) where
        named_outside : (y : List ℕ) → Lists y (c.supers ++ c.interfaces) → external_named l y
            ≡ (if has_class w y then Some (class_together packages y) else None)
        named_outside y j = by (class_named w y) refl
          where
            by : (v : Option Class) → class_named w y ≡ v → external_named l y
                ≡ (if has_class w y then Some (class_together packages y) else None)
            by None e = none_outside packages linked y e ∙ sym (ap (λ v. if is_some v then Some (class_together packages
                y) else None) e)
            by (Some b) e = ⊎_elim inside (λ u. u.found ∙ sym (ap (λ v. if is_some v then Some (class_together packages
                y) else None) e)) (stands packages linked y b e)
              where
                listed : Lists y ((let v = o.class in v.supers) ++ (let v = o.class in v.interfaces))
                listed = subst (λ (v : Class). Lists y (v.supers ++ v.interfaces)) o.is j

                inside : Inside packages linked y b → external_named l y
                    ≡ (if has_class w y then Some (class_together packages y) else None)
                inside i =
                    let no : false ≡ true = keep.outside o.file o.place i.part o.tree o.class i.«package» (declared
                    i.place i.tree) y o.in_list o.in_file listed i.here i.there in
                    absurd cc

        supers_same : (let v = o.entry in v.supers) ≡ c.supers
        supers_same = ap (λ (v : Class). v.supers) (o.alike o.number ∙ sym o.is)

        interfaces_same : (let v = o.entry in v.interfaces) ≡ c.interfaces
        interfaces_same = ap (λ (v : Class). v.interfaces) (o.alike o.number ∙ sym o.is)

        up_outside : (y : List ℕ) → Lists y (c.supers ++ c.interfaces) → has_class w y ≡ true
            → is_in (class_together packages y) (supers l (class_together packages x)) ≡ true
        up_outside y j h = up_in_file w n object_is x c o.file (let v = o.entry in v.token) o.entry o.on_card o.there
            supers_same interfaces_same named_outside y j h

        down_outside : (b : CardClass) → is_in b (supers l (class_together packages x)) ≡ true
            → IsAboveByName w n x b
        down_outside b e = down_in_file w n object_is x c o.file (let v = o.entry in v.token) o.entry o.on_card o.there
            supers_same interfaces_same named_outside b known e

      pub says_steps : SaysSteps w n
      says_steps = record {
        object_there = let k = object_known in known_together packages linked 0 first here object k.0 k.1;
        object_class = object_is;
        once = once;
        no_array = no_array;
        up = λ x y c e j h. ⊎_elim (λ i. up_inside x c e i y (subst (λ (v : Class). Lists y (v.supers ++ v.interfaces))
            i.is j)) (λ o. up_outside x c e o y j h) (stands packages linked x c e);
        down = λ x c b e h. ⊎_elim (λ i. down_inside x c e i b h) (λ o. down_outside x c e o b h) (stands packages
            linked x c e);
      }

      pub kinds_together : KindsAgree w n
      kinds_together = steps_agree w n says_steps

      pub names_together : NamesAgree w n
      names_together = standing_names_agree w n names_stand lang_together kinds_together
