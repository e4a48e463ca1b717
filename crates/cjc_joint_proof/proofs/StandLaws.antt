-- Each class of the world of all packages is one of a package or of an export file from outside, and its name means it
-- on the card; a name of no class means none there.
use Rattle.std.proofs.Common.{◌≡◌, ℕ, suc, ◌+◌, refl, sym, ap, ◌∙◌, Bool, true, false, List, []}
use Rattle.std.proofs.Common.{◌∷◌, Some, None, inl, inr, ⊎_elim}
use Rattle.std.specs.Prelude.{Option, is_some, option_map, slice_get, unwrap_or, ◌⊎◌, if◌then◌else◌}
use Rattle.std.specs.Str.{bytes_eq}
use Rattle.cjc_token_proof.proofs.BytesLists.{bytes_true}
use Rattle.cjc_token_proof.proofs.VTableFiled.{IsFiled, filed, in_class_file, in_export_file}
use Rattle.cjc_token_proof.proofs.WrittenSends.Operations.{flat_from}
use Rattle.cjc_token_proof.proofs.TablesLaws.Clean.{has_named}
use Rattle.cjc_token_proof.proofs.TablesLaws.Filed.{own_filed}
use Rattle.cjc_token_proof.proofs.TablesLaws.Named.{has_entry}
use Rattle.cjc_token_proof.specs.ByToken.Supers.{has_class}
use Rattle.cjc_token_proof.specs.Tables.Infos.{HasEntry}
use Rattle.cjc_card_semantics.specs.ExportFile.declared.tree.ExportClass.{ExportClass}
use Rattle.cjc_card_semantics.specs.ExportFile.declared.tree.ExportTree.{ExportTree}
use Rattle.cjc_card_semantics.specs.Machine.Classes.{Class as CardClass, External, Own, class_named as class_on_card}
use Rattle.cjc_card_semantics.specs.Machine.Classes.{external, external_from, external_named, or_else, token_named}
use Rattle.cjc_card_semantics.specs.Machine.Loaded.{Loaded}
use Rattle.cjc_exported.specs.ClassFile.declared.tree.ClassTree.{ClassTree}
use Rattle.cjc_exported.specs.World.Classes.{Class, all_classes, class_named, declared, imported}
use Rattle.cjc_exported.specs.World.Files.{Files}
use Rattle.cjc_exported.proofs.WorldCycles.{class_named-name}
use Rattle.cjc_link_semantics.specs.Components.Package.{Package, world}
use Rattle.cjc_link_semantics.specs.JvmSemantics.Group.{joint, joint_classes, joint_exports}
use Rattle.cjc_link_semantics.specs.Loaded.{group_loaded}
use Rattle.cjc_joint_proof.specs.JointPackages.{AreLinked, IsLinked, class_together, files_together, to_outside}
use Rattle.cjc_joint_proof.specs.JointPackages.{to_package}
use Rattle.cjc_joint_proof.specs.Loading.{group_of, offset_in}
use Rattle.cjc_joint_proof.specs.Worlds.{before, outside_classes}
use Rattle.cjc_joint_proof.proofs.AboveLaws.{flat_at}
use Rattle.cjc_joint_proof.proofs.ApartLaws.{apart_outside, imports_flat, import_named, of_files, outside_listing}
use Rattle.cjc_joint_proof.proofs.ApartLaws.{packages_apart, token_there}
use Rattle.cjc_joint_proof.proofs.ClassLaws.{entry_in, exported, found_in, kept_in, name_elsewhere, named_in, number_in}
use Rattle.cjc_joint_proof.proofs.ClassLaws.{own_named, sound_at, together_at, token_in}
use Rattle.cjc_joint_proof.proofs.NameLaws.{class_outside}
use Rattle.cjc_joint_proof.proofs.SoundLaws as sound
use Rattle.cjc_joint_proof.proofs.WorldLaws.{joint_from, outside_is_found, own_is_found}

-- what is named in an export file stands there
pub place_named : (cs : List ExportClass) (x : List ℕ) (token : ℕ) → token_named cs x ≡ Some token → (k : ℕ)
    × (e : ExportClass) × (slice_get cs k ≡ Some e) × (e.name ≡ x)
place_named [] x token e = cc
place_named (c ∷ cs) x token e = by (bytes_eq c.name x) refl e (place_named cs x token)
  where
    by : (b : Bool) → bytes_eq c.name x ≡ b → (if b then Some c.token else token_named cs x) ≡ Some token
        → (token_named cs x ≡ Some token → (k : ℕ) × (e : ExportClass) × (slice_get cs k ≡ Some e) × (e.name ≡ x))
        → (k : ℕ) × (e : ExportClass) × (slice_get (c ∷ cs) k ≡ Some e) × (e.name ≡ x)
    by true f g rest = (0, c, refl, bytes_true c.name x f)
    by false f g rest = let r = rest g in (suc r.0, r.1, r.2, r.3)

-- a name of no export file
no_file : (trees : List ExportTree) (n : ℕ) (x : List ℕ) → ((j : ℕ) (u : ExportTree) → slice_get trees j ≡ Some u
    → token_named u.classes x ≡ None) → external_from n trees x ≡ None
no_file [] n x none = refl
no_file (t ∷ trees) n x none =
    ap (λ o. or_else (option_map (External n) o) (external_from (n + 1) trees x)) (none 0 t refl)
    ∙ no_file trees (n + 1) x (λ j u at. none (suc j) u at)

module _ (packages : List Package) (linked : AreLinked packages) where
  abbrev l : Loaded
  l = group_loaded (group_of packages)

  abbrev group : List Files
  group = files_together packages

  abbrev w : List Class
  w = all_classes (joint group)

  -- a class of a package
  pub record Inside (x : List ℕ) (c : Class) : Type 0 where
    pub part : ℕ
    pub place : ℕ
    pub «package» : Package
    pub tree : ClassTree
    pub here : slice_get packages part ≡ Some «package»
    pub file : (let p = «package» in let f = p.files in slice_get f.classes place ≡ Some tree)
    pub name : tree.name ≡ x
    pub is : c ≡ declared (before group part + place) tree
    pub there : class_named (world «package») x ≡ Some (declared place tree)
    pub on_card : class_together packages x ≡ Own part (offset_in «package» x)
    pub named : class_on_card l x ≡ Some (class_together packages x)
    pub in_no_file : external_named l x ≡ None

  -- a class of an export file from outside
  pub record Outside (x : List ℕ) (c : Class) : Type 0 where
    pub file : ℕ
    pub tree : ExportTree
    pub in_list : slice_get (joint_exports group) file ≡ Some tree
    pub place : ℕ
    pub class : ExportClass
    pub in_file : slice_get tree.classes place ≡ Some class
    pub number : ℕ
    pub is : c ≡ imported number class
    pub name : class.name ≡ x
    pub entry : ExportClass
    pub alike : (n : ℕ) → imported n entry ≡ imported n class
    pub there : external l file entry.token ≡ Some entry
    pub on_card : class_together packages x ≡ External file entry.token
    pub named : class_on_card l x ≡ Some (class_together packages x)
    pub found : external_named l x ≡ Some (class_together packages x)
    -- a package that imports it
    pub part : ℕ
    pub importer : Package
    pub here : slice_get packages part ≡ Some importer
    pub import_number : ℕ
    pub imported_there : class_named (world importer) x ≡ Some (imported import_number class)

  pub told : (x : List ℕ) (class : CardClass) → class_on_card l x ≡ Some class → class_together packages x ≡ class
  told x class e = ap (λ o. unwrap_or o (Own 0 0)) e

  -- ---- classes of packages

  not_outside : (q : ℕ) (p : Package) → slice_get packages q ≡ Some p → (x : List ℕ) (d : Class)
      → class_named (world p) x ≡ Some d → d.is_imported ≡ false → external_named l x ≡ None
  not_outside q p here x d e own = no_file (joint_exports group) 0 x (λ j u at. by j u at (token_named u.classes x)
      refl)
    where
      by : (j : ℕ) (u : ExportTree) → slice_get (joint_exports group) j ≡ Some u → (o : Option ℕ)
          → token_named u.classes x ≡ o → o ≡ None
      by j u at None f = refl
      by j u at (Some token) f =
          let no : true ≡ false = sym (linked.no_own j q u p d x token at f here e) ∙ own in
          absurd cc

  pub record IsTogether (q : ℕ) (p : Package) (x : List ℕ) (d : Class) : Type 0 where
    pub place : ℕ
    pub tree : ClassTree
    pub file : (let f = p.files in slice_get f.classes place ≡ Some tree)
    pub is : d ≡ declared place tree
    pub name : tree.name ≡ x
    pub together : class_named w x ≡ Some (declared (before group q + place) tree)

  -- a class of a package is one of the world of all
  pub own_together : (q : ℕ) (p : Package) → slice_get packages q ≡ Some p → (x : List ℕ) (d : Class)
      → class_named (world p) x ≡ Some d → d.is_imported ≡ false → IsTogether q p x d
  own_together q p here x d e own =
      let s = sound_at packages linked q p here in
      let sound = s.sound in
      let r = own_filed p.files sound.classes sound.exports d (has_named (world p) x d e) own in
      let name : (let t = r.1 in t.name) ≡ x = ap (λ (v : Class). v.name) (sym r.3) ∙ class_named-name (world p) x d e
      in
      record {
        place = r.0;
        tree = r.1;
        file = r.2;
        is = r.3;
        name = name;
        together = ap (class_named w) (sym name) ∙ own_is_found group (packages_apart packages linked) q r.0 p.files r.1
            (record { member = together_at packages linked q p here; file = r.2 });
      }

  inside : (x : List ℕ) (n : ℕ) (t : ClassTree) → slice_get (joint_classes group) n ≡ Some t
      → class_named w x ≡ Some (declared n t) → Inside x (declared n t)
  inside x n t at e =
      let j = joint_from group n t at in
      let o = of_files packages linked j.part j.files (let i = j.own in i.member) in
      let p = o.«package» in
      let name : t.name ≡ x = class_named-name w x (declared n t) e in
      let listed = sound.listed group linked.sound j.part j.place j.files t j.own in
      let there : class_named (world p) x ≡ Some (declared j.place t) =
      ap (λ v. class_named (all_classes v) x) o.files ∙ ap (class_named (all_classes j.files)) (sym name) ∙ listed.name
      in
      let named = own_named packages linked j.part p o.there x (declared j.place t) there refl in
      let on_card = told x (Own j.part (offset_in p x)) named in
      record {
        part = j.part;
        place = j.place;
        «package» = p;
        tree = t;
        here = o.there;
        file = ap (λ (v : Files). slice_get v.classes j.place) o.files ∙ (let i = j.own in i.file);
        name = name;
        is = ap (λ m. declared m t) j.is;
        there = there;
        on_card = on_card;
        named = named ∙ ap Some (sym on_card);
        in_no_file = not_outside j.part p o.there x (declared j.place t) there refl;
      }

  -- ---- classes of export files from outside

  outside : (x : List ℕ) (n : ℕ) (e : ExportClass) → slice_get (outside_classes group) n ≡ Some e
      → class_named w x ≡ Some (imported n e) → Outside x (imported n e)
  outside x n e at known =
      let r = flat_from (λ (t : ExportTree). t.classes) (joint_exports group) n e at in
      let y = outside_listing packages linked r.0 r.1 r.2 in
      let p = y.«package» in
      let h = y.listed in
      let m = import_named packages linked y.part y.place p r.1 h.member h.file in
      let s = sound_at packages linked y.part p h.member in
      let name : e.name ≡ x = class_named-name w x (imported n e) known in
      let there : class_named (world p) x ≡ Some (imported (m.0 + r.3.0) e) = ap (class_named (world p)) (sym name)
      ∙ m.1 r.3.0 e r.3.1 in
      let i = has_entry s.list p s.sound (imported (m.0 + r.3.0) e) (has_named (world p) x (imported (m.0 + r.3.0) e)
      there) refl in
      by r.0 r.1 r.2 r.3.0 r.3.1 name y.part p h.member (m.0 + r.3.0) there i (linked.imports y.part i.file p i.tree
      (record { member = h.member; file = i.in_list }))
    where
      by : (j : ℕ) (t : ExportTree) → slice_get (joint_exports group) j ≡ Some t → (a : ℕ) → slice_get t.classes a
          ≡ Some e → e.name ≡ x → (q : ℕ) (p : Package) → (here : slice_get packages q ≡ Some p) → (number : ℕ)
          → (there : class_named (world p) x ≡ Some (imported number e)) → (i : HasEntry p (imported number e))
          → IsLinked packages q i.tree → Outside x (imported n e)
      by j t in_list a in_file name q p here number there i (to_package r m less other same) =
          let o = exported packages linked q p here x (imported number e) there i r m other same in
          let token = token_there t.classes a e in_file in
          let named : token_named t.classes x ≡ Some token.0 = ap (token_named t.classes) (sym name) ∙ token.1 in
          let no : true ≡ false = sym (linked.no_own j r t m o.class x token.0 in_list named other o.there) ∙ o.own in
          absurd cc
      by j t in_list a in_file name q p here number there i (to_outside out) =
          let d = imported number e in
          let k = number_in packages linked q p here x d there i out in
          let kept = kept_in packages linked q p here x d there i out in
          let token = token_there t.classes a e in_file in
          let named : token_named t.classes x ≡ Some token.0 = ap (token_named t.classes) (sym name) ∙ token.1 in
          let same : j ≡ k = linked.one_file k j i.tree t x (let v = i.entry in v.token) token.0 kept in_list (token_in
          packages linked q p here x d there i out) named in
          let class_is : External k (let v = i.entry in v.token) ≡ External j (let v = i.entry in v.token) =
          ap (λ z. External z (let v = i.entry in v.token)) (sym same) in
          let on_card : class_together packages x ≡ External j (let v = i.entry in v.token) = told x (External k (let v
          = i.entry in v.token)) (named_in packages linked q p here x d there i out) ∙ class_is in
          record {
            file = j;
            tree = t;
            in_list = in_list;
            place = a;
            class = e;
            in_file = in_file;
            number = n;
            is = refl;
            name = name;
            entry = i.entry;
            alike = λ m. ap (λ (v : Class). record v { number = m }) (sym i.class);
            there = ap (λ z. external l z (let v = i.entry in v.token)) same ∙ entry_in packages linked q p here x d
                there i out;
            on_card = on_card;
            named = named_in packages linked q p here x d there i out ∙ ap Some (class_is ∙ sym on_card);
            found = found_in packages linked q p here x d there i out ∙ ap Some (class_is ∙ sym on_card);
            part = q;
            importer = p;
            here = here;
            import_number = number;
            imported_there = there;
          }

  -- ---- each class

  pub stands : (x : List ℕ) (c : Class) → class_named w x ≡ Some c → Inside x c ⊎ Outside x c
  stands x c e = by c e (filed (joint group) x c e)
    where
      by : (c : Class) → class_named w x ≡ Some c → IsFiled (joint group) c → Inside x c ⊎ Outside x c
      by _ e (in_class_file n t at) = inl (inside x n t at e)
      by _ e (in_export_file n d at) = inr (outside x n d (sym (ap (λ cs. slice_get cs n) (imports_flat (joint_exports
          group))) ∙ at) e)

  pub stands_inside : (x : List ℕ) (c : Class) → class_named w x ≡ Some c → c.is_imported ≡ false → Inside x c
  stands_inside x c e own = ⊎_elim (λ i. i) (λ o. let no : true ≡ false = sym (ap (λ (v : Class). v.is_imported) o.is)
      ∙ own in absurd cc) (stands x c e)

  pub stands_outside : (x : List ℕ) (c : Class) → class_named w x ≡ Some c → c.is_imported ≡ true → Outside x c
  stands_outside x c e im = ⊎_elim (λ i. let no : false ≡ true = sym (ap (λ (v : Class). v.is_imported) i.is)
      ∙ im in absurd cc) (λ o. o) (stands x c e)

  -- ---- other names

  -- a name in an export file from outside is of a class of the world of all
  pub file_together : (j : ℕ) (t : ExportTree) (x : List ℕ) (token : ℕ) → slice_get (joint_exports group) j ≡ Some t
      → token_named t.classes x ≡ Some token → (n : ℕ) × (d : ExportClass)
      × (class_named w x ≡ Some (imported n d))
  file_together j t x token at e =
      let r = place_named t.classes x token e in
      let k = flat_at (λ (t : ExportTree). t.classes) (joint_exports group) j r.0 t r.1 at r.2 in (
        k.0,
        r.1,
        ap (class_named w) (sym r.3) ∙ outside_is_found group (packages_apart packages linked) (apart_outside packages
            linked) k.0 r.1 k.1,
      )

  pub none_outside : (x : List ℕ) → class_named w x ≡ None → external_named l x ≡ None
  none_outside x e = no_file (joint_exports group) 0 x (λ j u at. by j u at (token_named u.classes x) refl)
    where
      by : (j : ℕ) (u : ExportTree) → slice_get (joint_exports group) j ≡ Some u → (o : Option ℕ)
          → token_named u.classes x ≡ o → o ≡ None
      by j u at None f = refl
      by j u at (Some token) f =
          let r = file_together j u x token at f in
          let no : None ≡ Some (imported r.0 r.1) = sym e ∙ r.2 in
          absurd cc

  pub none_named : (x : List ℕ) → class_named w x ≡ None → class_on_card l x ≡ None
  none_named x e =
      class_outside l x (λ r other at. name_elsewhere packages linked x r other at (λ m d there f own. let o =
      own_together r m there x d f own in let no : None ≡ Some (declared (before group r + o.place) o.tree) = sym e
      ∙ o.together in absurd cc))
      ∙ none_outside x e

  -- a class that a package has or imports is one of the world of all
  pub known_together : (q : ℕ) (p : Package) → slice_get packages q ≡ Some p → (x : List ℕ) (c : Class)
      → class_named (world p) x ≡ Some c → has_class w x ≡ true
  known_together q p here x c e = by c.is_imported refl
    where
      linked_so : (h : HasEntry p c) → IsLinked packages q h.tree → has_class w x ≡ true
      linked_so h (to_package r m less there same) =
          let o = exported packages linked q p here x c e h r m there same in
          let t = own_together r m there x o.class o.there o.own in
          ap is_some t.together
      linked_so h (to_outside out) =
          let r = file_together (number_in packages linked q p here x c e h out) h.tree x (let v = h.entry in v.token)
          (kept_in packages linked q p here x c e h out) (token_in packages linked q p here x c e h out) in
          ap is_some r.2

      by : (b : Bool) → c.is_imported ≡ b → has_class w x ≡ true
      by false own = let t = own_together q p here x c e own in ap is_some t.together
      by true im =
          let s = sound_at packages linked q p here in
          let h = has_entry s.list p s.sound c (has_named (world p) x c e) im in
          linked_so h (linked.imports q h.file p h.tree (record { member = here; file = h.in_list }))
