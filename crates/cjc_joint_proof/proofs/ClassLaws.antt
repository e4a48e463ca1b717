-- Classes of packages that are loaded together: each means the class of its name, whoever names it.
use Rattle.std.proofs.Common.{◌≡◌, ℕ, zero, suc, ◌+◌, ◌≤◌, arith, refl, sym, ap, ◌∙◌, Bool, true, false, List}
use Rattle.std.proofs.Common.{[]}
use Rattle.std.proofs.Common.{◌∷◌, Some, None}
use Rattle.std.specs.Prelude.{Option, flat_map, option_map, slice_get, unwrap_or}
use Rattle.cjc_token_proof.proofs.BytesGets.{get_mapped, mapped_at}
use Rattle.cjc_token_proof.proofs.WrittenSends.Operations.{flat_from}
use Rattle.cjc_card_semantics.specs.Bytes.AccessFlags.{is_interface}
use Rattle.cjc_card_semantics.specs.ExportFile.declared.tree.ExportClass.{ExportClass}
use Rattle.cjc_card_semantics.specs.ExportFile.declared.tree.ExportTree.{ExportTree}
use Rattle.cjc_card_semantics.specs.Machine.Classes.{Class as CardClass, External, Own, class_named as class_on_card}
use Rattle.cjc_card_semantics.specs.Machine.Classes.{class_of, external, external_from, external_named, number_named}
use Rattle.cjc_card_semantics.specs.Machine.Classes.{or_else, token_named}
use Rattle.cjc_card_semantics.specs.Machine.Classes.{with_token}
use Rattle.cjc_card_semantics.specs.Machine.Loaded.{Loaded, Part}
use Rattle.cjc_exported.specs.World.Classes.{Class, class_named, declared}
use Rattle.cjc_exported.proofs.ExportLaws.Own.{own_class}
use Rattle.cjc_exported.proofs.WorldCycles.{class_named-name}
use Rattle.cjc_exported.specs.World.Files.{Files}
use Rattle.cjc_exported.specs.Components.Class.{is_shareable}
use Rattle.cjc_link_semantics.specs.Components.ExportFile.{export_of}
use Rattle.cjc_link_semantics.specs.Components.Names.{class_ref}
use Rattle.cjc_link_semantics.specs.Components.Package.{Package, world}
use Rattle.cjc_link_semantics.specs.JvmSemantics.Group.{is_of_group, package_of}
use Rattle.cjc_link_semantics.specs.Loaded.{Member, group_loaded, package_number, part_in, tree_number}
use Rattle.cjc_token_proof.proofs.TablesLaws.Clean.{has_named, kept, own_name}
use Rattle.cjc_token_proof.proofs.TablesLaws.Filed.{own_in}
use Rattle.cjc_token_proof.proofs.TablesLaws.Named.{has_entry, has_info, has_none}
use Rattle.cjc_token_proof.specs.Tables.Infos.{HasEntry}
use Rattle.cjc_token_proof.specs.Tables.Loading.{loaded}
use Rattle.cjc_token_proof.specs.Tables.Sound.{IsSound}
use Rattle.cjc_joint_proof.specs.JointPackages.{AreLinked, IsLinked, IsListedBy, class_together, files_together}
use Rattle.cjc_joint_proof.specs.JointPackages.{to_outside, to_package}
use Rattle.cjc_joint_proof.specs.Loading.{group_of, member_of, offset_in}
use Rattle.cjc_joint_proof.specs.Sound.{IsSoundPackage}
use Rattle.cjc_joint_proof.proofs.AboveLaws.{flat_at}
use Rattle.cjc_joint_proof.proofs.NameLaws.{class_in_file, class_inside, class_outside}
use Rattle.cjc_joint_proof.proofs.OutsideLaws.{no_package, outside_kept, package_at}
use Rattle.cjc_joint_proof.proofs.PackageNames.{package_is}
use Rattle.cjc_joint_proof.proofs.ExportLaws.{exporting}
use Rattle.cjc_joint_proof.proofs.FlagLaws.{interface_kept}
use Rattle.cjc_joint_proof.proofs.LoadLaws.{external_at}
use Rattle.cjc_joint_proof.proofs.ReferLaws.{imported_ref, offset_is, outside_ref, own_ref}

-- ---- export files

-- what is found stands in no file before
not_before : (n : ℕ) (trees : List ExportTree) (x : List ℕ) (k token : ℕ)
    → external_from n trees x ≡ Some (External k token) → n ≤ k
not_before n [] x k token e = cc
not_before n (t ∷ trees) x k token e = by (token_named t.classes x) e (not_before (n + 1) trees x k token)
  where
    by : (o : Option ℕ) → or_else (option_map (External n) o) (external_from (n + 1) trees x)
        ≡ Some (External k token) → (external_from (n + 1) trees x ≡ Some (External k token) → n + 1 ≤ k) → n ≤ k
    by (Some a) f rest = let same : n ≡ k = cc in omega (arith, same)
    by None f rest = let more = rest f in omega (arith, more)

-- what is found in a file has its token there
found_in_file : (n file : ℕ) (trees : List ExportTree) (t : ExportTree) (x : List ℕ) (token : ℕ)
    → slice_get trees file ≡ Some t → external_from n trees x ≡ Some (External (n + file) token)
    → token_named t.classes x ≡ Some token
found_in_file n file [] t x token at e = cc
found_in_file n zero (u ∷ trees) t x token at e = by (token_named u.classes x) refl e
  where
    by : (o : Option ℕ) → token_named u.classes x ≡ o
        → or_else (option_map (External n) o) (external_from (n + 1) trees x) ≡ Some (External (n + 0) token)
        → token_named t.classes x ≡ Some token
    by (Some a) is f =
        let same : a ≡ token = cc in
        let tree : u ≡ t = cc in
        ap (λ (v : ExportTree). token_named v.classes x) (sym tree) ∙ is ∙ ap Some same
    by None is f = let more = not_before (n + 1) trees x (n + 0) token f in absurd (omega (arith, more))
found_in_file n (suc file) (u ∷ trees) t x token at e =
    by (token_named u.classes x) e (found_in_file (n + 1) file trees t x token at)
  where
    by : (o : Option ℕ) → or_else (option_map (External n) o) (external_from (n + 1) trees x)
        ≡ Some (External (n + suc file) token) → (external_from (n + 1) trees x
        ≡ Some (External (n + 1 + file) token) → token_named t.classes x ≡ Some token)
        → token_named t.classes x ≡ Some token
    by (Some a) f rest = let same : n ≡ n + suc file = cc in absurd (omega (arith, same))
    by None f rest =
        let s : n + suc file ≡ n + 1 + file = omega arith in
        rest (f ∙ ap (λ m. Some (External m token)) s)

module _ (packages : List Package) (linked : AreLinked packages) where
  abbrev l : Loaded
  l = group_loaded (group_of packages)

  -- ---- packages and their places

  pub together_at : (q : ℕ) (p : Package) → slice_get packages q ≡ Some p
      → slice_get (files_together packages) q ≡ Some p.files
  together_at q p here =
      get_mapped (λ (m : Member). m.files) (group_of packages) q
      ∙ ap (option_map (λ (m : Member). m.files)) (get_mapped member_of packages q ∙ ap (option_map member_of) here)

  pub sound_at : (q : ℕ) (p : Package) → slice_get packages q ≡ Some p → IsSoundPackage p.files
  sound_at q p here = let s = linked.sound in s.each q p.files (together_at q p here)

  same_place : (q r : ℕ) (p m : Package) → slice_get packages q ≡ Some p → slice_get packages r ≡ Some m
      → (let f = p.files in f.package_name) ≡ (let f = m.files in f.package_name) → q ≡ r
  same_place q r p m here there same = let s = linked.sound in s.names q r p.files m.files (together_at q p here)
      (together_at
      r m there) same

  pub part_at : (q : ℕ) (p : Package) → slice_get packages q ≡ Some p
      → slice_get l.parts q ≡ Some (part_in (group_of packages) l.trees (member_of p))
  part_at q p here =
      get_mapped (part_in (group_of packages) l.trees) (group_of packages) q
      ∙ ap (option_map (part_in (group_of packages) l.trees)) (get_mapped member_of packages q
      ∙ ap (option_map member_of) here)

  -- the package of a component
  pub record Placed (r : ℕ) (part : Part) : Type 0 where
    pub «package» : Package
    pub there : slice_get packages r ≡ Some «package»
    pub is : part ≡ part_in (group_of packages) l.trees (member_of «package»)

  pub placed : (r : ℕ) (part : Part) → slice_get l.parts r ≡ Some part → Placed r part
  placed r part at = by (slice_get packages r) refl
    where
      by : (o : Option Package) → slice_get packages r ≡ o → Placed r part
      by None e =
          let none : slice_get l.parts r ≡ None =
          get_mapped (part_in (group_of packages) l.trees) (group_of packages) r
          ∙ ap (option_map (part_in (group_of packages) l.trees)) (get_mapped member_of packages r
          ∙ ap (option_map member_of) e) in
          let clash : None ≡ Some part = sym none ∙ at in cc
      by (Some m) e =
          let both : Some part ≡ Some (part_in (group_of packages) l.trees (member_of m)) = sym at ∙ part_at r m e in
          record { «package» = m; there = e; is = cc }

  -- ---- a package's own classes

  pub home : (q : ℕ) (p : Package) → slice_get packages q ≡ Some p → (x : List ℕ) (c : Class)
      → class_named (world p) x ≡ Some c → c.is_imported ≡ false → package_of c.name
      ≡ (let f = p.files in f.package_name)
  home q p here x c e own =
      let s = sound_at q p here in
      let k = kept s.list p.files s.sound c (has_named (world p) x c e) in
      package_is (let f = p.files in f.package_name) c.name (k.of_package own)

  -- no package but its own has the name
  pub name_elsewhere : (x : List ℕ) (r : ℕ) (part : Part) → slice_get l.parts r ≡ Some part
      → ((m : Package) (d : Class) → slice_get packages r ≡ Some m → class_named (world m) x ≡ Some d
      → d.is_imported ≡ false → ⊥) → number_named part.classes x ≡ None
  name_elsewhere x r part at none =
      let o = placed r part at in
      let m = o.«package» in
      let s = sound_at r m o.there in
      ap (λ (y : Part). number_named y.classes x) o.is ∙ by m s.list s.sound o.there (class_named (world m) x) refl
    where
      kind : (m : Package) (list : List ℕ) → IsSound list m.files → slice_get packages r ≡ Some m → (d : Class)
          → class_named (world m) x ≡ Some d → (b : Bool) → d.is_imported ≡ b → number_named
          (let y = part_in (group_of packages) l.trees (member_of m) in y.classes) x ≡ None
      kind m list sound there d e false own = absurd (none m d there e own)
      kind m list sound there d e true im =
          let h = has_entry list m sound d (has_named (world m) x d e) im in
          ap (number_named (let y = part_in (group_of packages) l.trees (member_of m) in y.classes)) (sym
          (class_named-name
          (world m) x d e)) ∙ h.has_no_info

      by : (m : Package) (list : List ℕ) → IsSound list m.files → slice_get packages r ≡ Some m → (o : Option Class)
          → class_named (world m) x ≡ o
          → number_named (let y = part_in (group_of packages) l.trees (member_of m) in y.classes) x ≡ None
      by m list sound there None e = let h = has_none list m sound x e in h.has_no_info
      by m list sound there (Some d) e = kind m list sound there d e d.is_imported refl

  -- a class of a package is on the card by its name
  pub own_named : (q : ℕ) (p : Package) → slice_get packages q ≡ Some p → (x : List ℕ) (c : Class)
      → class_named (world p) x ≡ Some c → c.is_imported ≡ false
      → class_on_card l x ≡ Some (Own q (offset_in p x))
  own_named q p here x c e own =
      let s = sound_at q p here in
      let h = has_info s.list p s.sound c (has_named (world p) x c e) own in
      let name : c.name ≡ x = class_named-name (world p) x c e in
      class_inside l q (part_in (group_of packages) l.trees (member_of p)) x h.number h.offset (part_at q p here)
      (ap (number_named (let y = part_in (group_of packages) l.trees (member_of p) in y.classes)) (sym name) ∙ h.named)
      h.at (λ r other at apart. name_elsewhere x r other at (λ m d there f im. apart (sym (same_place q r p m here there
      (sym (home q p here x c e own) ∙ (ap package_of (name ∙ sym (class_named-name (world m) x d f)) ∙ home r m
      there x d f
      im))))))
      ∙ ap (λ o. Some (Own q o)) (sym (offset_is p c h) ∙ ap (offset_in p) name)

  -- ---- classes of export files of the group

  pub number_of : (r : ℕ) (e : Package) → slice_get packages r ≡ Some e
      → package_number (group_of packages) (let t = export_of e in t.name) ≡ Some r
  number_of r e there =
      ap (package_number (group_of packages)) (linked.names r e there)
      ∙ package_at (group_of packages) r (member_of e) (get_mapped member_of packages r ∙ ap (option_map member_of)
      there) (λ j n at same. let k = mapped_at member_of packages j n at in same_place j r k.0 e k.1 there
      (ap (λ (v : Member). let files = v.files in files.package_name) k.2 ∙ same))

  -- the place of a package by its files' name
  pub package_is_at : (q : ℕ) (p : Package) → slice_get packages q ≡ Some p → (j : ℕ) (g : Files)
      → slice_get (files_together packages) j ≡ Some g → g.package_name ≡ (let f = p.files in f.package_name) → j ≡ q
  package_is_at q p here j g at same =
      let m = mapped_at (λ (m : Member). m.files) (group_of packages) j g at in
      let k = mapped_at member_of packages j m.0 m.1 in
      let files : (let x = k.0 in x.files) ≡ g = ap (λ (m : Member). m.files) k.2 ∙ m.2 in
      same_place j q k.0 p k.1 here (ap (λ (f : Files). f.package_name) files ∙ same)

  -- ---- export files from outside

  -- a file that a package imports
  pub record Listing (u : ExportTree) : Type 0 where
    pub part : ℕ
    pub place : ℕ
    pub «package» : Package
    pub listed : IsListedBy packages part place «package» u

  pub listing : (j : ℕ) (u : ExportTree) → slice_get (flat_map (λ (f : Files). f.exports) (files_together packages)) j
      ≡ Some u → Listing u
  listing j u at =
      let r = flat_from (λ (f : Files). f.exports) (files_together packages) j u at in
      let m = mapped_at (λ (m : Member). m.files) (group_of packages) r.0 r.1 r.2 in
      let k = mapped_at member_of packages r.0 m.0 m.1 in
      let files : (let x = k.0 in x.files) ≡ r.1 = ap (λ (m : Member). m.files) k.2 ∙ m.2 in
      record {
        part = r.0;
        place = r.3.0;
        «package» = k.0;
        listed = record { member = k.1; file = ap (λ (f : Files). slice_get f.exports r.3.0) files ∙ r.3.1 };
      }

  kept_at : (q : ℕ) (p : Package) → slice_get packages q ≡ Some p → (c : Class) (h : HasEntry p c)
      → is_of_group (files_together packages) (let t = h.tree in t.name) ≡ false
      → (let t = h.tree in slice_get l.trees (tree_number l.trees t.name) ≡ Some h.tree)
  kept_at q p here c h out =
      let k = flat_at (λ (f : Files). f.exports) (files_together packages) q h.file p.files h.tree (together_at q p
      here) h.in_list in
      outside_kept (files_together packages) k.0 h.tree k.1 out (λ j u at name. let y = listing j u at in linked.same q
      h.file y.part y.place p y.«package» h.tree u (record { member = here; file = h.in_list }) y.listed out name)

  -- ---- what a name means

  -- a class on the card by its class_ref in a package, and by its name
  record Means (q : ℕ) (p : Package) (x : List ℕ) : Type 0 where
    class : CardClass
    ref : class_of l q (class_ref p x) ≡ Some class
    named : class_on_card l x ≡ Some class

  module _ (q : ℕ) (p : Package) (here : slice_get packages q ≡ Some p) (x : List ℕ) (c : Class)
      (found : class_named (world p) x ≡ Some c) where
    name : c.name ≡ x
    name = class_named-name (world p) x c found

    -- one of the package itself
    own_means : c.is_imported ≡ false → Means q p x
    own_means own =
        let s = sound_at q p here in
        let h = has_info s.list p s.sound c (has_named (world p) x c found) own in
        record {
          class = Own q (offset_in p x);
          ref = ap (λ y. class_of l q (class_ref p y)) (sym name) ∙ (own_ref packages q p here c h
              ∙ ap (λ y. Some (Own q (offset_in p y))) name);
          named = own_named q p here x c found own;
        }

    -- one of a package that it imports: the class of its name there
    pub record Exported (r : ℕ) (e : Package) : Type 0 where
      pub class : Class
      pub there : class_named (world e) x ≡ Some class
      pub own : class.is_imported ≡ false
      pub kind : is_interface c.flags ≡ is_interface class.flags

    pub exported : (h : HasEntry p c) (r : ℕ) (e : Package) → slice_get packages r ≡ Some e → h.tree ≡ export_of e
        → Exported r e
    exported h r e there same =
        let s = sound_at r e there in
        let number = number_of r e there in
        let entry = h.entry in
        let listed : (let files = p.files in slice_get files.exports h.file ≡ Some (export_of e)) = h.in_list ∙ ap Some
        same in
        let is : (let t = export_of e in with_token t.classes entry.token ≡ Some entry) = sym (external_at (loaded p)
        h.file entry.token (Some (export_of e)) listed) ∙ h.there in
        let w = exporting packages q r p e h.file entry.token entry here there listed number is in
        let d = w.class in
        let own = own_class e entry.token d w.at in
        let sound = s.sound in
        let t = declared own.number own.tree in
        let known : class_named (world e) t.name ≡ Some t = own_name s.list e.files s.sound t (own_in e.files
        sound.classes sound.exports own.number own.tree own.is_tree) in
        let entry_name : entry.name ≡ c.name = sym (ap (λ (y : Class). y.name) h.class) in
        let called : t.name ≡ x = sym (ap (λ (y : Class). y.name) own.is) ∙ (w.name ∙ (entry_name ∙ name)) in
        record {
          class = t;
          there = ap (class_named (world e)) (sym called) ∙ known;
          own = refl;
          kind = ap (λ (y : Class). is_interface y.flags) h.class
              ∙ ap (λ (y : ExportClass). is_interface y.flags) (sym w.written)
              ∙ interface_kept d.flags (is_shareable (world e) d)
              ∙ ap (λ (y : Class). is_interface y.flags) own.is;
        }

    package_means : (h : HasEntry p c) (r : ℕ) (e : Package) → slice_get packages r ≡ Some e → h.tree ≡ export_of e
        → Means q p x
    package_means h r e there same =
        let s = sound_at r e there in
        let o = exported h r e there same in
        record {
          class = Own r (offset_in e x);
          ref = ap (λ y. class_of l q (class_ref p y)) (sym name) ∙ (imported_ref packages q p here r e there s.list
              s.sound (number_of r e there) c h same ∙ ap (λ y. Some (Own r (offset_in e y))) name);
          named = own_named r e there x o.class o.there o.own;
        }

    -- one from outside
    module _ (h : HasEntry p c) (out : is_of_group (files_together packages) (let t = h.tree in t.name) ≡ false) where
      abbrev pub number_in : ℕ
      number_in = tree_number l.trees (let t = h.tree in t.name)

      pub kept_in : slice_get l.trees number_in ≡ Some h.tree
      kept_in = kept_at q p here c h out

      pub token_in : (let t = h.tree in let entry = h.entry in token_named t.classes x ≡ Some entry.token)
      token_in =
          let entry = h.entry in
          let z : h.file ≡ 0 + h.file = omega arith in
          found_in_file 0 h.file (let files = p.files in files.exports) h.tree x entry.token h.in_list (ap
          (external_from 0 (let files = p.files in files.exports)) (sym name)
          ∙ (h.found ∙ ap (λ m. Some (External m entry.token)) z))

      pub entry_in : (let entry = h.entry in external l number_in entry.token ≡ Some h.entry)
      entry_in =
          let entry = h.entry in
          external_at l number_in entry.token (Some h.tree) kept_in
          ∙ sym (external_at (loaded p) h.file entry.token (Some h.tree) h.in_list) ∙ h.there

      pub found_in : (let entry = h.entry in external_named l x ≡ Some (External number_in entry.token))
      found_in =
          let entry = h.entry in
          class_in_file l number_in h.tree x entry.token kept_in token_in (λ r u at apart. none r u at apart
          (token_named u.classes x) refl)
        where
          none : (r : ℕ) (u : ExportTree) → slice_get l.trees r ≡ Some u → (r ≡ number_in → ⊥) → (o : Option ℕ)
              → token_named u.classes x ≡ o → o ≡ None
          none r u at apart None f = refl
          none r u at apart (Some b) f = absurd (apart (linked.one_file number_in r h.tree u x (let entry = h.entry
              in entry.token) b kept_in at token_in f))

      pub named_in : (let entry = h.entry in class_on_card l x ≡ Some (External number_in entry.token))
      named_in = class_outside l x (λ r other at. name_elsewhere x r other at (λ m d there f own. imported_only d
          (linked.no_own number_in r h.tree m d x (let entry = h.entry in entry.token) kept_in token_in there f) own))
          ∙ found_in
        where
          imported_only : (d : Class) → d.is_imported ≡ true → d.is_imported ≡ false → ⊥
          imported_only d e f = let no : true ≡ false = sym e ∙ f in cc

      file_means : Means q p x
      file_means =
          let t = h.tree in
          let none = no_package (group_of packages) t.name out in
          record {
            class = External number_in (let entry = h.entry in entry.token);
            ref = ap (λ y. class_of l q (class_ref p y)) (sym name) ∙ outside_ref packages q p here c h none kept_in;
            named = named_in;
          }

    means : Means q p x
    means = by c.is_imported refl
      where
        linked_so : (h : HasEntry p c) → IsLinked packages q h.tree → Means q p x
        linked_so h (to_package r e before there same) = package_means h r e there same
        linked_so h (to_outside out) = file_means h out

        by : (b : Bool) → c.is_imported ≡ b → Means q p x
        by false own = own_means own
        by true im =
            let s = sound_at q p here in
            let h = has_entry s.list p s.sound c (has_named (world p) x c found) im in
            linked_so h (linked.imports q h.file p h.tree (record { member = here; file = h.in_list }))

    together : class_on_card l x ≡ Some (class_together packages x)
    together = let m = means in m.named ∙ ap Some (sym (ap (λ o. unwrap_or o (Own 0 0)) m.named))

  -- a class_ref of a package means the class of its name
  pub class_means : (q : ℕ) (p : Package) → slice_get packages q ≡ Some p → (x : List ℕ) (c : Class)
      → class_named (world p) x ≡ Some c → class_of l q (class_ref p x) ≡ Some (class_together packages x)
  class_means q p here x c found =
      let m = means q p here x c found in m.ref ∙ ap Some (sym (ap (λ o. unwrap_or o (Own 0 0)) m.named))

  -- and its name is that class
  pub name_means : (q : ℕ) (p : Package) → slice_get packages q ≡ Some p → (x : List ℕ) (c : Class)
      → class_named (world p) x ≡ Some c → class_on_card l x ≡ Some (class_together packages x)
  name_means q p here x c found = together q p here x c found
