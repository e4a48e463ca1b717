-- Where an interface is from that a package knows: a class file of a package of the group, or an export file from
-- outside. So all packages that know it have its methods at the same places.
use Rattle.std.proofs.Common.{◌≡◌, ◌+◌, ℕ, refl, sym, ap, subst, ◌∙◌, true, false, List, Some}
use Rattle.std.specs.Prelude.{slice_get}
use Rattle.cjc_bytes.specs.AccessFlags.{is_interface}
use Rattle.cjc_components.specs.Class.{is_shareable}
use Rattle.cjc_components.specs.ExportFile.{export_class, export_of}
use Rattle.cjc_components.specs.Package.{Package, world}
use Rattle.cjc_joint_proof.specs.JointPackages.{IsLinked, files_together, to_outside, to_package}
use Rattle.cjc_joint_proof.specs.JointTables.{world_together}
use Rattle.cjc_joint_proof.specs.Worlds.{IsOwn, before}
use Rattle.cjc_joint_proof.proofs.ClassLaws.{kept_in, number_in, number_of, sound_at, together_at, token_in}
use Rattle.cjc_joint_proof.proofs.ExportLaws.{Exporting, exporting}
use Rattle.cjc_joint_proof.proofs.FlagLaws.{interface_kept}
use Rattle.cjc_joint_proof.proofs.LoadLaws.{external_at}
use Rattle.cjc_joint_proof.proofs.TogetherLaws.{at_home}
use Rattle.cjc_joint_theorem.proofs.OrderedLaws.Standing.{Stands, class_stands, from_outside, of_member, own_class}
use Rattle.cjc_joint_theorem.proofs.OrderedLaws.Standing.{own_in}
use Rattle.cjc_jvm_semantics.specs.Group.{is_of_group}
use Rattle.cjc_shape_proof.proofs.ExportedOwn.{IsOwn as IsExported, own_class as exported_own}
use Rattle.cjc_token_proof.proofs.WrittenCalls.Facts.{Facts}
use Rattle.cjc_token_proof.specs.CardSemantics.Machine.Classes.{with_token}
use Rattle.cjc_token_proof.specs.Tables.Infos.{HasEntry}
use Rattle.cjc_token_proof.specs.Tables.Loading.{loaded}
use Rattle.cjc_token_proof.specs.WrittenCalls.Calls.{ExportsKeep}
use Rattle.cjc_tokens.specs.Members.{Signature}
use Rattle.cjc_tokens.specs.Methods.{interface_methods}
use Rattle.cjc_world.proofs.Cycles.{class_named-name}
use Rattle.cjc_world.specs.ClassFile.declared.tree.ClassTree.{ClassTree}
use Rattle.cjc_world.specs.Classes.{Class, all_classes, class_named, declared, imported}
use Rattle.cjc_world.specs.ExportFile.declared.tree.ExportClass.{ExportClass}
use Rattle.cjc_world.specs.Files.{Files}
use Rattle.cjc_world.specs.Upwards.{IsOrdered}
use Rattle.cjc_joint_whole.specs.Selected.{SelectTogether}
use Rattle.cjc_joint_whole.proofs.WholeLaws.InterfacesAbroad.{stays_own}
use Rattle.cjc_joint_whole.proofs.WholeLaws.FaceRows.{of_import, same_rows, to_import}
use Rattle.cjc_joint_whole.proofs.WholeLaws.Linked.{package_with}

same_class : {c d : Class} → Some c ≡ Some d → c ≡ d
same_class e = cc

-- An imported class that a package of the group exports: by its class file there.
pub record Shared (packages : List Package) (y : List ℕ) (i : Class) : Type 0 where
  pub part : ℕ
  pub exporter : Package
  pub there : slice_get packages part ≡ Some exporter
  pub number : ℕ
  pub place : ℕ
  pub tree : ClassTree
  pub file : (let files = exporter.files in slice_get files.classes place ≡ Some tree)
  pub name : tree.name ≡ y
  pub is : i ≡ imported number (export_class exporter (declared place tree))

module _ (packages : List Package) (is : SelectTogether packages) (facts : (q : ℕ) (p : Package)
    → slice_get packages q ≡ Some p → Facts p) where
  abbrev group : List Files
  group = files_together packages

  abbrev w : List Class
  w = world_together packages

  keep : (q : ℕ) (p : Package) → slice_get packages q ≡ Some p → ExportsKeep p
  keep q p it = let s = is.each q p it in let r = s.runs in let j = r.joined in j.exports

  its_order : (q : ℕ) (p : Package) → slice_get packages q ≡ Some p → IsOrdered (world p)
  its_order q p it = let o = is.ordered in o.each q p.files (together_at packages is.linked q p it)

  -- what one has at a place the other has there
  abbrev pub Leads : List Class → Class → List Class → Class → Type 0
  Leads v c u d = (k : ℕ) (s : Signature) → slice_get (interface_methods v c) k ≡ Some s
      → slice_get (interface_methods u d) k ≡ Some s

  -- A class file of a package of the group, which the package itself knows by the name; or one from outside.
  pub data Origin (p : Package) (y : List ℕ) (i : Class) : Type 0 where
    of_home : (r : ℕ) (e : Package) → slice_get packages r ≡ Some e → (n : ℕ) (t : ClassTree)
        → class_named (world e) y ≡ Some (declared n t) → Leads (world p) i (world e) (declared n t)
        → Leads (world e) (declared n t) (world p) i → Origin p y i
    of_abroad : (d : Class) → class_named w y ≡ Some d → d.is_imported ≡ true → i.is_imported ≡ true
        → i.methods ≡ d.methods → Origin p y i

  module _ (q : ℕ) (p : Package) (it : slice_get packages q ≡ Some p) (y : List ℕ) where
    -- one that a package before exports
    of_package : (i : Class) → class_named (world p) y ≡ Some i → (h : HasEntry p i) → (r : ℕ) (e : Package)
        → slice_get packages r ≡ Some e → h.tree ≡ export_of e → Shared packages y i
    of_package i known h r e there same =
        let o = out in
        let u = own in
        let is_entry : i ≡ imported h.number (export_class e (declared u.number u.tree)) = h.class
        ∙ ap (λ (x : ExportClass). imported h.number x) (sym o.written)
        ∙ ap (λ (x : Class). imported h.number (export_class e x)) u.is in
        record {
          part = r;
          exporter = e;
          there = there;
          number = h.number;
          place = u.number;
          tree = u.tree;
          file = u.is_tree;
          name = sym (ap (λ (x : Class). x.name) is_entry) ∙ class_named-name (world p) y i known;
          is = is_entry;
        }
      where
        listed : (let files = p.files in slice_get files.exports h.file ≡ Some (export_of e))
        listed = h.in_list ∙ ap Some same

        told : (let t = export_of e in with_token t.classes (let x = h.entry in x.token) ≡ Some h.entry)
        told = sym (external_at (loaded p) h.file (let x = h.entry in x.token) (Some (export_of e)) listed) ∙ h.there

        out : Exporting packages q r p e h.file (let x = h.entry in x.token) h.entry it there listed (number_of packages
            is.linked r e there) told
        out = exporting packages q r p e h.file (let x = h.entry in x.token) h.entry it there listed (number_of packages
            is.linked r e there) told

        own : IsExported e (let o = out in o.class)
        own = exported_own e (let x = h.entry in x.token) (let o = out in o.class) (let o = out in o.at)

    -- an interface's methods are those of its class file
    home_of : (i : Class) → class_named (world p) y ≡ Some i → is_interface i.flags ≡ true → Shared packages y i
        → Origin p y i
    home_of i known face h =
        let e = h.exporter in
        let t = h.tree in
        let c = declared h.place t in
        let sound = sound_at packages is.linked h.part e h.there in
        let kind : is_interface t.flags ≡ true = sym (ap (λ (x : Class). is_interface x.flags) h.is
        ∙ interface_kept t.flags (is_shareable (world e) c)) ∙ face in
        let here : class_named (world p) t.name ≡ Some (imported h.number (export_class e c)) =
        ap (class_named (world p)) h.name ∙ known ∙ ap (λ (x : Class). Some x) h.is in
        let file_of : IsOwn group h.part h.place e.files t = record {
          member = together_at packages is.linked h.part e h.there;
          file = h.file;
        } in
        of_home h.part e h.there h.place t (ap (class_named (world e)) (sym h.name) ∙ own_in group is.ordered h.part
        h.place e.files t file_of)
        (subst (λ (x : Class). Leads (world p) x (world e) c) (sym h.is) (of_import sound.list e sound.sound (its_order
        h.part e h.there) h.place t h.file kind p (keep q p it) h.number here))
        (subst (λ (x : Class). Leads (world e) c (world p) x) (sym h.is) (to_import sound.list e sound.sound (its_order
        h.part e h.there) h.place t h.file kind p (keep q p it) h.number here))

    -- a class file of a package of the group is in no file from outside
    not_abroad : (i : Class) → class_named (world p) y ≡ Some i → (h : HasEntry p i)
        → is_of_group group (let t = h.tree in t.name) ≡ false → (j k : ℕ) (m : Files) (t : ClassTree)
        → IsOwn group j k m t → t.name ≡ y → ⊥
    not_abroad i known h out j k m t own name =
        let e = package_with packages j m own.member in
        let there : class_named (world e.0) y ≡ Some (declared k t) = ap (λ (f : Files). class_named (all_classes f) y)
        (sym e.2) ∙ ap (class_named (all_classes m)) (sym name) ∙ own_in group is.ordered j k m t own in
        let no = is.linked.no_own (number_in packages is.linked q p it y i known h out) j h.tree e.0 (declared k t) y
        (let x = h.entry in x.token) (kept_in packages is.linked q p it y i known h out)
        (token_in packages is.linked q p it y i known h out) e.1 there in
        cc

    -- An import that stands in the joint world for a class file is one that a package of the group exports.
    pub shared : (i d : Class) → Stands group q p.files i d → class_named (world p) y ≡ Some i → i.is_imported ≡ true
        → class_named w y ≡ Some d → d.is_imported ≡ false → Shared packages y i
    shared _ _ (own_class k t own) known import joint inside = absurd cc
    shared _ _ (from_outside n k x at) known import joint inside = absurd cc
    shared _ _ (of_member n x j k m t lt own name kind) known import joint inside =
        by (let f = facts q p it in f.file y (imported n x) known refl)
      where
        by : (h : HasEntry p (imported n x)) → Shared packages y (imported n x)
        by h = linked_by (is.linked.imports q h.file p h.tree (record { member = it; file = h.in_list }))
          where
            linked_by : IsLinked packages q h.tree → Shared packages y (imported n x)
            linked_by (to_package r e less there same) = of_package (imported n x) known h r e there same
            linked_by (to_outside out) = absurd (not_abroad (imported n x) known h out j k m t own (class_named-name w y
                (declared (before group j + k) t) joint))

    -- One from outside is none.
    pub outside_not : (i : Class) → class_named (world p) y ≡ Some i → (h : HasEntry p i)
        → is_of_group group (let t = h.tree in t.name) ≡ false → (d : Class) → class_named w y ≡ Some d
        → d.is_imported ≡ false → ⊥
    outside_not i known h out d joint inside =
        let hs = class_stands group is.ordered q p.files (together_at packages is.linked q p it) y i known in
        by i hs.class hs.stands known h out hs.named (ap (λ (c : Class). c.is_imported) (same_class (sym hs.named
        ∙ joint)) ∙ inside)
      where
        by : (i d : Class) → Stands group q p.files i d → class_named (world p) y ≡ Some i → (h : HasEntry p i)
            → is_of_group group (let t = h.tree in t.name) ≡ false → class_named w y ≡ Some d → d.is_imported ≡ false → ⊥
        by _ _ (own_class k t own) known h out joint inside =
            let no : false ≡ true = ap (λ (c : Class). c.is_imported) h.class in cc
        by _ _ (of_member n x j k m t lt own name kind) known h out joint inside = not_abroad (imported n x) known h out j
            k m t own (class_named-name w y (declared (before group j + k) t) joint)
        by _ _ (from_outside n k x at) known h out joint inside = cc

    origin_by : (i d : Class) → Stands group q p.files i d → class_named (world p) y ≡ Some i
        → is_interface i.flags ≡ true → class_named w y ≡ Some d → Origin p y i
    origin_by _ _ (own_class k t own) known face joint = of_home q p it k t known (λ n s e. e) (λ n s e. e)
    origin_by _ _ (of_member n x j k m t lt own name kind) known face joint = home_of (imported n x) known face
        (shared (imported n x) (declared (before group j + k) t) (of_member n x j k m t lt own name kind) known refl joint
        refl)
    origin_by _ _ (from_outside n k x at) known face joint = of_abroad (imported k x) joint refl refl refl

    pub origin : (i : Class) → class_named (world p) y ≡ Some i → is_interface i.flags ≡ true → Origin p y i
    origin i known face =
        let hs = class_stands group is.ordered q p.files (together_at packages is.linked q p it) y i known in
        origin_by i hs.class hs.stands known face hs.named

  at_home_inside : (y : List ℕ) (d : Class) → class_named w y ≡ Some d → d.is_imported ≡ true → (r : ℕ) (e : Package)
      → slice_get packages r ≡ Some e → (n : ℕ) (t : ClassTree) → class_named (world e) y ≡ Some (declared n t) → ⊥
  at_home_inside y d joint abroad r e there n t known =
      let hs = class_stands group is.ordered r e.files (together_at packages is.linked r e there) y (declared n t) known
      in
      let one : hs.class ≡ d = same_class (sym hs.named ∙ joint) in
      let no : true ≡ false = sym abroad ∙ ap (λ (c : Class). c.is_imported) (sym one) ∙ stays_own group r
      e.files (declared n t) hs.class hs.stands refl in
      cc

  -- two packages that know an interface have its methods at the same places
  pub rows_agree : (q : ℕ) (p : Package) → slice_get packages q ≡ Some p → (r : ℕ) (e : Package)
      → slice_get packages r ≡ Some e → (y : List ℕ) (i j : Class) → class_named (world p) y ≡ Some i
      → is_interface i.flags ≡ true → class_named (world e) y ≡ Some j → is_interface j.flags ≡ true → (k : ℕ)
      (s : Signature) → slice_get (interface_methods (world p) i) k ≡ Some s
      → slice_get (interface_methods (world e) j) k ≡ Some s
  rows_agree q p it r e at y i j known_i face_i known_j face_j k s row =
      by (origin q p it y i known_i face_i) (origin r e at y j known_j face_j)
    where
      by : Origin p y i → Origin e y j → slice_get (interface_methods (world e) j) k ≡ Some s
      by (of_home a u there n t known lead back) (of_home b v other m z also lead_j back_j) =
          let place : a ≡ b = sym (at_home packages is.linked a u there y (record {
            class = declared n t;
            there = known;
            own = refl;
          })) ∙ at_home packages is.linked b v other y (record { class = declared m z; there = also; own = refl }) in
          let both : Some u ≡ Some v = sym there ∙ ap (slice_get packages) place ∙ other in
          let one : u ≡ v = cc in
          let same : declared n t ≡ declared m z = same_class (sym known ∙ ap (λ (x : Package). class_named (world x) y)
          one ∙ also) in
          back_j k s (sym (ap (λ (x : Package). slice_get (interface_methods (world x) (declared n t)) k) one
          ∙ ap (λ (c : Class). slice_get (interface_methods (world v) c) k) same) ∙ lead k s row)
      by (of_abroad d joint abroad import_i same_i) (of_abroad b joint_b abroad_b import_j same_j) =
          let one : d ≡ b = same_class (sym joint ∙ joint_b) in
          ap (λ ss. slice_get ss k) (sym (same_rows (world p) (world e) i j import_i import_j (same_i
          ∙ ap (λ (c : Class). c.methods) one ∙ sym same_j))) ∙ row
      by (of_home a u there n t known lead back) (of_abroad d joint abroad import_j same_j) =
          absurd (at_home_inside y d joint abroad a u there n t known)
      by (of_abroad d joint abroad import_i same_i) (of_home b v other m z also lead_j back_j) =
          absurd (at_home_inside y d joint abroad b v other m z also)
