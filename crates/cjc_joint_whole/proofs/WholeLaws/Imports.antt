-- What packages import of one another says of classes what is so: of which kind they are, and what stands above them.
use Rattle.std.proofs.Common.{◌≡◌, ℕ, ◌+◌, ◌*◌, ◌^◌, sym, ap, subst, ◌∙◌, arith, Bool, true, false, List}
use Rattle.std.proofs.Common.{Some, ⊎_elim}
use Rattle.std.specs.Prelude.{◌-◌, ◌/◌, ◌%◌, nat_lt, slice_get, if◌then◌else◌}
use Rattle.std.proofs.lemmas.Nat.Bits.{and_pow}
use Rattle.cjc_bytes.specs.AccessFlags.{acc_shareable, acc_super, is_abstract, is_interface}
use Rattle.cjc_bytes.proofs.Gets.{mapped_at}
use Rattle.cjc_components.specs.Class.{is_shareable}
use Rattle.cjc_components.specs.ExportFile.{export_class, without}
use Rattle.cjc_components.specs.Exports.{exported_classes}
use Rattle.cjc_components.specs.Package.{Package, world}
use Rattle.cjc_jvm_semantics.specs.Group.{joint_exports}
use Rattle.cjc_world.specs.ClassFile.declared.tree.ClassTree.{ClassTree}
use Rattle.cjc_world.specs.Classes.{Class, all_classes, class_named, declared}
use Rattle.cjc_world.specs.ExportFile.declared.tree.ExportClass.{ExportClass}
use Rattle.cjc_world.specs.ExportFile.declared.tree.ExportTree.{ExportTree}
use Rattle.cjc_world.specs.Files.{Files}
use Rattle.cjc_world.specs.Supertypes.{Above, IsAcyclic, Lists}
use Rattle.cjc_world.proofs.Settled.{lists-front}
use Rattle.cjc_world.proofs.Trees.{lists-split}
use Rattle.cjc_shape_proof.proofs.ExportedOwn.{IsOwn as IsOwnClass, own_class}
use Rattle.cjc_shape_proof.proofs.WritingLaws.Flags.{interface_kept}
use Rattle.cjc_theorem.proofs.FairWriting.Upwards.{interface_below, step_above, super_under, under_below}
use Rattle.cjc_token_proof.specs.ClassOrder.Supers.Supers.{interfaces, superclasses}
use Rattle.cjc_joint_proof.specs.Imports.{AreImports, IsClassOf, IsImport}
use Rattle.cjc_joint_proof.specs.Imports as imports
use Rattle.cjc_joint_proof.specs.Worlds.{AreApart, IsOwn, before}
use Rattle.cjc_joint_proof.proofs.AboveLaws.{flat_at}
use Rattle.cjc_joint_proof.proofs.SoundLaws.{apart, listed}
use Rattle.cjc_joint_proof.proofs.WorldLaws.{own_is_found}
use Rattle.cjc_joint_theorem.specs.Members.{Member, files_of}
use Rattle.cjc_joint_theorem.specs.Ordered.{IsOfKind, TellsKinds}
use Rattle.cjc_joint_theorem.specs.Together.Homes.{joint_world}
use Rattle.cjc_joint_theorem.proofs.MembersLaws.Worlds.{files_at, member_at}
use Rattle.cjc_joint_whole.specs.Whole.{AreWholeWith, IsExport, IsWrittenFor, from_outside, of_member}
use Rattle.cjc_joint_whole.proofs.WholeLaws.Solid.{solid_at}

-- the flags of an exported class tell an abstract one as those of its file do
abstract_kept : (f : ℕ) (shareable : Bool) → is_abstract (without (without f acc_super) acc_shareable + (if shareable
    then acc_shareable else 0)) ≡ is_abstract f
abstract_kept f shareable = ap (nat_lt 0) (and_pow r 10 ∙ ap (λ b. b * 2 ^ 10) (by shareable) ∙ sym (and_pow f 10))
  where
    g : ℕ
    g = without f acc_super

    h : ℕ
    h = without g acc_shareable

    r : ℕ
    r = h + (if shareable then acc_shareable else 0)

    first : g ≡ f - f / 32 % 2 * 32
    first = ap (λ b. f - b) (and_pow f 5)

    second : h ≡ g - g / 2048 % 2 * 2048
    second = ap (λ b. g - b) (and_pow g 11)

    by : (b : Bool) → (h + (if b then acc_shareable else 0)) / 1024 % 2 ≡ f / 1024 % 2
    by true = omega (arith, first, second)
    by false = omega (arith, first, second)

-- A class of an export file that is written for a package of these files is one of its class files, with its kind and
-- with what stands above it.
pub record IsExported (files : Files) (e : ExportClass) : Type 0 where
  pub number : ℕ
  pub class : ClassTree
  pub file : slice_get files.classes number ≡ Some class
  pub same_name : class.name ≡ e.name
  pub kind : IsOfKind class e
  pub supers : e.supers ≡ superclasses (all_classes files) (declared number class)
  pub interfaces_are : e.interfaces ≡ interfaces (all_classes files) (declared number class)

pub exported : (files : Files) (t : ExportTree) → IsWrittenFor files t → (n : ℕ) (e : ExportClass)
    → slice_get t.classes n ≡ Some e → IsExported files e
exported files t written n e there =
    let x = written.exporter in
    let r = mapped_at (export_class x) (exported_classes x) n e (sym (ap (λ (u : ExportTree). slice_get u.classes n)
    written.is) ∙ there) in
    made x written.same_files r.0 r.2 (own_class x n r.0 r.1)
  where
    made : (x : Package) → x.files ≡ files → (d : Class) → export_class x d ≡ e → IsOwnClass x d → IsExported files e
    made x same d is own =
        let tree = own.tree in
        let c = declared own.number tree in
        record {
          number = own.number;
          class = tree;
          file = ap (λ (f : Files). slice_get f.classes own.number) (sym same) ∙ own.is_tree;
          same_name = ap (λ (v : Class). v.name) (sym own.is) ∙ ap (λ (y : ExportClass). y.name) is;
          kind = record {
            interface = ap (λ (v : Class). is_interface v.flags) (sym own.is)
                ∙ sym (interface_kept d.flags (is_shareable (world x) d))
                ∙ ap (λ (y : ExportClass). is_interface y.flags) is;
            abstract_one = ap (λ (v : Class). is_abstract v.flags) (sym own.is)
                ∙ sym (abstract_kept d.flags (is_shareable (world x) d))
                ∙ ap (λ (y : ExportClass). is_abstract y.flags) is;
          };
          supers = sym (ap (λ (y : ExportClass). y.supers) is) ∙ ap (superclasses (world x)) own.is
              ∙ ap (λ (f : Files). superclasses (all_classes f) c) same;
          interfaces_are = sym (ap (λ (y : ExportClass). y.interfaces) is) ∙ ap (interfaces (world x)) own.is
              ∙ ap (λ (f : Files). interfaces (all_classes f) c) same;
        }

module _ {K : _} (members : List Member) (is : AreWholeWith K members) where
  abbrev group : List Files
  group = files_of members

  abbrev w : List Class
  w = joint_world group

  are_apart : AreApart group
  are_apart = apart group is.sound

  own_of : (j k : ℕ) (m : Member) (t : ClassTree) → slice_get members j ≡ Some m
      → (let f = m.files in slice_get f.classes k ≡ Some t) → IsOwn group j k m.files t
  own_of j k m t at file = record { member = files_at members j m at; file = file }

  -- two class files of one name are one
  one_class : (i k j n : ℕ) (p m : Files) (c t : ClassTree) → IsOwn group i k p c → IsOwn group j n m t
      → c.name ≡ t.name → declared (before group i + k) c ≡ declared (before group j + n) t
  one_class i k j n p m c t own other same = one (sym (own_is_found group are_apart i k p c own)
      ∙ ap (class_named w) same ∙ own_is_found group are_apart j n m t other)
    where
      one : {a b : Class} → Some a ≡ Some b → a ≡ b
      one e = cc

  -- ---- of what kind classes are

  kind_told : (q : ℕ) (t : ExportTree) → IsExport members q t → (j : ℕ) (m : Files) → slice_get group j ≡ Some m
      → TellsKinds m t
  kind_told q t (of_member r o lt there written) j m at n k e c listed file same =
      let x = exported o.files t written n e listed in
      let y = x.kind in
      let own : IsOwn group j k m c = record { member = at; file = file } in
      let one = one_class j k r x.number m o.files c x.class own (own_of r x.number o x.class there x.file)
      (same ∙ sym x.same_name) in
      record {
        interface = ap (λ (v : Class). is_interface v.flags) one ∙ y.interface;
        abstract_one = ap (λ (v : Class). is_abstract v.flags) one ∙ y.abstract_one;
      }
  kind_told q t (from_outside r kept) j m at n k e c listed file same =
      let all = flat_at (λ (u : ExportTree). u.classes) (joint_exports group) r n t e kept listed in
      let out = is.outside in
      absurd (out.no_own j k all.0 m c e (record { member = at; file = file }) all.1 (sym same))

  pub kinds_told : (q j k : ℕ) (p m : Files) (t : ExportTree) → slice_get group q ≡ Some p
      → slice_get p.exports k ≡ Some t → slice_get group j ≡ Some m → TellsKinds m t
  kinds_told q j k p m t at file there =
      let one = member_at members q p at in
      kind_told q t (is.written q k one.0 t one.1 (ap (λ (f : Files). slice_get f.exports k) one.2 ∙ file)) j m there

  -- ---- what stands above them

  class_told : (j : ℕ) (m : Member) → slice_get members j ≡ Some m → (e : ExportClass) → IsExported m.files e
      → IsClassOf m.files e
  class_told j m at e x = record {
    number = x.number;
    class = x.class;
    file = x.file;
    name = x.same_name;
    above = λ y l. subst (λ n. Above v n y) x.same_name (⊎_elim
        (λ s. (let r = super_under v acyclic c y (subst (Lists y) x.supers s) in step_above v (let t = x.class in
        t.name) r.0 y c named (lists-front r.0 c.supers c.interfaces r.1) (under_below v r.0 y r.2)))
        (λ s. (let r = interface_below v acyclic c y (subst (Lists y) x.interfaces_are s) in step_above v (let t =
        x.class in t.name) r.0 y c named r.1 r.2))
        (lists-split y e.supers e.interfaces l));
  }
    where
      v : List Class
      v = all_classes m.files

      c : Class
      c = declared x.number x.class

      named : class_named v (let t = x.class in t.name) ≡ Some c
      named = let l = listed group is.sound j x.number m.files x.class (own_of j x.number m x.class at x.file)
          in l.name

      acyclic : IsAcyclic v
      acyclic = let s = solid_at members is j m at in let o = s.ordered in o.acyclic

  import_told : (q : ℕ) (t : ExportTree) → IsExport members q t → IsImport group q t
  import_told q t (of_member j m lt there written) = imports.of_package j m.files lt (files_at members j m there)
      (λ n e listed. class_told j m there e (exported m.files t written n e listed))
  import_told q t (from_outside n kept) = imports.of_outside n kept

  pub imports_told : AreImports group
  imports_told q k p t at file =
      let one = member_at members q p at in
      import_told q t (is.written q k one.0 t one.1 (ap (λ (f : Files). slice_get f.exports k) one.2 ∙ file))
