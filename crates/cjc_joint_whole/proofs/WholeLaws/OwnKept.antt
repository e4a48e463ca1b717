-- What the files of a package of a group keep by themselves, as files of one that breaks no rule: methods of interfaces
-- are public or protected and can be selected.
use Rattle.std.proofs.Common.{◌≡◌, ℕ, refl, sym, ap, ◌∙◌, Bool, true, false, List, [], Some}
use Rattle.std.specs.Prelude.{Option, ◌&&◌, ◌||◌, is_some, not, slice_get}
use Rattle.cjc_bytes.specs.AccessFlags.{is_abstract, is_interface, is_private, is_static}
use Rattle.cjc_bytes.specs.declared.settings.Settings.{Settings}
use Rattle.cjc_bytes.proofs.Bools.{or_left, or_right, true_not_false}
use Rattle.cjc_bytes.proofs.Gets.{mapped_at}
use Rattle.cjc_components.specs.Bytecode.declared.method_code.MethodCode.{MethodCode}
use Rattle.cjc_jvm_semantics.specs.Group.{is_exposed, is_open, is_package_visible}
use Rattle.cjc_jvm_semantics.specs.OnePackage.{is_constructor, is_initialiser}
use Rattle.cjc_shape_proof.proofs.WrittenLaws.FittingLaws.Rules as Rules
use Rattle.cjc_shape_proof.specs.WorldProof.Calls.Solid.{IsOwn, IsSolid}
use Rattle.cjc_shape_proof.specs.Written.Converted.{ExportsArePlain}
use Rattle.cjc_token_proof.specs.Subset.Checks.{check_breaks}
use Rattle.cjc_token_proof.specs.Subset.Flags.{is_unfit_method_kind}
use Rattle.cjc_token_proof.specs.Tables.Sound.{IsSound}
use Rattle.cjc_tokens.specs.Members.{is_virtual}
use Rattle.cjc_vtable.specs.Kept.{Keeps}
use Rattle.cjc_vtable.proofs.Filed.{IsFiled, filed, in_class_file, in_export_file}
use Rattle.cjc_world.specs.Classes.{Class, Member as WorldMember, all_classes, class_named, method_of_class}
use Rattle.cjc_world.specs.Classes.{method_of_export}
use Rattle.cjc_world.specs.ExportFile.Writable.{IsWritable}
use Rattle.cjc_world.specs.ExportFile.declared.tree.ExportTree.{ExportTree}
use Rattle.cjc_world.specs.Files.{Files}
use Rattle.cjc_world.specs.Lookup.{is_selectable}
use Rattle.cjc_joint_theorem.specs.Members.{Member}
use Rattle.cjc_joint_whole.specs.Whole.{AreWholeWith}
use Rattle.cjc_joint_whole.proofs.WholeLaws.HiddenStands.{shown_entry}
use Rattle.cjc_joint_whole.proofs.WholeLaws.Shown.{parts_open}
use Rattle.cjc_joint_whole.proofs.WholeLaws.ToldTested.{tested_at}

-- Files that break no rule of one package, over sound export files which don't contradict one another. Methods of
-- interfaces are not package-visible, and virtual ones of imported classes are public or protected.
pub record IsKeptBy (files : Files) : Type 0 where
  pub list : List ℕ
  pub codes : List MethodCode
  pub settings : Settings
  pub sound : IsSound list files
  pub checks : check_breaks list files codes settings ≡ []
  pub solid : IsSolid files
  pub keeps : Keeps (all_classes files)
  pub plain : ExportsArePlain files
  pub read : (n : ℕ) (t : ExportTree) → slice_get files.exports n ≡ Some t → IsWritable t
  pub faces : (x : List ℕ) (c : Class) (i : ℕ) (m : WorldMember) → class_named (all_classes files) x ≡ Some c
      → is_interface c.flags ≡ true → slice_get c.methods i ≡ Some m → is_initialiser m.name ≡ false
      → is_package_visible m.flags ≡ false
  pub exposed : (y : List ℕ) (d : Class) (i : ℕ) (m : WorldMember) → class_named (all_classes files) y ≡ Some d
      → d.is_imported ≡ true → is_interface d.flags ≡ false → slice_get d.methods i ≡ Some m → is_virtual m ≡ true
      → is_exposed m.flags ≡ true

-- ---- tests

-- a virtual method can be selected and has an ordinary name
virtual_parts : (m : WorldMember) → is_virtual m ≡ true → (is_selectable m.flags ≡ true)
    × (is_constructor m.name ≡ false) × (is_initialiser m.name ≡ false)
virtual_parts m e = by (is_selectable m.flags) (is_constructor m.name) (is_initialiser m.name) e
  where
    by : (a b c : Bool) → (a && not (b || c)) ≡ true → (a ≡ true) × (b ≡ false) × (c ≡ false)
    by true false false e = (refl, refl, refl)
    by true false true e = absurd cc
    by true true c e = absurd cc
    by false b c e = absurd cc

-- what can be selected and is not package-visible is public or protected
exposed_by : (flags : ℕ) → is_selectable flags ≡ true → is_package_visible flags ≡ false → is_exposed flags ≡ true
exposed_by flags e f = by (is_exposed flags) (is_private flags) (is_static flags) e f
  where
    by : (x p t : Bool) → (not p && not t) ≡ true → (not x && not p) ≡ false → x ≡ true
    by true p t e f = refl
    by false true t e f = absurd cc
    by false false t e f = absurd cc

selectable_by : (flags : ℕ) → is_private flags ≡ false → is_static flags ≡ false → is_selectable flags ≡ true
selectable_by flags e f = by (is_private flags) (is_static flags) e f
  where
    by : (a b : Bool) → a ≡ false → b ≡ false → (not a && not b) ≡ true
    by false false e f = refl
    by true b e f = absurd cc
    by false true e f = absurd cc

-- a method of an interface with code is its initialiser
no_code : (i s h : Bool) → i ≡ true → s ≡ false → (i && h && not s) ≡ false → h ≡ false
no_code true false false e f g = refl
no_code true false true e f g = absurd cc
no_code true true h e f g = absurd cc
no_code false s h e f g = absurd cc

-- an initialiser that is not static is unfit
static_one : (s t : Bool) → (s && not t) ≡ false → t ≡ false → s ≡ false
static_one false t e f = refl
static_one true false e f = absurd cc
static_one true true e f = absurd cc

none_coded : {A : Type 0} {x : A} {o : Option A} → o ≡ Some x → is_some o ≡ false → ⊥
none_coded e f = let no : true ≡ false = sym (ap is_some e) ∙ f in cc

-- ---- of a package of a group

module _ {K : _} (members : List Member) (is : AreWholeWith K members) (q : ℕ) (p : Member)
    (at : slice_get members q ≡ Some p) where
  exposed_here : (y : List ℕ) (d : Class) (i : ℕ) (m : WorldMember) → class_named (all_classes p.files) y ≡ Some d
      → d.is_imported ≡ true → is_interface d.flags ≡ false → slice_get d.methods i ≡ Some m → is_virtual m ≡ true
      → is_exposed m.flags ≡ true
  exposed_here y d i m named import ground there virtual = by d (filed p.files y d named) import ground there
    where
      by : (d : Class) → IsFiled p.files d → d.is_imported ≡ true → is_interface d.flags ≡ false → slice_get d.methods i
          ≡ Some m → is_exposed m.flags ≡ true
      by _ (in_class_file n t file) import ground there = absurd cc
      by _ (in_export_file n e file) import ground there =
          let x = mapped_at method_of_export e.methods i m there in
          let parts = virtual_parts (method_of_export x.0) (ap is_virtual x.2 ∙ virtual) in
          ap (λ (k : WorldMember). is_exposed k.flags) (sym x.2)
          ∙ exposed_by (let k = x.0 in k.flags) parts.0 (shown_entry members is q p at n e file ground i x.0 x.1 parts.0
          parts.1 parts.2)

  pub kept_at : IsKeptBy p.files
  kept_at =
      let one = is.each q p at in
      let read = (let whole = one.whole in whole.read) in
      let k = tested_at members is q p at in
      record {
        list = k.list;
        codes = k.codes;
        settings = k.settings;
        sound = k.sound;
        checks = k.checks;
        solid = k.solid;
        keeps = k.keeps;
        plain = one.plain;
        read = read.exports;
        faces = one.interfaces;
        exposed = exposed_here;
      }

-- ---- methods of interfaces

module _ (files : Files) (kept : IsKeptBy files) where
  -- each but an initialiser is public or protected, and can be selected
  pub interface_open : (x : List ℕ) (c : Class) (i : ℕ) (m : WorldMember) → class_named (all_classes files) x ≡ Some c
      → is_interface c.flags ≡ true → slice_get c.methods i ≡ Some m → is_initialiser m.name ≡ false
      → is_open m.flags ≡ true
  interface_open x c i m named it there start =
      let parts = by c (filed files x c named) it there in
      let may = selectable_by m.flags parts.0 parts.1 in
      parts_open m.flags may (exposed_by m.flags may (kept.faces x c i m named it there start))
    where
      by : (c : Class) → IsFiled files c → is_interface c.flags ≡ true → slice_get c.methods i ≡ Some m
          → (is_private m.flags ≡ false) × (is_static m.flags ≡ false)
      by _ (in_class_file n t file) it there =
          let y = mapped_at method_of_class t.methods i m there in
          let k = y.0 in
          let own : IsOwn files t k = record { number = n; place = i; is_class = file; is_method = y.1 } in
          let fit = Rules.fit_method kept.list files kept.codes kept.settings kept.checks n t file i k y.1 in
          let A = is_abstract k.flags && (is_constructor k.name || is_initialiser k.name) in
          let B = is_initialiser k.name && not (is_static k.flags) in
          let bare = no_code (is_interface t.flags) (is_initialiser k.name) (is_some k.code) it
          (ap (λ (v : WorldMember). is_initialiser v.name) y.2 ∙ start) (or_right (is_unfit_method_kind k.flags || A
          || B) (is_interface t.flags && is_some k.code && not (is_initialiser k.name)) fit) in
          let s = kept.solid in
          let off = on (is_abstract k.flags) refl (λ e. s.bound t k own e) (λ e. (let code = s.coded t k own e in
          none_coded code.1 bare)) in (
            ap (λ (v : WorldMember). is_private v.flags) (sym y.2) ∙ off.1,
            ap (λ (v : WorldMember). is_static v.flags) (sym y.2) ∙ off.0,
          )
        where
          on : {A : Type 0} (b : Bool) {a : Bool} → a ≡ b → (a ≡ true → A) → (a ≡ false → ⊥) → A
          on true e so not_so = so e
          on false e so not_so = absurd (not_so e)
      by _ (in_export_file n e file) it there =
          let y = mapped_at method_of_export e.methods i m there in
          let off = (let plain = kept.plain in plain.interfaces) n e file it i y.0 y.1 in (
            ap (λ (v : WorldMember). is_private v.flags) (sym y.2) ∙ off.0,
            ap (λ (v : WorldMember). is_static v.flags) (sym y.2) ∙ off.1,
          )

  -- an initialiser is static
  pub no_initialiser : (x : List ℕ) (c : Class) (i : ℕ) (m : WorldMember) → class_named (all_classes files) x ≡ Some c
      → slice_get c.methods i ≡ Some m → is_static m.flags ≡ false → is_initialiser m.name ≡ false
  no_initialiser x c i m named there ground = by c (filed files x c named) there
    where
      by : (c : Class) → IsFiled files c → slice_get c.methods i ≡ Some m → is_initialiser m.name ≡ false
      by _ (in_class_file n t file) there =
          let y = mapped_at method_of_class t.methods i m there in
          let k = y.0 in
          let fit = Rules.fit_method kept.list files kept.codes kept.settings kept.checks n t file i k y.1 in
          let A = is_abstract k.flags && (is_constructor k.name || is_initialiser k.name) in
          let B = is_initialiser k.name && not (is_static k.flags) in
          let C = is_interface t.flags && is_some k.code && not (is_initialiser k.name) in
          ap (λ (v : WorldMember). is_initialiser v.name) (sym y.2)
          ∙ static_one (is_initialiser k.name) (is_static k.flags) (or_right (is_unfit_method_kind k.flags || A) B
          (or_left (is_unfit_method_kind k.flags || A || B) C fit)) (ap (λ (v : WorldMember). is_static v.flags) y.2
          ∙ ground)
      by _ (in_export_file n e file) there =
          let y = mapped_at method_of_export e.methods i m there in
          on (is_initialiser m.name) refl (λ s. (let plain = kept.plain in plain.initialisers) n e file i y.0 y.1
          (ap (λ (v : WorldMember). is_initialiser v.name) y.2 ∙ s)) (λ s. ap (λ (v : WorldMember). is_static v.flags)
          y.2 ∙ ground)
        where
          on : (b : Bool) {s : Bool} → is_initialiser m.name ≡ b → (is_initialiser m.name ≡ true → s ≡ true)
              → (is_initialiser m.name ≡ true → s ≡ false) → is_initialiser m.name ≡ false
          on false e so not_so = e
          on true {s} e so not_so = absurd (true_not_false s (so e) (not_so e))
