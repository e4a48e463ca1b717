-- The classes of an export file can stand in it.
use Rattle.std.proofs.Common.{◌≡◌, ℕ, ◌+◌, ◌<◌, ◌≤◌, ◌^◌, refl, sym, ap, subst, ◌∙◌, Bool, true, false, List, [], ◌∷◌}
use Rattle.std.proofs.Common.{◌++◌, length, take, arith, Some}
use Rattle.std.specs.Prelude.{slice_get, if◌then◌else◌}
use Rattle.std.proofs.lemmas.List.{length-map}
use Rattle.std.proofs.lemmas.Option.{slice_get_within}
use Rattle.cjc_world.specs.ClassFile.declared.tree.FieldTree.{FieldTree}
use Rattle.cjc_world.specs.ExportFile.declared.tree.ExportClass.{ExportClass}
use Rattle.cjc_world.proofs.ExportFileRooted.{root_same}
use Rattle.cjc_world.specs.ExportFile.ExportFile.{class_token, new_name}
use Rattle.cjc_world.specs.ExportFile.Writable.{ClassFits, EachAfter, FieldFits, IsWritable}
use Rattle.cjc_world.specs.Classes.{Class, field_of_class}
use Rattle.cjc_world.specs.Supertypes.{supertypes}
use Rattle.cjc_components.specs.LowerClassOrder.Supers.Supers.{names_upwards, superclasses}
use Rattle.cjc_components.specs.LowerTokens.Members.{is_exposed}
use Rattle.cjc_components.specs.Class.{fields_in, fields_of, is_shareable}
use Rattle.cjc_components.specs.Package.{Package, world}
use Rattle.cjc_components.specs.ExportFile.{export_class, export_of, field_entry, fields_from}
use Rattle.cjc_exported.specs.Exportable.{ClassStands, ClassesStand, IsExportable}
use Rattle.cjc_exported.proofs.ExportLaws.Each.{each_at}
use Rattle.cjc_exported.proofs.ExportLaws.Fields.{fields_fit}
use Rattle.cjc_exported.proofs.ExportLaws.Flags.{flags_fit}
use Rattle.cjc_exported.proofs.ExportLaws.Names.{exported_one, own_name, own_token}
use Rattle.cjc_exported.proofs.ExportLaws.Own.{IsOwn, own_class}
use Rattle.cjc_exported.proofs.ExportLaws.Supers.{few_supers}
use Rattle.cjc_exported.proofs.ExportLaws.Texts.{interface_texts, name_text, super_texts}

module _ (p : Package) (c : Class) where
  fewer : (i : ℕ) (fs : List FieldTree) → length (fields_from p c i fs) ≤ length fs
  fewer i [] = omega arith
  fewer i (f ∷ fs) = by (is_exposed f.flags) (fewer (i + 1) fs)
    where
      by : (b : Bool) → length (fields_from p c (i + 1) fs) ≤ length fs
          → length ((if b then field_entry p c i f ∷ [] else []) ++ fields_from p c (i + 1) fs) ≤ length (f ∷ fs)
      by true le = omega (arith, le)
      by false le = omega (arith, le)

module _ (p : Package) (h : IsExportable p) (stands : ClassesStand p) (few : (let t = export_of p
    in length t.classes < 256)) (places : (k : ℕ) (e : ExportClass) → (let t = export_of p in slice_get t.classes k
    ≡ Some e) → e.token ≡ k) where
  -- the fields of the class file
  own_fields : (c : Class) (own : IsOwn p c) → fields_of p.files c ≡ (let t = own.tree in t.fields)
  own_fields c own = let files = p.files in ap (λ (d : Class). fields_in (slice_get files.classes d.number)) own.is
      ∙ ap fields_in own.is_tree

  class_fits : (k : ℕ) (c : Class) (e : ExportClass) → (let t = export_of p in slice_get t.classes k ≡ Some e)
      → export_class p c ≡ e → IsOwn p c → ClassStands p c
      → ClassFits (let t = export_of p in take k t.classes) (export_class p c)
  class_fits k c e at is own s =
      let t = export_of p in
      let tree = own.tree in
      let read = h.classes own.number own.tree own.is_tree in
      let within = slice_get_within t.classes k e at in
      let token : (let x = export_class p c in x.token) ≡ k = ap (λ (x : ExportClass). x.token) is ∙ places k e at in
      let flags = subst (λ (d : Class). d.flags < 2 ^ 16) (sym own.is) read.flags in
      let shown = own_fields c own in
      let long : length c.fields ≡ length tree.fields = ap (λ (d : Class). length d.fields) own.is
      ∙ length-map tree.fields field_of_class in
      let fewer_fields = subst (λ (fs : List FieldTree). length (fields_from p c 0 fs) ≤ length tree.fields) (sym shown)
      (fewer p c 0 tree.fields) in
      let fields_few = s.fields in
      let supers = few_supers t k (export_class p c) (names_upwards (supertypes (world p) c.supers)) (at
      ∙ ap (λ (x : ExportClass). Some x) (sym is)) refl in
      let entries = h.entries in
      record {
        token = (let lt : (let x = export_class p c in x.token) < 2 ^ 8 = omega (arith, token, within, few) in lt);
        own_token = subst (λ (x : ExportClass). class_token (let t = export_of p in take k t.classes) x.token
            ≡ Some x.token) (sym is) (own_token p h places k e at);
        flags = flags_fit c.flags (is_shareable (world p) c) flags;
        name = name_text p h c own;
        own_name = subst (λ (x : ExportClass). new_name (let t = export_of p in take k t.classes) x.name ≡ Some x.name)
            (sym is) (own_name p h places k e at);
        counts = record {
          listed = (let lt : length (superclasses (world p) c) < 2 ^ 16 = omega (arith, supers, entries)
              in lt);
          interfaces = s.interfaces;
          fields = (let lt : length (fields_from p c 0 (fields_of p.files c)) < 2 ^
              16 = omega (arith, fewer_fields, long, fields_few) in lt);
          methods = s.methods;
        };
        listed = super_texts p h c own;
        supers = sym (root_same c.name (superclasses (world p) c) s.root);
        interfaces = interface_texts p h c own;
        fields = subst (λ (fs : List FieldTree). EachAfter FieldFits [] (fields_from p c 0 fs)) (sym shown)
            (fields_fit p h c own);
        count = s.count;
        methods = s.each;
      }

  pub export_fits : IsWritable (export_of p)
  export_fits = let t = export_of p in
      let list = h.list in
      record {
        name = list.name;
        aid = list.aid;
        major = list.major;
        minor = list.minor;
        count = (let lt : length t.classes < 2 ^ 8 = omega (arith, few) in lt);
        classes = each_at ClassFits [] t.classes (λ k e at. (let (c, cat, is) = exported_one p k e at in
            subst (λ (x : ExportClass). ClassFits (take k t.classes) x) is (class_fits k c e at is (own_class p k c cat)
            (stands k c cat))));
        constants = h.entries;
      }
