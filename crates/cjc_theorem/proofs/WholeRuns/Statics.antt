-- The static fields that code names: a cell of the package, or a constant, whichever of its methods are in int mode.
use Rattle.std.proofs.Common.{◌≡◌, ℕ, zero, suc, ◌^◌, refl, sym, ap, subst, ◌∙◌, arith, Bool, true, false, List}
use Rattle.std.proofs.Common.{[], ◌∷◌, ◌<◌, length}
use Rattle.std.specs.Prelude.{not, ◌&&◌, ◌||◌, Option, Some, None, option_and_then, option_map, is_some, map, slice_get}
use Rattle.std.specs.Prelude.{if◌then◌else◌, ℤ, codes}
use Rattle.std.specs.Str.{bytes_eq}
use Rattle.std.proofs.lemmas.Bool.{lt-ltb}
use Rattle.cjc_bytes.specs.AccessFlags.{is_static}
use Rattle.cjc_bytes.specs.Descriptor.{base, base_kind, field, plain}
use Rattle.cjc_bytes.specs.Spots.{desc_of}
use Rattle.cjc_bytes.specs.declared.fault.MemberId.{MemberId}
use Rattle.cjc_bytes.specs.declared.descriptor.Kind.{Kind}
use Rattle.cjc_bytes.specs.declared.descriptor.Kind.TheVariants as kinds
use Rattle.cjc_bytes.specs.declared.settings.Settings.{Settings}
use Rattle.cjc_bytes.proofs.DescriptorTypes.{desc_read}
use Rattle.cjc_bytes.proofs.Lists.{bytes_true, map_append}
use Rattle.cjc_bytes.proofs.Bools.{both_back, or_right, bool_middle}
use Rattle.cjc_jvm_semantics.specs.Linked.{Instance, Method, Static}
use Rattle.cjc_jvm_semantics.specs.OnePackage.{cells, cell_of, cells_in, constant_at, constant_in, exported_constant}
use Rattle.cjc_jvm_semantics.specs.OnePackage.{field_by, field_hit, field_named, is_cell, of_class}
use Rattle.cjc_shape_proof.specs.WorldProof.Calls.Solid.{IsSolid}
use Rattle.cjc_token_proof.proofs.WorldProofOwn.{IsFieldAt, field_at, field_hit_is, mapped_at}
use Rattle.cjc_world.specs.ClassFile.declared.tree.ClassTree.{ClassTree}
use Rattle.cjc_world.specs.ClassFile.declared.tree.FieldTree.{FieldTree}
use Rattle.cjc_components.specs.Bytecode.declared.insn.JOp.TheVariants as jop
use Rattle.cjc_components.specs.Bytecode.declared.method_code.MethodCode.{MethodCode}
use Rattle.cjc_world.specs.ExportFile.declared.tree.ExportClass.{ExportClass}
use Rattle.cjc_world.specs.ExportFile.declared.tree.ExportField.{ExportField}
use Rattle.cjc_world.specs.ExportFile.Members.{is_constant_type, may_be_constant}
use Rattle.cjc_world.specs.ExportFile.Writable.{ClassFits, FieldFits, ValueFits}
use Rattle.cjc_shape_proof.proofs.FindsLaws.Descs.{read_of}
use Rattle.cjc_shape_proof.proofs.FindsLaws.Fields.{lists_has, tested, tested_field, word_field}
use Rattle.cjc_shape_proof.specs.Finds.{IsStaticFieldFound, IsUsable, finds_cell, finds_constant}
use Rattle.cjc_narrow_proof.specs.Laws.Unbroken.{IsInsnOf, IsUnbroken, KeepsNames}
use Rattle.cjc_narrow_proof.proofs.LawsLaws.Instructions.{kept_names, op_fit, op_there, static_there}
use Rattle.cjc_narrow_proof.specs.Runs.Names.{IsNamed, a_constant, a_static}
use Rattle.cjc_narrow_proof.specs.Runs.Tables.{Tables}
use Rattle.cjc_components.specs.Range.Span.{Holds, full}
use Rattle.cjc_ncode.proofs.BytecodeEntries.{fit32}
use Rattle.cjc_shape_proof.specs.WorldProof.Files.{AreReadFiles}
use Rattle.cjc_token_proof.specs.Subset.Checks.{is_imported_variable, names_variable}
use Rattle.cjc_token_proof.specs.Subset.Members.{imported_field, imports, is_declared_constant, is_imported_constant}
use Rattle.cjc_token_proof.specs.Subset.Members.{declared_field}
use Rattle.cjc_token_proof.specs.Subset.Members as subset
use Rattle.cjc_vtable.proofs.SubsetFits.{field_fits}
use Rattle.cjc_token_proof.specs.Subset.Names.{is_constant_found, is_hidden, is_other_kind, is_unfit_field, names_unfit}
use Rattle.cjc_token_proof.specs.Types.declared.cell.Cell.{Cell}
use Rattle.cjc_token_proof.specs.Types.declared.cell.Cell.TheVariants.{Number}
use Rattle.cjc_narrow_proof.proofs.SelectedLaws.IntFree.{op_free}
use Rattle.cjc_token_proof.specs.Subset.Ints.{works_on_int}
use Rattle.cjc_token_proof.specs.Subset.Types.{is_int_desc, is_unsupported_desc, is_unsupported_name, names_unsupported}
use Rattle.cjc_token_proof.specs.Types.Types.{no_parts, parts, parts_or_none, result_of}
use Rattle.cjc_world.specs.Upwards.{Has, after, foremost}
use Rattle.cjc_world.proofs.UpwardLaws.Lines.{field_found_above, has-back, has-front}
use Rattle.cjc_vtable.proofs.Filed.{IsFiled, filed, get-has, has-get, in_class_file, in_export_file, of-imports}
use Rattle.cjc_vtable.proofs.Read.{each-after}
use Rattle.cjc_theorem.proofs.WholeRuns.Objects.{own_field_usable}
use Rattle.cjc_world.specs.declared.found.Found.{Found}
use Rattle.cjc_world.specs.declared.image.StaticImage.{StaticImage}
use Rattle.cjc_world.specs.Classes.{Class, Member, all_classes, class_named, declared, field_of_class, field_of_export}
use Rattle.cjc_world.specs.Classes.{imported}
use Rattle.cjc_world.specs.Files.{Files}
use Rattle.cjc_world.specs.Lookup.{find_field, member_at}
use Rattle.cjc_shape_proof.proofs.JudgeAreNumbers.{imports_flat}

-- ---- the types of constants

letter_number : (b : ℕ) (kind : Kind) → base_kind b ≡ Some kind → result_of (plain kind) ≡ Number ∷ []
    → result_of (parts (b ∷ [])).result ≡ Number ∷ []
unfolding parts
letter_number b kind e r =
    ap (λ c. result_of (let p = (if c then parts_or_none (desc_of (b ∷ [])) else no_parts) in p.result))
    (lt-ltb 1 (2 ^ 32) (omega arith))
    ∙ ap (λ o. result_of (let p = parts_or_none o in p.result)) (desc_read (record {
      is_method = false;
      params = [];
      result = plain kind;
    }) (b ∷ []) (field (base e))) ∙ r

constant_number : (desc : List ℕ) → is_constant_type desc ≡ true → result_of (parts desc).result ≡ Number ∷ []
constant_number desc e = by (bytes_eq desc (codes "Z")) (bytes_eq desc (codes "B")) (bytes_eq desc (codes "S"))
    (bytes_eq desc (codes "I")) refl refl refl refl e
  where
    at : (b : ℕ) (kind : Kind) → base_kind b ≡ Some kind → result_of (plain kind) ≡ Number ∷ [] → bytes_eq desc (b ∷ [])
        ≡ true → result_of (parts desc).result ≡ Number ∷ []
    at b kind k r same = ap (λ x. result_of (parts x).result) (bytes_true desc (b ∷ []) same) ∙ letter_number b kind k r

    by : (z b s i : Bool) → bytes_eq desc (codes "Z") ≡ z → bytes_eq desc (codes "B") ≡ b → bytes_eq desc (codes "S")
        ≡ s → bytes_eq desc (codes "I") ≡ i → (z || b || s || i) ≡ true → result_of (parts desc).result ≡ Number ∷ []
    by true b s i f g h k e = at 90 kinds.Bool refl refl f
    by false true s i f g h k e = at 66 kinds.Byte refl refl g
    by false false true i f g h k e = at 83 kinds.Short refl refl h
    by false false false true f g h k e = at 73 kinds.Int refl refl k
    by false false false false f g h k e = absurd cc

-- the type of a constant, where a package may use it
constant_usable : (flags : ℕ) (desc : List ℕ) → may_be_constant flags desc ≡ true → is_unsupported_desc desc ≡ false
    → IsUsable false desc
constant_usable flags desc e supported = by (bytes_eq desc (codes "Z")) (bytes_eq desc (codes "B"))
    (bytes_eq desc (codes "S")) (bytes_eq desc (codes "I")) refl refl refl refl (both_back _ (is_constant_type desc) e)
  where
    at : (b : ℕ) (kind : Kind) → base_kind b ≡ Some kind → bytes_eq desc (b ∷ []) ≡ true → IsUsable false desc
    at b kind k same = record {
      types = record { is_method = false; params = []; result = plain kind };
      short = subst (λ v. length v < 2 ^ 32) (sym (bytes_true desc (b ∷ []) same)) (omega arith);
      is_desc = ap desc_of (bytes_true desc (b ∷ []) same) ∙ desc_read (record {
        is_method = false;
        params = [];
        result = plain kind;
      }) (b ∷ []) (field (base k));
      of_method = refl;
      supported = supported;
    }

    by : (z b s i : Bool) → bytes_eq desc (codes "Z") ≡ z → bytes_eq desc (codes "B") ≡ b → bytes_eq desc (codes "S")
        ≡ s → bytes_eq desc (codes "I") ≡ i → (z || b || s || i) ≡ true → IsUsable false desc
    by true b s i f g h k e = at 90 kinds.Bool refl f
    by false true s i f g h k e = at 66 kinds.Byte refl g
    by false false true i f g h k e = at 83 kinds.Short refl h
    by false false false true f g h k e = at 73 kinds.Int refl k
    by false false false false f g h k e = absurd cc

constant_typed : (flags : ℕ) (desc : List ℕ) → may_be_constant flags desc ≡ true → result_of (parts desc).result
    ≡ Number ∷ []
constant_typed flags desc e = constant_number desc (both_back _ (is_constant_type desc) e)

-- ---- what the tests say

pub on_class : (flags : ℕ) → is_other_kind true flags ≡ false → is_static flags ≡ true
on_class flags e = by (is_static flags) e
  where
    by : (b : Bool) → (if b then not true else true) ≡ false → b ≡ true
    by true e = refl
    by false e = absurd cc

-- ---- cells

cell_told : (image : StaticImage) (class : List ℕ) (fs : List FieldTree) (k : ℕ) (x : FieldTree)
    → slice_get fs k ≡ Some x → is_cell x ≡ true → Has (record { class = class; name = x.name; desc = x.desc })
    (map (λ cell. cell.field) (cells_in image class fs))
cell_told image class [] k x e is = absurd cc
cell_told image class (f ∷ fs) zero x e is = let same : f ≡ x = cc
    in subst (λ v. Has (record { class = class; name = x.name; desc = x.desc }) (map (λ cell. cell.field)
    (cells_in image class (v ∷ fs)))) (sym same) (by (is_cell x) is)
  where
    by : (b : Bool) → b ≡ true → Has (record { class = class; name = x.name; desc = x.desc }) (map (λ cell. cell.field)
        (if b then cell_of image (record { class = class; name = x.name; desc = x.desc }) ∷ cells_in image class fs
        else cells_in image class fs))
    by true e = foremost
    by false e = absurd cc
cell_told image class (f ∷ fs) (suc k) x e is = by (is_cell f) (cell_told image class fs k x e is)
  where
    by : (b : Bool) → Has (record { class = class; name = x.name; desc = x.desc }) (map (λ cell. cell.field)
        (cells_in image class fs)) → Has (record { class = class; name = x.name; desc = x.desc })
        (map (λ cell. cell.field) (if b then cell_of image (record { class = class; name = f.name; desc = f.desc })
        ∷ cells_in image class fs else cells_in image class fs))
    by true h = after h
    by false h = h

cells_told : (image : StaticImage) (cs : List ClassTree) (n : ℕ) (t : ClassTree) (id : MemberId)
    → slice_get cs n ≡ Some t → Has id (map (λ cell. cell.field) (cells_in image t.name t.fields))
    → Has id (map (λ cell. cell.field) (cells image cs))
cells_told image [] n t id e h = absurd cc
cells_told image (c ∷ cs) zero t id e h =
    let same : c ≡ t = cc in
    subst (Has id) (sym (map_append (λ cell. cell.field) (cells_in image c.name c.fields) (cells image cs)))
    (has-front id (map (λ cell. cell.field) (cells_in image c.name c.fields)) (map (λ cell. cell.field)
    (cells image cs)) (subst (λ (v : ClassTree). Has id (map (λ cell. cell.field) (cells_in image v.name v.fields)))
    (sym same) h))
cells_told image (c ∷ cs) (suc k) t id e h =
    subst (Has id) (sym (map_append (λ cell. cell.field) (cells_in image c.name c.fields) (cells image cs)))
    (has-back id (map (λ cell. cell.field) (cells_in image c.name c.fields)) (map (λ cell. cell.field) (cells image cs))
    (cells_told image cs k t id e h))

-- ---- of a package

module _ (list : List ℕ) (files : Files) (codes : List MethodCode) (settings : Settings) (is : KeepsNames list files
    codes settings) (read : AreReadFiles files) (solid : IsSolid files) (image : StaticImage) where
  abbrev w : List Class
  w = all_classes files

  -- What is known of a static field that code names.
  record IsKnown (put : Bool) (id : MemberId) : Type 0 where
    place : Found
    owner : Class
    found : find_field w id.class id.name id.desc ≡ Some place
    named : class_named w owner.name ≡ Some owner
    at : IsFieldAt id.name id.desc owner place
    static : is_static (let p = at in let m = p.member in m.flags) ≡ true
    read_only : (put && is_constant_found files (Some (member_at owner (let p = at in p.place)))) ≡ false
    imported_is : is_imported_variable files (Some (member_at owner (let p = at in p.place))) ≡ false
    supported : is_unsupported_desc id.desc ≡ false

  known_static : (class : ClassTree) (put : Bool) (id : MemberId) → IsInsnOf files codes class (jop.Static put id)
      → IsKnown put id
  unfolding names_unfit names_unsupported names_variable
  known_static class put id at =
      let ok = op_there list files codes settings is class (jop.Static put id) at in
      let there = static_there files class put id ok.0 ok.1 in
      let f = there.1 in
      let found = there.3 in
      let above = field_found_above w solid.ordered id.class id.name id.desc f found in
      let d = above.0 in
      let p = field_at id.name id.desc d f above.3 in
      let m = p.member in
      let hit : subset.hit w true (find_field w id.class id.name id.desc) ≡ Some (tested d m) =
      ap (subset.hit w true) found ∙ ap (λ g. subset.hit w true (Some g)) p.is
      ∙ tested_field w d p.place m (solid.numbered d.name d above.2) p.is_member in
      let all : (is_hidden w class id (tested d m) || is_other_kind true m.flags
      || (true && put && is_constant_found files (find_field w id.class id.name id.desc))) ≡ false =
      field_fits files class true put id (find_field w id.class id.name id.desc) (tested d m)
      (ap (λ o. is_unfit_field files class true put id (find_field w id.class id.name id.desc) o) (sym hit) ∙ ok.2)
      in
      let constant : (put && is_constant_found files (find_field w id.class id.name id.desc)) ≡ false =
      or_right (is_hidden w class id (tested d m) || is_other_kind true m.flags) (put
      && is_constant_found files (find_field w id.class id.name id.desc)) all in
      record {
        place = f;
        owner = d;
        found = found;
        named = above.2;
        at = p;
        static = on_class m.flags (bool_middle (is_hidden w class id (tested d m)) (is_other_kind true m.flags) (put
            && is_constant_found files (find_field w id.class id.name id.desc)) all);
        read_only = ap (λ g. put && is_constant_found files (Some g)) (sym p.is)
            ∙ ap (λ o. put && is_constant_found files o) (sym found) ∙ constant;
        imported_is = ap (λ g. is_imported_variable files (Some g)) (sym p.is)
            ∙ ap (is_imported_variable files) (sym found)
            ∙ (op_fit list files codes settings is class (jop.Static put id) at).1;
        supported = or_right (is_unsupported_name id.class) (is_unsupported_desc id.desc)
            (op_fit list files codes settings is class (jop.Static put id) at).0;
      }

  named_is : (put : Bool) (id : MemberId) (k : IsKnown put id) → (o : Option ℤ)
      → constant_at files (member_at k.owner (let p = k.at in p.place)) ≡ o
      → field_named files w id ≡ Some (field_by o id (record {
        owner = k.owner;
        flags = (let p = k.at in let m = p.member in m.flags);
      }))
  named_is put id k o constant =
      let d = k.owner in
      let p = k.at in
      let m = p.member in
      ap (option_and_then (λ f. option_map (field_by (constant_at files f) id) (field_hit w f))) k.found
      ∙ ap (λ f. option_map (field_by (constant_at files f) id) (field_hit w f)) p.is
      ∙ ap (option_map (field_by (constant_at files (member_at d p.place)) id)) (field_hit_is w d p.place m
      (solid.numbered d.name d k.named) p.is_member)
      ∙ ap (λ o. Some (field_by o id (record { owner = d; flags = m.flags }))) constant

  -- a constant, which putstatic does not name
  constant_is : (put : Bool) (id : MemberId) (k : IsKnown put id) (z : ℤ)
      → constant_at files (member_at k.owner (let p = k.at in p.place)) ≡ Some z
      → is_constant_found files (Some (member_at k.owner (let p = k.at in p.place))) ≡ true
      → IsUsable false id.desc → result_of (parts id.desc).result ≡ Number ∷ [] → Holds full z
      → IsStaticFieldFound files image put id
  constant_is false id k z constant is_so usable number held =
      finds_constant z refl usable number held (named_is false id k (Some z) constant)
  constant_is true id k z constant is_so usable number held = (let no : true ≡ false = sym is_so ∙ k.read_only
      in absurd cc)

  -- any other is a cell
  cell_is : (put : Bool) (id : MemberId) (k : IsKnown put id) (n : ℕ) (t : ClassTree) (x : FieldTree)
      → slice_get files.classes n ≡ Some t → slice_get t.fields (let p = k.at in p.place) ≡ Some x
      → k.owner ≡ declared n t → (let p = k.at in p.member) ≡ field_of_class x
      → constant_at files (member_at k.owner (let p = k.at in p.place)) ≡ None → (may_be_constant x.flags x.desc
      && is_some x.constant) ≡ false
      → IsStaticFieldFound files image put id
  cell_is put id k n t x is_class is_field owner member constant open_one =
      let d = k.owner in
      let p = k.at in
      let q = p.member in
      let static : is_static x.flags ≡ true = sym (ap (λ (v : Member). is_static v.flags) member) ∙ k.static in
      let name : x.name ≡ id.name = sym (ap (λ (v : Member). v.name) member) ∙ p.has_name in
      let desc : x.desc ≡ id.desc = sym (ap (λ (v : Member). v.desc) member) ∙ p.has_desc in
      let usable = own_field_usable list files codes settings is.checks read n p.place t x is_class is_field in
      let cell : is_cell x ≡ true = ap (λ b. b && not (may_be_constant x.flags x.desc && is_some x.constant)) static
      ∙ ap not open_one in
      let told = cells_told image files.classes n t (record { class = t.name; name = x.name; desc = x.desc }) is_class
      (cell_told image t.name t.fields p.place x is_field cell) in
      let same : record { class = t.name; name = x.name; desc = x.desc } ≡ of_class d.name id =
      ap (λ y. record { class = t.name; name = y; desc = x.desc }) name
      ∙ ap (λ y. record { class = t.name; name = id.name; desc = y }) desc
      ∙ ap (λ (v : Class). record { class = v.name; name = id.name; desc = id.desc }) (sym owner) in
      finds_cell (of_class d.name id) (subst (IsUsable false) desc usable) (named_is put id k None constant
      ∙ ap (λ b. Some (if b then Static (of_class d.name id) else Instance (of_class d.name id))) k.static)
      (lists_has (of_class d.name id) (map (λ cell. cell.field) (cells image files.classes))
      (subst (λ g. Has g (map (λ cell. cell.field) (cells image files.classes))) same told))

  usable_by : (put : Bool) (id : MemberId) → IsKnown put id → (flags : ℕ) (desc : List ℕ) → desc ≡ id.desc
      → may_be_constant flags desc ≡ true → IsUsable false id.desc
  usable_by put id k flags desc is e = subst (IsUsable false) is (constant_usable flags desc e
      (ap is_unsupported_desc is ∙ k.supported))

  of_own : (put : Bool) (id : MemberId) (k : IsKnown put id) (n : ℕ) (t : ClassTree) → slice_get files.classes n
      ≡ Some t → k.owner ≡ declared n t
      → IsStaticFieldFound files image put id
  unfolding subset.is_constant
  of_own put id k n t is_class owner = by (may_be_constant (let y = x0.0 in y.flags) (let y = x0.0 in y.desc))
      (let y = x0.0 in y.constant) refl refl at_is tested_is
    where
      pl : ℕ
      pl = let p = k.at in p.place

      x0 : (y : FieldTree) × (slice_get t.fields pl ≡ Some y) × ((let p = k.at in p.member) ≡ field_of_class y)
      x0 = let p = k.at in mapped_at field_of_class t.fields p.place p.member
          (ap (λ (v : Class). slice_get v.fields p.place) (sym owner) ∙ p.is_member)

      at_is : constant_at files (member_at k.owner pl) ≡ (let y = x0.0 in if may_be_constant y.flags y.desc
          then y.constant else None)
      at_is = ap (λ v. constant_at files (member_at v pl)) owner ∙ ap (option_and_then (constant_in pl)) is_class
          ∙ ap (option_and_then (λ (f : FieldTree). if may_be_constant f.flags f.desc then f.constant else None)) x0.1

      tested_is : subset.is_constant files (member_at k.owner pl) ≡ (let y = x0.0 in may_be_constant y.flags y.desc
          && is_some y.constant)
      tested_is = ap (λ v. subset.is_constant files (member_at v pl)) owner
          ∙ ap (λ o. is_declared_constant (declared_field o pl)) is_class ∙ ap is_declared_constant x0.1

      by : (b : Bool) (o : Option ℤ) → (let y = x0.0 in may_be_constant y.flags y.desc) ≡ b
          → (let y = x0.0 in y.constant) ≡ o → constant_at files (member_at k.owner pl) ≡ (if b then o else None)
          → subset.is_constant files (member_at k.owner pl) ≡ (b && is_some o)
          → IsStaticFieldFound files image put id
      by true (Some z) f g at is_so =
          let y = x0.0 in
          let desc : y.desc ≡ id.desc = sym (ap (λ (v : Member). v.desc) x0.2) ∙ (let p = k.at in p.has_desc) in
          constant_is put id k z at is_so (usable_by put id k y.flags y.desc desc f)
          (ap (λ v. result_of (parts v).result) (sym desc) ∙ constant_typed y.flags y.desc f) ((let r = read_of files read n t is_class in r.constants) pl y z x0.1
          g)
      by true None f g at is_so = cell_is put id k n t x0.0 is_class x0.1 owner x0.2 at (ap (λ b. b
          && is_some (let y = x0.0 in y.constant)) f ∙ ap is_some g)
      by false o f g at is_so = cell_is put id k n t x0.0 is_class x0.1 owner x0.2 at (ap (λ b. b
          && is_some (let y = x0.0 in y.constant)) f)

  of_export : (put : Bool) (id : MemberId) (k : IsKnown put id) (n : ℕ) (t : ExportClass)
      → slice_get (imports files.exports) n ≡ Some t → k.owner ≡ imported n t
      → IsStaticFieldFound files image put id
  unfolding subset.is_constant
  of_export put id k n t is_class owner = by (may_be_constant (let y = x0.0 in y.flags) (let y = x0.0 in y.desc))
      (let y = x0.0 in y.constant) refl refl
    where
      pl : ℕ
      pl = let p = k.at in p.place

      x0 : (y : ExportField) × (slice_get t.fields pl ≡ Some y) × ((let p = k.at in p.member) ≡ field_of_export y)
      x0 = let p = k.at in mapped_at field_of_export t.fields p.place p.member
          (ap (λ (v : Class). slice_get v.fields p.place) (sym owner) ∙ p.is_member)

      tested_at : subset.is_constant files (member_at k.owner pl) ≡ (let y = x0.0 in may_be_constant y.flags y.desc
          && is_some y.constant)
      tested_at = ap (λ v. subset.is_constant files (member_at v pl)) owner
          ∙ ap (λ o. is_imported_constant (imported_field o pl)) is_class ∙ ap is_imported_constant x0.1

      at : constant_at files (member_at k.owner pl) ≡ (let y = x0.0 in if may_be_constant y.flags y.desc
          then y.constant else None)
      at = ap (λ v. constant_at files (member_at v pl)) owner
          ∙ ap (λ cs. option_and_then (exported_constant pl) (slice_get cs n)) (sym (imports_flat files.exports))
          ∙ ap (option_and_then (exported_constant pl)) is_class
          ∙ ap (option_and_then (λ (f : ExportField). if may_be_constant f.flags f.desc then f.constant else None))
          x0.1

      -- 310
      constant : (let y = x0.0 in may_be_constant y.flags y.desc && is_some y.constant) ≡ true
      constant = sym tested_at ∙ not_so (subset.is_constant files (member_at k.owner pl))
          (ap (λ (v : Class). v.is_imported && not (subset.is_constant files (member_at k.owner pl))) (sym owner)
          ∙ k.imported_is)
        where
          not_so : (b : Bool) → (true && not b) ≡ false → b ≡ true
          not_so true e = refl
          not_so false e = absurd cc

      value_of : (o : Option ℤ) (z : ℤ) → o ≡ Some z → ValueFits x0.0 o → Holds full z
      value_of None z e h = absurd cc
      value_of (Some v) z e h = let same : v ≡ z = cc in subst (Holds full) same (fit32 v h.0)

      fits : ValueFits x0.0 (let y = x0.0 in y.constant)
      fits =
          let tree = of-imports t files.exports (get-has t (imports files.exports) n is_class) in
          let place = has-get tree.0 files.exports tree.1 in
          let writable = read.exports place.0 tree.0 place.1 in
          let class = each-after ClassFits [] (let u = tree.0 in u.classes) t writable.classes tree.2 in
          let fit = class.1 in
          let one = each-after FieldFits [] t.fields x0.0 fit.fields (get-has x0.0 t.fields pl x0.1) in
          (let h = one.1 in h.value)

      by : (b : Bool) (o : Option ℤ) → (let y = x0.0 in may_be_constant y.flags y.desc) ≡ b
          → (let y = x0.0 in y.constant) ≡ o → IsStaticFieldFound files image put id
      by true (Some z) f g =
          let y = x0.0 in
          let desc : y.desc ≡ id.desc = sym (ap (λ (v : Member). v.desc) x0.2) ∙ (let p = k.at in p.has_desc) in
          constant_is put id k z (at ∙ ap (λ b. if b then y.constant else None) f ∙ g) (tested_at
          ∙ constant) (usable_by put id k y.flags y.desc desc f)
          (ap (λ v. result_of (parts v).result) (sym desc) ∙ constant_typed y.flags y.desc f)
          (value_of y.constant z g fits)
      by true None f g = (let no : false ≡ true = sym (ap (λ b. b && is_some (let y = x0.0 in y.constant)) f
          ∙ ap is_some g) ∙ constant in absurd cc)
      by false o f g = (let no : false ≡ true = sym (ap (λ b. b && is_some (let y = x0.0 in y.constant)) f) ∙ constant
          in absurd cc)

  pub static_found : (class : ClassTree) (put : Bool) (id : MemberId) → IsInsnOf files codes class (jop.Static put id)
      → IsStaticFieldFound files image put id
  static_found class put id at =
      let k = known_static class put id at in
      by put id k k.owner refl (filed files (let d = k.owner in d.name) k.owner k.named)
    where
      by : (put : Bool) (id : MemberId) (k : IsKnown put id) (d : Class) → k.owner ≡ d → IsFiled files d
          → IsStaticFieldFound files image put id
      by put id k _ same (in_class_file n t at) = of_own put id k n t at same
      by put id k _ same (in_export_file n t at) = of_export put id k n t at same

-- ---- where no method works on int

module _ (list : List ℕ) (files : Files) (codes : List MethodCode) (settings : Settings) (is : IsUnbroken list files
    codes settings) (read : AreReadFiles files) (solid : IsSolid files)
    (image : StaticImage) (near : List MemberId) (tables : Tables) (m : Method) (stack : List Cell) where
  pub static_is : (class : ClassTree) (put : Bool) (id : MemberId) → IsInsnOf files codes class (jop.Static put id)
      → IsNamed files image near tables m stack (jop.Static put id)
  unfolding works_on_int
  static_is class put id at = by put (op_free files codes is.no_int class (jop.Static put id) at)
      (static_found list files codes settings (kept_names is) read solid image class put id at)
    where
      by : (put : Bool) → is_int_desc id.desc ≡ false → IsStaticFieldFound files image put id
          → IsNamed files image near tables m stack (jop.Static put id)
      by false no_int (finds_constant z reads usable number held found) = a_constant z number held found
      by true no_int (finds_constant z reads usable number held found) = absurd cc
      by put no_int (finds_cell target d found has) = a_static target (record {
        desc = word_field id.desc d.types d.short d.is_desc d.of_method d.supported no_int;
        found = found;
        has = has;
      })
