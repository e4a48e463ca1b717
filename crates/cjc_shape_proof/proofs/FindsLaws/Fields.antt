-- The fields that code names: they are found, and what may be their receiver has them.
use Rattle.std.proofs.Common.{◌≡◌, ℕ, ◌-◌, ◌<◌, ◌^◌, refl, sym, ap, subst, ◌∙◌, arith, Bool, true, false, List, length}
use Rattle.std.proofs.Common.{⊎_elim}
use Rattle.std.specs.Prelude.{not, ◌&&◌, ◌||◌, nat_lt, Some, None, option_and_then, option_map, is_some, slice_get}
use Rattle.std.specs.Prelude.{if◌then◌else◌}
use Rattle.std.specs.List.{flat_map, list_all}
use Rattle.std.proofs.lemmas.Bool.{lt-ltb}
use Rattle.std.specs.Str.{bytes_eq}
use Rattle.cjc_bytes.specs.AccessFlags.{is_final, is_interface, is_static}
use Rattle.cjc_bytes.specs.Descriptor.{IsDescriptor, Parts, field, method}
use Rattle.cjc_bytes.specs.Spots.{desc_of}
use Rattle.cjc_bytes.specs.declared.fault.MemberId.{MemberId}
use Rattle.cjc_bytes.specs.declared.settings.Settings.{Settings}
use Rattle.cjc_bytes.proofs.DescriptorTypes.{desc_spelt}
use Rattle.cjc_bytes.proofs.Gets.{all_at}
use Rattle.cjc_bytes.proofs.Lists.{name_is as bytes-refl}
use Rattle.cjc_bytes.proofs.Bools.{true_or_false, true_not_false, or_left, or_right, bool_middle}
use Rattle.cjc_classes.specs.JvmSemantics.Linked.{Instance, Method, Static}
use Rattle.cjc_classes.specs.JvmSemantics.OnePackage.{constant_at, constant_in, exported_constant, field_by}
use Rattle.cjc_classes.specs.JvmSemantics.OnePackage.{field_hit}
use Rattle.cjc_classes.specs.JvmSemantics.OnePackage.{field_named, member_of, object_fields, of_class}
use Rattle.cjc_check_proof.specs.WorldProof.Calls.Solid.{IsSolid}
use Rattle.cjc_check_proof.specs.WorldProof.Calls.Targets.{IsReceiver}
use Rattle.cjc_check_proof.proofs.WorldProofFields.{object_has}
use Rattle.cjc_check_proof.proofs.WorldProofOwn.{IsFieldAt, field_at, field_hit_is, mapped_at}
use Rattle.cjc_check_proof.proofs.WorldProofTypes.{type_below, receiver_class}
use Rattle.cjc_world.proofs.ClassFileFitting.{spelt_fits}
use Rattle.cjc_world.specs.ClassFile.Fits as fits
use Rattle.cjc_world.specs.ClassFile.declared.tree.ClassTree.{ClassTree}
use Rattle.cjc_world.specs.ClassFile.declared.tree.FieldTree.{FieldTree}
use Rattle.cjc_components.specs.Bytecode.declared.insn.JOp.TheVariants as jop
use Rattle.cjc_components.specs.Bytecode.declared.method_code.MethodCode.{MethodCode}
use Rattle.cjc_world.specs.ExportFile.Members.{is_constant_type, may_be_constant}
use Rattle.cjc_shape_proof.proofs.FindsLaws.Descs.{read_of}
use Rattle.cjc_shape_proof.proofs.FindsLaws.Receivers.{made_class, named_of, plain_class, receiver_of}
use Rattle.cjc_shape_proof.specs.Finds.{IsFieldFound, IsUsable}
use Rattle.cjc_narrow_proof.specs.Laws.Unbroken.{IsInsnOf, KeepsNames}
use Rattle.cjc_narrow_proof.proofs.LawsLaws.Instructions.{field_there, op_fit, op_there}
use Rattle.cjc_narrow_proof.proofs.LawsLaws.WordTypes.{type_values, type_word}
use Rattle.cjc_narrow_proof.specs.Runs.Names.{IsWordField}
use Rattle.cjc_classes.specs.Narrow.Rows.Package.{named}
use Rattle.cjc_narrow_proof.specs.NCode.ByLabel.{Named}
use Rattle.cjc_narrow_proof.specs.NCode.declared.narrow.NMethod.{NMethod}
use Rattle.cjc_narrow_proof.specs.NCode.PoolOrder.{same_member}
use Rattle.cjc_narrow_proof.specs.Script.Sorts.{Booleans, Bytes, Ints, Shorts, OfClass, OfNumbers, OfReferences, Shape}
use Rattle.cjc_narrow_proof.specs.Script.Sorts.{shape_name}
use Rattle.cjc_narrow_proof.specs.Script.Sorts.{field_sort, sort_of, sort_or_none}
use Rattle.cjc_narrow_proof.specs.Selection.Objects.{has_values}
use Rattle.cjc_narrow_proof.specs.Selection.Relation.{HasObjects, IsMadeOf, bare, made}
use Rattle.cjc_narrow_proof.specs.Selection.Rows.{HasField, is_word_sort, lists}
use Rattle.cjc_check_proof.specs.WorldProof.Files.{AreReadFiles}
use Rattle.cjc_classes.specs.Subset.Checks.{is_imported_variable, names_variable}
use Rattle.cjc_classes.specs.Subset.Members.{imported_field, is_imported_constant}
use Rattle.cjc_classes.specs.Subset.Members as subset
use Rattle.cjc_vtable.proofs.SubsetFits.{field_fits}
use Rattle.cjc_classes.specs.Subset.Names.{is_constant_found, is_hidden, is_other_kind, is_unfit_field, names_unfit}
use Rattle.cjc_classes.specs.Subset.Types.{is_any_unsupported, is_any_int, is_unsupported_desc, is_unsupported_name}
use Rattle.cjc_classes.specs.Subset.Types.{is_unsupported_part, is_int_desc, is_int_part, names_unsupported}
use Rattle.cjc_classes.specs.Types.declared.cell.Cell.{Cell}
use Rattle.cjc_classes.specs.Types.declared.cell.Cell.TheVariants.{Refs}
use Rattle.cjc_classes.specs.Types.Types.{no_parts, parts, parts_or_none}
use Rattle.cjc_world.specs.Upwards.{Below, Has}
use Rattle.cjc_world.specs.Upwards as upward
use Rattle.cjc_world.proofs.UpwardLaws.Lines.{below_abroad, below_on, field_found_above, on_line}
use Rattle.cjc_vtable.proofs.Filed.{IsFiled, filed, in_class_file, in_export_file}
use Rattle.cjc_world.specs.declared.found.Found.{Found}
use Rattle.cjc_world.specs.declared.image.StaticImage.{StaticImage}
use Rattle.cjc_world.specs.Classes.{Class, Member, all_classes, class_at, class_named, field_of_class, field_of_export}
use Rattle.cjc_world.specs.Classes.{imported}
use Rattle.cjc_world.specs.Files.{Files}
use Rattle.cjc_world.specs.Lookup.{find_field, member_at, object, receiver}
use Rattle.cjc_world.specs.Subtype.{is_subtype, starts}

pub on_object : (flags : ℕ) → is_other_kind false flags ≡ false → is_static flags ≡ false
on_object flags e = by (is_static flags) e
  where
    by : (b : Bool) → (if b then not false else false) ≡ false → b ≡ false
    by true e = absurd cc
    by false e = refl

pub no_constant : (flags : ℕ) (desc : List ℕ) → is_static flags ≡ false → may_be_constant flags desc ≡ false
no_constant flags desc e = by (is_static flags) e
  where
    by : (b : Bool) → b ≡ false → (b && is_final flags && is_constant_type desc) ≡ false
    by true e = absurd cc
    by false e = refl

pub lists_has : (f : MemberId) (fields : List MemberId) → Has f fields → lists fields f ≡ true
lists_has f _ (upward.foremost {xs = xs}) = by (bytes_eq f.class f.class) (bytes_eq f.name f.name)
    (bytes_eq f.desc f.desc) (bytes-refl f.class) (bytes-refl f.name) (bytes-refl f.desc)
  where
    by : (a b c : Bool) → a ≡ true → b ≡ true → c ≡ true → ((a && (b && c)) || lists xs f) ≡ true
    by true true true p q r = refl
    by false b c p q r = absurd cc
    by true false c p q r = absurd cc
    by true true false p q r = absurd cc
lists_has f _ (upward.after {y = g} {xs = xs} h) = by (same_member g f) (lists xs f) (lists_has f xs h)
  where
    by : (a b : Bool) → b ≡ true → (a || b) ≡ true
    by true b e = refl
    by false b e = e

-- a field's descriptor that names none of the types which a package may not use is of one word
pub word_field : (desc : List ℕ) (d : Parts) → length desc < 2 ^ 32 → desc_of desc ≡ Some d → d.is_method ≡ false
    → is_unsupported_desc desc ≡ false → is_int_desc desc ≡ false → IsWordField desc
unfolding parts is_unsupported_desc is_int_desc
word_field desc d short is is_field no_unsupported no_int =
    let fits : nat_lt (length desc) (2 ^ 32) ≡ true = lt-ltb (length desc) (2 ^ 32) short in
    let parts_are : parts desc ≡ d = ap (λ b. if b then parts_or_none (desc_of desc) else no_parts) fits
    ∙ ap parts_or_none is in
    let f : is_any_unsupported (Some d) ≡ false = ap is_any_unsupported (sym is)
    ∙ ap (λ b. b && is_any_unsupported (desc_of desc)) (sym fits) ∙ no_unsupported in
    let g : is_any_int (Some d) ≡ false = ap is_any_int (sym is) ∙ ap (λ b. b && is_any_int (desc_of desc)) (sym fits)
    ∙ no_int in
    record {
      is_desc = is ∙ ap Some (sym parts_are);
      one_word = ap (λ o. is_word_sort (sort_or_none o)) is
          ∙ by (desc_spelt d desc is) is_field f g;
    }
  where
    by : {d : Parts} {bytes : List ℕ} → IsDescriptor d bytes → d.is_method ≡ false → is_any_unsupported (Some d) ≡ false
        → is_any_int (Some d) ≡ false → is_word_sort (sort_of d.result) ≡ true
    by (field {p = p} t) m f g = type_word t (or_left (is_unsupported_part p) false f) (or_left (is_int_part p) false g)
    by (method ts t) m f g = absurd cc

-- and one that may name int is of a type that values are of
pub value_field : (desc : List ℕ) (d : Parts) → length desc < 2 ^ 32 → desc_of desc ≡ Some d → d.is_method ≡ false
    → is_unsupported_desc desc ≡ false → has_values (field_sort desc) ≡ true
unfolding is_unsupported_desc
value_field desc d short is is_field no_unsupported =
    let fits : nat_lt (length desc) (2 ^ 32) ≡ true = lt-ltb (length desc) (2 ^ 32) short in
    let f : is_any_unsupported (Some d) ≡ false = ap is_any_unsupported (sym is)
    ∙ ap (λ b. b && is_any_unsupported (desc_of desc)) (sym fits) ∙ no_unsupported in
    ap (λ o. has_values (sort_or_none o)) is ∙ by (desc_spelt d desc is) is_field f
  where
    by : {d : Parts} {bytes : List ℕ} → IsDescriptor d bytes → d.is_method ≡ false → is_any_unsupported (Some d) ≡ false
        → has_values (sort_of d.result) ≡ true
    by (field {p = p} t) m f = type_values t (or_left (is_unsupported_part p) false f)
    by (method ts t) m f = absurd cc

abbrev pub tested : Class → Member → subset.ResolvedMember
tested d m = record { owner = d; flags = m.flags }

-- what the tests know of a field that is found
pub tested_field : (w : List Class) (d : Class) (place : ℕ) (m : Member) → class_at w d.is_imported d.number ≡ Some d
    → slice_get d.fields place ≡ Some m → subset.hit w true (Some (member_at d place)) ≡ Some (tested d m)
unfolding subset.hit
tested_field w d place m numbered there =
    let off : place - 0 ≡ place = omega arith in
    ap (λ o. subset.hit_of true (member_at d place) o) numbered ∙ ap (λ k. option_map (tested d) (slice_get d.fields k))
    off ∙ ap (option_map (tested d)) there

module _ (list : List ℕ) (files : Files) (codes : List MethodCode) (settings : Settings) (is : KeepsNames list files
    codes settings) (read : AreReadFiles files) (solid : IsSolid files) (root : IsReceiver (all_classes files) object)
    (root_abroad : (let r = root in let c = r.class in c.is_imported) ≡ true)
    (image : StaticImage) (written : Method → NMethod) where
  abbrev w : List Class
  w = all_classes files

  abbrev l : Named
  l = named files image written

  -- 310: a field of objects that code names is no imported class's
  no_import : (d : Class) → IsFiled files d → (place : ℕ) (m : Member) → slice_get d.fields place ≡ Some m
      → is_static m.flags ≡ false → is_imported_variable files (Some (member_at d place)) ≡ false
      → d.is_imported ≡ false
  unfolding subset.is_constant
  no_import d (in_class_file n t at) place m there plain e = refl
  no_import d (in_export_file n t at) place m there plain e =
      let k = mapped_at field_of_export t.fields place m there in
      let x = k.0 in
      let flat : is_static x.flags ≡ false = sym (ap (λ (q : Member). is_static q.flags) k.2) ∙ plain in
      let none : subset.is_constant files (member_at (imported n t) place) ≡ false =
      ap (λ o. is_imported_constant (imported_field o place)) at ∙ ap is_imported_constant k.1
      ∙ ap (λ b. b && is_some x.constant) (no_constant x.flags x.desc flat) in
      absurd (true_not_false true refl (ap (λ b. true && not b) (sym none) ∙ e))

  -- What is known of a field of objects that code names.
  record IsKnown (id : MemberId) : Type 0 where
    place : Found
    owner : Class
    found : find_field w id.class id.name id.desc ≡ Some place
    below : Below w id.class owner.name
    named : class_named w owner.name ≡ Some owner
    at : IsFieldAt id.name id.desc owner place
    plain : is_static (let p = at in let m = p.member in m.flags) ≡ false
    own : owner.is_imported ≡ false
    open_name : starts 91 id.class ≡ false

  known_field : (class : ClassTree) (put : Bool) (id : MemberId) → IsInsnOf files codes class (jop.Field put id)
      → IsKnown id
  unfolding names_unfit names_variable
  known_field class put id at =
      let ok = op_there list files codes settings is class (jop.Field put id) at in
      let there = field_there files class put id ok.0 ok.1 in
      let f = there.1 in
      let found = there.3 in
      let above = field_found_above w solid.ordered id.class id.name id.desc f found in
      let d = above.0 in
      let p = field_at id.name id.desc d f above.3 in
      let m = p.member in
      let hit : subset.hit w true (find_field w id.class id.name id.desc) ≡ Some (tested d m) =
      ap (subset.hit w true) found ∙ ap (λ g. subset.hit w true (Some g)) p.is
      ∙ tested_field w d p.place m (solid.numbered d.name d above.2) p.is_member in
      let fit : is_other_kind false m.flags ≡ false = bool_middle (is_hidden w class id (tested d m))
      (is_other_kind false m.flags) (false && put
      && is_constant_found files (find_field w id.class id.name id.desc))
      (field_fits files class false put id (find_field w id.class id.name id.desc) (tested d m)
      (ap (λ o. is_unfit_field files class false put id (find_field w id.class id.name id.desc) o) (sym hit)
      ∙ ok.2)) in
      let plain = on_object m.flags fit in
      let variable : is_imported_variable files (Some (member_at d p.place)) ≡ false =
      ap (λ g. is_imported_variable files (Some g)) (sym p.is) ∙ ap (is_imported_variable files) (sym found)
      ∙ (op_fit list files codes settings is class (jop.Field put id) at).1 in
      record {
        place = f;
        owner = d;
        found = found;
        below = above.1;
        named = above.2;
        at = p;
        plain = plain;
        own = no_import d (filed files d.name d above.2) p.place m p.is_member plain variable;
        open_name = solid.plain id.class there.0 there.2;
      }

  named_is : (id : MemberId) (k : IsKnown id) → field_named files w id
      ≡ Some (Instance (of_class (let d = k.owner in d.name) id))
  named_is id k =
      let d = k.owner in
      let p = k.at in
      let m = p.member in
      let t = solid.own d.name d k.named k.own in
      let c = mapped_at field_of_class (let u = t.0 in u.fields) p.place m
      (ap (λ (v : Class). slice_get v.fields p.place) (sym t.2) ∙ p.is_member) in
      let x = c.0 in
      let flat : is_static x.flags ≡ false = sym (ap (λ (q : Member). is_static q.flags) c.2) ∙ k.plain in
      let constant : constant_at files (member_at d p.place) ≡ None =
      ap (λ b. if b then option_and_then (exported_constant p.place)
      (slice_get (flat_map (λ t. t.classes) files.exports) d.number) else option_and_then (constant_in p.place)
      (slice_get files.classes d.number)) k.own
      ∙ ap (option_and_then (constant_in p.place)) t.1
      ∙ ap (option_and_then (λ (q : FieldTree). if may_be_constant q.flags q.desc then q.constant else None)) c.1
      ∙ ap (λ b. if b then x.constant else None) (no_constant x.flags x.desc flat) in
      ap (option_and_then (λ f. option_map (field_by (constant_at files f) id) (field_hit w f))) k.found
      ∙ ap (λ f. option_map (field_by (constant_at files f) id) (field_hit w f)) p.is
      ∙ ap (option_map (field_by (constant_at files (member_at d p.place)) id)) (field_hit_is w d p.place m
      (solid.numbered d.name d k.named) p.is_member)
      ∙ ap (λ o. Some (field_by o id (record { owner = d; flags = m.flags }))) constant
      ∙ ap (λ b. Some (if b then Static (of_class d.name id) else Instance (of_class d.name id))) k.plain

  -- an object that is of the named class has the field
  object_keeps : (id : MemberId) (k : IsKnown id) (cls : List ℕ) → Below w cls id.class → (r : IsReceiver w cls)
      → (fields : List MemberId) → HasObjects l cls fields → lists fields (of_class (let d = k.owner in d.name) id)
      ≡ true
  unfolding named
  object_keeps id k cls below r fields (bare none e) =
      let d = k.owner in
      let p = plain_class w cls cls e in
      absurd (true_not_false d.is_imported (below_abroad w solid.ordered cls d.name p.class d (below_on w cls id.class
      d.name below k.below) p.found p.imported k.named) k.own)
  object_keeps id k cls below r fields (made e) =
      let d = k.owner in
      let p = k.at in
      let m = p.member in
      let q = made_class w cls fields e in
      let t = solid.own d.name d k.named k.own in
      let u = t.0 in
      let c = mapped_at field_of_class u.fields p.place m (ap (λ (v : Class). slice_get v.fields p.place) (sym t.2)
      ∙ p.is_member) in
      let x = c.0 in
      let flat : is_static x.flags ≡ false = sym (ap (λ (y : Member). is_static y.flags) c.2) ∙ k.plain in
      let ground : is_interface d.flags ≡ false = ⊎_elim
      (λ yes. absurd (true_not_false (is_static x.flags) (solid.fields d.number p.place u x t.1 c.1
      (ap (λ (v : Class). is_interface v.flags) (sym t.2) ∙ yes)) flat))
      (λ no. no) (true_or_false (is_interface d.flags)) in
      let line = on_line w solid.ordered cls d.name q.class d (below_on w cls id.class d.name below k.below) q.found
      q.no_interface k.named ground in
      let has = object_has files solid cls d p.place m line k.own p.is_member k.plain in
      let same : member_of d.name m ≡ of_class d.name id = ap (λ n. record { class = d.name; name = n; desc = m.desc })
      p.has_name ∙ ap (λ n. record { class = d.name; name = id.name; desc = n }) p.has_desc in
      lists_has (of_class d.name id) fields (subst (λ fs. Has (of_class d.name id) fs) (sym q.fields_are)
      (subst (λ g. Has g (object_fields w cls)) same has))

  array_not : (id : MemberId) (k : IsKnown id) → Below w object id.class → ⊥
  array_not id k below =
      let d = k.owner in
      true_not_false d.is_imported (below_abroad w solid.ordered object d.name (let r = root
      in r.class) d (below_on w object id.class d.name below k.below) (let r = root in r.named) root_abroad k.named)
      k.own

  has_field : (id : MemberId) (k : IsKnown id) (kind : Shape (List ℕ)) → Below w (receiver (shape_name kind)) id.class
      → IsMadeOf l kind → IsReceiver w (receiver (shape_name kind))
      → HasField l (of_class (let d = k.owner in d.name) id) kind
  unfolding named
  has_field id k (OfClass cls) below one r = record {
    class = cls;
    is_class = refl;
    has = λ fields objects. (let same = name_is cls objects
        in object_keeps id k cls (subst (λ x. Below w x id.class) same below) (subst (IsReceiver w) same r) fields
        objects);
  }
    where
      name_is : (cls : List ℕ) {fields : List MemberId} → HasObjects l cls fields → receiver cls ≡ cls
      name_is cls {fields = fields} (made e) = let q = made_class w cls fields e
          in receiver_class cls (solid.plain cls q.class q.found)
      name_is cls {fields = fields} (bare none e) = let q = plain_class w cls cls e
          in receiver_class cls (solid.plain cls q.class q.found)
  has_field id k (OfNumbers Booleans) below one r = absurd (array_not id k below)
  has_field id k (OfNumbers Bytes) below one r = absurd (array_not id k below)
  has_field id k (OfNumbers Shorts) below one r = absurd (array_not id k below)
  has_field id k (OfNumbers Ints) below one r = absurd (array_not id k below)
  has_field id k (OfReferences class) below one r = absurd (array_not id k below)

  -- 301 of a field of objects that code names
  pub field_usable : (class : ClassTree) (put : Bool) (id : MemberId) → IsInsnOf files codes class (jop.Field put id)
      → IsUsable false id.desc
  unfolding names_unsupported
  field_usable class put id at =
      let k = known_field class put id at in
      let d = k.owner in
      let p = k.at in
      let t = solid.own d.name d k.named k.own in
      let u = t.0 in
      let c = mapped_at field_of_class u.fields p.place p.member (ap (λ (v : Class). slice_get v.fields p.place)
      (sym t.2) ∙ p.is_member) in
      let x = c.0 in
      let desc_is : x.desc ≡ id.desc = sym (ap (λ (q : Member). q.desc) c.2) ∙ p.has_desc in
      let bytes = read.classes d.number u t.1 in
      let few = spelt_fits u bytes.0 bytes.1 bytes.2 in
      let one = all_at fits.FieldFits u.fields p.place x few.fields c.1 in
      let short : length x.desc < 2 ^ 32 = (let s = one.desc in omega (arith, s)) in
      let parsed = (let r = read_of files read d.number u t.1 in r.fields) p.place x c.1 in
      let unsupported = (op_fit list files codes settings is class (jop.Field put id) at).0 in
      record {
        types = parsed.0;
        short = subst (λ v. length v < 2 ^ 32) desc_is short;
        is_desc = ap desc_of (sym desc_is) ∙ parsed.1;
        of_method = parsed.2;
        supported = or_right (is_unsupported_name id.class) (is_unsupported_desc id.desc) unsupported;
      }

  pub field_is : (class : ClassTree) (put : Bool) (id : MemberId) → IsInsnOf files codes class (jop.Field put id)
      → (cell : Cell) → ((names : List (List ℕ)) → cell ≡ Refs names → list_all (λ name. is_subtype w name id.class)
      names ≡ true) → IsFieldFound files l id cell
  field_is class put id at cell accepts_one =
      let k = known_field class put id at in
      record {
        target = of_class (let d = k.owner in d.name) id;
        desc = field_usable class put id at;
        found = named_is id k;
        has = λ names on kind some one.
            (let sub = named_of files image written solid root id.class names kind (accepts_one names on) some in
            has_field id k kind (type_below w (shape_name kind) id.class k.open_name sub) one (receiver_of files image
            written solid root kind one));
      }
