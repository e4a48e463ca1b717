-- What is known of a field, no constant, that code of a package names: it is of a class file of the package.
use Rattle.std.proofs.Common.{◌≡◌, ℕ, ◌&&◌, Bool, true, false, List, Option, Some, None, refl, sym, ap, ◌∙◌}
use Rattle.std.specs.Prelude.{not, is_some, option_map, option_and_then, slice_get, if◌then◌else◌, ℤ}
use Rattle.cjc_bytes.specs.AccessFlags.{is_static}
use Rattle.cjc_bytes.specs.declared.fault.MemberId.{MemberId}
use Rattle.cjc_jvm_semantics.specs.Linked.{Instance, ResolvedField, Static}
use Rattle.cjc_jvm_semantics.specs.OnePackage.{ResolvedMember, constant_at, exported_constant, field_by, field_hit}
use Rattle.cjc_jvm_semantics.specs.OnePackage.{field_named, of_class}
use Rattle.cjc_world.specs.ClassFile.declared.tree.ClassTree.{ClassTree}
use Rattle.cjc_world.specs.ClassFile.declared.tree.FieldTree.{FieldTree}
use Rattle.cjc_world.specs.ExportFile.Members.{may_be_constant}
use Rattle.cjc_world.specs.ExportFile.declared.tree.ExportField.{ExportField}
use Rattle.cjc_world.specs.Classes.{Class, Member, all_classes, class_named, declared, field_of_class, field_of_export}
use Rattle.cjc_world.specs.Classes.{imported}
use Rattle.cjc_world.specs.Files.{Files}
use Rattle.cjc_world.specs.Lookup.{find_field, member_at, own_field}
use Rattle.cjc_world.specs.Upwards.{Below}
use Rattle.cjc_world.specs.declared.found.Found.{Found}
use Rattle.cjc_world.proofs.UpwardLaws.Lines.{field_found_above}
use Rattle.cjc_vtable.proofs.Filed.{IsFiled, filed, in_class_file, in_export_file}
use Rattle.cjc_shape_proof.proofs.JudgeAreNumbers.{imports_flat}
use Rattle.cjc_shape_proof.specs.WorldProof.Calls.Solid.{IsSolid}
use Rattle.cjc_token_proof.proofs.WorldProofOwn.{IsFieldAt, field_at, field_hit_is, mapped_at}
use Rattle.cjc_token_proof.specs.Subset.Checks.{is_imported_variable}
use Rattle.cjc_token_proof.specs.Subset.Members.{imported_field, is_imported_constant}
use Rattle.cjc_token_proof.specs.Subset.Members as subset

-- The field that is named, in a class file of the package, which is the class that is named or stands above it.
pub record IsKnown (files : Files) (id : MemberId) (static : Bool) : Type 0 where
  pub number : ℕ
  pub class : ClassTree
  pub is_class : slice_get files.classes number ≡ Some class
  pub named : class_named (all_classes files) class.name ≡ Some (declared number class)
  pub below : Below (all_classes files) id.class class.name
  pub place : Found
  pub found : find_field (all_classes files) id.class id.name id.desc ≡ Some place
  pub own : own_field id.name id.desc (declared number class) ≡ Some place
  pub at : ℕ
  pub field : FieldTree
  pub is_field : slice_get class.fields at ≡ Some field
  pub has_name : field.name ≡ id.name
  pub has_desc : field.desc ≡ id.desc
  pub kind : is_static field.flags ≡ static

-- a static field or one of objects
abbrev pub variable : (static : Bool) → MemberId → ResolvedField
variable true f = Static f
variable false f = Instance f

not_both : (b : Bool) (o : Option ℤ) → (if b then o else None) ≡ None → (b && is_some o) ≡ false
not_both true None e = refl
not_both true (Some z) e = cc
not_both false o e = refl

-- what is found for a variable is no constant, and is of this kind
variable_is : (o : Option ℤ) (id : MemberId) (hit : ResolvedMember) (static : Bool) (f : MemberId)
    → field_by o id hit ≡ variable static f → (o ≡ None) × (is_static hit.flags ≡ static)
    × (f ≡ of_class (let owner = hit.owner in owner.name) id)
variable_is (Some z) id hit true f e = absurd cc
variable_is (Some z) id hit false f e = absurd cc
variable_is None id hit static f e = let r = by (is_static hit.flags) refl static e in (refl, r.0, r.1)
  where
    by : (b : Bool) → is_static hit.flags ≡ b → (static : Bool) → (if b then Static (of_class (let owner = hit.owner
        in owner.name) id) else Instance (of_class (let owner = hit.owner in owner.name) id)) ≡ variable static f
        → (is_static hit.flags ≡ static) × (f ≡ of_class (let owner = hit.owner in owner.name) id)
    by true g true e = (g, cc)
    by false g false e = (g, cc)
    by true g false e = absurd cc
    by false g true e = absurd cc

module _ (files : Files) (solid : IsSolid files) where
  abbrev v : List Class
  v = all_classes files

  -- 310
  own_one : (d : Class) → IsFiled files d → (place : ℕ) (m : Member) → slice_get d.fields place ≡ Some m
      → constant_at files (member_at d place) ≡ None → is_imported_variable files (Some (member_at d place)) ≡ false
      → d.is_imported ≡ false
  unfolding subset.is_constant
  own_one d (in_class_file n t at) place m there none e = refl
  own_one d (in_export_file n t at) place m there none e =
      let k = mapped_at field_of_export t.fields place m there in
      let x = k.0 in
      let value : constant_at files (member_at (imported n t) place)
      ≡ (if may_be_constant x.flags x.desc then x.constant else None) =
      ap (λ cs. option_and_then (exported_constant place) (slice_get cs n)) (sym (imports_flat files.exports))
      ∙ ap (option_and_then (exported_constant place)) at
      ∙ ap (option_and_then (λ (f : ExportField). if may_be_constant f.flags f.desc then f.constant else None)) k.1 in
      let no : subset.is_constant files (member_at (imported n t) place) ≡ false =
      ap (λ o. is_imported_constant (imported_field o place)) at ∙ ap is_imported_constant k.1
      ∙ not_both (may_be_constant x.flags x.desc) x.constant (sym value ∙ none) in
      absurd (clash (ap (λ b. true && not b) (sym no) ∙ e))
    where
      clash : true ≡ false → ⊥
      clash e = cc

  pub known : (id f : MemberId) (static : Bool) → field_named files v id ≡ Some (variable static f)
      → is_imported_variable files (find_field v id.class id.name id.desc) ≡ false
      → (k : IsKnown files id static) × (f ≡ of_class (let c = k.class in c.name) id)
  known id f static named local = by (find_field v id.class id.name id.desc) refl named local
    where
      same : {a b : ResolvedField} → Some a ≡ Some b → a ≡ b
      same e = cc

      in_file : (place : Found) → find_field v id.class id.name id.desc ≡ Some place → (d : Class)
          → Below v id.class d.name → class_named v d.name ≡ Some d → own_field id.name id.desc d ≡ Some place
          → (p : IsFieldAt id.name id.desc d place) → is_static (let m = p.member in m.flags) ≡ static
          → f ≡ of_class d.name id → d.is_imported ≡ false → IsFiled files d
          → (k : IsKnown files id static) × (f ≡ of_class (let c = k.class in c.name) id)
      in_file place found _ below there own p kind is mine (in_class_file n t at) =
          let c = mapped_at field_of_class t.fields p.place p.member p.is_member in
          let x = c.0 in (
            record {
              number = n;
              class = t;
              is_class = at;
              named = there;
              below = below;
              place = place;
              found = found;
              own = own;
              at = p.place;
              field = x;
              is_field = c.1;
              has_name = sym (ap (λ (m : Member). m.name) c.2) ∙ p.has_name;
              has_desc = sym (ap (λ (m : Member). m.desc) c.2) ∙ p.has_desc;
              kind = sym (ap (λ (m : Member). is_static m.flags) c.2) ∙ kind;
            },
            is,
          )
      in_file place found _ below there own p kind is mine (in_export_file n e at) = absurd cc

      by : (o : Option Found) → find_field v id.class id.name id.desc ≡ o
          → option_and_then (λ g. option_map (field_by (constant_at files g) id) (field_hit v g)) o
          ≡ Some (variable static f) → is_imported_variable files o ≡ false
          → (k : IsKnown files id static) × (f ≡ of_class (let c = k.class in c.name) id)
      by None found e local = absurd cc
      by (Some g) found e local =
          let above = field_found_above v solid.ordered id.class id.name id.desc g found in
          let d = above.0 in
          let p = field_at id.name id.desc d g above.3 in
          let m = p.member in
          let hit = field_hit_is v d p.place m (solid.numbered d.name d above.2) p.is_member in
          let told : field_by (constant_at files (member_at d p.place)) id (record { owner = d; flags = m.flags })
          ≡ variable static f = same (sym (ap (option_map (field_by (constant_at files (member_at d p.place)) id)) hit)
          ∙ ap (λ q. option_map (field_by (constant_at files q) id) (field_hit v q)) (sym p.is) ∙ e) in
          let is = variable_is (constant_at files (member_at d p.place)) id (record { owner = d; flags = m.flags })
          static f told in
          let mine = own_one d (filed files d.name d above.2) p.place m p.is_member is.0
          (ap (λ q. is_imported_variable files (Some q)) (sym p.is) ∙ local) in
          in_file g found d above.1 above.2 above.3 p is.1 is.2 mine (filed files d.name d above.2)
