-- The fields and methods that instructions of a package name, with the classes that declare them.
use Rattle.std.proofs.Common.{◌≡◌, ℕ, ◌-◌, refl, sym, ap, ◌∙◌, Bool, true, false, List, [], ◌∷◌, ◌++◌, length}
use Rattle.std.specs.Prelude.{not, ◌&&◌, ◌||◌, Option, Some, None, is_some, option_and_then, option_map, slice_get}
use Rattle.std.specs.Prelude.{if◌then◌else◌, ℤ}
use Rattle.std.specs.List.{flat_map}
use Rattle.cjc_narrow_proof.proofs.LawsLaws.Calls.{call_fits}
use Rattle.cjc_bytes.specs.AccessFlags.{is_static}
use Rattle.cjc_bytes.specs.declared.fault.MemberId.{MemberId}
use Rattle.cjc_bytes.specs.declared.settings.Settings.{Settings}
use Rattle.cjc_bytes.proofs.Bools.{or_left, or_right}
use Rattle.cjc_jvm_semantics.specs.OnePackage.{ResolvedMember, constant_at, exported_constant, field_hit, method_hit}
use Rattle.cjc_jvm_semantics.specs.OnePackage.{of_class}
use Rattle.cjc_shape_proof.specs.WorldProof.Calls.Solid.{IsSolid}
use Rattle.cjc_token_proof.proofs.WorldProofOwn.{IsAt, IsFieldAt, field_at, field_hit_is, hit_is, mapped_at, own_at}
use Rattle.cjc_world.specs.ClassFile.declared.tree.ClassTree.{ClassTree}
use Rattle.cjc_components.specs.Bytecode.declared.insn.JOp.TheVariants as jop
use Rattle.cjc_components.specs.Bytecode.declared.method_code.MethodCode.{MethodCode}
use Rattle.cjc_world.specs.ExportFile.Members.{may_be_constant}
use Rattle.cjc_world.specs.ExportFile.declared.tree.ExportClass.{ExportClass}
use Rattle.cjc_world.specs.ExportFile.declared.tree.ExportField.{ExportField}
use Rattle.cjc_world.specs.ExportFile.declared.tree.ExportTree.{ExportTree}
use Rattle.cjc_token_proof.specs.Narrow.Rows.Resolved.{by_owner, constant_named, resolved_field, resolved_method}
use Rattle.cjc_shape_proof.proofs.FindsLaws.Fields.{tested, tested_field, on_object}
use Rattle.cjc_narrow_proof.specs.Laws.Calls.{CallFits}
use Rattle.cjc_narrow_proof.specs.Laws.Unbroken.{IsInsnOf, KeepsNames}
use Rattle.cjc_narrow_proof.proofs.LawsLaws.Instructions.{field_there, method_there, op_fit, op_there, static_there}
use Rattle.cjc_token_proof.specs.Subset.Checks.{is_imported_variable, names_variable}
use Rattle.cjc_token_proof.specs.Subset.Members.{imported_field, imports, is_imported_constant}
use Rattle.cjc_token_proof.specs.Subset.Members as subset
use Rattle.cjc_vtable.proofs.SubsetFits.{field_fits}
use Rattle.cjc_token_proof.specs.Subset.Names.{is_constant_found, is_hidden, is_other_kind, is_unfit_call}
use Rattle.cjc_token_proof.specs.Subset.Names.{is_unfit_class}
use Rattle.cjc_token_proof.specs.Subset.Names.{is_unfit_field, is_unfit_method, names_unfit}
use Rattle.cjc_world.specs.Upwards.{Below}
use Rattle.cjc_world.proofs.UpwardLaws.Lines.{field_found_above, method_found_above, own_found}
use Rattle.cjc_vtable.proofs.Filed.{IsFiled, filed, in_class_file, in_export_file}
use Rattle.cjc_world.specs.declared.found.Found.{Found}
use Rattle.cjc_world.specs.Classes.{Class, Member, all_classes, class_at, class_named, field_of_export, imported}
use Rattle.cjc_world.specs.Files.{Files}
use Rattle.cjc_world.specs.Lookup.{find_field, find_method, member_at, own_method}
use Rattle.cjc_theorem.proofs.WholeRuns.Statics.{on_class}

module _ (list : List ℕ) (files : Files) (codes : List MethodCode) (settings : Settings) (is : KeepsNames list files
    codes settings) (solid : IsSolid files) where
  abbrev w : List Class
  w = all_classes files

  -- A field that an instruction names, with the class that declares it.
  pub record NamesField (id : MemberId) (static : Bool) : Type 0 where
    pub place : Found
    pub owner : Class
    pub found : find_field w id.class id.name id.desc ≡ Some place
    pub below : Below w id.class owner.name
    pub named : class_named w owner.name ≡ Some owner
    pub at : IsFieldAt id.name id.desc owner place
    pub resolved : resolved_field w id ≡ of_class owner.name id
    pub is_static : is_static (let a = at in let m = a.member in m.flags) ≡ static
    -- 310: that of an imported class is a constant
    pub is_variable : is_imported_variable files (Some place) ≡ false

  -- what is found, with the class that declares it
  names_field : (id : MemberId) (f : Found) (static : Bool) → find_field w id.class id.name id.desc ≡ Some f
      → ((d : Class) (m : Member) → subset.hit w true (find_field w id.class id.name id.desc) ≡ Some (tested d m)
      → is_static m.flags ≡ static)
      → is_imported_variable files (find_field w id.class id.name id.desc) ≡ false → NamesField id static
  names_field id f static found kind variable =
      let above = field_found_above w solid.ordered id.class id.name id.desc f found in
      let d = above.0 in
      let p = field_at id.name id.desc d f above.3 in
      let m = p.member in
      let numbered = solid.numbered d.name d above.2 in
      let hit : subset.hit w true (find_field w id.class id.name id.desc) ≡ Some (tested d m) =
      ap (subset.hit w true) found ∙ ap (λ g. subset.hit w true (Some g)) p.is
      ∙ tested_field w d p.place m numbered p.is_member in
      let told : field_hit w f ≡ Some (record { owner = d; flags = m.flags }) = ap (field_hit w) p.is
      ∙ field_hit_is w d p.place m numbered p.is_member in
      record {
        place = f;
        owner = d;
        found = found;
        below = above.1;
        named = above.2;
        at = p;
        resolved = ap (λ o. by_owner id (option_and_then (field_hit w) o)) found ∙ ap (by_owner id) told;
        is_static = kind d m hit;
        is_variable = ap (is_imported_variable files) (sym found) ∙ variable;
      }

  pub static_named : (class : ClassTree) (put : Bool) (id : MemberId) → IsInsnOf files codes class (jop.Static put id)
      → NamesField id true
  unfolding names_unfit names_variable
  static_named class put id at =
      let ok = op_there list files codes settings is class (jop.Static put id) at in
      let there = static_there files class put id ok.0 ok.1 in
      names_field id there.1 true there.3
      (λ d m hit. on_class m.flags (or_right (is_hidden w class id (tested d m)) (is_other_kind true m.flags)
      (or_left (is_hidden w class id (tested d m) || is_other_kind true m.flags) (true && put
      && is_constant_found files (find_field w id.class id.name id.desc))
      (field_fits files class true put id (find_field w id.class id.name id.desc) (tested d m)
      (ap (λ o. is_unfit_field files class true put id (find_field w id.class id.name id.desc) o) (sym hit)
      ∙ ok.2)))))
      (op_fit list files codes settings is class (jop.Static put id) at).1

  pub field_named : (class : ClassTree) (put : Bool) (id : MemberId) → IsInsnOf files codes class (jop.Field put id)
      → NamesField id false
  unfolding names_unfit names_variable
  field_named class put id at =
      let ok = op_there list files codes settings is class (jop.Field put id) at in
      let there = field_there files class put id ok.0 ok.1 in
      names_field id there.1 false there.3
      (λ d m hit. on_object m.flags (or_right (is_hidden w class id (tested d m)) (is_other_kind false m.flags)
      (or_left (is_hidden w class id (tested d m) || is_other_kind false m.flags) (false && put
      && is_constant_found files (find_field w id.class id.name id.desc))
      (field_fits files class false put id (find_field w id.class id.name id.desc) (tested d m)
      (ap (λ o. is_unfit_field files class false put id (find_field w id.class id.name id.desc) o) (sym hit)
      ∙ ok.2)))))
      (op_fit list files codes settings is class (jop.Field put id) at).1

  -- a static field that is no constant is the package's
  pub static_own : (id : MemberId) (n : NamesField id true) → constant_named files w id ≡ None
      → (let d = n.owner in d.is_imported) ≡ false
  unfolding subset.is_constant
  static_own id n none = by n.owner (filed files (let d = n.owner in d.name) n.owner n.named) n.at
    where
      no_value : (b : Bool) (o : Option ℤ) → (if b then o else None) ≡ None → (b && is_some o) ≡ false
      no_value true None e = refl
      no_value true (Some z) e = cc
      no_value false o e = refl

      clash : (b : Bool) → b ≡ false → (true && not b) ≡ false → ⊥
      clash true e f = cc
      clash false e f = cc

      by : (d : Class) → IsFiled files d → IsFieldAt id.name id.desc d n.place → d.is_imported ≡ false
      by d (in_class_file k t e) at = refl
      by d (in_export_file k t e) at =
          let x = mapped_at field_of_export t.fields at.place at.member at.is_member in
          let value : constant_at files (member_at (imported k t) at.place) ≡ None = ap (constant_at files) (sym at.is)
          ∙ sym (ap (option_and_then (constant_at files)) n.found) ∙ none in
          let told : (if may_be_constant x.0.flags x.0.desc then x.0.constant else None) ≡ None =
          sym (ap (option_and_then (exported_constant at.place)) (flat k t e)
          ∙ ap (option_and_then (λ (f : ExportField). if may_be_constant f.flags f.desc then f.constant else None))
          x.1) ∙ value in
          let constant : subset.is_constant files (member_at (imported k t) at.place) ≡ false =
          ap (λ o. is_imported_constant (imported_field o at.place)) e ∙ ap is_imported_constant x.1
          ∙ no_value (may_be_constant x.0.flags x.0.desc) x.0.constant told in
          absurd (clash (subset.is_constant files (member_at (imported k t) at.place)) constant
          (ap (λ g. is_imported_variable files (Some g)) (sym at.is) ∙ n.is_variable))
        where
          flat_is : (ts : List ExportTree) → flat_map (λ t. t.classes) ts ≡ imports ts
          flat_is [] = refl
          flat_is (t ∷ ts) = ap (λ cs. t.classes ++ cs) (flat_is ts)

          flat : (k : ℕ) (t : ExportClass) → slice_get (imports files.exports) k ≡ Some t
              → slice_get (flat_map (λ t. t.classes) files.exports) k ≡ Some t
          flat k t e = ap (λ cs. slice_get cs k) (flat_is files.exports) ∙ e

  -- ---- methods

  -- A method that an instruction calls, with the class that declares it.
  pub record NamesMethod (class : ClassTree) (op : ℕ) (id : MemberId) : Type 0 where
    pub place : Found
    pub named_class : Class
    pub owner : Class
    pub insn : IsInsnOf files codes class (jop.Call op id)
    pub names_class : class_named w id.class ≡ Some named_class
    pub found : find_method w id.class id.name id.desc ≡ Some place
    pub below : Below w id.class owner.name
    pub named : class_named w owner.name ≡ Some owner
    pub at : IsAt false id.name id.desc owner place
    pub own : own_method false id.name id.desc owner ≡ Some place
    pub again : find_method w owner.name id.name id.desc ≡ Some place
    pub hit : method_hit w place ≡ Some (record { owner = owner; flags = (let m = at.member in m.flags) })
    pub resolved : resolved_method w id ≡ of_class owner.name id
    pub fits : CallFits op id.name (let m = at.member in m.flags)
    pub fits_class : is_unfit_class w class op id (record { owner = owner; flags = (let m = at.member in m.flags) })
        ≡ false
    -- the code may use it
    pub seen : is_hidden w class id (record { owner = owner; flags = (let m = at.member in m.flags) }) ≡ false

  abbrev tested_hit : Class → Member → subset.ResolvedMember
  tested_hit c m = record { owner = c; flags = m.flags }

  abbrev named_hit : Class → Member → ResolvedMember
  named_hit c m = record { owner = c; flags = m.flags }

  -- what a look-up tells, on both sides
  same_hit : (f : Found) (d : Class) (m : Member) → method_hit w f ≡ Some (named_hit d m) → subset.hit w false (Some f)
      ≡ Some (tested_hit d m)
  unfolding subset.hit
  same_hit f d m e = by (class_at w f.imported f.class) e
    where
      go : (c : Class) (o : Option Member) → option_map (named_hit c) o ≡ Some (named_hit d m)
          → option_map (tested_hit c) o ≡ Some (tested_hit d m)
      go c None e = absurd cc
      go c (Some k) e = let is : named_hit c k ≡ named_hit d m = cc
          in ap (λ (h : ResolvedMember). Some (record { owner = h.owner; flags = h.flags })) is

      by : (o : Option Class)
          → option_and_then (λ c. option_map (named_hit c) (slice_get c.methods (f.member - length c.fields))) o
          ≡ Some (named_hit d m) → subset.hit_of false f o ≡ Some (tested_hit d m)
      by None e = absurd cc
      by (Some c) e = go c (slice_get c.methods (f.member - length c.fields)) e

  pub method_named : (class : ClassTree) (op : ℕ) (id : MemberId) → IsInsnOf files codes class (jop.Call op id)
      → NamesMethod class op id
  unfolding names_unfit
  method_named class op id at =
      let ok = op_there list files codes settings is class (jop.Call op id) at in
      let there = method_there files class op id ok.0 ok.1 in
      let f = there.1 in
      let found = there.3 in
      let above = method_found_above w solid.ordered id.class id.name id.desc f found in
      let d = above.0 in
      let p = own_at false id.name id.desc d f above.3 in
      let m = p.member in
      let hit : method_hit w f ≡ Some (named_hit d m) = ap (method_hit w) p.is
      ∙ hit_is w d p.place m (solid.numbered d.name d above.2) p.is_member in
      let told : subset.hit w false (find_method w id.class id.name id.desc) ≡ Some (tested_hit d m) =
      ap (subset.hit w false) found ∙ same_hit f d m hit in
      let fine : is_unfit_method w class op id (Some (tested_hit d m)) ≡ false = ap (is_unfit_method w class op id)
      (sym told) ∙ ok.2 in
      record {
        place = f;
        named_class = there.0;
        owner = d;
        insn = at;
        names_class = there.2;
        found = found;
        below = above.1;
        named = above.2;
        at = p;
        own = above.3;
        again = own_found w solid.ordered d id.name id.desc f above.2 above.3;
        hit = hit;
        resolved = ap (λ o. by_owner id (option_and_then (method_hit w) o)) found ∙ ap (by_owner id) hit;
        fits = call_fits op id.name m.flags (or_right (is_hidden w class id (tested_hit d m)) (is_unfit_call op id.name
            m.flags) (or_left (is_hidden w class id (tested_hit d m) || is_unfit_call op id.name m.flags)
            (is_unfit_class
            w class op id (tested_hit d m)) fine));
        fits_class = or_right (is_hidden w class id (tested_hit d m) || is_unfit_call op id.name m.flags)
            (is_unfit_class w class op id (tested_hit d m)) fine;
        seen = or_left (is_hidden w class id (tested_hit d m)) (is_unfit_call op id.name m.flags)
            (or_left (is_hidden w class id (tested_hit d m) || is_unfit_call op id.name m.flags) (is_unfit_class w class
            op id (tested_hit d m)) fine);
      }
