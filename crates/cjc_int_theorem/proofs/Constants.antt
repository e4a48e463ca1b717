-- Code puts nothing into a static field that is a constant: such a putstatic breaks 206.
use Rattle.std.proofs.Common.{◌≡◌, ℕ, refl, sym, ap, subst, ◌∙◌, Bool, true, false, List, [], ◌∷◌, ◌++◌}
use Rattle.std.specs.Prelude.{◌&&◌, ◌||◌, Option, Some, None, is_some, option_and_then, slice_get, if◌then◌else◌, ℤ}
use Rattle.std.specs.List.{flat_map}
use Rattle.cjc_bytes.specs.declared.fault.MemberId.{MemberId}
use Rattle.cjc_bytes.proofs.Bools.{or_right}
use Rattle.cjc_bytes.proofs.Gets.{contains_at}
use Rattle.cjc_check_proof.proofs.WorldProofOwn.{field_at}
use Rattle.cjc_check_proof.specs.TokenProof.WrittenCalls.Standing.{AreMethods}
use Rattle.cjc_check_proof.specs.WorldProof.Calls.Solid.{IsSolid}
use Rattle.cjc_classes.specs.JvmSemantics.OnePackage.{constant_at, constant_in, exported_constant}
use Rattle.cjc_classes.specs.List.Listed.{ListTree}
use Rattle.cjc_classes.specs.Narrow.Rows.Resolved.{constant_named}
use Rattle.cjc_classes.specs.Subset.Members.{declared_field, imported_field, imports, is_constant, is_declared_constant}
use Rattle.cjc_classes.specs.Subset.Members.{is_imported_constant}
use Rattle.cjc_classes.specs.Subset.Members as subset
use Rattle.cjc_classes.specs.Subset.Names.{is_constant_found, is_hidden, is_other_kind, is_unfit_field, names_unfit}
use Rattle.cjc_components.specs.Bytecode.declared.insn.JOp.TheVariants as jop
use Rattle.cjc_components.specs.Bytecode.declared.method_code.MethodCode.{MethodCode}
use Rattle.cjc_components.specs.Package.{Package, world}
use Rattle.cjc_narrow_proof.specs.Laws.Unbroken.{IsInsnOf}
use Rattle.cjc_shape.proofs.JudgedLaws.Called.{is_fit}
use Rattle.cjc_vtable.proofs.SubsetFits.{field_fits}
use Rattle.cjc_world.proofs.UpwardLaws.Lines.{field_found_above}
use Rattle.cjc_world.specs.ClassFile.declared.tree.ClassTree.{ClassTree}
use Rattle.cjc_world.specs.ClassFile.declared.tree.FieldTree.{FieldTree}
use Rattle.cjc_world.specs.ExportFile.Members.{may_be_constant}
use Rattle.cjc_world.specs.ExportFile.declared.tree.ExportClass.{ExportClass}
use Rattle.cjc_world.specs.ExportFile.declared.tree.ExportField.{ExportField}
use Rattle.cjc_world.specs.ExportFile.declared.tree.ExportTree.{ExportTree}
use Rattle.cjc_world.specs.Files.{Files}
use Rattle.cjc_world.specs.Lookup.{find_field}
use Rattle.cjc_world.specs.declared.found.Found.{Found}
use Rattle.cjc_shape_proof.specs.Written.Checked.{IsChecked}
use Rattle.cjc_shape_proof.proofs.FindsLaws.Fields.{tested, tested_field}
use Rattle.cjc_shape_proof.proofs.WrittenLaws.Checked.{own_solid}
use Rattle.cjc_shape_proof.proofs.WrittenLaws.Coded.{holder, insn_of}
use Rattle.cjc_int_components.specs.Names.{PutsNoConstants}

-- ---- what is no constant has no value

no_value : (b : Bool) (o : Option ℤ) → (b && is_some o) ≡ false → (if b then o else None) ≡ None
no_value true None e = refl
no_value true (Some z) e = absurd cc
no_value false o e = refl

declared_none : (o : Option ClassTree) (i : ℕ) → is_declared_constant (declared_field o i) ≡ false
    → option_and_then (constant_in i) o ≡ None
declared_none None i e = refl
declared_none (Some c) i e = by (slice_get c.fields i) e
  where
    by : (o : Option FieldTree) → is_declared_constant o ≡ false
        → option_and_then (λ f. if may_be_constant f.flags f.desc then f.constant else None) o ≡ None
    by None e = refl
    by (Some f) e = no_value (may_be_constant f.flags f.desc) f.constant e

imported_none : (o : Option ExportClass) (i : ℕ) → is_imported_constant (imported_field o i) ≡ false
    → option_and_then (exported_constant i) o ≡ None
imported_none None i e = refl
imported_none (Some c) i e = by (slice_get c.fields i) e
  where
    by : (o : Option ExportField) → is_imported_constant o ≡ false
        → option_and_then (λ f. if may_be_constant f.flags f.desc then f.constant else None) o ≡ None
    by None e = refl
    by (Some f) e = no_value (may_be_constant f.flags f.desc) f.constant e

flat_is : (ts : List ExportTree) → flat_map (λ t. t.classes) ts ≡ imports ts
flat_is [] = refl
flat_is (t ∷ ts) = ap (λ cs. t.classes ++ cs) (flat_is ts)

no_constant_at : (files : Files) (f : Found) → is_constant files f ≡ false → constant_at files f ≡ None
unfolding is_constant
no_constant_at files f e = by f.imported e
  where
    by : (b : Bool)
        → (if b then is_imported_constant (imported_field (slice_get (imports files.exports) f.class) f.member)
        else is_declared_constant (declared_field (slice_get files.classes f.class) f.member)) ≡ false
        → (if b then option_and_then (exported_constant f.member)
        (slice_get (flat_map (λ t. t.classes) files.exports) f.class)
        else option_and_then (constant_in f.member) (slice_get files.classes f.class)) ≡ None
    by true e = ap (λ cs. option_and_then (exported_constant f.member) (slice_get cs f.class)) (flat_is files.exports)
        ∙ imported_none (slice_get (imports files.exports) f.class) f.member e
    by false e = declared_none (slice_get files.classes f.class) f.member e

-- ---- a putstatic

module _ (list : ListTree) (codes : List MethodCode) (p : Package) (is : IsChecked list codes p) where
  solid : IsSolid p.files
  solid = own_solid list codes p is

  put_none : (class : ClassTree) (id : MemberId) → IsInsnOf p.files codes class (jop.Static true id)
      → constant_named p.files (world p) id ≡ None
  unfolding names_unfit
  put_none class id of = by (find_field (world p) id.class id.name id.desc) refl
    where
      unfit : names_unfit p.files class (jop.Static true id) ≡ false
      unfit =
          let there = contains_at codes of.code of.listed in
          ap (names_unfit p.files class) (sym of.is_op)
          ∙ is_fit p.files codes is.names there.0 of.code there.1 class of.method of.tree of.of_package of.place of.insn
          of.is_insn

      by : (o : Option Found) → find_field (world p) id.class id.name id.desc ≡ o
          → option_and_then (constant_at p.files) o ≡ None
      by None found = refl
      by (Some f) found =
          let above = field_found_above (world p) solid.ordered id.class id.name id.desc f found in
          let d = above.0 in
          let q = field_at id.name id.desc d f above.3 in
          let m = q.member in
          let numbered = solid.numbered d.name d above.2 in
          let hit : subset.hit (world p) true (find_field (world p) id.class id.name id.desc) ≡ Some (tested d m) =
          ap (subset.hit (world p) true) found ∙ ap (λ g. subset.hit (world p) true (Some g)) q.is
          ∙ tested_field (world p) d q.place m numbered q.is_member in
          let front = field_fits p.files class true true id (find_field (world p) id.class id.name id.desc) (tested d m)
          (ap (λ o. is_unfit_field p.files class true true id (find_field (world p) id.class id.name id.desc) o) (sym
          hit) ∙ unfit) in
          let off : is_constant_found p.files (find_field (world p) id.class id.name id.desc) ≡ false =
          or_right (is_hidden (world p) class id (tested d m) || is_other_kind true m.flags)
          (is_constant_found p.files (find_field (world p) id.class id.name id.desc)) front in
          no_constant_at p.files f (ap (is_constant_found p.files) (sym found) ∙ off)

  pub puts_none : AreMethods p → PutsNoConstants p
  puts_none are k m e from there j i f at op =
      let class = (let h = holder list codes p is are k m e in h.class) in
      put_none class f (subst (IsInsnOf p.files codes class) op (insn_of list codes p is are k m e from there j i at).1)
