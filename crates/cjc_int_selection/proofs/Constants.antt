-- The constants of fields have 32 bits, of class files and of export files.
use Rattle.std.proofs.Common.{◌≡◌, ℕ, zero, suc, refl, subst, Bool, true, false, List, [], ◌∷◌, ◌++◌}
use Rattle.std.specs.Prelude.{Option, Some, None, option_and_then, slice_get, if◌then◌else◌, ℤ}
use Rattle.std.specs.List.{flat_map}
use Rattle.cjc_int_narrow.specs.Bytes.declared.fault.MemberId.{MemberId}
use Rattle.cjc_ncode.proofs.BytecodeEntries.{fit32}
use Rattle.cjc_ncode.proofs.BytecodeMembers.{read_class}
use Rattle.cjc_int_narrow.specs.ClassFile.declared.tree.ClassTree.{ClassTree}
use Rattle.cjc_int_narrow.specs.ClassFile.declared.tree.FieldTree.{FieldTree}
use Rattle.cjc_int_narrow.specs.Range.Span.{Holds, full}
use Rattle.cjc_int_narrow.specs.World.Files.{Files}
use Rattle.cjc_int_narrow.specs.World.declared.found.Found.{Found}
use Rattle.cjc_world.specs.ExportFile.Members.{may_be_constant}
use Rattle.cjc_world.specs.ExportFile.Writable.{ClassFits, EachAfter, FieldFits, IsWritable, ValueFits}
use Rattle.cjc_world.specs.ExportFile.declared.tree.ExportClass.{ExportClass}
use Rattle.cjc_world.specs.ExportFile.declared.tree.ExportField.{ExportField}
use Rattle.cjc_world.specs.ExportFile.declared.tree.ExportTree.{ExportTree}
use Rattle.cjc_jvm_semantics.specs.OnePackage.{constant_at, constant_in, exported_constant}
use Rattle.cjc_narrow_proof.specs.Selected.Keeps.{IsSpelt}
use Rattle.cjc_token_proof.proofs.WrittenSends.Operations.{flat_from}
use Rattle.cjc_int_narrow.specs.LowerIntProof.Operands.{IsInt}
use Rattle.cjc_int_narrow.specs.LowerNarrow.Rows.Resolved.{resolution}
use Rattle.cjc_int_selection.proofs.Operands.{four_bytes}

-- what holds of each item behind those before it holds of the item at a place
each_at : {A : Type 0} (P : List A → A → Type 0) (before xs : List A) (k : ℕ) (x : A) → EachAfter P before xs
    → slice_get xs k ≡ Some x → (b : List A) × P b x
each_at P before [] k x h e = absurd cc
each_at P before (y ∷ xs) zero x h e = let is : y ≡ x = cc in (before, subst (P before) is h.0)
each_at P before (y ∷ xs) (suc k) x h e = each_at P (before ++ y ∷ []) xs k x h.1 e

-- a value that is there, where the test holds
where_true : (b : Bool) (o : Option ℤ) (z : ℤ) → (if b then o else None) ≡ Some z → o ≡ Some z
where_true true o z e = e
where_true false o z e = absurd cc

exported_value : (f : ExportField) (o : Option ℤ) (z : ℤ) → ValueFits f o → o ≡ Some z → Holds full z
exported_value f None z fit e = absurd cc
exported_value f (Some v) z fit e = let same : v ≡ z = cc in fit32 z (subst (λ x. ValueFits f (Some x)) same fit).0

module _ (files : Files) (classes : (k : ℕ) (c : ClassTree) → slice_get files.classes k ≡ Some c → (bytes : List ℕ)
    × IsSpelt c bytes) (exports : (k : ℕ) (t : ExportTree) → slice_get files.exports k ≡ Some t → IsWritable t)
    (z : ℤ) where
  -- of a field of a class file
  of_class : (k : ℕ) (o : Option ClassTree) → ((c : ClassTree) → o ≡ Some c → (bytes : List ℕ) × IsSpelt c bytes)
      → option_and_then (constant_in k) o ≡ Some z → Holds full z
  of_class k None spelt e = absurd cc
  of_class k (Some c) spelt e = by (slice_get c.fields k) refl e
    where
      by : (o : Option FieldTree) → slice_get c.fields k ≡ o
          → option_and_then (λ f. if may_be_constant f.flags f.desc then f.constant else None) o ≡ Some z
          → Holds full z
      by None there e = absurd cc
      by (Some f) there e =
          let read = read_class c (spelt c refl).0 (spelt c refl).1.in_bytes (spelt c refl).1.spelt in
          read.constants k f z there (where_true (may_be_constant f.flags f.desc) f.constant z e)

  -- of a field of an export file
  of_export : (k : ℕ) (o : Option ExportClass) → ((c : ExportClass) → o ≡ Some c → (before : List ExportClass)
      × ClassFits before c) → option_and_then (exported_constant k) o ≡ Some z → Holds full z
  of_export k None fits e = absurd cc
  of_export k (Some c) fits e = by (slice_get c.fields k) refl e
    where
      by : (o : Option ExportField) → slice_get c.fields k ≡ o
          → option_and_then (λ f. if may_be_constant f.flags f.desc then f.constant else None) o ≡ Some z
          → Holds full z
      by None there e = absurd cc
      by (Some f) there e =
          let one = each_at FieldFits [] c.fields k f (fits c refl).1.fields there in
          exported_value f f.constant z one.1.value (where_true (may_be_constant f.flags f.desc) f.constant z e)

  class_fits : (k : ℕ) (c : ExportClass) → slice_get (flat_map (λ t. t.classes) files.exports) k ≡ Some c
      → (before : List ExportClass) × ClassFits before c
  class_fits k c at =
      let tree = flat_from (λ (t : ExportTree). t.classes) files.exports k c at in
      let writable = exports tree.0 tree.1 tree.2 in
      each_at ClassFits [] tree.1.classes tree.3.0 c writable.classes tree.3.1

  found_fits : (f : Found) → constant_at files f ≡ Some z → Holds full z
  found_fits f e = by f.imported e
    where
      by : (b : Bool) → (if b then option_and_then (exported_constant f.member)
          (slice_get (flat_map (λ t. t.classes) files.exports) f.class)
          else option_and_then (constant_in f.member) (slice_get files.classes f.class)) ≡ Some z → Holds full z
      by true e = of_export f.member (slice_get (flat_map (λ t. t.classes) files.exports) f.class) (class_fits f.class)
          e
      by false e = of_class f.member (slice_get files.classes f.class) (classes f.class) e

  hit_fits : (o : Option Found) → option_and_then (constant_at files) o ≡ Some z → Holds full z
  hit_fits None e = absurd cc
  hit_fits (Some f) e = found_fits f e

  pub constants_fit : (near : List MemberId) (holder : List ℕ) (g : MemberId)
      → (resolution files near holder).constant g ≡ Some z → IsInt z
  unfolding resolution
  constants_fit near holder g e = four_bytes z (hit_fits _ e)
