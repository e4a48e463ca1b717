-- The exceptions of the machine's own are classes of export files, and no interfaces.
use Rattle.std.proofs.Common.{◌≡◌, ℕ, List, ap, sym, ◌∙◌, Some, true, false}
use Rattle.cjc_token_proof.specs.CardSemantics.Bytecode.Calculations.{Arithmetic, NullPointer, IndexOutside}
use Rattle.cjc_token_proof.specs.CardSemantics.Bytecode.Calculations.{NegativeSize}
use Rattle.cjc_token_proof.specs.CardSemantics.Bytecode.Calculations.{ClassCast, ArrayStore}
use Rattle.cjc_jvm_semantics.specs.Effects as by_name
use Rattle.cjc_bytes.specs.AccessFlags.{is_interface}
use Rattle.cjc_token_proof.specs.Narrow.Rows.Package.{fault_name}
use Rattle.cjc_shape_proof.specs.WorldProof.Files.{ExportsAreSound, IsImportedClass}
use Rattle.cjc_world.specs.Classes.{Class, all_classes, class_named, imported}
use Rattle.cjc_world.specs.Files.{Files}
use Rattle.cjc_token_proof.specs.WrittenSends.Named.{FaultsAreClasses}

module _ (files : Files) (sound : ExportsAreSound files) where
  plain : (name : List ℕ) → IsImportedClass files name → (c : Class) → class_named (all_classes files) name ≡ Some c
      → (c.is_imported ≡ true) × (is_interface c.flags ≡ false)
  plain name it c known =
      let both : Some (imported it.number it.class) ≡ Some c = sym it.found ∙ known in
      let same : imported it.number it.class ≡ c = cc in (
        ap (λ (q : Class). q.is_imported) (sym same),
        ap (λ (q : Class). is_interface q.flags) (sym same)
            ∙ it.no_interface,
      )

  pub faults_are_classes : FaultsAreClasses (all_classes files)
  faults_are_classes Arithmetic c known = plain (fault_name Arithmetic) (sound.exceptions by_name.Arithmetic) c known
  faults_are_classes NullPointer c known = plain (fault_name NullPointer) (sound.exceptions by_name.NullPointer) c known
  faults_are_classes IndexOutside c known = plain (fault_name IndexOutside) (sound.exceptions by_name.IndexOutside) c
      known
  faults_are_classes NegativeSize c known = plain (fault_name NegativeSize) (sound.exceptions by_name.NegativeSize) c
      known
  faults_are_classes ClassCast c known = plain (fault_name ClassCast) (sound.exceptions by_name.ClassCast) c known
  faults_are_classes ArrayStore c known = plain (fault_name ArrayStore) (sound.exceptions by_name.ArrayStore) c known
