-- A package that was judged and breaks no rule is one of read files.
use Rattle.std.proofs.Common.{◌≡◌, ℕ, zero, suc, ◌<◌, refl, sym, ap, subst, ◌∙◌, List, [], ◌∷◌}
use Rattle.std.specs.Prelude.{Some, slice_get}
use Rattle.std.specs.List.{AllByRecursion}
use Rattle.cjc_bytes.specs.Descriptor.{IsClassName}
use Rattle.cjc_bytes.specs.Format.{FileSpells}
use Rattle.cjc_bytes.specs.declared.settings.FileLine.{FileLine}
use Rattle.cjc_world.specs.ClassFile.ClassFile.{class_file}
use Rattle.cjc_world.specs.ClassFile.declared.tree.ClassTree.{ClassTree}
use Rattle.cjc_shape_proof.specs.LowerJudge.declared.judged.Judged.{Judged}
use Rattle.cjc_shape_proof.specs.LowerJudge.Rules.{settings_of}
use Rattle.cjc_shape_proof.specs.LowerJudge.Spelt.{FileTree, IsRead, classes_of, of_class, of_export}
use Rattle.cjc_shape_proof.specs.LowerJudge.Trees.{AllSpelt}
use Rattle.cjc_shape_proof.specs.LowerShape.Judged.Tested.{AreFiles}
use Rattle.cjc_token_proof.specs.List.Listed.{ListTree}
use Rattle.cjc_shape_proof.specs.Whole.{AreTabled, IsWhole}
use Rattle.cjc_narrow_proof.specs.Runs.Tables.{Tables}
use Rattle.cjc_shape_proof.specs.LowerShape.Prepared.{IsSound}
use Rattle.cjc_shape_proof.proofs.ShapeSelected.{judged_writable}
use Rattle.cjc_shape_proof.proofs.ShapeInts.{short_free}
use Rattle.cjc_shape_proof.proofs.ShapeSound.{is_tested, is_unbroken}
use Rattle.cjc_shape_proof.specs.LowerShape.Whole.Conversion.{AreShort}
use Rattle.cjc_shape_proof.specs.WorldProof.Files.{AreReadFiles, ExportsAreSound}
use Rattle.cjc_theorem.proofs.SoundRuns.Names.{class_name}
use Rattle.cjc_world.specs.Files.{Files}

class_at : (lines : List FileLine) (files : List (List ℕ)) (trees : List FileTree) → AllSpelt lines files trees
    → AreFiles files → (n : ℕ) (c : ClassTree) → slice_get (classes_of trees) n ≡ Some c
    → (bytes : List ℕ) × AllByRecursion (λ b. b < 256) bytes × FileSpells class_file c bytes
class_at [] files trees h ok n c e = let none : slice_get (classes_of []) n ≡ Some c =
    ap (λ ts. slice_get (classes_of ts) n) (sym h.1) ∙ e in absurd cc
class_at (line ∷ lines) [] trees h ok n c e = absurd h
class_at (line ∷ lines) (bytes ∷ files) [] h ok n c e = absurd h
class_at (line ∷ lines) (bytes ∷ files) (of_class tree ∷ trees) h ok zero c e = let same : tree ≡ c = cc
    in (bytes, (ok 0 bytes refl).0, subst (λ t. FileSpells class_file t bytes) same h.0.1)
class_at (line ∷ lines) (bytes ∷ files) (of_class tree ∷ trees) h ok (suc n) c e =
    class_at lines files trees h.1 (λ k b f. ok (suc k) b f) n c e
class_at (line ∷ lines) (bytes ∷ files) (of_export tree ∷ trees) h ok n c e =
    class_at lines files trees h.1 (λ k b f. ok (suc k) b f) n c e

module _ (list : ListTree) (files : List (List ℕ)) (judged : Judged) (is : IsSound list files judged) where
  pub read_files : AreReadFiles judged.world
  read_files =
      let read = is.judged_by.read in
      record {
        classes = λ n c e. class_at list.lines files read.trees read.spelt is.are_files n c (ap (λ cs. slice_get cs n)
            (sym read.classes) ∙ e);
        exports = λ n t e. judged_writable list files judged (is_tested list files judged is) n t e;
      }

  pub package_is : IsRead list → IsClassName (let w = judged.world in w.package_name)
  package_is of =
      let text = of.2.0 in
      let spelt = text.3 in
      let begins = spelt.begins in
      let says = begins.2 in
      subst IsClassName (sym (ap (λ (w : Files). w.package_name) is.judged_by.world)) (class_name list.«package» says.3)

  pub whole_is : IsRead list → ExportsAreSound judged.world → (tables : Tables)
      → AreTabled judged.world judged.codes tables → AreShort list.ints judged.world
      → IsWhole list.name judged.world judged.codes (settings_of list) tables
  whole_is of sound tables tabled short = record {
    unbroken = is_unbroken list files judged is (short_free list files judged is short);
    package_name = package_is of;
    read = read_files;
    sound = sound;
    tabled = tabled;
  }
