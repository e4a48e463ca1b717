-- The files of a converted package are read ones that break no rule of classes and names.
use Rattle.std.proofs.Common.{◌≡◌, ℕ, zero, suc, ◌≤◌, refl, sym, ap, subst, ◌∙◌, List, [], ◌∷◌, length}
use Rattle.std.specs.Prelude.{All, Some, slice_get}
use Rattle.cjc_bytes.specs.Breaks.{Break}
use Rattle.cjc_bytes.specs.Descriptor.{IsClassName}
use Rattle.cjc_bytes.specs.Format.{FileSpells}
use Rattle.cjc_bytes.specs.declared.settings.FileLine.{FileLine}
use Rattle.cjc_world.specs.ClassFile.ClassFile.{class_file}
use Rattle.cjc_world.specs.ClassFile.declared.tree.ClassTree.{ClassTree}
use Rattle.cjc_classes.specs.Clinit.Image.{IsImage}
use Rattle.cjc_classes.specs.Clinit.Rules.{BreaksImage}
use Rattle.cjc_check_proof.specs.WorldProof.Initialisers.Values.{StandOnce}
use Rattle.cjc_components.specs.Bytecode.PackageCodes.{all_codes}
use Rattle.cjc_components.specs.Package.{Package}
use Rattle.cjc_shape.specs.LowerJudge.Rules.{has_applets, settings_of}
use Rattle.cjc_shape.specs.LowerJudge.Spelt.{FileTree, classes_of, exports_of, IsRead}
use Rattle.cjc_shape.specs.LowerJudge.Spelt as spelt_files
use Rattle.cjc_shape.specs.LowerJudge.Trees.{AllSpelt}
use Rattle.cjc_shape.specs.LowerJudge.declared.judged.Judged.{Judged}
use Rattle.cjc_shape.specs.LowerMethods.Ready.{AreReady}
use Rattle.cjc_shape.proofs.JudgedLaws.Selected.{judged_checks, judged_names, judged_writable}
use Rattle.cjc_shape.specs.Prepared as prepared
use Rattle.cjc_world.specs.Classes.{all_classes}
use Rattle.cjc_shape.specs.Judged.Tested.{AreFiles, IsTested}
use Rattle.cjc_classes.specs.List.Listed.{ListTree}
use Rattle.cjc_narrow_proof.specs.Laws.Unbroken.{AreSpelt, IsUnbroken, KeepsNames}
use Rattle.cjc_narrow_proof.specs.Selected.Keeps.{IsSpelt}
use Rattle.cjc_shape.proofs.PreparedLaws.Sound.{are_ready, has_tokens, is_tested, is_unbroken, listed, no_image_break}
use Rattle.cjc_shape.proofs.PreparedLaws.Sound.{world_unbroken}
use Rattle.cjc_check_proof.specs.WorldProof.Files.{AreReadFiles, ExportsAreSound}
use Rattle.cjc_classes.specs.Subset.Checks.{check_breaks}
use Rattle.cjc_classes.specs.Types.Tables.{IsOfPackage}
use Rattle.cjc_check_proof.specs.TokenProof.Tables.Sound.{AreFieldDescs, IsSound, export_count}
use Rattle.cjc_tokens.specs.Rules.{token_breaks}
use Rattle.cjc_vtable.specs.Kept.{BreaksNone, IsKept, ExportsAgree}
use Rattle.cjc_shape.proofs.WholeLaws.Drafts.{same_spelt}
use Rattle.cjc_shape.proofs.WholeLaws.Ints.{package_free}
use Rattle.cjc_world.specs.Files.{Files}
use Rattle.cjc_world.specs.Rules.{breaks}
use Rattle.cjc_check_proof.specs.TokenProof.WrittenCalls.Standing.{AreMethods}
use Rattle.cjc_shape_proof.specs.Written.Checked.{IsChecked}
use Rattle.cjc_shape_proof.specs.Written.Converted.{ExportsArePlain, IsConverted}
use Rattle.cjc_shape_proof.proofs.WrittenLaws.Checked as checked
use Rattle.cjc_shape_proof.proofs.WrittenLaws.PackageNames.{package_named}
use Rattle.cjc_shape_proof.proofs.WrittenLaws.Lines.{exports_few}

-- ---- the files

-- bytes that spell a class
ClassBytes : ClassTree → Type 0
ClassBytes c = (bytes : List ℕ) × IsSpelt c bytes

spelt_at : (lines : List FileLine) (files : List (List ℕ)) (trees : List FileTree) → AllSpelt lines files trees
    → AreFiles files → (n : ℕ) (c : ClassTree) → slice_get (classes_of trees) n ≡ Some c → ClassBytes c
unfolding ClassBytes
spelt_at [] files trees h bytes n c e = let none : trees ≡ [] = h.1
    in absurd (no_class n c (sym (ap (λ ts. slice_get (classes_of ts) n) none) ∙ e))
  where
    no_class : (n : ℕ) (c : ClassTree) → slice_get (classes_of []) n ≡ Some c → ⊥
    no_class n c e = cc
spelt_at (line ∷ lines) [] trees h bytes n c e = absurd h
spelt_at (line ∷ lines) (b ∷ files) [] h bytes n c e = absurd h
spelt_at (line ∷ lines) (b ∷ files) (spelt_files.of_class tree ∷ trees) h bytes zero c e =
    let same : tree ≡ c = cc in (
      b,
      record {
        in_bytes = (bytes 0 b refl).0;
        short = (bytes 0 b refl).1;
        spelt = subst (λ t. FileSpells class_file t b) same h.0.1;
      },
    )
spelt_at (line ∷ lines) (b ∷ files) (spelt_files.of_class tree ∷ trees) h bytes (suc n) c e =
    spelt_at lines files trees h.1 (λ k x f. bytes (suc k) x f) n c e
spelt_at (line ∷ lines) (b ∷ files) (spelt_files.of_export tree ∷ trees) h bytes n c e =
    spelt_at lines files trees h.1 (λ k x f. bytes (suc k) x f) n c e

-- ---- a package of files that were judged, whichever of its methods are in int mode

pub names_kept : (list : ListTree) (files : List (List ℕ)) (judged : Judged) (p : Package)
    → prepared.IsSound list files judged → p.files ≡ judged.world
    → KeepsNames list.name p.files judged.codes (settings_of list)
names_kept list files judged p sound same =
    subst (λ (w : Files). KeepsNames list.name w judged.codes (settings_of list)) (sym same) (record {
      listed = listed list files judged sound;
      world = world_unbroken list files judged sound;
      names = judged_names list files judged (is_tested list files judged sound);
      checks = judged_checks list files judged (is_tested list files judged sound);
    })

module _ (list : ListTree) (files : List (List ℕ)) (judged : Judged) (p : Package) (read : IsRead list)
    (sound : prepared.IsSound list files judged) (same : p.files ≡ judged.world) (exports : ExportsAreSound p.files)
    (plain : ExportsArePlain p.files) (agree : ExportsAgree (all_classes p.files)) where
  abbrev kept : KeepsNames list.name p.files judged.codes (settings_of list)
  kept = names_kept list files judged p sound same

  abbrev trees : List FileTree
  trees = sound.judged_by.read.trees

  same_exports : (let w = p.files in w.exports) ≡ exports_of trees
  same_exports = ap (λ (w : Files). w.exports) same ∙ sound.judged_by.read.exports

  same_classes : (let w = p.files in w.classes) ≡ classes_of trees
  same_classes = ap (λ (w : Files). w.classes) same ∙ sound.judged_by.read.classes

  same_lines : (let w = p.files in w.lines) ≡ list.lines
  same_lines = ap (λ (w : Files). w.lines) (same ∙ sound.judged_by.world)

  package_spelt : IsClassName (let w = p.files in w.package_name)
  package_spelt = subst IsClassName (sym (ap (λ (w : Files). w.package_name) (same ∙ sound.judged_by.world)))
      (package_named list read)

  ready : AreReady p.files judged.codes judged.types
  ready = subst (λ (w : Files). AreReady w judged.codes judged.types) (sym same)
      (are_ready list files judged sound)

  -- it breaks no rule of its files
  pub judged_checked : IsChecked list judged.codes p
  unfolding ClassBytes
  judged_checked = record {
    package_name = package_spelt;
    classes = λ n c e. spelt_at list.lines files trees sound.judged_by.read.spelt sound.are_files n c
        (sym (ap (λ cs. slice_get cs n) same_classes) ∙ e);
    written = λ n t e. judged_writable list files judged (is_tested list files judged sound) n t
        (sym (ap (λ (w : Files). slice_get w.exports n) same) ∙ e);
    listed = kept.listed;
    listed_exports =
        let few = exports_few list.lines files trees sound.judged_by.read.spelt in
        let lines = same_lines in
        subst (λ ls. length (let w = p.files in w.exports) ≤ export_count ls) (sym lines)
        (subst (λ ts. length ts ≤ export_count list.lines) (sym same_exports) few);
    codes_are = ready.codes_are;
    of_package = subst (λ (w : Files). All (IsOfPackage w) judged.codes) (sym same) sound.judged_by.of_package;
    decoded = ready.decoded;
    unbroken = kept.world;
    names = kept.names;
    checks = kept.checks;
    initialisers = subst (λ (w : Files). (b : Break) → BreaksImage w judged.codes b → ⊥) (sym same)
        (no_image_break list files judged sound);
    tokens = ap (token_breaks (has_applets list)) same ∙ has_tokens list files judged sound;
    exports = exports;
    plain = plain;
    agree = agree;
  }

-- ---- the package

module _ (list : ListTree) (files : List (List ℕ)) (judged : Judged) (p : Package) (is : IsConverted list files judged
    p) where
  abbrev tested : IsTested list files judged
  tested = is_tested list files judged is.sound

  pub same_files : p.files ≡ judged.world
  same_files = same_spelt list files judged is.sound p.files is.is_package.rows is.is_package.spelt

  pub same_list : p.list ≡ list
  same_list = is.is_package.is_package.by_list

  -- by its own files
  pub own_unbroken : IsUnbroken list.name p.files judged.codes (settings_of list)
  own_unbroken = subst (λ (w : Files). IsUnbroken list.name w judged.codes (settings_of list)) (sym same_files)
      (is_unbroken list files judged is.sound (package_free list files judged is.sound p is.is_package))

  -- it breaks no rule of its files
  pub is_checked : IsChecked list judged.codes p
  is_checked = judged_checked list files judged p is.read is.sound same_files is.exports is.plain is.agree

  abbrev pub own_names : KeepsNames list.name p.files judged.codes (settings_of list)
  own_names = checked.own_names list judged.codes p is_checked

  pub read_files : AreReadFiles p.files
  read_files = checked.read_files list judged.codes p is_checked

  pub are_spelt : AreSpelt p.files
  are_spelt = checked.are_spelt list judged.codes p is_checked

  pub files_sound : IsSound list.name p.files
  files_sound = checked.files_sound list judged.codes p is_checked

  pub field_descs : AreFieldDescs p.files
  field_descs = checked.field_descs list judged.codes p is_checked

  -- ---- the image

  pub own_image : IsImage p.files (all_codes (let w = p.files in w.classes)) p.image
  own_image = is.is_package.is_package.image

  pub own_once : StandOnce p.files (all_codes (let w = p.files in w.classes))
  own_once = checked.own_once list judged.codes p is_checked

  pub own_methods : AreMethods p
  own_methods = record {
    members = is.is_package.is_package.members;
    is_abstract = λ k m e. let w = is.is_package.is_package.methods k m e in w.is_abstract;
  }

  -- ---- what dispatch rests on

  pub is_kept : ((l : List ℕ) (fs : Files) → breaks l fs ≡ [] → check_breaks l fs judged.codes (settings_of list) ≡ []
      → BreaksNone l fs judged.codes (settings_of list)) → IsKept list.name p.files judged.codes (settings_of list)
  is_kept = checked.is_kept list judged.codes p is_checked
