-- What the files of a package keep that breaks none of the rules of files, of classes and names, of limits and of
-- tokens.
use Rattle.std.proofs.Common.{◌≡◌, ℕ, zero, suc, ◌<◌, ◌≤◌, ◌^◌, refl, sym, ap, subst, ◌∙◌, arith}
use Rattle.std.proofs.Common.{List, []}
use Rattle.std.proofs.Common.{◌∷◌, length}
use Rattle.std.specs.Prelude.{Some, slice_get}
use Rattle.std.specs.List.{AllByRecursion}
use Rattle.cjc_verified_proof.specs.Bytes.Descriptor.{IsClassName}
use Rattle.cjc_verified_proof.specs.Bytes.Format.{FileSpells}
use Rattle.cjc_verified_proof.specs.Bytes.declared.settings.FileLine.{FileLine}
use Rattle.cjc_verified_proof.proofs.BytesBrokenRules.{no_breaks}
use Rattle.cjc_verified_proof.proofs.BytesGets.{all_at}
use Rattle.cjc_verified_proof.proofs.BytesPlain.{same_some}
use Rattle.cjc_verified_proof.proofs.ClassFileFitting.{spelt_fits}
use Rattle.cjc_verified_proof.specs.ClassFile.ClassFile.{class_file}
use Rattle.cjc_verified_proof.specs.ClassFile.Fits as fits
use Rattle.cjc_verified_proof.specs.ClassFile.declared.tree.ClassTree.{ClassTree}
use Rattle.cjc_verified_proof.specs.Bytecode.PackageCodes.{all_codes}
use Rattle.cjc_verified_proof.specs.Bytecode.ReadLaws.Members.{IsReadClass}
use Rattle.cjc_verified_proof.specs.ExportFile.Writable.{IsWritable}
use Rattle.cjc_verified_proof.specs.ExportFile.declared.tree.ExportTree.{ExportTree}
use Rattle.cjc_theorem.specs.LowerJudge.Judged.{IsJudged}
use Rattle.cjc_theorem.specs.LowerJudge.Rules.{AreWorld, files_spelt, has_applets, of_group, of_world, settings_of}
use Rattle.cjc_theorem.specs.LowerJudge.Rules.{world_files}
use Rattle.cjc_theorem.specs.LowerJudge.Spelt.{FileTree, IsRead, classes_of, exports_of, of_class, of_export}
use Rattle.cjc_theorem.specs.LowerJudge.Trees.{AllSpelt, FileIs}
use Rattle.cjc_theorem.specs.LowerJudge.declared.groups.Group.{Group}
use Rattle.cjc_theorem.specs.LowerJudge.declared.groups.Group.TheVariants as groups
use Rattle.cjc_theorem.specs.LowerJudge.declared.judged.Judged.{Judged}
use Rattle.cjc_theorem.proofs.JudgeFirsts.{all_spell}
use Rattle.cjc_verified_proof.specs.List.Listed.{ListTree}
use Rattle.cjc_theorem.proofs.NarrowProofSpelt.{class_read}
use Rattle.cjc_verified_proof.proofs.BytecodeMembers.{read_class}
use Rattle.cjc_verified_proof.specs.ClassOrder.Classes.Numbers.{class_count}
use Rattle.cjc_theorem.proofs.ShapeLimited as limited
use Rattle.cjc_theorem.proofs.ShapeProofPackageNames.{package_named}
use Rattle.cjc_theorem.specs.Subset.Checks.{check_breaks}
use Rattle.cjc_theorem.proofs.FairExports.Listed.{names}
use Rattle.cjc_verified_proof.specs.Tokens.Rules.{tested_breaks, token_breaks}
use Rattle.cjc_verified_proof.specs.TokenProof.Tables.Sound.{AreFieldDescs, IsSound, export_count}
use Rattle.cjc_verified_proof.specs.World.Files.{Files}
use Rattle.cjc_verified_proof.specs.World.Rules.{breaks}
use Rattle.cjc_verified_proof.specs.WorldProof.Files.{AreReadFiles}
use Rattle.cjc_verify_theorem.specs.Passed.{AreBytes, IsAmong}
use Rattle.cjc_theorem.proofs.ShapeProofLines.{exports_few}
use Rattle.cjc_theorem.proofs.ShapeSound.{lines_few}

-- ---- trees

-- the file of a tree
file_at : (lines : List FileLine) (files : List (List ℕ)) (trees : List FileTree) → AllSpelt lines files trees → (k : ℕ)
    (t : FileTree) → slice_get trees k ≡ Some t → (line : FileLine) × (bytes : List ℕ) × (j : ℕ)
    × (slice_get files j ≡ Some bytes) × FileIs line bytes t
file_at [] files trees h k t e = let none : trees ≡ [] = h.1 in absurd (no_tree k (sym (ap (λ ts. slice_get ts k) none)
    ∙ e))
  where
    no_tree : (k : ℕ) → slice_get [] k ≡ Some t → ⊥
    no_tree k f = cc
file_at (line ∷ lines) [] trees h k t e = absurd h
file_at (line ∷ lines) (bytes ∷ files) [] h k t e = absurd h
file_at (line ∷ lines) (bytes ∷ files) (x ∷ trees) h zero t e = (
  line,
  bytes,
  0,
  refl,
  subst (FileIs line bytes)
      (same_some e) h.0,
)
file_at (line ∷ lines) (bytes ∷ files) (x ∷ trees) h (suc k) t e = let r = file_at lines files trees h.1 k t e in
    (r.0, r.1, suc r.2, r.3, r.4)

class_tree : (trees : List FileTree) (n : ℕ) (c : ClassTree) → slice_get (classes_of trees) n ≡ Some c → (k : ℕ)
    × (slice_get trees k ≡ Some (of_class c))
class_tree [] n c e = absurd cc
class_tree (of_class x ∷ trees) zero c e = (0, ap (λ y. Some (of_class y)) (same_some e))
class_tree (of_class x ∷ trees) (suc n) c e = let r = class_tree trees n c e in (suc r.0, r.1)
class_tree (of_export x ∷ trees) n c e = let r = class_tree trees n c e in (suc r.0, r.1)

export_tree : (trees : List FileTree) (n : ℕ) (t : ExportTree) → slice_get (exports_of trees) n ≡ Some t → (k : ℕ)
    × (slice_get trees k ≡ Some (of_export t))
export_tree [] n t e = absurd cc
export_tree (of_class x ∷ trees) n t e = let r = export_tree trees n t e in (suc r.0, r.1)
export_tree (of_export x ∷ trees) zero t e = (0, ap (λ y. Some (of_export y)) (same_some e))
export_tree (of_export x ∷ trees) (suc n) t e = let r = export_tree trees n t e in (suc r.0, r.1)

-- ---- the package

module _ (list : ListTree) (files : List (List ℕ)) (tested : List Group) (judged : Judged) (given : IsRead list)
    (bytes : AreBytes files) (limits : IsAmong groups.Limits tested) (tokens : IsAmong groups.Tokens tested)
    (is : IsJudged list files tested judged) where
  abbrev w : Files
  w = judged.world

  abbrev trees : List FileTree
  trees = let r = is.read in r.trees

  spelt : AllSpelt list.lines files trees
  spelt = let r = is.read in r.spelt

  classes_are : w.classes ≡ classes_of trees
  classes_are = let r = is.read in r.classes

  exports_are : w.exports ≡ exports_of trees
  exports_are = let r = is.read in r.exports

  -- its world is what the files spell
  same : w ≡ files_spelt list trees
  same = is.world ∙ ap (λ cs. world_files list cs w.exports) classes_are ∙ ap (world_files list (classes_of trees))
      exports_are

  world_is : AreWorld list files trees
  world_is =
      let all = all_spell list.lines files trees spelt in (
        all,
        no_breaks (breaks list.name (files_spelt list trees)) (λ b among. is.unbroken b (of_world
            (trees, all, among))),
      )

  pub unbroken : breaks list.name w ≡ []
  unbroken = ap (breaks list.name) same ∙ world_is.1

  pub codes_are : judged.codes ≡ all_codes w.classes
  codes_are = let r = is.read in r.codes_are

  pub checks : check_breaks list.name w judged.codes (settings_of list) ≡ []
  checks =
      let none = no_breaks (check_breaks list.name (files_spelt list trees) (all_codes (classes_of trees))
      (settings_of list)) (λ b among. is.unbroken b (of_group (
        limits.0,
        groups.Limits,
        limits.1,
        (trees, world_is, among),
      ))) in
      ap (λ v. check_breaks list.name v judged.codes (settings_of list)) same
      ∙ ap (λ cs. check_breaks list.name (files_spelt list trees) cs (settings_of list)) (codes_are ∙ ap all_codes
      classes_are) ∙ none

  pub has_tokens : token_breaks (has_applets list) w ≡ []
  has_tokens =
      let none : tested_breaks (has_applets list) (files_spelt list trees) ≡ [] = no_breaks (tested_breaks (has_applets
      list) (files_spelt list trees)) (λ b among. is.unbroken b (of_group (
        tokens.0,
        groups.Tokens,
        tokens.1,
        (trees, world_is, among),
      ))) in
      limited.has_tokens list.name w judged.codes (settings_of list) checks (ap (tested_breaks (has_applets list)) same
      ∙ none)

  -- ---- files that were read

  class_bytes : (n : ℕ) (c : ClassTree) → slice_get w.classes n ≡ Some c → (b : List ℕ) × AllByRecursion
      (λ x. x < 256) b
      × FileSpells class_file c b
  class_bytes n c e =
      let t = class_tree trees n c (sym (ap (λ cs. slice_get cs n) classes_are) ∙ e) in
      let f = file_at list.lines files trees spelt t.0 (of_class c) t.1 in
      (f.1, bytes f.2 f.1 f.3, f.4.1)

  pub writable : (k : ℕ) (t : ExportTree) → slice_get w.exports k ≡ Some t → IsWritable t
  writable k t e =
      let x = export_tree trees k t (sym (ap (λ ts. slice_get ts k) exports_are) ∙ e) in
      let f = file_at list.lines files trees spelt x.0 (of_export t) x.1 in
      f.4.2

  pub read_files : AreReadFiles w
  read_files = record { classes = class_bytes; exports = writable }

  pub listed : length w.classes ≤ class_count w.lines
  listed = subst (λ (v : Files). length v.classes ≤ class_count v.lines) (sym same) (lines_few list.lines files trees
      spelt)

  few_lines : length w.exports ≤ export_count list.lines
  few_lines = subst (λ ts. length ts ≤ export_count list.lines) (sym exports_are) (exports_few list.lines files trees
      spelt)

  -- 128 export files at most
  pub few_imports : length w.exports ≤ 2 ^ 7
  few_imports =
      let text = given.2.0 in
      let most = text.3.within.exports in
      let few = few_lines in
      omega (arith, most, few)

  package_name : IsClassName w.package_name
  package_name = subst IsClassName (sym (ap (λ (v : Files). v.package_name) is.world)) (package_named list given)

  pub sound : IsSound list.name w
  sound = record {
    classes = listed;
    exports = subst (λ (ls : List FileLine). length w.exports ≤ export_count ls) (sym (ap (λ (v : Files). v.lines)
        is.world)) few_lines;
    read = record {
      package_name = (let h = class_read w.package_name package_name in h.no_array);
      classes = λ n c e. (let r = class_bytes n c e in (r.0, r.2));
      exports = writable;
    };
    names = λ k c e. (let h = class_read c.name (names list.name w judged.codes (settings_of list) checks k c e)
        in h.no_array);
    unbroken = unbroken;
  }

  -- ---- fields

  pub field_descs : AreFieldDescs w
  field_descs n k c f e g =
      let r = class_bytes n c e in
      let one : IsReadClass c = read_class c r.0 r.1 r.2 in
      let desc = one.fields k f g in
      let few = spelt_fits c r.0 r.1 r.2 in
      let short = (all_at fits.FieldFits c.fields k f few.fields g).desc in
      record { parts = desc.0; is_desc = desc.1; is_field = desc.2; short = omega (arith, short) }
