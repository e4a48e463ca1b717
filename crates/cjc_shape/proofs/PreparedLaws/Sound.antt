-- What a package has that breaks no rule of its files.
use Rattle.std.proofs.Common.{◌≡◌, ℕ, ◌≤◌, refl, sym, ap, subst, ◌∙◌, arith, Bool, true, false, List, [], ◌∷◌}
use Rattle.std.proofs.Common.{length}
use Rattle.std.specs.Prelude.{Some, Err, cond, slice_get}
use Rattle.cjc_exported.specs.Bytes.Breaks.{Break, broken_at}
use Rattle.cjc_exported.specs.Bytes.Order.{FilePlace, file_of}
use Rattle.cjc_exported.specs.Bytes.declared.settings.FileLine.{FileLine}
use Rattle.cjc_exported.specs.ClassFile.Code.{CodeTree}
use Rattle.cjc_exported.specs.ClassFile.declared.tree.ClassTree.{ClassTree}
use Rattle.cjc_exported.specs.ClassFile.declared.tree.MethodTree.{MethodTree}
use Rattle.cjc_methods.specs.ClassOrder.Classes.Numbers.{class_count}
use Rattle.cjc_methods.specs.Clinit.Rules.{BreaksImage}
use Rattle.cjc_methods.specs.Bytecode.Decoded.{of_code}
use Rattle.cjc_methods.specs.Bytecode.PackageCodes.{all_codes}
use Rattle.cjc_judge.specs.declared.groups.Group.TheVariants as groups
use Rattle.cjc_judge.specs.declared.judged.Judged.{Judged}
use Rattle.cjc_judge.specs.Codes.{all_unsupported_insns}
use Rattle.cjc_judge.specs.Rules.{files_spelt, unsupported_break, unsupported_breaks, has_applets, settings_of}
use Rattle.cjc_judge.specs.Rules.{of_group}
use Rattle.cjc_judge.specs.Spelt.{FileTree, classes_of}
use Rattle.cjc_judge.specs.Spelt as spelt_files
use Rattle.cjc_judge.specs.Trees.{AllSpelt}
use Rattle.cjc_shape.specs.Judged.Tested.{IsOne, IsTested}
use Rattle.cjc_shape.proofs.JudgedLaws.Selected.{is_world, judged_checks, judged_int_selectable, judged_int_whole}
use Rattle.cjc_shape.proofs.JudgedLaws.Selected.{judged_names, judged_selectable, judged_whole, same_codes, same_world}
use Rattle.cjc_shape.proofs.JudgedLaws.Selected.{types}
use Rattle.cjc_methods.specs.List.Listed.{ListTree}
use Rattle.cjc_judge.proofs.Firsts.{all_spell}
use Rattle.cjc_judge.proofs.Tables.{tables_sized}
use Rattle.cjc_methods.specs.Ready.{AreReady, IsDecoded}
use Rattle.cjc_narrow_proof.specs.Laws.Unbroken.{IsUnbroken, NoneWorksOnInt}
use Rattle.cjc_narrow_proof.proofs.LawsLaws.Own.{flags_by_name}
use Rattle.cjc_methods.specs.Subset.Places.{at_method, of_class, of_method}
use Rattle.cjc_methods.specs.Tokens.Rules.{FewCells, FewExported, tested_breaks, token_breaks}
use Rattle.cjc_methods.specs.Tokens.Tokens.{assigned}
use Rattle.cjc_exported.specs.World.Files.{Files}
use Rattle.cjc_exported.specs.World.Rules.{breaks}
use Rattle.cjc_shape.specs.Prepared.{IsSound, tested}
use Rattle.cjc_shape.proofs.PreparedLaws.Limited as limited
use Rattle.cjc_shape.proofs.PreparedLaws.Decoded.{class_read, code_bytes, decoded_unless, unsupported_listed}
use Rattle.cjc_methods.proofs.ClassOrderStanding.{class_count-cons}
use Rattle.cjc_methods.proofs.BytesBrokenRules.{each_at, no_breaks}

-- ---- the lines

counted : (b : Bool) → b ≡ true → ◌≡◌ {A = ℕ} (cond b 1 0) 1
counted true e = refl
counted false e = cc

-- there are no more class files than lines of class files
pub lines_few : (lines : List FileLine) (files : List (List ℕ)) (trees : List FileTree) → AllSpelt lines files trees
    → length (classes_of trees) ≤ class_count lines
lines_few [] files trees h = let none : trees ≡ [] = h.1 in subst (λ ts. length (classes_of ts) ≤ 0) (sym none)
    (omega arith)
lines_few (line ∷ lines) [] trees h = absurd h
lines_few (line ∷ lines) (bytes ∷ files) [] h = absurd h
lines_few (line ∷ lines) (bytes ∷ files) (spelt_files.of_class tree ∷ trees) h =
    let rest = lines_few lines files trees h.1 in
    let one = counted line.class_file h.0.0 in
    let all = class_count-cons line lines in
    omega (arith, rest, one, all)
lines_few (line ∷ lines) (bytes ∷ files) (spelt_files.of_export tree ∷ trees) h =
    let rest = lines_few lines files trees h.1 in
    let all = class_count-cons line lines in
    omega (arith, rest, all)

-- ---- tables

no_break : (b : Break) → (b ∷ []) ≡ [] → ⊥
no_break b e = cc

-- ---- a package

module _ (list : ListTree) (files : List (List ℕ)) (judged : Judged) (is : IsSound list files judged) where
  pub is_tested : IsTested list files judged
  is_tested = record {
    tested = tested;
    judged_by = is.judged_by;
    limits = (2, refl);
    types = refl;
    are_files = is.are_files;
  }

  abbrev trees : List FileTree
  trees = is.judged_by.read.trees

  same : judged.world ≡ files_spelt list trees
  unfolding is_tested
  same = same_world list files judged is_tested

  pub world_unbroken : breaks list.name judged.world ≡ []
  unfolding is_tested
  world_unbroken = ap (breaks list.name) same ∙ (is_world list files judged is_tested).1

  pub listed : (let w = judged.world in length w.classes ≤ class_count w.lines)
  listed =
      let few = lines_few list.lines files trees is.judged_by.read.spelt in
      subst (λ (w : Files). length w.classes ≤ class_count w.lines) (sym same) few

  pub is_unbroken : NoneWorksOnInt judged.world judged.codes
      → IsUnbroken list.name judged.world judged.codes (settings_of list)
  is_unbroken free = record {
    listed = listed;
    world = world_unbroken;
    names = judged_names list files judged is_tested;
    checks = judged_checks list files judged is_tested;
    no_int = free;
  }

  -- ---- 401, 406 and 413

  abbrev w : Files
  w = judged.world

  pub few_exported : FewExported (has_applets list) judged.world
  few_exported = limited.few_exported list.name w judged.codes (settings_of list) (judged_checks list files judged
      is_tested)

  pub few_cells : FewCells judged.world
  few_cells = limited.few_cells list.name w judged.codes (settings_of list) (judged_checks list files judged is_tested)

  pub has_tokens : token_breaks (has_applets list) judged.world ≡ []
  unfolding is_tested
  has_tokens =
      let world = is_world list files judged is_tested in
      let none : tested_breaks (has_applets list) (files_spelt list trees) ≡ [] =
      no_breaks (tested_breaks (has_applets list) (files_spelt list trees))
      (λ b among. is.judged_by.unbroken b (of_group (3, groups.Tokens, refl, (trees, world, among)))) in
      limited.has_tokens list.name w judged.codes (settings_of list) (judged_checks list files judged is_tested)
      (ap (tested_breaks (has_applets list)) same ∙ none)

  -- they were assigned when 413 was tested
  pub are_assigned : judged.tokens ≡ Some (assigned (has_applets list) judged.world)
  are_assigned = is.judged_by.tokens refl (limited.few list.name w judged.codes (settings_of list)
      (judged_checks list files judged is_tested))

  -- ---- the methods

  not_unsupported : (n i : ℕ) (class : ClassTree) (method : MethodTree) (offset : ℕ) → slice_get (classes_of trees) n
      ≡ Some class → slice_get class.methods i ≡ Some method
      → of_code class method method.code ≡ Err (record { rule = 303; offset = offset }) → ⊥
  unfolding unsupported_breaks unsupported_break
  not_unsupported n i class method offset e f g =
      let listed = unsupported_listed offset n i (classes_of trees) class method e f g in
      let spelt = all_spell list.lines files trees is.judged_by.read.spelt in
      let none : unsupported_breaks (files_spelt list trees) (all_unsupported_insns (classes_of trees)) ≡ [] =
      no_breaks (unsupported_breaks (files_spelt list trees) (all_unsupported_insns (classes_of trees)))
      (λ b among. is.judged_by.unbroken b (of_group (0, groups.Unsupported, refl, (trees, spelt, among)))) in
      let here = each_at (λ _ x. unsupported_break (files_spelt list trees) x) listed.0 (all_unsupported_insns
      (classes_of trees)) (record { class = n; method = i; offset = offset }) none listed.1 in
      let breaks : FilePlace → ClassTree → MethodTree → List Break = λ g c m. broken_at (at_method g c i m offset) 303
      ∷ [] in
      let place : FilePlace = file_of list.lines n in
      let told : unsupported_break (files_spelt list trees) (record { class = n; method = i; offset = offset })
      ≡ broken_at (at_method place class i method offset) 303 ∷ [] =
      ap (of_class breaks place i) e ∙ ap (of_method breaks place class) f in
      no_break (broken_at (at_method place class i method offset) 303) (sym told ∙ here)

  decoded : (n i : ℕ) (class : ClassTree) (method : MethodTree) (tree : CodeTree) → slice_get w.classes n ≡ Some class
      → slice_get class.methods i ≡ Some method → method.code ≡ Some tree → IsDecoded class method tree
  decoded n i class method tree e f g =
      let there : slice_get (classes_of trees) n ≡ Some class =
      sym (ap (λ cs. slice_get cs n) is.judged_by.read.classes) ∙ e in
      let read = class_read list.lines files trees n class is.judged_by.read.spelt there in
      let d = decoded_unless class i method tree f g read.0 (λ offset broken. not_unsupported n i class method offset
      there f broken) in
      record { bytes = code_bytes class i method tree read.1 f g; insns = d.0; decodes = d.1 }

  pub are_ready : AreReady judged.world judged.codes judged.types
  are_ready = record {
    codes_are = is.judged_by.read.codes_are;
    decoded = decoded;
    found = λ n i class method e f. flags_by_name w list.name listed world_unbroken n class e i method f;
    count = tables_sized w judged.codes judged.types (is.judged_by.types refl);
    each = λ k code table is_code is_table class method tree is_method.
        let one : IsOne judged code class method tree table = record {
          place = k;
          is_code = is_code;
          is_table = is_table;
          is_method = is_method;
        } in
        record {
          types = types list files judged is_tested code class method tree table one;
          selectable = judged_selectable list files judged is_tested code class method tree table one;
          whole = judged_whole list files judged is_tested code class method tree table one;
          int_selectable = judged_int_selectable list files judged is_tested code class method tree table one;
          int_whole = judged_int_whole list files judged is_tested code class method tree table one;
        };
  }

  -- ---- 308

  pub no_image_break : (b : Break) → BreaksImage judged.world judged.codes b → ⊥
  unfolding is_tested
  no_image_break b broken =
      let there : BreaksImage (files_spelt list trees) (all_codes (classes_of trees)) b =
      subst (λ cs. BreaksImage (files_spelt list trees) cs b) (same_codes list files judged is_tested)
      (subst (λ v. BreaksImage v judged.codes b) same broken) in
      is.judged_by.unbroken b (of_group (
        1,
        groups.Initialisers,
        refl,
        (
          trees,
          is_world list files judged is_tested,
          there,
        ),
      ))
