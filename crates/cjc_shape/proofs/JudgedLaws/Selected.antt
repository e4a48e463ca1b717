-- The methods of a package that was tested keep the rules that selection rests on.
use Rattle.std.proofs.Common.{◌≡◌, ℕ, zero, suc, refl, sym, ap, subst, ◌∙◌, List, [], ◌∷◌, slice_get, Some, true, false}
use Rattle.std.specs.Prelude.{Option}
use Rattle.std.proofs.lemmas.Option.{get_or_from_slice_get, slice_get_within}
use Rattle.cjc_exported.specs.Bytes.Format.{FileSpells}
use Rattle.cjc_exported.specs.Bytes.declared.fault.MemberId.{MemberId}
use Rattle.cjc_exported.specs.Bytes.declared.settings.FileLine.{FileLine}
use Rattle.cjc_exported.specs.ClassFile.ClassFile.{class_file}
use Rattle.cjc_exported.specs.ClassFile.Code.{CodeTree}
use Rattle.cjc_exported.specs.ClassFile.declared.tree.ClassTree.{ClassTree}
use Rattle.cjc_exported.specs.ClassFile.declared.tree.MethodTree.{MethodTree}
use Rattle.cjc_methods.specs.Bytecode.PackageCodes.{all_codes}
use Rattle.cjc_methods.specs.Bytecode.declared.method_code.MethodCode.{MethodCode}
use Rattle.cjc_judge.specs.declared.groups.Group.TheVariants as groups
use Rattle.cjc_judge.specs.declared.judged.Judged.{Judged}
use Rattle.cjc_narrow_proof.specs.ExportFile.Writable.{IsWritable}
use Rattle.cjc_narrow_proof.specs.ExportFile.declared.tree.ExportTree.{ExportTree}
use Rattle.cjc_judge.specs.Rules.{AreWorld, files_spelt, of_group, of_names, of_world, settings_of, world_files}
use Rattle.cjc_judge.specs.Spelt.{FileTree, classes_of, exports_of, of_class, of_export}
use Rattle.cjc_judge.specs.Trees.{AllSpelt}
use Rattle.cjc_judge.specs.Types.{AreTables, IsTableOf}
use Rattle.cjc_methods.specs.Layout.Layouts.{IsWhole}
use Rattle.cjc_methods.specs.List.Listed.{ListTree}
use Rattle.cjc_int_narrow.proofs.Stands.{int_code_whole}
use Rattle.cjc_int_narrow.specs.Select.{IsSelectable as IsIntSelectable}
use Rattle.cjc_int_selection.proofs.Selectable.{int_selectable}
use Rattle.cjc_intervals.specs.Frames.{RangeState}
use Rattle.cjc_judge.proofs.Firsts.{all_spell}
use Rattle.cjc_methods.specs.LowerIntPackage.LowerIntMode.Room.{IsRoom}
use Rattle.cjc_methods.specs.LowerIntPackage.LowerIntMode.Written.{written_in_int_mode}
use Rattle.cjc_methods.specs.LowerIntPackage.LowerIntMode.declared.modes.Mode.TheVariants as modes
use Rattle.cjc_methods.specs.Narrow.Rows.Resolved.{resolution}
use Rattle.cjc_methods.specs.Narrow.Rows.Selected.{selected_code}
use Rattle.cjc_methods.specs.Narrow.Select.Select.{IsSelectable}
use Rattle.cjc_narrow_proof.specs.Selected.Keeps.{IsSpelt, KeepsRules}
use Rattle.cjc_narrow_proof.proofs.SelectedLaws.Selectable.{selectable}
use Rattle.cjc_narrow_proof.proofs.SelectedLaws.Whole.{selected_whole}
use Rattle.cjc_methods.specs.Subset.Checks.{check_breaks}
use Rattle.cjc_methods.specs.Subset.Ints.{code_works_on_int}
use Rattle.cjc_methods.specs.Subset.Names.{name_breaks}
use Rattle.cjc_methods.specs.Types.declared.table.TypeTable.{TypeTable}
use Rattle.cjc_methods.specs.Types.Flow.{body_of}
use Rattle.cjc_methods.specs.Types.Tables.{IsLeastTable, IsTypeTable}
use Rattle.cjc_exported.specs.World.Classes.{all_classes}
use Rattle.cjc_exported.specs.World.Files.{Files}
use Rattle.cjc_exported.specs.World.Supertypes.{IsAcyclic}
use Rattle.cjc_exported.specs.World.Rules.{breaks}
use Rattle.cjc_methods.proofs.WorldUnbroken.{unbroken_is_acyclic}
use Rattle.cjc_methods.specs.Narrow.Written.Rows.{has_rows, rows_by}
use Rattle.cjc_shape.specs.Judged.Tested.{IsOne, IsTested, states}
use Rattle.cjc_methods.proofs.BytesBrokenRules.{no_breaks}

-- ---- lists

-- the file of a class
class_spelt : (lines : List FileLine) (files : List (List ℕ)) (trees : List FileTree) (k : ℕ) (class : ClassTree)
    → AllSpelt lines files trees → slice_get (classes_of trees) k ≡ Some class
    → (n : ℕ) × (bytes : List ℕ) × (slice_get files n ≡ Some bytes) × FileSpells class_file class bytes
class_spelt [] files trees k class h e = let none : trees ≡ [] = h.1
    in absurd (no_class k class (sym (ap (λ ts. slice_get (classes_of ts) k) none) ∙ e))
  where
    no_class : (k : ℕ) (class : ClassTree) → slice_get (classes_of []) k ≡ Some class → ⊥
    no_class k class e = cc
class_spelt (line ∷ lines) [] trees k class h e = absurd h
class_spelt (line ∷ lines) (bytes ∷ files) [] k class h e = absurd h
class_spelt (line ∷ lines) (bytes ∷ files) (of_class tree ∷ trees) zero class h e =
    let same : tree ≡ class = cc in (0, bytes, refl, subst (λ t. FileSpells class_file t bytes) same h.0.1)
class_spelt (line ∷ lines) (bytes ∷ files) (of_class tree ∷ trees) (suc k) class h e = let f =
    class_spelt lines files trees k class h.1 e in (suc f.0, f.1, f.2, f.3)
class_spelt (line ∷ lines) (bytes ∷ files) (of_export tree ∷ trees) k class h e = let f =
    class_spelt lines files trees k class h.1 e in (suc f.0, f.1, f.2, f.3)

-- what holds of each pair of two lists
AllBoth : {A B : Type 0} → (A → B → Type 0) → List A → List B → Type 0
AllBoth P [] ys = Unit {0}
AllBoth P (x ∷ xs) [] = ⊥
AllBoth P (x ∷ xs) (y ∷ ys) = P x y × AllBoth P xs ys

both_at : {A B : Type 0} (P : A → B → Type 0) (xs : List A) (ys : List B) (k : ℕ) (x : A) (y : B) → AllBoth P xs ys
    → slice_get xs k ≡ Some x → slice_get ys k ≡ Some y → P x y
unfolding AllBoth
both_at P [] ys k x y h e f = cc
both_at P (a ∷ xs) [] k x y h e f = absurd h
both_at P (a ∷ xs) (b ∷ ys) zero x y h e f =
    let same_left : a ≡ x = cc in
    let same_right : b ≡ y = cc in
    subst (λ c. P c y) same_left (subst (P a) same_right h.0)
both_at P (a ∷ xs) (b ∷ ys) (suc k) x y h e f = both_at P xs ys k x y h.1 e f

tables_both : (world : Files) (codes : List MethodCode) (tables : List TypeTable) → AreTables world codes tables
    → AllBoth (IsTableOf world) codes tables
unfolding AllBoth
tables_both world [] tables h = tt
tables_both world (c ∷ codes) [] h = h
tables_both world (c ∷ codes) (t ∷ tables) h = (h.0, tables_both world codes tables h.1)

export_at : (lines : List FileLine) (files : List (List ℕ)) (trees : List FileTree) → AllSpelt lines files trees
    → (k : ℕ) (t : ExportTree) → slice_get (exports_of trees) k ≡ Some t → IsWritable t
export_at [] files trees h k t e = let none : trees ≡ [] = h.1
    in absurd (no_export k t (sym (ap (λ ts. slice_get (exports_of ts) k) none) ∙ e))
  where
    no_export : (k : ℕ) (t : ExportTree) → slice_get (exports_of []) k ≡ Some t → ⊥
    no_export k t e = cc
export_at (line ∷ lines) [] trees h k t e = absurd h
export_at (line ∷ lines) (bytes ∷ files) [] h k t e = absurd h
export_at (line ∷ lines) (bytes ∷ files) (of_class tree ∷ trees) h k t e = export_at lines files trees h.1 k t e
export_at (line ∷ lines) (bytes ∷ files) (of_export tree ∷ trees) h zero t e = let same : tree ≡ t = cc
    in subst IsWritable same h.0.2
export_at (line ∷ lines) (bytes ∷ files) (of_export tree ∷ trees) h (suc k) t e = export_at lines files trees h.1 k t e

-- ---- the package

module _ (list : ListTree) (files : List (List ℕ)) (judged : Judged) (is : IsTested list files judged) where
  abbrev trees : List FileTree
  trees = is.judged_by.read.trees

  -- its world is what the files spell
  pub same_world : judged.world ≡ files_spelt list trees
  same_world = is.judged_by.world ∙ ap (λ cs. world_files list cs judged.world.exports) is.judged_by.read.classes
      ∙ ap (world_files list (classes_of trees)) is.judged_by.read.exports

  pub is_world : AreWorld list files trees
  is_world =
      let spelt = all_spell list.lines files trees is.judged_by.read.spelt in (
        spelt,
        no_breaks (breaks list.name (files_spelt list trees)) (λ b among. is.judged_by.unbroken b
            (of_world (trees, spelt, among))),
      )

  -- its export files can be written
  pub judged_writable : (k : ℕ) (t : ExportTree) → slice_get judged.world.exports k ≡ Some t → IsWritable t
  judged_writable k t e = export_at list.lines files trees is.judged_by.read.spelt k t
      (sym (ap (λ ts. slice_get ts k) is.judged_by.read.exports) ∙ e)

  pub same_codes : judged.codes ≡ all_codes (classes_of trees)
  same_codes = is.judged_by.read.codes_are ∙ ap all_codes is.judged_by.read.classes

  -- no class stands above itself
  pub judged_acyclic : IsAcyclic (all_classes judged.world)
  judged_acyclic = unbroken_is_acyclic list.name judged.world (ap (breaks list.name) same_world ∙ is_world.1)

  -- what instructions name is there and fits them
  pub judged_names : name_breaks judged.world judged.codes ≡ []
  judged_names =
      ap (λ w. name_breaks w judged.codes) same_world
      ∙ ap (name_breaks (files_spelt list trees)) same_codes
      ∙ no_breaks (name_breaks (files_spelt list trees) (all_codes (classes_of trees)))
      (λ b among. is.judged_by.unbroken b (of_names (trees, is_world, among)))

  pub judged_checks : check_breaks list.name judged.world judged.codes (settings_of list) ≡ []
  judged_checks =
      let none = no_breaks (check_breaks list.name (files_spelt list trees) (all_codes (classes_of trees))
      (settings_of list))
      (λ b among. is.judged_by.unbroken b (of_group (
        is.limits.0,
        groups.Limits,
        is.limits.1,
        (trees, is_world, among),
      ))) in
      ap (λ w. check_breaks list.name w judged.codes (settings_of list)) same_world
      ∙ ap (λ cs. check_breaks list.name (files_spelt list trees) cs (settings_of list)) same_codes
      ∙ none

  -- files spell its classes
  pub classes_spelt : (n : ℕ) (class : ClassTree) → slice_get judged.world.classes n ≡ Some class
      → (bytes : List ℕ) × IsSpelt class bytes
  classes_spelt n class e =
      let there : slice_get (classes_of trees) n ≡ Some class = sym (ap (λ cs. slice_get cs n)
      is.judged_by.read.classes) ∙ e in
      let found = class_spelt list.lines files trees n class is.judged_by.read.spelt there in
      let file = is.are_files found.0 found.1 found.2 in
      (found.1, record { in_bytes = file.0; short = file.1; spelt = found.3 })

  module _ (code : MethodCode) (class : ClassTree) (method : MethodTree) (tree : CodeTree) (table : TypeTable)
      (one : IsOne judged code class method tree table) where
    pub types : IsTypeTable (all_classes judged.world) (body_of class method tree code.insns) table
    types = both_at (IsTableOf judged.world) judged.codes judged.types one.place code table (tables_both judged.world
        judged.codes judged.types (is.judged_by.types is.types)) one.is_code one.is_table class method tree
        one.is_method

    least : IsLeastTable (body_of class method tree code.insns) (states code class method tree table)
    least = types.stands.least

    keeps : code_works_on_int judged.world code ≡ false → KeepsRules list.name judged.world judged.codes
        (settings_of list) code (body_of class method tree code.insns) (states code class method tree table)
    keeps free = record {
      unbroken = judged_checks;
      no_int = free;
      listed = (
        one.place,
        slice_get_within judged.codes one.place code one.is_code,
        get_or_from_slice_get judged.codes
            one.place code code one.is_code,
      );
      typed = types.unbroken;
    }

    -- its file spells its class
    pub class_file_spelt : (bytes : List ℕ) × IsSpelt class bytes
    class_file_spelt = classes_spelt code.class class one.is_method.is_class

    pub judged_selectable : code_works_on_int judged.world code ≡ false → IsSelectable method tree code.insns
        (has_rows (states code class method tree table))
    judged_selectable free = selectable judged.world code class method tree one.is_method class_file_spelt.0
        class_file_spelt.1 list.name judged.codes (settings_of list) (states code class method tree table) least
        (keeps free)

    pub judged_int_selectable : IsRoom (body_of class method tree code.insns) (states code class method tree table)
        modes.Int true → IsIntSelectable (body_of class method tree code.insns) (states code class method tree table)
    judged_int_selectable room = int_selectable judged.world code class method tree one.is_method class_file_spelt.0
        class_file_spelt.1 (states code class method tree table) least types.unbroken room

    pub judged_int_whole : (near : List MemberId) (ranges : List (Option RangeState))
        → IsWhole (written_in_int_mode (resolution judged.world near class.name) tree
        (body_of class method tree code.insns) (states code class method tree table) ranges)
    judged_int_whole near ranges = int_code_whole judged.world code class method tree one.is_method
        (states code class method tree table) least ranges (resolution judged.world near class.name)

    pub judged_whole : (near : List MemberId) → IsWhole (selected_code judged.world near class method tree code.insns
        (rows_by (has_rows (states code class method tree table))))
    judged_whole near = selected_whole judged.world code class method tree one.is_method (states code class method tree
        table) least near
