-- A package of files that were judged, by the modes of its methods, where its files break no rule.
use Rattle.std.proofs.Common.{◌≡◌, ℕ, refl, sym, ap, subst, ◌∙◌, arith, Bool, true, false, List, inr}
use Rattle.std.proofs.Common.{⊎_elim}
use Rattle.std.specs.Prelude.{not, ◌&&◌, Option, Some, None, slice_get}
use Rattle.std.specs.List.{Contains}
use Rattle.std.proofs.lemmas.Option.{slice_get-get_or, slice_get_cases, slice_get_within}
use Rattle.cjc_bytes.specs.Breaks.{Break}
use Rattle.cjc_bytes.specs.declared.breaks.BrokenAt.{BrokenAt}
use Rattle.cjc_check_proof.specs.TokenProof.WrittenSends.Sends.{ExportsSend}
use Rattle.cjc_classes.specs.JvmSemantics.Linked.{Method}
use Rattle.cjc_classes.specs.JvmSemantics.OnePackage.{is_initialiser, method_by}
use Rattle.cjc_classes.specs.List.Listed.{ListTree}
use Rattle.cjc_classes.specs.Types.Flow.{Body, body_of}
use Rattle.cjc_classes.specs.Types.Tables.{Breach, IsMethodOf, IsTypeTable, rows_of}
use Rattle.cjc_classes.specs.Types.declared.table.TypeTable.{TypeTable}
use Rattle.cjc_components.specs.Bytecode.PackageCodes.{all_codes}
use Rattle.cjc_components.specs.Bytecode.declared.method_code.MethodCode.{MethodCode}
use Rattle.cjc_components.specs.Package.{Package}
use Rattle.cjc_int_components.specs.Modes.{AreLeast, AreModes, Tables}
use Rattle.cjc_int_narrow.specs.LowerIntMode.Modes.{IsModeOf, binds}
use Rattle.cjc_int_narrow.specs.LowerIntMode.declared.modes.Mode.{Mode}
use Rattle.cjc_int_narrow.specs.LowerIntMode.declared.modes.Mode.TheVariants as modes
use Rattle.cjc_check_proof.specs.TokenProof.WrittenCalls.Standing.{AreMethods}
use Rattle.cjc_int_components.proofs.Words.{methods_are}
use Rattle.cjc_int_theorem.specs.Alike.{IsJudgedByModes, IsPassedByModes}
use Rattle.cjc_int_theorem.specs.ByModes.{AreTypedByTables, IsConvertedByModes}
use Rattle.cjc_narrow_proof.proofs.TypesLeast.{one_least}
use Rattle.cjc_shape_proof.proofs.WrittenLaws.Coded.{listed}
use Rattle.cjc_shape_proof.proofs.WrittenLaws.Files.{judged_checked}
use Rattle.cjc_shape_proof.specs.Written.Checked.{IsChecked}
use Rattle.cjc_shape_proof.proofs.FlowFirst.{first_broken, nothing_broken}
use Rattle.cjc_shape_proof.proofs.ShapeSelected.{is_world, same_codes, same_world}
use Rattle.cjc_shape_proof.proofs.ShapeSound.{are_ready}
use Rattle.cjc_shape_proof.specs.Flow.Tests.Breaches.{FirstBreach, IsFirstBroken, NoBreach}
use Rattle.cjc_shape_proof.specs.Flow.Tests.Working.Search.{first_from}
use Rattle.cjc_shape_proof.specs.Flow.declared.tests.passing.Tested.TheVariants as tests
use Rattle.cjc_shape_proof.specs.LowerJudge.Rules.{BreaksAnyRange, files_spelt, method_break, of_group}
use Rattle.cjc_shape_proof.specs.LowerJudge.Spelt.{FileTree, classes_of}
use Rattle.cjc_shape_proof.specs.LowerJudge.declared.groups.Group.TheVariants as groups
use Rattle.cjc_shape_proof.specs.LowerJudge.declared.judged.Judged.{Judged}
use Rattle.cjc_shape_proof.specs.LowerShape.Judged.Tested.{IsTested}
use Rattle.cjc_shape_proof.specs.LowerShape.Prepared.{IsSound, tested}
use Rattle.cjc_world.specs.ClassFile.Code.{CodeTree}
use Rattle.cjc_world.specs.ClassFile.declared.tree.ClassTree.{ClassTree}
use Rattle.cjc_world.specs.ClassFile.declared.tree.MethodTree.{MethodTree}
use Rattle.cjc_world.specs.Classes.{all_classes}
use Rattle.cjc_world.specs.Files.{Files}

and_true : (b : Bool) → (b && true) ≡ b
and_true true = refl
and_true false = refl

module _ (list : ListTree) (files : List (List ℕ)) (judged : Judged) (is : IsSound list files judged) where
  abbrev trees : List FileTree
  trees = is.judged_by.read.trees

  abbrev is_tested : IsTested list files judged
  is_tested = record {
    tested = tested;
    judged_by = is.judged_by;
    limits = (2, refl);
    types = refl;
    are_files = is.are_files;
  }

  -- 601 to 609
  no_range_break : (b : Break) → BreaksAnyRange list.ints judged.world judged.codes b → ⊥
  no_range_break b broken =
      let there : BreaksAnyRange list.ints (files_spelt list trees) (all_codes (classes_of trees)) b =
      subst (λ cs. BreaksAnyRange list.ints (files_spelt list trees) cs b) (same_codes list files judged is_tested)
      (subst (λ v. BreaksAnyRange list.ints v judged.codes b) (same_world list files judged is_tested) broken) in
      is.judged_by.unbroken b (of_group (
        4,
        groups.Ranges,
        refl,
        inr (
          trees,
          is_world list files judged is_tested,
          there,
        ),
      ))

  code_at : (code : MethodCode) → Contains judged.codes code → (k : ℕ) × (slice_get judged.codes k ≡ Some code)
  code_at code (n, lt, same) = (n, slice_get-get_or judged.codes n code lt ∙ ap Some same)

  -- the table that was found of a method
  pub table_is : (code : MethodCode) (class : ClassTree) (method : MethodTree) (tree : CodeTree)
      → IsMethodOf judged.world code class method tree → Contains judged.codes code → (table : TypeTable)
      × IsTypeTable (all_classes judged.world) (body_of class method tree code.insns) table
  table_is code class method tree of listed =
      let ready = are_ready list files judged is in
      let (k, there) = code_at code listed in
      let within = slice_get_within judged.codes k code there in
      let count = ready.count in
      ⊎_elim
      (λ found. (found.0, (ready.each k code found.0 there found.2 class method tree of).types))
      (λ past. absurd (let le = past.0 in omega (arith, le, within, count)))
      (slice_get_cases judged.types k).1

  module _ (t : Tables) (least : AreLeast judged.world t) (are : AreModes list.ints judged.world t)
      (typed : (code : MethodCode) (class : ClassTree) (method : MethodTree) (tree : CodeTree)
      → IsMethodOf judged.world code class method tree → (place rule : ℕ) → Breach (all_classes judged.world)
      (body_of class method tree code.insns) (t.types (method_by class method (Some tree))) place rule → ⊥)
      (code : MethodCode) (class : ClassTree) (method : MethodTree) (tree : CodeTree)
      (of : IsMethodOf judged.world code class method tree) (listed : Contains judged.codes code)
      (plain : is_initialiser method.name ≡ false) where
    abbrev x : Method
    x = method_by class method (Some tree)

    abbrev body : Body
    body = body_of class method tree code.insns

    among : Contains (all_codes (let w = judged.world in w.classes)) code
    among = let ready = are_ready list files judged is in subst (λ cs. Contains cs code) ready.codes_are listed

    -- a rule that binds the mode of the method, first broken, is a break
    not_broken : (mode : Mode) → t.mode x ≡ mode → (place rule : ℕ) → FirstBreach (binds mode) body (t.types x)
        (t.ranges x) place rule → ⊥
    not_broken mode e place rule first =
        let there = code_at code listed in
        let broken : BrokenAt = record { rule = rule; offset = (let b = first.breach in let i = b.insn in i.at) } in
        let found : IsFirstBroken (binds mode) body (t.types x) (t.ranges x) broken = record {
          place = place;
          first = first;
          is = refl;
        } in
        let both = least code class method tree among of in
        no_range_break (method_break judged.world code class method broken) (
          there.0,
          code,
          there.1,
          record {
            class = class;
            method = method;
            tree = tree;
            of_package = of;
            broken = broken;
            breaks = record {
              types = t.types x;
              typed = both.0;
              unbroken = typed code class method tree of;
              ranges = t.ranges x;
              least = both.1;
              mode = mode;
              is_mode = subst (λ ints. IsModeOf ints body (t.types x) (t.ranges x) mode)
                  (sym (ap (λ b. list.ints && not b) plain ∙ and_true list.ints))
                  (subst (IsModeOf list.ints body (t.types x) (t.ranges x)) e
                  (are.with_code code class method tree among of plain));
              first = found;
            };
            is = refl;
          },
        )

    pub passes : (mode : Mode) → t.mode x ≡ mode → NoBreach (binds mode) body (t.types x) (t.ranges x)
    passes modes.Short e = by (first_from tests.All body 0 code.insns (t.types x) (t.ranges x)) refl
      where
        by : (o : Option _) → first_from tests.All body 0 code.insns (t.types x) (t.ranges x) ≡ o
            → NoBreach (binds modes.Short) body (t.types x) (t.ranges x)
        by None none = nothing_broken tests.All body (t.types x) (t.ranges x) none
        by (Some f) some = absurd (not_broken modes.Short e f.place f.rule
            (first_broken tests.All body (t.types x) (t.ranges x) f some))
    passes modes.Int e = by (first_from tests.Values body 0 code.insns (t.types x) (t.ranges x)) refl
      where
        by : (o : Option _) → first_from tests.Values body 0 code.insns (t.types x) (t.ranges x) ≡ o
            → NoBreach (binds modes.Int) body (t.types x) (t.ranges x)
        by None none = nothing_broken tests.Values body (t.types x) (t.ranges x) none
        by (Some f) some = absurd (not_broken modes.Int e f.place f.rule
            (first_broken tests.Values body (t.types x) (t.ranges x) f some))

  -- ---- the package

  -- a method of these files, by tables of no broken rule of types
  abbrev AreTypedIn : Tables → Files → Type 0
  AreTypedIn t w =
      (code : MethodCode) (class : ClassTree) (method : MethodTree) (tree : CodeTree)
      → IsMethodOf w code class method tree → (place rule : ℕ) → Breach (all_classes w)
      (body_of class method tree code.insns) (t.types (method_by class method (Some tree))) place rule → ⊥

  pub passed : (t : Tables) (p : Package) → p.files ≡ judged.world → IsConvertedByModes list judged.codes t p
      → ExportsSend p → IsPassedByModes list judged.codes t p
  passed t p same converted sends = record {
    converted = converted;
    sends = sends;
    tables = subst (λ w. (code : MethodCode) (class : ClassTree) (method : MethodTree) (tree : CodeTree)
        → IsMethodOf w code class method tree → Contains judged.codes code → (table : TypeTable)
        × IsTypeTable (all_classes w) (body_of class method tree code.insns) table) (sym same) table_is;
    passes = subst (λ w. (code : MethodCode) (class : ClassTree) (method : MethodTree) (tree : CodeTree)
        → IsMethodOf w code class method tree → Contains judged.codes code → is_initialiser method.name ≡ false
        → NoBreach (binds (t.mode (method_by class method (Some tree)))) (body_of class method tree code.insns)
        (t.types (method_by class method (Some tree))) (t.ranges (method_by class method (Some tree)))) (sym same)
        (λ code class method tree of listed plain. passes t (subst (λ w. AreLeast w t) same converted.least)
        (subst (λ w. AreModes list.ints w t) same converted.modes) (subst (AreTypedIn t) same converted.typed) code
        class method tree of listed plain (t.mode (method_by class method (Some tree))) refl);
  }

-- ---- a package of a list and its files

module _ (list : ListTree) (files : List (List ℕ)) (judged : Judged) (t : Tables) (p : Package)
    (is : IsJudgedByModes list files judged t p) where
  checked : IsChecked list judged.codes p
  checked = judged_checked list files judged p is.read is.sound is.same is.exports is.plain is.agree

  own_methods : AreMethods p
  own_methods = methods_are list p.files judged.codes t p is.is_package

  tables : (code : MethodCode) (class : ClassTree) (method : MethodTree) (tree : CodeTree)
      → IsMethodOf p.files code class method tree → Contains judged.codes code → (table : TypeTable)
      × IsTypeTable (all_classes p.files) (body_of class method tree code.insns) table
  tables = subst (λ w. (code : MethodCode) (class : ClassTree) (method : MethodTree) (tree : CodeTree)
      → IsMethodOf w code class method tree → Contains judged.codes code → (table : TypeTable)
      × IsTypeTable (all_classes w) (body_of class method tree code.insns) table) (sym is.same)
      (table_is list files judged is.sound)

  typed : AreTypedByTables t p
  typed code class method tree of place rule breach =
      let among = listed list judged.codes p checked own_methods code class method tree of in
      let table = tables code class method tree of among in
      let body = body_of class method tree code.insns in
      let x = method_by class method (Some tree) in
      let own = is.least code class method tree (subst (λ cs. Contains cs code) checked.codes_are among) of in
      let one : t.types x ≡ rows_of body table.0 = one_least body (t.types x) (rows_of body table.0) own.0
      table.1.stands.least in
      table.1.unbroken place rule (subst (λ rows. Breach (all_classes p.files) body rows place rule) one breach)

  pub converted : IsConvertedByModes list judged.codes t p
  converted = record {
    checked = checked;
    is_package = is.is_package;
    least = is.least;
    modes = is.modes;
    typed = typed;
    words = is.words;
    forms = is.forms;
    sizes = is.sizes;
  }

  pub judged_passed : IsPassedByModes list judged.codes t p
  judged_passed = passed list files judged is.sound t p is.same converted is.sends
