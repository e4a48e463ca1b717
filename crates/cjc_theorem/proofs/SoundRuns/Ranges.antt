-- The numbers of a package that was tested for 601 to 609 and breaks none of them lie where their rules say, where none
-- of its methods is in int mode.
use Rattle.std.proofs.Common.{◌≡◌, ℕ, refl, subst, List, inr}
use Rattle.std.specs.Prelude.{Option, Some, None, slice_get}
use Rattle.cjc_bytes.specs.Breaks.{Break}
use Rattle.cjc_bytes.specs.declared.breaks.BrokenAt.{BrokenAt}
use Rattle.cjc_world.specs.ClassFile.Code.{CodeTree}
use Rattle.cjc_world.specs.ClassFile.declared.tree.ClassTree.{ClassTree}
use Rattle.cjc_world.specs.ClassFile.declared.tree.MethodTree.{MethodTree}
use Rattle.cjc_components.specs.Bytecode.PackageCodes.{all_codes}
use Rattle.cjc_components.specs.Bytecode.declared.method_code.MethodCode.{MethodCode}
use Rattle.cjc_shape_proof.specs.LowerJudge.declared.groups.Group.TheVariants as groups
use Rattle.cjc_shape_proof.specs.LowerJudge.declared.judged.Judged.{Judged}
use Rattle.cjc_shape_proof.specs.LowerJudge.Rules.{BreaksAnyRange, files_spelt, method_break, of_group}
use Rattle.cjc_shape_proof.specs.LowerJudge.Spelt.{FileTree, classes_of}
use Rattle.cjc_shape_proof.proofs.ShapeModes.{in_short_mode}
use Rattle.cjc_shape_proof.proofs.ShapeSelected.{is_world, same_codes, same_world}
use Rattle.cjc_token_proof.specs.List.Listed.{ListTree}
use Rattle.cjc_token_proof.specs.Narrow.Rows.Resolved.{constant_named}
use Rattle.cjc_shape_proof.specs.Flow.Tests.Breaches.{IsFirstBroken}
use Rattle.cjc_shape_proof.specs.LowerIntPackage.LowerIntMode.Modes.{binds}
use Rattle.cjc_shape_proof.specs.LowerIntPackage.LowerIntMode.declared.modes.Mode.TheVariants as modes
use Rattle.cjc_shape_proof.specs.Flow.Tests.Working.Search.{first_from}
use Rattle.cjc_shape_proof.specs.Flow.declared.tests.passing.Tested.TheVariants as tests
use Rattle.cjc_shape_proof.proofs.FlowFirst.{all_pass, first_broken, first_of_all, nothing_broken}
use Rattle.cjc_shape_proof.specs.LowerShape.Judged.Tested.{IsTested}
use Rattle.cjc_shape_proof.specs.LowerShape.Prepared.{IsSound, tested}
use Rattle.cjc_shape_proof.specs.LowerShape.Whole.Conversion.{AreShort}
use Rattle.cjc_shape_proof.specs.Intervals.Frames.{RangeState}
use Rattle.cjc_shape_proof.specs.Intervals.Tables.{IsLeastRanges, Passes}
use Rattle.cjc_token_proof.specs.Types.declared.state.State.{State}
use Rattle.cjc_token_proof.specs.Types.declared.table.TypeTable.{TypeTable}
use Rattle.cjc_token_proof.specs.Types.Flow.{Body, body_of}
use Rattle.cjc_token_proof.specs.Types.Tables.{IsMethodOf, IsTypeTable, rows_of}
use Rattle.cjc_world.specs.Classes.{all_classes}

module _ (list : ListTree) (files : List (List ℕ)) (judged : Judged) (is : IsSound list files judged) where
  abbrev trees : List FileTree
  trees = is.judged_by.read.trees

  abbrev is_tested : IsTested list files judged
  is_tested = record {
    tested = tested;
    judged_by = is.judged_by;
    limits = (2, refl);
    types = refl;
    are_files = is.are_files;
  }

  -- 601 to 609
  no_range_break : (b : Break) → BreaksAnyRange list.ints judged.world judged.codes b → ⊥
  no_range_break b broken =
      let there : BreaksAnyRange list.ints (files_spelt list trees) (all_codes (classes_of trees)) b =
      subst (λ cs. BreaksAnyRange list.ints (files_spelt list trees) cs b) (same_codes list files judged is_tested)
      (subst (λ v. BreaksAnyRange list.ints v judged.codes b) (same_world list files judged is_tested) broken) in
      is.judged_by.unbroken b (of_group (
        4,
        groups.Ranges,
        refl,
        inr (
          trees,
          is_world list files judged is_tested,
          there,
        ),
      ))

  module _ (k : ℕ) (code : MethodCode) (is_code : slice_get judged.codes k ≡ Some code) (class : ClassTree)
      (method : MethodTree) (tree : CodeTree) (of : IsMethodOf judged.world code class method tree)
      (short : AreShort list.ints judged.world) where
    abbrev body : Body
    body = body_of class method tree code.insns

    pub ranges_pass : (table : TypeTable) → IsTypeTable (all_classes judged.world) body table
        → (ranges : List (Option RangeState))
        → IsLeastRanges body (constant_named judged.world (all_classes judged.world)) (rows_of body table) ranges
        → Passes body (rows_of body table) ranges
    ranges_pass table is_table ranges least = by (first_from tests.All body 0 code.insns types ranges) refl
      where
        types : List (Option State)
        types = rows_of body table

        by : (o : Option _) → first_from tests.All body 0 code.insns types ranges ≡ o → Passes body types ranges
        by None e = all_pass body types ranges (nothing_broken tests.All body types ranges e)
        by (Some f) e =
            let first = first_of_all body types ranges f.place f.rule (first_broken tests.All body types ranges f e) in
            let broken : BrokenAt = record { rule = f.rule; offset = (let b = first.breach in let i = b.insn in i.at) }
            in
            let found : IsFirstBroken (binds modes.Short) body types ranges broken = record {
              place = f.place;
              first = record {
                is_wanted = refl;
                breach = first.breach;
                first = λ place rule wanted breach. first.first place rule breach;
              };
              is = refl;
            } in
            absurd (no_range_break (method_break judged.world code class method broken) (
              k,
              code,
              is_code,
              record {
                class = class;
                method = method;
                tree = tree;
                of_package = of;
                broken = broken;
                breaks = record {
                  types = types;
                  typed = is_table.stands.least;
                  unbroken = is_table.unbroken;
                  ranges = ranges;
                  least = least;
                  mode = modes.Short;
                  is_mode = in_short_mode list files judged is short k code is_code class method tree of types
                      is_table.stands.least ranges least;
                  first = found;
                };
                is = refl;
              },
            ))
