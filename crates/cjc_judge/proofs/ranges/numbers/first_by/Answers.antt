use Rattle.std.proofs.Common.{◌≡◌, sym, ap, ◌∙◌, subst, List, Option}
use Rattle.cjc_world.specs.ClassFile.Code.{CodeTree}
use Rattle.cjc_world.specs.ClassFile.declared.tree.ClassTree.{ClassTree}
use Rattle.cjc_world.specs.ClassFile.declared.tree.MethodTree.{MethodTree}
use Rattle.cjc_narrow.specs.Types.declared.state.State.{State}
use Rattle.cjc_narrow.specs.Types.Flow.{Body, body_of}
use Rattle.cjc_narrow.specs.Types.Tables.{IsMethodOf, rows_of}
use Rattle.cjc_flow.specs.Constants.{values_of}
use Rattle.cjc_flow.specs.Tables.{IsRangeTable}
use Rattle.cjc_flow.specs.Working.Kept.{Ranged}
use Rattle.cjc_world.specs.Files.{Files}
use Rattle.cjc_judge.specs.OutOfRange.{constants_of}
use Rattle.cjc_judge.proofs.RangesLaws.AreNumbers.{constants_are_numbers}
use Rattle.cjc_judge.proofs.RangesLaws.OneFirst.{answer_is_out, out_is_answered}
use Rattle.cjc_judge.proofs.ranges.numbers.first_by.Goals as goal

pub passes-requires-clause-body : goal.passes-requires-clause-body
passes-requires-clause-body c = λ k m t of. ap (λ (r : Ranged). r.body) (c.requires.ranging k m t of)

pub passes-requires-clause-rows : goal.passes-requires-clause-rows
passes-requires-clause-rows c = λ k m t of. ap (λ (r : Ranged). r.types) (c.requires.ranging k m t of)

-- the values are those that the constants of the package give
values_are : (files : Files) (r : Ranged) (body : Body) (types : List (Option State)) → r ≡ record {
  body = body;
  values = values_of (constants_of files) body.insns;
  types = types;
}
    → r.values ≡ values_of (constants_of files) r.body.insns
values_are files r body types is = ap (λ (s : Ranged). s.values) is ∙ ap (λ (s : Ranged). let b = s.body
    in values_of (constants_of files) b.insns) (sym is)

pub passes-requires-clause-table : goal.passes-requires-clause-table
passes-requires-clause-table c =
    let files = c.args.world.now in
    let of = c.requires.code in
    let values = values_are files c.args.ranging.now (body_of of.0 of.1 of.2 c.args.code.now.insns) _
    (c.requires.ranging of.0 of.1 of.2 of.3) in (
      constants_of files,
      constants_are_numbers files,
      values,
      c.in_ok-table.ensures (constants_of files)
          (constants_are_numbers files) values,
    )

-- what was made, of the method that the code names
ranged : (c : goal.After-drop-table-2) (k : ClassTree) (m : MethodTree) (t : CodeTree)
    → IsMethodOf c.args.world.now c.args.code.now k m t
    → IsRangeTable (body_of k m t c.args.code.now.insns) (constants_of c.args.world.now)
    (rows_of (body_of k m t c.args.code.now.insns) c.args.types.now) c.in_ok-table.table.marks
    c.in_ok-table.table.rows
ranged c k m t of =
    let files = c.args.world.now in
    let is = c.requires.ranging k m t of in
    let values = values_are files c.args.ranging.now (body_of k m t c.args.code.now.insns) _ is in
    subst (λ (r : Ranged). IsRangeTable r.body (constants_of files) r.types c.in_ok-table.table.marks
    c.in_ok-table.table.rows) is
    (c.in_ok-table.ensures (constants_of files) (constants_are_numbers files) values)

pub returns-clause-broken : goal.returns-clause-broken
returns-clause-broken c = λ k m t of.
    let files = c.args.world.now in
    let found = c.passes.ensures k m t of (constants_of files) (constants_are_numbers files)
    (ap (λ (r : Ranged). r.values) (c.requires.ranging k m t of)) in
    answer_is_out files (body_of k m t c.args.code.now.insns) c.args.types.now (c.requires.types k m t of)
    c.in_ok-table.table.marks c.in_ok-table.table.rows (ranged c k m t of) c.passes.result found

pub returns-clause-breaks : goal.returns-clause-breaks
returns-clause-breaks c = λ k m t of x h.
    let files = c.args.world.now in
    let found = c.passes.ensures k m t of (constants_of files) (constants_are_numbers files)
    (ap (λ (r : Ranged). r.values) (c.requires.ranging k m t of)) in
    out_is_answered files (body_of k m t c.args.code.now.insns) c.args.types.now (c.requires.types k m t of)
    c.in_ok-table.table.marks c.in_ok-table.table.rows (ranged c k m t of) c.passes.result found x h
