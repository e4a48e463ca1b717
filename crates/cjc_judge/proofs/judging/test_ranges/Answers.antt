use Rattle.std.proofs.Common.{List, All, sym, subst, ◌∙◌}
use Rattle.std.specs.Prelude.{option_map}
use Rattle.cjc_bytes.specs.Told.{break_of}
use Rattle.cjc_bytes.proofs.Options.{on_ok}
use Rattle.cjc_clinit.specs.Bytecode.declared.method_code.MethodCode.{MethodCode}
use Rattle.cjc_narrow.specs.Types.Tables.{IsOfPackage}
use Rattle.cjc_narrow.specs.Types.declared.table.TypeTable.{TypeTable}
use Rattle.cjc_judge.specs.Rules.{BreaksAnyRange, IsFirstIn}
use Rattle.cjc_judge.specs.Types.{AreTables}
use Rattle.cjc_judge.proofs.Early.{no_ranges, ranges_fault, types_too}
use Rattle.cjc_judge.proofs.Folds.{none_of, first_of, if_err}
use Rattle.cjc_judge.proofs.judging.test_ranges.Goals as goal

pub returns-then-not-any_asks_ranges-clause-unbroken : goal.returns-then-not-any_asks_ranges-clause-unbroken
returns-then-not-any_asks_ranges-clause-unbroken c = no_ranges c.args.groups.now c.args.world.now c.args.codes.now
    (sym c.any_asks_ranges.ensures ∙ c.if-not-any_asks_ranges.true)

pub ranges_break-requires-clause-codes : goal.ranges_break-requires-clause-codes
ranges_break-requires-clause-codes c = subst (λ (codes : List MethodCode). All (IsOfPackage c.args.world.now) codes)
    (sym c.items.ensures) c.requires.codes

pub ranges_break-requires-clause-types : goal.ranges_break-requires-clause-types
ranges_break-requires-clause-types c =
    let tables = c.requires.types (types_too c.args.groups.now (sym c.any_asks_ranges.ensures
    ∙ c.if-not-any_asks_ranges.false)) in
    subst (λ (codes : List MethodCode). AreTables c.args.world.now codes c.items-2.result.now) (sym c.items.ensures)
    (subst (λ (ts : List TypeTable). AreTables c.args.world.now c.args.codes.now ts) (sym c.items-2.ensures) tables)

pub returns-clause-refused : goal.returns-clause-refused
returns-clause-refused c =
    let Of : List MethodCode → Type 0 = λ codes. IsFirstIn (BreaksAnyRange c.args.world.now codes)
    (option_map break_of c.in_ok-broken.broken) in
    let found : Of c.args.codes.now = subst Of c.items.ensures c.in_ok-broken.ensures in
    if_err c.answer.result
    (λ e f. ranges_fault c.args.groups.now c.args.world.now c.args.codes.now e (sym c.any_asks_ranges.ensures
    ∙ c.if-not-any_asks_ranges.false) (first_of (BreaksAnyRange c.args.world.now c.args.codes.now) found.0 e found.1
    f))
    (c.answer.ensures.refused found.0 found.2)

pub returns-clause-unbroken : goal.returns-clause-unbroken
returns-clause-unbroken c =
    let Of : List MethodCode → Type 0 = λ codes. IsFirstIn (BreaksAnyRange c.args.world.now codes)
    (option_map break_of c.in_ok-broken.broken) in
    let found : Of c.args.codes.now = subst Of c.items.ensures c.in_ok-broken.ensures in
    on_ok c.answer.result
    (λ none b h. none_of (BreaksAnyRange c.args.world.now c.args.codes.now) (option_map break_of c.in_ok-broken.broken)
    found.0 found.1 none b h.1)
    (c.answer.ensures.ok found.0 found.2)
