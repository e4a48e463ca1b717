use Rattle.std.proofs.Common.{List, All, sym, subst, ◌∙◌}
use Rattle.std.specs.Prelude.{option_map}
use Rattle.std.proofs.lemmas.Result.{err_from_is_err_and}
use Rattle.cjc_bytes.specs.Told.{break_of}
use Rattle.cjc_clinit.specs.Bytecode.declared.method_code.MethodCode.{MethodCode}
use Rattle.cjc_narrow.specs.Types.Tables.{IsOfPackage}
use Rattle.cjc_narrow.specs.Types.declared.table.TypeTable.{TypeTable}
use Rattle.cjc_judge.specs.Modes.{AreModes}
use Rattle.cjc_judge.specs.Rules.{BreaksAnyRange, IsFirstIn}
use Rattle.cjc_judge.specs.Types.{AreTables}
use Rattle.cjc_judge.proofs.Early.{no_modes, no_ranges, ranges_fault, types_too}
use Rattle.cjc_judge.proofs.Folds.{none_of, first_of}
use Rattle.cjc_judge.proofs.judging.named_modes.Goals as goal

pub returns-then-not-any_asks_ranges-clause-modes : goal.returns-then-not-any_asks_ranges-clause-modes
returns-then-not-any_asks_ranges-clause-modes c = no_modes c.args.groups.now c.args.ints c.args.world.now
    c.args.codes.now c.new-modes.result (sym c.any_asks_ranges.ensures ∙ c.if-not-any_asks_ranges.true)

pub returns-then-not-any_asks_ranges-clause-unbroken : goal.returns-then-not-any_asks_ranges-clause-unbroken
returns-then-not-any_asks_ranges-clause-unbroken c = no_ranges c.args.groups.now c.args.ints c.args.world.now
    c.args.codes.now (sym c.any_asks_ranges.ensures ∙ c.if-not-any_asks_ranges.true)

pub ranges_break-requires-clause-codes : goal.ranges_break-requires-clause-codes
ranges_break-requires-clause-codes c = subst (λ (codes : List MethodCode). All (IsOfPackage c.args.world.now) codes)
    (sym c.items.ensures) c.requires.codes

pub ranges_break-requires-clause-types : goal.ranges_break-requires-clause-types
ranges_break-requires-clause-types c =
    let tables = c.requires.types (types_too c.args.groups.now (sym c.any_asks_ranges.ensures
    ∙ c.if-not-any_asks_ranges.false)) in
    subst (λ (codes : List MethodCode). AreTables c.args.world.now codes c.items-2.result.now) (sym c.items.ensures)
    (subst (λ (ts : List TypeTable). AreTables c.args.world.now c.args.codes.now ts) (sym c.items-2.ensures) tables)

pub returns-in_err-answer-clause-refused : goal.returns-in_err-answer-clause-refused
returns-in_err-answer-clause-refused c =
    let Of : List MethodCode → Type 0 = λ codes. IsFirstIn (BreaksAnyRange c.args.ints c.args.world.now codes)
    (option_map break_of c.in_ok-broken.broken) in
    let found : Of c.args.codes.now = subst Of c.items.ensures c.in_ok-broken.ensures.first in
    let p = err_from_is_err_and c.from_residual-in_err-answer.result c.from_residual-in_err-answer.ensures.1 in
    rw (p.1, p.2) (ranges_fault c.args.groups.now c.args.ints c.args.world.now c.args.codes.now _
    (sym c.any_asks_ranges.ensures ∙ c.if-not-any_asks_ranges.false)
    (first_of (BreaksAnyRange c.args.ints c.args.world.now c.args.codes.now) found.0 _ found.1
    (c.in_err-answer.ensures.refused found.0 found.2)))

pub returns-clause-modes : goal.returns-clause-modes
returns-clause-modes c = λ asked. subst (λ (codes : List MethodCode). AreModes c.args.ints c.args.world.now codes
    c.ranges_break.new.modes) c.items.ensures c.in_ok-broken.ensures.modes

pub returns-clause-unbroken : goal.returns-clause-unbroken
returns-clause-unbroken c =
    let Of : List MethodCode → Type 0 = λ codes. IsFirstIn (BreaksAnyRange c.args.ints c.args.world.now codes)
    (option_map break_of c.in_ok-broken.broken) in
    let found : Of c.args.codes.now = subst Of c.items.ensures c.in_ok-broken.ensures.first in
    λ b h. none_of (BreaksAnyRange c.args.ints c.args.world.now c.args.codes.now)
    (option_map break_of c.in_ok-broken.broken) found.0 found.1 (c.in_ok-answer.ensures.ok found.0 found.2) b h.1
