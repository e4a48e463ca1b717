use Rattle.std.proofs.lemmas.Result.{err_from_is_err_and}
use Rattle.std.specs.Prelude.{option_map}
use Rattle.cjc_bytes.specs.Told.{break_of}
use Rattle.cjc_judge.specs.Working.Groups.{EarlyBreaksAny}
use Rattle.cjc_judge.proofs.Assigned.{none_high}
use Rattle.cjc_judge.proofs.Early.{early_fault, types_first, ranges_first, unbroken}
use Rattle.cjc_judge.proofs.Folds.{none_of, first_of}
use Rattle.cjc_judge.proofs.judging.test.Goals as goal

pub groups_break-requires-clause-high : goal.groups_break-requires-clause-high
groups_break-requires-clause-high c = rw c.in_ok-settings.ensures at c.in_ok-tokens.ensures.first

pub returns-in_err-answer-clause-refused : goal.returns-in_err-answer-clause-refused
returns-in_err-answer-clause-refused c =
    let found = c.in_ok-broken.ensures in
    let p = err_from_is_err_and c.from_residual-in_err-answer.result c.from_residual-in_err-answer.ensures.1 in
    rw (p.1, p.2) (early_fault c.args.list.now c.args.world.now c.args.codes.now c.args.unsupported_insns.now
    c.args.groups.now _
    (first_of (EarlyBreaksAny c.args.list.now c.args.world.now c.args.codes.now c.args.unsupported_insns.now
    c.args.groups.now) found.0 _ found.1 (c.in_err-answer.ensures.refused found.0 found.2)))

pub returns-in_err-types-clause-refused : goal.returns-in_err-types-clause-refused
returns-in_err-types-clause-refused c =
    let found = c.in_ok-broken.ensures in
    let none = none_of (EarlyBreaksAny c.args.list.now c.args.world.now c.args.codes.now c.args.unsupported_insns.now
    c.args.groups.now) (option_map break_of c.in_ok-broken.broken) found.0 found.1 (c.in_ok-answer.ensures.ok
    found.0 found.2) in
    let p = err_from_is_err_and c.from_residual-in_err-types.result c.from_residual-in_err-types.ensures.1 in
    rw (p.1, p.2) (types_first c.args.list.now c.args.world.now c.args.codes.now c.args.unsupported_insns.now
    c.args.groups.now none _ c.in_err-types.ensures.refused)

pub returns-in_err-modes-clause-refused : goal.returns-in_err-modes-clause-refused
returns-in_err-modes-clause-refused c =
    let found = c.in_ok-broken.ensures in
    let none = none_of (EarlyBreaksAny c.args.list.now c.args.world.now c.args.codes.now c.args.unsupported_insns.now
    c.args.groups.now) (option_map break_of c.in_ok-broken.broken) found.0 found.1 (c.in_ok-answer.ensures.ok
    found.0 found.2) in
    let p = err_from_is_err_and c.from_residual-in_err-modes.result c.from_residual-in_err-modes.ensures.1
    in
    rw (p.1, p.2) (ranges_first c.args.list.now c.args.world.now c.args.codes.now c.args.unsupported_insns.now
    c.args.groups.now none c.in_ok-types.ensures.unbroken _ c.in_err-modes.ensures.refused)

pub returns-clause-tokens : goal.returns-clause-tokens
returns-clause-tokens c =
    let found = c.in_ok-broken.ensures in
    let none = none_of (EarlyBreaksAny c.args.list.now c.args.world.now c.args.codes.now c.args.unsupported_insns.now
    c.args.groups.now) (option_map break_of c.in_ok-broken.broken) found.0 found.1 (c.in_ok-answer.ensures.ok
    found.0 found.2) in
    let tokens = rw c.in_ok-settings.ensures at c.in_ok-tokens.ensures.tokens in
    λ asked. tokens (none_high c.args.list.now c.args.world.now c.args.codes.now c.args.unsupported_insns.now
    c.args.groups.now none asked) asked

pub returns-clause-unbroken : goal.returns-clause-unbroken
returns-clause-unbroken c =
    let found = c.in_ok-broken.ensures in
    let none = none_of (EarlyBreaksAny c.args.list.now c.args.world.now c.args.codes.now c.args.unsupported_insns.now
    c.args.groups.now) (option_map break_of c.in_ok-broken.broken) found.0 found.1 (c.in_ok-answer.ensures.ok
    found.0 found.2) in
    unbroken c.args.list.now c.args.world.now c.args.codes.now c.args.unsupported_insns.now c.args.groups.now none
    c.in_ok-types.ensures.unbroken c.in_ok-modes.ensures.unbroken
