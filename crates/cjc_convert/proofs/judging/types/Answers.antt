use Rattle.std.specs.Prelude.{option_map}
use Rattle.cjc_subset.specs.Breaks.{break_of}
use Rattle.cjc_convert.specs.Rules.{BreaksAnyType}
use Rattle.cjc_convert.proofs.Typed.{none_of, first_of, on_ok, if_err}
use Rattle.cjc_convert.proofs.judging.types.Goals as goal

pub returns-clause-unbroken : goal.returns-clause-unbroken
returns-clause-unbroken c =
    let found = c.in_ok-types_break.ensures in
    on_ok c.answer.result (none_of (BreaksAnyType c.args.world.now c.args.codes.now) (option_map break_of c.in_ok-types_break.field-0) found.0 found.1) (c.answer.ensures.ok found.0 found.2)

pub returns-clause-refused : goal.returns-clause-refused
returns-clause-refused c =
    let found = c.in_ok-types_break.ensures in
    if_err c.answer.result (λ e. first_of (BreaksAnyType c.args.world.now c.args.codes.now) found.0 e found.1) (c.answer.ensures.refused found.0 found.2)
