use Rattle.std.proofs.Common.{sym, ap, ◌∙◌}
use Rattle.std.specs.Prelude.{option_map}
use Rattle.cjc_bytes.specs.Told.{break_of}
use Rattle.cjc_bytes.proofs.Firsts.{left_first, right_first}
use Rattle.cjc_bytes.proofs.breaks.first.Goals as goal

pub returns-then-is_up_to : goal.returns-then-is_up_to
returns-then-is_up_to c = left_first (break_of c.in-Some-Some.one) (break_of c.in-Some-Some.other)
    (sym c.is_up_to.ensures ∙ c.if-is_up_to.true) (ap (option_map break_of) c.in-Some-Some.is-0)
    (ap (option_map break_of) c.in-Some-Some.is-1)

pub returns-else-is_up_to : goal.returns-else-is_up_to
returns-else-is_up_to c = right_first (break_of c.in-Some-Some.one) (break_of c.in-Some-Some.other)
    (sym c.is_up_to.ensures ∙ c.if-is_up_to.false) (ap (option_map break_of) c.in-Some-Some.is-0)
    (ap (option_map break_of) c.in-Some-Some.is-1)
