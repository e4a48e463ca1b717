use Rattle.std.proofs.Common.{ap, ◌∙◌}
use Rattle.std.specs.Prelude.{option_and_then}
use Rattle.cjc_card_semantics.specs.Machine.Calls.{if_below}
use Rattle.cjc_card_frame.specs.Objects.{class_of}
use Rattle.cjc_card_link.specs.Tables.{loaded_of}
use Rattle.cjc_card_calls.proofs.names.classes.if_throwable.Goals as goal

pub returns-in-Some : goal.returns-in-Some
returns-in-Some c = c.if_below.ensures
    ∙ ap (option_and_then (if_below (loaded_of c.args.tables.now) (class_of c.args.class))) c.in-Some.ensures

pub returns-in-None : goal.returns-in-None
returns-in-None c = ap (option_and_then (if_below (loaded_of c.args.tables.now) (class_of c.args.class)))
    c.in-None.ensures
