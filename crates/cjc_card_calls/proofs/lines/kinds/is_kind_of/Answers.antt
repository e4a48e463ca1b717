use Rattle.std.proofs.Common.{◌∙◌}
use Rattle.cjc_card_frame.specs.Objects.{class_of}
use Rattle.cjc_card_link.specs.Tables.{loaded_of}
use Rattle.cjc_card_calls.proofs.LinesLaws.Upward.{kind_by_line, kind_by_none}
use Rattle.cjc_card_calls.proofs.lines.kinds.is_kind_of.Goals as goal

pub returns-in-Some : goal.returns-in-Some
returns-in-Some c =
    c.is_in.ensures ∙ kind_by_line (loaded_of c.args.tables.now) (class_of c.args.class) (class_of c.args.above) _
    (c.in-Some.ensures ∙ c.requires (class_of c.args.class))

pub returns-in-None : goal.returns-in-None
returns-in-None c =
    c.same_class.ensures ∙ kind_by_none (loaded_of c.args.tables.now) (class_of c.args.class) (class_of c.args.above)
    (c.in-None.ensures ∙ c.requires (class_of c.args.class))
