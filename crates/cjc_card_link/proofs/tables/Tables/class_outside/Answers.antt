use Rattle.std.proofs.Common.{ap, ◌∙◌}
use Rattle.std.specs.Prelude.{option_and_then}
use Rattle.cjc_card_semantics.specs.Machine.Classes.{imported_class}
use Rattle.cjc_card_link.specs.Tables.{loaded_of}
use Rattle.cjc_card_link.proofs.tables.Tables.class_outside.Goals as goal

pub returns-in-Some : goal.returns-in-Some
returns-in-Some c = c.imported_class.ensures
    ∙ ap (option_and_then (imported_class (loaded_of c.args.self.now) c.args.token)) c.in-Some.ensures

pub returns-in-None : goal.returns-in-None
returns-in-None c = ap (option_and_then (imported_class (loaded_of c.args.self.now) c.args.token)) c.in-None.ensures
