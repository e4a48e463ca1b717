use Rattle.std.proofs.Common.{ap, sym, ◌∙◌}
use Rattle.cjc_card_semantics.specs.Machine.Operations.{static_cell}
use Rattle.cjc_card_link.specs.Tables.{loaded_of}
use Rattle.cjc_card_link.proofs.Alone.{no_cell}
use Rattle.cjc_card_link.proofs.tables.Tables.static_cell.Goals as goal

pub returns-in-Outside : goal.returns-in-Outside
returns-in-Outside c =
    no_cell c.args.self.now.part c.args.self.now.exported c.args.part c.in-Outside.package c.in-Outside.class
    c.in-Outside.token
    ∙ ap (static_cell (loaded_of c.args.self.now) c.args.part) (sym c.in-Outside.is)
