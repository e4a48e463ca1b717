use Rattle.cjc_card_link.proofs.Alone.{outside_found, outside_none}
use Rattle.cjc_card_link.proofs.tables.Tables.imported_class.Goals as goal

pub returns-in-Some : goal.returns-in-Some
returns-in-Some c = outside_found c.args.self.now.part c.args.self.now.exported c.args.import c.args.class
    c.from-tree.result c.in-Some.field-0.now c.from-tree.ensures c.in-Some.ensures

pub returns-in-None : goal.returns-in-None
returns-in-None c = outside_none c.args.self.now.part c.args.self.now.exported c.args.import c.args.class
    c.from-tree.result c.from-tree.ensures c.in-None.ensures
