use Rattle.std.proofs.Common.{refl}
use Rattle.cjc_card_calls.proofs.CardLinkAlone.{outside_found, outside_none}
use Rattle.cjc_verify.proofs.kinds.imported.Goals as goal

pub returns-in-Some : goal.returns-in-Some
returns-in-Some c = outside_found c.args.tables.now.part c.args.tables.now.exported c.args.import c.args.token
    c.args.import c.in-Some.field-0.now refl c.in-Some.ensures

pub returns-in-None : goal.returns-in-None
returns-in-None c = outside_none c.args.tables.now.part c.args.tables.now.exported c.args.import c.args.token
    c.args.import refl c.in-None.ensures
