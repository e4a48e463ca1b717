use Rattle.std.proofs.Common.{ap, Some, None}
use Rattle.std.specs.Prelude.{is_some, if◌then◌else◌}
use Rattle.cjc_card_semantics.specs.Machine.Classes.{Own}
use Rattle.cjc_card_link.proofs.tables.Tables.own_class.Goals as goal

pub returns-in-Some : goal.returns-in-Some
returns-in-Some c = ap (λ o. if is_some o then Some (Own c.args.part c.args.offset) else None) c.in-Some.ensures.at

pub returns-in-None : goal.returns-in-None
returns-in-None c = ap (λ o. if is_some o then Some (Own c.args.part c.args.offset) else None) c.in-None.ensures.at
