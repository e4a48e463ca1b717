use Rattle.std.proofs.Common.{ap, Some, None}
use Rattle.std.specs.Prelude.{is_some, if◌then◌else◌}
use Rattle.cjc_card_semantics.specs.Machine.Classes.{External}
use Rattle.cjc_card_link.proofs.tables.Tables.file_class.Goals as goal

pub returns-in-Some : goal.returns-in-Some
returns-in-Some c = ap (λ o. if is_some o then Some (External c.args.tree c.args.token) else None) c.in-Some.ensures

pub returns-in-None : goal.returns-in-None
returns-in-None c = ap (λ o. if is_some o then Some (External c.args.tree c.args.token) else None) c.in-None.ensures
