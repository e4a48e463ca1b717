use Rattle.std.proofs.Common.{ap, length}
use Rattle.std.specs.Prelude.{unwrap_or}
use Rattle.cjc_cmd_link.proofs.tokens.tree_number.Goals as goal

pub returns-in-Some : goal.returns-in-Some
returns-in-Some c = ap (λ o. unwrap_or o (length c.args.trees.now)) c.in-Some.ensures

pub returns-in-None : goal.returns-in-None
returns-in-None c = ap (λ o. unwrap_or o (length c.args.trees.now)) c.in-None.ensures
