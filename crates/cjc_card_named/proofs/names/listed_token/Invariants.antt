use Rattle.std.proofs.Common.{◌≡◌, drop}
use Rattle.cjc_card.specs.Calls.{listed_token}
use Rattle.cjc_card_named.proofs.names.listed_token.Given as goal

abbrev pub invariant-loop-method : goal.invariant-loop-method
invariant-loop-method l = listed_token (drop l.method-index l.methods) l.id ≡ listed_token l.methods l.id
