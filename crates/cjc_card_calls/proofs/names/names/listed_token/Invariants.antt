use Rattle.std.proofs.Common.{◌≡◌, drop}
use Rattle.cjc_card_semantics.specs.Machine.Calls.{listed_token}
use Rattle.cjc_card_calls.proofs.names.names.listed_token.Given as goal

abbrev pub invariant-loop-method : goal.invariant-loop-method
invariant-loop-method l = listed_token (drop l.method-index l.methods) l.id ≡ listed_token l.methods l.id
