use Rattle.std.proofs.Common.{◌≡◌, drop}
use Rattle.cjc_card_semantics.specs.Machine.Operations.{unbound_of}
use Rattle.cjc_card_link.proofs.calls.unbound_of.Given as goal

abbrev pub invariant-loop-method : goal.invariant-loop-method
invariant-loop-method l = unbound_of (drop l.method-index l.methods) l.token ≡ unbound_of l.methods l.token
