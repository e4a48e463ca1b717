use Rattle.std.proofs.Common.{◌≡◌, drop}
use Rattle.cjc_card_calls.specs.Lines.Handlers.{are_near}
use Rattle.cjc_card_calls.proofs.lines.handlers.are_near.Given as goal

abbrev pub invariant-loop-handler : goal.invariant-loop-handler
invariant-loop-handler l = are_near (drop l.handler-index l.handlers) ≡ are_near l.handlers
