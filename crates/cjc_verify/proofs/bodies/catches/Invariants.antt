use Rattle.std.proofs.Common.{◌≡◌, map, take}
use Rattle.cjc_verify.specs.Bodies.{catch}
use Rattle.cjc_verify.proofs.bodies.catches.Given as goal

abbrev pub invariant-loop-handler : goal.invariant-loop-handler
invariant-loop-handler l = l.catches ≡ map (catch l.pair) (take l.handler-index l.pair.components.method.handlers)
