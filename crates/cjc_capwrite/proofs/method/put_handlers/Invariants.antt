use Rattle.std.proofs.Common.{◌≡◌, ◌++◌, take}
use Rattle.std.specs.List.{flat_map}
use Rattle.cjc_capwrite.specs.Method.{handler_bytes}
use Rattle.cjc_capwrite.proofs.method.put_handlers.Given as goal

abbrev pub invariant-loop-handler : goal.invariant-loop-handler
invariant-loop-handler l = l.out ≡ l.fn.out ++ flat_map handler_bytes (take l.handler-index l.handlers)
