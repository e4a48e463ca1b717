use Rattle.std.proofs.Common.{◌≡◌, ◌++◌, drop, map}
use Rattle.cjc_pool.specs.NCode.Lowering.Naming.{Naming}
use Rattle.cjc_pool.specs.Layout.OnCard.{handler_on_card}
use Rattle.cjc_methods.specs.Component.Working.Parts.{IsIndexed}
use Rattle.cjc_methods.proofs.component.handlers.put_handlers.Given as goal

abbrev pub invariant-loop-handler : goal.invariant-loop-handler
invariant-loop-handler l = (n : Naming) → IsIndexed l.pool.keys n
    → l.out ++ map (handler_on_card n l.first) (drop l.handler-index l.handlers) ≡ l.initial.out
    ++ map (handler_on_card n l.first) l.handlers
