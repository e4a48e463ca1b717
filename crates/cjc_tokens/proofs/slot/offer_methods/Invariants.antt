use Rattle.std.proofs.Common.{map, take}
use Rattle.cjc_world.specs.Classes.{declared, method_of_class}
use Rattle.cjc_tokens.specs.Members.{signatures}
use Rattle.cjc_tokens.specs.Slots.{own}
use Rattle.cjc_tokens.specs.Working.{Offered, is_of_kind}
use Rattle.cjc_tokens.proofs.slot.offer_methods.Given as goal

abbrev pub invariant-loop-method : goal.invariant-loop-method
invariant-loop-method l =
    Offered (signatures (is_of_kind l.hidden) (map method_of_class (take l.method-index l.method-items)))
    (λ s. own (is_of_kind l.hidden) s (declared l.number l.class)) l.initial.row.items l.row.items
