use Rattle.std.proofs.Common.{◌≡◌, map, take, true, false}
use Rattle.std.specs.Prelude.{Option}
use Rattle.cjc_world.specs.declared.found.Found.{Found}
use Rattle.cjc_world.specs.Classes.{declared, method_of_class}
use Rattle.cjc_tokens.specs.Members.{Signature, has, signatures}
use Rattle.cjc_tokens.specs.Slots.{own}
use Rattle.cjc_tokens.specs.Working.{Taken, is_of_kind, methods_in, token_under}
use Rattle.cjc_tokens.proofs.taking.take_slots.Given as goal

abbrev pub invariant-loop-method : goal.invariant-loop-method
invariant-loop-method l = (implements : Signature → Option Found)
    → ((s : Signature) → has (signatures (is_of_kind false) (declared l.number l.class).methods) s ≡ true
    → own (is_of_kind false) s (declared l.number l.class) ≡ implements s)
    → Taken (token_under l.told) (methods_in l.above)
    (signatures (is_of_kind false) (map method_of_class (take l.method-index l.method-items))) implements
    l.initial.row.items l.row.items
