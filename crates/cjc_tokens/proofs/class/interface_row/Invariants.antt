use Rattle.std.proofs.Common.{◌≡◌, List, map, take, Some}
use Rattle.cjc_world.specs.Classes.{all_classes}
use Rattle.cjc_world.specs.Lookup.{method_of_interface}
use Rattle.cjc_tokens.specs.Members.{Signature}
use Rattle.cjc_tokens.specs.Working.{signs}
use Rattle.cjc_tokens.proofs.class.interface_row.Given as goal

abbrev pub invariant-loop-slot : goal.invariant-loop-slot
invariant-loop-slot l = (ss : List Signature) → signs l.methods ≡ map Some ss
    → l.row ≡ map (λ s. method_of_interface (all_classes l.world) l.interface s.name s.desc) (take l.slot-index ss)
