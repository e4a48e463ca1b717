use Rattle.std.proofs.Common.{◌≡◌, drop, map}
use Rattle.cjc_world.specs.Working.Known.{class_of}
use Rattle.cjc_tokens.specs.Members.{all_methods}
use Rattle.cjc_tokens.specs.Slots.{listed_slots}
use Rattle.cjc_tokens.specs.Working.{overlay, signs}
use Rattle.cjc_tokens.proofs.listed.listed.Given as goal

abbrev pub invariant-loop-class : goal.invariant-loop-class
invariant-loop-class l =
    overlay (signs l.row.items) (listed_slots (all_methods (map class_of (drop l.class-index l.classes))))
    ≡ listed_slots (all_methods (map class_of l.classes))
