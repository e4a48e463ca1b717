use Rattle.std.proofs.Common.{◌≡◌, drop}
use Rattle.cjc_world.specs.Classes.{all_classes}
use Rattle.cjc_world.specs.Working.Places.{joined}
use Rattle.cjc_world.specs.Working.Tables.{pieces}
use Rattle.cjc_world.proofs.class_index.ClassIndex.put_pieces.Given as goal

abbrev pub invariant-loop-name : goal.invariant-loop-name
invariant-loop-name l = joined l.places (pieces (all_classes l.self) l.order l.listed l.rows
    (drop l.name-index l.names)) ≡ joined l.initial.places (pieces (all_classes l.self) l.order l.listed l.rows l.names)
