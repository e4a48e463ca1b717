use Rattle.std.proofs.Common.{◌≡◌, drop}
use Rattle.std.specs.List.{find}
use Rattle.cjc_world.specs.Rules.{members}
use Rattle.cjc_world.specs.Working.Known.{class_of}
use Rattle.cjc_world.proofs.Called.{passes}
use Rattle.cjc_world.proofs.members.first_called.Given as goal

abbrev pub invariant-loop-position : goal.invariant-loop-position
invariant-loop-position l =
    find (passes (members l.field (class_of l.class)) l.selecting l.name l.desc) (drop l.position l.places)
    ≡ find (passes (members l.field (class_of l.class)) l.selecting l.name l.desc) l.places
