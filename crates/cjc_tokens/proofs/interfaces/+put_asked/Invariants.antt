use Rattle.std.proofs.Common.{◌≡◌, drop}
use Rattle.cjc_world.specs.Classes.{all_classes}
use Rattle.cjc_world.specs.Kin.{kin}
use Rattle.cjc_tokens.specs.Slots.{with_new}
use Rattle.cjc_tokens.specs.Working.{asked, signs}
use Rattle.cjc_tokens.proofs.interfaces.+put_asked.Given as goal

abbrev pub decreases-put_asked : goal.decreases-put_asked
decreases-put_asked l = l.steps

abbrev pub invariant-loop-name : goal.invariant-loop-name
invariant-loop-name l = with_new (signs l.row.items) (asked l.listed (kin (all_classes l.world) (drop l.name-index l.names))) ≡ with_new (signs l.initial.row.items) (asked l.listed (kin (all_classes l.world) l.names))
