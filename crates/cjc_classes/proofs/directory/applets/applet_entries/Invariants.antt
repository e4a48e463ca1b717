use Rattle.std.proofs.Common.{◌≡◌, take, map}
use Rattle.cjc_world.specs.Classes.{all_classes}
use Rattle.cjc_classes.specs.ClassInfo.Entries.{offset_in}
use Rattle.cjc_classes.specs.Applets.{entry_by}
use Rattle.cjc_classes.proofs.directory.applets.applet_entries.Given as goal

abbrev pub invariant-loop-line : goal.invariant-loop-line
invariant-loop-line l = l.entries ≡ map (entry_by (offset_in l.offsets) (all_classes l.world))
    (take l.line-index l.lines)
