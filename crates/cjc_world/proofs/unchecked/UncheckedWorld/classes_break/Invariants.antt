use Rattle.std.proofs.Common.{◌≡◌, ◌+◌, drop}
use Rattle.cjc_world.specs.Classes.{all_classes, numbered}
use Rattle.cjc_world.specs.Rules.{head, classes_breaks}
use Rattle.cjc_world.proofs.unchecked.UncheckedWorld.classes_break.Given as goal

abbrev pub invariant-loop-place : goal.invariant-loop-place
invariant-loop-place l =
    head (classes_breaks l.self.package_name l.file l.file_name (l.place + 1) (all_classes l.self)
    (numbered (l.number + l.place) (drop l.place l.classes)))
    ≡ head (classes_breaks l.self.package_name l.file l.file_name 1 (all_classes l.self) (numbered l.number l.classes))
