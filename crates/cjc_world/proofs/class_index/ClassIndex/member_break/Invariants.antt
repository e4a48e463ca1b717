use Rattle.std.proofs.Common.{◌≡◌, drop}
use Rattle.cjc_world.specs.Classes.{all_classes}
use Rattle.cjc_world.specs.Working.Known.{class_of}
use Rattle.cjc_world.specs.Rules.{head, members, members_from}
use Rattle.cjc_world.proofs.class_index.ClassIndex.member_break.Given as goal

abbrev pub invariant-loop-place : goal.invariant-loop-place
invariant-loop-place l =
    head (members_from l.file l.file_name l.class (all_classes l.self) (class_of l.known) l.field l.place
    (drop l.place (members l.field (class_of l.known))))
    ≡ head (members_from l.file l.file_name l.class (all_classes l.self) (class_of l.known) l.field 0
    (members l.field (class_of l.known)))
