use Rattle.std.proofs.Common.{◌≡◌, drop, map}
use Rattle.cjc_card_semantics.specs.Machine.Classes.{is_in}
use Rattle.cjc_card_frame.specs.Objects.{class_of}
use Rattle.cjc_card_calls.proofs.lines.kinds.is_in.Given as goal

abbrev pub invariant-loop-other : goal.invariant-loop-other
invariant-loop-other l = is_in (class_of l.class) (map class_of (drop l.other-index l.classes))
    ≡ is_in (class_of l.class) (map class_of l.classes)
