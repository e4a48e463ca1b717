use Rattle.std.proofs.Common.{◌≡◌, drop}
use Rattle.std.specs.List.{list_all}
use Rattle.cjc_frames.specs.Types.{begins_with}
use Rattle.cjc_frames.proofs.rules.all_begin.Given as goal

abbrev pub invariant-loop-type_ : goal.invariant-loop-type_
invariant-loop-type_ l = list_all (begins_with l.nibbles) (drop l.type_-index l.types) ≡ list_all
    (begins_with l.nibbles) l.types
