use Rattle.std.proofs.Common.{◌≡◌, ◌++◌, take}
use Rattle.cjc_group.specs.Missing.{missing_above}
use Rattle.cjc_group.proofs.missing.put_missing.Given as goal

abbrev pub invariant-loop-class : goal.invariant-loop-class
invariant-loop-class l = l.names ≡ l.initial.names ++ missing_above l.group l.member (take l.class-index l.classes)
