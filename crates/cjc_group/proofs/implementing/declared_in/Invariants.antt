use Rattle.std.proofs.Common.{◌≡◌, drop}
use Rattle.cjc_group.specs.Implementing.{declared_from, declared_in}
use Rattle.cjc_group.proofs.implementing.declared_in.Given as goal

abbrev pub invariant-loop-part : goal.invariant-loop-part
invariant-loop-part l = declared_from l.part (drop l.part l.group) l.name ≡ declared_in l.group l.name
