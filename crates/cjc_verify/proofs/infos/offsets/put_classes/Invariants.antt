use Rattle.std.proofs.Common.{◌≡◌, ◌++◌, drop}
use Rattle.cjc_verify.specs.Offsets.{ats_by}
use Rattle.cjc_verify.proofs.infos.offsets.put_classes.Given as goal

abbrev pub invariant-loop-i : goal.invariant-loop-i
invariant-loop-i l = l.row ++ ats_by l.world (drop l.i l.order) (drop l.i l.classes) ≡ l.fn.row
    ++ ats_by l.world l.order l.classes
