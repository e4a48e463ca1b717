use Rattle.std.proofs.Common.{◌≡◌, ◌++◌, take}
use Rattle.cjc_verify.specs.Offsets.{ats_in}
use Rattle.cjc_verify.proofs.infos.offsets.put_ats.Given as goal

abbrev pub invariant-loop-place : goal.invariant-loop-place
invariant-loop-place l = l.row ≡ l.fn.row ++ take l.place (ats_in l.members l.methods)
