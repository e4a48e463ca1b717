use Rattle.std.proofs.Common.{◌≡◌, take, map}
use Rattle.cjc_verify.specs.Offsets.{offset_among}
use Rattle.cjc_verify.proofs.infos.made.package_methods.Given as goal

abbrev pub invariant-loop-method : goal.invariant-loop-method
invariant-loop-method l = l.row ≡ map (offset_among l.methods) (take l.method-index l.table)
