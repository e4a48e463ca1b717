use Rattle.std.proofs.Common.{◌≡◌, take}
use Rattle.std.specs.List.{flat_map}
use Rattle.cjc_verify.specs.Abstracts.{unmade_at}
use Rattle.cjc_verify.proofs.infos.abstracts.unmade_of.Given as goal

abbrev pub invariant-loop-number : goal.invariant-loop-number
invariant-loop-number l = l.row ≡ flat_map (unmade_at l.world) (take l.number-index l.order)
