use Rattle.std.proofs.Common.{◌≡◌, take}
use Rattle.std.specs.List.{flat_map}
use Rattle.cjc_verify.specs.Made.{inputs_of}
use Rattle.cjc_verify.specs.WantedMembers.{classes_by}
use Rattle.cjc_verify.proofs.described.made.wanted_classes.Given as goal

abbrev pub invariant-loop-number : goal.invariant-loop-number
invariant-loop-number l = l.row ≡ flat_map (classes_by (inputs_of l.made)) (take l.number-index l.order)
