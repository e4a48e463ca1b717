use Rattle.std.proofs.Common.{◌≡◌, take}
use Rattle.std.specs.List.{flat_map}
use Rattle.cjc_verify.specs.Working.Bodies.{listed_where}
use Rattle.cjc_verify.proofs.listed.all_listed.Given as goal

abbrev pub invariant-loop-class : goal.invariant-loop-class
invariant-loop-class l =
    let parts = l.names.parts.now in
    let d = parts.descriptor.now in
    l.all ≡ flat_map (listed_where parts.class.now) (take l.class-index d.classes)
