use Rattle.std.proofs.Common.{◌≡◌, map, take}
use Rattle.cjc_classes.specs.ClassInfo.Refs.{ref_of}
use Rattle.cjc_captree.proofs.trees.numbered.refs_by_number.Given as goal

abbrev pub invariant-loop-class : goal.invariant-loop-class
invariant-loop-class l = l.row ≡ map (λ c. ref_of l.refs c.name) (take l.class-index l.classes)
