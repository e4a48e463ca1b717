use Rattle.std.proofs.Common.{◌≡◌, take}
use Rattle.cjc_jvm_semantics.specs.OnePackage.{cells}
use Rattle.cjc_jvm_link.proofs.cells.cells.Given as goal

abbrev pub invariant-loop-class : goal.invariant-loop-class
invariant-loop-class l = l.row ≡ cells l.image (take l.class-index l.classes)
