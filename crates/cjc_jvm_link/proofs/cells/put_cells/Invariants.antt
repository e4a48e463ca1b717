use Rattle.std.proofs.Common.{◌≡◌, ◌++◌, take}
use Rattle.cjc_world.specs.declared.image.StaticImage.{StaticImage}
use Rattle.cjc_jvm_semantics.specs.OnePackage.{cells_in}
use Rattle.cjc_jvm_link.specs.Starts.{AreStarts}
use Rattle.cjc_jvm_link.proofs.cells.put_cells.Given as goal

abbrev pub invariant-loop-field : goal.invariant-loop-field
invariant-loop-field l = (image : StaticImage) → AreStarts image.arrays image.others l.starts
    → l.cells ≡ l.initial.cells ++ cells_in image l.class.name (take l.field-index l.class.fields)
