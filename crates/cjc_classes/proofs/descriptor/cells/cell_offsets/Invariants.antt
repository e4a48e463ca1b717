use Rattle.std.proofs.Common.{◌≡◌, map, take}
use Rattle.cjc_components.specs.LowerClinit.Image.{field_id}
use Rattle.cjc_classes.specs.Descriptor.Working.Cells.{offset_of}
use Rattle.cjc_classes.proofs.descriptor.cells.cell_offsets.Given as goal

abbrev pub invariant-loop-class : goal.invariant-loop-class
invariant-loop-class l = l.rows ≡ map (λ c. map (λ f. offset_of l.cells (field_id c.name f)) c.fields)
    (take l.class-index l.classes)
