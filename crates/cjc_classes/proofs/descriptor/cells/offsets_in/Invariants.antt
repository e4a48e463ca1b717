use Rattle.std.proofs.Common.{◌≡◌, map, take}
use Rattle.cjc_components.specs.LowerClinit.Image.{field_id}
use Rattle.cjc_classes.specs.Descriptor.Working.Cells.{offset_of}
use Rattle.cjc_classes.proofs.descriptor.cells.offsets_in.Given as goal

abbrev pub invariant-loop-field : goal.invariant-loop-field
invariant-loop-field l = l.row ≡ map (λ f. offset_of l.cells (field_id l.class.name f))
    (take l.field-index l.class.fields)
