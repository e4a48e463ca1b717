use Rattle.cjc_components.specs.Bytecode.PackageCodes.{all_codes}
use Rattle.cjc_theorem.proofs.AlikeLaws.FirstCells.Cells.{first_cells}
use Rattle.cjc_theorem.proofs.AlikeLaws.FirstCells.Converted.{image_fits}
use Rattle.cjc_theorem.proofs.alike.first_cells.first_cells_are_typed.Goals as goal

pub returns-clause-image : goal.returns-clause-image
returns-clause-image c = λ list p codes sound typed made once fit.
    let files = p.files in
    first_cells p.image files.classes fit (c.static_fields_are_told.ensures.cells list p codes sound typed made once)

pub returns-clause-converted : goal.returns-clause-converted
returns-clause-converted c = λ list files judged p is.
    let its = c.converted_files_are_sound.ensures in
    let w = p.files in
    let told = c.static_fields_are_told.ensures.cells list.name p (all_codes w.classes) (its.sound list files judged p
    is) (its.typed list files judged p is) (its.image list files judged p is) (its.once list files judged p is) in
    first_cells p.image w.classes (image_fits list files judged p is) told
