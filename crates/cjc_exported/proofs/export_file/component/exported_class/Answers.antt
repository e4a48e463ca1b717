use Rattle.std.proofs.Common.{◌≡◌, ◌∙◌, ap, sym, length, map, false, ℕ}
use Rattle.std.specs.Prelude.{filter, slice_get, Some, unwrap_or}
use Rattle.cjc_world.specs.ClassFile.declared.tree.FieldTree.{FieldTree}
use Rattle.cjc_world.specs.Files.{Files}
use Rattle.cjc_world.specs.Classes.{all_classes, class_at}
use Rattle.cjc_world.specs.Working.Known.{class_of}
use Rattle.cjc_components.specs.LowerClinit.Image.{field_id}
use Rattle.cjc_components.specs.LowerTokens.Fields.{is_open_static}
use Rattle.cjc_components.specs.Package.{world}
use Rattle.cjc_components.specs.Class.{fields_in}
use Rattle.cjc_components.specs.Exports.{open_methods}
use Rattle.cjc_components.specs.Methods.{method_offset}
use Rattle.cjc_components.specs.Names.{class_offset}
use Rattle.cjc_components.specs.Statics.{cell_offset}
use Rattle.cjc_exported.specs.ExportFile.Working.Exported.{ref_offset, row_at}
use Rattle.cjc_exported.proofs.ExportFile.Exporting.{cells-of-class, class-made, headers-of-class, offset-of-class}
use Rattle.cjc_exported.proofs.export_file.component.exported_class.Goals as goal

pub returns : goal.returns
returns c = λ p of_files offsets.
    let k = class_of c.args.class in
    let o = c.args.offsets in
    let there : class_at (world p) false k.number ≡ Some k = ap (λ files. class_at (all_classes files) false k.number)
    of_files ∙ c.requires in
    let offset : c.ref_offset.result ≡ unwrap_or (class_offset p k.name) 0 = c.ref_offset.ensures
    ∙ ap (ref_offset o.refs.now) c.number-number.ensures ∙ offset-of-class p o k offsets there in
    let g : FieldTree → ℕ = λ f. cell_offset p.image (field_id k.name f) in
    let same : fields_in (slice_get c.items.result.now c.number-number.result)
    ≡ fields_in (slice_get p.files.classes k.number) =
    ap (λ xs. fields_in (slice_get xs c.number-number.result)) (c.items.ensures ∙ c.classes.ensures
    ∙ ap (λ (files : Files). files.classes) (sym of_files))
    ∙ ap (λ n. fields_in (slice_get p.files.classes n)) c.number-number.ensures in
    let cells : row_at o.cells.now c.number-number.result
    ≡ map g (fields_in (slice_get c.items.result.now c.number-number.result)) =
    ap (row_at o.cells.now) c.number-number.ensures ∙ cells-of-class p o k offsets there ∙ ap (map g) (sym same) in
    class-made c.ref_offset.result (unwrap_or (class_offset p k.name) 0) c.in_ok-fields.fields
    (map g (filter is_open_static (fields_in (slice_get p.files.classes k.number))))
    c.in_ok-methods.methods (map (method_offset p) (open_methods k (length k.fields) k.methods))
    offset
    (c.in_ok-fields.ensures g cells ∙ ap (λ fs. map g (filter is_open_static fs)) same)
    (c.in_ok-methods.ensures (method_offset p) (λ i low high. ap (λ xs. slice_get xs i) (c.row_at.ensures
    ∙ ap (row_at o.methods.now) c.number-number.ensures) ∙ headers-of-class p o k offsets there i low high))
