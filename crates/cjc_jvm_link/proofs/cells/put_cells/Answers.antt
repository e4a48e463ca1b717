use Rattle.std.proofs.Common.{◌≡◌, ◌<◌, ◌++◌, ◌∷◌, [], ◌∙◌, ap, subst, get_or, length}
use Rattle.std.specs.Prelude.{if◌then◌else◌}
use Rattle.cjc_jvm_semantics.specs.OnePackage.{cell_of, cells_in, is_cell}
use Rattle.cjc_jvm_link.proofs.Fields.{named, more_cells}
use Rattle.cjc_jvm_link.proofs.Walks.{walk_step}
use Rattle.cjc_jvm_link.proofs.cells.put_cells.Goals as goal

pub loop-field-preserved : goal.loop-field-preserved
loop-field-preserved c = λ image are.
    let class = c.args.class.now in
    let i = c.loop-field.field-index in
    let field = c.field-item.result in
    let inside : i < length class.fields = subst (λ ys. i < length ys) c.items-field-items.ensures
    c.loop-field-test.true in
    let is : field ≡ get_or class.fields i field = c.field-item.is
    ∙ ap (λ ys. get_or ys i field) c.items-field-items.ensures in
    walk_step (cells_in image class.name) (λ f. if is_cell f then cell_of image (named class.name f) ∷ []
    else []) class.fields (more_cells image class.name)
    i field c.args.cells.now c.loop-field.cells c.put_cell.new.cells inside is (c.loop-field.invariant image are)
    (c.in_ok-put_cell.ensures image are ∙ ap (λ n. c.loop-field.cells
    ++ (if is_cell field then cell_of image (named n field) ∷ [] else [])) c.items.ensures)
