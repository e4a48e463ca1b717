use Rattle.std.proofs.Common.{◌∙◌, ap, sym}
use Rattle.std.specs.Prelude.{slice_get}
use Rattle.cjc_bytecode.specs.Machine.{thing_fits}
use Rattle.cjc_card.specs.ByToken.{by_token}
use Rattle.cjc_card_heap.specs.Objects.{shape_of}
use Rattle.cjc_card_acts.proofs.Fits.{fits_there}
use Rattle.cjc_card_acts.proofs.fitting.object_fits.Goals as goal

pub returns-in-Some-shape_of : goal.returns-in-Some-shape_of
returns-in-Some-shape_of g c =
    let l = g.L.LookUps.loaded c.args.links.now in
    let thing = slice_get c.args.heap.now c.args.number in
    c.is_of.ensures
    ∙ sym (fits_there l thing (shape_of c.in-Some.sub) (shape_of c.in-Some-shape_of.sup) c.in-Some.ensures)
    ∙ ap (λ k. thing_fits (by_token l) thing k) c.in-Some-shape_of.ensures
