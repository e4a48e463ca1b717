use Rattle.std.proofs.Common.{◌∙◌, ap, sym}
use Rattle.std.specs.Prelude.{slice_get}
use Rattle.cjc_card_semantics.specs.Bytecode.Machine.{thing_fits}
use Rattle.cjc_card_semantics.specs.Machine.ByToken.{by_token}
use Rattle.cjc_card_frame.specs.Objects.{shape_of}
use Rattle.cjc_card.proofs.ActsLaws.Fits.{fits_there}
use Rattle.cjc_card.proofs.acts.fitting.object_fits.Goals as goal

pub returns-in-Some-shape_of : goal.returns-in-Some-shape_of
returns-in-Some-shape_of g c =
    let l = g.L.LookUps.loaded c.args.links.now in
    let thing = slice_get c.args.heap.now c.args.number in
    c.is_of.ensures
    ∙ sym (fits_there l thing (shape_of c.in-Some.sub) (shape_of c.in-Some-shape_of.sup) c.in-Some.ensures)
    ∙ ap (λ k. thing_fits (by_token l) thing k) c.in-Some-shape_of.ensures
