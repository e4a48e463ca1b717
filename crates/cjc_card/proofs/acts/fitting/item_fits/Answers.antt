use Rattle.std.proofs.Common.{◌∙◌, sym}
use Rattle.std.specs.Prelude.{slice_get}
use Rattle.cjc_script.specs.Sorts.{OfClass}
use Rattle.cjc_card_frame.specs.Objects.{class_of, shape_of}
use Rattle.cjc_card.proofs.ActsLaws.Fits.{fits_there}
use Rattle.cjc_card.proofs.acts.fitting.item_fits.Goals as goal

pub returns-in-Some : goal.returns-in-Some
returns-in-Some g c =
    let l = g.L.LookUps.loaded c.args.links.now in
    rw c.in-Obj.is (c.is_of.ensures ∙ sym (fits_there l (slice_get c.args.heap.now c.in-Obj.number)
    (shape_of c.in-Some.sub) (OfClass (class_of c.args.class)) c.in-Some.ensures))
