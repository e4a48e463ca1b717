use Rattle.std.proofs.Common.{◌<◌, ◌∙◌, sym, length, map, arith}
use Rattle.std.specs.Prelude.{slice_get}
use Rattle.cjc_card_frame.specs.Kinds.{cell_name_of}
use Rattle.cjc_card.proofs.RunsLaws.Packages.{cells_all, cells_more, image_none, image_there, within as stands}
use Rattle.cjc_card.proofs.runs.reports.cells_of.Goals as goal

pub parts-preserved : goal.parts-preserved
parts-preserved g c =
    let parts = (g.L.LookUps.loaded c.args.links.now).parts in
    let p = c.parts in
    let there = image_there c.statics.result (slice_get parts p.part) (sym c.is_some.ensures ∙ c.parts-test.true)
    c.statics.ensures in
    let lt : p.part < length parts = stands parts p.part there.0 there.1 in
    record {
      is = cells_more parts p.part there.0 c.args.statics.now (map cell_name_of c.cells.result.now) p.fields
          c.put_cells.new.fields there.1 c.cells.ensures p.invariant.is c.in_ok-put_cells.ensures;
      within = omega (arith, lt);
    }

pub returns : goal.returns
returns g c =
    let parts = (g.L.LookUps.loaded c.args.links.now).parts in
    let none = image_none c.statics.result (slice_get parts c.parts.part) (sym c.is_some.ensures ∙ c.parts-test.false)
    c.statics.ensures in
    cells_all parts c.parts.part c.args.statics.now c.parts.fields none c.parts.invariant.is
