use Rattle.std.proofs.Common.{◌<◌, length, arith}
use Rattle.cjc_card.proofs.RunsLaws.Packages.{arrays_all, arrays_more, images_all, images_more, within as stands}
use Rattle.cjc_card.proofs.runs.starts.put_packages.Goals as goal

pub parts-preserved : goal.parts-preserved
parts-preserved g c =
    let parts = (g.L.LookUps.loaded c.args.links.now).parts in
    let p = c.parts in
    let s = c.in-Some.component.now in
    let lt : p.part < length parts = stands parts p.part s c.in-Some.ensures in
    record {
      heap = arrays_more parts p.part s c.args.heap.now p.heap c.put_package.new.heap c.in-Some.ensures p.invariant.heap
          c.in_ok-put_package.ensures.heap;
      statics = images_more parts p.part s c.args.heap.now p.heap c.put_package.new.heap c.args.statics.now p.statics
          c.put_package.new.statics c.in-Some.ensures p.invariant.statics c.in_ok-put_package.ensures.heap
          c.in_ok-put_package.ensures.statics;
      within = omega (arith, lt);
    }

pub returns-clause-heap : goal.returns-clause-heap
returns-clause-heap g c =
    let parts = (g.L.LookUps.loaded c.args.links.now).parts in
    arrays_all parts c.parts.part c.args.heap.now c.parts.heap c.in_default.ensures c.parts.invariant.heap

pub returns-clause-statics : goal.returns-clause-statics
returns-clause-statics g c =
    let parts = (g.L.LookUps.loaded c.args.links.now).parts in
    images_all parts c.parts.part c.args.heap.now c.parts.heap c.args.statics.now c.parts.statics c.in_default.ensures
    c.parts.invariant.statics
