use Rattle.std.proofs.Common.{◌<◌, length, arith}
use Rattle.cjc_card_semantics.specs.Bytecode.Machine.{shown}
use Rattle.cjc_card_semantics.specs.Machine.ByToken.{by_token}
use Rattle.cjc_card_frame.specs.Objects.{object_by}
use Rattle.cjc_card.proofs.RunsLaws.Lists.{all_mapped, is_within, one_mapped}
use Rattle.cjc_card.proofs.runs.reports.things_of.Goals as goal

pub things-preserved : goal.things-preserved
things-preserved g c =
    let l = g.L.LookUps.loaded c.args.links.now in
    let p = c.things in
    let lt : p.number < length c.args.heap.now = is_within c.args.heap.now p.number (object_by c.in-Some.object)
    c.in-Some.ensures in
    record {
      is = one_mapped (shown (by_token l)) c.args.heap.now p.number (object_by c.in-Some.object) p.things
          c.push.new.self _ c.in-Some.ensures p.invariant.is c.in_ok-thing_of.ensures c.in_ok-push.ensures.ok;
      within = omega (arith, lt);
    }

pub returns : goal.returns
returns g c = all_mapped (shown (by_token (g.L.LookUps.loaded c.args.links.now))) c.args.heap.now c.things.number
    c.things.things c.in_default.ensures c.things.invariant.is
