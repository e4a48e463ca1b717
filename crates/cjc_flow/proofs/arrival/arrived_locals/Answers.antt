use Rattle.std.proofs.Common.{option_map, ◌∙◌, arith}
use Rattle.std.proofs.lemmas.List.{take_all}
use Rattle.cjc_types.specs.declared.table.Frame.{Frame}
use Rattle.cjc_flow.proofs.Arriving.{all, all_sized, known_step}
use Rattle.cjc_flow.proofs.arrival.arrived_locals.Goals as goal

pub loop-k-preserved : goal.loop-k-preserved
loop-k-preserved c =
    known_step (option_map (λ (f : Frame). f.locals) c.args.frame.now) c.args.rounds c.args.locals.now c.loop-k.k
    c.index-locals-k.result c.rounded_if.result c.known_local.result c.loop-k.arrived.items _
    c.loop-k-test.true c.index-locals-k.is c.rounded_if.ensures c.known_local.ensures c.loop-k.invariant
    c.in_ok-push.ensures.items

pub returns : goal.returns
returns c =
    let o = option_map (λ (f : Frame). f.locals) c.args.frame.now in
    let sized = all_sized o c.args.rounds c.args.locals.now in
    let over = c.loop-k-test.false in
    c.of.ensures ∙ c.loop-k.invariant ∙ take_all c.loop-k.k (all o c.args.rounds c.args.locals.now) (omega (
      arith,
      sized,
      over,
    ))
