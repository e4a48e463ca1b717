use Rattle.std.proofs.Common.{List, map, subst}
use Rattle.std.specs.Prelude.{option_map}
use Rattle.cjc_bytes.proofs.Gets.{take_past}
use Rattle.cjc_bytes.specs.Told.{break_of}
use Rattle.cjc_verify.proofs.InBodies.{next_body}
use Rattle.cjc_verify.specs.Working.Bodies.{InBodies, InBody, body_of}
use Rattle.cjc_verify.specs.Working.Firsts.{IsFirstWhere}
use Rattle.cjc_verify.specs.declared.method_body.MethodBody.{MethodBody}
use Rattle.cjc_verify.proofs.bodies.bodies_break.Goals as goal

pub loop-body-init : goal.loop-body-init
loop-body-init c = λ b h. h

pub loop-body-preserved : goal.loop-body-preserved
loop-body-preserved c =
    let p = c.args.pair.now in
    next_body p c.args.bodies.now c.loop-body.body-index c.body-item.result _ _ _ c.loop-body-test.true
    c.loop-body.invariant
    (subst (λ (b : MethodBody). IsFirstWhere (InBody p (body_of b)) (option_map break_of c.in_ok-broken.broken))
    c.body-item.is c.in_ok-broken.ensures)
    c.either-first.ensures

pub returns : goal.returns
returns c =
    let p = c.args.pair.now in
    subst (λ (bs : List MethodBody). IsFirstWhere (InBodies p (map body_of bs)) (option_map break_of c.loop-body.first))
    (take_past c.args.bodies.now c.loop-body.body-index c.loop-body-test.false) c.loop-body.invariant
