use Rattle.std.proofs.Common.{map, take, option_map}
use Rattle.cjc_bytes.specs.Told.{break_of}
use Rattle.cjc_verify.specs.Working.Bodies.{InBodies, body_of}
use Rattle.cjc_verify.specs.Working.Firsts.{IsFirstWhere}
use Rattle.cjc_verify.proofs.bodies.bodies_break.Given as goal

abbrev pub invariant-loop-body : goal.invariant-loop-body
invariant-loop-body l = IsFirstWhere (InBodies l.pair (map body_of (take l.body-index l.bodies))) (option_map break_of
    l.first)
