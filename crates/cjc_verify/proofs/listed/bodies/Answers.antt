use Rattle.std.proofs.Common.{◌++◌, List, map}
use Rattle.cjc_methods.specs.LowerCheck.Codes.Bodies.{code_of}
use Rattle.cjc_pairing.specs.CheckIndex.Lookup.Parts.{complete_of}
use Rattle.cjc_verify.proofs.Codes.{ascends_at}
use Rattle.cjc_verify.proofs.ListedMethods.{bodies_short}
use Rattle.cjc_verify.specs.Working.Bodies.{body_of}
use Rattle.cjc_verify.proofs.listed.bodies.Goals as goal

pub put_body-requires-clause-rises : goal.put_body-requires-clause-rises
put_body-requires-clause-rises c = ascends_at c.args.codes.now c.loop-i.i c.index-codes-i.result c.if-i-codes.false
    c.index-codes-i.is c.requires.rise

pub returns-then-i-codes : goal.returns-then-i-codes
returns-then-i-codes c =
    let k = complete_of c.args.parts.now in
    bodies_short k c.args.listed.now c.args.codes.now c.loop-i.i (map body_of c.loop-i.all) _ c.if-i-codes.true
    c.loop-i.invariant
