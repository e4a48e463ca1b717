use Rattle.std.proofs.Common.{◌≡◌, ◌++◌, drop, map}
use Rattle.cjc_methods.specs.LowerCheck.Codes.Bodies.{code_of}
use Rattle.cjc_pairing.specs.CheckIndex.Lookup.Parts.{complete_of}
use Rattle.cjc_verify.specs.Bodies.{bodies_of}
use Rattle.cjc_verify.specs.Working.Bodies.{body_of}
use Rattle.cjc_verify.proofs.listed.bodies.Given as goal

abbrev pub invariant-loop-i : goal.invariant-loop-i
invariant-loop-i l =
    let c = complete_of l.parts in
    map body_of l.all ++ bodies_of c (drop l.i l.listed) (map code_of (drop l.i l.codes))
    ≡ bodies_of c l.listed (map code_of l.codes)
