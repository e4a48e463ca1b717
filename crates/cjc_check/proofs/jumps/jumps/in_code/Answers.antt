use Rattle.std.proofs.Common.{List, ap, ◌∙◌, map}
use Rattle.cjc_check.specs.declared.codes.code.At.{At}
use Rattle.cjc_check.specs.Codes.Bodies.{code_of, placed_of}
use Rattle.cjc_check_rules.specs.Instructions.{in_code}
use Rattle.cjc_check_rules.specs.Spots.{first}
use Rattle.cjc_check.proofs.JumpsLaws.Lands.{in_code_all, in_code_more}
use Rattle.cjc_capread.proofs.BytesGets.{same_item}
use Rattle.cjc_check.proofs.jumps.jumps.in_code.Goals as goal

pub loop-i-preserved : goal.loop-i-preserved
loop-i-preserved c =
    let xs = c.items-insns.result.now in
    let i = c.loop-i.i in
    rw c.earlier-least.ensures (in_code_more (code_of c.args.body.now) i _ xs c.stays_inside-stays.result c.loop-i.least
    c.in_insn.result _ c.loop-i-test.true
    (same_item xs i _ c.loop-i-test.true) c.stays_inside-stays.ensures c.in_insn.ensures c.loop-i.invariant)

pub returns : goal.returns
returns c =
    in_code_all (code_of c.args.body.now) c.loop-i.i c.items-insns.result.now c.loop-i.least _ c.loop-i-test.false
    c.loop-i.invariant
    ∙ ap (λ (ys : List At). first (in_code (code_of c.args.body.now) (map placed_of ys))) c.items-insns.ensures
