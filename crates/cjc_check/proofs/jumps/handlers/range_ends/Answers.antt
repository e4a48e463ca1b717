use Rattle.std.proofs.Common.{◌+◌, arith}
use Rattle.cjc_check.proofs.JumpsLaws.Stands.{far_end}
use Rattle.cjc_check.proofs.jumps.handlers.range_ends.Goals as goal

pub returns-in-None : goal.returns-in-None
returns-in-None c =
    let h = c.in-None.ensures in
    far_end c.args.body.now.insns (c.args.handler.start + c.args.handler.length) c.args.body.now.end c.requires.insns
    (omega (arith, h)) c.requires.end
