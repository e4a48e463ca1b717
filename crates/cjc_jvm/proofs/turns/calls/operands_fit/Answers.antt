use Rattle.std.proofs.Common.{◌≡◌, ◌<◌, length, sym, arith}
use Rattle.cjc_jvm.proofs.TurnsLaws.Receivers.{too_few}
use Rattle.cjc_jvm.proofs.turns.calls.operands_fit.Goals as goal

pub returns-then-count-height-clause-fit : goal.returns-then-count-height-clause-fit
returns-then-count-height-clause-fit c =
    let params = c.args.types.now.params in
    let stack = c.args.frame.now.stack in
    let few : length stack < length params = omega (arith, c.count-count.ensures, c.height.ensures) in
    sym (too_few params stack few)
