use Rattle.std.proofs.Common.{◌≡◌, ◌==◌, Some, None, drop, arith}
use Rattle.std.specs.Prelude.{position}
use Rattle.std.proofs.lemmas.Grind.{common_steps}
use Rattle.cjc_bytes.proofs.Texts.{cut_within, filled_next, filled_end}
use Rattle.cjc_bytes.proofs.text.filled_parts.Goals as goal

pub loop-n-preserved : goal.loop-n-preserved
loop-n-preserved c =
    let found : position (λ b. b == 32) (drop c.loop-n.at c.args.line.now) ≡ Some c.in-Some.n =
    grind (arith, common_steps) in
    record {
      spelt = filled_next c.args.line.now c.loop-n.at c.in-Some.n c.loop-n.words c.add_word.new.words _ found
          (grind (arith, common_steps, c.in_ok-add_word.ensures)) c.loop-n.invariant.spelt;
      within = cut_within (λ b. b == 32) c.args.line.now c.loop-n.at c.in-Some.n c.loop-n.invariant.within found;
    }

pub returns : goal.returns
returns c =
    let found : position (λ b. b == 32) (drop c.loop-n.at c.args.line.now) ≡ None = grind (arith, common_steps) in
    filled_end c.args.line.now c.loop-n.at c.loop-n.words c.add_word-2.new.words _ found (grind (
      arith,
      common_steps,
      c.in_ok-add_word-2.ensures,
    )) c.loop-n.invariant.spelt
