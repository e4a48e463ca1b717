use Rattle.std.proofs.Common.{◌≡◌, ◌==◌, Some, None, drop, arith}
use Rattle.std.specs.Prelude.{position}
use Rattle.std.proofs.lemmas.Grind.{common_steps}
use Rattle.cjc_bytes.proofs.Texts.{cut_within, kept_next, kept_end}
use Rattle.cjc_bytes.proofs.text.kept_lines.Goals as goal

pub loop-n-preserved : goal.loop-n-preserved
loop-n-preserved c =
    let found : position (λ b. b == 10) (drop c.loop-n.at c.args.bytes.now) ≡ Some c.in-Some.n =
    grind (arith, common_steps) in
    record {
      spelt = kept_next c.args.bytes.now c.loop-n.at c.in-Some.n c.loop-n.lines c.keep.new.lines _ found (grind (
        arith,
        common_steps,
        c.in_ok-keep.ensures,
      )) c.loop-n.invariant.spelt;
      within = cut_within (λ b. b == 10) c.args.bytes.now c.loop-n.at c.in-Some.n c.loop-n.invariant.within found;
    }

pub returns : goal.returns
returns c =
    let found : position (λ b. b == 10) (drop c.loop-n.at c.args.bytes.now) ≡ None = grind (arith, common_steps) in
    kept_end c.args.bytes.now c.loop-n.at c.loop-n.lines c.keep-2.new.lines _ found (grind (
      arith,
      common_steps,
      c.in_ok-keep-2.ensures,
    )) c.loop-n.invariant.spelt
