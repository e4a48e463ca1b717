use Rattle.std.proofs.Common.{◌≡◌, Ok, subst}
use Rattle.cjc_list.specs.Bytes.Text.{TextLine}
use Rattle.cjc_script_text.specs.Scripted.{with_line}
use Rattle.cjc_script_text.proofs.Loops.{lines_next, one_turn}
use Rattle.cjc_script_text.proofs.reading.read_lines.Goals as goal

pub loop-line-preserved : goal.loop-line-preserved
loop-line-preserved c = record {
  read = lines_next c.loop-line.partial_script c.in_ok-partial_script.partial_script c.args.lines.now
      c.loop-line.line-index c.line-item.result _ c.loop-line-test.true
      (subst (λ (l : TextLine). with_line c.loop-line.partial_script l ≡ Ok c.in_ok-partial_script.partial_script)
      c.line-item.is c.in_ok-partial_script.ensures) c.loop-line.invariant.read;
  few = one_turn c.loop-line.partial_script c.in_ok-partial_script.partial_script c.line-item.result
      c.loop-line.line-index c.in_ok-partial_script.ensures c.loop-line.invariant.few;
}
