use Rattle.std.proofs.Common.{false}
use Rattle.cjc_jvm_semantics.specs.Group.{line_of}
use Rattle.cjc_jvm_link.proofs.Together.{line_more}
use Rattle.cjc_jvm_link.proofs.joint.put_export_lines.Goals as goal

pub loop-export-preserved : goal.loop-export-preserved
loop-export-preserved c =
    line_more (line_of false) c.args.exports.now c.loop-export.export-index c.args.lines.now c.loop-export.lines
    c.put_line.new.lines
    c.loop-export-test.true c.loop-export.invariant c.in_ok-put_line.ensures
