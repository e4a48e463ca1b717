use Rattle.std.proofs.Common.{true}
use Rattle.cjc_jvm_semantics.specs.Group.{line_of}
use Rattle.cjc_jvm_link.proofs.Together.{line_more}
use Rattle.cjc_jvm_link.proofs.joint.put_class_lines.Goals as goal

pub loop-class-preserved : goal.loop-class-preserved
loop-class-preserved c =
    line_more (line_of true) c.args.classes.now c.loop-class.class-index c.args.lines.now c.loop-class.lines
    c.put_line.new.lines
    c.loop-class-test.true c.loop-class.invariant c.in_ok-put_line.ensures
