use Rattle.cjc_cmd_make.specs.Package.Texts.{class_line}
use Rattle.cjc_cmd_make.proofs.PackageLaws.Loops.{flat_map_none, flat_map_step}
use Rattle.cjc_cmd_make.proofs.package.texts.put_class_lines.Goals as goal

pub loop-i-init : goal.loop-i-init
loop-i-init c = flat_map_none class_line c.args.out.now

pub loop-i-preserved : goal.loop-i-preserved
loop-i-preserved c = flat_map_step class_line c.args.out.now c.loop-i.out c.put_class_line.new.out c.loop-i.i
    c.loop-i.invariant c.in_ok-put_class_line.ensures
