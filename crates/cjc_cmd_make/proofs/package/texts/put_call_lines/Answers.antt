use Rattle.cjc_cmd_make.specs.Package.Texts.{call_line}
use Rattle.cjc_cmd_make.proofs.PackageLaws.Loops.{flat_map_none, flat_map_step}
use Rattle.cjc_cmd_make.proofs.package.texts.put_call_lines.Goals as goal

pub loop-i-init : goal.loop-i-init
loop-i-init c = flat_map_none call_line c.args.out.now

pub loop-i-preserved : goal.loop-i-preserved
loop-i-preserved c = flat_map_step call_line c.args.out.now c.loop-i.out c.put_call_line.new.out c.loop-i.i
    c.loop-i.invariant c.in_ok-put_call_line.ensures
