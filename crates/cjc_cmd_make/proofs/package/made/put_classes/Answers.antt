use Rattle.cjc_cmd_make.proofs.PackageLaws.Loops.{next_number, next_files}
use Rattle.cjc_cmd_make.proofs.package.made.put_classes.Goals as goal

pub loop-i-preserved : goal.loop-i-preserved
loop-i-preserved c = (
  next_number c.args.number c.loop-i.i c.loop-i.x c.in_ok-last.last c.loop-i.invariant.0 c.in_ok-last.ensures.last,
  next_files c.args.number c.loop-i.i c.loop-i.x c.args.files.now c.loop-i.files c.put_class.new.files
      c.loop-i.invariant.0 c.loop-i.invariant.1 c.in_ok-last.ensures.file,
)
