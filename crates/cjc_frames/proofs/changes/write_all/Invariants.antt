use Rattle.std.proofs.Common.{◌≡◌, drop}
use Rattle.cjc_frames.specs.Acts.{with_writes}
use Rattle.cjc_frames.specs.Known.{stack_in}
use Rattle.cjc_frames.proofs.changes.write_all.Given as goal

abbrev pub invariant-loop-one : goal.invariant-loop-one
invariant-loop-one l = with_writes l.act l.before (stack_in l.stack) (drop l.one-index l.writes) l.locals.items
    ≡ with_writes l.act l.before (stack_in l.stack) l.writes l.initial.locals.items
