use Rattle.std.proofs.Common.{◌≡◌, map, take}
use Rattle.cjc_frames.specs.Acts.{given}
use Rattle.cjc_frames.proofs.changes.all_given.Given as goal

abbrev pub invariant-loop-one : goal.invariant-loop-one
invariant-loop-one l = l.cells ≡ map (given l.locals l.stack) (take l.one-index l.what)
