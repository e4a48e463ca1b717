use Rattle.std.proofs.Common.{◌≡◌}
use Rattle.cjc_types.specs.Search.{frames_of}
use Rattle.cjc_types.proofs.inference.frames.Given as goal

abbrev pub invariant-loop-row : goal.invariant-loop-row
invariant-loop-row l = l.frames ≡ frames_of l.yielded
