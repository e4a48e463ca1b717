use Rattle.std.proofs.Common.{◌≡◌, drop}
use Rattle.cjc_frames.specs.Acts.{has_wrong}
use Rattle.cjc_frames.proofs.rules.has_wrong.Given as goal

abbrev pub invariant-loop-k : goal.invariant-loop-k
invariant-loop-k g l = has_wrong (g.T.Subtypes.subtype l.types) (drop l.k l.needs) (drop l.k l.stack) ≡ has_wrong
    (g.T.Subtypes.subtype l.types) l.needs l.stack
