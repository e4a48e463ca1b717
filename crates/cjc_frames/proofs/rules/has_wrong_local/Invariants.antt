use Rattle.std.proofs.Common.{◌≡◌, drop}
use Rattle.cjc_frames.specs.Acts.{has_wrong_local}
use Rattle.cjc_frames.proofs.rules.has_wrong_local.Given as goal

abbrev pub invariant-loop-read : goal.invariant-loop-read
invariant-loop-read g l = has_wrong_local (g.T.Subtypes.subtype l.types) (drop l.read-index l.reads) l.locals
    ≡ has_wrong_local (g.T.Subtypes.subtype l.types) l.reads l.locals
