use Rattle.std.proofs.Common.{◌≡◌, ◌++◌, drop}
use Rattle.cjc_ncode.specs.Written.{catches_at}
use Rattle.cjc_narrow.specs.Written.Labels.{place_of}
use Rattle.cjc_narrow.proofs.written.catches.catches_at.Given as goal

abbrev pub invariant-loop-catch : goal.invariant-loop-catch
invariant-loop-catch l = l.row ++ catches_at (place_of l.places) (drop l.catch-index l.catches)
    ≡ catches_at (place_of l.places) l.catches
