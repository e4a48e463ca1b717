use Rattle.std.proofs.Common.{◌≡◌, ◌++◌, drop}
use Rattle.std.specs.List.{flat_map}
use Rattle.cjc_code.specs.Unfit.{catch_places}
use Rattle.cjc_code.proofs.unfit.put_catches.Given as goal

abbrev pub invariant-loop-catch : goal.invariant-loop-catch
invariant-loop-catch l = l.places ++ flat_map (catch_places l.starts l.size) (drop l.catch-index l.catches)
    ≡ l.fn.places ++ flat_map (catch_places l.starts l.size) l.catches
