use Rattle.std.proofs.Common.{◌≡◌, ◌++◌, take, filter_map}
use Rattle.cjc_types.specs.Flow.{place_at}
use Rattle.cjc_types.proofs.method.Method.put_places.Given as goal

abbrev pub invariant-loop-offset : goal.invariant-loop-offset
invariant-loop-offset l = l.places ≡ l.initial.places
    ++ filter_map (place_at l.self.insns) (take l.offset-index l.offsets)
