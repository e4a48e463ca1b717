use Rattle.std.proofs.Common.{◌≡◌, ◌++◌, take, filter_map}
use Rattle.cjc_frames.specs.Flow.{place_at}
use Rattle.cjc_frames.proofs.method.Method.put_places.Given as goal

abbrev pub invariant-loop-offset : goal.invariant-loop-offset
invariant-loop-offset l = l.places ≡ l.initial.places
    ++ filter_map (place_at l.self.steps) (take l.offset-index l.offsets)
