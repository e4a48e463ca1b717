-- What a sink in memory tells, and which of its puts fail.
use Rattle.std.specs.Prelude.{◌≡◌, ℕ, ◌+◌, ◌-◌, ◌^◌, ◌<◌, ◌≤◌, ◌⊎◌, min, List, [], ◌++◌, length, take, Contains, Some}
use Rattle.std.specs.Prelude.{Result, Ok, Err}
use Rattle.cjc_shelf.specs.Sink.{Sunk}
use Rattle.cjc_shelf.specs.declared.mem_sink.MemSink.{MemSink}
use Rattle.cjc_shelf.specs.declared.sink.SinkFailed.{SinkFailed}

-- what is known of a sink in memory: all that it holds, and how often it has failed
abbrev pub sink_sunk : MemSink → Sunk
sink_sunk s = record { written = Some s.held.items; faults = s.faults }

-- the bytes that there is room for in all
abbrev pub room_of : MemSink → ℕ
room_of s = s.room

-- the numbers of the puts that are to fail
abbrev pub failing_puts : MemSink → List ℕ
failing_puts s = s.failing

-- the number of the next put
abbrev pub next_put : MemSink → ℕ
next_put s = s.calls

-- Nothing was put, and these puts are to fail.
pub record IsNewSink (listed : List ℕ) (s : MemSink) : Type 0 where
  pub sunk : sink_sunk s ≡ record { written = Some []; faults = 0 }
  pub failing : failing_puts s ≡ listed
  pub first : next_put s ≡ 0
  pub no_room : room_of s ≡ 0

-- the put before a count, counted; the count stands still at its type's end
abbrev pub counted : ℕ → ℕ
counted n = min (n + 1) (2 ^ 64 - 1)

-- So many bytes fit, and the next put is not to fail.
abbrev pub Takes : MemSink → ℕ → Type 0
Takes s n = (length s.held.items + n ≤ s.room) × (Contains (failing_puts s) (next_put s) → ⊥)

-- A put is taken whole; or it is listed and nothing is; or it does not fit and what fits is.
abbrev pub PutEnds : {T : Type 0} → List ℕ → MemSink → MemSink → Result T SinkFailed → Type 0
PutEnds bytes old new (Ok done) = Takes old (length bytes) × (new.held.items ≡ old.held.items ++ bytes)
    × (new.faults ≡ old.faults)
PutEnds bytes old new (Err failed) = (new.faults ≡ counted old.faults)
    × ((Contains (failing_puts old) (next_put old) × (new.held.items ≡ old.held.items))
    ⊎ ((old.room < length old.held.items + length bytes) × (new.held.items ≡ old.held.items
    ++ take (old.room - length old.held.items) bytes)))

-- A put into memory ended as its list and its room have it, and is counted. What is to fail, and the room, stay.
pub record PutInMemory {T : Type 0} (bytes : List ℕ) (old new : MemSink) (result : Result T SinkFailed) : Type 0 where
  pub ends : PutEnds bytes old new result
  pub next : next_put new ≡ counted (next_put old)
  pub room : room_of new ≡ room_of old
  pub failing : failing_puts new ≡ failing_puts old
