-- What is known of the files and streams of the system: counts alone.
use Rattle.std.specs.Prelude.{[], None}
use Rattle.cjc_shelf.specs.Shelf.{Shelved}
use Rattle.cjc_shelf.specs.Sink.{Sunk}
use Rattle.cjc_shelf.specs.declared.disk.DiskShelf.{DiskShelf}
use Rattle.cjc_shelf.specs.declared.stream.StdSink.{StdSink}

-- what is known of a shelf of the system's files: its counts and the last read's size, and none of its files
abbrev pub disk_shelved : {R File Dir : Type 0} → DiskShelf R File Dir → Shelved
disk_shelved d = record { files = None; last = []; misses = d.misses; faults = d.faults; wants = 0; taken = d.taken }

-- what is known of a stream of the system: how often it has failed, and not what was put
abbrev pub stream_sunk : {W : Type 0} → StdSink W → Sunk
stream_sunk s = record { written = None; faults = s.faults }
