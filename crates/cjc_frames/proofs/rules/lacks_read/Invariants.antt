use Rattle.std.proofs.Common.{◌≡◌, nat_le, drop}
use Rattle.std.specs.List.{list_any}
use Rattle.cjc_frames.proofs.rules.lacks_read.Given as goal

abbrev pub invariant-loop-read : goal.invariant-loop-read
invariant-loop-read l = list_any (λ r. nat_le l.count r.local) (drop l.read-index l.reads) ≡ list_any
    (λ r. nat_le l.count
    r.local) l.reads
