use Rattle.std.proofs.Common.{◌≡◌, nat_le, drop}
use Rattle.std.specs.List.{list_any}
use Rattle.cjc_frames.proofs.rules.lacks_write.Given as goal

abbrev pub invariant-loop-write : goal.invariant-loop-write
invariant-loop-write l = list_any (λ r. nat_le l.count r.local) (drop l.write-index l.writes) ≡ list_any
    (λ r. nat_le l.count
    r.local) l.writes
