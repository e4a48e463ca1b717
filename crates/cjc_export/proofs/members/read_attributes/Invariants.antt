use Rattle.std.proofs.Common.{◌≡◌, None}
use Rattle.cjc_bytes.specs.Format.{iterated}
use Rattle.cjc_bytes.specs.Reading.{read}
use Rattle.cjc_export.specs.Members.{attribute}
use Rattle.cjc_export.proofs.members.read_attributes.Given as goal

abbrev pub invariant-loop-behind : goal.invariant-loop-behind
invariant-loop-behind l =
    read (iterated l.behind (attribute l.pool l.place l.is_wrong) l.so_far) l.cursor
    ≡ read (iterated l.count (attribute l.pool l.place l.is_wrong) None) l.fn.cursor
