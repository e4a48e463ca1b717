use Rattle.std.proofs.Common.{◌≡◌, []}
use Rattle.cjc_bytes.specs.Format.{iterated}
use Rattle.cjc_bytes.specs.Reading.{read}
use Rattle.cjc_export.specs.Members.{grown, field}
use Rattle.cjc_export.proofs.members.read_fields.Given as goal

abbrev pub invariant-loop-behind : goal.invariant-loop-behind
invariant-loop-behind l = read (iterated l._behind (grown (field l.pool)) l.fields) l.cursor
    ≡ read (iterated l.count (grown (field l.pool)) []) l.fn.cursor
