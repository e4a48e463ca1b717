use Rattle.std.proofs.Common.{◌≡◌, []}
use Rattle.cjc_bytes.specs.Format.{iterated}
use Rattle.cjc_bytes.specs.Reading.{read}
use Rattle.cjc_export.specs.Members.{grown, method}
use Rattle.cjc_export.proofs.members.read_methods.Given as goal

abbrev pub invariant-loop-behind : goal.invariant-loop-behind
invariant-loop-behind l =
    read (iterated l._behind (grown (method l.pool l.of_interface l.count)) l.methods) l.cursor
    ≡ read (iterated l.count (grown (method l.pool l.of_interface l.count)) []) l.fn.cursor
