use Rattle.std.proofs.Common.{◌≡◌, ◌-◌}
use Rattle.cjc_bytes.specs.Format.{in_a_row}
use Rattle.cjc_bytes.specs.Reading.{read}
use Rattle.cjc_classfile.specs.Members.{attribute}
use Rattle.cjc_classfile.proofs.code.skip_attributes.Given as goal

abbrev pub invariant-loop : goal.invariant-loop
invariant-loop l = read (in_a_row (l.count - l.counter) (attribute l.pool)) l.cursor
    ≡ read (in_a_row l.count (attribute l.pool)) l.fn.cursor
