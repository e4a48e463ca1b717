use Rattle.std.proofs.Common.{◌≡◌, drop}
use Rattle.cjc_check_rules.specs.Described.{last_offset}
use Rattle.cjc_check_tables.proofs.links.described.last_offset.Given as goal

abbrev pub invariant-loop-method : goal.invariant-loop-method
invariant-loop-method l = last_offset l.last (drop l.method-index l.methods) ≡ last_offset l.fn.before l.methods
