use Rattle.std.proofs.Common.{◌≡◌, length}
use Rattle.cjc_check_tables.specs.Links.Leaving.{IsLeaving}
use Rattle.cjc_check_tables.proofs.links.tables.leaving_of.Given as goal

abbrev pub invariant-loop-class : goal.invariant-loop-class
invariant-loop-class l = IsLeaving l.names.parts.now.class.now l.leaving × (length l.leaving ≡ l.class-index)
