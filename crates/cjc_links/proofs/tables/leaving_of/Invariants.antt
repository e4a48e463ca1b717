use Rattle.std.proofs.Common.{◌≡◌, length}
use Rattle.cjc_links.specs.Leaving.{IsLeaving}
use Rattle.cjc_links.proofs.tables.leaving_of.Given as goal

abbrev pub invariant-loop-class : goal.invariant-loop-class
invariant-loop-class l = IsLeaving l.names.parts.now.class.now l.leaving × (length l.leaving ≡ l.class-index)
