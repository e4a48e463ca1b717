use Rattle.std.proofs.Common.{false, drop}
use Rattle.std.specs.List.{AllByRecursion}
use Rattle.cjc_cmd_card.specs.Running.Reads.{IsInput}
use Rattle.cjc_cmd_card.proofs.ShelfEach.{GoesBack}
use Rattle.cjc_cmd_card.specs.Shelf.Command.Plan.{for_each}
use Rattle.cjc_cmd_link.specs.Reads.{member_behind, plan_of_members}
use Rattle.cjc_cmd_link.proofs.reads.gather_members.Given as goal

abbrev pub invariant-loop-line : goal.invariant-loop-line
invariant-loop-line g l = record {
  back : GoesBack (plan_of_members l.lines) (for_each (λ front. false) member_behind l.members (drop l.line-index
      l.lines)) (g.S.Shelf.shelved l.fn.shelf) (g.S.Shelf.shelved l.shelf);
  inputs : AllByRecursion IsInput l.members;
}
