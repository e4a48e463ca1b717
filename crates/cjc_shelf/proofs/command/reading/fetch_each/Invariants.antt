use Rattle.std.proofs.Common.{◌≡◌, false, drop, length}
use Rattle.cjc_shelf.specs.Command.Plan.{for_each, read_behind, read_each}
use Rattle.cjc_shelf.specs.Command.Gather.{AreShort}
use Rattle.cjc_shelf.proofs.CommandLaws.Each.{GoesBack}
use Rattle.cjc_shelf.proofs.command.reading.fetch_each.Given as goal

abbrev pub invariant-loop-name : goal.invariant-loop-name
invariant-loop-name g l = record {
  back : GoesBack (read_each l.names) (for_each (λ front. false) read_behind l.files (drop l.name-index l.names))
      (g.S.Shelf.shelved l.fn.shelf) (g.S.Shelf.shelved l.shelf);
  count : length l.files ≡ l.name-index;
  short : AreShort l.files;
}
