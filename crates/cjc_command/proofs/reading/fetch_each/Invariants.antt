use Rattle.std.proofs.Common.{◌≡◌, drop, length}
use Rattle.cjc_command.specs.Gather.{AreShort}
use Rattle.cjc_command.proofs.Each.{GoesBack}
use Rattle.cjc_command.proofs.reading.fetch_each.Given as goal

abbrev pub invariant-loop-name : goal.invariant-loop-name
invariant-loop-name g l = record {
  back : GoesBack l.names l.files (drop l.name-index l.names) (g.S.Shelf.shelved l.fn.shelf) (g.S.Shelf.shelved l.shelf);
  count : length l.files ≡ l.name-index;
  short : AreShort l.files;
}
