use Rattle.std.proofs.Common.{take, Ok}
use Rattle.cjc_shelf.specs.Command.Publish.{WritesAll}
use Rattle.cjc_shelf.proofs.command.publishing.write_all.Given as goal

abbrev pub invariant-loop-at : goal.invariant-loop-at
invariant-loop-at g l = WritesAll {T = Unit {0}} (take l.at l.files) (g.S.Shelf.shelved l.fn.shelf)
    (g.S.Shelf.shelved l.shelf) (Ok tt)
