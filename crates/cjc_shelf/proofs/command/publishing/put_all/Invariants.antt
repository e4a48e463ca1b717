use Rattle.std.proofs.Common.{take, Ok}
use Rattle.std.specs.List.{concat}
use Rattle.cjc_shelf.specs.Sink.{Puts}
use Rattle.cjc_shelf.proofs.command.publishing.put_all.Given as goal

abbrev pub invariant-loop-line : goal.invariant-loop-line
invariant-loop-line g l = Puts {T = Unit {0}} (concat (take l.line-index l.lines)) (g.O.Sink.sunk l.fn.out)
    (g.O.Sink.sunk l.out) (Ok tt)
