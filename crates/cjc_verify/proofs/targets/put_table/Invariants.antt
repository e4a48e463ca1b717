use Rattle.std.proofs.Common.{◌≡◌, ◌++◌, length, map}
use Rattle.cjc_capread.specs.Decoder.Decoded.{numbers}
use Rattle.cjc_card_acts.specs.CardSemantics.Machine.Operations.{moved}
use Rattle.cjc_methods.specs.LowerCheck.Jumps.Offsets.{offsets_in}
use Rattle.cjc_verify.proofs.targets.put_table.Given as goal

abbrev pub invariant-loop-rest : goal.invariant-loop-rest
invariant-loop-rest l =
    l.targets ++ map (moved l.at) (offsets_in l.table.matches (numbers l.table.matches l.rest))
    ≡ l.initial.targets
    ++ map (moved l.at) (offsets_in l.table.matches (numbers l.table.matches l.table.entries.now))

abbrev pub decreases-loop-rest : goal.decreases-loop-rest
decreases-loop-rest l = length l.rest
