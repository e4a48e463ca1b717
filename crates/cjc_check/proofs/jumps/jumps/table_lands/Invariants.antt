use Rattle.std.proofs.Common.{◌≡◌, length}
use Rattle.std.specs.List.{list_all}
use Rattle.cjc_check.specs.Codes.Bodies.{code_of}
use Rattle.cjc_capread.specs.Decoder.Decoded.{numbers}
use Rattle.cjc_check_rules.specs.Instructions.{lands}
use Rattle.cjc_check.specs.Jumps.Offsets.{offsets_in}
use Rattle.cjc_check.proofs.jumps.jumps.table_lands.Given as goal

abbrev pub invariant-loop-rest : goal.invariant-loop-rest
invariant-loop-rest l =
    list_all (lands (code_of l.body) l.at) (offsets_in l.table.matches (numbers l.table.matches l.rest))
    ≡ list_all (lands (code_of l.body) l.at) (offsets_in l.table.matches (numbers l.table.matches l.table.entries.now))

abbrev pub decreases-loop-rest : goal.decreases-loop-rest
decreases-loop-rest l = length l.rest
