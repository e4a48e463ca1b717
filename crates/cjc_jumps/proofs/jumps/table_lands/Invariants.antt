use Rattle.std.proofs.Common.{◌≡◌, length}
use Rattle.std.specs.List.{list_all}
use Rattle.cjc_codes.specs.Bodies.{code_of}
use Rattle.cjc_decode.specs.Decoded.{numbers}
use Rattle.cjc_sentences.specs.Instructions.{lands}
use Rattle.cjc_jumps.specs.Offsets.{offsets_in}
use Rattle.cjc_jumps.proofs.jumps.table_lands.Given as goal

abbrev pub invariant-loop-rest : goal.invariant-loop-rest
invariant-loop-rest l =
    list_all (lands (code_of l.body) l.at) (offsets_in l.table.matches (numbers l.table.matches l.rest))
    ≡ list_all (lands (code_of l.body) l.at) (offsets_in l.table.matches (numbers l.table.matches l.table.entries.now))

abbrev pub decreases-loop-rest : goal.decreases-loop-rest
decreases-loop-rest l = length l.rest
