use Rattle.std.proofs.Common.{◌≡◌, length}
use Rattle.cjc_card_semantics.specs.Bytecode.Effects.{arm_of}
use Rattle.cjc_card_semantics.specs.Machine.Operations.{paired}
use Rattle.cjc_card_semantics.specs.CapRead.Decoder.Decoded.{numbers}
use Rattle.cjc_card_semantics.specs.CapRead.Decoder.Shapes.{matches_of}
use Rattle.cjc_card_frame.proofs.fetch.switches.arm_of_pairs.Given as goal

abbrev pub invariant-loop-rest : goal.invariant-loop-rest
invariant-loop-rest l = arm_of l.other (paired l.at (numbers (matches_of l.wide) l.table)) l.x
    ≡ arm_of l.other (paired l.at (numbers (matches_of l.wide) l.rest)) l.x

abbrev pub decreases-loop-rest : goal.decreases-loop-rest
decreases-loop-rest l = length l.rest
