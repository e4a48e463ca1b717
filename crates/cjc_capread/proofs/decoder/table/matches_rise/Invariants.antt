use Rattle.std.proofs.Common.{◌≡◌, length}
use Rattle.cjc_capread.specs.Decode.{matches_ascend}
use Rattle.cjc_capread.specs.Decoder.Decoded.{numbers}
use Rattle.cjc_capread.specs.Decoder.Shapes.{matches_of}
use Rattle.cjc_capread.proofs.decoder.table.matches_rise.Given as goal

abbrev pub invariant-loop-rest : goal.invariant-loop-rest
invariant-loop-rest l = matches_ascend (numbers (matches_of l.wide) l.rest)
    ≡ matches_ascend (numbers (matches_of l.wide) l.entries)

abbrev pub decreases-loop-rest : goal.decreases-loop-rest
decreases-loop-rest l = length l.rest
