use Rattle.std.proofs.Common.{◌≡◌, ◌<◌, ap, sym, ◌∙◌, length, arith}
use Rattle.std.specs.Prelude.{FitsSigned}
use Rattle.std.specs.Int.{w32}
use Rattle.std.proofs.lemmas.Int.{to_z-of_z}
use Rattle.cjc_card_semantics.specs.Bytecode.Effects.{arm_of}
use Rattle.cjc_card_semantics.specs.Machine.Operations.{paired}
use Rattle.cjc_card_semantics.specs.CapRead.Decoder.Decoded.{numbers}
use Rattle.cjc_card_semantics.specs.CapRead.Decoder.Shapes.{entry_size, matches_of}
use Rattle.cjc_card_semantics.proofs.CapReadTables.{numbers_less}
use Rattle.cjc_card_frame.proofs.fetch.switches.arm_of_pairs.Goals as goal

pub returns : goal.returns
returns c =
    let a = c.args in
    let rest = c.loop-rest.rest.now in
    let fits : FitsSigned w32 a.x = c.ranges.x in
    let few : length rest < entry_size (matches_of a.wide) = omega (arith, c.pair_size-size.ensures) in
    let same : arm_of a.other (paired a.at (numbers (matches_of a.wide) a.table.now)) a.x
    ≡ arm_of a.other (paired a.at (numbers (matches_of a.wide) rest)) a.x = simp to_z-of_z at c.loop-rest.invariant
    in
    sym (same ∙ ap (λ ns. arm_of a.other (paired a.at ns) a.x) (numbers_less a.wide rest few))
