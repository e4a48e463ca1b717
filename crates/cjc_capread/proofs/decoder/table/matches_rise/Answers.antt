use Rattle.std.proofs.Common.{ap, sym, ◌∙◌, arith, length}
use Rattle.std.proofs.lemmas.Slice.{between_to_end}
use Rattle.cjc_capread.specs.Decode.{matches_ascend}
use Rattle.cjc_capread.specs.Decoder.Decoded.{numbers}
use Rattle.cjc_capread.specs.Decoder.Shapes.{entry_size, matches_of}
use Rattle.cjc_capread.proofs.DecoderLaws.Tables.{is_less, not_less, rise_on, rise_short, rise_stops}
use Rattle.cjc_capread.proofs.decoder.table.matches_rise.Goals as goal

pub returns-then-operand : goal.returns-then-operand
returns-then-operand c =
    rise_stops c.args.wide _ c.entry_size-size.result c.loop-rest.rest.now _ _ c.operand.result
    c.operand-in-loop-rest.result _ c.match_kind-kind.ensures
    (c.entry_size-size.ensures ∙ ap entry_size c.matches_of.ensures) c.loop-rest-test.true c.operand.ensures
    c.operand-in-loop-rest.ensures
    (not_less c.operand.result c.operand-in-loop-rest.result (record { sfits = c.operand.type_inv })
    (record { sfits = c.operand-in-loop-rest.type_inv }) c.if-operand.true)
    c.loop-rest.invariant

pub loop-rest-preserved : goal.loop-rest-preserved
loop-rest-preserved c =
    ap (λ ys. matches_ascend (numbers (matches_of c.args.wide) ys)) (between_to_end c.loop-rest.rest.now
    c.entry_size-size.result (length c.loop-rest.rest.now) (omega arith))
    ∙ rise_on c.args.wide _ c.entry_size-size.result c.loop-rest.rest.now _ _ c.operand.result
    c.operand-in-loop-rest.result _ c.match_kind-kind.ensures
    (c.entry_size-size.ensures ∙ ap entry_size c.matches_of.ensures) c.loop-rest-test.true c.operand.ensures
    c.operand-in-loop-rest.ensures
    (is_less c.operand.result c.operand-in-loop-rest.result (record { sfits = c.operand.type_inv })
    (record { sfits = c.operand-in-loop-rest.type_inv }) c.if-operand.false)
    c.loop-rest.invariant

pub returns : goal.returns
returns c =
    let h = c.loop-rest-test.false in
    let s = c.entry_size-size.ensures ∙ ap entry_size c.matches_of.ensures in
    sym (rise_short c.args.wide c.loop-rest.rest.now (omega (arith, h, s))) ∙ c.loop-rest.invariant
