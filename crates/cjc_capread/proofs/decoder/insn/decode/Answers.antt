use Rattle.std.proofs.Common.{◌≡◌, ◌+◌, Some, length-drop, ap, sym, ◌∙◌, arith, length, drop}
use Rattle.std.specs.Prelude.{option_map}
use Rattle.std.proofs.lemmas.Slice.{between_to_end}
use Rattle.cjc_capread.specs.Opcodes.{widths}
use Rattle.cjc_capread.specs.Decoder.Decoded.{numbers_of, table_of, values}
use Rattle.cjc_capread.specs.Decoder.Shapes.{before, form_of}
use Rattle.cjc_capread.proofs.DecoderLaws.Decodes.{decode_some, decode_none, size_is, table_fits}
use Rattle.cjc_capread.proofs.decoder.insn.decode.Goals as goal

pub returns-in-Some-clause-is : goal.returns-in-Some-clause-is
returns-in-Some-clause-is c =
    decode_some c.args.bytes.now _ _ _ _ (omega arith) c.shape_of-shape.ensures c.operands_before-operands.ensures
    (between_to_end c.args.bytes.now c.size_before-behind.result (length c.args.bytes.now) (omega arith)
    ∙ ap (λ n. drop n c.args.bytes.now) c.size_before-behind.ensures)
    (ap (option_map numbers_of) (sym c.in-Some.is) ∙ c.table_of.ensures.is)

pub returns-in-Some-clause-front : goal.returns-in-Some-clause-front
returns-in-Some-clause-front c =
    let bs = c.args.bytes.now in
    let s = form_of c.shape_of-shape.result in
    let b = c.size_before-behind.ensures in
    let rest = between_to_end bs c.size_before-behind.result (length bs) (omega arith) ∙ ap (λ n. drop n bs) b in
    let table : Some (numbers_of c.in-Some.table) ≡ table_of s (values c.operands_before-operands.result)
    (drop (1 + widths (before s)) bs) =
    ap (option_map numbers_of) (sym c.in-Some.is) ∙ c.table_of.ensures.is
    ∙ ap (table_of s (values c.operands_before-operands.result)) rest in
    let fits = table_fits s (values c.operands_before-operands.result) (numbers_of c.in-Some.table)
    (drop (1 + widths (before s)) bs) table in
    let n = length-drop (1 + widths (before s)) bs in
    let k = c.in-Some.ensures.size in
    let le = c.if-bytes-behind.false in
    record {
      shape = c.shape_of-shape.ensures;
      matches = c.in-Some.ensures.same;
      size = size_is s _ c.size_before-behind.result (length c.in-Some.table.entries.now) c.shape_of-shape.ensures b k;
      some = omega (arith, b);
      within = omega (arith, b, k, fits, n, le);
    }

pub returns-in-None-clause-is : goal.returns-in-None-clause-is
returns-in-None-clause-is c =
    decode_none c.args.bytes.now _ _ _ (omega arith) c.shape_of-shape.ensures c.operands_before-operands.ensures
    (between_to_end c.args.bytes.now c.size_before-behind.result (length c.args.bytes.now) (omega arith)
    ∙ ap (λ n. drop n c.args.bytes.now) c.size_before-behind.ensures)
    (ap (option_map numbers_of) (sym c.in-None.is) ∙ c.table_of.ensures.is)
