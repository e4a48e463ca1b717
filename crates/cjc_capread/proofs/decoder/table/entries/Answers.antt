use Rattle.std.proofs.Common.{◌≡◌, ◌*◌, ap, sym, ◌∙◌, arith, Some, take}
use Rattle.std.specs.Prelude.{option_map}
use Rattle.std.proofs.lemmas.List.{length-take-le}
use Rattle.cjc_capread.specs.Decoder.Decoded.{numbers}
use Rattle.cjc_capread.specs.Decoder.Shapes.{entries_of, entry_size}
use Rattle.cjc_capread.proofs.DecoderLaws.Tables.{cut_short, entries_read, entries_width}
use Rattle.cjc_capread.proofs.decoder.table.entries.Goals as goal

pub returns-then-bytes-size-clause-is : goal.returns-then-bytes-size-clause-is
returns-then-bytes-size-clause-is c =
    let e : c.args.count * c.entry_size.result ≡ c.args.count * entry_size c.args.matches =
    ap (λ k. c.args.count * k) c.entry_size.ensures in
    let w = entries_width c.args.matches c.args.count in
    let h = c.if-bytes-size.true in
    sym (ap (option_map (λ f. f.values)) (cut_short (entries_of c.args.matches c.args.count) c.args.bytes.now
    (omega (arith, e, w, h))))

pub returns-else-bytes-size-clause-is : goal.returns-else-bytes-size-clause-is
returns-else-bytes-size-clause-is c =
    let e : c.args.count * c.entry_size.result ≡ c.args.count * entry_size c.args.matches =
    ap (λ k. c.args.count * k) c.entry_size.ensures in
    let h = c.if-bytes-size.false in
    ap (λ k. Some (numbers c.args.matches (take k c.args.bytes.now))) e
    ∙ sym (ap (option_map (λ f. f.values)) (entries_read c.args.matches c.args.count c.args.bytes.now (omega (
      arith,
      e,
      h,
    ))))

pub returns-else-bytes-size-clause-all : goal.returns-else-bytes-size-clause-all
returns-else-bytes-size-clause-all c =
    length-take-le (c.args.count * c.entry_size.result) c.args.bytes.now c.if-bytes-size.false
    ∙ ap (λ k. c.args.count * k) c.entry_size.ensures ∙ sym (entries_width c.args.matches c.args.count)
