use Rattle.std.proofs.Common.{◌<◌, length, get_or, arith, inl, inr, refl, sym, ◌∙◌}
use Rattle.std.proofs.lemmas.Grind.{common_steps}
use Rattle.cjc_bytes.proofs.Texts.{decimal_more, decimal_stops, decimal_ends, decimal_begins}
use Rattle.cjc_bytes.proofs.text.decimal.Goals.{then-digit-lt48-via-then-digit-lt48}
use Rattle.cjc_bytes.proofs.text.decimal.Goals.{then-digit-lt48-via-else-digit-lt48+then-digit-gt57}
use Rattle.cjc_bytes.proofs.text.decimal.Goals as goal

pub returns-then-digit-lt48-clause-spelt : goal.returns-then-digit-lt48-clause-spelt
returns-then-digit-lt48-clause-spelt c =
    let filled : 0 < length c.args.text.now = grind (arith, common_steps) in
    sym (decimal_begins c.args.limit c.args.text.now filled
    ∙ decimal_stops c.args.limit c.loop-digit.value c.loop-digit.digit-index (get_or c.args.text.now
    c.loop-digit.digit-index 0) c.args.text.now _ c.loop-digit-test.true refl
    (elim c.then-digit-lt48.branch [
      | then-digit-lt48-via-then-digit-lt48 w ↦ inl w.if-digit-lt48.true
      | then-digit-lt48-via-else-digit-lt48+then-digit-gt57 w ↦ inr (inl w.if-digit-gt57.true)
    ]) c.loop-digit.invariant.spelt)

pub returns-then-value-from-clause-spelt : goal.returns-then-value-from-clause-spelt
returns-then-value-from-clause-spelt c =
    let filled : 0 < length c.args.text.now = grind (arith, common_steps) in
    sym (decimal_begins c.args.limit c.args.text.now filled
    ∙ decimal_stops c.args.limit c.loop-digit.value c.loop-digit.digit-index (get_or c.args.text.now
    c.loop-digit.digit-index 0) c.args.text.now _ c.loop-digit-test.true refl
    (inr (inr (omega arith))) c.loop-digit.invariant.spelt)

pub loop-digit-preserved : goal.loop-digit-preserved
loop-digit-preserved c = record {
  spelt = rw c.from.ensures (decimal_more c.args.limit c.loop-digit.value c.loop-digit.digit-index
      (get_or c.args.text.now c.loop-digit.digit-index 0) c.args.text.now _ c.loop-digit-test.true refl
      c.if-digit-lt48.false c.if-digit-gt57.false (omega arith) c.loop-digit.invariant.spelt);
  within = omega arith;
}

pub returns-clause-spelt : goal.returns-clause-spelt
returns-clause-spelt c =
    let filled : 0 < length c.args.text.now = grind (arith, common_steps) in
    sym (decimal_begins c.args.limit c.args.text.now filled
    ∙ decimal_ends c.args.limit c.loop-digit.value c.loop-digit.digit-index c.args.text.now _ c.loop-digit-test.false
    c.loop-digit.invariant.spelt)
