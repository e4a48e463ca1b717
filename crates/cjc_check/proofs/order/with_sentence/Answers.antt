use Rattle.std.proofs.Common.{subst, sym}
use Rattle.std.specs.Prelude.{Option}
use Rattle.cjc_capread.specs.Bytes.Breaks.{Break, IsFirstOf}
use Rattle.cjc_check_rules.specs.Consistent.{breaks_of, sentence}
use Rattle.cjc_check.proofs.FirstPlaces.{first_break}
use Rattle.cjc_check.proofs.order.with_sentence.Goals as goal

pub returns : goal.returns
returns c = λ need spots rest n e h.
    c.first.ensures (breaks_of (sentence c.args.number need spots)) rest
    (subst (λ (o : Option Break). IsFirstOf (breaks_of (sentence c.args.number need spots)) o) (sym c.as_break.ensures)
    (first_break c.args.number c.args.needed need spots c.args.spot n e)) h
