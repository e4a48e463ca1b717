use Rattle.std.proofs.Common.{ℕ, List, arith, subst, sym}
use Rattle.cjc_list.specs.Spelling.{IsSpelt}
use Rattle.cjc_conversion_trials.proofs.conversions.converted.Goals as goal

pub convert-requires-clause-read : goal.convert-requires-clause-read
convert-requires-clause-read c =
    let spelt = c.in_ok-list.ensures.found in
    (c.args.text.now, omega arith, subst (λ (name : List ℕ). IsSpelt name c.in_ok-list.list c.args.text.now) (sym spelt.0.3.named) spelt)
