use Rattle.std.proofs.Common.{ℕ, Bool, arith, refl, ap, ◌∙◌, get_or}
use Rattle.cjc_check_rules.specs.Spots.{first, in_info, unless}
use Rattle.cjc_check_rules.proofs.Numbered.{numbered_more, numbered_all}
use Rattle.cjc_capread.proofs.BytesGets.{same_item}
use Rattle.cjc_check_tables.proofs.exported.offsets.first_unmarked.Goals as goal

pub loop-i-preserved : goal.loop-i-preserved
loop-i-preserved c =
    let xs = c.args.offsets.now in
    let i = c.loop-i.i in
    let at = c.loop-i.at in
    let lt = c.loop-i-test.true in
    let place = c.loop-i.invariant.0 in (
      omega (arith, place),
      λ is h. rw c.earlier-least.ensures (numbered_more (λ (o : ℕ). 2) (λ n k o. unless (is n o) (in_info 10 k)) at _ i
          (get_or xs i 0) xs c.loop-i.least c.unless.result _ lt (same_item xs i 0 lt) refl
          (c.unless.ensures ∙ ap (λ (b : Bool). first (unless b (in_info 10 at))) (h i lt)) (c.loop-i.invariant.1 is
          h)),
    )

pub returns : goal.returns
returns c = λ is h. numbered_all (λ (o : ℕ). 2) (λ n k o. unless (is n o) (in_info 10 k)) c.loop-i.at c.loop-i.i
    c.args.offsets.now c.loop-i.least _ c.loop-i-test.false (c.loop-i.invariant.1 is h)
