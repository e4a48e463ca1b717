use Rattle.std.proofs.Common.{◌≡◌, ◌∙◌, ap, arith, sym, subst, true, false}
use Rattle.std.specs.Prelude.{nat_lt}
use Rattle.std.proofs.lemmas.Bool.Decides.{nat_tests}
use Rattle.cjc_exported.specs.Bytes.Breaks.{IsFirst, broken_at}
use Rattle.cjc_classes.specs.CapWrite.Files.{limit_of}
use Rattle.cjc_exported.specs.Components.Limits.{size_breaks}
use Rattle.cjc_captree.proofs.LimitsLaws.Widest.{breaks_limit, breaks_none, breaks_wide}
use Rattle.cjc_captree.proofs.limits.limits.size_break.Goals as goal

pub returns-in-Some : goal.returns-in-Some
returns-in-Some c = λ p named tree widest.
    let e = ap limit_of (sym tree) ∙ sym c.broken_limit.ensures ∙ c.in-Some.is in
    subst (λ s. IsFirst (broken_at s c.in-Some.rule) (size_breaks p)) (sym c.of_list-spot.ensures)
    (breaks_limit p c.args.list.now named c.in-Some.rule e)

pub returns-then-widest-gt65535 : goal.returns-then-widest-gt65535
returns-then-widest-gt65535 c = λ p named tree widest.
    let e = ap limit_of (sym tree) ∙ sym c.broken_limit.ensures ∙ c.in-None.is in
    let lt = c.if-widest-gt65535.true in
    let wide : nat_lt 65535 c.args.widest ≡ true = grind (arith, nat_tests) in
    subst (λ s. IsFirst (broken_at s 416) (size_breaks p)) (sym c.of_list-spot.ensures) (breaks_wide p c.args.list.now
    named e (ap (nat_lt 65535) (sym widest) ∙ wide))

pub returns-else-widest-gt65535 : goal.returns-else-widest-gt65535
returns-else-widest-gt65535 c = λ p named tree widest.
    let e = ap limit_of (sym tree) ∙ sym c.broken_limit.ensures ∙ c.in-None.is in
    let le = c.if-widest-gt65535.false in
    let narrow : nat_lt 65535 c.args.widest ≡ false = grind (arith, nat_tests) in
    breaks_none p c.args.list.now named e (ap (nat_lt 65535) (sym widest) ∙ narrow)
