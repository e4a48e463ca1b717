use Rattle.std.proofs.Common.{ℕ, ◌≤◌, ◌^◌, All, List, length, subst, arith}
use Rattle.std.proofs.lemmas.List.{take_all}
use Rattle.std.proofs.lemmas.List.Elements.{All-more}
use Rattle.cjc_cmd_make.proofs.report.making.are_short.Goals as goal

pub loop-bytes-preserved : goal.loop-bytes-preserved
loop-bytes-preserved c =
    let here : length c.items.result.now ≤ 2 ^ 29 = omega (arith, c.if-items-gt-LONGEST.false) in
    let short : length c.bytes-item.result ≤ 2 ^ 29 = subst (λ (b : List ℕ). length b ≤ 2 ^ 29) c.items.ensures here in
    All-more (λ bytes. length bytes ≤ 2 ^ 29) c.args.files.now c.loop-bytes.bytes-index c.bytes-item.result
    c.loop-bytes-test.true c.loop-bytes.invariant
    (subst (λ (b : List ℕ). length b ≤ 2 ^ 29) c.bytes-item.is short)

pub returns : goal.returns
returns c = λ t. subst (All (λ bytes. length bytes ≤ 2 ^ 29)) (take_all c.loop-bytes.bytes-index c.args.files.now
    c.loop-bytes-test.false) c.loop-bytes.invariant
