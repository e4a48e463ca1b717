use Rattle.std.proofs.Common.{◌≡◌, ◌≤◌, take, drop, length, reverse, ◌-◌, ap, ◌∙◌, arith}
use Rattle.std.proofs.lemmas.List.{length-reverse}
use Rattle.cjc_jvm_step.proofs.FrameLaws.Piles.{reverse-take}
use Rattle.cjc_jvm_step.proofs.frame.pile.Pile.forget.Goals as goal

pub returns : goal.returns
returns g c =
    let v = c.self.inside.items in
    let count = c.args.count in
    let full : c.len-len.result ≡ length v.items = c.len-len.ensures ∙ v.ok.0 in
    let enough : count ≤ length v.items = omega (arith, c.requires, ap length c.self.view_is, length-reverse v.items) in
    ap reverse c.truncate.ensures.items ∙ ap (λ n. reverse (take (n - count) v.items)) full
    ∙ reverse-take v.items count enough ∙ ap (drop count) c.self.view_is
