use Rattle.std.proofs.Common.{◌≡◌, ◌≤◌, take, drop, length, reverse, ◌-◌, ap, ◌∙◌, arith}
use Rattle.std.proofs.lemmas.List.{length-reverse, take_rest}
use Rattle.cjc_jvm_step.proofs.FrameLaws.Piles.{drop-newest}
use Rattle.cjc_jvm_step.proofs.frame.pile.Pile.newest.Goals as goal

pub returns : goal.returns
returns g c =
    let v = c.self.inside.items in
    let count = c.args.count in
    let len = c.len-len.result in
    let full : len ≡ length v.items = c.len-len.ensures ∙ v.ok.0 in
    let enough : count ≤ length v.items = omega (arith, c.requires, ap length c.self.view_is, length-reverse v.items) in
    ap (λ xs. take (length xs - (len - count)) (drop (len - count) xs)) c.deref.ensures.value
    ∙ ap (λ n. take (length v.items - (n - count)) (drop (n - count) v.items)) full
    ∙ take_rest v.items (length v.items - count)
    ∙ drop-newest v.items count enough
    ∙ ap (λ ys. reverse (take count ys)) c.self.view_is
