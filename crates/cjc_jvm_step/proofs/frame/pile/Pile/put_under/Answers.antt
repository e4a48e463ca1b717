use Rattle.std.proofs.Common.{◌≡◌, ◌≤◌, ◌∷◌, ◌++◌, take, drop, length, reverse, ◌-◌, ap, ◌∙◌, arith}
use Rattle.std.specs.List.{insert}
use Rattle.std.proofs.lemmas.List.{length-reverse}
use Rattle.cjc_jvm_step.proofs.FrameLaws.Piles.{reverse-insert}
use Rattle.cjc_jvm_step.proofs.frame.pile.Pile.put_under.Goals as goal

pub returns : goal.returns
returns g c =
    let v = c.self.inside.items in
    let depth = c.args.depth in
    let item = c.args.item in
    let full : c.len-len.result ≡ length v.items = c.len-len.ensures ∙ v.ok.0 in
    let enough : depth ≤ length v.items = omega (arith, c.requires, ap length c.self.view_is, length-reverse v.items) in
    ap reverse c.in_ok-insert.ensures.items
    ∙ ap (λ n. reverse (insert v.items (n - depth) item)) full
    ∙ reverse-insert v.items depth item enough
    ∙ ap (λ ys. take depth ys ++ item ∷ drop depth ys) c.self.view_is
