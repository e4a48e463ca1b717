use Rattle.std.proofs.Common.{◌≡◌, ℕ, List, ◌==◌, Some, ap, sym, ◌∙◌, rules, pos, ◌+ℤ◌}
use Rattle.std.specs.List.{list_any}
use Rattle.cjc_check.specs.Jumps.Offsets.{natural}
use Rattle.cjc_check.proofs.JumpsLaws.Lands.{lands_before, lands_to}
use Rattle.cjc_check.proofs.jumps.jumps.lands.Goals as goal

pub returns-in-Some : goal.returns-in-Some
returns-in-Some c =
    let e : c.target.result ≡ natural (Some (pos c.args.at +ℤ c.args.by)) = search rules in
    c.is_among.ensures ∙ ap (λ (xs : List ℕ). list_any (λ n. n == c.in-Some.to) xs) (c.items.ensures
    ∙ c.requires.starts)
    ∙ lands_to c.args.body.now.insns (pos c.args.at +ℤ c.args.by) c.in-Some.to (sym e ∙ c.in-Some.is)

pub returns-in-None : goal.returns-in-None
returns-in-None c =
    let e : c.target.result ≡ natural (Some (pos c.args.at +ℤ c.args.by)) = search rules in
    lands_before c.args.body.now.insns (pos c.args.at +ℤ c.args.by) (sym e ∙ c.in-None.is)
