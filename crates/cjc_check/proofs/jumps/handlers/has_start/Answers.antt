use Rattle.std.proofs.Common.{ℕ, List, ◌==◌, ap, ◌∙◌}
use Rattle.std.specs.List.{list_any}
use Rattle.cjc_check.proofs.JumpsLaws.Stands.{starts_any}
use Rattle.cjc_check.proofs.jumps.handlers.has_start.Goals as goal

pub returns : goal.returns
returns c = c.is_among.ensures ∙ ap (λ (xs : List ℕ). list_any (λ n. n == c.args.offset) xs) (c.items.ensures
    ∙ c.requires.starts) ∙ starts_any c.args.body.now.insns c.args.offset
