use Rattle.std.proofs.Common.{◌∙◌, ℕ, List, ap, Some}
use Rattle.cjc_verify.specs.Pairs.{method_at}
use Rattle.cjc_verify.proofs.DescribedLaws.Entries.{known_desc, known_none}
use Rattle.cjc_verify.proofs.described.named.method_inside.Goals as goal

pub returns-in-Some : goal.returns-in-Some
returns-in-Some c = ap (λ (d : List ℕ). Some d) c.items.ensures ∙ known_desc c.args.pair.now (method_at c.args.pair.now
    c.args.offset) c.in-Some.known.now c.in-Some.ensures

pub returns-in-None : goal.returns-in-None
returns-in-None c = known_none c.args.pair.now (method_at c.args.pair.now c.args.offset) c.in-None.ensures
