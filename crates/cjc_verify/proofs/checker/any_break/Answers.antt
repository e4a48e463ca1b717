use Rattle.std.specs.Prelude.{◌⊎◌}
use Rattle.cjc_bytes.specs.Breaks.{Among, Break}
use Rattle.cjc_verify.specs.Bodies.{bodies}
use Rattle.cjc_verify.specs.Verified.{Breaks}
use Rattle.cjc_verify.specs.Working.Bodies.{InBodies}
use Rattle.cjc_verify.proofs.Firsts.{either_first, of_list, same_first}
use Rattle.cjc_verify.proofs.Verified.{from_breaks, others, to_breaks}
use Rattle.cjc_verify.proofs.checker.any_break.Goals as goal

pub returns : goal.returns
returns c =
    let p = c.args.pair.now in
    let listed : Break → Type 0 = λ b. Among b (others p) in
    let in_code : Break → Type 0 = λ b. InBodies p (bodies p.components) b in
    same_first (λ b. listed b ⊎ in_code b) (Breaks p) _ (to_breaks p) (from_breaks p)
    (either_first listed in_code _ _ _ (of_list (others p) _ c.in_ok-listed.ensures) c.in_ok-in_code.ensures
    c.either.ensures)
