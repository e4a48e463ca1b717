use Rattle.cjc_cmd_card.proofs.RunningLaws.Package.{input_then}
use Rattle.cjc_cmd_card.proofs.running.package.gather_package.Goals as goal

pub returns-clause-gathers : goal.returns-clause-gathers
returns-clause-gathers g c =
    let rest = rw c.items.ensures at c.gather_text.ensures.gathers in
    input_then _ _ _ _ _ _ _ c.in_ok-text.ensures.gathers rest
