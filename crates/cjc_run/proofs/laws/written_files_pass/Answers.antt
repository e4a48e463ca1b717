use Rattle.cjc_run.proofs.Accepting.{accepts}
use Rattle.cjc_run.proofs.laws.written_files_pass.Goals as goal

pub returns : goal.returns
returns c =
    let law = c.written_files_are_accepted.ensures in
    let before = c.written_files_break_nothing.ensures in
    accepts before.read before.unbroken (λ list inputs made read converted trees spell fair b p. law list inputs
    made read converted trees spell fair p.trees p.spell p.image p.is_image p.cap p.cap_is p.whole p.whole_is b
    p.broken)
