use Rattle.std.proofs.Common.{sym, ◌∙◌}
use Rattle.cjc_shape.proofs.WholeLaws.Drafts.{draft, is_draft, made_narrow, same_members, same_narrow, same_spelt}
use Rattle.cjc_shape.proofs.whole.laws.one_draft.Goals as goal

pub returns-clause-some : goal.returns-clause-some
returns-clause-some c = λ list files judged is. (draft list files judged is, is_draft list files judged is)

pub returns-clause-world : goal.returns-clause-world
returns-clause-world c = λ list files judged is p d. same_spelt list files judged is p.files d.rows d.spelt

pub returns-clause-members : goal.returns-clause-members
returns-clause-members c = λ list files judged is made ready p d. same_members list files judged is p d
    ∙ sym ready.methods

pub returns-clause-narrow : goal.returns-clause-narrow
returns-clause-narrow c = λ list files judged is made ready p d. same_narrow list files judged is p d
    ∙ sym (made_narrow list files judged is made ready)
