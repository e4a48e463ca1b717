use Rattle.cjc_theorem.proofs.fair_exports.fair_exports_are_sound.Goals as goal
use Rattle.cjc_theorem.proofs.FairExports.Listed.{exports_plain, names}
use Rattle.cjc_theorem.proofs.FairExports.Roots.{exports_sound}
use Rattle.cjc_theorem.proofs.FairExports.Sent.{exports_agree, exports_send}

pub returns-clause-sound : goal.returns-clause-sound
returns-clause-sound c = λ list files codes settings sound checks. exports_sound list files sound (names list files
    codes settings checks)

pub returns-clause-plain : goal.returns-clause-plain
returns-clause-plain c = λ list files codes settings checks. exports_plain list files codes settings checks

pub returns-clause-agree : goal.returns-clause-agree
returns-clause-agree c = λ list p sound fair. exports_agree list p.files sound fair

pub returns-clause-send : goal.returns-clause-send
returns-clause-send c = λ list p codes settings sound checks. exports_send list p codes settings sound checks
