use Rattle.cjc_theorem.proofs.AlikeLaws.Fewest.{fewest_bytes}
use Rattle.cjc_theorem.proofs.alike.halves.written_code_has_fewest_bytes.Goals as goal

pub returns-clause-choices : goal.returns-clause-choices
returns-clause-choices c = fewest_bytes

pub returns-clause-packages : goal.returns-clause-packages
returns-clause-packages c = λ list files p laid k m e.
    let least = (laid.is_package.methods k m e).wide in
    (least.legal, λ other legal. fewest_bytes (let code = m.code in code.insns) m.wide other least legal)
