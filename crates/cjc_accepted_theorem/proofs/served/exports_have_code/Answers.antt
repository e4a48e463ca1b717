use Rattle.cjc_accepted_theorem.proofs.ExportsLaws.{exports_code}
use Rattle.cjc_accepted_theorem.proofs.served.exports_have_code.Goals as goal

pub returns : goal.returns
returns c = λ list files judged p is. exports_code p is.of_files.checked.plain
