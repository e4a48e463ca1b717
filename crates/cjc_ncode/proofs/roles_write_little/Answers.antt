use Rattle.std.proofs.Common.{◌≡◌, true}
use Rattle.cjc_ncode.proofs.WrittenCases.{written_cases}
use Rattle.cjc_ncode.proofs.roles_write_little.Goals as goal

pub returns : goal.returns
returns c holds = written_cases (λ xs. holds xs ≡ true)
