use Rattle.std.proofs.Common.{ap, sym, ◌∙◌}
use Rattle.std.specs.Prelude.{option_map}
use Rattle.cjc_bytecode.specs.Meanings.{known_meaning}
use Rattle.cjc_opcodes.specs.Meanings.{meaning_of}
use Rattle.cjc_opcodes.proofs.Tables.{row_at}
use Rattle.cjc_opcodes.proofs.table.opcode_meaning.Goals as goal

pub returns-in-Some : goal.returns-in-Some
returns-in-Some c = ap (λ o. known_meaning (option_map meaning_of o)) (sym c.in-Some.is ∙ c.row.ensures) ∙ row_at c.args.opcode

pub returns-in-None : goal.returns-in-None
returns-in-None c = ap (λ o. known_meaning (option_map meaning_of o)) (sym c.in-None.is ∙ c.row.ensures) ∙ row_at c.args.opcode
