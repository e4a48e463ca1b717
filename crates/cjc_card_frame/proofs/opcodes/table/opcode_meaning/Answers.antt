use Rattle.std.proofs.Common.{ap, sym, ◌∙◌}
use Rattle.std.specs.Prelude.{option_map}
use Rattle.cjc_card_semantics.specs.Bytecode.Meanings.{known_meaning}
use Rattle.cjc_card_frame.specs.Meanings.{meaning_of}
use Rattle.cjc_card_frame.proofs.OpcodesLaws.Tables.{literal_at, row_at}
use Rattle.cjc_card_frame.proofs.opcodes.table.opcode_meaning.Goals as goal

pub returns-in-Some-clause-is : goal.returns-in-Some-clause-is
returns-in-Some-clause-is c = ap (λ o. known_meaning (option_map meaning_of o)) (sym c.in-Some.is ∙ c.row.ensures)
    ∙ row_at c.args.opcode

pub returns-in-None-clause-is : goal.returns-in-None-clause-is
returns-in-None-clause-is c = ap (λ o. known_meaning (option_map meaning_of o)) (sym c.in-None.is ∙ c.row.ensures)
    ∙ row_at c.args.opcode

pub returns-in-Some-clause-literal : goal.returns-in-Some-clause-literal
returns-in-Some-clause-literal c = λ h. literal_at c.args.opcode c.in-Some.meaning c.in-Some.ensures h
