use Rattle.std.proofs.Common.{ap, sym, ◌∙◌}
use Rattle.std.specs.Prelude.{option_map}
use Rattle.cjc_card_acts.specs.Rows.{known_row}
use Rattle.cjc_card_acts.specs.Told.{row_told}
use Rattle.cjc_card_acts.proofs.Opcodes.{row_at}
use Rattle.cjc_card_acts.proofs.table.row.Goals as goal

pub returns-in-Some : goal.returns-in-Some
returns-in-Some c = ap (λ o. known_row (option_map row_told o)) (sym c.in-Some.is ∙ c.row_at.ensures) ∙ row_at
    c.args.opcode

pub returns-in-None : goal.returns-in-None
returns-in-None c = ap (λ o. known_row (option_map row_told o)) (sym c.in-None.is ∙ c.row_at.ensures) ∙ row_at
    c.args.opcode
