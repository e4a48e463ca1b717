use Rattle.cjc_int_accepted.specs.Methods.{stretches_in}
use Rattle.cjc_int_accepted.proofs.MethodsLaws.{are_stretches}
use Rattle.cjc_int_accepted.proofs.StretchesLaws.{table_closed, table_unbroken}
use Rattle.cjc_int_accepted.proofs.methods.tables_in_int_mode_are_closed.Goals as goal

pub returns-clause-stretches : goal.returns-clause-stretches
returns-clause-stretches c = are_stretches

pub returns-clause-closed : goal.returns-clause-closed
returns-clause-closed c card_type is_of m new b rows label to body front is decoded table = table_closed is_of body
    (stretches_in card_type m new b rows body front) (are_stretches card_type is_of m new b rows label to body front is
    decoded table)

pub returns-clause-unbroken : goal.returns-clause-unbroken
returns-clause-unbroken c card_type is_of m new b rows label to body front is decoded table = table_unbroken is_of body
    (stretches_in card_type m new b rows body front) (are_stretches card_type is_of m new b rows label to body front is
    decoded table)
