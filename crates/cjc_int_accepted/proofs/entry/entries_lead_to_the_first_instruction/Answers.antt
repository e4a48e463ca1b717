use Rattle.cjc_int_accepted.proofs.EntryLaws.{entry_arrives, entry_unbroken}
use Rattle.cjc_int_accepted.proofs.entry.entries_lead_to_the_first_instruction.Goals as goal

pub returns-clause-unbroken : goal.returns-clause-unbroken
returns-clause-unbroken c = entry_unbroken

pub returns-clause-arrives : goal.returns-clause-arrives
returns-clause-arrives c = entry_arrives
