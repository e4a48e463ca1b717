use Rattle.cjc_types.specs.Working.FlowLaws as laws
use Rattle.cjc_types.proofs.laws.flow_laws.Goals as goal

pub returns-clause-lawful : goal.returns-clause-lawful
returns-clause-lawful c = λ b. laws.type_laws b

pub returns-clause-stays : goal.returns-clause-stays
returns-clause-stays c = λ b. laws.type_flow_stays b
