use Rattle.cjc_accepted_proof.proofs.InstructionsLaws.Objects.{byte_item_mirrors, byte_store_mirrors, length_mirrors}
use Rattle.cjc_accepted_proof.proofs.InstructionsLaws.Objects.{reference_item_mirrors, reference_store_mirrors}
use Rattle.cjc_accepted_proof.proofs.InstructionsLaws.Objects.{short_item_mirrors, short_store_mirrors}
use Rattle.cjc_accepted_proof.proofs.objects.elements_are_mirrored.Goals as goal

pub returns-clause-lengths : goal.returns-clause-lengths
returns-clause-lengths c = length_mirrors

pub returns-clause-loads_references : goal.returns-clause-loads_references
returns-clause-loads_references c = reference_item_mirrors

pub returns-clause-loads_bytes : goal.returns-clause-loads_bytes
returns-clause-loads_bytes c = byte_item_mirrors

pub returns-clause-loads_shorts : goal.returns-clause-loads_shorts
returns-clause-loads_shorts c = short_item_mirrors

pub returns-clause-stores_references : goal.returns-clause-stores_references
returns-clause-stores_references c = reference_store_mirrors

pub returns-clause-stores_bytes : goal.returns-clause-stores_bytes
returns-clause-stores_bytes c = byte_store_mirrors

pub returns-clause-stores_shorts : goal.returns-clause-stores_shorts
returns-clause-stores_shorts c = short_store_mirrors
