use Rattle.cjc_verify_proof.specs.Acts.{plain_act}
use Rattle.cjc_verify_proof.proofs.PlainLaws.{plain_kept, parts}
use Rattle.cjc_verify_proof.proofs.rows.plain_rows_hold.Goals as goal

pub returns : goal.returns
returns c is is_of room r f kinds beside operands read cells local_cells stack locals w k passes =
    plain_kept is is_of room local_cells locals k r f kinds beside operands read cells stack w
    (parts is_of room (plain_act r operands) local_cells cells passes)
