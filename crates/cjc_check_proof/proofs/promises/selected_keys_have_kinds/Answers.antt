use Rattle.cjc_pool.specs.Narrow.Written.Rows.{rows_by}
use Rattle.cjc_check_proof.proofs.PromisesLaws.KeyKinds.{selected_has_kinds}
use Rattle.cjc_check_proof.proofs.promises.selected_keys_have_kinds.Goals as goal

pub returns : goal.returns
returns c files near class method tree insns flags k insn e =
    selected_has_kinds files near class method tree insns (rows_by flags) k insn e
