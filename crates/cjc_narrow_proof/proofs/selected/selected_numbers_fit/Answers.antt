use Rattle.cjc_narrow.specs.Written.Rows.{rows_by}
use Rattle.cjc_narrow_proof.proofs.SelectedLaws.Numbers.{selected_fit}
use Rattle.cjc_narrow_proof.proofs.selected.selected_numbers_fit.Goals as goal

pub returns : goal.returns
returns c = λ n pool small files class method tree insns flags up said k insn e.
    selected_fit n pool small files class method tree insns (rows_by flags) up said k insn e
