use Rattle.cjc_narrow.specs.Rows.Selected.{paired}
use Rattle.cjc_ncode.specs.Written.{place_in, reached}
use Rattle.cjc_narrow.specs.Written.Rows.{has_rows, rows_by}
use Rattle.cjc_narrow_proof.proofs.SelectedLaws.Said.{all_said}
use Rattle.cjc_narrow_proof.proofs.selected.selected_code_can_be_said.Goals as goal

pub returns : goal.returns
returns c = λ n files near class method tree insns flags fits k insn e.
    all_said n (paired files near class method tree insns (has_rows (rows_by flags))) (place_in
    (paired files near class method tree insns (has_rows (rows_by flags)))
    (reached insns (rows_by flags))) (reached insns (rows_by flags)) fits k insn e
