use Rattle.cjc_narrow.specs.Rows.Selected.{paired}
use Rattle.cjc_ncode.specs.Written.{place_in, reached}
use Rattle.cjc_narrow.specs.Written.Rows.{has_rows, rows_by}
use Rattle.cjc_narrow_proof.proofs.SelectedLaws.Formed.{all_have_forms, formed_by}
use Rattle.cjc_narrow_proof.proofs.selected.selected_code_is_formed.Goals as goal

pub returns-clause-forms : goal.returns-clause-forms
returns-clause-forms c = λ files near class method tree insns flags k insn e.
    all_have_forms (paired files near class method tree insns (has_rows (rows_by flags))) (place_in
    (paired files near class method tree insns (has_rows (rows_by flags)))
    (reached insns (rows_by flags))) (reached insns (rows_by flags)) k insn e

pub returns-clause-formed : goal.returns-clause-formed
returns-clause-formed c = λ n files near class method tree insns flags k insn e.
    formed_by n insn (all_have_forms (paired files near class method tree insns (has_rows (rows_by flags)))
    (place_in (paired files near class method tree insns (has_rows (rows_by flags)))
    (reached insns (rows_by flags))) (reached insns (rows_by flags)) k insn e)
