use Rattle.cjc_shape_proof.proofs.written.converted_packages_run_by_token.Goals as goal

pub returns : goal.returns
returns c = λ list files judged p is call joined script n free. c.joined_packages_run_by_token.ensures list.name p
    (c.converted_packages_are_runnable.ensures list files judged p is joined.there) call joined script n free
