use Rattle.cjc_int_theorem.proofs.written.packages_by_modes_run_by_token.Goals as goal

pub returns : goal.returns
returns c = λ list codes t p is call joined script n free. c.joined_packages_run_by_token.ensures list.name p
    (c.packages_by_modes_are_runnable.ensures list codes t p is joined.there) call joined script n free
