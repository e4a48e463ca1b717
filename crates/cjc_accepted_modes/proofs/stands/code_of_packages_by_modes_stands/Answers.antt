use Rattle.cjc_accepted_modes.proofs.stands.code_of_packages_by_modes_stands.Goals as goal

pub returns : goal.returns
returns c = λ list files judged p is by_modes. c.code_of_converted_packages_stands.ensures list files judged p is
    (λ k v there stands. c.code_in_int_mode_stands.ensures list files judged (let laid = is.laid
    in let q = laid.is_package in q.tables) p is by_modes k v there stands)
