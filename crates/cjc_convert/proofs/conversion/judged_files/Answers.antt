use Rattle.cjc_convert.proofs.conversion.judged_files.Goals as goal

pub shaped_files-requires-clause-shaped : goal.shaped_files-requires-clause-shaped
shaped_files-requires-clause-shaped c =
    let (files, is) = c.requires.sound in
    let (p, shaped) = c.in_ok-shaped.ensures.shaped files is in
    (files, p, is, shaped)

pub returns-clause-converted : goal.returns-clause-converted
returns-clause-converted c = λ files is.
    let (p, shaped) = c.in_ok-shaped.ensures.shaped files is in
    c.shaped_files.ensures.converted files p is shaped

pub returns-clause-refused : goal.returns-clause-refused
returns-clause-refused c = λ files is.
    let (p, shaped) = c.in_ok-shaped.ensures.shaped files is in
    c.shaped_files.ensures.refused files p is shaped
