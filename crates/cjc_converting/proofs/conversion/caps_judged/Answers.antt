use Rattle.cjc_fitting_laws.specs.LaidOut.{IsLaidOut}
use Rattle.cjc_converting.proofs.conversion.caps_judged.Goals as goal

pub caps_within-requires : goal.caps_within-requires
caps_within-requires c =
    let list = c.args.list.now in
    let judged = c.args.judged.now in
    let (files, is) = c.requires.sound in
    let (p, shaped) = c.in_ok-shaped.ensures.shaped files is in
    let read = c.requires.read in
    let laid : IsLaidOut list files judged p = record { read = read; aids = c.requires.aids; sound = is; is_package = shaped.is_package; words = shaped.words; forms = shaped.forms } in
    (files, p, is, shaped, c.static_images_fit.ensures list files judged p laid)

pub returns-clause-made : goal.returns-clause-made
returns-clause-made c = λ files is.
    let (p, shaped) = c.in_ok-shaped.ensures.shaped files is in
    c.caps_within.ensures.made files p is shaped

pub returns-clause-refused : goal.returns-clause-refused
returns-clause-refused c = λ files is.
    let (p, shaped) = c.in_ok-shaped.ensures.shaped files is in
    c.caps_within.ensures.refused files p is shaped
