use Rattle.std.proofs.Common.{◌∙◌, ap, sym}
use Rattle.std.proofs.lemmas.Result.{err_from_is_err_and}
use Rattle.cjc_shape_proof.specs.Written.LaidOut.{IsLaidOut}
use Rattle.cjc_list.specs.Listed.{ListTree}
use Rattle.cjc_convert.proofs.ConvertingLaws.Shapes.{by_list, its_codes, its_draft}
use Rattle.cjc_convert.proofs.ConvertingLaws.Stops.{stopped_by_sizes}
use Rattle.cjc_convert.proofs.converting.conversion.shaped_components.Goals as goal

pub caps_of-requires : goal.caps_of-requires
caps_of-requires c =
    let list = c.args.list.now in
    let judged = c.args.judged.now in
    let (files, p, is, shaped) = c.requires.shaped in
    let laid : IsLaidOut list files judged p =
    record {
      read = c.requires.read;
      aids = c.aids_are_short.ensures list c.requires.read;
      sound = is;
      is_package = shaped.is_package;
      words = shaped.words;
      forms = shaped.forms;
    } in
    (files, p, is, shaped, c.static_images_fit.ensures list files judged p laid)

pub returns-in_err-test_sizes-clause-refused : goal.returns-in_err-test_sizes-clause-refused
returns-in_err-test_sizes-clause-refused c = λ files p is shaped.
    let list = c.args.list.now in
    let judged = c.args.judged.now in
    let s = c.args.shaped.now in
    let named = c.items.ensures ∙ ap (λ (l : ListTree). l.name) (sym (by_list list files s p shaped)) in
    let coded = c.items-2.ensures ∙ its_codes list files s p shaped in
    let broken = c.in_err-test_sizes.ensures.refused p named coded (c.in_ok-caps.ensures files p is shaped) in
    let e = err_from_is_err_and c.from_residual-in_err-test_sizes.result c.from_residual-in_err-test_sizes.ensures.1 in
    rw (e.1, e.2) (stopped_by_sizes list files judged is p shaped.is_package (its_draft list files s p shaped)
    shaped.words shaped.forms c.in_err-test_sizes.field-0.0 broken)

pub returns-clause-made : goal.returns-clause-made
returns-clause-made c = λ files p is shaped. c.in_ok-caps.ensures files p is shaped

pub returns-clause-sizes : goal.returns-clause-sizes
returns-clause-sizes c = λ files p is shaped.
    let list = c.args.list.now in
    let s = c.args.shaped.now in
    let named = c.items.ensures ∙ ap (λ (l : ListTree). l.name) (sym (by_list list files s p shaped)) in
    let coded = c.items-2.ensures ∙ its_codes list files s p shaped in
    c.in_ok-test_sizes.ensures.unbroken p named coded (c.in_ok-caps.ensures files p is shaped)
