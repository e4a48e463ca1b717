use Rattle.std.proofs.Common.{◌∙◌, ap, sym}
use Rattle.std.proofs.lemmas.Result.{err_from_is_err_and}
use Rattle.cjc_list.specs.Listed.{ListTree}
use Rattle.cjc_converting.proofs.Shapes.{by_list, its_codes, its_draft}
use Rattle.cjc_converting.proofs.Stops.{keeps_limits, stopped_by_sizes}
use Rattle.cjc_converting.proofs.conversion.caps_within.Goals as goal

pub returns-in_err-test_sizes-clause-refused : goal.returns-in_err-test_sizes-clause-refused
returns-in_err-test_sizes-clause-refused c = λ files p is shaped.
    let list = c.args.list.now in
    let judged = c.args.judged.now in
    let s = c.args.shaped.now in
    let named = c.items.ensures ∙ ap (λ (l : ListTree). l.name) (sym (by_list list files s p shaped)) in
    let coded = c.items-2.ensures ∙ its_codes list files s p shaped in
    let broken = c.in_err-test_sizes.ensures.refused p named coded (c.in_ok-caps.ensures files p is shaped) in
    let e = err_from_is_err_and c.from_residual-in_err-test_sizes.result c.from_residual-in_err-test_sizes.ensures.1 in
    rw (e.1, e.2) (stopped_by_sizes list files judged is p shaped.is_package (its_draft list files s p shaped) shaped.words shaped.forms c.in_err-test_sizes.field-0.0 broken)

pub returns-clause-made : goal.returns-clause-made
returns-clause-made c = λ files p is shaped.
    let list = c.args.list.now in
    let judged = c.args.judged.now in
    let s = c.args.shaped.now in
    let named = c.items.ensures ∙ ap (λ (l : ListTree). l.name) (sym (by_list list files s p shaped)) in
    let coded = c.items-2.ensures ∙ its_codes list files s p shaped in
    let are = c.in_ok-caps.ensures files p is shaped in
    let small = c.in_ok-test_sizes.ensures.unbroken p named coded are in
    let by = is.judged_by in
    record {
      unbroken = by.unbroken;
      whole = p;
      is_package = shaped.is_package;
      limits = keeps_limits list files judged is p shaped.is_package (its_draft list files s p shaped) shaped.words shaped.forms small;
      are = are;
    }
