use Rattle.std.proofs.Common.{◌≡◌, sym, ap, ◌∙◌}
use Rattle.std.specs.Prelude.{Some}
use Rattle.cjc_jvm_step.specs.Script.Sorts.{all_fit, signature_of}
use Rattle.cjc_jvm_semantics.specs.Machine.{args_fit, object_fits}
use Rattle.cjc_jvm.proofs.runs.entries.args_fit.Goals as goal

pub returns-in_ok-all_fit-in-Some : goal.returns-in_ok-all_fit-in-Some
returns-in_ok-all_fit-in-Some g c =
    let l = g.L.LookUps.linked c.args.links.now in
    let heap = c.args.heap.now in
    let e = c.args.entry.now in
    let types = c.in-Some.types in
    let is_of = object_fits l heap in
    let told : signature_of e.method.desc ≡ Some types = ap (λ desc. signature_of desc) (sym c.items.ensures)
    ∙ sym c.in_ok-types.ensures ∙ c.in-Some.is in
    c.in_ok-all_fit-in-Some.ensures
    ∙ ap (λ sorts. all_fit is_of sorts c.arguments.result.now) c.params.ensures
    ∙ ap (λ values. all_fit is_of types.params values) (c.arguments.ensures l)
    ∙ ap (λ t. args_fit l heap e t) (sym told)
