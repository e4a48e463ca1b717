use Rattle.std.proofs.Common.{◌≡◌, ℕ, List, ◌+◌, ◌*◌, ap, sym, ◌∙◌, length}
use Rattle.cjc_capread.specs.declared.tree.ClassDescriptor.{ClassDescriptor}
use Rattle.cjc_capread.specs.declared.tree.Handler.{Handler}
use Rattle.cjc_capread.specs.declared.tree.MethodDescriptor.{MethodDescriptor}
use Rattle.cjc_check_rules.specs.Codes.{codes_from}
use Rattle.cjc_check_tables.specs.CheckIndex.Lookup.Parts.{complete_of}
use Rattle.cjc_check_rules.specs.Members.{class_methods}
use Rattle.cjc_check.specs.Codes.Working.Steps.{methods_of_all}
use Rattle.cjc_check.proofs.CodesLaws.MethodLists.{methods_are}
use Rattle.cjc_check.proofs.CodesLaws.Walks.{both}
use Rattle.cjc_check.proofs.codes.cutting.cut.Goals as goal

pub returns-clause-is : goal.returns-clause-is
returns-clause-is c =
    let parts = c.args.names.now.parts.now in
    let info = parts.class.now in
    let ms = c.items.ensures ∙ c.in_ok-methods.ensures ∙ ap (λ (ds : List ClassDescriptor). methods_of_all info ds)
    c.items-classes.ensures ∙ methods_are info parts.descriptor.now.classes in
    both c.codes_from.result _ _ _
    (λ s is same. is
    ∙ ap (λ (hs : List Handler). codes_from (1 + 8 * length hs) c.items.result.now c.items-bytes.result.now)
    c.items-handlers.ensures
    ∙ ap (λ (xs : List MethodDescriptor). codes_from (1 + 8 * length parts.method.now.handlers) xs
    c.items-bytes.result.now) ms
    ∙ ap (λ (bs : List ℕ). codes_from (1 + 8 * length parts.method.now.handlers) (class_methods (complete_of parts)) bs)
    c.items-bytes.ensures)
    c.codes_from.ensures.is c.codes_from.ensures.is
