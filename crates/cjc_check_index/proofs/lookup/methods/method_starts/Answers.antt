use Rattle.std.proofs.Common.{ℕ, List, ap, ◌∙◌, ◌==◌, false}
use Rattle.std.specs.List.{list_any}
use Rattle.cjc_check_rules.specs.CapRead.declared.tree.ClassDescriptor.{ClassDescriptor}
use Rattle.cjc_check_index.specs.Lookup.MethodStarts.{all_offsets}
use Rattle.cjc_check_index.proofs.LookupLaws.MethodStarts.{methods_any}
use Rattle.cjc_check_index.proofs.lookup.methods.method_starts.Goals as goal

pub returns-clause-same : goal.returns-clause-same
returns-clause-same c = λ offset.
    let info = c.args.names.now.parts.now.class.now in
    c.in_order.ensures.same offset
    ∙ ap (λ (ns : List ℕ). list_any (λ n. n == offset) ns) (c.in_ok-offsets.ensures
    ∙ ap (λ (ds : List ClassDescriptor). all_offsets false info ds) c.items-classes.ensures)
    ∙ methods_any offset info c.args.names.now.parts.now.descriptor.now.classes
