use Rattle.std.proofs.Common.{◌≡◌, ◌∙◌}
use Rattle.cjc_script.specs.Sorts.{array_name}
use Rattle.cjc_jvm_step.specs.Heap.Kinds.{elements_of}
use Rattle.cjc_jvm_step.proofs.step.objects.new_array_of.Goals as goal

pub returns-clause-row : goal.returns-clause-row
returns-clause-row c =
    let e : c.told-desc.result ≡ array_name (elements_of c.args.element) = c.told-desc.ensures
    ∙ c.array_name.ensures.name in
    rw e at c.new_array.ensures.row
