use Rattle.std.proofs.Common.{◌≡◌, ◌∙◌, ap, replicate, true}
use Rattle.std.specs.Prelude.{Some}
use Rattle.std.proofs.lemmas.Result.{IfOk-weaker}
use Rattle.cjc_script.specs.declared.value.Value.TheVariants.{Null}
use Rattle.cjc_script.specs.declared.report.Thing.TheVariants.{Array}
use Rattle.cjc_script.specs.Sorts.{shape_name, OfReferences}
use Rattle.cjc_jvm_semantics.specs.Effects.{only_if, one_number, with_size, with_new}
use Rattle.cjc_jvm_semantics.specs.Machine.{holder_of}
use Rattle.cjc_jvm_step.specs.Step.Rows.{store_of}
use Rattle.cjc_jvm_step.proofs.step.types.new_references_to.Goals as goal

pub returns-clause-row : goal.returns-clause-row
returns-clause-row g c =
    let l = g.L.LookUps.linked c.args.links.now in
    let f = c.args.frame.now in
    let class = c.args.class.now in
    let named : c.made.result ≡ shape_name (OfReferences class) = c.made.ensures ∙ c.in_ok-desc.ensures in
    let there : l.is_there (Some (holder_of f)) class ≡ true = cc in
    IfOk-weaker c.new_array.result _ _ (λ deed h. λ statics.
    let store = store_of c.args.heap.now statics in
    let r = h l statics in
    record {
      effect =
          ap (λ t. only_if t (one_number f.stack (λ count rest. with_size count (λ n. with_new l f.method f.at f.locals
          store (Array (shape_name (OfReferences class)) (replicate n Null)) rest)))) there
          ∙ r.effect;
      keeps = r.keeps;
    }) (rw named at c.new_array.ensures.row)
