use Rattle.std.proofs.Common.{rules, ◌≡◌, ◌∙◌, ap, sym, drop, pos, replicate, arith}
use Rattle.std.specs.Prelude.{FitsSigned, unsigned_abs}
use Rattle.std.specs.Int.{w32, cast_signed, cast_unsigned}
use Rattle.std.proofs.lemmas.Int.{ints, to_z-of_z}
use Rattle.std.proofs.lemmas.Result.{IfOk-weaker}
use Rattle.cjc_script.specs.declared.report.Thing.TheVariants.{Array}
use Rattle.cjc_jvm_semantics.specs.Effects.{one_number, with_size, with_new}
use Rattle.cjc_jvm_step.specs.Step.Rows.{store_of}
use Rattle.cjc_jvm_step.proofs.step.objects.new_array.Goals as goal

pub returns-clause-row : goal.returns-clause-row
returns-clause-row c =
    let f = c.args.frame.now in
    let z = c.in-Some.count in
    let fits : FitsSigned w32 z = search rules in
    let same : z ≡ cast_signed w32 (cast_unsigned w32 z) = sym (to_z-of_z w32 z fits) in
    let up : z ≡ pos (unsigned_abs z) = omega (arith, ints) in
    IfOk-weaker c.put_new.result _ _ (λ deed h. λ l statics.
    let store = store_of c.args.heap.now statics in
    let r = h l statics in
    record {
      effect =
          ap (λ s. one_number s (λ count rest. with_size count (λ n. with_new l f.method f.at f.locals store
          (Array c.args.desc (replicate n c.args.zero)) rest))) c.in-Some.ensures
          ∙ ap (λ count. with_size count (λ n. with_new l f.method f.at f.locals store
          (Array c.args.desc (replicate n c.args.zero)) (drop 1 f.stack))) up
          ∙ ap (λ count. with_new l f.method f.at f.locals store (Array c.args.desc (replicate (unsigned_abs count)
          c.args.zero)) (drop 1 f.stack)) same
          ∙ ap (λ thing. with_new l f.method f.at f.locals store thing (drop 1 f.stack)) (sym c.in_ok-object.ensures)
          ∙ r.effect;
      keeps = r.keeps;
    }) c.put_new.ensures.row
