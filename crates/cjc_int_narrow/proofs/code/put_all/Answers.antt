use Rattle.std.proofs.Common.{◌≡◌, ◌++◌, length, get_or, ap, ◌∙◌}
use Rattle.std.specs.Prelude.{Option}
use Rattle.std.proofs.lemmas.Result.{on_ok_weaker}
use Rattle.cjc_narrow.specs.Written.Labels.{place_of}
use Rattle.cjc_narrow.specs.Select.Working.Names.{resolution_of}
use Rattle.cjc_int_narrow.specs.declared.known.Before.{Before}
use Rattle.cjc_int_narrow.specs.Working.Walks.{source_if, written_if}
use Rattle.cjc_int_narrow.proofs.Walks.{code_end, code_next, sources_end, sources_next, starts_end, starts_next}
use Rattle.cjc_int_narrow.proofs.code.put_all.Goals as goal

pub loop-k-preserved : goal.loop-k-preserved
loop-k-preserved c =
    let f = c.args.frame.now in
    let r = resolution_of c.args.names.now in
    let p = place_of c.args.places.now in
    let insns = c.args.insns.now in
    let befores = c.args.befores.now in
    let k = c.loop-k.k in
    let i = c.index-insns-k.result in
    let b = c.index-befores-k.result in
    let lt = c.loop-k-test.true in
    let out = c.loop-k.out in
    let from = c.loop-k.from in
    let j = get_or insns k i in
    let told : c.put_at.new.out ≡ out ++ written_if b f r p (length out) j.op = c.in_ok-put_at.ensures.insns in
    let told_from : c.put_at.new.from ≡ from ++ source_if b f r k j.op = c.in_ok-put_at.ensures.from in
    let code = told ∙ ap (λ (x : Option Before). out ++ written_if x f r p (length out) j.op) c.index-befores-k.is in
    let sources = told_from ∙ ap (λ (x : Option Before). from ++ source_if x f r k j.op) c.index-befores-k.is in
    record {
      insns = code_next f r insns befores k i b lt c.requires.each p out _ _ code c.loop-k.invariant.insns;
      from = sources_next f r insns befores k i b lt c.requires.each from _ _ sources c.loop-k.invariant.from;
      starts = starts_next f r insns befores k i b lt c.requires.each p (length out) c.loop-k.counts _ _ _ out _
          (c.in_ok-count_of.ensures ∙ ap length c.items.ensures) code c.in_ok-push.ensures.ok
          c.loop-k.invariant.starts;
    }

pub returns-clause-insns : goal.returns-clause-insns
returns-clause-insns c =
    let r = resolution_of c.args.names.now in
    on_ok_weaker c.push-2.result (
    λ more. code_end c.args.frame.now r c.args.insns.now c.args.befores.now c.loop-k.k c.loop-k-test.false
    (place_of c.args.places.now) c.loop-k.out _ c.loop-k.invariant.insns
    ) c.push-2.ensures.ok

pub returns-clause-from : goal.returns-clause-from
returns-clause-from c =
    let r = resolution_of c.args.names.now in
    on_ok_weaker c.push-2.result (
    λ more. sources_end c.args.frame.now r c.args.insns.now c.args.befores.now c.loop-k.k c.loop-k-test.false
    c.loop-k.from _ c.loop-k.invariant.from
    ) c.push-2.ensures.ok

pub returns-clause-starts : goal.returns-clause-starts
returns-clause-starts c =
    let r = resolution_of c.args.names.now in
    on_ok_weaker c.push-2.result (
    λ more. starts_end c.args.frame.now r c.args.insns.now c.args.befores.now c.loop-k.k c.loop-k-test.false
    c.loop-k.counts _ _ _ (length c.loop-k.out) (c.in_ok-count_of-2.ensures ∙ ap length c.items-2.ensures) more
    c.loop-k.invariant.starts
    ) c.push-2.ensures.ok
