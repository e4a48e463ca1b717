use Rattle.std.proofs.Common.{◌≡◌, ℕ, ◌+◌, ◌-◌, ◌*◌, ◌<◌, List, length, map, get_or, sym, ap, ◌∙◌, arith}
use Rattle.cjc_ncode.proofs.BytesLists.{length_mapped}
use Rattle.cjc_int_mode.specs.Bytes.Descriptor.{part_at}
use Rattle.cjc_int_mode.specs.Bytes.declared.descriptor.Kind.{Kind}
use Rattle.cjc_int_mode.specs.Script.Sorts.{NoValue, sort_by, sort_of}
use Rattle.cjc_ncode.specs.IntCode.IntCode.{is_reference, stores}
use Rattle.cjc_int_narrow.specs.declared.kinds.Kept.{Kept}
use Rattle.cjc_int_narrow.proofs.Moves.{aside_next, param_at}
use Rattle.cjc_int_narrow.proofs.calls.put_aside.Goals as goal

pub loop-done-preserved : goal.loop-done-preserved
loop-done-preserved c =
    let d = c.args.desc.now in
    let sorts = map sort_of d.params in
    let place : ℕ = c.params-count.result - 1 - c.loop-done.done in
    let part = part_at d place in
    let long : length sorts ≡ length d.params = length_mapped sort_of d.params in
    let count = c.params-count.ensures in
    let lt : c.loop-done.done < length sorts = omega (arith, long, count) in
    let within : place < length d.params = omega (arith, count) in
    let is : place ≡ length sorts - 1 - c.loop-done.done = omega (arith, long, count) in
    let is_kept : c.in_ok-kept.kept.is_reference ≡ is_reference (get_or sorts place NoValue) =
    ap (λ (k : Kept). k.is_reference) c.in_ok-kept.ensures
    ∙ ap (λ (k : Kind). is_reference (sort_by k c.class.result.now)) c.kind.ensures
    ∙ ap (λ (class : List ℕ). is_reference (sort_by part.kind class)) c.class.ensures
    ∙ ap is_reference (sym (param_at d.params d.result place NoValue within)) in
    aside_next c.args.out.now c.loop-done.out c.push.new.self c.store.result c.args.scratch c.loop-done.done place sorts
    NoValue lt is (ap (λ b. stores b (c.args.scratch + 2 * place)) (sym is_kept) ∙ c.store.ensures)
    c.loop-done.invariant c.in_ok-push.ensures.ok
