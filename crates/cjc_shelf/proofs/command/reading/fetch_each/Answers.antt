use Rattle.std.proofs.Common.{false, Err, ◌+◌, refl, ap}
use Rattle.std.proofs.lemmas.List.{length-append}
use Rattle.std.proofs.lemmas.Result.{err_from_is_err_and}
use Rattle.cjc_shelf.specs.declared.command.status.Status.TheVariants.{NoMemory}
use Rattle.cjc_shelf.specs.Command.Plan.{read_behind}
use Rattle.cjc_shelf.proofs.CommandLaws.Each.{short_more, item_ends, item_next, items_none, behind_read, behind_end}
use Rattle.cjc_shelf.proofs.CommandLaws.Gathering.{gathers_no_memory}
use Rattle.cjc_shelf.proofs.command.reading.fetch_each.Goals as goal

pub returns-in_err-bytes-clause-gathers : goal.returns-in_err-bytes-clause-gathers
returns-in_err-bytes-clause-gathers g c =
    let p = err_from_is_err_and c.from_residual.result c.from_residual.ensures.1 in
    let name = rw c.items.ensures at c.in_err-bytes.ensures.gathers in
    rw (p.1, p.2) (item_ends (λ front. false) read_behind _ c.loop-name.files _ _ _ _ _ _ _ c.loop-name-test.true
    c.name-item.is refl c.loop-name.invariant.back (behind_end c.loop-name.files _ _ _ _ name))

pub returns-in_err-push-clause-gathers : goal.returns-in_err-push-clause-gathers
returns-in_err-push-clause-gathers g c =
    let p = err_from_is_err_and c.from_residual-in_err-push.result c.from_residual-in_err-push.ensures.1 in
    let name = rw c.items.ensures at c.in_ok-bytes.ensures.gathers in
    rw (p.1, p.2) (item_next (λ front. false) read_behind _ c.loop-name.files _ _ _ _ _ _ _ c.loop-name-test.true
    c.name-item.is refl c.loop-name.invariant.back (behind_read c.loop-name.files _ _ _ _ name)
    _ (Err NoMemory) (gathers_no_memory _ _ _))

pub loop-name-preserved : goal.loop-name-preserved
loop-name-preserved g c =
    let name = rw c.items.ensures at c.in_ok-bytes.ensures.gathers in
    let ok = c.in_ok-push.ensures.ok in
    record {
      back = rw ok (item_next (λ front. false) read_behind _ c.loop-name.files _ _ _ _ _ _ _ c.loop-name-test.true
          c.name-item.is refl c.loop-name.invariant.back (behind_read c.loop-name.files _ _ _ _ name));
      count = rw (ok, length-append) (ap (λ n. n + 1) c.loop-name.invariant.count);
      short = rw ok (short_more _ _ c.loop-name.invariant.short c.in_ok-bytes.ensures.short);
    }

pub returns-clause-gathers : goal.returns-clause-gathers
returns-clause-gathers g c = items_none (λ front. false) read_behind _ c.loop-name.files _ _ _ _ c.loop-name-test.false
    c.loop-name.invariant.back
