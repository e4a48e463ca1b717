use Rattle.std.proofs.Common.{Err, ◌+◌, refl, ap}
use Rattle.std.proofs.lemmas.List.{drop_all, length-append}
use Rattle.std.proofs.lemmas.Result.{err_from_is_err_and}
use Rattle.cjc_command.specs.declared.status.Status.TheVariants.{NoMemory}
use Rattle.cjc_command.proofs.Each.{short_more, next_name, back_end, back_next}
use Rattle.cjc_command.proofs.Gathering.{gathers_no_memory, gathers_has}
use Rattle.cjc_command.proofs.reading.fetch_each.Goals as goal

pub returns-in_err-bytes-clause-gathers : goal.returns-in_err-bytes-clause-gathers
returns-in_err-bytes-clause-gathers g c =
    let p = err_from_is_err_and c.from_residual.result c.from_residual.ensures.1 in
    let name = rw c.items.ensures at c.in_err-bytes.ensures.gathers in
    rw (p.1, p.2) (back_end _ _ _ _ _ _ _ _ _ c.loop-name.invariant.back (next_name _ _ _ c.loop-name-test.true c.name-item.is) name)

pub returns-in_err-push-clause-gathers : goal.returns-in_err-push-clause-gathers
returns-in_err-push-clause-gathers g c =
    let p = err_from_is_err_and c.from_residual-in_err-push.result c.from_residual-in_err-push.ensures.1 in
    let name = rw c.items.ensures at c.in_ok-bytes.ensures.gathers in
    rw (p.1, p.2) (back_next _ _ _ _ _ _ _ _ _ c.loop-name.invariant.back (next_name _ _ _ c.loop-name-test.true c.name-item.is) name
    _ (Err NoMemory) (gathers_no_memory _ _ _))

pub loop-name-preserved : goal.loop-name-preserved
loop-name-preserved g c =
    let name = rw c.items.ensures at c.in_ok-bytes.ensures.gathers in
    let ok = c.in_ok-push.ensures.ok in
    record {
      back = rw ok (back_next _ _ _ _ _ _ _ _ _ c.loop-name.invariant.back (next_name _ _ _ c.loop-name-test.true c.name-item.is) name);
      count = rw (ok, length-append) (ap (λ n. n + 1) c.loop-name.invariant.count);
      short = rw ok (short_more _ _ c.loop-name.invariant.short c.in_ok-bytes.ensures.short);
    }

pub returns-clause-gathers : goal.returns-clause-gathers
returns-clause-gathers g c = c.loop-name.invariant.back _ _ (rw (drop_all _ _ c.loop-name-test.false) (gathers_has _ _ _ _ refl))
