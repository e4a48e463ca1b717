use Rattle.std.proofs.Common.{false, Err, refl}
use Rattle.std.proofs.lemmas.Result.{err_from_is_err_and}
use Rattle.cjc_cmd_card.specs.Shelf.declared.command.status.Status.TheVariants.{NoMemory}
use Rattle.cjc_cmd_card.proofs.ShelfEach.{item_ends, item_next, items_none}
use Rattle.cjc_cmd_card.proofs.ShelfGathering.{gathers_no_memory}
use Rattle.cjc_cmd_link.proofs.Gathers.{inputs_more, member_end, member_read}
use Rattle.cjc_cmd_link.specs.Reads.{member_behind}
use Rattle.cjc_cmd_link.proofs.reads.gather_members.Goals as goal

pub returns-in_err-member-clause-gathers : goal.returns-in_err-member-clause-gathers
returns-in_err-member-clause-gathers g c =
    let p = err_from_is_err_and c.from_residual.result c.from_residual.ensures.1 in
    rw (p.1, p.2) (item_ends (λ front. false) member_behind _ c.loop-line.members _ _ _ _ _ _ _ c.loop-line-test.true
    c.line-item.is refl c.loop-line.invariant.back (member_end c.loop-line.members c.line-item.result _ _
    _ _ _ c.items.ensures c.items-in-loop-line.ensures c.in_err-member.ensures.gathers))

pub returns-in_err-push-clause-gathers : goal.returns-in_err-push-clause-gathers
returns-in_err-push-clause-gathers g c =
    let p = err_from_is_err_and c.from_residual-in_err-push.result c.from_residual-in_err-push.ensures.1 in
    rw (p.1, p.2) (item_next (λ front. false) member_behind _ c.loop-line.members _ _ _ _ _ _ _ c.loop-line-test.true
    c.line-item.is refl c.loop-line.invariant.back (member_read c.loop-line.members c.line-item.result _ _
    _ _ _ c.items.ensures c.items-in-loop-line.ensures c.in_ok-member.ensures.gathers)
    _ (Err NoMemory) (gathers_no_memory _ _ _))

pub loop-line-preserved : goal.loop-line-preserved
loop-line-preserved g c =
    let ok = c.in_ok-push.ensures.ok in
    record {
      back = rw ok (item_next (λ front. false) member_behind _ c.loop-line.members _ _ _ _ _ _ _ c.loop-line-test.true
          c.line-item.is refl c.loop-line.invariant.back (member_read c.loop-line.members c.line-item.result _ _
          _ _ _ c.items.ensures c.items-in-loop-line.ensures c.in_ok-member.ensures.gathers));
      inputs = rw ok (inputs_more _ _ c.loop-line.invariant.inputs c.in_ok-member.ensures.input);
    }

pub returns-clause-gathers : goal.returns-clause-gathers
returns-clause-gathers g c = items_none (λ front. false) member_behind _ c.loop-line.members _ _ _ _
    c.loop-line-test.false c.loop-line.invariant.back
