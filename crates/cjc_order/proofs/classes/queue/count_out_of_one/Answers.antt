use Rattle.std.proofs.Common.{◌≡◌, ◌<◌, ℕ, get_or, subst, sym, ◌∙◌, arith}
use Rattle.std.proofs.lemmas.List.{get_or_default}
use Rattle.cjc_order.proofs.ClassesLaws.Queues.{queue-waits}
use Rattle.cjc_order.proofs.classes.queue.count_out_of_one.Goals as goal

pub index-requires : goal.index-requires
index-requires c =
    let q = c.requires in
    let waits = queue-waits c.args.interfaces c.args.classes.now q.0 q.1 q.2 c.args.counts.now.items c.args.ready.now
    c.args.sub q.3 in
    let ok = c.args.counts.now.ok in
    subst (λ (n : ℕ). c.args.sub < n) (sym ok.0) waits.0

pub overflow_sub-left : goal.overflow_sub-left
overflow_sub-left c =
    let q = c.requires in
    let waits = queue-waits c.args.interfaces c.args.classes.now q.0 q.1 q.2 c.args.counts.now.items c.args.ready.now
    c.args.sub q.3 in
    let more : 0 < get_or c.args.counts.now.items c.args.sub 0 = waits.1 in
    let h : c.index.result.now ≡ get_or c.args.counts.now.items c.args.sub 0 = c.index.ensures
    ∙ get_or_default c.args.counts.now.items c.args.sub c.index.result.now 0 waits.0 in
    omega arith
