use Rattle.std.proofs.Common.{◌∙◌, sym, subst, arith, length}
use Rattle.cjc_layout.specs.Sizes.{Leads}
use Rattle.cjc_layout.proofs.Passes.{leave_wide, leave_near, make_wide, still_legal, lead_at}
use Rattle.cjc_layout.proofs.jumps.widen.Goals as goal
use Rattle.cjc_layout.proofs.jumps.widen.Goals.{then-not-wide-k+then-is_far, else-not-wide-k}
use Rattle.cjc_layout.proofs.jumps.widen.Goals.{else-not-wide-k-via-then-not-wide-k+else-is_far}
use Rattle.cjc_layout.proofs.jumps.widen.Goals.{else-not-wide-k-via-else-not-wide-k}
use Rattle.cjc_ncode.proofs.BytesGets.{slice_get_at}

pub loop-k-preserved : goal.loop-k-preserved
loop-k-preserved c =
    elim c.if-not-wide-k.branch [
      | then-not-wide-k+then-is_far w ↦
          rw (w.wide-is, w.changed-is) (make_wide c.args.insns.now c.args.wide.now c.loop-k.wide c.args.places.now
          c.loop-k.changed c.loop-k.k c.loop-k.invariant c.loop-k-test.true c.requires.count c.requires.places
          c.requires.leads w.index-insns-k.result w.index-insns-k.is w.if-not-wide-k.true (sym w.is_far.ensures
          ∙ w.if-is_far.true))
      | else-not-wide-k w ↦
          rw (w.wide-is, w.changed-is) (elim w.else-not-wide-k.branch [
            | else-not-wide-k-via-then-not-wide-k+else-is_far v ↦
                leave_near c.args.insns.now c.args.wide.now c.loop-k.wide c.args.places.now c.loop-k.changed c.loop-k.k
                c.loop-k.invariant c.loop-k-test.true v.index-insns-k.result v.index-insns-k.is
                (sym v.is_far.ensures ∙ v.if-is_far.false)
            | else-not-wide-k-via-else-not-wide-k v ↦
                leave_wide c.args.insns.now c.args.wide.now c.loop-k.wide c.args.places.now c.loop-k.changed c.loop-k.k
                c.loop-k.invariant c.loop-k-test.true v.if-not-wide-k.false
          ])
    ]

pub returns-clause-legal : goal.returns-clause-legal
returns-clause-legal c e = still_legal c.args.insns.now c.args.wide.now c.loop-k.wide c.args.places.now c.loop-k.changed
    c.loop-k.k c.loop-k.invariant (omega (arith, c.loop-k-test.false)) c.requires.count c.requires.places
    c.requires.leads e

pub is_far-requires-clause-leads : goal.is_far-requires-clause-leads
is_far-requires-clause-leads c =
    subst (λ n. Leads n c.index-insns-k.result) (sym c.requires.places.count)
    (lead_at (length c.args.insns.now) c.args.insns.now c.loop-k.k c.index-insns-k.result c.requires.leads
    (slice_get_at c.args.insns.now c.loop-k.k c.index-insns-k.result c.loop-k-test.true c.index-insns-k.is))
