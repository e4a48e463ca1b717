use Rattle.cjc_card_frame.specs.Objects.{class_of}
use Rattle.cjc_card_link.proofs.Slots.{slots_more}
use Rattle.cjc_card_link.proofs.fresh.put_slots.Goals as goal

pub loop-token-preserved : goal.loop-token-preserved
loop-token-preserved c = slots_more (class_of c.args.class) c.args.entry.now c.loop-token.token
    c.args.entry.now.declared_instance_size c.loop-token.slots.items _ c.slot_for.result _ c.loop-token-test.true
    c.slot_for.ensures c.in_ok-push.ensures.items c.loop-token.invariant
