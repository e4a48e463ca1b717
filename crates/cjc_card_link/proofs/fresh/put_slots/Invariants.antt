use Rattle.std.proofs.Common.{◌≡◌, ◌-◌, ◌++◌, map}
use Rattle.cjc_card_semantics.specs.Machine.Classes.{slots_from}
use Rattle.cjc_card_frame.specs.Objects.{class_of, slot_by}
use Rattle.cjc_card_link.proofs.fresh.put_slots.Given as goal

abbrev pub invariant-loop-token : goal.invariant-loop-token
invariant-loop-token l = map slot_by l.slots.items ++ slots_from (class_of l.class) l.entry l.token
    (l.entry.declared_instance_size - l.token) ≡ map slot_by l.fn.slots.items ++ slots_from (class_of l.class) l.entry 0
    l.entry.declared_instance_size
