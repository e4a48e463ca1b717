use Rattle.std.proofs.Common.{◌≡◌, ◌-◌, ◌++◌, map}
use Rattle.cjc_card.specs.Classes.{slots_from}
use Rattle.cjc_card_heap.specs.Objects.{class_of, slot_by}
use Rattle.cjc_card_lookups.proofs.fresh.put_slots.Given as goal

abbrev pub invariant-loop-token : goal.invariant-loop-token
invariant-loop-token l = map slot_by l.slots.items ++ slots_from (class_of l.class) l.entry l.token (l.entry.declared_instance_size - l.token) ≡ map slot_by l.fn.slots.items ++ slots_from (class_of l.class) l.entry 0 l.entry.declared_instance_size
