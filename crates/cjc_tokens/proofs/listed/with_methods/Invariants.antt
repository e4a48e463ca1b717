use Rattle.std.proofs.Common.{◌≡◌, take, map}
use Rattle.cjc_world.specs.Working.Known.{class_of}
use Rattle.cjc_world.specs.Lookup.{first}
use Rattle.cjc_tokens.specs.Members.{is_virtual}
use Rattle.cjc_tokens.specs.Slots.{meant_by, own}
use Rattle.cjc_tokens.specs.Working.{methods_in, signs}
use Rattle.cjc_tokens.proofs.listed.with_methods.Given as goal

abbrev pub invariant-loop-slot : goal.invariant-loop-slot
invariant-loop-slot l = record {
  slots : signs l.row.items ≡ signs (take l.slot-index l.slots);
  methods : methods_in l.row.items ≡ map (meant_by (λ s. first (own is_virtual s) (map class_of l.classes)))
      (signs (take l.slot-index l.slots));
}
