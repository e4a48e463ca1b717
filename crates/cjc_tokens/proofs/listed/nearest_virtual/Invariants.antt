use Rattle.std.proofs.Common.{◌≡◌, map, drop}
use Rattle.cjc_world.specs.Working.Known.{class_of}
use Rattle.cjc_world.specs.Lookup.{first}
use Rattle.cjc_tokens.specs.Members.{is_virtual}
use Rattle.cjc_tokens.specs.Slots.{own}
use Rattle.cjc_tokens.proofs.listed.nearest_virtual.Given as goal

abbrev pub invariant-loop-class : goal.invariant-loop-class
invariant-loop-class l = first (own is_virtual (record { name = l.name; desc = l.desc }))
    (map class_of (drop l.class-index l.classes)) ≡ first (own is_virtual (record { name = l.name; desc = l.desc }))
    (map class_of l.classes)
