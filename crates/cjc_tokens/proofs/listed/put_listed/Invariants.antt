use Rattle.std.proofs.Common.{◌≡◌, drop}
use Rattle.cjc_world.specs.Working.Known.{class_of}
use Rattle.cjc_tokens.specs.Slots.{listed_slots}
use Rattle.cjc_tokens.specs.Working.{overlay, signs}
use Rattle.cjc_tokens.proofs.listed.put_listed.Given as goal

abbrev pub invariant-loop-place : goal.invariant-loop-place
invariant-loop-place l = overlay (signs l.row.items) (listed_slots (drop l.place (class_of l.class).methods))
    ≡ overlay (signs l.initial.row.items) (listed_slots (class_of l.class).methods)
