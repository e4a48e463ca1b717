use Rattle.std.proofs.Common.{◌≡◌, ◌-◌, ◌++◌, length, drop, map}
use Rattle.cjc_card_semantics.specs.Machine.Classes.{external_named, some_of}
use Rattle.cjc_card_frame.specs.Objects.{class_of}
use Rattle.cjc_card_link.specs.Tables.{loaded_of}
use Rattle.cjc_card_link.proofs.tables.Tables.put_names.Given as goal

abbrev pub invariant-loop-done : goal.invariant-loop-done
invariant-loop-done l = map class_of l.left ≡ some_of (map (external_named (loaded_of l.self))
    (drop (length l.names - l.done) l.names)) ++ map class_of l.fn.left
