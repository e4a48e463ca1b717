use Rattle.std.proofs.Common.{◌≡◌, ◌-◌, ◌++◌, length, drop, map}
use Rattle.cjc_card_semantics.specs.Machine.Classes.{class_of as class_by_ref, some_of}
use Rattle.cjc_card_frame.specs.Objects.{class_of}
use Rattle.cjc_card_link.specs.Tables.{loaded_of}
use Rattle.cjc_card_link.proofs.tables.Tables.put_refs.Given as goal

abbrev pub invariant-loop-done : goal.invariant-loop-done
invariant-loop-done l = map class_of l.left ≡ some_of (map (class_by_ref (loaded_of l.self) l.part)
    (drop (length l.refs - l.done) l.refs)) ++ map class_of l.fn.left
