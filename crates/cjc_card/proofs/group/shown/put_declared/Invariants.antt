use Rattle.std.proofs.Common.{◌≡◌, ◌++◌, map, take}
use Rattle.cjc_card_semantics.specs.Machine.ByToken.{shown_field}
use Rattle.cjc_card_frame.specs.Objects.{class_of, slot_by}
use Rattle.cjc_card_calls.specs.LowerCardLink.Names.{field_name_of}
use Rattle.cjc_card.proofs.group.shown.put_declared.Given as goal

abbrev pub invariant-loop-field : goal.invariant-loop-field
invariant-loop-field l =
    l.fields ≡ l.fn.fields ++ map (shown_field (class_of l.class) l.name (map slot_by l.slots))
    (map field_name_of (take l.field-index l.declared))
