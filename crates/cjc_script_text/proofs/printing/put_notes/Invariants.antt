use Rattle.std.proofs.Common.{◌≡◌, ◌++◌, drop}
use Rattle.std.specs.List.{flat_map}
use Rattle.cjc_script_text.specs.Printed.{note_line}
use Rattle.cjc_script_text.proofs.printing.put_notes.Given as goal

abbrev pub invariant-loop-note : goal.invariant-loop-note
invariant-loop-note l = l.out ++ flat_map note_line (drop l.note-index l.notes) ≡ l.initial.out
    ++ flat_map note_line l.notes
