use Rattle.std.proofs.Common.{◌≡◌, ◌++◌, drop}
use Rattle.std.specs.List.{flat_map}
use Rattle.cjc_script_text.specs.Printed.{field_value_word}
use Rattle.cjc_script_text.proofs.printing.put_fields.Given as goal

abbrev pub invariant-loop-field : goal.invariant-loop-field
invariant-loop-field l = l.out ++ flat_map field_value_word (drop l.field-index l.fields) ≡ l.initial.out
    ++ flat_map field_value_word l.fields
