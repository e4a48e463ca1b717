-- The text of a report, line by line: the notes, the static fields, the heap, and how the run ended. Printing
-- is proved to give it.
use Rattle.std.specs.Prelude.{ℕ, ◌+◌, List, [], ◌∷◌, ◌++◌, codes, Some, None, decimal}
use Rattle.std.specs.List.{flat_map}
use Rattle.std.specs.Fmt.{signed_decimal}
use Rattle.cjc_list.specs.Bytes.declared.fault.MemberId.{MemberId}
use Rattle.cjc_list.specs.Bytes.Refused.{field_text, method_text}
use Rattle.cjc_script.specs.declared.report.FieldValue.{FieldValue}
use Rattle.cjc_script.specs.declared.report.Note.{Note}
use Rattle.cjc_script.specs.declared.report.Note.TheVariants as notes
use Rattle.cjc_script.specs.declared.report.Outcome.{Outcome}
use Rattle.cjc_script.specs.declared.report.Outcome.TheVariants as outcomes
use Rattle.cjc_script.specs.declared.report.Report.{Report}
use Rattle.cjc_script.specs.declared.report.Thing.{Thing}
use Rattle.cjc_script.specs.declared.report.Thing.TheVariants as things
use Rattle.cjc_script.specs.declared.value.Value.{Value}
use Rattle.cjc_script.specs.declared.value.Value.TheVariants.{Num, Null, Obj}

-- `@` (64) and the number of an object
abbrev pub object_text : ℕ → List ℕ
object_text k = 64 ∷ decimal k

-- a number, `null` or an object
abbrev pub value_text : Value → List ℕ
value_text (Num z) = signed_decimal z
value_text Null = codes "null"
value_text (Obj k) = object_text k

-- each value behind a space (32)
abbrev pub value_words : List Value → List ℕ
value_words values = flat_map (λ v. 32 ∷ value_text v) values

-- `CLASS.METHOD`, a full stop (46) between them
abbrev pub method_word : MemberId → List ℕ
method_word m = m.class ++ (46 ∷ method_text m.name m.desc)

-- `CLASS.FIELD`
abbrev pub field_word : MemberId → List ℕ
field_word f = f.class ++ (46 ∷ field_text f.name f.desc)

-- a line, which ends with a line feed (10)
abbrev pub line : List ℕ → List ℕ
line text = text ++ 10 ∷ []

-- `event CLASS.METHOD VALUE*`, `result void`, `result VALUE` or `thrown CLASS @K`
abbrev pub note_line : Note → List ℕ
note_line (notes.Event callee args) = line (codes "event " ++ method_word callee ++ value_words args)
note_line (notes.Result None) = line (codes "result void")
note_line (notes.Result (Some v)) = line (codes "result " ++ value_text v)
note_line (notes.Thrown class object) = line (codes "thrown " ++ class ++ (32 ∷ object_text object))

-- `static CLASS.FIELD VALUE`
abbrev pub static_line : FieldValue → List ℕ
static_line f = line (codes "static " ++ field_word f.field ++ (32 ∷ value_text f.value))

-- ` CLASS.FIELD=VALUE`, an equals sign (61) before the value
abbrev pub field_value_word : FieldValue → List ℕ
field_value_word f = 32 ∷ (field_word f.field ++ (61 ∷ value_text f.value))

-- that of each field
abbrev pub field_words : List FieldValue → List ℕ
field_words fields = flat_map field_value_word fields

-- `array @K DESC VALUE*`, or `object @K CLASS` and its fields
abbrev pub thing_line : (k : ℕ) → Thing → List ℕ
thing_line k (things.Array desc items) = line (codes "array " ++ object_text k ++ (32 ∷ desc) ++ value_words items)
thing_line k (things.Object class fields) = line (codes "object " ++ object_text k ++ (32 ∷ class)
    ++ field_words fields)

-- the arrays and objects, numbered from this number on
unfoldable pub thing_lines : ℕ → List Thing → List ℕ
thing_lines k [] = []
thing_lines k (thing ∷ heap) = thing_line k thing ++ thing_lines (k + 1) heap

-- `done`, `running`, `waiting`, `unfit K` or `stuck AT`
abbrev pub outcome_line : Outcome → List ℕ
outcome_line outcomes.Done = line (codes "done")
outcome_line outcomes.Running = line (codes "running")
outcome_line outcomes.Waiting = line (codes "waiting")
outcome_line (outcomes.Unfit k) = line (codes "unfit " ++ decimal k)
outcome_line (outcomes.Stuck at) = line (codes "stuck " ++ decimal at)

-- the text of a report: the notes, the static cells, the arrays and objects, and the outcome
abbrev pub report_text : Report → List ℕ
report_text r = flat_map note_line r.notes ++ flat_map static_line r.statics ++ thing_lines 0 r.heap
    ++ outcome_line r.outcome
