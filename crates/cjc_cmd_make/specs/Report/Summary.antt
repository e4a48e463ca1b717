-- The summary of a package and of its two runs.
use Rattle.std.specs.Prelude.{ℕ, ◌+◌, ◌*◌, List, [], ◌∷◌, ◌++◌, codes, decimal, count_by, filter_map, bytes_eq, Bool}
use Rattle.std.specs.Prelude.{true, false, Option, None, pos}
use Rattle.cjc_cmd_card.specs.Script.declared.report.Note.{Note}
use Rattle.cjc_cmd_card.specs.Script.declared.report.Note.TheVariants as notes
use Rattle.cjc_cmd_card.specs.Script.declared.report.Report.{Report}
use Rattle.cjc_cmd_card.specs.Script.declared.value.Value.{Value}
use Rattle.cjc_cmd_card.specs.Script.declared.value.Value.TheVariants.{Num}
use Rattle.cjc_cmd_card.specs.LowerScriptText.Printed.{line, report_text, value_text}

-- the size item of a component: the two bytes behind its tag (Java Card Virtual Machine Specification 2.2.2, section
-- 6.1)
abbrev pub size_item : List ℕ → ℕ
size_item (tag ∷ high ∷ low ∷ info) = 256 * high + low
size_item bytes = 0

-- an entry ended with a result
abbrev pub is_result : Note → Bool
is_result (notes.Result value) = true
is_result note = false

-- the value that an entry ended with, where it ended with one
abbrev pub value_of : Note → Option Value
value_of (notes.Result value) = value
value_of note = None

-- the last of these values; the one before them where there are none
abbrev pub last_value : Value → List Value → Value
last_value before [] = before
last_value before (value ∷ more) = last_value value more

-- the value of the last result that has one, 0 where none has
abbrev pub last_result : List Note → Value
last_result all = last_value (Num (pos 0)) (filter_map value_of all)

-- whether reports are the same as they are printed
abbrev pub prints_alike : Report → Report → Bool
prints_alike left right = bytes_eq (report_text left) (report_text right)

-- so, as a word
abbrev pub agree_word : Bool → List ℕ
agree_word true = codes "agree"
agree_word false = codes "differ"

-- the lines of the package: its classes, its methods, of which each class has three, and the size of Method
abbrev pub package_lines : (size method_bytes : ℕ) → List (List ℕ)
package_lines size method_bytes =
    line (codes "classes " ++ decimal size)
    ∷ line (codes "methods " ++ decimal (3 * size))
    ∷ line (codes "method bytes " ++ decimal method_bytes)
    ∷ []

-- the lines of its runs: results by name, instructions spent by name and by token, the last result by name, and whether
-- both
-- reports are printed alike
abbrev pub run_lines : (by_name by_token : Report) → List (List ℕ)
run_lines by_name by_token =
    line (codes "calls " ++ decimal (count_by is_result by_name.notes))
    ∷ line (codes "instructions " ++ decimal by_name.spent ++ codes " " ++ decimal by_token.spent)
    ∷ line (codes "last " ++ value_text (last_result by_name.notes))
    ∷ line (agree_word (prints_alike by_name by_token))
    ∷ []

-- the lines of the package, and then of its runs
abbrev pub summary_lines : (size method_bytes : ℕ) → (by_name by_token : Report) → List (List ℕ)
summary_lines size method_bytes by_name by_token = package_lines size method_bytes ++ run_lines by_name by_token
