-- The reads of a list, its files, the components of a folder and a script, each behind those before it.
use Rattle.std.proofs.Common.{◌≡◌, ℕ, ◌≤◌, List, length, refl, sym, ap, subst, ◌∙◌, arith, Result, Ok, Err}
use Rattle.std.proofs.lemmas.List.{length-map}
use Rattle.cjc_cmd_check.specs.Bytes.Refused.{IsUnlessNoMemory}
use Rattle.cjc_cmd_check.specs.Bytes.declared.fault.Fault.TheVariants as faults
use Rattle.cjc_cmd_check.specs.Bytes.declared.fault.Refusal.{Refusal}
use Rattle.cjc_cmd_check.specs.Bytes.declared.settings.FileLine.{FileLine}
use Rattle.cjc_cmd_jvm.specs.LowerShelf.Command.Gather.{Gathers, IsSame, AreShort}
use Rattle.cjc_cmd_jvm.specs.LowerShelf.Command.Plan.{has, ◌>>=◌, read, read_each, unless_refused}
use Rattle.cjc_cmd_jvm.specs.LowerShelf.declared.command.status.Status.{Status}
use Rattle.cjc_cmd_jvm.specs.LowerShelf.declared.command.status.Status.TheVariants as status
use Rattle.cjc_cmd_jvm.proofs.ShelfGathering.{gathers_then, gathers_end, gathers_has, gathers_refused}
use Rattle.cjc_cmd_check.specs.Folder.Breaks.{ArePartsRead, ArePartsShort}
use Rattle.cjc_cmd_check.specs.Folder.Reads.{plan_of_parts}
use Rattle.cjc_cmd_check.specs.declared.folder.folder.Parts.{Parts}
use Rattle.cjc_cmd_jvm.specs.Judge.Spelt.{IsRead}
use Rattle.cjc_cmd_check.specs.List.Listed.{ListTree, listed, answer}
use Rattle.cjc_cmd_jvm.specs.Running.Reads.{names_of}
use Rattle.cjc_cmd_jvm.proofs.RunningLaws.Gathers.{answer_ok, answer_err, are_files}
use Rattle.cjc_cmd_jvm.specs.LowerShelf.Shelf.{Shelved, longest_file}
use Rattle.cjc_cmd_card.specs.declared.running.input.Input.{Input}
use Rattle.cjc_cmd_card.specs.Running.Reads.{IsInput, plan_behind_files, plan_behind_list, plan_behind_parts}
use Rattle.cjc_cmd_card.specs.Running.Reads.{plan_behind_text, plan_of_card}

abbrev pub Texts : Type 0
Texts = List (List ℕ)

abbrev pub input_of : ListTree → Texts → Parts → (script : List ℕ) → Input
input_of list files parts script = record { list = list; files = files; parts = parts; script = script }

-- ---- behind the files of a list

parts_end : (dir script : List ℕ) (list : ListTree) (files : Texts) (old new : Shelved) (end : Status)
    → Gathers {T = Parts} (plan_of_parts dir) IsSame old new (Err end)
    → Gathers {T = Input} (plan_behind_files dir script list files) IsSame old new (Err end)
parts_end dir script list files old new end p = gathers_end (plan_of_parts dir) (plan_behind_parts script list files)
    IsSame old new end p

script_end : (dir script : List ℕ) (list : ListTree) (files : Texts) (parts : Parts) (old mid new : Shelved)
    (end : Status) → Gathers (plan_of_parts dir) IsSame old mid (Ok parts)
    → Gathers {T = List ℕ} (read script) IsSame mid new (Err end)
    → Gathers {T = Input} (plan_behind_files dir script list files) IsSame old new (Err end)
script_end dir script list files parts old mid new end p s =
    gathers_then (plan_of_parts dir) (plan_behind_parts script list files) IsSame old mid new parts (Err end) p
    (gathers_end (read script) (λ (text : List ℕ). has (input_of list files parts text)) IsSame mid new end s)

script_then : (dir script : List ℕ) (list : ListTree) (files : Texts) (parts : Parts) (text : List ℕ) (old mid new :
    Shelved) → Gathers (plan_of_parts dir) IsSame old mid (Ok parts)
    → Gathers (read script) IsSame mid new (Ok text) → Gathers (plan_behind_files dir script list files) IsSame old new
    (Ok (input_of list files parts text))
script_then dir script list files parts text old mid new p s =
    gathers_then (plan_of_parts dir) (plan_behind_parts script list files) IsSame old mid new parts _ p
    (gathers_then (read script) (λ (t : List ℕ). has (input_of list files parts t)) IsSame mid new new text _ s
    (gathers_has (input_of list files parts text) IsSame new (input_of list files parts text) refl))

-- ---- behind a list

pub files_end : (dir script : List ℕ) (list : ListTree) (names : Texts) (old new : Shelved) (end : Status)
    → names ≡ names_of list.lines
    → Gathers {T = Texts} (read_each names) IsSame old new (Err end)
    → Gathers {T = Input} (plan_behind_list dir script list) IsSame old new (Err end)
files_end dir script list names old new end n g = gathers_end (read_each (names_of list.lines)) (plan_behind_files dir
    script list) IsSame old new end (rw n at g)

files_then : (dir script : List ℕ) (list : ListTree) (names files : Texts) (old mid new : Shelved)
    (result : Result Input Status) → names ≡ names_of list.lines → Gathers (read_each names) IsSame old mid (Ok files)
    → Gathers (plan_behind_files dir script list files) IsSame mid new result
    → Gathers (plan_behind_list dir script list) IsSame old new result
files_then dir script list names files old mid new result n g rest =
    gathers_then (read_each (names_of list.lines)) (plan_behind_files dir script list) IsSame old mid new files result
    (rw n at g) rest

pub listed_parts_end : (dir script : List ℕ) (list : ListTree) (names files : Texts) (old mid new : Shelved)
    (end : Status) → names ≡ names_of list.lines → Gathers (read_each names) IsSame old mid (Ok files)
    → Gathers {T = Parts} (plan_of_parts dir) IsSame mid new (Err end)
    → Gathers {T = Input} (plan_behind_list dir script list) IsSame old new (Err end)
listed_parts_end dir script list names files old mid new end n g p = files_then dir script list names files old mid new
    (Err end) n g (parts_end dir script list files mid new end p)

pub listed_script_end : (dir script : List ℕ) (list : ListTree) (names files : Texts) (parts : Parts)
    (old mid late new : Shelved) (end : Status) → names ≡ names_of list.lines
    → Gathers (read_each names) IsSame old mid (Ok files)
    → Gathers (plan_of_parts dir) IsSame mid late (Ok parts) → Gathers {T = List ℕ} (read script) IsSame late new
    (Err end) → Gathers {T = Input} (plan_behind_list dir script list) IsSame old new (Err end)
listed_script_end dir script list names files parts old mid late new end n g p s =
    files_then dir script list names files old mid new (Err end) n g (script_end dir script list files parts mid late
    new end p s)

pub listed_then : (dir script : List ℕ) (list : ListTree) (names files : Texts) (parts : Parts) (text : List ℕ)
    (old mid late new : Shelved) → names ≡ names_of list.lines → Gathers (read_each names) IsSame old mid (Ok files)
    → Gathers (plan_of_parts dir) IsSame mid late (Ok parts) → Gathers (read script) IsSame late new (Ok text)
    → Gathers (plan_behind_list dir script list) IsSame old new (Ok (input_of list files parts text))
listed_then dir script list names files parts text old mid late new n g p s =
    files_then dir script list names files old mid new _ n g (script_then dir script list files parts text mid late new
    p s)

-- ---- the list

pub text_then : (name dir script text : List ℕ) (list : ListTree) (old new : Shelved) (result : Result Input Status)
    → IsUnlessNoMemory (Ok list) (answer (listed name text))
    → Gathers (plan_behind_list dir script list) IsSame old new result → Gathers (plan_behind_text name dir script text)
    IsSame old new result
text_then name dir script text list old new result e g =
    subst (λ (r : Result ListTree Refusal). Gathers (unless_refused r >>= plan_behind_list dir script) IsSame old new
    result) (sym (answer_ok (listed name text) list e)) g

pub text_refused : (name dir script text : List ℕ) (r : Refusal) (s : Shelved)
    → IsUnlessNoMemory (Err (faults.Refused r)) (answer (listed name text))
    → Gathers {T = Input} (plan_behind_text name dir script text) IsSame s s (Err (status.Refused r))
text_refused name dir script text r s e =
    subst (λ (l : Result ListTree Refusal). Gathers {T = Input} (unless_refused l >>= plan_behind_list dir script)
    IsSame s s (Err (status.Refused r))) (sym (answer_err (listed name text) r e)) (gathers_refused IsSame s r)

pub input_end : (name dir script : List ℕ) (old new : Shelved) (end : Status)
    → Gathers {T = List ℕ} (read name) IsSame old new (Err end) → Gathers {T = Input} (plan_of_card name dir script)
    IsSame old new (Err end)
input_end name dir script old new end g = gathers_end (read name) (plan_behind_text name dir script) IsSame old new end
    g

pub input_then : (name dir script text : List ℕ) (old mid new : Shelved) (result : Result Input Status)
    → Gathers (read name) IsSame old mid (Ok text)
    → Gathers (plan_behind_text name dir script text) IsSame mid new result
    → Gathers (plan_of_card name dir script) IsSame old new result
input_then name dir script text old mid new result a b = gathers_then (read name) (plan_behind_text name dir script)
    IsSame old mid new text result a b

-- ---- what was read

pub is_input : (list : ListTree) (files : Texts) (parts : Parts) (script : List ℕ) (names : Texts) → IsRead list
    → names ≡ names_of list.lines → length files ≡ length names → AreShort files
    → ArePartsShort parts → ArePartsRead parts → length script ≤ longest_file
    → IsInput (input_of list files parts script)
is_input list files parts script names read n count short small parts_read le = record {
  list = read;
  count = count ∙ ap length n ∙ length-map list.lines (λ (line : FileLine). line.name);
  files = are_files files short;
  short = small;
  read = parts_read;
  script = omega (arith, le);
}
