-- The reads of a list, its files and the components of a folder, each behind those before it.
use Rattle.std.proofs.Common.{◌≡◌, ℕ, ◌≤◌, List, [], length, refl, sym, ap, subst, arith, Result, Ok, Err}
use Rattle.cjc_cmd_card.proofs.RunningLaws.Gathers.{Texts, input_of}
use Rattle.cjc_cmd_card.specs.declared.running.input.Input.{Input}
use Rattle.cjc_cmd_check.specs.Folder.Reads.{plan_of_parts}
use Rattle.cjc_cmd_check.specs.declared.folder.folder.Parts.{Parts}
use Rattle.cjc_cmd_jvm.proofs.RunningLaws.Gathers.{answer_ok, answer_err}
use Rattle.cjc_cmd_jvm.proofs.ShelfGathering.{gathers_then, gathers_end, gathers_has, gathers_refused}
use Rattle.cjc_cmd_jvm.specs.Running.Reads.{names_of}
use Rattle.cjc_cmd_jvm.specs.LowerShelf.Command.Gather.{Gathers, IsSame}
use Rattle.cjc_cmd_jvm.specs.LowerShelf.Command.Plan.{has, ◌>>=◌, read, read_each, unless_refused}
use Rattle.cjc_cmd_jvm.specs.LowerShelf.Shelf.{Shelved, longest_file}
use Rattle.cjc_cmd_jvm.specs.LowerShelf.declared.command.status.Status.{Status}
use Rattle.cjc_cmd_jvm.specs.LowerShelf.declared.command.status.Status.TheVariants as status
use Rattle.cjc_cmd_card.specs.Running.Package.{plan_behind_files, plan_behind_list, plan_behind_text, plan_of_input}
use Rattle.cjc_cmd_check.specs.Bytes.Refused.{IsUnlessNoMemory}
use Rattle.cjc_cmd_check.specs.Bytes.declared.fault.Fault.TheVariants as faults
use Rattle.cjc_cmd_check.specs.Bytes.declared.fault.Refusal.{Refusal}
use Rattle.cjc_cmd_check.specs.List.Listed.{ListTree, listed, answer}

-- ---- behind a list

-- the files of the list could not all be read
pub files_end : (dir : List ℕ) (list : ListTree) (names : Texts) (old new : Shelved) (end : Status)
    → names ≡ names_of list.lines → Gathers {T = Texts} (read_each names) IsSame old new (Err end)
    → Gathers {T = Input} (plan_behind_list dir list) IsSame old new (Err end)
files_end dir list names old new end n g = gathers_end (read_each (names_of list.lines)) (plan_behind_files dir list)
    IsSame old new end (rw n at g)

files_then : (dir : List ℕ) (list : ListTree) (names files : Texts) (old mid new : Shelved)
    (result : Result Input Status) → names ≡ names_of list.lines → Gathers (read_each names) IsSame old mid (Ok files)
    → Gathers (plan_behind_files dir list files) IsSame mid new result
    → Gathers (plan_behind_list dir list) IsSame old new result
files_then dir list names files old mid new result n g rest =
    gathers_then (read_each (names_of list.lines)) (plan_behind_files dir list) IsSame old mid new files result
    (rw n at g) rest

-- the components could not all be read
pub parts_end : (dir : List ℕ) (list : ListTree) (names files : Texts) (old mid new : Shelved) (end : Status)
    → names ≡ names_of list.lines → Gathers (read_each names) IsSame old mid (Ok files)
    → Gathers {T = Parts} (plan_of_parts dir) IsSame mid new (Err end)
    → Gathers {T = Input} (plan_behind_list dir list) IsSame old new (Err end)
parts_end dir list names files old mid new end n g p =
    files_then dir list names files old mid new (Err end) n g
    (gathers_end (plan_of_parts dir) (λ (parts : Parts). has (input_of list files parts [])) IsSame mid new end p)

-- all was read
pub all_read : (dir : List ℕ) (list : ListTree) (names files : Texts) (parts : Parts) (script : List ℕ)
    (old mid new : Shelved) → names ≡ names_of list.lines → Gathers (read_each names) IsSame old mid (Ok files)
    → Gathers (plan_of_parts dir) IsSame mid new (Ok parts) → script ≡ []
    → Gathers (plan_behind_list dir list) IsSame old new (Ok (input_of list files parts script))
all_read dir list names files parts script old mid new n g p none =
    subst (λ (s : List ℕ). Gathers (plan_behind_list dir list) IsSame old new (Ok (input_of list files parts s)))
    (sym none) (files_then dir list names files old mid new _ n g
    (gathers_then (plan_of_parts dir) (λ (parts : Parts). has (input_of list files parts [])) IsSame mid new new parts _
    p (gathers_has (input_of list files parts []) IsSame new (input_of list files parts []) refl)))

-- ---- the list

pub text_then : (name dir text : List ℕ) (list : ListTree) (old new : Shelved) (result : Result Input Status)
    → IsUnlessNoMemory (Ok list) (answer (listed name text))
    → Gathers (plan_behind_list dir list) IsSame old new result → Gathers (plan_behind_text name dir text) IsSame old
    new result
text_then name dir text list old new result e g =
    subst (λ (r : Result ListTree Refusal). Gathers (unless_refused r >>= plan_behind_list dir) IsSame old new result)
    (sym (answer_ok (listed name text) list e)) g

pub text_refused : (name dir text : List ℕ) (r : Refusal) (s : Shelved)
    → IsUnlessNoMemory (Err (faults.Refused r)) (answer (listed name text))
    → Gathers {T = Input} (plan_behind_text name dir text) IsSame s s (Err (status.Refused r))
text_refused name dir text r s e =
    subst (λ (l : Result ListTree Refusal). Gathers {T = Input} (unless_refused l >>= plan_behind_list dir) IsSame s s
    (Err (status.Refused r))) (sym (answer_err (listed name text) r e)) (gathers_refused IsSame s r)

pub input_end : (name dir : List ℕ) (old new : Shelved) (end : Status)
    → Gathers {T = List ℕ} (read name) IsSame old new (Err end) → Gathers {T = Input} (plan_of_input name dir) IsSame
    old new (Err end)
input_end name dir old new end g = gathers_end (read name) (plan_behind_text name dir) IsSame old new end g

pub input_then : (name dir text : List ℕ) (old mid new : Shelved) (result : Result Input Status)
    → Gathers (read name) IsSame old mid (Ok text) → Gathers (plan_behind_text name dir text) IsSame mid new result
    → Gathers (plan_of_input name dir) IsSame old new result
input_then name dir text old mid new result a b = gathers_then (read name) (plan_behind_text name dir) IsSame old mid
    new text result a b

-- ---- what was read

-- a text of no bytes is not too long
pub empty_is_short : (text : List ℕ) → text ≡ [] → length text ≤ longest_file
empty_is_short text none = let e = ap length none in omega (arith, e)
