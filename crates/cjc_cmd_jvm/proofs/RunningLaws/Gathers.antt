-- The reads of a list, its files and a script, each behind those before it.
use Rattle.std.proofs.Common.{◌≡◌, inl, inr, ℕ, ◌<◌, List, length, refl, sym, ap, subst, ◌∙◌, arith, Result, Ok, Err}
use Rattle.cjc_shelf.specs.Bytes.Refused.{IsUnlessNoMemory}
use Rattle.cjc_shelf.specs.Bytes.declared.fault.Fault.TheVariants as faults
use Rattle.cjc_shelf.specs.Bytes.declared.fault.Refusal.{Refusal}
use Rattle.cjc_shelf.specs.Bytes.declared.settings.FileLine.{FileLine}
use Rattle.cjc_shelf.specs.Command.Gather.{Gathers, IsSame, AreShort}
use Rattle.cjc_shelf.specs.Command.Plan.{Plan, has, ◌>>=◌, read, read_each, unless_refused}
use Rattle.cjc_shelf.specs.declared.command.status.Status.{Status}
use Rattle.cjc_shelf.specs.declared.command.status.Status.TheVariants as status
use Rattle.cjc_shelf.proofs.CommandLaws.Gathering.{gathers_then, gathers_end, gathers_has, gathers_refused}
use Rattle.cjc_judge.specs.Spelt.{IsRead, AreFiles}
use Rattle.cjc_script_text.specs.List.Listed.{ListTree, listed, answer}
use Rattle.cjc_script_text.specs.List.Spelling.{IsSpelt}
use Rattle.cjc_shelf.specs.Shelf.{Shelved}
use Rattle.cjc_cmd_jvm.specs.declared.running.input.Input.{Input}
use Rattle.cjc_cmd_jvm.specs.Running.Reads.{names_of, plan_behind_files, plan_behind_list, plan_behind_text}
use Rattle.cjc_cmd_jvm.specs.Running.Reads.{plan_of_run}

abbrev pub Texts : Type 0
Texts = List (List ℕ)

abbrev pub input_of : ListTree → Texts → (script : List ℕ) → Input
input_of list files script = record { list = list; files = files; script = script }

-- ---- behind a list

pub files_end : (script : List ℕ) (list : ListTree) (names : Texts) (old new : Shelved) (end : Status)
    → names ≡ names_of list.lines
    → Gathers {T = Texts} (read_each names) IsSame old new (Err end)
    → Gathers {T = Input} (plan_behind_list script list) IsSame old new (Err end)
files_end script list names old new end n g = gathers_end (read_each (names_of list.lines)) (plan_behind_files script
    list) IsSame old new end (rw n at g)

pub script_end : (script : List ℕ) (list : ListTree) (names files : Texts) (old mid new : Shelved) (end : Status)
    → names ≡ names_of list.lines → Gathers (read_each names) IsSame old mid (Ok files)
    → Gathers {T = List ℕ} (read script) IsSame mid new (Err end) → Gathers {T = Input} (plan_behind_list script list)
    IsSame old new (Err end)
script_end script list names files old mid new end n g p =
    gathers_then (read_each (names_of list.lines)) (plan_behind_files script list) IsSame old mid new files (Err end)
    (rw n at g)
    (gathers_end (read script) (λ (text : List ℕ). has (input_of list files text)) IsSame mid new end p)

pub listed_then : (script : List ℕ) (list : ListTree) (names files : Texts) (text : List ℕ) (old mid new : Shelved)
    → names ≡ names_of list.lines → Gathers (read_each names) IsSame old mid (Ok files)
    → Gathers (read script) IsSame mid new (Ok text) → Gathers (plan_behind_list script list) IsSame old new
    (Ok (input_of list files text))
listed_then script list names files text old mid new n g p =
    gathers_then (read_each (names_of list.lines)) (plan_behind_files script list) IsSame old mid new files _
    (rw n at g)
    (gathers_then (read script) (λ (t : List ℕ). has (input_of list files t)) IsSame mid new new text _ p
    (gathers_has (input_of list files text) IsSame new (input_of list files text) refl))

-- ---- the list

pub answer_ok : (r : Result ListTree Refusal) (list : ListTree) → IsUnlessNoMemory (Ok list) (answer r) → r ≡ Ok list
answer_ok (Ok l) list (inl e) = cc
answer_ok (Ok l) list (inr e) = absurd cc
answer_ok (Err r) list (inl e) = absurd cc
answer_ok (Err r) list (inr e) = absurd cc

pub answer_err : (r : Result ListTree Refusal) (x : Refusal) → IsUnlessNoMemory (Err (faults.Refused x)) (answer r)
    → r ≡ Err x
answer_err (Ok l) x (inl e) = absurd cc
answer_err (Ok l) x (inr e) = absurd cc
answer_err (Err r) x (inl e) = cc
answer_err (Err r) x (inr e) = absurd cc

pub text_then : (name script text : List ℕ) (list : ListTree) (old new : Shelved) (result : Result Input Status)
    → IsUnlessNoMemory (Ok list) (answer (listed name text))
    → Gathers (plan_behind_list script list) IsSame old new result → Gathers (plan_behind_text name script text) IsSame
    old new result
text_then name script text list old new result e g =
    subst (λ (r : Result ListTree Refusal). Gathers (unless_refused r >>= plan_behind_list script) IsSame old new
    result) (sym (answer_ok (listed name text) list e)) g

pub text_refused : (name script text : List ℕ) (r : Refusal) (s : Shelved)
    → IsUnlessNoMemory (Err (faults.Refused r)) (answer (listed name text))
    → Gathers {T = Input} (plan_behind_text name script text) IsSame s s (Err (status.Refused r))
text_refused name script text r s e =
    subst (λ (l : Result ListTree Refusal). Gathers {T = Input} (unless_refused l >>= plan_behind_list script) IsSame s
    s (Err (status.Refused r))) (sym (answer_err (listed name text) r e)) (gathers_refused IsSame s r)

pub input_end : (name script : List ℕ) (old new : Shelved) (end : Status)
    → Gathers {T = List ℕ} (read name) IsSame old new (Err end) → Gathers {T = Input} (plan_of_run name script) IsSame
    old new (Err end)
input_end name script old new end g = gathers_end (read name) (plan_behind_text name script) IsSame old new end g

pub input_then : (name script text : List ℕ) (old mid new : Shelved) (result : Result Input Status)
    → Gathers (read name) IsSame old mid (Ok text)
    → Gathers (plan_behind_text name script text) IsSame mid new result → Gathers (plan_of_run name script) IsSame old
    new result
input_then name script text old mid new result a b = gathers_then (read name) (plan_behind_text name script) IsSame old
    mid new text result a b

-- ---- what was read

-- a list of the name
pub is_read : (name text : List ℕ) (list : ListTree) → length text < 4294967296 → IsSpelt name list text → IsRead list
is_read name text list short s = (text, short, subst (λ (n : List ℕ). IsSpelt n list text) (sym s.0.3.named) s)

pub are_files : (files : Texts) → AreShort files → AreFiles files
are_files files s i = let e = s i in omega arith
