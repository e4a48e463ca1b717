-- How the reads of a conversion go on from its list.
use Rattle.std.proofs.Common.{◌≡◌, ℕ, List, Result, Ok, Err, sym, subst}
use Rattle.cjc_shelf.specs.Bytes.Refused.{IsUnlessNoMemory}
use Rattle.cjc_shelf.specs.Bytes.declared.fault.Fault.TheVariants as faults
use Rattle.cjc_shelf.specs.Bytes.declared.fault.Refusal.{Refusal}
use Rattle.cjc_shelf.specs.Shelf.{Shelved}
use Rattle.cjc_cmd_compat.specs.List.Listed.{ListTree, listed, answer}
use Rattle.cjc_shelf.specs.declared.command.status.Status.{Status}
use Rattle.cjc_shelf.specs.declared.command.status.Status.TheVariants as status
use Rattle.cjc_shelf.specs.declared.command.status.Todo.{Todo}
use Rattle.cjc_shelf.specs.Command.Plan.{◌>>=◌, has, read_each, unless_refused}
use Rattle.cjc_shelf.specs.Command.Gather.{Gathers, IsSame, Judged}
use Rattle.cjc_shelf.proofs.CommandLaws.Gathering.{gathers_refused, gathers_then, gathers_end}
use Rattle.cjc_shelf.proofs.CommandLaws.Judging.{gathers_judged}
use Rattle.cjc_cmd_verify.proofs.CmdJvmGathers.{answer_ok, answer_err}
use Rattle.cjc_run.specs.Convert.{names_of, plan_of_files, plan_of_list, Makes}

-- the text is a list, and its files were asked for
pub listed_goes_on : (name text dir : List ℕ) (list : ListTree) (old new : Shelved) (result : Result Todo Status)
    → IsUnlessNoMemory (Ok list) (answer (listed name text))
    → Gathers (plan_of_files list) (Makes dir) old new result → Gathers (plan_of_list name text) (Makes dir) old new
    result
listed_goes_on name text dir list old new result e g =
    subst (λ (r : Result ListTree Refusal). Gathers (unless_refused r >>= plan_of_files) (Makes dir) old new result)
    (sym (answer_ok (listed name text) list e)) g

-- the text breaks a rule
pub listed_refuses : (name text dir : List ℕ) (r : Refusal) (s : Shelved)
    → IsUnlessNoMemory (Err (faults.Refused r)) (answer (listed name text))
    → Gathers (plan_of_list name text) (Makes dir) s s (Err (status.Refused r))
listed_refuses name text dir r s e =
    subst (λ (l : Result ListTree Refusal). Gathers (unless_refused l >>= plan_of_files) (Makes dir) s s
    (Err (status.Refused r))) (sym (answer_err (listed name text) r e))
    (gathers_refused (Makes dir) s r)

-- the files of the list could not all be read
pub files_end : (list : ListTree) (dir : List ℕ) (names : List (List ℕ)) (old new : Shelved) (end : Status)
    → names ≡ names_of list
    → Gathers {T = List (List ℕ)} (read_each names) IsSame old new (Err end)
    → Gathers {T = Todo} (plan_of_files list) (Makes dir) old new (Err end)
files_end list dir names old new end e g =
    gathers_end (read_each (names_of list)) (λ (files : List (List ℕ)). has (list, files)) (Makes dir) old new end
    (subst (λ (ns : List (List ℕ)). Gathers {T = List (List ℕ)} (read_each ns) IsSame old new (Err end)) e g)

-- all were read, and the rest needs no shelf
pub files_then : (list : ListTree) (dir : List ℕ) (names files : List (List ℕ)) (old new : Shelved)
    (result : Result Todo Status) → names ≡ names_of list
    → Gathers (read_each names) IsSame old new (Ok files) → Judged (Makes dir (list, files)) result
    → Gathers (plan_of_files list) (Makes dir) old new result
files_then list dir names files old new result e g j =
    gathers_then (read_each (names_of list)) (λ (fs : List (List ℕ)). has (list, fs)) (Makes dir) old new new files
    result
    (subst (λ (ns : List (List ℕ)). Gathers (read_each ns) IsSame old new (Ok files)) e g)
    (gathers_judged (list, files) (Makes dir) new result j)
