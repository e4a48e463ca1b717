-- The reads of a group: of the text that names packages, of these one after the other, and of a script.
use Rattle.std.proofs.Common.{◌≡◌, ℕ, ◌≤◌, List, [], ◌∷◌, ◌++◌, length, refl, sym, subst, arith}
use Rattle.std.proofs.Common.{inl, inr, Result, Ok, Err}
use Rattle.std.specs.List.{AllByRecursion}
use Rattle.cjc_group.specs.Bytes.Refused.{IsUnlessNoMemory}
use Rattle.cjc_group.specs.Bytes.declared.fault.Fault.TheVariants as faults
use Rattle.cjc_group.specs.Bytes.declared.fault.Refusal.{Refusal}
use Rattle.cjc_cmd_card.specs.Running.Reads.{IsInput}
use Rattle.cjc_cmd_card.specs.declared.running.input.Input.{Input}
use Rattle.cjc_cmd_link.specs.Reads.{IsGroup, member_behind, plan_behind_lines, plan_behind_members, plan_behind_text}
use Rattle.cjc_cmd_link.specs.Reads.{plan_of_group, plan_of_members}
use Rattle.cjc_cmd_link.specs.declared.reads.GroupInput.{GroupInput}
use Rattle.cjc_cmd_card.specs.Running.Package.{plan_of_input}
use Rattle.cjc_group.specs.Grouped.{grouped}
use Rattle.cjc_group.specs.declared.line.PackageLine.{PackageLine}
use Rattle.cjc_link_semantics.specs.List.Listed.{answer}
use Rattle.cjc_cmd_card.proofs.ShelfGathering.{gathers_end, gathers_has, gathers_refused, gathers_then}
use Rattle.cjc_cmd_card.specs.Shelf.Command.Gather.{Gathers, IsSame}
use Rattle.cjc_cmd_card.specs.Shelf.Command.Plan.{has, ◌>>=◌, read, unless_refused}
use Rattle.cjc_cmd_card.specs.Shelf.Shelf.{Shelved, longest_file}
use Rattle.cjc_cmd_card.specs.Shelf.declared.command.status.Status.{Status}
use Rattle.cjc_cmd_card.specs.Shelf.declared.command.status.Status.TheVariants as status

-- ---- one package more

pub member_read : (front : List Input) (line : PackageLine) (name dir : List ℕ) (member : Input) (old new : Shelved)
    → name ≡ line.list → dir ≡ line.folder → Gathers (plan_of_input name dir) IsSame old new (Ok member)
    → Gathers (member_behind front line) IsSame old new (Ok (front ++ member ∷ []))
member_read front line name dir member old new n d g =
    gathers_then (plan_of_input line.list line.folder) (λ (m : Input). has (front ++ m ∷ [])) IsSame old new new member
    (Ok (front ++ member ∷ []))
    (subst (λ (x : List ℕ). Gathers (plan_of_input x line.folder) IsSame old new (Ok member)) n
    (subst (λ (x : List ℕ). Gathers (plan_of_input name x) IsSame old new (Ok member)) d g))
    (gathers_has (front ++ member ∷ []) IsSame new (front ++ member ∷ []) refl)

pub member_end : (front : List Input) (line : PackageLine) (name dir : List ℕ) (old new : Shelved) (end : Status)
    → name ≡ line.list → dir ≡ line.folder
    → Gathers {T = Input} (plan_of_input name dir) IsSame old new (Err end)
    → Gathers {T = List Input} (member_behind front line) IsSame old new (Err end)
member_end front line name dir old new end n d g =
    gathers_end (plan_of_input line.list line.folder) (λ (m : Input). has (front ++ m ∷ [])) IsSame old new end
    (subst (λ (x : List ℕ). Gathers {T = Input} (plan_of_input x line.folder) IsSame old new (Err end)) n
    (subst (λ (x : List ℕ). Gathers {T = Input} (plan_of_input name x) IsSame old new (Err end)) d g))

pub inputs_more : (inputs : List Input) (m : Input) → AllByRecursion IsInput inputs → IsInput m
    → AllByRecursion IsInput (inputs ++ m ∷ [])
inputs_more [] m all one = (one, tt)
inputs_more (i ∷ inputs) m all one = (all.0, inputs_more inputs m all.1 one)

-- ---- behind the lines

abbrev pub group_of : List Input → (script : List ℕ) → GroupInput
group_of members script = record { members = members; script = script }

pub members_end : (script : List ℕ) (lines : List PackageLine) (old new : Shelved) (end : Status)
    → Gathers {T = List Input} (plan_of_members lines) IsSame old new (Err end)
    → Gathers {T = GroupInput} (plan_behind_lines script lines) IsSame old new (Err end)
members_end script lines old new end g = gathers_end (plan_of_members lines) (plan_behind_members script) IsSame old new
    end g

pub script_end : (script : List ℕ) (lines : List PackageLine) (members : List Input) (old mid new : Shelved)
    (end : Status) → Gathers (plan_of_members lines) IsSame old mid (Ok members)
    → Gathers {T = List ℕ} (read script) IsSame mid new (Err end)
    → Gathers {T = GroupInput} (plan_behind_lines script lines) IsSame old new (Err end)
script_end script lines members old mid new end g s =
    gathers_then (plan_of_members lines) (plan_behind_members script) IsSame old mid new members (Err end) g
    (gathers_end (read script) (λ (text : List ℕ). has (group_of members text)) IsSame mid new end s)

pub script_then : (script : List ℕ) (lines : List PackageLine) (members : List Input) (text : List ℕ)
    (old mid new : Shelved) → Gathers (plan_of_members lines) IsSame old mid (Ok members)
    → Gathers (read script) IsSame mid new (Ok text)
    → Gathers (plan_behind_lines script lines) IsSame old new (Ok (group_of members text))
script_then script lines members text old mid new g s =
    gathers_then (plan_of_members lines) (plan_behind_members script) IsSame old mid new members _ g
    (gathers_then (read script) (λ (t : List ℕ). has (group_of members t)) IsSame mid new new text _ s
    (gathers_has (group_of members text) IsSame new (group_of members text) refl))

pub is_group : (members : List Input) (text : List ℕ) → AllByRecursion IsInput members → length text ≤ longest_file
    → IsGroup (group_of members text)
is_group members text all le = record { members = all; script = omega (arith, le) }

-- ---- the text

answer_ok : {A : Type 0} (r : Result A Refusal) (x : A) → IsUnlessNoMemory (Ok x) (answer r) → r ≡ Ok x
answer_ok (Ok l) x (inl e) = cc
answer_ok (Ok l) x (inr e) = absurd cc
answer_ok (Err r) x (inl e) = absurd cc
answer_ok (Err r) x (inr e) = absurd cc

answer_err : {A : Type 0} (r : Result A Refusal) (x : Refusal) → IsUnlessNoMemory {X = A} (Err (faults.Refused x))
    (answer r) → r ≡ Err x
answer_err (Ok l) x (inl e) = absurd cc
answer_err (Ok l) x (inr e) = absurd cc
answer_err (Err r) x (inl e) = cc
answer_err (Err r) x (inr e) = absurd cc

pub text_then : (name script text : List ℕ) (lines : List PackageLine) (old new : Shelved)
    (result : Result GroupInput Status) → IsUnlessNoMemory (Ok lines) (answer (grouped name text))
    → Gathers (plan_behind_lines script lines) IsSame old new result
    → Gathers (plan_behind_text name script text) IsSame old new result
text_then name script text lines old new result e g =
    subst (λ (r : Result (List PackageLine) Refusal). Gathers (unless_refused r >>= plan_behind_lines script) IsSame old
    new result) (sym (answer_ok (grouped name text) lines e)) g

pub text_refused : (name script text : List ℕ) (r : Refusal) (s : Shelved)
    → IsUnlessNoMemory {X = List PackageLine} (Err (faults.Refused r)) (answer (grouped name text))
    → Gathers {T = GroupInput} (plan_behind_text name script text) IsSame s s (Err (status.Refused r))
text_refused name script text r s e =
    subst (λ (l : Result (List PackageLine) Refusal). Gathers {T = GroupInput}
    (unless_refused l >>= plan_behind_lines script) IsSame s s (Err (status.Refused r)))
    (sym (answer_err (grouped name text) r e)) (gathers_refused IsSame s r)

pub group_then : (name script text : List ℕ) (old mid new : Shelved) (result : Result GroupInput Status)
    → Gathers (read name) IsSame old mid (Ok text)
    → Gathers (plan_behind_text name script text) IsSame mid new result
    → Gathers (plan_of_group name script) IsSame old new result
group_then name script text old mid new result a b = gathers_then (read name) (plan_behind_text name script) IsSame old
    mid new text result a b

pub group_end : (name script : List ℕ) (old new : Shelved) (end : Status)
    → Gathers {T = List ℕ} (read name) IsSame old new (Err end)
    → Gathers {T = GroupInput} (plan_of_group name script) IsSame old new (Err end)
group_end name script old new end g = gathers_end (read name) (plan_behind_text name script) IsSame old new end g
