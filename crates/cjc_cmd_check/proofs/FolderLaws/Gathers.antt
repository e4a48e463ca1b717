-- The reads of a folder, each behind those before it.
use Rattle.std.proofs.Common.{◌≡◌, inl, inr, ℕ, List, map, refl, sym, ap, subst, Result, Ok, Err}
use Rattle.cjc_bytes.specs.Refused.{IsUnlessNoMemory}
use Rattle.cjc_bytes.specs.declared.fault.Fault.TheVariants as faults
use Rattle.cjc_bytes.specs.declared.fault.Refusal.{Refusal}
use Rattle.cjc_shelf.specs.Command.Gather.{Gathers, IsSame}
use Rattle.cjc_shelf.specs.Command.Plan.{Plan, has, ◌>>=◌, read, read_each, unless_refused}
use Rattle.cjc_shelf.specs.declared.command.status.Status.{Status}
use Rattle.cjc_shelf.specs.declared.command.status.Status.TheVariants as status
use Rattle.cjc_shelf.proofs.CommandLaws.Gathering.{gathers_then, gathers_end, gathers_has, gathers_refused}
use Rattle.cjc_list.specs.Listed.{ListTree, listed, answer}
use Rattle.cjc_shelf.specs.Shelf.{Shelved}
use Rattle.cjc_cmd_check.specs.declared.folder.folder.Folder.{Folder}
use Rattle.cjc_cmd_check.specs.declared.folder.folder.Parts.{Parts}
use Rattle.cjc_cmd_check.specs.Folder.Reads.{component_name, export_names, plan_behind_exports, plan_behind_header}
use Rattle.cjc_cmd_check.specs.Folder.Reads.{plan_behind_list, plan_behind_text, plan_of_folder, plan_of_others}
use Rattle.cjc_cmd_check.specs.Folder.Reads.{plan_of_parts, tags_of}

abbrev pub Texts : Type 0
Texts = List (List ℕ)

-- ---- components

abbrev pub parts_of : (header directory tags : List ℕ) → Texts → Parts
parts_of header directory tags others = record { header = header; directory = directory; tags = tags; others = others }

pub others_end : (dir header directory tags : List ℕ) (names : Texts) (old new : Shelved) (end : Status)
    → tags ≡ tags_of directory → names ≡ map (component_name dir) tags
    → Gathers {T = Texts} (read_each names) IsSame old new (Err end)
    → Gathers {T = Parts} (plan_of_others dir header directory) IsSame old new (Err end)
others_end dir header directory tags names old new end t n g =
    let g2 = rw n at g in
    let g3 = rw t at g2 in
    gathers_end (read_each (map (component_name dir) (tags_of directory))) (λ (others : Texts). has
    (parts_of header directory (tags_of directory) others)) IsSame old new end g3

pub others_then : (dir header directory tags : List ℕ) (names others : Texts) (old new : Shelved)
    → tags ≡ tags_of directory → names ≡ map (component_name dir) tags
    → Gathers (read_each names) IsSame old new (Ok others) → Gathers (plan_of_others dir header directory) IsSame old
    new (Ok (parts_of header directory tags others))
others_then dir header directory tags names others old new t n g =
    let g2 = rw n at g in
    let g3 = rw t at g2 in
    let same : IsSame (parts_of header directory (tags_of directory) others)
    (Ok (parts_of header directory tags others)) = ap (λ (ts : List ℕ). Ok (parts_of header directory ts others)) t
    in
    gathers_then (read_each (map (component_name dir) (tags_of directory)))
    (λ (os : Texts). has (parts_of header directory (tags_of directory) os)) IsSame old new new others _ g3
    (gathers_has (parts_of header directory (tags_of directory) others) IsSame new (parts_of header directory tags
    others) same)

pub directory_end : (dir header : List ℕ) (old mid new : Shelved) (end : Status)
    → Gathers (read (component_name dir 1)) IsSame old mid (Ok header)
    → Gathers {T = List ℕ} (read (component_name dir 2)) IsSame mid new (Err end)
    → Gathers {T = Parts} (plan_of_parts dir) IsSame old new (Err end)
directory_end dir header old mid new end a b =
    gathers_then (read (component_name dir 1)) (plan_behind_header dir) IsSame old mid new header (Err end) a
    (gathers_end (read (component_name dir 2)) (plan_of_others dir header) IsSame mid new end b)

pub parts_then : (dir header directory : List ℕ) (old mid late new : Shelved) (result : Result Parts Status)
    → Gathers (read (component_name dir 1)) IsSame old mid (Ok header)
    → Gathers (read (component_name dir 2)) IsSame mid late (Ok directory)
    → Gathers (plan_of_others dir header directory) IsSame late new result
    → Gathers (plan_of_parts dir) IsSame old new result
parts_then dir header directory old mid late new result a b rest =
    gathers_then (read (component_name dir 1)) (plan_behind_header dir) IsSame old mid new header result a
    (gathers_then (read (component_name dir 2)) (plan_of_others dir header) IsSame mid late new directory result b rest)

-- ---- behind a list

pub exports_end : (dir : List ℕ) (list : ListTree) (names : Texts) (old new : Shelved) (end : Status)
    → names ≡ export_names list.lines
    → Gathers {T = Texts} (read_each names) IsSame old new (Err end) → Gathers {T = Folder} (plan_behind_list dir list)
    IsSame old new (Err end)
exports_end dir list names old new end n g = gathers_end (read_each (export_names list.lines)) (plan_behind_exports dir
    list) IsSame old new end (rw n at g)

pub parts_end : (dir : List ℕ) (list : ListTree) (names exports : Texts) (old mid new : Shelved) (end : Status)
    → names ≡ export_names list.lines → Gathers (read_each names) IsSame old mid (Ok exports)
    → Gathers {T = Parts} (plan_of_parts dir) IsSame mid new (Err end)
    → Gathers {T = Folder} (plan_behind_list dir list) IsSame old new (Err end)
parts_end dir list names exports old mid new end n g p =
    gathers_then (read_each (export_names list.lines)) (plan_behind_exports dir list) IsSame old mid new exports
    (Err end) (rw n at g)
    (gathers_end (plan_of_parts dir) (λ (parts : Parts). has (record { list = list; exports = exports; parts = parts }))
    IsSame mid new end p)

pub listed_then : (dir : List ℕ) (list : ListTree) (names exports : Texts) (parts : Parts) (old mid new : Shelved)
    → names ≡ export_names list.lines → Gathers (read_each names) IsSame old mid (Ok exports)
    → Gathers (plan_of_parts dir) IsSame mid new (Ok parts) → Gathers (plan_behind_list dir list) IsSame old new
    (Ok (record { list = list; exports = exports; parts = parts }))
listed_then dir list names exports parts old mid new n g p =
    gathers_then (read_each (export_names list.lines)) (plan_behind_exports dir list) IsSame old mid new exports _
    (rw n at g)
    (gathers_then (plan_of_parts dir) (λ (ps : Parts). has (record { list = list; exports = exports; parts = ps }))
    IsSame mid new new parts _ p
    (gathers_has (record { list = list; exports = exports; parts = parts }) IsSame new (record {
      list = list;
      exports = exports;
      parts = parts;
    }) refl))

-- ---- the list

answer_ok : (r : Result ListTree Refusal) (list : ListTree) → IsUnlessNoMemory (Ok list) (answer r) → r ≡ Ok list
answer_ok (Ok l) list (inl e) = cc
answer_ok (Ok l) list (inr e) = absurd cc
answer_ok (Err r) list (inl e) = absurd cc
answer_ok (Err r) list (inr e) = absurd cc

answer_err : (r : Result ListTree Refusal) (x : Refusal) → IsUnlessNoMemory (Err (faults.Refused x)) (answer r)
    → r ≡ Err x
answer_err (Ok l) x (inl e) = absurd cc
answer_err (Ok l) x (inr e) = absurd cc
answer_err (Err r) x (inl e) = cc
answer_err (Err r) x (inr e) = absurd cc

pub text_then : (name dir text : List ℕ) (list : ListTree) (old new : Shelved) (result : Result Folder Status)
    → IsUnlessNoMemory (Ok list) (answer (listed name text))
    → Gathers (plan_behind_list dir list) IsSame old new result → Gathers (plan_behind_text name dir text) IsSame old
    new result
text_then name dir text list old new result e g =
    subst (λ (r : Result ListTree Refusal). Gathers (unless_refused r >>= plan_behind_list dir) IsSame old new result)
    (sym (answer_ok (listed name text) list e)) g

pub text_refused : (name dir text : List ℕ) (r : Refusal) (s : Shelved)
    → IsUnlessNoMemory (Err (faults.Refused r)) (answer (listed name text))
    → Gathers {T = Folder} (plan_behind_text name dir text) IsSame s s (Err (status.Refused r))
text_refused name dir text r s e =
    subst (λ (l : Result ListTree Refusal). Gathers {T = Folder} (unless_refused l >>= plan_behind_list dir) IsSame s s
    (Err (status.Refused r))) (sym (answer_err (listed name text) r e)) (gathers_refused IsSame s r)

pub folder_end : (name dir : List ℕ) (old new : Shelved) (end : Status)
    → Gathers {T = List ℕ} (read name) IsSame old new (Err end) → Gathers {T = Folder} (plan_of_folder name dir) IsSame
    old new (Err end)
folder_end name dir old new end g = gathers_end (read name) (plan_behind_text name dir) IsSame old new end g

pub folder_then : (name dir text : List ℕ) (old mid new : Shelved) (result : Result Folder Status)
    → Gathers (read name) IsSame old mid (Ok text)
    → Gathers (plan_behind_text name dir text) IsSame mid new result → Gathers (plan_of_folder name dir) IsSame old new
    result
folder_then name dir text old mid new result a b = gathers_then (read name) (plan_behind_text name dir) IsSame old mid
    new text result a b
