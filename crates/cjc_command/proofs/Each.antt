-- Reading one name after another.
use Rattle.std.proofs.Common.{◌≡◌, ℕ, ◌+◌, ◌<◌, List, [], ◌∷◌, ◌++◌, ◌≤◌, length, drop, get_or, Result, Ok, Err, sym, subst, refl, add-one}
use Rattle.std.proofs.lemmas.List.Elements.{All-nil, All-cons, All-append}
use Rattle.std.proofs.Math.Seq.{drop-cons}
use Rattle.cjc_shelf.specs.Shelf.{Shelved}
use Rattle.cjc_command.specs.declared.status.Status.{Status}
use Rattle.cjc_command.specs.Plan.{read, read_onto, read_each}
use Rattle.cjc_command.specs.Gather.{Gathers, IsSame, AreShort}
use Rattle.cjc_shelf.specs.declared.shelf.TheConstants.{LONGEST}
use Rattle.cjc_command.proofs.Gathering.{gathers_then, gathers_end}

-- whatever is gathered of the names that are left is gathered of all
abbrev pub GoesBack : List (List ℕ) → List (List ℕ) → List (List ℕ) → Shelved → Shelved → Type 0
GoesBack names front left old now =
    (new : Shelved) (result : Result (List (List ℕ)) Status) → Gathers (read_onto front left) IsSame now new result → Gathers (read_each names) IsSame old new result

pub next_name : (names : List (List ℕ)) (i : ℕ) (name : List ℕ) → i < length names → name ≡ get_or names i name → drop i names ≡ name ∷ drop (i + 1) names
next_name names i name lt is = rw (add-one, drop-cons names i name lt, ← is) refl

pub back_end : (names front left rest : List (List ℕ)) (name : List ℕ) (old now new : Shelved) (end : Status) → GoesBack names front left old now → left ≡ name ∷ rest
    → Gathers (read name) IsSame now new (Err end) → Gathers {T = List (List ℕ)} (read_each names) IsSame old new (Err end)
back_end names front left rest name old now new end back is a =
    back new (Err end) (subst (λ (l : List (List ℕ)). Gathers {T = List (List ℕ)} (read_onto front l) IsSame now new (Err end)) (sym is)
    (gathers_end (read name) (λ bytes. read_onto (front ++ bytes ∷ []) rest) IsSame now new end a))

pub back_next : (names front left rest : List (List ℕ)) (name bytes : List ℕ) (old now mid : Shelved) → GoesBack names front left old now → left ≡ name ∷ rest
    → Gathers (read name) IsSame now mid (Ok bytes) → GoesBack names (front ++ bytes ∷ []) rest old mid
back_next names front left rest name bytes old now mid back is a new result b =
    back new result (subst (λ (l : List (List ℕ)). Gathers (read_onto front l) IsSame now new result) (sym is)
    (gathers_then (read name) (λ bytes. read_onto (front ++ bytes ∷ []) rest) IsSame now mid new bytes result a b))

-- one more file that is not too long
pub short_more : (files : List (List ℕ)) (bytes : List ℕ) → AreShort files → length bytes ≤ LONGEST → AreShort (files ++ bytes ∷ [])
short_more files bytes so_far one =
    let P = λ (b : List ℕ). length b ≤ LONGEST in
    All-append P files (bytes ∷ []) so_far (All-cons P bytes [] one (All-nil P))
