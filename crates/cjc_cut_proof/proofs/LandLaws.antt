-- Jumps and handlers of codes that are consistent lead to instructions of the same code.
use Rattle.std.proofs.Common.{◌≡◌, ◌⊎◌, ℕ, zero, suc, ◌+◌, ◌≤◌, ◌<◌, ◌==◌, refl, sym, ap, subst, ◌∙◌, arith, Bool}
use Rattle.std.proofs.Common.{true, false, inl, inr, ⊎_elim, List, [], ◌∷◌, map, slice_get, Option, Some, None, ℤ, pos}
use Rattle.std.proofs.Common.{negsuc}
use Rattle.std.specs.Prelude.{◌+ℤ◌, ◌&&◌, ◌||◌, Contains, not}
use Rattle.std.specs.List.{find, list_all, list_any}
use Rattle.std.specs.Ordering.{int_eq}
use Rattle.std.proofs.lemmas.Bool.Decides.{Decides-int_eq}
use Rattle.std.proofs.lemmas.Int.{ints}
use Rattle.cjc_check_rules.specs.CapRead.declared.tree.Handler.{Handler}
use Rattle.cjc_check_rules.specs.CapRead.Decode.{Instruction}
use Rattle.cjc_check_rules.specs.declared.spot.ComponentPlace.{ComponentPlace}
use Rattle.cjc_check_rules.specs.Spots.{Placed, along, begins, in_info, unless}
use Rattle.cjc_check_rules.specs.Complete.{Complete}
use Rattle.cjc_check_rules.specs.Codes.{Code, codes}
use Rattle.cjc_check_rules.specs.Instructions.{code_spots, ends_code, has_start, in_code, jump_spots, jumps_land}
use Rattle.cjc_check_rules.specs.Instructions.{lands, is_empty}
use Rattle.cjc_check_rules.specs.Handlers.{handler_spots, handler_stands, is_classref, targets_from}
use Rattle.cjc_check_rules.specs.Handlers as handlers
use Rattle.cjc_card_semantics.specs.Machine.Operations.{moved}
use Rattle.cjc_check_rules.proofs.BytesLists.{none_left, none_right}
use Rattle.cjc_check_rules.proofs.BytesGets.{contains_at, find_got, none_each}
use Rattle.cjc_check_rules.proofs.BytesNumbers.{number_same, number_same_number}
use Rattle.cjc_check_rules.proofs.BytesPlain.{same_some}
use Rattle.cjc_cut_proof.specs.Cuts.{EndBehind, Jumps, Leads, StandApart}

-- ---- tests

holds : (b : Bool) (s : ComponentPlace) → unless b s ≡ [] → b ≡ true
holds true s e = refl
holds false s e = cc

both : (a b : Bool) → (a && b) ≡ true → (a ≡ true) × (b ≡ true)
both true b e = (refl, e)
both false b e = absurd cc

-- ---- jumps

moves : (a at : ℕ) (by : ℤ) → int_eq (pos a) (pos at +ℤ by) ≡ true → a ≡ moved at by
moves a at (pos n) e = let same = (Decides-int_eq (pos a) (pos at +ℤ pos n)).0 e in omega (arith, ints, same)
moves a at (negsuc n) e = let same = (Decides-int_eq (pos a) (pos at +ℤ negsuc n)).0 e in omega (arith, ints, same)

land_among : (is : List (Placed Instruction)) (at : ℕ) (by : ℤ) → list_any (λ j. int_eq (pos j.at) (pos at +ℤ by)) is
    ≡ true → begins is (moved at by) ≡ true
land_among [] at by e = e
land_among (i ∷ is) at by e = go (int_eq (pos i.at) (pos at +ℤ by)) refl e (land_among is at by)
  where
    after : (b : Bool) → (b || true) ≡ true
    after true = refl
    after false = refl

    go : (b : Bool) → int_eq (pos i.at) (pos at +ℤ by) ≡ b
        → (b || list_any (λ j. int_eq (pos j.at) (pos at +ℤ by)) is) ≡ true
        → (list_any (λ j. int_eq (pos j.at) (pos at +ℤ by)) is ≡ true → begins is (moved at by) ≡ true)
        → begins (i ∷ is) (moved at by) ≡ true
    go true h f more = ap (λ t. t || begins is (moved at by)) (number_same_number i.at (moved at by)
        (moves i.at at by h))
    go false h f more = ap (λ t. (i.at == moved at by) || t) (more f) ∙ after (i.at == moved at by)

-- each far that an instruction jumps leads to an instruction
pub jump_lands : (code : Code) (at : ℕ) (bys : List ℤ) → list_all (lands code at) bys ≡ true → (to : ℕ)
    → Contains (map (moved at) bys) to → has_start code to ≡ true
jump_lands code at [] e to h = let r = contains_at [] to h in absurd (let f = r.1 in cc)
jump_lands code at (by ∷ bys) e to h =
    let b = both (lands code at by) (list_all (lands code at) bys) e in
    let r = contains_at (map (moved at) (by ∷ bys)) to h in
    go b.0 b.1 r.0 r.1
  where
    later : (xs : List ℤ) → list_all (lands code at) xs ≡ true → (k : ℕ) → slice_get (map (moved at) xs) k ≡ Some to
        → has_start code to ≡ true
    later [] all k f = absurd cc
    later (x ∷ xs) all zero f = let b = both (lands code at x) (list_all (lands code at) xs) all
        in ap (has_start code) (sym (same_some f)) ∙ land_among code.instructions at x b.0
    later (x ∷ xs) all (suc k) f = let b = both (lands code at x) (list_all (lands code at) xs) all in later xs b.1 k f

    go : lands code at by ≡ true → list_all (lands code at) bys ≡ true → (k : ℕ)
        → slice_get (map (moved at) (by ∷ bys)) k ≡ Some to → has_start code to ≡ true
    go one all zero f = ap (has_start code) (sym (same_some f)) ∙ land_among code.instructions at by one
    go one all (suc k) f = later bys all k f

pub jumps_at : (code : Code) (is : List (Placed Instruction)) → in_code code is ≡ [] → (k : ℕ) (i : Placed Instruction)
    → slice_get is k ≡ Some i → Jumps code is k i
unfolding in_code
jumps_at code [] e k i f = absurd cc
jumps_at code (p ∷ []) e zero i f =
    let b = both (jumps_land code p) (ends_code (let x = p.item in x.opcode)) (holds (jumps_land code p
    && ends_code (let x = p.item in x.opcode)) (in_info 7 p.at) e) in
    subst (Jumps code (p ∷ []) 0) (same_some f) (record { land = b.0; last = λ none. b.1 })
jumps_at code (p ∷ []) e (suc k) i f = absurd cc
jumps_at code (p ∷ q ∷ ps) e zero i f =
    let b = holds (jumps_land code p) (in_info 7 p.at) (none_left (unless (jumps_land code p) (in_info 7 p.at))
    (in_code code (q ∷ ps)) e) in
    subst (Jumps code (p ∷ q ∷ ps) 0) (same_some f) (record { land = b; last = λ none. absurd cc })
jumps_at code (p ∷ q ∷ ps) e (suc k) i f =
    let r = jumps_at code (q ∷ ps) (none_right (unless (jumps_land code p) (in_info 7 p.at)) (in_code code (q ∷ ps)) e)
    k i f in
    record { land = r.land; last = r.last }

-- the codes of all methods
pub code_jumps : (c : Complete) → jump_spots c ≡ [] → (k : ℕ) (code : Code) → slice_get (codes c) k ≡ Some code
    → in_code code code.instructions ≡ []
code_jumps c e k code f =
    let spots = none_each code_spots (codes c) k code e f in
    none_right (unless (code.is_abstract || not (is_empty code.instructions)) (in_info 7 code.first))
    (in_code code code.instructions) spots

-- a method that is not abstract has an instruction
pub code_begins : (c : Complete) → jump_spots c ≡ [] → (k : ℕ) (code : Code) → slice_get (codes c) k ≡ Some code
    → code.is_abstract ≡ false → (i : Placed Instruction) × (slice_get code.instructions 0 ≡ Some i)
code_begins c e k code f g =
    let spots = none_each code_spots (codes c) k code e f in
    let some = holds (code.is_abstract || not (is_empty code.instructions)) (in_info 7 code.first)
    (none_left (unless (code.is_abstract || not (is_empty code.instructions)) (in_info 7 code.first))
    (in_code code code.instructions) spots) in
    by code.instructions (sym (ap (λ b. b || not (is_empty code.instructions)) g) ∙ some)
  where
    by : (is : List (Placed Instruction)) → (false || not (is_empty is)) ≡ true
        → (i : Placed Instruction) × (slice_get is 0 ≡ Some i)
    by [] h = absurd cc
    by (i ∷ is) h = (i, refl)

-- ---- handlers

either : (a b : Bool) → (a || b) ≡ true → (a ≡ true) ⊎ (b ≡ true)
either true b e = inl refl
either false b e = inr e

leads_by : (all : List Code) (at : ℕ) (h : Handler) (o : Option Code) → find (λ code. has_start code h.start) all ≡ o
    → handlers.in_code at h o ≡ [] → Leads all h
leads_by all at h None f e = absurd cc
leads_by all at h (Some code) f e =
    let r = find_got (λ c. has_start c h.start) all code f in
    let range = unless (has_start code (h.start + h.length) || h.start + h.length == code.end) (in_info 7 (at + 2)) in
    let target = unless (has_start code h.handler) (in_info 7 (at + 4)) in
    record {
      code = code;
      place = r.0;
      among = r.1;
      starts = r.2;
      ends = ⊎_elim (λ t. inl t) (λ t. inr (number_same (h.start + h.length) code.end t))
          (either (has_start code (h.start + h.length)) (h.start + h.length == code.end) (holds
          (has_start code (h.start + h.length) || h.start + h.length == code.end) (in_info 7 (at + 2)) (none_left range
          target e)));
      target = holds (has_start code h.handler) (in_info 7 (at + 4)) (none_right range target e);
    }

along_none : {A : Type 0} (size : A → ℕ) (broken : ℕ → A → List ComponentPlace) (at : ℕ) (xs : List A)
    → along size broken at xs ≡ [] → (k : ℕ) (x : A) → slice_get xs k ≡ Some x → (place : ℕ) × (broken place x ≡ [])
unfolding along
along_none {A} size broken at [] e k x f = absurd cc
along_none {A} size broken at (y ∷ xs) e zero x f = (
  at,
  ap (broken at) (sym (same_some f)) ∙ none_left (broken at y) (along size broken (at + size y) xs) e,
)
along_none {A} size broken at (y ∷ xs) e (suc k) x f = along_none size broken (at + size y) xs (none_right (broken at y)
    (along size broken (at + size y) xs) e) k x f

-- each handler leads to an instruction of the code that it covers, and its catch index is 0 or that of a class
pub handler_leads : (c : Complete) → handler_spots c ≡ [] → (k : ℕ) (h : Handler) → slice_get (let m = c.method
    in m.handlers) k ≡ Some h → Leads (codes c) h
handler_leads c e k h f =
    let m = c.method in
    let s = along_none (λ (x : Handler). 8) (handler_stands c) 1 m.handlers (none_right (targets_from 0 1 m.handlers)
    (along (λ (x : Handler). 8) (handler_stands c) 1 m.handlers) e) k h f in
    let p = c.pool in
    leads_by (codes c) s.0 h (find (λ code. has_start code h.start) (codes c)) refl
    (none_left (handlers.in_code s.0 h (find (λ code. has_start code h.start) (codes c)))
    (unless (h.catch_index == 0 || is_classref (slice_get p.entries h.catch_index)) (in_info 7 (s.0 + 6))) s.1)

-- a handler that covers an instruction leads to one of the same code
pub covered_lands : (all : List Code) → StandApart all → EndBehind all → (h : Handler) → Leads all h → (k : ℕ)
    (code : Code)
    → slice_get all k ≡ Some code → (at : ℕ) → has_start code at ≡ true → h.start ≤ at → at < h.start + h.length
    → has_start code h.handler ≡ true
covered_lands all apart ends h l k code f at starts low high =
    let range : h.start + h.length ≤ (let c = l.code in c.end) = ⊎_elim (λ t. let lt = ends l.place l.code l.among
    (h.start + h.length) t in omega (arith, lt)) (λ t. omega (arith, t)) l.ends in
    let same = apart l.place k l.code code l.among f h.start at l.starts starts low (omega (arith, high, range)) in
    subst (λ c. has_start c h.handler ≡ true) same l.target

-- the jumps of each instruction of each code
pub all_jumps : (c : Complete) → jump_spots c ≡ [] → (k : ℕ) (code : Code) → slice_get (codes c) k ≡ Some code → (j : ℕ)
    (i : Placed Instruction) → slice_get code.instructions j ≡ Some i → Jumps code code.instructions j i
all_jumps c clean k code e j i f = jumps_at code code.instructions (code_jumps c clean k code e) j i f
