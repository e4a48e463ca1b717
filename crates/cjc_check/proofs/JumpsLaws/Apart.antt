-- Methods that are cut stand one behind the other, so the one of an offset is found by where each ends.
use Rattle.std.proofs.Common.{◌≡◌, ℕ, zero, suc, ◌+◌, ◌-◌, ◌<◌, ◌≤◌, ◌==◌, Bool, true, false, List, [], ◌∷◌, length}
use Rattle.std.proofs.Common.{get_or, take, drop, map, refl, sym, ap, subst, ◌∙◌, arith, Option, Some, None, Result, Ok}
use Rattle.std.proofs.Common.{Err}
use Rattle.std.specs.Prelude.{nat_le, if◌then◌else◌, slice_get}
use Rattle.std.specs.List.{list_any, find, prefix_len}
use Rattle.std.specs.List.Sorted.{IsNonDecreasingBy}
use Rattle.std.proofs.lemmas.Bool.Decides.{nat_tests}
use Rattle.std.proofs.lemmas.Option.{slice_get_past, slice_get_read}
use Rattle.cjc_capread.specs.Decode.{Instruction, decode, size}
use Rattle.cjc_capread.specs.MethodHeader.{MethodHeader, method_header}
use Rattle.cjc_capread.specs.declared.tree.MethodDescriptor.{MethodDescriptor}
use Rattle.cjc_check.specs.declared.codes.code.Body.{Body}
use Rattle.cjc_check.specs.Codes.Bodies.{code_of}
use Rattle.cjc_check_rules.specs.Spots.{Placed}
use Rattle.cjc_check_rules.specs.Complete.{Complete}
use Rattle.cjc_check_rules.specs.Codes.{Code, all_codes, codes, codes_from, cut, instructions, methods_begin, onto}
use Rattle.cjc_check_rules.specs.Codes.{with_code, with_header, with_instruction}
use Rattle.cjc_check_rules.specs.Instructions.{has_start}
use Rattle.cjc_check_rules.specs.Members.{class_methods}
use Rattle.cjc_check.specs.Jumps.Standing.{AreApart}
use Rattle.cjc_capread.proofs.BytesBools.{bool_either, split_or}

-- ---- instructions

-- an instruction begins at an offset
abbrev begins_at : List (Placed Instruction) → ℕ → Bool
begins_at is offset = list_any (λ p. p.at == offset) is

-- instructions begin within so many bytes
abbrev AreWithin : (from count : ℕ) → List (Placed Instruction) → Type 0
AreWithin from count is = (offset : ℕ) → begins_at is offset ≡ true → (from ≤ offset) × (offset < from + count)

one_more : (at count bytes : ℕ) (i : Instruction) (is : List (Placed Instruction)) → 0 < count
    → AreWithin (at + bytes) (count - bytes) is → AreWithin at count (record { at = at; item = i } ∷ is)
one_more at count bytes i is some all offset e =
    split_or (at == offset) (begins_at is offset) e
    (λ h. let same : at ≡ offset = grind (arith, nat_tests) in (omega (arith, same), omega (arith, same, some)))
    (λ h. let low = all offset h in let a = low.0 in let b = low.1 in (omega (arith, a), omega (arith, a, b)))

none_within : (from count : ℕ) (is : List (Placed Instruction)) → [] ≡ is → AreWithin from count is
none_within from count is e = subst (λ (ps : List (Placed Instruction)). AreWithin from count ps) e
    (λ offset h. absurd cc)

pub cut_within : (n count at : ℕ) (bytes : List ℕ) (is : List (Placed Instruction)) → instructions n count at bytes
    ≡ Ok is → AreWithin at count is
unfolding instructions
cut_within zero count at bytes is e = none_within at count is cc
cut_within (suc n) zero at bytes is e = none_within at 0 is cc
cut_within (suc n) (suc count) at bytes is e = found (decode (take (suc count) bytes)) e (λ i ps g. cut_within n
    (suc count - size i) (at + size i) (drop (size i) bytes) ps g)
  where
    go : Instruction → Result (List (Placed Instruction)) ℕ
    go i = instructions n (suc count - size i) (at + size i) (drop (size i) bytes)

    onwards : (i : Instruction) (r : Result (List (Placed Instruction)) ℕ) → go i ≡ r
        → onto (record { at = at; item = i }) r ≡ Ok is
        → ((ps : List (Placed Instruction)) → go i ≡ Ok ps → AreWithin (at + size i) (suc count - size i) ps)
        → AreWithin at (suc count) is
    onwards i (Ok ps) g f next =
        let one : record { at = at; item = i } ∷ ps ≡ is = cc in
        subst (λ (qs : List (Placed Instruction)). AreWithin at (suc count) qs) one (one_more at (suc count) (size i) i
        ps (omega arith) (next ps g))
    onwards i (Err k) g f next = absurd cc

    found : (o : Option Instruction) → with_instruction at o go ≡ Ok is
        → ((i : Instruction) (ps : List (Placed Instruction)) → go i ≡ Ok ps
        → AreWithin (at + size i) (suc count - size i) ps) → AreWithin at (suc count) is
    found None f next = absurd cc
    found (Some i) f next = onwards i (go i) refl f (next i)

-- ---- methods

apart_lower : (from to : ℕ) (cs : List Code) → from ≤ to → AreApart to cs → AreApart from cs
apart_lower from to [] le h = tt
apart_lower from to (c ∷ cs) le h =
    let b = h.1 in
    (λ offset e. let w = h.0 offset e in let low = w.0 in (omega (arith, le, low), w.1), omega (arith, le, b), h.2)

-- a method in front of others
code_apart : (from first count : ℕ) (h : MethodHeader) (r : Result (List (Placed Instruction)) ℕ)
    (go : Result (List Code) ℕ) (cs : List Code) → from ≤ first
    → ((is : List (Placed Instruction)) → r ≡ Ok is → AreWithin first count is) → ((rest : List Code) → go ≡ Ok rest
    → AreApart (first + count) rest)
    → with_code h first count r go ≡ Ok cs → AreApart from cs
code_apart from first count h (Err k) go cs le within next e = absurd cc
code_apart from first count h (Ok is) (Err k) cs le within next e = absurd cc
code_apart from first count h (Ok is) (Ok rest) cs le within next e =
    let one : record { is_abstract = h.is_abstract; first = first; end = first + count; instructions = is } ∷ rest
    ≡ cs = cc in
    subst (λ (xs : List Code). AreApart from xs) one (
      λ offset s. let w = within is refl offset s in let low = w.0 in (omega (arith, le, low), w.1),
      omega (arith, le),
      next rest refl,
    )

header_apart : (at : ℕ) (m : MethodDescriptor) (bytes : List ℕ) (o : Option MethodHeader) (go : ℕ → List ℕ
    → Result (List Code) ℕ) (cs : List Code)
    → ((next : ℕ) (bs : List ℕ) (rest : List Code) → go next bs ≡ Ok rest → AreApart next rest)
    → with_header at m bytes o go ≡ Ok cs → AreApart at cs
header_apart at m bytes None go cs next e = absurd cc
header_apart at m bytes (Some h) go cs next e =
    let count = m.bytecode_count in
    code_apart at (at + h.size) count h (instructions count count (at + h.size) (drop h.size bytes))
    (go (at + h.size + count) (drop (h.size + count) bytes)) cs (omega arith)
    (λ is f. cut_within count count (at + h.size) (drop h.size bytes) is f)
    (λ rest f. next (at + h.size + count) (drop (h.size + count) bytes) rest f) e

stands_apart : (at : ℕ) (t : Bool) (m : MethodDescriptor) (bytes : List ℕ) (go : ℕ → List ℕ
    → Result (List Code) ℕ) (cs : List Code)
    → ((next : ℕ) (bs : List ℕ) (rest : List Code) → go next bs ≡ Ok rest → AreApart next rest)
    → (if t then with_header at m bytes (method_header bytes) go else Err at) ≡ Ok cs → AreApart at cs
stands_apart at true m bytes go cs next e = header_apart at m bytes (method_header bytes) go cs next e
stands_apart at false m bytes go cs next e = absurd cc

pub from_apart : (at : ℕ) (ms : List MethodDescriptor) (bytes : List ℕ) (cs : List Code) → codes_from at ms bytes
    ≡ Ok cs → AreApart at cs
unfolding codes_from
from_apart at [] [] cs e = let none : [] ≡ cs = cc in subst (λ (xs : List Code). AreApart at xs) none tt
from_apart at [] (b ∷ bytes) cs e = absurd cc
from_apart at (m ∷ ms) bytes cs e = stands_apart at (m.offset == at) m bytes (λ next rest. codes_from next ms rest) cs
    (λ next bs rest f. from_apart next ms bs rest f) e

all_apart : (r : Result (List Code) ℕ) (at : ℕ) → ((cs : List Code) → r ≡ Ok cs → AreApart at cs)
    → AreApart 0 (all_codes r)
all_apart (Err k) at f = tt
all_apart (Ok cs) at f = apart_lower 0 at cs (omega arith) (f cs refl)

-- the codes of all methods
pub codes_apart : (c : Complete) → AreApart 0 (codes c)
codes_apart c = all_apart (cut c) (methods_begin c) (λ cs e. from_apart (methods_begin c) (class_methods c)
    c.method.methods cs e)

-- ---- the method of an offset

ends_above : (from : ℕ) (bs : List Body) (k : ℕ) (d : Body) → AreApart from (map code_of bs) → k < length bs
    → from ≤ (get_or bs k d).end
ends_above from [] k d h lt = absurd (omega (arith, lt))
ends_above from (b ∷ bs) zero d h lt = h.1
ends_above from (b ∷ bs) (suc k) d h lt = let low = h.1 in let high = ends_above b.end bs k d h.2 (omega (arith, lt))
    in omega (arith, low, high)

pub ends_rise : (from : ℕ) (bs : List Body) → AreApart from (map code_of bs) → IsNonDecreasingBy (λ b. b.end) bs
ends_rise from [] h i j d le lt = absurd (omega (arith, lt))
ends_rise from (b ∷ bs) h zero zero d le lt = omega arith
ends_rise from (b ∷ bs) h zero (suc j) d le lt = ends_above b.end bs j d h.2 (omega (arith, lt))
ends_rise from (b ∷ bs) h (suc i) zero d le lt = absurd (omega (arith, le))
ends_rise from (b ∷ bs) h (suc i) (suc j) d le lt = ends_rise b.end bs h.2 i j d (omega (arith, le)) (omega (arith, lt))

not_start : (code : Code) (offset : ℕ) → (has_start code offset ≡ true → ⊥) → has_start code offset ≡ false
not_start code offset f = bool_either (has_start code offset) (λ t. absurd (f t)) (λ t. t)

-- what begins the method, if it is there
abbrev pub if_start : (offset : ℕ) → Option Body → Option Code
if_start offset None = None
if_start offset (Some b) = if has_start (code_of b) offset then Some (code_of b) else None

none_before : (from offset : ℕ) (bs : List Body) → AreApart from (map code_of bs) → offset < from
    → find (λ code. has_start code offset) (map code_of bs) ≡ None
none_before from offset [] h lt = refl
none_before from offset (b ∷ bs) h lt =
    let low = h.1 in
    let fails : has_start (code_of b) offset ≡ false = not_start (code_of b) offset (λ s. let w = h.0 offset s
    in let a = w.0 in omega (arith, a, lt)) in
    rw fails (none_before b.end offset bs h.2 (omega (arith, low, lt)))

ends_before : (b : Body) (bs : List Body) (offset : ℕ) → nat_le b.end offset ≡ true → has_start (code_of b) offset
    ≡ false
    → find (λ code. has_start code offset) (map code_of bs)
    ≡ if_start offset (slice_get bs (prefix_len (λ x. nat_le x.end offset) bs))
    → find (λ code. has_start code offset) (map code_of (b ∷ bs))
    ≡ if_start offset (slice_get (b ∷ bs) (prefix_len (λ x. nat_le x.end offset) (b ∷ bs)))
ends_before b bs offset e fails more =
    let k = prefix_len (λ x. nat_le x.end offset) bs in
    let s : 1 + k ≡ suc k = omega arith in
    rw (e, fails, s) more

ends_behind : (b : Body) (bs : List Body) (offset : ℕ) → nat_le b.end offset ≡ false
    → find (λ code. has_start code offset) (map code_of bs) ≡ None
    → find (λ code. has_start code offset) (map code_of (b ∷ bs))
    ≡ if_start offset (slice_get (b ∷ bs) (prefix_len (λ x. nat_le x.end offset) (b ∷ bs)))
ends_behind b bs offset e none = bool_either (has_start (code_of b) offset) (λ t. rw (e, t) refl) (λ t. rw (e, t) none)

pub found_by_end : (from offset : ℕ) (bs : List Body) → AreApart from (map code_of bs)
    → find (λ code. has_start code offset) (map code_of bs)
    ≡ if_start offset (slice_get bs (prefix_len (λ x. nat_le x.end offset) bs))
found_by_end from offset [] h = refl
found_by_end from offset (b ∷ bs) h =
    bool_either (nat_le b.end offset)
    (λ t. let le : b.end ≤ offset = grind (arith, nat_tests) in
    ends_before b bs offset t (not_start (code_of b) offset (λ s. let w = h.0 offset s in let a = w.1
    in omega (arith, a, le))) (found_by_end b.end offset bs h.2))
    (λ t. let lt : offset < b.end = grind (arith, nat_tests)
    in ends_behind b bs offset t (none_before b.end offset bs h.2 lt))

abbrev pub IsPlace : (offset k : ℕ) → List Body → Type 0
IsPlace offset k bs = k ≡ prefix_len (λ b. nat_le b.end offset) bs

at_place : (offset k : ℕ) (bs : List Body) (o : Option Body) → AreApart 0 (map code_of bs) → IsPlace offset k bs
    → slice_get bs k ≡ o → if_start offset o ≡ find (λ code. has_start code offset) (map code_of bs)
at_place offset k bs o h is at = ap (if_start offset) (sym at ∙ ap (slice_get bs) is) ∙ sym (found_by_end 0 offset bs h)

pub past_all : (offset k : ℕ) (bs : List Body) → AreApart 0 (map code_of bs) → IsPlace offset k bs → length bs ≤ k
    → None ≡ find (λ code. has_start code offset) (map code_of bs)
past_all offset k bs h is le = at_place offset k bs None h is (slice_get_past bs k le)

pub starts_it : (offset k : ℕ) (b : Body) (bs : List Body) → AreApart 0 (map code_of bs) → IsPlace offset k bs
    → k < length bs → b ≡ get_or bs k b → has_start (code_of b) offset ≡ true
    → Some (code_of b) ≡ find (λ code. has_start code offset) (map code_of bs)
starts_it offset k b bs h is lt same t = let one : if_start offset (Some b) ≡ Some (code_of b) = rw t refl in sym one
    ∙ at_place offset k bs (Some b) h is (slice_get_read bs (length bs) k b refl lt same)

pub starts_none : (offset k : ℕ) (b : Body) (bs : List Body) → AreApart 0 (map code_of bs) → IsPlace offset k bs
    → k < length bs → b ≡ get_or bs k b → has_start (code_of b) offset ≡ false
    → None ≡ find (λ code. has_start code offset) (map code_of bs)
starts_none offset k b bs h is lt same t = let one : if_start offset (Some b) ≡ None = rw t refl in sym one
    ∙ at_place offset k bs (Some b) h is (slice_get_read bs (length bs) k b refl lt same)
