-- Instructions stand one behind the other.
use Rattle.std.proofs.Common.{◌≡◌, ℕ, zero, suc, ◌+◌, ◌-◌, ◌<◌, ◌≤◌, ◌==◌, Bool, true, false, List, [], ◌∷◌, take, drop}
use Rattle.std.proofs.Common.{map, refl, sym, ap, ◌∙◌, subst, arith, Option, Some, None, Result, Ok, Err, slice_get}
use Rattle.std.proofs.Common.{get_or, length}
use Rattle.std.specs.Prelude.{if◌then◌else◌}
use Rattle.cjc_bytes.proofs.Gets.{item_there, slice_get_at}
use Rattle.cjc_capread.specs.Decode.{Instruction, decode, size, size_by}
use Rattle.cjc_capread.specs.MethodHeader.{MethodHeader, method_header}
use Rattle.cjc_capread.specs.Opcodes.{Form, form}
use Rattle.cjc_capread.specs.declared.tree.MethodDescriptor.{MethodDescriptor}
use Rattle.cjc_methods.specs.LowerCheck.Codes.Bodies.{code_of, placed_of}
use Rattle.cjc_methods.specs.LowerCheck.declared.codes.code.Body.{Body}
use Rattle.cjc_check_rules.specs.Codes.{Code, all_codes, codes, codes_from, cut, instructions, onto, with_code}
use Rattle.cjc_check_rules.specs.Codes.{with_header, with_instruction}
use Rattle.cjc_check_rules.specs.Complete.{Complete}
use Rattle.cjc_check_rules.specs.Spots.{Placed}
use Rattle.cjc_verify.specs.Working.Codes.{AllAscend, Ascend, ats}

-- ---- instructions

-- numbers from one on, each above the one before
abbrev Rises : (from : ℕ) → List ℕ → Type 0
Rises from [] = Unit {0}
Rises from (x ∷ xs) = (from ≤ x) × Rises (x + 1) xs

from_on : (from : ℕ) (xs : List ℕ) (k x : ℕ) → Rises from xs → slice_get xs k ≡ Some x → from ≤ x
from_on from [] k x h is = absurd cc
from_on from (y ∷ xs) zero x h is = let le = h.0 in let same : y ≡ x = cc in omega (arith, le, same)
from_on from (y ∷ xs) (suc k) x h is = let le = h.0 in let more = from_on (y + 1) xs k x h.1 is in omega (
  arith,
  le,
  more,
)

in_turn : (from : ℕ) (xs : List ℕ) (i j x y : ℕ) → Rises from xs → slice_get xs i ≡ Some x → slice_get xs j ≡ Some y
    → i < j → x < y
in_turn from [] i j x y h is_x is_y lt = absurd cc
in_turn from (z ∷ xs) zero zero x y h is_x is_y lt = absurd (omega (arith, lt))
in_turn from (z ∷ xs) zero (suc j) x y h is_x is_y lt =
    let same : z ≡ x = cc in
    let more = from_on (z + 1) xs j y h.1 is_y in
    omega (arith, more, same)
in_turn from (z ∷ xs) (suc i) zero x y h is_x is_y lt = absurd (omega (arith, lt))
in_turn from (z ∷ xs) (suc i) (suc j) x y h is_x is_y lt = in_turn (z + 1) xs i j x y h.1 is_x is_y (omega (arith, lt))

ascending : (from : ℕ) (xs : List ℕ) → Rises from xs → Ascend xs
ascending from xs h = λ i j x y is_x is_y lt. in_turn from xs i j x y h is_x is_y lt

lower : (from to : ℕ) (xs : List ℕ) → from ≤ to → Rises to xs → Rises from xs
lower from to [] le h = tt
lower from to (x ∷ xs) le h = let a = h.0 in (omega (arith, le, a), h.1)

sized : (i : Instruction) → 1 ≤ size i
sized i = by (form i.opcode)
  where
    by : (o : Option Form) → 1 ≤ size_by o i
    by None = omega arith
    by (Some f) = omega arith

rising : (n count at : ℕ) (bs : List ℕ) (is : List (Placed Instruction)) → instructions n count at bs ≡ Ok is
    → Rises at (ats is)
unfolding instructions
rising zero count at bs is e = let none : [] ≡ is = cc
    in subst (λ (ps : List (Placed Instruction)). Rises at (ats ps)) none tt
rising (suc n) zero at bs is e = let none : [] ≡ is = cc
    in subst (λ (ps : List (Placed Instruction)). Rises at (ats ps)) none tt
rising (suc n) (suc count) at bs is e = found (decode (take (suc count) bs)) e
    (λ i ps g. rising n (suc count - size i) (at + size i) (drop (size i) bs) ps g)
  where
    go : Instruction → Result (List (Placed Instruction)) ℕ
    go i = instructions n (suc count - size i) (at + size i) (drop (size i) bs)

    onwards : (i : Instruction) (r : Result (List (Placed Instruction)) ℕ) → go i ≡ r
        → onto (record { at = at; item = i }) r ≡ Ok is
        → ((ps : List (Placed Instruction)) → go i ≡ Ok ps → Rises (at + size i) (ats ps)) → Rises at (ats is)
    onwards i (Ok ps) g f next =
        let one : record { at = at; item = i } ∷ ps ≡ is = cc in
        let some = sized i in
        subst (λ (qs : List (Placed Instruction)). Rises at (ats qs)) one (
          omega arith,
          lower (at + 1) (at + size i) (ats ps) (omega (arith, some)) (next ps g),
        )
    onwards i (Err k) g f next = absurd cc

    found : (o : Option Instruction) → with_instruction at o go ≡ Ok is
        → ((i : Instruction) (ps : List (Placed Instruction)) → go i ≡ Ok ps → Rises (at + size i) (ats ps))
        → Rises at (ats is)
    found None f next = absurd cc
    found (Some i) f next = onwards i (go i) refl f (next i)

-- ---- codes

none_rise : AllAscend []
none_rise k code is = absurd cc

one_more : (code : Code) (codes : List Code) → Ascend (ats code.instructions) → AllAscend codes
    → AllAscend (code ∷ codes)
one_more code codes one all zero c is = let same : code ≡ c = cc in subst (λ (x : Code). Ascend
    (ats x.instructions)) same one
one_more code codes one all (suc k) c is = all k c is

after_code : (h : MethodHeader) (first count : ℕ) (r : Result (List (Placed Instruction)) ℕ)
    (go : Result (List Code) ℕ) (cs : List Code)
    → ((is : List (Placed Instruction)) → r ≡ Ok is → Rises first (ats is))
    → ((rest : List Code) → go ≡ Ok rest → AllAscend rest) → with_code h first count r go ≡ Ok cs → AllAscend cs
after_code h first count (Err at) go cs rise next e = absurd cc
after_code h first count (Ok is) (Err at) cs rise next e = absurd cc
after_code h first count (Ok is) (Ok rest) cs rise next e =
    let code : Code = record {
      is_abstract = h.is_abstract;
      first = first;
      end = first + count;
      instructions = is;
    } in
    let same : code ∷ rest ≡ cs = cc in
    subst AllAscend same (one_more code rest (ascending first (ats is) (rise is refl)) (next rest refl))

after_header : (at : ℕ) (m : MethodDescriptor) (bytes : List ℕ) (o : Option MethodHeader)
    (go : ℕ → List ℕ → Result (List Code) ℕ) (cs : List Code)
    → ((next : ℕ) (rest : List ℕ) (more : List Code) → go next rest ≡ Ok more → AllAscend more)
    → with_header at m bytes o go ≡ Ok cs → AllAscend cs
after_header at m bytes None go cs next e = absurd cc
after_header at m bytes (Some h) go cs next e =
    after_code h (at + h.size) m.bytecode_count
    (instructions m.bytecode_count m.bytecode_count (at + h.size) (drop h.size bytes))
    (go (at + h.size + m.bytecode_count) (drop (h.size + m.bytecode_count) bytes)) cs
    (λ is g. rising m.bytecode_count m.bytecode_count (at + h.size) (drop h.size bytes) is g)
    (λ rest g. next (at + h.size + m.bytecode_count) (drop (h.size + m.bytecode_count) bytes) rest g) e

in_codes : (at : ℕ) (ms : List MethodDescriptor) (bytes : List ℕ) (cs : List Code) → codes_from at ms bytes ≡ Ok cs
    → AllAscend cs
unfolding codes_from
in_codes at [] [] cs e = let none : [] ≡ cs = cc in subst AllAscend none none_rise
in_codes at [] (b ∷ bytes) cs e = absurd cc
in_codes at (m ∷ ms) bytes cs e = by (m.offset == at) (λ next rest more g. in_codes next ms rest more g) e
  where
    by : (b : Bool) → ((next : ℕ) (rest : List ℕ) (more : List Code) → codes_from next ms rest ≡ Ok more
        → AllAscend more)
        → (if b then with_header at m bytes (method_header bytes) (λ next rest. codes_from next ms rest) else Err at)
        ≡ Ok cs → AllAscend cs
    by true later f = after_header at m bytes (method_header bytes) (λ next rest. codes_from next ms rest) cs later f
    by false later f = absurd cc

where_cut : (r : Result (List Code) ℕ) → ((cs : List Code) → r ≡ Ok cs → AllAscend cs) → AllAscend (all_codes r)
where_cut (Ok cs) h = h cs refl
where_cut (Err at) h = none_rise

-- the instructions of all methods of components rise
pub all_rise : (c : Complete) → AllAscend (codes c)
all_rise c = where_cut (cut c) (λ cs e. in_codes _ _ _ cs e)

-- ---- one of several

pub ascends_at : (codes : List Body) (i : ℕ) (code : Body) → i < length codes → code ≡ get_or codes i code
    → AllAscend (map code_of codes) → Ascend (ats (map placed_of code.insns))
ascends_at codes i code lt is all = all i (code_of code) (item_there code_of codes i code (slice_get_at codes i code lt
    is))
