-- A walk along the instructions of a method, and one along methods.
use Rattle.std.proofs.Common.{◌≡◌, ℕ, zero, suc, ◌+◌, ◌-◌, ◌*◌, ◌<◌, ◌≤◌, Bool, true, false, ◌==◌, List, [], ◌∷◌, ◌++◌}
use Rattle.std.proofs.Common.{length, get_or, take, drop, map, refl, sym, ap, ◌∙◌, arith, append-nil, Option, Some}
use Rattle.std.proofs.Common.{None, Result, Ok, Err}
use Rattle.std.specs.Prelude.{if◌then◌else◌, option_map, IfOk, slice_get}
use Rattle.cjc_check.specs.declared.codes.cutting.Step.TheVariants.{Whole, Ends}
use Rattle.std.proofs.lemmas.List.{map-append, take_min, drop_more, drop_all}
use Rattle.cjc_capread.specs.Decode.{Instruction, decode, size}
use Rattle.cjc_capread.specs.MethodHeader.{MethodHeader, method_header}
use Rattle.cjc_capread.specs.declared.tree.MethodDescriptor.{MethodDescriptor}
use Rattle.cjc_capread.specs.Decoder.Decoded.{instruction_of}
use Rattle.cjc_capread.specs.declared.decoder.insn.Insn.{Insn}
use Rattle.cjc_check_rules.specs.Spots.{Placed}
use Rattle.cjc_check_rules.specs.Codes.{Code, codes_from, instructions, onto, with_code, with_header, with_instruction}
use Rattle.cjc_check.specs.declared.codes.code.At.{At}
use Rattle.cjc_check.specs.declared.codes.code.Body.{Body}
use Rattle.cjc_check.specs.declared.codes.cutting.Step.{Step}
use Rattle.cjc_check.specs.Codes.Bodies.{placed_of, code_of}
use Rattle.cjc_check.specs.Codes.Working.Steps.{EndsAt, behind, followed}
use Rattle.cjc_check.proofs.CodesLaws.Kept.{behind_none, behind_more}

-- ---- instructions

step : (m left at : ℕ) (bs : List ℕ) (o : Option Instruction) → 0 < left → decode (take left bs) ≡ o
    → instructions (suc m) left at bs ≡ with_instruction at o (λ i. instructions m (left - size i) (at + size i)
    (drop (size i) bs))
unfolding instructions
step m zero at bs o some e = absurd (omega (arith, some))
step m (suc left) at bs o some e = rw e refl

less : (n left at : ℕ) (bs : List ℕ) → 0 < n → instructions n left at bs ≡ instructions (suc (n - 1)) left at bs
less n left at bs pos = let e : n ≡ suc (n - 1) = omega arith in ap (λ k. instructions k left at bs) e

pub walk_more : (n left at : ℕ) (bs : List ℕ) (done : List At) (a : At) (total : Result (List (Placed Instruction)) ℕ)
    (o : Option Insn)
    → 0 < n → 0 < left → a.at ≡ at → a.insn.size ≡ size (instruction_of a.insn)
    → option_map instruction_of o ≡ decode (take left bs) → o ≡ Some a.insn
    → behind (map placed_of done) (instructions n left at bs) ≡ total
    → behind (map placed_of (done ++ a ∷ [])) (instructions (n - 1) (left - a.insn.size) (at + a.insn.size)
    (drop a.insn.size bs)) ≡ total
walk_more n left at bs done a total o pos some here sized is found so_far =
    let i = instruction_of a.insn in
    let d : decode (take left bs) ≡ Some i = sym is ∙ ap (option_map instruction_of) found in
    let s = less n left at bs pos ∙ step (n - 1) left at bs (Some i) some d in
    let rest = instructions (n - 1) (left - a.insn.size) (at + a.insn.size) (drop a.insn.size bs) in
    let same : instructions n left at bs ≡ onto (placed_of a) rest =
    s ∙ ap (λ k. onto (record { at = at; item = i }) (instructions (n - 1) (left - k) (at + k) (drop k bs))) (sym sized)
    ∙ ap (λ k. onto (record { at = k; item = i }) rest) (sym here) in
    ap (λ front. behind front rest) (map-append placed_of done (a ∷ []))
    ∙ sym (behind_more (map placed_of done) (placed_of a) rest)
    ∙ ap (behind (map placed_of done)) (sym same) ∙ so_far

pub walk_ends : (n left at : ℕ) (bs : List ℕ) (done : List At) (total : Result (List (Placed Instruction)) ℕ)
    (o : Option Insn)
    → 0 < n → 0 < left → option_map instruction_of o ≡ decode (take left bs) → o ≡ None
    → behind (map placed_of done) (instructions n left at bs) ≡ total → Err at ≡ total
walk_ends n left at bs done total o pos some is found so_far =
    let d : decode (take left bs) ≡ None = sym is ∙ ap (option_map instruction_of) found in
    ap (behind (map placed_of done)) (sym (less n left at bs pos ∙ step (n - 1) left at bs None some d)) ∙ so_far

nothing_left : (n at : ℕ) (bs : List ℕ) → instructions n 0 at bs ≡ Ok []
unfolding instructions
nothing_left zero at bs = refl
nothing_left (suc n) at bs = refl

pub walk_all : (n left at : ℕ) (bs : List ℕ) (done : List At) (total : Result (List (Placed Instruction)) ℕ) → left ≡ 0
    → behind (map placed_of done) (instructions n left at bs) ≡ total → Ok (map placed_of done) ≡ total
walk_all n left at bs done total none so_far =
    ap (λ xs. Ok xs) (sym (append-nil (map placed_of done)))
    ∙ ap (behind (map placed_of done)) (sym (ap (λ k. instructions n k at bs) none ∙ nothing_left n at bs)) ∙ so_far

-- ---- methods

pub elsewhere : (at : ℕ) (m : MethodDescriptor) (ms : List MethodDescriptor) (bs : List ℕ) → (m.offset == at) ≡ false
    → codes_from at (m ∷ ms) bs ≡ Err at
unfolding codes_from
elsewhere at m ms bs e = rw e refl

pub no_header : (at : ℕ) (m : MethodDescriptor) (ms : List MethodDescriptor) (bs : List ℕ) → (m.offset == at) ≡ true
    → method_header bs ≡ None → codes_from at (m ∷ ms) bs ≡ Err at
unfolding codes_from
no_header at m ms bs e h = rw (e, h) refl

pub with_its_header : (at : ℕ) (m : MethodDescriptor) (ms : List MethodDescriptor) (bs : List ℕ) (h : MethodHeader)
    → (m.offset == at) ≡ true → method_header bs ≡ Some h
    → codes_from at (m ∷ ms) bs ≡ with_code h (at + h.size) m.bytecode_count (instructions m.bytecode_count
    m.bytecode_count (at + h.size) (drop h.size bs)) (codes_from (at + h.size + m.bytecode_count) ms
    (drop (h.size + m.bytecode_count) bs))
unfolding codes_from
with_its_header at m ms bs h e is = rw (e, is) refl

pub both : {T E : Type 0} (r : Result T E) (P Q R : T → Type 0) → ((s : T) → P s → Q s → R s) → IfOk r P → IfOk r Q
    → IfOk r R
both (Ok s) P Q R go p q = go s p q
both (Err e) P Q R go p q = tt

pub followed_is : (s : Step) (at size count : ℕ) (ms : List MethodDescriptor) (bs : List ℕ)
    → EndsAt (at + size + count) s
    → followed s (λ b. codes_from (at + size + count) ms (drop (size + count) bs))
    ≡ followed s (λ b. codes_from b.end ms (drop (b.end - at) bs))
followed_is (Whole b) at size count ms bs e =
    let far : size + count ≡ b.end - at = omega (arith, e) in
    ap (λ k. onto (code_of b) (codes_from k ms (drop (size + count) bs))) (sym e)
    ∙ ap (λ k. onto (code_of b) (codes_from b.end ms (drop k bs))) far
followed_is (Ends k) at size count ms bs e = refl

-- a step along methods
pub cut_more : (at i : ℕ) (m : MethodDescriptor) (ms : List MethodDescriptor) (bs : List ℕ) (done : List Body)
    (b : Body) (next : Result (List Code) ℕ) (total : Result (List Code) ℕ)
    → i < length ms → m ≡ get_or ms i m
    → codes_from at (m ∷ drop (i + 1) ms) bs ≡ onto (code_of b) next
    → behind (map code_of done) (codes_from at (drop i ms) bs) ≡ total
    → behind (map code_of (done ++ b ∷ [])) next ≡ total
cut_more at i m ms bs done b next total lt is one so_far =
    let d : drop i ms ≡ m ∷ drop (i + 1) ms = drop_more ms i m lt ∙ ap (λ (y : MethodDescriptor). y ∷ drop (i + 1) ms)
    (sym is) in
    ap (λ front. behind front next) (map-append code_of done (b ∷ []))
    ∙ sym (behind_more (map code_of done) (code_of b) next)
    ∙ ap (behind (map code_of done)) (sym one)
    ∙ ap (λ xs. behind (map code_of done) (codes_from at xs bs)) (sym d) ∙ so_far

pub cut_ends : (at i k : ℕ) (m : MethodDescriptor) (ms : List MethodDescriptor) (bs : List ℕ) (done : List Body)
    (total : Result (List Code) ℕ)
    → i < length ms → m ≡ get_or ms i m → codes_from at (m ∷ drop (i + 1) ms) bs ≡ Err k
    → behind (map code_of done) (codes_from at (drop i ms) bs) ≡ total → Err k ≡ total
cut_ends at i k m ms bs done total lt is one so_far =
    let d : drop i ms ≡ m ∷ drop (i + 1) ms = drop_more ms i m lt ∙ ap (λ (y : MethodDescriptor). y ∷ drop (i + 1) ms)
    (sym is) in
    ap (behind (map code_of done)) (sym one) ∙ ap (λ xs. behind (map code_of done) (codes_from at xs bs)) (sym d)
    ∙ so_far

pub cut_all : (at i : ℕ) (ms : List MethodDescriptor) (bs : List ℕ) (done : List Body) (total : Result (List Code) ℕ)
    → length ms ≤ i → length bs ≡ 0
    → behind (map code_of done) (codes_from at (drop i ms) bs) ≡ total → Ok (map code_of done) ≡ total
unfolding codes_from
cut_all at i ms [] done total le none so_far =
    ap (λ xs. Ok xs) (sym (append-nil (map code_of done)))
    ∙ ap (λ xs. behind (map code_of done) (codes_from at xs [])) (sym (drop_all i ms le)) ∙ so_far
cut_all at i ms (b ∷ bs) done total le none so_far = absurd (omega (arith, none))

left_over : (at : ℕ) (bs : List ℕ) → 0 < length bs → codes_from at [] bs ≡ Err at
unfolding codes_from
left_over at [] some = absurd (omega (arith, some))
left_over at (b ∷ bs) some = refl

pub cut_over : (at i : ℕ) (ms : List MethodDescriptor) (bs : List ℕ) (done : List Body) (total : Result (List Code) ℕ)
    → length ms ≤ i → 0 < length bs
    → behind (map code_of done) (codes_from at (drop i ms) bs) ≡ total → Err at ≡ total
cut_over at i ms bs done total le some so_far =
    ap (behind (map code_of done)) (sym (ap (λ xs. codes_from at xs bs) (drop_all i ms le) ∙ left_over at bs some))
    ∙ so_far
