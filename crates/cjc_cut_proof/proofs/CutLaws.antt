-- Methods that are cut into headers and whole instructions: where each instruction stands, and what follows it.
use Rattle.std.proofs.Common.{◌≡◌, ℕ, zero, suc, ◌+◌, ◌-◌, ◌<◌, ◌≤◌, ◌==◌, refl, sym, ap, subst, ◌∙◌, arith, Bool, true}
use Rattle.std.proofs.Common.{false}
use Rattle.std.proofs.Common.{List, [], ◌∷◌, take, drop, slice_get, Option, Some, None, Result, Ok, Err}
use Rattle.std.specs.Prelude.{if◌then◌else◌}
use Rattle.std.proofs.lemmas.List.{take-append-drop, drop-drop, length-take}
use Rattle.cjc_check_rules.specs.CapRead.declared.tree.MethodDescriptor.{MethodDescriptor}
use Rattle.cjc_check_rules.specs.CapRead.Decode.{Instruction, decode, size}
use Rattle.cjc_check_rules.specs.CapRead.MethodHeader.{MethodHeader, extended_header, is_extended, method_header}
use Rattle.cjc_check_rules.specs.CapRead.MethodHeader.{short_header}
use Rattle.cjc_check_rules.specs.Spots.{Placed}
use Rattle.cjc_check_rules.specs.Codes.{Code, codes_from, instructions, onto, with_code, with_header, with_instruction}
use Rattle.cjc_card_semantics.specs.Machine.Methods.{method_among}
use Rattle.cjc_check_rules.proofs.BytesNumbers.{number_same, number_same_number, other_number}
use Rattle.cjc_check_rules.proofs.BytesPlain.{same_some}
use Rattle.cjc_cut_proof.specs.Cuts.{IsCut, Stands}
use Rattle.cjc_cut_proof.proofs.DecodeLaws.{decode_more}

-- ---- instructions

same_ok : {A : Type 0} {xs ys : A} → ◌≡◌ {A = Result A ℕ} (Ok xs) (Ok ys) → xs ≡ ys
same_ok e = cc

-- an instruction that some of the bytes spell is that of all of them
taken : (n : ℕ) (bytes : List ℕ) (i : Instruction) → decode (take n bytes) ≡ Some i → (decode bytes ≡ Some i)
    × (size i ≤ n)
taken n bytes i e =
    let more = decode_more (take n bytes) (drop n bytes) i e in
    let rest = more.1 in
    let long = more.2 in
    let low = length-take n bytes in (
      sym (ap decode (take-append-drop n bytes)) ∙ more.0,
      omega (arith, long, low),
    )

module _ (Q : List (Placed Instruction) → Type 0) where
  -- what is so of no instructions, and of one in front of others
  cut_cases : (n count at : ℕ) (bytes : List ℕ) (is : List (Placed Instruction))
      → with_instruction at (decode (take (suc count) bytes)) (λ i. instructions n (suc count - size i) (at + size i)
      (drop (size i) bytes)) ≡ Ok is
      → ((i : Instruction) (ps : List (Placed Instruction)) → decode bytes ≡ Some i → size i ≤ suc count
      → instructions n (suc count - size i) (at + size i) (drop (size i) bytes) ≡ Ok ps
      → Q (record { at = at; item = i } ∷ ps)) → Q is
  cut_cases n count at bytes is e next = found (decode (take (suc count) bytes)) refl e
    where
      go : Instruction → Result (List (Placed Instruction)) ℕ
      go i = instructions n (suc count - size i) (at + size i) (drop (size i) bytes)

      onwards : (i : Instruction) → decode (take (suc count) bytes) ≡ Some i
          → (r : Result (List (Placed Instruction)) ℕ) → go i ≡ r → onto (record { at = at; item = i }) r ≡ Ok is
          → Q is
      onwards i d (Ok ps) g f = let t = taken (suc count) bytes i d in subst Q (same_ok f) (next i ps t.0 t.1 g)
      onwards i d (Err k) g f = absurd cc

      found : (o : Option Instruction) → decode (take (suc count) bytes) ≡ o → with_instruction at o go ≡ Ok is → Q is
      found None d f = absurd cc
      found (Some i) d f = onwards i d (go i) refl f

-- the first begins where the code does
pub first_begins : (n count at : ℕ) (bytes : List ℕ) (is : List (Placed Instruction)) → instructions n count at bytes
    ≡ Ok is → (p : Placed Instruction) → slice_get is 0 ≡ Some p → p.at ≡ at
unfolding instructions
first_begins zero count at bytes is e p f = absurd (let none : [] ≡ is = same_ok e in cc)
first_begins (suc n) zero at bytes is e p f = absurd (let none : [] ≡ is = same_ok e in cc)
first_begins (suc n) (suc count) at bytes is e p f = cut_cases (λ qs. slice_get qs 0 ≡ Some p → p.at ≡ at) n count at
    bytes is e (λ i ps d le g h. ap (λ (q : Placed Instruction). q.at) (sym (same_some h))) f

-- each stands in the code, and is what the bytes say from its offset on
pub stands : (n count at : ℕ) (bytes : List ℕ) (is : List (Placed Instruction)) → instructions n count at bytes ≡ Ok is
    → (k : ℕ) (p : Placed Instruction) → slice_get is k ≡ Some p → Stands at count bytes p
unfolding instructions
stands zero count at bytes is e k p f = absurd (let none : [] ≡ is = same_ok e in cc)
stands (suc n) zero at bytes is e k p f = absurd (let none : [] ≡ is = same_ok e in cc)
stands (suc n) (suc count) at bytes is e k p f = cut_cases (λ qs. slice_get qs k ≡ Some p
    → Stands at (suc count) bytes p) n count at bytes is e (λ i ps d le g h. by i ps d le k h
    (λ j o. stands n (suc count - size i) (at + size i) (drop (size i) bytes) ps g j p o)) f
  where
    by : (i : Instruction) (ps : List (Placed Instruction)) → decode bytes ≡ Some i → size i ≤ suc count → (j : ℕ)
        → slice_get (record { at = at; item = i } ∷ ps) j ≡ Some p → ((j : ℕ) → slice_get ps j ≡ Some p
        → Stands (at + size i) (suc count - size i) (drop (size i) bytes) p) → Stands at (suc count) bytes p
    by i ps d le zero h more = subst (Stands at (suc count) bytes) (same_some h) (record {
      skipped = 0;
      at = omega arith;
      decoded = d;
      within = omega (arith, le);
    })
    by i ps d le (suc j) h more =
        let s = more j h in
        let is_at = s.at in
        let is_within = s.within in
        record {
          skipped = size i + s.skipped;
          at = omega (arith, is_at);
          decoded = sym (ap decode (drop-drop s.skipped (size i) bytes)) ∙ s.decoded;
          within = omega (arith, is_within, le);
        }

-- each begins where the one before it ends
pub next_begins : (n count at : ℕ) (bytes : List ℕ) (is : List (Placed Instruction)) → instructions n count at bytes
    ≡ Ok is → (k : ℕ) (p q : Placed Instruction) → slice_get is k ≡ Some p → slice_get is (suc k) ≡ Some q
    → q.at ≡ p.at + size p.item
unfolding instructions
next_begins zero count at bytes is e k p q f g = absurd (let none : [] ≡ is = same_ok e in cc)
next_begins (suc n) zero at bytes is e k p q f g = absurd (let none : [] ≡ is = same_ok e in cc)
next_begins (suc n) (suc count) at bytes is e k p q f g = cut_cases (λ qs. slice_get qs k ≡ Some p → slice_get qs
    (suc k) ≡ Some q → q.at ≡ p.at + size p.item) n count at bytes is e (λ i ps d le c h j. by i ps c k h j
    (λ m o r. next_begins n (suc count - size i) (at + size i) (drop (size i) bytes) ps c m p q o r)) f g
  where
    by : (i : Instruction) (ps : List (Placed Instruction))
        → instructions n (suc count - size i) (at + size i) (drop (size i) bytes) ≡ Ok ps → (j : ℕ)
        → slice_get (record { at = at; item = i } ∷ ps) j ≡ Some p
        → slice_get (record { at = at; item = i } ∷ ps) (suc j) ≡ Some q → ((m : ℕ) → slice_get ps m ≡ Some p
        → slice_get ps (suc m) ≡ Some q → q.at ≡ p.at + size p.item) → q.at ≡ p.at + size p.item
    by i ps c zero h s more = first_begins n (suc count - size i) (at + size i) (drop (size i) bytes) ps c q s
        ∙ ap (λ (r : Placed Instruction). r.at + size r.item) (same_some h)
    by i ps c (suc j) h s more = more j h s

-- ---- methods

-- Codes beside methods that stand one behind the other from an offset on.
abbrev pub AreCut : (at : ℕ) → (bytes : List ℕ) → List MethodDescriptor → List Code → Type 0
AreCut at bytes [] [] = Unit {0}
AreCut at bytes [] (code ∷ codes) = ⊥
AreCut at bytes (m ∷ ms) [] = ⊥
AreCut at bytes (m ∷ ms) (code ∷ codes) = (n : ℕ) × (0 < n) × (m.offset ≡ at) × IsCut m bytes code
    × AreCut (at + n) (drop n bytes) ms codes

-- a header has bytes
header_has_bytes : (bytes : List ℕ) (h : MethodHeader) → method_header bytes ≡ Some h → 0 < h.size
header_has_bytes [] h e = cc
header_has_bytes (a ∷ []) h e = cc
header_has_bytes (a ∷ b ∷ []) h e = by (is_extended a) e
  where
    by : (t : Bool) → (if t then extended_header a b [] else Some (short_header a b)) ≡ Some h → 0 < h.size
    by true f = cc
    by false f = subst (λ x. 0 < x.size) (same_some f) (omega arith)
header_has_bytes (a ∷ b ∷ c ∷ []) h e = by (is_extended a) e
  where
    by : (t : Bool) → (if t then extended_header a b (c ∷ []) else Some (short_header a b)) ≡ Some h → 0 < h.size
    by true f = cc
    by false f = subst (λ x. 0 < x.size) (same_some f) (omega arith)
header_has_bytes (a ∷ b ∷ c ∷ d ∷ bytes) h e = by (is_extended a) e
  where
    by : (t : Bool) → (if t then extended_header a b (c ∷ d ∷ bytes) else Some (short_header a b)) ≡ Some h
        → 0 < h.size
    by true f = subst (λ x. 0 < x.size) (same_some f) (omega arith)
    by false f = subst (λ x. 0 < x.size) (same_some f) (omega arith)

-- the codes of methods that stand one behind the other
pub cut_from : (at : ℕ) (ms : List MethodDescriptor) (bytes : List ℕ) (codes : List Code) → codes_from at ms bytes
    ≡ Ok codes → AreCut at bytes ms codes
unfolding codes_from
cut_from at [] [] codes e = let none_there : [] ≡ codes = same_ok e in subst (AreCut at [] []) none_there tt
cut_from at [] (b ∷ bytes) codes e = absurd cc
cut_from at (m ∷ ms) bytes codes e = by (m.offset == at) refl e
    (λ n rest f. cut_from (at + n) ms (drop n bytes) rest f)
  where
    go : ℕ → List ℕ → Result (List Code) ℕ
    go next rest = codes_from next ms rest

    behind : (h : MethodHeader) → method_header bytes ≡ Some h → m.offset ≡ at
        → (is : List (Placed Instruction)) → instructions m.bytecode_count m.bytecode_count (at + h.size)
        (drop h.size bytes) ≡ Ok is → (r : Result (List Code) ℕ)
        → go (at + h.size + m.bytecode_count) (drop (h.size + m.bytecode_count) bytes) ≡ r
        → onto (record {
          is_abstract = h.is_abstract;
          first = at + h.size;
          end = at + h.size + m.bytecode_count;
          instructions = is;
        }) r ≡ Ok codes → ((n : ℕ) (rest : List Code) → codes_from (at + n) ms (drop n bytes) ≡ Ok rest
        → AreCut (at + n) (drop n bytes) ms rest) → AreCut at bytes (m ∷ ms) codes
    behind h is_h same is cut (Err k) g f next = absurd cc
    behind h is_h same is cut (Ok rest) g f next =
        let n : at + h.size + m.bytecode_count ≡ at + (h.size + m.bytecode_count) = omega arith in
        let some = header_has_bytes bytes h is_h in
        subst (AreCut at bytes (m ∷ ms)) (same_ok f) (
          h.size + m.bytecode_count,
          omega (arith, some),
          same,
          record {
            header = h;
            is_header = is_h;
            is_abstract = refl;
            first = ap (λ k. k + h.size) (sym same);
            end = ap (λ k. k + h.size + m.bytecode_count) (sym same);
            cut = ap (λ k. instructions m.bytecode_count m.bytecode_count (k + h.size) (drop h.size bytes)) same ∙ cut;
          },
          next (h.size + m.bytecode_count) rest (sym (ap (λ k. go k (drop (h.size + m.bytecode_count) bytes)) n) ∙ g),
        )

    of_code : (h : MethodHeader) → method_header bytes ≡ Some h → m.offset ≡ at
        → (r : Result (List (Placed Instruction)) ℕ) → instructions m.bytecode_count m.bytecode_count (at + h.size)
        (drop h.size bytes) ≡ r → with_code h (at + h.size) m.bytecode_count r
        (go (at + h.size + m.bytecode_count) (drop (h.size + m.bytecode_count) bytes)) ≡ Ok codes
        → ((n : ℕ) (rest : List Code) → codes_from (at + n) ms (drop n bytes) ≡ Ok rest
        → AreCut (at + n) (drop n bytes) ms rest) → AreCut at bytes (m ∷ ms) codes
    of_code h is_h same (Err k) cut f next = absurd cc
    of_code h is_h same (Ok is) cut f next = behind h is_h same is cut
        (go (at + h.size + m.bytecode_count) (drop (h.size + m.bytecode_count) bytes)) refl f next

    of_header : (o : Option MethodHeader) → method_header bytes ≡ o → m.offset ≡ at
        → with_header at m bytes o go ≡ Ok codes → ((n : ℕ) (rest : List Code) → codes_from (at + n) ms (drop n bytes)
        ≡ Ok rest → AreCut (at + n) (drop n bytes) ms rest) → AreCut at bytes (m ∷ ms) codes
    of_header None is_h same f next = absurd cc
    of_header (Some h) is_h same f next = of_code h is_h same (instructions m.bytecode_count m.bytecode_count
        (at + h.size) (drop h.size bytes)) refl f next

    by : (t : Bool) → (m.offset == at) ≡ t → (if t then with_header at m bytes (method_header bytes) go else Err at)
        ≡ Ok codes → ((n : ℕ) (rest : List Code) → codes_from (at + n) ms (drop n bytes) ≡ Ok rest
        → AreCut (at + n) (drop n bytes) ms rest) → AreCut at bytes (m ∷ ms) codes
    by false t f next = absurd cc
    by true t f next = of_header (method_header bytes) refl (number_same m.offset at t) f next

-- a method of several, so far behind where they begin, with its code
pub record CutAt (at : ℕ) (bytes : List ℕ) (m : MethodDescriptor) (code : Code) : Type 0 where
  pub skipped : ℕ
  pub offset : m.offset ≡ at + skipped
  pub is_cut : IsCut m (drop skipped bytes) code

further : (at n : ℕ) (bytes : List ℕ) (m : MethodDescriptor) (code : Code) → CutAt (at + n) (drop n bytes) m code
    → CutAt at bytes m code
further at n bytes m code c =
    let is = c.offset in
    record {
      skipped = n + c.skipped;
      offset = omega (arith, is);
      is_cut = subst (λ bs. IsCut m bs code) (drop-drop c.skipped n bytes) c.is_cut;
    }

-- the code beside a method
pub code_beside : (at : ℕ) (bytes : List ℕ) (ms : List MethodDescriptor) (codes : List Code) → AreCut at bytes ms codes
    → (k : ℕ) (m : MethodDescriptor) → slice_get ms k ≡ Some m → (code : Code) × (slice_get codes k ≡ Some code)
    × CutAt at bytes m code
code_beside at bytes [] codes h k m e = absurd cc
code_beside at bytes (n ∷ ms) [] h k m e = absurd h
code_beside at bytes (n ∷ ms) (code ∷ codes) h zero m e = (
  code,
  refl,
  subst (λ x. CutAt at bytes x code) (same_some e) (record {
    skipped = 0;
    offset = (let same = h.2 in omega (arith, same));
    is_cut = h.3;
  }),
)
code_beside at bytes (n ∷ ms) (code ∷ codes) h (suc k) m e =
    let r = code_beside (at + h.0) (drop h.0 bytes) ms codes h.4 k m e in
    (r.0, r.1, further at h.0 bytes m r.0 r.2)

-- methods stand apart: the first of an offset is the one that stands there
pub first_of_offset : (at : ℕ) (bytes : List ℕ) (ms : List MethodDescriptor) (codes : List Code)
    → AreCut at bytes ms codes → (k : ℕ) (m : MethodDescriptor) → slice_get ms k ≡ Some m
    → method_among ms m.offset ≡ Some m
first_of_offset at bytes [] codes h k m e = absurd cc
first_of_offset at bytes (n ∷ ms) [] h k m e = absurd h
first_of_offset at bytes (n ∷ ms) (code ∷ codes) h zero m e =
    let same = same_some e in
    ap (λ b. if b then Some n else method_among ms m.offset) (number_same_number n.offset m.offset (ap (λ x. x.offset)
    same)) ∙ e
first_of_offset at bytes (n ∷ ms) (code ∷ codes) h (suc k) m e =
    let r = code_beside (at + h.0) (drop h.0 bytes) ms codes h.4 k m e in
    let c = r.2 in
    let far = c.offset in
    let some = h.1 in
    let here = h.2 in
    ap (λ b. if b then Some n else method_among ms m.offset) (other_number n.offset m.offset (λ same. omega (
      arith,
      far,
      some,
      here,
      same,
    )))
    ∙ first_of_offset (at + h.0) (drop h.0 bytes) ms codes h.4 k m e

-- what is found by an offset stands there
pub found_by_offset : (ms : List MethodDescriptor) (offset : ℕ) (m : MethodDescriptor) → method_among ms offset ≡ Some m
    → (k : ℕ) × (slice_get ms k ≡ Some m) × (m.offset ≡ offset)
found_by_offset [] offset m e = cc
found_by_offset (n ∷ ms) offset m e = by (n.offset == offset) refl e (found_by_offset ms offset m)
  where
    by : (t : Bool) → (n.offset == offset) ≡ t → (if t then Some n else method_among ms offset) ≡ Some m
        → (method_among ms offset ≡ Some m → (k : ℕ) × (slice_get ms k ≡ Some m) × (m.offset ≡ offset))
        → (k : ℕ) × (slice_get (n ∷ ms) k ≡ Some m) × (m.offset ≡ offset)
    by true t f next = (0, f, ap (λ x. x.offset) (sym (same_some f)) ∙ number_same n.offset offset t)
    by false t f next = let r = next f in (suc r.0, r.1, r.2)
