-- The cases of switches, one after the other.
use Rattle.std.proofs.Common.{◌≡◌, ℕ, ◌+◌, ◌<◌, ◌≤◌, arith, refl, sym, ap, ◌∙◌, Bool, true, false, ◌||◌, ◌&&◌, List, []}
use Rattle.std.proofs.Common.{◌∷◌, ◌++◌, length, get_or, drop, append_assoc, append-nil}
use Rattle.std.specs.Prelude.{if◌then◌else◌, filter, map, nat_le, ℤ, pos, negsuc, ◌+ℤ◌}
use Rattle.std.specs.List.{list_any}
use Rattle.std.specs.Int.RustNames.{int_le}
use Rattle.std.proofs.lemmas.List.{drop_all}
use Rattle.cjc_ncode.specs.LowerCardSemantics.Bytecode.Numbers.{is_word}
use Rattle.cjc_types.specs.Bytecode.declared.insn.JCase.{JCase}
use Rattle.cjc_ncode.specs.declared.narrow.NCase.{NCase}
use Rattle.cjc_ncode.specs.Written.{pair_case, pair_cases, switched, table_cases}
use Rattle.cjc_narrow.specs.Written.Working.Switches.{any_word, case_if, next_value}
use Rattle.cjc_types.proofs.BytesBools.{and_false}
use Rattle.cjc_types.proofs.BytesGets.{from_index}

-- ---- above all words

no_word : (value : ℤ) → int_le value (pos 32767) ≡ false → is_word value ≡ false
no_word value e = ap (λ b. int_le (negsuc 32767) value && b) e ∙ and_false (int_le (negsuc 32767) value)

le_more : (n : ℕ) → nat_le n 32767 ≡ false → nat_le (n + 1) 32767 ≡ false
le_more n e = grind arith

still_above : (value : ℤ) → int_le value (pos 32767) ≡ false → int_le (value +ℤ pos 1) (pos 32767) ≡ false
still_above (pos n) e = le_more n e
still_above (negsuc n) e = cc

no_cases : (place : ℕ → ℕ) (value : ℤ) (targets : List ℕ) → int_le value (pos 32767) ≡ false
    → table_cases place value targets ≡ []
no_cases place value [] e = refl
no_cases place value (t ∷ targets) e =
    ap (λ b. let more = table_cases place (value +ℤ pos 1) targets in if b then record {
      value = value;
      target = place t;
    } ∷ more else more) (no_word value e)
    ∙ no_cases place (value +ℤ pos 1) targets (still_above value e)

none : (value : ℤ) (targets : List ℕ) → int_le value (pos 32767) ≡ false → any_word value targets ≡ false
none value [] e = refl
none value (t ∷ targets) e = ap (λ b. b || any_word (value +ℤ pos 1) targets) (no_word value e)
    ∙ none (value +ℤ pos 1) targets (still_above value e)

-- ---- the next number is as good as the sum

next_cases : (place : ℕ → ℕ) (value : ℤ) (targets : List ℕ) → table_cases place (value +ℤ pos 1) targets
    ≡ table_cases place (next_value value) targets
next_cases place value targets = by (int_le value (pos 32767)) refl
  where
    by : (b : Bool) → int_le value (pos 32767) ≡ b → table_cases place (value +ℤ pos 1) targets
        ≡ table_cases place (if b then value +ℤ pos 1 else value) targets
    by true e = refl
    by false e = no_cases place (value +ℤ pos 1) targets (still_above value e) ∙ sym (no_cases place value targets e)

next_any : (value : ℤ) (targets : List ℕ) → any_word (value +ℤ pos 1) targets ≡ any_word (next_value value) targets
next_any value targets = by (int_le value (pos 32767)) refl
  where
    by : (b : Bool) → int_le value (pos 32767) ≡ b → any_word (value +ℤ pos 1) targets ≡ any_word (if b
        then value +ℤ pos 1 else value) targets
    by true e = refl
    by false e = none (value +ℤ pos 1) targets (still_above value e) ∙ sym (none value targets e)

-- ---- tables

put_first : (b : Bool) (c : NCase) (more : List NCase) → (if b then c ∷ more else more) ≡ (if b then c ∷ [] else [])
    ++ more
put_first true c more = refl
put_first false c more = refl

table_first : (place : ℕ → ℕ) (value : ℤ) (t : ℕ) (targets : List ℕ) → table_cases place value (t ∷ targets)
    ≡ case_if value (place t) ++ table_cases place (next_value value) targets
table_first place value t targets =
    put_first (is_word value) (record { value = value; target = place t }) (table_cases place (value +ℤ pos 1) targets)
    ∙ ap (λ more. case_if value (place t) ++ more) (next_cases place value targets)

pub table_next : (place : ℕ → ℕ) (cases : List NCase) (value : ℤ) (targets : List ℕ) (i : ℕ) (d : ℕ)
    (total : List NCase) → i < length targets
    → cases ++ table_cases place value (drop i targets) ≡ total → (cases ++ case_if value (place (get_or targets i d)))
    ++ table_cases place (next_value value) (drop (i + 1) targets) ≡ total
table_next place cases value targets i d total lt so_far =
    append_assoc cases (case_if value (place (get_or targets i d))) (table_cases place (next_value value)
    (drop (i + 1) targets))
    ∙ ap (λ more. cases ++ more) (sym (table_first place value (get_or targets i d) (drop (i + 1) targets)))
    ∙ ap (λ rest. cases ++ table_cases place value rest) (sym (from_index targets i d lt))
    ∙ so_far

-- the same cases and the same number
pub in_place_of : (place : ℕ → ℕ) (cases others : List NCase) (value other : ℤ) (rest : List ℕ) (total : List NCase)
    → cases ≡ others → value ≡ other
    → others ++ table_cases place other rest ≡ total → cases ++ table_cases place value rest ≡ total
in_place_of place cases others value other rest total same_cases same_value so_far =
    ap (λ cs. cs ++ table_cases place value rest) same_cases ∙ ap (λ v. others ++ table_cases place v rest) same_value
    ∙ so_far

pub table_end : (place : ℕ → ℕ) (cases : List NCase) (value : ℤ) (targets : List ℕ) (i : ℕ) (total : List NCase)
    → length targets ≤ i
    → cases ++ table_cases place value (drop i targets) ≡ total → cases ≡ total
table_end place cases value targets i total le so_far = sym (append-nil cases)
    ∙ ap (λ rest. cases ++ table_cases place value rest) (sym (drop_all i targets le)) ∙ so_far

-- ---- whether a table has a case

pub any_next : (value : ℤ) (targets : List ℕ) (i : ℕ) (total : Bool) → i < length targets → is_word value ≡ false
    → any_word value (drop i targets) ≡ total → any_word (next_value value) (drop (i + 1) targets) ≡ total
any_next value targets i total lt e so_far =
    sym (next_any value (drop (i + 1) targets))
    ∙ ap (λ b. b || any_word (value +ℤ pos 1) (drop (i + 1) targets)) (sym e)
    ∙ ap (any_word value) (sym (from_index targets i 0 lt))
    ∙ so_far

pub any_here : (value : ℤ) (targets : List ℕ) (i : ℕ) (total : Bool) → i < length targets → is_word value ≡ true
    → any_word value (drop i targets) ≡ total → true ≡ total
any_here value targets i total lt e so_far =
    ap (λ b. b || any_word (value +ℤ pos 1) (drop (i + 1) targets)) (sym e)
    ∙ ap (any_word value) (sym (from_index targets i 0 lt))
    ∙ so_far

pub any_end : (value : ℤ) (targets : List ℕ) (i : ℕ) (total : Bool) → length targets ≤ i
    → any_word value (drop i targets) ≡ total → false ≡ total
any_end value targets i total le so_far = ap (any_word value) (sym (drop_all i targets le)) ∙ so_far

-- ---- pairs

pair_first : (place : ℕ → ℕ) (c : JCase) (cases : List JCase) → pair_cases place (c ∷ cases)
    ≡ case_if c.value (place c.target) ++ pair_cases place cases
pair_first place c cases = by (is_word c.value)
  where
    by : (b : Bool) → map (pair_case place) (if b then c ∷ filter (λ c. is_word c.value) cases
        else filter (λ c. is_word c.value) cases) ≡ (if b then pair_case place c ∷ [] else []) ++ pair_cases place cases
    by true = refl
    by false = refl

pub pair_next : (place : ℕ → ℕ) (cases : List NCase) (pairs : List JCase) (i : ℕ) (d : JCase) (total : List NCase)
    → i < length pairs
    → cases ++ pair_cases place (drop i pairs) ≡ total
    → (let c = get_or pairs i d in (cases ++ case_if c.value (place c.target))
    ++ pair_cases place (drop (i + 1) pairs) ≡ total)
pair_next place cases pairs i d total lt so_far =
    let c = get_or pairs i d in
    append_assoc cases (case_if c.value (place c.target)) (pair_cases place (drop (i + 1) pairs))
    ∙ ap (λ more. cases ++ more) (sym (pair_first place c (drop (i + 1) pairs)))
    ∙ ap (λ rest. cases ++ pair_cases place rest) (sym (from_index pairs i d lt))
    ∙ so_far

pub pair_end : (place : ℕ → ℕ) (cases : List NCase) (pairs : List JCase) (i : ℕ) (total : List NCase) → length pairs ≤ i
    → cases ++ pair_cases place (drop i pairs) ≡ total → cases ≡ total
pair_end place cases pairs i total le so_far = sym (append-nil cases) ∙ ap (λ rest. cases ++ pair_cases place rest)
    (sym (drop_all i pairs le)) ∙ so_far

-- ---- how many instructions a switch is written as

one_case : (op other : ℕ) (low : ℤ) (c : NCase) (cases : List NCase) → length (switched op other low (c ∷ cases)) ≡ 1
one_case op other low c cases = refl

pub table_length : (op other : ℕ) (first : ℤ) (place : ℕ → ℕ) (low : ℤ) (targets : List ℕ)
    → length (switched op other first (table_cases place low targets)) ≡ (if any_word low targets then 1 else 2)
table_length op other first place low [] = refl
table_length op other first place low (t ∷ targets) = by (is_word low) (table_length op other first place (low +ℤ pos 1)
    targets)
  where
    by : (b : Bool) → length (switched op other first (table_cases place (low +ℤ pos 1) targets))
        ≡ (if any_word (low +ℤ pos 1) targets then 1 else 2)
        → length (switched op other first (let more = table_cases place (low +ℤ pos 1) targets in if b
        then record { value = low; target = place t } ∷ more else more)) ≡ (if b || any_word (low +ℤ pos 1) targets
        then 1 else 2)
    by true rest = refl
    by false rest = rest

pub pair_length : (op other : ℕ) (first : ℤ) (place : ℕ → ℕ) (pairs : List JCase)
    → length (switched op other first (pair_cases place pairs)) ≡ (if list_any (λ c. is_word c.value) pairs then 1
    else 2)
pair_length op other first place [] = refl
pair_length op other first place (c ∷ pairs) = by (is_word c.value) (pair_length op other first place pairs)
  where
    by : (b : Bool) → length (switched op other first (pair_cases place pairs))
        ≡ (if list_any (λ c. is_word c.value) pairs then 1 else 2)
        → length (switched op other first (map (pair_case place) (if b then c ∷ filter (λ c. is_word c.value) pairs
        else filter (λ c. is_word c.value) pairs))) ≡ (if b || list_any (λ c. is_word c.value) pairs then 1 else 2)
    by true rest = refl
    by false rest = rest
