-- What the table of opcodes says of an instruction's size.
use Rattle.std.proofs.Common.{◌≡◌, ℕ, zero, suc, ◌+◌, ◌*◌, refl, sym, ap, subst, ◌∙◌, arith, Bool, true, false, List}
use Rattle.std.proofs.Common.{[], ◌∷◌, Option, Some, None, inl, inr}
use Rattle.std.specs.Prelude.{◌⊎◌, ◌&&◌, ◌==◌, slice_get, option_map, option_and_then, if◌then◌else◌}
use Rattle.std.proofs.lemmas.Bool.Decides.{nat_tests}
use Rattle.cjc_ncode.specs.LowerCapRead.Opcodes.{Operand, Byte, Signed1, Signed2, Signed4, Index1, Index2, Form, Fields}
use Rattle.cjc_ncode.specs.LowerCapRead.Opcodes.{Table}
use Rattle.cjc_ncode.specs.LowerCapRead.Opcodes.{Lookup, form, forms, info, op_info, widths}
use Rattle.cjc_layout.specs.Sizes.{size_by}
use Rattle.cjc_layout.specs.Working.{switch_size, length_by}
use Rattle.cjc_ncode.proofs.BytesBools.{and_true}
use Rattle.cjc_ncode.proofs.BytesNumbers.{number_same}

-- a switch has the opcode of its form
abbrev is_switch_of : (op : ℕ) → Form → Bool
is_switch_of op (Fields xs) = true
is_switch_of op (Table Signed2) = op == 0x73
is_switch_of op (Table Signed4) = op == 0x74
is_switch_of op (Table m) = false
is_switch_of op (Lookup Signed2) = op == 0x75
is_switch_of op (Lookup Signed4) = op == 0x76
is_switch_of op (Lookup m) = false

abbrev is_fine : ℕ → Option Form → Bool
is_fine op None = true
is_fine op (Some f) = is_switch_of op f

abbrev all_fine : ℕ → List (Option Form) → Bool
all_fine op [] = true
all_fine op (f ∷ fs) = is_fine op f && all_fine (suc op) fs

forms_fine : all_fine 0 forms ≡ true
unfolding forms
forms_fine = refl

fine_at : (op k : ℕ) (fs : List (Option Form)) → all_fine op fs ≡ true → (f : Option Form) → slice_get fs k ≡ Some f
    → is_fine (op + k) f ≡ true
fine_at op k [] e f g = cc
fine_at op zero (x ∷ fs) e f g =
    let h = and_true (is_fine op x) (all_fine (suc op) fs) e in
    let s : x ≡ f = cc in
    let z : op ≡ op + 0 = omega arith in
    subst (λ n. is_fine n f ≡ true) z (subst (λ y. is_fine op y ≡ true) s h.0)
fine_at op (suc k) (x ∷ fs) e f g =
    let h = and_true (is_fine op x) (all_fine (suc op) fs) e in
    let z : suc op + k ≡ op + suc k = omega arith in
    subst (λ n. is_fine n f ≡ true) z (fine_at (suc op) k fs h.1 f g)

found : (op : ℕ) (o : Option (Option Form)) → slice_get forms op ≡ o → (f : Form) → option_and_then (λ f. f) o ≡ Some f
    → is_switch_of op f ≡ true
found op None e f g = cc
found op (Some None) e f g = cc
found op (Some (Some x)) e f g =
    let s : x ≡ f = cc in
    let z : 0 + op ≡ op = omega arith in
    subst (λ y. is_switch_of op y ≡ true) s (subst (λ n. is_switch_of n x ≡ true) z (fine_at 0 op forms forms_fine
    (Some x) e))

pub switch_fine : (op : ℕ) (f : Form) → form op ≡ Some f → is_switch_of op f ≡ true
unfolding form
switch_fine op f e = found op (slice_get forms op) refl f e

-- ---- sizes

by_switch : (op cases : ℕ) (f : Form) → is_switch_of op f ≡ true → (let i = info f in i.length ≡ 0)
    → size_by (Some f) cases ≡ switch_size op cases
by_switch op cases (Fields xs) e z = absurd (omega arith)
by_switch op cases (Table Signed2) e z = let s : op ≡ 0x73 = number_same op 0x73 e in let r : 7 + 2 * cases
    ≡ switch_size op cases = subst (λ n. 7 + 2 * cases ≡ switch_size n cases) (sym s) refl in omega arith
by_switch op cases (Table Signed4) e z = let s : op ≡ 0x74 = number_same op 0x74 e in let r : 11 + 2 * cases
    ≡ switch_size op cases = subst (λ n. 11 + 2 * cases ≡ switch_size n cases) (sym s) refl in omega arith
by_switch op cases (Table Byte) e z = cc
by_switch op cases (Table Signed1) e z = cc
by_switch op cases (Table Index1) e z = cc
by_switch op cases (Table Index2) e z = cc
by_switch op cases (Lookup Signed2) e z = let s : op ≡ 0x75 = number_same op 0x75 e in let r : 5 + 4 * cases
    ≡ switch_size op cases = subst (λ n. 5 + 4 * cases ≡ switch_size n cases) (sym s) refl in omega arith
by_switch op cases (Lookup Signed4) e z = let s : op ≡ 0x76 = number_same op 0x76 e in let r : 5 + 6 * cases
    ≡ switch_size op cases = subst (λ n. 5 + 6 * cases ≡ switch_size n cases) (sym s) refl in omega arith
by_switch op cases (Lookup Byte) e z = cc
by_switch op cases (Lookup Signed1) e z = cc
by_switch op cases (Lookup Index1) e z = cc
by_switch op cases (Lookup Index2) e z = cc

some_bytes : (n : ℕ) → ((1 + n) == 0) ≡ false
some_bytes n = grind (arith, nat_tests)

size_found : (op cases : ℕ) (o : Option Form) → form op ≡ o → size_by o cases ≡ (if length_by (option_map info o) == 0
    then switch_size op cases else length_by (option_map info o))
size_found op cases None f = refl
size_found op cases (Some (Fields xs)) f = sym (ap (λ b. if b then switch_size op cases else 1 + widths xs)
    (some_bytes (widths xs)))
size_found op cases (Some (Table m)) f = by_switch op cases (Table m) (switch_fine op (Table m) f) refl
size_found op cases (Some (Lookup m)) f = by_switch op cases (Lookup m) (switch_fine op (Lookup m) f) refl

pub size_at : (op cases : ℕ) → size_by (form op) cases ≡ (if length_by (op_info op) == 0 then switch_size op cases
    else length_by (op_info op))
unfolding op_info
size_at op cases = size_found op cases (form op) refl

pub size_zero : (op cases n : ℕ) → n ≡ length_by (op_info op) → n ≡ 0 → size_by (form op) cases ≡ switch_size op cases
size_zero op cases n e z = size_at op cases ∙ ap (λ m. if m == 0 then switch_size op cases else m) (sym e ∙ z)

pub size_some : (op cases n : ℕ) → n ≡ length_by (op_info op) → (n ≡ 0 → ⊥) → size_by (form op) cases ≡ n
size_some op cases n e z =
    let f : (n == 0) ≡ false = grind (arith, nat_tests) in
    size_at op cases ∙ ap (λ m. if m == 0 then switch_size op cases else m) (sym e)
    ∙ ap (λ b. if b then switch_size op cases else n) f

-- ---- the opcodes of switches

pub table_opcode : (op : ℕ) (m : Operand) → form op ≡ Some (Table m) → (op ≡ 0x73) ⊎ (op ≡ 0x74)
table_opcode op m e = by m (switch_fine op (Table m) e)
  where
    by : (m : Operand) → is_switch_of op (Table m) ≡ true → (op ≡ 0x73) ⊎ (op ≡ 0x74)
    by Signed2 f = inl (number_same op 0x73 f)
    by Signed4 f = inr (number_same op 0x74 f)
    by Byte f = cc
    by Signed1 f = cc
    by Index1 f = cc
    by Index2 f = cc

pub lookup_opcode : (op : ℕ) (m : Operand) → form op ≡ Some (Lookup m) → (op ≡ 0x75) ⊎ (op ≡ 0x76)
lookup_opcode op m e = by m (switch_fine op (Lookup m) e)
  where
    by : (m : Operand) → is_switch_of op (Lookup m) ≡ true → (op ≡ 0x75) ⊎ (op ≡ 0x76)
    by Signed2 f = inl (number_same op 0x75 f)
    by Signed4 f = inr (number_same op 0x76 f)
    by Byte f = cc
    by Signed1 f = cc
    by Index1 f = cc
    by Index2 f = cc
