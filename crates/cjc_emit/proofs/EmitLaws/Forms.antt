-- The operands of jumps and switches, by what their opcodes mean.
use Rattle.std.proofs.Common.{◌≡◌, ℕ, zero, suc, ◌<◌, ◌≤◌, refl, sym, ap, subst, ◌∙◌, ⊎_elim, arith, Bool, true, false}
use Rattle.std.proofs.Common.{List, [], ◌∷◌, Option, Some, None}
use Rattle.std.specs.Prelude.{◌&&◌, if◌then◌else◌}
use Rattle.std.proofs.lemmas.Bool.{cases_lt}
use Rattle.std.proofs.lemmas.Option.{slice_get_past}
use Rattle.cjc_layout.specs.CapRead.Opcodes.{Form, Fields, Table, Lookup, Operand, Byte, Signed1, Signed2, Signed4}
use Rattle.cjc_layout.specs.CapRead.Opcodes.{Index1}
use Rattle.cjc_layout.specs.CapRead.Opcodes.{Index2, form, forms}
use Rattle.cjc_layout.specs.CardSemantics.Bytecode.Meanings.{Meaning, Branches, Ranged, Paired, meanings, meaning}
use Rattle.cjc_layout.specs.CardSemantics.Bytecode.Meanings.{known_meaning}
use Rattle.cjc_ncode.specs.Lowering.Laid.{wide_jump}
use Rattle.cjc_ncode.proofs.BytesBools.{and_true}

-- ---- meanings

abbrev pub is_branch : Meaning → Bool
is_branch (Branches test) = true
is_branch _ = false

abbrev pub is_ranged : Meaning → Bool
is_ranged (Ranged is_int) = true
is_ranged _ = false

abbrev pub is_paired : Meaning → Bool
is_paired (Paired is_int) = true
is_paired _ = false

-- ---- forms

abbrev is_signed1 : Operand → Bool
is_signed1 Signed1 = true
is_signed1 _ = false

abbrev is_signed2 : Operand → Bool
is_signed2 Signed2 = true
is_signed2 _ = false

abbrev all_are : (Operand → Bool) → List Operand → Bool
all_are test [] = false
all_are test (k ∷ []) = test k
all_are test (k ∷ l ∷ ks) = false

abbrev has_one : (Operand → Bool) → Option Form → Bool
has_one test (Some (Fields ks)) = all_are test ks
has_one test _ = false

abbrev is_table : Option Form → Bool
is_table (Some (Table m)) = true
is_table _ = false

abbrev is_lookup : Option Form → Bool
is_lookup (Some (Lookup m)) = true
is_lookup _ = false

the_first : (k : Operand) → is_signed1 k ≡ true → k ≡ Signed1
the_first Signed1 e = refl
the_first Byte e = absurd cc
the_first Signed2 e = absurd cc
the_first Signed4 e = absurd cc
the_first Index1 e = absurd cc
the_first Index2 e = absurd cc

the_second : (k : Operand) → is_signed2 k ≡ true → k ≡ Signed2
the_second Signed2 e = refl
the_second Byte e = absurd cc
the_second Signed1 e = absurd cc
the_second Signed4 e = absurd cc
the_second Index1 e = absurd cc
the_second Index2 e = absurd cc

one_of : (test : Operand → Bool) (o : Option Form) → has_one test o ≡ true → (k : Operand) × (test k ≡ true)
    × (o ≡ Some (Fields (k ∷ [])))
one_of test None e = absurd cc
one_of test (Some (Table m)) e = absurd cc
one_of test (Some (Lookup m)) e = absurd cc
one_of test (Some (Fields [])) e = absurd cc
one_of test (Some (Fields (k ∷ []))) e = (k, e, refl)
one_of test (Some (Fields (k ∷ l ∷ ks))) e = absurd cc

table_of : (o : Option Form) → is_table o ≡ true → (m : Operand) × (o ≡ Some (Table m))
table_of None e = absurd cc
table_of (Some (Fields ks)) e = absurd cc
table_of (Some (Table m)) e = (m, refl)
table_of (Some (Lookup m)) e = absurd cc

lookup_of : (o : Option Form) → is_lookup o ≡ true → (m : Operand) × (o ≡ Some (Lookup m))
lookup_of None e = absurd cc
lookup_of (Some (Fields ks)) e = absurd cc
lookup_of (Some (Table m)) e = absurd cc
lookup_of (Some (Lookup m)) e = (m, refl)

-- ---- all opcodes

abbrev jump_fine : ℕ → Bool
jump_fine op = if is_branch (meaning op) then (if is_branch (meaning (wide_jump op)) then has_one is_signed1 (form op)
    && has_one is_signed2 (form (wide_jump op)) else true) else true

abbrev ranged_fine : ℕ → Bool
ranged_fine op = if is_ranged (meaning op) then is_table (form op) else true

abbrev paired_fine : ℕ → Bool
paired_fine op = if is_paired (meaning op) then is_lookup (form op) else true

abbrev all_fine : (ℕ → Bool) → ℕ → Bool
all_fine fine zero = true
all_fine fine (suc n) = fine n && all_fine fine n

jumps_fine : all_fine jump_fine 185 ≡ true
unfolding meaning form forms
jumps_fine = refl

ranges_fine : all_fine ranged_fine 185 ≡ true
unfolding meaning form forms
ranges_fine = refl

pairs_fine : all_fine paired_fine 185 ≡ true
unfolding meaning form forms
pairs_fine = refl

fine_below : (fine : ℕ → Bool) (n op : ℕ) → all_fine fine n ≡ true → op < n → fine op ≡ true
fine_below fine zero op e h = absurd (omega arith)
fine_below fine (suc n) op e h =
    let p = and_true (fine n) (all_fine fine n) e in
    ⊎_elim (λ lt. fine_below fine n op p.1 lt) (λ le. let s : n ≡ op = omega arith in subst (λ k. fine k ≡ true) s p.0)
    (cases_lt op n)

pub nothing_past : (op : ℕ) → 185 ≤ op → meaning op ≡ known_meaning None
unfolding meaning
nothing_past op h = ap known_meaning (slice_get_past meanings op h)

pub below : (test : Meaning → Bool) → test (known_meaning None) ≡ false → (op : ℕ) → test (meaning op) ≡ true → op < 185
below test off op e = ⊎_elim (λ lt. lt) (λ le. let clash : true ≡ false = sym e ∙ (ap test (nothing_past op le) ∙ off)
    in cc) (cases_lt op 185)

-- ---- what they have

pub jump_forms : (op : ℕ) → is_branch (meaning op) ≡ true → is_branch (meaning (wide_jump op)) ≡ true
    → (form op ≡ Some (Fields (Signed1 ∷ []))) × (form (wide_jump op) ≡ Some (Fields (Signed2 ∷ [])))
jump_forms op e f =
    let g = fine_below jump_fine 185 op jumps_fine (below is_branch refl op e) in
    let h : (has_one is_signed1 (form op) && has_one is_signed2 (form (wide_jump op))) ≡ true =
    ap (λ b. if b then has_one is_signed1 (form op) && has_one is_signed2 (form (wide_jump op)) else true) (sym f)
    ∙ ap (λ b. if b then (if is_branch (meaning (wide_jump op)) then has_one is_signed1 (form op)
    && has_one is_signed2 (form (wide_jump op)) else true) else true) (sym e)
    ∙ g in
    let p = and_true _ _ h in
    let one = one_of is_signed1 (form op) p.0 in
    let two = one_of is_signed2 (form (wide_jump op)) p.1 in (
      one.2 ∙ ap (λ k. Some (Fields (k ∷ []))) (the_first one.0 one.1),
      two.2
          ∙ ap (λ k. Some (Fields (k ∷ []))) (the_second two.0 two.1),
    )

pub range_form : (op : ℕ) → is_ranged (meaning op) ≡ true → (m : Operand) × (form op ≡ Some (Table m))
range_form op e = table_of (form op) (ap (λ b. if b then is_table (form op) else true) (sym e)
    ∙ fine_below ranged_fine 185 op ranges_fine (below is_ranged refl op e))

pub pair_form : (op : ℕ) → is_paired (meaning op) ≡ true → (m : Operand) × (form op ≡ Some (Lookup m))
pair_form op e = lookup_of (form op) (ap (λ b. if b then is_lookup (form op) else true) (sym e)
    ∙ fine_below paired_fine 185 op pairs_fine (below is_paired refl op e))
