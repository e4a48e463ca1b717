-- Instructions that name nothing are what their acts say: jumps, switches, returns and arrays of numbers.
use Rattle.std.proofs.Common.{◌≡◌, ◌+◌, ◌==◌, ◌&&◌, ℕ, zero, suc, Bool, true, false, not, List, [], ◌∷◌}
use Rattle.std.proofs.Common.{◌++◌, map, nat_le, slice_get, Option, Some, None, refl, sym, ap, subst, arith, ℤ, pos}
use Rattle.std.specs.Prelude.{◌+ℤ◌, if◌then◌else◌, option_and_then}
use Rattle.std.proofs.lemmas.Bool.Decides.{nat_tests}
use Rattle.cjc_card_semantics.specs.CapRead.Card as card
use Rattle.cjc_card_semantics.specs.CapRead.Opcodes.{Operand, Signed2, Index2, Form, form, forms}
use Rattle.cjc_card_semantics.specs.CapRead.declared.tree.ClassRef.TheVariants.{Inside}
use Rattle.cjc_card_semantics.specs.CapRead.declared.tree.StaticRef.TheVariants as statics
use Rattle.cjc_card_semantics.specs.CapRead.declared.tree.PoolEntry.{PoolEntry}
use Rattle.cjc_card_semantics.specs.CapRead.declared.tree.PoolEntry.TheVariants.{Classref, InstanceFieldref}
use Rattle.cjc_card_semantics.specs.CapRead.declared.tree.PoolEntry.TheVariants.{VirtualMethodref, SuperMethodref}
use Rattle.cjc_card_semantics.specs.CapRead.declared.tree.PoolEntry.TheVariants.{StaticFieldref, StaticMethodref}
use Rattle.cjc_script.specs.Sorts.{Element, Booleans, Bytes, Shorts, Ints, OfNumbers}
use Rattle.cjc_card_semantics.specs.Bytecode.Calculations.{Test}
use Rattle.cjc_card_semantics.specs.Bytecode.Effects.{Letter, Arm, Pick, Touch, Return}
use Rattle.cjc_card_semantics.specs.Bytecode.Meanings.{Use, Branches, Ranged, Paired}
use Rattle.cjc_card_semantics.specs.Machine.Loaded.{Loaded}
use Rattle.cjc_card_semantics.specs.Machine.Operations.{element_type, moved, operation, paired, ranged}
use Rattle.cjc_frames.specs.declared.acts.Need.{Need}
use Rattle.cjc_card_acts.specs.Rows.{Row}
use Rattle.cjc_card_acts.specs.Rows.{Jumps, Switches, Uses}
use Rattle.cjc_card_acts.specs.Rows.{idle, known_row, number_words}
use Rattle.cjc_card_acts.specs.Rows.{row, rows}
use Rattle.cjc_card_acts.specs.CardTypes.{ValueType, is_returned_by, needs_of, numbers_type, shape_by}
use Rattle.cjc_card_acts.specs.CheckRules.Spots.{lies_between}
use Rattle.cjc_card_acts.specs.CheckRules.Instructions.{default_of, is_jump, is_needed_by, pair_offsets}
use Rattle.cjc_verify_proof.specs.Beside.{BesideTest, AreRead}
use Rattle.cjc_verify_proof.specs.Control.{switched_words}
use Rattle.cjc_verify_proof.specs.Frames.{Program}
use Rattle.cjc_verify_proof.specs.Instructions.{Suits, jump, return, switch}
use Rattle.cjc_verify_proof.specs.Uses.{is_index_form, is_used_by, uses_cell, uses_class, uses_field, uses_method}
use Rattle.cjc_verify_proof.specs.Uses.{uses_super, uses_virtual}

-- ---- which opcodes jump

-- the opcode of a row of jumps is one of a jump, and that of a switch none
abbrev jumps_so : Row → (opcode : ℕ) → Bool
jumps_so (Jumps needs falls) op = is_jump op
jumps_so (Switches n) op = not (is_jump op)
jumps_so r op = true

abbrev all_so : (opcode : ℕ) → List Row → Bool
all_so op [] = true
all_so op (r ∷ rs) = jumps_so r op && all_so (op + 1) rs

table_so : all_so 0 rows ≡ true
table_so = refl

row_so : (k : ℕ) (rs : List Row) → all_so k rs ≡ true → (i : ℕ) → jumps_so (known_row (slice_get rs i)) (k + i) ≡ true
row_so k [] e i = refl
row_so k (r ∷ rs) e zero =
    let z : k ≡ k + 0 = omega arith in
    subst (λ n. jumps_so r n ≡ true) z (first (jumps_so r k) (all_so (k + 1) rs) e)
  where
    first : (a b : Bool) → (a && b) ≡ true → a ≡ true
    first true b h = refl
    first false b h = cc
row_so k (r ∷ rs) e (suc i) =
    let s : k + 1 + i ≡ k + suc i = omega arith in
    subst (λ n. jumps_so (known_row (slice_get rs i)) n ≡ true) s (row_so (k + 1) rs (second (jumps_so r k) (all_so
    (k + 1)
    rs) e) i)
  where
    second : (a b : Bool) → (a && b) ≡ true → b ≡ true
    second true b h = h
    second false b h = cc

op_so : (op : ℕ) → jumps_so (row op) op ≡ true
unfolding row
op_so op = let z : 0 + op ≡ op = omega arith in subst (λ n. jumps_so (known_row (slice_get rows op)) n ≡ true) z
    (row_so 0 rows table_so op)

pub jumps_jump : (op : ℕ) (needs : List Need) (falls : Bool) → row op ≡ Jumps needs falls → is_jump op ≡ true
jumps_jump op needs falls e = subst (λ r. jumps_so r op ≡ true) e (op_so op)

pub switches_jump_not : (op n : ℕ) → row op ≡ Switches n → is_jump op ≡ false
switches_jump_not op n e = by (is_jump op) (subst (λ r. jumps_so r op ≡ true) e (op_so op))
  where
    by : (b : Bool) → not b ≡ true → b ≡ false
    by true h = cc
    by false h = refl

-- ---- which entries opcodes use

-- two tests say the same
abbrev same_test : Bool → Bool → Bool
same_test true b = b
same_test false b = not b

-- the entries that an opcode needs are those that are used so, and it is none of a type test
abbrev entries_so : Use → (opcode : ℕ) → Bool
entries_so how op =
    same_test (is_needed_by (Classref (Inside 0)) op) (uses_class how)
    && (same_test (is_needed_by (InstanceFieldref (Inside 0) 0) op) (uses_field how)
    && (same_test (is_needed_by (VirtualMethodref (Inside 0) 0) op) (uses_virtual how)
    && (same_test (is_needed_by (SuperMethodref (Inside 0) 0) op) (uses_super how)
    && (same_test (is_needed_by (StaticFieldref (statics.Inside 0)) op) (uses_cell how)
    && (same_test (is_needed_by (StaticMethodref (statics.Inside 0)) op) (uses_method how)
    && not (lies_between card.checkcast card.instanceof op))))))

abbrev uses_so : Row → (opcode : ℕ) → Option Form → Bool
uses_so (Uses how) op form = is_index_form form && entries_so how op
uses_so r op form = true

abbrev all_use_so : (opcode : ℕ) → List Row → List (Option Form) → Bool
all_use_so op [] fs = true
all_use_so op (r ∷ rs) [] = false
all_use_so op (r ∷ rs) (f ∷ fs) = uses_so r op f && all_use_so (op + 1) rs fs

table_uses_so : all_use_so 0 rows forms ≡ true
unfolding forms
table_uses_so = refl

both_true : (a b : Bool) → (a && b) ≡ true → (a ≡ true) × (b ≡ true)
both_true true b h = (refl, h)
both_true false b h = cc

abbrev form_in : List (Option Form) → (opcode : ℕ) → Option Form
form_in fs i = option_and_then (λ f. f) (slice_get fs i)

use_so : (k : ℕ) (rs : List Row) (fs : List (Option Form)) → all_use_so k rs fs ≡ true → (i : ℕ)
    → uses_so (known_row (slice_get rs i)) (k + i) (form_in fs i) ≡ true
use_so k [] fs e i = refl
use_so k (r ∷ rs) [] e i = cc
use_so k (r ∷ rs) (f ∷ fs) e zero =
    let z : k ≡ k + 0 = omega arith in
    subst (λ n. uses_so r n f ≡ true) z (both_true (uses_so r k f) (all_use_so (k + 1) rs fs) e).0
use_so k (r ∷ rs) (f ∷ fs) e (suc i) =
    let s : k + 1 + i ≡ k + suc i = omega arith in
    subst (λ n. uses_so (known_row (slice_get rs i)) n (form_in fs i) ≡ true) s (use_so (k + 1) rs fs (both_true
    (uses_so
    r k f) (all_use_so (k + 1) rs fs) e).1 i)

op_use_so : (op : ℕ) → uses_so (row op) op (form op) ≡ true
unfolding row form
op_use_so op =
    let z : 0 + op ≡ op = omega arith in
    subst (λ n. uses_so (known_row (slice_get rows op)) n (form_in forms op) ≡ true) z
    (use_so 0 rows forms table_uses_so
    op)

told_same : (a b : Bool) → same_test a b ≡ true → a ≡ true → b ≡ true
told_same true b e f = e
told_same false b e f = cc

untrue : (b : Bool) → not b ≡ true → b ≡ false
untrue true e = cc
untrue false e = refl

-- seven tests that hold
seven : (a b c d e f g : Bool) → (a && (b && (c && (d && (e && (f && g)))))) ≡ true → (a ≡ true) × (b ≡ true)
    × (c ≡ true) × (d ≡ true) × (e ≡ true) × (f ≡ true) × (g ≡ true)
seven true true true true true true g h = (refl, refl, refl, refl, refl, refl, h)
seven false b c d e f g h = cc
seven true false c d e f g h = cc
seven true true false d e f g h = cc
seven true true true false e f g h = cc
seven true true true true false f g h = cc
seven true true true true true false g h = cc

-- the entries that an opcode needs, and whether it is a type test
entries_are : (op : ℕ) (how : Use) → entries_so how op ≡ true
    → ((entry : PoolEntry) → is_needed_by entry op ≡ true → is_used_by how entry ≡ true)
    × (lies_between card.checkcast card.instanceof op ≡ false)
entries_are op how e =
    let f = seven (same_test (is_needed_by (Classref (Inside 0)) op) (uses_class how)) (same_test (is_needed_by
    (InstanceFieldref (Inside 0) 0) op) (uses_field how)) (same_test (is_needed_by (VirtualMethodref (Inside 0) 0) op)
    (uses_virtual how)) (same_test (is_needed_by (SuperMethodref (Inside 0) 0) op) (uses_super how)) (same_test
    (is_needed_by (StaticFieldref (statics.Inside 0)) op) (uses_cell how)) (same_test (is_needed_by (StaticMethodref
    (statics.Inside 0)) op) (uses_method how)) (not (lies_between card.checkcast card.instanceof op)) e in
    (needed f.0 f.1 f.2 f.3 f.4 f.5, untrue (lies_between card.checkcast card.instanceof op) f.6)
  where
    needed : same_test (is_needed_by (Classref (Inside 0)) op) (uses_class how) ≡ true
        → same_test (is_needed_by (InstanceFieldref (Inside 0) 0) op) (uses_field how) ≡ true
        → same_test (is_needed_by (VirtualMethodref (Inside 0) 0) op) (uses_virtual how) ≡ true
        → same_test (is_needed_by (SuperMethodref (Inside 0) 0) op) (uses_super how) ≡ true
        → same_test (is_needed_by (StaticFieldref (statics.Inside 0)) op) (uses_cell how) ≡ true
        → same_test (is_needed_by (StaticMethodref (statics.Inside 0)) op) (uses_method how) ≡ true
        → (entry : PoolEntry) → is_needed_by entry op ≡ true → is_used_by how entry ≡ true
    needed a b c d g h (Classref class) n = told_same (is_needed_by (Classref (Inside 0)) op) (uses_class how) a n
    needed a b c d g h (InstanceFieldref class token) n = told_same (is_needed_by (InstanceFieldref (Inside 0) 0) op)
        (uses_field how) b n
    needed a b c d g h (VirtualMethodref class token) n = told_same (is_needed_by (VirtualMethodref (Inside 0) 0) op)
        (uses_virtual how) c n
    needed a b c d g h (SuperMethodref class token) n = told_same (is_needed_by (SuperMethodref (Inside 0) 0) op)
        (uses_super how) d n
    needed a b c d g h (StaticFieldref member) n = told_same (is_needed_by (StaticFieldref (statics.Inside 0)) op)
        (uses_cell how) g n
    needed a b c d g h (StaticMethodref member) n = told_same (is_needed_by (StaticMethodref (statics.Inside 0)) op)
        (uses_method how) h n

-- an opcode whose row uses an entry has an index alone behind it, and needs an entry that is used so
pub use_is : (op : ℕ) (how : Use) → row op ≡ Uses how → (is_index_form (form op) ≡ true)
    × ((entry : PoolEntry) → is_needed_by entry op ≡ true → is_used_by how entry ≡ true)
    × (lies_between card.checkcast card.instanceof op ≡ false)
use_is op how e =
    let so = both_true (is_index_form (form op)) (entries_so how op) (subst (λ r. uses_so r op (form op) ≡ true) e
    (op_use_so op)) in
    let r = entries_are op how so.1 in
    (so.0, r.0, r.1)

-- ---- places of switches

arms_ranged : (at : ℕ) (low : ℤ) (offsets : List ℤ) → map (λ (a : Arm). a.to) (ranged at low offsets)
    ≡ map (moved at) offsets
arms_ranged at low [] = refl
arms_ranged at low (far ∷ offsets) = ap (λ xs. moved at far ∷ xs) (arms_ranged at (low +ℤ pos 1) offsets)

arms_paired : (at : ℕ) (pairs : List ℤ) → map (λ (a : Arm). a.to) (paired at pairs) ≡ map (moved at) (pair_offsets
    pairs)
arms_paired at [] = refl
arms_paired at (value ∷ []) = refl
arms_paired at (value ∷ far ∷ pairs) = ap (λ xs. moved at far ∷ xs) (arms_paired at pairs)

-- ---- jumps, switches and returns

module _ (l : Loaded) (program : Program) (result : ValueType) (part at : ℕ) (pool : List PoolEntry) where
  pub jump_suits : (needs : List Need) (falls : Bool) (test : Test) (k : Operand) → BesideTest needs falls test
      → (operands table : List ℤ) → AreRead (k ∷ []) operands → Suits l program result (record idle {
        takes = needs;
        falls = falls;
        targets = map (moved at) operands;
      }) (operation l part pool at (Branches test) operands table)
  jump_suits needs falls test k b [] table r = absurd r
  jump_suits needs falls test k b (far ∷ []) table r = jump (moved at far) b
  jump_suits needs falls test k b (far ∷ x ∷ xs) table r = absurd r.1

  pub range_suits : (is_int : Bool) (k : Operand) (operands table : List ℤ) → AreRead (Signed2 ∷ k ∷ k ∷ []) operands
      → Suits l program result (record idle {
        takes = number_words (switched_words is_int);
        falls = false;
        targets = map (moved at) (default_of operands ++ table);
      }) (operation l part pool at (Ranged is_int) operands table)
  range_suits is_int k [] table r = absurd r
  range_suits is_int k (x ∷ []) table r = absurd r.1
  range_suits is_int k (x ∷ y ∷ []) table r = absurd r.1.1
  range_suits is_int k (other ∷ low ∷ high ∷ []) table r = subst (λ targets. Suits l program result (record idle {
    takes = number_words (switched_words is_int);
    falls = false;
    targets = moved at other ∷ targets;
  }) (Pick is_int (moved at other) (ranged at low table))) (arms_ranged at low table) (switch is_int (moved at other)
      (ranged at low table))
  range_suits is_int k (x ∷ y ∷ z ∷ u ∷ us) table r = absurd r.1.1.1

  pub pairs_suit : (is_int : Bool) (operands table : List ℤ) → AreRead (Signed2 ∷ Index2 ∷ []) operands
      → Suits l program result (record idle {
        takes = number_words (switched_words is_int);
        falls = false;
        targets = map (moved at) (default_of operands ++ pair_offsets table);
      }) (operation l part pool at (Paired is_int) operands table)
  pairs_suit is_int [] table r = absurd r
  pairs_suit is_int (x ∷ []) table r = absurd r.1
  pairs_suit is_int (other ∷ count ∷ []) table r = subst (λ targets. Suits l program result (record idle {
    takes = number_words (switched_words is_int);
    falls = false;
    targets = moved at other ∷ targets;
  }) (Pick is_int (moved at other) (paired at table))) (arms_paired at table) (switch is_int (moved at other) (paired at
      table))
  pairs_suit is_int (x ∷ y ∷ z ∷ us) table r = absurd r.1.1

module _ (l : Loaded) (program : Program) (result : ValueType) where
  -- a return of another letter is a misfit
  pub return_suits : (letter : Option Letter) (needs : List Need) → not (is_returned_by letter result) ≡ false
      → Suits l program result (record idle {
        takes = if is_returned_by letter result then needs_of result else needs;
        falls = false;
        misfits = not (is_returned_by letter result);
      }) (Touch (Return letter))
  return_suits letter needs e = by (is_returned_by letter result) refl e
    where
      by : (b : Bool) → is_returned_by letter result ≡ b → not b ≡ false → Suits l program result (record idle {
        takes = if b then needs_of result else needs;
        falls = false;
        misfits = not b;
      }) (Touch (Return letter))
      by true is h = return letter is
      by false is h = cc

-- ---- arrays of numbers

-- what the number of a type of arrays of numbers means
abbrev IsNumbers : Loaded → (number : ℕ) → (type : List ℕ) → Type 0
IsNumbers l n type = (element : Element) × ((element_type n ≡ Some element) × (shape_by l type ≡ Some (OfNumbers
    element)))

same : (n k : ℕ) → (n == k) ≡ true → n ≡ k
same n k e = grind (arith, nat_tests)

none_else : (n : ℕ) → (n == 10) ≡ false → (n == 11) ≡ false → (n == 12) ≡ false → (n == 13) ≡ false
    → (nat_le 10 n && nat_le n 13) ≡ true → ⊥
none_else n a b c d e = grind (arith, nat_tests)

pub numbers_mean : (l : Loaded) (n : ℕ) (type : List ℕ) → numbers_type n ≡ Some type → IsNumbers l n type
numbers_mean l n type e = within (nat_le 10 n && nat_le n 13) refl e
  where
    by : (a b c d : Bool) → (n == 10) ≡ a → (n == 11) ≡ b → (n == 12) ≡ c → (n == 13) ≡ d
        → (nat_le 10 n && nat_le n 13) ≡ true → IsNumbers l n (n ∷ [])
    by true b c d i j k m h = subst (λ x. IsNumbers l x (x ∷ [])) (sym (same n 10 i)) (Booleans, (refl, refl))
    by false true c d i j k m h = subst (λ x. IsNumbers l x (x ∷ [])) (sym (same n 11 j)) (Bytes, (refl, refl))
    by false false true d i j k m h = subst (λ x. IsNumbers l x (x ∷ [])) (sym (same n 12 k)) (Shorts, (refl, refl))
    by false false false true i j k m h = subst (λ x. IsNumbers l x (x ∷ [])) (sym (same n 13 m)) (Ints, (refl, refl))
    by false false false false i j k m h = absurd (none_else n i j k m h)

    within : (b : Bool) → (nat_le 10 n && nat_le n 13) ≡ b → (if b then Some (n ∷ []) else None) ≡ Some type
        → IsNumbers l n type
    within true is h =
        let t : n ∷ [] ≡ type = cc in
        subst (IsNumbers l n) t (by (n == 10) (n == 11) (n == 12) (n == 13) refl refl refl refl is)
    within false is h = cc
