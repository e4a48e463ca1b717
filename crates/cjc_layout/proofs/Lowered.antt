-- What is laid out has the sizes that a layout counts, and handlers stand where a layout has them.
use Rattle.std.proofs.Common.{◌≡◌, ℕ, zero, suc, ◌+◌, ◌-◌, ◌*◌, ◌<◌, ◌≤◌, refl, sym, ap, subst, ◌∙◌, ⊎_elim, arith}
use Rattle.std.proofs.Common.{Bool, true, false, List, [], ◌∷◌, length, map, replicate, ℤ, pos}
use Rattle.std.proofs.lemmas.Int.{ints}
use Rattle.std.proofs.lemmas.Bool.{cases_lt}
use Rattle.std.specs.Prelude.{Option, Some, None, slice_get, if◌then◌else◌, ◌&&◌, ◌==◌, not, ◌+ℤ◌, ◌-ℤ◌}
use Rattle.std.proofs.lemmas.Option.{slice_get_past}
use Rattle.cjc_ncode.specs.LowerBytes.declared.fault.MemberId.{MemberId}
use Rattle.cjc_ncode.specs.LowerCapRead.declared.tree.Handler.{Handler as Written}
use Rattle.cjc_ncode.specs.LowerCapRead.Opcodes.{Operand, Signed2, Form, Fields, Table, Lookup, form, forms, width}
use Rattle.cjc_ncode.specs.LowerCapRead.Opcodes.{widths}
use Rattle.cjc_ncode.specs.LowerCapRead.Decode.{Instruction, up_to, pairs, size}
use Rattle.cjc_ncode.specs.LowerCapRead.Decode as Decode
use Rattle.cjc_ncode.specs.LowerCardSemantics.Bytecode.Meanings.{Meaning, Branches, Ranged, Paired, meanings, meaning}
use Rattle.cjc_ncode.specs.LowerCardSemantics.Bytecode.Meanings.{known_meaning}
use Rattle.cjc_ncode.specs.declared.narrow.NCase.{NCase}
use Rattle.cjc_ncode.specs.declared.narrow.NCatch.{NCatch}
use Rattle.cjc_ncode.specs.declared.narrow.NInsn.{NInsn}
use Rattle.cjc_ncode.specs.declared.narrow.NInsn.TheVariants as narrow
use Rattle.cjc_ncode.specs.Lowering.Naming.{Naming}
use Rattle.cjc_ncode.specs.Lowering.Laid as Laid
use Rattle.cjc_ncode.specs.Lowering.Laid.{IsFormed, Tests, wide_jump, class_index}
use Rattle.cjc_ncode.specs.Lowering.Handlers as Lower
use Rattle.cjc_ncode.specs.Lowering.Handlers.{meets_any}
use Rattle.cjc_ncode.specs.Lowering.Placed as Placed
use Rattle.cjc_layout.specs.Sizes.{size_by, insn_size, bytes_before}
use Rattle.cjc_layout.specs.Forms.{HasForm, IsTest, a_class, numbers, references, bare, push, local, increase, words}
use Rattle.cjc_layout.specs.Forms.{jump, range, lookup, named, by_interface, new_array, casts, asks}
use Rattle.cjc_layout.specs.Handlers.{handlers_of}
use Rattle.cjc_layout.specs.OnCard.{handler_on_card}
use Rattle.cjc_layout.proofs.Opcodes.{table_opcode, lookup_opcode}
use Rattle.cjc_ncode.proofs.BytesBools.{and_true}
use Rattle.cjc_ncode.proofs.BytesNumbers.{number_same}

-- ---- by form

module _ (op : ℕ) where
  none_size : (o : Option Form) → Decode.size_by o (record { opcode = op; operands = []; table = [] }) ≡ size_by o 0
  none_size None = refl
  none_size (Some (Fields xs)) = omega arith
  none_size (Some (Table m)) = omega arith
  none_size (Some (Lookup m)) = omega arith

  one_size : (o : Option Form) (x : ℤ) → Decode.size_by o (record { opcode = op; operands = x ∷ []; table = [] })
      ≡ size_by o 0
  one_size None x = refl
  one_size (Some (Fields xs)) x = omega arith
  one_size (Some (Table m)) x = omega arith
  one_size (Some (Lookup m)) x = omega arith

  two_size : (o : Option Form) (x y : ℤ) → ((m : Operand) → o ≡ Some (Lookup m) → ⊥)
      → Decode.size_by o (record { opcode = op; operands = x ∷ y ∷ []; table = [] }) ≡ size_by o 0
  two_size None x y away = refl
  two_size (Some (Fields xs)) x y away = omega arith
  two_size (Some (Table m)) x y away = omega arith
  two_size (Some (Lookup m)) x y away = absurd (away m refl)

  same_widths : (n : ℕ) → widths (replicate n Signed2) ≡ 2 * n
  same_widths zero = refl
  same_widths (suc n) = let r = same_widths n in omega arith

  pair_widths : (m : Operand) (n : ℕ) → widths (pairs m n) ≡ (width m + 2) * n
  pair_widths m zero = omega arith
  pair_widths m (suc n) = let r = pair_widths m n in omega arith

  as_many : (c : ℕ) → up_to (pos c -ℤ pos 1) ≡ c
  as_many zero = refl
  as_many (suc c) = let e : pos (suc c) -ℤ pos 1 ≡ pos c = omega (arith, ints) in ap up_to e

  range_count : (low : ℤ) (c : ℕ) → up_to (((low +ℤ pos c) -ℤ pos 1) -ℤ low) ≡ c
  range_count low c = let e : ((low +ℤ pos c) -ℤ pos 1) -ℤ low ≡ pos c -ℤ pos 1 = omega (arith, ints) in ap up_to e
      ∙ as_many c

  range_size : (o : Option Form) (x low : ℤ) (c : ℕ) (ts : List ℤ) → ((m : Operand) → o ≡ Some (Lookup m) → ⊥)
      → Decode.size_by o (record { opcode = op; operands = x ∷ low ∷ ((low +ℤ pos c) -ℤ pos 1) ∷ []; table = ts })
      ≡ size_by o c
  range_size None x low c ts away = refl
  range_size (Some (Fields xs)) x low c ts away = omega arith
  range_size (Some (Table m)) x low c ts away =
      let e = ap (λ n. widths (replicate n Signed2)) (range_count low c) ∙ same_widths c in omega arith
  range_size (Some (Lookup m)) x low c ts away = absurd (away m refl)

  pairs_size : (o : Option Form) (x : ℤ) (c : ℕ) (ts : List ℤ) → ((m : Operand) → o ≡ Some (Table m) → ⊥)
      → Decode.size_by o (record { opcode = op; operands = x ∷ pos c ∷ []; table = ts }) ≡ size_by o c
  pairs_size None x c ts away = refl
  pairs_size (Some (Fields xs)) x c ts away = omega arith
  pairs_size (Some (Table m)) x c ts away = absurd (away m refl)
  pairs_size (Some (Lookup m)) x c ts away = let e = pair_widths m c in omega arith

-- ---- by meaning

abbrev is_branch : Meaning → Bool
is_branch (Branches test) = true
is_branch _ = false

abbrev is_ranged : Meaning → Bool
is_ranged (Ranged is_int) = true
is_ranged _ = false

abbrev is_paired : Meaning → Bool
is_paired (Paired is_int) = true
is_paired _ = false

table_ranged : (op : ℕ) (m : Operand) → form op ≡ Some (Table m) → is_ranged (meaning op) ≡ true
unfolding meaning
table_ranged op m e = ⊎_elim
    (λ f. subst (λ n. is_ranged (meaning n) ≡ true) (sym f) refl)
    (λ f. subst (λ n. is_ranged (meaning n) ≡ true) (sym f) refl)
    (table_opcode op m e)

lookup_paired : (op : ℕ) (m : Operand) → form op ≡ Some (Lookup m) → is_paired (meaning op) ≡ true
unfolding meaning
lookup_paired op m e = ⊎_elim
    (λ f. subst (λ n. is_paired (meaning n) ≡ true) (sym f) refl)
    (λ f. subst (λ n. is_paired (meaning n) ≡ true) (sym f) refl)
    (lookup_opcode op m e)

no_lookup : (op : ℕ) → is_paired (meaning op) ≡ false → (m : Operand) → form op ≡ Some (Lookup m) → ⊥
no_lookup op away m e = let clash : true ≡ false = sym (lookup_paired op m e) ∙ away in cc

no_table : (op : ℕ) → is_ranged (meaning op) ≡ false → (m : Operand) → form op ≡ Some (Table m) → ⊥
no_table op away m e = let clash : true ≡ false = sym (table_ranged op m e) ∙ away in cc

-- a jump that has both forms has offsets of one byte and of two
abbrev jump_fine : ℕ → Bool
jump_fine op =
    if is_branch (meaning op) then (if is_branch (meaning (wide_jump op)) then (size_by (form op) 0 == 2)
    && (size_by (form (wide_jump op)) 0 == 3) else true) else true

abbrev all_fine : ℕ → Bool
all_fine zero = true
all_fine (suc n) = jump_fine n && all_fine n

jumps_fine : all_fine 185 ≡ true
unfolding meaning form forms
jumps_fine = refl

fine_below : (n op : ℕ) → all_fine n ≡ true → op < n → jump_fine op ≡ true
fine_below zero op e h = absurd (omega arith)
fine_below (suc n) op e h =
    let p = and_true (jump_fine n) (all_fine n) e in
    ⊎_elim (λ lt. fine_below n op p.1 lt) (λ le. let s : n ≡ op = omega arith in subst (λ k. jump_fine k ≡ true) s p.0)
    (cases_lt op n)

nothing_past : (op : ℕ) → 185 ≤ op → is_branch (meaning op) ≡ false
unfolding meaning
nothing_past op h = ap (λ o. is_branch (known_meaning o)) (slice_get_past meanings op h)

branch_sizes : (op : ℕ) → is_branch (meaning op) ≡ true → is_branch (meaning (wide_jump op)) ≡ true
    → (size_by (form op) 0 ≡ 2) × (size_by (form (wide_jump op)) 0 ≡ 3)
branch_sizes op e f = ⊎_elim (λ lt. found (fine_below 185 op jumps_fine lt)) (λ le. let clash : true ≡ false = sym e
    ∙ nothing_past op le in cc) (cases_lt op 185)
  where
    found : jump_fine op ≡ true → (size_by (form op) 0 ≡ 2) × (size_by (form (wide_jump op)) 0 ≡ 3)
    found g =
        let h : ((size_by (form op) 0 == 2) && (size_by (form (wide_jump op)) 0 == 3)) ≡ true =
        ap (λ b. if b then (size_by (form op) 0 == 2) && (size_by (form (wide_jump op)) 0 == 3) else true) (sym f)
        ∙ ap (λ b. if b then (if is_branch (meaning (wide_jump op)) then (size_by (form op) 0 == 2)
        && (size_by (form (wide_jump op)) 0 == 3) else true) else true) (sym e)
        ∙ g in
        let p = and_true (size_by (form op) 0 == 2) (size_by (form (wide_jump op)) 0 == 3) h in
        (number_same _ 2 p.0, number_same _ 3 p.1)

-- ---- formed instructions

test_has : (n : Naming) (kind : ℕ) (class : Option (List ℕ)) → Tests n kind class → IsTest kind class
test_has n kind class (Laid.a_class h c) = a_class
test_has n kind class (Laid.numbers element) = numbers element
test_has n kind class (Laid.references h c) = references

-- what is formed has its form
pub has_form : (n : Naming) (i : NInsn) → IsFormed n i → HasForm i
has_form n (narrow.Op op) Laid.bare = bare
has_form n (narrow.Push op value) (Laid.push e) = push e
has_form n (narrow.Local op index) (Laid.local e) = local e
has_form n (narrow.Inc op index by) (Laid.increase e) = increase e
has_form n (narrow.Words op high low) (Laid.words e) = words e
has_form n (narrow.Jump op target) (Laid.jump e f) = jump e f
has_form n (narrow.Switch op other low cases) (Laid.range e) = range e
has_form n (narrow.Switch op other low cases) (Laid.lookup e) = lookup e
has_form n (narrow.Named op key) (Laid.named e h f) = named e
has_form n (narrow.Interface nargs m) (Laid.by_interface h f) = by_interface
has_form n (narrow.NewArray kind) Laid.new_array = new_array
has_form n (narrow.TypeTest op kind class) (Laid.casts e t) = casts e (test_has n kind class t)
has_form n (narrow.TypeTest op kind class) (Laid.asks e t) = asks e (test_has n kind class t)

-- ---- of instructions of their forms

module _ (n : Naming) (w : Bool) where
  jump_size : (w : Bool) (op target : ℕ) → is_branch (meaning op) ≡ true → is_branch (meaning (wide_jump op)) ≡ true
      → Placed.insn_size n w (narrow.Jump op target) ≡ (if w then 3 else 2)
  jump_size true op target e f = one_size (wide_jump op) (form (wide_jump op)) _ ∙ (branch_sizes op e f).1
  jump_size false op target e f = one_size op (form op) _ ∙ (branch_sizes op e f).0

  interface_size : (nargs : ℕ) (m : MemberId) → Placed.insn_size n w (narrow.Interface nargs m)
      ≡ insn_size w (narrow.Interface nargs m)
  unfolding form forms
  interface_size nargs m = refl

  array_size : (kind : ℕ) → Placed.insn_size n w (narrow.NewArray kind) ≡ insn_size w (narrow.NewArray kind)
  unfolding form forms
  array_size kind = refl

  switch_range : (op other : ℕ) (low : ℤ) (cases : List NCase) (is_int : Bool) → meaning op ≡ Ranged is_int
      → Placed.insn_size n w (narrow.Switch op other low cases) ≡ size_by (form op) (length cases)
  switch_range op other low cases is_int e =
      ap (λ m. size (Laid.switch_as n (λ label. 0) m 0 op other low cases)) e
      ∙ range_size op (form op) _ low (length cases) _ (no_lookup op (ap is_paired e))

  switch_lookup : (op other : ℕ) (low : ℤ) (cases : List NCase) (is_int : Bool) → meaning op ≡ Paired is_int
      → Placed.insn_size n w (narrow.Switch op other low cases) ≡ size_by (form op) (length cases)
  switch_lookup op other low cases is_int e =
      ap (λ m. size (Laid.switch_as n (λ label. 0) m 0 op other low cases)) e
      ∙ pairs_size op (form op) _ (length cases) _ (no_table op (ap is_ranged e))

  pub size_same : (i : NInsn) → HasForm i → Placed.insn_size n w i ≡ insn_size w i
  size_same (narrow.Op op) bare = none_size op (form op)
  size_same (narrow.Push op value) (push e) = one_size op (form op) _
  size_same (narrow.Local op index) (local e) = one_size op (form op) _
  size_same (narrow.Inc op index by) (increase e) = two_size op (form op) _ _ (no_lookup op (ap is_paired e))
  size_same (narrow.Words op high low) (words e) = one_size op (form op) _
  size_same (narrow.Jump op target) (jump e f) = jump_size w op target (ap is_branch e) (ap is_branch f)
  size_same (narrow.Switch op other low cases) (range {is_int = is_int} e) = switch_range op other low cases is_int e
  size_same (narrow.Switch op other low cases) (lookup {is_int = is_int} e) = switch_lookup op other low cases is_int e
  size_same (narrow.Named op key) (named e) = one_size op (form op) _
  size_same (narrow.Interface nargs m) by_interface = interface_size nargs m
  size_same (narrow.NewArray kind) new_array = array_size kind
  size_same (narrow.TypeTest op kind class) (casts e t) = two_size op (form op) _ _ (no_lookup op (ap is_paired e))
  size_same (narrow.TypeTest op kind class) (asks e t) = two_size op (form op) _ _ (no_lookup op (ap is_paired e))

-- the offsets of labels are the same
pub before_same : (n : Naming) (insns : List NInsn) (wide : List Bool) → ((k : ℕ) (i : NInsn)
    → slice_get insns k ≡ Some i → HasForm i) → (k : ℕ) → Placed.bytes_before n insns wide k ≡ bytes_before insns wide k
before_same n insns wide formed zero = refl
before_same n [] wide formed (suc k) = refl
before_same n (i ∷ insns) [] formed (suc k) = refl
before_same n (i ∷ insns) (w ∷ wide) formed (suc k) =
    let s = size_same n w i (formed 0 i refl) in
    let r = before_same n insns wide (λ j x e. formed (suc j) x e) k in omega arith

-- ---- handlers

abbrev with_length : Naming → (first : ℕ) → (to : ℕ → ℕ) → NCatch → List NCatch → ℕ → Written
with_length n first to c cs len = record {
  start = first + to c.start;
  stop = not (meets_any c cs);
  length = len;
  handler = first + to c.target;
  catch_index = class_index n c.class;
}

pub handlers_placed : (n : Naming) (first : ℕ) (to : ℕ → ℕ) (cs : List NCatch)
    → map (handler_on_card n first) (handlers_of to cs) ≡ Lower.handlers_of n (λ k. first + to k) cs
handlers_placed n first to [] = refl
handlers_placed n first to (c ∷ cs) =
    let e : to c.end - to c.start ≡ (first + to c.end) - (first + to c.start) = omega arith in
    ap (λ len. with_length n first to c cs len ∷ map (handler_on_card n first) (handlers_of to cs)) e
    ∙ ap (λ hs. Lower.handler_of n (λ k. first + to k) c cs ∷ hs) (handlers_placed n first to cs)
