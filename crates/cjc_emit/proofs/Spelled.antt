-- What is written of an instruction is how bytes say it.
use Rattle.std.proofs.Common.{◌≡◌, ℕ, zero, suc, ◌+◌, ◌-◌, ◌*◌, ◌/◌, ◌%◌, ◌^◌, ◌<◌, refl, sym, ap, subst, ◌∙◌}
use Rattle.std.proofs.Common.{⊎_elim, arith, Bool, true, false, List, [], ◌∷◌, ◌++◌, length, replicate, append_assoc}
use Rattle.std.proofs.Common.{append-nil, ℤ, pos, negsuc}
use Rattle.std.specs.Prelude.{◌⊎◌, Option, Some, None, slice_get, option_map, option_and_then, nat_lt, ◌&&◌, ◌||◌, ◌==◌}
use Rattle.std.specs.Prelude.{if◌then◌else◌, ◌+ℤ◌, ◌-ℤ◌}
use Rattle.std.proofs.lemmas.Bool.{cases_lt}
use Rattle.std.proofs.lemmas.Bool.Decides.{nat_tests}
use Rattle.std.proofs.lemmas.Int.{ints}
use Rattle.cjc_layout.specs.Bytes.declared.fault.MemberId.{MemberId}
use Rattle.cjc_layout.specs.CapRead.Opcodes.{Operand, Byte, Signed1, Signed2, Signed4, Index1, Index2, Form, Fields}
use Rattle.cjc_layout.specs.CapRead.Opcodes.{Table}
use Rattle.cjc_layout.specs.CapRead.Opcodes.{Lookup, form, forms, info, op_info, width}
use Rattle.cjc_layout.specs.CapRead.Decode.{Instruction, operand_bytes, operands_bytes, two_bytes, four_bytes}
use Rattle.cjc_layout.specs.CapRead.Decode.{before_table}
use Rattle.cjc_layout.specs.CapRead.Decode.{up_to, pairs, emitted, below, IsWithin, positive, negative, Fits, AllFit}
use Rattle.cjc_layout.specs.CapRead.Decode.{none}
use Rattle.cjc_layout.specs.CapRead.Decode.{more, IsWritable}
use Rattle.cjc_layout.specs.CardSemantics.Bytecode.Meanings.{Meaning, Branches, Ranged, Paired, meaning}
use Rattle.cjc_ncode.specs.declared.narrow.NCase.{NCase}
use Rattle.cjc_ncode.specs.declared.narrow.NInsn.{NInsn}
use Rattle.cjc_ncode.specs.declared.narrow.NInsn.TheVariants as insns
use Rattle.cjc_ncode.specs.declared.narrow.PoolKey.{PoolKey}
use Rattle.cjc_ncode.specs.declared.narrow.PoolKey.TheVariants as keys
use Rattle.cjc_ncode.specs.Lowering.Naming.{Naming}
use Rattle.cjc_layout.specs.CapRead.Card.{invokeinterface, newarray}
use Rattle.cjc_ncode.specs.Lowering.Laid.{distance, laid, matches, offsets, switch_as, untabled, wide_jump}
use Rattle.cjc_ncode.specs.Lowering.Placed.{bytes_by, bytes_of, IsSpellable}
use Rattle.cjc_layout.specs.Forms.{HasForm, bare, push, local, increase, words, jump, range, lookup, named}
use Rattle.cjc_layout.specs.Forms.{by_interface, new_array, casts, asks}
use Rattle.cjc_layout.proofs.Opcodes.{lookup_opcode}
use Rattle.cjc_emit.specs.Emitted.{HasIndex, HasNames, IsNamedBy}
use Rattle.cjc_emit.specs.Working.{bits, index_in, jump_opcode, known, last_bits, length_by, low_bytes, lookup_bytes}
use Rattle.cjc_emit.specs.Working.{match_bytes, offset_bytes, range_bytes, switch_bytes, table_bytes, with_one}
use Rattle.cjc_emit.specs.Working.{with_two, written}
use Rattle.cjc_emit.proofs.EmitLaws.Forms.{below as known_below}
use Rattle.cjc_ncode.proofs.BytesBools.{and_true}
use Rattle.cjc_ncode.proofs.BytesNumbers.{number_same}

-- ---- numbers

one_low : (n m : ℕ) → n % 256 ≡ m → low_bytes 1 n ≡ m ∷ []
one_low n m e = ap (λ x. x ∷ []) e

two_low : (n m : ℕ) → n % 65536 ≡ m → low_bytes 2 n ≡ two_bytes m
two_low n m e =
    let high : n / 256 % 256 ≡ m / 256 = omega arith in
    let low : n % 256 ≡ m % 256 = omega arith in
    ap (λ x. x ∷ n % 256 ∷ []) high ∙ ap (λ x. m / 256 ∷ x ∷ []) low

pub number_low : (kind : Operand) (z : ℤ) → Fits kind z → low_bytes (width kind) (bits z) ≡ operand_bytes kind z
number_low Byte (pos n) (below h) = one_low n n (omega arith)
number_low Byte (negsuc n) h = elim h [ ]
number_low Index1 (pos n) (below h) = one_low n n (omega arith)
number_low Index1 (negsuc n) h = elim h [ ]
number_low Index2 (pos n) (below h) = two_low n n (omega arith)
number_low Index2 (negsuc n) h = elim h [ ]
number_low Signed1 (pos n) (positive h) = one_low n n (omega arith)
number_low Signed1 (negsuc n) (negative h) = one_low (4294967296 - suc n) (255 - n) (omega arith)
number_low Signed2 (pos n) (positive h) = two_low n n (omega arith)
number_low Signed2 (negsuc n) (negative h) = two_low (4294967296 - suc n) (65535 - n) (omega arith)
number_low Signed4 (pos n) (positive h) = refl
number_low Signed4 (negsuc n) (negative h) = let e : 4294967296 - suc n ≡ 4294967295 - n = omega arith
    in ap four_bytes e

-- ---- one operand and two

module _ (op : ℕ) where
  one_written : (k : Operand) (n : ℕ) → op_info op ≡ Some (info (Fields (k ∷ []))) → with_one op n ≡ op
      ∷ low_bytes (width k) n
  one_written k n e =
      let w : 1 + (width k + 0) - 1 ≡ width k = omega arith in
      ap (λ i. op ∷ low_bytes (length_by i - 1) n) e ∙ ap (λ w. op ∷ low_bytes w n) w

  two_written : (k l : Operand) (first n : ℕ) → width k ≡ 1 → op_info op ≡ Some (info (Fields (k ∷ l ∷ [])))
      → with_two op first n ≡ op ∷ first ∷ low_bytes (width l) n
  two_written k l first n one e =
      let w : 1 + (width k + (width l + 0)) - 2 ≡ width l = omega arith in
      ap (λ i. op ∷ first ∷ low_bytes (length_by i - 2) n) e ∙ ap (λ w. op ∷ first ∷ low_bytes w n) w

  info_of : (f : Form) → form op ≡ Some f → op_info op ≡ Some (info f)
  unfolding op_info
  info_of f e = ap (option_map info) e

  one_as : (f : Form) (z : ℤ) → form op ≡ Some f → AllFit (before_table f) (z ∷ []) → with_one op (bits z)
      ≡ emitted f (untabled op (z ∷ []))
  one_as (Fields []) z e h = elim h [ ]
  one_as (Fields (k ∷ [])) z e (more h hs) =
      one_written k (bits z) (info_of (Fields (k ∷ [])) e)
      ∙ (ap (λ xs. op ∷ xs) (number_low k z h)
      ∙ ap (λ xs. op ∷ xs) (sym (append-nil (operand_bytes k z))
      ∙ ap (λ xs. xs ++ []) (sym (append-nil (operand_bytes k z)))))
  one_as (Fields (k ∷ l ∷ ks)) z e (more h hs) = elim hs [ ]
  one_as (Table m) z e (more h hs) = elim hs [ ]
  one_as (Lookup m) z e (more h hs) = elim hs [ ]

  pub one_spelled : (z : ℤ) → IsSpellable (untabled op (z ∷ [])) → with_one op (bits z)
      ≡ bytes_of (untabled op (z ∷ []))
  one_spelled z s = one_as s.form z s.writable.form s.writable.operands
      ∙ sym (ap (λ o. bytes_by o (untabled op (z ∷ []))) s.writable.form)

-- of two operands the first has one byte
abbrev first_fine : Option Form → Bool
first_fine (Some (Fields (k ∷ l ∷ []))) = width k == 1
first_fine o = true

abbrev all_first : List (Option Form) → Bool
all_first [] = true
all_first (o ∷ os) = first_fine o && all_first os

forms_first : all_first forms ≡ true
unfolding forms
forms_first = refl

first_at : (k : ℕ) (os : List (Option Form)) → all_first os ≡ true → (o : Option Form) → slice_get os k ≡ Some o
    → first_fine o ≡ true
first_at k [] e o g = cc
first_at zero (x ∷ os) e o g =
    let h = and_true (first_fine x) (all_first os) e in
    let s : x ≡ o = cc in subst (λ y. first_fine y ≡ true) s h.0
first_at (suc k) (x ∷ os) e o g = first_at k os (and_true (first_fine x) (all_first os) e).1 o g

first_found : (o : Option (Option Form)) (f : Form) → ((x : Option Form) → o ≡ Some x → first_fine x ≡ true)
    → option_and_then (λ f. f) o ≡ Some f → first_fine (Some f) ≡ true
first_found None f h e = cc
first_found (Some x) f h e = subst (λ y. first_fine y ≡ true) e (h x refl)

first_of_two : (op : ℕ) (f : Form) → form op ≡ Some f → first_fine (Some f) ≡ true
unfolding form
first_of_two op f e = first_found (slice_get forms op) f (λ x g. first_at op forms forms_first x g) e

byte_alone : (k : Operand) (n : ℕ) → width k ≡ 1 → operand_bytes k (pos n) ≡ n ∷ []
byte_alone Byte n e = refl
byte_alone Signed1 n e = refl
byte_alone Index1 n e = refl
byte_alone Signed2 n e = absurd (omega arith)
byte_alone Signed4 n e = absurd (omega arith)
byte_alone Index2 n e = absurd (omega arith)

-- ---- what meanings say of opcodes

abbrev is_branch : Meaning → Bool
is_branch (Branches test) = true
is_branch _ = false

abbrev is_ranged : Meaning → Bool
is_ranged (Ranged is_int) = true
is_ranged _ = false

abbrev is_paired : Meaning → Bool
is_paired (Paired is_int) = true
is_paired _ = false

abbrev switch_fine : ℕ → Bool
switch_fine op = (if is_ranged (meaning op) then op == 0x73 || op == 0x74 else true) && (if is_paired (meaning op)
    then op == 0x75 || op == 0x76 else true)

abbrev all_fine : ℕ → Bool
all_fine zero = true
all_fine (suc n) = switch_fine n && all_fine n

switches_fine : all_fine 185 ≡ true
unfolding meaning
switches_fine = refl

fine_below : (n op : ℕ) → all_fine n ≡ true → op < n → switch_fine op ≡ true
fine_below zero op e h = absurd (omega arith)
fine_below (suc n) op e h =
    let p = and_true (switch_fine n) (all_fine n) e in
    ⊎_elim (λ lt. fine_below n op p.1 lt) (λ le. let s : n ≡ op = omega arith in subst (λ k. switch_fine k ≡ true) s
    p.0) (cases_lt op n)

either : (op a b : ℕ) → (op == a || op == b) ≡ true → (op ≡ a) ⊎ (op ≡ b)
either op a b e = grind (arith, nat_tests)

ranged_opcode : (op : ℕ) → is_ranged (meaning op) ≡ true → (op ≡ 0x73) ⊎ (op ≡ 0x74)
ranged_opcode op e =
    let p = and_true _ _ (fine_below 185 op switches_fine (known_below is_ranged refl op e)) in
    either op 0x73 0x74 (sym (ap (λ b. if b then op == 0x73 || op == 0x74 else true) e) ∙ p.0)

paired_opcode : (op : ℕ) → is_paired (meaning op) ≡ true → (op ≡ 0x75) ⊎ (op ≡ 0x76)
paired_opcode op e =
    let p = and_true _ _ (fine_below 185 op switches_fine (known_below is_paired refl op e)) in
    either op 0x75 0x76 (sym (ap (λ b. if b then op == 0x75 || op == 0x76 else true) e) ∙ p.1)

-- an opcode of two operands is no lookup switch, where it means none
lookup_paired : (op : ℕ) (m : Operand) → (op ≡ 0x75) ⊎ (op ≡ 0x76) → is_paired (meaning op) ≡ true
unfolding meaning
lookup_paired op m e = ⊎_elim
    (λ f. subst (λ n. is_paired (meaning n) ≡ true) (sym f) refl)
    (λ f. subst (λ n. is_paired (meaning n) ≡ true) (sym f) refl)
    e

two_as : (op first : ℕ) (f : Form) (z : ℤ) → form op ≡ Some f → ((m : Operand) → f ≡ Lookup m → ⊥)
    → AllFit (before_table f) (pos first ∷ z ∷ []) → with_two op first (bits z)
    ≡ emitted f (untabled op (pos first ∷ z ∷ []))
two_as op first (Fields []) z e away h = elim h [ ]
two_as op first (Fields (k ∷ [])) z e away (more h hs) = elim hs [ ]
two_as op first (Fields (k ∷ l ∷ [])) z e away (more h (more g hs)) =
    let one : width k ≡ 1 = number_same (width k) 1 (first_of_two op (Fields (k ∷ l ∷ [])) e) in
    let last = operand_bytes l z in
    two_written op k l first (bits z) one (info_of op (Fields (k ∷ l ∷ [])) e)
    ∙ (ap (λ xs. op ∷ first ∷ xs) (number_low l z g)
    ∙ (ap (λ xs. op ∷ first ∷ xs) (sym (append-nil last) ∙ ap (λ xs. xs ++ []) (sym (append-nil last)))
    ∙ ap (λ xs. op ∷ ((xs ++ (last ++ [])) ++ [])) (sym (byte_alone k first one))))
two_as op first (Fields (k ∷ l ∷ m ∷ ks)) z e away (more h (more g hs)) = elim hs [ ]
two_as op first (Table m) z e away (more h (more g hs)) = elim hs [ ]
two_as op first (Lookup m) z e away h = absurd (away m refl)

no_lookup : (op : ℕ) → is_paired (meaning op) ≡ false → (m : Operand) → form op ≡ Some (Lookup m) → ⊥
no_lookup op off m e = let clash : true ≡ false = sym (lookup_paired op m (lookup_opcode op m e)) ∙ off in cc

pub two_spelled : (op first : ℕ) (z : ℤ) → is_paired (meaning op) ≡ false
    → IsSpellable (untabled op (pos first ∷ z ∷ [])) → with_two op first (bits z)
    ≡ bytes_of (untabled op (pos first ∷ z ∷ []))
two_spelled op first z off s =
    two_as op first s.form z s.writable.form (λ m g. no_lookup op off m (subst (λ f. form op ≡ Some f) g
    s.writable.form)) s.writable.operands
    ∙ sym (ap (λ o. bytes_by o (untabled op (pos first ∷ z ∷ []))) s.writable.form)

-- ---- no operand, and fixed opcodes

bare_as : (op : ℕ) (f : Form) → AllFit (before_table f) [] → op ∷ [] ≡ emitted f (untabled op [])
bare_as op (Fields []) h = refl
bare_as op (Fields (k ∷ ks)) h = elim h [ ]
bare_as op (Table m) h = elim h [ ]
bare_as op (Lookup m) h = elim h [ ]

bare_spelled : (op : ℕ) → IsSpellable (untabled op []) → op ∷ [] ≡ bytes_of (untabled op [])
bare_spelled op s = bare_as op s.form s.writable.operands ∙ sym (ap (λ o. bytes_by o (untabled op [])) s.writable.form)

array_spelled : (kind : ℕ) → 0x90 ∷ kind ∷ [] ≡ bytes_of (untabled newarray (pos kind ∷ []))
unfolding form forms
array_spelled kind = refl

call_form : form invokeinterface ≡ Some (Fields (Byte ∷ Index2 ∷ Byte ∷ []))
unfolding form forms
call_form = refl

second_fits : {x y z : ℤ} → AllFit (Byte ∷ Index2 ∷ Byte ∷ []) (x ∷ y ∷ z ∷ []) → Fits Index2 y
second_fits (more h (more g hs)) = g

same_form : (o : Option Form) (f g : Form) → o ≡ Some f → o ≡ Some g → f ≡ g
same_form o f g d e = cc

call_spelled : (nargs index token : ℕ) → IsSpellable (untabled invokeinterface (pos nargs ∷ pos index ∷ pos token ∷ []))
    → 0x8E ∷ nargs ∷ (low_bytes 2 index ++ token ∷ []) ≡ bytes_of (untabled invokeinterface (pos nargs ∷ pos index
    ∷ pos token ∷ []))
call_spelled nargs index token s =
    let i = untabled invokeinterface (pos nargs ∷ pos index ∷ pos token ∷ []) in
    let e = same_form (form invokeinterface) s.form (Fields (Byte ∷ Index2 ∷ Byte ∷ [])) s.writable.form call_form in
    let h = second_fits (subst (λ f. AllFit (before_table f) (pos nargs ∷ pos index ∷ pos token ∷ [])) e
    s.writable.operands) in
    ap (λ xs. 0x8E ∷ nargs ∷ (xs ++ token ∷ [])) (number_low Index2 (pos index) h)
    ∙ sym (ap (λ o. bytes_by o i) call_form)

-- ---- switches

last_same : (low high : ℤ) (count : ℕ) → high ≡ (low +ℤ pos count) -ℤ pos 1 → IsWithin (2 ^ 31) low
    → IsWithin (2 ^ 31) high → last_bits (bits low) count ≡ bits high
last_same (pos a) (pos b) count e (positive h) (positive g) = omega (arith, ints, e)
last_same (pos a) (negsuc b) count e (positive h) (negative g) = omega (arith, ints, e)
last_same (negsuc a) (pos b) count e (negative h) (positive g) = omega (arith, ints, e)
last_same (negsuc a) (negsuc b) count e (negative h) (negative g) = omega (arith, ints, e)

within_more : (z : ℤ) → IsWithin 32768 z → IsWithin (2 ^ 31) z
within_more (pos n) (positive h) = positive (omega arith)
within_more (negsuc n) (negative h) = negative (omega arith)

regroup : (a b c d : List ℕ) → a ++ (b ++ (c ++ d)) ≡ (a ++ (b ++ (c ++ []))) ++ d
regroup a b c d = simp (append_assoc, append-nil)

regroup_two : (a b d : List ℕ) → a ++ (b ++ d) ≡ (a ++ (b ++ [])) ++ d
regroup_two a b d = simp (append_assoc, append-nil)

module _ (n : Naming) (to : ℕ → ℕ) (at : ℕ) where
  offsets_low : (count : ℕ) (cases : List NCase) → AllFit (replicate count Signed2) (offsets n to at cases)
      → offset_bytes to at cases ≡ operands_bytes (replicate count Signed2) (offsets n to at cases)
  offsets_low zero [] h = refl
  offsets_low (suc k) [] h = elim h [ ]
  offsets_low zero (c ∷ cases) h = elim h [ ]
  offsets_low (suc k) (c ∷ cases) (more h hs) =
      ap (λ xs. xs ++ offset_bytes to at cases) (number_low Signed2 (distance at (to c.target)) h)
      ∙ ap (λ xs. operand_bytes Signed2 (distance at (to c.target)) ++ xs) (offsets_low k cases hs)

  matches_low : (m : Operand) (cases : List NCase) → AllFit (pairs m (length cases)) (matches n to at cases)
      → match_bytes to at (width m) cases ≡ operands_bytes (pairs m (length cases)) (matches n to at cases)
  matches_low m [] h = refl
  matches_low m (c ∷ cases) (more h (more g hs)) =
      let far = distance at (to c.target) in
      ap (λ xs. xs ++ (low_bytes 2 (bits far) ++ match_bytes to at (width m) cases)) (number_low m c.value h)
      ∙ (ap (λ xs. operand_bytes m c.value ++ (xs ++ match_bytes to at (width m) cases)) (number_low Signed2 far g)
      ∙ ap (λ xs. operand_bytes m c.value ++ (operand_bytes Signed2 far ++ xs)) (matches_low m cases hs))

  module _ (op other : ℕ) (low : ℤ) (cases : List NCase) where
    abbrev high : ℤ
    high = (low +ℤ pos (length cases)) -ℤ pos 1

    abbrev far : ℤ
    far = distance at (to other)

    abbrev ranged : Instruction
    ranged = record { opcode = op; operands = far ∷ low ∷ high ∷ []; table = offsets n to at cases }

    abbrev looked_up : Instruction
    looked_up = record { opcode = op; operands = far ∷ pos (length cases) ∷ []; table = matches n to at cases }

    range_as : (m : Operand) → ((z : ℤ) → Fits m z → IsWithin (2 ^ 31) z) → AllFit (Signed2 ∷ m ∷ m ∷ []) (far ∷ low
        ∷ high ∷ []) → AllFit (replicate (up_to (high -ℤ low)) Signed2) (offsets n to at cases)
        → op ∷ (low_bytes 2 (bits far) ++ range_bytes to at (width m) low cases) ≡ emitted (Table m) ranged
    range_as m weak (more h (more g (more f none))) table =
        let rest = operands_bytes (replicate (up_to (high -ℤ low)) Signed2) (offsets n to at cases) in
        let w = width m in
        ap (λ xs. op ∷ (xs ++ range_bytes to at w low cases)) (number_low Signed2 far h)
        ∙ (ap (λ xs. op ∷ (operand_bytes Signed2 far ++ (xs ++ (low_bytes w (last_bits (bits low) (length cases))
        ++ offset_bytes to at cases)))) (number_low m low g)
        ∙ (ap (λ x. op ∷ (operand_bytes Signed2 far ++ (operand_bytes m low
        ++ (low_bytes w x ++ offset_bytes to at cases)))) (last_same low high (length cases) refl (weak low g)
        (weak high f))
        ∙ (ap (λ xs. op ∷ (operand_bytes Signed2 far ++ (operand_bytes m low ++ (xs ++ offset_bytes to at cases))))
        (number_low m high f)
        ∙ (ap (λ xs. op ∷ (operand_bytes Signed2 far ++ (operand_bytes m low ++ (operand_bytes m high ++ xs))))
        (offsets_low (up_to (high -ℤ low)) cases table)
        ∙ ap (λ xs. op ∷ xs) (regroup (operand_bytes Signed2 far) (operand_bytes m low) (operand_bytes m high) rest)))))

    lookup_as : (m : Operand) → AllFit (Signed2 ∷ Index2 ∷ []) (far ∷ pos (length cases) ∷ [])
        → AllFit (pairs m (length cases)) (matches n to at cases) → op ∷ (low_bytes 2 (bits far)
        ++ lookup_bytes to at (width m) cases) ≡ emitted (Lookup m) looked_up
    lookup_as m (more h (more (below g) none)) table =
        let count : length cases % 4294967296 ≡ length cases = omega arith in
        let rest = operands_bytes (pairs m (length cases)) (matches n to at cases) in
        ap (λ xs. op ∷ (xs ++ lookup_bytes to at (width m) cases)) (number_low Signed2 far h)
        ∙ (ap (λ x. op ∷ (operand_bytes Signed2 far ++ (low_bytes 2 x ++ match_bytes to at (width m) cases))) count
        ∙ (ap (λ xs. op ∷ (operand_bytes Signed2 far ++ (xs ++ match_bytes to at (width m) cases)))
        (number_low Index2 (pos (length cases)) (below g))
        ∙ (ap (λ xs. op ∷ (operand_bytes Signed2 far ++ (operand_bytes Index2 (pos (length cases)) ++ xs)))
        (matches_low m cases table)
        ∙ ap (λ xs. op ∷ xs) (regroup_two (operand_bytes Signed2 far) (operand_bytes Index2 (pos (length cases)))
        rest))))

    range_at : (m : Operand) → ((z : ℤ) → Fits m z → IsWithin (2 ^ 31) z) → form op ≡ Some (Table m)
        → table_bytes to at op low cases ≡ range_bytes to at (width m) low cases → IsSpellable ranged
        → switch_bytes to at op other low cases ≡ bytes_of ranged
    range_at m weak e t s =
        let g = same_form (form op) s.form (Table m) s.writable.form e in
        let w = subst (λ f. IsWritable f ranged) g s.writable in
        ap (λ xs. op ∷ (low_bytes 2 (bits far) ++ xs)) t
        ∙ (range_as m weak w.operands w.table
        ∙ sym (ap (λ o. bytes_by o ranged) e))

    lookup_at : (m : Operand) → form op ≡ Some (Lookup m) → table_bytes to at op low cases
        ≡ lookup_bytes to at (width m) cases → IsSpellable looked_up → switch_bytes to at op other low cases
        ≡ bytes_of looked_up
    lookup_at m e t s =
        let g = same_form (form op) s.form (Lookup m) s.writable.form e in
        let w = subst (λ f. IsWritable f looked_up) g s.writable in
        ap (λ xs. op ∷ (low_bytes 2 (bits far) ++ xs)) t
        ∙ (lookup_as m w.operands w.table
        ∙ sym (ap (λ o. bytes_by o looked_up) e))

    table_73 : op ≡ 0x73 → (form op ≡ Some (Table Signed2))
        × (table_bytes to at op low cases ≡ range_bytes to at 2 low cases)
    unfolding form forms table_bytes
    table_73 h = (ap form h, ap (λ o. table_bytes to at o low cases) h)

    table_74 : op ≡ 0x74 → (form op ≡ Some (Table Signed4))
        × (table_bytes to at op low cases ≡ range_bytes to at 4 low cases)
    unfolding form forms table_bytes
    table_74 h = (ap form h, ap (λ o. table_bytes to at o low cases) h)

    table_75 : op ≡ 0x75 → (form op ≡ Some (Lookup Signed2))
        × (table_bytes to at op low cases ≡ lookup_bytes to at 2 cases)
    unfolding form forms table_bytes
    table_75 h = (ap form h, ap (λ o. table_bytes to at o low cases) h)

    table_76 : op ≡ 0x76 → (form op ≡ Some (Lookup Signed4))
        × (table_bytes to at op low cases ≡ lookup_bytes to at 4 cases)
    unfolding form forms table_bytes
    table_76 h = (ap form h, ap (λ o. table_bytes to at o low cases) h)

    range_spelled : (is_int : Bool) → meaning op ≡ Ranged is_int
        → IsSpellable (laid n to at false (insns.Switch op other low cases)) → switch_bytes to at op other low cases
        ≡ bytes_of (laid n to at false (insns.Switch op other low cases))
    range_spelled is_int e s =
        let i : laid n to at false (insns.Switch op other low cases) ≡ ranged =
        ap (λ m. switch_as n to m at op other low cases) e in
        let r = subst (λ x. IsSpellable x) i s in
        ⊎_elim
        (λ h. let t = table_73 h in range_at Signed2 within_more t.0 t.1 r)
        (λ h. let t = table_74 h in range_at Signed4 (λ z w. w) t.0 t.1 r)
        (ranged_opcode op (ap is_ranged e))
        ∙ sym (ap bytes_of i)

    lookup_spelled : (is_int : Bool) → meaning op ≡ Paired is_int
        → IsSpellable (laid n to at false (insns.Switch op other low cases)) → switch_bytes to at op other low cases
        ≡ bytes_of (laid n to at false (insns.Switch op other low cases))
    lookup_spelled is_int e s =
        let i : laid n to at false (insns.Switch op other low cases) ≡ looked_up =
        ap (λ m. switch_as n to m at op other low cases) e in
        let r = subst (λ x. IsSpellable x) i s in
        ⊎_elim
        (λ h. let t = table_75 h in lookup_at Signed2 t.0 t.1 r)
        (λ h. let t = table_76 h in lookup_at Signed4 t.0 t.1 r)
        (paired_opcode op (ap is_paired e))
        ∙ sym (ap bytes_of i)

-- ---- jumps

jump_spelled : (w : Bool) (op : ℕ) (z : ℤ) → is_branch (meaning (wide_jump op)) ≡ true
    → IsSpellable (untabled (if w then wide_jump op else op) (z ∷ [])) → with_one (jump_opcode w op) (bits z)
    ≡ bytes_of (untabled (if w then wide_jump op else op) (z ∷ []))
jump_spelled false op z e s = one_spelled op z s
jump_spelled true op z e s =
    let below_185 : op + 56 < 185 = known_below is_branch refl (wide_jump op) e in
    let t : nat_lt op 200 ≡ true = grind (arith, nat_tests) in
    ap (λ b. with_one (if b then wide_jump op else op) (bits z)) t ∙ one_spelled (wide_jump op) z s

-- ---- instructions

module _ (ks : List PoolKey) (token_of : MemberId → Option ℕ) (n : Naming) (names : IsNamedBy ks token_of n) where
  index_same : (key : PoolKey) → HasIndex ks token_of key → index_in ks key ≡ n.index key
  index_same key h = ap known h.1 ∙ sym (names.index key h.0 h.1)

  pub spelled : (to : ℕ → ℕ) (at : ℕ) (w : Bool) (i : NInsn) → HasForm i → IsSpellable (laid n to at w i)
      → HasNames ks token_of i → written ks token_of to at w i ≡ bytes_of (laid n to at w i)
  spelled to at w (insns.Op op) bare s h = bare_spelled op s
  spelled to at w (insns.Push op value) (push e) s h = one_spelled op value s
  spelled to at w (insns.Local op index) (local e) s h = one_spelled op (pos index) s
  spelled to at w (insns.Inc op index by) (increase e) s h = two_spelled op index by (ap is_paired e) s
  spelled to at w (insns.Words op high low) (words e) s h = one_spelled op (pos (16 * high + low)) s
  spelled to at w (insns.Jump op target) (jump e f) s h = jump_spelled w op (distance at (to target)) (ap is_branch f) s
  spelled to at w (insns.Switch op other low cases) (range {is_int = is_int} e) s h = range_spelled n to at op other low
      cases is_int e s
  spelled to at w (insns.Switch op other low cases) (lookup {is_int = is_int} e) s h =
      lookup_spelled n to at op other low cases is_int e s
  spelled to at w (insns.Named op key) (named e) s h = ap (λ k. with_one op k) (index_same key h)
      ∙ one_spelled op (pos (n.index key)) s
  spelled to at w (insns.Interface nargs m) by_interface s h =
      let t : known (token_of m) ≡ n.interface_token m = ap known h.1.1 ∙ sym (names.token m h.1.0 h.1.1) in
      ap (λ k. 0x8E ∷ nargs ∷ (low_bytes 2 k ++ known (token_of m) ∷ [])) (index_same (keys.Class m.class) h.0)
      ∙ (ap (λ t. 0x8E ∷ nargs ∷ (low_bytes 2 (n.index (keys.Class m.class)) ++ t ∷ [])) t
      ∙ call_spelled nargs (n.index (keys.Class m.class)) (n.interface_token m) s)
  spelled to at w (insns.NewArray kind) new_array s h = array_spelled kind
  spelled to at w (insns.TypeTest op kind None) (casts e t) s h = two_spelled op kind (pos 0) (ap is_paired e) s
  spelled to at w (insns.TypeTest op kind None) (asks e t) s h = two_spelled op kind (pos 0) (ap is_paired e) s
  spelled to at w (insns.TypeTest op kind (Some c)) (casts e t) s h =
      ap (λ k. with_two op kind k) (index_same (keys.Class c) h) ∙ two_spelled op kind (pos (n.index (keys.Class c)))
      (ap is_paired e) s
  spelled to at w (insns.TypeTest op kind (Some c)) (asks e t) s h =
      ap (λ k. with_two op kind k) (index_same (keys.Class c) h) ∙ two_spelled op kind (pos (n.index (keys.Class c)))
      (ap is_paired e) s
