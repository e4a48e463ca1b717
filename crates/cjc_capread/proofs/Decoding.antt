-- Decoding what was written gives it back.
use Rattle.std.proofs.Common.{◌≡◌, ℕ, zero, suc, ◌+◌, ◌-◌, ◌^◌, ◌<◌, ◌≤◌, refl, sym, ap, ◌∙◌, arith}
use Rattle.std.proofs.Common.{Bool, true, false, List, [], ◌∷◌, ◌++◌, length, append_assoc, length-append, ℤ, pos}
use Rattle.std.proofs.Common.{negsuc}
use Rattle.std.specs.Prelude.{Option, Some, None, nat_lt, if◌then◌else◌}
use Rattle.std.proofs.lemmas.Bool.Decides.{nat_tests}
use Rattle.cjc_capread.specs.Opcodes.{Operand, Byte, Signed1, Signed2, Signed4, Index1, Index2, Form, width, widths}
use Rattle.cjc_capread.specs.Opcodes.{form}
use Rattle.cjc_capread.specs.Decode.{Instruction, signed, unsigned, operand_bytes, First, Front, operand}
use Rattle.cjc_capread.specs.Decode.{operands_bytes, put_first, first_and, operands_of, before_table, in_table}
use Rattle.cjc_capread.specs.Decode.{is_whole, with_table, with_operands, decode_as, decode, emitted, size_as, size_by}
use Rattle.cjc_capread.specs.Decode.{size, IsBelow, below, IsWithin, positive, negative, Fits, AllFit, none, more}
use Rattle.cjc_capread.specs.Decode.{IsWritable}
use Rattle.cjc_bytes.proofs.Numbers.{two_back, four_back}

signed_low : (half n : ℕ) → n < half → signed half n ≡ pos n
signed_low half n h = let e : nat_lt n half ≡ true = grind (arith, nat_tests) in ap (λ t. if t then pos n
    else negsuc (half + half - 1 - n)) e

signed_high : (half n : ℕ) → n < half → signed half (half + half - 1 - n) ≡ negsuc n
signed_high half n h =
    let e : nat_lt (half + half - 1 - n) half ≡ false = grind (arith, nat_tests) in
    let f : half + half - 1 - (half + half - 1 - n) ≡ n = omega arith in
    ap (λ t. if t then pos (half + half - 1 - n) else negsuc (half + half - 1 - (half + half - 1 - n))) e
    ∙ ap (λ m. negsuc m) f

pub signed_unsigned : (half : ℕ) (z : ℤ) → IsWithin half z → signed half (unsigned half z) ≡ z
signed_unsigned half (pos n) (positive h) = signed_low half n h
signed_unsigned half (negsuc n) (negative h) = signed_high half n h

one_byte : (z : ℤ) (rest : List ℕ) → IsBelow 256 z → operand Byte (operand_bytes Byte z ++ rest)
    ≡ Some (record { value = z; rest = rest })
one_byte (pos n) rest h = refl
one_byte (negsuc n) rest h = elim h [ ]

pub operand_read : (kind : Operand) (z : ℤ) (rest : List ℕ) → Fits kind z → operand kind (operand_bytes kind z ++ rest)
    ≡ Some (record { value = z; rest = rest })
operand_read Byte z rest h = one_byte z rest h
operand_read Index1 z rest h = one_byte z rest h
operand_read Index2 (pos n) rest (below h) = ap (λ m. Some (record { value = pos m; rest = rest })) (two_back n)
operand_read Index2 (negsuc n) rest h = elim h [ ]
operand_read Signed1 z rest h = ap (λ v. Some (record { value = v; rest = rest })) (signed_unsigned 128 z h)
operand_read Signed2 z rest h = ap (λ v. Some (record { value = v; rest = rest }))
    (ap (signed 32768) (two_back (unsigned 32768 z)) ∙ signed_unsigned 32768 z h)
operand_read Signed4 z rest h = ap (λ v. Some (record { value = v; rest = rest }))
    (ap (signed (2 ^ 31)) (four_back (unsigned (2 ^ 31) z)) ∙ signed_unsigned (2 ^ 31) z h)

pub operands_read : {kinds : List Operand} {values : List ℤ} (rest : List ℕ) → AllFit kinds values
    → operands_of kinds (operands_bytes kinds values ++ rest) ≡ Some (record { values = values; rest = rest })
operands_read rest none = refl
operands_read rest (more {kind = kind} {value = value} {kinds = kinds} {values = values} h hs) =
    ap (λ bytes. first_and (operand kind bytes) (operands_of kinds)) (append_assoc (operand_bytes kind value)
    (operands_bytes kinds values) rest)
    ∙ ap (λ o. first_and o (operands_of kinds)) (operand_read kind value (operands_bytes kinds values ++ rest) h)
    ∙ ap (put_first value) (operands_read rest hs)

-- whatever follows
pub decode_emitted : (f : Form) (i : Instruction) (rest : List ℕ) → IsWritable f i → decode (emitted f i ++ rest)
    ≡ Some i
decode_emitted f i rest h =
    let table = operands_bytes (in_table f i.operands) i.table in
    ap (λ o. decode_as i.opcode o ((operands_bytes (before_table f) i.operands ++ table) ++ rest)) h.form
    ∙ ap (λ bytes. with_operands i.opcode f (operands_of (before_table f) bytes))
    (append_assoc (operands_bytes (before_table f) i.operands) table rest)
    ∙ ap (with_operands i.opcode f) (operands_read (table ++ rest) h.operands)
    ∙ ap (with_table i.opcode f i.operands) (operands_read rest h.table)
    ∙ ap (λ t. if t then Some i else None) h.whole

-- ---- sizes

length_operand : (kind : Operand) (z : ℤ) → length (operand_bytes kind z) ≡ width kind
length_operand Byte z = refl
length_operand Signed1 z = refl
length_operand Signed2 z = refl
length_operand Signed4 z = refl
length_operand Index1 z = refl
length_operand Index2 z = refl

length_operands : {kinds : List Operand} {values : List ℤ} → AllFit kinds values → length (operands_bytes kinds values)
    ≡ widths kinds
length_operands none = refl
length_operands (more {kind = kind} {value = value} {kinds = kinds} {values = values} h hs) =
    let e = length_operand kind value in let f = length_operands hs in let g = length-append (operand_bytes kind value)
    (operands_bytes kinds values) in omega arith

length_as : (f : Form) (i : Instruction) → IsWritable f i → length (emitted f i) ≡ size_as f i
length_as f i h =
    let e = length_operands h.operands in let t = length_operands h.table in
    let g = length-append (operands_bytes (before_table f) i.operands) (operands_bytes (in_table f i.operands) i.table)
    in omega arith

pub length_emitted : (f : Form) (i : Instruction) → IsWritable f i → length (emitted f i) ≡ size i
length_emitted f i h = length_as f i h ∙ sym (ap (λ o. size_by o i) h.form)
