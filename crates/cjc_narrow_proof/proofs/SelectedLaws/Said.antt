-- Bytes can say each instruction that is written, distances to its labels aside.
use Rattle.std.proofs.Common.{◌≡◌, ℕ, zero, suc, ◌+◌, ◌-◌, ◌*◌, ◌<◌, ◌≤◌, refl, sym, ap, subst, ◌∙◌, arith, Bool, true}
use Rattle.std.proofs.Common.{false, List, [], ◌∷◌, ◌++◌, length, replicate}
use Rattle.std.specs.Int.{w16}
use Rattle.std.specs.Prelude.{FitsSigned, Option, Some, None, flat_map, nat_le, slice_get, ◌==◌, if◌then◌else◌, ℤ}
use Rattle.std.specs.Prelude.{pos, negsuc, ◌≤ℤ◌}
use Rattle.std.proofs.lemmas.Bool.{leb-false, leb-true}
use Rattle.std.proofs.lemmas.Int.{ints}
use Rattle.cjc_bytes.specs.declared.fault.MemberId.{MemberId}
use Rattle.cjc_bytes.proofs.Bools.{both_front}
use Rattle.cjc_bytes.proofs.Integers.{le_true}
use Rattle.cjc_script.specs.Sorts.{Sort, Boolean, Byte as ByteSort, Short, Int, Reference, NoValue, Shape, OfClass}
use Rattle.cjc_script.specs.Sorts.{OfNumbers, OfReferences, Booleans, Bytes, Shorts, Ints, field_sort, shape_named}
use Rattle.cjc_card_semantics.specs.Bytecode.Meanings.{meaning}
use Rattle.cjc_range.specs.Words.{low_word}
use Rattle.cjc_range.proofs.WordsLaws.Words.{low_word_fits}
use Rattle.cjc_card_semantics.specs.CapRead.Decode.{AllFit, IsWithin, below, matches_ascend, more, negative, none}
use Rattle.cjc_card_semantics.specs.CapRead.Decode.{positive}
use Rattle.cjc_card_semantics.specs.CapRead.Opcodes.{Byte, Fields, Index1, Index2, Lookup, Signed1, Signed2, Table}
use Rattle.cjc_card_semantics.specs.CapRead.Opcodes.{form, forms}
use Rattle.cjc_code.specs.declared.insn.JInsn.{JInsn}
use Rattle.cjc_code.specs.declared.insn.JOp.{JOp}
use Rattle.cjc_code.specs.declared.insn.JOp.TheVariants as jop
use Rattle.cjc_ncode.specs.Lowering.Laid.{laid, matches, offsets}
use Rattle.cjc_ncode.specs.Lowering.Naming.{Naming}
use Rattle.cjc_ncode.specs.Lowering.Placed.{IsSpellable}
use Rattle.cjc_ncode.specs.declared.narrow.NCase.{NCase}
use Rattle.cjc_ncode.specs.declared.narrow.NInsn.{NInsn}
use Rattle.cjc_ncode.specs.declared.narrow.NInsn.TheVariants.{Op, Push, Local, Inc, Words, Jump, Switch, Named}
use Rattle.cjc_ncode.specs.declared.narrow.NInsn.TheVariants.{Interface, NewArray, TypeTest}
use Rattle.cjc_ncode.specs.declared.narrow.PoolKey.{PoolKey}
use Rattle.cjc_ncode.specs.declared.narrow.PoolKey.TheVariants as keys
use Rattle.cjc_ncode.specs.Written.{Resolution, arithmetic, array_load, array_store, call_by, condition, element_number}
use Rattle.cjc_ncode.specs.Written.{this_access, written_for}
use Rattle.cjc_ncode.proofs.WrittenCases.{written_cases}
use Rattle.cjc_ncode.specs.Written.{field_access, is_byte, leaving, local, low_of, nargs_of, on_stack, pair_cases}
use Rattle.cjc_ncode.specs.Written.{pushed_word, static_access, static_by, switched, table_cases, type_test, written}
use Rattle.cjc_narrow_proof.specs.Selected.Operands.{IndexFits, NumbersFit, OperandsFit}
use Rattle.cjc_narrow_proof.proofs.SelectedLaws.Matches.{AreRow, AreWords, count_is, last_is, last_low, last_of}
use Rattle.cjc_narrow_proof.proofs.SelectedLaws.Matches.{offsets_fit, pair_words, pairs_ascend, pairs_fit, table_row}
use Rattle.cjc_narrow_proof.proofs.SelectedLaws.Matches.{within_by}
use Rattle.cjc_narrow_proof.proofs.SelectedLaws.Sizes.{pair_few}

-- ---- opcodes by their forms

abbrev IsBare : ℕ → Type 0
IsBare op = form op ≡ Some (Fields [])

if_bare : (b : Bool) (x y : ℕ) → IsBare x → IsBare y → IsBare (if b then x else y)
if_bare true x y h g = h
if_bare false x y h g = g

small_bare : (m : ℕ) → m ≤ 5 → IsBare (0x03 + m)
unfolding form forms
small_bare zero h = refl
small_bare (suc zero) h = refl
small_bare (suc (suc zero)) h = refl
small_bare (suc (suc (suc zero))) h = refl
small_bare (suc (suc (suc (suc zero)))) h = refl
small_bare (suc (suc (suc (suc (suc zero))))) h = refl
small_bare (suc (suc (suc (suc (suc (suc m)))))) h = absurd (omega (arith, h))

short_bare : (first m : ℕ) → m ≤ 3 → IsBare first → IsBare (first + 1) → IsBare (first + 2) → IsBare (first + 3)
    → IsBare (first + m)
short_bare first zero h a b c d = let e : first ≡ first + 0 = omega arith in subst IsBare e a
short_bare first (suc zero) h a b c d = b
short_bare first (suc (suc zero)) h a b c d = c
short_bare first (suc (suc (suc zero))) h a b c d = d
short_bare first (suc (suc (suc (suc m)))) h a b c d = absurd (omega (arith, h))

load_bare : (op : ℕ) → IsBare (array_load op)
unfolding form forms
load_bare op = if_bare (op == 0x32) 0x24 (if op == 0x33 then 0x25 else 0x26) refl (if_bare (op == 0x33) 0x25 0x26 refl
    refl)

store_bare : (op : ℕ) → IsBare (array_store op)
unfolding form forms
store_bare op = if_bare (op == 0x53) 0x37 (if op == 0x54 then 0x38 else 0x39) refl (if_bare (op == 0x54) 0x38 0x39 refl
    refl)

leaving_bare : (op : ℕ) → IsBare (leaving op)
unfolding form forms
leaving_bare op = if_bare (op == 0xAC) 0x78 (if op == 0xB0 then 0x77 else 0x7A) refl (if_bare (op == 0xB0) 0x77 0x7A
    refl refl)

arithmetic_bare : (op : ℕ) → IsBare (arithmetic op)
unfolding form forms
arithmetic_bare op = go (op == 0x60) (op == 0x64) (op == 0x68) (op == 0x6C) (op == 0x70) (op == 0x74) (op == 0x78)
    (op == 0x7A) (op == 0x7C) (op == 0x7E) (op == 0x80)
  where
    go : (a b c d e f g h i j k : Bool)
        → IsBare (if a then 0x41
        else (if b then 0x43
        else (if c then 0x45
        else (if d then 0x47 else (if e then 0x49 else (if f then 0x4B else (if g then 0x4D else (if h then 0x4F
        else (if i then 0x51 else (if j then 0x53 else (if k then 0x55 else 0x57)))))))))))
    go true b c d e f g h i j k = refl
    go false true c d e f g h i j k = refl
    go false false true d e f g h i j k = refl
    go false false false true e f g h i j k = refl
    go false false false false true f g h i j k = refl
    go false false false false false true g h i j k = refl
    go false false false false false false true h i j k = refl
    go false false false false false false false true i j k = refl
    go false false false false false false false false true j k = refl
    go false false false false false false false false false true k = refl
    go false false false false false false false false false false true = refl
    go false false false false false false false false false false false = refl

jump_form : (k : ℕ) → k ≤ 16 → form (0x60 + k) ≡ Some (Fields (Signed1 ∷ []))
unfolding form forms
jump_form zero h = refl
jump_form (suc zero) h = refl
jump_form (suc (suc zero)) h = refl
jump_form (suc (suc (suc zero))) h = refl
jump_form (suc (suc (suc (suc zero)))) h = refl
jump_form (suc (suc (suc (suc (suc zero))))) h = refl
jump_form (suc (suc (suc (suc (suc (suc zero)))))) h = refl
jump_form (suc (suc (suc (suc (suc (suc (suc zero))))))) h = refl
jump_form (suc (suc (suc (suc (suc (suc (suc (suc zero)))))))) h = refl
jump_form (suc (suc (suc (suc (suc (suc (suc (suc (suc zero))))))))) h = refl
jump_form (suc (suc (suc (suc (suc (suc (suc (suc (suc (suc zero)))))))))) h = refl
jump_form (suc (suc (suc (suc (suc (suc (suc (suc (suc (suc (suc zero))))))))))) h = refl
jump_form (suc (suc (suc (suc (suc (suc (suc (suc (suc (suc (suc (suc zero)))))))))))) h = refl
jump_form (suc (suc (suc (suc (suc (suc (suc (suc (suc (suc (suc (suc (suc zero))))))))))))) h = refl
jump_form (suc (suc (suc (suc (suc (suc (suc (suc (suc (suc (suc (suc (suc (suc zero)))))))))))))) h = refl
jump_form (suc (suc (suc (suc (suc (suc (suc (suc (suc (suc (suc (suc (suc (suc (suc zero))))))))))))))) h = refl
jump_form (suc (suc (suc (suc (suc (suc (suc (suc (suc (suc (suc (suc (suc (suc (suc (suc zero)))))))))))))))) h = refl
jump_form (suc (suc (suc (suc (suc (suc (suc (suc (suc (suc (suc (suc (suc (suc (suc (suc (suc k))))))))))))))))) h =
    absurd (omega (arith, h))

condition_form : (op : ℕ) → form (condition op) ≡ Some (Fields (Signed1 ∷ []))
condition_form op = first (nat_le op 0x9E) refl
  where
    jump_at : (j k : ℕ) → j ≡ 0x60 + k → k ≤ 16 → form j ≡ Some (Fields (Signed1 ∷ []))
    jump_at j k e h = ap form e ∙ jump_form k h

    rest : (b c d : Bool) → form (if b then 0x68 else (if c then 0x69 else (if d then 0x66 else 0x67)))
        ≡ Some (Fields (Signed1 ∷ []))
    rest true c d = jump_form 8 (leb-true 8 16 refl)
    rest false true d = jump_form 9 (leb-true 9 16 refl)
    rest false false true = jump_form 6 (leb-true 6 16 refl)
    rest false false false = jump_form 7 (leb-true 7 16 refl)

    second : (b : Bool) → nat_le op 0xA4 ≡ b → nat_le op 0x9E ≡ false
        → form (if b then op - 0x9F + 0x6A else (if op == 0xA5 then 0x68 else (if op == 0xA6 then 0x69
        else (if op == 0xC6 then 0x66 else 0x67)))) ≡ Some (Fields (Signed1 ∷ []))
    second true e f =
        let high = leb-true op 0xA4 e in
        let low = leb-false op 0x9E f in
        jump_at (op - 0x9F + 0x6A) (op - 0x9F + 10) (omega (arith, high, low)) (omega (arith, high, low))
    second false e f = rest (op == 0xA5) (op == 0xA6) (op == 0xC6)

    first : (b : Bool) → nat_le op 0x9E ≡ b
        → form (if b then op - 0x99 + 0x60 else (if nat_le op 0xA4 then op - 0x9F + 0x6A else (if op == 0xA5 then 0x68
        else (if op == 0xA6 then 0x69 else (if op == 0xC6 then 0x66 else 0x67))))) ≡ Some (Fields (Signed1 ∷ []))
    first true e = let high = leb-true op 0x9E e in jump_at (op - 0x99 + 0x60) (op - 0x99) (omega (arith, high))
        (omega (arith, high))
    first false e = second (nat_le op 0xA4) refl e

-- a low word
low_within : (z : ℤ) → IsWithin 32768 (low_word z)
low_within z = by (low_word z) (low_word_fits z)
  where
    by : (z : ℤ) → FitsSigned w16 z → IsWithin 32768 z
    by (pos n) f = positive (let h = f.sfits in omega (arith, ints))
    by (negsuc n) f = negative (let h = f.sfits in omega (arith, ints))

-- a number of one byte
byte_within : (z : ℤ) → is_byte z ≡ true → IsWithin 128 z
byte_within (pos n) e = positive (let le = leb-true n 127 e in omega (arith, le))
byte_within (negsuc n) e = negative (let le = leb-true n 127 (both_front (nat_le n 127) true e) in omega (arith, le))

-- ---- instructions

module _ (n : Naming) where
  -- bytes can say the instruction where the package's numbers fit
  Says : NInsn → Type 0
  Says i = NumbersFit n i → IsSpellable (laid n (λ label. 0) 0 false i)

  AllSay : List NInsn → Type 0
  AllSay [] = Unit {0}
  AllSay (i ∷ insns) = Says i × AllSay insns

  one : (i : NInsn) → Says i → AllSay (i ∷ [])
  unfolding AllSay
  one i h = (h, tt)

  append : (xs ys : List NInsn) → AllSay xs → AllSay ys → AllSay (xs ++ ys)
  unfolding AllSay
  append [] ys h g = g
  append (x ∷ xs) ys h g = (h.0, append xs ys h.1 g)

  at : (xs : List NInsn) (k : ℕ) (i : NInsn) → AllSay xs → slice_get xs k ≡ Some i → Says i
  unfolding AllSay
  at [] k i h e = cc
  at (x ∷ xs) zero i h e = let same : x ≡ i = cc in subst Says same h.0
  at (x ∷ xs) (suc k) i h e = at xs k i h.1 e

  bare_says : (op : ℕ) → IsBare op → Says (Op op)
  unfolding Says
  bare_says op e fit = record {
    form = Fields [];
    writable = record {
      form = e;
      operands = none;
      table = none;
      whole = refl;
    };
  }

  -- ---- numbers and locals

  push_one : (z : ℤ) → IsWithin 128 z → Says (Push 0x10 z)
  unfolding Says form forms
  push_one z h fit = record {
    form = Fields (Signed1 ∷ []);
    writable = record {
      form = refl;
      operands = more h none;
      table = none;
      whole = refl;
    };
  }

  push_two : (z : ℤ) → IsWithin 32768 z → Says (Push 0x11 z)
  unfolding Says form forms
  push_two z h fit = record {
    form = Fields (Signed2 ∷ []);
    writable = record {
      form = refl;
      operands = more h none;
      table = none;
      whole = refl;
    };
  }

  word_says : (z : ℤ) → IsWithin 32768 z → Says (pushed_word z)
  unfolding form forms
  word_says (pos n) h = first (nat_le n 5) refl
    where
      second : (b : Bool) → nat_le n 127 ≡ b → Says (if b then Push 0x10 (pos n) else Push 0x11 (pos n))
      second true e = push_one (pos n) (positive (let le = leb-true n 127 e in omega (arith, le)))
      second false e = push_two (pos n) h

      first : (b : Bool) → nat_le n 5 ≡ b → Says (if b then Op (0x03 + n) else (if nat_le n 127 then Push 0x10 (pos n)
          else Push 0x11 (pos n)))
      first true e = bare_says (0x03 + n) (small_bare n (leb-true n 5 e))
      first false e = second (nat_le n 127) refl
  word_says (negsuc n) h = first (n == 0)
    where
      second : (b : Bool) → nat_le n 127 ≡ b → Says (if b then Push 0x10 (negsuc n) else Push 0x11 (negsuc n))
      second true e = push_one (negsuc n) (negative (let le = leb-true n 127 e in omega (arith, le)))
      second false e = push_two (negsuc n) h

      first : (b : Bool) → Says (if b then Op 0x02 else (if nat_le n 127 then Push 0x10 (negsuc n)
          else Push 0x11 (negsuc n)))
      first true = bare_says 0x02 refl
      first false = second (nat_le n 127) refl

  long_says : (long l : ℕ) → form long ≡ Some (Fields (Byte ∷ [])) → l < 256 → Says (Local long l)
  unfolding Says
  long_says long l e lt fit = record {
    form = Fields (Byte ∷ []);
    writable = record {
      form = e;
      operands = more (below lt) none;
      table = none;
      whole = refl;
    };
  }

  local_says : (first long l : ℕ) → IsBare first → IsBare (first + 1) → IsBare (first + 2) → IsBare (first + 3)
      → form long ≡ Some (Fields (Byte ∷ [])) → l < 256 → AllSay (local first long l)
  local_says first long l a b c d e lt = one (if nat_le l 3 then Op (first + l) else Local long l)
      (go (nat_le l 3) refl)
    where
      go : (p : Bool) → nat_le l 3 ≡ p → Says (if p then Op (first + l) else Local long l)
      go true f = bare_says (first + l) (short_bare first l (leb-true l 3 f) a b c d)
      go false f = long_says long l e lt

  inc_one : (l : ℕ) (by : ℤ) → l < 256 → IsWithin 128 by → Says (Inc 0x59 l by)
  unfolding Says form forms
  inc_one l by lt h fit = record {
    form = Fields (Byte ∷ Signed1 ∷ []);
    writable = record {
      form = refl;
      operands = more (below lt) (more h none);
      table = none;
      whole = refl;
    };
  }

  inc_two : (l : ℕ) (by : ℤ) → l < 256 → IsWithin 32768 by → Says (Inc 0x96 l by)
  unfolding Says form forms
  inc_two l by lt h fit = record {
    form = Fields (Byte ∷ Signed2 ∷ []);
    writable = record {
      form = refl;
      operands = more (below lt) (more h none);
      table = none;
      whole = refl;
    };
  }

  inc_says : (l : ℕ) (by : ℤ) → l < 256 → IsWithin 32768 by → Says (Inc (if is_byte by then 0x59 else 0x96) l by)
  inc_says l by lt h = go (is_byte by) refl
    where
      go : (b : Bool) → is_byte by ≡ b → Says (Inc (if b then 0x59 else 0x96) l by)
      go true e = inc_one l by lt (byte_within by e)
      go false e = inc_two l by lt h

  -- ---- the stack

  words_say : (op a b : ℕ) → form op ≡ Some (Fields (Byte ∷ [])) → 16 * a + b < 256 → Says (Words op a b)
  unfolding Says
  words_say op a b e lt fit = record {
    form = Fields (Byte ∷ []);
    writable = record {
      form = e;
      operands = more (below lt) none;
      table = none;
      whole = refl;
    };
  }

  stack_says : (op : ℕ) → Says (on_stack op)
  unfolding form forms
  stack_says op = go (op == 0x57) (op == 0x58) (op == 0x59) (op == 0x5C) (op == 0x5A) (op == 0x5B) (op == 0x5D) (op ==
      0x5E)
    where
      go : (a b c d e f g h : Bool)
          → Says (if a then Op 0x3B else (if b then Op 0x3C else (if c then Op 0x3D else (if d then Op 0x3E
          else (if e then Words 0x3F 1 2 else (if f then Words 0x3F 1 3 else (if g then Words 0x3F 2 3
          else (if h then Words 0x3F 2 4 else Words 0x40 1 1))))))))
      go true b c d e f g h = bare_says 0x3B refl
      go false true c d e f g h = bare_says 0x3C refl
      go false false true d e f g h = bare_says 0x3D refl
      go false false false true e f g h = bare_says 0x3E refl
      go false false false false true f g h = words_say 0x3F 1 2 refl (omega arith)
      go false false false false false true g h = words_say 0x3F 1 3 refl (omega arith)
      go false false false false false false true h = words_say 0x3F 2 3 refl (omega arith)
      go false false false false false false false true = words_say 0x3F 2 4 refl (omega arith)
      go false false false false false false false false = words_say 0x40 1 1 refl (omega arith)

  narrow_says : (b : Bool) → AllSay (if b then Op 0x5B ∷ [] else [])
  unfolding AllSay form forms
  narrow_says true = (bare_says 0x5B refl, tt)
  narrow_says false = tt

  -- ---- jumps and switches

  jump_says : (op target : ℕ) → form op ≡ Some (Fields (Signed1 ∷ [])) → Says (Jump op target)
  unfolding Says
  jump_says op target e fit = record {
    form = Fields (Signed1 ∷ []);
    writable = record {
      form = e;
      operands = more (positive (omega arith)) none;
      table = none;
      whole = refl;
    };
  }

  table_says : (other : ℕ) (low : ℤ) (target : ℕ) (first : ℤ) (cases : List NCase)
      → AreRow low (record { value = first; target = target } ∷ cases)
      → Says (Switch 0x73 other first (record { value = first; target = target } ∷ cases))
  unfolding Says meaning form forms
  table_says other low target first cases row fit =
      let high = last_of first (length cases) in
      let is_high = last_is first (length cases) in
      let above = last_low first (length cases) in
      let from = row.1 in
      let to = row.2 in
      let up : first ≤ℤ pos 32767 = omega (arith, ints, to) in
      let top : high ≤ℤ pos 32767 = omega (arith, ints, to) in
      let bottom : negsuc 32767 ≤ℤ high = omega (arith, ints, from) in
      record {
        form = Table Signed2;
        writable = record {
          form = refl;
          operands = more (positive (omega arith)) (more (within_by first from up) (more (within_by high bottom top)
              none));
          table = subst (λ k. AllFit (replicate k Signed2) (offsets n (λ label. 0) 0 (record {
            value = first;
            target = target;
          } ∷ cases))) (sym (count_is first (length cases)))
              (offsets_fit n (record { value = first; target = target } ∷ cases));
          whole = le_true first high above;
        };
      }

  tables_say : (other : ℕ) (low : ℤ) (cases : List NCase) → AreRow low cases
      → AllSay (switched 0x73 other (low_of cases) cases)
  unfolding AllSay form forms
  tables_say other low [] row = (bare_says 0x3B refl, (jump_says 0x70 other refl, tt))
  tables_say other low (c ∷ cases) row = (table_says other low c.target c.value cases row, tt)

  lookup_says : (other : ℕ) (cases : List NCase) → length cases < 65536 → AreWords cases
      → matches_ascend (matches n (λ label. 0) 0 cases) ≡ true → Says (Switch 0x75 other (pos 0) cases)
  unfolding Says meaning form forms
  lookup_says other cases lt words ascend fit = record {
    form = Lookup Signed2;
    writable = record {
      form = refl;
      operands = more (positive (omega arith)) (more (below lt) none);
      table = pairs_fit n cases words;
      whole = ascend;
    };
  }

  lookups_say : (other : ℕ) (cases : List NCase) → length cases < 65536 → AreWords cases
      → matches_ascend (matches n (λ label. 0) 0 cases) ≡ true → AllSay (switched 0x75 other (pos 0) cases)
  unfolding AllSay form forms
  lookups_say other [] lt words ascend = (bare_says 0x3B refl, (jump_says 0x70 other refl, tt))
  lookups_say other (c ∷ cases) lt words ascend = (lookup_says other (c ∷ cases) lt words ascend, tt)

  -- ---- names

  two_say : (op : ℕ) (key : PoolKey) → form op ≡ Some (Fields (Index2 ∷ [])) → Says (Named op key)
  unfolding Says
  two_say op key e fit =
      let lt : n.index key < 65536 = subst (λ f. IndexFits f (n.index key)) e fit in
      record {
        form = Fields (Index2 ∷ []);
        writable = record {
          form = e;
          operands = more (below lt) none;
          table = none;
          whole = refl;
        };
      }

  one_says : (op : ℕ) (key : PoolKey) → form op ≡ Some (Fields (Index1 ∷ [])) → Says (Named op key)
  unfolding Says
  one_says op key e fit =
      let lt : n.index key < 256 = subst (λ f. IndexFits f (n.index key)) e fit in
      record {
        form = Fields (Index1 ∷ []);
        writable = record {
          form = e;
          operands = more (below lt) none;
          table = none;
          whole = refl;
        };
      }

  access_says : (put : Bool) (sort : Sort) (key : PoolKey) → Says (Named (static_access put sort) key)
  unfolding form forms
  access_says true Boolean key = two_say 0x80 key refl
  access_says true ByteSort key = two_say 0x80 key refl
  access_says true Short key = two_say 0x81 key refl
  access_says true Int key = two_say 0x82 key refl
  access_says true (Reference shape) key = two_say 0x7F key refl
  access_says true NoValue key = two_say 0x7F key refl
  access_says false Boolean key = two_say 0x7C key refl
  access_says false ByteSort key = two_say 0x7C key refl
  access_says false Short key = two_say 0x7D key refl
  access_says false Int key = two_say 0x7E key refl
  access_says false (Reference shape) key = two_say 0x7B key refl
  access_says false NoValue key = two_say 0x7B key refl

  field_says : (put near : Bool) (sort : Sort) (key : PoolKey) → Says (Named (field_access put near sort) key)
  unfolding form forms
  field_says true true Boolean key = one_says 0x88 key refl
  field_says true true ByteSort key = one_says 0x88 key refl
  field_says true true Short key = one_says 0x89 key refl
  field_says true true Int key = one_says 0x8A key refl
  field_says true true (Reference shape) key = one_says 0x87 key refl
  field_says true true NoValue key = one_says 0x87 key refl
  field_says true false Boolean key = two_say 0xB2 key refl
  field_says true false ByteSort key = two_say 0xB2 key refl
  field_says true false Short key = two_say 0xB3 key refl
  field_says true false Int key = two_say 0xB4 key refl
  field_says true false (Reference shape) key = two_say 0xB1 key refl
  field_says true false NoValue key = two_say 0xB1 key refl
  field_says false true Boolean key = one_says 0x84 key refl
  field_says false true ByteSort key = one_says 0x84 key refl
  field_says false true Short key = one_says 0x85 key refl
  field_says false true Int key = one_says 0x86 key refl
  field_says false true (Reference shape) key = one_says 0x83 key refl
  field_says false true NoValue key = one_says 0x83 key refl
  field_says false false Boolean key = two_say 0xAA key refl
  field_says false false ByteSort key = two_say 0xAA key refl
  field_says false false Short key = two_say 0xAB key refl
  field_says false false Int key = two_say 0xAC key refl
  field_says false false (Reference shape) key = two_say 0xA9 key refl
  field_says false false NoValue key = two_say 0xA9 key refl

  this_says : (put : Bool) (sort : Sort) (key : PoolKey) → Says (Named (this_access put sort) key)
  unfolding form forms
  this_says true Boolean key = one_says 0xB6 key refl
  this_says true ByteSort key = one_says 0xB6 key refl
  this_says true Short key = one_says 0xB7 key refl
  this_says true Int key = one_says 0xB8 key refl
  this_says true (Reference shape) key = one_says 0xB5 key refl
  this_says true NoValue key = one_says 0xB5 key refl
  this_says false Boolean key = one_says 0xAE key refl
  this_says false ByteSort key = one_says 0xAE key refl
  this_says false Short key = one_says 0xAF key refl
  this_says false Int key = one_says 0xB0 key refl
  this_says false (Reference shape) key = one_says 0xAD key refl
  this_says false NoValue key = one_says 0xAD key refl

  interface_says : (nargs : ℕ) (m : MemberId) → Says (Interface nargs m)
  unfolding Says form forms
  interface_says nargs m fit = record {
    form = Fields (Byte ∷ Index2 ∷ Byte ∷ []);
    writable = record {
      form = refl;
      operands = more (below fit.0) (more (below fit.1) (more (below fit.2) none));
      table = none;
      whole = refl;
    };
  }

  array_says : (kind : ℕ) → kind < 256 → Says (NewArray kind)
  unfolding Says form forms
  array_says kind lt fit = record {
    form = Fields (Byte ∷ []);
    writable = record {
      form = refl;
      operands = more (below lt) none;
      table = none;
      whole = refl;
    };
  }

  kind_says : (kind : ℕ) → Says (NewArray (element_number kind))
  kind_says kind = go (kind == 4) (kind == 8) (kind == 9)
    where
      go : (a b c : Bool) → Says (NewArray (if a then 10 else (if b then 11 else (if c then 12 else 13))))
      go true b c = array_says 10 (omega arith)
      go false true c = array_says 11 (omega arith)
      go false false true = array_says 12 (omega arith)
      go false false false = array_says 13 (omega arith)

  class_says : (op kind : ℕ) (class : List ℕ) → form op ≡ Some (Fields (Byte ∷ Index2 ∷ [])) → kind < 256
      → Says (TypeTest op kind (Some class))
  unfolding Says
  class_says op kind class e lt fit = record {
    form = Fields (Byte ∷ Index2 ∷ []);
    writable = record {
      form = e;
      operands = more (below lt) (more (below fit) none);
      table = none;
      whole = refl;
    };
  }

  numbers_say : (op kind : ℕ) → form op ≡ Some (Fields (Byte ∷ Index2 ∷ [])) → kind < 256 → Says (TypeTest op kind None)
  unfolding Says
  numbers_say op kind e lt fit = record {
    form = Fields (Byte ∷ Index2 ∷ []);
    writable = record {
      form = e;
      operands = more (below lt) (more (below (omega arith)) none);
      table = none;
      whole = refl;
    };
  }

  tests_say : (op : ℕ) → form op ≡ Some (Fields (Byte ∷ Index2 ∷ [])) → (type : Option (Shape (List ℕ)))
      → AllSay (type_test op type)
  unfolding AllSay
  tests_say op e None = tt
  tests_say op e (Some (OfClass class)) = (class_says op 0 class e (omega arith), tt)
  tests_say op e (Some (OfReferences class)) = (class_says op 14 class e (omega arith), tt)
  tests_say op e (Some (OfNumbers Booleans)) = (numbers_say op 10 e (omega arith), tt)
  tests_say op e (Some (OfNumbers Bytes)) = (numbers_say op 11 e (omega arith), tt)
  tests_say op e (Some (OfNumbers Shorts)) = (numbers_say op 12 e (omega arith), tt)
  tests_say op e (Some (OfNumbers Ints)) = (numbers_say op 13 e (omega arith), tt)

  module _ (r : Resolution) (place : ℕ → ℕ) where
    static_says : (put : Bool) (f : MemberId) (constant : Option ℤ) → AllSay (static_by r put f constant)
    static_says put f (Some z) = one (pushed_word (low_word z)) (word_says (low_word z) (low_within z))
    static_says put f None = one (Named (static_access put (field_sort f.desc)) (keys.StaticField (r.field f)))
        (access_says put (field_sort f.desc) (keys.StaticField (r.field f)))

    call_says : (op : ℕ) (m : MemberId) → AllSay (call_by r op m)
    unfolding form forms
    call_says op m = go (op == 0xB9) (op == 0xB6) (op == 0xB7)
      where
        go : (a b c : Bool) → AllSay ((if a then Interface (nargs_of m) (r.interface m)
            else (if b then Named 0x8B (r.virtual m) else (if c then Named 0x8C (r.special m)
            else Named 0x8D (r.static m)))) ∷ [])
        go true b c = one (Interface (nargs_of m) (r.interface m)) (interface_says (nargs_of m) (r.interface m))
        go false true c = one (Named 0x8B (r.virtual m)) (two_say 0x8B (r.virtual m) refl)
        go false false true = one (Named 0x8C (r.special m)) (two_say 0x8C (r.special m) refl)
        go false false false = one (Named 0x8D (r.static m)) (two_say 0x8D (r.static m) refl)

    op_says : (op : JOp) → OperandsFit op → AllSay (written r place op)
    unfolding AllSay form forms
    op_says jop.Nop h = tt
    op_says jop.Null h = (bare_says 0x01 refl, tt)
    op_says (jop.Number z) h = (word_says (low_word z) (low_within z), tt)
    op_says (jop.Load false l) h = local_says 0x1C 0x16 l refl refl refl refl refl h
    op_says (jop.Load true l) h = local_says 0x18 0x15 l refl refl refl refl refl h
    op_says (jop.Store false l) h = local_says 0x2F 0x29 l refl refl refl refl refl h
    op_says (jop.Store true l) h = local_says 0x2B 0x28 l refl refl refl refl refl h
    op_says (jop.ArrayLoad op) h = (bare_says (array_load op) (load_bare op), tt)
    op_says (jop.ArrayStore op) h = (bare_says (array_store op) (store_bare op), tt)
    op_says (jop.Stack op) h = (stack_says op, tt)
    op_says (jop.Arith op) h = (bare_says (arithmetic op) (arithmetic_bare op), tt)
    op_says (jop.Inc l by) h = (inc_says l by h.0 h.1, tt)
    op_says (jop.Narrow op) h = narrow_says (op == 0x91)
    op_says (jop.If op target) h = (jump_says (condition op) (place target) (condition_form op), tt)
    op_says (jop.Goto target) h = (jump_says 0x70 (place target) refl, tt)
    op_says (jop.TableSwitch other low ts) h = tables_say (place other) low (table_cases place low ts)
        (table_row place low ts)
    op_says (jop.LookupSwitch other cases) h =
        let few = pair_few place cases in
        let most = h.0 in
        lookups_say (place other) (pair_cases place cases) (omega (arith, few, most)) (pair_words place cases)
        (pairs_ascend n place cases h.1)
    op_says (jop.Return op) h = (bare_says (leaving op) (leaving_bare op), tt)
    op_says (jop.Static put f) h = static_says put f (r.constant f)
    op_says (jop.Field put f) h = (field_says put (r.is_near f) (field_sort f.desc) (keys.Field (r.field f)), tt)
    op_says (jop.Call op m) h = call_says op m
    op_says (jop.New class) h = (two_say 0x8F (keys.Class class) refl, tt)
    op_says (jop.NewArray kind) h = (kind_says kind, tt)
    op_says (jop.ANewArray class) h = (two_say 0x91 (keys.Class class) refl, tt)
    op_says jop.ArrayLength h = (bare_says 0x92 refl, tt)
    op_says jop.Throw h = (bare_says 0x93 refl, tt)
    op_says (jop.CheckCast class) h = tests_say 0x94 refl (shape_named class)
    op_says (jop.InstanceOf class) h = tests_say 0x95 refl (shape_named class)

    role_says : (i : JInsn) → OperandsFit i.op → AllSay (written_for r place i)
    unfolding AllSay
    role_says i h = written_cases AllSay (r.role i.at) r place i.op (λ e. tt) (op_says i.op h)
        (λ a e. (let f = a.field in this_says a.put (field_sort f.desc) (keys.Field (r.field f)), tt))

    code_says : (kept : List JInsn) → ((k : ℕ) (i : JInsn) → slice_get kept k ≡ Some i → OperandsFit i.op)
        → AllSay (flat_map (written_for r place) kept)
    unfolding AllSay
    code_says [] h = tt
    code_says (i ∷ kept) h = append (written_for r place i) (flat_map (written_for r place) kept)
        (role_says i (h 0 i refl)) (code_says kept (λ k j e. h (suc k) j e))

    pub all_said : (kept : List JInsn) → ((k : ℕ) (i : JInsn) → slice_get kept k ≡ Some i → OperandsFit i.op)
        → (k : ℕ) (i : NInsn) → slice_get (flat_map (written_for r place) kept) k ≡ Some i → NumbersFit n i
        → IsSpellable (laid n (λ label. 0) 0 false i)
    unfolding Says
    all_said kept h k i e = at (flat_map (written_for r place) kept) k i (code_says kept h) e
