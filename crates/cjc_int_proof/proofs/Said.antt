-- Bytes can say each instruction that is written in int mode and names nothing, distances to its labels aside.
use Rattle.std.proofs.Common.{◌≡◌, ℕ, zero, suc, ◌+◌, ◌-◌, ◌*◌, ◌<◌, ◌≤◌, arith, refl, sym, ap, subst, ◌∙◌, Bool}
use Rattle.std.proofs.Common.{true, false, List, [], ◌∷◌, ◌++◌, length, replicate, slice_get, map, take}
use Rattle.std.specs.Prelude.{if◌then◌else◌, nat_le, ◌==◌, ◌&&◌, Option, Some, None, ℤ, pos, negsuc, ◌+ℤ◌, ◌-ℤ◌, ◌≤ℤ◌}
use Rattle.std.specs.List.{list_any}
use Rattle.std.proofs.lemmas.Bool.{leb-true}
use Rattle.std.proofs.lemmas.Int.{ints}
use Rattle.std.proofs.lemmas.List.{length-map}
use Rattle.std.proofs.lemmas.List.Sums.{sum_by-cons}
use Rattle.cjc_types.proofs.BytesBools.{both_front}
use Rattle.cjc_types.proofs.BytesIntegers.{le_true}
use Rattle.cjc_types.specs.Bytes.declared.fault.MemberId.{MemberId}
use Rattle.cjc_layout.specs.Script.Sorts.{Sort, Boolean, Byte as ByteSort, Short, Int, Reference, NoValue, Shape}
use Rattle.cjc_layout.specs.Script.Sorts.{OfClass, OfNumbers, OfReferences, Booleans, Bytes, Shorts, Ints, Signature}
use Rattle.cjc_layout.specs.Script.Sorts.{field_sort, shape_named, signature_of}
use Rattle.cjc_layout.specs.CardSemantics.Bytecode.Arguments.{width, widths}
use Rattle.cjc_layout.specs.CardSemantics.Bytecode.Meanings.{meaning}
use Rattle.cjc_types.specs.ClassFile.Code.{CodeTree}
use Rattle.cjc_layout.specs.CapRead.Card as card
use Rattle.cjc_layout.specs.CapRead.Decode.{AllFit, IsWithin, below, matches_ascend, more, negative, none, pairs}
use Rattle.cjc_layout.specs.CapRead.Decode.{positive, up_to}
use Rattle.cjc_layout.specs.CapRead.Opcodes.{Byte, Fields, Lookup, Signed1, Signed2, Signed4, Table, form, forms}
use Rattle.cjc_types.specs.Bytecode.Jvm as jvm
use Rattle.cjc_types.specs.Bytecode.declared.insn.JCase.{JCase}
use Rattle.cjc_types.specs.Bytecode.declared.insn.JOp.{JOp}
use Rattle.cjc_types.specs.Bytecode.declared.insn.JOp.TheVariants as jop
use Rattle.cjc_ncode.specs.Lowering.Laid.{laid, matches, offsets}
use Rattle.cjc_ncode.specs.Lowering.Naming.{Naming}
use Rattle.cjc_ncode.specs.Lowering.Placed.{IsSpellable}
use Rattle.cjc_ncode.specs.declared.narrow.NCase.{NCase}
use Rattle.cjc_ncode.specs.declared.narrow.NInsn.{NInsn}
use Rattle.cjc_ncode.specs.declared.narrow.NInsn.TheVariants.{Op, Push, Local, Inc, Words, Jump, Switch, Named}
use Rattle.cjc_ncode.specs.declared.narrow.NInsn.TheVariants.{Interface, NewArray, TypeTest}
use Rattle.cjc_ncode.specs.declared.narrow.PoolKey.TheVariants as keys
use Rattle.cjc_ncode.specs.Written.{Resolution, arithmetic, call_by, condition, element_number, field_access, is_byte}
use Rattle.cjc_ncode.specs.Written.{leaving, local, nargs_of, pair_case, static_access, type_test}
use Rattle.cjc_ncode.specs.IntCode.IntCode.{Before, Frame, Reached, called_with, copied, dropped, element_read}
use Rattle.cjc_ncode.specs.IntCode.IntCode.{element_written, field_get, field_put, first_word, guard, handed_over}
use Rattle.cjc_ncode.specs.IntCode.IntCode.{index_of_one, index_of_two, int_method, is_by_scratch, is_reference}
use Rattle.cjc_ncode.specs.IntCode.IntCode.{is_short, jumped, loads, moved, moved_from, nargs, narrowed, on_stack}
use Rattle.cjc_ncode.specs.IntCode.IntCode.{place_in, prologue, pushed, put_aside, returned, scratch, scratch_pairs_by}
use Rattle.cjc_ncode.specs.IntCode.IntCode.{static_get, static_put, stores, table_cases, taken_back, widened}
use Rattle.cjc_ncode.specs.IntCode.IntCode.{widened_result, words, written, written_from}
use Rattle.cjc_int_proof.specs.Operands.{IsInt, MatchesRise, OperandsFit, TableFits, names_nothing}

-- ---- opcodes by their forms

abbrev IsBare : ℕ → Type 0
IsBare op = form op ≡ Some (Fields [])

if_bare : (b : Bool) (x y : ℕ) → IsBare x → IsBare y → IsBare (if b then x else y)
if_bare true x y h g = h
if_bare false x y h g = g

few_bare : (first m : ℕ) → m ≤ 3 → IsBare first → IsBare (first + 1) → IsBare (first + 2) → IsBare (first + 3)
    → IsBare (first + m)
few_bare first zero h a b c d = let e : first ≡ first + 0 = omega arith in subst IsBare e a
few_bare first (suc zero) h a b c d = b
few_bare first (suc (suc zero)) h a b c d = c
few_bare first (suc (suc (suc zero))) h a b c d = d
few_bare first (suc (suc (suc (suc m)))) h a b c d = absurd (omega (arith, h))

number_bare : (m : ℕ) → m ≤ 5 → IsBare (card.iconst_0 + m)
unfolding form forms
number_bare zero h = refl
number_bare (suc zero) h = refl
number_bare (suc (suc zero)) h = refl
number_bare (suc (suc (suc zero))) h = refl
number_bare (suc (suc (suc (suc zero)))) h = refl
number_bare (suc (suc (suc (suc (suc zero))))) h = refl
number_bare (suc (suc (suc (suc (suc (suc m)))))) h = absurd (omega (arith, h))

calculated_bare : (n : ℕ) → IsBare (arithmetic n + 1)
unfolding form forms
calculated_bare n = go (n == jvm.iadd) (n == jvm.isub) (n == jvm.imul) (n == jvm.idiv) (n == jvm.irem) (n == jvm.ineg)
    (n == jvm.ishl) (n == jvm.ishr) (n == jvm.iushr) (n == jvm.iand) (n == jvm.ior)
  where
    go : (a b c d e f g h i j k : Bool) → IsBare ((if a then card.sadd else (if b then card.ssub else (if c
        then card.smul else (if d then card.sdiv else (if e then card.srem else (if f then card.sneg else (if g
        then card.sshl else (if h then card.sshr else (if i then card.sushr else (if j then card.sand else (if k
        then card.sor else card.sxor))))))))))) + 1)
    go true b c d e f g h i j k = refl
    go false true c d e f g h i j k = refl
    go false false true d e f g h i j k = refl
    go false false false true e f g h i j k = refl
    go false false false false true f g h i j k = refl
    go false false false false false true g h i j k = refl
    go false false false false false false true h i j k = refl
    go false false false false false false false true i j k = refl
    go false false false false false false false false true j k = refl
    go false false false false false false false false false true k = refl
    go false false false false false false false false false false true = refl
    go false false false false false false false false false false false = refl

leaving_bare : (n : ℕ) → IsBare (leaving n)
unfolding form forms
leaving_bare n = if_bare (n == jvm.ireturn) card.sreturn (if n == jvm.areturn then card.areturn else card.return) refl
    (if_bare (n == jvm.areturn) card.areturn card.return refl refl)

abbrev IsJump : ℕ → Type 0
IsJump op = form op ≡ Some (Fields (Signed1 ∷ []))

jump_form : (k : ℕ) → k ≤ 16 → IsJump (card.ifeq + k)
unfolding form forms
jump_form zero h = refl
jump_form (suc zero) h = refl
jump_form (suc (suc zero)) h = refl
jump_form (suc (suc (suc zero))) h = refl
jump_form (suc (suc (suc (suc zero)))) h = refl
jump_form (suc (suc (suc (suc (suc zero))))) h = refl
jump_form (suc (suc (suc (suc (suc (suc zero)))))) h = refl
jump_form (suc (suc (suc (suc (suc (suc (suc zero))))))) h = refl
jump_form (suc (suc (suc (suc (suc (suc (suc (suc zero)))))))) h = refl
jump_form (suc (suc (suc (suc (suc (suc (suc (suc (suc zero))))))))) h = refl
jump_form (suc (suc (suc (suc (suc (suc (suc (suc (suc (suc zero)))))))))) h = refl
jump_form (suc (suc (suc (suc (suc (suc (suc (suc (suc (suc (suc zero))))))))))) h = refl
jump_form (suc (suc (suc (suc (suc (suc (suc (suc (suc (suc (suc (suc zero)))))))))))) h = refl
jump_form (suc (suc (suc (suc (suc (suc (suc (suc (suc (suc (suc (suc (suc zero))))))))))))) h = refl
jump_form (suc (suc (suc (suc (suc (suc (suc (suc (suc (suc (suc (suc (suc (suc zero)))))))))))))) h = refl
jump_form (suc (suc (suc (suc (suc (suc (suc (suc (suc (suc (suc (suc (suc (suc (suc zero))))))))))))))) h = refl
jump_form (suc (suc (suc (suc (suc (suc (suc (suc (suc (suc (suc (suc (suc (suc (suc (suc zero)))))))))))))))) h = refl
jump_form (suc (suc (suc (suc (suc (suc (suc (suc (suc (suc (suc (suc (suc (suc (suc (suc (suc k))))))))))))))))) h =
    absurd (omega (arith, h))

condition_form : (n : ℕ) → nat_le n jvm.ifle ≡ false → nat_le n jvm.if_icmple ≡ false → IsJump (condition n)
condition_form n not_zero not_both = go (nat_le n jvm.ifle) (nat_le n jvm.if_icmple) (n == jvm.if_acmpeq)
    (n == jvm.if_acmpne) (n == jvm.ifnull) not_zero not_both
  where
    go : (a b c d e : Bool) → a ≡ false → b ≡ false → IsJump (if a then n - jvm.ifeq + card.ifeq else (if b
        then n - jvm.if_icmpeq + card.if_scmpeq else (if c then card.if_acmpeq else (if d then card.if_acmpne else (if e
        then card.ifnull else card.ifnonnull)))))
    go true b c d e h k = absurd cc
    go false true c d e h k = absurd cc
    go false false true d e h k = jump_form 8 (leb-true 8 16 refl)
    go false false false true e h k = jump_form 9 (leb-true 9 16 refl)
    go false false false false true h k = jump_form 6 (leb-true 6 16 refl)
    go false false false false false h k = jump_form 7 (leb-true 7 16 refl)

-- a number of one byte
byte_within : (z : ℤ) → is_byte z ≡ true → IsWithin 128 z
byte_within (pos n) e = positive (let le = leb-true n 127 e in omega (arith, le))
byte_within (negsuc n) e = negative (let le = leb-true n 127 (both_front (nat_le n 127) true e) in omega (arith, le))

-- ---- words of the stack

low_width : (b : Bool) → (if b then 1 else 2) ≤ 2
low_width true = omega arith
low_width false = omega arith

words_low : (cells : ℕ) (references : List Bool) → words cells references ≤ 2 * cells
words_low zero references = omega arith
words_low (suc cells) [] = omega arith
words_low (suc cells) (r ∷ references) =
    let first = low_width r in
    let rest = words_low cells references in
    let split : words (suc cells) (r ∷ references) ≡ (if r then 1 else 2) + words cells references =
    sum_by-cons (λ (b : Bool). if b then 1 else 2) r (take cells references) in
    omega (arith, first, rest, split)

module _ (n : Naming) where
  -- bytes can say an instruction that names nothing
  Says : NInsn → Type 0
  Says i = names_nothing i ≡ true → IsSpellable (laid n (λ label. 0) 0 false i)

  AllSay : List NInsn → Type 0
  AllSay [] = Unit {0}
  AllSay (i ∷ insns) = Says i × AllSay insns

  nothing : AllSay []
  unfolding AllSay
  nothing = tt

  before_all : (i : NInsn) (insns : List NInsn) → Says i → AllSay insns → AllSay (i ∷ insns)
  unfolding AllSay
  before_all i insns h k = (h, k)

  join : (xs ys : List NInsn) → AllSay xs → AllSay ys → AllSay (xs ++ ys)
  unfolding AllSay
  join [] ys h k = k
  join (x ∷ xs) ys h k = (h.0, join xs ys h.1 k)

  there : (xs : List NInsn) (k : ℕ) (i : NInsn) → AllSay xs → slice_get xs k ≡ Some i → Says i
  unfolding AllSay
  there [] k i h e = absurd cc
  there (x ∷ xs) zero i h e = let same : x ≡ i = cc in subst Says same h.0
  there (x ∷ xs) (suc k) i h e = there xs k i h.1 e

  one : (i : NInsn) → Says i → AllSay (i ∷ [])
  one i h = before_all i [] h nothing

  either : (b : Bool) (xs ys : List NInsn) → AllSay xs → AllSay ys → AllSay (if b then xs else ys)
  either true xs ys h k = h
  either false xs ys h k = k

  either_one : (b : Bool) (x y : NInsn) → Says x → Says y → Says (if b then x else y)
  either_one true x y h k = h
  either_one false x y h k = k

  bare : (op : ℕ) → IsBare op → Says (Op op)
  unfolding Says
  bare op e said = record {
    form = Fields [];
    writable = record {
      form = e;
      operands = none;
      table = none;
      whole = refl;
    };
  }

  bares : (op : ℕ) → IsBare op → AllSay (Op op ∷ [])
  bares op e = one (Op op) (bare op e)

  two_bares : (op next : ℕ) → IsBare op → IsBare next → AllSay (Op op ∷ Op next ∷ [])
  two_bares op next e g = before_all (Op op) (Op next ∷ []) (bare op e) (bares next g)

  naming : (i : NInsn) → names_nothing i ≡ false → Says i
  unfolding Says
  naming i e said = absurd cc

  -- ---- numbers and locals

  push_one : (z : ℤ) → IsWithin 128 z → Says (Push card.bipush z)
  unfolding Says form forms
  push_one z h said = record {
    form = Fields (Signed1 ∷ []);
    writable = record {
      form = refl;
      operands = more h none;
      table = none;
      whole = refl;
    };
  }

  push_two : (z : ℤ) → IsWithin 32768 z → Says (Push card.sipush z)
  unfolding Says form forms
  push_two z h said = record {
    form = Fields (Signed2 ∷ []);
    writable = record {
      form = refl;
      operands = more h none;
      table = none;
      whole = refl;
    };
  }

  push_four : (z : ℤ) → IsInt z → Says (Push card.iipush z)
  unfolding Says form forms
  push_four z h said = record {
    form = Fields (Signed4 ∷ []);
    writable = record {
      form = refl;
      operands = more h none;
      table = none;
      whole = refl;
    };
  }

  pushes : (z : ℤ) → IsInt z → Says (pushed z)
  unfolding form forms
  pushes (pos n) h = go (nat_le n 5) (nat_le n 127) (nat_le n 32767) refl refl refl
    where
      go : (a b c : Bool) → nat_le n 5 ≡ a → nat_le n 127 ≡ b → nat_le n 32767 ≡ c → Says (if a
          then Op (card.iconst_0 + n) else (if b then Push card.bipush (pos n) else (if c
          then Push card.sipush (pos n) else Push card.iipush (pos n))))
      go true b c e g k = bare (card.iconst_0 + n) (number_bare n (leb-true n 5 e))
      go false true c e g k = push_one (pos n) (positive (let le = leb-true n 127 g in omega (arith, le)))
      go false false true e g k = push_two (pos n) (positive (let le = leb-true n 32767 k in omega (arith, le)))
      go false false false e g k = push_four (pos n) h
  pushes (negsuc n) h = go (n == 0) (nat_le n 127) (nat_le n 32767) refl refl
    where
      go : (a b c : Bool) → nat_le n 127 ≡ b → nat_le n 32767 ≡ c → Says (if a then Op card.iconst_m1 else (if b
          then Push card.bipush (negsuc n) else (if c then Push card.sipush (negsuc n)
          else Push card.iipush (negsuc n))))
      go true b c g k = bare card.iconst_m1 refl
      go false true c g k = push_one (negsuc n) (negative (let le = leb-true n 127 g in omega (arith, le)))
      go false false true g k = push_two (negsuc n) (negative (let le = leb-true n 32767 k in omega (arith, le)))
      go false false false g k = push_four (negsuc n) h

  long : (op l : ℕ) → form op ≡ Some (Fields (Byte ∷ [])) → l < 256 → Says (Local op l)
  unfolding Says
  long op l e lt said = record {
    form = Fields (Byte ∷ []);
    writable = record {
      form = e;
      operands = more (below lt) none;
      table = none;
      whole = refl;
    };
  }

  locals : (first op l : ℕ) → IsBare first → IsBare (first + 1) → IsBare (first + 2) → IsBare (first + 3)
      → form op ≡ Some (Fields (Byte ∷ [])) → l < 256 → AllSay (local first op l)
  locals first op l a b c d e lt = one (if nat_le l 3 then Op (first + l) else Local op l) (go (nat_le l 3) refl)
    where
      go : (p : Bool) → nat_le l 3 ≡ p → Says (if p then Op (first + l) else Local op l)
      go true g = bare (first + l) (few_bare first l (leb-true l 3 g) a b c d)
      go false g = long op l e lt

  loading : (refs : Bool) (l : ℕ) → l < 256 → AllSay (loads refs l)
  unfolding form forms
  loading false l lt = locals card.iload_0 card.iload l refl refl refl refl refl lt
  loading true l lt = locals card.aload_0 card.aload l refl refl refl refl refl lt

  storing : (refs : Bool) (l : ℕ) → l < 256 → AllSay (stores refs l)
  unfolding form forms
  storing false l lt = locals card.istore_0 card.istore l refl refl refl refl refl lt
  storing true l lt = locals card.astore_0 card.astore l refl refl refl refl refl lt

  short_loading : (l : ℕ) → l < 256 → AllSay (local card.sload_0 card.sload l)
  unfolding form forms
  short_loading l lt = locals card.sload_0 card.sload l refl refl refl refl refl lt

  widening : (s : Sort) → AllSay (widened s)
  unfolding form forms
  widening s = either (is_short s) (Op card.s2i ∷ []) [] (bares card.s2i refl) nothing

  narrowing : (s : Sort) → AllSay (narrowed s)
  unfolding form forms
  narrowing s = either (is_short s) (Op card.i2s ∷ []) [] (bares card.i2s refl) nothing

  moving : (f : Frame) (s : Sort) (word l : ℕ) → word < 256 → first_word f l < 256 → AllSay (moved f s word l)
  moving f s word l lt to =
      let load : List NInsn = if is_short s then local card.sload_0 card.sload word else loads (is_reference s) word in
      join (load ++ widened s) (stores (is_reference s) (first_word f l))
      (join load (widened s) (either (is_short s) (local card.sload_0 card.sload word) (loads (is_reference s) word)
      (short_loading word lt) (loading (is_reference s) word lt)) (widening s))
      (storing (is_reference s) (first_word f l) to)

  some_width : (s : Sort) → 1 ≤ width s
  some_width Boolean = omega arith
  some_width ByteSort = omega arith
  some_width Short = omega arith
  some_width Int = omega arith
  some_width (Reference shape) = omega arith
  some_width NoValue = omega arith

  moves : (f : Frame) (word l : ℕ) (sorts : List Sort) → word + widths sorts ≤ 256
      → first_word f l + 2 * length sorts ≤ 256 → AllSay (moved_from f word l sorts)
  moves f word l [] le to = nothing
  moves f word l (s ∷ sorts) le to =
      let some = some_width s in
      join (moved f s word l) (moved_from f (word + widths (s ∷ [])) (l + 1) sorts)
      (moving f s word l (omega (arith, le, some)) (omega (arith, to)))
      (moves f (word + widths (s ∷ [])) (l + 1) sorts (omega (arith, le)) (omega (arith, to)))

  inc_one : (l : ℕ) (by : ℤ) → l < 256 → IsWithin 128 by → Says (Inc card.iinc l by)
  unfolding Says form forms
  inc_one l by lt h said = record {
    form = Fields (Byte ∷ Signed1 ∷ []);
    writable = record {
      form = refl;
      operands = more (below lt) (more h none);
      table = none;
      whole = refl;
    };
  }

  inc_two : (l : ℕ) (by : ℤ) → l < 256 → IsWithin 32768 by → Says (Inc card.iinc_w l by)
  unfolding Says form forms
  inc_two l by lt h said = record {
    form = Fields (Byte ∷ Signed2 ∷ []);
    writable = record {
      form = refl;
      operands = more (below lt) (more h none);
      table = none;
      whole = refl;
    };
  }

  increasing : (l : ℕ) (by : ℤ) → l < 256 → IsWithin 32768 by → Says (Inc (if is_byte by then card.iinc
      else card.iinc_w) l by)
  increasing l by lt h = go (is_byte by) refl
    where
      go : (b : Bool) → is_byte by ≡ b → Says (Inc (if b then card.iinc else card.iinc_w) l by)
      go true e = inc_one l by lt (byte_within by e)
      go false e = inc_two l by lt h

  -- ---- jumps

  jumping_to : (op target : ℕ) → IsJump op → Says (Jump op target)
  unfolding Says
  jumping_to op target e said = record {
    form = Fields (Signed1 ∷ []);
    writable = record {
      form = e;
      operands = more (positive (omega arith)) none;
      table = none;
      whole = refl;
    };
  }

  -- ---- elements

  guarding : (inside : Bool) (here : ℕ) → AllSay (guard inside here)
  unfolding form forms
  guarding true here = bares card.i2s refl
  guarding false here =
      join (Op card.dup2 ∷ Op card.dup2 ∷ []) (Op card.i2s ∷ Op card.s2i ∷ Op card.icmp ∷ Jump card.ifeq (here + 8)
      ∷ Op card.pop2 ∷ Op card.iconst_m1 ∷ Op card.i2s ∷ []) (two_bares card.dup2 card.dup2 refl refl)
      (join (Op card.i2s ∷ Op card.s2i ∷ []) (Op card.icmp ∷ Jump card.ifeq (here + 8) ∷ Op card.pop2
      ∷ Op card.iconst_m1 ∷ Op card.i2s ∷ []) (two_bares card.i2s card.s2i refl refl)
      (join (Op card.icmp ∷ Jump card.ifeq (here + 8) ∷ []) (Op card.pop2 ∷ Op card.iconst_m1 ∷ Op card.i2s ∷ [])
      (before_all (Op card.icmp) (Jump card.ifeq (here + 8) ∷ []) (bare card.icmp refl)
      (one (Jump card.ifeq (here + 8)) (jumping_to card.ifeq (here + 8) refl)))
      (before_all (Op card.pop2) (Op card.iconst_m1 ∷ Op card.i2s ∷ []) (bare card.pop2 refl)
      (two_bares card.iconst_m1 card.i2s refl refl))))

  reading : (m : ℕ) → AllSay (element_read m)
  unfolding form forms
  reading m = either (m == jvm.iaload) (Op card.iaload ∷ []) (if m == jvm.aaload then Op card.aaload ∷ []
      else (if m == jvm.baload then Op card.baload ∷ Op card.s2i ∷ [] else Op card.saload ∷ Op card.s2i ∷ []))
      (bares card.iaload refl) (either (m == jvm.aaload) (Op card.aaload ∷ []) (if m == jvm.baload then Op card.baload
      ∷ Op card.s2i ∷ [] else Op card.saload ∷ Op card.s2i ∷ []) (bares card.aaload refl) (either (m == jvm.baload)
      (Op card.baload ∷ Op card.s2i ∷ []) (Op card.saload ∷ Op card.s2i ∷ []) (two_bares card.baload card.s2i refl refl)
      (two_bares card.saload card.s2i refl refl)))

  counted : (op a b : ℕ) → form op ≡ Some (Fields (Byte ∷ [])) → 16 * a + b < 256 → Says (Words op a b)
  unfolding Says
  counted op a b e lt said = record {
    form = Fields (Byte ∷ []);
    writable = record {
      form = e;
      operands = more (below lt) none;
      table = none;
      whole = refl;
    };
  }

  copies : (a b : ℕ) → 16 * a + b < 256 → Says (Words card.dup_x a b)
  unfolding form forms
  copies a b lt = counted card.dup_x a b refl lt

  swaps : (a b : ℕ) → 16 * a + b < 256 → Says (Words card.swap_x a b)
  unfolding form forms
  swaps a b lt = counted card.swap_x a b refl lt

  by_one : (inside : Bool) (here : ℕ) → AllSay (index_of_one inside here)
  by_one inside here = before_all (Words card.swap_x 1 2) (guard inside (here + 1) ++ Words card.swap_x 1 1 ∷ [])
      (swaps 1 2 (omega arith)) (join (guard inside (here + 1)) (Words card.swap_x 1 1 ∷ [])
      (guarding inside (here + 1)) (one (Words card.swap_x 1 1) (swaps 1 1 (omega arith))))

  by_two : (inside : Bool) (here : ℕ) → AllSay (index_of_two inside here)
  by_two inside here = before_all (Words card.swap_x 2 2) (guard inside (here + 1) ++ Words card.swap_x 1 2 ∷ [])
      (swaps 2 2 (omega arith)) (join (guard inside (here + 1)) (Words card.swap_x 1 2 ∷ [])
      (guarding inside (here + 1)) (one (Words card.swap_x 1 2) (swaps 1 2 (omega arith))))

  elements : (m : ℕ) (inside : Bool) (here : ℕ) → AllSay (element_written m inside here)
  unfolding form forms
  elements m inside here =
      let narrow : ℕ = if m == jvm.bastore then card.bastore else card.sastore in
      let narrow_bare : IsBare narrow = if_bare (m == jvm.bastore) card.bastore card.sastore refl refl in
      let short : List NInsn = Op card.i2s ∷ (index_of_one inside (here + 1) ++ Op narrow ∷ []) in
      either (m == jvm.iastore) (index_of_two inside here ++ Op card.iastore ∷ []) (if m == jvm.aastore
      then index_of_one inside here ++ Op card.aastore ∷ [] else short) (join (index_of_two inside here)
      (Op card.iastore ∷ []) (by_two inside here) (bares card.iastore refl)) (either (m == jvm.aastore)
      (index_of_one inside here ++ Op card.aastore ∷ []) short (join (index_of_one inside here) (Op card.aastore ∷ [])
      (by_one inside here) (bares card.aastore refl)) (before_all (Op card.i2s) (index_of_one inside (here + 1)
      ++ Op narrow ∷ []) (bare card.i2s refl) (join (index_of_one inside (here + 1)) (Op narrow ∷ [])
      (by_one inside (here + 1)) (bares narrow narrow_bare))))

  -- ---- the stack

  dropping : (b : Bool) → Says (dropped b)
  unfolding form forms
  dropping b = bare (if b then card.pop else card.pop2) (if_bare b card.pop card.pop2 refl refl)

  drops : (references : List Bool) → AllSay (map dropped references)
  drops [] = nothing
  drops (r ∷ references) = before_all (dropped r) (map dropped references) (dropping r) (drops references)

  copying : (w : ℕ) → w ≤ 4 → Says (copied w)
  unfolding form forms
  copying w le = either_one (w == 1) (Op card.dup) (if w == 2 then Op card.dup2 else Words card.dup_x w 0)
      (bare card.dup refl) (either_one (w == 2) (Op card.dup2) (Words card.dup_x w 0) (bare card.dup2 refl)
      (copies w 0 (omega (arith, le))))

  stacking : (m : ℕ) (references : List Bool) → AllSay (on_stack m references)
  stacking m references = go (m == jvm.pop) (m == jvm.pop2) (m == jvm.dup) (m == jvm.dup2) (m == jvm.dup_x1)
      (m == jvm.dup_x2) (m == jvm.dup2_x1) (m == jvm.dup2_x2)
    where
      w : ℕ → ℕ
      w cells = words cells references

      below_others : (j k : ℕ) → j ≤ 2 → k ≤ 4 → AllSay (Words card.dup_x (w j) (w k) ∷ [])
      below_others j k le few =
          let a = words_low j references in
          let b = words_low k references in
          one (Words card.dup_x (w j) (w k)) (copies (w j) (w k) (omega (arith, a, b, le, few)))

      swapped : AllSay (Words card.swap_x (w 1) (w 2 - w 1) ∷ [])
      swapped =
          let a = words_low 1 references in
          let b = words_low 2 references in
          one (Words card.swap_x (w 1) (w 2 - w 1)) (swaps (w 1) (w 2 - w 1) (omega (arith, a, b)))

      same : (j : ℕ) → j ≤ 2 → AllSay (copied (w j) ∷ [])
      same j le = let a = words_low j references in one (copied (w j)) (copying (w j) (omega (arith, a, le)))

      go : (a b c d e f g h : Bool) → AllSay (if a then map dropped (take 1 references) else (if b
          then map dropped (take 2 references) else (if c then copied (w 1) ∷ [] else (if d then copied (w 2) ∷ []
          else (if e then Words card.dup_x (w 1) (w 2) ∷ [] else (if f then Words card.dup_x (w 1) (w 3) ∷ []
          else (if g then Words card.dup_x (w 2) (w 3) ∷ [] else (if h then Words card.dup_x (w 2) (w 4) ∷ []
          else Words card.swap_x (w 1) (w 2 - w 1) ∷ []))))))))
      go true b c d e f g h = drops (take 1 references)
      go false true c d e f g h = drops (take 2 references)
      go false false true d e f g h = same 1 (omega arith)
      go false false false true e f g h = same 2 (omega arith)
      go false false false false true f g h = below_others 1 2 (omega arith) (omega arith)
      go false false false false false true g h = below_others 1 3 (omega arith) (omega arith)
      go false false false false false false true h = below_others 2 3 (omega arith) (omega arith)
      go false false false false false false false true = below_others 2 4 (omega arith) (omega arith)
      go false false false false false false false false = swapped

  -- ---- conditions, switches and returns

  jumping : (m target : ℕ) → AllSay (jumped m target)
  unfolding form forms
  jumping m target = go (nat_le m jvm.ifle) (nat_le m jvm.if_icmple) refl refl
    where
      go : (a b : Bool) → nat_le m jvm.ifle ≡ a → nat_le m jvm.if_icmple ≡ b → AllSay (if a then Op card.iconst_0
          ∷ Op card.icmp ∷ Jump (card.ifeq + (m - jvm.ifeq)) target ∷ [] else (if b then Op card.icmp
          ∷ Jump (card.ifeq + (m - jvm.if_icmpeq)) target ∷ [] else Jump (condition m) target ∷ []))
      go true b e g =
          let high = leb-true m jvm.ifle e in
          join (Op card.iconst_0 ∷ Op card.icmp ∷ []) (Jump (card.ifeq + (m - jvm.ifeq)) target ∷ [])
          (two_bares card.iconst_0 card.icmp refl refl) (one (Jump (card.ifeq + (m - jvm.ifeq)) target)
          (jumping_to (card.ifeq + (m - jvm.ifeq)) target (jump_form (m - jvm.ifeq) (omega (arith, high)))))
      go false true e g =
          let high = leb-true m jvm.if_icmple g in
          join (Op card.icmp ∷ []) (Jump (card.ifeq + (m - jvm.if_icmpeq)) target ∷ []) (bares card.icmp refl)
          (one (Jump (card.ifeq + (m - jvm.if_icmpeq)) target) (jumping_to (card.ifeq + (m - jvm.if_icmpeq)) target
          (jump_form (m - jvm.if_icmpeq) (omega (arith, high)))))
      go false false e g = one (Jump (condition m) target) (jumping_to (condition m) target (condition_form m e g))

  cases_long : (place : ℕ → ℕ) (low : ℤ) (ts : List ℕ) → length (table_cases place low ts) ≡ length ts
  cases_long place low [] = refl
  cases_long place low (t ∷ ts) = ap suc (cases_long place (low +ℤ pos 1) ts)

  offsets_fit : (cases : List NCase) → AllFit (replicate (length cases) Signed2) (offsets n (λ label. 0) 0 cases)
  offsets_fit [] = none
  offsets_fit (c ∷ cases) = more (positive (omega arith)) (offsets_fit cases)

  span_is : (low : ℤ) (count : ℕ) → 0 < count → up_to (((low +ℤ pos count) -ℤ pos 1) -ℤ low) ≡ count
  span_is low zero lt = absurd (omega (arith, lt))
  span_is low (suc k) lt =
      let e : ((low +ℤ pos (suc k)) -ℤ pos 1) -ℤ low ≡ pos k = omega (arith, ints) in ap up_to e

  span_up : (low : ℤ) (count : ℕ) → 0 < count → low ≤ℤ ((low +ℤ pos count) -ℤ pos 1)
  span_up low zero lt = absurd (omega (arith, lt))
  span_up low (suc k) lt = omega (arith, ints)

  table : (other : ℕ) (low : ℤ) (cases : List NCase) → TableFits low (length cases)
      → Says (Switch card.itableswitch other low cases)
  unfolding Says meaning form forms
  table other low cases fits said = record {
    form = Table Signed4;
    writable = record {
      form = refl;
      operands = more (positive (omega arith)) (more fits.low_fits (more fits.high_fits none));
      table = subst (λ k. AllFit (replicate k Signed2) (offsets n (λ label. 0) 0 cases))
          (sym (span_is low (length cases) fits.some)) (offsets_fit cases);
      whole = le_true low ((low +ℤ pos (length cases)) -ℤ pos 1) (span_up low (length cases) fits.some);
    };
  }

  tables : (place : ℕ → ℕ) (other : ℕ) (low : ℤ) (ts : List ℕ) → TableFits low (length ts)
      → Says (Switch card.itableswitch other low (table_cases place low ts))
  tables place other low ts fits = table other low (table_cases place low ts) (subst (TableFits low)
      (sym (cases_long place low ts)) fits)

  -- the matches of a lookup switch
  pairs_fit : (place : ℕ → ℕ) (cases : List JCase) → MatchesRise cases
      → AllFit (pairs Signed4 (length (map (pair_case place) cases))) (matches n (λ label. 0) 0 (map (pair_case place)
      cases))
  pairs_fit place [] h = none
  pairs_fit place (c ∷ []) h = more h (more (positive (omega arith)) none)
  pairs_fit place (c ∷ d ∷ cases) h = more h.0 (more (positive (omega arith)) (pairs_fit place (d ∷ cases) h.2))

  pairs_rise : (place : ℕ → ℕ) (cases : List JCase) → MatchesRise cases
      → matches_ascend (matches n (λ label. 0) 0 (map (pair_case place) cases)) ≡ true
  pairs_rise place [] h = refl
  pairs_rise place (c ∷ []) h = refl
  pairs_rise place (c ∷ d ∷ cases) h =
      ap (λ b. b && matches_ascend (matches n (λ label. 0) 0 (map (pair_case place) (d ∷ cases)))) h.1
      ∙ pairs_rise place (d ∷ cases) h.2

  lookups : (place : ℕ → ℕ) (other : ℕ) (cases : List JCase) → length cases < 65536 → MatchesRise cases
      → Says (Switch card.ilookupswitch other (pos 0) (map (pair_case place) cases))
  unfolding Says meaning form forms
  lookups place other cases lt rise said =
      let as_many : length (map (pair_case place) cases) ≡ length cases = length-map cases (pair_case place) in
      record {
        form = Lookup Signed4;
        writable = record {
          form = refl;
          operands = more (positive (omega arith)) (more (below (omega (arith, lt, as_many))) none);
          table = pairs_fit place cases rise;
          whole = pairs_rise place cases rise;
        };
      }

  returning : (result : Option Sort) → AllSay (returned result)
  unfolding form forms
  returning None = two_bares card.i2s card.sreturn refl refl
  returning (Some Boolean) = two_bares card.i2s card.sreturn refl refl
  returning (Some ByteSort) = two_bares card.i2s card.sreturn refl refl
  returning (Some Short) = two_bares card.i2s card.sreturn refl refl
  returning (Some Int) = bares card.ireturn refl
  returning (Some (Reference shape)) = two_bares card.i2s card.sreturn refl refl
  returning (Some NoValue) = two_bares card.i2s card.sreturn refl refl

  -- ---- names

  named : (op : ℕ) (key : _) → Says (Named op key)
  named op key = naming (Named op key) refl

  arrays : (kind : ℕ) → kind < 256 → Says (NewArray kind)
  unfolding Says form forms
  arrays kind lt said = record {
    form = Fields (Byte ∷ []);
    writable = record {
      form = refl;
      operands = more (below lt) none;
      table = none;
      whole = refl;
    };
  }

  kinds : (kind : ℕ) → Says (NewArray (element_number kind))
  kinds kind = go (kind == 4) (kind == 8) (kind == 9)
    where
      go : (a b c : Bool) → Says (NewArray (if a then 10 else (if b then 11 else (if c then 12 else 13))))
      go true b c = arrays 10 (omega arith)
      go false true c = arrays 11 (omega arith)
      go false false true = arrays 12 (omega arith)
      go false false false = arrays 13 (omega arith)

  tests : (op : ℕ) (type : Option (Shape (List ℕ))) → AllSay (type_test op type)
  tests op None = nothing
  tests op (Some (OfClass class)) = one (TypeTest op 0 (Some class)) (naming (TypeTest op 0 (Some class)) refl)
  tests op (Some (OfReferences class)) = one (TypeTest op 14 (Some class)) (naming (TypeTest op 14 (Some class)) refl)
  tests op (Some (OfNumbers Booleans)) = one (TypeTest op 10 None) (naming (TypeTest op 10 None) refl)
  tests op (Some (OfNumbers Bytes)) = one (TypeTest op 11 None) (naming (TypeTest op 11 None) refl)
  tests op (Some (OfNumbers Shorts)) = one (TypeTest op 12 None) (naming (TypeTest op 12 None) refl)
  tests op (Some (OfNumbers Ints)) = one (TypeTest op 13 None) (naming (TypeTest op 13 None) refl)

  -- ---- calls

  asides : (f : Frame) (j : ℕ) (sorts : List Sort) → scratch f j + 2 * length sorts ≤ 256 → AllSay (put_aside f j sorts)
  asides f j [] le = nothing
  asides f j (s ∷ sorts) le = join (put_aside f (j + 1) sorts) (stores (is_reference s) (scratch f j))
      (asides f (j + 1) sorts (omega (arith, le))) (storing (is_reference s) (scratch f j) (omega (arith, le)))

  backs : (f : Frame) (j : ℕ) (sorts : List Sort) → scratch f j + 2 * length sorts ≤ 256
      → AllSay (taken_back f j sorts)
  backs f j [] le = nothing
  backs f j (s ∷ sorts) le = join (loads (is_reference s) (scratch f j) ++ narrowed s) (taken_back f (j + 1) sorts)
      (join (loads (is_reference s) (scratch f j)) (narrowed s) (loading (is_reference s) (scratch f j) (omega (
        arith,
        le,
      ))) (narrowing s)) (backs f (j + 1) sorts (omega (arith, le)))

  handing : (f : Frame) (params : List Sort) → scratch f (if is_by_scratch params then length params else 0) ≤ 256
      → AllSay (handed_over f params)
  unfolding form forms
  handing f params le = go (is_by_scratch params) le
    where
      go : (b : Bool) → scratch f (if b then length params else 0) ≤ 256 → AllSay (if b then put_aside f 0 params
          ++ taken_back f 0 params else (if list_any is_short params then Op card.i2s ∷ [] else []))
      go true fits =
          let all : scratch f 0 + 2 * length params ≤ 256 = omega (arith, fits) in
          join (put_aside f 0 params) (taken_back f 0 params) (asides f 0 params all) (backs f 0 params all)
      go false fits = either (list_any is_short params) (Op card.i2s ∷ []) [] (bares card.i2s refl) nothing

  results : (result : Option Sort) → AllSay (widened_result result)
  results None = nothing
  results (Some s) = widening s

  module _ (f : Frame) (r : Resolution) where
    calling : (m : ℕ) (id : MemberId) → AllSay (call_by r m id)
    calling m id = go (m == jvm.invokeinterface) (m == jvm.invokevirtual) (m == jvm.invokespecial)
      where
        go : (a b c : Bool) → AllSay ((if a then Interface (nargs_of id) (r.interface id)
            else (if b then Named card.invokevirtual (r.virtual id) else (if c
            then Named card.invokespecial (r.special id) else Named card.invokestatic (r.static id)))) ∷ [])
        go true b c = one (Interface (nargs_of id) (r.interface id)) (naming (Interface (nargs_of id) (r.interface id))
            refl)
        go false true c = one (Named card.invokevirtual (r.virtual id)) (named card.invokevirtual (r.virtual id))
        go false false true = one (Named card.invokespecial (r.special id)) (named card.invokespecial (r.special id))
        go false false false = one (Named card.invokestatic (r.static id)) (named card.invokestatic (r.static id))

    sending : (m : ℕ) (id : MemberId) (types : Option Signature) → scratch f (scratch_pairs_by types) ≤ 256
        → AllSay (called_with f r m id types)
    sending m id None le = calling m id
    sending m id (Some types) le = join (handed_over f types.params ++ call_by r m id) (widened_result types.result)
        (join (handed_over f types.params) (call_by r m id) (handing f types.params le) (calling m id))
        (results types.result)

    statics : (put : Bool) (g : MemberId) (constant : Option ℤ) → ((z : ℤ) → constant ≡ Some z → IsInt z)
        → AllSay (if put then static_put r g else static_get r g constant)
    statics true g constant h = join (narrowed (field_sort g.desc)) (Named (static_access true (field_sort g.desc))
        (keys.StaticField (r.field g)) ∷ []) (narrowing (field_sort g.desc))
        (one (Named (static_access true (field_sort g.desc)) (keys.StaticField (r.field g)))
        (named (static_access true (field_sort g.desc)) (keys.StaticField (r.field g))))
    statics false g (Some z) h = one (pushed z) (pushes z (h z refl))
    statics false g None h = before_all (Named (static_access false (field_sort g.desc)) (keys.StaticField (r.field g)))
        (widened (field_sort g.desc)) (named (static_access false (field_sort g.desc)) (keys.StaticField (r.field g)))
        (widening (field_sort g.desc))

    fields : (put : Bool) (g : MemberId) → AllSay (if put then field_put r g else field_get r g)
    fields true g = join (narrowed (field_sort g.desc)) (Named (field_access true (r.is_near g) (field_sort g.desc))
        (keys.Field (r.field g)) ∷ []) (narrowing (field_sort g.desc))
        (one (Named (field_access true (r.is_near g) (field_sort g.desc)) (keys.Field (r.field g)))
        (named (field_access true (r.is_near g) (field_sort g.desc)) (keys.Field (r.field g))))
    fields false g = before_all (Named (field_access false (r.is_near g) (field_sort g.desc)) (keys.Field (r.field g)))
        (widened (field_sort g.desc)) (named (field_access false (r.is_near g) (field_sort g.desc))
        (keys.Field (r.field g))) (widening (field_sort g.desc))

    -- ---- an instruction

    saying : (place : ℕ → ℕ) (b : Before) (here : ℕ) (op : JOp) → OperandsFit f r op
        → AllSay (written f r place b here op)
    unfolding form forms
    saying place b here jop.Nop h = nothing
    saying place b here jop.Null h = bares card.aconst_null refl
    saying place b here (jop.Number z) h = one (pushed z) (pushes z h)
    saying place b here (jop.Load refs l) h = loading refs (first_word f l) h
    saying place b here (jop.Store refs l) h = storing refs (first_word f l) h
    saying place b here (jop.ArrayLoad m) h = join (guard b.is_index_inside here) (element_read m)
        (guarding b.is_index_inside here) (reading m)
    saying place b here (jop.ArrayStore m) h = elements m b.is_index_inside here
    saying place b here (jop.Stack m) h = stacking m b.references
    saying place b here (jop.Arith m) h = bares (arithmetic m + 1) (calculated_bare m)
    saying place b here (jop.Inc l by) h = one (Inc (if is_byte by then card.iinc else card.iinc_w) (first_word f l) by)
        (increasing (first_word f l) by h.0 h.1)
    saying place b here (jop.Narrow m) h = two_bares (if m == jvm.i2b then card.i2b else card.i2s) card.s2i
        (if_bare (m == jvm.i2b) card.i2b card.i2s refl refl) refl
    saying place b here (jop.If m target) h = jumping m (place target)
    saying place b here (jop.Goto target) h = one (Jump card.goto (place target)) (jumping_to card.goto (place target)
        refl)
    saying place b here (jop.TableSwitch other low ts) h = one (Switch card.itableswitch (place other) low
        (table_cases place low ts)) (tables place (place other) low ts h)
    saying place b here (jop.LookupSwitch other cases) h = one (Switch card.ilookupswitch (place other) (pos 0)
        (map (pair_case place) cases)) (lookups place (place other) cases h.0 h.1)
    saying place b here (jop.Return m) h = either (m == jvm.ireturn) (returned f.result) (Op (leaving m) ∷ [])
        (returning f.result) (bares (leaving m) (leaving_bare m))
    saying place b here (jop.Static put g) h = statics put g (r.constant g) h
    saying place b here (jop.Field put g) h = fields put g
    saying place b here (jop.Call m id) h = sending m id (signature_of id.desc) h
    saying place b here (jop.New class) h = one (Named card.new (keys.Class class)) (named card.new (keys.Class class))
    saying place b here (jop.NewArray kind) h = before_all (Op card.i2s) (NewArray (element_number kind) ∷ [])
        (bare card.i2s refl) (one (NewArray (element_number kind)) (kinds kind))
    saying place b here (jop.ANewArray class) h = before_all (Op card.i2s) (Named card.anewarray (keys.Class class)
        ∷ []) (bare card.i2s refl) (one (Named card.anewarray (keys.Class class)) (named card.anewarray
        (keys.Class class)))
    saying place b here jop.ArrayLength h = two_bares card.arraylength card.s2i refl refl
    saying place b here jop.Throw h = bares card.athrow refl
    saying place b here (jop.CheckCast class) h = tests card.checkcast (shape_named class)
    saying place b here (jop.InstanceOf class) h = join (type_test card.instanceof (shape_named class)) (Op card.s2i
        ∷ []) (tests card.instanceof (shape_named class)) (bares card.s2i refl)

    -- ---- all

    all_say : (place : ℕ → ℕ) (here : ℕ) (reached : List Reached)
        → ((k : ℕ) (i : Reached) → slice_get reached k ≡ Some i → OperandsFit f r (let j = i.insn in j.op))
        → AllSay (written_from f r place here reached)
    all_say place here [] h = nothing
    all_say place here (i ∷ reached) h =
        let j = i.insn in
        let new : List NInsn = written f r place i.before here j.op in
        join new (written_from f r place (here + length new) reached) (saying place i.before here j.op (h 0 i refl))
        (all_say place (here + length new) reached (λ k x e. h (suc k) x e))

    pub all_said : (code : CodeTree) (reached : List Reached) (places : List ℕ)
        → nargs f + 2 * length f.params ≤ 256
        → ((k : ℕ) (i : Reached) → slice_get reached k ≡ Some i → OperandsFit f r (let j = i.insn in j.op))
        → (k : ℕ) (i : NInsn) → (let m = int_method f r code reached places in slice_get m.insns k ≡ Some i)
        → names_nothing i ≡ true → IsSpellable (laid n (λ label. 0) 0 false i)
    unfolding Says
    all_said code reached places words fit k i e =
        let p = place_in f r reached in
        let front : List NInsn = prologue f in
        let back : List NInsn = written_from f r p (length front) reached in
        there (front ++ back) k i (join front back (moves f 0 0 f.params (omega (arith, words)) (omega (arith, words)))
        (all_say p (length front) reached fit)) e
