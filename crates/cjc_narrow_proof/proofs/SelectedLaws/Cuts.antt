-- What the instructions of a method were cut from: how many there are, and the opcodes of those of the stack.
use Rattle.std.proofs.Common.{◌≡◌, ◌≤◌, ◌<◌, ◌+◌, ◌-◌, ◌%◌, ◌==◌, ◌&&◌, ℕ, zero, suc, Bool, true, false, cond, nat_le}
use Rattle.std.proofs.Common.{List, [], ◌∷◌, length, slice_get, Some, None, option_map, ℤ, refl, sym, ap, subst, ◌∙◌}
use Rattle.std.proofs.Common.{arith, drop}
use Rattle.std.proofs.lemmas.Bool.{leb-true}
use Rattle.std.proofs.lemmas.Option.{same_Some, slice_get-map}
use Rattle.std.proofs.lemmas.List.{length-append, length-map}
use Rattle.cjc_bytes.specs.Format.{Spells}
use Rattle.cjc_code.specs.ClassFile.Code.{CodeTree}
use Rattle.cjc_code.specs.ClassFile.declared.tree.ClassTree.{ClassTree}
use Rattle.cjc_code.specs.ClassFile.declared.tree.MethodTree.{MethodTree}
use Rattle.cjc_code.specs.ClassFile.PoolItem.{PoolItem}
use Rattle.cjc_code.specs.declared.insn.JInsn.{JInsn}
use Rattle.cjc_code.specs.declared.insn.JOp.TheVariants as jop
use Rattle.cjc_code.specs.declared.method_code.MethodCode.{MethodCode}
use Rattle.cjc_code.specs.Table.{Range, ranges, row_in, row, wide}
use Rattle.cjc_code.specs.Instruction.{is_unknown, unless, opcode_at, widened, wide_opcode_at, behind_opcode}
use Rattle.cjc_code.specs.Instruction.{behind_first, is_prefix, instruction}
use Rattle.cjc_code.specs.Cut.{IsCutFrom, cut}
use Rattle.cjc_code.specs.Decoded.{of_code, of_method}
use Rattle.cjc_code.specs.Named.{op_of}
use Rattle.cjc_code.specs.Rules.{IsDecoded, with_names}
use Rattle.cjc_code.proofs.Decided.{decoded_is}
use Rattle.cjc_code.proofs.OneCut.{is_cut}
use Rattle.cjc_world.specs.Files.{Files}
use Rattle.cjc_types.specs.Tables.{IsMethodOf}

-- ---- rows of the stack's instructions

-- the k-th opcode of the range is the stack's only where the range is
abbrev StackIn : Range → (k : ℕ) → Type 0
StackIn r k = (pool : List PoolItem) (at opcode : ℕ) (zs : List ℤ) (n : ℕ) → op_of pool at opcode (r.row k).1 zs
    ≡ jop.Stack n → (r.first ≡ 0x57) × (r.last ≡ 0x5F) × (opcode ≡ n)

abbrev AllStack : List Range → Type 0
AllStack [] = Unit {0}
AllStack (r ∷ rs) = ((k : ℕ) → StackIn r k) × AllStack rs

-- an opcode that is arithmetic on int, or is not converted
arith_or_unsupported : (b : Bool) (pool : List PoolItem) (at opcode : ℕ) (zs : List ℤ) (n : ℕ)
    → op_of pool at opcode (cond b (row 0x60).1 (row 0x61).1) zs ≡ jop.Stack n → ⊥
unfolding row
arith_or_unsupported true pool at opcode zs n e = cc
arith_or_unsupported false pool at opcode zs n e = cc

table : (pool : List PoolItem) (at opcode : ℕ) (zs : List ℤ) (n : ℕ) → op_of pool at opcode (row 0xAA).1 zs
    ≡ jop.Stack n → ⊥
unfolding row
table pool at opcode [] n e = cc
table pool at opcode (a ∷ []) n e = cc
table pool at opcode (a ∷ b ∷ []) n e = cc
table pool at opcode (a ∷ b ∷ c ∷ zs) n e = cc

lookup : (pool : List PoolItem) (at opcode : ℕ) (zs : List ℤ) (n : ℕ) → op_of pool at opcode (row 0xAB).1 zs
    ≡ jop.Stack n → ⊥
unfolding row
lookup pool at opcode [] n e = cc
lookup pool at opcode (a ∷ []) n e = cc
lookup pool at opcode (a ∷ b ∷ zs) n e = cc

-- of those behind the first 56
behind_56 : AllStack (drop 56 ranges)
unfolding row
behind_56 = (
  λ k pool at opcode zs n e. absurd cc,  -- invokedynamic
  (
    λ k pool at opcode zs n e. absurd cc,  -- new
    (
      λ k pool at opcode zs n e. absurd cc,  -- newarray
      (
        λ k pool at opcode zs n e. absurd cc,  -- anewarray
        (
          λ k pool at opcode zs n e. absurd cc,  -- arraylength
          (
            λ k pool at opcode zs n e. absurd cc,  -- athrow
            (
              λ k pool at opcode zs n e. absurd cc,  -- checkcast
              (
                λ k pool at opcode zs n e. absurd cc,  -- instanceof
                (
                  λ k pool at opcode zs n e. absurd cc,  -- monitorenter, monitorexit
                  (
                    λ k pool at opcode zs n e. absurd cc,  -- wide
                    (
                      λ k pool at opcode zs n e. absurd cc,  -- multianewarray
                      (
                        λ k pool at opcode zs n e. absurd cc,  -- ifnull, ifnonnull
                        (
                          λ k pool at opcode zs n e. absurd cc,  -- goto_w
                          (
                            λ k pool at opcode zs n e. absurd cc,  -- jsr_w
                            tt,
                          ),
                        ),
                      ),
                    ),
                  ),
                ),
              ),
            ),
          ),
        ),
      ),
    ),
  ),
)

-- of those behind the first 42
behind_42 : AllStack (drop 42 ranges)
unfolding row
behind_42 = (
  λ k pool at opcode zs n e. absurd cc,  -- jsr
  (
    λ k pool at opcode zs n e. absurd cc,  -- ret
    (
      -- tableswitch
      λ k pool at opcode zs n e.
          absurd
          (table pool at opcode zs n
          e),
      (
        -- lookupswitch
        λ k pool at opcode zs n e.
            absurd
            (lookup pool at opcode
            zs n e),
        (
          λ k pool at opcode zs n e. absurd cc,  -- ireturn
          (
            λ k pool at opcode zs n e. absurd cc,  -- lreturn, freturn, dreturn
            (
              λ k pool at opcode zs n e. absurd cc,  -- areturn, return
              (
                λ k pool at opcode zs n e. absurd cc,  -- getstatic
                (
                  λ k pool at opcode zs n e. absurd cc,  -- putstatic
                  (
                    λ k pool at opcode zs n e. absurd cc,  -- getfield
                    (
                      λ k pool at opcode zs n e. absurd cc,  -- putfield
                      (
                        λ k pool at opcode zs n e. absurd cc,  -- invokevirtual
                        (
                          λ k pool at opcode zs n e. absurd cc,  -- invokespecial, invokestatic
                          (
                            λ k pool at opcode zs n e. absurd cc,  -- invokeinterface
                            behind_56,
                          ),
                        ),
                      ),
                    ),
                  ),
                ),
              ),
            ),
          ),
        ),
      ),
    ),
  ),
)

-- of those behind the first 28
behind_28 : AllStack (drop 28 ranges)
unfolding row
behind_28 = (
  λ k pool at opcode zs n e. absurd cc,  -- aastore, bastore
  (
    λ k pool at opcode zs n e. absurd cc,  -- castore
    (
      λ k pool at opcode zs n e. absurd cc,  -- sastore
      (
        -- pop, pop2, dup, dup_x1, dup_x2, dup2, dup2_x1,
        -- dup2_x2, swap
        λ k pool at opcode zs n e. (refl, refl, cc),
        (
          -- of int, long, float and double: add, sub, mul, div,
          -- rem, neg
          λ k pool at opcode zs n e. absurd
              (arith_or_unsupported (k % 4 == 0)
              pool at opcode zs n e),
          (
            -- of int and long: shl, shr, ushr, and, or, xor
            λ k pool at opcode zs n e. absurd
                (arith_or_unsupported (k % 2 == 0)
                pool at opcode zs n e),
            (
              λ k pool at opcode zs n e. absurd cc,  -- iinc
              (
                -- i2l, i2f, i2d, l2i, l2f, l2d, f2i, f2l, f2d,
                -- d2i, d2l, d2f
                λ k pool at opcode zs n e. absurd cc,
                (
                  λ k pool at opcode zs n e. absurd cc,  -- i2b
                  (
                    λ k pool at opcode zs n e. absurd cc,  -- i2c
                    (
                      λ k pool at opcode zs n e. absurd cc,  -- i2s
                      (
                        -- lcmp, fcmpl, fcmpg, dcmpl, dcmpg
                        λ k pool at opcode zs n e. absurd cc,
                        (
                          -- ifeq, ifne, iflt, ifge, ifgt, ifle,
                          -- if_icmpeq to if_icmple,
                          -- if_acmpeq, if_acmpne
                          λ k pool at opcode zs n e. absurd cc,
                          (
                            λ k pool at opcode zs n e. absurd cc,  -- goto
                            behind_42,
                          ),
                        ),
                      ),
                    ),
                  ),
                ),
              ),
            ),
          ),
        ),
      ),
    ),
  ),
)

-- of those behind the first 14
behind_14 : AllStack (drop 14 ranges)
unfolding row
behind_14 = (
  λ k pool at opcode zs n e. absurd cc,  -- aload_0 to aload_3
  (
    λ k pool at opcode zs n e. absurd cc,  -- iaload
    (
      λ k pool at opcode zs n e. absurd cc,  -- laload, faload, daload
      (
        λ k pool at opcode zs n e. absurd cc,  -- aaload, baload
        (
          λ k pool at opcode zs n e. absurd cc,  -- caload
          (
            λ k pool at opcode zs n e. absurd cc,  -- saload
            (
              λ k pool at opcode zs n e. absurd cc,  -- istore
              (
                λ k pool at opcode zs n e. absurd cc,  -- lstore, fstore, dstore
                (
                  λ k pool at opcode zs n e. absurd cc,  -- astore
                  (
                    λ k pool at opcode zs n e. absurd cc,  -- istore_0 to istore_3
                    (
                      -- lstore_0 to lstore_3, fstore_0 to fstore_3, dstore_0 to dstore_3
                      λ k pool at opcode zs n e. absurd cc,
                      (
                        λ k pool at opcode zs n e. absurd cc,  -- astore_0 to astore_3
                        (
                          λ k pool at opcode zs n e. absurd cc,  -- iastore
                          (
                            λ k pool at opcode zs n e. absurd cc,  -- lastore, fastore, dastore
                            behind_28,
                          ),
                        ),
                      ),
                    ),
                  ),
                ),
              ),
            ),
          ),
        ),
      ),
    ),
  ),
)

all_stack : AllStack ranges
unfolding row
all_stack = (
  λ k pool at opcode zs n e. absurd cc,  -- nop
  (
    λ k pool at opcode zs n e. absurd cc,  -- aconst_null
    (
      λ k pool at opcode zs n e. absurd cc,  -- iconst_m1, iconst_0 to iconst_5
      (
        λ k pool at opcode zs n e. absurd cc,  -- lconst_0, lconst_1, fconst_0 to fconst_2, dconst_0, dconst_1
        (
          λ k pool at opcode zs n e. absurd cc,  -- bipush
          (
            λ k pool at opcode zs n e. absurd cc,  -- sipush
            (
              λ k pool at opcode zs n e. absurd cc,  -- ldc
              (
                λ k pool at opcode zs n e. absurd cc,  -- ldc_w
                (
                  λ k pool at opcode zs n e. absurd cc,  -- ldc2_w
                  (
                    λ k pool at opcode zs n e. absurd cc,  -- iload
                    (
                      λ k pool at opcode zs n e. absurd cc,  -- lload, fload, dload
                      (
                        λ k pool at opcode zs n e. absurd cc,  -- aload
                        (
                          λ k pool at opcode zs n e. absurd cc,  -- iload_0 to iload_3
                          (
                            -- lload_0 to lload_3, fload_0 to fload_3, dload_0 to dload_3
                            λ k pool at opcode zs n e. absurd cc,
                            behind_14,
                          ),
                        ),
                      ),
                    ),
                  ),
                ),
              ),
            ),
          ),
        ),
      ),
    ),
  ),
)

-- the same of any opcode
stack_in : (rs : List Range) → AllStack rs → (m : ℕ) (pool : List PoolItem) (at opcode : ℕ) (zs : List ℤ) (n : ℕ)
    → op_of pool at opcode (row_in rs m).1 zs ≡ jop.Stack n → (0x57 ≤ m) × (m ≤ 0x5F) × (opcode ≡ n)
stack_in [] h m pool at opcode zs n e = absurd cc
stack_in (r ∷ rs) h m pool at opcode zs n e = go (stack_in rs h.1 m pool at opcode zs n) (nat_le r.first m)
    (nat_le m r.last) refl refl e
  where
    go : (op_of pool at opcode (row_in rs m).1 zs ≡ jop.Stack n → (0x57 ≤ m) × (m ≤ 0x5F) × (opcode ≡ n)) → (a b : Bool)
        → nat_le r.first m ≡ a → nat_le m r.last ≡ b
        → op_of pool at opcode (cond (a && b) (r.row (m - r.first)) (row_in rs m)).1 zs ≡ jop.Stack n → (0x57 ≤ m)
        × (m ≤ 0x5F) × (opcode ≡ n)
    go rest true true f g e =
        let is = h.0 (m - r.first) pool at opcode zs n e in
        let low = leb-true r.first m f in
        let high = leb-true m r.last g in
        let first = is.0 in
        let last = is.1 in
        (omega (arith, low, first), omega (arith, high, last), is.2)
    go rest true false f g e = rest e
    go rest false true f g e = rest e
    go rest false false f g e = rest e

stack_row : (m : ℕ) (pool : List PoolItem) (at opcode : ℕ) (zs : List ℤ) (n : ℕ) → op_of pool at opcode (row m).1 zs
    ≡ jop.Stack n → (0x57 ≤ m) × (m ≤ 0x5F) × (opcode ≡ n)
unfolding row
stack_row m pool at opcode zs n e = stack_in ranges all_stack m pool at opcode zs n e

-- ---- an instruction

opcode_row : (n : ℕ) (op : _) → opcode_at n ≡ Some op → (op.family ≡ (row n).1) × (op.number ≡ n)
unfolding opcode_at
opcode_row n op e = elim (is_unknown (row n).1) as (λ b. unless b (record {
  number = n;
  operands = (row n).0;
  family = (row n).1;
}) ≡ Some op → (op.family ≡ (row n).1) × (op.number ≡ n)) [
  | true ↦ λ f. absurd cc
  | false ↦ λ f. (sym (ap (λ o. o.family) (same_Some _ op f)), sym (ap (λ o. o.number) (same_Some _ op f)))
] e

wide_row : (n : ℕ) (op : _) → wide_opcode_at n ≡ Some op → (op.family ≡ (row n).1) × (op.number ≡ n)
unfolding wide_opcode_at
wide_row n op e = elim (wide (row n)) as (λ o. widened n (row n).1 o ≡ Some op → (op.family ≡ (row n).1)
    × (op.number ≡ n)) [
      | None ↦ λ f. absurd cc
      | Some x ↦ λ f. (sym (ap (λ o. o.family) (same_Some _ op f)), sym (ap (λ o. o.number) (same_Some _ op f)))
    ] e

opcode_spelt : (at n : ℕ) (op : _) (place : ℕ) (i : _) (bytes : List ℕ) → Spells (behind_opcode at op) place i bytes
    → op.family ≡ (row n).1 → op.number ≡ n → i.family ≡ (row i.opcode).1
unfolding behind_opcode Spells
opcode_spelt at n op place i bytes (
  p,
  f1,
  b1,
  e1,
  here,
  (
    free,
    f2,
    b2,
    e2,
    raw,
    (
      first,
      f3,
      b3,
      e3,
      ops,
      (rest, f4, b4, e4, rep, (nil, same)),
    ),
  ),
) kind number =
    sym (ap (λ r. r.family) same) ∙ kind ∙ ap (λ m. (row m).1) (sym number ∙ ap (λ r. r.opcode) same)

first_spelt : (prefix : Bool) (at n : ℕ) (op : _) (place : ℕ) (i : _) (bytes : List ℕ)
    → Spells (behind_first prefix at op) place i bytes → op.family ≡ (row n).1 → op.number ≡ n
    → i.family ≡ (row i.opcode).1
unfolding behind_first Spells
first_spelt true at n op place i bytes (long, front, back, parts, opcode, others) kind number =
    let h = wide_row _ long opcode.1 in
    opcode_spelt at _ long (place + length front) i back others h.0 h.1
first_spelt false at n op place i bytes h kind number = opcode_spelt at n op place i bytes h kind number

spelt_row : (place : ℕ) (i : _) (bytes : List ℕ) → Spells instruction place i bytes → (i.family ≡ (row i.opcode).1)
    × (0 < length bytes)
unfolding instruction Spells
spelt_row place i bytes (at, front, back, parts, here, (op, first, rest, parted, opcode, others)) =
    let h = opcode_row _ op opcode.1 in (
      first_spelt (is_prefix op.family) at _ op _ i rest others h.0 h.1,
      omega (
        arith,
        ap length parts,
        length-append front back,
        ap length parted,
        length-append first rest,
        opcode.0,
      ),
    )

pub cut_row : (k place : ℕ) (bytes : List ℕ) (insns : _) (stop : ℕ) → IsCutFrom place bytes insns stop → (i : _)
    → slice_get insns k ≡ Some i → i.family ≡ (row i.opcode).1
unfolding IsCutFrom
cut_row k place bytes [] stop h i e = absurd cc
cut_row zero place bytes (first ∷ insns) stop (front, back, parts, spelt, rest) i e =
    subst (λ r. r.family ≡ (row r.opcode).1) (same_Some first i e) (spelt_row place first front spelt).0
cut_row (suc k) place bytes (first ∷ insns) stop (front, back, parts, spelt, rest) i e =
    cut_row k (place + length front) back insns stop rest i e

-- each takes a byte
cut_few : (place : ℕ) (bytes : List ℕ) (insns : _) (stop : ℕ) → IsCutFrom place bytes insns stop
    → length insns ≤ length bytes
unfolding IsCutFrom
cut_few place bytes [] stop h = omega arith
cut_few place bytes (first ∷ insns) stop (front, back, parts, spelt, rest) =
    let some = (spelt_row place first front spelt).1 in
    let more = cut_few (place + length front) back insns stop rest in
    let all = ap length parts in
    let both = length-append front back in
    omega (arith, some, more, all, both)

-- ---- a method

module _ (files : Files) (code : MethodCode) (class : ClassTree) (method : MethodTree) (tree : CodeTree)
    (is : IsMethodOf files code class method tree) where
  pub decoded : IsDecoded class method tree code.insns
  decoded = decoded_is class method tree code.insns (sym (ap (of_code class method) is.is_code)
      ∙ sym (ap (of_method class) is.is_method) ∙ is.insns)

  -- no more instructions than bytes
  pub few : length code.insns ≤ 65535
  few =
      let as_many : length code.insns ≡ length (cut tree.bytes).insns = ap length decoded.insns_are
      ∙ length-map (cut tree.bytes).insns (with_names class.pool) in
      let less = cut_few 0 tree.bytes (cut tree.bytes).insns (cut tree.bytes).stop (is_cut tree.bytes) in
      let bytes = is.bytes in
      omega (arith, as_many, less, bytes)

  -- the stack's instructions are pop to swap
  pub stack_opcode : (k n : ℕ) (i : JInsn) → slice_get code.insns k ≡ Some i → i.op ≡ jop.Stack n → (0x57 ≤ n)
      × (n ≤ 0x5F)
  stack_opcode k n i e kind = elim (slice_get (cut tree.bytes).insns k) as (λ o. slice_get (cut tree.bytes).insns k ≡ o
      → option_map (with_names class.pool) o ≡ Some i → (0x57 ≤ n) × (n ≤ 0x5F)) [
        | None ↦ λ f named. absurd cc
        | Some r ↦ λ f named.
            let is_op : op_of class.pool r.at r.opcode r.family r.numbers ≡ jop.Stack n =
            ap (λ (x : JInsn). x.op) (same_Some (with_names class.pool r) i named) ∙ kind in
            let of_row = cut_row k 0 tree.bytes (cut tree.bytes).insns (cut tree.bytes).stop (is_cut tree.bytes) r f in
            let s = stack_row r.opcode class.pool r.at r.opcode r.numbers n
            (sym (ap (λ g. op_of class.pool r.at r.opcode g r.numbers) of_row) ∙ is_op) in
            subst (λ m. (0x57 ≤ m) × (m ≤ 0x5F)) s.2 (s.0, s.1)
      ] refl (sym (slice_get-map (with_names class.pool) (cut tree.bytes).insns k)
      ∙ sym (ap (λ (xs : List JInsn). slice_get xs k) decoded.insns_are) ∙ e)
