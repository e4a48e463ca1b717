-- What an instruction names, by the item of the pool that it has: each name of it is one of the item's, or empty. The
-- rows of the
-- opcodes are gone through range by range.
use Rattle.std.proofs.Common.{◌≡◌, ◌-◌, ◌%◌, ◌==◌, ◌&&◌, ℕ, Bool, true, false, cond, nat_le, List, [], ◌∷◌, Option}
use Rattle.std.proofs.Common.{drop, Some, ℤ, refl, inl, inr}
use Rattle.cjc_classfile.specs.PoolItem.{PoolItem}
use Rattle.cjc_classfile.specs.PoolItem as items
use Rattle.cjc_code.specs.declared.insn.JOp.{JOp}
use Rattle.cjc_code.specs.declared.insn.JOp.TheVariants as jop
use Rattle.cjc_code.specs.Table.{Range, range, ranges, bare, row_in, row}
use Rattle.cjc_code.specs.Named.{class_of, field_of, method_of, item, op_of}
use Rattle.cjc_types.specs.Names.{In}
use Rattle.cjc_types.proofs.TypeLaws.Spelt.{IsItemNamed}

-- ---- the names of an instruction

abbrev pub IsOpNamed : List (List ℕ) → JOp → Type 0
IsOpNamed ts (jop.Static put id) = In id.desc ts
IsOpNamed ts (jop.Field put id) = In id.desc ts
IsOpNamed ts (jop.Call opcode id) = In id.desc ts
IsOpNamed ts (jop.New class) = In class ts
IsOpNamed ts (jop.ANewArray class) = In class ts
IsOpNamed ts (jop.CheckCast class) = In class ts
IsOpNamed ts _ = Unit {0}

module _ (ts : List (List ℕ)) where
  abbrev pub IsFound : Option PoolItem → Type 0
  IsFound o = (x : PoolItem) → o ≡ Some x → IsItemNamed ts x

  class_found : (o : Option PoolItem) → IsFound o → In (class_of o) ([] ∷ ts)
  class_found (Some (items.Class name)) h = inr (h _ refl)
  class_found _ h = inl refl

  field_found : (o : Option PoolItem) → IsFound o → In (field_of o).desc ([] ∷ ts)
  field_found (Some (items.Field id)) h = inr (h _ refl)
  field_found _ h = inl refl

  method_found : (o : Option PoolItem) → IsFound o → In (method_of o).desc ([] ∷ ts)
  method_found (Some (items.Method id)) h = inr (h _ refl)
  method_found (Some (items.InterfaceMethod id)) h = inr (h _ refl)
  method_found _ h = inl refl

-- that of the k-th opcode of the range
abbrev NamedIn : List (List ℕ) → Range → (k : ℕ) → Type 0
NamedIn ts r k = (pool : List PoolItem) (at opcode : ℕ) (zs : List ℤ) → IsFound ts (item pool zs)
    → IsOpNamed ([] ∷ ts) (op_of pool at opcode (r.row k).1 zs)

abbrev AllNamed : List (List ℕ) → List Range → Type 0
AllNamed ts [] = Unit {0}
AllNamed ts (r ∷ rs) = ((k : ℕ) → NamedIn ts r k) × AllNamed ts rs

-- ---- the ranges

-- an opcode that is arithmetic on int, or is not converted
arith_or_unsupported : (ts : List (List ℕ)) (b : Bool)
    → NamedIn ts (range 0 0 (λ k. bare (cond b (row 0x60).1 (row 0x61).1))) 0
unfolding row
arith_or_unsupported ts true pool at opcode zs h = tt
arith_or_unsupported ts false pool at opcode zs h = tt

table : (ts : List (List ℕ)) → NamedIn ts (range 0 0 (λ k. row 0xAA)) 0
unfolding row
table ts pool at opcode [] h = tt
table ts pool at opcode (a ∷ []) h = tt
table ts pool at opcode (a ∷ b ∷ []) h = tt
table ts pool at opcode (a ∷ b ∷ c ∷ zs) h = tt

lookup : (ts : List (List ℕ)) → NamedIn ts (range 0 0 (λ k. row 0xAB)) 0
unfolding row
lookup ts pool at opcode [] h = tt
lookup ts pool at opcode (a ∷ []) h = tt
lookup ts pool at opcode (a ∷ b ∷ zs) h = tt

-- of those behind the first 56
behind_56 : (ts : List (List ℕ)) → AllNamed ts (drop 56 ranges)
unfolding row
behind_56 ts = (
  λ k pool at opcode zs h. tt,  -- invokedynamic
  (
    λ k pool at opcode zs h. class_found ts (item pool zs) h,  -- new
    (
      λ k pool at opcode zs h. tt,  -- newarray
      (
        λ k pool at opcode zs h. class_found ts (item pool zs) h,  -- anewarray
        (
          λ k pool at opcode zs h. tt,  -- arraylength
          (
            λ k pool at opcode zs h. tt,  -- athrow
            (
              λ k pool at opcode zs h. class_found ts (item pool zs) h,  -- checkcast
              (
                λ k pool at opcode zs h. tt,  -- instanceof
                (
                  λ k pool at opcode zs h. tt,  -- monitorenter, monitorexit
                  (
                    λ k pool at opcode zs h. tt,  -- wide
                    (
                      λ k pool at opcode zs h. tt,  -- multianewarray
                      (
                        λ k pool at opcode zs h. tt,  -- ifnull, ifnonnull
                        (
                          λ k pool at opcode zs h. tt,  -- goto_w
                          (
                            λ k pool at opcode zs h. tt,  -- jsr_w
                            tt,
                          ),
                        ),
                      ),
                    ),
                  ),
                ),
              ),
            ),
          ),
        ),
      ),
    ),
  ),
)

-- of those behind the first 42
behind_42 : (ts : List (List ℕ)) → AllNamed ts (drop 42 ranges)
unfolding row
behind_42 ts = (
  λ k pool at opcode zs h. tt,  -- jsr
  (
    λ k pool at opcode zs h. tt,  -- ret
    (
      λ k. table ts,  -- tableswitch
      (
        λ k. lookup ts,  -- lookupswitch
        (
          λ k pool at opcode zs h. tt,  -- ireturn
          (
            λ k pool at opcode zs h. tt,  -- lreturn, freturn, dreturn
            (
              λ k pool at opcode zs h. tt,  -- areturn, return
              (
                λ k pool at opcode zs h. field_found ts (item pool zs) h,  -- getstatic
                (
                  λ k pool at opcode zs h. field_found ts (item pool zs) h,  -- putstatic
                  (
                    λ k pool at opcode zs h. field_found ts (item pool zs) h,  -- getfield
                    (
                      λ k pool at opcode zs h. field_found ts (item pool zs) h,  -- putfield
                      (
                        -- invokevirtual
                        λ k pool at opcode zs h. method_found ts (item pool zs) h,
                        (
                          -- invokespecial,
                          -- invokestatic
                          λ k pool at opcode zs h. method_found ts (item pool zs) h,
                          (
                            -- invokeinterface
                            λ k pool at opcode zs h. method_found ts (item pool zs) h,
                            behind_56 ts,
                          ),
                        ),
                      ),
                    ),
                  ),
                ),
              ),
            ),
          ),
        ),
      ),
    ),
  ),
)

-- of those behind the first 28
behind_28 : (ts : List (List ℕ)) → AllNamed ts (drop 28 ranges)
unfolding row
behind_28 ts = (
  λ k pool at opcode zs h. tt,  -- aastore, bastore
  (
    λ k pool at opcode zs h. tt,  -- castore
    (
      λ k pool at opcode zs h. tt,  -- sastore
      (
        -- pop, pop2, dup, dup_x1, dup_x2, dup2, dup2_x1,
        -- dup2_x2, swap
        λ k pool at opcode zs h. tt,
        (
          -- of int, long, float and double: add, sub, mul, div,
          -- rem, neg
          λ k. arith_or_unsupported ts (k % 4 == 0),
          (
            -- of int and long: shl, shr, ushr, and, or, xor
            λ k. arith_or_unsupported ts (k % 2 == 0),
            (
              λ k pool at opcode zs h. tt,  -- iinc
              (
                -- i2l, i2f, i2d, l2i, l2f, l2d, f2i, f2l, f2d,
                -- d2i, d2l, d2f
                λ k pool at opcode zs h. tt,
                (
                  λ k pool at opcode zs h. tt,  -- i2b
                  (
                    λ k pool at opcode zs h. tt,  -- i2c
                    (
                      λ k pool at opcode zs h. tt,  -- i2s
                      (
                        λ k pool at opcode zs h. tt,  -- lcmp, fcmpl, fcmpg, dcmpl, dcmpg
                        (
                          -- ifeq, ifne, iflt, ifge, ifgt, ifle,
                          -- if_icmpeq to if_icmple,
                          -- if_acmpeq, if_acmpne
                          λ k pool at opcode zs h. tt,
                          (
                            λ k pool at opcode zs h. tt,  -- goto
                            behind_42 ts,
                          ),
                        ),
                      ),
                    ),
                  ),
                ),
              ),
            ),
          ),
        ),
      ),
    ),
  ),
)

-- of those behind the first 14
behind_14 : (ts : List (List ℕ)) → AllNamed ts (drop 14 ranges)
unfolding row
behind_14 ts = (
  λ k pool at opcode zs h. tt,  -- aload_0 to aload_3
  (
    λ k pool at opcode zs h. tt,  -- iaload
    (
      λ k pool at opcode zs h. tt,  -- laload, faload, daload
      (
        λ k pool at opcode zs h. tt,  -- aaload, baload
        (
          λ k pool at opcode zs h. tt,  -- caload
          (
            λ k pool at opcode zs h. tt,  -- saload
            (
              λ k pool at opcode zs h. tt,  -- istore
              (
                λ k pool at opcode zs h. tt,  -- lstore, fstore, dstore
                (
                  λ k pool at opcode zs h. tt,  -- astore
                  (
                    λ k pool at opcode zs h. tt,  -- istore_0 to istore_3
                    (
                      -- lstore_0 to lstore_3, fstore_0 to fstore_3, dstore_0 to dstore_3
                      λ k pool at opcode zs h. tt,
                      (
                        λ k pool at opcode zs h. tt,  -- astore_0 to astore_3
                        (
                          λ k pool at opcode zs h. tt,  -- iastore
                          (
                            λ k pool at opcode zs h. tt,  -- lastore, fastore, dastore
                            behind_28 ts,
                          ),
                        ),
                      ),
                    ),
                  ),
                ),
              ),
            ),
          ),
        ),
      ),
    ),
  ),
)

all_named : (ts : List (List ℕ)) → AllNamed ts ranges
unfolding row
all_named ts = (
  λ k pool at opcode zs h. tt,  -- nop
  (
    λ k pool at opcode zs h. tt,  -- aconst_null
    (
      λ k pool at opcode zs h. tt,  -- iconst_m1, iconst_0 to iconst_5
      (
        λ k pool at opcode zs h. tt,  -- lconst_0, lconst_1, fconst_0 to fconst_2, dconst_0, dconst_1
        (
          λ k pool at opcode zs h. tt,  -- bipush
          (
            λ k pool at opcode zs h. tt,  -- sipush
            (
              λ k pool at opcode zs h. tt,  -- ldc
              (
                λ k pool at opcode zs h. tt,  -- ldc_w
                (
                  λ k pool at opcode zs h. tt,  -- ldc2_w
                  (
                    λ k pool at opcode zs h. tt,  -- iload
                    (
                      λ k pool at opcode zs h. tt,  -- lload, fload, dload
                      (
                        λ k pool at opcode zs h. tt,  -- aload
                        (
                          λ k pool at opcode zs h. tt,  -- iload_0 to iload_3
                          (
                            λ k pool at opcode zs h. tt,  -- lload_0 to lload_3, fload_0 to fload_3, dload_0 to dload_3
                            behind_14 ts,
                          ),
                        ),
                      ),
                    ),
                  ),
                ),
              ),
            ),
          ),
        ),
      ),
    ),
  ),
)

row_named_in : (ts : List (List ℕ)) (rs : List Range) → AllNamed ts rs → (n : ℕ)
    → NamedIn ts (range 0 0 (λ k. row_in rs n)) 0
row_named_in ts [] h n = λ pool at opcode zs is. tt
row_named_in ts (r ∷ rs) h n = go (nat_le r.first n && nat_le n r.last) (row_named_in ts rs h.1 n)
  where
    go : (b : Bool) → NamedIn ts (range 0 0 (λ k. row_in rs n)) 0
        → NamedIn ts (range 0 0 (λ k. cond b (r.row (n - r.first)) (row_in rs n))) 0
    go true rest = h.0 (n - r.first)
    go false rest = rest

pub row_named : (ts : List (List ℕ)) (n : ℕ) (pool : List PoolItem) (at opcode : ℕ) (zs : List ℤ)
    → IsFound ts (item pool zs) → IsOpNamed ([] ∷ ts) (op_of pool at opcode (row n).1 zs)
unfolding row
row_named ts n = row_named_in ts ranges (all_named ts) n
