-- The operands of instructions that were decoded: what is added to a local has two bytes, and the matches of a switch
-- ascend.
use Rattle.std.proofs.Common.{◌≡◌, ◌≤◌, ◌<◌, ◌+◌, ◌-◌, ◌%◌, ◌==◌, ◌&&◌, ◌||◌, ℕ, zero, suc, Bool, true, false, cond}
use Rattle.std.proofs.Common.{nat_le, nat_lt, not, List, [], ◌∷◌, length, slice_get, Some, None, option_map, ℤ, pos}
use Rattle.std.proofs.Common.{negsuc, refl, sym, ap, subst, ◌∙◌, arith, drop}
use Rattle.std.specs.Int.RustNames.{int_lt}
use Rattle.std.specs.List.{Contains}
use Rattle.std.specs.Prelude.{if◌then◌else◌}
use Rattle.std.proofs.lemmas.Bool.{ltb-true, false_from_ne_true}
use Rattle.std.proofs.lemmas.Int.{ints}
use Rattle.std.proofs.lemmas.Option.{same_Some, slice_get-map, slice_get_within, get_or_from_slice_get}
use Rattle.cjc_card_semantics.specs.CapRead.Decode.{IsWithin, negative, positive}
use Rattle.cjc_code.specs.ClassFile.Code.{CodeTree}
use Rattle.cjc_code.specs.ClassFile.declared.tree.ClassTree.{ClassTree}
use Rattle.cjc_code.specs.ClassFile.declared.tree.MethodTree.{MethodTree}
use Rattle.cjc_code.specs.ClassFile.PoolItem.{PoolItem}
use Rattle.cjc_code.specs.Cut.{cut}
use Rattle.cjc_code.specs.Named.{cases, op_of}
use Rattle.cjc_code.specs.Numbers.{i16_of, second}
use Rattle.cjc_code.specs.Rules.{with_names, wrong_values}
use Rattle.cjc_code.specs.Table.{Range, ranges, row, row_in}
use Rattle.cjc_code.specs.Unfit.{has_wrong_values, rise}
use Rattle.cjc_code.specs.declared.insn.JCase.{JCase}
use Rattle.cjc_code.specs.declared.insn.JInsn.{JInsn}
use Rattle.cjc_code.specs.declared.insn.JOp.{JOp}
use Rattle.cjc_code.specs.declared.insn.JOp.TheVariants as jop
use Rattle.cjc_code.specs.declared.method_code.MethodCode.{MethodCode}
use Rattle.cjc_code.proofs.OneCut.{is_cut}
use Rattle.cjc_ncode.specs.Written.{widest, widest_sum}
use Rattle.cjc_types.specs.Tables.{IsMethodOf}
use Rattle.cjc_world.specs.Files.{Files}
use Rattle.cjc_narrow.specs.Written.Operands.{CanBeSaid}
use Rattle.cjc_narrow_proof.specs.Selected.Operands.{CasesAscend, OperandsFit}
use Rattle.cjc_narrow_proof.proofs.SelectedLaws.Cuts.{cut_row, decoded}
use Rattle.cjc_bytes.proofs.Bools.{both_front, both_back}

-- ---- matches

lt_onwards : (x y z : ℤ) → int_lt x y ≡ true → int_lt y z ≡ true → int_lt x z ≡ true
lt_onwards x y z e f = grind (arith, ints)

-- each is greater than the number before them
above : (at : ℕ) (v offset : ℤ) (zs : List ℤ) → rise (v ∷ offset ∷ zs) ≡ true → (d : JCase) → Contains (cases at zs) d
    → int_lt v d.value ≡ true
above at v offset [] e d (n, lt, is) = absurd (omega (arith, lt))
above at v offset (w ∷ []) e d (n, lt, is) = absurd (omega (arith, lt))
above at v offset (w ∷ next ∷ zs) e d (zero, lt, is) = ap (λ (c : JCase). int_lt v c.value) (sym is)
    ∙ both_front (int_lt v w) (rise (w ∷ next ∷ zs)) e
above at v offset (w ∷ next ∷ zs) e d (suc n, lt, is) =
    lt_onwards v w d.value (both_front (int_lt v w) (rise (w ∷ next ∷ zs)) e)
    (above at w next zs (both_back (int_lt v w) (rise (w ∷ next ∷ zs)) e) d (n, omega (arith, lt), is))

later : (v offset : ℤ) (zs : List ℤ) → rise (v ∷ offset ∷ zs) ≡ true → rise zs ≡ true
later v offset [] e = refl
later v offset (w ∷ zs) e = both_back (int_lt v w) (rise (w ∷ zs)) e

ascend : (at : ℕ) (zs : List ℤ) → rise zs ≡ true → CasesAscend (cases at zs)
ascend at [] e = tt
ascend at (v ∷ []) e = tt
ascend at (v ∷ offset ∷ zs) e = (above at v offset zs e, ascend at zs (later v offset zs e))

-- ---- an instruction

two_bytes : (z : ℤ) → IsWithin 32768 (i16_of z)
two_bytes (pos n) = go (nat_lt n 32768) refl
  where
    go : (b : Bool) → nat_lt n 32768 ≡ b → IsWithin 32768 (if b then pos n else pos 0)
    go true e = positive (ltb-true n 32768 e)
    go false e = positive (omega arith)
two_bytes (negsuc n) = go (nat_lt n 32768) refl
  where
    go : (b : Bool) → nat_lt n 32768 ≡ b → IsWithin 32768 (if b then negsuc n else pos 0)
    go true e = negative (ltb-true n 32768 e)
    go false e = positive (omega arith)

rises : (a b : Bool) → (a || not b) ≡ false → b ≡ true
rises true b e = cc
rises false true e = refl
rises false false e = cc

-- what is added to a local has two bytes, and matches ascend
InOrder : JOp → Type 0
InOrder (jop.Inc l by) = IsWithin 32768 by
InOrder (jop.LookupSwitch other cases) = CasesAscend cases
InOrder _ = Unit {0}

-- of the k-th opcode of the range
InOrderIn : Range → (k : ℕ) → Type 0
InOrderIn r k = (pool : List PoolItem) (at opcode : ℕ) (zs : List ℤ) → has_wrong_values (r.row k).1 zs ≡ false
    → InOrder (op_of pool at opcode (r.row k).1 zs)

AllInOrder : List Range → Type 0
AllInOrder [] = Unit {0}
AllInOrder (r ∷ rs) = ((k : ℕ) → InOrderIn r k) × AllInOrder rs

-- an opcode that is arithmetic on int, or is not converted
arith_or_unsupported : (b : Bool) (pool : List PoolItem) (at opcode : ℕ) (zs : List ℤ)
    → InOrder (op_of pool at opcode (cond b (row 0x60).1 (row 0x61).1) zs)
unfolding row InOrder
arith_or_unsupported true pool at opcode zs = tt
arith_or_unsupported false pool at opcode zs = tt

table : (pool : List PoolItem) (at opcode : ℕ) (zs : List ℤ) → InOrder (op_of pool at opcode (row 0xAA).1 zs)
unfolding row InOrder
table pool at opcode [] = tt
table pool at opcode (a ∷ []) = tt
table pool at opcode (a ∷ b ∷ []) = tt
table pool at opcode (a ∷ b ∷ c ∷ zs) = tt

lookup : (pool : List PoolItem) (at opcode : ℕ) (zs : List ℤ) → has_wrong_values (row 0xAB).1 zs ≡ false
    → InOrder (op_of pool at opcode (row 0xAB).1 zs)
unfolding row InOrder
lookup pool at opcode [] e = tt
lookup pool at opcode (a ∷ []) e = tt
lookup pool at opcode (a ∷ pairs ∷ zs) e = ascend at zs (rises (int_lt pairs (pos 0)) (rise zs) e)

-- of those behind the first 56
behind_56 : AllInOrder (drop 56 ranges)
unfolding row InOrder InOrderIn AllInOrder
behind_56 = (
  λ k pool at opcode zs e. tt,  -- invokedynamic
  (
    λ k pool at opcode zs e. tt,  -- new
    (
      λ k pool at opcode zs e. tt,  -- newarray
      (
        λ k pool at opcode zs e. tt,  -- anewarray
        (
          λ k pool at opcode zs e. tt,  -- arraylength
          (
            λ k pool at opcode zs e. tt,  -- athrow
            (
              λ k pool at opcode zs e. tt,  -- checkcast
              (
                λ k pool at opcode zs e. tt,  -- instanceof
                (
                  λ k pool at opcode zs e. tt,  -- monitorenter, monitorexit
                  (
                    λ k pool at opcode zs e. tt,  -- wide
                    (
                      λ k pool at opcode zs e. tt,  -- multianewarray
                      (
                        λ k pool at opcode zs e. tt,  -- ifnull, ifnonnull
                        (
                          λ k pool at opcode zs e. tt,  -- goto_w
                          (
                            λ k pool at opcode zs e. tt,  -- jsr_w
                            tt,
                          ),
                        ),
                      ),
                    ),
                  ),
                ),
              ),
            ),
          ),
        ),
      ),
    ),
  ),
)

-- of those behind the first 42
behind_42 : AllInOrder (drop 42 ranges)
unfolding row InOrder InOrderIn AllInOrder
behind_42 = (
  λ k pool at opcode zs e. tt,  -- jsr
  (
    λ k pool at opcode zs e. tt,  -- ret
    (
      λ k pool at opcode zs e. table pool at opcode zs,  -- tableswitch
      (
        λ k pool at opcode zs e. lookup pool at opcode zs e,  -- lookupswitch
        (
          λ k pool at opcode zs e. tt,  -- ireturn
          (
            λ k pool at opcode zs e. tt,  -- lreturn, freturn, dreturn
            (
              λ k pool at opcode zs e. tt,  -- areturn, return
              (
                λ k pool at opcode zs e. tt,  -- getstatic
                (
                  λ k pool at opcode zs e. tt,  -- putstatic
                  (
                    λ k pool at opcode zs e. tt,  -- getfield
                    (
                      λ k pool at opcode zs e. tt,  -- putfield
                      (
                        λ k pool at opcode zs e. tt,  -- invokevirtual
                        (
                          λ k pool at opcode zs e. tt,  -- invokespecial, invokestatic
                          (
                            λ k pool at opcode zs e. tt,  -- invokeinterface
                            behind_56,
                          ),
                        ),
                      ),
                    ),
                  ),
                ),
              ),
            ),
          ),
        ),
      ),
    ),
  ),
)

-- of those behind the first 28
behind_28 : AllInOrder (drop 28 ranges)
unfolding row InOrder InOrderIn AllInOrder
behind_28 = (
  λ k pool at opcode zs e. tt,  -- aastore, bastore
  (
    λ k pool at opcode zs e. tt,  -- castore
    (
      λ k pool at opcode zs e. tt,  -- sastore
      (
        -- pop, pop2, dup, dup_x1, dup_x2, dup2, dup2_x1,
        -- dup2_x2, swap
        λ k pool at opcode zs e. tt,
        (
          -- of int, long, float and double: add, sub, mul, div,
          -- rem, neg
          λ k pool at opcode zs e. arith_or_unsupported
              (k % 4 == 0) pool at
              opcode zs,
          (
            -- of int and long: shl, shr, ushr, and, or, xor
            λ k pool at opcode zs e. arith_or_unsupported
                (k % 2 == 0) pool at
                opcode zs,
            (
              λ k pool at opcode zs e. two_bytes (second zs),  -- iinc
              (
                -- i2l, i2f, i2d, l2i, l2f, l2d, f2i, f2l, f2d,
                -- d2i, d2l, d2f
                λ k pool at opcode zs e. tt,
                (
                  λ k pool at opcode zs e. tt,  -- i2b
                  (
                    λ k pool at opcode zs e. tt,  -- i2c
                    (
                      λ k pool at opcode zs e. tt,  -- i2s
                      (
                        λ k pool at opcode zs e. tt,  -- lcmp, fcmpl, fcmpg, dcmpl, dcmpg
                        (
                          -- ifeq, ifne, iflt, ifge, ifgt, ifle,
                          -- if_icmpeq to if_icmple,
                          -- if_acmpeq, if_acmpne
                          λ k pool at opcode zs e. tt,
                          (
                            λ k pool at opcode zs e. tt,  -- goto
                            behind_42,
                          ),
                        ),
                      ),
                    ),
                  ),
                ),
              ),
            ),
          ),
        ),
      ),
    ),
  ),
)

-- of those behind the first 14
behind_14 : AllInOrder (drop 14 ranges)
unfolding row InOrder InOrderIn AllInOrder
behind_14 = (
  λ k pool at opcode zs e. tt,  -- aload_0 to aload_3
  (
    λ k pool at opcode zs e. tt,  -- iaload
    (
      λ k pool at opcode zs e. tt,  -- laload, faload, daload
      (
        λ k pool at opcode zs e. tt,  -- aaload, baload
        (
          λ k pool at opcode zs e. tt,  -- caload
          (
            λ k pool at opcode zs e. tt,  -- saload
            (
              λ k pool at opcode zs e. tt,  -- istore
              (
                λ k pool at opcode zs e. tt,  -- lstore, fstore, dstore
                (
                  λ k pool at opcode zs e. tt,  -- astore
                  (
                    λ k pool at opcode zs e. tt,  -- istore_0 to istore_3
                    (
                      -- lstore_0 to lstore_3, fstore_0 to fstore_3, dstore_0 to dstore_3
                      λ k pool at opcode zs e. tt,
                      (
                        λ k pool at opcode zs e. tt,  -- astore_0 to astore_3
                        (
                          λ k pool at opcode zs e. tt,  -- iastore
                          (
                            λ k pool at opcode zs e. tt,  -- lastore, fastore, dastore
                            behind_28,
                          ),
                        ),
                      ),
                    ),
                  ),
                ),
              ),
            ),
          ),
        ),
      ),
    ),
  ),
)

all_in_order : AllInOrder ranges
unfolding row InOrder InOrderIn AllInOrder
all_in_order = (
  λ k pool at opcode zs e. tt,  -- nop
  (
    λ k pool at opcode zs e. tt,  -- aconst_null
    (
      λ k pool at opcode zs e. tt,  -- iconst_m1, iconst_0 to iconst_5
      (
        λ k pool at opcode zs e. tt,  -- lconst_0, lconst_1, fconst_0 to fconst_2, dconst_0, dconst_1
        (
          λ k pool at opcode zs e. tt,  -- bipush
          (
            λ k pool at opcode zs e. tt,  -- sipush
            (
              λ k pool at opcode zs e. tt,  -- ldc
              (
                λ k pool at opcode zs e. tt,  -- ldc_w
                (
                  λ k pool at opcode zs e. tt,  -- ldc2_w
                  (
                    λ k pool at opcode zs e. tt,  -- iload
                    (
                      λ k pool at opcode zs e. tt,  -- lload, fload, dload
                      (
                        λ k pool at opcode zs e. tt,  -- aload
                        (
                          λ k pool at opcode zs e. tt,  -- iload_0 to iload_3
                          (
                            λ k pool at opcode zs e. tt,  -- lload_0 to lload_3, fload_0 to fload_3, dload_0 to dload_3
                            behind_14,
                          ),
                        ),
                      ),
                    ),
                  ),
                ),
              ),
            ),
          ),
        ),
      ),
    ),
  ),
)

-- of any opcode
in_order_in : (rs : List Range) → AllInOrder rs → (m : ℕ) (pool : List PoolItem) (at opcode : ℕ) (zs : List ℤ)
    → has_wrong_values (row_in rs m).1 zs ≡ false → InOrder (op_of pool at opcode (row_in rs m).1 zs)
unfolding InOrder InOrderIn AllInOrder
in_order_in [] h m pool at opcode zs e = tt
in_order_in (r ∷ rs) h m pool at opcode zs e = go (in_order_in rs h.1 m pool at opcode zs) (nat_le r.first m
    && nat_le m r.last) e
  where
    go : (has_wrong_values (row_in rs m).1 zs ≡ false → InOrder (op_of pool at opcode (row_in rs m).1 zs)) → (b : Bool)
        → has_wrong_values (cond b (r.row (m - r.first)) (row_in rs m)).1 zs ≡ false
        → InOrder (op_of pool at opcode (cond b (r.row (m - r.first)) (row_in rs m)).1 zs)
    go rest true e = h.0 (m - r.first) pool at opcode zs e
    go rest false e = rest e

in_order_row : (m : ℕ) (pool : List PoolItem) (at opcode : ℕ) (zs : List ℤ) → has_wrong_values (row m).1 zs ≡ false
    → InOrder (op_of pool at opcode (row m).1 zs)
unfolding row
in_order_row m pool at opcode zs e = in_order_in ranges all_in_order m pool at opcode zs e

-- with the numbers that one byte says, and few cases
all_fit : (op : JOp) → InOrder op → CanBeSaid op → widest op ≤ 32767 → OperandsFit op
unfolding InOrder
all_fit jop.Nop h said few = tt
all_fit jop.Null h said few = tt
all_fit (jop.Number z) h said few = tt
all_fit (jop.Load refs l) h said few = said
all_fit (jop.Store refs l) h said few = said
all_fit (jop.ArrayLoad op) h said few = tt
all_fit (jop.ArrayStore op) h said few = tt
all_fit (jop.Stack op) h said few = tt
all_fit (jop.Arith op) h said few = tt
all_fit (jop.Inc l by) h said few = (said, h)
all_fit (jop.Narrow op) h said few = tt
all_fit (jop.If op target) h said few = tt
all_fit (jop.Goto target) h said few = tt
all_fit (jop.TableSwitch other low targets) h said few = tt
all_fit (jop.LookupSwitch other cases) h said few = (omega (arith, few), h)
all_fit (jop.Return op) h said few = tt
all_fit (jop.Static put f) h said few = tt
all_fit (jop.Field put f) h said few = tt
all_fit (jop.Call op m) h said few = tt
all_fit (jop.New class) h said few = tt
all_fit (jop.NewArray kind) h said few = tt
all_fit (jop.ANewArray class) h said few = tt
all_fit jop.ArrayLength h said few = tt
all_fit jop.Throw h said few = tt
all_fit (jop.CheckCast class) h said few = tt
all_fit (jop.InstanceOf class) h said few = tt

-- no instruction is wider than all of them
pub one_of_all : (kept : List JInsn) (k : ℕ) (i : JInsn) → slice_get kept k ≡ Some i → widest i.op ≤ widest_sum kept
one_of_all [] k i e = cc
one_of_all (x ∷ kept) zero i e = let same = ap (λ (y : JInsn). widest y.op) (same_Some x i e) in omega (arith, same)
one_of_all (x ∷ kept) (suc k) i e = let rest = one_of_all kept k i e in omega (arith, rest)

-- ---- a method

module _ (files : Files) (code : MethodCode) (class : ClassTree) (method : MethodTree) (tree : CodeTree)
    (is : IsMethodOf files code class method tree) where
  pub operands_fit : (k : ℕ) (i : JInsn) → slice_get code.insns k ≡ Some i → CanBeSaid i.op → widest i.op ≤ 32767
      → OperandsFit i.op
  operands_fit k i e said few = elim (slice_get (cut tree.bytes).insns k) as (λ o. slice_get (cut tree.bytes).insns k
      ≡ o → option_map (with_names class.pool) o ≡ Some i → OperandsFit i.op) [
        | None ↦ λ f named. absurd cc
        | Some r ↦ λ f named.
            let is_op : op_of class.pool r.at r.opcode r.family r.numbers ≡ i.op =
            ap (λ (x : JInsn). x.op) (same_Some (with_names class.pool r) i named) in
            let there : Contains (cut tree.bytes).insns r = (
              k,
              slice_get_within (cut tree.bytes).insns k r f,
              get_or_from_slice_get (cut tree.bytes).insns k r r f,
            ) in
            let right = false_from_ne_true (has_wrong_values r.family r.numbers) (λ wrong.
            (decoded files code class method tree
            is).fit r.at (wrong_values r there wrong)) in
            let of_row = cut_row k 0 tree.bytes (cut tree.bytes).insns (cut tree.bytes).stop (is_cut tree.bytes) r f in
            let ordered : InOrder (op_of class.pool r.at r.opcode r.family r.numbers) =
            subst (λ g. InOrder (op_of class.pool r.at r.opcode g r.numbers)) (sym of_row)
            (in_order_row r.opcode class.pool r.at r.opcode r.numbers (sym (ap (λ g. has_wrong_values g r.numbers)
            of_row)
            ∙ right)) in
            all_fit i.op (subst InOrder is_op ordered) said few
      ] refl (sym (slice_get-map (with_names class.pool) (cut tree.bytes).insns k)
      ∙ sym (ap (λ (xs : List JInsn). slice_get xs k) (decoded files code class method tree is).insns_are) ∙ e)
