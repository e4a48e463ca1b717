-- What an instruction with its names says, by what was cut: where it leads, whether it goes on, and its local. The rows
-- of the
-- opcodes are gone through range by range.
use Rattle.std.proofs.Common.{◌≡◌, ◌≤◌, ◌+◌, ◌-◌, ◌%◌, ◌==◌, ◌&&◌, ℕ, zero, suc, Bool, true, false, cond, nat_le, List}
use Rattle.std.proofs.Common.{[], ◌∷◌, map, length, slice_get, Option, Some, None, option_map, unwrap_or, ℤ, refl, sym}
use Rattle.std.proofs.Common.{ap, drop, subst, ◌∙◌, arith}
use Rattle.std.proofs.lemmas.Bool.{eqb-true}
use Rattle.std.proofs.lemmas.Option.{same_Some}
use Rattle.std.proofs.lemmas.List.{length-append}
use Rattle.cjc_bytes.specs.Format.{Spells}
use Rattle.cjc_classfile.specs.PoolItem.{PoolItem}
use Rattle.cjc_code.specs.declared.insn.JOp.{JOp}
use Rattle.cjc_code.specs.Table.{Range, range, ranges, bare, row_in, row, heads, wide}
use Rattle.cjc_code.specs.Instruction.{operands, is_unknown, unless, opcode_at, widened, wide_opcode_at, behind_opcode}
use Rattle.cjc_code.specs.Instruction.{behind_first, is_prefix, instruction}
use Rattle.cjc_code.specs.Cut.{IsCutFrom}
use Rattle.cjc_code.specs.Named
use Rattle.cjc_code.specs.Named.{is_unsupported, cases, op_of}
use Rattle.cjc_code.specs.Numbers.{seconds, offsets, local}
use Rattle.cjc_code.specs.Unfit.{may_go_on}
use Rattle.cjc_types.specs.Steps.{goes_on, targets, case_target}
use Rattle.cjc_types.specs.TypeLaws.Places.{local_of}

-- What an instruction does is what its family says of it.
pub record Agrees (op : JOp) (led : List ℕ) (may : Bool) (named : Option ℕ) : Type 0 where
  pub leads : targets op ≡ led
  pub goes : goes_on op ≡ true → may ≡ true
  pub local : (k : ℕ) → local_of op ≡ Some k → named ≡ Some k

-- that of the k-th opcode of the range
abbrev HoldsIn : Range → (k : ℕ) → Type 0
HoldsIn r k =
    (pool : List PoolItem) (at opcode : ℕ) (zs : List ℤ) → length (heads (r.row k).0) ≤ length zs
    → is_unsupported pool (r.row k).1 zs ≡ false
    → Agrees (op_of pool at opcode (r.row k).1 zs) (map (Named.place at) (offsets (r.row k).1 zs))
    (may_go_on (r.row k).1) (local (r.row k).1 zs)

-- behind the prefix as many numbers of fixed place follow as without it
abbrev sizes_agree : Range → (k : ℕ) → Bool
sizes_agree r k = unwrap_or (option_map (λ x. length (heads x) == length (heads (r.row k).0)) (wide (r.row k))) true

abbrev AllHold : List Range → Type 0
AllHold [] = Unit {0}
AllHold (r ∷ rs) = ((k : ℕ) → HoldsIn r k) × ((k : ℕ) → sizes_agree r k ≡ true) × AllHold rs

-- ---- the ranges

-- an opcode that is arithmetic on int, or is not converted
arith_or_unsupported : (b : Bool) → HoldsIn (range 0 0 (λ k. bare (cond b (row 0x60).1 (row 0x61).1))) 0
unfolding row
arith_or_unsupported true pool at opcode zs enough fine = record {
  leads = refl;
  goes = λ h. refl;
  local = λ j h. absurd cc;
}
arith_or_unsupported false pool at opcode zs enough fine = record {
  leads = refl;
  goes = λ h. refl;
  local = λ j h. absurd cc;
}

table : HoldsIn (range 0 0 (λ k. row 0xAA)) 0
unfolding row
table pool at opcode [] enough fine = absurd (omega (arith, enough))
table pool at opcode (a ∷ []) enough fine = absurd (omega (arith, enough))
table pool at opcode (a ∷ b ∷ []) enough fine = absurd (omega (arith, enough))
table pool at opcode (other ∷ low ∷ high ∷ zs) enough fine = record {
  leads = refl;
  goes = λ h. absurd cc;
  local = λ j h. absurd cc;
}

cases_lead : (at : ℕ) (zs : List ℤ) → map case_target (cases at zs) ≡ map (Named.place at) (seconds zs)
cases_lead at [] = refl
cases_lead at (z ∷ []) = refl
cases_lead at (z ∷ offset ∷ zs) = ap (λ (ks : List ℕ). Named.place at offset ∷ ks) (cases_lead at zs)

lookup : HoldsIn (range 0 0 (λ k. row 0xAB)) 0
unfolding row
lookup pool at opcode [] enough fine = absurd (omega (arith, enough))
lookup pool at opcode (a ∷ []) enough fine = absurd (omega (arith, enough))
lookup pool at opcode (other ∷ pairs ∷ zs) enough fine = record {
  leads = ap (λ (ks : List ℕ). Named.place at other
      ∷ ks) (cases_lead at zs);
  goes = λ h. absurd cc;
  local = λ j h. absurd cc;
}

-- of those behind the first 56
behind_56 : AllHold (drop 56 ranges)
unfolding row
behind_56 = (
  λ k pool at opcode zs enough fine. record {
    leads = refl;
    goes = λ h. refl;
    local = λ j h. absurd cc;
  },
  λ k. refl,  -- invokedynamic
  (
    λ k pool at opcode zs enough fine. record {
      leads = refl;
      goes = λ h. refl;
      local = λ j h. absurd cc;
    },
    λ k. refl,  -- new
    (
      λ k pool at opcode zs enough fine. record {
        leads = refl;
        goes = λ h. refl;
        local = λ j h. absurd cc;
      },
      λ k. refl,  -- newarray
      (
        λ k pool at opcode zs enough fine. record {
          leads = refl;
          goes = λ h. refl;
          local = λ j h. absurd cc;
        },
        λ k. refl,  -- anewarray
        (
          λ k pool at opcode zs enough fine. record {
            leads = refl;
            goes = λ h. refl;
            local = λ j h. absurd cc;
          },
          λ k. refl,  -- arraylength
          (
            λ k pool at opcode zs enough fine. record {
              leads = refl;
              goes = λ h. absurd cc;
              local = λ j h. absurd cc;
            },
            λ k. refl,  -- athrow
            (
              λ k pool at opcode zs enough fine. record {
                leads = refl;
                goes = λ h. refl;
                local = λ j h. absurd cc;
              },
              λ k. refl,  -- checkcast
              (
                λ k pool at opcode zs enough fine. record {
                  leads = refl;
                  goes = λ h. refl;
                  local = λ j h. absurd cc;
                },
                λ k. refl,  -- instanceof
                (
                  λ k pool at opcode zs enough fine. record {
                    leads = refl;
                    goes = λ h. refl;
                    local = λ j h. absurd cc;
                  },
                  λ k. refl,  -- monitorenter, monitorexit
                  (
                    λ k pool at opcode zs enough fine. record {
                      leads = refl;
                      goes = λ h. refl;
                      local = λ j h. absurd cc;
                    },
                    λ k. refl,  -- wide
                    (
                      λ k pool at opcode zs enough fine. record {
                        leads = refl;
                        goes = λ h. refl;
                        local = λ j h. absurd cc;
                      },
                      λ k. refl,  -- multianewarray
                      (
                        λ k pool at opcode zs enough fine. record {
                          leads = refl;
                          goes = λ h. refl;
                          local = λ j h. absurd cc;
                        },
                        λ k. refl,  -- ifnull, ifnonnull
                        (
                          λ k pool at opcode zs enough fine. record {
                            leads = refl;
                            goes = λ h. absurd cc;
                            local = λ j h. absurd cc;
                          },
                          λ k. refl,  -- goto_w
                          (
                            λ k pool at opcode zs enough fine. absurd cc,
                            λ k. refl,  -- jsr_w
                            tt,
                          ),
                        ),
                      ),
                    ),
                  ),
                ),
              ),
            ),
          ),
        ),
      ),
    ),
  ),
)

-- of those behind the first 42
behind_42 : AllHold (drop 42 ranges)
unfolding row
behind_42 = (
  λ k pool at opcode zs enough fine. absurd cc,
  λ k. refl,  -- jsr
  (
    λ k pool at opcode zs enough fine. absurd cc,
    λ k. refl,  -- ret
    (
      λ k. table,
      λ k. refl,  -- tableswitch
      (
        λ k. lookup,
        λ k. refl,  -- lookupswitch
        (
          λ k pool at opcode zs enough fine. record {
            leads = refl;
            goes = λ h. absurd cc;
            local = λ j h. absurd cc;
          },
          λ k. refl,  -- ireturn
          (
            λ k pool at opcode zs enough fine. absurd cc,
            λ k. refl,  -- lreturn, freturn, dreturn
            (
              λ k pool at opcode zs enough fine. record {
                leads = refl;
                goes = λ h. absurd cc;
                local = λ j h. absurd cc;
              },
              λ k. refl,  -- areturn, return
              (
                λ k pool at opcode zs enough fine. record {
                  leads = refl;
                  goes = λ h. refl;
                  local = λ j h. absurd cc;
                },
                λ k. refl,  -- getstatic
                (
                  λ k pool at opcode zs enough fine. record {
                    leads = refl;
                    goes = λ h. refl;
                    local = λ j h. absurd cc;
                  },
                  λ k. refl,  -- putstatic
                  (
                    λ k pool at opcode zs enough fine. record {
                      leads = refl;
                      goes = λ h. refl;
                      local = λ j h. absurd cc;
                    },
                    λ k. refl,  -- getfield
                    (
                      λ k pool at opcode zs enough fine. record {
                        leads = refl;
                        goes = λ h. refl;
                        local = λ j h. absurd cc;
                      },
                      λ k. refl,  -- putfield
                      (
                        λ k pool at opcode zs enough fine. record {
                          leads = refl;
                          goes = λ h. refl;
                          local = λ j h. absurd cc;
                        },
                        λ k. refl,  -- invokevirtual
                        (
                          λ k pool at opcode zs enough fine. record {
                            leads = refl;
                            goes = λ h. refl;
                            local = λ j h. absurd cc;
                          },
                          λ k. refl,  -- invokespecial, invokestatic
                          (
                            λ k pool at opcode zs enough fine. record {
                              leads = refl;
                              goes = λ h. refl;
                              local = λ j h. absurd cc;
                            },
                            λ k. refl,  -- invokeinterface
                            behind_56,
                          ),
                        ),
                      ),
                    ),
                  ),
                ),
              ),
            ),
          ),
        ),
      ),
    ),
  ),
)

-- of those behind the first 28
behind_28 : AllHold (drop 28 ranges)
unfolding row
behind_28 = (
  λ k pool at opcode zs enough fine. record {
    leads = refl;
    goes = λ h. refl;
    local = λ j h. absurd cc;
  },
  λ k. refl,  -- aastore, bastore
  (
    λ k pool at opcode zs enough fine. record {
      leads = refl;
      goes = λ h. refl;
      local = λ j h. absurd cc;
    },
    λ k. refl,  -- castore
    (
      λ k pool at opcode zs enough fine. record {
        leads = refl;
        goes = λ h. refl;
        local = λ j h. absurd cc;
      },
      λ k. refl,  -- sastore
      (
        λ k pool at opcode zs enough fine. record {
          leads = refl;
          goes = λ h. refl;
          local = λ j h. absurd cc;
        },
        -- pop, pop2, dup, dup_x1, dup_x2, dup2, dup2_x1,
        -- dup2_x2, swap
        λ k. refl,
        (
          λ k. arith_or_unsupported (k % 4 == 0),
          -- of int, long, float and double: add, sub, mul, div,
          -- rem, neg
          λ k. refl,
          (
            λ k. arith_or_unsupported (k % 2 == 0),
            λ k. refl,  -- of int and long: shl, shr, ushr, and, or, xor
            (
              λ k pool at opcode zs enough fine. record {
                leads = refl;
                goes = λ h. refl;
                local = λ j h. h;
              },
              λ k. refl,  -- iinc
              (
                λ k pool at opcode zs enough fine. record {
                  leads = refl;
                  goes = λ h. refl;
                  local = λ j h. absurd cc;
                },
                -- i2l, i2f, i2d, l2i, l2f, l2d, f2i, f2l, f2d,
                -- d2i, d2l, d2f
                λ k. refl,
                (
                  λ k pool at opcode zs enough fine. record {
                    leads = refl;
                    goes = λ h. refl;
                    local = λ j h. absurd cc;
                  },
                  λ k. refl,  -- i2b
                  (
                    λ k pool at opcode zs enough fine. record {
                      leads = refl;
                      goes = λ h. refl;
                      local = λ j h. absurd cc;
                    },
                    λ k. refl,  -- i2c
                    (
                      λ k pool at opcode zs enough fine. record {
                        leads = refl;
                        goes = λ h. refl;
                        local = λ j h. absurd cc;
                      },
                      λ k. refl,  -- i2s
                      (
                        λ k pool at opcode zs enough fine. record {
                          leads = refl;
                          goes = λ h. refl;
                          local = λ j h. absurd cc;
                        },
                        λ k. refl,  -- lcmp, fcmpl, fcmpg, dcmpl, dcmpg
                        (
                          λ k pool at opcode zs enough fine. record {
                            leads = refl;
                            goes = λ h. refl;
                            local = λ j h. absurd cc;
                          },
                          -- ifeq, ifne, iflt, ifge, ifgt, ifle,
                          -- if_icmpeq to if_icmple,
                          -- if_acmpeq, if_acmpne
                          λ k. refl,
                          (
                            λ k pool at opcode zs enough fine. record {
                              leads = refl;
                              goes = λ h. absurd cc;
                              local = λ j h. absurd cc;
                            },
                            λ k. refl,  -- goto
                            behind_42,
                          ),
                        ),
                      ),
                    ),
                  ),
                ),
              ),
            ),
          ),
        ),
      ),
    ),
  ),
)

-- of those behind the first 14
behind_14 : AllHold (drop 14 ranges)
unfolding row
behind_14 = (
  λ k pool at opcode zs enough fine. record {
    leads = refl;
    goes = λ h. refl;
    local = λ j h. h;
  },
  λ k. refl,  -- aload_0 to aload_3
  (
    λ k pool at opcode zs enough fine. record {
      leads = refl;
      goes = λ h. refl;
      local = λ j h. absurd cc;
    },
    λ k. refl,  -- iaload
    (
      λ k pool at opcode zs enough fine. record {
        leads = refl;
        goes = λ h. refl;
        local = λ j h. absurd cc;
      },
      λ k. refl,  -- laload, faload, daload
      (
        λ k pool at opcode zs enough fine. record {
          leads = refl;
          goes = λ h. refl;
          local = λ j h. absurd cc;
        },
        λ k. refl,  -- aaload, baload
        (
          λ k pool at opcode zs enough fine. record {
            leads = refl;
            goes = λ h. refl;
            local = λ j h. absurd cc;
          },
          λ k. refl,  -- caload
          (
            λ k pool at opcode zs enough fine. record {
              leads = refl;
              goes = λ h. refl;
              local = λ j h. absurd cc;
            },
            λ k. refl,  -- saload
            (
              λ k pool at opcode zs enough fine. record {
                leads = refl;
                goes = λ h. refl;
                local = λ j h. h;
              },
              λ k. refl,  -- istore
              (
                λ k pool at opcode zs enough fine. record {
                  leads = refl;
                  goes = λ h. refl;
                  local = λ j h. absurd cc;
                },
                λ k. refl,  -- lstore, fstore, dstore
                (
                  λ k pool at opcode zs enough fine. record {
                    leads = refl;
                    goes = λ h. refl;
                    local = λ j h. h;
                  },
                  λ k. refl,  -- astore
                  (
                    λ k pool at opcode zs enough fine. record {
                      leads = refl;
                      goes = λ h. refl;
                      local = λ j h. h;
                    },
                    λ k. refl,  -- istore_0 to istore_3
                    (
                      λ k pool at opcode zs enough fine. record {
                        leads = refl;
                        goes = λ h. refl;
                        local = λ j h. absurd cc;
                      },
                      -- lstore_0 to lstore_3, fstore_0 to fstore_3, dstore_0 to dstore_3
                      λ k. refl,
                      (
                        λ k pool at opcode zs enough fine. record {
                          leads = refl;
                          goes = λ h. refl;
                          local = λ j h. h;
                        },
                        λ k. refl,  -- astore_0 to astore_3
                        (
                          λ k pool at opcode zs enough fine. record {
                            leads = refl;
                            goes = λ h. refl;
                            local = λ j h. absurd cc;
                          },
                          λ k. refl,  -- iastore
                          (
                            λ k pool at opcode zs enough fine. record {
                              leads = refl;
                              goes = λ h. refl;
                              local = λ j h. absurd cc;
                            },
                            λ k. refl,  -- lastore, fastore, dastore
                            behind_28,
                          ),
                        ),
                      ),
                    ),
                  ),
                ),
              ),
            ),
          ),
        ),
      ),
    ),
  ),
)

all_hold : AllHold ranges
unfolding row
all_hold = (
  λ k pool at opcode zs enough fine. record { leads = refl; goes = λ h. refl; local = λ j h. absurd cc },
  λ k. refl,  -- nop
  (
    λ k pool at opcode zs enough fine. record { leads = refl; goes = λ h. refl; local = λ j h. absurd cc },
    λ k. refl,  -- aconst_null
    (
      λ k pool at opcode zs enough fine. record { leads = refl; goes = λ h. refl; local = λ j h. absurd cc },
      λ k. refl,  -- iconst_m1, iconst_0 to iconst_5
      (
        λ k pool at opcode zs enough fine. record { leads = refl; goes = λ h. refl; local = λ j h. absurd cc },
        λ k. refl,  -- lconst_0, lconst_1, fconst_0 to fconst_2, dconst_0, dconst_1
        (
          λ k pool at opcode zs enough fine. record { leads = refl; goes = λ h. refl; local = λ j h. absurd cc },
          λ k. refl,  -- bipush
          (
            λ k pool at opcode zs enough fine. record { leads = refl; goes = λ h. refl; local = λ j h. absurd cc },
            λ k. refl,  -- sipush
            (
              λ k pool at opcode zs enough fine. record { leads = refl; goes = λ h. refl; local = λ j h. absurd cc },
              λ k. refl,  -- ldc
              (
                λ k pool at opcode zs enough fine. record { leads = refl; goes = λ h. refl; local = λ j h. absurd cc },
                λ k. refl,  -- ldc_w
                (
                  λ k pool at opcode zs enough fine. record {
                    leads = refl;
                    goes = λ h. refl;
                    local = λ j h. absurd cc;
                  },
                  λ k. refl,  -- ldc2_w
                  (
                    λ k pool at opcode zs enough fine. record { leads = refl; goes = λ h. refl; local = λ j h. h },
                    λ k. refl,  -- iload
                    (
                      λ k pool at opcode zs enough fine. record {
                        leads = refl;
                        goes = λ h. refl;
                        local = λ j h. absurd cc;
                      },
                      λ k. refl,  -- lload, fload, dload
                      (
                        λ k pool at opcode zs enough fine. record { leads = refl; goes = λ h. refl; local = λ j h. h },
                        λ k. refl,  -- aload
                        (
                          λ k pool at opcode zs enough fine. record {
                            leads = refl;
                            goes = λ h. refl;
                            local = λ j h. h;
                          },
                          λ k. refl,  -- iload_0 to iload_3
                          (
                            λ k pool at opcode zs enough fine. record {
                              leads = refl;
                              goes = λ h. refl;
                              local = λ j h. absurd cc;
                            },
                            λ k. refl,  -- lload_0 to lload_3, fload_0 to fload_3, dload_0 to dload_3
                            behind_14,
                          ),
                        ),
                      ),
                    ),
                  ),
                ),
              ),
            ),
          ),
        ),
      ),
    ),
  ),
)

row_holds_in : (rs : List Range) → AllHold rs → (n : ℕ) → HoldsIn (range 0 0 (λ k. row_in rs n)) 0
row_holds_in [] h n = λ pool at opcode zs enough fine. record {
  leads = refl;
  goes = λ h. refl;
  local = λ j h. absurd cc;
}
row_holds_in (r ∷ rs) h n = go (nat_le r.first n && nat_le n r.last) (row_holds_in rs h.2 n)
  where
    go : (b : Bool) → HoldsIn (range 0 0 (λ k. row_in rs n)) 0
        → HoldsIn (range 0 0 (λ k. cond b (r.row (n - r.first)) (row_in rs n))) 0
    go true rest = h.0 (n - r.first)
    go false rest = rest

sizes_in : (rs : List Range) → AllHold rs → (n : ℕ) → sizes_agree (range 0 0 (λ k. row_in rs n)) 0 ≡ true
sizes_in [] h n = refl
sizes_in (r ∷ rs) h n = go (nat_le r.first n && nat_le n r.last) (sizes_in rs h.2 n)
  where
    go : (b : Bool) → sizes_agree (range 0 0 (λ k. row_in rs n)) 0 ≡ true
        → sizes_agree (range 0 0 (λ k. cond b (r.row (n - r.first)) (row_in rs n))) 0 ≡ true
    go true rest = h.1 (n - r.first)
    go false rest = rest

row_holds : (n : ℕ) → HoldsIn (range 0 0 (λ k. row n)) 0
unfolding row
row_holds n = row_holds_in ranges all_hold n

row_sizes : (n : ℕ) → sizes_agree (range 0 0 (λ k. row n)) 0 ≡ true
unfolding row
row_sizes n = sizes_in ranges all_hold n

-- ---- an opcode of a code

opcode_row : (n : ℕ) (op : _) → opcode_at n ≡ Some op → (op.family ≡ (row n).1) × (op.operands ≡ (row n).0)
unfolding opcode_at
opcode_row n op e = elim (is_unknown (row n).1) as (λ b. unless b (record {
  number = n;
  operands = (row n).0;
  family = (row n).1;
}) ≡ Some op → (op.family ≡ (row n).1) × (op.operands ≡ (row n).0)) [
  | true ↦ λ f. absurd cc
  | false ↦ λ f. (sym (ap (λ o. o.family) (same_Some _ op f)), sym (ap (λ o. o.operands) (same_Some _ op f)))
] e

wide_row : (n : ℕ) (op : _) → wide_opcode_at n ≡ Some op → (op.family ≡ (row n).1)
    × (length (heads op.operands) ≡ length (heads (row n).0))
unfolding wide_opcode_at
wide_row n op e = elim (wide (row n)) as (λ o. unwrap_or (option_map (λ x. length (heads x) == length (heads (row n).0))
    o) true ≡ true → widened n (row n).1 o ≡ Some op → (op.family ≡ (row n).1)
    × (length (heads op.operands) ≡ length (heads (row n).0))) [
      | None ↦ λ same f. absurd cc
      | Some x ↦ λ same f. (
        sym (ap (λ o. o.family) (same_Some _ op f)),
        sym (ap (λ o. length (heads o.operands)) (same_Some _ op f)) ∙ eqb-true _ _ same,
      )
    ] (row_sizes n) e

-- ---- an instruction

as_many : (os : _) (place : ℕ) (zs : List ℤ) (bytes : List ℕ) → Spells (operands os) place zs bytes
    → length zs ≡ length os
unfolding operands Spells
as_many [] place zs bytes (none, same) = ap length (sym same)
as_many (o ∷ os) place zs bytes (z, front, back, parts, one, (more, f2, b2, parted, rest, (none, same))) =
    ap length (sym same) ∙ ap suc (as_many os _ more f2 rest)

opcode_spelt : (at : ℕ) (op : _) (place : ℕ) (i : _) (bytes : List ℕ) → Spells (behind_opcode at op) place i bytes
    → (i.family ≡ op.family) × (length (heads op.operands) ≤ length i.numbers)
unfolding behind_opcode Spells
opcode_spelt at op place i bytes (
  p,
  f1,
  b1,
  e1,
  here,
  (
    free,
    f2,
    b2,
    e2,
    raw,
    (
      first,
      f3,
      b3,
      e3,
      ops,
      (rest, f4, b4, e4, rep, (nil, same)),
    ),
  ),
) =
    let many = as_many (heads op.operands) _ first f3 ops in
    let numbers = ap (λ r. length r.numbers) same in
    let both = length-append first rest in
    (sym (ap (λ r. r.family) same), omega (arith, many, numbers, both))

first_spelt : (prefix : Bool) (at n : ℕ) (op : _) (place : ℕ) (i : _) (bytes : List ℕ)
    → Spells (behind_first prefix at op) place i bytes → op.family ≡ (row n).1 → op.operands ≡ (row n).0
    → (m : ℕ) × (i.family ≡ (row m).1) × (length (heads (row m).0) ≤ length i.numbers)
unfolding behind_first Spells
first_spelt true at n op place i bytes (long, front, back, parts, opcode, others) kind takes =
    let h = wide_row _ long opcode.1 in
    let s = opcode_spelt at long (place + length front) i back others in
    let size = h.1 in
    let enough = s.1 in
    (_, s.0 ∙ h.0, omega (arith, size, enough))
first_spelt false at n op place i bytes h kind takes =
    let s = opcode_spelt at op place i bytes h in
    let size = ap (λ os. length (heads os)) takes in
    let enough = s.1 in
    (n, s.0 ∙ kind, omega (arith, size, enough))

spelt_row : (place : ℕ) (i : _) (bytes : List ℕ) → Spells instruction place i bytes → (m : ℕ) × (i.family ≡ (row m).1)
    × (length (heads (row m).0) ≤ length i.numbers)
unfolding instruction Spells
spelt_row place i bytes (at, front, back, parts, here, (op, first, rest, parted, opcode, others)) =
    let h = opcode_row _ op opcode.1 in
    first_spelt (is_prefix op.family) at _ op _ i rest others h.0 h.1

pub cut_row : (k place : ℕ) (bytes : List ℕ) (insns : _) (stop : ℕ) → IsCutFrom place bytes insns stop → (i : _)
    → slice_get insns k ≡ Some i → (m : ℕ) × (i.family ≡ (row m).1) × (length (heads (row m).0) ≤ length i.numbers)
unfolding IsCutFrom
cut_row k place bytes [] stop h i e = absurd cc
cut_row zero place bytes (first ∷ insns) stop (front, back, parts, spelt, rest) i e =
    subst (λ r. (m : ℕ) × (r.family ≡ (row m).1) × (length (heads (row m).0) ≤ length r.numbers)) (same_Some first i e)
    (spelt_row place first front spelt)
cut_row (suc k) place bytes (first ∷ insns) stop (front, back, parts, spelt, rest) i e =
    cut_row k (place + length front) back insns stop rest i e

-- an instruction that was cut does what its family says
pub cut_agrees : (k place : ℕ) (bytes : List ℕ) (insns : _) (stop : ℕ) → IsCutFrom place bytes insns stop → (i : _)
    → slice_get insns k ≡ Some i → (pool : List PoolItem) → is_unsupported pool i.family i.numbers ≡ false
    → Agrees (op_of pool i.at i.opcode i.family i.numbers) (map (Named.place i.at) (offsets i.family i.numbers))
    (may_go_on i.family) (local i.family i.numbers)
cut_agrees k place bytes insns stop h i e pool fine =
    let r = cut_row k place bytes insns stop h i e in
    subst (λ f. is_unsupported pool f i.numbers ≡ false → Agrees (op_of pool i.at i.opcode f i.numbers)
    (map (Named.place i.at) (offsets f i.numbers)) (may_go_on f) (local f i.numbers)) (sym r.1)
    (row_holds r.0 pool i.at i.opcode i.numbers r.2) fine

-- the cut stops at the end or before
pub stops_within : (place : ℕ) (bytes : List ℕ) (insns : _) (stop : ℕ) → IsCutFrom place bytes insns stop
    → stop ≤ place + length bytes
unfolding IsCutFrom
stops_within place bytes [] stop (is, breaks) = omega (arith, is)
stops_within place bytes (first ∷ insns) stop (front, back, parts, spelt, rest) =
    let le = stops_within (place + length front) back insns stop rest in
    let all = ap length parts in
    let both = length-append front back in
    omega (arith, le, all, both)
