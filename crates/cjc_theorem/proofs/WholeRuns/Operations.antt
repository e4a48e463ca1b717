-- The instructions that the card has, by the opcodes of their kinds.
use Rattle.std.proofs.Common.{◌≡◌, ℕ, refl, sym, subst, Bool, true, false, List, [], ◌∷◌}
use Rattle.std.specs.Prelude.{◌==◌, ◌||◌}
use Rattle.std.specs.List.{AllByRecursion}
use Rattle.std.proofs.lemmas.Bool.{eqb-true}
use Rattle.cjc_components.specs.Bytecode.declared.insn.JOp.TheVariants as jop
use Rattle.cjc_components.specs.Bytecode.ReadLaws.Instructions.{has_opcode, is_one_of}
use Rattle.cjc_narrow_proof.specs.Tables.Arrays.{IsOnArray, aaload, aastore, baload, bastore, saload, sastore}
use Rattle.cjc_narrow_proof.specs.Tables.Supported.{IsPlain, IsReturn}
use Rattle.cjc_narrow_proof.specs.Tables.Supported as plain

-- what holds of each of some numbers holds of one of them
pub one_of : (P : ℕ → Type 0) (n : ℕ) (ns : List ℕ) → AllByRecursion P ns → is_one_of n ns ≡ true → P n
one_of P n [] all e = absurd cc
one_of P n (k ∷ ns) all e = by (n == k) refl e (one_of P n ns all.1)
  where
    by : (b : Bool) → (n == k) ≡ b → (b || is_one_of n ns) ≡ true → (is_one_of n ns ≡ true → P n) → P n
    by true f e rest = let same : n ≡ k = eqb-true n k f in subst P (sym same) all.0
    by false f e rest = rest e

pub stack_plain : (n : ℕ) → has_opcode (jop.Stack n) ≡ true → IsPlain (jop.Stack n)
stack_plain n e = one_of (λ k. IsPlain (jop.Stack k)) n (0x57 ∷ 0x58 ∷ 0x59 ∷ 0x5A ∷ 0x5B ∷ 0x5C ∷ 0x5D ∷ 0x5E ∷ 0x5F
    ∷ []) (
      plain.pop,
      (
        plain.pop2,
        (plain.dup, (plain.dup_x1, (plain.dup_x2, (plain.dup2, (plain.dup2_x1, (plain.dup2_x2, (plain.swap, tt))))))),
      ),
    )
    e

pub arith_plain : (n : ℕ) → has_opcode (jop.Arith n) ≡ true → IsPlain (jop.Arith n)
arith_plain n e = one_of (λ k. IsPlain (jop.Arith k)) n (0x60 ∷ 0x64 ∷ 0x68 ∷ 0x6C ∷ 0x70 ∷ 0x74 ∷ 0x78 ∷ 0x7A ∷ 0x7C
    ∷ 0x7E ∷ 0x80 ∷ 0x82 ∷ []) (
      plain.iadd,
      (
        plain.isub,
        (
          plain.imul,
          (
            plain.idiv,
            (
              plain.irem,
              (
                plain.ineg,
                (plain.ishl, (plain.ishr, (plain.iushr, (plain.iand, (plain.ior, (plain.ixor, tt)))))),
              ),
            ),
          ),
        ),
      ),
    ) e

pub narrow_plain : (n : ℕ) → has_opcode (jop.Narrow n) ≡ true → IsPlain (jop.Narrow n)
narrow_plain n e = one_of (λ k. IsPlain (jop.Narrow k)) n (0x91 ∷ 0x93 ∷ []) (plain.i2b, (plain.i2s, tt)) e

pub if_plain : (n target : ℕ) → has_opcode (jop.If n target) ≡ true → IsPlain (jop.If n target)
if_plain n target e = one_of (λ k. IsPlain (jop.If k target)) n (0x99 ∷ 0x9A ∷ 0x9B ∷ 0x9C ∷ 0x9D ∷ 0x9E ∷ 0x9F ∷ 0xA0
    ∷ 0xA1 ∷ 0xA2 ∷ 0xA3 ∷ 0xA4 ∷ 0xA5 ∷ 0xA6 ∷ 0xC6 ∷ 0xC7 ∷ []) (
      plain.ifeq,
      (
        plain.ifne,
        (
          plain.iflt,
          (
            plain.ifge,
            (
              plain.ifgt,
              (
                plain.ifle,
                (
                  plain.if_icmpeq,
                  (
                    plain.if_icmpne,
                    (
                      plain.if_icmplt,
                      (
                        plain.if_icmpge,
                        (
                          plain.if_icmpgt,
                          (
                            plain.if_icmple,
                            (plain.if_acmpeq, (plain.if_acmpne, (plain.ifnull, (plain.ifnonnull, tt)))),
                          ),
                        ),
                      ),
                    ),
                  ),
                ),
              ),
            ),
          ),
        ),
      ),
    ) e

pub return_is : (n : ℕ) → has_opcode (jop.Return n) ≡ true → IsReturn n
return_is n e = one_of IsReturn n (0xAC ∷ 0xB0 ∷ 0xB1 ∷ []) (plain.ireturn, (plain.areturn, (plain.returns, tt))) e

-- 302: no iaload
pub load_is : (n : ℕ) → has_opcode (jop.ArrayLoad n) ≡ true → (n == 0x2E) ≡ false → IsOnArray (jop.ArrayLoad n)
load_is n e = one_of (λ k. (k == 0x2E) ≡ false → IsOnArray (jop.ArrayLoad k)) n (0x2E ∷ 0x32 ∷ 0x33 ∷ 0x35 ∷ [])
    ((λ f. absurd cc), ((λ f. aaload), ((λ f. baload), ((λ f. saload), tt)))) e

-- and no iastore
pub store_is : (n : ℕ) → has_opcode (jop.ArrayStore n) ≡ true → (n == 0x4F) ≡ false → IsOnArray (jop.ArrayStore n)
store_is n e = one_of (λ k. (k == 0x4F) ≡ false → IsOnArray (jop.ArrayStore k)) n (0x4F ∷ 0x53 ∷ 0x54 ∷ 0x56 ∷ [])
    ((λ f. absurd cc), ((λ f. aastore), ((λ f. bastore), ((λ f. sastore), tt)))) e
