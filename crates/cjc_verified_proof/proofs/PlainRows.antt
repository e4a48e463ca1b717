-- What the type checker takes plain rows for.
use Rattle.std.proofs.Common.{◌≡◌, List, refl, ℤ}
use Rattle.cjc_capread.specs.Opcodes.{Operand}
use Rattle.cjc_capread.specs.Decode.{Instruction}
use Rattle.cjc_card_semantics.specs.Bytecode.Calculations.{Calculation}
use Rattle.cjc_check_rules.specs.Spots.{Placed}
use Rattle.cjc_card_acts.specs.CardTypes.{ValueType}
use Rattle.cjc_card_acts.specs.Rows.{Row}
use Rattle.cjc_verify.specs.Instructions.{act_by}
use Rattle.cjc_verify.specs.Pairs.{Pair}
use Rattle.cjc_verify_proof.specs.Acts.{plain_act}
use Rattle.cjc_verify_proof.specs.Beside.{BesidePlain}
use Rattle.cjc_verify_proof.specs.Beside as row

pub plain_read : (p : Pair) (result : ValueType) (i : Placed Instruction) (r : Row) (f : List ℤ → Calculation)
    (kinds : List Operand) → BesidePlain r f kinds → act_by p result i r
    ≡ plain_act r (let x = i.item in x.operands)
plain_read p result i _ _ _ row.nop = refl
plain_read p result i _ _ _ row.null = refl
plain_read p result i _ _ _ (row.constant z) = refl
plain_read p result i _ _ _ (row.int_constant z) = refl
plain_read p result i _ _ _ (row.literal k) = refl
plain_read p result i _ _ _ (row.int_literal k) = refl
plain_read p result i _ _ _ row.aload = refl
plain_read p result i _ _ _ row.sload = refl
plain_read p result i _ _ _ row.iload = refl
plain_read p result i _ _ _ (row.aload_n n) = refl
plain_read p result i _ _ _ (row.sload_n n) = refl
plain_read p result i _ _ _ (row.iload_n n) = refl
plain_read p result i _ _ _ row.astore = refl
plain_read p result i _ _ _ row.sstore = refl
plain_read p result i _ _ _ row.istore = refl
plain_read p result i _ _ _ (row.astore_n n) = refl
plain_read p result i _ _ _ (row.sstore_n n) = refl
plain_read p result i _ _ _ (row.istore_n n) = refl
plain_read p result i _ _ _ (row.sinc k) = refl
plain_read p result i _ _ _ (row.iinc k) = refl
plain_read p result i _ _ _ (row.pop n) = refl
plain_read p result i _ _ _ (row.dup n) = refl
plain_read p result i _ _ _ row.dup_x = refl
plain_read p result i _ _ _ row.swap_x = refl
plain_read p result i _ _ _ (row.unary f) = refl
plain_read p result i _ _ _ (row.binary f) = refl
plain_read p result i _ _ _ (row.divided f) = refl
plain_read p result i _ _ _ (row.int_unary f) = refl
plain_read p result i _ _ _ (row.int_binary f) = refl
plain_read p result i _ _ _ (row.int_divided f) = refl
plain_read p result i _ _ _ row.to_int = refl
plain_read p result i _ _ _ (row.from_int f) = refl
plain_read p result i _ _ _ (row.from_ints f) = refl
