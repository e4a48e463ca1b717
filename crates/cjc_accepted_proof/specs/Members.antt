-- What entries of static fields say of the fields that instructions name, and which letter a return has.
use Rattle.std.specs.Prelude.{◌≡◌, ℕ, ◌==◌, true, false, List, Option, Some, None, if◌then◌else◌}
use Rattle.cjc_types.specs.Bytecode.Jvm as jvm
use Rattle.cjc_types.specs.Bytes.declared.fault.MemberId.{MemberId}
use Rattle.cjc_types.specs.Types.{parts}
use Rattle.cjc_verify.specs.CapRead.declared.tree.StaticRef.{StaticRef}
use Rattle.cjc_verify.specs.CardActs.CardTypes.{ValueType, is_moved_by}
use Rattle.cjc_verify.specs.CardSemantics.Bytecode.Effects.{Letter, Reference, Short}
use Rattle.cjc_verify.specs.Named.{is_static_outside}
use Rattle.cjc_accepted_proof.specs.Frames.{IsTypeFor}

-- What the entry of a static field says of the field that an instruction names: it is one of the package, its type is
-- the descriptor's, and the letter moves that.
pub record StaticFits (card_type : List ℕ → Option (List ℕ)) (f : MemberId) (letter : Letter) (field : StaticRef)
    (t : ValueType) : Type 0 where
  pub typed : (let d = parts f.desc in let r = d.result in IsTypeFor card_type r.kind r.class t)
  pub moved : is_moved_by letter t ≡ true
  pub inside : is_static_outside field ≡ false

-- the letter of what is written for ireturn, areturn and return
abbrev pub letter_of_return : (opcode : ℕ) → Option Letter
letter_of_return opcode =
    if opcode == jvm.ireturn then Some Short else if opcode == jvm.areturn then Some Reference else None
