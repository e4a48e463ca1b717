-- What the entries of the constant pool say of what instructions of a class file name in int mode, where types of
-- descriptors may be int: an instruction is served where the card has it, and what it names there is what the class file
-- names.
use Rattle.std.specs.Prelude.{◌≡◌, ℕ, Bool, true, false, List, [], ◌∷◌, Option, Some, ℤ}
use Rattle.cjc_types.specs.Bytecode.Jvm as jvm
use Rattle.cjc_types.specs.Bytecode.declared.insn.JOp.{JOp}
use Rattle.cjc_types.specs.Bytecode.declared.insn.JOp.TheVariants as jop
use Rattle.cjc_types.specs.Bytes.declared.fault.MemberId.{MemberId}
use Rattle.cjc_types.specs.Flow.{Body}
use Rattle.cjc_types.specs.Rules.{receiver_class, throwable as throwable_by_name}
use Rattle.cjc_types.specs.Types.{array_of, is_void, letter, parts, result_of}
use Rattle.cjc_types.specs.World.Classes.{Class}
use Rattle.cjc_types.specs.declared.cell.Cell.TheVariants.{Number}
use Rattle.cjc_check_proof.specs.NCode.Lowering.Naming.{Naming}
use Rattle.cjc_check_proof.specs.NCode.Written.{Resolution, element_number}
use Rattle.cjc_check_proof.specs.NCode.declared.narrow.PoolKey.TheVariants as keys
use Rattle.cjc_check_proof.specs.NarrowProof.Tables.Arrays.{IsOnArray}
use Rattle.cjc_check_proof.specs.NarrowProof.Tables.Names.{IsDesc}
use Rattle.cjc_check_proof.specs.NarrowProof.Tables.Supported.{IsPlain, IsReturn}
use Rattle.cjc_frames.specs.Acts.{Subtype}
use Rattle.cjc_frames.specs.declared.acts.Need.{Need}
use Rattle.cjc_frames.specs.declared.acts.Need.TheVariants.{OfType}
use Rattle.cjc_verify.specs.CapRead.declared.tree.ClassRef.{ClassRef}
use Rattle.cjc_verify.specs.CapRead.declared.tree.PoolEntry.TheVariants as entries
use Rattle.cjc_verify.specs.CardActs.CardTypes.{MemberType, ValueType, numbers_type}
use Rattle.cjc_verify.specs.ClassTypes.{array_type, class_type}
use Rattle.cjc_verify.specs.Instructions.{throwable}
use Rattle.cjc_verify.specs.Named.{names_unmade}
use Rattle.cjc_verify.specs.Pairs.{Pair}
use Rattle.cjc_accepted_proof.specs.Elements.{ArraysAgree}
use Rattle.cjc_accepted_proof.specs.Frames.{PassesFor, SubtypesAgree}
use Rattle.cjc_accepted_proof.specs.Served.{TypeServed, entry_for}
use Rattle.cjc_int_accepted.specs.Entered.{AreTypedAs}
use Rattle.cjc_int_accepted.specs.Named.{CallNamed, FieldNamed, StaticNamed, field_type, static_type}
use Rattle.cjc_int_accepted.specs.Types.{IsTypedAs}

module _ (card_type : List ℕ → Option (List ℕ)) (is_of : Subtype) (w : List Class) (p : Pair) (n : Naming)
    (r : Resolution) where
  -- an instance field of the package, which has a value: its objects are of the class that declares it, and its type is
  -- the descriptor's
  pub record FieldServed (f : MemberId) : Type 0 where
    pub class : ClassRef
    pub named : FieldNamed p n r f class
    pub receiver : PassesFor card_type is_of w f.class (class_type class)
    pub typed : (let d = parts f.desc in let v = d.result in IsTypedAs card_type v.kind v.class (field_type p n r f))
    pub is_value : (let d = parts f.desc in let v = d.result in is_void v.kind) ≡ false

  -- a static field of the package that is no constant, which has a value: its type is the descriptor's
  pub record StaticServed (f : MemberId) : Type 0 where
    pub named : StaticNamed p n r f
    pub typed : (let d = parts f.desc in let v = d.result in IsTypedAs card_type v.kind v.class (static_type p n r f))
    pub is_value : (let d = parts f.desc in let v = d.result in is_void v.kind) ≡ false

  -- what is of a class by name is what a call by token is made on
  abbrev pub IsReceiver : (class : List ℕ) → List Need → Type 0
  IsReceiver class [] = Unit {0}
  IsReceiver class (OfType type ∷ []) = PassesFor card_type is_of w class type
  IsReceiver class needs = ⊥

  module _ (b : Body) where
    -- A method that code of b calls: its types are those of its descriptor, and what the class file calls it on is what
    -- the card calls it on.
    pub record CallServed (opcode : ℕ) (m : MemberId) : Type 0 where
      pub type : MemberType
      pub receiver : List Need
      pub named : CallNamed p n r opcode m type receiver
      pub is_desc : IsDesc m.desc
      pub is_method : (let d = parts m.desc in d.is_method) ≡ true
      pub params : (let d = parts m.desc in AreTypedAs card_type d.params type.params)
      pub result : (let d = parts m.desc in let v = d.result in IsTypedAs card_type v.kind v.class type.result)
      pub received : IsReceiver (receiver_class w b opcode m) receiver

    -- An instruction of code of b.
    pub data IsServed : JOp → Type 0 where
      plain : {op : JOp} → IsPlain op → IsServed op
      on_array : {op : JOp} → IsOnArray op → IsServed op
      loads_int : IsServed (jop.ArrayLoad jvm.iaload)
      stores_int : IsServed (jop.ArrayStore jvm.iastore)
      returns : {opcode : ℕ} → IsReturn opcode → IsServed (jop.Return opcode)
      throws : IsServed jop.Throw
      a_field : {f : MemberId} (put : Bool) → FieldServed f → IsServed (jop.Field put f)
      a_static : {f : MemberId} (put : Bool) → StaticServed f → IsServed (jop.Static put f)
      a_constant : {f : MemberId} (z : ℤ) → r.constant f ≡ Some z
          → (let d = parts f.desc in result_of d.result) ≡ Number ∷ [] → IsServed (jop.Static false f)
      a_call : {opcode : ℕ} {m : MemberId} → CallServed opcode m → IsServed (jop.Call opcode m)
      an_object : {c : List ℕ} (class : ClassRef) → entry_for p n (keys.Class c) ≡ Some (entries.Classref class)
          → card_type c ≡ Some (class_type class) → names_unmade p class ≡ false → IsServed (jop.New c)
      an_array : {c : List ℕ} (class : ClassRef) → entry_for p n (keys.Class c) ≡ Some (entries.Classref class)
          → card_type (array_of c) ≡ Some (array_type class) → IsServed (jop.ANewArray c)
      an_array_of_numbers : {number : ℕ} (type : List ℕ) → numbers_type (element_number number) ≡ Some type
          → card_type (91 ∷ letter number ∷ []) ≡ Some type → IsServed (jop.NewArray number)
      a_cast : {name : List ℕ} → TypeServed card_type is_of w p n r name → IsServed (jop.CheckCast name)
      a_test : {name : List ℕ} → TypeServed card_type is_of w p n r name → IsServed (jop.InstanceOf name)

    -- What holds in all code of b, in a method of the card with a result of this type.
    pub record IsServedIn (result : ValueType) : Type 0 where
      pub subtypes : SubtypesAgree card_type is_of w
      pub arrays : ArraysAgree card_type
      pub returned : (let d = parts b.desc in let v = d.result in IsTypedAs card_type v.kind v.class result)
      pub exceptions : throwable p ≡ card_type throwable_by_name
