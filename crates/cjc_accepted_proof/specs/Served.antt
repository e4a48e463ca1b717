-- What the entries of the constant pool say of what instructions of a class file name: an instruction is served where
-- the card has it, and what it names there is what the class file names.
use Rattle.std.specs.Prelude.{◌≡◌, ◌+◌, ◌||◌, not, ℕ, Bool, false, List, [], ◌∷◌, Option, Some, None, ℤ}
use Rattle.cjc_types.specs.Bytecode.Jvm as jvm
use Rattle.cjc_types.specs.Bytecode.declared.insn.JOp.{JOp}
use Rattle.cjc_types.specs.Bytecode.declared.insn.JOp.TheVariants as jop
use Rattle.cjc_types.specs.Bytes.declared.fault.MemberId.{MemberId}
use Rattle.cjc_types.specs.Flow.{Body}
use Rattle.cjc_types.specs.Rules.{receiver_class, throwable as throwable_by_name}
use Rattle.cjc_types.specs.Types.{array_of, is_void, letter, parts, result_of}
use Rattle.cjc_types.specs.World.Classes.{Class}
use Rattle.cjc_types.specs.declared.cell.Cell.TheVariants.{Number}
use Rattle.cjc_check_proof.specs.NCode.Lowering.Naming.{Naming}
use Rattle.cjc_check_proof.specs.NCode.Written.{Resolution, element_number, nargs_of}
use Rattle.cjc_check_proof.specs.NCode.declared.narrow.PoolKey.{PoolKey}
use Rattle.cjc_check_proof.specs.NCode.declared.narrow.PoolKey.TheVariants as keys
use Rattle.cjc_check_proof.specs.NarrowProof.Tables.Arrays.{IsOnArray}
use Rattle.cjc_check_proof.specs.NarrowProof.Tables.Supported.{IsPlain, IsReturn}
use Rattle.cjc_frames.specs.Acts.{Subtype}
use Rattle.cjc_verify.specs.CapRead.declared.tree.ClassRef.{ClassRef}
use Rattle.cjc_verify.specs.CapRead.declared.tree.PoolEntry.{PoolEntry}
use Rattle.cjc_verify.specs.CapRead.declared.tree.PoolEntry.TheVariants as entries
use Rattle.cjc_verify.specs.CapRead.declared.tree.StaticRef.{StaticRef}
use Rattle.cjc_verify.specs.CardActs.CardTypes.{MemberType, ValueType, numbers_type, widths}
use Rattle.cjc_verify.specs.CardSemantics.Bytecode.Effects.{Letter}
use Rattle.cjc_verify.specs.CardSemantics.Bytecode.Effects as letters
use Rattle.cjc_verify.specs.ClassTypes.{array_type, class_type}
use Rattle.cjc_verify.specs.Components.Types.{array_nibble}
use Rattle.cjc_verify.specs.Instructions.{throwable}
use Rattle.cjc_verify.specs.Named.{entry_of, entry_type, holder_of, interface_type, names_abstract}
use Rattle.cjc_verify.specs.Named.{names_abstract_above, names_static, names_unmade}
use Rattle.cjc_verify.specs.Pairs.{Pair}
use Rattle.cjc_verify.specs.Script.Sorts.{Boolean, Byte, Element, Int, OfClass, OfNumbers, OfReferences, Short, Sort}
use Rattle.cjc_verify.specs.Script.Sorts.{field_sort, shape_named}
use Rattle.cjc_accepted_proof.specs.Elements.{ArraysAgree}
use Rattle.cjc_accepted_proof.specs.Frames.{AreFew, FieldFits, IsTypeFor, MethodFits, PassesFor, SubtypesAgree}
use Rattle.cjc_accepted_proof.specs.Members.{StaticFits}

-- the letter of the instructions that move values of a type
abbrev pub letter_of : Sort → Letter
letter_of Boolean = letters.Byte
letter_of Byte = letters.Byte
letter_of Short = letters.Short
letter_of Int = letters.Int
letter_of other = letters.Reference

module _ (p : Pair) (n : Naming) where
  -- the entry at the index of a key
  abbrev pub entry_for : PoolKey → Option PoolEntry
  entry_for key = entry_of p (n.index key)

  -- the type that Descriptor gives it
  abbrev pub type_for : PoolKey → MemberType
  type_for key = entry_type p (n.index key)

module _ (card_type : List ℕ → Option (List ℕ)) (is_of : Subtype) (w : List Class) (p : Pair) (n : Naming)
    (r : Resolution) where
  -- an instance field of the package, which has a value
  pub record FieldServed (f : MemberId) : Type 0 where
    pub class : ClassRef
    pub token : ℕ
    pub entry : entry_for p n (keys.Field (r.field f)) ≡ Some (entries.InstanceFieldref class token)
    pub fits : FieldFits card_type is_of w f (letter_of (field_sort f.desc)) class (let t = type_for p n (keys.Field
        (r.field f)) in t.result)
    pub is_value : (let d = parts f.desc in let v = d.result in is_void v.kind) ≡ false

  -- a static field of the package that is no constant
  pub record StaticServed (f : MemberId) : Type 0 where
    pub is_no_constant : r.constant f ≡ None
    pub field : StaticRef
    pub entry : entry_for p n (keys.StaticField (r.field f)) ≡ Some (entries.StaticFieldref field)
    pub fits : StaticFits card_type f (letter_of (field_sort f.desc)) field (let t = type_for p n (keys.StaticField
        (r.field f)) in t.result)
    pub is_value : (let d = parts f.desc in let v = d.result in is_void v.kind) ≡ false

  -- the class, or the class of the elements, of a type that a test names, or an array of numbers
  pub data TypeServed (name : List ℕ) : Type 0 where
    a_class : (c : List ℕ) (class : ClassRef) → shape_named name ≡ Some (OfClass c)
        → entry_for p n (keys.Class c) ≡ Some (entries.Classref class) → card_type name ≡ Some (class_type class)
        → TypeServed name
    numbers : (element : Element) → shape_named name ≡ Some (OfNumbers element)
        → card_type name ≡ Some (array_nibble element ∷ []) → TypeServed name
    references : (c : List ℕ) (class : ClassRef) → shape_named name ≡ Some (OfReferences c)
        → entry_for p n (keys.Class c) ≡ Some (entries.Classref class) → card_type name ≡ Some (array_type class)
        → TypeServed name

  module _ (b : Body) where
    -- A method that code of b calls: one that is sent by its token, one above the class that holds the code, a
    -- constructor or private method, a static one, or one of an interface. Its type is that of its descriptor, and what
    -- the class file calls it on is of the class that its entry names.
    pub data CallServed : (opcode : ℕ) → MemberId → Type 0 where
      sent : {m : MemberId} (class : ClassRef) (token : ℕ) → entry_for p n (r.virtual m)
          ≡ Some (entries.VirtualMethodref class token) → MethodFits card_type m (type_for p n (r.virtual m))
          → PassesFor card_type is_of w (receiver_class w b jvm.invokevirtual m) (class_type class)
          → CallServed jvm.invokevirtual m
      above : {m : MemberId} (class : ClassRef) (token : ℕ) → entry_for p n (r.special m)
          ≡ Some (entries.SuperMethodref class token) → names_abstract_above p class token ≡ false
          → MethodFits card_type m (type_for p n (r.special m))
          → PassesFor card_type is_of w (receiver_class w b jvm.invokespecial m) (class_type class)
          → CallServed jvm.invokespecial m
      fixed : {m : MemberId} (method : StaticRef) → entry_for p n (r.special m)
          ≡ Some (entries.StaticMethodref method) → (names_static p method || names_abstract p method) ≡ false
          → MethodFits card_type m (type_for p n (r.special m))
          → PassesFor card_type is_of w (receiver_class w b jvm.invokespecial m) (holder_of p method)
          → CallServed jvm.invokespecial m
      static : {m : MemberId} (method : StaticRef) → entry_for p n (r.static m)
          ≡ Some (entries.StaticMethodref method) → (not (names_static p method) || names_abstract p method) ≡ false
          → MethodFits card_type m (type_for p n (r.static m)) → CallServed jvm.invokestatic m
      by_interface : {m : MemberId} (class : ClassRef) (t : MemberType) → (let i = r.interface m in entry_for p n
          (keys.Class i.class)) ≡ Some (entries.Classref class)
          → interface_type p class (n.interface_token (r.interface m)) ≡ Some t → nargs_of m ≡ 1 + widths t.params
          → MethodFits card_type m t
          → PassesFor card_type is_of w (receiver_class w b jvm.invokeinterface m) (class_type class)
          → CallServed jvm.invokeinterface m

    -- An instruction of code of b.
    pub data IsServed : JOp → Type 0 where
      plain : {op : JOp} → IsPlain op → IsServed op
      on_array : {op : JOp} → IsOnArray op → IsServed op
      returns : {opcode : ℕ} → IsReturn opcode → IsServed (jop.Return opcode)
      throws : IsServed jop.Throw
      a_field : {f : MemberId} (put : Bool) → FieldServed f → IsServed (jop.Field put f)
      a_static : {f : MemberId} (put : Bool) → StaticServed f → IsServed (jop.Static put f)
      a_constant : {f : MemberId} (z : ℤ) → r.constant f ≡ Some z
          → (let d = parts f.desc in result_of d.result) ≡ Number ∷ [] → IsServed (jop.Static false f)
      a_call : {opcode : ℕ} {m : MemberId} → CallServed opcode m → IsServed (jop.Call opcode m)
      an_object : {c : List ℕ} (class : ClassRef) → entry_for p n (keys.Class c) ≡ Some (entries.Classref class)
          → card_type c ≡ Some (class_type class) → names_unmade p class ≡ false → IsServed (jop.New c)
      an_array : {c : List ℕ} (class : ClassRef) → entry_for p n (keys.Class c) ≡ Some (entries.Classref class)
          → card_type (array_of c) ≡ Some (array_type class) → IsServed (jop.ANewArray c)
      an_array_of_numbers : {number : ℕ} (type : List ℕ) → numbers_type (element_number number) ≡ Some type
          → card_type (91 ∷ letter number ∷ []) ≡ Some type → IsServed (jop.NewArray number)
      a_cast : {name : List ℕ} → TypeServed name → IsServed (jop.CheckCast name)
      a_test : {name : List ℕ} → TypeServed name → IsServed (jop.InstanceOf name)

    -- What holds in all code of b, in a method of the card with a result of this type.
    pub record IsServedIn (result : ValueType) : Type 0 where
      pub subtypes : SubtypesAgree card_type is_of w
      pub few : AreFew card_type
      pub arrays : ArraysAgree card_type
      pub returned : (let d = parts b.desc in let v = d.result in IsTypeFor card_type v.kind v.class result)
      pub exceptions : throwable p ≡ card_type throwable_by_name
