-- The acts of what is written for jumps, for instructions on arrays, and for those that name entries of the constant
-- pool, as they are laid.
use Rattle.std.proofs.Common.{◌≡◌, ℕ, ◌+◌, refl, ap, ◌∙◌, Bool, true, false, List, [], ◌∷◌, map, Option, Some, None, ℤ}
use Rattle.std.specs.Prelude.{if◌then◌else◌}
use Rattle.cjc_types.specs.Bytecode.Jvm as jvm
use Rattle.cjc_types.specs.Bytes.declared.fault.MemberId.{MemberId}
use Rattle.cjc_check_proof.specs.CapRead.Opcodes.{form, forms}
use Rattle.cjc_check_proof.specs.CheckRules.Instructions.{pair_offsets}
use Rattle.cjc_check_proof.specs.NCode.Lowering.Laid.{distance, matches, offsets}
use Rattle.cjc_check_proof.specs.NCode.Lowering.Naming.{Naming}
use Rattle.cjc_check_proof.specs.NCode.Written.{array_load, array_store, field_access, leaving, static_access}
use Rattle.cjc_check_proof.specs.NCode.declared.narrow.NCase.{NCase}
use Rattle.cjc_check_proof.specs.NCode.declared.narrow.NInsn.{NInsn}
use Rattle.cjc_check_proof.specs.NCode.declared.narrow.NInsn.TheVariants.{Interface, Jump, Named, NewArray, Op, Switch}
use Rattle.cjc_check_proof.specs.NCode.declared.narrow.NInsn.TheVariants.{TypeTest}
use Rattle.cjc_check_proof.specs.NCode.declared.narrow.PoolKey.{PoolKey}
use Rattle.cjc_check_proof.specs.NCode.declared.narrow.PoolKey.TheVariants as keys
use Rattle.cjc_frames.specs.declared.acts.Act.{Act}
use Rattle.cjc_frames.specs.declared.acts.Given.TheVariants.{ANumber}
use Rattle.cjc_frames.specs.declared.acts.Need.{Need}
use Rattle.cjc_frames.specs.declared.acts.Need.TheVariants.{OfArrays}
use Rattle.cjc_verify.specs.CapRead.declared.tree.ClassRef.{ClassRef}
use Rattle.cjc_verify.specs.CardActs.CardTypes.{ValueType, all_arrays, numbers_type}
use Rattle.cjc_verify.specs.CardActs.Rows.{any_words, idle, loading_item, number_words, row, storing_item}
use Rattle.cjc_verify.specs.CardSemantics.Bytecode.Effects as letters
use Rattle.cjc_verify.specs.CardSemantics.Bytecode.Meanings.{Calls, Gets, GetsStatic, Makes, MakesReferences, Puts}
use Rattle.cjc_verify.specs.CardSemantics.Bytecode.Meanings.{PutsStatic, Special, Static, Use, Virtual, meaning}
use Rattle.cjc_verify.specs.CardSemantics.Machine.Operations.{moved}
use Rattle.cjc_verify.specs.Instructions.{asking, calling_through, casting, class_in, exception_needs, last}
use Rattle.cjc_verify.specs.Instructions.{making_numbers, returning, tested_type, throwable, using_some}
use Rattle.cjc_verify.specs.Named.{entry_of, entry_type}
use Rattle.cjc_verify.specs.Pairs.{Pair}
use Rattle.cjc_verify.specs.Script.Sorts.{Boolean, Byte, Int, NoValue, Reference, Short, Sort}
use Rattle.cjc_accepted_proof.specs.Members.{letter_of_return}
use Rattle.cjc_accepted_proof.specs.Plain.{act_laid, tested_words}
use Rattle.cjc_accepted_proof.specs.Served.{letter_of}

module _ (p : Pair) (result : ValueType) (n : Naming) (to : ℕ → ℕ) (at : ℕ) where
  -- the offset of a label
  abbrev pub far : (label : ℕ) → ℕ
  far label = moved at (distance at (to label))

  -- ---- jumps, in both forms

  -- what a jump on a condition is
  abbrev pub IsBranch : (op : ℕ) → (two references : Bool) → Type 0
  IsBranch op two references = (wide : Bool) (label : ℕ) → act_laid p result n to at wide (Jump op label) ≡ record
      idle {
        takes = tested_words two references;
        falls = true;
        targets = far label ∷ [];
      }

  pub ifeq_act : IsBranch 0x60 false false
  unfolding row
  ifeq_act true label = refl
  ifeq_act false label = refl

  pub ifne_act : IsBranch 0x61 false false
  unfolding row
  ifne_act true label = refl
  ifne_act false label = refl

  pub iflt_act : IsBranch 0x62 false false
  unfolding row
  iflt_act true label = refl
  iflt_act false label = refl

  pub ifge_act : IsBranch 0x63 false false
  unfolding row
  ifge_act true label = refl
  ifge_act false label = refl

  pub ifgt_act : IsBranch 0x64 false false
  unfolding row
  ifgt_act true label = refl
  ifgt_act false label = refl

  pub ifle_act : IsBranch 0x65 false false
  unfolding row
  ifle_act true label = refl
  ifle_act false label = refl

  pub ifnull_act : IsBranch 0x66 false true
  unfolding row
  ifnull_act true label = refl
  ifnull_act false label = refl

  pub ifnonnull_act : IsBranch 0x67 false true
  unfolding row
  ifnonnull_act true label = refl
  ifnonnull_act false label = refl

  pub if_acmpeq_act : IsBranch 0x68 true true
  unfolding row
  if_acmpeq_act true label = refl
  if_acmpeq_act false label = refl

  pub if_acmpne_act : IsBranch 0x69 true true
  unfolding row
  if_acmpne_act true label = refl
  if_acmpne_act false label = refl

  pub if_scmpeq_act : IsBranch 0x6A true false
  unfolding row
  if_scmpeq_act true label = refl
  if_scmpeq_act false label = refl

  pub if_scmpne_act : IsBranch 0x6B true false
  unfolding row
  if_scmpne_act true label = refl
  if_scmpne_act false label = refl

  pub if_scmplt_act : IsBranch 0x6C true false
  unfolding row
  if_scmplt_act true label = refl
  if_scmplt_act false label = refl

  pub if_scmpge_act : IsBranch 0x6D true false
  unfolding row
  if_scmpge_act true label = refl
  if_scmpge_act false label = refl

  pub if_scmpgt_act : IsBranch 0x6E true false
  unfolding row
  if_scmpgt_act true label = refl
  if_scmpgt_act false label = refl

  pub if_scmple_act : IsBranch 0x6F true false
  unfolding row
  if_scmple_act true label = refl
  if_scmple_act false label = refl

  pub goto_act : (wide : Bool) (label : ℕ) → act_laid p result n to at wide (Jump 0x70 label) ≡ record idle {
    takes = [];
    falls = false;
    targets = far label ∷ [];
  }
  unfolding row
  goto_act true label = refl
  goto_act false label = refl

  module _ (wide : Bool) where
    abbrev acted : NInsn → Act
    acted insn = act_laid p result n to at wide insn

    -- ---- switches

    pub table_act : (other : ℕ) (low : ℤ) (cases : List NCase) → acted (Switch 0x73 other low cases) ≡ record idle {
      takes = number_words 1;
      falls = false;
      targets = far other ∷ map (moved at) (offsets n to at cases);
    }
    unfolding row meaning form forms
    table_act other low cases = refl

    pub lookup_act : (other : ℕ) (low : ℤ) (cases : List NCase) → acted (Switch 0x75 other low cases) ≡ record idle {
      takes = number_words 1;
      falls = false;
      targets = far other ∷ map (moved at) (pair_offsets (matches n to at cases));
    }
    unfolding row meaning form forms
    lookup_act other low cases = refl

    pub popping_act : acted (Op 0x3B) ≡ record idle { takes = any_words 1 }
    unfolding row
    popping_act = refl

    -- ---- arrays

    pub length_act : acted (Op 0x92) ≡ record idle { takes = OfArrays all_arrays ∷ []; gives = ANumber ∷ [] }
    unfolding row
    length_act = refl

    pub reference_item_act : acted (Op (array_load jvm.aaload)) ≡ loading_item letters.Reference
    unfolding row
    reference_item_act = refl

    pub byte_item_act : acted (Op (array_load jvm.baload)) ≡ loading_item letters.Byte
    unfolding row
    byte_item_act = refl

    pub short_item_act : acted (Op (array_load jvm.saload)) ≡ loading_item letters.Short
    unfolding row
    short_item_act = refl

    pub reference_store_act : acted (Op (array_store jvm.aastore)) ≡ storing_item letters.Reference
    unfolding row
    reference_store_act = refl

    pub byte_store_act : acted (Op (array_store jvm.bastore)) ≡ storing_item letters.Byte
    unfolding row
    byte_store_act = refl

    pub short_store_act : acted (Op (array_store jvm.sastore)) ≡ storing_item letters.Short
    unfolding row
    short_store_act = refl

    pub making_act : (kind : ℕ) → acted (NewArray kind) ≡ making_numbers (numbers_type kind)
    unfolding row
    making_act kind = refl

    -- ---- returns and throws

    pub ireturn_act : acted (Op (leaving jvm.ireturn)) ≡ returning (letter_of_return jvm.ireturn) result
    unfolding row
    ireturn_act = refl

    pub areturn_act : acted (Op (leaving jvm.areturn)) ≡ returning (letter_of_return jvm.areturn) result
    unfolding row
    areturn_act = refl

    pub return_act : acted (Op (leaving jvm.return)) ≡ returning (letter_of_return jvm.return) result
    unfolding row
    return_act = refl

    pub throw_act : acted (Op 0x93) ≡ last (exception_needs (throwable p))
    unfolding row
    throw_act = refl

    -- ---- entries of the constant pool

    -- what the entry of a key is used for
    abbrev pub used : Use → PoolKey → Act
    used how key = using_some p how (entry_type p (n.index key)) (entry_of p (n.index key))

    pub get_act : (near : Bool) (s : Sort) (key : PoolKey) → acted (Named (field_access false near s) key)
        ≡ used (Gets false (letter_of s)) key
    unfolding row
    get_act true Boolean key = refl
    get_act true Byte key = refl
    get_act true Short key = refl
    get_act true Int key = refl
    get_act true (Reference shape) key = refl
    get_act true NoValue key = refl
    get_act false Boolean key = refl
    get_act false Byte key = refl
    get_act false Short key = refl
    get_act false Int key = refl
    get_act false (Reference shape) key = refl
    get_act false NoValue key = refl

    pub put_act : (near : Bool) (s : Sort) (key : PoolKey) → acted (Named (field_access true near s) key)
        ≡ used (Puts false (letter_of s)) key
    unfolding row
    put_act true Boolean key = refl
    put_act true Byte key = refl
    put_act true Short key = refl
    put_act true Int key = refl
    put_act true (Reference shape) key = refl
    put_act true NoValue key = refl
    put_act false Boolean key = refl
    put_act false Byte key = refl
    put_act false Short key = refl
    put_act false Int key = refl
    put_act false (Reference shape) key = refl
    put_act false NoValue key = refl

    pub get_static_act : (s : Sort) (key : PoolKey) → acted (Named (static_access false s) key)
        ≡ used (GetsStatic (letter_of s)) key
    unfolding row
    get_static_act Boolean key = refl
    get_static_act Byte key = refl
    get_static_act Short key = refl
    get_static_act Int key = refl
    get_static_act (Reference shape) key = refl
    get_static_act NoValue key = refl

    pub put_static_act : (s : Sort) (key : PoolKey) → acted (Named (static_access true s) key)
        ≡ used (PutsStatic (letter_of s)) key
    unfolding row
    put_static_act Boolean key = refl
    put_static_act Byte key = refl
    put_static_act Short key = refl
    put_static_act Int key = refl
    put_static_act (Reference shape) key = refl
    put_static_act NoValue key = refl

    pub virtual_act : (key : PoolKey) → acted (Named 0x8B key) ≡ used (Calls Virtual) key
    unfolding row
    virtual_act key = refl

    pub special_act : (key : PoolKey) → acted (Named 0x8C key) ≡ used (Calls Special) key
    unfolding row
    special_act key = refl

    pub static_act : (key : PoolKey) → acted (Named 0x8D key) ≡ used (Calls Static) key
    unfolding row
    static_act key = refl

    pub new_act : (key : PoolKey) → acted (Named 0x8F key) ≡ used Makes key
    unfolding row
    new_act key = refl

    pub references_act : (key : PoolKey) → acted (Named 0x91 key) ≡ used MakesReferences key
    unfolding row
    references_act key = refl

    pub interface_act : (nargs : ℕ) (m : MemberId) → acted (Interface nargs m) ≡ calling_through p nargs
        (n.interface_token m) (class_in (entry_of p (n.index (keys.Class m.class))))
    unfolding row
    interface_act nargs m = refl

    -- ---- tests of types

    -- the class of a key
    abbrev pub class_there : (c : List ℕ) → Option ClassRef
    class_there c = class_in (entry_of p (n.index (keys.Class c)))

    pub cast_act : (kind : ℕ) (c : List ℕ) → acted (TypeTest 0x94 kind (Some c)) ≡ casting (tested_type kind
        (class_there c))
    unfolding row
    cast_act kind c = refl

    pub cast_numbers_act : (kind : ℕ) → acted (TypeTest 0x94 kind None) ≡ casting (tested_type kind (class_in (entry_of
        p 0)))
    unfolding row
    cast_numbers_act kind = refl

    pub test_act : (kind : ℕ) (c : List ℕ) → acted (TypeTest 0x95 kind (Some c)) ≡ asking (tested_type kind (class_there
        c))
    unfolding row
    test_act kind c = refl

    pub test_numbers_act : (kind : ℕ) → acted (TypeTest 0x95 kind None) ≡ asking (tested_type kind (class_in (entry_of p
        0)))
    unfolding row
    test_numbers_act kind = refl
