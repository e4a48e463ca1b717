-- What instructions name in int mode, as entries of the constant pool say it, and what a call hands over.
use Rattle.std.specs.Prelude.{◌≡◌, ℕ, ◌+◌, ◌||◌, not, true, false, List, [], ◌∷◌, ◌++◌, Option, Some, None}
use Rattle.std.specs.Prelude.{if◌then◌else◌}
use Rattle.std.specs.List.{list_any}
use Rattle.cjc_types.specs.Bytecode.Jvm as jvm
use Rattle.cjc_types.specs.Bytes.declared.fault.MemberId.{MemberId}
use Rattle.cjc_check_proof.specs.NCode.Lowering.Naming.{Naming}
use Rattle.cjc_check_proof.specs.NCode.Written.{Resolution, nargs_of}
use Rattle.cjc_check_proof.specs.NCode.declared.narrow.PoolKey.TheVariants as keys
use Rattle.cjc_ncode.specs.IntCode.IntCode.{Frame, is_by_scratch, scratch}
use Rattle.cjc_ncode.specs.IntCode.IntCode as intcode
use Rattle.cjc_frames.specs.declared.acts.Act.{Act}
use Rattle.cjc_frames.specs.declared.acts.Need.{Need}
use Rattle.cjc_frames.specs.declared.acts.Need.TheVariants.{OfType}
use Rattle.cjc_verify.specs.CapRead.declared.tree.ClassRef.{ClassRef}
use Rattle.cjc_verify.specs.CapRead.declared.tree.PoolEntry.TheVariants as entries
use Rattle.cjc_verify.specs.CapRead.declared.tree.StaticRef.{StaticRef}
use Rattle.cjc_verify.specs.CardActs.CardTypes.{MemberType, ValueType, is_moved_by, widths}
use Rattle.cjc_verify.specs.CardActs.CardTypes as types
use Rattle.cjc_verify.specs.CardActs.Rows.{calculating}
use Rattle.cjc_verify.specs.ClassTypes.{class_type}
use Rattle.cjc_verify.specs.Named.{holder_of, interface_type, is_outside, is_static_outside, names_abstract}
use Rattle.cjc_verify.specs.Named.{names_abstract_above, names_static}
use Rattle.cjc_verify.specs.Pairs.{Pair}
use Rattle.cjc_verify.specs.Script.Sorts.{Sort, field_sort}
use Rattle.cjc_verify.specs.Script.Sorts as sorts
use Rattle.cjc_accepted_proof.specs.Served.{entry_for, letter_of, type_for}
use Rattle.cjc_int_accepted.specs.Acts.{putting_aside, taking_back}

module _ (p : Pair) (n : Naming) (r : Resolution) where
  -- the types that Descriptor gives to an instance field and to a static one
  abbrev pub field_type : MemberId → ValueType
  field_type f = let t = type_for p n (keys.Field (r.field f)) in t.result

  abbrev pub static_type : MemberId → ValueType
  static_type f = let t = type_for p n (keys.StaticField (r.field f)) in t.result

  -- an instance field of the package: its entry, whose type the letter moves
  pub record FieldNamed (f : MemberId) (class : ClassRef) : Type 0 where
    pub token : ℕ
    pub entry : entry_for p n (keys.Field (r.field f)) ≡ Some (entries.InstanceFieldref class token)
    pub moved : is_moved_by (letter_of (field_sort f.desc)) (field_type f) ≡ true
    pub inside : is_outside class ≡ false

  -- a static field of the package that is no constant
  pub record StaticNamed (f : MemberId) : Type 0 where
    pub is_no_constant : r.constant f ≡ None
    pub field : StaticRef
    pub entry : entry_for p n (keys.StaticField (r.field f)) ≡ Some (entries.StaticFieldref field)
    pub moved : is_moved_by (letter_of (field_sort f.desc)) (static_type f) ≡ true
    pub inside : is_static_outside field ≡ false

  -- A method that a call names has this type and is called on this.
  pub data CallNamed : (opcode : ℕ) → MemberId → MemberType → (receiver : List Need) → Type 0 where
    sent : {m : MemberId} (class : ClassRef) (token : ℕ) → entry_for p n (r.virtual m)
        ≡ Some (entries.VirtualMethodref class token)
        → CallNamed jvm.invokevirtual m (type_for p n (r.virtual m)) (OfType (class_type class) ∷ [])
    above : {m : MemberId} (class : ClassRef) (token : ℕ) → entry_for p n (r.special m)
        ≡ Some (entries.SuperMethodref class token) → names_abstract_above p class token ≡ false
        → CallNamed jvm.invokespecial m (type_for p n (r.special m)) (OfType (class_type class) ∷ [])
    fixed : {m : MemberId} (method : StaticRef) → entry_for p n (r.special m)
        ≡ Some (entries.StaticMethodref method) → (names_static p method || names_abstract p method) ≡ false
        → CallNamed jvm.invokespecial m (type_for p n (r.special m)) (OfType (holder_of p method) ∷ [])
    static : {m : MemberId} (method : StaticRef) → entry_for p n (r.static m)
        ≡ Some (entries.StaticMethodref method) → (not (names_static p method) || names_abstract p method) ≡ false
        → CallNamed jvm.invokestatic m (type_for p n (r.static m)) []
    by_interface : {m : MemberId} (class : ClassRef) (t : MemberType) → (let i = r.interface m in entry_for p n
        (keys.Class i.class)) ≡ Some (entries.Classref class)
        → interface_type p class (n.interface_token (r.interface m)) ≡ Some t → nargs_of m ≡ 1 + widths t.params
        → CallNamed jvm.invokeinterface m t (OfType (class_type class) ∷ [])

-- ---- what is handed over

-- a type of a descriptor is this one of Descriptor
abbrev pub IsSortOf : Sort → ValueType → Type 0
IsSortOf sorts.Boolean types.Boolean = Unit {0}
IsSortOf sorts.Byte types.Byte = Unit {0}
IsSortOf sorts.Short types.Short = Unit {0}
IsSortOf sorts.Int types.Int = Unit {0}
IsSortOf (sorts.Reference shape) (types.Reference type) = Unit {0}
IsSortOf s t = ⊥

-- of several
abbrev pub AreSortsOf : List Sort → List ValueType → Type 0
AreSortsOf [] [] = Unit {0}
AreSortsOf (s ∷ ss) (t ∷ ts) = IsSortOf s t × AreSortsOf ss ts
AreSortsOf ss ts = ⊥

-- a result
abbrev pub IsResultOf : Option Sort → ValueType → Type 0
IsResultOf None types.Void = Unit {0}
IsResultOf (Some s) t = IsSortOf s t
IsResultOf result t = ⊥

-- how arguments are handed over: by scratch pairs, by a cut of the last, or as they are
abbrev pub handing : Frame → List Sort → List ValueType → List Act
handing f params ts = if is_by_scratch params then putting_aside (scratch f 0) ts ++ taking_back (scratch f 0) ts
    else (if list_any intcode.is_short params then calculating 2 1 ∷ [] else [])
