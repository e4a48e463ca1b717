-- What an instruction of Method takes and gives, by its row and by what its entry of the constant pool names (Java Card
-- Virtual Machine Specification 2.2.2, chapter 7).
use Rattle.std.specs.Prelude.{ℕ, ◌+◌, ◌==◌, ◌||◌, not, Bool, true, false, List, [], ◌∷◌, ◌++◌, map, Option, Some}
use Rattle.std.specs.Prelude.{None, option_map, if◌then◌else◌, ℤ, pos, codes}
use Rattle.cjc_capread.specs.declared.tree.ClassRef.{ClassRef}
use Rattle.cjc_capread.specs.declared.tree.StaticRef.{StaticRef}
use Rattle.cjc_capread.specs.declared.tree.PoolEntry.{PoolEntry}
use Rattle.cjc_capread.specs.declared.tree.PoolEntry.TheVariants.{Classref, InstanceFieldref}
use Rattle.cjc_capread.specs.declared.tree.PoolEntry.TheVariants.{VirtualMethodref, SuperMethodref}
use Rattle.cjc_capread.specs.declared.tree.PoolEntry.TheVariants.{StaticFieldref, StaticMethodref}
use Rattle.cjc_capread.specs.Decode.{Instruction}
use Rattle.cjc_check_rules.specs.Spots.{Placed}
use Rattle.cjc_check_rules.specs.Instructions.{jumps}
use Rattle.cjc_card_acts.specs.CardSemantics.Bytecode.Effects.{Letter}
use Rattle.cjc_card_acts.specs.CardSemantics.Bytecode.Meanings.{Use, Gets, Puts, GetsStatic, PutsStatic, Calls, Makes}
use Rattle.cjc_card_acts.specs.CardSemantics.Bytecode.Meanings.{MakesReferences, Virtual, Special, Static}
use Rattle.cjc_card_acts.specs.CardSemantics.Machine.Classes.{external_named}
use Rattle.cjc_card_acts.specs.CardSemantics.Machine.Operations.{moved}
use Rattle.cjc_classes.specs.LowerComponents.Names.{ref_to}
use Rattle.cjc_card_acts.specs.LowerFrames.declared.acts.Need.{Need}
use Rattle.cjc_card_acts.specs.LowerFrames.declared.acts.Need.TheVariants.{NumberWord, ReferenceWord, OfType, OfArrays}
use Rattle.cjc_card_acts.specs.LowerFrames.declared.acts.Given.TheVariants.{ANumber, AnObject, Lost}
use Rattle.cjc_card_acts.specs.LowerFrames.declared.acts.Read.{Read}
use Rattle.cjc_card_acts.specs.LowerFrames.declared.acts.Act.{Act}
use Rattle.cjc_card_acts.specs.CardTypes.{ValueType, MemberType, words, widths, needs_of, needs_of_all, is_moved_by}
use Rattle.cjc_card_acts.specs.CardTypes.{is_returned_by, numbers_type, all_arrays}
use Rattle.cjc_verify.specs.ClassTypes.{class_type, array_type}
use Rattle.cjc_card_acts.specs.Rows.{Row, Pushes, Loads, Stores, Increases, Pops, Copies, CopiesBelow, Swaps}
use Rattle.cjc_card_acts.specs.Rows.{Calculates}
use Rattle.cjc_card_acts.specs.Rows.{LoadsItem, StoresItem, CountsItems, Throws, Jumps, Switches, Returns, Uses}
use Rattle.cjc_card_acts.specs.Rows.{CallsInterface, MakesNumbers, Casts, Asks, Forbidden, row, any_words, number_words}
use Rattle.cjc_card_acts.specs.Rows.{idle, pushing, reading, loading, storing, increasing, with_local, copying}
use Rattle.cjc_card_acts.specs.Rows.{copying_below}
use Rattle.cjc_card_acts.specs.Rows.{swapping_by, with_number, unknown, calculating, loading_item, storing_item}
use Rattle.cjc_card_acts.specs.Rows.{letter_needs}
use Rattle.cjc_verify.specs.Pairs.{Pair}
use Rattle.cjc_verify.specs.Named.{entry_of, entry_type, names_static, names_abstract, names_abstract_above, holder_of}
use Rattle.cjc_verify.specs.Named.{names_unmade, is_outside, is_static_outside, interface_type}

-- ---- fields

-- the object lies beneath the value, or local 0 holds it
abbrev pub object_needs : (this : Bool) → (type : List ℕ) → List Need
object_needs true type = []
object_needs false type = OfType type ∷ []

-- local 0, where it holds the object
abbrev pub object_reads : (this : Bool) → (type : List ℕ) → List Read
object_reads true type = reading 0 (OfType type) ∷ []
object_reads false type = []

-- an instance field is read; no field of an imported class may be
abbrev pub getting : (this : Bool) → Letter → ClassRef → ValueType → Act
getting this letter class t = record idle {
  takes = object_needs this (class_type class);
  reads = object_reads this (class_type class);
  gives = words t;
  misfits = not (is_moved_by letter t);
  misnames = is_outside class;
}

-- an instance field is written
abbrev pub putting : (this : Bool) → Letter → ClassRef → ValueType → Act
putting this letter class t = record idle {
  takes = needs_of t ++ object_needs this (class_type class);
  reads = object_reads this (class_type class);
  misfits = not (is_moved_by letter t);
  misnames = is_outside class;
}

-- a static field is read
abbrev pub getting_static : Letter → StaticRef → ValueType → Act
getting_static letter field t = record idle {
  gives = words t;
  misfits = not (is_moved_by letter t);
  misnames = is_static_outside field;
}

-- a static field is written
abbrev pub putting_static : Letter → StaticRef → ValueType → Act
putting_static letter field t = record idle {
  takes = needs_of t;
  misfits = not (is_moved_by letter t);
  misnames = is_static_outside field;
}

-- ---- calls

-- the arguments are taken, with the receiver deepest, and the result is put
abbrev pub calling : MemberType → (receiver : List Need) → (misnames : Bool) → Act
calling t receiver misnames = record idle {
  takes = needs_of_all t.params ++ receiver;
  gives = words t.result;
  misnames = misnames;
}

-- the receiver is of a type
abbrev pub calling_on : MemberType → (type : List ℕ) → (misnames : Bool) → Act
calling_on t type misnames = calling t (OfType type ∷ []) misnames

-- ---- what an entry of the constant pool names

-- By how it is used. An entry of another kind says nothing.
abbrev pub using : Pair → Use → MemberType → PoolEntry → Act
using p (Gets this letter) t (InstanceFieldref class token) = getting this letter class t.result
using p (Puts this letter) t (InstanceFieldref class token) = putting this letter class t.result
using p (GetsStatic letter) t (StaticFieldref field) = getting_static letter field t.result
using p (PutsStatic letter) t (StaticFieldref field) = putting_static letter field t.result
using p (Calls Virtual) t (VirtualMethodref class token) = calling_on t (class_type class) false
using p (Calls Special) t (SuperMethodref class token) = calling_on t (class_type class)
    (names_abstract_above p class token)
using p (Calls Special) t (StaticMethodref method) = calling_on t (holder_of p method) (names_static p method
    || names_abstract p method)
using p (Calls Static) t (StaticMethodref method) = calling t [] (not (names_static p method) || names_abstract p
    method)
using p Makes t (Classref class) = record idle {
  gives = AnObject (class_type class) ∷ [];
  misnames = names_unmade p class;
}
using p MakesReferences t (Classref class) = record idle {
  takes = NumberWord ∷ [];
  gives = AnObject (array_type class) ∷ [];
}
using p how t item = idle

-- where there is an entry
abbrev pub using_some : Pair → Use → MemberType → Option PoolEntry → Act
using_some p how t None = idle
using_some p how t (Some item) = using p how t item

-- by its index
abbrev pub using_entry : Pair → Use → List ℤ → Act
using_entry p how (pos k ∷ operands) = using_some p how (entry_type p k) (entry_of p k)
using_entry p how operands = idle

-- the class of an entry
abbrev pub class_in : Option PoolEntry → Option ClassRef
class_in (Some (Classref class)) = Some class
class_in item = None

-- ---- calls of interfaces

-- a method that is not there hands nothing on
abbrev pub calling_interface : (type : List ℕ) → (nargs : ℕ) → Option MemberType → Act
calling_interface type nargs None = record idle { ends = true; misnames = true }
calling_interface type nargs (Some t) = calling_on t type (not (nargs == 1 + widths t.params))

-- by the class and the token
abbrev pub calling_through : Pair → (nargs token : ℕ) → Option ClassRef → Act
calling_through p nargs token None = record idle { ends = true; misnames = true }
calling_through p nargs token (Some class) = calling_interface (class_type class) nargs (interface_type p class token)

-- invokeinterface: the words of the arguments with the receiver, the entry, the token
abbrev pub by_interface : Pair → List ℤ → Act
by_interface p (pos nargs ∷ pos k ∷ pos token ∷ []) = calling_through p nargs token (class_in (entry_of p k))
by_interface p operands = idle

-- ---- arrays and type tests

-- newarray, where the number is that of a type
abbrev pub making_numbers : Option (List ℕ) → Act
making_numbers None = record unknown { takes = NumberWord ∷ []; gives = Lost ∷ [] }
making_numbers (Some type) = record idle { takes = NumberWord ∷ []; gives = AnObject type ∷ [] }

-- the type that checkcast and instanceof name: 0 for a class, 14 for an array of references to it, else an array of
-- numbers
abbrev pub tested_type : (number : ℕ) → Option ClassRef → Option (List ℕ)
tested_type number class =
    if number == 0 then option_map class_type class else (if number == 14 then option_map array_type class
    else numbers_type number)

-- checkcast
abbrev pub casting : Option (List ℕ) → Act
casting None = record unknown { takes = ReferenceWord ∷ []; gives = Lost ∷ [] }
casting (Some type) = record idle { takes = ReferenceWord ∷ []; gives = AnObject type ∷ [] }

-- instanceof
abbrev pub asking : Option (List ℕ) → Act
asking None = record unknown { takes = ReferenceWord ∷ []; gives = ANumber ∷ [] }
asking (Some type) = record idle { takes = ReferenceWord ∷ []; gives = ANumber ∷ [] }

-- by the type's number and the entry
abbrev pub testing : Pair → (Option (List ℕ) → Act) → List ℤ → Act
testing p act (pos number ∷ pos k ∷ operands) = act (tested_type number (class_in (entry_of p k)))
testing p act operands = act None

-- ---- where it goes

-- the offsets to which an instruction may jump, and whether the next one may follow
abbrev pub jumping : Placed Instruction → List Need → (falls : Bool) → Act
jumping i needs falls = record idle { takes = needs; falls = falls; targets = map (moved i.at) (jumps i.item) }

-- nothing follows
abbrev pub last : List Need → Act
last needs = record idle { takes = needs; falls = false }

-- the type of all exceptions, which an imported class is
abbrev pub throwable : Pair → Option (List ℕ)
throwable p = option_map (λ class. class_type (ref_to class)) (external_named p.loaded (codes "java/lang/Throwable"))

-- an exception
abbrev pub exception_needs : Option (List ℕ) → List Need
exception_needs None = ReferenceWord ∷ []
exception_needs (Some type) = OfType type ∷ []

-- what a letter returns
abbrev pub result_needs : Option Letter → List Need
result_needs None = []
result_needs (Some letter) = letter_needs letter

-- a return: where it is that of the method's result, of a value of that type
abbrev pub returning : Option Letter → ValueType → Act
returning letter t = record idle {
  takes = if is_returned_by letter t then needs_of t else result_needs letter;
  falls = false;
  misfits = not (is_returned_by letter t);
}

-- ---- by the row

-- An instruction of a method with this result.
abbrev pub act_by : Pair → (result : ValueType) → Placed Instruction → Row → Act
act_by p result i (Pushes words) = pushing words
act_by p result i (Loads letter local) = with_local (loading letter) local i.item.operands
act_by p result i (Stores letter local) = with_local (storing letter) local i.item.operands
act_by p result i (Increases letter) = with_local (increasing letter) None i.item.operands
act_by p result i (Pops n) = record idle { takes = any_words n }
act_by p result i (Copies n) = copying n n
act_by p result i CopiesBelow = with_number copying_below i.item.operands
act_by p result i Swaps = with_number swapping_by i.item.operands
act_by p result i (Calculates m n) = calculating m n
act_by p result i (LoadsItem letter) = loading_item letter
act_by p result i (StoresItem letter) = storing_item letter
act_by p result i CountsItems = record idle { takes = OfArrays all_arrays ∷ []; gives = ANumber ∷ [] }
act_by p result i Throws = last (exception_needs (throwable p))
act_by p result i (Jumps needs falls) = jumping i needs falls
act_by p result i (Switches n) = jumping i (number_words n) false
act_by p result i (Returns letter) = returning letter result
act_by p result i (Uses how) = using_entry p how i.item.operands
act_by p result i CallsInterface = by_interface p i.item.operands
act_by p result i MakesNumbers = with_number (λ n. making_numbers (numbers_type n)) i.item.operands
act_by p result i Casts = testing p casting i.item.operands
act_by p result i Asks = testing p asking i.item.operands
act_by p result i Forbidden = record unknown { falls = false }

-- What an instruction of a method with this result takes and gives.
abbrev pub act : Pair → (result : ValueType) → Placed Instruction → Act
act p result i = act_by p result i (row i.item.opcode)
