-- What the code of a package names, and what is promised of the class files that it is written for (Java Card Virtual
-- Machine Specification 2.2.2, chapter 7).
use Rattle.std.specs.Prelude.{◌≡◌, ℕ, List, [], ◌∷◌, flat_map, Option, Some, None, Bool, true, false, not, ◌==◌, ◌&&◌}
use Rattle.std.specs.Prelude.{if◌then◌else◌, slice_get}
use Rattle.std.specs.List.{list_any}
use Rattle.cjc_card_semantics.specs.Bytecode.Calculations.{Fault}
use Rattle.cjc_card_semantics.specs.Bytecode.Effects.{Call}
use Rattle.cjc_card_semantics.specs.Bytecode.Renaming.{Knows}
use Rattle.cjc_bytes.specs.AccessFlags.{is_interface}
use Rattle.cjc_bytes.specs.declared.fault.MemberId.{MemberId}
use Rattle.cjc_jvm_semantics.specs.Linked.{Method}
use Rattle.cjc_jvm_semantics.specs.OnePackage.{method_at}
use Rattle.cjc_token_proof.specs.ByToken.Cells.{Order, fields, is_one_of, letter}
use Rattle.cjc_token_proof.specs.ByToken.Classes.{tests}
use Rattle.cjc_token_proof.specs.ByToken.Supers.{HasShape, has_class}
use Rattle.cjc_card_semantics.specs.Machine.ByToken.{letter_of}
use Rattle.cjc_world_proof.specs.Bytecode.declared.insn.JInsn.{JInsn}
use Rattle.cjc_world_proof.specs.Bytecode.declared.insn.JOp.{JOp}
use Rattle.cjc_world_proof.specs.Bytecode.declared.insn.JOp.TheVariants as jop
use Rattle.cjc_components.specs.Package.{LaidMethod, Package, world}
use Rattle.cjc_ncode.specs.Lowering.Agreement.{Cells, KnownNames, known_by}
use Rattle.cjc_components.specs.LowerNarrow.Rows.Package.{fault_name}
use Rattle.cjc_components.specs.LowerNarrow.Rows.Resolved.{constant_named, resolution, resolved_field}
use Rattle.cjc_ncode.specs.ByLabel.{Callee, Fixed, OnInterface, OnObject, OnSuper, Resolved, operation}
use Rattle.cjc_ncode.specs.PoolOrder.{insn_keys, same_member}
use Rattle.cjc_ncode.specs.Written.{Resolution, written_as}
use Rattle.cjc_ncode.specs.declared.narrow.NInsn.{NInsn}
use Rattle.cjc_ncode.specs.declared.narrow.PairRole.{PairRole}
use Rattle.cjc_script.specs.Sorts.{Shape, field_sort, shape_named}
use Rattle.cjc_token_proof.specs.Tables.Known.{known_names, may_name, order_of}
use Rattle.cjc_world.specs.Classes.{Class, all_classes, class_named}
use Rattle.cjc_world.specs.Files.{Files}
use Rattle.cjc_token_proof.specs.WrittenCalls.Calls.{IsNamed, TakesWords}

-- ---- the calls of a package

-- what an operation calls
abbrev pub callee_in : Resolved → List Callee
callee_in (Call m) = m ∷ []
callee_in other = []

-- the calls that instructions make
abbrev pub calls_in : List NInsn → List Callee
calls_in insns = flat_map (λ i. callee_in (operation i)) insns

-- those of the methods of a package
abbrev pub calls_of : Package → List Callee
calls_of p = flat_map (λ (m : LaidMethod). let code = m.code in calls_in code.insns) p.methods

-- the same call
abbrev pub same_call : Callee → Callee → Bool
same_call (Fixed on m) (Fixed too k) = (if on then too else not too) && same_member m k
same_call (OnObject m) (OnObject k) = same_member m k
same_call (OnSuper m) (OnSuper k) = same_member m k
same_call (OnInterface words m) (OnInterface count k) = (words == count) && same_member m k
same_call m k = false

-- Code of the package makes this call.
abbrev pub is_called : Package → Callee → Bool
is_called p m = list_any (same_call m) (calls_of p)

-- ---- what is known while it runs

-- the names that code, objects and scripts of a package may have, and the calls that its code makes
abbrev pub known_tests : Package → KnownNames
known_tests p = tests (known_names (is_called p) p)

-- as the law of whole runs asks them
abbrev pub known : Package → Knows (List ℕ) MemberId MemberId Cells
known p = known_by (known_tests p)

-- ---- what is promised

-- Each call is one that the rules of names allow, and takes the words that they say.
abbrev pub CallsAreNamed : Package → Type 0
CallsAreNamed p =
    (k : ℕ) (m : Callee) → slice_get (calls_of p) k ≡ Some m → IsNamed (world p) m × TakesWords (world p) m

-- the class of a type is in some file
abbrev pub IsTypeThere : List Class → Option (Shape (List ℕ)) → Type 0
IsTypeThere w None = Unit {0}
IsTypeThere w (Some shape) = HasShape w shape

-- What an instruction of a class file names is there: a static field that is no constant has a cell and is of a type
-- that
-- values have, an instance field is one of the class in which it is found, and a class is in some file.
abbrev pub NamesWhatIsThere : Files → Order → JOp → Type 0
NamesWhatIsThere files cells (jop.Static put f) =
    constant_named files (all_classes files) f ≡ None
    → (is_one_of (resolved_field (all_classes files) f) (fields cells) ≡ true)
    × (letter_of (field_sort f.desc) ≡ Some (letter f))
NamesWhatIsThere files cells (jop.Field put f) = may_name (all_classes files) (resolved_field (all_classes files) f)
    ≡ true
NamesWhatIsThere files cells (jop.New class) = has_class (all_classes files) class ≡ true
NamesWhatIsThere files cells (jop.ANewArray class) = has_class (all_classes files) class ≡ true
NamesWhatIsThere files cells (jop.CheckCast class) = IsTypeThere (all_classes files) (shape_named class)
NamesWhatIsThere files cells (jop.InstanceOf class) = IsTypeThere (all_classes files) (shape_named class)
NamesWhatIsThere files cells _ = Unit {0}

-- So it is with all instructions of the methods that are written.
abbrev pub InstructionsNameWhatIsThere : Package → Type 0
InstructionsNameWhatIsThere p =
    (k : ℕ) (m : LaidMethod) → slice_get p.methods k ≡ Some m → (from : Method) → method_at p.files m.member ≡ Some from
    → (j : ℕ) (i : JInsn) → slice_get from.insns j ≡ Some i → NamesWhatIsThere p.files (order_of p.image) i.op

-- The exceptions of the machine's own are imported classes, and no interfaces.
abbrev pub FaultsAreClasses : List Class → Type 0
FaultsAreClasses w =
    (fault : Fault) (c : Class) → class_named w (fault_name fault) ≡ Some c → (c.is_imported ≡ true)
    × (is_interface c.flags ≡ false)

-- ---- code

-- An instruction names nothing, or it is one that is written outside int mode for one of these instructions of a class
-- file: in some role, and wherever its labels are.
pub data NamesAsWritten (r : Resolution) (insns : List JInsn) (i : NInsn) : Type 0 where
  no_key : insn_keys i ≡ [] → NamesAsWritten r insns i
  as_written : (k j : ℕ) (n : JInsn) (role : PairRole) (place : ℕ → ℕ) → slice_get insns k ≡ Some n
      → slice_get (written_as role r place n.op) j ≡ Some i → NamesAsWritten r insns i

-- So do all instructions of the methods of a package, each for those of its method in the class file, where these
-- instance fields have an index of one byte.
abbrev pub CodeNamesAsWritten : Package → (near : List MemberId) → Type 0
CodeNamesAsWritten p near =
    (k : ℕ) (m : LaidMethod) → slice_get p.methods k ≡ Some m → (j : ℕ) (i : NInsn)
    → (let code = m.code in slice_get code.insns j ≡ Some i) → (from : Method)
    × (method_at p.files m.member ≡ Some from)
    × NamesAsWritten (resolution p.files near (let id = from.id in id.class)) from.insns i
