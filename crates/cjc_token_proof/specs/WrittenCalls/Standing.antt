-- Where the methods of a package stand, and what is asked of them so that they begin there.
use Rattle.std.specs.Prelude.{◌≡◌, ℕ, ◌+◌, ◌<◌, ◌≤◌, List, [], ◌∷◌, length, map, sum_by, slice_get, Option, Some, None}
use Rattle.std.specs.Prelude.{Bool, true, false, if◌then◌else◌}
use Rattle.cjc_bytes.specs.declared.fault.MemberId.{MemberId}
use Rattle.cjc_jvm_semantics.specs.Linked.{Method}
use Rattle.cjc_jvm_semantics.specs.OnePackage.{method_at}
use Rattle.cjc_token_proof.specs.Calls.Reaching.{is_in_method}
use Rattle.cjc_card_semantics.specs.Machine.Methods.{is_class_at}
use Rattle.cjc_components.specs.Methods.{first_method, method_offset, method_size, placed_at}
use Rattle.cjc_components.specs.Names.{class_ref}
use Rattle.cjc_components.specs.Package.{LaidMethod, Package, pool, world}
use Rattle.cjc_components.specs.Written.{added_words, is_abstract_at}
use Rattle.cjc_components.specs.LowerLayout.Handlers.{table_order}
use Rattle.cjc_ncode.specs.Lowering.Handlers.{AllLie}
use Rattle.cjc_ncode.specs.Lowering.Naming.{Naming}
use Rattle.cjc_ncode.specs.Lowering.Placed.{IsLaidOut, Placed}
use Rattle.cjc_components.specs.LowerNarrow.Rows.Package.{code_of, flags_of}
use Rattle.cjc_components.specs.LowerNarrow.Rows.Resolved.{argument_words, method_found}
use Rattle.cjc_components.specs.LowerNarrow.Rows.Selected.{near_fields}
use Rattle.cjc_ncode.specs.PoolOrder.{same_member}
use Rattle.cjc_ncode.specs.declared.narrow.NMethod.{NMethod}
use Rattle.cjc_world.specs.declared.found.Found.{Found}
use Rattle.cjc_world.specs.Classes.{Class, class_at}
use Rattle.cjc_world.specs.Files.{Files}
use Rattle.cjc_world.specs.Order.{in_order, method_order}
use Rattle.cjc_token_proof.specs.Tables.Loading.{naming, part}

-- ---- the narrow code of a method of a class file

-- it has this name
abbrev pub is_method_of : MemberId → Option Method → Bool
is_method_of id None = false
is_method_of id (Some m) = same_member m.id id

-- no instruction of any method is reached
abbrev pub no_rows : Method → List (Option ℕ)
no_rows m = []

-- What is written for a method: the first of its name among these; where none has it, as an initialiser, no
-- instruction.
abbrev pub laid_from : Files → (near : List MemberId) → List LaidMethod → Method → NMethod
laid_from files near [] x = code_of files near no_rows x
laid_from files near (m ∷ methods) x = if is_method_of x.id (method_at files m.member) then m.code
    else laid_from files near methods x

-- The narrow code that Method has of a method of a class file of the package, its handlers in the order of the class
-- file.
abbrev pub laid_code : Package → Method → NMethod
laid_code p x = laid_from p.files (near_fields (pool p)) p.methods x

-- ---- the place of a method of a class file

-- what stands where none is
abbrev pub no_method : Files → (near : List MemberId) → Method → LaidMethod
no_method files near x = record {
  member = record { imported = false; class = 0; member = 0 };
  is_abstract = true;
  code = code_of files near no_rows x;
  wide = [];
}

-- the first of its name among methods the first of which stands at this offset
abbrev pub place_from : Files → (near : List MemberId) → (offset : ℕ) → List LaidMethod → Method → Placed
place_from files near at [] x = placed_at at (no_method files near x)
place_from files near at (m ∷ methods) x =
    if is_method_of x.id (method_at files m.member) then placed_at at m else place_from files near (at + method_size m)
    methods x

-- where a method of a class file of the package stands
abbrev pub place : Package → Method → Placed
place p x = place_from p.files (near_fields (pool p)) (first_method p.methods) p.methods x

-- ---- what is asked of methods

-- A method can be laid out wherever it stands, with its handlers in its code; an abstract one needs no stack and no
-- locals of its own.
pub record IsReady (n : Naming) (m : LaidMethod) : Type 0 where
  pub laid_out : (offset : ℕ) → IsLaidOut n (placed_at offset m)
  pub handlers : (let code = m.code in AllLie n (length code.insns) (table_order code.catches))

-- so can all
abbrev pub AreReady : Package → Type 0
AreReady p = (k : ℕ) (m : LaidMethod) → slice_get p.methods k ≡ Some m → IsReady (naming p) m

-- the methods are those of the package in order, abstract where their class files say so
pub record AreMethods (p : Package) : Type 0 where
  pub members : map (λ m. m.member) p.methods ≡ method_order (world p)
  pub is_abstract : (k : ℕ) (m : LaidMethod) → slice_get p.methods k ≡ Some m
      → m.is_abstract ≡ is_abstract_at p.files m.member

-- The code of each method takes as many words of arguments as its flags and its descriptor say; so does a method that
-- its class got.
pub record TakeTheirWords (p : Package) : Type 0 where
  pub declared : (k : ℕ) (m : LaidMethod) → slice_get p.methods k ≡ Some m → (x : Method) → method_at p.files m.member
      ≡ Some x → (let code = m.code in code.nargs) ≡ (let id = x.id in argument_words (flags_of (method_found (world p)
      id)) id.desc)
  pub added : (k : ℕ) (m : LaidMethod) → slice_get p.methods k ≡ Some m → method_at p.files m.member ≡ None
      → (let code = m.code in code.nargs) ≡ (let f = m.member in added_words (world p) f (class_at (world p) f.imported
      f.class))

-- No two methods of class files have one class, name and descriptor.
abbrev pub HaveOwnIds : Package → Type 0
HaveOwnIds p =
    (f g : Found) (m k : Method) → is_in_method (world p) f ≡ true → is_in_method (world p) g ≡ true
    → method_at p.files f ≡ Some m → method_at p.files g ≡ Some k → same_member k.id m.id ≡ true → f ≡ g

-- The class_ref of each class is that of its info.
abbrev pub ClassesStand : Package → Type 0
ClassesStand p = (k : ℕ) (c : Class) → slice_get (in_order (world p) false) k ≡ Some c
    → is_class_at (part p) (class_ref p c.name) ≡ true

-- Each method stands before the last offset that two bytes can say.
abbrev pub FitsMethod : Package → Type 0
FitsMethod p = (f : Found) → method_offset p f < 0xFFFF

-- The bytes of Method, its handlers counted, are no more than 65,535.
abbrev pub IsSmall : Package → Type 0
IsSmall p = first_method p.methods + sum_by method_size p.methods ≤ 0xFFFF
