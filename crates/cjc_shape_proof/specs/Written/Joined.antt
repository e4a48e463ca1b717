-- What joins a package's narrow code to its components: the code of its methods where they stand, and what is asked
-- of calls, operations and objects.
use Rattle.std.specs.Prelude.{◌≡◌, ℕ, List, [], Bool, true, Some, slice_get}
use Rattle.cjc_bytes.specs.declared.fault.MemberId.{MemberId}
use Rattle.cjc_narrow_proof.specs.CardSemantics.Bytecode.Alike.{KnownThing, start_as}
use Rattle.cjc_narrow_proof.specs.CardSemantics.Bytecode.Renaming.{KnownOperation, option_as, shape_as}
use Rattle.cjc_classes.specs.JvmSemantics.Linked.{Method}
use Rattle.cjc_check_proof.specs.TokenProof.ByToken.Cells.{are_cells}
use Rattle.cjc_check_proof.specs.TokenProof.ByToken.Classes.{memories, tests}
use Rattle.cjc_check_proof.specs.TokenProof.Calls.Reaching as reaching
use Rattle.cjc_narrow_proof.specs.CardSemantics.Machine.Calls
use Rattle.cjc_components.specs.Methods.{placed_methods}
use Rattle.cjc_components.specs.Package.{LaidMethod, Package, world}
use Rattle.cjc_narrow_proof.specs.NCode.Lowering.Agreement.{IsAmong, IsKnownCall, known_by, names}
use Rattle.cjc_narrow_proof.specs.NCode.Lowering.Handlers.{Catches}
use Rattle.cjc_narrow_proof.specs.NCode.Lowering.Naming.{callee}
use Rattle.cjc_narrow_proof.specs.NCode.Lowering.Placed.{Placed, code_of, offset_of}
use Rattle.cjc_classes.specs.Narrow.Rows.Package.{first_memory, words}
use Rattle.cjc_narrow_proof.specs.NCode.ByLabel.{Callee, operation}
use Rattle.cjc_narrow_proof.specs.NCode.declared.narrow.NCatch.{NCatch}
use Rattle.cjc_narrow_proof.specs.NCode.declared.narrow.NInsn.{NInsn}
use Rattle.cjc_narrow_proof.specs.NCode.declared.narrow.NMethod.{NMethod}
use Rattle.cjc_narrow_proof.specs.Script.Sorts.{Shape, shape_name}
use Rattle.cjc_narrow_proof.specs.Selected.Names.{NamesFit}
use Rattle.cjc_check_proof.specs.TokenProof.Tables.Known.{known_names, statics_of}
use Rattle.cjc_check_proof.specs.TokenProof.Tables.Loading.{naming}
use Rattle.cjc_check_proof.specs.TokenProof.Tables.Sound.{AreTyped, IsSound}
use Rattle.cjc_check_proof.specs.TokenProof.WrittenCalls.Calls.{ExportsKeep, IsNamed, KeepsSubtypes, KeepsTokens}
use Rattle.cjc_check_proof.specs.TokenProof.WrittenCalls.Calls.{NoStaticMethods, Receives}
use Rattle.cjc_check_proof.specs.TokenProof.WrittenCalls.Standing.{AreMethods, AreReady, IsSmall, place}
use Rattle.cjc_check_proof.specs.WorldProof.Initialisers.Values.{StandOnce}
use Rattle.cjc_classes.specs.Clinit.Image.{IsImage}
use Rattle.cjc_classes.specs.Layout.Refusals.{overtaking}
use Rattle.cjc_components.specs.Bytecode.PackageCodes.{all_codes}
use Rattle.cjc_vtable.specs.Kept.{Keeps}
use Rattle.cjc_world.specs.Lookup.{object}
use Rattle.cjc_world.specs.Subtype.{is_subtype}

-- What the instructions and the handlers of its methods name stands in its pool, and means what they use.
pub record NamesAreThere (p : Package) : Type 0 where
  pub names : (k : ℕ) (m : LaidMethod) → slice_get p.methods k ≡ Some m → (j : ℕ) (insn : NInsn)
      → (let code = m.code in slice_get code.insns j ≡ Some insn) → NamesFit (naming p) insn
  pub catches : (k : ℕ) (m : LaidMethod) → slice_get p.methods k ≡ Some m → (j : ℕ) (c : NCatch)
      → (let code = m.code in slice_get code.catches j ≡ Some c) → Catches (naming p) c.class

-- the narrow code of a method where it stands in Method, its handlers in the order of the table
abbrev pub placed_code : Package → Method → NMethod
placed_code p m = let at = place p m in at.method

module _ (p : Package) (call : Callee → Bool) where
  -- a type of which there is an array or an object with names of the package
  abbrev pub IsThing : Shape (List ℕ) → Type 0
  IsThing = KnownThing (names (naming p) (memories (naming p) (known_names call p)))
      (known_by (tests (known_names call p))) (IsAmong (placed_methods p)) (IsKnownCall (tests (known_names call p)))

  -- What is asked of a package of which these calls are known: its static fields hold at first what is of their
  -- types; what its code names stands in its pool and is known; calls name what calls can name, and take as many
  -- words by token as by name; objects are of classes that have objects, and are sent the same methods.
  pub record IsJoined : Type 0 where
    pub there : NamesAreThere p
    pub exports : ExportsKeep p
    pub cells : are_cells (statics_of (let files = p.files in files.classes)) (let memory = first_memory p.files p.image
        in memory.statics) ≡ true
    pub operations : (m : Placed) (k : ℕ) (insn : NInsn) → IsAmong (placed_methods p) m
        → (let code = m.method in slice_get code.insns k ≡ Some insn)
        → KnownOperation (known_by (tests (known_names call p))) (IsKnownCall (tests (known_names call p)))
        (operation insn)
    pub calls : (m : Callee) → call m ≡ true → IsNamed (world p) m
    pub takes : (m : Callee) (k : ℕ) → call m ≡ true → words p.files (world p) m ≡ Some k
        → (let n = naming p in Calls.words n.loaded (callee n m) ≡ Some k)
    pub receives : (kind : Shape (List ℕ)) → IsThing kind → Receives (world p) (Some kind)
    pub sent : (kind : Shape (List ℕ)) (id : MemberId) → IsThing kind
        → (let n = naming p in let methods = reaching.placed_methods p.files (place p)
        in Calls.sent n.loaded (shape_as n.class kind) id ≡ option_as (start_as (code_of n) (offset_of n))
        (methods.sent kind id))

-- What a package has whose components run by token as its narrow code runs by name, where what is asked of its calls,
-- operations and objects holds: read files that break no rule of classes and names, a static image that its
-- initialisers make, classes that keep what dispatch rests on, and its methods in their order, each of which can be
-- laid out.
pub record IsRunnable (list : List ℕ) (p : Package) : Type 0 where
  pub sound : IsSound list p.files
  pub typed : AreTyped p.files
  pub image : (let w = p.files in IsImage p.files (all_codes w.classes) p.image)
  pub once : (let w = p.files in StandOnce p.files (all_codes w.classes))
  pub keeps : Keeps (world p)
  pub subtypes : KeepsSubtypes (world p)
  pub tokens : KeepsTokens (world p)
  pub no_static : NoStaticMethods (world p)
  pub objects : (kind : Shape (List ℕ)) → Receives (world p) (Some kind)
      → is_subtype (world p) (shape_name kind) object ≡ true
  pub methods : AreMethods p
  pub ready : AreReady p
  -- Method has at most 65,535 bytes
  pub small : IsSmall p
  -- 311
  pub ordered : (k : ℕ) (m : LaidMethod) → slice_get p.methods k ≡ Some m
      → (let code = m.code in overtaking [] code.catches ≡ [])
