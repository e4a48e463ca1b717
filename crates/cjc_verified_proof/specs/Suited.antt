-- What instructions that use the constant pool ask of its entries.
use Rattle.std.specs.Prelude.{◌≡◌, ℕ, true, false, List, [], map, slice_get, Option, Some, None, Contains}
use Rattle.std.specs.Prelude.{if◌then◌else◌}
use Rattle.cjc_bytes.specs.AccessFlags.{is_interface, is_static}
use Rattle.cjc_capread.specs.declared.tree.ClassRef.TheVariants as refs
use Rattle.cjc_capread.specs.declared.tree.StaticRef.{StaticRef}
use Rattle.cjc_capread.specs.declared.tree.StaticRef.TheVariants.{Inside, Outside}
use Rattle.cjc_capread.specs.declared.tree.PoolEntry.{PoolEntry}
use Rattle.cjc_capread.specs.declared.tree.PoolEntry.TheVariants.{Classref, InstanceFieldref}
use Rattle.cjc_capread.specs.declared.tree.PoolEntry.TheVariants.{VirtualMethodref, SuperMethodref}
use Rattle.cjc_capread.specs.declared.tree.PoolEntry.TheVariants.{StaticFieldref, StaticMethodref}
use Rattle.cjc_check_rules.specs.Complete.{Complete}
use Rattle.cjc_check_rules.specs.Members.{is_method_start}
use Rattle.cjc_card_semantics.specs.Bytecode.Machine.{Start}
use Rattle.cjc_card_semantics.specs.Machine.Methods.{Code, start_of}
use Rattle.cjc_card_semantics.specs.Script.Sorts.{Signature, signature_of}
use Rattle.cjc_verify.specs.Frames.declared.acts.Act.{Act}
use Rattle.cjc_verify.specs.Frames.Acts.{given}
use Rattle.cjc_card_acts.specs.CardTypes.{type_by, types_in}
use Rattle.cjc_verify.specs.Bodies.{Body, type_of_body}
use Rattle.cjc_verify.specs.ClassTypes.{class_type}
use Rattle.cjc_verify.specs.Headers.{argument_words, has_code}
use Rattle.cjc_verify.specs.Pairs.{Pair, Described, described, member_of, method_at, nibbles_of}
use Rattle.cjc_verify_proof.specs.Calls.{argument_cells, AreSorts, IsResult}
use Rattle.cjc_verify_proof.specs.Frames.{Typing, Program, Begins}
use Rattle.cjc_verified_proof.specs.Entries.{IsRef}

-- the type of the receiver of a method of Method; a static one has none
abbrev pub holder_type : Body → Option (List ℕ)
holder_type b = let m = b.method in if is_static m.flags then None else Some (class_type b.holder)

-- A method begins at an offset of Method, with what Descriptor and the package say of it; where it is not abstract, it
-- is
-- one of the program.
pub record StandsAt (p : Pair) (program : Program) (offset : ℕ) : Type 0 where
  pub body : Body
  pub at : (let m = body.method in m.offset) ≡ offset
  pub described : Described
  pub is_described : method_at p offset ≡ Some described
  pub method : described.method ≡ body.method
  pub holder : described.holder ≡ body.holder
  pub nibbles : List ℕ
  pub said : nibbles_of p (let m = member_of p described in m.desc) ≡ Some nibbles
  pub types : type_of_body p.components body ≡ type_by (types_in nibbles)
  pub start : Start Code
  pub starts : start_of p.loaded 0 offset ≡ Some start
  pub words : start.nargs ≡ argument_words p body
  pub typed : start.is_abstract ≡ false → (t : Typing) × Contains program.methods t × Begins t start
      × (map (given [] []) (let b = t.body in b.arguments) ≡ argument_cells (holder_type body)
      (let types = type_of_body p.components body in types.params))
      × (t.result ≡ (let types = type_of_body p.components body in types.result))

-- the same of each method of Method
abbrev pub AreStanding : Pair → Program → Type 0
AreStanding p program = (offset : ℕ) → is_method_start p.components offset ≡ true → StandsAt p program offset

-- a descriptor of a method has the types that its nibbles say
abbrev pub HaveSorts : Pair → Type 0
HaveSorts p = (desc nibbles : List ℕ) (sig : Signature) → nibbles_of p desc ≡ Some nibbles
    → signature_of desc ≡ Some sig → (let t = type_by (types_in nibbles) in AreSorts p.loaded sig.params t.params
    × IsResult p.loaded sig.result t.result)

-- An instruction breaks no rule by itself.
pub record IsRight (a : Act) : Type 0 where
  pub known : a.is_unknown ≡ false
  pub named : a.misnames ≡ false
  pub fit : a.misfits ≡ false

-- Methods have descriptors of methods, and static ones stand in classes and have code.
pub record HaveCode (p : Pair) : Type 0 where
  pub signed : (k : ℕ) (d : Described) → slice_get (described p) k ≡ Some d
      → (s : Signature) × (signature_of (let m = member_of p d in m.desc) ≡ Some s)
  pub in_classes : (k : ℕ) (d : Described) → slice_get (described p) k ≡ Some d
      → is_static (let m = d.method in m.flags) ≡ true → (let c = d.class in is_interface c.flags ≡ false)
  pub coded : (k : ℕ) (d : Described) → slice_get (described p) k ≡ Some d
      → is_static (let m = d.method in m.flags) ≡ true → has_code p d ≡ true
