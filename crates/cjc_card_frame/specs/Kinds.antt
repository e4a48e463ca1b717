-- What data of methods, calls and static cells stands for, and what the entries of a package's constant pool name.
use Rattle.std.specs.Prelude.{◌≡◌, ℕ, List, [], Option, Some, None, option_map, slice_get}
use Rattle.cjc_card_semantics.specs.Bytes.declared.fault.MemberId.{MemberId}
use Rattle.cjc_card_semantics.specs.CapRead.Decode.{Instruction, decode}
use Rattle.cjc_card_semantics.specs.CapRead.declared.tree.PoolEntry.{PoolEntry}
use Rattle.cjc_card_semantics.specs.CapRead.declared.tree.PoolEntry.TheVariants.{InstanceFieldref, StaticFieldref}
use Rattle.cjc_card_semantics.specs.Bytecode.Machine.{Start, Reached}
use Rattle.cjc_card_semantics.specs.Bytecode.Machine
use Rattle.cjc_card_semantics.specs.Machine.Loaded.{Part, Loaded, CellName}
use Rattle.cjc_card_semantics.specs.Machine.Classes.{Field, class_of}
use Rattle.cjc_card_semantics.specs.Machine.Statics.{StaticCell}
use Rattle.cjc_card_semantics.specs.Machine.Dispatch.{Token}
use Rattle.cjc_card_semantics.specs.Machine.Dispatch
use Rattle.cjc_card_semantics.specs.Machine.Operations.{Callee, static_cell}
use Rattle.cjc_card_semantics.specs.Machine.Operations
use Rattle.cjc_card_semantics.specs.Machine.Methods.{Code}
use Rattle.cjc_card_frame.specs.Objects
use Rattle.cjc_card_frame.specs.declared.parts.kinds.Code.{Code as CodeData}
use Rattle.cjc_card_frame.specs.declared.parts.kinds.Start.{Start as StartData}
use Rattle.cjc_card_frame.specs.declared.parts.kinds.Token.{Token as TokenData}
use Rattle.cjc_card_frame.specs.declared.parts.kinds.Token.TheVariants as tokens
use Rattle.cjc_card_frame.specs.declared.parts.kinds.ImportedMethod.{ImportedMethod}
use Rattle.cjc_card_frame.specs.declared.parts.kinds.Callee.{Callee as CalleeData}
use Rattle.cjc_card_frame.specs.declared.parts.kinds.Callee.TheVariants as callees
use Rattle.cjc_card_frame.specs.declared.parts.kinds.Reached.{Reached as ReachedData}
use Rattle.cjc_card_frame.specs.declared.parts.kinds.Reached.TheVariants as reaches
use Rattle.cjc_card_frame.specs.declared.parts.kinds.StaticCell.{StaticCell as CellData}
use Rattle.cjc_card_frame.specs.declared.parts.kinds.CellName.{CellName as CellNameData}

-- ---- what data stands for

-- a method's code
abbrev pub code_of : CodeData → Code
code_of c = record { part = c.part; room = c.room; first = c.first; end = c.end }

-- a method that begins
abbrev pub start_of : StartData → Start Code
start_of s = record {
  code = code_of s.code;
  at = s.at;
  nargs = s.nargs;
  max_locals = s.max_locals;
  is_abstract = s.is_abstract;
}

-- the token of a virtual method
abbrev pub token_of : TokenData → Token
token_of (tokens.Open token) = Dispatch.Open token
token_of (tokens.Hidden home token) = Dispatch.Hidden home token

-- an imported method by its class, name and descriptor
abbrev pub method_id : ImportedMethod → MemberId
method_id m = record { class = m.class.now; name = m.name.now; desc = m.desc.now }

-- what a call names
abbrev pub callee_of : CalleeData → Callee
callee_of (callees.Fixed on_object part offset) = Operations.Fixed on_object part offset
callee_of (callees.Outer on_object method) = Operations.Outer on_object (method_id method)
callee_of (callees.OnObject class token) = Operations.OnObject (Objects.class_of class) (token_of token)
callee_of (callees.OnSuper class token) = Operations.OnSuper (Objects.class_of class) (token_of token)
callee_of (callees.OnInterface words interface token) = Operations.OnInterface words (Objects.class_of interface) token

-- what a call reaches
abbrev pub reached_of : ReachedData → Reached Code
reached_of reaches.Nowhere = Machine.Nowhere
reached_of (reaches.Within start) = Machine.Within (start_of start)
reached_of (reaches.Abroad method) = Machine.Abroad (method_id method)

-- a static cell
abbrev pub cell_of : CellData → StaticCell
cell_of s = record { part = s.part; offset = s.offset }

-- a static cell with its name
abbrev pub cell_name_of : CellNameData → CellName
cell_name_of c = record { offset = c.offset; id = c.id }

-- ---- instructions

-- It stands at the front of some bytes.
abbrev pub IsDecoded : Instruction → Type 0
IsDecoded i = (bytes : List ℕ) × (decode bytes ≡ Some i)

-- ---- what entries name

-- the constant pool of a package that is there
abbrev pub pool_in : Option Part → List PoolEntry
pool_in None = []
pool_in (Some part) = part.pool

-- the constant pool of a package
abbrev pub pool_of : Loaded → (part : ℕ) → List PoolEntry
pool_of l p = pool_in (slice_get l.parts p)

-- the instance field that an entry names
abbrev pub field_by : Loaded → (part : ℕ) → PoolEntry → Option Field
field_by l p (InstanceFieldref c t) = option_map (λ class. record { class = class; token = t }) (class_of l p c)
field_by l p item = None

-- the static cell that an entry names
abbrev pub cell_by : Loaded → (part : ℕ) → PoolEntry → Option StaticCell
cell_by l p (StaticFieldref f) = static_cell l p f
cell_by l p item = None

-- ---- static cells

-- the named cells of a package that is there
abbrev pub cells_in : Option Part → List CellName
cells_in None = []
cells_in (Some part) = part.cells

-- the named cells of a package, in the order of a report
abbrev pub cells_of : Loaded → (part : ℕ) → List CellName
cells_of l p = cells_in (slice_get l.parts p)
