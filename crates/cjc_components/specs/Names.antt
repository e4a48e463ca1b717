-- How components name classes and members: class_refs, tokens and offsets (Java Card Virtual Machine Specification
-- 2.2.2, sections 4.3.7, 6.1 and 6.7).
use Rattle.std.specs.Prelude.{ℕ, List, [], map, position, unwrap_or, slice_get, option_map, option_and_then, Option}
use Rattle.std.specs.Prelude.{Some, None, Bool, if◌then◌else◌}
use Rattle.std.specs.Str.{bytes_eq}
use Rattle.cjc_list.specs.Bytes.declared.fault.MemberId.{MemberId}
use Rattle.cjc_capwrite.specs.CapRead.declared.tree.ClassRef.{ClassRef}
use Rattle.cjc_capwrite.specs.CapRead.declared.tree.ClassRef.TheVariants.{Inside, Outside}
use Rattle.cjc_capwrite.specs.CapRead.declared.tree.StaticRef.{StaticRef}
use Rattle.cjc_capwrite.specs.CapRead.declared.tree.StaticRef.TheVariants as refs
use Rattle.cjc_capwrite.specs.CapRead.declared.tree.PoolEntry.{PoolEntry}
use Rattle.cjc_check_rules.specs.Described.{all_starts}
use Rattle.cjc_emit.specs.CardSemantics.Machine.Loaded.{Loaded}
use Rattle.cjc_emit.specs.CardSemantics.Machine.Classes.{Class as CardClass, Own, External, external_from, or_else}
use Rattle.cjc_emit.specs.CardSemantics.Machine.Dispatch.{Open}
use Rattle.cjc_emit.specs.CardSemantics.Machine.Operations.{Fixed, Outer, Callee, token_of}
use Rattle.cjc_clinit.specs.World.declared.found.Found.{Found}
use Rattle.cjc_clinit.specs.World.Classes.{Class, class_named}
use Rattle.cjc_clinit.specs.World.Lookup.{find_field, find_method}
use Rattle.cjc_clinit.specs.World.Order.{class_order}
use Rattle.cjc_vtable.specs.LowerTokens.Members.{Signature, same}
use Rattle.cjc_vtable.specs.LowerTokens.Lines.{Line, line_of}
use Rattle.cjc_vtable.specs.LowerTokens.Slots.{hidden_slots, shown_token, token}
use Rattle.cjc_vtable.specs.LowerTokens.Methods.{interface_methods, with_high_bit}
use Rattle.cjc_vtable.specs.LowerTokens.Tokens.{token_of_member}
use Rattle.cjc_vtable.specs.Tables.{or_zero}
use Rattle.cjc_vtable.specs.Calls.{finds_hidden}
use Rattle.cjc_emit.specs.NCode.Lowering.Naming.{Naming, entry_of}
use Rattle.cjc_narrow.specs.Keys.Index.{index_of}
use Rattle.cjc_components.specs.Package.{Package, world, tokens, pool}
use Rattle.cjc_components.specs.Methods.{method_offset}
use Rattle.cjc_components.specs.Class.{class_info}
use Rattle.cjc_components.specs.Statics.{cell_offset}

-- ---- classes

-- where the infos of Class stand, in order; a class_ref has two bytes, whatever it names
abbrev pub info_starts : Package → List ℕ
info_starts p = all_starts (class_info (λ name. Inside 0) p)

-- the offset of a class of the package
abbrev pub class_offset : Package → (name : List ℕ) → Option ℕ
class_offset p name = option_and_then (slice_get (info_starts p)) (position (λ c. bytes_eq c.name name)
    (class_order (world p)))

-- The class of a name: one of the package by its offset, else that of the first export file that has it, by the number
-- of the file and its token there.
abbrev pub class_at : Package → (name : List ℕ) → CardClass
class_at p name = unwrap_or (or_else (option_map (Own 0) (class_offset p name)) (let files = p.files
    in external_from 0 files.exports name)) (Own 0 0)

-- a class_ref: the token of an imported package is the number of its export file
abbrev pub ref_to : CardClass → ClassRef
ref_to (Own part offset) = Inside offset
ref_to (External file token) = Outside file token

-- the class_ref of a class by its name
abbrev pub class_ref : Package → (name : List ℕ) → ClassRef
class_ref p name = ref_to (class_at p name)

-- ---- tokens

-- the token of a member; 0xFF is none
abbrev pub member_token : Package → Option Found → ℕ
member_token p f = unwrap_or (option_and_then (token_of_member (tokens p)) f) 0xFF

-- the token of a field
abbrev pub field_token : Package → MemberId → ℕ
field_token p f = member_token p (find_field (world p) f.class f.name f.desc)

-- the name and the descriptor
abbrev pub signature_of : MemberId → Signature
signature_of m = record { name = m.name; desc = m.desc }

-- The token of a virtual method in a class: the high bit marks one that is found as a package-visible method of the
-- package.
abbrev pub token_in : Line → Signature → ℕ
token_in line s = if finds_hidden line s then with_high_bit (or_zero (token (hidden_slots line) s))
    else or_zero (shown_token line s)

-- the token of a virtual method in the class that the member names
abbrev pub virtual_token : Package → MemberId → ℕ
virtual_token p m = token_in (line_of (world p) m.class) (signature_of m)

-- the token of a method in an interface
abbrev pub token_in_interface : List Class → Signature → Option Class → ℕ
token_in_interface w s None = 0
token_in_interface w s (Some i) = or_zero (position (λ t. same t s) (interface_methods w i))

-- the token of a method in the interface that the member names
abbrev pub interface_token : Package → MemberId → ℕ
interface_token p m = token_in_interface (world p) (signature_of m) (class_named (world p) m.class)

-- ---- static members, constructors and private methods

-- by the class that has the member: of the package by an offset, else by a token
abbrev pub member_ref : CardClass → (offset token : ℕ) → StaticRef
member_ref (Own part at) offset token = refs.Inside offset
member_ref (External file class) offset token = refs.Outside file class token

-- a static field, by the class in which it is found
abbrev pub field_ref : Package → MemberId → StaticRef
field_ref p f = member_ref (class_at p f.class) (cell_offset p.image f) (field_token p f)

-- the offset of a method's header
abbrev pub offset_where : Package → Option Found → ℕ
offset_where p None = 0
offset_where p (Some f) = method_offset p f

-- a method, by the class in which it is found
abbrev pub method_ref : Package → MemberId → StaticRef
method_ref p m = let f = find_method (world p) m.class m.name m.desc
    in member_ref (class_at p m.class) (offset_where p f) (member_token p f)

-- ---- all names

-- what a static method, a constructor or a private method is on the card
abbrev pub fixed_as : (on_object : Bool) → MemberId → StaticRef → Callee
fixed_as on m (refs.Inside offset) = Fixed on 0 offset
fixed_as on m (refs.Outside file class token) = Outer on m

-- The names of a package that is loaded by itself, where its pool has these entries.
abbrev pub naming_over : Loaded → List PoolEntry → Package → Naming
naming_over loaded entries p = record {
  loaded = loaded;
  part = 0;
  pool = entries;
  index = λ key. unwrap_or (index_of (pool p) key) 0;
  class_ref = class_ref p;
  field_token = field_token p;
  field_ref = field_ref p;
  virtual_token = virtual_token p;
  interface_token = interface_token p;
  method_ref = method_ref p;
  class = class_at p;
  cell = λ f. record { part = 0; offset = cell_offset p.image f };
  dispatch_token = λ m. unwrap_or (token_of (class_at p m.class) (virtual_token p m)) (Open 0);
  fixed = λ on m. fixed_as on m (method_ref p m);
}

-- before anything is loaded
abbrev pub unloaded : Loaded
unloaded = record { parts = []; trees = [] }

-- what the components name, whoever loads them
abbrev pub names : Package → Naming
names p = naming_over unloaded [] p

-- The entries of ConstantPool: one for each key, in the order of the keys.
abbrev pub pool_entries : Package → List PoolEntry
pool_entries p = map (entry_of (names p)) (pool p)
