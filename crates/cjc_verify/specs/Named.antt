-- What the entries of the constant pool name: of which type the members are by Descriptor and by the package, and which
-- methods are static or abstract (Java Card Virtual Machine Specification 2.2.2, sections 6.7 and 6.13).
use Rattle.std.specs.Prelude.{ℕ, ◌==◌, ◌&&◌, ◌||◌, not, Bool, true, false, List, [], ◌∷◌, slice_get, get_or}
use Rattle.std.specs.Prelude.{is_none, Option, Some, None, option_and_then, option_map, if◌then◌else◌}
use Rattle.std.specs.List.{find}
use Rattle.std.specs.Str.{bytes_eq}
use Rattle.cjc_bytes.specs.declared.fault.MemberId.{MemberId}
use Rattle.cjc_bytes.specs.AccessFlags.{is_static, is_interface, has, acc_abstract}
use Rattle.cjc_capread.specs.declared.tree.ClassRef.{ClassRef}
use Rattle.cjc_capread.specs.declared.tree.ClassRef.TheVariants as refs
use Rattle.cjc_capread.specs.declared.tree.StaticRef.{StaticRef}
use Rattle.cjc_capread.specs.declared.tree.StaticRef.TheVariants as statics
use Rattle.cjc_capread.specs.declared.tree.PoolEntry.{PoolEntry}
use Rattle.cjc_capread.specs.declared.tree.PoolEntry.TheVariants.{Classref, InstanceFieldref}
use Rattle.cjc_capread.specs.declared.tree.PoolEntry.TheVariants.{VirtualMethodref, SuperMethodref}
use Rattle.cjc_capread.specs.declared.tree.PoolEntry.TheVariants.{StaticFieldref, StaticMethodref}
use Rattle.cjc_check_rules.specs.Classes.{imported}
use Rattle.cjc_world.specs.ExportFile.declared.tree.ExportClass.{ExportClass}
use Rattle.cjc_world.specs.ExportFile.declared.tree.ExportField.{ExportField}
use Rattle.cjc_world.specs.ExportFile.declared.tree.ExportMethod.{ExportMethod}
use Rattle.cjc_world.specs.ExportFile.declared.tree.ExportTree.{ExportTree}
use Rattle.cjc_world.specs.ExportFile.Supers.{classes_of, upwards, virtual_method, is_virtual}
use Rattle.cjc_world.specs.ExportFile.Members.{is_unbound}
use Rattle.cjc_card_acts.specs.CardSemantics.Bytecode.Machine.{Start}
use Rattle.cjc_card_acts.specs.CardSemantics.Machine.Loaded.{Loaded}
use Rattle.cjc_card_acts.specs.CardSemantics.Machine.Classes.{Class as CardClass, External, class_of}
use Rattle.cjc_card_acts.specs.CardSemantics.Machine.Classes.{external, external_named}
use Rattle.cjc_card_acts.specs.CardSemantics.Machine.Classes as card
use Rattle.cjc_card_acts.specs.CardSemantics.Machine.Dispatch.{Token, Selection, NotFound, At, Outward, tower, above}
use Rattle.cjc_card_acts.specs.CardSemantics.Machine.Dispatch.{dispatched, exported_line, interface_method}
use Rattle.cjc_card_acts.specs.CardSemantics.Machine.Operations.{token_of}
use Rattle.cjc_card_acts.specs.CardSemantics.Machine.Methods.{start_of, Code}
use Rattle.cjc_world.specs.declared.found.Found.{Found}
use Rattle.cjc_world.specs.Classes.{Member, Class, class_at as file_class}
use Rattle.cjc_world.specs.Classes as world_of
use Rattle.cjc_methods.specs.Tokens.Tokens.{field_of_token, method_of_token}
use Rattle.cjc_classes.specs.LowerComponents.Class.{superclass}
use Rattle.cjc_classes.specs.LowerComponents.Descriptor.{method_in}
use Rattle.cjc_classes.specs.LowerComponents.Statics.{cell_order, cell_offset}
use Rattle.cjc_card_acts.specs.CardTypes.{MemberType, type_at, type_by, types_in}
use Rattle.cjc_verify.specs.ClassTypes.{class_type}
use Rattle.cjc_verify.specs.Pairs.{Pair, Described, world, class_at, method_at, member_of}
use Rattle.cjc_verify.specs.Pairs.{nibbles_of}

-- ---- by Descriptor

-- the entry of an index
abbrev pub entry_of : Pair → (index : ℕ) → Option PoolEntry
entry_of p k = let c = p.components in let pool = c.pool in slice_get pool.entries k

-- The type that Descriptor gives the member of an entry; a class has none.
abbrev pub entry_type : Pair → (index : ℕ) → MemberType
entry_type p k = let c = p.components in let d = c.descriptor in type_at d (get_or d.pool_types k 0xFFFF)

-- ---- members of imported classes

-- the first that one of these answers
abbrev pub first_of : {A B : Type 0} → (A → Option B) → List A → Option B
first_of answer [] = None
first_of answer (x ∷ xs) = card.or_else (answer x) (first_of answer xs)

-- a class of export files, and what stands above it
abbrev pub line_of : List ExportTree → Option ExportClass → List ExportClass
line_of exports None = []
line_of exports (Some c) = c ∷ upwards (classes_of exports) c.supers

-- the descriptor of a field
abbrev pub field_desc : Option ExportField → Option (List ℕ)
field_desc f = option_map (λ (f : ExportField). f.desc) f

-- the descriptor of a method
abbrev pub method_desc : Option ExportMethod → Option (List ℕ)
method_desc m = option_map (λ (m : ExportMethod). m.desc) m

-- the instance field of a token that a class itself lists
abbrev pub instance_field : (token : ℕ) → ExportClass → Option ExportField
instance_field token c = find (λ (f : ExportField). (f.token == token) && not (is_static f.flags) && is_none f.constant)
    c.fields

-- the static field of a token; constants have none
abbrev pub static_field : (token : ℕ) → ExportClass → Option ExportField
static_field token c = find (λ (f : ExportField). (f.token == token) && is_static f.flags && is_none f.constant)
    c.fields

-- the static method or constructor of a token
abbrev pub static_method : (token : ℕ) → ExportClass → Option ExportMethod
static_method token c = find (λ (m : ExportMethod). (m.token == token) && is_unbound m.flags m.name) c.methods

-- ---- members of the package

-- the descriptor of the instance field that a class declares under a token
abbrev pub own_field_desc : Pair → (token : ℕ) → Class → Option (List ℕ)
own_field_desc p token c = option_map (λ (f : Member). f.desc) (option_and_then (slice_get c.fields)
    (field_of_token p.tokens c.number token))

-- the descriptor of a method of a file
abbrev pub found_desc : Pair → Found → Option (List ℕ)
found_desc p f = option_map (λ c. let m = method_in (world p) c f.member in m.desc) (file_class (world p) f.imported
    f.class)

-- the descriptor of the virtual method that a token means in a class of the package
abbrev pub own_virtual_desc : Pair → (token : ℕ) → Class → Option (List ℕ)
own_virtual_desc p token c = option_and_then (found_desc p) (method_of_token p.tokens c.number token)

-- the same in an imported class
abbrev pub listed_virtual_desc : Pair → (token : ℕ) → Option ExportClass → Option (List ℕ)
listed_virtual_desc p token c = let files = p.files in method_desc (first_of (virtual_method token)
    (line_of files.exports c))

-- an imported class that the machine finds, and what stands above it
abbrev pub line_found : Loaded → Option CardClass → List ExportClass
line_found l (Some (External tree token)) = exported_line l (external l tree token)
line_found l class = []

-- an imported class by its name, and what stands above it
abbrev pub line_named : Loaded → (name : List ℕ) → List ExportClass
line_named l name = line_found l (external_named l name)

-- the same in a class of either kind
abbrev pub virtual_desc_in : Pair → (token : ℕ) → Option Class → Option (List ℕ)
virtual_desc_in p token None = None
virtual_desc_in p token (Some c) =
    if c.is_imported then method_desc (first_of (virtual_method token) (line_named p.loaded c.name))
    else own_virtual_desc p token c

-- the descriptor of the static field whose cell stands at an offset
abbrev pub cell_desc : Pair → (offset : ℕ) → Option (List ℕ)
cell_desc p offset = option_map (λ (f : MemberId). f.desc) (find (λ f. cell_offset p.image f == offset)
    (cell_order p.image))

-- the descriptor of the method whose header stands at an offset
abbrev pub method_desc_at : Pair → (offset : ℕ) → Option (List ℕ)
method_desc_at p offset = option_map (λ d. let m = member_of p d in m.desc) (method_at p offset)

-- the class of an export file with these tokens
abbrev pub exported : Pair → (import class : ℕ) → Option ExportClass
exported p import class = let files = p.files in imported files.exports import class

-- The descriptor that the file of the member of an entry gives it; none where there is no such member, and for a class.
abbrev pub named_desc : Pair → PoolEntry → Option (List ℕ)
named_desc p (Classref class) = None
named_desc p (InstanceFieldref (refs.Inside offset) token) = option_and_then (own_field_desc p token)
    (class_at p offset)
named_desc p (InstanceFieldref (refs.Outside import class) token) = let files = p.files in field_desc
    (first_of (instance_field token) (line_of files.exports (exported p import class)))
named_desc p (VirtualMethodref (refs.Inside offset) token) = option_and_then (own_virtual_desc p token)
    (class_at p offset)
named_desc p (VirtualMethodref (refs.Outside import class) token) = listed_virtual_desc p token
    (exported p import class)
named_desc p (SuperMethodref (refs.Inside offset) token) = option_and_then (λ c. virtual_desc_in p token
    (world_of.class_named (world p) (superclass c))) (class_at p offset)
named_desc p (SuperMethodref (refs.Outside import class) token) = None
named_desc p (StaticFieldref (statics.Inside offset)) = cell_desc p offset
named_desc p (StaticFieldref (statics.Outside import class token)) = field_desc (option_and_then (static_field token)
    (exported p import class))
named_desc p (StaticMethodref (statics.Inside offset)) = method_desc_at p offset
named_desc p (StaticMethodref (statics.Outside import class token)) = method_desc (option_and_then (static_method token)
    (exported p import class))

-- ---- methods that calls name

-- a method is there and passes the test
abbrev pub holds : (Described → Bool) → Option Described → Bool
holds test None = false
holds test (Some d) = test d

-- by the flags of Descriptor
abbrev pub is_static_described : Described → Bool
is_static_described d = let m = d.method in is_static m.flags

-- by the flags of an export file
abbrev pub is_static_listed : Option ExportMethod → Bool
is_static_listed None = false
is_static_listed (Some m) = is_static m.flags

-- a static method
abbrev pub names_static : Pair → StaticRef → Bool
names_static p (statics.Inside offset) = holds is_static_described (method_at p offset)
names_static p (statics.Outside import class token) = is_static_listed (option_and_then (static_method token)
    (exported p import class))

-- a header is abstract
abbrev pub is_abstract_start : Option (Start Code) → Bool
is_abstract_start None = false
is_abstract_start (Some m) = m.is_abstract

-- a method of Method with an abstract header
abbrev pub is_abstract_at : Pair → (offset : ℕ) → Bool
is_abstract_at p offset = is_abstract_start (start_of p.loaded 0 offset)

-- the flag of an export file
abbrev pub is_abstract_listed : Option ExportMethod → Bool
is_abstract_listed None = false
is_abstract_listed (Some m) = has m.flags acc_abstract

-- an abstract method by a static reference
abbrev pub names_abstract : Pair → StaticRef → Bool
names_abstract p (statics.Inside offset) = is_abstract_at p offset
names_abstract p (statics.Outside import class token) = is_abstract_listed (option_and_then (static_method token)
    (exported p import class))

-- the virtual method of this name and descriptor that a class lists
abbrev pub listed_as : MemberId → ExportClass → Option ExportMethod
listed_as id c = find (λ (m : ExportMethod). is_virtual m && bytes_eq m.name id.name && bytes_eq m.desc id.desc)
    c.methods

-- what a selection reaches is abstract
abbrev pub is_abstract_selection : Pair → Selection → Bool
is_abstract_selection p NotFound = false
is_abstract_selection p (At part offset) = is_abstract_at p offset
is_abstract_selection p (Outward id) = is_abstract_listed (first_of (listed_as id) (line_named p.loaded id.class))

-- a token upwards from the superclass of a class
abbrev pub selected_above : Loaded → CardClass → Option Token → Selection
selected_above l class None = NotFound
selected_above l class (Some token) = dispatched (above (tower l class)) token

-- the method that a call by the superclass selects
abbrev pub super_selection : Loaded → (token : ℕ) → Option CardClass → Selection
super_selection l token None = NotFound
super_selection l token (Some class) = selected_above l class (token_of class token)

-- an abstract method of a superclass
abbrev pub names_abstract_above : Pair → ClassRef → (token : ℕ) → Bool
names_abstract_above p class token = is_abstract_selection p (super_selection p.loaded token (class_of p.loaded 0
    class))

-- the type of the class that holds a method
abbrev pub holder_in : Option Described → List ℕ
holder_in None = []
holder_in (Some d) = class_type d.holder

-- the type of the receiver of a method that a static reference names
abbrev pub holder_of : Pair → StaticRef → List ℕ
holder_of p (statics.Inside offset) = holder_in (method_at p offset)
holder_of p (statics.Outside import class token) = class_type (refs.Outside import class)

-- ---- classes

-- a class or interface of which no object is made
abbrev pub is_unmade : (flags : ℕ) → Bool
is_unmade flags = is_interface flags || has flags acc_abstract

-- by its file
abbrev pub is_unmade_class : Option Class → Bool
is_unmade_class None = true
is_unmade_class (Some c) = is_unmade c.flags

-- by its export file
abbrev pub is_unmade_export : Option ExportClass → Bool
is_unmade_export None = true
is_unmade_export (Some c) = is_unmade c.flags

-- an abstract class or an interface
abbrev pub names_unmade : Pair → ClassRef → Bool
names_unmade p (refs.Inside offset) = is_unmade_class (class_at p offset)
names_unmade p (refs.Outside import class) = is_unmade_export (exported p import class)

-- of an imported package
abbrev pub is_outside : ClassRef → Bool
is_outside (refs.Inside offset) = false
is_outside (refs.Outside import class) = true

-- of an imported package
abbrev pub is_static_outside : StaticRef → Bool
is_static_outside (statics.Inside offset) = false
is_static_outside (statics.Outside import class token) = true

-- ---- methods of interfaces

-- the descriptor of the method of a token
abbrev pub selection_desc : Selection → Option (List ℕ)
selection_desc (Outward id) = Some id.desc
selection_desc selection = None

-- of an interface
abbrev pub interface_desc : Loaded → (token : ℕ) → Option CardClass → Option (List ℕ)
interface_desc l token None = None
interface_desc l token (Some class) = if card.is_interface l class then selection_desc (interface_method l class token)
    else None

-- The type of the method of a token in an interface; none where the class is no interface, has no such token, or the
-- card has no values of one of the method's types.
abbrev pub interface_type : Pair → ClassRef → (token : ℕ) → Option MemberType
interface_type p class token = option_map (λ nibbles. type_by (types_in nibbles)) (option_and_then (nibbles_of p)
    (interface_desc p.loaded token (class_of p.loaded 0 class)))
