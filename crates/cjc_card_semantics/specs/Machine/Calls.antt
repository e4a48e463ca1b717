-- What calls reach, and the methods that a script names (Java Card Virtual Machine Specification 2.2.2, section 7.5).
use Rattle.std.specs.Prelude.{ℕ, zero, suc, ◌+◌, ◌-◌, List, [], ◌∷◌, Option, Some, None, option_and_then, option_map}
use Rattle.std.specs.Prelude.{Bool, true, false, nat_lt, ◌&&◌, ◌||◌, if◌then◌else◌, slice_get, codes}
use Rattle.std.specs.Str.{bytes_eq}
use Rattle.cjc_export.specs.Bytes.AccessFlags.{has, is_static, is_private}
use Rattle.cjc_export.specs.Bytes.declared.fault.MemberId.{MemberId}
use Rattle.cjc_capread.specs.declared.tree.ClassDescriptor.{ClassDescriptor}
use Rattle.cjc_capread.specs.declared.tree.MethodDescriptor.{MethodDescriptor}
use Rattle.cjc_capread.specs.ClassRefs.{is_inside}
use Rattle.cjc_export.specs.declared.tree.ExportClass.{ExportClass}
use Rattle.cjc_export.specs.declared.tree.ExportMethod.{ExportMethod}
use Rattle.cjc_export.specs.Supers.{is_virtual}
use Rattle.cjc_script.specs.Sorts.{Shape, OfClass, Signature, signature_of}
use Rattle.cjc_card_semantics.specs.Bytecode.Arguments.{widths}
use Rattle.cjc_card_semantics.specs.Bytecode.Machine.{Start, Reached, Nowhere, Within, Abroad}
use Rattle.cjc_card_semantics.specs.Machine.Loaded.{MethodName, ClassNames, Part, Loaded}
use Rattle.cjc_card_semantics.specs.Machine.Classes.{Class, Own, External, or_else, external, external_named}
use Rattle.cjc_card_semantics.specs.Machine.Classes.{class_named, names_of, superclass, depth, upwards, object_class}
use Rattle.cjc_card_semantics.specs.Machine.Classes.{is_interface, is_of, is_kind_of, shape_class}
use Rattle.cjc_card_semantics.specs.Machine.Dispatch.{Token, Open, Hidden, Selection, NotFound, At, Outward, tower}
use Rattle.cjc_card_semantics.specs.Machine.Dispatch.{above, dispatched, dispatched_interface, exported_line}
use Rattle.cjc_card_semantics.specs.Machine.Operations.{Callee, Fixed, Outer, OnObject, OnSuper, OnInterface}
use Rattle.cjc_card_semantics.specs.Machine.Methods.{Code, start_of}

-- ---- what a call reaches

-- a method that is there
abbrev pub with_code : Option (Start Code) → Reached Code
with_code None = Nowhere
with_code (Some m) = Within m

-- what a selection reaches
abbrev pub reached_by : Loaded → Selection → Reached Code
reached_by l NotFound = Nowhere
reached_by l (At p offset) = with_code (start_of l p offset)
reached_by l (Outward id) = Abroad id

-- a virtual method on a receiver of a class
abbrev pub dispatched_on : Loaded → Option Class → Token → Selection
dispatched_on l None token = NotFound
dispatched_on l (Some c) token = dispatched (tower l c) token

-- the method that a call selects
abbrev pub selected : Loaded → Callee → (receiver : Option Class) → Selection
selected l (Fixed on_object p offset) receiver = At p offset
selected l (Outer on_object id) receiver = Outward id
selected l (OnObject c token) receiver = dispatched_on l receiver token
selected l (OnSuper c token) receiver = dispatched (above (tower l c)) token
selected l (OnInterface words i token) receiver = dispatched_interface l receiver i token

-- A call on a receiver of a type; an array counts as java/lang/Object.
abbrev pub reached : Loaded → Callee → Option (Shape Class) → Reached Code
reached l callee kind = reached_by l (selected l callee (option_and_then (shape_class l) kind))

-- whether a call has a receiver
abbrev pub on_object : Callee → Bool
on_object (Fixed on p offset) = on
on_object (Outer on id) = on
on_object callee = true

-- the words of the arguments by their types, with the receiver
abbrev pub argument_words : (on_object : Bool) → Signature → ℕ
argument_words false types = widths types.params
argument_words true types = 1 + widths types.params

-- by the header of a method of the group, by the descriptor of an imported one
abbrev pub words_of : Loaded → (on_object : Bool) → Selection → Option ℕ
words_of l on NotFound = None
words_of l on (At p offset) = option_map (λ m. m.nargs) (start_of l p offset)
words_of l on (Outward id) = option_map (argument_words on) (signature_of id.desc)

-- How many words a call takes, with the receiver: of a virtual method by the class and token that its pool entry names,
-- of an interface's by its operand.
abbrev pub words : Loaded → Callee → Option ℕ
words l (Fixed on p offset) = words_of l on (At p offset)
words l (Outer on id) = words_of l on (Outward id)
words l (OnObject c token) = words_of l true (dispatched (tower l c) token)
words l (OnSuper c token) = words_of l true (dispatched (above (tower l c)) token)
words l (OnInterface n i token) = Some n

-- ---- methods by name

-- what Descriptor says of a method, with its package
pub record Described : Type 0 where
  pub part : ℕ
  pub method : MethodDescriptor

-- a method has this name and descriptor
abbrev pub is_named : MethodName → MemberId → Bool
is_named n id = bytes_eq n.name id.name && bytes_eq n.desc id.desc

-- the descriptor of the method of this name
abbrev pub named_among : List MethodName → List MethodDescriptor → MemberId → Option MethodDescriptor
named_among (n ∷ names) (m ∷ methods) id = if is_named n id then Some m else named_among names methods id
named_among names methods id = None

-- the descriptor of the class at an offset
abbrev pub class_among : List ClassDescriptor → (offset : ℕ) → Option ClassDescriptor
class_among [] offset = None
class_among (d ∷ descriptors) offset = if is_inside d.this_class offset then Some d else class_among descriptors offset

-- the same in a package
abbrev pub named_in_part : (part offset : ℕ) → MemberId → ClassNames → Part → Option Described
named_in_part p offset id names part =
    option_and_then (λ d. option_map (λ m. record { part = p; method = m }) (named_among names.methods d.methods id))
    (class_among part.descriptor offset)

-- the method of this name that a class declares
abbrev pub declared : Loaded → Class → MemberId → Option Described
declared l (External tree token) id = None
declared l (Own p offset) id =
    option_and_then (λ names. option_and_then (named_in_part p offset id names) (slice_get l.parts p))
    (names_of l p offset)

-- a static method
abbrev pub static_start : Loaded → Described → Option (Start Code)
static_start l d = let m = d.method in if is_static m.flags then start_of l d.part m.offset else None

-- The static method that the named class of a package declares.
abbrev pub called : Loaded → MemberId → Option (Start Code)
called l id = option_and_then (λ c. option_and_then (static_start l) (declared l c id)) (class_named l id.class)

-- the flag of a constructor in Descriptor; static and private are those of class files
abbrev pub acc_constructor : ℕ
acc_constructor = 0x80

-- a static or private method or a constructor; any other method has a token, whatever the byte
abbrev pub has_no_token : MethodDescriptor → Bool
has_no_token m = is_static m.flags || (is_private m.flags || has m.flags acc_constructor)

-- the token of a method, where it has one
abbrev pub described_token : Described → Option Token
described_token d =
    let m = d.method in
    if has_no_token m then None else (if nat_lt m.token 0x80 then Some (Open m.token)
    else Some (Hidden d.part (m.token - 0x80)))

-- the first method of this name and descriptor: its token, or that it has none since it is no virtual method
abbrev pub listed_token : List ExportMethod → MemberId → Option (Option ℕ)
listed_token [] id = None
listed_token (m ∷ methods) id =
    if bytes_eq m.name id.name && bytes_eq m.desc id.desc then Some (if is_virtual m then Some m.token else None)
    else listed_token methods id

-- the first of the classes that lists it decides
abbrev pub token_in_files : List ExportClass → MemberId → Option (Option ℕ)
token_in_files [] id = None
token_in_files (c ∷ classes) id = or_else (listed_token c.methods id) (token_in_files classes id)

-- a method that is declared decides, also where it has no token
abbrev pub token_or : Option Described → (above : Option (Option Token)) → Option (Option Token)
token_or None above = above
token_or (Some d) above = Some (described_token d)

-- the method that is found from a class: its token, or that it has none
abbrev pub found_token : Loaded → (depth : ℕ) → Option Class → MemberId → Option (Option Token)
found_token l zero class id = None
found_token l (suc n) None id = None
found_token l (suc n) (Some (External tree token)) id =
    option_map (option_map Open) (token_in_files (exported_line l (external l tree token)) id)
found_token l (suc n) (Some (Own p offset)) id = token_or (declared l (Own p offset) id)
    (found_token l n (superclass l p offset) id)

-- the place of the method of this name
abbrev pub place_named : List MethodName → MemberId → Option ℕ
place_named [] id = None
place_named (n ∷ names) id = if is_named n id then Some 0 else option_map suc (place_named names id)

-- the token of a method of an interface
abbrev pub interface_token : Loaded → Class → MemberId → Option ℕ
interface_token l (External tree token) id = option_and_then (λ c. option_and_then (λ t. t) (listed_token c.methods id))
    (external l tree token)
interface_token l (Own p offset) id = option_and_then (λ names. place_named names.interface_methods id)
    (names_of l p offset)

-- the same of a class that may be an interface
abbrev pub token_if_interface : Loaded → Class → MemberId → Option ℕ
token_if_interface l c id = if is_interface l c then interface_token l c id else None

-- a method by its token in an interface, or what else is found
abbrev pub through : Loaded → (receiver : Option Class) → (interface : Class) → Option ℕ → (otherwise : Selection)
    → Selection
through l receiver i None otherwise = otherwise
through l receiver i (Some token) otherwise = dispatched_interface l receiver i token

-- by the first interface among these that has the method
abbrev pub through_first : Loaded → (receiver : Option Class) → List Class → MemberId → Selection
through_first l receiver [] id = NotFound
through_first l receiver (c ∷ classes) id = through l receiver c (token_if_interface l c id) (through_first l receiver
    classes id)

-- A method that is found decides, also where it has no token; else an interface above the named class may have it.
abbrev pub sent_by : Loaded → (receiver : Option Class) → (named : Class) → MemberId → Option (Option Token) → Selection
sent_by l receiver named id None = through_first l receiver (upwards l named) id
sent_by l receiver named id (Some None) = NotFound
sent_by l receiver named id (Some (Some token)) = dispatched_on l receiver token

-- The method of the named class, on a receiver. An interface has the methods of java/lang/Object too.
abbrev pub sent_to : Loaded → (receiver : Option Class) → (named : Class) → MemberId → Selection
sent_to l receiver named id =
    if is_interface l named
    then through l receiver named (interface_token l named id) (sent_by l receiver named id
    (found_token l (suc (depth l)) (object_class l) id))
    else sent_by l receiver named id (found_token l (suc (depth l)) (Some named) id)

-- a method of the group
abbrev pub start_selected : Loaded → Selection → Option (Start Code)
start_selected l (At p offset) = start_of l p offset
start_selected l selection = None

-- the same, where the object is of the named class
abbrev pub sent_as : Loaded → Shape Class → MemberId → (named : Class) → Option (Start Code)
sent_as l kind id named =
    if is_of l kind (OfClass named) then start_selected l (sent_to l (shape_class l kind) named id) else None

-- The method of the group that is selected on an object of a type, which is of the named class.
abbrev pub sent : Loaded → Shape Class → MemberId → Option (Start Code)
sent l kind id = option_and_then (sent_as l kind id) (class_named l id.class)

-- ---- imported classes

-- one that is no interface
abbrev pub imported_class_of : Loaded → Class → Option Class
imported_class_of l c = if is_interface l c then None else Some c

-- the imported class of a name
abbrev pub imported : Loaded → List ℕ → Option Class
imported l name = option_and_then (imported_class_of l) (external_named l name)

-- a class that is another or stands below it
abbrev pub if_below : Loaded → Class → (sup : Class) → Option Class
if_below l c sup = if is_kind_of l c sup then Some c else None

-- java/lang/Throwable or a subclass of it
abbrev pub throwable : Loaded → List ℕ → Option Class
throwable l name =
    option_and_then (λ c. option_and_then (if_below l c) (external_named l (codes "java/lang/Throwable")))
    (imported l name)
