-- Components beside the package that they are said to be of: how components name its classes, and what Descriptor says
-- of its methods (Java Card Virtual Machine Specification 2.2.2, sections 4.3.7, 6.1 and 6.13).
use Rattle.std.specs.Prelude.{ℕ, ◌==◌, ◌&&◌, not, Bool, true, false, List, [], ◌∷◌, ◌++◌, position}
use Rattle.std.specs.Prelude.{slice_get, unwrap_or, Option, Some, None, option_and_then, option_map, if◌then◌else◌}
use Rattle.std.specs.List.{find, list_all}
use Rattle.std.specs.Str.{bytes_eq}
use Rattle.cjc_bytes.specs.AccessFlags.{is_interface}
use Rattle.cjc_capread.specs.declared.tree.ClassRef.{ClassRef}
use Rattle.cjc_capread.specs.declared.tree.ClassDescriptor.{ClassDescriptor}
use Rattle.cjc_capread.specs.declared.tree.MethodDescriptor.{MethodDescriptor}
use Rattle.cjc_check_rules.specs.Complete.{Complete}
use Rattle.cjc_check_rules.specs.Described.{all_starts}
use Rattle.cjc_card_acts.specs.CardSemantics.Machine.Loaded.{Loaded}
use Rattle.cjc_card_acts.specs.CardSemantics.Machine.Classes.{Class as CardClass, Own, external_from, or_else}
use Rattle.cjc_card_acts.specs.Script.Sorts.{Sort, Boolean, Byte, Short, Int, Reference, NoValue, Signature}
use Rattle.cjc_card_acts.specs.Script.Sorts.{field_sort}
use Rattle.cjc_card_acts.specs.Script.Sorts.{signature_of}
use Rattle.cjc_world.specs.declared.found.Found.{Found}
use Rattle.cjc_world.specs.declared.image.StaticImage.{StaticImage}
use Rattle.cjc_world.specs.Files.{Files}
use Rattle.cjc_world.specs.Classes.{Member, Class, all_classes}
use Rattle.cjc_world.specs.Order.{class_order, methods_of_class}
use Rattle.cjc_methods.specs.Tokens.Tokens.{Assigned, assigned}
use Rattle.cjc_classes.specs.LowerComponents.Descriptor.{method_in}
use Rattle.cjc_classes.specs.LowerComponents.Names.{ref_to}
use Rattle.cjc_classes.specs.LowerComponents.Paired.Naming.{loaded_of}
use Rattle.cjc_classes.specs.LowerComponents.Types.{nibbles_by}

-- A package with its tokens and with what its static fields hold at first, components of which only Applet and Export
-- may be absent, and what the machine by token is given of them.
pub record Pair : Type 0 where
  pub files : Files
  pub tokens : Assigned
  pub image : StaticImage
  pub components : Complete
  pub loaded : Loaded

-- Components beside a package, by whether its list has an applet line.
abbrev pub pair_of : (applets : Bool) → Files → StaticImage → Complete → Pair
pair_of applets files image c = record {
  files = files;
  tokens = assigned applets files;
  image = image;
  components = c;
  loaded = loaded_of applets files image c;
}

-- the classes of all files
abbrev pub world : Pair → List Class
world p = all_classes p.files

-- ---- classes: the i-th info of Class is the i-th class of the package

-- where the infos of Class stand
abbrev pub starts : Pair → List ℕ
starts p = let c = p.components in all_starts c.class

-- the class of the package whose info stands at an offset
abbrev pub class_at : Pair → (offset : ℕ) → Option Class
class_at p offset = option_and_then (slice_get (class_order (world p))) (position (λ at. at == offset) (starts p))

-- the offset of the info of a class of the package
abbrev pub offset_of : Pair → (name : List ℕ) → Option ℕ
offset_of p name = option_and_then (slice_get (starts p)) (position (λ c. bytes_eq c.name name) (class_order (world p)))

-- the class of a name: one of the package, else that of the first export file that has it
abbrev pub class_named : Pair → (name : List ℕ) → CardClass
class_named p name = unwrap_or (or_else (option_map (Own 0) (offset_of p name)) (let files = p.files
    in external_from 0 files.exports name)) (Own 0 0)

-- the class_ref of a class by its name
abbrev pub class_ref : Pair → (name : List ℕ) → ClassRef
class_ref p name = ref_to (class_named p name)

-- ---- types

-- values of the type are on the card
abbrev pub is_card_sort : Sort → Bool
is_card_sort Boolean = true
is_card_sort Byte = true
is_card_sort Short = true
is_card_sort Int = true
is_card_sort (Reference shape) = true
is_card_sort NoValue = false

-- the same of a result
abbrev pub is_card_result : Option Sort → Bool
is_card_result None = true
is_card_result (Some sort) = is_card_sort sort

-- the same of a field's type, or of all types of a method
abbrev pub is_card_type : (desc : List ℕ) → Option Signature → Bool
is_card_type desc None = is_card_sort (field_sort desc)
is_card_type desc (Some types) = list_all is_card_sort types.params && is_card_result types.result

-- The nibbles of a descriptor of a class file; none where the card has no values of one of its types.
abbrev pub nibbles_of : Pair → (desc : List ℕ) → Option (List ℕ)
nibbles_of p desc = if is_card_type desc (signature_of desc) then Some (nibbles_by (class_ref p) desc
    (signature_of desc)) else None

-- ---- methods: the k-th method of the i-th class of Descriptor is that of the i-th class of the package

-- a method of the package with what Descriptor says of it
pub record Described : Type 0 where
  pub class : Class
  pub member : Found
  -- the class that Descriptor lists it under
  pub holder : ClassRef
  pub method : MethodDescriptor

-- the methods of a class
abbrev pub described_in : Class → ClassRef → List Found → List MethodDescriptor → List Described
described_in c holder (f ∷ members) (m ∷ methods) = record { class = c; member = f; holder = holder; method = m }
    ∷ described_in c holder members methods
described_in c holder members methods = []

-- the methods of classes, class by class
abbrev pub described_among : List Class → List Class → List ClassDescriptor → List Described
described_among w (c ∷ order) (d ∷ classes) = described_in c d.this_class (methods_of_class w c) d.methods
    ++ described_among w order classes
described_among w order classes = []

-- all methods of the package, those of interfaces too
abbrev pub described : Pair → List Described
described p = let c = p.components in let d = c.descriptor in described_among (world p) (class_order
    (world p)) d.classes

-- the method of a class whose header stands at an offset
abbrev pub is_method_at : (offset : ℕ) → Described → Bool
is_method_at offset d = let c = d.class in let m = d.method in not (is_interface c.flags) && (m.offset == offset)

-- the same among all methods
abbrev pub method_at : Pair → (offset : ℕ) → Option Described
method_at p offset = find (is_method_at offset) (described p)

-- the package's method
abbrev pub member_of : Pair → Described → Member
member_of p d = let f = d.member in method_in (world p) d.class f.member

-- the same member of the same class of the package
abbrev pub same_found : Found → Found → Bool
same_found f g = not f.imported && not g.imported && (f.class == g.class) && (f.member == g.member)

-- where the header of a method of the package stands, by Descriptor
abbrev pub method_offset : Pair → Found → ℕ
method_offset p f = unwrap_or (option_map (λ (d : Described). let m = d.method in m.offset)
    (find (λ (d : Described). same_found d.member f) (described p))) 0
