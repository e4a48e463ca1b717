-- The export file of a package (Java Card Virtual Machine Specification 2.2.2, chapter 5).
use Rattle.std.specs.Prelude.{ℕ, ◌+◌, ◌-◌, ◌&&◌, ◌||◌, List, [], ◌∷◌, ◌++◌, map, length, unwrap_or, bit_and, Bool, true}
use Rattle.std.specs.Prelude.{not, if◌then◌else◌, Option, Some, None, option_and_then, option_map}
use Rattle.cjc_list.specs.Bytes.AccessFlags.{is_interface, acc_super, acc_shareable}
use Rattle.cjc_clinit.specs.ClassFile.declared.tree.FieldTree.{FieldTree}
use Rattle.cjc_check_rules.specs.ExportFile.declared.tree.ExportField.{ExportField}
use Rattle.cjc_check_rules.specs.ExportFile.declared.tree.ExportMethod.{ExportMethod}
use Rattle.cjc_check_rules.specs.ExportFile.declared.tree.ExportClass.{ExportClass}
use Rattle.cjc_check_rules.specs.ExportFile.declared.tree.ExportTree.{ExportTree}
use Rattle.cjc_clinit.specs.World.declared.found.Found.{Found}
use Rattle.cjc_clinit.specs.World.Classes.{Member, Class, class_at}
use Rattle.cjc_clinit.specs.World.Added.{added}
use Rattle.cjc_clinit.specs.World.Lookup.{member_at}
use Rattle.cjc_vtable.specs.LowerClassOrder.Supers.Supers.{superclasses, interfaces}
use Rattle.cjc_vtable.specs.LowerTokens.Members.{Signature, has as is_among, is_exposed, is_initialiser, signatures}
use Rattle.cjc_vtable.specs.LowerTokens.Fields.{is_constant}
use Rattle.cjc_vtable.specs.LowerTokens.Lines.{line_at}
use Rattle.cjc_vtable.specs.LowerTokens.Slots.{row}
use Rattle.cjc_vtable.specs.LowerTokens.Methods.{interface_methods, interface_row}
use Rattle.cjc_vtable.specs.LowerTokens.Tokens.{token_of_class}
use Rattle.cjc_vtable.specs.Tables.{is_own}
use Rattle.cjc_components.specs.Package.{Package, world, tokens, has_applets}
use Rattle.cjc_components.specs.Class.{fields_of, is_shareable}
use Rattle.cjc_components.specs.Names.{member_token}
use Rattle.cjc_components.specs.Descriptor.{as_added, method_in}
use Rattle.cjc_components.specs.Exports.{exported_classes}

-- ---- classes

-- flags without one
abbrev pub without : (flags flag : ℕ) → ℕ
without flags flag = flags - bit_and flags flag

-- the flags of the class file without ACC_SUPER, and ACC_SHAREABLE where the class is shareable
abbrev pub class_flags : List Class → Class → ℕ
class_flags w c = without (without c.flags acc_super) acc_shareable + (if is_shareable w c then acc_shareable else 0)

-- ---- fields

-- the field at a place of a class
abbrev pub field_entry : Package → Class → (place : ℕ) → FieldTree → ExportField
field_entry p c i f = record {
  token = member_token p (Some (member_at c i));
  flags = f.flags;
  name = f.name;
  desc = f.desc;
  constant = if is_constant f then f.constant else None;
}

-- the public and protected ones among those from a place on
abbrev pub fields_from : Package → Class → (place : ℕ) → List FieldTree → List ExportField
fields_from p c i [] = []
fields_from p c i (f ∷ fields) = (if is_exposed f.flags then field_entry p c i f ∷ [] else [])
    ++ fields_from p c (i + 1) fields

-- ---- its own methods

-- a method by its token
abbrev pub method_entry : (token : ℕ) → Member → ExportMethod
method_entry token m = record { token = token; flags = m.flags; name = m.name; desc = m.desc }

-- whether others may name a method that a class declares: of an interface each
abbrev pub is_listed : Class → Member → Bool
is_listed c m = (is_interface c.flags || is_exposed m.flags) && not (is_initialiser m.name)

-- those among the methods from a place on
abbrev pub methods_from : Package → Class → (place : ℕ) → List Member → List ExportMethod
methods_from p c i [] = []
methods_from p c i (m ∷ methods) = (if is_listed c m then method_entry (member_token p (Some (member_at c i))) m ∷ []
    else []) ++ methods_from p c (i + 1) methods

-- the methods that are added to a class, the first of which has this place
abbrev pub added_from : Package → Class → (place : ℕ) → List Member → List ExportMethod
added_from p c i [] = []
added_from p c i (m ∷ methods) = method_entry (member_token p (Some (member_at c i))) (as_added m)
    ∷ added_from p c (i + 1) methods

-- ---- inherited methods

-- the method that a token means, by the class that declares it or got it
abbrev pub method_meant : List Class → Found → Option Member
method_meant w f = option_map (λ c. method_in w c f.member) (class_at w f.imported f.class)

-- a public or protected method
abbrev pub exposed_entry : (token : ℕ) → Option Member → List ExportMethod
exposed_entry t None = []
exposed_entry t (Some m) = if is_exposed m.flags then method_entry t m ∷ [] else []

-- what a class inherits by a token: nothing where the method is its own
abbrev pub inherited_at : List Class → Class → (token : ℕ) → Option Found → List ExportMethod
inherited_at w c t f = if is_own c.number f then [] else exposed_entry t (option_and_then (method_meant w) f)

-- by token, from one on
abbrev pub inherited_from : List Class → Class → (token : ℕ) → List (Option Found) → List ExportMethod
inherited_from w c t [] = []
inherited_from w c t (f ∷ row) = inherited_at w c t f ++ inherited_from w c (t + 1) row

-- an interface has a method of this signature itself
abbrev pub declares : Class → Signature → Bool
declares c s = is_among (signatures (λ m. true) c.methods) s

-- a method, whatever its flags
abbrev pub super_entry : (token : ℕ) → Option Member → List ExportMethod
super_entry t None = []
super_entry t (Some m) = method_entry t m ∷ []

-- what an interface inherits by a token, whatever its flags: nothing where it declares such a method
abbrev pub super_at : List Class → Class → (token : ℕ) → Signature → Option Found → List ExportMethod
super_at w c t s None = []
super_at w c t s (Some f) = if declares c s then [] else super_entry t (method_meant w f)

-- by token, from one on, with the methods that the tokens mean
abbrev pub supers_from : List Class → Class → (token : ℕ) → List Signature → List (Option Found) → List ExportMethod
supers_from w c t (s ∷ methods) (f ∷ row) = super_at w c t s f ++ supers_from w c (t + 1) methods row
supers_from w c t methods row = []

-- The methods that a class inherits: of a class public and protected ones, of an interface those of its
-- superinterfaces.
abbrev pub inherited : List Class → Class → List ExportMethod
inherited w c =
    if is_interface c.flags then supers_from w c 0 (interface_methods w c) (interface_row w c)
    else inherited_from w c 0 (row (line_at w c))

-- ---- all

-- a class: its members, the methods that are added to it, and those that it inherits
abbrev pub export_class : Package → Class → ExportClass
export_class p c = let w = world p in record {
  token = unwrap_or (token_of_class (tokens p) c.number) 0xFF;
  flags = class_flags w c;
  name = c.name;
  listed = superclasses w c;
  supers = superclasses w c;
  interfaces = interfaces w c;
  fields = fields_from p c 0 (fields_of p.files c);
  methods = methods_from p c (length c.fields) c.methods
      ++ (added_from p c (length c.fields + length c.methods) (added w c) ++ inherited w c);
}

-- The export file of a package: the classes that others may name, by token. It is a library's where the list has no
-- applet.
abbrev pub export_of : Package → ExportTree
export_of p = let list = p.list in record {
  name = list.package;
  aid = list.aid;
  major = list.major;
  minor = list.minor;
  library = not (has_applets p);
  classes = map (export_class p) (exported_classes p);
}
