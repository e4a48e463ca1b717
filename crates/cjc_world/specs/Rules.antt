-- The rules of a world: a predicate for each, and where each is broken.
use Rattle.std.specs.Prelude.{ℕ, ◌+◌, ◌-◌, ◌==◌, ◌^◌, List, [], ◌∷◌, ◌++◌, map, length, take, drop, slice_get, Bool}
use Rattle.std.specs.Prelude.{true, false, not, ◌&&◌, ◌||◌, nat_le, nat_lt, if◌then◌else◌, Option, Some, None, position}
use Rattle.std.specs.Prelude.{codes}
use Rattle.std.specs.List.{list_any, list_all}
use Rattle.std.specs.Str.{bytes_eq}
use Rattle.cjc_bytes.specs.declared.order.FileKey.{FileKey}
use Rattle.cjc_bytes.specs.declared.order.FileKey.TheVariants as keys
use Rattle.cjc_bytes.specs.declared.settings.FileLine.{FileLine}
use Rattle.cjc_bytes.specs.Descriptor.{Parts}
use Rattle.cjc_bytes.specs.Spots.{desc_of}
use Rattle.cjc_classfile.specs.declared.tree.ClassTree.{ClassTree}
use Rattle.cjc_export.specs.declared.tree.ExportTree.{ExportTree}
use Rattle.cjc_world.specs.Files.{Files}
use Rattle.cjc_world.specs.Classes.{Member, Class, declared, numbered, size, all_classes, class_named}
use Rattle.cjc_bytes.specs.AccessFlags.{is_interface}
use Rattle.cjc_world.specs.Supertypes.{supertypes, stands, stands_above, is_below}
use Rattle.cjc_world.specs.Lookup.{is_called, object}
use Rattle.cjc_world.specs.Added.{added}
use Rattle.cjc_bytes.specs.Breaks.{Break, broken_at, class_spot, list_spot, member_spot}
use Rattle.cjc_bytes.specs.Refused.{field_text, method_text}

-- ---- 201: the name of a class of the package is not the package's name, a slash and one name part

-- letters, digits, _ and $
abbrev pub is_part_byte : ℕ → Bool
is_part_byte b =
    nat_le 97 b && nat_le b 122 || nat_le 65 b && nat_le b 90 || nat_le 48 b && nat_le b 57 || (b == 95) || (b == 36)

-- one part of a name, which is not empty
abbrev pub is_part : List ℕ → Bool
is_part bytes = not (length bytes == 0) && list_all is_part_byte bytes

-- what stands behind a slash
abbrev pub is_slash_part : List ℕ → Bool
is_slash_part [] = false
is_slash_part (b ∷ bs) = (b == 47) && is_part bs

-- the name of the package, a slash and one name part, which a class's name has to be
unfoldable pub is_of_package : List ℕ → List ℕ → Bool
is_of_package package_name name = bytes_eq (take (length package_name) name) package_name
    && is_slash_part (drop (length package_name) name)

-- ---- 202: a class or package stands in two files, or a member twice in a class

-- both are of the same kind of file and have the same number, so they are one class
abbrev pub same_place : Class → Class → Bool
same_place c d = (if c.is_imported then d.is_imported else not d.is_imported) && (c.number == d.number)

-- there is a second class, and it is not the first
abbrev pub is_other : Class → Option Class → Bool
is_other c None = false
is_other c (Some d) = not (same_place c d)

-- an earlier class has the name
unfoldable pub is_second : List Class → Class → Bool
is_second w c = is_other c (class_named w c.name)

-- the package's own name, or that of an earlier export file
unfoldable pub is_second_package : Files → (export_file : ℕ) → ExportTree → Bool
is_second_package files e tree = bytes_eq tree.name files.package_name || list_any (λ t. bytes_eq t.name tree.name)
    (take e files.exports)

-- there is a first place, and it is before the second
abbrev pub is_earlier : Option ℕ → ℕ → Bool
is_earlier None i = false
is_earlier (Some k) i = nat_lt k i

-- an earlier one of these has the name and the descriptor of the one at this place
unfoldable pub is_twice : List Member → ℕ → (name desc : List ℕ) → Bool
is_twice ms i name desc = is_earlier (position (λ k. is_called name desc k) ms) i

-- ---- 203: a class that a superclass, an interface or a descriptor of a member names is in no file

-- there is no class
abbrev pub is_none_of : Option Class → Bool
is_none_of None = true
is_none_of (Some c) = false

-- no file has a class of the name
abbrev pub is_missing : List Class → List ℕ → Bool
is_missing w name = is_none_of (class_named w name)

-- behind [ of an array's descriptor: the class of the elements of all dimensions
unfoldable pub is_element_missing : List Class → List ℕ → Bool
is_element_missing w [] = false
is_element_missing w (b ∷ bs) = if b == 91 then is_element_missing w bs else (b == 76)
    && is_missing w (take (length bs - 1) bs)

-- of a type of a descriptor: the name of its class, the descriptor of an array, or nothing
unfoldable pub is_type_missing : List Class → List ℕ → Bool
is_type_missing w [] = false
is_type_missing w (b ∷ bs) = if b == 91 then is_element_missing w bs else is_missing w (b ∷ bs)

-- a parameter or the result names a class that is in no file
abbrev pub is_any_missing : List Class → Option Parts → Bool
is_any_missing w None = false
is_any_missing w (Some d) = list_any (λ p. is_type_missing w p.class) (d.params ++ d.result ∷ [])

-- Bytes that are no descriptor name nothing, and so do those that 32 bits don't count: no file has any.
unfoldable pub is_desc_missing : List Class → List ℕ → Bool
is_desc_missing w desc = nat_lt (length desc) (2 ^ 32) && is_any_missing w (desc_of desc)

-- one of its supers or interfaces
unfoldable pub lists_missing : List Class → Class → Bool
lists_missing w c = list_any (λ x. is_missing w x) c.supers || list_any (λ x. is_missing w x) c.interfaces

-- ---- 204: a class is its own superclass or superinterface over steps

-- the class stands above itself
abbrev pub is_own_super : List Class → Class → Bool
is_own_super w c = stands_above w c.name c.name

-- there is a class, and it is its own super
abbrev pub is_own_super_of : List Class → Option Class → Bool
is_own_super_of w None = false
is_own_super_of w (Some c) = is_own_super w c

-- some class is its own super
abbrev pub has_cycle : List Class → Bool
has_cycle w = list_any (λ c. is_own_super w c) w

-- some class that stands above this one is its own super; a class on a cycle stands above itself
unfoldable pub is_under_cycle : List Class → Class → Bool
is_under_cycle w c = list_any (λ d. stands d.name (supertypes w (c.supers ++ c.interfaces)) && is_own_super w d) w

-- ---- 203 again: the descriptor of a method that an abstract class gets names a class that is in no file. Which
-- ---- methods a class gets is told only where no cycle is at it or above it: else this counts as unbroken.

-- no class on a cycle stands above, and the descriptor of a method that the class gets names a class in no file
unfoldable pub gets_missing : List Class → Class → Bool
gets_missing w c = not (is_under_cycle w c) && list_any (λ m. is_desc_missing w m.desc) (added w c)

-- ---- 207: no export file is java/lang, or it lacks a class that is needed, or an exception is no subclass of
-- Throwable

-- the export file has a class of the name
abbrev pub has_class : ExportTree → List ℕ → Bool
has_class t name = list_any (λ c. bytes_eq c.name name) t.classes

-- the class that all exceptions are below
abbrev pub throwable : List ℕ
throwable = codes "java/lang/Throwable"

-- the export file has a class of the name, which is java/lang/Throwable or a subclass of it
abbrev pub has_exception : List Class → ExportTree → List ℕ → Bool
has_exception w t name = has_class t name && is_below w name throwable

-- the export file has java/lang/Object and java/lang/Throwable
unfoldable pub has_roots : ExportTree → Bool
has_roots t = has_class t object && has_class t throwable

-- it has the exceptions of wrong indices, stores and sizes of arrays, as subclasses of Throwable
unfoldable pub has_array_exceptions : List Class → ExportTree → Bool
has_array_exceptions w t =
    has_exception w t (codes "java/lang/ArrayIndexOutOfBoundsException")
    && has_exception w t (codes "java/lang/ArrayStoreException")
    && has_exception w t (codes "java/lang/NegativeArraySizeException")

-- it has the exceptions of division by zero, wrong casts and null, as subclasses of Throwable
unfoldable pub has_other_exceptions : List Class → ExportTree → Bool
has_other_exceptions w t =
    has_exception w t (codes "java/lang/ArithmeticException")
    && has_exception w t (codes "java/lang/ClassCastException")
    && has_exception w t (codes "java/lang/NullPointerException")

-- it has all the classes that a package needs of java/lang
unfoldable pub has_needed : List Class → ExportTree → Bool
has_needed w t = has_roots t && has_array_exceptions w t && has_other_exceptions w t

-- the first of these that is java/lang has all that is needed
unfoldable pub has_language : List Class → List ExportTree → Bool
has_language w [] = false
has_language w (t ∷ ts) = if bytes_eq t.name (codes "java/lang") then has_needed w t else has_language w ts

-- ---- 208: a superclass is an interface, a listed interface is a class, an interface has a superclass other than
-- ---- java/lang/Object, or a class of an export file lists a class of the package

-- there is a class, and it is an interface
abbrev pub is_interface_of : Option Class → Bool
is_interface_of None = false
is_interface_of (Some c) = is_interface c.flags

-- there is a class, and it is no interface
abbrev pub is_class_of : Option Class → Bool
is_class_of None = false
is_class_of (Some c) = not (is_interface c.flags)

-- there is a class, and it is of a class file
abbrev pub is_of_class_file : Option Class → Bool
is_of_class_file None = false
is_of_class_file (Some c) = not c.is_imported

-- one of the supers or interfaces that the class lists may not stand there
unfoldable pub lists_wrong : List Class → Class → Bool
lists_wrong w c =
    list_any (λ x. is_interface_of (class_named w x)) c.supers
    || list_any (λ x. is_class_of (class_named w x)) c.interfaces
    || (is_interface c.flags && list_any (λ x. not (bytes_eq x object)) c.supers)
    || (c.is_imported && (list_any (λ x. is_of_class_file (class_named w x)) c.supers
    || list_any (λ x. is_of_class_file (class_named w x)) c.interfaces))

-- ---- what is broken, and where

-- the rule where it is broken, else nothing
abbrev pub when : Bool → ℕ → List ℕ
when true rule = rule ∷ []
when false rule = []

-- the first of a list
unfoldable pub head : {A : Type 0} → List A → Option A
head [] = None
head (x ∷ xs) = Some x

-- the rules that a class breaks itself, in ascending order; 201 and 203 speak of the package alone
unfoldable pub class_rules : List ℕ → List Class → Class → List ℕ
class_rules package_name w c =
    when (not c.is_imported && not (is_of_package package_name c.name)) 201
    ++ when (is_second w c) 202
    ++ when (not c.is_imported && (lists_missing w c || gets_missing w c)) 203
    ++ when (is_own_super w c) 204
    ++ when (lists_wrong w c) 208

-- those that a field or method breaks, at its place among these
unfoldable pub member_rules : List Class → Class → List Member → ℕ → (name desc : List ℕ) → List ℕ
member_rules w c ms i name desc = when (is_twice ms i name desc) 202 ++ when (not c.is_imported
    && is_desc_missing w desc) 203

-- a rule that is broken at a class of a file; the place 0 and no name stand for the file itself
abbrev pub at_class : FileKey → List ℕ → ℕ → List ℕ → ℕ → Break
at_class file file_name class class_name rule = broken_at (class_spot (record { key = file; name = file_name }) class
    class_name) rule

-- a field or a method, as a refusal names it
abbrev pub told : (field : Bool) → (name desc : List ℕ) → List ℕ
told true name desc = field_text name desc
told false name desc = method_text name desc

-- the fields or the methods of a class, and how many members are counted before them
abbrev pub members : (field : Bool) → Class → List Member
members true c = c.fields
members false c = c.methods

-- how many members of a class are counted before its fields, or before its methods
abbrev pub members_before : (field : Bool) → Class → ℕ
members_before true c = 0
members_before false c = length c.fields

-- a rule that is broken at a field or method of a class
abbrev pub at_member : FileKey → List ℕ → ℕ → List ℕ → ℕ → List ℕ → ℕ → Break
at_member file file_name class class_name member text rule =
    broken_at (member_spot (record { key = file; name = file_name }) class class_name member text 0) rule

-- of the fields or the methods of a class from a place on
unfoldable pub members_from : FileKey → List ℕ → ℕ → List Class → Class → (field : Bool) → ℕ → List Member → List Break
members_from file file_name class w c field i [] = []
members_from file file_name class w c field i (m ∷ rest) =
    map (λ rule. at_member file file_name class c.name (members_before field c + i + 1) (told field m.name m.desc) rule)
    (member_rules w c (members field c) i m.name m.desc)
    ++ members_from file file_name class w c field (i + 1) rest

-- of a class, which has this number in its file, and of its fields and methods
unfoldable pub class_breaks : List ℕ → FileKey → List ℕ → ℕ → List Class → Class → List Break
class_breaks package_name file file_name class w c =
    map (λ rule. at_class file file_name class c.name rule) (class_rules package_name w c)
    ++ members_from file file_name class w c true 0 c.fields
    ++ members_from file file_name class w c false 0 c.methods

-- of classes of a file, the first with this number there and the others with those that follow
unfoldable pub classes_breaks : List ℕ → FileKey → List ℕ → ℕ → List Class → List Class → List Break
classes_breaks package_name file file_name class w [] = []
classes_breaks package_name file file_name class w (c ∷ cs) =
    class_breaks package_name file file_name class w c ++ classes_breaks package_name file file_name (class + 1) w cs

-- what is broken in a class file; nothing where there is no file
abbrev pub class_file_breaks : Files → FileKey → List ℕ → List Class → ℕ → Option ClassTree → List Break
class_file_breaks files file file_name w number None = []
class_file_breaks files file file_name w number (Some c) = class_breaks files.package_name file file_name 1 w
    (declared number c)

-- what is broken in an export file, by its package's name first; nothing where there is no file
abbrev pub export_file_breaks : Files → FileKey → List ℕ → List Class → (export_file number : ℕ) → Option ExportTree
    → List Break
export_file_breaks files file file_name w e number None = []
export_file_breaks files file file_name w e number (Some t) =
    map (λ rule. at_class file file_name 0 [] rule) (when (is_second_package files e t) 202)
    ++ classes_breaks files.package_name file file_name 1 w (numbered number t.classes)

-- of the files of these lines, where so many lines, class files, export files and classes of export files stand before
unfoldable pub breaks_from : Files → List Class → (file class_files export_files imports : ℕ) → List FileLine
    → List Break
breaks_from files w k c e i [] = []
breaks_from files w k c e i (line ∷ lines) =
    if line.class_file
    then class_file_breaks files (keys.Line k) line.name w c (slice_get files.classes c)
    ++ breaks_from files w (k + 1) (c + 1) e i lines
    else export_file_breaks files (keys.Line k) line.name w e i (slice_get files.exports e)
    ++ breaks_from files w (k + 1) c (e + 1) (i + size (slice_get files.exports e)) lines

-- All that is broken of 201, 202, 203, 204, 207 and 208; the list's name is that of the file.
unfoldable pub breaks : (list : List ℕ) → Files → List Break
breaks list files =
    map (λ rule. broken_at (list_spot list) rule) (when (not (has_language (all_classes files) files.exports)) 207)
    ++ breaks_from files (all_classes files) 0 0 0 0 files.lines
