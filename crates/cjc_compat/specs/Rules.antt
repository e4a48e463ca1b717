-- Rules 741 to 745: whether a new version of an export file may stand in the place of the old one, so that what was
-- converted with the old one links with the new package (Java Card Virtual Machine Specification 2.2.2, sections 4.4
-- and 4.5). Each is a test; where it is broken, and which stands first, is a list of breaks.
use Rattle.std.specs.Prelude.{ℕ, ◌+◌, ◌==◌, ◌&&◌, ◌||◌, not, nat_lt, max, Bool, true, false, if◌then◌else◌, List, []}
use Rattle.std.specs.Prelude.{◌∷◌, ◌++◌, length, is_some, Option, Some, None}
use Rattle.std.specs.List.{find, list_any}
use Rattle.std.specs.Str.{bytes_eq}
use Rattle.cjc_export.specs.Bytes.AccessFlags.{acc_shareable, has, is_abstract, is_final, is_interface, is_static}
use Rattle.cjc_export.specs.Bytes.Breaks.{Break, RulePlace, at, class_spot, each, member_spot}
use Rattle.cjc_export.specs.Bytes.Order.{FilePlace}
use Rattle.cjc_export.specs.Bytes.Refused.{field_text, method_text}
use Rattle.cjc_export.specs.Bytes.declared.order.FileKey.TheVariants as keys
use Rattle.cjc_export.specs.Supers.{is_one_of, is_virtual}
use Rattle.cjc_export.specs.declared.tree.ExportClass.{ExportClass}
use Rattle.cjc_export.specs.declared.tree.ExportField.{ExportField}
use Rattle.cjc_export.specs.declared.tree.ExportMethod.{ExportMethod}
use Rattle.cjc_export.specs.declared.tree.ExportTree.{ExportTree}

-- whether both are so, or neither is
abbrev pub same : Bool → Bool → Bool
same true b = b
same false b = not b

-- ---- 741: the package

-- The name or the AID differs, or the major version does, or the new minor version is lower.
abbrev pub is_other_package : (old new : ExportTree) → Bool
is_other_package old new = not (bytes_eq new.name old.name) || not (bytes_eq new.aid old.aid)
    || not (new.major == old.major) || nat_lt new.minor old.minor

-- ---- 742: a class, where the token is still one's

-- the first class of a token
abbrev pub with_token : ℕ → List ExportClass → Option ExportClass
with_token token classes = find (λ c. c.token == token) classes

-- whether ACC_SHAREABLE is among the flags of a class
abbrev pub is_shareable : ℕ → Bool
is_shareable flags = has flags acc_shareable

-- both are interfaces or neither is; so it is with abstract, final and shareable
abbrev pub is_of_kind : (old new : ℕ) → Bool
is_of_kind old new = same (is_interface new) (is_interface old) && same (is_abstract new) (is_abstract old)
    && same (is_final new) (is_final old) && same (is_shareable new) (is_shareable old)

-- The class of the token has another name, or another kind.
abbrev pub is_other_class : (old new : ExportClass) → Bool
is_other_class old new = not (bytes_eq new.name old.name) || not (is_of_kind old.flags new.flags)

-- ---- 743: a member

-- whether a field is a constant, whose value was copied into what uses it, so that nothing refers to it
abbrev pub is_constant : ExportField → Bool
is_constant f = is_some f.constant

-- The new field has the token, name and descriptor of the old one, is static where that is, and is no constant.
abbrev pub is_field : (old new : ExportField) → Bool
is_field old new = not (is_constant new) && (new.token == old.token) && bytes_eq new.name old.name
    && bytes_eq new.desc old.desc && same (is_static new.flags) (is_static old.flags)

-- the field is no constant, and none of these is it
abbrev pub is_lost_field : List ExportField → ExportField → Bool
is_lost_field fields old = not (is_constant old) && not (list_any (λ f. is_field old f) fields)

-- The new method has the token, name and descriptor of the old one, and is static where that is.
abbrev pub is_method : (old new : ExportMethod) → Bool
is_method old new = (new.token == old.token) && bytes_eq new.name old.name && bytes_eq new.desc old.desc
    && same (is_static new.flags) (is_static old.flags)

-- none of these is the method
abbrev pub is_lost_method : List ExportMethod → ExportMethod → Bool
is_lost_method methods old = not (list_any (λ m. is_method old m) methods)

-- ---- 744: what subclasses and classes that implement count on

-- the least number above all tokens of virtual methods
abbrev pub virtual_end : List ExportMethod → ℕ
virtual_end [] = 0
virtual_end (m ∷ methods) = if is_virtual m then max (m.token + 1) (virtual_end methods) else virtual_end methods

-- The number of an interface's methods differs, or the greatest virtual token of a class that may have subclasses.
abbrev pub is_other_table : (old new : ExportClass) → Bool
is_other_table old new =
    if is_interface old.flags then not (length new.methods == length old.methods)
    else not (is_final old.flags) && not (virtual_end new.methods == virtual_end old.methods)

-- ---- 745: what stands above a class

-- one of these names is not among those
abbrev pub lacks_one : List (List ℕ) → List (List ℕ) → Bool
lacks_one new old = list_any (λ x. not (is_one_of new x)) old

-- The new class does not list a super or an interface that the old one lists.
abbrev pub is_less : (old new : ExportClass) → Bool
is_less old new = lacks_one new.listed old.listed || lacks_one new.interfaces old.interfaces

-- ---- where they are broken

-- the file of the new version, which is read behind that of the old one
abbrev pub new_file : List ℕ → FilePlace
new_file name = record { key = keys.Line 1; name = name }

-- the old class of this number
abbrev pub at_class : FilePlace → ℕ → ExportClass → RulePlace
at_class f n c = class_spot f (n + 1) c.name

-- the field of the old class at this place among its fields
abbrev pub at_field : FilePlace → ℕ → ExportClass → ℕ → ExportField → RulePlace
at_field f n c i m = member_spot f (n + 1) c.name (i + 1) (field_text m.name m.desc) 0

-- the method of the old class at this place among its methods
abbrev pub at_method : FilePlace → ℕ → ExportClass → ℕ → ExportMethod → RulePlace
at_method f n c i m = member_spot f (n + 1) c.name (length c.fields + i + 1) (method_text m.name m.desc) 0

-- of an old class against the new one of its token
abbrev pub kept_breaks : FilePlace → ℕ → (old new : ExportClass) → List Break
kept_breaks f n old new =
    at (is_other_class old new) (at_class f n old) 742 ++ at (is_other_table old new) (at_class f n old) 744
    ++ at (is_less old new) (at_class f n old) 745
    ++ each (λ i m. at (is_lost_field new.fields m) (at_field f n old i m) 743) old.fields
    ++ each (λ i m. at (is_lost_method new.methods m) (at_method f n old i m) 743) old.methods

-- of an old class against the new one of its token, where there is one
abbrev pub class_breaks : FilePlace → ℕ → (old : ExportClass) → (new : Option ExportClass) → List Break
class_breaks f n old None = at true (at_class f n old) 742
class_breaks f n old (Some new) = kept_breaks f n old new

-- What of 741 to 745 is broken where the new version, whose file has this name, stands in the place of the old one.
abbrev pub breaks : (file : List ℕ) → (old new : ExportTree) → List Break
breaks file old new =
    at (is_other_package old new) (class_spot (new_file file) 0 []) 741
    ++ each (λ n c. class_breaks (new_file file) n c (with_token c.token new.classes)) old.classes
