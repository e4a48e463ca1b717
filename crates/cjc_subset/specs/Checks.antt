-- What is broken of 301, 302, 304 to 307, 309, 310 and 401 to 409, and where.
use Rattle.std.specs.Prelude.{ℕ, List, ◌++◌, length, Bool, false, not, ◌&&◌, nat_lt, Option, Some, None, is_some}
use Rattle.std.specs.List.{list_any}
use Rattle.cjc_bytes.specs.declared.fault.MemberId.{MemberId}
use Rattle.cjc_bytes.specs.declared.settings.Settings.{Settings}
use Rattle.cjc_code.specs.ClassFile.declared.tree.ClassTree.{ClassTree}
use Rattle.cjc_code.specs.ClassFile.declared.tree.FieldTree.{FieldTree}
use Rattle.cjc_code.specs.ClassFile.declared.tree.MethodTree.{MethodTree}
use Rattle.cjc_code.specs.declared.insn.JInsn.{JInsn}
use Rattle.cjc_code.specs.declared.insn.JOp.{JOp}
use Rattle.cjc_code.specs.declared.insn.JOp.TheVariants as jop
use Rattle.cjc_code.specs.declared.method_code.MethodCode.{MethodCode}
use Rattle.cjc_world.specs.declared.found.Found.{Found}
use Rattle.cjc_world.specs.Added.{added_at}
use Rattle.cjc_world.specs.Classes.{all_classes}
use Rattle.cjc_bytes.specs.AccessFlags.{is_interface}
use Rattle.cjc_world.specs.Files.{Files}
use Rattle.cjc_bytes.specs.Breaks.{Break, at, each, list_spot}
use Rattle.cjc_subset.specs.Members.{is_constant}
use Rattle.cjc_subset.specs.Names.{field_found}
use Rattle.cjc_subset.specs.Places.{at_class, at_field, at_method, of_code}
use Rattle.cjc_bytes.specs.Order.{FilePlace, file_of}
use Rattle.cjc_subset.specs.Types.{is_unsupported_desc, is_int_desc, names_unsupported, names_int}
use Rattle.cjc_subset.specs.Flags.{is_unfit_class, is_unfit_field, is_unfit_method}
use Rattle.cjc_subset.specs.Exports.{export_breaks}
use Rattle.cjc_subset.specs.Overriding.{gets_hidden, overriding_breaks}
use Rattle.cjc_subset.specs.Applets.{has_unfit_applets}
use Rattle.cjc_subset.specs.Limits.{has_deep_stack, has_many_cells, has_many_exported, has_many_handlers}
use Rattle.cjc_subset.specs.Limits.{has_many_interfaces, has_many_locals}

-- ---- 310: an instruction names a field of an imported class that is no constant

-- a field was found, and it is one of an imported class that is no constant
abbrev pub is_imported_variable : Files → Option Found → Bool
is_imported_variable files None = false
is_imported_variable files (Some f) = f.imported && not (is_constant files f)

-- the instruction reads or writes a field of an imported class that is no constant
unfoldable pub names_variable : Files → JOp → Bool
names_variable files (jop.Static put id) = is_imported_variable files (field_found (all_classes files) id)
names_variable files (jop.Field put id) = is_imported_variable files (field_found (all_classes files) id)
names_variable files _ = false

-- ---- by instructions

-- of 301, 302 and 310, at an instruction of the method at this place of the class
unfoldable pub insn_breaks : Files → Settings → FilePlace → ClassTree → (method : ℕ) → MethodTree → JInsn → List Break
insn_breaks files settings f c i m insn =
    at (names_unsupported insn.op) (at_method f c i m insn.at) 301
    ++ at (not settings.ints && names_int insn.op) (at_method f c i m insn.at) 302
    ++ at (names_variable files insn.op) (at_method f c i m insn.at) 310

-- of a method that has these instructions
unfoldable pub code_breaks : Files → Settings → MethodCode → List Break
code_breaks files settings code =
    of_code files code.class code.method (λ f c m. each (λ _ insn. insn_breaks files settings f c code.method m insn)
    code.insns)

-- ---- by classes and their members

-- of 301, 302 and 304, at the field at this place of the class
unfoldable pub field_breaks : Settings → FilePlace → ClassTree → (place : ℕ) → FieldTree → List Break
field_breaks settings f c i m =
    at (is_unsupported_desc m.desc) (at_field f c i m) 301
    ++ at (not settings.ints && is_int_desc m.desc) (at_field f c i m) 302
    ++ at (is_unfit_field (is_interface c.flags) m.flags) (at_field f c i m) 304

-- of 301, 302, 304, 404 and 405, at the method at this place of the class
unfoldable pub method_breaks : Settings → FilePlace → ClassTree → (place : ℕ) → MethodTree → List Break
method_breaks settings f c i m =
    at (is_unsupported_desc m.desc) (at_method f c i m 0) 301
    ++ at (not settings.ints && is_int_desc m.desc) (at_method f c i m 0) 302
    ++ at (is_unfit_method (is_interface c.flags) m.flags m.name (is_some m.code)) (at_method f c i m 0) 304
    ++ at (has_many_locals m.code) (at_method f c i m 0) 404
    ++ at (has_deep_stack m.code) (at_method f c i m 0) 405

-- one of the methods that an abstract class gets from its interfaces
abbrev pub has_unsupported : List MemberId → Bool
has_unsupported added = list_any (λ m. is_unsupported_desc m.desc) added

-- one of the methods that an abstract class gets has int in its descriptor
abbrev pub has_int : List MemberId → Bool
has_int added = list_any (λ m. is_int_desc m.desc) added

-- at the class of this number itself
unfoldable pub own_breaks : Files → Settings → FilePlace → (number : ℕ) → ClassTree → List Break
own_breaks files settings f n c =
    at (has_unsupported (added_at files n)) (at_class f c) 301
    ++ at (not settings.ints && has_int (added_at files n)) (at_class f c) 302
    ++ at (is_unfit_class c.flags) (at_class f c) 304
    ++ at (gets_hidden files c (added_at files n)) (at_class f c) 305
    ++ at (has_many_interfaces files c) (at_class f c) 403
    ++ at (has_many_cells c) (at_class f c) 406

-- at the class and its members
unfoldable pub class_breaks : Files → Settings → FilePlace → (number : ℕ) → ClassTree → List Break
class_breaks files settings f n c =
    own_breaks files settings f n c
    ++ each (λ i m. field_breaks settings f c i m) c.fields
    ++ each (λ i m. method_breaks settings f c i m) c.methods
    ++ overriding_breaks files f c

-- ---- by the list

-- of 301 and 304 in export files, and of 309, 401, 402, 407, 408 and 409, which are broken by the package as a whole
unfoldable pub list_breaks : (list : List ℕ) → Files → Settings → List Break
list_breaks list files settings =
    export_breaks files
    ++ at (has_unfit_applets (all_classes files) settings.applets) (list_spot list) 309
    ++ at (has_many_exported files settings) (list_spot list) 401
    ++ at (nat_lt 255 (length files.classes)) (list_spot list) 402
    ++ at (has_many_handlers files) (list_spot list) 407
    ++ at (nat_lt 255 (length files.package_name)) (list_spot list) 408
    ++ at (nat_lt 255 (length settings.applets)) (list_spot list) 409

-- All that is broken of these rules; the list's name is that of its file.
unfoldable pub check_breaks : (list : List ℕ) → Files → List MethodCode → Settings → List Break
check_breaks list files codes settings =
    list_breaks list files settings
    ++ each (λ n c. class_breaks files settings (file_of files.lines n) n c) files.classes
    ++ each (λ _ code. code_breaks files settings code) codes
