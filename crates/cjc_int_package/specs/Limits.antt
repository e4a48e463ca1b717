-- The limits of what is written for a package some of whose methods are in int mode, and where each is broken.
use Rattle.std.specs.Prelude.{◌+◌, Bool, true, false, nat_lt, ◌&&◌, ◌||◌, List, Option, Some, None}
use Rattle.std.specs.List.{list_any}
use Rattle.cjc_int_mode.specs.Bytes.Breaks.{Break, at}
use Rattle.cjc_world.specs.Classes.{Class, all_classes}
use Rattle.cjc_world.specs.Files.{Files}
use Rattle.cjc_components.specs.LowerTypes.Flow.{Body}
use Rattle.cjc_components.specs.LowerTypes.Search.{cells_of}
use Rattle.cjc_components.specs.LowerTypes.declared.cell.Cell.{Cell}
use Rattle.cjc_components.specs.LowerTypes.declared.cell.Cell.TheVariants as cells
use Rattle.cjc_components.specs.LowerTypes.declared.state.State.{State}
use Rattle.cjc_components.specs.LowerJvmSemantics.Linked.{Method}
use Rattle.cjc_components.specs.LowerJvmSemantics.OnePackage.{method_at}
use Rattle.cjc_components.specs.LowerNarrow.Rows.Package.{flags_of, read_of}
use Rattle.cjc_components.specs.LowerNarrow.Rows.Resolved.{method_found}
use Rattle.cjc_components.specs.Descriptor.{method_in}
use Rattle.cjc_components.specs.Limits.{else_of, form_breaks, has_many_words, method_spot, of_methods}
use Rattle.cjc_components.specs.Limits.{size_breaks}
use Rattle.cjc_components.specs.Package.{LaidMethod, Package, world}
use Rattle.cjc_int_mode.specs.Written.{argument_words, local_words, stack_words}
use Rattle.cjc_int_package.specs.Modes.{Tables, is_int}

-- ---- 417

-- no code may use the cell
abbrev pub is_unusable : Cell → Bool
is_unusable cells.Unusable = true
is_unusable _ = false

-- a cell of the stack is unusable before an instruction that the types reach
abbrev pub has_unusable_cell : Option State → Bool
has_unusable_cell None = false
has_unusable_cell (Some x) = list_any is_unusable (cells_of x.stack)

-- In int mode: arguments and locals together need more than 255 words, the operand stack does, or a cell of a stack of
-- the type table is unusable.
abbrev pub lacks_room : Body → List (Option State) → Bool
lacks_room b types =
    nat_lt 255 (argument_words b + local_words b types)
    || (nat_lt 255 (stack_words b) || list_any has_unusable_cell types)

-- a method of a class file is in int mode and has no room there
abbrev pub lacks_int_room : Tables → Files → Option Method → Bool
lacks_int_room t files None = false
lacks_int_room t files (Some m) =
    let id = m.id in
    is_int (t.mode m) && lacks_room (read_of m (flags_of (method_found (all_classes files) id))) (t.types m)

-- 417: the parameters of a method of a class, with the receiver, need more than 255 words, or it has no room in int
-- mode
abbrev pub word_breaks_by_modes : Tables → Package → Class → LaidMethod → List Break
word_breaks_by_modes t p c m = let f = m.member in let member = method_in (world p) c f.member in
    at (has_many_words member || lacks_int_room t p.files (method_at p.files f)) (method_spot p c f member 0) 417

-- ---- the whole

-- All that is broken of 311, 411 and 414 to 417. Header has as many bytes whatever its flags are, so 416 is that
-- of a package without modes.
abbrev pub limit_breaks_by_modes : Tables → Package → List Break
limit_breaks_by_modes t p =
    else_of (of_methods p (word_breaks_by_modes t p)) (else_of (form_breaks p) (size_breaks p))
