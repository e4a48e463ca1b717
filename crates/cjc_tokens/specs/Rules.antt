-- Rule 413, and the two rules that tokens stand on.
use Rattle.std.specs.Prelude.{◌≡◌, ◌≤◌, ℕ, ◌+◌, List, [], ◌∷◌, ◌++◌, length, count_by, All, nat_le, nat_lt}
use Rattle.std.specs.Prelude.{slice_get, Bool, true, false, ◌&&◌, ◌||◌, if◌then◌else◌, Option, Some, None}
use Rattle.std.specs.List.{list_all, list_any}
use Rattle.cjc_bytes.specs.declared.settings.FileLine.{FileLine}
use Rattle.cjc_world.specs.ClassFile.declared.tree.ClassTree.{ClassTree}
use Rattle.cjc_world.specs.Files.{Files}
use Rattle.cjc_world.specs.Classes.{Class, declared, all_classes}
use Rattle.cjc_bytes.specs.AccessFlags.{is_interface}
use Rattle.cjc_world.specs.Added.{added}
use Rattle.cjc_bytes.specs.Breaks.{Break, IsFirst, broken_at, class_spot}
use Rattle.cjc_bytes.specs.Order.{FilePlace, file_of}
use Rattle.cjc_tokens.specs.Members.{signature_of}
use Rattle.cjc_tokens.specs.Lines.{line_at}
use Rattle.cjc_tokens.specs.Slots.{hidden_slots, shown_token}
use Rattle.cjc_tokens.specs.Fields.{is_open_static, instance_cells}
use Rattle.cjc_tokens.specs.Methods.{interface_methods, is_open_bound, virtual_token}
use Rattle.cjc_world.specs.Exported.{is_exported}
use Rattle.cjc_tokens.specs.Tokens.{one_more}

-- ---- 401: more than 255 exported classes

-- how many of these classes are exported, the first of which has this number
abbrev pub count_exported : List Class → (applets : Bool) → (number : ℕ) → List ClassTree → ℕ
count_exported w applets k [] = 0
count_exported w applets k (c ∷ cs) = one_more (is_exported w applets (declared k c)) (count_exported w applets (k + 1)
    cs)

-- 401 is not broken.
abbrev pub FewExported : (applets : Bool) → Files → Type 0
FewExported applets files = count_exported (all_classes files) applets 0 files.classes ≤ 255

-- 401 is not broken, as a test
abbrev pub has_few_exported : (applets : Bool) → Files → Bool
has_few_exported applets files = nat_le (count_exported (all_classes files) applets 0 files.classes) 255

-- ---- 406: a class declares more than 255 cells of instance fields

-- The class does not break 406.
abbrev pub HasFewCells : ClassTree → Type 0
HasFewCells c = instance_cells c.fields ≤ 255

-- No class of the package breaks 406.
abbrev pub FewCells : Files → Type 0
FewCells files = All HasFewCells files.classes

-- the class does not break 406, as a test
abbrev pub has_few_cells : ClassTree → Bool
has_few_cells c = nat_le (instance_cells c.fields) 255

-- ---- 413: a virtual or interface method would get a token above 127, or a static field or method one above 254

-- there is a token, and it is above the limit
abbrev pub is_above : (limit : ℕ) → Option ℕ → Bool
is_above limit None = false
is_above limit (Some t) = nat_lt limit t

-- a virtual method that the class declares or gets from its interfaces has a token above 127
abbrev pub has_high_method : List Class → Class → Bool
has_high_method w c =
    list_any (λ m. is_above 127 (virtual_token (shown_token (line_at w c)) (hidden_slots (line_at w c)) m)) c.methods
    || list_any (λ m. is_above 127 (shown_token (line_at w c) (signature_of m))) (added w c)

-- A method that an interface inherits has a token in it too.
unfoldable pub has_high_token : List Class → (exported : Bool) → (number : ℕ) → ClassTree → Bool
has_high_token w exported number c =
    (if is_interface c.flags then nat_lt 128 (length (interface_methods w (declared number c)))
    else has_high_method w (declared number c)
    || (exported && nat_lt 255 (count_by is_open_bound (declared number c).methods)))
    || (exported && nat_lt 255 (count_by is_open_static c.fields))

-- at a class of this name, which is the first of its file
abbrev pub at_class : FilePlace → List ℕ → Break
at_class f class_name = broken_at (class_spot f 1 class_name) 413

-- the break where there is one, else nothing
abbrev pub breaks_where : Bool → Break → List Break
breaks_where true b = b ∷ []
breaks_where false b = []

-- those of the class files in list order, from one on
unfoldable pub breaks_from : List Class → (applets : Bool) → List FileLine → (number : ℕ) → List ClassTree → List Break
breaks_from w applets lines k [] = []
breaks_from w applets lines k (c ∷ cs) = breaks_where (has_high_token w (is_exported w applets (declared k c)) k c)
    (at_class (file_of lines k) c.name) ++ breaks_from w applets lines (k + 1) cs

-- All that is broken of 413.
unfoldable pub token_breaks : (applets : Bool) → Files → List Break
token_breaks applets files = breaks_from (all_classes files) applets files.lines 0 files.classes

-- neither 401 nor 406 is broken
abbrev pub is_few : (applets : Bool) → Files → Bool
is_few applets files = has_few_exported applets files && list_all has_few_cells files.classes

-- Where one of the two is broken there are no tokens, and 413 counts as unbroken.
unfoldable pub tested_breaks : (applets : Bool) → Files → List Break
tested_breaks applets files = if is_few applets files then token_breaks applets files else []

-- None where there is no break, else the number of the class whose break is the first.
abbrev pub IsFirstHigh : (applets : Bool) → Files → Option ℕ → Type 0
IsFirstHigh applets files None = tested_breaks applets files ≡ []
IsFirstHigh applets files (Some n) = (c : ClassTree) × (slice_get files.classes n ≡ Some c)
    × IsFirst (at_class (file_of files.lines n) c.name) (tested_breaks applets files)
