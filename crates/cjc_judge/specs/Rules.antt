-- Which rules a package breaks, where each stands in the order of refusals, and which of them is the first.
use Rattle.std.specs.Prelude.{◌≡◌, ◌⊎◌, ℕ, ◌+◌, List, [], ◌∷◌, length, nat_lt, Bool, true, false, Option, Some, Err}
use Rattle.std.specs.Prelude.{slice_get}
use Rattle.cjc_bytes.specs.Format.{FileSpells, FileBreaks}
use Rattle.cjc_bytes.specs.Refused.{refusal}
use Rattle.cjc_bytes.specs.declared.breaks.BrokenAt.{BrokenAt}
use Rattle.cjc_bytes.specs.declared.fault.Fault.{Fault}
use Rattle.cjc_bytes.specs.declared.fault.Fault.TheVariants as faults
use Rattle.cjc_bytes.specs.declared.fault.Refusal.{Refusal}
use Rattle.cjc_bytes.specs.declared.settings.FileLine.{FileLine}
use Rattle.cjc_bytes.specs.declared.settings.Settings.{Settings}
use Rattle.cjc_world.specs.ClassFile.ClassFile.{class_file, refusal_at}
use Rattle.cjc_world.specs.ClassFile.Code.{CodeTree}
use Rattle.cjc_world.specs.ClassFile.declared.tree.ClassTree.{ClassTree}
use Rattle.cjc_world.specs.ClassFile.declared.tree.MethodTree.{MethodTree}
use Rattle.cjc_clinit.specs.Bytecode.declared.method_code.MethodCode.{MethodCode}
use Rattle.cjc_clinit.specs.Bytecode.Decoded.{decoding_at}
use Rattle.cjc_clinit.specs.Bytecode.Decoded as decoded
use Rattle.cjc_world.specs.ExportFile.ExportFile.{export_file}
use Rattle.cjc_world.specs.ExportFile.declared.tree.ExportTree.{ExportTree}
use Rattle.cjc_list.specs.Listed.{ListTree}
use Rattle.cjc_world.specs.Classes.{all_classes}
use Rattle.cjc_world.specs.Files.{Files, files_of}
use Rattle.cjc_world.specs.Rules.{breaks}
use Rattle.cjc_bytes.specs.Breaks.{Break, Among, broken_at, each, IsFirstOf as FirstOfList}
use Rattle.cjc_bytes.specs.declared.order.FileKey.TheVariants as keys
use Rattle.cjc_bytes.specs.Order.{Rank, NotAfter, file_number, file_of}
use Rattle.cjc_clinit.specs.Subset.Names.{name_breaks}
use Rattle.cjc_clinit.specs.Subset.Checks.{check_breaks}
use Rattle.cjc_clinit.specs.Rules.{BreaksImage}
use Rattle.cjc_vtable.specs.LowerTokens.Rules.{tested_breaks}
use Rattle.cjc_clinit.specs.Subset.Places.{at_method, of_code}
use Rattle.cjc_narrow.specs.Types.Flow.{Body, body_of}
use Rattle.cjc_narrow.specs.Types.Tables.{IsMethodOf, IsBrokenBy}
use Rattle.cjc_judge.specs.Modes.{may_be_int}
use Rattle.cjc_judge.specs.OutOfRange.{IsOutOfRange}
use Rattle.cjc_clinit.specs.Bytecode.PackageCodes.{all_codes}
use Rattle.cjc_judge.specs.Codes.{all_unsupported_insns}
use Rattle.cjc_judge.specs.declared.groups.Group.{Group}
use Rattle.cjc_judge.specs.declared.groups.Group.TheVariants as groups
use Rattle.cjc_judge.specs.declared.reading.UnsupportedInsn.{UnsupportedInsn}
use Rattle.cjc_judge.specs.Spelt.{FileTree, SpellTrees, classes_of, exports_of}

-- ---- the rules that one file breaks, whatever the others say

-- The code of the method at this place of a class breaks this rule, first at this offset: 103, or 303 where 103 is not
-- broken.
abbrev pub CodeBreaks : ClassTree → (method rule offset : ℕ) → Type 0
CodeBreaks tree method rule offset = decoding_at tree method ≡ Err (record { rule = rule; offset = offset })

-- the refusal of this rule at this offset of a method's code, in the file of this line
abbrev pub code_refusal : (line : FileLine) → ClassTree → (method rule offset : ℕ) → Refusal
code_refusal line tree method rule offset = decoded.refusal_of line.name tree method (record {
  rule = rule;
  offset = offset;
})

-- the class itself is 0; then its fields, its methods
abbrev pub method_rank : ClassTree → ℕ → ℕ
method_rank tree method = 1 + length tree.fields + method

-- Those of the first hundred.
pub data FileBreach (line : FileLine) (bytes : List ℕ) : Type 0 where
  -- 101 and 102: the bytes spell no class file
  no_class_file : (place : ℕ) → line.class_file ≡ true → FileBreaks class_file bytes place → FileBreach line bytes
  -- 103: the code of a method is no run of instructions
  no_instructions : (tree : ClassTree) (method offset : ℕ) → line.class_file ≡ true → FileSpells class_file tree bytes
      → CodeBreaks tree method 103 offset → FileBreach line bytes
  -- 104: the bytes spell no export file
  no_export_file : (place : ℕ) → line.class_file ≡ false → FileBreaks export_file bytes place → FileBreach line bytes

-- the refusal that tells the breach, in the file of this line
abbrev pub file_refusal : (line : FileLine) (bytes : List ℕ) → FileBreach line bytes → Refusal
file_refusal line bytes (no_class_file place is breaks) = refusal_at line.name bytes place
file_refusal line bytes (no_instructions tree method offset is spelt breaks) = code_refusal line tree method 103 offset
file_refusal line bytes (no_export_file place is breaks) = refusal line.name 104 place

-- where it stands in the order, in the file of the line at this index of the list
abbrev pub file_rank : (index : ℕ) (line : FileLine) (bytes : List ℕ) → FileBreach line bytes → Rank
file_rank index line bytes (no_class_file place is breaks) = record {
  family = 1;
  file = file_number (keys.Line index);
  class = 0;
  member = 0;
  offset = place;
  rule = (refusal_at line.name bytes place).rule.0;
}
file_rank index line bytes (no_instructions tree method offset is spelt breaks) = record {
  family = 1;
  file = file_number (keys.Line index);
  class = 1;
  member = method_rank tree method;
  offset = offset;
  rule = 103;
}
file_rank index line bytes (no_export_file place is breaks) = record {
  family = 1;
  file = file_number (keys.Line index);
  class = 0;
  member = 0;
  offset = place;
  rule = 104;
}

-- The line at this index of the list, and the bytes of its file.
pub record FileAt (lines : List FileLine) (files : List (List ℕ)) (index : ℕ) : Type 0 where
  pub line : FileLine
  pub bytes : List ℕ
  pub is_line : slice_get lines index ≡ Some line
  pub is_file : slice_get files index ≡ Some bytes

-- ---- groups of rules: each says of a break, a refusal with its rank, whether it is one of its own

-- 101 to 104: a file by itself
abbrev pub file_break : (index : ℕ) (line : FileLine) (bytes : List ℕ) → FileBreach line bytes → Break
file_break index line bytes breach = record {
  rank = file_rank index line bytes breach;
  refusal = file_refusal line bytes breach;
}

-- a line's file breaks one of 101 to 104 by itself
abbrev pub BreaksFile : List FileLine → List (List ℕ) → Break → Type 0
BreaksFile lines files b = (index : ℕ) × (at : FileAt lines files index) × (breach : FileBreach at.line at.bytes)
    × (b ≡ file_break index at.line at.bytes breach)

-- 201, 202, 203, 204, 207 and 208: the classes and the export files that the files spell
abbrev pub world_files : ListTree → List ClassTree → List ExportTree → Files
world_files list classes exports = files_of list.«package» list.lines classes exports

-- the package and its world by a list and what its files spell
abbrev pub files_spelt : ListTree → List FileTree → Files
files_spelt list trees = world_files list (classes_of trees) (exports_of trees)

-- the classes and the export files together break one of 201, 202, 203, 204, 207 and 208
abbrev pub BreaksWorld : ListTree → List (List ℕ) → Break → Type 0
BreaksWorld list files b = (trees : List FileTree) × SpellTrees list.lines files trees
    × Among b (breaks list.name (files_spelt list trees))

-- The files spell these, and their classes break none of those rules: they are a world.
abbrev pub AreWorld : ListTree → List (List ℕ) → List FileTree → Type 0
AreWorld list files trees = SpellTrees list.lines files trees × (breaks list.name (files_spelt list trees) ≡ [])

-- 203, 205 and 206 of instructions and catch types, of the methods that break neither 103 nor 303
abbrev pub BreaksNames : ListTree → List (List ℕ) → Break → Type 0
BreaksNames list files b = (trees : List FileTree) × AreWorld list files trees
    × Among b (name_breaks (files_spelt list trees) (all_codes (classes_of trees)))

-- 303: the first instruction of a method that is not converted
unfoldable pub unsupported_break : Files → UnsupportedInsn → List Break
unsupported_break files x = of_code files x.class x.method (λ f c m. broken_at (at_method f c x.method m x.offset) 303
    ∷ [])

-- of all methods that have such an instruction
unfoldable pub unsupported_breaks : Files → List UnsupportedInsn → List Break
unsupported_breaks files xs = each (λ _ x. unsupported_break files x) xs

-- a method of the package has an instruction that is not converted
abbrev pub BreaksUnsupported : ListTree → List (List ℕ) → Break → Type 0
BreaksUnsupported list files b = (trees : List FileTree) × SpellTrees list.lines files trees
    × Among b (unsupported_breaks (files_spelt list trees) (all_unsupported_insns (classes_of trees)))

-- 301 to 310 but 303, and 401 to 409
abbrev pub settings_of : ListTree → Settings
settings_of list = record { ints = list.ints; applets = list.applets }

-- the package breaks one of 301 to 310 but 303, or of 401 to 409, under the settings of its list
abbrev pub BreaksSubset : ListTree → List (List ℕ) → Break → Type 0
BreaksSubset list files b = (trees : List FileTree) × AreWorld list files trees
    × Among b (check_breaks list.name (files_spelt list trees) (all_codes (classes_of trees)) (settings_of list))

-- 413, where neither 401 nor 406 is broken
abbrev pub has_applets : ListTree → Bool
has_applets list = nat_lt 0 (length list.applets)

-- the package breaks 413
abbrev pub BreaksTokens : ListTree → List (List ℕ) → Break → Type 0
BreaksTokens list files b = (trees : List FileTree) × AreWorld list files trees
    × Among b (tested_breaks (has_applets list) (files_spelt list trees))

-- 301, 302, 304 to 307, 309 and 310 of these, without the limits
abbrev pub IsOfThirdHundred : Break → Type 0
IsOfThirdHundred b = b.rank.family ≡ 3

-- the package breaks one of 301, 302, 304 to 307, 309 and 310
abbrev pub BreaksLanguage : ListTree → List (List ℕ) → Break → Type 0
BreaksLanguage list files b = BreaksSubset list files b × IsOfThirdHundred b

-- 308
abbrev pub BreaksInitialisers : ListTree → List (List ℕ) → Break → Type 0
BreaksInitialisers list files b = (trees : List FileTree) × AreWorld list files trees
    × BreaksImage (files_spelt list trees) (all_codes (classes_of trees)) b

-- some one of these breaks a rule
abbrev pub AnyBreaks : {A : Type 0} → (A → Break → Type 0) → List A → Break → Type 0
AnyBreaks {A} Breaks xs b = (i : ℕ) × (x : A) × (slice_get xs i ≡ Some x) × Breaks x b

-- A method breaks this at an instruction.
abbrev pub method_break : Files → MethodCode → ClassTree → MethodTree → BrokenAt → Break
method_break files code class method x = broken_at (at_method (file_of files.lines code.class) class code.method method
    x.offset) x.rule

-- The first that a method breaks of some rules, by what its body breaks in the package.
pub record BreaksMethod (Breaks : Files → MethodTree → Body → BrokenAt → Type 0) (files : Files) (code : MethodCode)
    (b : Break) : Type 0 where
  pub class : ClassTree
  pub method : MethodTree
  pub tree : CodeTree
  pub of_package : IsMethodOf files code class method tree
  pub broken : BrokenAt
  pub breaks : Breaks files method (body_of class method tree code.insns) broken
  pub is : b ≡ method_break files code class method broken

-- 501 to 503: a method breaks the first of them at the first of its instructions that breaks one
abbrev pub HasWrongTypes : Files → MethodTree → Body → BrokenAt → Type 0
HasWrongTypes files m b broken = IsBrokenBy (all_classes files) b broken

-- a method of the package breaks one of 501 to 503
abbrev pub BreaksType : Files → MethodCode → Break → Type 0
BreaksType files code b = BreaksMethod HasWrongTypes files code b

-- some one of these methods breaks one of 501 to 503
abbrev pub BreaksAnyType : Files → List MethodCode → Break → Type 0
BreaksAnyType files codes b = AnyBreaks (BreaksType files) codes b

-- some method of the package breaks one of 501 to 503
abbrev pub BreaksTypes : ListTree → List (List ℕ) → Break → Type 0
BreaksTypes list files b = (trees : List FileTree) × AreWorld list files trees × BreaksAnyType (files_spelt list trees)
    (all_codes (classes_of trees)) b

-- 601 to 609, of which 605 and 607 to 609 alone bind a method in int mode: a method that breaks none of 501 to 503
-- breaks the first of them at the first of its instructions that breaks one. `ints` says whether the list has the line
-- `int`.
abbrev pub HasWrongNumbers : (ints : Bool) → Files → MethodTree → Body → BrokenAt → Type 0
HasWrongNumbers ints files m b broken = IsOutOfRange (may_be_int ints m) files b broken

-- a method of the package breaks one of 601 to 609
abbrev pub BreaksRange : (ints : Bool) → Files → MethodCode → Break → Type 0
BreaksRange ints files code b = BreaksMethod (HasWrongNumbers ints) files code b

-- some one of these methods breaks one of 601 to 609
abbrev pub BreaksAnyRange : (ints : Bool) → Files → List MethodCode → Break → Type 0
BreaksAnyRange ints files codes b = AnyBreaks (BreaksRange ints files) codes b

-- some method of the package breaks one of 601 to 609
abbrev pub BreaksRanges : ListTree → List (List ℕ) → Break → Type 0
BreaksRanges list files b = (trees : List FileTree) × AreWorld list files trees
    × BreaksAnyRange list.ints (files_spelt list trees) (all_codes (classes_of trees)) b

-- ---- groups that a command names

-- one line a group: what the files of a list break of it
abbrev pub BreaksGroup : ListTree → List (List ℕ) → Group → Break → Type 0
BreaksGroup list files groups.Unsupported b = BreaksUnsupported list files b
BreaksGroup list files groups.Language b = BreaksLanguage list files b
BreaksGroup list files groups.Initialisers b = BreaksInitialisers list files b
BreaksGroup list files groups.Limits b = BreaksSubset list files b
BreaksGroup list files groups.Tokens b = BreaksTokens list files b
BreaksGroup list files groups.Types b = BreaksTypes list files b
BreaksGroup list files groups.Ranges b = BreaksTypes list files b ⊎ BreaksRanges list files b

-- ---- all rules

-- A rule is broken: by a file, by the classes together, by what instructions name, or of one of these groups.
pub data Breach (list : ListTree) (files : List (List ℕ)) (tested : List Group) (b : Break) : Type 0 where
  of_file : BreaksFile list.lines files b → Breach list files tested b
  of_world : BreaksWorld list files b → Breach list files tested b
  of_names : BreaksNames list files b → Breach list files tested b
  of_group : AnyBreaks (BreaksGroup list files) tested b → Breach list files tested b

-- A package that breaks no rule of a first level may break one of a second, which speaks of what is written for it.
pub data OnLevels (First Second : Break → Type 0) (b : Break) : Type 0 where
  on_first : First b → OnLevels First Second b
  on_second : ((a : Break) → First a → ⊥) → Second b → OnLevels First Second b

-- The break is one of these, and none of these stands before it.
pub record IsFirstOf (Breaks : Break → Type 0) (b : Break) : Type 0 where
  pub breaks : Breaks b
  pub least : (a : Break) → Breaks a → NotAfter b.rank a.rank

-- The refusal is that of the first of these.
pub record IsFirstRefused (Breaks : Break → Type 0) (r : Refusal) : Type 0 where
  pub broken : Break
  pub first : IsFirstOf Breaks broken
  pub is : r ≡ broken.refusal

-- The error is the refusal of the first of these, or that memory ran out.
abbrev pub IsFirstFault : (Break → Type 0) → Fault → Type 0
IsFirstFault Breaks e = (e ≡ faults.NoMemory) ⊎ ((r : Refusal) × IsFirstRefused Breaks r × (e ≡ faults.Refused r))

-- The list has exactly these breaks, and the answer is the first of it, if it has one.
abbrev pub IsListOf : (Break → Type 0) → List Break → Type 0
IsListOf Breaks bs = (b : Break) → (Among b bs → Breaks b) × (Breaks b → Among b bs)

-- some list has exactly these breaks, and this is the first of it, if it has one
abbrev pub IsFirstIn : (Break → Type 0) → Option Break → Type 0
IsFirstIn Breaks o = (bs : List Break) × IsListOf Breaks bs × FirstOfList bs o

-- The refusal is of a broken rule, and no broken rule stands before that one.
abbrev pub IsFirstBroken : ListTree → List (List ℕ) → List Group → Refusal → Type 0
IsFirstBroken list files tested r = IsFirstRefused (Breach list files tested) r
