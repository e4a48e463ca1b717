-- Which rules the files of a package break, where each stands in the order of refusals, and which of them is the first.
use Rattle.std.specs.Prelude.{◌≡◌, ℕ, ◌+◌, List, length, true, false, Some, Err, slice_get}
use Rattle.cjc_bytes.specs.Format.{FileSpells, FileBreaks}
use Rattle.cjc_bytes.specs.Refused.{refusal}
use Rattle.cjc_bytes.specs.declared.fault.Refusal.{Refusal}
use Rattle.cjc_bytes.specs.declared.settings.FileLine.{FileLine}
use Rattle.cjc_classfile.specs.ClassFile.{class_file, refusal_at}
use Rattle.cjc_classfile.specs.declared.tree.ClassTree.{ClassTree}
use Rattle.cjc_code.specs.declared.decoding.Broken.{Broken}
use Rattle.cjc_code.specs.Decoded.{decoding_at}
use Rattle.cjc_code.specs.Decoded as decoded
use Rattle.cjc_export.specs.ExportFile.{export_file}
use Rattle.cjc_bytes.specs.Order.{Rank, NotAfter}

-- ---- the rules that one file breaks, whatever the others say

-- The code of the method at this place of a class breaks this rule, first at this offset: 103, or 303 where 103 is not broken.
abbrev pub CodeBreaks : ClassTree → (method rule offset : ℕ) → Type 0
CodeBreaks tree method rule offset = decoding_at tree method ≡ Err (record { rule = rule; offset = offset })

abbrev pub code_refusal : (line : FileLine) → ClassTree → (method rule offset : ℕ) → Refusal
code_refusal line tree method rule offset = decoded.refusal_of line.name tree method (record { rule = rule; offset = offset })

-- the class itself is 0; then its fields, its methods
abbrev pub method_rank : ClassTree → ℕ → ℕ
method_rank tree method = 1 + length tree.fields + method

-- Those of the first hundred.
pub data FileBreach (line : FileLine) (bytes : List ℕ) : Type 0 where
  -- 101 and 102: the bytes spell no class file
  no_class_file : (place : ℕ) → line.class_file ≡ true → FileBreaks class_file bytes place → FileBreach line bytes
  -- 103: the code of a method is no run of instructions
  no_instructions : (tree : ClassTree) (method offset : ℕ) → line.class_file ≡ true → FileSpells class_file tree bytes → CodeBreaks tree method 103 offset → FileBreach line bytes
  -- 104: the bytes spell no export file
  no_export_file : (place : ℕ) → line.class_file ≡ false → FileBreaks export_file bytes place → FileBreach line bytes

abbrev pub file_refusal : (line : FileLine) (bytes : List ℕ) → FileBreach line bytes → Refusal
file_refusal line bytes (no_class_file place is breaks) = refusal_at line.name bytes place
file_refusal line bytes (no_instructions tree method offset is spelt breaks) = code_refusal line tree method 103 offset
file_refusal line bytes (no_export_file place is breaks) = refusal line.name 104 place

-- where it stands in the order, in the file of the line at this index of the list
abbrev pub file_rank : (index : ℕ) (line : FileLine) (bytes : List ℕ) → FileBreach line bytes → Rank
file_rank index line bytes (no_class_file place is breaks) = record { family = 1; file = index + 1; class = 0; member = 0; offset = place; rule = (refusal_at line.name bytes place).rule.0 }
file_rank index line bytes (no_instructions tree method offset is spelt breaks) = record { family = 1; file = index + 1; class = 1; member = method_rank tree method; offset = offset; rule = 103 }
file_rank index line bytes (no_export_file place is breaks) = record { family = 1; file = index + 1; class = 0; member = 0; offset = place; rule = 104 }

-- The line at this index of the list, and the bytes of its file.
pub record FileAt (lines : List FileLine) (files : List (List ℕ)) (index : ℕ) : Type 0 where
  pub line : FileLine
  pub bytes : List ℕ
  pub is_line : slice_get lines index ≡ Some line
  pub is_file : slice_get files index ≡ Some bytes

-- 303: a method that breaks no 103 has an instruction that is not converted.
pub record Foreign (lines : List FileLine) (files : List (List ℕ)) (index : ℕ) : Type 0 where
  pub at : FileAt lines files index
  pub is_class : at.line.class_file ≡ true
  pub tree : ClassTree
  pub spelt : FileSpells class_file tree at.bytes
  pub method : ℕ
  pub offset : ℕ
  pub breaks : CodeBreaks tree method 303 offset

abbrev pub foreign_refusal : (lines : List FileLine) (files : List (List ℕ)) (index : ℕ) → Foreign lines files index → Refusal
foreign_refusal lines files index f = code_refusal f.at.line f.tree f.method 303 f.offset

abbrev pub foreign_rank : (lines : List FileLine) (files : List (List ℕ)) (index : ℕ) → Foreign lines files index → Rank
foreign_rank lines files index f = record { family = 3; file = index + 1; class = 1; member = method_rank f.tree f.method; offset = f.offset; rule = 303 }

-- ---- all rules

-- A broken rule, and where: one line a rule, or a group of rules that stands in one file.
pub data Breach (lines : List FileLine) (files : List (List ℕ)) : Type 0 where
  in_file : (index : ℕ) (at : FileAt lines files index) → FileBreach at.line at.bytes → Breach lines files
  foreign : (index : ℕ) → Foreign lines files index → Breach lines files

abbrev pub refusal_of : (lines : List FileLine) (files : List (List ℕ)) → Breach lines files → Refusal
refusal_of lines files (in_file index at breach) = file_refusal at.line at.bytes breach
refusal_of lines files (foreign index f) = foreign_refusal lines files index f

abbrev pub rank_of : (lines : List FileLine) (files : List (List ℕ)) → Breach lines files → Rank
rank_of lines files (in_file index at breach) = file_rank index at.line at.bytes breach
rank_of lines files (foreign index f) = foreign_rank lines files index f

-- The refusal is of a broken rule, and no broken rule stands before that one.
pub record IsFirstBroken (lines : List FileLine) (files : List (List ℕ)) (r : Refusal) : Type 0 where
  pub breach : Breach lines files
  pub is : r ≡ refusal_of lines files breach
  pub first : (other : Breach lines files) → NotAfter (rank_of lines files breach) (rank_of lines files other)
