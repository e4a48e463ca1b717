-- What reading the files of a list gives.
use Rattle.std.specs.Prelude.{◌≡◌, ◌<◌, ℕ, List, [], ◌∷◌, ◌++◌, length, true, false, Option, Some, None, Result, Ok, Err}
use Rattle.cjc_bytes.specs.Format.{FileSpells}
use Rattle.cjc_bytes.specs.declared.fault.Fault.{Fault}
use Rattle.cjc_bytes.specs.declared.fault.Fault.TheVariants as faults
use Rattle.cjc_bytes.specs.declared.fault.Refusal.{Refusal}
use Rattle.cjc_bytes.specs.declared.settings.FileLine.{FileLine}
use Rattle.cjc_classfile.specs.ClassFile.{class_file}
use Rattle.cjc_classfile.specs.declared.tree.ClassTree.{ClassTree}
use Rattle.cjc_code.specs.Decoded.{decoding_at, refusal_of as code_refusal_of}
use Rattle.cjc_code.specs.declared.insn.JInsn.{JInsn}
use Rattle.cjc_code.specs.declared.method_code.MethodCode.{MethodCode}
use Rattle.cjc_export.specs.ExportFile.{export_file}
use Rattle.cjc_export.specs.Writable.{IsWritable}
use Rattle.cjc_convert.specs.Codes.{all_codes, codes_of_methods}
use Rattle.cjc_convert.specs.Rules.{CodeBreaks, FileBreach, file_refusal, file_rank, Foreign, BreaksFile, BreaksForeign, IsFirstRefused}
use Rattle.cjc_convert.specs.Spelt.{FileTree, of_class, of_export, classes_of, exports_of}
use Rattle.cjc_bytes.specs.Order.{NotAfter}
use Rattle.cjc_world.specs.Files.{Files}
use Rattle.cjc_convert.specs.declared.reading.Trees.{Trees}

-- The code of no method breaks rule 103.
abbrev pub AreInstructions : ClassTree → Type 0
AreInstructions tree = (method offset : ℕ) → CodeBreaks tree method 103 offset → ⊥

-- The file of the line spells this, and breaks no rule of the first hundred. An export tree that was read can be written.
abbrev pub FileIs : FileLine → List ℕ → FileTree → Type 0
FileIs line bytes (of_class tree) = (line.class_file ≡ true) × FileSpells class_file tree bytes × AreInstructions tree
FileIs line bytes (of_export tree) = (line.class_file ≡ false) × FileSpells export_file tree bytes × IsWritable tree

-- The files of the lines are these, in list order.
abbrev pub AllSpelt : List FileLine → List (List ℕ) → List FileTree → Type 0
AllSpelt [] files trees = (files ≡ []) × (trees ≡ [])
AllSpelt (line ∷ lines) [] trees = ⊥
AllSpelt (line ∷ lines) (bytes ∷ files) [] = ⊥
AllSpelt (line ∷ lines) (bytes ∷ files) (tree ∷ trees) = FileIs line bytes tree × AllSpelt lines files trees

-- The files spell these classes and export files, and the classes' methods have these codes.
pub record AreRead (lines : List FileLine) (files : List (List ℕ)) (read : Trees) : Type 0 where
  pub trees : List FileTree
  pub spelt : AllSpelt lines files trees
  pub classes : read.classes ≡ classes_of trees
  pub exports : read.exports ≡ exports_of trees
  pub codes : read.codes ≡ all_codes read.classes

-- what was read, as a world and codes have it
abbrev pub read_of : Files → List MethodCode → Trees
read_of world codes = record { classes = world.classes; exports = world.exports; codes = codes; unsupported = None }

-- The refusal is the first by rule 303; or none of the first so many files breaks it.
abbrev pub FirstForeign : List FileLine → List (List ℕ) → (bound : ℕ) → Option Refusal → Type 0
FirstForeign lines files bound (Some r) = IsFirstRefused (BreaksForeign lines files) r
FirstForeign lines files bound None = (index : ℕ) → index < bound → Foreign lines files index → ⊥

-- ---- reading one method after the other

-- The refusal is of this method by this rule.
abbrev pub BreaksBy : (file : List ℕ) → ClassTree → (method rule : ℕ) → Refusal → Type 0
BreaksBy file tree method rule r = (offset : ℕ) × CodeBreaks tree method rule offset × (r ≡ code_refusal_of file tree method (record { rule = rule; offset = offset }))

-- The refusal is the first of a class's methods by this rule.
pub record FirstIn (file : List ℕ) (tree : ClassTree) (rule : ℕ) (r : Refusal) : Type 0 where
  pub method : ℕ
  pub breaks : BreaksBy file tree method rule r
  pub first : (k other : ℕ) → k < method → CodeBreaks tree k rule other → ⊥

-- the first of the first so many methods by rule 303, if one of them breaks it
abbrev pub ForeignIn : (file : List ℕ) → ClassTree → (bound : ℕ) → Option Refusal → Type 0
ForeignIn file tree bound (Some r) = FirstIn file tree 303 r
ForeignIn file tree bound None = (k offset : ℕ) → k < bound → CodeBreaks tree k 303 offset → ⊥

-- What decoding one method gives: its code, or how it breaks a rule.
abbrev pub DecodesMethod : (file : List ℕ) → (class : ℕ) → ClassTree → (method : ℕ) → List MethodCode → List MethodCode → Result (Option Refusal) Fault → Type 0
DecodesMethod file class tree method old new (Ok None) = (insns : List JInsn) × (decoding_at tree method ≡ Ok insns) × (new ≡ old ++ record { class = class; method = method; insns = insns } ∷ [])
DecodesMethod file class tree method old new (Ok (Some r)) = (new ≡ old) × BreaksBy file tree method 303 r
DecodesMethod file class tree method old new (Err (faults.Refused r)) = BreaksBy file tree method 103 r
DecodesMethod file class tree method old new (Err faults.NoMemory) = Unit {0}

-- What decoding the methods of a class gives, whose place in the package this is.
abbrev pub DecodesClass : (file : List ℕ) → (class : ℕ) → ClassTree → List MethodCode → List MethodCode → Result (Option Refusal) Fault → Type 0
DecodesClass file class tree old new (Ok unsupported) = (new ≡ old ++ codes_of_methods class 0 tree tree.methods) × ForeignIn file tree (length tree.methods) unsupported × AreInstructions tree
DecodesClass file class tree old new (Err (faults.Refused r)) = FirstIn file tree 103 r
DecodesClass file class tree old new (Err faults.NoMemory) = Unit {0}

-- ---- reading one file after the other

-- The refusal is the first of those of this file.
pub record IsFirstInFile (line : FileLine) (bytes : List ℕ) (r : Refusal) : Type 0 where
  pub breach : FileBreach line bytes
  pub is : r ≡ file_refusal line bytes breach
  pub first : (index : ℕ) (other : FileBreach line bytes) → NotAfter (file_rank index line bytes breach) (file_rank index line bytes other)

-- the first of two, where there is one
abbrev pub earlier : Option Refusal → Option Refusal → Option Refusal
earlier (Some r) other = Some r
earlier None other = other

-- The file's tree is put behind those that were read, with its codes.
abbrev pub Puts : FileLine → FileTree → Trees → Trees → Type 0
Puts line (of_class tree) old new =
    (unsupported : Option Refusal) × ForeignIn line.name tree (length tree.methods) unsupported
    × (new ≡ record { classes = old.classes ++ tree ∷ []; exports = old.exports; codes = old.codes ++ codes_of_methods (length old.classes) 0 tree tree.methods; unsupported = earlier old.unsupported unsupported })
Puts line (of_export tree) old new = new ≡ record old { exports = old.exports ++ tree ∷ [] }

-- What reading one file gives.
abbrev pub ReadsFile : FileLine → List ℕ → Trees → Trees → Result Unit Fault → Type 0
ReadsFile line bytes old new (Ok done) = (tree : FileTree) × FileIs line bytes tree × Puts line tree old new
ReadsFile line bytes old new (Err (faults.Refused r)) = IsFirstInFile line bytes r
ReadsFile line bytes old new (Err faults.NoMemory) = Unit {0}

-- What reading all files gives.
pub record AllRead (lines : List FileLine) (files : List (List ℕ)) (read : Trees) : Type 0 where
  pub are_read : AreRead lines files read
  pub unsupported : FirstForeign lines files (length lines) read.unsupported

abbrev pub ReadsFiles : List FileLine → List (List ℕ) → Result Trees Fault → Type 0
ReadsFiles lines files (Ok read) = AllRead lines files read
ReadsFiles lines files (Err (faults.Refused r)) = IsFirstRefused (BreaksFile lines files) r
ReadsFiles lines files (Err faults.NoMemory) = Unit {0}
