-- What reading one method, one file and all files of a list gives.
use Rattle.std.specs.Prelude.{◌≡◌, ◌<◌, ℕ, List, [], ◌∷◌, ◌++◌, length, Result, Ok, Err}
use Rattle.cjc_bytes.specs.declared.fault.Fault.{Fault}
use Rattle.cjc_bytes.specs.declared.fault.Fault.TheVariants as faults
use Rattle.cjc_bytes.specs.declared.fault.Refusal.{Refusal}
use Rattle.cjc_bytes.specs.declared.settings.FileLine.{FileLine}
use Rattle.cjc_world.specs.ClassFile.declared.tree.ClassTree.{ClassTree}
use Rattle.cjc_clinit.specs.Bytecode.Decoded.{decoding_at, refusal_of as code_refusal_of}
use Rattle.cjc_clinit.specs.Bytecode.declared.method_code.MethodCode.{MethodCode}
use Rattle.cjc_clinit.specs.Bytecode.PackageCodes.{code_with, of_methods, all_codes}
use Rattle.cjc_judge.specs.Codes.{unsupported_with, all_unsupported_insns}
use Rattle.cjc_judge.specs.Rules.{CodeBreaks, FileBreach, file_refusal, file_rank, BreaksFile, IsFirstRefused}
use Rattle.cjc_judge.specs.Spelt.{FileTree, of_class, of_export, classes_of, exports_of}
use Rattle.cjc_bytes.specs.Order.{NotAfter}
use Rattle.cjc_judge.specs.declared.reading.UnsupportedInsn.{UnsupportedInsn}
use Rattle.cjc_judge.specs.declared.reading.Trees.{Trees}
use Rattle.cjc_judge.specs.Trees.{AreInstructions, FileIs, AllSpelt}

-- The files spell these classes and export files, and the classes' methods have these codes.
pub record IsReadAs (lines : List FileLine) (files : List (List ℕ)) (read : Trees) : Type 0 where
  pub trees : List FileTree
  pub spelt : AllSpelt lines files trees
  pub classes : read.classes ≡ classes_of trees
  pub exports : read.exports ≡ exports_of trees
  pub codes : read.codes ≡ all_codes read.classes
  pub unsupported_insns : read.unsupported_insns ≡ all_unsupported_insns read.classes

-- ---- reading one method after the other

-- The refusal is of this method by this rule.
abbrev pub BreaksBy : (file : List ℕ) → ClassTree → (method rule : ℕ) → Refusal → Type 0
BreaksBy file tree method rule r = (offset : ℕ) × CodeBreaks tree method rule offset
    × (r ≡ code_refusal_of file tree method (record { rule = rule; offset = offset }))

-- The refusal is the first of a class's methods by this rule.
pub record FirstIn (file : List ℕ) (tree : ClassTree) (rule : ℕ) (r : Refusal) : Type 0 where
  pub method : ℕ
  pub breaks : BreaksBy file tree method rule r
  pub first : (k other : ℕ) → k < method → CodeBreaks tree k rule other → ⊥

-- What decoding one method gives: its instructions, or its place by rule 303, or how it breaks rule 103.
abbrev pub DecodesMethod : (file : List ℕ) → (class : ℕ) → ClassTree → (method : ℕ) → (old new : List MethodCode)
    → (from to : List UnsupportedInsn) → Result Unit Fault → Type 0
DecodesMethod file class tree method old new from to (Ok done) =
    (new ≡ old ++ code_with class method (decoding_at tree method))
    × (to ≡ from ++ unsupported_with class method (decoding_at tree method)) × ((offset : ℕ)
    → CodeBreaks tree method 103 offset → ⊥)
DecodesMethod file class tree method old new from to (Err (faults.Refused r)) = BreaksBy file tree method 103 r
DecodesMethod file class tree method old new from to (Err faults.NoMemory) = Unit {0}

-- What decoding the methods of a class gives, whose place in the package this is.
abbrev pub DecodesClass : (file : List ℕ) → (class : ℕ) → ClassTree → (old new : List MethodCode)
    → (from to : List UnsupportedInsn) → Result Unit Fault → Type 0
DecodesClass file class tree old new from to (Ok done) =
    (new ≡ old ++ of_methods code_with class 0 tree tree.methods)
    × (to ≡ from ++ of_methods unsupported_with class 0 tree tree.methods) × AreInstructions tree
DecodesClass file class tree old new from to (Err (faults.Refused r)) = FirstIn file tree 103 r
DecodesClass file class tree old new from to (Err faults.NoMemory) = Unit {0}

-- ---- reading one file after the other

-- The refusal is the first of those of this file.
pub record IsFirstInFile (line : FileLine) (bytes : List ℕ) (r : Refusal) : Type 0 where
  pub breach : FileBreach line bytes
  pub is : r ≡ file_refusal line bytes breach
  pub first : (index : ℕ) (other : FileBreach line bytes) → NotAfter (file_rank index line bytes breach)
      (file_rank index line bytes other)

-- The file's tree is put behind those that were read, with what its methods are decoded to.
abbrev pub Puts : FileTree → Trees → Trees → Type 0
Puts (of_class tree) old new =
    new ≡ record {
      classes = old.classes ++ tree ∷ [];
      exports = old.exports;
      codes = old.codes ++ of_methods code_with (length old.classes) 0 tree tree.methods;
      unsupported_insns = old.unsupported_insns ++ of_methods unsupported_with (length old.classes) 0 tree tree.methods;
    }
Puts (of_export tree) old new = new ≡ record old { exports = old.exports ++ tree ∷ [] }

-- What reading one file gives.
abbrev pub ReadsFile : FileLine → List ℕ → Trees → Trees → Result Unit Fault → Type 0
ReadsFile line bytes old new (Ok done) = (tree : FileTree) × FileIs line bytes tree × Puts tree old new
ReadsFile line bytes old new (Err (faults.Refused r)) = IsFirstInFile line bytes r
ReadsFile line bytes old new (Err faults.NoMemory) = Unit {0}

-- What reading all files gives.
abbrev pub ReadsFiles : List FileLine → List (List ℕ) → Result Trees Fault → Type 0
ReadsFiles lines files (Ok read) = IsReadAs lines files read
ReadsFiles lines files (Err (faults.Refused r)) = IsFirstRefused (BreaksFile lines files) r
ReadsFiles lines files (Err faults.NoMemory) = Unit {0}
