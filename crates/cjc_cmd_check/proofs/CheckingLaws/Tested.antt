-- What the files that were read break together.
use Rattle.std.proofs.Common.{◌≡◌, ⊎_elim, inl, inr, ℕ, List, [], ◌∷◌, ◌++◌, refl, sym, ap, subst, ◌∙◌, Option, Some}
use Rattle.std.proofs.Common.{None, Result, Ok, Err}
use Rattle.std.specs.Prelude.{◌⊎◌, IfErr}
use Rattle.cjc_bytes.specs.Breaks.{Break, IsFirst, IsFirstRefusal}
use Rattle.cjc_bytes.specs.declared.fault.Fault.{Fault}
use Rattle.cjc_bytes.specs.declared.fault.Fault.TheVariants as faults
use Rattle.cjc_bytes.specs.declared.fault.Refusal.{Refusal}
use Rattle.cjc_capread.specs.declared.tree.CapTree.{CapTree}
use Rattle.cjc_shelf.specs.Command.Gather.{Judged, status_of_fault}
use Rattle.cjc_shelf.specs.declared.command.status.Todo.{Todo}
use Rattle.cjc_check.specs.LowerExportFile.declared.tree.ExportTree.{ExportTree}
use Rattle.cjc_cmd_check.specs.Folder.Breaks.{AreTrees, cap_in, export_trees, file_breaks, unless_broken}
use Rattle.cjc_cmd_check.specs.declared.folder.folder.Folder.{Folder}
use Rattle.cjc_cmd_check.specs.declared.folder.trees.FolderTrees.{FolderTrees}
use Rattle.cjc_check.specs.LowerCheckRules.Consistent.{Consistent, breaks}
use Rattle.cjc_cmd_check.specs.Check.{AreConsistent, Checks, check_breaks, sentence_breaks}

-- where no file breaks its format
pub trees_break : (f : Folder) (trees : FolderTrees) → AreTrees f trees → breaks trees.cap trees.exports
    ≡ check_breaks f
trees_break f trees are =
    ap (breaks trees.cap) are.exports
    ∙ sym (ap (λ (o : Option CapTree). sentence_breaks o (export_trees f.exports)) are.cap)
    ∙ sym (ap (λ (bs : List Break). unless_broken bs (sentence_breaks (cap_in f.parts) (export_trees f.exports)))
    are.unbroken)

one_first : (xs ys : List Break) (e : Fault) → ((b : Break) → IsFirst b xs → IsFirst b (unless_broken xs ys))
    → IsFirstRefusal xs e → IsFirstRefusal (unless_broken xs ys) e
one_first xs ys e f (inl m) = inl m
one_first xs ys e f (inr (b, is, r)) = inr (b, f b is, r)

among_files : (xs ys : List Break) (b : Break) → IsFirst b xs → IsFirst b (unless_broken xs ys)
among_files [] ys b is = absurd (elim is.among [ ])
among_files (x ∷ xs) ys b is = is

-- where one does
pub files_break : (f : Folder) (e : Fault) → IsFirstRefusal (file_breaks f) e → IsFirstRefusal (check_breaks f) e
files_break f e h =
    let ys = sentence_breaks (cap_in f.parts) (export_trees f.exports) in
    one_first (file_breaks f) ys e (λ b is. among_files (file_breaks f) ys b is) h

pub judged_fault : (f : Folder) (e : Fault) → IsFirstRefusal (check_breaks f) e
    → Judged {T = Todo} (Checks f) (Err (status_of_fault e))
judged_fault f (faults.Refused r) (inl m) = absurd cc
judged_fault f (faults.Refused r) (inr (b, is, e)) = (b, is, (let same : r ≡ b.refusal = cc in same))
judged_fault f faults.NoMemory h = tt

pub trees_consistent : (f : Folder) (trees : FolderTrees) → AreTrees f trees → Consistent trees.cap trees.exports
    → AreConsistent f
trees_consistent f trees are c = (
  trees.cap,
  are.cap,
  subst (λ (es : List ExportTree). Consistent trees.cap es)
      are.exports c,
)
