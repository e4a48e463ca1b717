-- What two versions break, by how each is read.
use Rattle.std.proofs.Common.{◌≡◌, ℕ, List, [], ◌∷◌, ◌++◌, refl, sym, ap, subst, ◌∙◌, arith, inl, inr, Result, Ok, Err}
use Rattle.std.specs.Prelude.{◌⊎◌, IfErr}
use Rattle.cjc_world.specs.Bytes.Breaks.{Among, Break, IsFirst, IsFirstRefusal, after, broken_at, foremost}
use Rattle.cjc_world.specs.Bytes.Format.{FileBreaks, FileSpells}
use Rattle.cjc_world.specs.Bytes.Order.{AreUpTo, NotAfter, numbers}
use Rattle.cjc_world.specs.Bytes.Reading.{read_file}
use Rattle.cjc_world.specs.Bytes.Refused.{IsBreak, refusal}
use Rattle.cjc_world.specs.Bytes.declared.fault.Fault.{Fault}
use Rattle.cjc_world.specs.Bytes.declared.fault.Fault.TheVariants as faults
use Rattle.cjc_world.proofs.BytesFirsts.{among_one, first_of_one, upto_refl}
use Rattle.cjc_world.proofs.BytesLaws.{file_breaks, file_spelt}
use Rattle.cjc_cmd_check.specs.Folder.Breaks.{break_in, file_spot, unless_broken}
use Rattle.cjc_cmd_compat.specs.Compat.{AreCompatible, Compares, compat_breaks, format_breaks, old_file, version_breaks}
use Rattle.cjc_compat.specs.References.{KeepsReferences}
use Rattle.cjc_compat.specs.Rules.{breaks, new_file}
use Rattle.cjc_compat.specs.ExportFile.ExportFile.{export_file}
use Rattle.cjc_compat.specs.ExportFile.declared.tree.ExportTree.{ExportTree}
use Rattle.cjc_cmd_check.specs.LowerShelf.Command.Gather.{Judged, status_of_fault}
use Rattle.cjc_cmd_check.specs.LowerShelf.declared.command.status.Todo.{Todo}
use Rattle.cjc_world.proofs.BytesBrokenRules.{none_among}

-- the breaks by what reading each version gives
abbrev breaks_by : (old new : List ℕ) → Result ExportTree ℕ → Result ExportTree ℕ → List Break
breaks_by old new r s = unless_broken (break_in 104 (old_file old) r ++ break_in 104 (new_file new) s)
    (version_breaks new r s)

old_first : (old new : List ℕ) (k : ℕ) (s : Result ExportTree ℕ) → IsFirst (broken_at (file_spot (old_file old) k) 104)
    (breaks_by old new (Err k) s)
old_first old new k (Ok tree) = first_of_one (broken_at (file_spot (old_file old) k) 104)
old_first old new k (Err l) = record { among = foremost; least = least }
  where
    least : (a : Break) → Among a (breaks_by old new (Err k) (Err l))
        → NotAfter (broken_at (file_spot (old_file old) k) 104).rank a.rank
    least a foremost = upto_refl (numbers (broken_at (file_spot (old_file old) k) 104).rank)
    least a (after more) =
        subst (λ (z : Break). NotAfter (broken_at (file_spot (old_file old) k) 104).rank z.rank)
        (sym (among_one a (broken_at (file_spot (new_file new) l) 104) more)) (inr (refl, inl (omega arith)))

pub old_broken : (old new : List ℕ) (files : List ℕ × List ℕ) (e : Fault)
    → IsBreak export_file files.0 (refusal old 104) e → IsFirstRefusal (compat_breaks old new files) e
old_broken old new files e (inl none_among) = inl none_among
old_broken old new files e (inr (k, broken, is)) =
    let at = file_breaks export_file files.0 k broken in
    inr (
      broken_at (file_spot (old_file old) k) 104,
      subst (λ r. IsFirst (broken_at (file_spot (old_file old) k) 104) (breaks_by old new r (read_file export_file
          files.1))) (sym at) (old_first old new k (read_file export_file files.1)),
      is,
    )

pub new_broken : (old new : List ℕ) (files : List ℕ × List ℕ) (tree : ExportTree) (e : Fault)
    → FileSpells export_file tree files.0 → IsBreak export_file files.1 (refusal new 104) e
    → IsFirstRefusal (compat_breaks old new files) e
new_broken old new files tree e spelt (inl none_among) = inl none_among
new_broken old new files tree e spelt (inr (k, broken, is)) =
    let at = file_breaks export_file files.1 k broken in
    let first : IsFirst (broken_at (file_spot (new_file new) k) 104) (breaks_by old new (Ok tree) (Err k)) =
    first_of_one (broken_at (file_spot (new_file new) k) 104) in
    inr (
      broken_at (file_spot (new_file new) k) 104,
      subst (λ r. IsFirst (broken_at (file_spot (new_file new) k) 104) (breaks_by old new r (read_file export_file
          files.1))) (sym (file_spelt export_file files.0 tree spelt)) (subst (λ s. IsFirst (broken_at (file_spot
          (new_file new) k) 104) (breaks_by old new (Ok tree) s)) (sym at) first),
      is,
    )

-- both are read
pub both_read : (old new : List ℕ) (files : List ℕ × List ℕ) (before later : ExportTree)
    → FileSpells export_file before files.0 → FileSpells export_file later files.1
    → compat_breaks old new files ≡ breaks new before later
both_read old new files before later spelt more =
    ap (λ r. breaks_by old new r (read_file export_file files.1)) (file_spelt export_file files.0 before spelt)
    ∙ ap (λ s. breaks_by old new (Ok before) s) (file_spelt export_file files.1 later more)

pub compatible : (new : List ℕ) (files : List ℕ × List ℕ) (before later : ExportTree)
    → FileSpells export_file before files.0 → FileSpells export_file later files.1 → breaks new before later ≡ []
    → KeepsReferences before later → AreCompatible new files
compatible new files before later spelt more unbroken keeps = record {
  old = before;
  new = later;
  old_spelt = spelt;
  new_spelt = more;
  unbroken = unbroken;
  keeps = keeps;
}

pub judged_fault : (old new : List ℕ) (files : List ℕ × List ℕ) (e : Fault)
    → IsFirstRefusal (compat_breaks old new files) e → Judged {T = Todo} (Compares old new files)
    (Err (status_of_fault e))
judged_fault old new files (faults.Refused r) (inl m) = absurd cc
judged_fault old new files (faults.Refused r) (inr (b, is, e)) = (b, is, (let same : r ≡ b.refusal = cc in same))
judged_fault old new files faults.NoMemory h = tt
