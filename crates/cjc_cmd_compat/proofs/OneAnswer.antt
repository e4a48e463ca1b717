-- What was read decides one answer.
use Rattle.std.proofs.Common.{◌≡◌, ℕ, List, [], ◌∷◌, ◌++◌, refl, sym, ap, subst, ◌∙◌, arith, inl, inr, Result, Ok, Err}
use Rattle.cjc_world.specs.Bytes.Breaks.{Among, Break, after, broken_at, foremost}
use Rattle.cjc_world.specs.Bytes.Order.{FilePlace, Rank}
use Rattle.cjc_world.specs.Bytes.Reading.{read_file}
use Rattle.cjc_world.specs.Bytes.declared.fault.Refusal.{Refusal}
use Rattle.cjc_world.specs.Bytes.declared.order.FileKey.TheVariants as keys
use Rattle.cjc_world.proofs.BytesFirsts.{among_either}
use Rattle.cjc_cmd_check.proofs.CheckingLaws.OneAnswer.{HaveOneRefusal, firsts_agree, unless_one}
use Rattle.cjc_cmd_check.specs.Folder.Breaks.{break_in, file_spot}
use Rattle.cjc_cmd_compat.specs.Compat.{Compares, compat_breaks, format_breaks, old_file, version_breaks}
use Rattle.cjc_compat.proofs.OneRank.{breaks_once}
use Rattle.cjc_compat.specs.Rules.{new_file}
use Rattle.cjc_compat.specs.ExportFile.ExportFile.{export_file}
use Rattle.cjc_compat.specs.ExportFile.declared.tree.ExportTree.{ExportTree}
use Rattle.cjc_cmd_check.specs.LowerShelf.declared.command.status.Todo.{Todo}
use Rattle.cjc_world.proofs.BytesBrokenRules.{none_among}

in_file : (f : FilePlace) (r : Result ExportTree ℕ) (b : Break) → Among b (break_in 104 f r) → (k : ℕ) × (r ≡ Err k)
    × (b ≡ broken_at (file_spot f k) 104)
in_file f (Ok tree) b among = none_among b among
in_file f (Err k) b foremost = (k, refl, refl)
in_file f (Err k) b (after more) = none_among b more

same_file : (f : FilePlace) (r : Result ExportTree ℕ) → HaveOneRefusal (break_in 104 f r)
same_file f (Ok tree) a b h g e = none_among a h
same_file f (Err k) a b h g e =
    let x = in_file f (Err k) a h in
    let y = in_file f (Err k) b g in
    let same : x.0 ≡ y.0 = (let p = x.1 in let q = y.1 in cc) in
    ap (λ (z : Break). z.refusal) x.2 ∙ ap (λ k. (broken_at (file_spot f k) 104).refusal) same
    ∙ sym (ap (λ (z : Break). z.refusal) y.2)

other_file : (old new : List ℕ) (r s : Result ExportTree ℕ) (a b : Break) → Among a (break_in 104 (old_file old) r)
    → Among b (break_in 104 (new_file new) s) → a.rank ≡ b.rank → ⊥
other_file old new r s a b h g e =
    let x = in_file (old_file old) r a h in
    let y = in_file (new_file new) s b g in
    let file = ap (λ (r : Rank). r.file) (sym (ap (λ (z : Break). z.rank) x.2) ∙ e ∙ ap (λ (z : Break). z.rank) y.2) in
    absurd (omega (arith, file))

formats_one : (old new : List ℕ) (files : List ℕ × List ℕ) → HaveOneRefusal (format_breaks old new files)
formats_one old new files a b h g e =
    let r = read_file export_file files.0 in
    let s = read_file export_file files.1 in
    elim (among_either a (break_in 104 (old_file old) r) (break_in 104 (new_file new) s) h) [
      | inl l ↦ elim (among_either b (break_in 104 (old_file old) r) (break_in 104 (new_file new) s) g) [
        | inl m ↦ same_file (old_file old) r a b l m e
        | inr m ↦ absurd (other_file old new r s a b l m e)
      ]
      | inr l ↦ elim (among_either b (break_in 104 (old_file old) r) (break_in 104 (new_file new) s) g) [
        | inl m ↦ absurd (other_file old new r s b a m l (sym e))
        | inr m ↦ same_file (new_file new) s a b l m e
      ]
    ]

versions_one : (new : List ℕ) (r s : Result ExportTree ℕ) → HaveOneRefusal (version_breaks new r s)
versions_one new (Ok old_tree) (Ok new_tree) a b h g e = breaks_once new old_tree new_tree a b h g e
versions_one new (Ok old_tree) (Err k) a b h g e = none_among a h
versions_one new (Err k) (Ok new_tree) a b h g e = none_among a h
versions_one new (Err k) (Err l) a b h g e = none_among a h

all_one : (old new : List ℕ) (files : List ℕ × List ℕ) → HaveOneRefusal (compat_breaks old new files)
all_one old new files = unless_one (format_breaks old new files) (version_breaks new (read_file export_file files.0)
    (read_file export_file files.1)) (formats_one old new files)
    (versions_one new (read_file export_file files.0) (read_file export_file files.1))

pub one_refusal : (old new : List ℕ) (files : List ℕ × List ℕ) (r s : Refusal) → Compares old new files (Err r)
    → Compares old new files (Err s) → r ≡ s
one_refusal old new files r s h g =
    h.2 ∙ firsts_agree (compat_breaks old new files) (all_one old new files) h.0 g.0 h.1 g.1 ∙ sym g.2

pub never_both : (old new : List ℕ) (files : List ℕ × List ℕ) (todo : Todo) (r : Refusal)
    → Compares old new files (Ok todo) → Compares old new files (Err r) → ⊥
never_both old new files todo r h g = none_among g.0 (subst (Among g.0) h.0 g.1.among)
