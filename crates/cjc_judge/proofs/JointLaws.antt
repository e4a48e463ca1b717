-- Files that were read once more spell what they spelt before.
use Rattle.std.proofs.Common.{◌≡◌, Err, refl, ◌∙◌, ap, subst, List, [], ◌∷◌, ◌++◌, ℕ}
use Rattle.cjc_bytes.specs.declared.fault.Fault.{Fault}
use Rattle.cjc_bytes.specs.declared.fault.Fault.TheVariants as faults
use Rattle.cjc_bytes.specs.declared.fault.Refusal.{Refusal}
use Rattle.cjc_bytes.specs.declared.settings.FileLine.{FileLine}
use Rattle.cjc_judge.specs.Joint.{AreOf}
use Rattle.cjc_judge.specs.Rules.{BreaksFile, IsFirstRefused}
use Rattle.cjc_judge.specs.Spelt.{FileTree, of_class, of_export, SpellTrees, classes_of, exports_of}
use Rattle.cjc_judge.specs.Trees.{AllSpelt}
use Rattle.cjc_judge.specs.Working.Reading.{IsReadAs, ReadsFiles}
use Rattle.cjc_judge.specs.declared.joint.JointTrees.{JointTrees}
use Rattle.cjc_judge.specs.declared.reading.Trees.{Trees}
use Rattle.cjc_judge.proofs.Files.{files_fine}
use Rattle.cjc_judge.proofs.Firsts.{all_spell, one_spelling}

-- what was read, without the methods that break 303
abbrev pub without_unsupported : Trees → JointTrees
without_unsupported read = record { classes = read.classes; exports = read.exports; codes = read.codes }

pub read_again : (lines : List FileLine) (files : List (List ℕ)) (read : Trees) → IsReadAs lines files read
    → (trees : List FileTree) → SpellTrees lines files trees → AreOf trees (without_unsupported read)
read_again lines files read r trees spell =
    let same : r.trees ≡ trees = one_spelling lines files r.trees trees (all_spell lines files r.trees r.spelt) spell in
    record {
      classes = r.classes ∙ ap classes_of same;
      exports = r.exports ∙ ap exports_of same;
      codes = r.codes;
    }

pub not_refused : (lines : List FileLine) (files : List (List ℕ)) (trees : List FileTree)
    → AllSpelt lines files trees → (e : Fault) (r : Refusal) → e ≡ faults.Refused r → ReadsFiles lines files (Err e) → ⊥
not_refused lines files trees spelt e r is read =
    let refused : IsFirstRefused (BreaksFile lines files) r = subst (λ (f : Fault). ReadsFiles lines files (Err f)) is
    read in
    let first = refused.first in
    files_fine lines files trees spelt refused.broken first.breaks

-- ---- one package behind others

pub spelt_behind : (lines : List FileLine) (files : List (List ℕ)) (trees : List FileTree) (more : List FileLine)
    (others : List (List ℕ)) (behind : List FileTree) → AllSpelt lines files trees → AllSpelt more others behind
    → AllSpelt (lines ++ more) (files ++ others) (trees ++ behind)
spelt_behind [] [] [] more others behind all rest = rest
spelt_behind [] (b ∷ bs) trees more others behind all rest = absurd (let e = all.0 in cc)
spelt_behind [] [] (t ∷ ts) more others behind all rest = absurd (let e = all.1 in cc)
spelt_behind (l ∷ ls) [] trees more others behind all rest = absurd all
spelt_behind (l ∷ ls) (b ∷ bs) [] more others behind all rest = absurd all
spelt_behind (l ∷ ls) (b ∷ bs) (t ∷ ts) more others behind all rest =
    (all.0, spelt_behind ls bs ts more others behind all.1 rest)

pub classes_behind : (trees behind : List FileTree) → classes_of (trees ++ behind) ≡ classes_of trees
    ++ classes_of behind
classes_behind [] behind = refl
classes_behind (of_class t ∷ ts) behind = ap (λ xs. t ∷ xs) (classes_behind ts behind)
classes_behind (of_export t ∷ ts) behind = classes_behind ts behind

pub exports_behind : (trees behind : List FileTree) → exports_of (trees ++ behind) ≡ exports_of trees
    ++ exports_of behind
exports_behind [] behind = refl
exports_behind (of_class t ∷ ts) behind = exports_behind ts behind
exports_behind (of_export t ∷ ts) behind = ap (λ xs. t ∷ xs) (exports_behind ts behind)
