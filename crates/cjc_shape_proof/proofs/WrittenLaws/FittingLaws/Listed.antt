-- What a list keeps by its grammar, and how many files are read of it.
use Rattle.std.proofs.Common.{◌≡◌, ℕ, zero, suc, ◌+◌, ◌<◌, ◌≤◌, refl, sym, ap, subst, ◌∙◌, arith, Bool, true}
use Rattle.std.proofs.Common.{List, [], ◌∷◌, length, not}
use Rattle.std.specs.Prelude.{cond, count_by, slice_get, Some}
use Rattle.std.specs.List.{AllByRecursion}
use Rattle.std.proofs.lemmas.List.Sums.{sum_by-cons}
use Rattle.cjc_bytes.specs.Format.{FileSpells}
use Rattle.cjc_bytes.specs.declared.settings.FileLine.{FileLine}
use Rattle.cjc_bytes.proofs.Numbers.{one_file}
use Rattle.cjc_world.specs.ClassFile.ClassFile.{class_file}
use Rattle.cjc_world.specs.ClassFile.declared.tree.ClassTree.{ClassTree}
use Rattle.cjc_shape.specs.LowerJudge.Spelt.{FileTree, IsRead, classes_of, exports_of, of_class, of_export}
use Rattle.cjc_shape.specs.LowerJudge.Trees.{AllSpelt}
use Rattle.cjc_classes.specs.List.Grammar.{export_count, is_name}
use Rattle.cjc_classes.specs.List.Listed.{ListTree}
use Rattle.cjc_classes.specs.List.Spelling.{Spelt}

-- ---- the list

module _ (list : ListTree) (read : IsRead list) where
  abbrev pub spelt : Spelt list.name list read.2.0.0 read.2.0.1
  spelt = read.2.0.3

  pub aid_long : 5 ≤ length list.aid
  aid_long = spelt.begins.2.4.1

  pub aid_short : length list.aid ≤ 16
  aid_short = spelt.begins.2.4.2

  pub is_named : is_name list.«package» ≡ true
  is_named = spelt.begins.2.3

  pub few_exports : export_count list.lines ≤ 128
  few_exports = let within = spelt.within in within.exports

-- ---- the files of its lines

counted : (p : FileLine → Bool) (line : FileLine) (lines : List FileLine) → count_by p (line ∷ lines)
    ≡ cond (p line) 1 0 + count_by p lines
counted p line lines = sum_by-cons (λ (l : FileLine). cond (p l) 1 0) line lines

pub exports_counted : (lines : List FileLine) (files : List (List ℕ)) (trees : List FileTree)
    → AllSpelt lines files trees → length (exports_of trees) ≤ export_count lines
exports_counted [] files trees h = let none : trees ≡ [] = h.1 in subst (λ ts. length (exports_of ts) ≤ 0) (sym none)
    (omega arith)
exports_counted (line ∷ lines) [] trees h = absurd h
exports_counted (line ∷ lines) (bytes ∷ files) [] h = absurd h
exports_counted (line ∷ lines) (bytes ∷ files) (of_class tree ∷ trees) h =
    let rest = exports_counted lines files trees h.1 in
    let all = counted (λ l. not l.class_file) line lines in
    omega (arith, rest, all)
exports_counted (line ∷ lines) (bytes ∷ files) (of_export tree ∷ trees) h =
    let rest = exports_counted lines files trees h.1 in
    let one = one_file line.class_file h.0.0 in
    let all = counted (λ l. not l.class_file) line lines in
    omega (arith, rest, one, all)

-- bytes that spell each class
pub classes_spelt : (lines : List FileLine) (files : List (List ℕ)) (trees : List FileTree) → AllSpelt lines files trees
    → ((k : ℕ) (b : List ℕ) → slice_get files k ≡ Some b → AllByRecursion (λ x. x < 256) b) → (n : ℕ) (c : ClassTree)
    → slice_get (classes_of trees) n ≡ Some c
    → (bytes : List ℕ) × AllByRecursion (λ x. x < 256) bytes × FileSpells class_file c bytes
classes_spelt [] files trees h each n c e = let none : trees ≡ [] = h.1
    in absurd (no_class n c (sym (ap (λ ts. slice_get (classes_of ts) n) none) ∙ e))
  where
    no_class : (n : ℕ) (c : ClassTree) → slice_get (classes_of []) n ≡ Some c → ⊥
    no_class n c e = cc
classes_spelt (line ∷ lines) [] trees h each n c e = absurd h
classes_spelt (line ∷ lines) (b ∷ files) [] h each n c e = absurd h
classes_spelt (line ∷ lines) (b ∷ files) (of_class tree ∷ trees) h each zero c e = let same : tree ≡ c = cc
    in (b, each 0 b refl, subst (λ (t : ClassTree). FileSpells class_file t b) same h.0.1)
classes_spelt (line ∷ lines) (b ∷ files) (of_class tree ∷ trees) h each (suc n) c e =
    classes_spelt lines files trees h.1 (λ k x f. each (suc k) x f) n c e
classes_spelt (line ∷ lines) (b ∷ files) (of_export tree ∷ trees) h each n c e = classes_spelt lines files trees h.1
    (λ k x f. each (suc k) x f) n c e
