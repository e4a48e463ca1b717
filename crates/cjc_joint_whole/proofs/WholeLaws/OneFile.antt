-- No two export files that a package imports are of one package (rule 202).
use Rattle.std.proofs.Common.{◌≡◌, ℕ, zero, suc, ◌+◌, ◌<◌, sym, ap, subst, ◌∙◌, arith, Bool, true, false, List, [], ◌∷◌}
use Rattle.std.proofs.Common.{◌++◌, refl, take}
use Rattle.std.specs.Prelude.{cond, map, not, Option, Some, None, slice_get, if◌then◌else◌}
use Rattle.std.specs.List.{list_any}
use Rattle.std.specs.Str.{bytes_eq}
use Rattle.std.proofs.lemmas.Option.{slice_get_within}
use Rattle.cjc_bytes.specs.Breaks.{broken_at, list_spot}
use Rattle.cjc_bytes.specs.declared.order.FileKey.{FileKey}
use Rattle.cjc_bytes.specs.declared.order.FileKey.TheVariants as keys
use Rattle.cjc_bytes.specs.declared.settings.FileLine.{FileLine}
use Rattle.cjc_bytes.proofs.Bools.{clash, or_right}
use Rattle.cjc_bytes.proofs.Gets.{any_off}
use Rattle.cjc_bytes.proofs.Lists.{name_is, none_left, none_right}
use Rattle.cjc_token_proof.proofs.TablesLaws.Filed.{export_count-cons}
use Rattle.cjc_token_proof.specs.Tables.Sound.{IsSound, export_count}
use Rattle.cjc_world.specs.Classes.{Class, all_classes, numbered, size}
use Rattle.cjc_world.specs.ExportFile.declared.tree.ExportTree.{ExportTree}
use Rattle.cjc_world.specs.Files.{Files}
use Rattle.cjc_world.specs.Rules.{at_class, breaks, breaks_from, class_file_breaks, classes_breaks, export_file_breaks}
use Rattle.cjc_world.specs.Rules.{has_language, is_second_package, when}
use Rattle.cjc_world.proofs.Unbroken.{nil_of_map, not_when}

-- what stands among the first of a list
among_first : {A : Type 0} (xs : List A) (n k : ℕ) (x : A) → k < n → slice_get xs k ≡ Some x
    → slice_get (take n xs) k ≡ Some x
among_first [] n k x lt e = cc
among_first (y ∷ xs) zero k x lt e = absurd (omega (arith, lt))
among_first (y ∷ xs) (suc n) zero x lt e = e
among_first (y ∷ xs) (suc n) (suc k) x lt e = among_first xs n k x (omega (arith, lt)) e

module _ (files : Files) where
  abbrev w : List Class
  w = all_classes files

  -- the export file at this place is of no package before it
  abbrev IsFirst : ℕ → Type 0
  IsFirst e = (t : ExportTree) → slice_get files.exports e ≡ Some t → is_second_package files e t ≡ false

  first_here : (file : FileKey) (name : List ℕ) (e i : ℕ) (o : Option ExportTree) → slice_get files.exports e ≡ o
      → export_file_breaks files file name w e i o ≡ [] → IsFirst e
  first_here file name e i None at none t is = let no : None ≡ Some t = sym at ∙ is in cc
  first_here file name e i (Some u) at none t is =
      let both : Some u ≡ Some t = sym at ∙ is in
      let same : u ≡ t = cc in
      let rule = λ (rule : ℕ). at_class file name 0 [] rule in
      let rules = when (is_second_package files e u) 202 in
      ap (is_second_package files e) (sym same)
      ∙ not_when (is_second_package files e u) 202 (nil_of_map rule rules (none_left (map rule rules)
      (classes_breaks files.package_name file name 1 w (numbered i u.classes)) none))

  first_lines : (k c e i : ℕ) (lines : List FileLine) → breaks_from files w k c e i lines ≡ [] → (n : ℕ)
      → n < export_count lines → IsFirst (e + n)
  unfolding breaks_from
  first_lines k c e i [] none n lt = absurd (omega (arith, lt))
  first_lines k c e i (line ∷ lines) none n lt =
      by line.class_file none (subst (λ q. n < q) (export_count-cons line lines) lt)
      (first_lines (k + 1) (c + 1) e i lines)
      (first_lines (k + 1) c (e + 1) (i + size (slice_get files.exports e)) lines)
    where
      at_zero : (n : ℕ) → n < 1 + export_count lines
          → export_file_breaks files (keys.Line k) line.name w e i (slice_get files.exports e) ≡ []
          → ((m : ℕ) → m < export_count lines → IsFirst (e + 1 + m)) → IsFirst (e + n)
      at_zero zero lt here rest =
          let z : e ≡ e + 0 = omega arith in
          subst IsFirst z (first_here (keys.Line k) line.name e i (slice_get files.exports e) refl here)
      at_zero (suc m) lt here rest =
          let z : e + 1 + m ≡ e + suc m = omega arith in subst IsFirst z (rest m (omega (arith, lt)))

      by : (b : Bool)
          → (if b
          then class_file_breaks files (keys.Line k) line.name w c (slice_get files.classes c)
          ++ breaks_from files w (k + 1) (c + 1) e i lines
          else export_file_breaks files (keys.Line k) line.name w e i (slice_get files.exports e)
          ++ breaks_from files w (k + 1) c (e + 1) (i + size (slice_get files.exports e)) lines) ≡ []
          → n < cond (not b) 1 0 + export_count lines
          → (breaks_from files w (k + 1) (c + 1) e i lines ≡ [] → (m : ℕ) → m < export_count lines → IsFirst (e + m))
          → (breaks_from files w (k + 1) c (e + 1) (i + size (slice_get files.exports e)) lines ≡ [] → (m : ℕ)
          → m < export_count lines → IsFirst (e + 1 + m)) → IsFirst (e + n)
      by true none lt r s =
          let here = class_file_breaks files (keys.Line k) line.name w c (slice_get files.classes c) in
          let rest = breaks_from files w (k + 1) (c + 1) e i lines in
          r (none_right here rest none) n (omega (arith, lt))
      by false none lt r s =
          let here = export_file_breaks files (keys.Line k) line.name w e i (slice_get files.exports e) in
          let rest = breaks_from files w (k + 1) c (e + 1) (i + size (slice_get files.exports e)) lines in
          at_zero n lt (none_left here rest none) (s (none_right here rest none))

  module _ (list : List ℕ) (sound : IsSound list files) where
    each_first : (n : ℕ) → IsFirst n
    unfolding breaks
    each_first n t at =
        let within = slice_get_within files.exports n t at in
        let counted = sound.exports in
        let z : 0 + n ≡ n = omega arith in
        let none : breaks_from files w 0 0 0 0 files.lines ≡ [] = none_right (map (λ rule. broken_at (list_spot list)
        rule) (when (not (has_language w files.exports)) 207)) (breaks_from files w 0 0 0 0 files.lines) sound.unbroken
        in
        subst IsFirst z (first_lines 0 0 0 0 files.lines none n (omega (arith, within, counted))) t at

    pub one_file : (k n : ℕ) (t u : ExportTree) → slice_get files.exports k ≡ Some t
        → slice_get files.exports n ≡ Some u → t.name ≡ u.name → k < n → ⊥
    unfolding is_second_package
    one_file k n t u at there same lt =
        let earlier = take n files.exports in
        let off : list_any (λ (v : ExportTree). bytes_eq v.name u.name) earlier ≡ false = or_right (bytes_eq u.name
        files.package_name) (list_any (λ (v : ExportTree). bytes_eq v.name u.name) earlier) (each_first n u there) in
        clash (bytes_eq t.name u.name) (ap (λ x. bytes_eq t.name x) (sym same) ∙ name_is t.name)
        (any_off (λ (v : ExportTree). bytes_eq v.name u.name) earlier k t off (among_first files.exports n k t lt at))
