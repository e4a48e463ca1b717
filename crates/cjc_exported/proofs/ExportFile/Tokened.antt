-- The token of a class of an export file is its place there.
use Rattle.std.proofs.Common.{◌≡◌, ℕ, zero, suc, ◌+◌, ◌≤◌, refl, sym, ap, subst, ◌∙◌, arith, Bool, true, false, List}
use Rattle.std.proofs.Common.{[], ◌∷◌, ◌++◌, drop, length}
use Rattle.std.specs.Prelude.{Option, Some, None, if◌then◌else◌, filter, option_and_then, option_map, slice_get}
use Rattle.std.specs.Prelude.{unwrap_or}
use Rattle.std.proofs.lemmas.Option.{slice_get-map, slice_get_within}
use Rattle.cjc_world.specs.Bytes.declared.settings.FileLine.{FileLine}
use Rattle.cjc_world.specs.ClassFile.declared.tree.ClassTree.{ClassTree}
use Rattle.cjc_world.specs.ExportFile.declared.tree.ExportClass.{ExportClass}
use Rattle.cjc_world.specs.ExportFile.declared.tree.ExportTree.{ExportTree}
use Rattle.cjc_world.specs.Classes.{Class, declared, size, of_class_file, of_export_file, classes_from, all_classes}
use Rattle.cjc_world.specs.Exported.{is_exported}
use Rattle.cjc_components.specs.LowerTokens.Rules.{count_exported}
use Rattle.cjc_components.specs.LowerTokens.Tokens.{OfClass, assigned, of_class, one_more, token_of_class}
use Rattle.cjc_components.specs.LowerTokens.Tokens as tokens
use Rattle.cjc_components.specs.Package.{Package, has_applets}
use Rattle.cjc_components.specs.Exports.{exported_classes}
use Rattle.cjc_components.specs.ExportFile.{export_class, export_of}
use Rattle.cjc_exported.proofs.ExportFile.ByNumber.{past}
use Rattle.cjc_exported.proofs.ExportFile.Few.{export-left, fewer, test}
use Rattle.cjc_world.proofs.BytesGets.{drop_at, drop_behind}

-- the token that is kept for a class of this number
abbrev kept : List OfClass → ℕ → Option ℕ
kept cs n = option_and_then (λ (o : OfClass). o.class) (slice_get cs n)

module _ (w : List Class) (applets : Bool) where
  -- the class has the number of one of these, for which this token is kept
  abbrev IsKept : (before first : ℕ) → List ClassTree → Class → (token : ℕ) → Type 0
  IsKept b c trees d k = (n : ℕ) × (d.number ≡ c + n) × (kept (tokens.classes_from w applets b c trees) n ≡ Some k)

  behind : (b c k : ℕ) (t : ClassTree) (trees : List ClassTree) (d : Class)
      → IsKept (one_more (is_exported w applets (declared c t)) b) (c + 1) trees d k → IsKept b c (t ∷ trees) d k
  unfolding tokens.classes_from
  behind b c k t trees d h = let number : c + 1 + h.0 ≡ c + suc h.0 = omega arith in (suc h.0, h.1 ∙ number, h.2)

  here : (b c : ℕ) (t : ClassTree) (trees : List ClassTree) → is_exported w applets (declared c t) ≡ true
      → IsKept b c (t ∷ trees) (declared c t) (b + 0)
  unfolding tokens.classes_from
  here b c t trees e =
      let number : c ≡ c + 0 = omega arith in
      let token : b ≡ b + 0 = omega arith in
      (0, number, ap (λ q. if q then Some b else None) e ∙ ap (λ m. Some m) token)

  tokened : (trees : List ClassTree) (exports : List ExportTree) (c e i : ℕ) (lines : List FileLine) (b k : ℕ)
      (d : Class)
      → slice_get (filter (test w applets) (classes_from trees exports c e i lines)) k ≡ Some d
      → IsKept b c (drop c trees) d (b + k)
  unfolding classes_from
  tokened trees exports c e i [] b k d at = cc
  tokened trees exports c e i (line ∷ lines) b k d at = by line.class_file at (λ b k. tokened trees exports (c + 1) e i
      lines b k d) (tokened trees exports c (e + 1) (i + size (slice_get exports e)) lines b k d)
    where
      rest : List Class
      rest = classes_from trees exports (c + 1) e i lines

      file : (o : Option ClassTree) → slice_get trees c ≡ o → ((b k : ℕ) → slice_get (filter (test w applets) rest) k
          ≡ Some d → IsKept b (c + 1) (drop (c + 1) trees) d (b + k))
          → slice_get (filter (test w applets) (of_class_file c o ++ rest)) k ≡ Some d
          → IsKept b c (drop c trees) d (b + k)
      file None is more at =
          let few : length (filter (test w applets) rest) ≤ 0 =
          subst (λ (xs : List ClassTree). length (filter (test w applets) rest) ≤ count_exported w applets (c + 1)
          xs) (drop_behind trees (c + 1) (past trees c (c + 1) is (omega arith))) (fewer w applets trees exports
          (c + 1) e i lines) in
          let lt = slice_get_within (filter (test w applets) rest) k d at in
          absurd (omega (arith, few, lt))
      file (Some t) is more at = subst (λ (xs : List ClassTree). IsKept b c xs d (b + k)) (sym (drop_at trees c t is))
          (one (is_exported w applets (declared c t)) refl k at)
        where
          one : (q : Bool) → is_exported w applets (declared c t) ≡ q → (k : ℕ)
              → slice_get (if q then declared c t ∷ filter (test w applets) rest else filter (test w applets) rest) k
              ≡ Some d → IsKept b c (t ∷ drop (c + 1) trees) d (b + k)
          one true g zero f = let same : declared c t ≡ d = cc
              in subst (λ (v : Class). IsKept b c (t ∷ drop (c + 1) trees) v (b + 0)) same
              (here b c t (drop (c + 1) trees) g)
          one true g (suc k) f =
              let sum : b + 1 + k ≡ b + suc k = omega arith in
              subst (λ m. IsKept b c (t ∷ drop (c + 1) trees) d m) sum
              (behind b c (b + 1 + k) t (drop (c + 1) trees) d (subst (λ (v : Bool). IsKept (one_more v b) (c + 1)
              (drop (c + 1) trees) d (b + 1 + k)) (sym g) (more (b + 1) k f)))
          one false g k f = behind b c (b + k) t (drop (c + 1) trees) d
              (subst (λ (v : Bool). IsKept (one_more v b) (c + 1) (drop (c + 1) trees) d (b + k)) (sym g) (more b k f))

      by : (q : Bool) → slice_get (filter (test w applets) (if q then of_class_file c (slice_get trees c) ++ rest
          else of_export_file i (slice_get exports e) ++ classes_from trees exports c (e + 1)
          (i + size (slice_get exports e)) lines)) k ≡ Some d
          → ((b k : ℕ) → slice_get (filter (test w applets) rest) k ≡ Some d
          → IsKept b (c + 1) (drop (c + 1) trees) d (b + k))
          → (slice_get (filter (test w applets) (classes_from trees exports c (e + 1) (i + size (slice_get exports e))
          lines)) k ≡ Some d → IsKept b c (drop c trees) d (b + k))
          → IsKept b c (drop c trees) d (b + k)
      by true f r s = file (slice_get trees c) refl r f
      by false f r s =
          s (ap (λ (xs : List Class). slice_get xs k) (sym (export-left w applets i (slice_get exports e)
          (classes_from trees exports c (e + 1) (i + size (slice_get exports e)) lines))) ∙ f)

class-token : (p : Package) (k : ℕ) (d : Class) → slice_get (exported_classes p) k ≡ Some d
    → token_of_class (assigned (has_applets p) p.files) d.number ≡ Some k
unfolding all_classes assigned
class-token p k d at =
    let h = tokened (all_classes p.files) (has_applets p) p.files.classes p.files.exports 0 0 0 p.files.lines 0 k d at
    in
    let number : d.number ≡ h.0 = h.1 ∙ (let z : 0 + h.0 ≡ h.0 = omega arith in z) in
    let token : 0 + k ≡ k = omega arith in
    ap (kept (tokens.classes_from (all_classes p.files) (has_applets p) 0 0 p.files.classes)) number ∙ h.2
    ∙ ap (λ m. Some m) token

pub token-is-place : (p : Package) (k : ℕ) (c : ExportClass) → (let t = export_of p in slice_get t.classes k ≡ Some c)
    → c.token ≡ k
token-is-place p k c at = by (slice_get (exported_classes p) k) refl
    (sym (slice_get-map (export_class p) (exported_classes p) k) ∙ at)
  where
    by : (o : Option Class) → slice_get (exported_classes p) k ≡ o → option_map (export_class p) o ≡ Some c
        → c.token ≡ k
    by None e f = cc
    by (Some d) e f =
        let is : export_class p d ≡ c = cc in
        ap (λ (v : ExportClass). v.token) (sym is) ∙ ap (λ o. unwrap_or o 0xFF) (class-token p k d e)
