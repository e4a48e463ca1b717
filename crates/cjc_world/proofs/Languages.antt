-- The first export file that is java/lang, one file further.
use Rattle.std.proofs.Common.{◌≡◌, ℕ, ◌<◌, ◌≤◌, ◌+◌, sym, ap, ◌∙◌, arith, Bool, false, List, [], length, get_or, drop}
use Rattle.std.proofs.Common.{add-one}
use Rattle.std.specs.Prelude.{if◌then◌else◌, codes}
use Rattle.std.proofs.Math.Seq.{drop-cons}
use Rattle.std.proofs.lemmas.Grind.{common_steps}
use Rattle.std.specs.Str.{bytes_eq}
use Rattle.cjc_export.specs.declared.tree.ExportTree.{ExportTree}
use Rattle.cjc_world.specs.Classes.{Class}
use Rattle.cjc_world.specs.Rules.{has_language, has_needed}

module _ (w : List Class) (ts : List ExportTree) (i : ℕ) where
  pub language_next : (d : ExportTree) → i < length ts → has_language w (drop i ts)
      ≡ (if bytes_eq (get_or ts i d).name (codes "java/lang") then has_needed w (get_or ts i d)
      else has_language w (drop (i + 1) ts))
  unfolding has_language
  language_next d l = ap (has_language w) (drop-cons ts i d l)
      ∙ ap (λ n. if bytes_eq (get_or ts i d).name (codes "java/lang") then has_needed w (get_or ts i d)
      else has_language w (drop n ts)) (sym (add-one i))

  pub language_at : (t : ExportTree) (b : Bool) → i < length ts → t ≡ get_or ts i t
      → bytes_eq t.name (codes "java/lang") ≡ b → has_language w (drop i ts) ≡ (if b then has_needed w t
      else has_language w (drop (i + 1) ts))
  language_at t b l is e =
      language_next t l
      ∙ ap (λ (u : ExportTree). if bytes_eq u.name (codes "java/lang") then has_needed w u
      else has_language w (drop (i + 1) ts)) (sym is)
      ∙ ap (λ b. if b then has_needed w t else has_language w (drop (i + 1) ts)) e

  pub language_end : length ts ≤ i → has_language w (drop i ts) ≡ false
  unfolding has_language
  language_end l = let e : drop i ts ≡ [] = grind (arith, common_steps) in ap (has_language w) e
