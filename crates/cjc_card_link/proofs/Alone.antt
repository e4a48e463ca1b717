-- A group of one package: what its class_refs mean.
use Rattle.std.proofs.Common.{◌≡◌, ℕ, zero, suc, ◌+◌, List, [], ◌∷◌, length, refl, sym, ap, ◌∙◌, arith, Option, Some}
use Rattle.std.proofs.Common.{None}
use Rattle.std.specs.Prelude.{option_map, option_and_then, slice_get, is_some, if◌then◌else◌}
use Rattle.cjc_card_semantics.specs.CapRead.declared.tree.ClassRef.TheVariants.{Outside}
use Rattle.cjc_card_semantics.specs.CapRead.declared.tree.StaticRef.TheVariants as statics
use Rattle.cjc_card_semantics.specs.ExportFile.declared.tree.ExportClass.{ExportClass}
use Rattle.cjc_card_semantics.specs.ExportFile.declared.tree.ExportTree.{ExportTree}
use Rattle.cjc_card_semantics.specs.Machine.Loaded.{OfFile}
use Rattle.cjc_card_semantics.specs.Machine.Classes.{External, class_of, imported_class, with_token}
use Rattle.cjc_card_semantics.specs.Machine.Operations.{static_cell, cell_through}
use Rattle.cjc_card_link.specs.declared.part.Part.{Part}
use Rattle.cjc_card_link.specs.Exported.{exported_class}
use Rattle.cjc_card_link.specs.Group.{alone, files_from}

-- a package token is the number of an export file
pub file_of : (k : ℕ) (trees : List ExportTree) (i : ℕ) → slice_get (files_from k (length trees)) i
    ≡ option_map (λ t. OfFile (k + i)) (slice_get trees i)
file_of k [] i = refl
file_of k (t ∷ trees) zero = ap (λ n. Some (OfFile n)) (omega arith)
file_of k (t ∷ trees) (suc i) = file_of (k + 1) trees i ∙ ap (λ n. option_map (λ u. OfFile n) (slice_get trees i))
    (omega arith)

pub outside_class : (p : Part) (trees : List ExportTree) («package» token : ℕ)
    → (if is_some (exported_class trees «package» token) then Some (External «package» token) else None)
    ≡ class_of (alone p trees) 0 (Outside «package» token)
outside_class p trees «package» token = sym (ap (option_and_then (imported_class (alone p trees) token))
    (file_of 0 trees «package») ∙ by (slice_get trees «package») refl) where
      by : (t : Option ExportTree) → slice_get trees «package» ≡ t
          → option_and_then (imported_class (alone p trees) token) (option_map (λ u. OfFile (0 + «package»)) t)
          ≡ (if is_some (exported_class trees «package» token) then Some (External «package» token) else None)
      by None e = ap (λ o. if is_some (option_and_then (λ (t : ExportTree). with_token t.classes token) o)
          then Some (External «package» token) else None) (sym e)
      by (Some t) e = ap (λ n. if is_some (exported_class trees n token) then Some (External n token)
          else None) (omega arith)

pub outside_found : (p : Part) (trees : List ExportTree) («package» token tree : ℕ) (e : ExportClass) → tree ≡ «package»
    → Some e ≡ exported_class trees tree token
    → Some (External tree token) ≡ class_of (alone p trees) 0 (Outside «package» token)
outside_found p trees «package» token tree e same is =
    ap (λ n. Some (External n token)) same
    ∙ ap (λ (o : Option ExportClass). if is_some o then Some (External «package» token) else None) (is
    ∙ ap (λ n. exported_class trees n token) same)
    ∙ outside_class p trees «package» token

pub outside_none : (p : Part) (trees : List ExportTree) («package» token tree : ℕ) → tree ≡ «package»
    → None ≡ exported_class trees tree token
    → None ≡ class_of (alone p trees) 0 (Outside «package» token)
outside_none p trees «package» token tree same is =
    ap (λ (o : Option ExportClass). if is_some o then Some (External «package» token) else None) (is
    ∙ ap (λ n. exported_class trees n token) same)
    ∙ outside_class p trees «package» token

-- a static field of an imported package has no cell
pub no_cell : (p : Part) (trees : List ExportTree) (part «package» class token : ℕ)
    → None ≡ static_cell (alone p trees) part (statics.Outside «package» class token)
no_cell p trees zero «package» class token = sym (ap (option_and_then (cell_through (alone p trees) class token))
    (file_of 0 trees «package») ∙ by (slice_get trees «package»)) where
      by : (t : Option ExportTree) → option_and_then (cell_through (alone p trees) class token)
          (option_map (λ u. OfFile (0 + «package»)) t) ≡ None
      by None = refl
      by (Some t) = refl
no_cell p trees (suc part) «package» class token = refl
