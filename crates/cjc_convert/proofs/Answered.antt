-- What a conversion answers, by what stops it and by the export files that were read.
use Rattle.std.proofs.Common.{◌≡◌, inl, inr, ℕ, List, true, false, refl, sym, ap, ◌∙◌}
use Rattle.std.specs.Prelude.{◌⊎◌}
use Rattle.cjc_bytes.specs.Refused.{refusal}
use Rattle.cjc_bytes.specs.declared.fault.Fault.{Fault}
use Rattle.cjc_bytes.specs.declared.fault.Fault.TheVariants as faults
use Rattle.cjc_bytes.specs.declared.fault.Refusal.{Refusal}
use Rattle.cjc_convert.specs.Conversion.{IsBuilt, IsConverted, IsRefused, exports_read, have_interfaces}
use Rattle.cjc_convert.specs.declared.conversion.Converted.{Converted}
use Rattle.cjc_export.specs.declared.tree.ExportTree.{ExportTree}
use Rattle.cjc_judge.specs.declared.judged.Judged.{Judged}
use Rattle.cjc_list.specs.Listed.{ListTree}
use Rattle.cjc_prepared.specs.Prepared.{IsSound}
use Rattle.cjc_whole.proofs.Drafts.{same_spelt}
use Rattle.cjc_whole.specs.Working.Shaped.{Stopped}
use Rattle.cjc_world.specs.Files.{Files}

-- want of memory, or a refusal
abbrev pub IsAnswered : ListTree → List (List ℕ) → Fault → Type 0
IsAnswered list files e = (e ≡ faults.NoMemory) ⊎ ((r : Refusal) × IsRefused list files r × (e ≡ faults.Refused r))

pub by_rule : (list : ListTree) (files : List (List ℕ)) (e : Fault) → Stopped list files e → IsAnswered list files e
by_rule list files e (inl memory) = inl memory
by_rule list files e (inr (r, refused, is)) = inr (r, inl refused, is)

module _ (list : ListTree) (files : List (List ℕ)) (judged : Judged) (sound : IsSound list files judged) (made : Converted) (converted : IsConverted list files made) where
  exports_same : exports_read converted ≡ (let world = judged.world in world.exports)
  exports_same =
      let p = converted.whole in
      let laid = converted.is_package in
      ap (λ (w : Files). w.exports) (same_spelt list files judged sound p.files laid.rows laid.spelt)

  pub not_built : (exports : List ExportTree) → exports ≡ (let world = judged.world in world.exports) → (e : Fault)
      → (e ≡ faults.NoMemory) ⊎ ((have_interfaces exports ≡ true) × (e ≡ faults.Refused (refusal list.name 801 0))) → IsAnswered list files e
  not_built exports same e (inl memory) = inl memory
  not_built exports same e (inr (asked, is)) = inr (
    refusal list.name 801 0,
    inr (record { made = made; converted = converted; asked = ap have_interfaces (exports_same ∙ sym same) ∙ asked; is = refl }),
    is,
  )

  pub is_built : (exports : List ExportTree) → exports ≡ (let world = judged.world in world.exports) → have_interfaces exports ≡ false → IsBuilt list files made
  is_built exports same plain = record { converted = converted; plain = ap have_interfaces (exports_same ∙ sym same) ∙ plain }
