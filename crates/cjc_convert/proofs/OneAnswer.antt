-- What a conversion answers of a list and its files is one.
use Rattle.std.proofs.Common.{◌≡◌, ℕ, sym, ap, subst, ◌∙◌, List, length}
use Rattle.cjc_captree.specs.Bytes.Breaks.{Break}
use Rattle.cjc_captree.specs.Bytes.Order.{Rank}
use Rattle.cjc_captree.specs.Bytes.Refused.{refused_at}
use Rattle.cjc_captree.specs.Bytes.declared.fault.Refusal.{Refusal}
use Rattle.cjc_captree.specs.CapWrite.Files.{files_of}
use Rattle.cjc_captree.specs.CapWrite.declared.files.CapFiles.{CapFiles}
use Rattle.cjc_shape_proof.specs.CapRead.declared.tree.CapTree.{CapTree}
use Rattle.cjc_shape_proof.specs.Components.ExportFile.{export_of}
use Rattle.cjc_shape_proof.specs.Components.Package.{Package}
use Rattle.cjc_captree.specs.ExportFile.Written.{written}
use Rattle.cjc_shape_proof.proofs.JudgeFirsts.{one_spelling}
use Rattle.cjc_shape_proof.proofs.JudgeOneRefusal.{one_first_of, one_on_levels, one_refusal}
use Rattle.cjc_shape_proof.proofs.JudgePlaces.{IsTold, class_files, place_at}
use Rattle.cjc_shape_proof.specs.LowerJudge.Rules.{Breach, OnLevels, files_spelt, on_first, on_second}
use Rattle.cjc_shape_proof.specs.LowerJudge.Spelt.{FileTree, SpellTrees}
use Rattle.cjc_captree.specs.List.Listed.{ListTree}
use Rattle.cjc_shape_proof.specs.LowerShape.Prepared.{tested}
use Rattle.cjc_shape_proof.proofs.ShapeOne.{one_package}
use Rattle.cjc_shape_proof.proofs.ShapeOneMode.{one_mode}
use Rattle.cjc_shape_proof.specs.LowerIntPackage.Components.{components_by_modes, has_int_mode}
use Rattle.cjc_shape_proof.specs.LowerIntPackage.Modes.{Tables}
use Rattle.cjc_shape_proof.specs.LowerShape.Prepared.{IsSound}
use Rattle.cjc_shape_proof.specs.LowerJudge.declared.judged.Judged.{Judged}
use Rattle.cjc_shape_proof.specs.LowerShape.Whole.Conversion.{BreaksWritten, IsPackageByModesOf, IsRefused, IsSpeltBy}
use Rattle.cjc_shape_proof.specs.LowerShape.Whole.Conversion.{of_form, of_size}
use Rattle.cjc_shape_proof.specs.World.Files.{Files}
use Rattle.cjc_convert.proofs.ConversionLaws.Stops.{none_written}
use Rattle.cjc_convert.proofs.ConversionLaws.Flags.{with_mode}
use Rattle.cjc_convert.proofs.Told.{sizes_told, written_told}
use Rattle.cjc_convert.specs.Conversion.{IsConvertedByModes}
use Rattle.cjc_convert.specs.declared.conversion.Converted.{Converted}
use Rattle.cjc_shape_proof.proofs.JudgeOneRefusal.{class_lines}

module _ (list : ListTree) (files : List (List ℕ)) where
  -- what is told of it stands at its place among what the files spell
  IsSpelt : Break → Type 0
  IsSpelt b = (trees : List FileTree) × SpellTrees list.lines files trees × IsTold list.name (files_spelt list trees) b

  of_package : (p : Package) (t : Tables) (s : IsSpeltBy list files p.files t.types) → p.list ≡ list → (b : Break)
      → ((let v = p.files in length v.classes ≡ class_files v.lines) → IsTold (let l = p.list in l.name) p.files b)
      → IsSpelt b
  unfolding IsSpelt
  of_package p t s by_list b told =
      let world = s.is_world in
      let counted : (let v = p.files in length v.classes ≡ class_files v.lines) = ap (λ (v : Files). length v.classes)
      s.world_is ∙ class_lines list.lines files s.trees world.0 ∙ ap (λ (v : Files). class_files v.lines)
      (sym s.world_is) in (
        s.trees,
        world.0,
        subst (λ (l : ListTree). IsTold l.name (files_spelt list s.trees) b) by_list
            (subst (λ (v : Files). IsTold (let l = p.list in l.name) v b) s.world_is (told counted)),
      )

  spelt : (b : Break) → BreaksWritten list files b → IsSpelt b
  spelt b (of_form p d among) = of_package p d.tables d.spelt d.by_list b (λ counted. let all = written_told p counted
      d.members d.tables in all.holds b among)
  spelt b (of_size p of none fine among) = of_package p of.tables of.spelt of.is_package.by_list b
      (λ counted. let all = sizes_told p counted of.is_package.members in all.holds b among)

  one_told : (a b : Break) → IsSpelt a → IsSpelt b → a.rank ≡ b.rank → a.refusal ≡ b.refusal
  unfolding IsSpelt
  one_told a b (ts, s, told) (us, s', told') e =
      let same : us ≡ ts = one_spelling list.lines files us ts s' s in
      let here : IsTold list.name (files_spelt list ts) b =
      subst (λ (vs : List FileTree). IsTold list.name (files_spelt list vs) b) same told' in
      told ∙ ap (λ (r : Rank). refused_at r.rule (place_at list.name (files_spelt list ts) r)) e ∙ sym here

  pub one_refused : (r s : Refusal) → IsRefused list files r → IsRefused list files s → r ≡ s
  one_refused = one_first_of (one_on_levels (one_refusal list files tested) (λ a b x y e. one_told a b (spelt a x)
      (spelt b y) e))

  -- ---- one conversion

  -- the components of one package are the same by any tables that tell its modes
  one_tree : (judged : Judged) → IsSound list files judged → (p q : Package) (one : IsPackageByModesOf list files p)
      (other : IsPackageByModesOf list files q) → components_by_modes one.tables p ≡ components_by_modes other.tables q
  one_tree judged is p q one other =
      ap (with_mode p) (one_mode list files judged is p q one other)
      ∙ ap (λ (r : Package). with_mode r (has_int_mode other.tables q)) (one_package list files judged is p q one other)

  pub one_converted : (m n : Converted) → IsConvertedByModes list files m → IsConvertedByModes list files n → m ≡ n
  one_converted m n f g =
      let same = one_package list files f.judged f.sound f.whole g.whole f.is_package g.is_package in
      let trees = one_tree f.judged f.sound f.whole g.whole f.is_package g.is_package in
      let caps : m.caps ≡ n.caps = f.caps ∙ ap (λ (t : CapTree). files_of t) trees ∙ sym g.caps in
      let export : m.export ≡ n.export = f.export ∙ ap (λ (p : Package). written (export_of p)) same ∙ sym g.export in
      let made : CapFiles → List ℕ → Converted = λ c e. record { caps = c; export = e } in
      ap (λ (c : CapFiles). made c m.export) caps ∙ ap (made n.caps) export

  pub not_refused : (m : Converted) (r : Refusal) → IsConvertedByModes list files m → IsRefused list files r → ⊥
  not_refused m r f is = by is.first.breaks
    where
      by : OnLevels (Breach list files tested) (BreaksWritten list files) (let b = is.broken in b) → ⊥
      by (on_first breach) = f.unbroken is.broken breach
      by (on_second none broken) = none_written list files f.judged f.sound f.whole f.is_package f.limits is.broken
          broken
