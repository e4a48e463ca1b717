-- The offsets by number are those that Export is made from.
use Rattle.std.proofs.Common.{◌≡◌, ◌∙◌, ◌+◌, ◌<◌, ◌≤◌, ℕ, map, length, sym, ap, false, Some}
use Rattle.std.specs.Prelude.{slice_get, option_map}
use Rattle.std.proofs.lemmas.Option.{slice_get-map}
use Rattle.cjc_classes.specs.ClassFile.declared.tree.ClassTree.{ClassTree}
use Rattle.cjc_exported.specs.World.Classes.{Class, class_at}
use Rattle.cjc_exported.specs.World.Lookup.{member_at}
use Rattle.cjc_classes.proofs.VTableNumbers.{at-tree}
use Rattle.cjc_exported.specs.Components.Methods.{method_offset}
use Rattle.cjc_exported.specs.Components.Names.{class_ref}
use Rattle.cjc_exported.specs.Components.Package.{Package, world}
use Rattle.cjc_classes.specs.Descriptor.Made.{cells_of, extents_of}
use Rattle.cjc_exported.specs.declared.export_file.component.Offsets.{Offsets}
use Rattle.cjc_exported.specs.ExportFile.Offsets.{AreOffsets, offset_at}
use Rattle.cjc_captree.specs.Trees.Working.{offsets_in}

pub exported_offsets : (p : Package) (o : Offsets) → o.refs.now ≡ map (λ c. class_ref p c.name) (let files = p.files
    in files.classes) → o.cells.now ≡ cells_of p → o.methods.now ≡ offsets_in (extents_of p)
    → ((n k : ℕ) (c : Class) → class_at (world p) false n ≡ Some c → length c.fields ≤ k
    → k < length c.fields + length c.methods → offset_at (offsets_in (extents_of p)) n k
    ≡ Some (method_offset p (member_at c k)))
    → AreOffsets p o
exported_offsets p o refs cells offsets own = record {
  refs = λ n c is. (let files = p.files in
      let (t, there, same) = at-tree files n c is in
      ap (λ rs. slice_get rs n) refs
      ∙ slice_get-map (λ (d : ClassTree). class_ref p d.name) files.classes n
      ∙ ap (option_map (λ (d : ClassTree). class_ref p d.name)) there
      ∙ ap (λ (d : Class). Some (class_ref p d.name)) (sym same));
  cells = cells;
  methods = λ n k c is low high. ap (λ rows. offset_at rows n k) offsets ∙ own n k c is low high;
}
