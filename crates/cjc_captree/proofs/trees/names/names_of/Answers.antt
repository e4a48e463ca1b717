use Rattle.std.proofs.Common.{◌≡◌, ◌∙◌, ap, sym, subst, map, length}
use Rattle.std.specs.Prelude.{nat_lt, Some}
use Rattle.cjc_exported.specs.World.Files.{Files}
use Rattle.cjc_exported.specs.World.Classes.{all_classes}
use Rattle.cjc_exported.specs.World.Order.{class_order}
use Rattle.cjc_classes.specs.Clinit.Image.{field_id}
use Rattle.cjc_exported.specs.Components.Statics.{cell_offset}
use Rattle.cjc_exported.specs.Components.Names.{class_ref}
use Rattle.cjc_classes.specs.ClassInfo.Refs.{ref_of}
use Rattle.cjc_classes.specs.TypeInfo.TypeTable.{class_at}
use Rattle.cjc_captree.specs.Trees.Working.{offsets_in}
use Rattle.cjc_classes.proofs.TokensSteps.{map_same}
use Rattle.cjc_methods.specs.Ready.{AreOrdered}
use Rattle.cjc_captree.proofs.trees.names.names_of.Goals as goal

pub tables-requires : goal.tables-requires
tables-requires c = record { tokens = (nat_lt 0 (length c.args.given.now.list.now.applets), c.requires) }

pub returns-clause-names : goal.returns-clause-names
returns-clause-names c = λ p g.
    let refs = c.in_ok-refs.ensures p g.by_files in
    let classes = c.items-classes.ensures ∙ c.classes.ensures ∙ ap (λ (fs : Files). fs.classes) (sym g.by_files) in
    record {
      refs = refs;
      order = subst (λ (fs : Files). map Some (class_order (all_classes fs)) ≡ map (class_at fs.classes)
          c.in_ok-order.order) (sym g.by_files) (c.in_ok-order.ensures
          (subst (λ (fs : Files). AreOrdered fs c.args.given.now.order.now) g.by_files g.by_order));
      offsets = c.in_ok-offsets.ensures ∙ ap offsets_in g.by_extents;
      cells = c.in_ok-cells.ensures
          ∙ ap (λ im. map (λ d. map (λ f. cell_offset im (field_id d.name f)) d.fields) c.items-classes.result.now)
          (sym g.by_image)
          ∙ ap (map (λ d. map (λ f. cell_offset p.image (field_id d.name f)) d.fields)) classes;
      numbered = c.in_ok-numbered.ensures
          ∙ map_same (λ d. ref_of c.in_ok-refs.refs d.name) (λ d. class_ref p d.name) c.items-classes.result.now
          (λ d. refs d.name)
          ∙ ap (map (λ d. class_ref p d.name)) classes;
    }
