use Rattle.std.proofs.Common.{◌≡◌, ℕ, List, ap, ◌∙◌}
use Rattle.std.specs.Prelude.{option_map}
use Rattle.std.specs.Map.{lookup}
use Rattle.std.specs.Str.{bytes_eq}
use Rattle.cjc_export.specs.declared.tree.ExportTree.{ExportTree}
use Rattle.cjc_card.specs.Classes.{foreign_from}
use Rattle.cjc_world.specs.Classes.{all_classes}
use Rattle.cjc_components.specs.Names.{class_ref, ref_to}
use Rattle.cjc_type_info.specs.TypeTable.{ref_of}
use Rattle.cjc_type_info.specs.Working.Refs.{listed_ref, or_else, ref_or_first}
use Rattle.cjc_type_info.proofs.Named.{refs_made}
use Rattle.cjc_type_info.proofs.class_refs.ClassRefs.of.Goals as goal

pub returns : goal.returns
returns c = λ p by_files are.
    let w = all_classes c.args.world.now in
    let refs = c.args.classes.now in
    let is : (x : List ℕ) → ref_of c.put_exports.new.refs.entries x ≡ class_ref p x = λ x.
    ap ref_or_first
    (c.in_ok-put_exports.ensures x
    ∙ ap (λ o. or_else o (option_map ref_to (foreign_from 0 c.items.result.now x)))
    (c.in_ok-put_listed.ensures x ∙ ap (λ es. or_else (lookup (bytes_eq x) es) (listed_ref w refs x)) c.new-refs.ensures.empty)
    ∙ ap (λ (ts : List ExportTree). or_else (listed_ref w refs x) (option_map ref_to (foreign_from 0 ts x))) (c.items.ensures ∙ c.exports.ensures))
    ∙ refs_made p c.args.world.now refs by_files are x in
    (λ i x. is x i)
