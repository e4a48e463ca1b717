use Rattle.std.proofs.Common.{◌∙◌, List, ap}
use Rattle.std.specs.Prelude.{option_map}
use Rattle.cjc_card_acts.specs.CardSemantics.Machine.Classes.{external_from, or_else}
use Rattle.cjc_classes.specs.ClassInfo.Refs.{ref_in}
use Rattle.cjc_classes.specs.LowerComponents.Names.{ref_to}
use Rattle.cjc_world.specs.ExportFile.declared.tree.ExportTree.{ExportTree}
use Rattle.cjc_verify.proofs.InfosLaws.Refs.{refs_are}
use Rattle.cjc_verify.proofs.infos.refs.class_refs.Goals as goal

pub returns : goal.returns
returns c = λ p is begin. refs_are p c.args.world.now is c.args.order.now c.args.begins.now begin c.requires
    c.new-refs.result c.note_own.new.refs c.note_files.new.refs c.new-refs.ensures c.in_ok-note_own.ensures (λ x.
    c.in_ok-note_files.ensures x
    ∙ ap (λ (ts : List ExportTree). or_else (ref_in c.note_own.new.refs x) (option_map ref_to (external_from 0 ts x)))
    (c.items.ensures ∙ c.exports.ensures))
