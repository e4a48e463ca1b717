use Rattle.std.proofs.Common.{List, ℕ, sym, ap, ◌∙◌, [], ◌++◌}
use Rattle.std.specs.List.{flat_map}
use Rattle.cjc_code.specs.ClassFile.declared.tree.ClassTree.{ClassTree}
use Rattle.cjc_world.specs.ExportFile.declared.tree.ExportTree.{ExportTree}
use Rattle.cjc_world.specs.Classes.{all_classes}
use Rattle.cjc_subset.specs.Limits.{listed_by_declared, listed_by_imported, listed_names, noted}
use Rattle.cjc_subset.proofs.Noted.{noted_append}
use Rattle.cjc_subset.proofs.interfaces.interface_names.Goals as goal

pub returns : goal.returns
unfolding listed_names
returns c =
    let w = all_classes c.args.world.now in
    let class = c.args.class.now in
    let own = c.in_ok-note.ensures ∙ ap (λ (ks : List (List ℕ)). noted ks c.items.result.now) c.new-known.ensures
    ∙ ap (noted []) c.items.ensures in
    let declareds = c.in_ok-note_declared.ensures
    ∙ ap (λ (ds : List ClassTree). noted c.note.new.known (listed_by_declared w class ds)) (c.items-2.ensures
    ∙ c.classes.ensures)
    ∙ ap (λ (ks : List (List ℕ)). noted ks (listed_by_declared w class c.args.world.now.classes)) own
    ∙ sym (noted_append [] class.interfaces (listed_by_declared w class c.args.world.now.classes)) in
    let importeds : List ExportTree → List (List ℕ) = λ ts. flat_map (λ t. listed_by_imported w class t.classes) ts in
    c.in_ok-note_exports.ensures
    ∙ ap (λ (ts : List ExportTree). noted c.note_declared.new.known (importeds ts)) (c.items-3.ensures
    ∙ c.exports.ensures)
    ∙ ap (λ (ks : List (List ℕ)). noted ks (importeds c.args.world.now.exports)) declareds
    ∙ sym (noted_append [] (class.interfaces ++ listed_by_declared w class c.args.world.now.classes)
    (importeds c.args.world.now.exports))
