use Rattle.std.proofs.Common.{◌≡◌, sym, ap, ◌∙◌}
use Rattle.std.proofs.lemmas.Result.{err_from_is_err_and}
use Rattle.cjc_cmd_check.specs.Folder.Breaks.{export_trees, part_breaks}
use Rattle.cjc_cmd_check.specs.Folder.Reads.{export_names, export_places}
use Rattle.cjc_cmd_check.proofs.FolderLaws.Files.{first_right, foremost_left, none_broken}
use Rattle.cjc_cmd_check.proofs.FolderLaws.Ordered.{files_ordered, foremost_first}
use Rattle.cjc_cmd_check.proofs.folder.trees.folder_trees.Goals as goal

pub returns-in_err-exports-clause-refused : goal.returns-in_err-exports-clause-refused
returns-in_err-exports-clause-refused c =
    let p = err_from_is_err_and c.from_residual-in_err-exports.result c.from_residual-in_err-exports.ensures.1 in
    let f = c.args.folder.now in
    let names : export_names f.list.lines ≡ c.items-2.result.now = sym (c.items-2.ensures ∙ c.in_ok-names.ensures
    ∙ ap export_names c.items.ensures) in
    let told = rw c.items-3.ensures at c.in_err-exports.ensures.refused in
    rw (p.1, p.2) (foremost_first _ _ (files_ordered f c.requires.read.parts.tags)
    (foremost_left _ (part_breaks f.parts) _ (told (export_places 0 f.list.lines) names)))

pub returns-in_err-cap-clause-refused : goal.returns-in_err-cap-clause-refused
returns-in_err-cap-clause-refused c =
    let p = err_from_is_err_and c.from_residual-in_err-cap.result c.from_residual-in_err-cap.ensures.1 in
    let f = c.args.folder.now in
    let names : export_names f.list.lines ≡ c.items-2.result.now = sym (c.items-2.ensures ∙ c.in_ok-names.ensures
    ∙ ap export_names c.items.ensures) in
    let none = rw c.items-3.ensures at c.in_ok-exports.ensures.unbroken in
    rw (p.1, p.2) (first_right _ (part_breaks f.parts) _ (none (export_places 0 f.list.lines) names)
    c.in_err-cap.ensures.refused)

pub returns-clause-read : goal.returns-clause-read
returns-clause-read c =
    let f = c.args.folder.now in
    let names : export_names f.list.lines ≡ c.items-2.result.now = sym (c.items-2.ensures ∙ c.in_ok-names.ensures
    ∙ ap export_names c.items.ensures) in
    let none = rw c.items-3.ensures at c.in_ok-exports.ensures.unbroken in
    record {
      unbroken = none_broken _ (part_breaks f.parts) (none (export_places 0 f.list.lines) names)
          c.in_ok-cap.ensures.unbroken;
      exports = c.in_ok-exports.ensures.trees ∙ ap export_trees c.items-3.ensures;
      cap = c.in_ok-cap.ensures.found;
    }
