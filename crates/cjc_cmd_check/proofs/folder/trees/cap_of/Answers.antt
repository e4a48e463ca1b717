use Rattle.std.proofs.Common.{[], append-nil, ◌∙◌}
use Rattle.std.proofs.lemmas.Result.{err_from_is_err_and}
use Rattle.cjc_cmd_check.proofs.FolderLaws.Files.{behind_header, behind_directory, foremost_in_front, part_step}
use Rattle.cjc_cmd_check.proofs.FolderLaws.Files.{tags_within}
use Rattle.cjc_cmd_check.proofs.FolderLaws.Ordered.{foremost_first, parts_ordered}
use Rattle.cjc_cmd_check.proofs.folder.trees.cap_of.Goals as goal

pub returns-in_err-header-clause-refused : goal.returns-in_err-header-clause-refused
returns-in_err-header-clause-refused c =
    let p = err_from_is_err_and c.from_residual.result c.from_residual.ensures.1 in
    let here = rw c.items.ensures at c.in_err-header.ensures.refused in
    rw (p.1, p.2) (foremost_first _ _ (parts_ordered c.args.parts.now c.requires.read.tags) (foremost_in_front _ _ _ _
    (part_step c.args.parts.now) here))

pub returns-in_err-directory-clause-refused : goal.returns-in_err-directory-clause-refused
returns-in_err-directory-clause-refused c =
    let p = err_from_is_err_and c.from_residual-in_err-directory.result c.from_residual-in_err-directory.ensures.1 in
    let header = rw c.items.ensures at c.in_ok-header.ensures.found in
    let here = rw c.items-2.ensures at c.in_err-directory.ensures.refused in
    rw (p.1, p.2) (foremost_first _ _ (parts_ordered c.args.parts.now c.requires.read.tags) (foremost_in_front _ _ _ _
    (behind_header c.args.parts.now _ header) here))

pub put_others-requires-clause-one : goal.put_others-requires-clause-one
put_others-requires-clause-one c = rw (c.items-3.ensures, c.requires.read.tags) (tags_within c.args.parts.now.directory)

pub returns-in_err-put_others-clause-refused : goal.returns-in_err-put_others-clause-refused
returns-in_err-put_others-clause-refused c =
    let p = err_from_is_err_and c.from_residual-in_err-put_others.result c.from_residual-in_err-put_others.ensures.1 in
    let header = rw c.items.ensures at c.in_ok-header.ensures.found in
    let directory = rw c.items-2.ensures at c.in_ok-directory.ensures.found in
    let here = rw (c.items-3.ensures, c.items-4.ensures) at c.in_err-put_others.ensures.refused in
    rw (p.1, p.2) (foremost_first _ _ (parts_ordered c.args.parts.now c.requires.read.tags) (foremost_in_front _ [] _ _
    (behind_directory c.args.parts.now _ _ header directory) here))

pub returns-clause-unbroken : goal.returns-clause-unbroken
returns-clause-unbroken c =
    let header = rw c.items.ensures at c.in_ok-header.ensures.found in
    let directory = rw c.items-2.ensures at c.in_ok-directory.ensures.found in
    let none = rw (c.items-3.ensures, c.items-4.ensures) at c.in_ok-put_others.ensures.unbroken in
    behind_directory c.args.parts.now _ _ header directory ∙ append-nil _ ∙ none
