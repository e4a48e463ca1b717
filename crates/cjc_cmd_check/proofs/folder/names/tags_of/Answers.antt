use Rattle.std.proofs.Common.{sym, ◌∙◌}
use Rattle.cjc_cmd_check.proofs.FolderLaws.Files.{refused_none, tags_some, tags_none}
use Rattle.cjc_cmd_check.proofs.folder.names.tags_of.Goals as goal

pub returns-in-Some : goal.returns-in-Some
returns-in-Some c =
    let some = sym c.into_directory.ensures ∙ c.in-Some.is in
    let all = tags_some c.args.bytes.now c.in-Ok.component c.in-Some.directory c.in-Ok.ensures.found some in
    let told = rw c.items.ensures at c.tags_with_size.ensures in
    rw (sym all) at told

pub returns-in-Ok : goal.returns-in-Ok
returns-in-Ok c =
    let none = sym c.into_directory.ensures ∙ c.in-None.is in
    c.new.ensures ∙ sym (tags_none c.args.bytes.now c.in-Ok.component c.in-Ok.ensures.found none)

pub returns-in-Err-Refused : goal.returns-in-Err-Refused
returns-in-Err-Refused c = c.new-in-Err-Refused.ensures ∙ sym (refused_none _ c.args.bytes.now c.in-Err-Refused.field-0
    _ c.in-Err-Refused.field-0-is c.in-Err-Refused.ensures.refused)
