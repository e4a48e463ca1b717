use Rattle.std.proofs.Common.{ap, ◌∙◌}
use Rattle.cjc_cmd_card.specs.Shelf.Command.Publish.{written_files}
use Rattle.cjc_cmd_card.specs.Shelf.declared.command.status.Todo.{Todo}
use Rattle.cjc_cmd_card.specs.Shelf.Memory.{clean_shelved, files_of}
use Rattle.cjc_cmd_make.proofs.report.making.add_converted.Goals as goal

pub returns : goal.returns
returns c =
    c.in_ok-add_files.ensures
    ∙ ap (λ list. written_files list (files_of (clean_shelved c.args.shelf.now))) (c.items.ensures
    ∙ ap (λ (t : Todo). t.files) c.in_ok-todo.ensures)
