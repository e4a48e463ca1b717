use Rattle.std.proofs.Common.{ap, ◌∙◌}
use Rattle.std.specs.Prelude.{option_and_then, slice_get}
use Rattle.cjc_card_semantics.specs.Machine.Classes.{number_of}
use Rattle.cjc_card_link.proofs.tables.Tables.class_names.Goals as goal

pub returns-in-Some : goal.returns-in-Some
returns-in-Some c =
    c.names.ensures
    ∙ ap (λ n. option_and_then (slice_get c.in-Some.package.now.classes) (number_of c.in-Some.package.now n))
    c.from.ensures
    ∙ ap (option_and_then (λ q. option_and_then (slice_get q.classes) (number_of q c.args.offset))) c.in-Some.ensures

pub returns-in-None : goal.returns-in-None
returns-in-None c =
    ap (option_and_then (λ q. option_and_then (slice_get q.classes) (number_of q c.args.offset))) c.in-None.ensures
