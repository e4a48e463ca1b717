use Rattle.std.proofs.Common.{List, sym, ap, ◌∙◌}
use Rattle.std.specs.Prelude.{option_map, slice_get}
use Rattle.std.proofs.lemmas.Option.{slice_get-map}
use Rattle.cjc_card_semantics.specs.Machine.Loaded.{Part}
use Rattle.cjc_card_link.specs.declared.part.Import.{Import}
use Rattle.cjc_card_link.specs.Group.{import_of}
use Rattle.cjc_card_link.proofs.package.Package.import.Goals as goal

pub returns : goal.returns
returns c =
    ap (option_map import_of) (c.import_at.ensures
    ∙ ap (λ (xs : List Import). slice_get xs c.args.token) c.items.ensures)
    ∙ sym (slice_get-map import_of c.self.inside.imports c.args.token)
    ∙ ap (λ (q : Part). slice_get q.imports c.args.token) c.self.view_is
