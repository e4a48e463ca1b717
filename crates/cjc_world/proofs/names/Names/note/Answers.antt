use Rattle.std.proofs.Common.{ap, cond, ◌∙◌}
use Rattle.std.specs.Prelude.{Some}
use Rattle.std.specs.Str.{bytes_eq}
use Rattle.cjc_world.specs.Working.Names.{place_in}
use Rattle.cjc_world.proofs.Noted.{noted}
use Rattle.cjc_world.proofs.names.Names.note.Goals as goal

pub returns : goal.returns
returns c = λ x.
    noted (λ k. k.items) c.in_ok-name.name.items c.args.self.now.places c.insert.new.self _
    c.in_ok-insert.ensures.updates x
    ∙ ap (λ z. cond (bytes_eq z x) (Some c.args.place) (place_in c.args.self.now x)) c.in_ok-name.ensures.items
