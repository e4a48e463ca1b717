use Rattle.std.proofs.Common.{ap, ◌||◌, ◌∙◌, true}
use Rattle.std.specs.Str.{bytes_eq}
use Rattle.cjc_compat.specs.Working.Names.{is_noted}
use Rattle.cjc_compat.proofs.Noting.{put_noted}
use Rattle.cjc_compat.proofs.names.Names.put.Goals as goal

pub returns : goal.returns
returns c = λ x.
    put_noted (λ k. k.items) c.in_ok-name.name.items c.args.self.now.kept c.insert.new.self true
    c.in_ok-insert.ensures.updates x
    ∙ ap (λ z. bytes_eq z x || is_noted c.args.self.now x) c.in_ok-name.ensures.items
