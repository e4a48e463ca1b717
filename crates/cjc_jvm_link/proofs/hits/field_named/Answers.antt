use Rattle.std.proofs.Common.{sym, ap, ◌∙◌}
use Rattle.std.specs.Prelude.{option_and_then, option_map}
use Rattle.cjc_world.specs.Classes.{all_classes}
use Rattle.cjc_jvm_semantics.specs.OnePackage.{constant_at, field_by, field_hit}
use Rattle.cjc_jvm_link.proofs.hits.field_named.Goals as goal

pub returns-in-Some : goal.returns-in-Some
returns-in-Some c =
    let files = c.args.world.now in
    c.field_at.ensures c.args.id.now
    ∙ ap (option_and_then (λ f. option_map (field_by (constant_at files f) c.args.id.now)
    (field_hit (all_classes files) f))) c.in-Some.ensures
