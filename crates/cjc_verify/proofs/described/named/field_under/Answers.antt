use Rattle.std.proofs.Common.{◌∙◌, ℕ, ap, map, Option}
use Rattle.std.specs.Prelude.{option_and_then, option_map, slice_get}
use Rattle.cjc_world.specs.Classes.{Member, field_of_class}
use Rattle.cjc_verify.proofs.DescribedLaws.Entries.{field_at}
use Rattle.cjc_verify.proofs.described.named.field_under.Goals as goal

pub returns-in-Some : goal.returns-in-Some
returns-in-Some c =
    let t = c.args.class.now in
    c.desc_at.ensures
    ∙ field_at t c.in-Some.place
    ∙ ap (λ (o : Option ℕ). option_map (λ (m : Member). m.desc) (option_and_then (slice_get (map field_of_class
    t.fields)) o)) c.in-Some.ensures

pub returns-in-None : goal.returns-in-None
returns-in-None c =
    let t = c.args.class.now in
    ap (λ (o : Option ℕ). option_map (λ (m : Member). m.desc) (option_and_then (slice_get (map field_of_class
    t.fields)) o)) c.in-None.ensures
