use Rattle.std.proofs.Common.{◌≡◌, [], ◌∷◌, ◌∙◌}
use Rattle.cjc_int_mode.proofs.Named.{names_of_one}
use Rattle.cjc_int_mode.proofs.choosing.names_int.Goals as goal

pub returns : goal.returns
returns c = λ k m t of.
    let one : c.from_ref.result.now ≡ c.args.code.now ∷ [] = c.from_ref.ensures.value in
    c.any_works_on_int.ensures ∙ names_of_one c.args.world.now c.args.code.now c.from_ref.result.now k m t of one
