use Rattle.std.proofs.Common.{◌∙◌, sym, ap}
use Rattle.std.proofs.lemmas.List.{map-set}
use Rattle.std.specs.Prelude.{if◌then◌else◌, set, Some, option_map}
use Rattle.cjc_tokens.specs.Slots.{with_taken}
use Rattle.cjc_tokens.specs.Working.{methods_in, signature_in, signs}
use Rattle.cjc_tokens.proofs.Takings.{meant-set}
use Rattle.cjc_tokens.proofs.taking.take.Goals as goal

pub returns-then-not-is_of_package-clause-slots : goal.returns-then-not-is_of_package-clause-slots
returns-then-not-is_of_package-clause-slots c =
    let S = signs c.args.row.now.items in
    let t = c.in-Some.token in
    map-set (option_map signature_in) c.args.row.now.items t (Some c.args.slot)
    ∙ ap (λ b. if b then S else set S t (Some (signature_in c.args.slot))) (sym (sym c.is_of_package.ensures
    ∙ c.if-not-is_of_package.true))
    ∙ ap (λ o. with_taken o (methods_in c.args.above.now) (signature_in c.args.slot) S) (sym c.in-Some.is)

pub returns-then-not-is_of_package-clause-methods : goal.returns-then-not-is_of_package-clause-methods
returns-then-not-is_of_package-clause-methods c = λ implements is meant_are. meant-set implements
    c.args.row.now.items c.in-Some.token c.args.slot is meant_are
