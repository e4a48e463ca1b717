use Rattle.std.proofs.Common.{◌≡◌, length, drop, take, true, false, sym, ap, ◌∙◌}
use Rattle.std.specs.Prelude.{◌&&◌}
use Rattle.std.specs.Str.{bytes_eq}
use Rattle.cjc_world.specs.Rules.{is_of_package, is_slash_part}
use Rattle.cjc_world.proofs.Fronts.{front_too_short}
use Rattle.cjc_world.proofs.rules.is_of_package.Goals as goal

pub returns-then-name-package_name : goal.returns-then-name-package_name
unfolding is_of_package
returns-then-name-package_name c =
    ap (λ b. b && is_slash_part (drop (length c.args.package_name.now) c.args.name.now))
    (sym (front_too_short c.args.package_name.now c.args.name.now c.if-name-package_name.true))

pub returns-then-eq : goal.returns-then-eq
unfolding is_of_package
returns-then-eq c =
    let front : true ≡ bytes_eq (take (length c.args.package_name.now) c.args.name.now) c.args.package_name.now =
    sym c.if-eq.true ∙ c.eq.ensures ∙ ap (λ f. bytes_eq f c.args.package_name.now) c.split_at.ensures.front in
    c.is_slash_part.ensures ∙ ap is_slash_part c.split_at.ensures.back
    ∙ ap (λ b. b && is_slash_part (drop (length c.args.package_name.now) c.args.name.now)) front

pub returns-else-eq : goal.returns-else-eq
unfolding is_of_package
returns-else-eq c =
    let front : false ≡ bytes_eq (take (length c.args.package_name.now) c.args.name.now) c.args.package_name.now =
    sym c.if-eq.false ∙ c.eq.ensures ∙ ap (λ f. bytes_eq f c.args.package_name.now) c.split_at.ensures.front in
    c.if-eq.false ∙ ap (λ b. b && is_slash_part (drop (length c.args.package_name.now) c.args.name.now)) front
