use Rattle.std.proofs.Common.{◌≡◌, ℕ, List, Bool, true, false, sym, ap, ◌∙◌}
use Rattle.std.specs.Prelude.{if◌then◌else◌}
use Rattle.cjc_world.specs.Classes.{Class}
use Rattle.cjc_world.specs.Lookup.{first, receiver}
use Rattle.cjc_world.specs.Supertypes.{line}
use Rattle.cjc_world.specs.Working.Known.{class_of}
use Rattle.cjc_jvm_semantics.specs.OnePackage.{Selection}
use Rattle.cjc_jvm_semantics.specs.Group.{is_open, is_package_visible, own_where, own_within, package_of}
use Rattle.cjc_jvm_link.proofs.wanted.wanted_for.Goals as goal

-- by whether the method is package-visible, of a package
abbrev by : List Class → (home : List ℕ) → Bool → Selection
by w home hidden class id = if hidden then first (own_within home id.name id.desc) (line w (receiver class))
    else first (own_where is_open id.name id.desc) (line w (receiver class))

pub returns-then-is_package_visible : goal.returns-then-is_package_visible
returns-then-is_package_visible c = λ w.
    let home = package_of (class_of c.args.owner.class).name in
    let hidden : is_package_visible c.args.owner.flags ≡ true = sym c.is_package_visible.ensures
    ∙ c.if-is_package_visible.true in
    let same : home ≡ c.package_of.result.now = sym (c.package_of.ensures ∙ ap package_of c.name.ensures) in
    ap (by w home) hidden ∙ ap (λ p. by w p true) same

pub returns-else-is_package_visible : goal.returns-else-is_package_visible
returns-else-is_package_visible c = λ w.
    let home = package_of (class_of c.args.owner.class).name in
    let hidden : is_package_visible c.args.owner.flags ≡ false = sym c.is_package_visible.ensures
    ∙ c.if-is_package_visible.false in
    ap (by w home) hidden
