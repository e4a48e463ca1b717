use Rattle.std.proofs.Common.{◌≡◌, ◌∙◌, sym, subst}
use Rattle.std.specs.Prelude.{IfOk, Some}
use Rattle.cjc_exported.specs.Components.Components.{directory_with, import}
use Rattle.cjc_exported.specs.Components.Statics.{static_field}
use Rattle.cjc_captree.proofs.TreesLaws.Trees.{applet_there, import_there, statics_there}
use Rattle.cjc_captree.proofs.trees.tree.counts_of.Goals as goal

pub returns-in-Some-Some : goal.returns-in-Some-Some
returns-in-Some-Some c = λ p h.
    let statics : c.in-Some-Some.statics ≡ static_field p.image = (let e : Some c.in-Some-Some.statics
    ≡ Some (static_field p.image) = sym c.in-Some-Some.is-0 ∙ statics_there p c.args.tree.now h in cc) in
    let imports : c.in-Some-Some.import ≡ import p = (let e : Some c.in-Some-Some.import
    ≡ Some (import p) = sym c.in-Some-Some.is-1 ∙ import_there p c.args.tree.now h in cc) in
    subst (λ sizes. IfOk c.directory.result (λ d. d ≡ directory_with sizes p)) (c.of-sizes.ensures
    ∙ c.in_ok-from_slice.ensures.items)
    (c.directory.ensures p statics imports (applet_there p c.args.tree.now h))
