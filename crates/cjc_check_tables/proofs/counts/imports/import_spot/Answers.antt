use Rattle.std.proofs.Common.{ap, ◌∙◌, List, length}
use Rattle.std.specs.Prelude.{◌==◌}
use Rattle.cjc_capread.specs.declared.tree.ImportedPackage.{ImportedPackage}
use Rattle.cjc_check_rules.specs.Imports.{packages_agree}
use Rattle.cjc_check_rules.specs.Spots.{first, in_info, unless}
use Rattle.cjc_check_rules.proofs.Firsts.{joined}
use Rattle.cjc_check_tables.proofs.counts.imports.import_spot.Goals as goal

pub returns : goal.returns
returns c =
    let count = c.unless-count.ensures
    ∙ ap (λ (ps : List ImportedPackage). first (unless (length ps == length c.args.exports.now) (in_info 4 0)))
    c.items-packages.ensures in
    let packages = c.first_beside.ensures
    ∙ ap (λ (ps : List ImportedPackage). first (packages_agree 1 ps c.args.exports.now)) c.items-packages.ensures in
    c.earlier.ensures ∙ joined _ _ _ _ count packages
