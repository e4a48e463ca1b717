use Rattle.std.proofs.Common.{◌≡◌, Bool, true, false, List, [], ◌∷◌, length, refl, ap, ◌∙◌, arith}
use Rattle.std.specs.Prelude.{◌&&◌, is_some, nat_lt}
use Rattle.std.proofs.lemmas.Bool.Decides.{nat_tests}
use Rattle.cjc_bytes.specs.declared.settings.AppletLine.{AppletLine}
use Rattle.cjc_bytes.specs.AccessFlags.{has}
use Rattle.cjc_world.specs.ExportFile.Members.{same_bool}
use Rattle.cjc_components.specs.LowerCheckRules.Spots.{in_info}
use Rattle.cjc_components.specs.LowerCheckRules.Listed.{acc_applet, acc_export}
use Rattle.cjc_components.specs.Package.{Package, world, has_applets}
use Rattle.cjc_components.specs.Exports.{export}
use Rattle.cjc_components.specs.Components.{uses_int, header_flags, applet_with}
use Rattle.cjc_token_proof.proofs.ComponentsLaws.Tests.{passes}
use Rattle.cjc_token_proof.proofs.components.flags_say_what_is_there.Goals as goal

-- the flags are told apart
told : (int export applet : Bool) → (same_bool (has (header_flags int export applet) acc_applet) applet
    && same_bool (has (header_flags int export applet) acc_export) export) ≡ true
told true true true = refl
told true true false = refl
told true false true = refl
told true false false = refl
told false true true = refl
told false true false = refl
told false false true = refl
told false false false = refl

-- Applet is there where the list has an applet line
there : (p : Package) (applets : List AppletLine) → is_some (applet_with p applets) ≡ nat_lt 0 (length applets)
there p [] = refl
there p (a ∷ applets) = grind (arith, nat_tests)

pub returns : goal.returns
returns c p =
    let list = p.list in
    let apart = told (uses_int (world p)) (is_some (export p)) (has_applets p) in
    passes _ (in_info 1 6)
    (ap (λ t. same_bool (has (header_flags (uses_int (world p)) (is_some (export p)) (has_applets p)) acc_applet) t
    && same_bool (has (header_flags (uses_int (world p)) (is_some (export p)) (has_applets p)) acc_export)
    (is_some (export p))) (there p list.applets) ∙ apart)
