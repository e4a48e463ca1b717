-- Packages made by hand, loaded as their components say, and run by token.
use Rattle.std.specs.Prelude.{ℕ, List, [], ◌∷◌, Option, option_map, codes}
use Rattle.cjc_bytes.specs.Breaks.{Break}
use Rattle.cjc_components.specs.LowerScript.declared.script.Script.{Script}
use Rattle.cjc_components.specs.LowerScript.declared.report.Report.{Report}
use Rattle.cjc_code.specs.ClassFile.declared.tree.ClassTree.{ClassTree}
use Rattle.cjc_world.specs.Files.{Files}
use Rattle.cjc_components.specs.LowerJvmSemantics.Worked.{method, class}
use Rattle.cjc_components.specs.LowerCardSemantics.Machine.Worked.{object}
use Rattle.cjc_components.specs.LowerCardSemantics.Machine.Worked
use Rattle.cjc_components.specs.LowerJvmSemantics.Wallet.{wallet_class}
use Rattle.cjc_components.specs.LowerCardSemantics.Machine.ByToken.{run}
use Rattle.cjc_components.specs.LowerCheckRules.Complete.{complete}
use Rattle.cjc_components.specs.Package.{Package, has_applets}
use Rattle.cjc_components.specs.Components.{components_of}
use Rattle.cjc_components.specs.Paired.Naming.{loaded_of}
use Rattle.cjc_components.specs.Paired.Pairs.{pair_breaks}
use Rattle.cjc_examples.specs.Components.Packages.{files_of, no_image, package_of, wallet, wallet_framework}

-- the report of a script of the components of a package with the names of its class files
abbrev pub run_of : Package → Script → ℕ → Option Report
run_of p script n = option_map (λ c. run (loaded_of (has_applets p) p.files p.image c) script n)
    (complete (components_of p))

-- what is broken of the components of a package beside some class files
abbrev pub broken_beside : Package → Files → Option (List Break)
broken_beside p files = option_map (pair_breaks files p.image) (complete (components_of p))

-- a class with one method, and with two
abbrev pub class_t : List ClassTree
class_t = class 0x0021 (codes "p/T") object [] [] [] (method (codes "f") (codes "(S)S") 2 1 [] (0x1A ∷ 0x04 ∷ 0x60
    ∷ 0x93 ∷ 0xAC ∷ []) ∷ []) ∷ []

-- the same class with a second method g()V
abbrev pub with_second : List ClassTree
with_second = class 0x0021 (codes "p/T") object [] [] [] (method (codes "f") (codes "(S)S") 2 1 [] (0x1A ∷ 0x04 ∷ 0x60
    ∷ 0x93 ∷ 0xAC ∷ []) ∷ method (codes "g") (codes "()V") 0 0 [] (0xB1 ∷ []) ∷ []) ∷ []

-- the wallet beside a java/lang with the exceptions of the machine's own and Throwable
abbrev pub wallet_with_exceptions : Package
wallet_with_exceptions = (let p = wallet in let list = p.list in package_of list.applets no_image (files_of (Worked.lang
    ∷ wallet_framework ∷ []) (wallet_class ∷ [])))
