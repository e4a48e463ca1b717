-- Packages of Import beside export files, in a loop over both.
use Rattle.std.proofs.Common.{◌≡◌, ℕ, ◌+◌, ◌<◌, ◌≤◌, List, [], ◌∷◌, ◌++◌, length, get_or, drop, refl, sym, ap, ◌∙◌, Option}
use Rattle.std.proofs.lemmas.List.{drop_more, drop_all}
use Rattle.cjc_capread.specs.declared.tree.ImportedPackage.{ImportedPackage}
use Rattle.cjc_export.specs.declared.tree.ExportTree.{ExportTree}
use Rattle.cjc_check.specs.Spots.{Spot, earlier, first}
use Rattle.cjc_check.specs.Complete.{package_size}
use Rattle.cjc_check.specs.Imports.{package_agrees, packages_agree}
use Rattle.cjc_check.proofs.Firsts.{earlier_none, earlier_assoc, first_append}

no_tree : (at : ℕ) (ps : List ImportedPackage) → packages_agree at ps [] ≡ []
unfolding packages_agree
no_tree at [] = refl
no_tree at (p ∷ ps) = refl

no_package : (at : ℕ) (ts : List ExportTree) → packages_agree at [] ts ≡ []
unfolding packages_agree
no_package at [] = refl
no_package at (t ∷ ts) = refl

step : (at i : ℕ) (p : ImportedPackage) (t : ExportTree) (ps : List ImportedPackage) (ts : List ExportTree)
    → i < length ps → i < length ts → p ≡ get_or ps i p → t ≡ get_or ts i t
    → packages_agree at (drop i ps) (drop i ts) ≡ package_agrees at p t ++ packages_agree (at + package_size p) (drop (i + 1) ps) (drop (i + 1) ts)
unfolding packages_agree
step at i p t ps ts lp lt pi ti =
    let d : drop i ps ≡ p ∷ drop (i + 1) ps = drop_more ps i p lp ∙ ap (λ (y : ImportedPackage). y ∷ drop (i + 1) ps) (sym pi) in
    let e : drop i ts ≡ t ∷ drop (i + 1) ts = drop_more ts i t lt ∙ ap (λ (y : ExportTree). y ∷ drop (i + 1) ts) (sym ti) in
    ap (λ (xs : List ImportedPackage). packages_agree at xs (drop i ts)) d ∙ ap (λ (ys : List ExportTree). packages_agree at (p ∷ drop (i + 1) ps) ys) e

pub packages_more : (at next i : ℕ) (p : ImportedPackage) (t : ExportTree) (ps : List ImportedPackage) (ts : List ExportTree) (best found total : Option Spot)
    → i < length ps → i < length ts → p ≡ get_or ps i p → t ≡ get_or ts i t → next ≡ at + package_size p → found ≡ first (package_agrees at p t)
    → earlier best (first (packages_agree at (drop i ps) (drop i ts))) ≡ total
    → earlier (earlier best found) (first (packages_agree next (drop (i + 1) ps) (drop (i + 1) ts))) ≡ total
packages_more at next i p t ps ts best found total lp lt pi ti n f so_far =
    let rest = packages_agree (at + package_size p) (drop (i + 1) ps) (drop (i + 1) ts) in
    let one : first (packages_agree at (drop i ps) (drop i ts)) ≡ earlier (first (package_agrees at p t)) (first rest) = ap first (step at i p t ps ts lp lt pi ti) ∙ first_append (package_agrees at p t) rest in
    rw (n, f) (earlier_assoc best (first (package_agrees at p t)) (first rest) ∙ ap (earlier best) (sym one) ∙ so_far)

over : (best total : Option Spot) (spots : List Spot) → spots ≡ [] → earlier best (first spots) ≡ total → best ≡ total
unfolding first
over best total spots e so_far = sym (earlier_none best) ∙ ap (λ (xs : List Spot). earlier best (first xs)) (sym e) ∙ so_far

pub packages_short : (at i : ℕ) (ps : List ImportedPackage) (ts : List ExportTree) (best total : Option Spot) → length ts ≤ i
    → earlier best (first (packages_agree at (drop i ps) (drop i ts))) ≡ total → best ≡ total
packages_short at i ps ts best total le so_far =
    over best total (packages_agree at (drop i ps) (drop i ts)) (ap (λ (ys : List ExportTree). packages_agree at (drop i ps) ys) (drop_all i ts le) ∙ no_tree at (drop i ps)) so_far

pub packages_all : (at i : ℕ) (ps : List ImportedPackage) (ts : List ExportTree) (best total : Option Spot) → length ps ≤ i
    → earlier best (first (packages_agree at (drop i ps) (drop i ts))) ≡ total → best ≡ total
packages_all at i ps ts best total le so_far =
    over best total (packages_agree at (drop i ps) (drop i ts)) (ap (λ (xs : List ImportedPackage). packages_agree at xs (drop i ts)) (drop_all i ps le) ∙ no_package at (drop i ts)) so_far
