-- What is measured before a package's components are written.
use Rattle.std.proofs.Common.{◌≡◌, ℕ, ◌≤◌, refl, ap, ◌∙◌, Bool, true, false, List, [], ◌∷◌, ◌++◌, length, arith, Option}
use Rattle.std.proofs.Common.{Some, None}
use Rattle.std.specs.Prelude.{◌||◌, nat_lt, if◌then◌else◌}
use Rattle.std.proofs.lemmas.Bool.Decides.{nat_tests}
use Rattle.std.proofs.lemmas.Bool.{ltb-false}
use Rattle.cjc_bytes.specs.Breaks.{at}
use Rattle.cjc_bytes.proofs.Bools.{or_left}
use Rattle.cjc_check_proof.specs.CapRead.declared.tree.CapTree.{CapTree}
use Rattle.cjc_classes.specs.CapWrite.Files.{ends_too_far, infos_of, is_too_large, limit_of}
use Rattle.cjc_components.specs.Components.{components_of}
use Rattle.cjc_components.specs.Limits.{form_breaks, has_many_entries, layout_breaks, of_methods, size_breaks}
use Rattle.cjc_components.specs.Limits.{spot_of_list, widest_method}
use Rattle.cjc_components.specs.Package.{Package, pool}

low : (n : ℕ) → n ≤ 65535 → nat_lt 65535 n ≡ false
low n le = grind (arith, nat_tests)

within : (t : CapTree) → limit_of t ≡ None → (ends_too_far t.descriptor ≡ false) × (is_too_large (infos_of t) ≡ false)
within t e = by (ends_too_far t.descriptor) (is_too_large (infos_of t)) e
  where
    by : (a b : Bool) → ◌≡◌ {A = Option ℕ} (if a then Some 411 else if b then Some 416 else None) None → (a ≡ false)
        × (b ≡ false)
    by true b f = cc
    by false true f = cc
    by false false f = (refl, refl)

-- 411 and 416, by what is measured of the component tree and of Method at the widest
pub sizes_kept : (p : Package) → widest_method p ≤ 65535 → limit_of (components_of p) ≡ None → size_breaks p ≡ []
sizes_kept p counted none =
    let w = within (components_of p) none in
    let large : (nat_lt 65535 (widest_method p) || is_too_large (infos_of (components_of p))) ≡ false =
    ap (λ b. b || is_too_large (infos_of (components_of p))) (low (widest_method p) counted) ∙ w.1 in
    ap (λ b. at b (spot_of_list p) 411 ++ at (nat_lt 65535 (widest_method p)
    || is_too_large (infos_of (components_of p))) (spot_of_list p) 416) w.0
    ∙ ap (λ b. at b (spot_of_list p) 416) large

-- 414
pub entries_few : (p : Package) → form_breaks p ≡ [] → length (pool p) ≤ 16383
entries_few p kept =
    ltb-false 16383 (length (pool p)) (or_left _ _ (off (has_many_entries p) (back (of_methods p (layout_breaks p))
    (at (has_many_entries p) (spot_of_list p) 414) kept)))
  where
    back : {A : Type 0} (xs ys : List A) → xs ++ ys ≡ [] → ys ≡ []
    back [] ys e = e
    back (x ∷ xs) ys e = cc

    off : (b : Bool) → at b (spot_of_list p) 414 ≡ [] → b ≡ false
    off true e = cc
    off false e = refl
