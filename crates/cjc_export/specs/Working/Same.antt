-- The test of constants decides their equality.
use Rattle.std.proofs.Common.{◌≡◌, false, refl, sym, ap, true≢false}
use Rattle.std.specs.Bool.{Decides, IsTrue}
use Rattle.std.specs.Cmp.{IsEquivalence, decided}
use Rattle.std.proofs.lemmas.Bool.Decides.{Decides-eqb}
use Rattle.std.proofs.lemmas.Slice.Eq.{bytes_eq-Decides}
use Rattle.cjc_export.specs.Constant.{Constant, text, integer, class, this, same, fed}

differ : (c d : Constant) → (c ≡ d → ⊥) → Decides false (c ≡ d)
differ c d h = (λ e. absurd (true≢false (sym e)), λ e. absurd (h e))

-- the test holds of two constants where they are equal, and else not
pub same-Decides : (c d : Constant) → Decides (same c d) (c ≡ d)
same-Decides (text a) (text b) = (λ e. ap text ((bytes_eq-Decides a b).0 e), λ e. (bytes_eq-Decides a b).1 cc)
same-Decides (integer m) (integer n) = (λ e. ap integer ((Decides-eqb m n).0 e), λ e. (Decides-eqb m n).1 cc)
same-Decides (class a) (class b) = (λ e. ap class ((bytes_eq-Decides a b).0 e), λ e. (bytes_eq-Decides a b).1 cc)
same-Decides this this = (λ e. refl, λ e. refl)
same-Decides (text a) (integer n) = differ (text a) (integer n) (λ e. cc)
same-Decides (text a) (class n) = differ (text a) (class n) (λ e. cc)
same-Decides (text a) this = differ (text a) this (λ e. cc)
same-Decides (integer a) (text n) = differ (integer a) (text n) (λ e. cc)
same-Decides (integer a) (class n) = differ (integer a) (class n) (λ e. cc)
same-Decides (integer a) this = differ (integer a) this (λ e. cc)
same-Decides (class a) (text n) = differ (class a) (text n) (λ e. cc)
same-Decides (class a) (integer n) = differ (class a) (integer n) (λ e. cc)
same-Decides (class a) this = differ (class a) this (λ e. cc)
same-Decides this (text n) = differ this (text n) (λ e. cc)
same-Decides this (integer n) = differ this (integer n) (λ e. cc)
same-Decides this (class n) = differ this (class n) (λ e. cc)

-- the test is reflexive, symmetric and transitive
pub same-equivalence : IsEquivalence same
same-equivalence = decided same same-Decides

-- constants that are the same feed a hasher the same
pub same-fed : (c d : Constant) → IsTrue (same c d) → fed c ≡ fed d
same-fed c d h = ap fed ((same-Decides c d).0 h)
