use Rattle.std.proofs.Common.{◌≡◌, ℕ, ◌≤◌, refl, arith, Bool, true, false, length}
use Rattle.std.specs.Prelude.{◌||◌, nat_lt}
use Rattle.std.proofs.lemmas.Bool.Decides.{nat_tests}
use Rattle.cjc_pool.specs.CapWrite.Class.{class_info_bytes}
use Rattle.cjc_components.specs.Class.{class_info}
use Rattle.cjc_components.specs.Names.{class_ref}
use Rattle.cjc_token_proof.proofs.ComponentsLaws.Sizes.{classes_are}
use Rattle.cjc_check_proof.proofs.classes.limits_are_kept.Goals as goal

first_of : (a b c : Bool) → (a || (b || c)) ≡ false → b ≡ false
first_of false false c e = refl
first_of false true c e = absurd (cc)
first_of true b c e = absurd (cc)

small : (n size : ℕ) (a c : Bool) → n ≡ size → (a || (nat_lt 32767 n || c)) ≡ false → size ≤ 32767
small n size a c is e = let few = first_of a (nat_lt 32767 n) c e in grind (arith, nat_tests, is, few)

pub returns-clause-types : goal.returns-clause-types
returns-clause-types c p e = e

pub returns-clause-classes : goal.returns-clause-classes
returns-clause-classes c p e = let info = class_info (class_ref p) p in small (length (class_info_bytes info)) _ _ _
    (classes_are info) e
