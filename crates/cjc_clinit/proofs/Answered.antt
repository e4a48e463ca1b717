-- What is answered of what is broken.
use Rattle.std.proofs.Common.{◌≡◌, subst, List, [], inl, inr}
use Rattle.cjc_bytes.specs.declared.fault.Fault.{Fault}
use Rattle.cjc_bytes.specs.Breaks.{Break, Among, IsFirstRefusal}
use Rattle.cjc_bytes.proofs.BrokenRules.{none_among}
use Rattle.cjc_subset.specs.LowerBytecode.declared.method_code.MethodCode.{MethodCode}
use Rattle.cjc_subset.specs.LowerWorld.Files.{Files}
use Rattle.cjc_clinit.specs.Rules.{AreBreaks, BreaksImage, IsFirstRefused}

module _ (files : Files) (codes : List MethodCode) (bs : List Break) (all : AreBreaks files codes bs) where
  pub refusing : (e : Fault) → IsFirstRefusal bs e → IsFirstRefused files codes e
  refusing e (inl memory) = inl memory
  refusing e (inr (b, first, is)) = inr (b, (all b).0 first.among, (λ a h. first.least a ((all a).1 h)), is)

  pub unbroken : bs ≡ [] → (b : Break) → BreaksImage files codes b → ⊥
  unbroken none b h = none_among b (subst (λ (q : List Break). Among b q) none ((all b).1 h))
