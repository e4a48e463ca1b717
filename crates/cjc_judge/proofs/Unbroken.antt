-- A refusal is of something that is broken.
use Rattle.std.proofs.Common.{◌≡◌, inl, inr, List, [], sym, subst, ◌∙◌}
use Rattle.cjc_bytes.specs.Breaks.{Among, Break, IsFirstRefusal}
use Rattle.cjc_bytes.specs.declared.fault.Fault.{Fault}
use Rattle.cjc_bytes.specs.declared.fault.Fault.TheVariants as faults
use Rattle.cjc_bytes.specs.declared.fault.Refusal.{Refusal}
use Rattle.cjc_bytes.proofs.BrokenRules.{no_among}
use Rattle.cjc_clinit.specs.Rules.{BreaksImage, IsFirstRefused}
use Rattle.cjc_clinit.specs.Bytecode.declared.method_code.MethodCode.{MethodCode}
use Rattle.cjc_world.specs.Files.{Files}

-- of an initialiser
pub image_refused : (files : Files) (codes : List MethodCode) (e : Fault) (r : Refusal) → e ≡ faults.Refused r
    → IsFirstRefused files codes e → ((b : Break) → BreaksImage files codes b → ⊥) → ⊥
image_refused files codes e r is (inl none) unbroken = let clash : faults.Refused r ≡ faults.NoMemory = sym is ∙ none
    in cc
image_refused files codes e r is (inr (b, breaks_it, first, same)) unbroken = unbroken b breaks_it

-- of a list of breaks
pub none_refused : (bs : List Break) (e : Fault) (r : Refusal) → e ≡ faults.Refused r → IsFirstRefusal bs e → bs ≡ []
    → ⊥
none_refused bs e r is (inl none) unbroken = let clash : faults.Refused r ≡ faults.NoMemory = sym is ∙ none in cc
none_refused bs e r is (inr (b, first, same)) unbroken = no_among b (subst (Among b) unbroken first.among)
