-- What stops a conversion by a rule is among all that it answers.
use Rattle.std.proofs.Common.{◌≡◌, inl, inr, ℕ, List}
use Rattle.std.specs.Prelude.{◌⊎◌}
use Rattle.cjc_bytes.specs.declared.fault.Fault.{Fault}
use Rattle.cjc_bytes.specs.declared.fault.Fault.TheVariants as faults
use Rattle.cjc_bytes.specs.declared.fault.Refusal.{Refusal}
use Rattle.cjc_conversion.specs.Conversion.{IsRefused}
use Rattle.cjc_list.specs.Listed.{ListTree}
use Rattle.cjc_whole.specs.Working.Shaped.{Stopped}

-- want of memory, or a refusal
abbrev pub IsAnswered : ListTree → List (List ℕ) → Fault → Type 0
IsAnswered list files e = (e ≡ faults.NoMemory) ⊎ ((r : Refusal) × IsRefused list files r × (e ≡ faults.Refused r))

pub by_rule : (list : ListTree) (files : List (List ℕ)) (e : Fault) → Stopped list files e → IsAnswered list files e
by_rule list files e (inl memory) = inl memory
by_rule list files e (inr (r, refused, is)) = inr (r, inl refused, is)
