-- What the entry of a key of a converted package's pool names.
use Rattle.std.specs.Prelude.{◌≡◌, ℕ, List, Some}
use Rattle.std.specs.List.{AllByRecursion}
use Rattle.cjc_verified_proof.specs.Components.Names.{names}
use Rattle.cjc_verified_proof.specs.Components.Package.{Package}
use Rattle.cjc_verified_proof.specs.Components.Types.{desc_of_key}
use Rattle.cjc_verified_proof.specs.NCode.Lowering.Naming.{entry_of}
use Rattle.cjc_verified_proof.specs.NCode.declared.narrow.PoolKey.{PoolKey}
use Rattle.cjc_verified_proof.specs.Verify.Named.{named_desc}
use Rattle.cjc_accepted_proof.specs.Written.{written_pair}

-- the entry of a key names a member of the key's descriptor
abbrev pub NamesItsDesc : Package → PoolKey → Type 0
NamesItsDesc p key = AllByRecursion (λ (desc : List ℕ). named_desc (written_pair p) (entry_of (names p) key)
    ≡ Some desc) (desc_of_key key)
