-- Class_refs in types, read back.
use Rattle.std.specs.Prelude.{◌≡◌, ℕ, true, List, Some}
use Rattle.cjc_types.specs.World.Classes.{Class}
use Rattle.cjc_verify.specs.CardActs.CardTypes.{class_by}
use Rattle.cjc_check_proof.specs.NCode.Lowering.Naming.{Naming}
use Rattle.cjc_verify.specs.Components.Types.{ref_nibbles}
use Rattle.cjc_check_proof.specs.TokenProof.ByToken.Supers.{has_class}

-- the nibbles of a class_ref of a class that some file has are those of the class
abbrev pub RefsAreRead : List Class → Naming → Type 0
RefsAreRead w n = (c : List ℕ) → has_class w c ≡ true → class_by n.loaded (ref_nibbles (n.class_ref c))
    ≡ Some (n.class c)
