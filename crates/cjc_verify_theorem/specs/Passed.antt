-- Components that break no rule beside a package that breaks none.
use Rattle.std.specs.Prelude.{◌≡◌, ◌<◌, ℕ, List, length, slice_get, Some}
use Rattle.std.specs.List.{AllByRecursion}
use Rattle.cjc_verified_proof.specs.Bytes.Format.{FileSpells}
use Rattle.cjc_verified_proof.specs.CapRead.Component.{component}
use Rattle.cjc_verified_proof.specs.CapRead.declared.tree.CapTree.{CapTree}
use Rattle.cjc_verified_proof.specs.CapRead.declared.tree.Component.{Component}
use Rattle.cjc_verified_proof.specs.CapRead.declared.tree.Component.TheVariants as components
use Rattle.cjc_verified_proof.specs.CheckRules.Complete.{Complete, complete}
use Rattle.cjc_verified_proof.specs.CheckRules.Consistent.{Consistent}
use Rattle.cjc_verified_proof.specs.Clinit.Image.{IsImage}
use Rattle.cjc_verified_proof.specs.Components.Paired.Pairs.{ArePaired}
use Rattle.cjc_theorem.specs.LowerJudge.Judged.{IsJudged}
use Rattle.cjc_theorem.specs.LowerJudge.Rules.{has_applets}
use Rattle.cjc_theorem.specs.LowerJudge.Spelt.{IsRead}
use Rattle.cjc_theorem.specs.LowerJudge.declared.groups.Group.{Group}
use Rattle.cjc_theorem.specs.LowerJudge.declared.groups.Group.TheVariants as groups
use Rattle.cjc_theorem.specs.LowerJudge.declared.judged.Judged.{Judged}
use Rattle.cjc_verified_proof.specs.List.Listed.{ListTree}
use Rattle.cjc_verified_proof.specs.Verify.Pairs.{pair_of}
use Rattle.cjc_verified_proof.specs.Verify.Verified.{IsVerified}
use Rattle.cjc_verified_proof.specs.World.declared.image.StaticImage.{StaticImage}

-- each of these files is bytes
abbrev pub AreBytes : List (List ℕ) → Type 0
AreBytes files = (k : ℕ) (bytes : List ℕ) → slice_get files k ≡ Some bytes → AllByRecursion (λ b. b < 256) bytes

-- a group of rules is among those that were tested
abbrev pub IsAmong : Group → List Group → Type 0
IsAmong group tested = (i : ℕ) × (slice_get tested i ≡ Some group)

-- some bytes spell the component of a tag
abbrev pub IsSpelt : (tag : ℕ) → Component → Type 0
IsSpelt tag x = (bytes : List ℕ) × AllByRecursion (λ b. b < 256) bytes
    × FileSpells (component tag (length bytes)) x bytes

-- Of a list that was read and its files: the package breaks none of the rules of files, of classes and names, of limits
-- and of tokens; bytes spell the constant pool, Method and Descriptor of the components, which are consistent with the
-- export files, are of the package, and break no rule of the type checker.
pub record IsPassed (list : ListTree) (files : List (List ℕ)) (tested : List Group) (judged : Judged) (cap : CapTree)
    (c : Complete) (image : StaticImage) : Type 0 where
  pub read : IsRead list
  pub bytes : AreBytes files
  pub limits : IsAmong groups.Limits tested
  pub tokens : IsAmong groups.Tokens tested
  pub judged_by : IsJudged list files tested judged
  pub pool : IsSpelt 5 (components.Pool c.pool)
  pub method : IsSpelt 7 (components.Method c.method)
  pub descriptor : IsSpelt 11 (components.Descriptor c.descriptor)
  pub is_complete : complete cap ≡ Some c
  pub consistent : (let world = judged.world in Consistent cap world.exports)
  pub initialised : IsImage judged.world judged.codes image
  pub paired : ArePaired judged.world image c
  pub verified : IsVerified (pair_of (has_applets list) judged.world image c)
