-- What `link` and `linkjvm` run of packages that were converted.
use Rattle.std.specs.Prelude.{◌≡◌, List}
use Rattle.cjc_components.specs.Package.{Package}
use Rattle.cjc_joint_proof.specs.Loading.{group_of}
use Rattle.cjc_link_semantics.specs.Loaded.{Member}
use Rattle.cjc_link_semantics.specs.Together.{BehaveAlike}

-- What is run of a group are these packages, with the components that are written for them; and for every script its
-- reports by name and by token agree.
pub record RunsWritten (packages : List Package) (group : List Member) : Type 0 where
  pub members : group ≡ group_of packages
  pub alike : BehaveAlike group
