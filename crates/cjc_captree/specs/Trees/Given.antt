-- What ties to a package what is made of it before its components are put together.
use Rattle.std.specs.Prelude.{◌≡◌, map, length, nat_lt}
use Rattle.cjc_methods.specs.Ready.{AreOrdered}
use Rattle.cjc_exported.specs.World.Order.{method_order}
use Rattle.cjc_methods.specs.Tokens.Tokens.{assigned}
use Rattle.cjc_exported.specs.Components.Package.{Package, pool, world}
use Rattle.cjc_classes.specs.Entries.{key_token}
use Rattle.cjc_classes.specs.Descriptor.Made.{extents_of}
use Rattle.cjc_captree.specs.declared.trees.given.Given.{Given}

-- The tokens are those of the classes and members of the package's files.
abbrev pub HasTokens : Given → Type 0
HasTokens g = let list = g.list.now in g.tokens.now ≡ assigned (nat_lt 0 (length list.applets)) g.world.now

-- All of it is the package's, whose methods stand in the order of Method.
pub record AreGiven (p : Package) (g : Given) : Type 0 where
  pub by_list : p.list ≡ g.list.now
  pub by_files : p.files ≡ g.world.now
  pub by_image : p.image ≡ g.image.now
  pub by_tokens : HasTokens g
  pub by_keys : g.keys.now ≡ pool p
  pub by_key_tokens : g.key_tokens.now ≡ map (key_token p) (pool p)
  pub by_extents : g.extents.now ≡ extents_of p
  pub by_order : AreOrdered p.files g.order.now
  pub in_order : map (λ m. m.member) p.methods ≡ method_order (world p)
