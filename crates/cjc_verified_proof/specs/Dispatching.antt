-- What the components of a pair name, and what dispatch by their tables rests on and gives.
use Rattle.std.specs.Prelude.{◌≡◌, ◌<◌, ℕ, List, [], slice_get, Some, nat_lt, false, if◌then◌else◌}
use Rattle.cjc_verify.specs.List.Listed.{ListTree}
use Rattle.cjc_world.specs.declared.found.Found.{Found}
use Rattle.cjc_world.specs.declared.image.StaticImage.{StaticImage}
use Rattle.cjc_world.specs.Classes.{Class}
use Rattle.cjc_world.specs.Files.{Files}
use Rattle.cjc_world.specs.Supertypes.{AreSupertypes, Supertypes, supertypes}
use Rattle.cjc_tokens.specs.Lines.{line_of}
use Rattle.cjc_tokens.specs.Members.{Signature}
use Rattle.cjc_tokens.specs.Slots.{implementing, implementing_hidden}
use Rattle.cjc_token_proof.specs.VTable.Kept.{CallsAgree, Keeps}
use Rattle.cjc_token_proof.specs.VTable.Meant.{PackageTokensMean, TokensMean}
use Rattle.cjc_token_proof.specs.VTable.Naming.{named}
use Rattle.cjc_token_proof.specs.VTable.Tables.{table_of}
use Rattle.cjc_card_semantics.specs.Machine.Dispatch.{At, dispatched_hidden, dispatched_open, tower}
use Rattle.cjc_token_proof.specs.NCode.Lowering.Naming.{Naming}
use Rattle.cjc_components.specs.Package.{Package, world}
use Rattle.cjc_token_proof.specs.Calls.Dispatching.{selection_of}
use Rattle.cjc_token_proof.specs.Tables.Loading.{naming}
use Rattle.cjc_token_proof.specs.WrittenCalls.Calls.{ExportsKeep}
use Rattle.cjc_verify.specs.Pairs.{Pair, method_offset}

-- The package of a pair as if it had no methods: what is written for it has the same classes.
abbrev pub package_of : ListTree → Files → StaticImage → Package
package_of list files image = record { list = list; files = files; image = image; methods = [] }

-- what the components of a pair name
abbrev pub naming_of : Pair → Package → Naming
naming_of p q = record (naming q) { loaded = p.loaded }

-- the offset of a method, where two bytes say it and it is no mark of an imported one
abbrev pub offset_in : Pair → Found → ℕ
offset_in p f = if nat_lt (method_offset p f) 0xFFFF then method_offset p f else 0

-- the methods of the tables of a class have offsets that two bytes say
pub record TablesFit (p : Pair) (w : List Class) (k : Class) : Type 0 where
  pub public : (j : ℕ) (f : Found) → slice_get (let t = table_of w k in t.public) j ≡ Some (Some f)
      → method_offset p f < 0xFFFF
  pub «package» : (j : ℕ) (f : Found) → slice_get (let t = table_of w k in t.«package») j ≡ Some f
      → method_offset p f < 0xFFFF

-- The files of a package keep what dispatch by class tables rests on, and it is selection by name.
pub record FilesAgree (q : Package) : Type 0 where
  pub exports : ExportsKeep q
  pub keeps : Keeps (world q)
  pub are_supertypes : (xs : List (List ℕ)) → AreSupertypes (world q) xs (supertypes (world q) xs)
  pub one_supertypes : (xs : List (List ℕ)) (j k : Supertypes) → AreSupertypes (world q) xs j
      → AreSupertypes (world q) xs k → j ≡ k
  pub calls : CallsAgree (world q)
  pub open_tokens : TokensMean (world q)
  pub hidden_tokens : PackageTokensMean (world q)

-- what a public or protected token reaches on an object of a class: a method of the same name and descriptor
pub record IsReachedBy (p : Pair) (q : Package) (x : List ℕ) (t : ℕ) (s : Signature) : Type 0 where
  pub foot : List ℕ
  pub method : Found
  pub name : named (world q) method ≡ Some s
  pub nearest : implementing (line_of (world q) x) s ≡ Some method
  pub reached : (let n = naming_of p q in dispatched_open (tower n.loaded (n.class x)) t
      ≡ selection_of n (offset_in p) foot s method)

-- what a package-visible token reaches: a method of the package
pub record IsHiddenBy (p : Pair) (q : Package) (x : List ℕ) (t : ℕ) (s : Signature) : Type 0 where
  pub method : Found
  pub own : method.imported ≡ false
  pub nearest : implementing_hidden (line_of (world q) x) s ≡ Some method
  pub reached : (let n = naming_of p q in dispatched_hidden (tower n.loaded (n.class x)) 0 t ≡ At 0
      (offset_in p method))
