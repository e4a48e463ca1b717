-- Classes of packages that are loaded together, with their superclasses: how many of its package's own stand at and
-- above each, and what dispatch on an object of it finds.
use Rattle.std.specs.Prelude.{◌≡◌, ◌≤◌, ◌==◌, ℕ, List, Some, false, length, true}
use Rattle.cjc_card_semantics.specs.Bytes.AccessFlags.{is_interface}
use Rattle.cjc_card_semantics.specs.Machine.Classes.{infos}
use Rattle.cjc_card_semantics.specs.Machine.Dispatch.{At, dispatched_hidden, dispatched_open, tower}
use Rattle.cjc_card_semantics.specs.Machine.Loaded.{Loaded}
use Rattle.cjc_exported.specs.Components.Methods.{method_offset}
use Rattle.cjc_exported.specs.World.Classes.{Class, class_named}
use Rattle.cjc_exported.specs.World.Supertypes.{line}
use Rattle.cjc_exported.specs.World.declared.found.Found.{Found}
use Rattle.cjc_link_semantics.specs.Components.Package.{Package, world}
use Rattle.cjc_link_semantics.specs.JvmSemantics.OnePackage.{first_imported}
use Rattle.cjc_link_semantics.specs.Loaded.{group_loaded}
use Rattle.cjc_token_proof.specs.Calls.Dispatching.{SaysTower}
use Rattle.cjc_token_proof.specs.Tables.Loading.{naming, part}
use Rattle.cjc_token_proof.specs.Tables.Sound.{IsSound}
use Rattle.cjc_token_proof.specs.VTable.Dispatch as tables
use Rattle.cjc_token_proof.specs.VTable.Dispatch.{tower_of}
use Rattle.cjc_token_proof.specs.VTable.Kept.{Keeps}
use Rattle.cjc_token_proof.specs.VTable.Naming.{named}
use Rattle.cjc_token_proof.specs.WrittenCalls.Calls.{ExportsKeep}
use Rattle.cjc_token_proof.specs.WrittenCalls.Standing.{IsSmall}
use Rattle.cjc_tokens.specs.Members.{Signature}
use Rattle.cjc_joint_proof.specs.JointPackages.{class_together}
use Rattle.cjc_joint_proof.specs.Loading.{group_of}

-- ---- a package by itself

-- What dispatch in a package by itself rests on: it breaks no rule of classes and names, its Method is short, its
-- classes keep what class tables ask, and its export files say what is so.
pub record KeepsDispatch (p : Package) : Type 0 where
  pub list : List ℕ
  pub sound : IsSound list p.files
  pub small : IsSmall p
  pub exports : ExportsKeep p
  pub keeps : Keeps (world p)

-- A class of the world of a package: its tables and those of its superclasses down from an imported class, no more of
-- them than the package has infos. The imported class is no interface.
pub record ClassStands (p : Package) (x : List ℕ) : Type 0 where
  pub height : ℕ
  pub foot : List ℕ
  pub tower : SaysTower (world p) (naming p) (method_offset p) height x foot
  pub low : height ≤ (let q = part p in length (infos q))
  pub first : first_imported (line (world p) x) ≡ foot
  pub class : Class
  pub known : class_named (world p) foot ≡ Some class
  pub imported : class.is_imported ≡ true
  pub plain : is_interface class.flags ≡ false

-- each that is no interface
abbrev pub ClassesStandUp : Package → Type 0
ClassesStandUp p = (x : List ℕ) (c : Class) → class_named (world p) x ≡ Some c → is_interface c.flags ≡ false
    → ClassStands p x

-- ---- in a group

abbrev pub loaded_together : List Package → Loaded
loaded_together packages = group_loaded (group_of packages)

-- What dispatch by token on an object of a class of the package at this place finds in the group: what the package by
-- itself finds in its own class files, and else what is found on an object of the imported class.
pub record DispatchGoesOn (packages : List Package) (q : ℕ) (p : Package) (x z : List ℕ) : Type 0 where
  pub own : (t : ℕ) (f : Found) (s : Signature) → tables.dispatched (tower_of (world p) x) t ≡ Some f
      → named (world p) f ≡ Some s → f.imported ≡ false
      → dispatched_open (tower (loaded_together packages) (class_together packages x)) t ≡ At q (method_offset p f)
  pub onward : (t : ℕ) (f : Found) (s : Signature) → tables.dispatched (tower_of (world p) x) t ≡ Some f
      → named (world p) f ≡ Some s → f.imported ≡ true
      → dispatched_open (tower (loaded_together packages) (class_together packages x)) t
      ≡ dispatched_open (tower (loaded_together packages) (class_together packages z)) t
  pub hidden : (t : ℕ) (f : Found) → tables.dispatched_hidden (tower_of (world p) x) t ≡ Some f → f.imported ≡ false
      → dispatched_hidden (tower (loaded_together packages) (class_together packages x)) q t
      ≡ At q (method_offset p f)
  pub passed : (r t : ℕ) → (q == r) ≡ false
      → dispatched_hidden (tower (loaded_together packages) (class_together packages x)) r t
      ≡ dispatched_hidden (tower (loaded_together packages) (class_together packages z)) r t

-- An own class of a package, the first imported class above it, which is no interface, and that dispatch on an object of
-- the one goes on at the other.
pub record GoesOn (packages : List Package) (q : ℕ) (p : Package) (x : List ℕ) : Type 0 where
  pub foot : List ℕ
  pub first : first_imported (line (world p) x) ≡ foot
  pub class : Class
  pub known : class_named (world p) foot ≡ Some class
  pub imported : class.is_imported ≡ true
  pub plain : is_interface class.flags ≡ false
  pub on : DispatchGoesOn packages q p x foot
