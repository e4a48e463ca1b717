-- Packages whose components run by token as their narrow code does, each by itself, and where their methods stand when
-- they are loaded together.
use Rattle.std.specs.Prelude.{◌≡◌, ℕ, Bool, List, Some, false, slice_get, true, unwrap_or}
use Rattle.cjc_bytes.specs.declared.fault.MemberId.{MemberId}
use Rattle.cjc_components.specs.Package.{Package, world}
use Rattle.cjc_jvm_semantics.specs.Linked.{Method}
use Rattle.cjc_joint_proof.specs.JointNames.{place_of}
use Rattle.cjc_joint_proof.specs.JointPackages.{files_together}
use Rattle.cjc_joint_proof.specs.JointTogether.{NamesOwnFields}
use Rattle.cjc_shape_proof.specs.Written.Entries.{UnboundAreOwn}
use Rattle.cjc_shape_proof.specs.Written.Joined.{IsJoined, IsRunnable}
use Rattle.cjc_token_proof.specs.NCode.ByLabel.{Fixed}
use Rattle.cjc_token_proof.specs.NCode.Lowering.Placed.{Placed}
use Rattle.cjc_token_proof.specs.WrittenCalls.Standing.{TakeTheirWords, place}
use Rattle.cjc_token_proof.specs.WrittenSends.Named.{CallsAreNamed, is_called}
use Rattle.cjc_world.specs.Classes.{Class, class_named}
use Rattle.cjc_world.specs.Lookup.{own_method}
use Rattle.cjc_world.specs.declared.found.Found.{Found}
use Rattle.cjc_joint_whole.specs.Whole.{IsBound}

-- A package that by itself runs by token as its narrow code does: what its tables and code rest on, what is asked of
-- its code, each call that it makes with its words, and what its export file lists. Of its own classes alone it names
-- fields, and of imported ones static methods and constructors where it selects none by a receiver.
pub record RunsAlone (p : Package) : Type 0 where
  pub list : List ℕ
  pub runnable : IsRunnable list p
  pub joined : IsJoined p (is_called p)
  pub named : CallsAreNamed p
  pub words : TakeTheirWords p
  pub unbound : UnboundAreOwn p
  pub fields : NamesOwnFields p
  pub bound : (on : Bool) (id : MemberId) → is_called p (Fixed on id) ≡ true → (c : Class) (f : Found)
      → class_named (world p) id.class ≡ Some c → c.is_imported ≡ true → own_method false id.name id.desc c ≡ Some f
      → IsBound c f

-- where a method of a class file stands when packages are loaded together: in the package of its class; the first has
-- what is of no package
abbrev pub stands_at : (first : Package) → List Package → Method → Placed
stands_at first packages m =
    let id = m.id in place (unwrap_or (slice_get packages (place_of (files_together packages) id.class)) first) m
