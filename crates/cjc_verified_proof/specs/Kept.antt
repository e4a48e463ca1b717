-- What calls by dispatch of a checked package rest on beside the rules of its components.
use Rattle.std.specs.Prelude.{◌≡◌, ◌+◌, ◌<◌, ◌≤◌, ◌^◌, ℕ, length, slice_get, Some}
use Rattle.cjc_capread.specs.declared.tree.ClassDescriptor.{ClassDescriptor}
use Rattle.cjc_capread.specs.declared.tree.ClassRef.{ClassRef}
use Rattle.cjc_capread.specs.declared.tree.MethodDescriptor.{MethodDescriptor}
use Rattle.cjc_capread.specs.declared.tree.PoolEntry.TheVariants.{VirtualMethodref, SuperMethodref}
use Rattle.cjc_check_rules.specs.Codes.{methods_begin}
use Rattle.cjc_check_rules.specs.Complete.{Complete}
use Rattle.cjc_world.specs.Classes.{all_classes}
use Rattle.cjc_token_proof.specs.WrittenCalls.Calls.{KeepsSubtypes, KeepsTokens}
use Rattle.cjc_token_proof.specs.WrittenSends.Sends.{ExportsListInterfaces}
use Rattle.cjc_verified_proof.specs.Checked.{Checked}
use Rattle.cjc_verified_proof.specs.Dispatching.{FilesAgree, package_of}

-- Tokens that entries name and that Descriptor gives methods have one byte, and two bytes count those of Method.
pub record AreSized (c : Complete) : Type 0 where
  pub virtuals : (k : ℕ) (class : ClassRef) (token : ℕ) → (let p = c.pool in slice_get p.entries k
      ≡ Some (VirtualMethodref class token)) → token < 2 ^ 8
  pub supers : (k : ℕ) (class : ClassRef) (token : ℕ) → (let p = c.pool in slice_get p.entries k
      ≡ Some (SuperMethodref class token)) → token < 2 ^ 8
  pub methods : (k : ℕ) (d : ClassDescriptor) → (let x = c.descriptor in slice_get x.classes k) ≡ Some d → (j : ℕ)
      (m : MethodDescriptor) → slice_get d.methods j ≡ Some m → m.token < 2 ^ 8
  pub method : methods_begin c + length (let m = c.method in m.methods) ≤ 0xFFFF

-- The files keep what dispatch rests on: dispatch by class tables is selection by name, a class is of another over
-- superclasses and interfaces, tokens of public and protected methods fit seven bits, and an interface of an export
-- file
-- has its methods at the places of their tokens.
pub record KeepsCalls (c : Checked) : Type 0 where
  pub agree : FilesAgree (package_of c.list c.files c.image)
  pub subtypes : KeepsSubtypes (all_classes c.files)
  pub tokens : KeepsTokens (all_classes c.files)
  pub listed : ExportsListInterfaces (package_of c.list c.files c.image)
  pub sized : AreSized c.components
