-- The method that a member is, as the code has it.
use Rattle.std.specs.Prelude.{◌≡◌, ℕ, slice_get, unwrap_or, option_map}
use Rattle.cjc_bytes.specs.declared.fault.MemberId.{MemberId}
use Rattle.cjc_world.specs.Added.{added_at}
use Rattle.cjc_world.specs.Classes.{Member}
use Rattle.cjc_world.specs.Files.{Files}
use Rattle.cjc_components.specs.Descriptor.{added_flags, no_member}
use Rattle.cjc_methods.specs.declared.method.Signature.{Signature}

-- the same flags, name and descriptor
pub record IsLike (s : Signature) (m : Member) : Type 0 where
  pub flags : s.flags ≡ m.flags
  pub name : s.name.now ≡ m.name
  pub desc : s.desc.now ≡ m.desc

-- a method that a class gets, by its name and descriptor
abbrev pub member_for : MemberId → Member
member_for id = record { flags = added_flags; name = id.name; desc = id.desc; token = 0 }

-- the one at a place among these
abbrev pub added_in : Files → (class place : ℕ) → Member
added_in files n i = unwrap_or (option_map member_for (slice_get (added_at files n) i)) no_member
