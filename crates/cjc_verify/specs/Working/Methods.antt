-- What the code keeps of each method of the package.
use Rattle.std.specs.Prelude.{◌≡◌, ℕ, ◌-◌, ◌==◌, ◌&&◌, not, Bool, List, [], ◌∷◌, ◌++◌, length, map, slice_get}
use Rattle.std.specs.Prelude.{unwrap_or}
use Rattle.std.specs.Prelude.{Option, Some, None}
use Rattle.cjc_bytes.specs.AccessFlags.{is_interface, has, acc_abstract}
use Rattle.cjc_bytes.specs.declared.fault.MemberId.{MemberId}
use Rattle.cjc_capread.specs.declared.tree.ClassDescriptor.{ClassDescriptor}
use Rattle.cjc_capread.specs.declared.tree.ClassRef.{ClassRef}
use Rattle.cjc_capread.specs.declared.tree.MethodDescriptor.{MethodDescriptor}
use Rattle.cjc_classes.specs.LowerComponents.Descriptor.{added_flags, no_member}
use Rattle.cjc_world.specs.Added.{added_at}
use Rattle.cjc_world.specs.ClassFile.declared.tree.ClassTree.{ClassTree}
use Rattle.cjc_world.specs.Classes.{Member, all_classes, declared, method_of_class}
use Rattle.cjc_world.specs.Files.{Files}
use Rattle.cjc_world.specs.Order.{methods_of_class}
use Rattle.cjc_world.specs.declared.found.Found.{Found}
use Rattle.cjc_verify.specs.declared.methods.KnownMethod.{KnownMethod}
use Rattle.cjc_verify.specs.declared.methods.Signature.{Signature}
use Rattle.cjc_verify.specs.Pairs.{Pair, Described, described, member_of}

-- what is kept of a method
abbrev pub facts_of : Pair → Described → KnownMethod
facts_of p d =
    let c = d.class in
    let m = member_of p d in
    record {
      is_of_interface = is_interface c.flags;
      holder = d.holder;
      method = d.method;
      has_code = not (has m.flags acc_abstract);
      desc = m.desc;
    }

-- the same of all methods
abbrev pub facts : Pair → List KnownMethod
facts p = map (facts_of p) (described p)

-- the method of a class whose header begins at an offset
abbrev pub is_at : (offset : ℕ) → KnownMethod → Bool
is_at offset k = let m = k.method in not k.is_of_interface && (m.offset == offset)

-- ---- how they are put together

-- a method that a class gets
abbrev pub got_member : MemberId → Member
got_member id = record { flags = added_flags; name = id.name; desc = id.desc; token = 0 }

-- the method at a place among the members of a class of the package that gets these
abbrev pub member_by : ClassTree → List MemberId → (place : ℕ) → Member
member_by c added i = unwrap_or (slice_get (map method_of_class c.methods ++ map got_member added)
    (i - length c.fields)) no_member

-- what is kept of it
pub record IsLike (s : Signature) (m : Member) : Type 0 where
  pub code : s.has_code ≡ not (has m.flags acc_abstract)
  pub desc : s.desc.now ≡ m.desc

-- what is kept of a method of a class or interface with what Descriptor says of it
abbrev pub known_by : (interface : Bool) → ClassRef → MethodDescriptor → Member → KnownMethod
known_by interface holder method m = record {
  is_of_interface = interface;
  holder = holder;
  method = method;
  has_code = not (has m.flags acc_abstract);
  desc = m.desc;
}

-- methods beside what Descriptor says of them, as far as there are both
abbrev pub known_each : (interface : Bool) → ClassRef → (member : ℕ → Member) → List Found → List MethodDescriptor
    → List KnownMethod
known_each interface holder member (f ∷ members) (m ∷ methods) = known_by interface holder m (member f.member)
    ∷ known_each interface holder member members methods
known_each interface holder member members methods = []

-- those of the class of a number, if there is one
abbrev pub known_where : Files → (number : ℕ) → ClassDescriptor → Option ClassTree → List KnownMethod
known_where files n d None = []
known_where files n d (Some c) = known_each (is_interface c.flags) d.this_class (member_by c (added_at files n))
    (methods_of_class (all_classes files) (declared n c)) d.methods

-- those of the class of a number
abbrev pub known_at : Files → (number : ℕ) → ClassDescriptor → List KnownMethod
known_at files n d = known_where files n d (slice_get files.classes n)

-- those of the classes of these numbers, as far as Descriptor lists classes
abbrev pub known_among : Files → List ℕ → List ClassDescriptor → List KnownMethod
known_among files (n ∷ ns) (d ∷ classes) = known_at files n d ++ known_among files ns classes
known_among files ns classes = []
