-- Kept offsets of methods, so that each is found at once.
use Rattle.std.specs.Prelude.{◌≡◌, ℕ, List, [], ◌∷◌, ◌++◌, Bool, not, ◌==◌, ◌&&◌, ◌||◌, if◌then◌else◌}
use Rattle.std.specs.List.{list_any}
use Rattle.std.specs.List.Sorted.{IsNonDecreasing}
use Rattle.cjc_check_rules.specs.LowerBytes.AccessFlags.{is_static}
use Rattle.cjc_check_rules.specs.CapRead.declared.tree.ClassInfo.{ClassInfo}
use Rattle.cjc_check_rules.specs.CapRead.declared.tree.ClassDescriptor.{ClassDescriptor}
use Rattle.cjc_check_rules.specs.CapRead.declared.tree.MethodDescriptor.{MethodDescriptor}
use Rattle.cjc_check_index.specs.declared.lookup.methods.Methods.{Methods}
use Rattle.cjc_check_rules.specs.Classes.{is_own_class}
use Rattle.cjc_check_rules.specs.Members.{class_methods}
use Rattle.cjc_check_index.specs.Lookup.Indexed.{IsIndexed}
use Rattle.cjc_check_index.specs.Lookup.Parts.{complete_of}

-- a method that is asked for: any, or a static one
abbrev pub is_asked : (only_static : Bool) → MethodDescriptor → Bool
is_asked only m = not only || is_static m.flags

-- the offset of a method's header, where the method is asked for
abbrev pub offset_of : (only_static : Bool) → MethodDescriptor → List ℕ
offset_of only m = if is_asked only m then m.offset ∷ [] else []

-- the offsets of those of several methods
abbrev pub offsets_of : (only_static : Bool) → List MethodDescriptor → List ℕ
offsets_of only [] = []
offsets_of only (m ∷ methods) = offset_of only m ++ offsets_of only methods

-- of a class, interfaces left out
abbrev pub class_offsets : (only_static : Bool) → ClassInfo → ClassDescriptor → List ℕ
class_offsets only info d = if is_own_class info d.this_class then offsets_of only d.methods else []

-- of all classes of Descriptor, interfaces left out
abbrev pub all_offsets : (only_static : Bool) → ClassInfo → List ClassDescriptor → List ℕ
all_offsets only info [] = []
all_offsets only info (d ∷ classes) = class_offsets only info d ++ all_offsets only info classes

-- kept offsets do not fall, and are those of the methods of classes
pub record HasMethods (m : Methods) : Type 0 where
  pub indexed : IsIndexed m.names.now
  pub all_rise : IsNonDecreasing m.all.now
  pub all : (offset : ℕ) → list_any (λ n. n == offset) m.all.now ≡ list_any (λ x. x.offset == offset)
      (class_methods (complete_of m.names.now.parts.now))
  pub statics_rise : IsNonDecreasing m.statics.now
  pub statics : (offset : ℕ) → list_any (λ n. n == offset) m.statics.now ≡ list_any (λ x. x.offset == offset
      && is_static x.flags) (class_methods (complete_of m.names.now.parts.now))
