-- Methods that code calls of a superclass, as they are found from it.
use Rattle.std.specs.Prelude.{◌≡◌, ℕ, List, [], ◌∷◌, Some, false, true}
use Rattle.cjc_bytes.specs.AccessFlags.{is_interface}
use Rattle.cjc_bytes.specs.declared.fault.MemberId.{MemberId}
use Rattle.cjc_components.specs.Package.{Package, world}
use Rattle.cjc_jvm_semantics.specs.OnePackage.{ResolvedMember, method_hit, of_class}
use Rattle.cjc_token_proof.specs.NCode.ByLabel.{OnSuper}
use Rattle.cjc_token_proof.specs.WrittenSends.Named.{is_called}
use Rattle.cjc_tokens.specs.Members.{In, Signature, signature_of}
use Rattle.cjc_vtable.specs.Calls.{is_special}
use Rattle.cjc_world.specs.Classes.{Class, Member, class_named}
use Rattle.cjc_world.specs.Lookup.{first, is_selectable, own_method}
use Rattle.cjc_world.specs.Supertypes.{line}
use Rattle.cjc_world.specs.Upwards.{OnLine}
use Rattle.cjc_world.specs.declared.found.Found.{Found}
use Rattle.cjc_joint_whole.specs.Selected.{NamesVirtual}

-- Whatever code calls of a superclass is found from there as a method at which selection may end.
abbrev pub FindsAbove : Package → Type 0
FindsAbove p = (m : MemberId) (c : Class) (super : List ℕ) → is_called p (OnSuper m) ≡ true
    → class_named (world p) m.class ≡ Some c → c.supers ≡ super ∷ [] → NamesVirtual (world p) (of_class super m)

-- Where export files list of an imported class, or of one above it, a method at which selection may end, it may end at
-- the first of its name and descriptor upwards too. No rule asks it: 306, by which no private or static one stands
-- below, is of methods of class files.
abbrev pub ImportsKeepKinds : Package → Type 0
ImportsKeepKinds p = (x : List ℕ) (c d : Class) (n : Member) (s : Signature) (f : Found) (h : ResolvedMember)
    → class_named (world p) x ≡ Some c → c.is_imported ≡ true → is_interface c.flags ≡ false → is_special s ≡ false
    → OnLine (world p) x d → In n d.methods → signature_of n ≡ s → is_selectable n.flags ≡ true
    → first (own_method false s.name s.desc) (line (world p) x) ≡ Some f → method_hit (world p) f ≡ Some h
    → is_selectable h.flags ≡ true
