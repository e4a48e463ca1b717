-- What is asked of export files beside a converted package, so that what it calls in them has code.
use Rattle.std.specs.Prelude.{◌≡◌, ℕ, Some, false, slice_get, true}
use Rattle.cjc_verified_proof.specs.Bytes.AccessFlags.{is_abstract}
use Rattle.cjc_verified_proof.specs.Components.Package.{Package, world}
use Rattle.cjc_verified_proof.specs.ExportFile.Members.{is_unbound}
use Rattle.cjc_verified_proof.specs.World.Classes.{Class, Member, class_named}

-- no static method and no constructor that an export file lists is abstract
abbrev pub ExportsHaveCode : Package → Type 0
ExportsHaveCode p = (d : Class) → class_named (world p) d.name ≡ Some d → d.is_imported ≡ true → (k : ℕ) (x : Member)
    → slice_get d.methods k ≡ Some x → is_unbound x.flags x.name ≡ true → is_abstract x.flags ≡ false
