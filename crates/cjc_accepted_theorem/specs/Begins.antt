-- How a method of a class begins: its header stands where its offset says.
use Rattle.std.specs.Prelude.{◌≡◌, Some, true}
use Rattle.cjc_verified_proof.specs.Bytes.AccessFlags.{is_abstract}
use Rattle.cjc_verified_proof.specs.CardSemantics.Bytecode.Machine.{Start}
use Rattle.cjc_verified_proof.specs.CardSemantics.Machine.Methods.{Code, start_of}
use Rattle.cjc_verified_proof.specs.Components.Descriptor.{method_in}
use Rattle.cjc_verified_proof.specs.Components.Methods.{method_offset}
use Rattle.cjc_verified_proof.specs.Components.Package.{Package, world}
use Rattle.cjc_verified_proof.specs.Narrow.Rows.Resolved.{argument_words}
use Rattle.cjc_verified_proof.specs.TokenProof.Tables.Loading.{loaded}
use Rattle.cjc_verified_proof.specs.World.Classes.{Class}
use Rattle.cjc_verified_proof.specs.World.declared.found.Found.{Found}

-- Its header has the words of its type, and is abstract only where the package's method is.
pub record Begins (p : Package) (d : Class) (f : Found) : Type 0 where
  pub start : Start Code
  pub starts : start_of (loaded p) 0 (method_offset p f) ≡ Some start
  pub words : start.nargs ≡ (let m = method_in (world p) d f.member in argument_words m.flags m.desc)
  pub bare : start.is_abstract ≡ true → (let m = method_in (world p) d f.member in is_abstract m.flags ≡ true)
