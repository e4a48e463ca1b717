-- All that the consistency of a package's components rests on, by name.
use Rattle.std.specs.Prelude.{◌≡◌, ◌≤◌, ℕ, List, length, false}
use Rattle.cjc_vtable.specs.Kept.{Keeps}
use Rattle.cjc_vtable.specs.Meant.{HaveOneAccess}
use Rattle.cjc_components.specs.Limits.{has_far_types, has_large_component}
use Rattle.cjc_components.specs.Names.{names}
use Rattle.cjc_components.specs.Package.{Package, world}
use Rattle.cjc_token_proof.specs.Components.Methods.{HasMethods}
use Rattle.cjc_token_proof.specs.Tables.Sound.{AreTyped, IsSound}
use Rattle.cjc_check_proof.specs.Classes.Premises.{HasShortMethods, HaveInstalls, InterfacesAreUnbound, KeysAreKnown}
use Rattle.cjc_check_proof.specs.Classes.Premises.{TypesAreKnown}
use Rattle.cjc_token_proof.specs.WrittenCalls.Calls.{KeepsTokens}
use Rattle.cjc_check_proof.specs.Code.Caught.{HandlersLie}
use Rattle.cjc_check_proof.specs.Code.Ends.{AllStayInside}
use Rattle.cjc_check_proof.specs.Code.Kinds.{AllHaveKinds}
use Rattle.cjc_check_proof.specs.Code.Written.{AllWritable}
use Rattle.cjc_check_proof.specs.Keys.{AllAreThere}

-- What is asked of the files of a package: they break no rule of classes and names, fields are of types that values
-- have, classes keep what dispatch rests on with tokens of seven bits, no method is private beside public or protected,
-- interfaces have no static methods, and applet lines name classes with install methods.
pub record HasSoundFiles (list : List ℕ) (p : Package) : Type 0 where
  pub sound : IsSound list p.files
  pub typed : AreTyped p.files
  pub keeps : Keeps (world p)
  pub tokens : KeepsTokens (world p)
  pub access : HaveOneAccess (world p)
  pub interfaces : InterfacesAreUnbound p
  pub installs : HaveInstalls p

-- What is asked of its methods: they are those of its classes in their order, bytes can say them, and jumps and
-- handlers stay inside them.
pub record HasSoundMethods (p : Package) : Type 0 where
  pub methods : HasMethods p
  pub written : AllWritable (names p) p.methods
  pub inside : AllStayInside p.methods
  pub handlers : HandlersLie p.methods

-- What is asked of names: what instructions name is of the kind that their opcodes use, and classes and members that
-- code and descriptors name are there.
pub record HasSoundNames (p : Package) : Type 0 where
  pub kinds : AllHaveKinds p.methods
  pub classes : KeysAreKnown p
  pub types : TypesAreKnown p
  pub members : AllAreThere p

-- What is asked of sizes: neither 411 nor 416 is broken, Method has at most 65,535 bytes, and at most 128 packages are
-- imported.
pub record HasSoundSizes (p : Package) : Type 0 where
  pub types : has_far_types p ≡ false
  pub components : has_large_component p ≡ false
  pub methods : HasShortMethods p
  pub imports : (let files = p.files in length files.exports ≤ 128)
