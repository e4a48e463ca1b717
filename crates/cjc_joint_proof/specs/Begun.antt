-- Packages before the first entry: what each holds at first by its initialisers, and all of them.
use Rattle.std.specs.Prelude.{◌≡◌, ℕ, List, Some, map, slice_get, true}
use Rattle.cjc_link_semantics.specs.Bytecode.declared.method_code.MethodCode.{MethodCode}
use Rattle.cjc_token_proof.specs.LowerWorldProof.Initialisers.Values.{StandOnce}
use Rattle.cjc_link_semantics.specs.Clinit.Image.{IsImage}
use Rattle.cjc_exported.specs.World.Files.{Files}
use Rattle.cjc_exported.specs.World.declared.image.StaticImage.{StaticImage}
use Rattle.cjc_link_semantics.specs.JvmSemantics.OnePackage.{cells}
use Rattle.cjc_exported.specs.Narrow.Rows.Package.{first_memory}
use Rattle.cjc_link_semantics.specs.Components.Package.{Package}
use Rattle.cjc_link_semantics.specs.Components.Statics.{static_field}
use Rattle.cjc_token_proof.specs.ByToken.Cells.{are_cells}
use Rattle.cjc_token_proof.specs.Tables.Known.{order_of, statics_of}
use Rattle.cjc_token_proof.specs.Tables.Sound.{AreTyped, IsSound}
use Rattle.cjc_joint_proof.specs.Cells.{Statics}
use Rattle.cjc_joint_proof.specs.Memory.{First}

-- A package that breaks no rule of classes and names, whose fields are of types that values have, whose image is what
-- its initialisers leave, and whose cells can hold what they hold at first.
pub record IsBegun (p : Package) : Type 0 where
  pub list : List ℕ
  pub codes : List MethodCode
  pub sound : IsSound list p.files
  pub typed : AreTyped p.files
  pub image : IsImage p.files codes p.image
  pub once : StandOnce p.files codes
  pub fit : are_cells (statics_of (let files = p.files in files.classes)) (let m = first_memory p.files p.image
      in m.statics) ≡ true

-- each of them is such
abbrev pub AreBegun : List Package → Type 0
AreBegun packages = (q : ℕ) (p : Package) → slice_get packages q ≡ Some p → IsBegun p

-- the files of all, and their images
abbrev pub all_files : List Package → List Files
all_files packages = map (λ (p : Package). p.files) packages

-- what static fields hold at first, package by package
abbrev pub all_images : List Package → List StaticImage
all_images packages = map (λ (p : Package). p.image) packages

-- a package's static fields, with their cells and its StaticField component
abbrev pub statics_in : Package → Statics
statics_in p = record { all = statics_of (let files = p.files in files.classes); order = order_of p.image }

-- the same with what they hold at first
abbrev pub first_of : Package → First
first_of p = record {
  fields = statics_in p;
  cells = cells p.image (let files = p.files in files.classes);
  component = static_field p.image;
}
