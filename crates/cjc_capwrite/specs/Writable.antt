-- Trees that can be written, and files that spell them.
use Rattle.std.specs.Prelude.{ℕ, List, length, Option, Some, None, IfSome, IsSomeAnd}
use Rattle.cjc_capread.specs.Bytes.Format.{FileSpells}
use Rattle.cjc_capread.specs.declared.tree.CapTree.{CapTree}
use Rattle.cjc_capread.specs.declared.tree.Component.{Component}
use Rattle.cjc_capread.specs.declared.tree.Component.TheVariants as components
use Rattle.cjc_capread.specs.Component.{component}
use Rattle.cjc_capwrite.specs.declared.files.CapFiles.{CapFiles}
use Rattle.cjc_capwrite.specs.Fits.{HeaderFits, DirectoryFits, AppletFits, ImportFits, PoolFits, ClassInfoFits}
use Rattle.cjc_capwrite.specs.Fits.{MethodFits, StaticFieldFits, LocationsFit, ExportFits, DescriptorFits}

-- Only Applet and Export may be absent, and every number and count fits its field.
pub record IsWritable (t : CapTree) : Type 0 where
  pub header : HeaderFits t.header
  pub directory : DirectoryFits t.directory
  pub applet : IfSome t.applet AppletFits
  pub import : IsSomeAnd t.import ImportFits
  pub pool : IsSomeAnd t.pool PoolFits
  pub class : IsSomeAnd t.class ClassInfoFits
  pub method : IsSomeAnd t.method MethodFits
  pub statics : IsSomeAnd t.statics StaticFieldFits
  pub locations : IsSomeAnd t.locations LocationsFit
  pub export : IfSome t.export ExportFits
  pub descriptor : IsSomeAnd t.descriptor DescriptorFits

-- The bytes of a file spell the component of this tag.
abbrev pub Spelt : ℕ → Component → List ℕ → Type 0
Spelt tag x bytes = FileSpells (component tag (length bytes)) x bytes

-- There is a file exactly where the component is there, and it spells it.
abbrev pub SpeltWhere : {A : Type 0} → ℕ → (A → Component) → Option A → Option (List ℕ) → Type 0
SpeltWhere tag wrap None None = Unit {0}
SpeltWhere tag wrap (Some x) (Some bytes) = Spelt tag (wrap x) bytes
SpeltWhere tag wrap None (Some bytes) = ⊥
SpeltWhere tag wrap (Some x) None = ⊥

-- Each file spells its part of the tree.
pub record IsSpelt (t : CapTree) (f : CapFiles) : Type 0 where
  pub header : Spelt 1 (components.Header t.header) f.header
  pub directory : Spelt 2 (components.Directory t.directory) f.directory
  pub applet : SpeltWhere 3 components.Applet t.applet f.applet
  pub import : IsSomeAnd t.import (λ x. Spelt 4 (components.Import x) f.import)
  pub pool : IsSomeAnd t.pool (λ x. Spelt 5 (components.Pool x) f.pool)
  pub class : IsSomeAnd t.class (λ x. Spelt 6 (components.Class x) f.class)
  pub method : IsSomeAnd t.method (λ x. Spelt 7 (components.Method x) f.method)
  pub statics : IsSomeAnd t.statics (λ x. Spelt 8 (components.Statics x) f.statics)
  pub locations : IsSomeAnd t.locations (λ x. Spelt 9 (components.Locations x) f.locations)
  pub export : SpeltWhere 10 components.Export t.export f.export
  pub descriptor : IsSomeAnd t.descriptor (λ x. Spelt 11 (components.Descriptor x) f.descriptor)
