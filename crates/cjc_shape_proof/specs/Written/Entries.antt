-- What the export file of a package says of the static methods and constructors of its classes: each is one that the
-- class file declares, and Export has it at the place of its token.
use Rattle.std.specs.Prelude.{◌≡◌, ◌+◌, ℕ, Some, length, slice_get, true}
use Rattle.cjc_components.specs.ExportFile.{export_class, method_entry}
use Rattle.cjc_components.specs.Exports.{exported_classes, open_methods}
use Rattle.cjc_components.specs.Names.{member_token}
use Rattle.cjc_components.specs.Package.{Package}
use Rattle.cjc_narrow_proof.specs.CardSemantics.Machine.Operations.{unbound_of}
use Rattle.cjc_tokens.specs.Methods.{is_open_bound}
use Rattle.cjc_world.specs.Classes.{Class, Member}
use Rattle.cjc_world.specs.ExportFile.declared.tree.ExportMethod.{ExportMethod}
use Rattle.cjc_world.specs.Lookup.{member_at}

-- A static method or constructor that is listed of a class is a public or protected one that the class declares, by
-- its name, descriptor and flags; its token is that of this method, and Export has it there.
pub record IsOwnUnbound (p : Package) (c : Class) (e : ExportMethod) : Type 0 where
  pub place : ℕ
  pub member : Member
  pub there : slice_get c.methods place ≡ Some member
  pub opened : is_open_bound member ≡ true
  pub is : method_entry e.token member ≡ e
  pub its_token : member_token p (Some (member_at c (length c.fields + place))) ≡ e.token
  pub exported : slice_get (open_methods c (length c.fields) c.methods) e.token
      ≡ Some (member_at c (length c.fields + place))

-- So it is of each that is found by its token, in each class that others may name.
abbrev pub UnboundAreOwn : Package → Type 0
UnboundAreOwn p = (k t : ℕ) (c : Class) (e : ExportMethod) → slice_get (exported_classes p) k ≡ Some c
    → (let x = export_class p c in unbound_of x.methods t ≡ Some e) → (e.token ≡ t) × IsOwnUnbound p c e
