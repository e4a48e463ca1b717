-- What packages that are loaded together name on the card: classes by their names, fields and static cells by the
-- package that declares them.
use Rattle.std.specs.Prelude.{◌≡◌, ℕ, List, [], Option, Some, None, false, slice_get}
use Rattle.cjc_card_semantics.specs.Bytes.declared.fault.MemberId.{MemberId}
use Rattle.cjc_card_semantics.specs.CapRead.declared.tree.ClassRef.TheVariants.{Inside}
use Rattle.cjc_card_semantics.specs.CapRead.declared.tree.StaticRef.TheVariants as refs
use Rattle.cjc_card_semantics.specs.Machine.Classes.{Own}
use Rattle.cjc_card_semantics.specs.Machine.Dispatch.{Open}
use Rattle.cjc_card_semantics.specs.Machine.Loaded.{Loaded}
use Rattle.cjc_card_semantics.specs.Machine.Operations.{Outer}
use Rattle.cjc_card_semantics.specs.Machine.Statics.{StaticCell}
use Rattle.cjc_exported.specs.World.Classes.{Class, class_named}
use Rattle.cjc_exported.specs.Components.Methods.{placed_methods}
use Rattle.cjc_link_semantics.specs.Components.Names.{field_token}
use Rattle.cjc_link_semantics.specs.Components.Package.{Package, world}
use Rattle.cjc_link_semantics.specs.Components.Statics.{cell_offset}
use Rattle.cjc_link_semantics.specs.Loaded.{group_loaded}
use Rattle.cjc_token_proof.specs.NCode.Lowering.Naming.{Naming}
use Rattle.cjc_token_proof.specs.NCode.Lowering.Placed.{Placed}
use Rattle.cjc_token_proof.specs.NCode.declared.narrow.NInsn.TheVariants as insns
use Rattle.cjc_token_proof.specs.NCode.declared.narrow.PoolKey.TheVariants as keys
use Rattle.cjc_token_proof.specs.Tables.Loading.{naming}
use Rattle.cjc_joint_proof.specs.JointAlike.{JointNaming}
use Rattle.cjc_joint_proof.specs.JointNames.{place_of}
use Rattle.cjc_joint_proof.specs.JointPackages.{class_together, files_together}
use Rattle.cjc_joint_proof.specs.Loading.{group_of}
use Rattle.cjc_joint_proof.specs.Naming.{naming_in}

-- where the package of a field's class stands
abbrev pub place_together : List Package → MemberId → ℕ
place_together packages f = place_of (files_together packages) f.class

-- the token of an instance field in its package
abbrev pub token_by : Option Package → MemberId → ℕ
token_by None f = 0xFF
token_by (Some p) f = field_token p f

-- the offset of a static field's cell in the image of its package
abbrev pub offset_by : Option Package → MemberId → ℕ
offset_by None f = 0
offset_by (Some p) f = cell_offset p.image f

-- the token of an instance field, whoever names it
abbrev pub field_together : List Package → MemberId → ℕ
field_together packages f = token_by (slice_get packages (place_together packages f)) f

-- the cell of a static field
abbrev pub cell_together : List Package → MemberId → StaticCell
cell_together packages f = record {
  part = place_together packages f;
  offset = offset_by (slice_get packages (place_together packages f)) f;
}

-- the names of a package that is not there
abbrev pub no_names : Loaded → (part : ℕ) → Naming
no_names l q = record {
  loaded = l;
  part = q;
  pool = [];
  index = λ key. 0;
  class_ref = λ c. Inside 0;
  field_token = λ f. 0;
  field_ref = λ f. refs.Inside 0;
  virtual_token = λ m. 0;
  interface_token = λ m. 0;
  method_ref = λ m. refs.Inside 0;
  class = λ c. Own q 0;
  cell = λ f. record { part = q; offset = 0 };
  dispatch_token = λ m. Open 0;
  fixed = λ on m. Outer on m;
}

-- those of the package at a place
abbrev pub names_by : Loaded → (part : ℕ) → Option Package → Naming
names_by l q None = no_names l q
names_by l q (Some p) = naming_in l q (naming p)

-- What packages that are loaded together name.
abbrev pub naming_together : List Package → JointNaming
naming_together packages =
    let l = group_loaded (group_of packages) in
    record {
      loaded = l;
      class = class_together packages;
      field_token = field_together packages;
      cell = cell_together packages;
      own = λ q. names_by l q (slice_get packages q);
    }

-- the methods of a package that is there
abbrev pub methods_by : Option Package → List Placed
methods_by None = []
methods_by (Some p) = placed_methods p

-- the methods of the package at a place
abbrev pub methods_together : List Package → (part : ℕ) → List Placed
methods_together packages q = methods_by (slice_get packages q)

-- a class file of the package has this name
pub record IsOwnClass (p : Package) (x : List ℕ) : Type 0 where
  pub class : Class
  pub there : class_named (world p) x ≡ Some class
  pub own : class.is_imported ≡ false

-- The code of a package names fields of its own classes alone.
pub record NamesOwnFields (p : Package) : Type 0 where
  pub fields : (j k op : ℕ) (m : Placed) (f : MemberId) → slice_get (placed_methods p) j ≡ Some m
      → (let n = m.method in slice_get n.insns k ≡ Some (insns.Named op (keys.Field f))) → IsOwnClass p f.class
  pub statics : (j k op : ℕ) (m : Placed) (f : MemberId) → slice_get (placed_methods p) j ≡ Some m
      → (let n = m.method in slice_get n.insns k ≡ Some (insns.Named op (keys.StaticField f))) → IsOwnClass p f.class
