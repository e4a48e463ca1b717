-- What calls of methods of interfaces rest on, where packages are loaded together: what a package by itself finds of
-- them, and that maps of interfaces give the tokens of their methods.
use Rattle.std.specs.Prelude.{◌≡◌, ℕ, List, [], ◌∷◌, Option, Some, false, slice_get, true, if◌then◌else◌}
use Rattle.std.specs.Str.{bytes_eq}
use Rattle.cjc_bytes.specs.AccessFlags.{is_interface}
use Rattle.cjc_bytes.specs.declared.fault.MemberId.{MemberId}
use Rattle.cjc_components.specs.Package.{Package, world}
use Rattle.cjc_joint_proof.specs.JointPackages.{class_together}
use Rattle.cjc_joint_proof.specs.JointTables.{world_together}
use Rattle.cjc_joint_proof.specs.JointTowers.{loaded_together}
use Rattle.cjc_jvm_semantics.specs.OnePackage.{ResolvedMember}
use Rattle.cjc_token_proof.specs.Calls.Selecting.{signature}
use Rattle.cjc_token_proof.specs.CardSemantics.Machine.Dispatch.{dispatched_interface, dispatched_open, map_of, tower}
use Rattle.cjc_token_proof.specs.NCode.ByLabel.{OnInterface}
use Rattle.cjc_token_proof.specs.Script.Sorts.{Shape, shape_name}
use Rattle.cjc_token_proof.specs.WrittenSends.Named.{is_called}
use Rattle.cjc_tokens.specs.Lines.{line_of}
use Rattle.cjc_tokens.specs.Members.{Signature}
use Rattle.cjc_tokens.specs.Methods.{interface_methods, interfaces_at}
use Rattle.cjc_tokens.specs.Slots.{slots, token}
use Rattle.cjc_vtable.specs.Laws.{interface_named}
use Rattle.cjc_vtable.specs.Tables.{table_of}
use Rattle.cjc_vtable.specs.declared.table.InterfaceMap.{InterfaceMap}
use Rattle.cjc_world.specs.Classes.{Class, class_named}
use Rattle.cjc_world.specs.Interfaces.{known}
use Rattle.cjc_world.specs.Lookup.{receiver}
use Rattle.cjc_world.specs.Supertypes.{Above, Lists}
use Rattle.cjc_joint_whole.specs.Selected.{CallsFace, NamesVirtual, face_selection}

-- Whatever code calls by invokeinterface is found as a method at which selection may end.
abbrev pub FacesSelect : Package → Type 0
FacesSelect p = (n : ℕ) (m : MemberId) → is_called p (OnInterface n m) ≡ true → NamesVirtual (world p) m

-- By token such a call, on an object of a class file, selects by the token that the class has for the method: the
-- nearest map of the interface, of the class or of one above it, gives that token.
abbrev pub MapsGiveTokens : List Package → Type 0
MapsGiveTokens packages = (q n : ℕ) (m : MemberId) (kind : Shape (List ℕ)) (c : Class) (hit : ResolvedMember)
    → CallsFace packages q n m kind c hit → (r : ℕ) (e : Package) → slice_get packages r ≡ Some e → (d : Class)
    → class_named (world e) (receiver (shape_name kind)) ≡ Some d → d.is_imported ≡ false
    → is_interface d.flags ≡ false → (t : ℕ)
    → token (slots (line_of (world e) (receiver (shape_name kind)))) (signature m) ≡ Some t
    → face_selection packages q n m (receiver (shape_name kind))
    ≡ dispatched_open (tower (loaded_together packages) (class_together packages (receiver (shape_name kind)))) t

-- ---- interfaces above

-- Where a class file of a package that is no interface lists an interface, the package knows what interfaces stand above
-- that one in the group: else its Class could not name them.
abbrev pub InterfacesAreKnown : List Package → Type 0
InterfacesAreKnown packages = (q : ℕ) (p : Package) → slice_get packages q ≡ Some p → (x : List ℕ) (c : Class)
    → class_named (world p) x ≡ Some c → c.is_imported ≡ false → is_interface c.flags ≡ false → (j : List ℕ)
    → Lists j c.interfaces → (y : List ℕ) (d : Class) → Above (world_together packages) j y
    → class_named (world_together packages) y ≡ Some d → is_interface d.flags ≡ true → (b : Class)
    × (class_named (world p) y ≡ Some b)

-- On an object of a class file below an interface that a package knows, a method of the interface is dispatched by its
-- place there as by the token that the class has for it in the package of its file.
abbrev pub FacesDispatch : List Package → Type 0
FacesDispatch packages = (q : ℕ) (p : Package) → slice_get packages q ≡ Some p → (y : List ℕ) (i : Class)
    → class_named (world p) y ≡ Some i → is_interface i.flags ≡ true → (k : ℕ) (s : Signature)
    → slice_get (interface_methods (world p) i) k ≡ Some s → (r : ℕ) (e : Package) → slice_get packages r ≡ Some e
    → (x : List ℕ) (d : Class) → class_named (world e) x ≡ Some d → d.is_imported ≡ false
    → is_interface d.flags ≡ false → Above (world_together packages) x y → (t : ℕ)
    → token (slots (line_of (world e) x)) s ≡ Some t
    → dispatched_interface (loaded_together packages) (Some (class_together packages x)) (class_together packages y) k
    ≡ dispatched_open (tower (loaded_together packages) (class_together packages x)) t

-- ---- maps

-- the index of the first of these maps that is of an interface, or else what stands above
abbrev pub map_or : List InterfaceMap → (interface : List ℕ) → (above : Option (List ℕ)) → Option (List ℕ)
map_or [] interface above = above
map_or (m ∷ ms) interface above = if bytes_eq m.interface interface then Some m.index else map_or ms interface above

-- On a class of a package the card has for each interface of the group the map that the package's own tables have, or
-- else that of the superclass.
abbrev pub MapsGoUp : List Package → Type 0
MapsGoUp packages = (q : ℕ) (p : Package) → slice_get packages q ≡ Some p → (x : List ℕ) (c : Class)
    → class_named (world p) x ≡ Some c → c.is_imported ≡ false → is_interface c.flags ≡ false → (super : List ℕ)
    → c.supers ≡ super ∷ [] → (i : List ℕ) (d : Class) → class_named (world_together packages) i ≡ Some d
    → map_of (loaded_together packages) (tower (loaded_together packages) (class_together packages x))
    (class_together packages i)
    ≡ map_or (let t = table_of (world p) c in t.maps) i (map_of (loaded_together packages) (tower (loaded_together
    packages) (class_together packages super)) (class_together packages i))

-- Where the interface is one that the package knows of the class, that map has at the place of a method there the token
-- that the class has for it.
abbrev pub MapsTell : List Package → Type 0
MapsTell packages = (q : ℕ) (p : Package) → slice_get packages q ≡ Some p → (x : List ℕ) (c : Class)
    → class_named (world p) x ≡ Some c → c.is_imported ≡ false → is_interface c.flags ≡ false → (y : List ℕ) (i : Class)
    → class_named (world p) y ≡ Some i → interface_named (known (interfaces_at (world p) c)) y ≡ Some i → (k : ℕ)
    (s : Signature) → slice_get (interface_methods (world p) i) k ≡ Some s → (t : ℕ)
    → token (slots (line_of (world p) x)) s ≡ Some t → (index : List ℕ)
    × (map_of (loaded_together packages) (tower (loaded_together packages) (class_together packages x))
    (class_together packages y) ≡ Some index) × (slice_get index k ≡ Some t)
