-- What class infos and export files say of virtual methods: their tables, their maps and their tokens (Java Card
-- Virtual Machine Specification 2.2.2, sections 4.3.7.6, 5.9 and 6.8).
use Rattle.std.specs.Prelude.{◌≡◌, ℕ, suc, List, [], ◌∷◌, map, Option, Some, None, true, false, if◌then◌else◌}
use Rattle.std.specs.Prelude.{slice_get}
use Rattle.cjc_bytes.specs.declared.fault.MemberId.{MemberId}
use Rattle.cjc_card_semantics.specs.CapRead.declared.tree.ClassEntry.{ClassEntry}
use Rattle.cjc_world.specs.ExportFile.declared.tree.ExportClass.{ExportClass}
use Rattle.cjc_card_semantics.specs.Machine.Classes.{Own, External, IsClass, info_of, class_of, external}
use Rattle.cjc_card_semantics.specs.Machine.Dispatch.{Selection, At, Outward, exported_line, in_files, tower}
use Rattle.cjc_card_semantics.specs.Machine.Dispatch.{dispatched_open, dispatched_hidden, dispatched_interface}
use Rattle.cjc_world.specs.declared.found.Found.{Found}
use Rattle.cjc_world.specs.Classes.{Class, class_named}
use Rattle.cjc_world.specs.Supertypes.{supertypes, upwards}
use Rattle.cjc_world.specs.Lookup.{first}
use Rattle.cjc_tokens.specs.Members.{Signature}
use Rattle.cjc_vtable.specs.declared.table.InterfaceMap.{InterfaceMap}
use Rattle.cjc_vtable.specs.Dispatch.{own_by_token, tower_of}
use Rattle.cjc_vtable.specs.Dispatch as tables
use Rattle.cjc_vtable.specs.Naming.{named}
use Rattle.cjc_vtable.specs.Tables.{table_of}
use Rattle.cjc_ncode.specs.Lowering.Naming.{Naming}
use Rattle.cjc_token_proof.specs.ByToken.Supers.{has_class}

-- ---- methods on the card

-- an entry of a public table: 0xFFFF where the implementation is imported
abbrev pub table_entry : (offset : Found → ℕ) → Option Found → ℕ
table_entry offset None = 0xFFFF
table_entry offset (Some f) = offset f

-- an imported method by the class that its event names
abbrev pub event : (class : List ℕ) → Signature → MemberId
event class s = record { class = class; name = s.name; desc = s.desc }

-- A method of a signature that a look-up finds: of the package by its offset, else the event of an imported class.
abbrev pub selection_of : Naming → (offset : Found → ℕ) → (class : List ℕ) → Signature → Found → Selection
selection_of n offset class s f = if f.imported then Outward (event class s) else At n.part (offset f)

-- ---- what is written

-- The info of a class of the package has its tables, with the offsets of their methods for the methods, and its maps,
-- with class_refs for interfaces.
pub record SaysTables (w : List Class) (n : Naming) (offset : Found → ℕ) (x : List ℕ) (c : Class) (super : List ℕ) :
    Type 0 where
  pub at : ℕ
  pub entry : ClassEntry
  pub on_card : n.class x ≡ Own n.part at
  pub there : info_of n.loaded n.part at ≡ Some (IsClass entry)
  pub superclass : class_of n.loaded n.part entry.superclass ≡ Some (n.class super)
  pub public_base : entry.public_base ≡ (let t = table_of w c in t.public_base)
  pub public_methods : entry.public_methods ≡ map (table_entry offset) (let t = table_of w c in t.public)
  pub package_base : entry.package_base ≡ (let t = table_of w c in t.package_base)
  pub package_methods : entry.package_methods ≡ map offset (let t = table_of w c in t.«package»)
  pub maps : entry.interfaces ≡ map (λ (m : InterfaceMap). record {
    interface = n.class_ref m.interface;
    index = m.index;
  }) (let t = table_of w c in t.maps)
  pub mapped : (k : ℕ) (m : InterfaceMap) → slice_get (let t = table_of w c in t.maps) k ≡ Some m
      → has_class w m.interface ≡ true

-- The export file of an imported class, and those of its supers, give each virtual token the method that the class has
-- by it.
pub record SaysFile (w : List Class) (n : Naming) (x : List ℕ) (c : Class) : Type 0 where
  pub tree : ℕ
  pub token : ℕ
  pub entry : ExportClass
  pub on_card : n.class x ≡ External tree token
  pub there : external n.loaded tree token ≡ Some entry
  pub imported : (t : ℕ) (f : Found) → first (own_by_token t) (c ∷ upwards (supertypes w c.supers)) ≡ Some f
      → f.imported ≡ true
  pub methods : (t : ℕ) (f : Found) (s : Signature) → first (own_by_token t) (c ∷ upwards (supertypes w c.supers))
      ≡ Some f → named w f ≡ Some s → in_files (exported_line n.loaded (Some entry)) t ≡ Outward (event x s)

-- A class with so many superclasses of the package, below an imported class, which events name.
pub data SaysTower (w : List Class) (n : Naming) (offset : Found → ℕ) : (height : ℕ) → List ℕ → (imported : List ℕ)
    → Type 0 where
  of_file : {x : List ℕ} (c : Class) → class_named w x ≡ Some c → c.is_imported ≡ true → SaysFile w n x c
      → SaysTower w n offset 0 x x
  of_package : {height : ℕ} {x z : List ℕ} (c : Class) (super : List ℕ) → class_named w x ≡ Some c
      → c.is_imported ≡ false → c.supers ≡ super ∷ [] → SaysTables w n offset x c super
      → SaysTower w n offset height super z → SaysTower w n offset (suc height) x z

-- ---- dispatch

-- Dispatch by token on an object of a class gives by class infos and export files what it gives by class tables: a
-- public or protected method, a
-- package-visible one, one of an interface, and one from the superclass on.
pub record DispatchAgrees (w : List Class) (n : Naming) (offset : Found → ℕ) (x z : List ℕ) : Type 0 where
  pub open_method : (t : ℕ) (f : Found) (s : Signature) → tables.dispatched (tower_of w x) t ≡ Some f
      → named w f ≡ Some s → dispatched_open (tower n.loaded (n.class x)) t ≡ selection_of n offset z s f
  pub package_method : (t : ℕ) (f : Found) (s : Signature) → tables.dispatched_hidden (tower_of w x) t ≡ Some f
      → dispatched_hidden (tower n.loaded (n.class x)) n.part t ≡ selection_of n offset z s f
  pub interface_method : (i : List ℕ) (t : ℕ) (f : Found) (s : Signature) → has_class w i ≡ true
      → tables.dispatched_interface (tower_of w x) i t ≡ Some f → named w f ≡ Some s
      → dispatched_interface n.loaded (Some (n.class x)) (n.class i) t ≡ selection_of n offset z s f
