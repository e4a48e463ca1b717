-- Class by the class files, tables, class_refs and offsets is that of the package which has them.
use Rattle.std.proofs.Common.{◌≡◌, ℕ, refl, sym, ap, subst, ◌∙◌, true, false, List, [], ◌∷◌, ◌++◌, map}
use Rattle.std.specs.Prelude.{Option, Some, None, option_map, option_to_list, slice_get}
use Rattle.std.proofs.lemmas.List.{map-append}
use Rattle.cjc_components.specs.LowerCapRead.declared.tree.ClassRef.{ClassRef}
use Rattle.cjc_components.specs.LowerCapRead.declared.tree.ClassEntry.{ClassEntry}
use Rattle.cjc_components.specs.LowerCapRead.declared.tree.ClassInfo.{ClassInfo}
use Rattle.cjc_components.specs.LowerCapRead.declared.tree.InterfaceEntry.{InterfaceEntry}
use Rattle.cjc_components.specs.LowerCapRead.declared.tree.ImplementedInterface.{ImplementedInterface}
use Rattle.cjc_world.specs.ClassFile.declared.tree.ClassTree.{ClassTree}
use Rattle.cjc_world.specs.ClassFile.declared.tree.FieldTree.{FieldTree}
use Rattle.cjc_world.specs.declared.found.Found.{Found}
use Rattle.cjc_world.specs.Files.{Files}
use Rattle.cjc_world.specs.Classes.{Class, all_classes, declared}
use Rattle.cjc_world.specs.Order.{in_order}
use Rattle.cjc_world.specs.Working.Places.{at_places}
use Rattle.cjc_tokens.specs.Fields.{instance_cells}
use Rattle.cjc_components.specs.LowerVTable.declared.table.ClassTable.{ClassTable}
use Rattle.cjc_components.specs.LowerVTable.declared.table.InterfaceMap.{InterfaceMap}
use Rattle.cjc_components.specs.LowerVTable.Tables.{class_tables, table_of}
use Rattle.cjc_components.specs.Package.{Package, world}
use Rattle.cjc_components.specs.Methods.{method_offset}
use Rattle.cjc_components.specs.Class.{class_entry, class_info, fields_in, first_reference_token, implemented}
use Rattle.cjc_components.specs.Class.{info_flags, interface_entry, interfaces_of, reference_count, superclass}
use Rattle.cjc_components.specs.Class.{table_entry}
use Rattle.cjc_components.specs.Names.{class_ref}
use Rattle.cjc_components.specs.LowerClassOrder.Classes.Numbers.{declared_at}
use Rattle.cjc_classes.specs.declared.class_info.refs.ClassRefs.{ClassRefs}
use Rattle.cjc_classes.specs.ClassInfo.Refs.{AreRefs, ref_of}
use Rattle.cjc_classes.specs.ClassInfo.Entries.{AreOffsets, entries_by, entry_by, entry_by_offset, entry_where}
use Rattle.cjc_classes.specs.ClassInfo.Entries.{interface_entries, offset_in, with_numbers}
use Rattle.cjc_bytes.proofs.Lists.{map_same}

-- ---- pieces of rows

pub places-none : {B : Type 0} (f : Class → B) (w : List Class) → map f (at_places w []) ≡ []
unfolding at_places
places-none f w = refl

pub places-more : {B : Type 0} (f : Class → B) (w : List Class) (p : ℕ) (ps : List ℕ) → map f (at_places w (p ∷ ps))
    ≡ map f (option_to_list (slice_get w p)) ++ map f (at_places w ps)
unfolding at_places
places-more f w p ps = map-append f (option_to_list (slice_get w p)) (at_places w ps)

pub numbers-more : {B : Type 0} (f : Class → B) (trees : List ClassTree) (n : ℕ) (ns : List ℕ)
    → map f (with_numbers trees (n ∷ ns)) ≡ map f (option_to_list (declared_at trees n))
    ++ map f (with_numbers trees ns)
numbers-more f trees n ns = map-append f (option_to_list (declared_at trees n)) (with_numbers trees ns)

-- ---- interfaces

numbers-are : (trees : List ClassTree) (ns : List ℕ) (cs : List Class) → map Some cs ≡ map (declared_at trees) ns
    → with_numbers trees ns ≡ cs
numbers-are trees [] [] e = refl
numbers-are trees [] (c ∷ cs) e = cc
numbers-are trees (n ∷ ns) [] e = cc
numbers-are trees (n ∷ ns) (c ∷ cs) e =
    let first : Some c ≡ declared_at trees n = cc in
    let rest : map Some cs ≡ map (declared_at trees) ns = cc in
    ap (λ (o : Option Class). option_to_list o ++ with_numbers trees ns) (sym first)
    ∙ ap (λ q. c ∷ q) (numbers-are trees ns cs rest)

module _ (p : Package) (r : ClassRefs) (offsets : List (List ℕ)) (refs : AreRefs p r) (are : AreOffsets p offsets) where
  same_interface : (i : Class) → interface_entry (ref_of r) (world p) i ≡ interface_entry (class_ref p) (world p) i
  same_interface i =
      let with : List ClassRef → InterfaceEntry = λ rows. record {
        flags = info_flags (world p) i;
        superinterfaces = rows;
      } in
      ap with (map_same (λ (s : Class). ref_of r s.name) (λ (s : Class). class_ref p s.name) (λ s. refs s.name)
      (interfaces_of (world p) i))

  -- ---- classes

  same_offset : (f : Option Found) → entry_by_offset (offset_in offsets) f ≡ table_entry p f
  same_offset None = refl
  same_offset (Some f) = are f

  same_map : (m : InterfaceMap) → implemented (ref_of r) m ≡ implemented (class_ref p) m
  same_map m = let with : ClassRef → ImplementedInterface = λ i. record { interface = i; index = m.index }
      in ap with (refs m.interface)

  built : (flags : ℕ) (super : ClassRef) (fields : List FieldTree) (t : ClassTable) (public hidden : List ℕ)
      (interfaces : List ImplementedInterface) → ClassEntry
  built flags super fields t public hidden interfaces = record {
    flags = flags;
    superclass = super;
    declared_instance_size = instance_cells fields;
    first_reference_token = first_reference_token fields;
    reference_count = reference_count fields;
    public_base = t.public_base;
    package_base = t.package_base;
    public_methods = public;
    package_methods = hidden;
    interfaces = interfaces;
  }

  same_class : (c : Class) (tree : ClassTree) → slice_get p.files.classes c.number ≡ Some tree
      → c ≡ declared c.number tree
      → entry_by (ref_of r) (offset_in offsets) (world p) (table_of (world p) c) tree ≡ class_entry (class_ref p) p c
  unfolding built
  same_class c tree at is =
      let w = world p in
      let t = table_of w c in
      let fields : tree.fields ≡ fields_in (slice_get p.files.classes c.number) = sym (ap fields_in at) in
      let super : ref_of r tree.superclass ≡ class_ref p (superclass c) = refs tree.superclass
      ∙ ap (λ (d : Class). class_ref p (superclass d)) (sym is) in
      let public : map (entry_by_offset (offset_in offsets)) t.public ≡ map (table_entry p) t.public =
      map_same (entry_by_offset (offset_in offsets)) (table_entry p) same_offset t.public in
      let hidden : map (offset_in offsets) t.«package» ≡ map (method_offset p) t.«package» =
      map_same (offset_in offsets) (method_offset p) are t.«package» in
      let maps : map (implemented (ref_of r)) t.maps ≡ map (implemented (class_ref p)) t.maps =
      map_same (implemented (ref_of r)) (implemented (class_ref p)) same_map t.maps in
      let flags : info_flags w (declared c.number tree) ≡ info_flags w c = ap (λ (d : Class). info_flags w d) (sym is)
      in
      ap (λ (f : ℕ). built f (ref_of r tree.superclass) tree.fields t (map (entry_by_offset (offset_in offsets))
      t.public) (map (offset_in offsets) t.«package») (map (implemented (ref_of r)) t.maps)) flags
      ∙ ap (λ (s : ClassRef). built (info_flags w c) s tree.fields t (map (entry_by_offset (offset_in offsets))
      t.public) (map (offset_in offsets) t.«package») (map (implemented (ref_of r)) t.maps)) super
      ∙ ap (λ (fs : List FieldTree). built (info_flags w c) (class_ref p (superclass c)) fs t
      (map (entry_by_offset (offset_in offsets)) t.public) (map (offset_in offsets) t.«package»)
      (map (implemented (ref_of r)) t.maps)) fields
      ∙ ap (λ (os : List ℕ). built (info_flags w c) (class_ref p (superclass c))
      (fields_in (slice_get p.files.classes c.number)) t os (map (offset_in offsets) t.«package»)
      (map (implemented (ref_of r)) t.maps)) public
      ∙ ap (λ (os : List ℕ). built (info_flags w c) (class_ref p (superclass c))
      (fields_in (slice_get p.files.classes c.number)) t (map (table_entry p) t.public) os
      (map (implemented (ref_of r)) t.maps)) hidden
      ∙ ap (λ (ms : List ImplementedInterface). built (info_flags w c) (class_ref p (superclass c))
      (fields_in (slice_get p.files.classes c.number)) t (map (table_entry p) t.public) (map (method_offset p)
      t.«package») ms) maps

  entries-are : (cs : List Class) → map Some cs ≡ map (λ c. declared_at p.files.classes c.number) cs
      → entries_by (ref_of r) (offset_in offsets) p.files (map (table_of (world p)) cs)
      ≡ map (class_entry (class_ref p) p) cs
  entries-are [] e = refl
  entries-are (c ∷ cs) e =
      let first : Some c ≡ declared_at p.files.classes c.number = cc in
      let rest : map Some cs ≡ map (λ (d : Class). declared_at p.files.classes d.number) cs = cc in
      by (slice_get p.files.classes c.number) refl first ∙ ap (λ q. class_entry (class_ref p) p c
      ∷ q) (entries-are cs rest)
    where
      by : (o : Option ClassTree) → slice_get p.files.classes c.number ≡ o → Some c ≡ option_map (declared c.number) o
          → entry_where (ref_of r) (offset_in offsets) (world p) (table_of (world p) c) (slice_get p.files.classes
          c.number) ++ entries_by (ref_of r) (offset_in offsets) p.files (map (table_of (world p)) cs)
          ≡ class_entry (class_ref p) p c ∷ entries_by (ref_of r) (offset_in offsets) p.files (map (table_of (world p))
          cs)
      by None at is = cc
      by (Some tree) at is =
          let same : c ≡ declared c.number tree = cc in
          ap (λ (o : Option ClassTree). entry_where (ref_of r) (offset_in offsets) (world p) (table_of (world p) c) o
          ++ entries_by (ref_of r) (offset_in offsets) p.files (map (table_of (world p)) cs)) at
          ∙ ap (λ (x : ClassEntry). x ∷ entries_by (ref_of r) (offset_in offsets) p.files (map (table_of (world p)) cs))
          (same_class c tree at same)

-- ---- all

-- what is written for is in the order of Class
pub record IsOrdered (files : Files) (ns : List ℕ) (ts : List ClassTable) : Type 0 where
  pub interfaces : map Some (in_order (all_classes files) true) ≡ map (declared_at files.classes) ns
  pub classes : map Some (in_order (all_classes files) false) ≡ map (λ c. declared_at files.classes c.number)
      (in_order (all_classes files) false)
  pub tables : ts ≡ class_tables (all_classes files)

info_of : ClassRefs → (offsets : List (List ℕ)) → Files → List ℕ → List ClassTable → ClassInfo
info_of r offsets files ns ts = record {
  interfaces = interface_entries (ref_of r) files ns;
  classes = entries_by (ref_of r) (offset_in offsets) files ts;
}

own-info : (p : Package) (r : ClassRefs) (offsets : List (List ℕ)) → AreRefs p r → AreOffsets p offsets
    → (ns : List ℕ) (ts : List ClassTable) → IsOrdered p.files ns ts → info_of r offsets p.files ns ts
    ≡ class_info (class_ref p) p
unfolding info_of class_tables
own-info p r offsets refs are ns ts o =
    let w = world p in
    let first : interface_entries (ref_of r) p.files ns ≡ map (interface_entry (class_ref p) w) (in_order w true) =
    ap (map (interface_entry (ref_of r) w)) (numbers-are p.files.classes ns (in_order w true) o.interfaces)
    ∙ map_same (interface_entry (ref_of r) w) (interface_entry (class_ref p) w) (same_interface p r offsets refs are)
    (in_order w true) in
    let second : entries_by (ref_of r) (offset_in offsets) p.files ts ≡ map (class_entry (class_ref p) p)
    (in_order w false) =
    ap (entries_by (ref_of r) (offset_in offsets) p.files) o.tables
    ∙ entries-are p r offsets refs are (in_order w false) o.classes in
    let with : List InterfaceEntry → List ClassEntry → ClassInfo = λ is cs. record { interfaces = is; classes = cs } in
    ap (λ is. with is (entries_by (ref_of r) (offset_in offsets) p.files ts)) first
    ∙ ap (with (map (interface_entry (class_ref p) w) (in_order w true))) second

pub info-is : (p : Package) (files : Files) → p.files ≡ files → (r : ClassRefs) (offsets : List (List ℕ)) → AreRefs p r
    → AreOffsets p offsets → (ns : List ℕ) (ts : List ClassTable) → IsOrdered files ns ts
    → (is : List InterfaceEntry) (cs : List ClassEntry) → is ≡ interface_entries (ref_of r) files ns
    → cs ≡ entries_by (ref_of r) (offset_in offsets) files ts → record { interfaces = is; classes = cs }
    ≡ class_info (class_ref p) p
unfolding info_of
info-is p files e r offsets refs are ns ts o is cs f g =
    let with : List InterfaceEntry → List ClassEntry → ClassInfo = λ a b. record { interfaces = a; classes = b } in
    ap (λ a. with a cs) f ∙ ap (with (interface_entries (ref_of r) files ns)) g
    ∙ ap (λ (q : Files). info_of r offsets q ns ts) (sym e)
    ∙ own-info p r offsets refs are ns ts (subst (λ (q : Files). IsOrdered q ns ts) (sym e) o)
