-- What the files of a conversion say when they are read as components: what was written.
use Rattle.std.proofs.Common.{◌≡◌, ◌==◌, ℕ, suc, arith, refl, sym, ap, subst, ◌∙◌, Bool, true, cond, List, [], ◌∷◌}
use Rattle.std.proofs.Common.{◌++◌, length}
use Rattle.std.proofs.Common.{Option, Some, None, Ok}
use Rattle.std.specs.Prelude.{flat_map, is_some, not}
use Rattle.cjc_cmd_convert.proofs.BytesLaws.{file_spelt}
use Rattle.cjc_shelf.proofs.BytesNumbers.{other_number}
use Rattle.cjc_theorem.specs.CapRead.Component.{component}
use Rattle.cjc_components.specs.LowerCapRead.declared.tree.Applet.{Applet}
use Rattle.cjc_components.specs.LowerCapRead.declared.tree.ClassInfo.{ClassInfo}
use Rattle.cjc_components.specs.LowerCapRead.declared.tree.Descriptor.{Descriptor}
use Rattle.cjc_components.specs.LowerCapRead.declared.tree.Import.{Import}
use Rattle.cjc_components.specs.LowerCapRead.declared.tree.Method.{Method}
use Rattle.cjc_components.specs.LowerCapRead.declared.tree.ReferenceLocation.{ReferenceLocation}
use Rattle.cjc_components.specs.LowerCapRead.declared.tree.StaticField.{StaticField}
use Rattle.cjc_components.specs.LowerCapRead.declared.tree.CapTree.{CapTree}
use Rattle.cjc_components.specs.LowerCapRead.declared.tree.Component.{Component}
use Rattle.cjc_components.specs.LowerCapRead.declared.tree.Component.TheVariants as components
use Rattle.cjc_components.specs.LowerCapRead.declared.tree.ConstantPool.{ConstantPool}
use Rattle.cjc_components.specs.LowerCapRead.declared.tree.Export.{Export}
use Rattle.cjc_components.specs.LowerCapWrite.Class.{class_entry_bytes, class_info_bytes, interface_bytes}
use Rattle.cjc_components.specs.LowerCapWrite.Descriptor.{class_descriptor_bytes, descriptor_bytes, types_bytes}
use Rattle.cjc_components.specs.LowerCapWrite.Export.{export_bytes, exported_class_bytes}
use Rattle.cjc_components.specs.LowerCapWrite.Files.{part}
use Rattle.cjc_components.specs.LowerCapWrite.Method.{handler_bytes, method_bytes}
use Rattle.cjc_components.specs.LowerCapWrite.Package.{applet_bytes, applet_entry_bytes, import_bytes}
use Rattle.cjc_components.specs.LowerCapWrite.Package.{imported_package_bytes}
use Rattle.cjc_components.specs.LowerCapWrite.Pool.{entry_bytes, pool_bytes}
use Rattle.cjc_components.specs.LowerCapWrite.Statics.{reference_location_bytes, static_field_bytes}
use Rattle.cjc_components.specs.LowerCapWrite.Writable.{IsSpelt, Spelt, SpeltWhere}
use Rattle.cjc_components.specs.LowerCapWrite.declared.files.CapFiles.{CapFiles}
use Rattle.cjc_cmd_card.specs.CmdCheck.Folder.Breaks.{break_in, cap_in, cap_of, component_breaks, component_place}
use Rattle.cjc_cmd_card.specs.CmdCheck.Folder.Breaks.{front}
use Rattle.cjc_cmd_card.specs.CmdCheck.Folder.Breaks.{part_breaks, with_component, with_components, with_read}
use Rattle.cjc_cmd_card.specs.CmdCheck.Folder.Reads.{has_size, read_component, tags_in, tags_of, tags_with_size}
use Rattle.cjc_components.specs.Class.{class_info}
use Rattle.cjc_components.specs.Components.{applet, directory_with, import, method}
use Rattle.cjc_components.specs.Components.{reference_location, sizes}
use Rattle.cjc_components.specs.Descriptor.{descriptor}
use Rattle.cjc_components.specs.Exports.{export}
use Rattle.cjc_components.specs.Names.{class_ref, pool_entries}
use Rattle.cjc_components.specs.Package.{Package}
use Rattle.cjc_components.specs.Statics.{static_field}
use Rattle.cjc_int_theorem.specs.Components.{components_by_modes, header_by_modes}
use Rattle.cjc_shape_proof.specs.LowerIntPackage.Modes.{Tables}
use Rattle.cjc_accepted_files.specs.Folder.{others, parts_of, where_there}

-- the tag of a component that may be absent
abbrev pub tag_where : ℕ → Option (List ℕ) → List ℕ
tag_where tag None = []
tag_where tag (Some bytes) = tag ∷ []

-- the tags behind those of Header and Directory
abbrev pub tags_there : (applet export : Option (List ℕ)) → List ℕ
tags_there applet export = tag_where 3 applet
    ++ (4 ∷ 5 ∷ 6 ∷ 7 ∷ 8 ∷ 9 ∷ tag_where 10 export ++ 11 ∷ [])

-- a file that spells a component is read as it
reads_as : (tag : ℕ) (x : Component) (bytes : List ℕ) → Spelt tag x bytes → read_component tag bytes ≡ Ok x
reads_as tag x bytes spelt = file_spelt (component tag (length bytes)) bytes x spelt

-- ---- files that are read

-- Each file is read as a component of its tag: these, one behind the other.
abbrev AllRead : List ℕ → List (List ℕ) → List Component → Type 0
AllRead [] [] [] = Unit {0}
AllRead (tag ∷ tags) (bytes ∷ files) (x ∷ xs) = (read_component tag bytes ≡ Ok x) × AllRead tags files xs
AllRead _ _ _ = ⊥

none_break : (tags : List ℕ) (files : List (List ℕ)) (xs : List Component) → AllRead tags files xs
    → component_breaks tags files ≡ []
unfolding component_breaks
none_break [] [] [] all = refl
none_break (tag ∷ tags) (bytes ∷ files) (x ∷ xs) all =
    let rest = none_break tags files xs all.1 in
    λ i. break_in 106 (component_place tag) (all.0 i) ++ rest i
none_break [] [] (x ∷ xs) all = absurd all
none_break [] (bytes ∷ files) [] all = absurd all
none_break [] (bytes ∷ files) (x ∷ xs) all = absurd all
none_break (tag ∷ tags) [] [] all = absurd all
none_break (tag ∷ tags) [] (x ∷ xs) all = absurd all
none_break (tag ∷ tags) (bytes ∷ files) [] all = absurd all

-- with each of these components of its tag
abbrev with_all : CapTree → List ℕ → List Component → CapTree
with_all cap (tag ∷ tags) (x ∷ xs) = with_all (with_component cap tag x) tags xs
with_all cap _ _ = cap

all_put : (cap : CapTree) (tags : List ℕ) (files : List (List ℕ)) (xs : List Component) → AllRead tags files xs
    → with_components cap tags files ≡ with_all cap tags xs
unfolding with_components
all_put cap [] [] [] all = refl
all_put cap (tag ∷ tags) (bytes ∷ files) (x ∷ xs) all =
    ap (λ r. with_components (with_read cap tag r) tags files) all.0
    ∙ all_put (with_component cap tag x) tags files xs all.1
all_put cap [] [] (x ∷ xs) all = absurd all
all_put cap [] (bytes ∷ files) [] all = absurd all
all_put cap [] (bytes ∷ files) (x ∷ xs) all = absurd all
all_put cap (tag ∷ tags) [] [] all = absurd all
all_put cap (tag ∷ tags) [] (x ∷ xs) all = absurd all
all_put cap (tag ∷ tags) (bytes ∷ files) [] all = absurd all

-- ---- which components are there

abbrev kept : Bool → ℕ → List ℕ → List ℕ
kept b tag rest = cond b (tag ∷ rest) rest

-- the tags of these sizes, where all components but Applet and Export have some
tags_by : (sizes : List ℕ) (a e : Bool) → has_size sizes 3 ≡ a → has_size sizes 4 ≡ true → has_size sizes 5 ≡ true
    → has_size sizes 6 ≡ true → has_size sizes 7 ≡ true → has_size sizes 8 ≡ true → has_size sizes 9 ≡ true
    → has_size sizes 10 ≡ e → has_size sizes 11 ≡ true
    → tags_with_size sizes ≡ kept a 3 (4 ∷ 5 ∷ 6 ∷ 7 ∷ 8 ∷ 9 ∷ kept e 10 (11 ∷ []))
unfolding tags_with_size
tags_by sizes a e s3 s4 s5 s6 s7 s8 s9 s10 s11 =
    λ i. kept (s3 i) 3 (kept (s4 i) 4 (kept (s5 i) 5 (kept (s6 i) 6 (kept (s7 i) 7 (kept (s8 i) 8 (kept (s9 i) 9
    (kept (s10 i) 10 (kept (s11 i) 11 []))))))))

-- a number that is not 0
some_size : (n : ℕ) → not (suc n == 0) ≡ true
some_size n = ap not (other_number (suc n) 0 (λ e. absurd (omega (arith, e))))

applet_sized : (o : Option Applet) → not (length (part applet_bytes o) == 0) ≡ is_some o
unfolding applet_bytes
applet_sized None = refl
applet_sized (Some x) = some_size (length (flat_map applet_entry_bytes x.applets))

export_sized : (o : Option Export) → not (length (part export_bytes o) == 0) ≡ is_some o
unfolding export_bytes
export_sized None = refl
export_sized (Some x) = some_size (length (flat_map exported_class_bytes x.classes))

-- the other components have some bytes
import_sized : (x : Import) → not (length (import_bytes x) == 0) ≡ true
unfolding import_bytes
import_sized x = some_size (length (flat_map imported_package_bytes x.packages))

pool_sized : (x : ConstantPool) → not (length (pool_bytes x) == 0) ≡ true
unfolding pool_bytes
pool_sized x = some_size (suc (length (flat_map entry_bytes x.entries)))

class_sized : (x : ClassInfo) → not (length (class_info_bytes x) == 0) ≡ true
unfolding class_info_bytes
class_sized x = some_size (suc (length (flat_map interface_bytes x.interfaces
    ++ flat_map class_entry_bytes x.classes)))

method_sized : (x : Method) → not (length (method_bytes x) == 0) ≡ true
unfolding method_bytes
method_sized x = some_size (length (flat_map handler_bytes x.handlers ++ x.methods))

-- bytes of which there are some
some_bytes : (bytes : List ℕ) (n : ℕ) → length bytes ≡ suc n → not (length bytes == 0) ≡ true
some_bytes bytes n long = subst (λ (k : ℕ). not (k == 0) ≡ true) (sym long) (some_size n)

statics_sized : (x : StaticField) → not (length (static_field_bytes x) == 0) ≡ true
unfolding static_field_bytes
statics_sized x = some_bytes (static_field_bytes x) _ refl

locations_sized : (x : ReferenceLocation) → not (length (reference_location_bytes x) == 0) ≡ true
unfolding reference_location_bytes
locations_sized x = some_bytes (reference_location_bytes x) _ refl

descriptor_sized : (x : Descriptor) → not (length (descriptor_bytes x) == 0) ≡ true
unfolding descriptor_bytes
descriptor_sized x = some_size (length (flat_map class_descriptor_bytes x.classes ++ types_bytes x))

sizes_tell : (p : Package) → tags_with_size (sizes p) ≡ kept (is_some (applet p)) 3 (4 ∷ 5 ∷ 6 ∷ 7 ∷ 8 ∷ 9
    ∷ kept (is_some (export p)) 10 (11 ∷ []))
sizes_tell p = tags_by (sizes p) (is_some (applet p)) (is_some (export p)) (applet_sized (applet p))
    (import_sized (import p)) (pool_sized (record { entries = pool_entries p }))
    (class_sized (class_info (class_ref p) p)) (method_sized (method p)) (statics_sized (static_field p.image))
    (locations_sized (reference_location p)) (export_sized (export p)) (descriptor_sized (descriptor p))

kept_where : {A : Type 0} (tag : ℕ) (wrap : A → Component) (o : Option A) (file : Option (List ℕ))
    → SpeltWhere tag wrap o file → (rest : List ℕ) → kept (is_some o) tag rest ≡ tag_where tag file ++ rest
kept_where tag wrap None None s rest = refl
kept_where tag wrap (Some x) (Some bytes) s rest = refl
kept_where tag wrap None (Some bytes) s rest = absurd s
kept_where tag wrap (Some x) None s rest = absurd s

-- ---- the whole

-- the component that may be absent
abbrev wrapped : {A : Type 0} → (A → Component) → Option A → List Component
wrapped wrap None = []
wrapped wrap (Some x) = wrap x ∷ []

one_read : {A : Type 0} (tag : ℕ) (wrap : A → Component) (o : Option A) (file : Option (List ℕ))
    → SpeltWhere tag wrap o file → (tags : List ℕ) (files : List (List ℕ)) (xs : List Component)
    → AllRead tags files xs → AllRead (tag_where tag file ++ tags) (where_there file ++ files) (wrapped wrap o ++ xs)
one_read tag wrap None None s tags files xs rest = rest
one_read tag wrap (Some x) (Some bytes) s tags files xs rest = (reads_as tag (wrap x) bytes s, rest)
one_read tag wrap None (Some bytes) s tags files xs rest = absurd s
one_read tag wrap (Some x) None s tags files xs rest = absurd s

module _ (t : Tables) (p : Package) (caps : CapFiles) (spelt : IsSpelt (components_by_modes t p) caps) where
  -- the components behind Applet, with their tags and their files
  abbrev tags_behind : List ℕ
  tags_behind = 4 ∷ 5 ∷ 6 ∷ 7 ∷ 8 ∷ 9 ∷ tag_where 10 caps.export ++ 11 ∷ []

  abbrev files_behind : List (List ℕ)
  files_behind = caps.import ∷ caps.pool ∷ caps.class ∷ caps.method ∷ caps.statics ∷ caps.locations
      ∷ where_there caps.export ++ caps.descriptor ∷ []

  abbrev with_export : Option Export → List Component
  with_export e = components.Import (import p) ∷ components.Pool (record { entries = pool_entries p })
      ∷ components.Class (class_info (class_ref p) p) ∷ components.Method (method p)
      ∷ components.Statics (static_field p.image) ∷ components.Locations (reference_location p)
      ∷ wrapped components.Export e ++ components.Descriptor (descriptor p) ∷ []

  -- the components behind Directory
  abbrev behind : List Component
  behind = wrapped components.Applet (applet p) ++ with_export (export p)

  header_read : read_component 1 caps.header ≡ Ok (components.Header (header_by_modes t p))
  header_read = reads_as 1 (components.Header (header_by_modes t p)) caps.header spelt.header

  directory_read : read_component 2 caps.directory ≡ Ok (components.Directory (directory_with (sizes p) p))
  directory_read = reads_as 2 (components.Directory (directory_with (sizes p) p)) caps.directory spelt.directory

  -- Directory says that these are there
  pub tags_are : tags_of caps.directory ≡ tags_there caps.applet caps.export
  tags_are =
      ap tags_in directory_read ∙ sizes_tell p
      ∙ kept_where 3 components.Applet (applet p) caps.applet spelt.applet (4 ∷ 5 ∷ 6 ∷ 7 ∷ 8 ∷ 9
      ∷ kept (is_some (export p)) 10 (11 ∷ []))
      ∙ ap (λ tags. tag_where 3 caps.applet ++ (4 ∷ 5 ∷ 6 ∷ 7 ∷ 8 ∷ 9 ∷ tags)) (kept_where 10 components.Export
      (export p) caps.export spelt.export (11 ∷ []))

  last_read : AllRead (tag_where 10 caps.export ++ 11 ∷ []) (where_there caps.export ++ caps.descriptor ∷ [])
      (wrapped components.Export (export p) ++ components.Descriptor (descriptor p) ∷ [])
  last_read = one_read 10 components.Export (export p) caps.export spelt.export (11 ∷ []) (caps.descriptor ∷ [])
      (components.Descriptor (descriptor p) ∷ [])
      (reads_as 11 (components.Descriptor (descriptor p)) caps.descriptor spelt.descriptor, tt)

  behind_read : AllRead tags_behind files_behind (with_export (export p))
  behind_read = (
    reads_as 4 (components.Import (import p)) caps.import spelt.import,
    (
      reads_as 5 (components.Pool (record { entries = pool_entries p })) caps.pool spelt.pool,
      (
        reads_as 6 (components.Class (class_info (class_ref p) p)) caps.class spelt.class,
        (
          reads_as 7 (components.Method (method p)) caps.method spelt.method,
          (
            reads_as 8 (components.Statics (static_field p.image)) caps.statics spelt.statics,
            (
              reads_as 9 (components.Locations (reference_location p)) caps.locations spelt.locations,
              last_read,
            ),
          ),
        ),
      ),
    ),
  )

  all_read : AllRead (tags_there caps.applet caps.export) (others caps) behind
  all_read = one_read 3 components.Applet (applet p) caps.applet spelt.applet tags_behind files_behind (with_export
      (export p)) behind_read

  -- the components of which Applet and Export are these
  abbrev with_both : Option Applet → Option Export → CapTree
  with_both a e = record {
    header = header_by_modes t p;
    directory = directory_with (sizes p) p;
    applet = a;
    import = Some (import p);
    pool = Some (record { entries = pool_entries p });
    class = Some (class_info (class_ref p) p);
    method = Some (method p);
    statics = Some (static_field p.image);
    locations = Some (reference_location p);
    export = e;
    descriptor = Some (descriptor p);
  }

  put_back : (a : Option Applet) (fa : Option (List ℕ)) (e : Option Export) (fe : Option (List ℕ))
      → SpeltWhere 3 components.Applet a fa → SpeltWhere 10 components.Export e fe
      → with_all (front (header_by_modes t p) (directory_with (sizes p) p)) (tags_there fa fe)
      (wrapped components.Applet a ++ with_export e) ≡ with_both a e
  put_back None None None None s t = refl
  put_back None None (Some y) (Some g) s t = refl
  put_back (Some x) (Some f) None None s t = refl
  put_back (Some x) (Some f) (Some y) (Some g) s t = refl
  put_back None (Some f) e fe s t = absurd s
  put_back (Some x) None e fe s t = absurd s
  put_back None None None (Some g) s t = absurd t
  put_back None None (Some y) None s t = absurd t
  put_back (Some x) (Some f) None (Some g) s t = absurd t
  put_back (Some x) (Some f) (Some y) None s t = absurd t

  pub cap_read : cap_in (parts_of caps) ≡ Some (components_by_modes t p)
  cap_read =
      (λ i. cap_of (header_read i) (directory_read i) (tags_are i) (others caps))
      ∙ ap (λ (c : CapTree). Some c) (all_put (front (header_by_modes t p) (directory_with (sizes p) p)) (tags_there caps.applet
      caps.export) (others caps) behind all_read
      ∙ put_back (applet p) caps.applet (export p) caps.export spelt.applet spelt.export)

  pub parts_fine : part_breaks (parts_of caps) ≡ []
  unfolding component_breaks
  parts_fine =
      ap (λ tags. component_breaks (1 ∷ 2 ∷ tags) (caps.header ∷ caps.directory ∷ others caps)) tags_are
      ∙ none_break (1 ∷ 2 ∷ tags_there caps.applet caps.export) (caps.header ∷ caps.directory ∷ others caps)
      (components.Header (header_by_modes t p) ∷ components.Directory (directory_with (sizes p) p) ∷ behind)
      (header_read, (directory_read, all_read))
