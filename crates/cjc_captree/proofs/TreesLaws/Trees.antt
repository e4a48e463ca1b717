-- Trees of components that are put together.
use Rattle.std.proofs.Common.{◌≡◌, ℕ, List, map, length, refl, ap, ◌∙◌, Some}
use Rattle.std.specs.Prelude.{replicate}
use Rattle.cjc_methods.specs.CapRead.declared.tree.CapTree.{CapTree}
use Rattle.cjc_methods.specs.CapRead.declared.tree.Directory.{Directory}
use Rattle.cjc_methods.specs.CapRead.declared.tree.Method.{Method}
use Rattle.cjc_methods.specs.CapRead.declared.tree.ReferenceLocation.{ReferenceLocation}
use Rattle.cjc_classes.specs.CapWrite.Size.{info_of}
use Rattle.cjc_classes.specs.NCode.declared.narrow.PoolKey.{PoolKey}
use Rattle.cjc_classes.specs.NCode.declared.narrow.PoolKey.TheVariants as keys
use Rattle.cjc_exported.specs.Components.Class.{class_info}
use Rattle.cjc_exported.specs.Components.Components.{applet, components_of, components_with, directory_with, header}
use Rattle.cjc_exported.specs.Components.Components.{import}
use Rattle.cjc_exported.specs.Components.Components.{method, reference_location, sizes, tags}
use Rattle.cjc_exported.specs.Components.Descriptor.{descriptor}
use Rattle.cjc_exported.specs.Components.Exports.{export}
use Rattle.cjc_exported.specs.Components.Names.{class_ref, pool_entries}
use Rattle.cjc_exported.specs.Components.Package.{Package, pool}
use Rattle.cjc_exported.specs.Components.Statics.{cell_offset, static_field}
use Rattle.cjc_classes.specs.Entries as entries
use Rattle.cjc_classes.specs.Descriptor.Keys.{key_cell}
use Rattle.cjc_captree.specs.Trees.Working.{HasComponents}
use Rattle.cjc_classes.proofs.TokensSteps.{map_same}

-- the cells by key
pub cells_by_key : (p : Package) (ks : List PoolKey) → map (key_cell (cell_offset p.image)) ks
    ≡ map (entries.key_cell p) ks
cells_by_key p ks = map_same (key_cell (cell_offset p.image)) (entries.key_cell p) ks one
  where
    one : (k : PoolKey) → key_cell (cell_offset p.image) k ≡ entries.key_cell p k
    one (keys.Class c) = refl
    one (keys.Field m) = refl
    one (keys.Virtual m) = refl
    one (keys.Super m) = refl
    one (keys.StaticField m) = refl
    one (keys.StaticMethod m) = refl

module _ (p : Package) where
  -- what is put first, and then
  abbrev pub with_package : CapTree → CapTree
  with_package t = record t { export = export p; header = header p; applet = applet p; import = Some (import p) }

  abbrev pub with_members : CapTree → CapTree
  with_members t = record t {
    pool = Some (record { entries = pool_entries p });
    class = Some (class_info (class_ref p) p);
    statics = Some (static_field p.image);
    descriptor =
        Some (descriptor p);
  }

  pub all_put : (a b c : CapTree) (m : Method) (l : ReferenceLocation) → a.method ≡ Some m → a.locations ≡ Some l
      → m ≡ method p → l ≡ reference_location p → b ≡ with_package a → c ≡ with_members b → HasComponents p c
  all_put a b c m l am al is_m is_l e f sizes =
      let methods : a.method ≡ Some (method p) = am ∙ ap (λ x. Some x) is_m in
      let locations : a.locations ≡ Some (reference_location p) = al ∙ ap (λ x. Some x) is_l in
      ap (λ (t : CapTree). record t { directory = directory_with sizes p }) (f ∙ ap with_members e)
      ∙ (λ i. record (components_with sizes p) { method = methods i; locations = locations i })

  pub statics_there : (t : CapTree) → HasComponents p t → t.statics ≡ Some (static_field p.image)
  statics_there t h = ap (λ (x : CapTree). x.statics) (h (replicate 12 0))

  pub import_there : (t : CapTree) → HasComponents p t → t.import ≡ Some (import p)
  import_there t h = ap (λ (x : CapTree). x.import) (h (replicate 12 0))

  pub applet_there : (t : CapTree) → HasComponents p t → t.applet ≡ applet p
  applet_there t h = ap (λ (x : CapTree). x.applet) (h (replicate 12 0))

  pub sized : (t u v : CapTree) (d : Directory) (row : List ℕ) → HasComponents p t
      → d ≡ directory_with (replicate 12 0) p → u ≡ record t { directory = d }
      → row ≡ map (λ tag. length (info_of u tag)) tags
      → v ≡ record u { directory = record u.directory { component_sizes = row } } → v ≡ components_of p
  sized t u v d row h is_d is_u is_row is_v =
      let first : u ≡ components_with (replicate 12 0) p = is_u ∙ ap (λ (x : Directory). record t { directory = x })
      is_d ∙ h (replicate 12 0) in
      let counted : row ≡ sizes p = is_row ∙ ap (λ (x : CapTree). map (λ tag. length (info_of x tag)) tags) first in
      is_v
      ∙ ap (λ (x : CapTree). record x { directory = record x.directory { component_sizes = row } }) first
      ∙ ap (λ (xs : List ℕ). components_with xs p) counted
