-- All sentences on components from one after the other.
use Rattle.std.proofs.Common.{◌≡◌, refl, sym, ap, subst, Bool, true, false, List, []}
use Rattle.std.specs.Prelude.{◌&&◌, Some}
use Rattle.std.specs.List.{list_all}
use Rattle.cjc_capread.specs.declared.tree.CapTree.{CapTree}
use Rattle.cjc_world.specs.ExportFile.declared.tree.ExportTree.{ExportTree}
use Rattle.cjc_check_rules.specs.Complete.{Complete, complete}
use Rattle.cjc_check_rules.specs.Consistent.{Consistent, Sentence, is_true, of_complete, where_complete}
use Rattle.cjc_check_rules.specs.Listed.{directory_spots, flags_spots}
use Rattle.cjc_check_rules.specs.Imports.{import_spots}
use Rattle.cjc_check_rules.specs.ClassRefs.{class_ref_spots, super_spots}
use Rattle.cjc_check_rules.specs.Tables.{table_spots, map_spots}
use Rattle.cjc_check_rules.specs.PoolEntries.{pool_spots}
use Rattle.cjc_check_rules.specs.Codes.{whole_spots}
use Rattle.cjc_check_rules.specs.Instructions.{jump_spots, index_spots}
use Rattle.cjc_check_rules.specs.Handlers.{handler_spots, stop_spots}
use Rattle.cjc_check_rules.specs.Locations.{location_spots}
use Rattle.cjc_check_rules.specs.Statics.{install_spots, image_spots}
use Rattle.cjc_check_rules.specs.Exports.{export_spots}
use Rattle.cjc_check_rules.specs.Described.{descriptor_spots}

abbrev All : List Sentence → Type 0
All ss = list_all (λ s. is_true s.spots) ss ≡ true

both : {a b : Bool} → a ≡ true → b ≡ true → (a && b) ≡ true
both {a = true} {b = b} e f = f
both {a = false} {b = b} e f = absurd (cc)

-- no place of any sentence of components of which none is absent is broken
pub record NoneBroken (c : Complete) (exports : List ExportTree) : Type 0 where
  pub imports : import_spots c.import exports ≡ []
  pub class_refs : class_ref_spots c exports ≡ []
  pub supers : super_spots c exports ≡ []
  pub tables : table_spots c ≡ []
  pub maps : map_spots c exports ≡ []
  pub pool : pool_spots c exports ≡ []
  pub whole : whole_spots c ≡ []
  pub jumps : jump_spots c ≡ []
  pub indices : index_spots c ≡ []
  pub handlers : handler_spots c ≡ []
  pub stops : stop_spots c.method ≡ []
  pub locations : location_spots c ≡ []
  pub installs : install_spots c ≡ []
  pub image : image_spots c.statics ≡ []
  pub exported : export_spots c ≡ []
  pub descriptor : descriptor_spots c ≡ []

all_complete : (c : Complete) (exports : List ExportTree) → NoneBroken c exports → All (of_complete c exports)
all_complete c exports n =
    both (ap is_true n.imports)
    (both (ap is_true n.class_refs)
    (both (ap is_true n.supers)
    (both (ap is_true n.tables)
    (both (ap is_true n.maps)
    (both (ap is_true n.pool)
    (both (ap is_true n.whole)
    (both (ap is_true n.jumps)
    (both (ap is_true n.indices)
    (both (ap is_true n.handlers)
    (both (ap is_true n.stops)
    (both (ap is_true n.locations)
    (both (ap is_true n.installs)
    (both (ap is_true n.image)
    (both (ap is_true n.exported)
    (both (ap is_true n.descriptor) refl)))))))))))))))

pub all_consistent : (cap : CapTree) (exports : List ExportTree) (c : Complete) → complete cap ≡ Some c
    → directory_spots cap ≡ [] → flags_spots cap ≡ [] → NoneBroken c exports → Consistent cap exports
all_consistent cap exports c is directory flags none =
    both (ap is_true directory)
    (both (ap is_true flags)
    (subst (λ o. All (where_complete o exports)) (sym is) (all_complete c exports none)))
