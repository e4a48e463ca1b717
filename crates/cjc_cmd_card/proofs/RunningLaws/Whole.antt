-- Components that were read and are consistent are all there, Applet and Export aside.
use Rattle.std.proofs.Common.{◌≡◌, ℕ, zero, suc, ◌+◌, ◌*◌, ◌/◌, ◌^◌, ◌<◌, ◌==◌, Bool, true, false, List, [], ◌∷◌, ◌++◌}
use Rattle.std.proofs.Common.{length, get_or, refl, sym, ap, subst, ◌∙◌, arith, Option, Some, None, Result, Ok, Err}
use Rattle.std.specs.Prelude.{◌||◌, not}
use Rattle.cjc_cmd_check.specs.Bytes.Format.{Format, Spells, repeated, u2}
use Rattle.cjc_cmd_check.proofs.BytesLaws.{file_ok}
use Rattle.cjc_card.specs.CapRead.Component.{component, info}
use Rattle.cjc_card.specs.CapRead.Directory.{directory}
use Rattle.cjc_card.specs.CapRead.declared.tree.CapTree.{CapTree}
use Rattle.cjc_card.specs.CapRead.declared.tree.Component.{Component}
use Rattle.cjc_card.specs.CapRead.declared.tree.Component.TheVariants as components
use Rattle.cjc_card.specs.CapRead.declared.tree.Directory.{Directory}
use Rattle.cjc_card.specs.CapRead.declared.tree.ClassInfo.{ClassInfo}
use Rattle.cjc_card.specs.CapRead.declared.tree.ConstantPool.{ConstantPool}
use Rattle.cjc_card.specs.CapRead.declared.tree.Descriptor.{Descriptor}
use Rattle.cjc_card.specs.CapRead.declared.tree.Import.{Import}
use Rattle.cjc_card.specs.CapRead.declared.tree.Method.{Method}
use Rattle.cjc_card.specs.CapRead.declared.tree.ReferenceLocation.{ReferenceLocation}
use Rattle.cjc_card.specs.CapRead.declared.tree.StaticField.{StaticField}
use Rattle.cjc_pairing.specs.ExportFile.declared.tree.ExportTree.{ExportTree}
use Rattle.cjc_cmd_check.specs.Folder.Breaks.{cap_in, cap_of, front, with_component, with_components, with_read}
use Rattle.cjc_cmd_check.specs.Folder.Reads.{read_component}
use Rattle.cjc_cmd_check.specs.declared.folder.folder.Parts.{Parts}
use Rattle.cjc_pairing.specs.CheckRules.Complete.{AreSmall, Complete, IsSmall, class_info_size, complete, complete_with}
use Rattle.cjc_pairing.specs.CheckRules.Complete.{descriptor_size, import_size, locations_size, method_size, pool_size}
use Rattle.cjc_pairing.specs.CheckRules.Complete.{size_items, size_of, statics_size}
use Rattle.cjc_pairing.specs.CheckRules.Consistent.{Consistent, is_true}
use Rattle.cjc_pairing.specs.CheckRules.Listed.{directory_spots, may_be_absent, size_agrees, size_spots}
use Rattle.cjc_pairing.specs.CheckRules.Spots.{beside, unless}
use Rattle.cjc_pairing.specs.CheckRules.declared.spot.ComponentPlace.{ComponentPlace}
use Rattle.cjc_cmd_check.proofs.BytesBools.{by_if, both_front, both_back}

-- ---- Directory has twelve sizes

row_length : {A : Type 0} (p : Format A) (n at : ℕ) (xs : List A) (bytes : List ℕ) → Spells (repeated n p) at xs bytes
    → length xs ≡ n
unfolding Spells repeated
row_length p zero at xs bytes h = sym (ap length h.1)
row_length p (suc n) at xs bytes h = sym (ap length h.5.5.1) ∙ ap suc (row_length p n _ h.5.0 h.5.1 h.5.4)

twelve_spelt : (at : ℕ) (d : Directory) (bytes : List ℕ) → Spells directory at d bytes → length d.component_sizes ≡ 12
unfolding Spells directory
twelve_spelt at d bytes h = sym (ap (λ (x : Directory). length x.component_sizes) h.5.5.5.5.5.5.5.1)
    ∙ row_length u2 12 _ h.0 h.1 h.4

same_directory : (d e : Directory) → components.Directory d ≡ components.Directory e → d ≡ e
same_directory d e h = cc

twelve_read : (bytes : List ℕ) (d : Directory) → read_component 2 bytes ≡ Ok (components.Directory d)
    → length d.component_sizes ≡ 12
unfolding Spells component info
twelve_read bytes d read =
    let spelt = file_ok (component 2 (length bytes)) bytes (components.Directory d) read in
    let same = same_directory spelt.5.5.0 d spelt.5.5.5.1 in
    ap (λ (x : Directory). length x.component_sizes) (sym same) ∙ twelve_spelt _ spelt.5.5.0 spelt.5.5.1 spelt.5.5.4

-- ---- other components are put beside Directory

component_beside : (cap : CapTree) (tag : ℕ) (x : Component) → (with_component cap tag x).directory ≡ cap.directory
component_beside cap tag x =
    let P : CapTree → Type 0 = λ c. c.directory ≡ cap.directory in
    by_if P (tag == 3) _ _ refl
    (by_if P (tag == 4) _ _ refl
    (by_if P (tag == 5) _ _ refl
    (by_if P (tag == 6) _ _ refl
    (by_if P (tag == 7) _ _ refl
    (by_if P (tag == 8) _ _ refl
    (by_if P (tag == 9) _ _ refl
    (by_if P (tag == 10) _ _ refl refl)))))))

read_beside : (cap : CapTree) (tag : ℕ) (r : Result Component ℕ) → (with_read cap tag r).directory ≡ cap.directory
read_beside cap tag (Ok x) = component_beside cap tag x
read_beside cap tag (Err k) = refl

files_beside : (cap : CapTree) (tags : List ℕ) (files : List (List ℕ)) → (with_components cap tags files).directory
    ≡ cap.directory
unfolding with_components
files_beside cap [] [] = refl
files_beside cap [] (bytes ∷ files) = refl
files_beside cap (tag ∷ tags) [] = refl
files_beside cap (tag ∷ tags) (bytes ∷ files) =
    files_beside (with_read cap tag (read_component tag bytes)) tags files
    ∙ read_beside cap tag (read_component tag bytes)

twelve_of : (h d : Result Component ℕ) (tags : List ℕ) (files : List (List ℕ)) (cap : CapTree)
    → ((x : Directory) → d ≡ Ok (components.Directory x) → length x.component_sizes ≡ 12)
    → cap_of h d tags files ≡ Some cap → length cap.directory.component_sizes ≡ 12
twelve_of (Ok (components.Header h)) (Ok (components.Directory d)) tags files cap twelve e =
    let same : with_components (front h d) tags files ≡ cap = cc in
    subst (λ (c : CapTree). length c.directory.component_sizes ≡ 12) same
    (ap (λ (x : Directory). length x.component_sizes) (files_beside (front h d) tags files) ∙ twelve d refl)
twelve_of _ _ tags files cap twelve e = absurd cc

-- what was read as Directory has a size for each tag
pub twelve_sizes : (p : Parts) (cap : CapTree) → cap_in p ≡ Some cap → length cap.directory.component_sizes ≡ 12
twelve_sizes p cap e = twelve_of (read_component 1 p.header) (read_component 2 p.directory) p.tags p.others cap
    (λ x read. twelve_read p.directory x read) e

-- ---- sizes that agree

empty_where_true : (spots : List ComponentPlace) → is_true spots ≡ true → spots ≡ []
empty_where_true [] e = refl
empty_where_true (s ∷ spots) e = absurd cc

apart : (xs ys : List ComponentPlace) → xs ++ ys ≡ [] → (xs ≡ []) × (ys ≡ [])
apart [] ys e = (refl, e)
apart (x ∷ xs) ys e = absurd cc

none_unless : (b : Bool) (s : ComponentPlace) → unless b s ≡ [] → b ≡ true
none_unless true s e = refl
none_unless false s e = absurd cc

size_at : (k at : ℕ) (told own : List ℕ) → beside (λ (t : ℕ). 2) size_spots at told own ≡ [] → k < length told
    → k < length own → size_agrees (1 + (at + 2 * k) / 2) (get_or told k 0) (get_or own k 0) ≡ true
unfolding beside
size_at k at [] own e lt lo = absurd (omega (arith, lt))
size_at k at (t ∷ told) [] e lt lo = absurd (omega (arith, lo))
size_at zero at (t ∷ told) (o ∷ own) e lt lo =
    let first = none_unless (size_agrees (1 + at / 2) t o) _ (apart (size_spots at t o) _ e).0 in
    subst (λ (n : ℕ). size_agrees (1 + n / 2) t o ≡ true) (let same : at ≡ at + 2 * 0 = omega arith in same) first
size_at (suc k) at (t ∷ told) (o ∷ own) e lt lo =
    let rest = size_at k (at + 2) told own (apart (size_spots at t o) _ e).1 (omega (arith, lt)) (omega (arith, lo)) in
    subst (λ (n : ℕ). size_agrees (1 + n / 2) (get_or told k 0) (get_or own k 0) ≡ true) (let same : at + 2 + 2 * k
    ≡ at + 2 * suc k = omega arith in same) rest

needed : (tag told own : ℕ) → may_be_absent tag ≡ false → size_agrees tag told own ≡ true → not (own == 0) ≡ true
needed tag told own e h =
    subst (λ (b : Bool). (b || not (own == 0)) ≡ true) e (both_back (told == own) (may_be_absent tag || not (own == 0))
    h)

present : {A : Type 0} (size : A → ℕ) (o : Option A) → not (size_of size o == 0) ≡ true → (x : A) × (o ≡ Some x)
present size None h = absurd cc
present size (Some x) h = (x, refl)

-- ---- the whole

-- No component but Applet and Export is absent, and these are small.
pub record IsWhole (cap : CapTree) : Type 0 where
  pub whole : Complete
  pub complete_is : complete cap ≡ Some whole
  pub small : AreSmall whole

module _ (cap : CapTree) (exports : List ExportTree) (twelve : length cap.directory.component_sizes ≡ 12)
    (consistent : Consistent cap exports) where
  no_spots : directory_spots cap ≡ []
  no_spots = empty_where_true (directory_spots cap) (both_front (is_true (directory_spots cap)) _ consistent)

  sizes_agree : beside (λ (t : ℕ). 2) size_spots 0 cap.directory.component_sizes (size_items cap) ≡ []
  sizes_agree = (apart _ _ (apart _ _ (apart _ _ no_spots).0).0).0

  agrees : (k : ℕ) → k < 12 → size_agrees (1 + (0 + 2 * k) / 2) (get_or cap.directory.component_sizes k 0)
      (get_or (size_items cap) k 0) ≡ true
  agrees k lt = size_at k 0 cap.directory.component_sizes (size_items cap) sizes_agree (omega (arith, twelve, lt)) lt

  import_is : (x : Import) × (cap.import ≡ Some x)
  import_is = present import_size cap.import (needed 4 _ _ refl (agrees 3 (omega arith)))

  pool_is : (x : ConstantPool) × (cap.pool ≡ Some x)
  pool_is = present pool_size cap.pool (needed 5 _ _ refl (agrees 4 (omega arith)))

  class_is : (x : ClassInfo) × (cap.class ≡ Some x)
  class_is = present class_info_size cap.class (needed 6 _ _ refl (agrees 5 (omega arith)))

  method_is : (x : Method) × (cap.method ≡ Some x)
  method_is = present method_size cap.method (needed 7 _ _ refl (agrees 6 (omega arith)))

  statics_is : (x : StaticField) × (cap.statics ≡ Some x)
  statics_is = present statics_size cap.statics (needed 8 _ _ refl (agrees 7 (omega arith)))

  locations_is : (x : ReferenceLocation) × (cap.locations ≡ Some x)
  locations_is = present locations_size cap.locations (needed 9 _ _ refl (agrees 8 (omega arith)))

  descriptor_is : (x : Descriptor) × (cap.descriptor ≡ Some x)
  descriptor_is = present descriptor_size cap.descriptor (needed 11 _ _ refl (agrees 10 (omega arith)))

  abbrev whole : Complete
  whole = record {
    applet = cap.applet;
    import = import_is.0;
    pool = pool_is.0;
    class = class_is.0;
    method = method_is.0;
    statics = statics_is.0;
    locations = locations_is.0;
    export = cap.export;
    descriptor =
        descriptor_is.0;
  }

  little_whole : IsSmall cap → AreSmall whole
  little_whole little = record {
    applet = little.applet;
    import = subst (λ (o : Option Import). 3 + size_of import_size o < 2 ^ 32) import_is.1 little.import;
    pool = subst (λ (o : Option ConstantPool). 3 + size_of pool_size o < 2 ^ 32) pool_is.1 little.pool;
    class = subst (λ (o : Option ClassInfo). 3 + size_of class_info_size o < 2 ^ 32) class_is.1 little.class;
    method = subst (λ (o : Option Method). 3 + size_of method_size o < 2 ^ 32) method_is.1 little.method;
    statics = subst (λ (o : Option StaticField). 3 + size_of statics_size o < 2 ^ 32) statics_is.1 little.statics;
    locations = subst (λ (o : Option ReferenceLocation). 3 + size_of locations_size o < 2 ^ 32) locations_is.1
        little.locations;
    export = little.export;
    descriptor = subst (λ (o : Option Descriptor). 3 + size_of descriptor_size o < 2 ^ 32) descriptor_is.1
        little.descriptor;
  }

  -- components that are consistent are whole
  pub whole_of : IsSmall cap → IsWhole cap
  whole_of little = record {
    whole = whole;
    complete_is = λ i. complete_with cap (import_is.1 i) (pool_is.1 i) (class_is.1 i) (method_is.1 i) (statics_is.1 i)
        (locations_is.1 i) (descriptor_is.1 i);
    small = little_whole little;
  }
