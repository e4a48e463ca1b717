use Rattle.std.proofs.Common.{[], ◌∷◌, true, refl, ◌∙◌}
use Rattle.std.specs.Prelude.{flat_map, ◌&&◌}
use Rattle.cjc_check_rules.specs.ClassRefs.{class_ref_spots, super_spots}
use Rattle.cjc_check_rules.specs.Consistent.{breaks_of, is_true, sentence}
use Rattle.cjc_check_rules.specs.Imports.{import_spots}
use Rattle.cjc_check_rules.specs.PoolEntries.{pool_spots}
use Rattle.cjc_check_rules.specs.Tables.{map_spots, table_spots}
use Rattle.cjc_check.specs.Firsts.{from_whole}
use Rattle.cjc_check.proofs.firsts.first_break.Goals as goal

pub returns : goal.returns
returns c = λ t exports are.
    let imports = is_true (import_spots t.import exports) in
    let refs = imports && is_true (class_ref_spots t exports) in
    let supers = refs && is_true (super_spots t exports) in
    let n703 = c.is_true-imported.ensures (import_spots t.import exports) are.counted.imports in
    let n704 = c.is_true-named.ensures (class_ref_spots t exports) are.linked.class_refs in
    let n705 = c.is_true-placed.ensures (super_spots t exports) are.linked.supers in
    let is_refs = c.both-refs.ensures ∙ (λ i. n703 i && n704 i) in
    let is_supers = c.both-supers.ensures ∙ (λ i. is_refs i && n705 i) in
    let s709 = from_whole t in
    let s708 = sentence 708 supers (pool_spots t exports) ∷ s709 in
    let s707 = sentence 707 supers (map_spots t exports) ∷ s708 in
    let s706 = sentence 706 supers (table_spots t) ∷ s707 in
    let s705 = sentence 705 refs (super_spots t exports) ∷ s706 in
    let s704 = sentence 704 imports (class_ref_spots t exports) ∷ s705 in
    let f709 = c.from_whole-whole.ensures t exports are in
    let f708 = c.with_sentence-entries.ensures supers (pool_spots t exports) (flat_map breaks_of s709) is_supers
    are.linked.entries f709 in
    let f707 = c.with_sentence-maps.ensures supers (map_spots t exports) (flat_map breaks_of s708) is_supers
    are.linked.maps f708 in
    let f706 = c.with_sentence-tables.ensures supers (table_spots t) (flat_map breaks_of s707) is_supers
    are.linked.tables f707 in
    let f705 = c.with_sentence-extended.ensures refs (super_spots t exports) (flat_map breaks_of s706) is_refs
    are.linked.supers f706 in
    let f704 = c.with_sentence-class_refs.ensures imports (class_ref_spots t exports) (flat_map breaks_of s705) n703
    are.linked.class_refs f705 in
    c.with_sentence.ensures true (import_spots t.import exports) (flat_map breaks_of s704) refl are.counted.imports f704
