use Rattle.std.proofs.Common.{◌≡◌, Bool, true, false, ℕ, List, [], ◌∷◌, ◌++◌, Option, Some, None, refl, ap, ◌∙◌}
use Rattle.std.specs.Prelude.{◌&&◌, flat_map}
use Rattle.std.specs.List.{list_all, AllByRecursion}
use Rattle.std.proofs.lemmas.Bool.{and_from}
use Rattle.cjc_export.specs.Bytes.Breaks.{Break}
use Rattle.cjc_export.specs.declared.tree.ExportTree.{ExportTree}
use Rattle.cjc_check_rules.specs.Spots.{ComponentPlace}
use Rattle.cjc_check_rules.specs.Complete.{Complete, complete}
use Rattle.cjc_check_rules.specs.Listed.{directory_spots, flags_spots}
use Rattle.cjc_check_rules.specs.Imports.{import_spots}
use Rattle.cjc_check_rules.specs.ClassRefs.{class_ref_spots, super_spots}
use Rattle.cjc_check_rules.specs.Tables.{table_spots, map_spots}
use Rattle.cjc_check_rules.specs.PoolEntries.{pool_spots}
use Rattle.cjc_check_rules.specs.Codes.{whole_spots}
use Rattle.cjc_check_rules.specs.Instructions.{jump_spots, index_spots}
use Rattle.cjc_check_rules.specs.Handlers.{handler_spots, stop_spots}
use Rattle.cjc_check_rules.specs.Locations.{location_spots}
use Rattle.cjc_check_rules.specs.Statics.{install_spots, image_spots}
use Rattle.cjc_check_rules.specs.Exports.{export_spots}
use Rattle.cjc_check_rules.specs.Described.{descriptor_spots}
use Rattle.cjc_check_rules.specs.Consistent.{Sentence, sentence, is_true, breaks_of, sentences, of_complete}
use Rattle.cjc_check_rules.specs.Consistent.{where_complete}
use Rattle.cjc_export.proofs.BytesBools.{and_true}
use Rattle.cjc_export.proofs.BytesBrokenRules.{empty_both}
use Rattle.cjc_check_rules.proofs.laws.consistent_where_unbroken.Goals as goal

-- a true sentence breaks nothing
counts : (number : ℕ) (needed : Bool) (spots : List ComponentPlace) → is_true spots ≡ true
    → breaks_of (sentence number needed spots) ≡ []
counts number true [] e = refl
counts number false [] e = refl
counts number true (s ∷ spots) e = absurd cc
counts number false (s ∷ spots) e = absurd cc

-- a sentence that breaks nothing is true where those that it needs are
given : (number : ℕ) (needed : Bool) (spots : List ComponentPlace) → needed ≡ true
    → breaks_of (sentence number needed spots) ≡ [] → is_true spots ≡ true
given number true [] e f = refl
given number true (s ∷ spots) e f = absurd cc
given number false spots e f = absurd cc

all_pass : (all : List Sentence) → AllByRecursion (λ s. is_true s.spots ≡ true) all
    → list_all (λ s. is_true s.spots) all ≡ true
all_pass [] h = refl
all_pass (s ∷ rest) h = and_from (is_true s.spots) (list_all (λ s. is_true s.spots) rest) h.0 (all_pass rest h.1)

each_counts : (all : List Sentence) → flat_map breaks_of all ≡ [] → AllByRecursion (λ s. breaks_of s ≡ []) all
each_counts [] e = tt
each_counts (s ∷ rest) e = let h = empty_both (breaks_of s) (flat_map breaks_of rest) e in (h.0, each_counts rest h.1)

-- where all are true, nothing is broken
all_count : (all : List Sentence) → list_all (λ s. is_true s.spots) all ≡ true → flat_map breaks_of all ≡ []
all_count [] e = refl
all_count (s ∷ rest) e =
    let h = and_true (is_true s.spots) (list_all (λ s. is_true s.spots) rest) e in
    ap (λ (bs : List Break). bs ++ flat_map breaks_of rest) (counts s.number s.needed s.spots h.0) ∙ all_count rest h.1

complete_hold : (c : Complete) (exports : List ExportTree) → flat_map breaks_of (of_complete c exports) ≡ []
    → list_all (λ s. is_true s.spots) (of_complete c exports) ≡ true
complete_hold c exports e =
    let imports = is_true (import_spots c.import exports) in
    let classes = is_true (class_ref_spots c exports) in
    let supers = is_true (super_spots c exports) in
    let whole = is_true (whole_spots c) in
    let h703 = each_counts (of_complete c exports) e in
    let h704 = h703.1 in
    let h705 = h704.1 in
    let h706 = h705.1 in
    let h707 = h706.1 in
    let h708 = h707.1 in
    let h709 = h708.1 in
    let h710 = h709.1 in
    let h711 = h710.1 in
    let h712 = h711.1 in
    let h713 = h712.1 in
    let h714 = h713.1 in
    let h715 = h714.1 in
    let h716 = h715.1 in
    let h717 = h716.1 in
    let h718 = h717.1 in
    let n703 = given 703 true (import_spots c.import exports) refl h703.0 in
    let n704 = given 704 imports (class_ref_spots c exports) n703 h704.0 in
    let front = and_from imports classes n703 n704 in
    let n705 = given 705 (imports && classes) (super_spots c exports) front h705.0 in
    let all = and_from (imports && classes) supers front n705 in
    let n706 = given 706 (imports && classes && supers) (table_spots c) all h706.0 in
    let n707 = given 707 (imports && classes && supers) (map_spots c exports) all h707.0 in
    let n708 = given 708 (imports && classes && supers) (pool_spots c exports) all h708.0 in
    let n709 = given 709 true (whole_spots c) refl h709.0 in
    let n710 = given 710 whole (jump_spots c) n709 h710.0 in
    let n711 = given 711 whole (index_spots c) n709 h711.0 in
    let n712 = given 712 whole (handler_spots c) n709 h712.0 in
    let n713 = given 713 true (stop_spots c.method) refl h713.0 in
    let n714 = given 714 whole (location_spots c) n709 h714.0 in
    let n715 = given 715 true (install_spots c) refl h715.0 in
    let n716 = given 716 true (image_spots c.statics) refl h716.0 in
    let n717 = given 717 true (export_spots c) refl h717.0 in
    let n718 = given 718 true (descriptor_spots c) refl h718.0 in
    all_pass (of_complete c exports) (
      n703,
      (
        n704,
        (
          n705,
          (n706, (n707, (n708, (n709, (n710, (n711, (n712, (n713, (n714, (n715, (n716, (n717, (n718, tt))))))))))))),
        ),
      ),
    )

rest_hold : (o : Option Complete) (exports : List ExportTree) → flat_map breaks_of (where_complete o exports) ≡ []
    → list_all (λ s. is_true s.spots) (where_complete o exports) ≡ true
rest_hold None exports e = refl
rest_hold (Some c) exports e = complete_hold c exports e

pub returns-clause-unbroken : goal.returns-clause-unbroken
returns-clause-unbroken c = λ cap exports e. all_count (sentences cap exports) e

pub returns-clause-consistent : goal.returns-clause-consistent
returns-clause-consistent c = λ cap exports e.
    let rest = where_complete (complete cap) exports in
    let h = each_counts (sentences cap exports) e in
    let left = empty_both (breaks_of (sentence 702 true (flags_spots cap))) (flat_map breaks_of rest)
    (empty_both (breaks_of (sentence 701 true (directory_spots cap))) (breaks_of (sentence 702 true (flags_spots cap))
    ++ flat_map breaks_of rest) e).1 in
    let n701 = given 701 true (directory_spots cap) refl h.0 in
    let n702 = given 702 true (flags_spots cap) refl left.0 in
    and_from (is_true (directory_spots cap)) (is_true (flags_spots cap) && list_all (λ s. is_true s.spots) rest) n701
    (and_from (is_true (flags_spots cap)) (list_all (λ s. is_true s.spots) rest) n702 (rest_hold (complete cap) exports
    left.1))
