use Rattle.std.proofs.Common.{◌≡◌, Bool, true, false, List, [], ◌∷◌, Option, Some, None, refl, ap, ◌∙◌}
use Rattle.std.specs.Prelude.{not, ◌&&◌, ◌||◌}
use Rattle.std.specs.List.{list_all, AllByRecursion}
use Rattle.cjc_export.specs.declared.tree.ExportTree.{ExportTree}
use Rattle.cjc_first.specs.Sentences.Complete.{Complete, complete}
use Rattle.cjc_first.specs.Sentences.Imports.{imports_agree}
use Rattle.cjc_first.specs.Sentences.ClassRefs.{classes_are_there, supers_fit}
use Rattle.cjc_first.specs.Sentences.Tables.{tables_hold_methods, maps_hold_tokens}
use Rattle.cjc_first.specs.Sentences.PoolEntries.{members_are_there}
use Rattle.cjc_first.specs.Sentences.Methods.{methods_are_whole, codes_are_closed, indices_have_tags}
use Rattle.cjc_first.specs.Sentences.Handlers.{handlers_stand}
use Rattle.cjc_first.specs.Sentences.Locations.{locations_are_listed}
use Rattle.cjc_first.specs.Sentences.Directory.{directory_agrees, flags_agree}
use Rattle.cjc_first.specs.Sentences.Consistent.{Sentence, sentences, of_complete, where_complete, counts_as_true}
use Rattle.cjc_first.proofs.laws.consistent_where_unbroken.Goals as goal

both : (a b : Bool) → a ≡ true → b ≡ true → (a && b) ≡ true
both a b e f = ap (λ t. t && b) e ∙ f

split : (a b : Bool) → (a && b) ≡ true → (a ≡ true) × (b ≡ true)
split true b e = (refl, e)
split false b e = absurd cc

-- a sentence that counts as true is true where those that it needs are
given : (a b : Bool) → a ≡ true → (not a || b) ≡ true → b ≡ true
given true b e f = f
given false b e f = absurd cc

counts : (a b : Bool) → b ≡ true → (not a || b) ≡ true
counts true b e = e
counts false b e = refl

each_passes : (test : Sentence → Bool) (all : List Sentence) → list_all test all ≡ true → AllByRecursion (λ s. test s ≡ true) all
each_passes test [] e = tt
each_passes test (s ∷ rest) e = let h = split (test s) (list_all test rest) e in (h.0, each_passes test rest h.1)

all_pass : (test : Sentence → Bool) (all : List Sentence) → AllByRecursion (λ s. test s ≡ true) all → list_all test all ≡ true
all_pass test [] h = refl
all_pass test (s ∷ rest) h = both (test s) (list_all test rest) h.0 (all_pass test rest h.1)

-- where all are true, all count as true
all_count : (all : List Sentence) → list_all (λ s. s.holds) all ≡ true → list_all counts_as_true all ≡ true
all_count [] e = refl
all_count (s ∷ rest) e =
    let h = split s.holds (list_all (λ s. s.holds) rest) e in
    both (counts_as_true s) (list_all counts_as_true rest) (counts s.needed s.holds h.0) (all_count rest h.1)

complete_hold : (c : Complete) (exports : List ExportTree) → list_all counts_as_true (of_complete c exports) ≡ true → list_all (λ s. s.holds) (of_complete c exports) ≡ true
complete_hold c exports e =
    let imports = imports_agree c exports in
    let classes = classes_are_there c exports in
    let supers = supers_fit c exports in
    let whole = methods_are_whole c in
    let h703 = each_passes counts_as_true (of_complete c exports) e in
    let h704 = h703.1 in
    let h705 = h704.1 in
    let h706 = h705.1 in
    let h707 = h706.1 in
    let h708 = h707.1 in
    let h709 = h708.1 in
    let h710 = h709.1 in
    let h711 = h710.1 in
    let h712 = h711.1 in
    let h713 = h712.1 in
    let h714 = h713.1 in
    let h715 = h714.1 in
    let h716 = h715.1 in
    let h717 = h716.1 in
    let h718 = h717.1 in
    let n704 = given imports classes h703.0 h704.0 in
    let front = both imports classes h703.0 n704 in
    let n705 = given (imports && classes) supers front h705.0 in
    let all = both (imports && classes) supers front n705 in
    let n706 = given (imports && classes && supers) (tables_hold_methods c) all h706.0 in
    let n707 = given (imports && classes && supers) (maps_hold_tokens c exports) all h707.0 in
    let n708 = given (imports && classes && supers) (members_are_there c exports) all h708.0 in
    let n710 = given whole (codes_are_closed c) h709.0 h710.0 in
    let n711 = given whole (indices_have_tags c) h709.0 h711.0 in
    let n712 = given whole (handlers_stand c) h709.0 h712.0 in
    let n714 = given whole (locations_are_listed c) h709.0 h714.0 in
    all_pass (λ s. s.holds) (of_complete c exports) (h703.0, (n704, (n705, (n706, (n707, (n708, (h709.0, (n710, (n711, (n712, (h713.0, (n714, (h715.0, (h716.0, (h717.0, (h718.0, tt))))))))))))))))

rest_hold : (o : Option Complete) (exports : List ExportTree) → list_all counts_as_true (where_complete o exports) ≡ true → list_all (λ s. s.holds) (where_complete o exports) ≡ true
rest_hold None exports e = refl
rest_hold (Some c) exports e = complete_hold c exports e

pub returns-clause-unbroken : goal.returns-clause-unbroken
returns-clause-unbroken c = λ cap exports e. all_count (sentences cap exports) e

pub returns-clause-consistent : goal.returns-clause-consistent
returns-clause-consistent c = λ cap exports e.
    let rest = where_complete (complete cap) exports in
    let first = split (directory_agrees cap) (flags_agree cap && list_all counts_as_true rest) e in
    let second = split (flags_agree cap) (list_all counts_as_true rest) first.1 in
    both (directory_agrees cap) (flags_agree cap && list_all (λ s. s.holds) rest) first.0
    (both (flags_agree cap) (list_all (λ s. s.holds) rest) second.0 (rest_hold (complete cap) exports second.1))
