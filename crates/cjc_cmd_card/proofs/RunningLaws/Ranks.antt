-- Where the rules stand that a package, its script and what components say together break.
use Rattle.std.proofs.Common.{◌≡◌, inl, inr, ℕ, ◌+◌, ◌≤◌, ◌^◌, ◌/◌, List, [], ◌∷◌, Bool, true, false, refl, ap, arith}
use Rattle.std.proofs.Common.{Option, Some, None, map}
use Rattle.std.specs.Prelude.{flat_map, if◌then◌else◌, slice_get}
use Rattle.cjc_cmd_check.specs.Bytes.Breaks.{Break, Among, foremost, after}
use Rattle.cjc_cmd_check.proofs.BytesFirsts.{among_either}
use Rattle.cjc_card.specs.CapRead.declared.tree.CapTree.{CapTree}
use Rattle.cjc_cmd_check.specs.Check.{sentence_breaks}
use Rattle.cjc_pairing.specs.Clinit.Rules.{of_class, of_code}
use Rattle.cjc_card.specs.Bytecode.PackageCodes.{all_codes}
use Rattle.cjc_pairing.specs.ExportFile.declared.tree.ExportTree.{ExportTree}
use Rattle.cjc_cmd_check.specs.declared.folder.folder.Parts.{Parts}
use Rattle.cjc_cmd_jvm.specs.Judge.Codes.{all_unsupported_insns}
use Rattle.cjc_cmd_jvm.specs.Judge.Rules.{Breach, BreaksGroup, of_file, of_world, of_names, of_group, files_spelt}
use Rattle.cjc_cmd_jvm.specs.Judge.Rules.{has_applets}
use Rattle.cjc_cmd_jvm.specs.Judge.Rules.{settings_of}
use Rattle.cjc_cmd_jvm.specs.Judge.Spelt.{classes_of}
use Rattle.cjc_cmd_jvm.specs.Judge.Types.{asks_types}
use Rattle.cjc_cmd_jvm.specs.Judge.declared.groups.Group.{Group}
use Rattle.cjc_cmd_jvm.specs.Judge.declared.groups.Group.TheVariants as groups
use Rattle.cjc_shape.proofs.JudgeEarly.{asked}
use Rattle.cjc_shape.proofs.JudgeFamilies.{unsupported_insns_third, checks_language, tokens_fourth}
use Rattle.cjc_shape.proofs.JudgeFirsts.{file_family, world_family, names_family}
use Rattle.cjc_cmd_check.specs.List.Listed.{ListTree}
use Rattle.cjc_cmd_jvm.specs.Running.Ready.{BreaksScript}
use Rattle.cjc_pairing.specs.CheckRules.Complete.{Complete, complete}
use Rattle.cjc_pairing.specs.CheckRules.Consistent.{Sentence, break_at, breaks_of, sentences, where_complete}
use Rattle.cjc_pairing.specs.CheckRules.declared.spot.ComponentPlace.{ComponentPlace}
use Rattle.cjc_cmd_card.specs.Running.Ready.{BreaksSentence, tested}

-- ---- the package: one line a group

not_tested : {P : Type 0} (i : ℕ) (g : Group) → slice_get tested i ≡ Some g → asks_types g ≡ true → P
not_tested i g at asks = absurd (let named = asked asks_types tested i g at asks in cc)

-- rules of a package are of the fourth hundred or an earlier one
pub package_rank : (list : ListTree) (files : List (List ℕ)) (b : Break) → Breach list files tested b
    → b.rank.family ≤ 4
package_rank list files b (of_file h) = let one = file_family list.lines files b h in omega (arith, one)
package_rank list files b (of_world h) = let two = world_family list files b h in omega (arith, two)
package_rank list files b (of_names h) = let two = names_family list files b h in omega (arith, two)
package_rank list files b (of_group (i, g, at, h)) = by g at h
  where
    by : (g : Group) → slice_get tested i ≡ Some g → BreaksGroup list files g b → b.rank.family ≤ 4
    by groups.Unsupported at (trees, spelt, among) = let three =
        (unsupported_insns_third (files_spelt list trees) (all_unsupported_insns (classes_of trees))).holds b among
        in omega (arith, three)
    by groups.Language at ((trees, world, among), third) =
        ((checks_language list.name (files_spelt list trees) (all_codes (classes_of trees)) (settings_of list)).holds b
        among).1
    by groups.Initialisers at (trees, world, of_class n c is h) = let three = ap (λ (x : Break). x.rank.family) h.is
        in omega (arith, three)
    by groups.Initialisers at (trees, world, of_code n code is h) = let three = ap (λ (x : Break). x.rank.family) h.is
        in omega (arith, three)
    by groups.Limits at (trees, world, among) =
        ((checks_language list.name (files_spelt list trees) (all_codes (classes_of trees)) (settings_of list)).holds b
        among).1
    by groups.Tokens at (trees, world, among) = let four =
        (tokens_fourth (has_applets list) (files_spelt list trees)).holds b among in omega (arith, four)
    by groups.Types at h = not_tested i groups.Types at refl
    by groups.Ranges at h = not_tested i groups.Ranges at refl

-- ---- the script

-- 105 stands behind components
pub script_rank : (name text : List ℕ) (b : Break) → BreaksScript name text b → (b.rank.family ≡ 1)
    × (b.rank.file ≡ 2 ^ 64 + 256)
script_rank name text b (r, e, is) = (ap (λ (x : Break). x.rank.family) is, ap (λ (x : Break). x.rank.file) is)

-- ---- what components say together

AreSeventh : List Sentence → Type 0
AreSeventh [] = Unit {0}
AreSeventh (s ∷ ss) = (s.number / 100 ≡ 7) × AreSeventh ss

complete_seventh : (o : Option Complete) (exports : List ExportTree) → AreSeventh (where_complete o exports)
unfolding AreSeventh
complete_seventh None exports = tt
complete_seventh (Some c) exports = (
  refl,
  (
    refl,
    (refl, (refl, (refl, (refl, (refl, (refl, (refl, (refl, (refl, (refl, (refl, (refl, (refl, (refl, tt)))))))))))))),
  ),
)

all_seventh : (cap : CapTree) (exports : List ExportTree) → AreSeventh (sentences cap exports)
unfolding AreSeventh
all_seventh cap exports = (refl, (refl, complete_seventh (complete cap) exports))

in_spots : (number : ℕ) (spots : List ComponentPlace) (b : Break) → number / 100 ≡ 7
    → Among b (map (break_at number) spots) → b.rank.family ≡ 7
in_spots number [] b e among = absurd (elim among [ ])
in_spots number (s ∷ spots) b e foremost = e
in_spots number (s ∷ spots) b e (after more) = in_spots number spots b e more

in_sentence : (needed : Bool) (number : ℕ) (spots : List ComponentPlace) (b : Break) → number / 100 ≡ 7
    → Among b (if needed then map (break_at number) spots else []) → b.rank.family ≡ 7
in_sentence true number spots b e among = in_spots number spots b e among
in_sentence false number spots b e among = absurd (elim among [ ])

in_sentences : (ss : List Sentence) (b : Break) → AreSeventh ss → Among b (flat_map breaks_of ss) → b.rank.family ≡ 7
unfolding AreSeventh
in_sentences [] b h among = absurd (elim among [ ])
in_sentences (s ∷ ss) b h among = elim (among_either b (breaks_of s) (flat_map breaks_of ss) among) [
  | inl here ↦ in_sentence s.needed s.number s.spots b h.0 here
  | inr later ↦ in_sentences ss b h.1 later
]

in_cap : (o : Option CapTree) (exports : List ExportTree) (b : Break) → Among b (sentence_breaks o exports)
    → b.rank.family ≡ 7
in_cap None exports b among = absurd (elim among [ ])
in_cap (Some cap) exports b among = in_sentences (sentences cap exports) b (all_seventh cap exports) among

-- 701 to 718 are of the seventh hundred
pub sentence_rank : (list : ListTree) (files : List (List ℕ)) (parts : Parts) (b : Break)
    → BreaksSentence list files parts b → b.rank.family ≡ 7
sentence_rank list files parts b (trees, spelt, unbroken, among) = in_cap _ _ b among
