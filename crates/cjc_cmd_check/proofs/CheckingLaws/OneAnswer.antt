-- Of the breaks of a folder those of one rank have one refusal, so the first is one.
use Rattle.std.proofs.Common.{◌≡◌, inl, inr, ℕ, ◌+◌, ◌<◌, ◌^◌, List, [], ◌∷◌, ◌++◌, refl, sym, ap, subst, ◌∙◌, arith}
use Rattle.std.proofs.Common.{Option, Some, None, Result, Ok, Err, Bool, true, false, map}
use Rattle.std.specs.Prelude.{flat_map, if◌then◌else◌}
use Rattle.cjc_bytes.specs.Breaks.{Break, Among, foremost, after, IsFirst, broken_at}
use Rattle.cjc_bytes.specs.Order.{FilePlace, Rank, numbers}
use Rattle.cjc_bytes.specs.declared.fault.Refusal.{Refusal}
use Rattle.cjc_bytes.proofs.Firsts.{among_either}
use Rattle.cjc_bytes.proofs.BrokenRules.{none_among}
use Rattle.cjc_bytes.proofs.Lists.{same_rank}
use Rattle.cjc_capread.specs.declared.tree.CapTree.{CapTree}
use Rattle.cjc_shelf.specs.declared.command.status.Todo.{Todo}
use Rattle.cjc_check.specs.LowerExportFile.declared.tree.ExportTree.{ExportTree}
use Rattle.cjc_cmd_check.specs.Folder.Breaks.{break_in, cap_in, component_breaks, component_place, export_breaks}
use Rattle.cjc_cmd_check.specs.Folder.Breaks.{export_trees, file_breaks, file_spot, part_breaks, unless_broken}
use Rattle.cjc_cmd_check.specs.Folder.Reads.{export_places, read_component}
use Rattle.cjc_cmd_check.specs.declared.folder.folder.Folder.{Folder}
use Rattle.cjc_cmd_check.proofs.FolderLaws.Ordered.{AreOrdered, exports_ordered}
use Rattle.cjc_check.specs.LowerCheckRules.Consistent.{Sentence, break_at, breaks, breaks_of, sentences}
use Rattle.cjc_check.specs.LowerCheckRules.declared.spot.ComponentPlace.{ComponentPlace}
use Rattle.cjc_cmd_check.specs.Check.{Checks, check_breaks, sentence_breaks}

-- ---- ranks

-- breaks of one rank have one refusal
abbrev pub HaveOneRefusal : List Break → Type 0
HaveOneRefusal bs = (a b : Break) → Among a bs → Among b bs → a.rank ≡ b.rank → a.refusal ≡ b.refusal

pub firsts_agree : (bs : List Break) → HaveOneRefusal bs → (a b : Break) → IsFirst a bs → IsFirst b bs
    → a.refusal ≡ b.refusal
firsts_agree bs h a b f g = h a b f.among g.among (same_rank a.rank b.rank (f.least b g.among) (g.least a f.among))

-- ---- export files

same_break : (bs : List Break) → AreOrdered bs → (a b : Break) → Among a bs → Among b bs → a.rank ≡ b.rank → a ≡ b
same_break (x ∷ bs) o a b foremost foremost e = refl
same_break (x ∷ bs) o a b foremost (after more) e = let h = o.1 b more in let f = ap (λ (r : Rank). r.file) e
    in absurd (omega (arith, h.1, f))
same_break (x ∷ bs) o a b (after more) foremost e = let h = o.1 a more in let f = ap (λ (r : Rank). r.file) e
    in absurd (omega (arith, h.1, f))
same_break (x ∷ bs) o a b (after more) (after others) e = same_break bs o.2 a b more others e
same_break [] o a b among other e = none_among a among

exports_one : (f : Folder) → HaveOneRefusal (export_breaks (export_places 0 f.list.lines) f.exports)
exports_one f a b h g e = ap (λ (x : Break). x.refusal) (same_break _ (exports_ordered f.list.lines f.exports) a b h g
    e)

-- ---- components

-- It is of a rule at a place of a component.
pub record OfComponent (b : Break) : Type 0 where
  pub tag : ℕ
  pub place : ℕ
  pub rule : ℕ
  pub is : b ≡ broken_at (file_spot (component_place tag) place) rule

pub of_components : (b c : Break) → OfComponent b → OfComponent c → b.rank ≡ c.rank → b.refusal ≡ c.refusal
of_components b c h g e =
    let ranks = sym (ap (λ (x : Break). x.rank) h.is) ∙ e ∙ ap (λ (x : Break). x.rank) g.is in
    let file = ap (λ (r : Rank). r.file) ranks in
    let tag : h.tag ≡ g.tag = omega (arith, file) in
    let place : h.place ≡ g.place = ap (λ (r : Rank). r.offset) ranks in
    let rule : h.rule ≡ g.rule = ap (λ (r : Rank). r.rule) ranks in
    ap (λ (x : Break). x.refusal) h.is
    ∙ (λ i. (broken_at (file_spot (component_place (tag i)) (place i)) (rule i)).refusal)
    ∙ sym (ap (λ (x : Break). x.refusal) g.is)

in_file : (tag : ℕ) {A : Type 0} (r : Result A ℕ) (b : Break) → Among b (break_in 106 (component_place tag) r)
    → OfComponent b
in_file tag (Ok tree) b among = none_among b among
in_file tag (Err k) b foremost = record { tag = tag; place = k; rule = 106; is = refl }
in_file tag (Err k) b (after more) = none_among b more

pub in_components : (tags : List ℕ) (files : List (List ℕ)) (b : Break) → Among b (component_breaks tags files)
    → OfComponent b
unfolding component_breaks
in_components [] [] b among = none_among b among
in_components [] (x ∷ files) b among = none_among b among
in_components (tag ∷ tags) [] b among = none_among b among
in_components (tag ∷ tags) (x ∷ files) b among =
    elim (among_either b (break_in 106 (component_place tag) (read_component tag x)) (component_breaks tags files)
    among) [
      | inl here ↦ in_file tag (read_component tag x) b here
      | inr later ↦ in_components tags files b later
    ]

-- ---- sentences

pub in_spots : (number : ℕ) (spots : List ComponentPlace) (b : Break) → Among b (map (break_at number) spots)
    → OfComponent b
in_spots number [] b among = none_among b among
in_spots number (s ∷ spots) b foremost = record { tag = s.component; place = s.offset; rule = number; is = refl }
in_spots number (s ∷ spots) b (after more) = in_spots number spots b more

in_sentence : (needed : Bool) (number : ℕ) (spots : List ComponentPlace) (b : Break)
    → Among b (if needed then map (break_at number) spots else []) → OfComponent b
in_sentence true number spots b among = in_spots number spots b among
in_sentence false number spots b among = none_among b among

in_sentences : (ss : List Sentence) (b : Break) → Among b (flat_map breaks_of ss) → OfComponent b
in_sentences [] b among = none_among b among
in_sentences (s ∷ ss) b among = elim (among_either b (breaks_of s) (flat_map breaks_of ss) among) [
  | inl here ↦ in_sentence s.needed s.number s.spots b here
  | inr later ↦ in_sentences ss b later
]

pub in_cap : (cap : Option CapTree) (exports : List ExportTree) (b : Break) → Among b (sentence_breaks cap exports)
    → OfComponent b
in_cap None exports b among = none_among b among
in_cap (Some cap) exports b among = in_sentences (sentences cap exports) b among

-- ---- the whole

pub unless_one : (xs ys : List Break) → HaveOneRefusal xs → HaveOneRefusal ys → HaveOneRefusal (unless_broken xs ys)
unless_one (x ∷ xs) ys f g = f
unless_one [] ys f g = g

all_one : (f : Folder) → HaveOneRefusal (check_breaks f)
all_one f =
    unless_one (file_breaks f) (sentence_breaks (cap_in f.parts) (export_trees f.exports))
    (unless_one (export_breaks (export_places 0 f.list.lines) f.exports) (part_breaks f.parts) (exports_one f)
    (λ a b among other e. of_components a b (in_components _ _ a among) (in_components _ _ b other) e))
    (λ a b among other e. of_components a b (in_cap _ _ a among) (in_cap _ _ b other) e)

pub one_refusal : (f : Folder) (r s : Refusal) → Checks f (Err r) → Checks f (Err s) → r ≡ s
one_refusal f r s h g = h.2 ∙ firsts_agree (check_breaks f) (all_one f) h.0 g.0 h.1 g.1 ∙ sym g.2

pub never_both : (f : Folder) (todo : Todo) (r : Refusal) → Checks f (Ok todo) → Checks f (Err r) → ⊥
never_both f todo r h g = none_among g.0 (subst (Among g.0) h.0 g.1.among)
