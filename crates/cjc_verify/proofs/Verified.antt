-- A rule is broken where it is one of those that are listed, or is broken by a method.
use Rattle.std.proofs.Common.{◌≡◌, ◌⊎◌, ℕ, zero, suc, ◌+◌, List, [], ◌∷◌, ◌++◌, map, refl, sym, ap, subst, inl, inr}
use Rattle.std.proofs.Common.{⊎_elim, Option, Some, None, slice_get}
use Rattle.std.specs.Prelude.{flat_map, option_to_list}
use Rattle.cjc_bytes.proofs.BrokenRules.{among_left, among_right, no_among}
use Rattle.cjc_bytes.proofs.Firsts.{among_either}
use Rattle.cjc_bytes.proofs.Lists.{map_append}
use Rattle.cjc_bytes.specs.Breaks.{Among, Break, IsFirstRefusal}
use Rattle.cjc_bytes.specs.declared.fault.Fault.{Fault}
use Rattle.cjc_check_rules.specs.Consistent.{break_at}
use Rattle.cjc_verify.proofs.Firsts.{first_kept}
use Rattle.cjc_verify.specs.Bodies.{Body, bodies}
use Rattle.cjc_verify.specs.Described.{all_array_spots, described_spots}
use Rattle.cjc_verify.specs.Headers.{header_spots}
use Rattle.cjc_verify.specs.Infos.{all_abstract_spots, all_info_spots, all_table_spots}
use Rattle.cjc_verify.specs.Pairs.{Pair}
use Rattle.cjc_verify.specs.Verified.{Breaks, IsRefused, listed, class_breaks, header_breaks, listed_breaks}
use Rattle.cjc_verify.specs.Verified as verified
use Rattle.cjc_verify.specs.Working.Bodies.{InBodies, InBody, InCode, in_code}
use Rattle.cjc_verify.specs.Working.Firsts.{IsFirstWhere}

-- ---- methods

in_headers : (p : Pair) (bs : List Body) (x : Break) → Among x (map (break_at 727) (flat_map (header_spots p) bs))
    → InBodies p bs x
in_headers p [] x i = absurd (no_among x i)
in_headers p (b ∷ bs) x i =
    let apart = map_append (break_at 727) (header_spots p b) (flat_map (header_spots p) bs) in
    ⊎_elim
    (λ h. inl (inl h))
    (λ h. inr (in_headers p bs x h))
    (among_either x (map (break_at 727) (header_spots p b)) (map (break_at 727) (flat_map (header_spots p) bs))
    (subst (Among x) apart i))

at_place : (p : Pair) (bs : List Body) (k : ℕ) (b : Body) (x : Break) → slice_get bs k ≡ Some b → InCode p b x
    → InBodies p bs x
at_place p [] k b x is h = absurd cc
at_place p (c ∷ bs) zero b x is h = let same : b ≡ c = cc in inl (inr (subst (λ (d : Body). InCode p d x) same h))
at_place p (c ∷ bs) (suc k) b x is h = inr (at_place p bs k b x is h)

-- a method breaks a rule by its header, or by its code
abbrev pub Split : Pair → List Body → Break → Type 0
Split p bs x = Among x (map (break_at 727) (flat_map (header_spots p) bs))
    ⊎ ((k : ℕ) × (b : Body) × (slice_get bs k ≡ Some b) × InCode p b x)

split : (p : Pair) (bs : List Body) (x : Break) → InBodies p bs x → Split p bs x
split p [] x h = absurd h
split p (b ∷ bs) x h =
    let apart = map_append (break_at 727) (header_spots p b) (flat_map (header_spots p) bs) in
    let own = map (break_at 727) (header_spots p b) in
    let more = map (break_at 727) (flat_map (header_spots p) bs) in
    let back : Among x (own ++ more) → Among x (map (break_at 727) (flat_map (header_spots p) (b ∷ bs)))
    = subst (Among x) (sym apart) in
    ⊎_elim
    (λ g. ⊎_elim (λ i. inl (back (among_left x own more i))) (λ i. inr (0, b, refl, i)) g)
    (λ g. ⊎_elim (λ i. inl (back (among_right x own more i))) (λ i. inr (suc i.0, i.1, i.2, i.3)) (split p bs x g))
    h

code_breaks : (p : Pair) (k : ℕ) (b : Body) (x : Break) → slice_get (bodies p.components) k ≡ Some b → InCode p b x
    → Breaks p x
code_breaks p k b x is (in_code rows place rule least breach) = verified.in_code k b rows place rule is least breach

-- ---- all of them

-- those that are listed, but for headers
abbrev pub others : Pair → List Break
others p =
    map (break_at 725) (all_table_spots p)
    ++ (map (break_at 727) (all_abstract_spots p)
    ++ (map (break_at 729) (all_info_spots p)
    ++ (map (break_at 728) (all_array_spots p)
    ++ (map (break_at 721) (described_spots p) ++ []))))

module _ (x : Break) (a b c h d e : List Break) where
  gather : Among x (a ++ (b ++ (c ++ (d ++ (e ++ []))))) → Among x (a ++ b ++ c ++ h ++ d ++ e)
  gather i =
      let front : Among x (a ++ b ++ c) → Among x (a ++ b ++ c ++ h ++ d ++ e) = λ j. among_left x
      (a ++ b ++ c ++ h ++ d) e (among_left x (a ++ b ++ c ++ h) d (among_left x (a ++ b ++ c) h j)) in
      ⊎_elim
      (λ j. front (among_left x (a ++ b) c (among_left x a b j)))
      (λ j. ⊎_elim
      (λ j. front (among_left x (a ++ b) c (among_right x a b j)))
      (λ j. ⊎_elim
      (λ j. front (among_right x (a ++ b) c j))
      (λ j. ⊎_elim
      (λ j. among_left x (a ++ b ++ c ++ h ++ d) e (among_right x (a ++ b ++ c ++ h) d j))
      (λ j. ⊎_elim
      (λ j. among_right x (a ++ b ++ c ++ h ++ d) e j)
      (λ j. absurd (no_among x j))
      (among_either x e [] j))
      (among_either x d (e ++ []) j))
      (among_either x c (d ++ (e ++ [])) j))
      (among_either x b (c ++ (d ++ (e ++ []))) j))
      (among_either x a (b ++ (c ++ (d ++ (e ++ [])))) i)

  gather_header : Among x h → Among x (a ++ b ++ c ++ h ++ d ++ e)
  gather_header i = among_left x (a ++ b ++ c ++ h ++ d) e (among_left x (a ++ b ++ c ++ h) d (among_right x
      (a ++ b ++ c) h i))

  part : Among x (a ++ b ++ c ++ h ++ d ++ e) → Among x (a ++ (b ++ (c ++ (d ++ (e ++ []))))) ⊎ Among x h
  part i =
      let rest = b ++ (c ++ (d ++ (e ++ []))) in
      let from_b : Among x rest → Among x (a ++ rest) = among_right x a rest in
      let from_c : Among x (c ++ (d ++ (e ++ []))) → Among x (a ++ rest) = λ j. from_b (among_right x b
      (c ++ (d ++ (e ++ []))) j) in
      let from_d : Among x (d ++ (e ++ [])) → Among x (a ++ rest) = λ j. from_c (among_right x c (d ++ (e ++ [])) j) in
      ⊎_elim
      (λ j. ⊎_elim
      (λ j. ⊎_elim
      (λ j. ⊎_elim
      (λ j. ⊎_elim
      (λ j. inl (among_left x a rest j))
      (λ j. inl (from_b (among_left x b (c ++ (d ++ (e ++ []))) j)))
      (among_either x a b j))
      (λ j. inl (from_c (among_left x c (d ++ (e ++ [])) j)))
      (among_either x (a ++ b) c j))
      (λ j. inr j)
      (among_either x (a ++ b ++ c) h j))
      (λ j. inl (from_d (among_left x d (e ++ []) j)))
      (among_either x (a ++ b ++ c ++ h) d j))
      (λ j. inl (from_d (among_right x d (e ++ []) (among_left x e [] j))))
      (among_either x (a ++ b ++ c ++ h ++ d) e i)

pub to_breaks : (p : Pair) (x : Break) → Among x (others p) ⊎ InBodies p (bodies p.components) x → Breaks p x
to_breaks p x h =
    let a = map (break_at 725) (all_table_spots p) in
    let b = map (break_at 727) (all_abstract_spots p) in
    let c = map (break_at 729) (all_info_spots p) in
    let d = map (break_at 728) (all_array_spots p) in
    let e = map (break_at 721) (described_spots p) in
    ⊎_elim
    (λ i. listed x (gather x a b c (header_breaks p) d e i))
    (λ i. ⊎_elim
    (λ j. listed x (gather_header x a b c (header_breaks p) d e j))
    (λ j. code_breaks p j.0 j.1 x j.2 j.3)
    (split p (bodies p.components) x i))
    h

pub from_breaks : (p : Pair) (x : Break) → Breaks p x → Among x (others p) ⊎ InBodies p (bodies p.components) x
from_breaks p x (listed y i) =
    let a = map (break_at 725) (all_table_spots p) in
    let b = map (break_at 727) (all_abstract_spots p) in
    let c = map (break_at 729) (all_info_spots p) in
    let d = map (break_at 728) (all_array_spots p) in
    let e = map (break_at 721) (described_spots p) in
    ⊎_elim (λ j. inl j) (λ j. inr (in_headers p (bodies p.components) y j)) (part y a b c (header_breaks p) d e i)
from_breaks p x (verified.in_code k b rows place rule is least breach) =
    inr (at_place p (bodies p.components) k b _ is (in_code rows place rule least breach))

-- ---- the answer

-- what is answered of the first broken rule is its refusal
pub is_refused : (p : Pair) (o : Option Break) (e : Fault) → IsFirstWhere (Breaks p) o
    → IsFirstRefusal (option_to_list o) e → IsRefused p e
is_refused p o e f h =
    ⊎_elim
    (λ none. inl none)
    (λ one. let first = first_kept (Breaks p) o one.0 f one.1 in
    inr (one.0, record { breaks = first.broken; first = first.first }, one.2))
    h
