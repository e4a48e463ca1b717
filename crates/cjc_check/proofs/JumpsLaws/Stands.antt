-- What handlers stand on.
use Rattle.std.proofs.Common.{◌≡◌, ℕ, suc, ◌+◌, ◌<◌, ◌≤◌, ◌^◌, ◌==◌, false, List, [], ◌∷◌, length, get_or, drop, map}
use Rattle.std.proofs.Common.{refl, sym, ap, ◌∙◌, arith, Option, Some, None}
use Rattle.std.specs.Prelude.{◌||◌, nat_le}
use Rattle.std.specs.List.{list_any}
use Rattle.std.proofs.lemmas.Bool.Decides.{nat_tests}
use Rattle.std.proofs.lemmas.List.{drop_all}
use Rattle.cjc_capread.specs.declared.tree.Handler.{Handler}
use Rattle.cjc_check.specs.declared.codes.code.At.{At}
use Rattle.cjc_check.specs.Codes.Bodies.{AllAt, placed_of}
use Rattle.cjc_check_rules.specs.declared.spot.ComponentPlace.{ComponentPlace}
use Rattle.cjc_check_rules.specs.Spots.{earlier, first, in_info, unless}
use Rattle.cjc_check_rules.specs.Codes.{Code}
use Rattle.cjc_check_rules.specs.Handlers.{in_code, targets_from}
use Rattle.cjc_check_rules.proofs.Firsts.{earlier_none, earlier_assoc, first_append, first_nothing}
use Rattle.cjc_capread.proofs.BytesGets.{at_item}

pub starts_any : (insns : List At) (n : ℕ) → list_any (λ m. m == n) (map (λ a. a.at) insns) ≡ list_any (λ p. p.at == n)
    (map placed_of insns)
starts_any [] n = refl
starts_any (a ∷ insns) n = ap (λ b. (a.at == n) || b) (starts_any insns n)

pub far_away : (insns : List At) (n : ℕ) → AllAt insns → 2 ^ 32 ≤ n → list_any (λ p. p.at == n) (map placed_of insns)
    ≡ false
far_away [] n all le = refl
far_away (a ∷ insns) n all le =
    let room = (all 0 a (omega arith)).room in
    let differs : (a.at == n) ≡ false = grind (arith, nat_tests) in
    ap (λ b. b || list_any (λ p. p.at == n) (map placed_of insns)) differs
    ∙ far_away insns n (λ k d lt. all (suc k) d (omega (arith, lt))) le

pub far_end : (insns : List At) (n end : ℕ) → AllAt insns → 2 ^ 32 ≤ n → 3 + end < 2 ^ 32
    → false ≡ (list_any (λ p. p.at == n) (map placed_of insns) || (n == end))
far_end insns n end all le small =
    let differs : (n == end) ≡ false = grind (arith, nat_tests) in
    sym (ap (λ b. b || (n == end)) (far_away insns n all le) ∙ differs)

pub targets_more : (before at i : ℕ) (h : Handler) (hs : List Handler) (best found total : Option ComponentPlace)
    → i < length hs → h ≡ get_or hs i h
    → found ≡ first (unless (nat_le before h.handler) (in_info 7 (at + 4)))
    → earlier best (first (targets_from before at (drop i hs))) ≡ total
    → earlier (earlier best found) (first (targets_from h.handler (at + 8) (drop (i + 1) hs))) ≡ total
unfolding targets_from
targets_more before at i h hs best found total lt is f so_far =
    let rest = targets_from h.handler (at + 8) (drop (i + 1) hs) in
    let one = unless (nat_le before h.handler) (in_info 7 (at + 4)) in
    ap (λ o. earlier (earlier best o) (first rest)) f ∙ earlier_assoc best (first one) (first rest)
    ∙ ap (earlier best) (sym (first_append one rest))
    ∙ ap (λ (ys : List Handler). earlier best (first (targets_from before at ys))) (sym (at_item i h hs lt is)) ∙ so_far

pub targets_all : (before at i : ℕ) (hs : List Handler) (best total : Option ComponentPlace) → length hs ≤ i
    → earlier best (first (targets_from before at (drop i hs))) ≡ total → best ≡ total
unfolding targets_from
targets_all before at i hs best total le so_far =
    sym (earlier_none best) ∙ ap (earlier best) (sym first_nothing)
    ∙ ap (λ (ys : List Handler). earlier best (first (targets_from before at ys))) (sym (drop_all i hs le)) ∙ so_far

pub none_stands : (at : ℕ) (h : Handler) (o : Option Code) → None ≡ o → Some (in_info 7 at) ≡ first (in_code at h o)
unfolding first
none_stands at h o e = ap (λ (p : Option Code). first (in_code at h p)) e
