-- One method more of those that break rules.
use Rattle.std.proofs.Common.{◌≡◌, ◌⊎◌, ℕ, ◌+◌, ◌<◌, List, [], ◌∷◌, ◌++◌, length, get_or, map, take, sym, ap, subst}
use Rattle.std.proofs.Common.{◌∙◌, inl, inr, ⊎_elim, Option}
use Rattle.std.proofs.lemmas.List.{take_more}
use Rattle.std.specs.Prelude.{option_to_list}
use Rattle.cjc_bytes.proofs.Lists.{map_append}
use Rattle.cjc_bytes.specs.Breaks.{Break, IsFirstOf}
use Rattle.cjc_verify.proofs.Firsts.{either_first, same_first}
use Rattle.cjc_verify.specs.Bodies.{Body}
use Rattle.cjc_verify.specs.Pairs.{Pair}
use Rattle.cjc_verify.specs.Working.Bodies.{InBodies, InBody, body_of}
use Rattle.cjc_verify.specs.Working.Firsts.{IsFirstWhere}
use Rattle.cjc_verify.specs.declared.method_body.MethodBody.{MethodBody}

join : (p : Pair) (bs : List Body) (b : Body) (x : Break) → InBodies p bs x ⊎ InBody p b x
    → InBodies p (bs ++ b ∷ []) x
join p [] b x h = ⊎_elim (λ i. absurd i) (λ i. inl i) h
join p (c ∷ bs) b x h =
    ⊎_elim
    (λ i. ⊎_elim (λ j. inl j) (λ j. inr (join p bs b x (inl j))) i)
    (λ i. inr (join p bs b x (inr i)))
    h

apart : (p : Pair) (bs : List Body) (b : Body) (x : Break) → InBodies p (bs ++ b ∷ []) x
    → InBodies p bs x ⊎ InBody p b x
apart p [] b x h = ⊎_elim (λ i. inr i) (λ i. absurd i) h
apart p (c ∷ bs) b x h =
    ⊎_elim
    (λ i. inl (inl i))
    (λ i. ⊎_elim (λ j. inl (inr j)) (λ j. inr j) (apart p bs b x i))
    h

-- one more
pub next_body : (p : Pair) (bs : List MethodBody) (k : ℕ) (d : MethodBody) (so_far here o : Option Break)
    → k < length bs → IsFirstWhere (InBodies p (map body_of (take k bs))) so_far
    → IsFirstWhere (InBody p (body_of (get_or bs k d))) here
    → IsFirstOf (option_to_list so_far ++ option_to_list here) o
    → IsFirstWhere (InBodies p (map body_of (take (k + 1) bs))) o
next_body p bs k d so_far here o lt f g h =
    let before = map body_of (take k bs) in
    let one = body_of (get_or bs k d) in
    let more : map body_of (take (k + 1) bs) ≡ before ++ one ∷ [] = ap (map body_of) (take_more bs k d lt)
    ∙ map_append body_of (take k bs) (get_or bs k d ∷ []) in
    subst (λ (xs : List Body). IsFirstWhere (InBodies p xs) o) (sym more)
    (same_first (λ x. InBodies p before x ⊎ InBody p one x) (InBodies p (before ++ one ∷ [])) o (join p before one)
    (apart p before one) (either_first (InBodies p before) (InBody p one) so_far here o f g h))
