-- A local's number that is increased.
use Rattle.std.proofs.Common.{◌≡◌, ℕ, ◌+◌, refl, sym, ap, ◌∙◌, List, [], ◌∷◌, ℤ, pos, ◌+ℤ◌}
use Rattle.std.specs.Prelude.{Option, Some, None, slice_get, slice_set}
use Rattle.cjc_card_semantics.specs.Script.declared.value.Value.{Value}
use Rattle.cjc_card_semantics.specs.Script.declared.value.Value.TheVariants.{Num, Null, Obj}
use Rattle.cjc_card_semantics.specs.Range.Words.{wide, low_word}
use Rattle.cjc_card_semantics.proofs.RangeWords.{low_word-wide}
use Rattle.cjc_card_semantics.specs.Bytecode.Numbers.{high_word, spelt_by}
use Rattle.cjc_card_semantics.specs.Bytecode.Calculations.{Result, Fine, Wrong, number_in, increased, int_increased}
use Rattle.cjc_card_semantics.specs.Bytecode.Effects.{with_some}
use Rattle.cjc_card_frame.specs.Frame.Frames.{number_of, pair_of, set_in}

numbered_local : (o : Option (Option Value)) (go : ℤ → Result) → number_in o go ≡ with_some Wrong (number_of (set_in o))
    go
numbered_local None go = refl
numbered_local (Some None) go = refl
numbered_local (Some (Some (Num x))) go = refl
numbered_local (Some (Some Null)) go = refl
numbered_local (Some (Some (Obj k))) go = refl

local_is : (o : Option (Option Value)) (go : ℤ → Result) (x : ℤ) → Some x ≡ number_of (set_in o) → number_in o go ≡ go x
local_is o go x e = numbered_local o go ∙ ap (λ n. with_some Wrong n go) (sym e)

pub word_increases : (l : ℕ) (by : ℤ) (room : ℕ) (locals : List (Option Value)) (stack : List Value) (x d q : ℤ)
    → Some x ≡ number_of (set_in (slice_get locals l)) → d ≡ wide (x +ℤ by) → q ≡ low_word d
    → increased (pos l ∷ by ∷ []) room locals stack ≡ Fine stack (slice_set locals l (Some (Num q)))
word_increases l by room locals stack x d q e w c =
    local_is (slice_get locals l) (λ x. Fine stack (slice_set locals l (Some (Num (low_word (x +ℤ by)))))) x e
    ∙ ap (λ z. Fine stack (slice_set locals l (Some (Num z)))) (sym (c ∙ ap (λ z. low_word z) w
    ∙ low_word-wide (x +ℤ by)))

lower_is : (o u : Option ℤ) (x y : ℤ) → ◌≡◌ {A = Option (ℤ × ℤ)} (Some (x, y)) (pair_of o u) → (Some x ≡ o)
    × (Some y ≡ u)
lower_is (Some a) (Some b) x y e = inner x y a b e
  where
    of_pair : Option (ℤ × ℤ) → ℤ × ℤ
    of_pair None = (pos 0, pos 0)
    of_pair (Some p) = p

    inner : (x y a b : ℤ) → ◌≡◌ {A = Option (ℤ × ℤ)} (Some (x, y)) (Some (a, b)) → (Some x ≡ Some a) × (Some y ≡ Some b)
    inner x y a b e = (
      ap (λ (o : Option (ℤ × ℤ)). Some ((of_pair o).0)) e,
      ap (λ (o : Option (ℤ × ℤ)). Some ((of_pair o).1)) e,
    )
lower_is (Some a) None x y e = absurd cc
lower_is None u x y e = absurd cc

pub int_increases : (l : ℕ) (by : ℤ) (room : ℕ) (locals : List (Option Value)) (stack : List Value) (high low z a b : ℤ)
    → ◌≡◌ {A = Option (ℤ × ℤ)} (Some (high, low)) (pair_of (number_of (set_in (slice_get locals l)))
    (number_of (set_in (slice_get locals (l + 1))))) → z ≡ spelt_by high low → a ≡ high_word (z +ℤ by)
    → b ≡ low_word (z +ℤ by) → int_increased (pos l ∷ by ∷ []) room locals stack
    ≡ Fine stack (slice_set (slice_set locals l (Some (Num a))) (l + 1) (Some (Num b)))
int_increases l by room locals stack high low z a b e w f g =
    let p = lower_is (number_of (set_in (slice_get locals l))) (number_of (set_in (slice_get locals (l + 1)))) high low
    e in
    let set : ℤ → ℤ → List (Option Value) = λ x y. slice_set (slice_set locals l (Some (Num x))) (l + 1) (Some (Num y))
    in
    let last : ℤ → ℤ → Result = λ x y. Fine stack (set (high_word (spelt_by x y +ℤ by)) (low_word (spelt_by x y +ℤ by)))
    in
    local_is (slice_get locals l) (λ x. number_in (slice_get locals (l + 1)) (λ y. last x y)) high p.0
    ∙ local_is (slice_get locals (l + 1)) (λ y. last high y) low p.1
    ∙ ap (λ n. Fine stack (set (high_word (n +ℤ by)) (low_word (n +ℤ by)))) (sym w)
    ∙ ap (λ n. Fine stack (set n (low_word (z +ℤ by)))) (sym f)
    ∙ ap (λ n. Fine stack (set a n)) (sym g)
