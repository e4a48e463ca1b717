-- The words that a line is parted into are its words, and the only ones.
use Rattle.std.proofs.lemmas.List.Elements.{All-nil, All-cons}
use Rattle.std.proofs.Common.{◌≡◌, ℕ, zero, suc, ◌-◌, ◌<◌, ◌==◌, false, eqb, List, [], ◌∷◌, ◌++◌, length, get_or}
use Rattle.std.proofs.Common.{filter, replicate, Some, refl, sym, ap, ◌∙◌, subst, arith, length-append, ◌+◌, ◌≤◌, ◌⊎◌}
use Rattle.std.proofs.Common.{inl, inr, Bool, true, cond, None, append_assoc}
use Rattle.std.proofs.lemmas.Bool.{or_from, ne_eqb, eq-eqb, cases_eq, or_parts}
use Rattle.std.proofs.lemmas.List.{get_or_append_left, get_or-append_right, append-nil, length-replicate}
use Rattle.std.proofs.lemmas.List.{get_or-replicate}
use Rattle.std.proofs.lemmas.List.Splits.{slice_split_none, slice_split_at}
use Rattle.cjc_bytes.specs.Text.{is_spaced, is_filled, filled_parts, words}
use Rattle.cjc_bytes.specs.TextGrammar.{Lacks, IsWord, AreWords}

-- ---- what stands between spaces

only_word : (w : List ℕ) → IsWord w → filled_parts w ≡ w ∷ []
unfolding filled_parts
only_word [] h = absurd (omega (arith, h.0))
only_word (b ∷ bs) h = ap (filter is_filled) (slice_split_none (λ b. b == 32) (b ∷ bs) h.1)

first_word : (w rest : List ℕ) → IsWord w → filled_parts (w ++ 32 ∷ rest) ≡ w ∷ filled_parts rest
unfolding filled_parts
first_word [] rest h = absurd (omega (arith, h.0))
first_word (b ∷ bs) rest h = ap (filter is_filled) (slice_split_at (λ b. b == 32) (b ∷ bs) 32 rest h.1 refl)

past_space : (rest : List ℕ) → filled_parts (32 ∷ rest) ≡ filled_parts rest
unfolding filled_parts
past_space rest = refl

past_spaces : (n : ℕ) (rest : List ℕ) → filled_parts (replicate n 32 ++ rest) ≡ filled_parts rest
past_spaces zero rest = refl
past_spaces (suc n) rest = past_space (replicate n 32 ++ rest) ∙ past_spaces n rest

-- ---- the ends of a line

lacks_at : (w : List ℕ) (i : ℕ) → Lacks 32 w → i < length w → eqb (get_or w i 0) 32 ≡ false
lacks_at w i h lt = h i 0 lt

unspaced : (line : List ℕ) → (0 < length line) → eqb (get_or line 0 0) 32 ≡ false
    → eqb (get_or line (length line - 1) 0) 32 ≡ false → is_spaced line ≡ false
unspaced line long first last = or_from _ _ first last

first_of : (w rest : List ℕ) → IsWord w → eqb (get_or (w ++ rest) 0 0) 32 ≡ false
first_of w rest h = rw (get_or_append_left w rest 0 0 h.0) (lacks_at w 0 h.1 h.0)

last_of : (front rest : List ℕ) → 0 < length rest → eqb (get_or rest (length rest - 1) 0) 32 ≡ false
    → eqb (get_or (front ++ rest) (length (front ++ rest) - 1) 0) 32 ≡ false
last_of front rest long last =
    let at : length (front ++ rest) - 1 - length front ≡ length rest - 1 = omega (arith, length-append front rest) in
    rw (
      get_or-append_right front rest (length front) (length (front ++ rest) - 1) 0 refl (omega (
        arith,
        length-append front rest,
      )),
      at,
    ) last

record Ends (line : List ℕ) : Type 0 where
  long : 0 < length line
  first : eqb (get_or line 0 0) 32 ≡ false
  last : eqb (get_or line (length line - 1) 0) 32 ≡ false

ends : (w : List ℕ) (ws : List (List ℕ)) (line : List ℕ) → AreWords (w ∷ ws) line → Ends line
unfolding AreWords
ends w [] line h =
    let W : List ℕ → Type 0 = Ends in
    subst W (sym h.0) (record {
      long = h.1.0;
      first = lacks_at w 0 h.1.1 h.1.0;
      last = lacks_at w (length w - 1) h.1.1 (omega (arith, h.1.0));
    })
ends w (next ∷ ws) line h =
    let W : List ℕ → Type 0 = Ends in
    let more = ends next ws h.1 h.5 in
    let long = more.long in
    subst W (sym h.2) (record {
      long = omega (arith, length-append w (h.0 ++ h.1), length-append h.0 h.1);
      first = first_of w (h.0 ++ h.1) h.3;
      last = last_of w (h.0 ++ h.1) (omega (arith, length-append h.0 h.1)) (last_of h.0 h.1 more.long more.last);
    })

-- ---- words, and the line that they are

no_parts : filled_parts [] ≡ []
unfolding filled_parts
no_parts = refl

parts_are : (ws : List (List ℕ)) (line : List ℕ) → AreWords ws line → filled_parts line ≡ ws
unfolding AreWords
parts_are [] line h = ap filled_parts h ∙ no_parts
parts_are (w ∷ []) line h = ap filled_parts h.0 ∙ only_word w h.1
parts_are (w ∷ next ∷ ws) line h =
    let gap : w ++ (h.0 ++ h.1) ≡ w ++ 32 ∷ (replicate h.4.0 32 ++ h.1) = ap (λ (g : List ℕ). w ++ (g ++ h.1)) h.4.1 in
    ap filled_parts (h.2 ∙ gap) ∙ first_word w (replicate h.4.0 32 ++ h.1) h.3
    ∙ ap (λ (ps : List (List ℕ)). w ∷ ps) (past_spaces h.4.0 h.1 ∙ parts_are (next ∷ ws) h.1 h.5)

pub words_are : (ws : List (List ℕ)) (line : List ℕ) → AreWords ws line → words line ≡ Some ws
unfolding AreWords
words_are [] line h = ap words h ∙ ap Some no_parts
words_are (w ∷ ws) line h =
    let e = ends w ws line h in
    rw (unspaced line e.long e.first e.last) (ap Some (parts_are (w ∷ ws) line h))

-- ---- and the other way round

-- spaces, and what is behind them
record Trimmed (bytes : List ℕ) : Type 0 where
  count : ℕ
  rest : List ℕ
  parts : bytes ≡ replicate count 32 ++ rest
  begins : (rest ≡ []) ⊎ ((0 < length rest) × (eqb (get_or rest 0 0) 32 ≡ false))

trimmed : (bytes : List ℕ) → Trimmed bytes
trimmed [] = record { count = 0; rest = []; parts = refl; begins = inl refl }
trimmed (b ∷ bs) = elim (cases_eq b 32) [
  | inl is ↦
      let more = trimmed bs in
      record {
        count = suc more.count;
        rest = more.rest;
        parts = ap (λ (c : ℕ). c ∷ bs) is
            ∙ ap (λ (cs : List ℕ). 32 ∷ cs) more.parts;
        begins = more.begins;
      }
  | inr other ↦ record { count = 0; rest = b ∷ bs; parts = refl; begins = inr (omega arith, ne_eqb b 32 other) }
]

-- bytes with no space, or those before the first, and those behind it
to_space : (bytes : List ℕ) → Lacks 32 bytes ⊎ ((w rest : List ℕ) × (bytes ≡ w ++ 32 ∷ rest) × Lacks 32 w)
to_space [] = inl (All-nil (λ b. (b == 32) ≡ false))
to_space (b ∷ bs) = elim (cases_eq b 32) [
  | inl is ↦ inr ([], bs, ap (λ (c : ℕ). c ∷ bs) is, All-nil (λ b. (b == 32) ≡ false))
  | inr other ↦ elim (to_space bs) [
    | inl none ↦ inl (All-cons (λ b. (b == 32) ≡ false) b bs (ne_eqb b 32 other) none)
    | inr some ↦ inr (
      b ∷ some.0,
      some.1,
      ap (λ (cs : List ℕ). b ∷ cs) some.2,
      All-cons (λ b. (b == 32) ≡ false) b
          some.0 (ne_eqb b 32 other) some.3,
    )
  ]
]

is_space : (c : ℕ) → c ≡ 32 → eqb c 32 ≡ false → ⊥
is_space c is other = let yes = eq-eqb c 32 is in cc

-- the word before a space is one
filled_word : (w rest : List ℕ) → Lacks 32 w → Ends (w ++ 32 ∷ rest) → IsWord w
filled_word [] rest lacks e = absurd (is_space 32 refl e.first)
filled_word (b ∷ bs) rest lacks e = (omega arith, lacks)

last_space_of : (w spaces : List ℕ) (n : ℕ) → length spaces ≡ suc n → get_or spaces n 0 ≡ 32
    → eqb (get_or (w ++ spaces) (length (w ++ spaces) - 1) 0) 32 ≡ true
last_space_of w spaces n long last =
    let all : length (w ++ spaces) ≡ length w + suc n = omega (arith, length-append w spaces, long) in
    let at : length (w ++ spaces) - 1 - length w ≡ n = omega (arith, all) in
    eq-eqb (get_or (w ++ spaces) (length (w ++ spaces) - 1) 0) 32
    (get_or-append_right w spaces (length w) (length (w ++ spaces) - 1) 0 refl (omega (arith, all))
    ∙ ap (λ (i : ℕ). get_or spaces i 0) at ∙ last)

-- a line that ends with spaces
last_space : (w : List ℕ) (n : ℕ) → eqb (get_or (w ++ replicate (suc n) 32) (length (w ++ replicate (suc n) 32) - 1) 0)
    32 ≡ true
last_space w n = last_space_of w (replicate (suc n) 32) n (length-replicate (suc n) 32) (get_or-replicate (suc n) n 32 0
    (omega arith))

-- the last byte of what is behind something
last_same : (front rest : List ℕ) → 0 < length rest → get_or (front ++ rest) (length (front ++ rest) - 1) 0
    ≡ get_or rest (length rest - 1) 0
last_same front rest long =
    let at : length (front ++ rest) - 1 - length front ≡ length rest - 1 = omega (arith, length-append front rest) in
    get_or-append_right front rest (length front) (length (front ++ rest) - 1) 0 refl (omega (
      arith,
      length-append front rest,
    )) ∙ ap (λ (i : ℕ). get_or rest i 0) at

-- a word, a gap, and words behind it
word_before : (w rest : List ℕ) (n : ℕ) (ws : List (List ℕ)) → IsWord w → 0 < length rest → AreWords ws rest
    → AreWords (w ∷ ws) (w ++ 32 ∷ (replicate n 32 ++ rest))
unfolding AreWords
word_before w rest n [] h long more = let none = ap length more in absurd (omega (arith, none))
word_before w rest n (next ∷ ws) h long more = (32 ∷ replicate n 32, rest, refl, h, (n, refl), more)

alone : (line : List ℕ) → IsWord line → AreWords (filled_parts line) line
unfolding AreWords
alone line h =
    let P : List (List ℕ) → Type 0 = λ ws. AreWords ws line in
    subst P (sym (only_word line h)) (refl, h)

-- what is behind the gap
behind : (w rest r : List ℕ) (n : ℕ) → Ends (w ++ 32 ∷ rest) → rest ≡ replicate n 32 ++ r → (r ≡ [])
    ⊎ ((0 < length r) × (eqb (get_or r 0 0) 32 ≡ false)) → Ends r
behind w rest r n e parts h = elim h [
  | inl none ↦
      let line : w ++ 32 ∷ rest ≡ w ++ replicate (suc n) 32 = ap (λ (s : List ℕ). w ++ 32 ∷ s) (parts
      ∙ ap (λ (s : List ℕ). replicate n 32 ++ s) none ∙ append-nil (replicate n 32)) in
      let P : List ℕ → Type 0 = λ l. eqb (get_or l (length l - 1) 0) 32 ≡ false in
      let no : eqb (get_or (w ++ replicate (suc n) 32) (length (w ++ replicate (suc n) 32) - 1) 0) 32 ≡ false =
      subst P line e.last in
      let yes = last_space w n in
      absurd cc
  | inr some ↦
      let line : w ++ 32 ∷ rest ≡ (w ++ replicate (suc n) 32) ++ r = ap (λ (s : List ℕ). w ++ 32 ∷ s) parts
      ∙ sym (append_assoc w (replicate (suc n) 32) r) in
      let P : List ℕ → Type 0 = λ l. eqb (get_or l (length l - 1) 0) 32 ≡ false in
      let Q : ℕ → Type 0 = λ c. eqb c 32 ≡ false in
      record {
        long = some.0;
        first = some.1;
        last = subst Q (last_same (w ++ replicate (suc n) 32) r some.0)
            (subst P line e.last);
      }
]

parted_size : (size : ℕ) (line : List ℕ) → length line ≤ size → Ends line → AreWords (filled_parts line) line
parted_size zero line h e = let long = e.long in absurd (omega arith)
parted_size (suc size) line h e = elim (to_space line) [
  | inl none ↦ alone line (e.long, none)
  | inr some ↦
      let E : List ℕ → Type 0 = Ends in
      let ends_here : Ends (some.0 ++ 32 ∷ some.1) = subst E some.2 e in
      let word : IsWord some.0 = filled_word some.0 some.1 some.3 ends_here in
      let t = trimmed some.1 in
      let ends_there : Ends t.rest = behind some.0 some.1 t.rest t.count ends_here t.parts t.begins in
      let whole : line ≡ some.0 ++ 32 ∷ (replicate t.count 32 ++ t.rest) = some.2 ∙ ap (λ (s : List ℕ). some.0
      ++ 32 ∷ s) t.parts in
      let long = ap length whole in
      let less : length t.rest ≤ size = omega (
        arith,
        long,
        length-append some.0 (32 ∷ (replicate t.count 32
            ++ t.rest)),
        length-append (replicate t.count 32) t.rest,
      ) in
      let more = parted_size size t.rest less ends_there in
      let here = word_before some.0 t.rest t.count (filled_parts t.rest) word ends_there.long more in
      let parts : filled_parts (some.0 ++ 32 ∷ (replicate t.count 32 ++ t.rest)) ≡ some.0 ∷ filled_parts t.rest =
      first_word some.0 (replicate t.count 32 ++ t.rest) word ∙ ap (λ (ps : List (List ℕ)). some.0
      ∷ ps) (past_spaces t.count t.rest) in
      let P : List (List ℕ) → Type 0 = λ ws. AreWords ws (some.0 ++ 32 ∷ (replicate t.count 32 ++ t.rest)) in
      let Q : List ℕ → Type 0 = λ l. AreWords (filled_parts l) l in
      subst Q (sym whole) (subst P (sym parts) here)
]

no_words : AreWords (filled_parts []) []
unfolding AreWords
no_words = let P : List (List ℕ) → Type 0 = λ ws. AreWords ws [] in subst P (sym no_parts) refl

parted : (line : List ℕ) → is_spaced line ≡ false → AreWords (filled_parts line) line
parted [] h = no_words
parted (b ∷ bs) h =
    let parts = or_parts _ _ h in
    parted_size (length (b ∷ bs)) (b ∷ bs) (omega arith) (record {
      long = omega arith;
      first = parts.0;
      last = parts.1;
    })

found_words : (spaced : Bool) (line : List ℕ) (ws : List (List ℕ)) → is_spaced line ≡ spaced
    → cond spaced None (Some (filled_parts line)) ≡ Some ws → AreWords ws line
found_words true line ws e h = absurd cc
found_words false line ws e h =
    let is : filled_parts line ≡ ws = cc in
    let P : List (List ℕ) → Type 0 = λ ws. AreWords ws line in
    subst P is (parted line e)

pub words_parted : (ws : List (List ℕ)) (line : List ℕ) → words line ≡ Some ws → AreWords ws line
words_parted ws line h = found_words (is_spaced line) line ws refl h
