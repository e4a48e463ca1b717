-- The lines that a text is cut into are its lines, and the only ones.
use Rattle.std.proofs.Common.{◌≡◌, ◌≢◌, ℕ, zero, suc, ◌+◌, ◌-◌, ◌<◌, ◌≤◌, ◌==◌, ◌⊎◌, inl, inr, false, List, [], ◌∷◌}
use Rattle.std.proofs.Common.{◌++◌, length, take, drop, get_or, refl, sym, ap, ◌∙◌, subst, arith, length-append}
use Rattle.std.specs.Str.Lines.{strip_carriage_return, StripsCarriageReturn}
use Rattle.std.proofs.Math.Seq.{take-append_seam, get_or-append_seam}
use Rattle.std.proofs.lemmas.Bool.{ne_eqb, eq-eqb, cases_eq}
use Rattle.std.proofs.lemmas.List.{take-append-drop, drop_more, drop_all}
use Rattle.std.proofs.lemmas.List.Elements.{All-nil, All-cons}
use Rattle.std.proofs.lemmas.List.Splits.{slice_split_none, slice_split_at, length-slice_split}
use Rattle.cjc_bytes.specs.Text.{TextLine, parts_of_text, lines_from}
use Rattle.cjc_bytes.specs.TextGrammar.{Lacks, AreLines}
use Rattle.cjc_bytes.proofs.Texts.{lines_from-cons}

-- all bytes but the last, and the last
last_off : (l : List ℕ) → 0 < length l → l ≡ take (length l - 1) l ++ get_or l (length l - 1) 0 ∷ []
last_off l h =
    let past : drop (length l - 1 + 1) l ≡ [] = drop_all (length l - 1 + 1) l (omega arith) in
    sym (take-append-drop (length l - 1) l) ∙ ap (λ (rest : List ℕ). take (length l - 1) l
    ++ rest) (drop_more l (length l - 1) 0 (omega arith) ∙ ap (λ (rest : List ℕ). get_or l (length l - 1) 0 ∷ rest)
    past)

-- dropping a carriage return
strip_is : (l x : List ℕ) → StripsCarriageReturn l x → strip_carriage_return l ≡ x
strip_is l x h = elim h [
  | inl same ↦ kept_whole l same.1 ∙ sym same.0
  | inr ended ↦ rw ended (stripped x)
]
  where
    stripped : (x : List ℕ) → strip_carriage_return (x ++ 13 ∷ []) ≡ x
    stripped x =
        let at : length (x ++ 13 ∷ []) - 1 ≡ length x = omega (arith, length-append x (13 ∷ [])) in
        rw (at, get_or-append_seam x 13 [] 0) (take-append_seam x (13 ∷ []))

    kept_whole : (l : List ℕ) → (0 < length l → get_or l (length l - 1) 0 ≢ 13) → strip_carriage_return l ≡ l
    kept_whole [] h = refl
    kept_whole (b ∷ bs) h = rw (ne_eqb (get_or (b ∷ bs) (length (b ∷ bs) - 1) 0) 13 (h (omega arith))) refl

is_strip : (l : List ℕ) → StripsCarriageReturn l (strip_carriage_return l)
is_strip [] = inl (refl, λ h. absurd (omega arith))
is_strip (b ∷ bs) = elim (cases_eq (get_or (b ∷ bs) (length (b ∷ bs) - 1) 0) 13) [
  | inl last ↦
      let whole : b ∷ bs ≡ take (length (b ∷ bs) - 1) (b ∷ bs) ++ get_or (b ∷ bs) (length (b ∷ bs) - 1) 0 ∷ [] =
      last_off (b ∷ bs) (omega arith) in
      inr (rw (eq-eqb (get_or (b ∷ bs) (length (b ∷ bs) - 1) 0) 13 last) (subst (λ (c : ℕ). b ∷ bs
      ≡ take (length (b ∷ bs) - 1) (b ∷ bs) ++ c ∷ []) last whole))
  | inr other ↦ inl (rw (ne_eqb (get_or (b ∷ bs) (length (b ∷ bs) - 1) 0) 13 other) refl, λ h. other)
]

line_is : (at : ℕ) (bytes : List ℕ) (l : TextLine) → l.at ≡ at → l.text ≡ bytes → record { at = at; text = bytes } ≡ l
line_is at bytes l e f = ap (λ (a : ℕ). record { at = a; text = bytes }) (sym e)
    ∙ ap (λ (t : List ℕ). record { at = l.at; text = t }) (sym f)

some_parts : (bytes : List ℕ) → 0 < length (parts_of_text bytes)
some_parts bytes = omega (arith, length-slice_split (λ b. b == 10) bytes)

-- a line feed cuts off a line
cut_line : (at : ℕ) (ended rest : List ℕ) → Lacks 10 ended
    → lines_from at (parts_of_text (ended ++ 10 ∷ rest)) ≡ record { at = at; text = strip_carriage_return ended }
    ∷ lines_from (at + length ended + 1) (parts_of_text rest)
cut_line at ended rest lacks = ap (lines_from at) (slice_split_at (λ b. b == 10) ended 10 rest lacks refl)
    ∙ lines_from-cons at ended (parts_of_text rest) (some_parts rest)

-- the lines of a text are what it is cut into
pub lines_are_cut : (at : ℕ) (ls : List TextLine) (bytes : List ℕ) → AreLines at ls bytes
    → lines_from at (parts_of_text bytes) ≡ ls
unfolding AreLines lines_from
lines_are_cut at [] bytes h = absurd h
lines_are_cut at (l ∷ []) bytes h =
    ap (lines_from at) (slice_split_none (λ b. b == 10) bytes h.2)
    ∙ ap (λ (r : TextLine). r ∷ []) (line_is at bytes l h.0 h.1)
lines_are_cut at (l ∷ next ∷ ls) bytes h =
    let whole : lines_from at (parts_of_text bytes) ≡ lines_from at (parts_of_text (h.0 ++ 10 ∷ h.1)) =
    ap (λ (bs : List ℕ). lines_from at (parts_of_text bs)) h.2 in
    let first : record { at = at; text = strip_carriage_return h.0 } ≡ l = line_is at (strip_carriage_return h.0) l h.4
    (sym (strip_is h.0 l.text h.5)) in
    let more : lines_from (at + length h.0 + 1) (parts_of_text h.1) ≡ next ∷ ls = lines_are_cut (at + length h.0 + 1)
    (next ∷ ls) h.1 h.6 in
    whole ∙ cut_line at h.0 h.1 h.3 ∙ ap (λ (r : TextLine). r ∷ lines_from (at + length h.0 + 1) (parts_of_text h.1))
    first ∙ ap (λ (rs : List TextLine). l ∷ rs) more

some_lines : (at : ℕ) (parts : List (List ℕ)) → 0 < length parts → 0 < length (lines_from at parts)
unfolding lines_from
some_lines at [] h = absurd (omega arith)
some_lines at (p ∷ []) h = omega arith
some_lines at (p ∷ q ∷ ps) h = omega arith

-- a line before others
one_before : (at : ℕ) (ended rest : List ℕ) (ls : List TextLine) → 0 < length ls → Lacks 10 ended
    → AreLines (at + length ended + 1) ls rest
    → AreLines at (record { at = at; text = strip_carriage_return ended } ∷ ls) (ended ++ 10 ∷ rest)
unfolding AreLines
one_before at ended rest [] h lacks more = absurd (omega arith)
one_before at ended rest (l ∷ ls) h lacks more = (ended, rest, refl, lacks, refl, is_strip ended, more)

-- bytes with no line feed, or those before the first, and those behind it
lacking : (bytes : List ℕ) → Lacks 10 bytes ⊎ ((ended rest : List ℕ) × (bytes ≡ ended ++ 10 ∷ rest) × Lacks 10 ended)
lacking [] = inl (All-nil (λ b. (b == 10) ≡ false))
lacking (b ∷ bs) = elim (cases_eq b 10) [
  | inl is ↦ inr ([], bs, ap (λ (c : ℕ). c ∷ bs) is, All-nil (λ b. (b == 10) ≡ false))
  | inr other ↦ elim (lacking bs) [
    | inl none ↦ inl (All-cons (λ b. (b == 10) ≡ false) b bs (ne_eqb b 10 other) none)
    | inr some ↦ inr (
      b ∷ some.0,
      some.1,
      ap (λ (cs : List ℕ). b ∷ cs) some.2,
      All-cons (λ b. (b == 10) ≡ false) b
          some.0 (ne_eqb b 10 other) some.3,
    )
  ]
]

last_line : (at : ℕ) (bytes : List ℕ) → Lacks 10 bytes → AreLines at (lines_from at (parts_of_text bytes)) bytes
unfolding AreLines lines_from
last_line at bytes lacks =
    let P : List (List ℕ) → Type 0 = λ ps. AreLines at (lines_from at ps) bytes in
    subst P (sym (slice_split_none (λ b. b == 10) bytes lacks)) (refl, refl, lacks)

cut_within_size : (size at : ℕ) (bytes : List ℕ) → length bytes ≤ size
    → AreLines at (lines_from at (parts_of_text bytes)) bytes
cut_within_size zero at bytes h = elim (lacking bytes) [
  | inl none ↦ last_line at bytes none
  | inr some ↦ let long = ap length some.2 in absurd (omega (arith, long, length-append some.0 (10 ∷ some.1)))
]
cut_within_size (suc size) at bytes h = elim (lacking bytes) [
  | inl none ↦ last_line at bytes none
  | inr some ↦
      let long = ap length some.2 in
      let less : length some.1 ≤ size = omega (arith, long, length-append some.0 (10 ∷ some.1)) in
      let rest = cut_within_size size (at + length some.0 + 1) some.1 less in
      let some_more = some_lines (at + length some.0 + 1) (parts_of_text some.1) (some_parts some.1) in
      let here = one_before at some.0 some.1 (lines_from (at + length some.0 + 1) (parts_of_text some.1)) some_more
      some.3 rest in
      let P : List TextLine → Type 0 = λ ls. AreLines at ls (some.0 ++ 10 ∷ some.1) in
      let Q : List ℕ → Type 0 = λ bs. AreLines at (lines_from at (parts_of_text bs)) bs in
      subst Q (sym some.2) (subst P (sym (cut_line at some.0 some.1 some.3)) here)
]

-- what a text is cut into are its lines
pub cut_are_lines : (at : ℕ) (bytes : List ℕ) → AreLines at (lines_from at (parts_of_text bytes)) bytes
cut_are_lines at bytes = cut_within_size (length bytes) at bytes (omega arith)
