-- One step of a loop over a list.
use Rattle.std.proofs.Common.{◌≡◌, ℕ, ◌+◌, ◌<◌, ◌≤◌, ◌^◌, List, [], ◌∷◌, ◌++◌, length, get_or, drop, Option, Some, None}
use Rattle.std.proofs.Common.{Result, Ok, Err, refl, sym, ap, ◌∙◌, arith, add-one, drop-cons, append_assoc}
use Rattle.std.proofs.Common.{length-append}
use Rattle.std.specs.List.{flat_map}
use Rattle.std.specs.Prelude.{option_and_then, option_map}
use Rattle.std.proofs.lemmas.List.{drop_all, append-nil}
use Rattle.std.proofs.lemmas.List.Elements.{All-get_or}
use Rattle.cjc_list.specs.Bytes.Found.{◌>>=◌}
use Rattle.cjc_list.specs.Bytes.Text.{TextLine}
use Rattle.cjc_script.specs.declared.value.Value.{Value}
use Rattle.cjc_script.specs.declared.report.Thing.{Thing}
use Rattle.cjc_script_text.specs.declared.partial_script.PartialScript.{PartialScript}
use Rattle.cjc_script_text.specs.declared.item.Item.{Item}
use Rattle.cjc_script_text.specs.declared.item.Item.TheVariants as items
use Rattle.cjc_script_text.specs.Grammar.{said}
use Rattle.cjc_script_text.specs.Words.{value_of, values_of}
use Rattle.cjc_script_text.specs.Scripted.{turns, with_item, with_line, with_lines}
use Rattle.cjc_script_text.specs.Printed.{thing_line, thing_lines}
use Rattle.cjc_script_text.specs.Working.{AreShortLines}

-- what was put before one item, and what it gives
pub flat_map_next : {X A : Type 0} (f : X → List A) (out : List A) (xs : List X) (i : ℕ) (d : X) (total : List A)
    → i < length xs
    → out ++ flat_map f (drop i xs) ≡ total → (out ++ f (get_or xs i d)) ++ flat_map f (drop (i + 1) xs) ≡ total
flat_map_next f out xs i d total lt so_far =
    let step : out ++ flat_map f (drop i xs) ≡ (out ++ f (get_or xs i d)) ++ flat_map f (drop (i + 1) xs) =
    rw (add-one, drop-cons xs i d lt, append_assoc) refl in
    sym step ∙ so_far

pub flat_map_ends : {X A : Type 0} (f : X → List A) (out : List A) (xs : List X) (i : ℕ) (total : List A)
    → length xs ≤ i → out ++ flat_map f (drop i xs) ≡ total → out ≡ total
flat_map_ends f out xs i total le so_far = sym (rw (drop_all i xs le, append-nil out) refl) ∙ so_far

-- the same of arrays and objects, which are numbered
pub things_next : (out : List ℕ) (heap : List Thing) (i : ℕ) (d : Thing) (total : List ℕ) → i < length heap
    → out ++ thing_lines i (drop i heap) ≡ total → (out ++ thing_line i (get_or heap i d))
    ++ thing_lines (i + 1) (drop (i + 1) heap) ≡ total
unfolding thing_lines
things_next out heap i d total lt so_far =
    let rest : List Thing → List ℕ = λ more. out ++ (thing_line i (get_or heap i d) ++ thing_lines (i + 1) more) in
    let step : out ++ thing_lines i (drop i heap) ≡ rest (drop (i + 1) heap) =
    rw (drop-cons heap i d lt) (ap (λ (n : ℕ). rest (drop n heap)) (sym (add-one i))) in
    append_assoc out (thing_line i (get_or heap i d)) (thing_lines (i + 1) (drop (i + 1) heap)) ∙ (sym step ∙ so_far)

pub things_end : (out : List ℕ) (heap : List Thing) (i : ℕ) (total : List ℕ) → length heap ≤ i
    → out ++ thing_lines i (drop i heap) ≡ total → out ≡ total
unfolding thing_lines
things_end out heap i total le so_far = sym (rw (drop_all i heap le, append-nil out) refl) ∙ so_far

-- pieces that were put one after the other
pub seams : (a b c : List ℕ) → (a ++ b) ++ c ≡ a ++ (b ++ c)
seams a b c = append_assoc a b c

-- values of words behind those that were read
unfoldable pub values_from : List Value → List (List ℕ) → Option (List Value)
values_from values [] = Some values
values_from values (w ∷ ws) = option_and_then (λ v. values_from (values ++ v ∷ []) ws) (value_of w)

behind : (o : Option Value) (f : Value → Option (List Value)) (g : Value → Option (List Value)) (values : List Value)
    → ((v : Value) → f v ≡ option_map (λ vs. values ++ vs) (g v))
    → option_and_then f o ≡ option_map (λ vs. values ++ vs) (option_and_then g o)
behind (Some v) f g values e = e v
behind None f g values e = refl

moved : (o : Option (List Value)) (values : List Value) (v : Value) → option_map (λ vs. (values ++ v ∷ []) ++ vs) o
    ≡ option_map (λ vs. values ++ vs) (option_map (λ vs. v ∷ vs) o)
moved (Some vs) values v = ap Some (append_assoc values (v ∷ []) vs)
moved None values v = refl

values_from-is : (values : List Value) (ws : List (List ℕ)) → values_from values ws ≡ option_map (λ vs. values
    ++ vs) (values_of ws)
unfolding values_from values_of
values_from-is values [] = ap Some (sym (append-nil values))
values_from-is values (w ∷ ws) =
    behind (value_of w) (λ v. values_from (values ++ v ∷ []) ws) (λ v. option_map (λ vs. v ∷ vs) (values_of ws)) values
    (λ v. values_from-is (values ++ v ∷ []) ws ∙ moved (values_of ws) values v)

same_values : (o : Option (List Value)) → option_map (λ vs. let all : List Value = [] ++ vs in all) o ≡ o
same_values (Some vs) = refl
same_values None = refl

pub values_begin : (ws : List (List ℕ)) → values_from [] ws ≡ values_of ws
values_begin ws = values_from-is [] ws ∙ same_values (values_of ws)

pub values_next : (values : List Value) (ws : List (List ℕ)) (i : ℕ) (d : List ℕ) (v : Value)
    (total : Option (List Value)) → i < length ws → value_of (get_or ws i d) ≡ Some v
    → values_from values (drop i ws) ≡ total → values_from (values ++ v ∷ []) (drop (i + 1) ws) ≡ total
unfolding values_from
values_next values ws i d v total lt one so_far =
    let step : values_from values (drop i ws) ≡ values_from (values ++ v ∷ []) (drop (i + 1) ws) =
    rw (add-one, drop-cons ws i d lt, one) refl in
    sym step ∙ so_far

pub values_break : (values : List Value) (ws : List (List ℕ)) (i : ℕ) (d : List ℕ) (total : Option (List Value))
    → i < length ws → value_of (get_or ws i d) ≡ None
    → values_from values (drop i ws) ≡ total → total ≡ None
unfolding values_from
values_break values ws i d total lt one so_far =
    let step : values_from values (drop i ws) ≡ None = rw (drop-cons ws i d lt, one) refl in
    sym so_far ∙ step

pub values_end : (values : List Value) (ws : List (List ℕ)) (i : ℕ) (total : Option (List Value)) → length ws ≤ i
    → values_from values (drop i ws) ≡ total → total ≡ Some values
unfolding values_from
values_end values ws i total le so_far = sym so_far ∙ rw (drop_all i ws le) refl

-- lines of a script
pub lines_next : (d more : PartialScript) (lines : List TextLine) (i : ℕ) (l : TextLine) (total : Result PartialScript
    ℕ) → i < length lines → with_line d (get_or lines i l) ≡ Ok more
    → with_lines d (drop i lines) ≡ total → with_lines more (drop (i + 1) lines) ≡ total
unfolding with_lines
lines_next d more lines i l total lt one so_far =
    let step : with_lines d (drop i lines) ≡ with_lines more (drop (i + 1) lines) = rw (
      add-one,
      drop-cons lines i l lt,
      one,
    ) refl in
    sym step ∙ so_far

pub lines_break : (d : PartialScript) (lines : List TextLine) (i : ℕ) (l : TextLine) (k : ℕ)
    (total : Result PartialScript ℕ) → i < length lines → with_line d (get_or lines i l) ≡ Err k
    → with_lines d (drop i lines) ≡ total → total ≡ Err k
unfolding with_lines
lines_break d lines i l k total lt one so_far =
    let step : with_lines d (drop i lines) ≡ Err k = rw (drop-cons lines i l lt, one) refl in
    sym so_far ∙ step

pub lines_end : (d : PartialScript) (lines : List TextLine) (i : ℕ) (total : Result PartialScript ℕ) → length lines ≤ i
    → with_lines d (drop i lines) ≡ total → total ≡ Ok d
unfolding with_lines
lines_end d lines i total le so_far = sym so_far ∙ rw (drop_all i lines le) refl

pub line_is_short : (lines : List TextLine) (i : ℕ) (l : TextLine) → i < length lines → AreShortLines lines
    → length (get_or lines i l).text < 2 ^ 32
line_is_short lines i l lt h = All-get_or (λ l. length l.text < 2 ^ 32) lines i l lt h

-- a line adds one entry or answer at most
turns_with : (at : ℕ) (i : Item) (d : PartialScript) → turns (with_item at i d) ≤ turns d + 1
turns_with at (items.Act a) d = omega arith
turns_with at (items.Call v m args) d = omega (
  arith,
  length-append d.script.entries (record {
    number = turns d;
    acts = d.acts;
    virtual_call = v;
    method = m;
    args = args;
  } ∷ []),
)
turns_with at (items.Reply r) d = omega (
  arith,
  length-append d.script.answers (record {
    number = turns d;
    acts = d.acts;
    reply = r;
  } ∷ []),
)

turns_read : (d more : PartialScript) (at : ℕ) (r : Result Item ℕ) → (r >>= λ i. Ok (with_item at i d)) ≡ Ok more
    → turns more ≤ turns d + 1
turns_read d more at (Ok i) e =
    let is : with_item at i d ≡ more = cc in
    rw (← is) (turns_with at i d)
turns_read d more at (Err k) e = absurd cc

pub one_turn : (d more : PartialScript) (l : TextLine) (i : ℕ) → with_line d l ≡ Ok more → turns d ≤ i
    → turns more ≤ i + 1
one_turn d more l i e le = let more_by : turns more ≤ turns d + 1 = turns_read d more l.at (said l) e in omega arith
