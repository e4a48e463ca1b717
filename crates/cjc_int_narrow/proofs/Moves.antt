-- What is written for parameters, one after the other.
use Rattle.std.proofs.Common.{◌≡◌, ℕ, zero, suc, ◌+◌, ◌-◌, ◌*◌, ◌<◌, ◌≤◌, arith, refl, sym, ap, ◌∙◌, Bool, true, false}
use Rattle.std.proofs.Common.{List, [], ◌∷◌, ◌++◌, length, map, get_or, drop, append_assoc, append-nil}
use Rattle.std.specs.Prelude.{if◌then◌else◌, ◌||◌, Option, Some, None}
use Rattle.std.specs.List.{list_any}
use Rattle.std.proofs.lemmas.List.{drop_all}
use Rattle.cjc_int_mode.specs.Bytes.AccessFlags.{is_static}
use Rattle.cjc_int_mode.specs.Bytes.Descriptor.{Part}
use Rattle.cjc_ncode.proofs.BytesGets.{from_index}
use Rattle.cjc_int_mode.specs.Script.Sorts.{Sort, Reference, Shape, OfClass, OfNumbers, OfReferences, Booleans, Bytes}
use Rattle.cjc_int_mode.specs.Script.Sorts.{Shorts, Ints, reference_to, signature_of, sort_of}
use Rattle.cjc_int_mode.specs.CardSemantics.Bytecode.Arguments.{width, widths}
use Rattle.cjc_ncode.specs.declared.narrow.NInsn.{NInsn}
use Rattle.cjc_ncode.specs.IntCode.IntCode.{Frame, first_word, handed_over, is_by_scratch, is_reference, is_short}
use Rattle.cjc_ncode.specs.IntCode.IntCode.{loads, moved, moved_from, nargs, narrowed, prologue, put_aside, scratch}
use Rattle.cjc_ncode.specs.IntCode.IntCode.{stores, taken_back}
use Rattle.cjc_ncode.specs.Written.{type_test}
use Rattle.cjc_narrow.specs.Written.Working.Tests.{test_by}
use Rattle.cjc_narrow.specs.declared.written.type_tests.Test.{Test}
use Rattle.cjc_int_mode.specs.Written.{params_by}
use Rattle.cjc_int_narrow.specs.declared.kinds.Kept.{Kept}
use Rattle.cjc_int_narrow.specs.Working.Frames.{frame_of}
use Rattle.cjc_int_narrow.specs.Working.Moves.{aside_all, back_all, handed, kept_as, moved_all, moved_by, narrowed_if}
use Rattle.cjc_int_narrow.specs.Working.Moves.{receiver_kept}

-- ---- arguments

pub moved_next : (out after : List NInsn) (word to : ℕ) (k : Kept) (all rest : List Part) (p : Part)
    (total : List NInsn) → all ≡ p ∷ rest → k ≡ kept_as (sort_of p) → after ≡ out ++ moved_by k word to
    → out ++ moved_all word to (map sort_of all) ≡ total
    → after ++ moved_all (word + k.words) (to + 2) (map sort_of rest) ≡ total
moved_next out after word to k all rest p total is is_kept is_after so_far =
    ap (λ a. a ++ moved_all (word + k.words) (to + 2) (map sort_of rest)) is_after
    ∙ append_assoc out (moved_by k word to) (moved_all (word + k.words) (to + 2) (map sort_of rest))
    ∙ ap (λ (j : Kept). out ++ (moved_by j word to ++ moved_all (word + j.words) (to + 2) (map sort_of rest))) is_kept
    ∙ ap (λ (ps : List Part). out ++ moved_all word to (map sort_of ps)) (sym is)
    ∙ so_far

pub moved_end : (out : List NInsn) (word to : ℕ) (all : List Part) (total : List NInsn) → all ≡ []
    → out ++ moved_all word to (map sort_of all) ≡ total → out ≡ total
moved_end out word to all total is so_far =
    sym (append-nil out) ∙ ap (λ (ps : List Part). out ++ moved_all word to (map sort_of ps)) (sym is) ∙ so_far

moves : (f : Frame) (word l : ℕ) (sorts : List Sort) → moved_from f word l sorts ≡ moved_all word (first_word f l) sorts
moves f word l [] = refl
moves f word l (s ∷ sorts) =
    let behind : word + widths (s ∷ []) ≡ word + width s = omega arith in
    let next : first_word f (l + 1) ≡ first_word f l + 2 = omega arith in
    ap (λ more. moved f s word l ++ more) (moves f (word + widths (s ∷ [])) (l + 1) sorts
    ∙ ap (λ (w : ℕ). moved_all w (first_word f (l + 1)) sorts) behind
    ∙ ap (λ (w : ℕ). moved_all (word + width s) w sorts) next)

-- the prologue moves all arguments, from the first word on, to the words behind them
pub prologue_moves : (f : Frame) (words : ℕ) → words ≡ nargs f → prologue f ≡ moved_all 0 words f.params
prologue_moves f words is =
    let first : first_word f 0 ≡ words = omega (arith, is) in
    moves f 0 0 f.params ∙ ap (λ (w : ℕ). moved_all 0 w f.params) first

-- a static method has no receiver
pub prologue_static : (class : List ℕ) (flags : ℕ) (desc : List ℕ) (max_locals : ℕ) (f : Frame) (words : ℕ)
    (static : Bool) → f ≡ frame_of class flags desc max_locals → words ≡ nargs (frame_of class flags desc max_locals)
    → static ≡ is_static flags → static ≡ true → prologue f ≡ moved_all 0 words (params_by (signature_of desc))
unfolding frame_of
prologue_static class flags desc max_locals f words static is is_words is_flag on =
    ap prologue is ∙ prologue_moves (frame_of class flags desc max_locals) words is_words
    ∙ ap (λ (b : Bool). moved_all 0 words ((if b then [] else Reference (OfClass class) ∷ [])
    ++ params_by (signature_of desc))) (sym is_flag ∙ on)

-- the receiver of any other is moved first
pub prologue_own : (class : List ℕ) (flags : ℕ) (desc : List ℕ) (max_locals : ℕ) (f : Frame) (words : ℕ)
    (static : Bool) → f ≡ frame_of class flags desc max_locals → words ≡ nargs (frame_of class flags desc max_locals)
    → static ≡ is_static flags → static ≡ false
    → prologue f ≡ moved_by receiver_kept 0 words ++ moved_all 1 (words + 2) (params_by (signature_of desc))
unfolding frame_of
prologue_own class flags desc max_locals f words static is is_words is_flag off =
    ap prologue is ∙ prologue_moves (frame_of class flags desc max_locals) words is_words
    ∙ ap (λ (b : Bool). moved_all 0 words ((if b then [] else Reference (OfClass class) ∷ [])
    ++ params_by (signature_of desc))) (sym is_flag ∙ off)

-- ---- parameters of one word

pub short_next : (all rest : List Part) (p : Part) (total : Bool) → all ≡ p ∷ rest → is_short (sort_of p) ≡ false
    → list_any is_short (map sort_of all) ≡ total → list_any is_short (map sort_of rest) ≡ total
short_next all rest p total is long so_far =
    ap (λ b. b || list_any is_short (map sort_of rest)) (sym long)
    ∙ ap (λ (ps : List Part). list_any is_short (map sort_of ps)) (sym is) ∙ so_far

pub short_found : (all rest : List Part) (p : Part) (total : Bool) → all ≡ p ∷ rest → is_short (sort_of p) ≡ true
    → list_any is_short (map sort_of all) ≡ total → true ≡ total
short_found all rest p total is short so_far =
    ap (λ b. b || list_any is_short (map sort_of rest)) (sym short)
    ∙ ap (λ (ps : List Part). list_any is_short (map sort_of ps)) (sym is) ∙ so_far

-- ---- parameters that go aside

pub param_at : (ps : List Part) (r : Part) (i : ℕ) (d : Sort) → i < length ps → get_or (map sort_of ps) i d
    ≡ sort_of (get_or (ps ++ r ∷ []) i r)
param_at [] r i d lt = absurd (omega (arith, lt))
param_at (p ∷ ps) r zero d lt = refl
param_at (p ∷ ps) r (suc i) d lt = param_at ps r i d (omega (arith, lt))

pub aside_next : (out before after : List NInsn) (s : NInsn) (first done place : ℕ) (sorts : List Sort) (d : Sort)
    → done < length sorts → place ≡ length sorts - 1 - done
    → stores (is_reference (get_or sorts place d)) (first + 2 * place) ≡ s ∷ []
    → before ≡ out ++ aside_all (first + 2 * (length sorts - done)) (drop (length sorts - done) sorts)
    → after ≡ before ++ s ∷ []
    → after ≡ out ++ aside_all (first + 2 * (length sorts - (done + 1))) (drop (length sorts - (done + 1)) sorts)
aside_next out before after s first done place sorts d lt is stored is_before is_after =
    let here : length sorts - (done + 1) ≡ place = omega arith in
    let next : length sorts - done ≡ place + 1 = omega arith in
    let within : place < length sorts = omega arith in
    let word : first + 2 * (place + 1) ≡ first + 2 * place + 2 = omega arith in
    let behind = aside_all (first + 2 * place + 2) (drop (place + 1) sorts) in
    is_after
    ∙ ap (λ b. b ++ s ∷ []) (is_before
    ∙ ap (λ (n : ℕ). out ++ aside_all (first + 2 * n) (drop n sorts)) next
    ∙ ap (λ (w : ℕ). out ++ aside_all w (drop (place + 1) sorts)) word)
    ∙ append_assoc out behind (s ∷ [])
    ∙ ap (λ more. out ++ (behind ++ more)) (sym stored)
    ∙ ap (λ (rest : List Sort). out ++ aside_all (first + 2 * place) rest) (sym (from_index sorts place d within))
    ∙ ap (λ (n : ℕ). out ++ aside_all (first + 2 * n) (drop n sorts)) (sym here)

pub aside_first : (out : List NInsn) (first : ℕ) (sorts : List Sort) → out ≡ out ++ aside_all (first + 2 *
    (length sorts - 0)) (drop (length sorts - 0) sorts)
aside_first out first sorts =
    let le : length sorts ≤ length sorts - 0 = omega arith in
    sym (append-nil out) ∙ ap (λ (rest : List Sort). out ++ aside_all (first + 2 * (length sorts - 0)) rest)
    (sym (drop_all (length sorts - 0) sorts le))

pub aside_end : (out after : List NInsn) (first done : ℕ) (sorts : List Sort) → length sorts ≤ done
    → after ≡ out ++ aside_all (first + 2 * (length sorts - done)) (drop (length sorts - done) sorts)
    → after ≡ out ++ aside_all first sorts
aside_end out after first done sorts le so_far =
    let none : length sorts - done ≡ 0 = omega arith in
    let start : first + 2 * 0 ≡ first = omega arith in
    so_far ∙ ap (λ (n : ℕ). out ++ aside_all (first + 2 * n) (drop n sorts)) none
    ∙ ap (λ (w : ℕ). out ++ aside_all w sorts) start

-- ---- and come back

pub back_next : (out one two : List NInsn) (l : NInsn) (word : ℕ) (k : Kept) (all rest : List Part) (p : Part)
    (total : List NInsn) → all ≡ p ∷ rest → k ≡ kept_as (sort_of p) → loads k.is_reference word ≡ l ∷ []
    → one ≡ out ++ l ∷ [] → two ≡ one ++ narrowed_if k.is_short → out ++ back_all word (map sort_of all) ≡ total
    → two ++ back_all (word + 2) (map sort_of rest) ≡ total
back_next out one two l word k all rest p total is is_kept loaded is_one is_two so_far =
    let more = back_all (word + 2) (map sort_of rest) in
    ap (λ a. a ++ more) (is_two ∙ ap (λ a. a ++ narrowed_if k.is_short) (is_one ∙ ap (λ a. out ++ a) (sym loaded)))
    ∙ append_assoc (out ++ loads k.is_reference word) (narrowed_if k.is_short) more
    ∙ append_assoc out (loads k.is_reference word) (narrowed_if k.is_short ++ more)
    ∙ ap (λ rest. out ++ rest) (sym (append_assoc (loads k.is_reference word) (narrowed_if k.is_short) more))
    ∙ ap (λ (j : Kept). out ++ (loads j.is_reference word ++ narrowed_if j.is_short ++ more)) is_kept
    ∙ ap (λ (ps : List Part). out ++ back_all word (map sort_of ps)) (sym is)
    ∙ so_far

pub back_end : (out : List NInsn) (word : ℕ) (all : List Part) (total : List NInsn) → all ≡ []
    → out ++ back_all word (map sort_of all) ≡ total → out ≡ total
back_end out word all total is so_far =
    sym (append-nil out) ∙ ap (λ (ps : List Part). out ++ back_all word (map sort_of ps)) (sym is) ∙ so_far

-- ---- by pair numbers

pair_next : (f : Frame) (j : ℕ) → scratch f (j + 1) ≡ scratch f j + 2
pair_next f j = omega arith

asides : (f : Frame) (j : ℕ) (sorts : List Sort) → put_aside f j sorts ≡ aside_all (scratch f j) sorts
asides f j [] = refl
asides f j (s ∷ sorts) = ap (λ more. more ++ stores (is_reference s) (scratch f j)) (asides f (j + 1) sorts
    ∙ ap (λ (w : ℕ). aside_all w sorts) (pair_next f j))

backs : (f : Frame) (j : ℕ) (sorts : List Sort) → taken_back f j sorts ≡ back_all (scratch f j) sorts
backs f j [] = refl
backs f j (s ∷ sorts) = ap (λ more. loads (is_reference s) (scratch f j) ++ narrowed s ++ more) (backs f (j + 1) sorts
    ∙ ap (λ (w : ℕ). back_all w sorts) (pair_next f j))

pub handed_is : (f : Frame) (params : List Sort) → handed_over f params ≡ handed (scratch f 0) params
handed_is f params =
    ap (λ more. if is_by_scratch params then put_aside f 0 params ++ more else narrowed_if (list_any is_short params))
    (backs f 0 params)
    ∙ ap (λ front. if is_by_scratch params then front ++ back_all (scratch f 0) params
    else narrowed_if (list_any is_short params)) (asides f 0 params)

-- ---- classes and arrays

-- a type test is written exactly where values can have the type
pub named_shape : (t : Test) (shape : Option (Shape (List ℕ))) → ((op : ℕ) → test_by op (Some t) ≡ type_test op shape)
    → true ≡ is_reference (reference_to shape)
named_shape t None e = absurd (let f = e 0 in cc)
named_shape t (Some shape) e = refl

pub named_none : (shape : Option (Shape (List ℕ))) → ((op : ℕ) → test_by op None ≡ type_test op shape)
    → false ≡ is_reference (reference_to shape)
named_none None e = refl
named_none (Some (OfClass class)) e = absurd (let f = e 0 in cc)
named_none (Some (OfReferences class)) e = absurd (let f = e 0 in cc)
named_none (Some (OfNumbers Booleans)) e = absurd (let f = e 0 in cc)
named_none (Some (OfNumbers Bytes)) e = absurd (let f = e 0 in cc)
named_none (Some (OfNumbers Shorts)) e = absurd (let f = e 0 in cc)
named_none (Some (OfNumbers Ints)) e = absurd (let f = e 0 in cc)
