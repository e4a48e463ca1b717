-- What a text spells or breaks, as a relation and as a function.
use Rattle.std.proofs.Common.{◌≡◌, ℕ, ◌⊎◌, inl, inr, Bool, false, List, [], ◌∷◌, ◌++◌, Result, Ok, Err, refl, sym, ap}
use Rattle.std.proofs.Common.{◌∙◌, subst, arith, ◌+◌, ◌≤◌, true, cond, ltb, ◌||◌, zero, suc}
use Rattle.cjc_bytes.specs.Found.{◌>>=◌}
use Rattle.cjc_bytes.specs.Text.{TextLine}
use Rattle.cjc_bytes.specs.declared.settings.FileLine.{FileLine}
use Rattle.cjc_bytes.specs.declared.settings.AppletLine.{AppletLine}
use Rattle.cjc_bytes.proofs.Options.{onward_ok, onward_err, not_both, ok_or_err}
use Rattle.cjc_list.specs.declared.listing.List.{List as Listing}
use Rattle.cjc_list.specs.Grammar.{package_of, with_line}
use Rattle.cjc_list.specs.Listed.{said, with_lines, of_lines}
use Rattle.cjc_list.specs.Spelling.{SaysPackage, Within, applets_of, files_of, int_count, Spelt, IsBeginning}
use Rattle.cjc_list.specs.Spelling.{IsMalformedAt}
use Rattle.cjc_list.proofs.Items.{fresh, package_says, package_of-says}
use Rattle.cjc_list.proofs.Wholes.{gathered, said_ok, said_is, said_err, with_lines_add, with_lines_are}
use Rattle.cjc_list.proofs.Wholes.{IsOnce}

-- lines `int` of which there is one at most, and whether there is one
one_or_none : (n : ℕ) → n ≤ 1 → n ≡ cond (ltb 0 n) 1 0
one_or_none zero h = refl
one_or_none (suc zero) h = refl
one_or_none (suc (suc n)) h = absurd (omega (arith, h))

is_there : (b : Bool) → ltb 0 (cond b 1 0) ≡ b
is_there true = refl
is_there false = refl

at_most_one : (b : Bool) → cond b 1 0 ≤ 1
at_most_one true = omega arith
at_most_one false = omega arith

none_so_far : (n : ℕ) → n ≤ 1 → cond false 1 0 + n ≤ 1
none_so_far n h = omega (arith, h)

none_till_now : (n : ℕ) → cond false 1 0 + n ≤ 1 → n ≤ 1
none_till_now n h = omega (arith, h)

once_of : (begun t : Listing) (name : List ℕ) (n : ℕ) → begun ≡ fresh name begun → cond begun.ints 1 0 + n ≤ 1
    → t.ints ≡ (begun.ints || ltb 0 n) → n ≡ cond t.ints 1 0
once_of begun t name n none once is =
    let no : begun.ints ≡ false = ap Listing.ints none in
    let few : cond false 1 0 + n ≤ 1 = subst (λ (b : Bool). cond b 1 0 + n ≤ 1) no once in
    let there : t.ints ≡ ltb 0 n = is ∙ ap (λ (b : Bool). b || ltb 0 n) no in
    one_or_none n (none_till_now n few) ∙ ap (λ (b : Bool). cond b 1 0) (sym there)

-- the lines spell the list that they are read as
pub lines_spell : (name : List ℕ) (end : ℕ) (first : TextLine) (rest : List TextLine) (t : Listing)
    → of_lines name end (first ∷ rest) ≡ Ok t → Spelt name t first rest
unfolding of_lines IsOnce
lines_spell name end first rest t e =
    let one = onward_ok (said (package_of name) first) (λ list. with_lines list rest) t e in
    let begun : Listing = one.0 in
    let line = said_ok (package_of name) first begun one.1 in
    let says = package_says name line.0 begun line.2 in
    let none : Within begun.lines = subst (λ (z : Listing). Within z.lines) (sym says.1)
    (record { classes = omega arith; exports = omega arith }) in
    let rest = with_lines_add begun t rest one.2 none in
    let P : Listing → Type 0 = λ z. SaysPackage z line.0 in
    record {
      items = rest.items;
      named = ap Listing.name rest.is ∙ ap Listing.name says.1;
      begins = (line.0, line.1, subst P (sym rest.is) says.0);
      says = rest.says;
      applets = ap Listing.applets rest.is ∙ ap (λ (z : Listing). Listing.applets (gathered z rest.items)) says.1;
      files = ap Listing.lines rest.is ∙ ap (λ (z : Listing). Listing.lines (gathered z rest.items)) says.1;
      within = rest.within;
      ints = once_of begun t name (int_count rest.items) says.1 rest.once (ap Listing.ints rest.is);
    }

-- and are read as the list that they spell
pub lines_are : (name : List ℕ) (end : ℕ) (first : TextLine) (rest : List TextLine) (t : Listing)
    → Spelt name t first rest → of_lines name end (first ∷ rest) ≡ Ok t
unfolding of_lines IsOnce
lines_are name end first rest t s =
    let begins = s.begins in
    let one : said (package_of name) first ≡ Ok (fresh name t) = said_is (package_of name) first begins.0 (fresh name t)
    begins.1 (package_of-says name t begins.0 begins.2) in
    let made : List ℕ → Bool → List AppletLine → List FileLine → Listing = λ n b a f. record t {
      name = n;
      ints = b;
      applets = a;
      lines = f;
    } in
    let same : gathered (fresh name t) s.items ≡ t =
    ap (λ (n : List ℕ). made n (ltb 0 (int_count s.items)) (applets_of s.items) (files_of s.items)) (sym s.named)
    ∙ ap (λ (n : ℕ). made t.name (ltb 0 n) (applets_of s.items) (files_of s.items)) s.ints
    ∙ ap (λ (b : Bool). made t.name b (applets_of s.items) (files_of s.items)) (is_there t.ints)
    ∙ ap (λ (a : List AppletLine). made t.name t.ints a (files_of s.items)) (sym s.applets)
    ∙ ap (λ (f : List FileLine). made t.name t.ints t.applets f) (sym s.files) in
    let W : List FileLine → Type 0 = Within in
    let more : with_lines (fresh name t) rest ≡ Ok (gathered (fresh name t) s.items) =
    with_lines_are (fresh name t) s.items rest s.says (subst W s.files s.within)
    (none_so_far (int_count s.items) (subst (λ (n : ℕ). n ≤ 1) (sym s.ints) (at_most_one t.ints))) in
    rw one (more ∙ ap Ok same)

bind_same : (one : Result Listing ℕ) (f g h : Listing → Result Listing ℕ) → ((t : Listing) → f t ≡ (g t >>= h))
    → (one >>= f) ≡ ((one >>= g) >>= h)
bind_same (Ok t) f g h e = e t
bind_same (Err k) f g h e = refl

-- lines, and then more of them
with_lines-append : (list : Listing) (before after : List TextLine) → with_lines list (before ++ after)
    ≡ (with_lines list before >>= λ t. with_lines t after)
unfolding with_lines
with_lines-append list [] after = refl
with_lines-append list (l ∷ before) after =
    bind_same (said (with_line list) l) (λ t. with_lines t (before ++ after)) (λ t. with_lines t before)
    (λ t. with_lines t after) (λ t. with_lines-append t before after)

of_lines-append : (name : List ℕ) (end : ℕ) (first : TextLine) (before after : List TextLine) (t : Listing)
    → of_lines name end (first ∷ before) ≡ Ok t
    → of_lines name end (first ∷ (before ++ after)) ≡ with_lines t after
unfolding of_lines
of_lines-append name end first before after t e =
    let one = onward_ok (said (package_of name) first) (λ list. with_lines list before) t e in
    rw (one.1, with_lines-append one.0 before after, one.2) refl

-- a line more
one_line_ok : (list t : Listing) (l : TextLine) → said (with_line list) l ≡ Ok t → with_lines list (l ∷ []) ≡ Ok t
unfolding with_lines
one_line_ok list t l e = rw e refl

one_line_err : (list : Listing) (l : TextLine) (after : List TextLine) (k : ℕ) → said (with_line list) l ≡ Err k
    → with_lines list (l ∷ after) ≡ Err k
unfolding with_lines
one_line_err list l after k e = rw e refl

first_line_ok : (name : List ℕ) (end : ℕ) (t : Listing) (l : TextLine) → said (package_of name) l ≡ Ok t
    → of_lines name end (l ∷ []) ≡ Ok t
unfolding of_lines with_lines
first_line_ok name end t l e = rw e refl

first_line_err : (name : List ℕ) (end : ℕ) (l : TextLine) (after : List TextLine) (k : ℕ) → said (package_of name) l
    ≡ Err k → of_lines name end (l ∷ after) ≡ Err k
unfolding of_lines
first_line_err name end l after k e = rw e refl

first_line_on : (name : List ℕ) (end : ℕ) (l : TextLine) (after : List TextLine) (t : Listing)
    → said (package_of name) l ≡ Ok t → of_lines name end (l ∷ after) ≡ with_lines t after
unfolding of_lines
first_line_on name end l after t e = rw e refl

-- the line at which reading stops
record Stops (list : Listing) (ls : List TextLine) (k : ℕ) : Type 0 where
  before : List TextLine
  after : List TextLine
  line : TextLine
  upto : Listing
  parts : ls ≡ before ++ line ∷ after
  good : with_lines list before ≡ Ok upto
  bad : said (with_line upto) line ≡ Err k

stops : (list : Listing) (ls : List TextLine) (k : ℕ) → with_lines list ls ≡ Err k → Stops list ls k
unfolding with_lines
stops list [] k e = absurd cc
stops list (l ∷ ls) k e = elim (onward_err (said (with_line list) l) (λ t. with_lines t ls) k e) [
  | inl bad ↦ record { before = []; after = ls; line = l; upto = list; parts = refl; good = refl; bad = bad }
  | inr more ↦
      let s = stops more.0 ls k more.2 in
      record {
        before = l ∷ s.before;
        after = s.after;
        line = s.line;
        upto = s.upto;
        parts = ap (λ (xs : List TextLine). l ∷ xs) s.parts;
        good = rw more.1 s.good;
        bad = s.bad;
      }
]

-- lines that are read as no list are malformed at that place
malformed_first : (name : List ℕ) (end : ℕ) (first : TextLine) (rest : List TextLine) (k : ℕ)
    → said (package_of name) first ≡ Err k → IsMalformedAt name (first ∷ rest) k
malformed_first name end first rest k e =
    let no : ¬ IsBeginning name (first ∷ []) = λ h. not_both (of_lines name end (first ∷ [])) h.0 k
    (lines_are name end first [] h.0 h.1) (first_line_err name end first [] k e) in
    ([], rest, first, refl, tt, no, said_err (package_of name) first k e)

malformed_later : (name : List ℕ) (end : ℕ) (first : TextLine) (rest : List TextLine) (z : Listing) (k : ℕ)
    → said (package_of name) first ≡ Ok z → with_lines z rest ≡ Err k
    → IsMalformedAt name (first ∷ rest) k
malformed_later name end first rest z k e f =
    let s = stops z rest k f in
    let good : of_lines name end (first ∷ s.before) ≡ Ok s.upto = first_line_on name end first s.before z e ∙ s.good in
    let bad : of_lines name end (first ∷ (s.before ++ s.line ∷ [])) ≡ Err k = of_lines-append name end first s.before
    (s.line ∷ []) s.upto good ∙ one_line_err s.upto s.line [] k s.bad in
    let no : ¬ IsBeginning name (first ∷ (s.before ++ s.line ∷ [])) =
    λ h. not_both (of_lines name end (first ∷ (s.before ++ s.line ∷ []))) h.0 k (lines_are name end first (s.before
    ++ s.line ∷ []) h.0 h.1) bad in (
      first ∷ s.before,
      s.after,
      s.line,
      ap (λ (xs : List TextLine). first ∷ xs) s.parts,
      (s.upto, lines_spell name end first s.before s.upto good),
      no,
      said_err (with_line s.upto) s.line k s.bad,
    )

pub lines_malformed : (name : List ℕ) (end : ℕ) (ls : List TextLine) (k : ℕ) → of_lines name end ls ≡ Err k
    → IsMalformedAt name ls k ⊎ ((ls ≡ []) × (k ≡ end))
unfolding of_lines
lines_malformed name end [] k e = inr (refl, cc)
lines_malformed name end (first ∷ rest) k e =
    inl (elim (onward_err (said (package_of name) first) (λ t. with_lines t rest) k e) [
      | inl bad ↦ malformed_first name end first rest k bad
      | inr more ↦ malformed_later name end first rest more.0 k more.1 more.2
    ])

-- and the other way round
malformed_breaks_at : (name : List ℕ) (end : ℕ) (before after : List TextLine) (l : TextLine) (k : ℕ)
    → IsBeginning name before → (¬ IsBeginning name (before ++ l ∷ [])) → k ≡ l.at
    → of_lines name end (before ++ l ∷ after) ≡ Err k
malformed_breaks_at name end [] after l k good bad at = elim (ok_or_err (said (package_of name) l)) [
  | inl ok ↦ absurd (bad (ok.0, lines_spell name end l [] ok.0 (first_line_ok name end ok.0 l ok.1)))
  | inr err ↦ first_line_err name end l after err.0 err.1 ∙ ap Err (said_err (package_of name) l err.0 err.1 ∙ sym at)
]
malformed_breaks_at name end (first ∷ before) after l k good bad at =
    let read : of_lines name end (first ∷ before) ≡ Ok good.0 = lines_are name end first before good.0 good.1 in
    elim (ok_or_err (said (with_line good.0) l)) [
      | inl ok ↦ absurd (bad (
        ok.0,
        lines_spell name end first (before ++ l ∷ []) ok.0 (of_lines-append name end first
            before (l ∷ []) good.0 read ∙ one_line_ok good.0 ok.0 l ok.1),
      ))
      | inr err ↦ of_lines-append name end first before (l ∷ after) good.0 read
          ∙ one_line_err good.0 l after err.0 err.1 ∙ ap Err (said_err (with_line good.0) l err.0 err.1 ∙ sym at)
    ]

pub malformed_breaks : (name : List ℕ) (end : ℕ) (ls : List TextLine) (k : ℕ) → IsMalformedAt name ls k
    → of_lines name end ls ≡ Err k
malformed_breaks name end ls k h = rw h.3 (malformed_breaks_at name end h.0 h.1 h.2 k h.4 h.5 h.6)
