-- What lines name, as a relation and as a function.
use Rattle.std.proofs.Common.{◌≡◌, ℕ, ◌<◌, ◌≤◌, inl, inr, cond, ltb, List, [], ◌∷◌, ◌++◌}
use Rattle.std.proofs.Common.{length, Option, Some, None, Result, Ok, Err, refl, sym, ap, ◌∙◌, subst, arith}
use Rattle.std.proofs.Common.{append_assoc}
use Rattle.std.proofs.Common.{length-append}
use Rattle.std.specs.Prelude.{option_and_then}
use Rattle.std.proofs.lemmas.List.{append-nil}
use Rattle.std.proofs.lemmas.Bool.{ltb-true, lt-ltb}
use Rattle.std.proofs.lemmas.Option.{cond_some}
use Rattle.cjc_bytes.specs.Found.{◌>>=◌, kept}
use Rattle.cjc_bytes.specs.Text.{TextLine, words}
use Rattle.cjc_bytes.proofs.Options.{onward_ok, onward_err, kept_ok, not_both, ok_or_err, kept_err}
use Rattle.cjc_list.specs.Spelling.{HasWords}
use Rattle.cjc_list.proofs.Items.{onward}
use Rattle.cjc_group.specs.declared.line.PackageLine.{PackageLine}
use Rattle.cjc_group.specs.Grammar.{named_by, with_line}
use Rattle.cjc_group.specs.Grouped.{said, with_lines}
use Rattle.cjc_group.specs.Spelling.{Says, AllSay, IsBeginning, IsMalformedAt}

-- ---- the words of a line

named_says : (ws : List (List ℕ)) (p : PackageLine) → named_by ws ≡ Some p → Says p ws
unfolding named_by
named_says [] p e = absurd cc
named_says (a ∷ []) p e = absurd cc
named_says (a ∷ b ∷ []) p e =
    let is : record { list = a; folder = b } ≡ p = cc in ap (λ (x : PackageLine). x.list ∷ x.folder ∷ []) is
named_says (a ∷ b ∷ c ∷ ws) p e = absurd cc

says_named : (p : PackageLine) (ws : List (List ℕ)) → Says p ws → named_by ws ≡ Some p
unfolding named_by
says_named p ws h = ap named_by h

-- what a line adds
record Adds (ps qs : List PackageLine) (ws : List (List ℕ)) : Type 0 where
  line : PackageLine
  says : Says line ws
  room : length ps < 16
  is : qs ≡ ps ++ line ∷ []

with_line_is : (ps qs : List PackageLine) (ws : List (List ℕ)) → with_line ps ws ≡ Some qs → Adds ps qs ws
unfolding with_line
with_line_is ps qs ws e =
    let p = onward (named_by ws) (λ p. cond (ltb (length ps) 16) (Some (ps ++ p ∷ [])) None) qs e in
    let t = cond_some (ltb (length ps) 16) (ps ++ p.0 ∷ []) qs p.2 in
    record { line = p.0; says = named_says ws p.0 p.1; room = ltb-true _ _ t.0; is = sym t.1 }

with_line-fits : (ps : List PackageLine) (ws : List (List ℕ)) (p : PackageLine) → Says p ws → length ps < 16
    → with_line ps ws ≡ Some (ps ++ p ∷ [])
unfolding with_line
with_line-fits ps ws p says room = rw (says_named p ws says, lt-ltb (length ps) 16 room) refl

-- ---- one line

said_ok_at : (o : Option (List (List ℕ))) (reading : List (List ℕ) → Option (List PackageLine)) (at : ℕ)
    (qs : List PackageLine) → kept at (option_and_then reading o) ≡ Ok qs
    → (ws : List (List ℕ)) × (o ≡ Some ws) × (reading ws ≡ Some qs)
said_ok_at (Some ws) reading at qs e = (ws, refl, kept_ok (reading ws) at qs e)
said_ok_at None reading at qs e = absurd cc

said_ok : (reading : List (List ℕ) → Option (List PackageLine)) (l : TextLine) (qs : List PackageLine)
    → said reading l ≡ Ok qs → HasWords l (λ ws. reading ws ≡ Some qs)
said_ok reading l qs e = said_ok_at (words l.text) reading l.at qs e

said_is : (reading : List (List ℕ) → Option (List PackageLine)) (l : TextLine) (ws : List (List ℕ))
    (qs : List PackageLine) → words l.text ≡ Some ws → reading ws ≡ Some qs → said reading l ≡ Ok qs
said_is reading l ws qs e f =
    let step : option_and_then reading (words l.text) ≡ Some qs = ap (option_and_then reading) e ∙ f in
    ap (kept l.at) step

said_err : (reading : List (List ℕ) → Option (List PackageLine)) (l : TextLine) (k : ℕ) → said reading l ≡ Err k
    → k ≡ l.at
said_err reading l k e = kept_err (option_and_then reading (words l.text)) l.at k e

-- ---- several lines

-- what lines add
record Added (ps qs : List PackageLine) (ls : List TextLine) : Type 0 where
  lines : List PackageLine
  says : AllSay lines ls
  is : qs ≡ ps ++ lines
  within : length qs ≤ 16

with_lines_add : (ps qs : List PackageLine) (ls : List TextLine) → with_lines ps ls ≡ Ok qs → length ps ≤ 16
    → Added ps qs ls
unfolding with_lines
with_lines_add ps qs [] e w =
    let is : ps ≡ qs = cc in
    subst (λ (z : List PackageLine). Added ps z []) is
    (record { lines = []; says = tt; is = sym (append-nil ps); within = w })
with_lines_add ps qs (l ∷ ls) e w =
    let one = onward_ok (said (with_line ps) l) (λ more. with_lines more ls) qs e in
    let line = said_ok (with_line ps) l one.0 one.1 in
    let added = with_line_is ps one.0 line.0 line.2 in
    let within = subst (λ (z : List PackageLine). length z ≤ 16) (sym added.is)
    (omega (arith, added.room, length-append ps (added.line ∷ []))) in
    let rest = with_lines_add one.0 qs ls one.2 within in
    record {
      lines = added.line ∷ rest.lines;
      says = ((line.0, line.1, added.says), rest.says);
      is = rest.is ∙ ap (λ (z : List PackageLine). z ++ rest.lines) added.is
          ∙ append_assoc ps (added.line ∷ []) rest.lines;
      within = rest.within;
    }

pub with_lines_are : (ps lines : List PackageLine) (ls : List TextLine) → AllSay lines ls → length (ps ++ lines) ≤ 16
    → with_lines ps ls ≡ Ok (ps ++ lines)
unfolding with_lines
with_lines_are ps [] [] says w = ap Ok (sym (append-nil ps))
with_lines_are ps [] (l ∷ ls) says w = absurd says
with_lines_are ps (p ∷ lines) [] says w = absurd says
with_lines_are ps (p ∷ lines) (l ∷ ls) says w =
    let room : length ps < 16 = omega (arith, w, length-append ps (p ∷ lines)) in
    let one : said (with_line ps) l ≡ Ok (ps ++ p ∷ []) =
    said_is (with_line ps) l says.0.0 (ps ++ p ∷ []) says.0.1 (with_line-fits ps says.0.0 p says.0.2 room) in
    let same = append_assoc ps (p ∷ []) lines in
    let rest = with_lines_are (ps ++ p ∷ []) lines ls says.1
    (subst (λ (z : List PackageLine). length z ≤ 16) (sym same) w) in
    rw one (rest ∙ ap Ok same)

-- what is read names the lines
pub reads : (ls : List TextLine) (ps : List PackageLine) → with_lines [] ls ≡ Ok ps → AllSay ps ls × (length ps ≤ 16)
reads ls ps e =
    let a = with_lines_add [] ps ls e (omega arith) in
    (subst (λ (z : List PackageLine). AllSay z ls) (sym a.is) a.says, a.within)

-- ---- where lines break off

bind_same : (one : Result (List PackageLine) ℕ) (f g h : List PackageLine → Result (List PackageLine) ℕ)
    → ((t : List PackageLine) → f t ≡ (g t >>= h)) → (one >>= f) ≡ ((one >>= g) >>= h)
bind_same (Ok t) f g h e = e t
bind_same (Err k) f g h e = refl

-- lines, and then more of them
with_lines-append : (ps : List PackageLine) (before after : List TextLine) → with_lines ps (before ++ after)
    ≡ (with_lines ps before >>= λ t. with_lines t after)
unfolding with_lines
with_lines-append ps [] after = refl
with_lines-append ps (l ∷ before) after =
    bind_same (said (with_line ps) l) (λ t. with_lines t (before ++ after)) (λ t. with_lines t before)
    (λ t. with_lines t after) (λ t. with_lines-append t before after)

behind : (before after : List TextLine) (t : List PackageLine) → with_lines [] before ≡ Ok t
    → with_lines [] (before ++ after) ≡ with_lines t after
behind before after t e = rw (with_lines-append [] before after, e) refl

one_line_ok : (ps t : List PackageLine) (l : TextLine) → said (with_line ps) l ≡ Ok t
    → with_lines ps (l ∷ []) ≡ Ok t
unfolding with_lines
one_line_ok ps t l e = rw e refl

one_line_err : (ps : List PackageLine) (l : TextLine) (after : List TextLine) (k : ℕ)
    → said (with_line ps) l ≡ Err k → with_lines ps (l ∷ after) ≡ Err k
unfolding with_lines
one_line_err ps l after k e = rw e refl

-- the line at which reading stops
record Stops (ps : List PackageLine) (ls : List TextLine) (k : ℕ) : Type 0 where
  before : List TextLine
  after : List TextLine
  line : TextLine
  upto : List PackageLine
  parts : ls ≡ before ++ line ∷ after
  good : with_lines ps before ≡ Ok upto
  bad : said (with_line upto) line ≡ Err k

stops : (ps : List PackageLine) (ls : List TextLine) (k : ℕ) → with_lines ps ls ≡ Err k → Stops ps ls k
unfolding with_lines
stops ps [] k e = absurd cc
stops ps (l ∷ ls) k e = elim (onward_err (said (with_line ps) l) (λ t. with_lines t ls) k e) [
  | inl bad ↦ record { before = []; after = ls; line = l; upto = ps; parts = refl; good = refl; bad = bad }
  | inr more ↦
      let s = stops more.0 ls k more.2 in
      record {
        before = l ∷ s.before;
        after = s.after;
        line = s.line;
        upto = s.upto;
        parts = ap (λ (xs : List TextLine). l ∷ xs) s.parts;
        good = rw more.1 s.good;
        bad = s.bad;
      }
]

-- lines that are read as no packages are malformed at that place, and the other way round
pub lines_malformed : (ls : List TextLine) (k : ℕ) → with_lines [] ls ≡ Err k → IsMalformedAt ls k
lines_malformed ls k e =
    let s = stops [] ls k e in
    let good = reads s.before s.upto s.good in
    let bad : with_lines [] (s.before ++ s.line ∷ []) ≡ Err k =
    behind s.before (s.line ∷ []) s.upto s.good ∙ one_line_err s.upto s.line [] k s.bad in
    let no : ¬ IsBeginning (s.before ++ s.line ∷ []) =
    λ h. not_both (with_lines [] (s.before ++ s.line ∷ [])) h.0 k (with_lines_are [] h.0 (s.before
    ++ s.line ∷ []) h.1 h.2) bad in
    (s.before, s.after, s.line, s.parts, (s.upto, good.0, good.1), no, said_err (with_line s.upto) s.line k s.bad)

malformed_breaks_at : (before after : List TextLine) (l : TextLine) (k : ℕ) → IsBeginning before
    → (¬ IsBeginning (before ++ l ∷ [])) → k ≡ l.at → with_lines [] (before ++ l ∷ after) ≡ Err k
malformed_breaks_at before after l k good bad at =
    let read : with_lines [] before ≡ Ok good.0 = with_lines_are [] good.0 before good.1 good.2 in
    elim (ok_or_err (said (with_line good.0) l)) [
      | inl ok ↦
          let r = reads (before ++ l ∷ []) ok.0 (behind before (l ∷ []) good.0 read ∙ one_line_ok good.0 ok.0 l ok.1) in
          absurd (bad (ok.0, r.0, r.1))
      | inr err ↦ behind before (l ∷ after) good.0 read ∙ one_line_err good.0 l after err.0 err.1
          ∙ ap Err (said_err (with_line good.0) l err.0 err.1 ∙ sym at)
    ]

pub malformed_breaks : (ls : List TextLine) (k : ℕ) → IsMalformedAt ls k → with_lines [] ls ≡ Err k
malformed_breaks ls k h = rw h.3 (malformed_breaks_at h.0 h.1 h.2 k h.4 h.5 h.6)
