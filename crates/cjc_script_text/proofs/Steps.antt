-- Lines of steps, and the script that they are read as.
use Rattle.std.proofs.Common.{◌≡◌, ℕ, ◌+◌, ◌⊎◌, inl, inr, List, [], ◌∷◌, ◌++◌, length, Option, Some, None, Result, Ok}
use Rattle.std.proofs.Common.{Err, refl, sym, ap, ◌∙◌, subst, arith, append_assoc, length-append}
use Rattle.std.specs.Prelude.{option_and_then}
use Rattle.std.proofs.lemmas.List.{append-nil}
use Rattle.cjc_list.specs.Bytes.Found.{kept}
use Rattle.cjc_list.specs.Bytes.Text.{TextLine, words}
use Rattle.cjc_script.specs.declared.script.Act.{Act}
use Rattle.cjc_script.specs.declared.script.Answer.{Answer}
use Rattle.cjc_script.specs.declared.script.Entry.{Entry}
use Rattle.cjc_script.specs.declared.script.Script.{Script}
use Rattle.cjc_script_text.specs.declared.partial_script.PartialScript.{PartialScript}
use Rattle.cjc_script_text.specs.declared.item.Item.{Item}
use Rattle.cjc_script_text.specs.declared.item.Item.TheVariants as items
use Rattle.cjc_script_text.specs.Grammar.{item_of, said}
use Rattle.cjc_script_text.specs.Scripted.{fresh, since_with, with_item, with_lines, of_lines}
use Rattle.cjc_script_text.specs.Spelling.{Says, LineSays, AllSay, Turn, Calls, Replies, Step, turn_item, act_items}
use Rattle.cjc_script_text.specs.Spelling.{step_items, entries_from, answers_from, script_of, SaysNothingAt}
use Rattle.cjc_script_text.specs.Spelling.{HasIdleActsAt}
use Rattle.cjc_script_text.proofs.Lines.{item_says, says_item}
use Rattle.cjc_list.proofs.BytesOptions.{kept_ok}

-- ---- a line

said_at : (o : Option (List (List ℕ))) (at : ℕ) (i : Item) → kept at (option_and_then item_of o) ≡ Ok i
    → (ws : List (List ℕ)) × (o ≡ Some ws) × Says i ws
said_at (Some ws) at i e = (ws, refl, item_says ws i (kept_ok (item_of ws) at i e))
said_at None at i e = absurd cc

said_says : (l : TextLine) (i : Item) → said l ≡ Ok i → LineSays i l
said_says l i e = said_at (words l.text) l.at i e

pub says_said : (l : TextLine) (i : Item) → LineSays i l → said l ≡ Ok i
says_said l i h =
    let step : option_and_then item_of (words l.text) ≡ Some i = ap (option_and_then item_of) h.1 ∙ says_item i h.0 h.2
    in
    ap (kept l.at) step

kept_either : {A : Type 0} (o : Option A) (place : ℕ) → ((a : A) × (kept place o ≡ Ok a)) ⊎ (kept place o ≡ Err place)
kept_either (Some a) place = inl (a, refl)
kept_either None place = inr refl

-- a line says something, or nothing
pub says_or_not : (l : TextLine) → ((i : Item) × LineSays i l) ⊎ ((i : Item) → ¬ LineSays i l)
says_or_not l = elim (kept_either (option_and_then item_of (words l.text)) l.at) [
  | inl ok ↦ inl (ok.0, said_says l ok.0 ok.1)
  | inr bad ↦ inr (λ i h. let e = says_said l i h in cc)
]

-- a line that says nothing is refused
refused_line : (d : PartialScript) (l : TextLine) (more : List TextLine) → ((i : Item) → ¬ LineSays i l)
    → with_lines d (l ∷ more) ≡ Err l.at
unfolding with_lines
refused_line d l more h = elim (kept_either (option_and_then item_of (words l.text)) l.at) [
  | inl ok ↦ absurd (h ok.0 (said_says l ok.0 ok.1))
  | inr bad ↦ rw bad refl
]

-- a line that says something
next_line : (d : PartialScript) (l : TextLine) (i : Item) (more : List TextLine) → LineSays i l
    → with_lines d (l ∷ more) ≡ with_lines (with_item l.at i d) more
unfolding with_lines
next_line d l i more h = rw (says_said l i h) refl

-- ---- lines

-- lines that say something lead to some partial script
read_on : (d : PartialScript) (is : List Item) (ls more : List TextLine) → AllSay is ls → (e : PartialScript)
    × (with_lines d (ls ++ more) ≡ with_lines e more)
read_on d [] [] more h = (d, refl)
read_on d [] (l ∷ ls) more h = absurd h
read_on d (i ∷ is) [] more h = absurd h
read_on d (i ∷ is) (l ∷ ls) more h =
    let rest = read_on (with_item l.at i d) is ls more h.1 in
    (rest.0, next_line d l i (ls ++ more) h.0 ∙ rest.1)

-- where acts begin
begins : List Act → ℕ → List TextLine → ℕ
begins [] k [] = k
begins [] k (l ∷ ls) = l.at
begins (a ∷ acts) k ls = k

drafted : Script → List Act → ℕ → PartialScript
drafted s acts k = record { script = s; acts = acts; since = k }

begun_at : (acts : List Act) (k : ℕ) (l : TextLine) (ls : List TextLine) → begins acts k (l ∷ ls)
    ≡ since_with acts k l.at
unfolding begins
begun_at [] k l ls = refl
begun_at (a ∷ acts) k l ls = refl

still : (acts : List Act) (a : Act) (k : ℕ) (ls : List TextLine) → begins (acts ++ a ∷ []) k ls ≡ k
unfolding begins
still [] a k ls = refl
still (b ∷ acts) a k ls = refl

none_begin : (acts : List Act) (k : ℕ) → begins acts k [] ≡ k
unfolding begins
none_begin [] k = refl
none_begin (a ∷ acts) k = refl

acts_read : (s : Script) (held : List Act) (k : ℕ) (acts : List Act) (ls more : List TextLine)
    → AllSay (act_items acts) ls
    → with_lines (drafted s held k) (ls ++ more) ≡ with_lines (drafted s (held ++ acts) (begins held k ls)) more
unfolding drafted
acts_read s held k [] [] more h = ap (λ (d : PartialScript). with_lines d more) (ap (λ (xs : List Act). drafted s xs k)
    (sym (append-nil held)) ∙ ap (λ (n : ℕ). drafted s (held ++ []) n) (sym (none_begin held k)))
acts_read s held k [] (l ∷ ls) more h = absurd h
acts_read s held k (a ∷ acts) [] more h = absurd h
acts_read s held k (a ∷ acts) (l ∷ ls) more h =
    let since : ℕ = since_with held k l.at in
    let first : with_lines (drafted s held k) (l ∷ (ls ++ more)) ≡ with_lines (drafted s (held ++ a ∷ []) since) (ls
    ++ more) = next_line (drafted s held k) l (items.Act a) (ls ++ more) h.0 in
    let rest : with_lines (drafted s (held ++ a ∷ []) since) (ls ++ more) ≡ with_lines (drafted s ((held ++ a ∷ [])
    ++ acts) (begins (held ++ a ∷ []) since ls)) more = acts_read s (held ++ a ∷ []) since acts ls more h.1 in
    let place : begins (held ++ a ∷ []) since ls ≡ begins held k (l ∷ ls) = still held a since ls
    ∙ sym (begun_at held k l ls) in
    let same : drafted s ((held ++ a ∷ []) ++ acts) (begins (held ++ a ∷ []) since ls) ≡ drafted s (held
    ++ a ∷ acts) (begins held k (l ∷ ls)) =
    ap (λ (xs : List Act). drafted s xs (begins (held ++ a ∷ []) since ls)) (append_assoc held (a ∷ []) acts)
    ∙ ap (λ (n : ℕ). drafted s (held ++ a ∷ acts) n) place in
    first ∙ (rest ∙ ap (λ (d : PartialScript). with_lines d more) same)

-- ---- steps

-- a script with further steps
grown : Script → List Step → Script
grown s steps = record {
  entries = s.entries ++ entries_from (length s.entries + length s.answers) steps;
  answers = s.answers ++ answers_from (length s.entries + length s.answers) steps;
}

-- and with one
stepped : Script → List Act → Turn → Script
stepped s acts (Calls b m args) = record s {
  entries = s.entries
      ++ record { number = length s.entries + length s.answers; acts = acts; virtual_call = b; method = m; args = args }
      ∷ [];
}
stepped s acts (Replies r) = record s {
  answers = s.answers ++ record {
    number = length s.entries + length s.answers;
    acts = acts;
    reply = r;
  } ∷ [];
}

made : List Entry → List Answer → Script
made es answers = record { entries = es; answers = answers }

grown_by : (s : Script) (acts : List Act) (t : Turn) (steps : List Step) → grown (stepped s acts t) steps
    ≡ grown s (record { acts = acts; turn = t } ∷ steps)
unfolding grown stepped made
grown_by s acts (Calls b m args) steps =
    let n : ℕ = length s.entries + length s.answers in
    let e : Entry = record { number = n; acts = acts; virtual_call = b; method = m; args = args } in
    let count : length (s.entries ++ e ∷ []) + length s.answers ≡ n + 1 =
    omega (arith, length-append s.entries (e ∷ [])) in
    ap (λ (k : ℕ). made ((s.entries ++ e ∷ []) ++ entries_from k steps) (s.answers ++ answers_from k steps)) count
    ∙ ap (λ (es : List Entry). made es (s.answers ++ answers_from (n + 1) steps)) (append_assoc s.entries (e
    ∷ []) (entries_from (n + 1) steps))
grown_by s acts (Replies r) steps =
    let n : ℕ = length s.entries + length s.answers in
    let a : Answer = record { number = n; acts = acts; reply = r } in
    let count : length s.entries + length (s.answers ++ a ∷ []) ≡ n + 1 =
    omega (arith, length-append s.answers (a ∷ [])) in
    ap (λ (k : ℕ). made (s.entries ++ entries_from k steps) ((s.answers ++ a ∷ []) ++ answers_from k steps)) count
    ∙ ap (λ (xs : List Answer). made (s.entries ++ entries_from (n + 1) steps) xs) (append_assoc s.answers (a
    ∷ []) (answers_from (n + 1) steps))

grown-stepped : (s : Script) (step : Step) (steps : List Step) → grown (stepped s step.acts step.turn) steps
    ≡ grown s (step ∷ steps)
grown-stepped s step steps = grown_by s step.acts step.turn steps

grown-none : (s : Script) → grown s [] ≡ s
unfolding grown
grown-none s = rw (append-nil s.entries, append-nil s.answers) refl

turn_read : (s : Script) (acts : List Act) (k : ℕ) (t : Turn) (l : TextLine)
    → with_item l.at (turn_item t) (drafted s acts k) ≡ drafted (stepped s acts t) [] 0
unfolding drafted stepped
turn_read s acts k (Calls b m args) l = refl
turn_read s acts k (Replies r) l = refl

-- lines that say items, cut where the items are
record Cut (is js : List Item) (ls : List TextLine) : Type 0 where
  pub front : List TextLine
  pub back : List TextLine
  pub parts : ls ≡ front ++ back
  pub says_front : AllSay is front
  pub says_back : AllSay js back

cut : (is js : List Item) (ls : List TextLine) → AllSay (is ++ js) ls → Cut is js ls
cut [] js ls h = record { front = []; back = ls; parts = refl; says_front = tt; says_back = h }
cut (i ∷ is) js [] h = absurd h
cut (i ∷ is) js (l ∷ ls) h =
    let rest = cut is js ls h.1 in
    record {
      front = l ∷ rest.front;
      back = rest.back;
      parts = ap (λ (xs : List TextLine). l ∷ xs) rest.parts;
      says_front = (h.0, rest.says_front);
      says_back = rest.says_back;
    }

turn_on : (s : Script) (acts : List Act) (k : ℕ) (t : Turn) (is : List Item) (ls more : List TextLine)
    → AllSay (turn_item t ∷ is) ls
    → (rest : List TextLine) × AllSay is rest × (with_lines (drafted s acts k) (ls ++ more)
    ≡ with_lines (drafted (stepped s acts t) [] 0) (rest ++ more))
turn_on s acts k t is [] more h = absurd h
turn_on s acts k t is (l ∷ ls) more h = (
  ls,
  h.1,
  next_line (drafted s acts k) l (turn_item t) (ls ++ more) h.0
      ∙ ap (λ (d : PartialScript). with_lines d (ls ++ more)) (turn_read s acts k t l),
)

steps_read : (s : Script) (steps : List Step) (ls more : List TextLine) → AllSay (step_items steps) ls
    → with_lines (drafted s [] 0) (ls ++ more) ≡ with_lines (drafted (grown s steps) [] 0) more
steps_read s [] [] more h = ap (λ (t : Script). with_lines (drafted t [] 0) more) (sym (grown-none s))
steps_read s [] (l ∷ ls) more h = absurd h
steps_read s (step ∷ steps) ls more h =
    let c = cut (act_items step.acts) (turn_item step.turn ∷ step_items steps) ls h in
    let place : ℕ = begins [] 0 c.front in
    let acts : with_lines (drafted s [] 0) (c.front ++ (c.back ++ more)) ≡ with_lines (drafted s step.acts place)
    (c.back ++ more) = acts_read s [] 0 step.acts c.front (c.back ++ more) c.says_front in
    let turn = turn_on s step.acts place step.turn (step_items steps) c.back more c.says_back in
    let rest : with_lines (drafted (stepped s step.acts step.turn) [] 0) (turn.0 ++ more)
    ≡ with_lines (drafted (grown (stepped s step.acts step.turn) steps) [] 0) more =
    steps_read (stepped s step.acts step.turn) steps turn.0 more turn.1 in
    let lines : ls ++ more ≡ c.front ++ (c.back ++ more) = ap (λ (xs : List TextLine). xs ++ more) c.parts
    ∙ append_assoc c.front c.back more in
    ap (λ (xs : List TextLine). with_lines (drafted s [] 0) xs) lines
    ∙ (acts ∙ (turn.2 ∙ (rest ∙ ap (λ (t : Script). with_lines (drafted t [] 0) more)
    (grown-stepped s step steps))))

-- ---- whole scripts

none : Script
none = record { entries = []; answers = [] }

from_none : (steps : List Step) → grown none steps ≡ script_of steps
unfolding grown none
from_none steps = refl

fresh_is : drafted none [] 0 ≡ fresh
unfolding drafted none
fresh_is = refl

steps_from_fresh : (steps : List Step) (ls more : List TextLine) → AllSay (step_items steps) ls
    → with_lines fresh (ls ++ more) ≡ with_lines (drafted (script_of steps) [] 0) more
steps_from_fresh steps ls more h =
    ap (λ (d : PartialScript). with_lines d (ls ++ more)) (sym fresh_is) ∙ (steps_read none steps ls more h
    ∙ ap (λ (t : Script). with_lines (drafted t [] 0) more) (from_none steps))

no_more : (d : PartialScript) → with_lines d [] ≡ Ok d
unfolding with_lines
no_more d = refl

pub steps_are_script : (steps : List Step) (ls : List TextLine) → AllSay (step_items steps) ls
    → of_lines ls ≡ Ok (script_of steps)
unfolding of_lines drafted
steps_are_script steps ls h =
    let read : with_lines fresh ls ≡ Ok (drafted (script_of steps) [] 0) =
    ap (λ (xs : List TextLine). with_lines fresh xs) (sym (append-nil ls)) ∙ (steps_from_fresh steps ls [] h
    ∙ no_more (drafted (script_of steps) [] 0)) in
    rw read refl

pub nothing_breaks : (ls : List TextLine) (k : ℕ) → SaysNothingAt ls k → of_lines ls ≡ Err k
unfolding of_lines
nothing_breaks ls k h =
    let on = read_on fresh h.3 h.0 (h.2 ∷ h.1) h.5 in
    let read : with_lines fresh ls ≡ Err k =
    ap (λ (xs : List TextLine). with_lines fresh xs) h.4
    ∙ (on.1 ∙ (refused_line on.0 h.2 h.1 h.6 ∙ ap (λ (n : ℕ). let r : Result PartialScript ℕ = Err n
    in r) (sym h.7))) in
    rw read refl

pub idle_acts_break : (ls : List TextLine) (k : ℕ) → HasIdleActsAt ls k → of_lines ls ≡ Err k
unfolding of_lines drafted begins
idle_acts_break ls k h =
    let acts : List Act = h.4 ∷ h.5 in
    let steps : with_lines fresh (h.0 ++ (h.2 ∷ h.1)) ≡ with_lines (drafted (script_of h.3) [] 0) (h.2 ∷ h.1) =
    steps_from_fresh h.3 h.0 (h.2 ∷ h.1) h.7 in
    let idle : with_lines (drafted (script_of h.3) [] 0) ((h.2 ∷ h.1) ++ [])
    ≡ Ok (drafted (script_of h.3) acts h.2.at) = acts_read (script_of h.3) [] 0 acts (h.2 ∷ h.1) [] h.8
    ∙ no_more (drafted (script_of h.3) acts h.2.at) in
    let read : with_lines fresh ls ≡ Ok (drafted (script_of h.3) acts h.2.at) =
    ap (λ (xs : List TextLine). with_lines fresh xs) h.6
    ∙ (steps ∙ (ap (λ (xs : List TextLine). with_lines (drafted (script_of h.3) [] 0) xs)
    (sym (append-nil (h.2 ∷ h.1))) ∙ idle)) in
    rw read (ap (λ (n : ℕ). let r : Result Script ℕ = Err n in r) (sym h.9))

-- ---- each text is one or the other

-- items held steps, and acts behind them
record Grouped (is : List Item) : Type 0 where
  steps : List Step
  acts : List Act
  parts : is ≡ step_items steps ++ act_items acts

act_before : (a : Act) (is : List Item) (steps : List Step) (acts : List Act) → is ≡ step_items steps ++ act_items acts
    → Grouped (items.Act a ∷ is)
act_before a is [] acts e = record { steps = []; acts = a ∷ acts; parts = ap (λ (js : List Item). items.Act a ∷ js) e }
act_before a is (step ∷ steps) acts e = record {
  steps = record { acts = a ∷ step.acts; turn = step.turn } ∷ steps;
  acts = acts;
  parts = ap (λ (js : List Item). items.Act a ∷ js) e;
}

grouped : (is : List Item) → Grouped is
grouped [] = record { steps = []; acts = []; parts = refl }
grouped (items.Act a ∷ is) = let rest = grouped is in act_before a is rest.steps rest.acts rest.parts
grouped (items.Call b m args ∷ is) = let rest = grouped is
    in record {
      steps = record { acts = []; turn = Calls b m args } ∷ rest.steps;
      acts = rest.acts;
      parts = ap (λ (js : List Item). items.Call b m args ∷ js) rest.parts;
    }
grouped (items.Reply r ∷ is) = let rest = grouped is in record {
  steps = record { acts = []; turn = Replies r }
      ∷ rest.steps;
  acts = rest.acts;
  parts = ap (λ (js : List Item). items.Reply r ∷ js) rest.parts;
}

-- each line says something, or one is the first that says nothing
all_or_first : (ls : List TextLine) → ((is : List Item) × AllSay is ls) ⊎ ((k : ℕ) × SaysNothingAt ls k)
all_or_first [] = inl ([], tt)
all_or_first (l ∷ ls) = elim (says_or_not l) [
  | inr bad ↦ inr (l.at, ([], ls, l, [], refl, tt, bad, refl))
  | inl item ↦ elim (all_or_first ls) [
    | inl rest ↦ inl (item.0 ∷ rest.0, (item.1, rest.1))
    | inr bad ↦
        let b = bad.1 in
        inr (bad.0, (l ∷ b.0, b.1, b.2, item.0 ∷ b.3, ap (λ (xs : List TextLine). l ∷ xs) b.4, (item.1, b.5), b.6, b.7))
  ]
]

steps_or_idle : (ls front back : List TextLine) (steps : List Step) (acts : List Act) → ls ≡ front ++ back
    → AllSay (step_items steps) front → AllSay (act_items acts) back
    → ((s : List Step) × AllSay (step_items s) ls) ⊎ ((k : ℕ) × HasIdleActsAt ls k)
steps_or_idle ls front [] steps [] e f b = inl (
  steps,
  subst (λ (xs : List TextLine). AllSay (step_items steps) xs)
      (sym (e ∙ append-nil front)) f,
)
steps_or_idle ls front (l ∷ back) steps [] e f b = absurd b
steps_or_idle ls front [] steps (a ∷ acts) e f b = absurd b
steps_or_idle ls front (l ∷ back) steps (a ∷ acts) e f b = inr (l.at, (front, back, l, steps, a, acts, e, f, b, refl))

-- lines are a script, or are malformed
pub script_or_malformed : (ls : List TextLine) → ((steps : List Step) × AllSay (step_items steps) ls)
    ⊎ ((k : ℕ) × (SaysNothingAt ls k ⊎ HasIdleActsAt ls k))
script_or_malformed ls = elim (all_or_first ls) [
  | inr bad ↦ inr (bad.0, inl bad.1)
  | inl all ↦
      let g = grouped all.0 in
      let says : AllSay (step_items g.steps ++ act_items g.acts) ls = subst (λ (is : List Item). AllSay is ls) g.parts
      all.1 in
      let c = cut (step_items g.steps) (act_items g.acts) ls says in
      elim (steps_or_idle ls c.front c.back g.steps g.acts c.parts c.says_front c.says_back) [
        | inl steps ↦ inl steps
        | inr idle ↦ inr (idle.0, inr idle.1)
      ]
]
