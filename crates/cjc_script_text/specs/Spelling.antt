-- Which scripts a text spells, and where it breaks the grammar.
use Rattle.std.specs.Prelude.{◌≡◌, ◌⊎◌, ℕ, ◌+◌, List, [], ◌∷◌, ◌++◌, map, codes, Some, None, Bool, true, false}
use Rattle.cjc_list.specs.Bytes.Text.{TextLine, words, kept_lines}
use Rattle.cjc_list.specs.Bytes.Refused.{refusal}
use Rattle.cjc_list.specs.Bytes.declared.fault.Fault.{Fault}
use Rattle.cjc_list.specs.Bytes.declared.fault.Fault.TheVariants as faults
use Rattle.cjc_list.specs.Bytes.declared.fault.MemberId.{MemberId}
use Rattle.cjc_list.specs.Bytes.declared.fault.Refusal.{Refusal}
use Rattle.cjc_list.specs.Grammar.{is_name}
use Rattle.cjc_script.specs.declared.script.Act.{Act}
use Rattle.cjc_script.specs.declared.script.Act.TheVariants.{Array, Object, Put}
use Rattle.cjc_script.specs.declared.script.Answer.{Answer}
use Rattle.cjc_script.specs.declared.script.Entry.{Entry}
use Rattle.cjc_script.specs.declared.script.Reply.{Reply}
use Rattle.cjc_script.specs.declared.script.Reply.TheVariants.{Give, Throw}
use Rattle.cjc_script.specs.declared.script.Script.{Script}
use Rattle.cjc_script.specs.declared.value.Value.{Value}
use Rattle.cjc_script.specs.declared.value.Value.TheVariants.{Obj}
use Rattle.cjc_script_text.specs.declared.item.Item.{Item}
use Rattle.cjc_script_text.specs.declared.item.Item.TheVariants as items
use Rattle.cjc_script_text.specs.Words.{number_of, reference_of, value_of, values_of, method_of, is_array}

-- ---- lines

-- The words are `CLASS METHOD`, and name this method.
abbrev pub NamesMethod : MemberId → (word : List ℕ) → Type 0
NamesMethod m word = method_of m.class word ≡ Some m

-- The words are `call CLASS METHOD VALUE*` or `send CLASS METHOD REF VALUE*`.
abbrev pub SaysCall : (virtual_call : Bool) → MemberId → List Value → List (List ℕ) → Type 0
SaysCall false m args ws =
    (method : List ℕ) × (values : List (List ℕ)) × (ws ≡ codes "call" ∷ m.class ∷ method ∷ values)
    × NamesMethod m method × (values_of values ≡ Some args)
SaysCall true m args ws =
    (method receiver : List ℕ) × (values : List (List ℕ)) × (object : ℕ) × (others : List Value)
    × (ws ≡ codes "send" ∷ m.class ∷ method ∷ receiver ∷ values) × NamesMethod m method
    × (reference_of receiver ≡ Some object) × (values_of values ≡ Some others) × (args ≡ Obj object ∷ others)

-- The words are `give`, `give VALUE` or `throw CLASS`.
abbrev pub SaysReply : Reply → List (List ℕ) → Type 0
SaysReply (Give None) ws = ws ≡ codes "give" ∷ []
SaysReply (Give (Some v)) ws = (value : List ℕ) × (ws ≡ codes "give" ∷ value ∷ []) × (value_of value ≡ Some v)
SaysReply (Throw class) ws = (ws ≡ codes "throw" ∷ class ∷ []) × (is_name class ≡ true)

-- The words are `array DESC LENGTH`, `object CLASS` or `put REF INDEX VALUE`.
abbrev pub SaysAct : Act → List (List ℕ) → Type 0
SaysAct (Array desc z) ws = (count : List ℕ) × (ws ≡ codes "array" ∷ desc ∷ count ∷ []) × (is_array desc ≡ true)
    × (number_of count ≡ Some z)
SaysAct (Object class) ws = (ws ≡ codes "object" ∷ class ∷ []) × (is_name class ≡ true)
SaysAct (Put k z v) ws =
    (array index value : List ℕ) × (ws ≡ codes "put" ∷ array ∷ index ∷ value ∷ []) × (reference_of array ≡ Some k)
    × (number_of index ≡ Some z) × (value_of value ≡ Some v)

-- The words say this.
abbrev pub Says : Item → List (List ℕ) → Type 0
Says (items.Act act) ws = SaysAct act ws
Says (items.Call virtual_call m args) ws = SaysCall virtual_call m args ws
Says (items.Reply reply) ws = SaysReply reply ws

-- The words of the line say this.
abbrev pub LineSays : Item → TextLine → Type 0
LineSays i l = (ws : List (List ℕ)) × (words l.text ≡ Some ws) × Says i ws

-- Each line says its item.
abbrev pub AllSay : List Item → List TextLine → Type 0
AllSay [] [] = Unit {0}
AllSay [] (l ∷ ls) = ⊥
AllSay (i ∷ is) [] = ⊥
AllSay (i ∷ is) (l ∷ ls) = LineSays i l × AllSay is ls

-- ---- scripts

-- a call that the run begins with, or an answer to an imported call
pub data Turn : Type 0 where
  Calls : (virtual_call : Bool) → (method : MemberId) → (args : List Value) → Turn
  Replies : (reply : Reply) → Turn

-- a turn, and the acts that belong to it
pub record Step : Type 0 where
  pub acts : List Act
  pub turn : Turn

-- what the line of a turn says
abbrev pub turn_item : Turn → Item
turn_item (Calls virtual_call m args) = items.Call virtual_call m args
turn_item (Replies reply) = items.Reply reply

-- what the lines of acts say
abbrev pub act_items : List Act → List Item
act_items acts = map (λ a. items.Act a) acts

-- what the lines of steps say: of each its acts, and then its turn
abbrev pub step_items : List Step → List Item
step_items [] = []
step_items (s ∷ steps) = act_items s.acts ++ (turn_item s.turn ∷ step_items steps)

-- the entries, numbered among the steps from this number on
abbrev pub entries_from : ℕ → List Step → List Entry
entries_from n [] = []
entries_from n (s ∷ steps) = entry_of s.turn ++ entries_from (n + 1) steps
  where
    entry_of : Turn → List Entry
    entry_of (Calls virtual_call m args) = record {
      number = n;
      acts = s.acts;
      virtual_call = virtual_call;
      method = m;
      args = args;
    } ∷ []
    entry_of (Replies reply) = []

-- and the answers
abbrev pub answers_from : ℕ → List Step → List Answer
answers_from n [] = []
answers_from n (s ∷ steps) = answer_of s.turn ++ answers_from (n + 1) steps
  where
    answer_of : Turn → List Answer
    answer_of (Calls virtual_call m args) = []
    answer_of (Replies reply) = record { number = n; acts = s.acts; reply = reply } ∷ []

-- the script of steps, which are numbered from 0
abbrev pub script_of : List Step → Script
script_of steps = record { entries = entries_from 0 steps; answers = answers_from 0 steps }

-- The text spells the script: its lines are steps, and the script is theirs.
abbrev pub IsSpelt : Script → List ℕ → Type 0
IsSpelt script text = (steps : List Step) × AllSay (step_items steps) (kept_lines text) × (script ≡ script_of steps)

-- The line at k says nothing, and each line before it says something.
abbrev pub SaysNothingAt : List TextLine → ℕ → Type 0
SaysNothingAt lines k =
    (before after : List TextLine) × (l : TextLine) × (said_before : List Item)
    × (lines ≡ before ++ l ∷ after) × AllSay said_before before × ((i : Item) → ¬ LineSays i l) × (k ≡ l.at)

-- The lines are steps, and then acts to which no turn belongs, the first of them at k.
abbrev pub HasIdleActsAt : List TextLine → ℕ → Type 0
HasIdleActsAt lines k =
    (before after : List TextLine) × (l : TextLine) × (steps : List Step) × (act : Act) × (acts : List Act)
    × (lines ≡ before ++ l ∷ after) × AllSay (step_items steps) before × AllSay (act_items (act ∷ acts)) (l ∷ after)
    × (k ≡ l.at)

-- The text breaks rule 105: at its first line that says nothing, or where each says something at the first of the acts
-- at its end that nothing follows.
abbrev pub IsBroken : (name text : List ℕ) → Refusal → Type 0
IsBroken name text r = (k : ℕ) × (SaysNothingAt (kept_lines text) k ⊎ HasIdleActsAt (kept_lines text) k)
    × (r ≡ refusal name 105 k)

-- The error says where the text breaks rule 105, or that memory ran out.
abbrev pub SaysBroken : (name text : List ℕ) → Fault → Type 0
SaysBroken name text e = (e ≡ faults.NoMemory) ⊎ ((r : Refusal) × IsBroken name text r × (e ≡ faults.Refused r))
