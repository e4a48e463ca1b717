-- The script that a text is, as a function: line after line.
use Rattle.std.specs.Prelude.{ℕ, ◌+◌, List, [], ◌∷◌, ◌++◌, length, Result, Ok, Err}
use Rattle.cjc_list.specs.Bytes.Found.{◌>>=◌}
use Rattle.cjc_list.specs.Bytes.Text.{TextLine, kept_lines}
use Rattle.cjc_list.specs.Bytes.Refused.{refusal}
use Rattle.cjc_list.specs.Bytes.declared.fault.Refusal.{Refusal}
use Rattle.cjc_script.specs.declared.script.Act.{Act}
use Rattle.cjc_script.specs.declared.script.Script.{Script}
use Rattle.cjc_script_text.specs.declared.partial_script.PartialScript.{PartialScript}
use Rattle.cjc_script_text.specs.declared.item.Item.{Item}
use Rattle.cjc_script_text.specs.declared.item.Item.TheVariants as items
use Rattle.cjc_script_text.specs.Grammar.{said}

-- a script as contracts see it: the entries and the answers
abbrev pub ScriptTree : Type 0
ScriptTree = Script

-- the bytes of a name or a text
abbrev pub Codes : Type 0
Codes = List ℕ

-- nothing yet
abbrev pub fresh : PartialScript
fresh = record { script = record { entries = []; answers = [] }; acts = []; since = 0 }

-- how many entries and answers there are
abbrev pub turns : PartialScript → ℕ
turns d = length d.script.entries + length d.script.answers

-- where acts begin, the next of which stands at this place
abbrev pub since_with : List Act → (since at : ℕ) → ℕ
since_with [] since at = at
since_with (a ∷ acts) since at = since

-- With what a line at this place says. Entries and answers are numbered together, and have the acts that stand just
-- before them.
abbrev pub with_item : (at : ℕ) → Item → PartialScript → PartialScript
with_item at (items.Act act) d = record d { acts = d.acts ++ act ∷ []; since = since_with d.acts d.since at }
with_item at (items.Call virtual_call method args) d = record {
  script = record d.script {
    entries = d.script.entries ++ record {
      number = turns d;
      acts = d.acts;
      virtual_call = virtual_call;
      method = method;
      args = args;
    } ∷ [];
  };
  acts = [];
  since = 0;
}
with_item at (items.Reply reply) d = record {
  script = record d.script {
    answers = d.script.answers ++ record { number = turns d; acts = d.acts; reply = reply }
        ∷ [];
  };
  acts = [];
  since = 0;
}

-- with one line more, or the place of a line that says nothing
abbrev pub with_line : PartialScript → TextLine → Result PartialScript ℕ
with_line d l = do
  item ← said l
  Ok (with_item l.at item d)

-- with these lines, or the place of the first that says nothing
unfoldable pub with_lines : PartialScript → List TextLine → Result PartialScript ℕ
with_lines d [] = Ok d
with_lines d (l ∷ ls) = do
  more ← with_line d l
  with_lines more ls

-- the script, or the place of the first act that nothing follows
abbrev pub ended_by : List Act → PartialScript → Result Script ℕ
ended_by [] d = Ok d.script
ended_by (a ∷ acts) d = Err d.since

-- the script of a partial script, or the place of the first act at its end that nothing follows
abbrev pub ended : PartialScript → Result Script ℕ
ended d = ended_by d.acts d

-- the script of these lines, or the place of the malformed one
unfoldable pub of_lines : List TextLine → Result Script ℕ
of_lines lines = do
  d ← with_lines fresh lines
  ended d

-- what the script of this name says, or where it breaks rule 105
abbrev pub refused_by : (name : List ℕ) → Result Script ℕ → Result Script Refusal
refused_by name (Ok script) = Ok script
refused_by name (Err k) = Err (refusal name 105 k)

-- what the script of this name with this text says, or the rule that it breaks
unfoldable pub scripted : (name text : List ℕ) → Result ScriptTree Refusal
scripted name text = refused_by name (of_lines (kept_lines text))
