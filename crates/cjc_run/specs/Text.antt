-- The lines that say how a run ended.
use Rattle.std.specs.Prelude.{ℕ, List, [], ◌∷◌, ◌++◌, codes, decimal}
use Rattle.std.specs.List.{concat}
use Rattle.cjc_shelf.specs.Bytes.declared.fault.Refusal.{Refusal}
use Rattle.cjc_shelf.specs.declared.command.status.Status.{Status}
use Rattle.cjc_shelf.specs.declared.command.status.Status.TheVariants as status

-- a space
abbrev pub blank : List ℕ
blank = 32 ∷ []

-- the end of a line
abbrev pub line_feed : List ℕ
line_feed = 10 ∷ []

-- a part of a place, or a dash where it is empty
abbrev pub shown_part : List ℕ → List ℕ
shown_part [] = codes "-"
shown_part (c ∷ part) = c ∷ part

-- the forms of the words
abbrev pub usage_line : List ℕ
usage_line = codes
    "usage: jcconv convert LIST DIR, check LIST DIR, jvm LIST SCRIPT N, card LIST DIR SCRIPT N, make NUMBER SIZE, verify LIST DIR, link GROUP SCRIPT N, linkjvm GROUP SCRIPT N, compat OLD NEW"
    ++ line_feed

-- which rule is broken, and where
abbrev pub refusal_line : Refusal → List ℕ
refusal_line r =
    concat (codes "refused " ∷ decimal r.rule.0 ∷ blank ∷ shown_part r.place.file ∷ blank ∷ shown_part r.place.class
    ∷ blank ∷ shown_part r.place.member
    ∷ blank ∷ decimal r.place.offset ∷ line_feed ∷ [])

-- the line of each answer; none for a run that is done
abbrev pub status_lines : Status → List ℕ
status_lines status.Done = []
status_lines status.Usage = usage_line
status_lines (status.Refused r) = refusal_line r
status_lines (status.Absent name) = concat (codes "absent " ∷ name ∷ line_feed ∷ [])
status_lines (status.TooLong name) = concat (codes "too long " ∷ name ∷ line_feed ∷ [])
status_lines (status.ShelfFault name) = concat (codes "shelf fault " ∷ name ∷ line_feed ∷ [])
status_lines status.SinkFault = codes "sink fault" ++ line_feed
status_lines status.NoMemory = codes "no memory" ++ line_feed
