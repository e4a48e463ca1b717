-- Which lists a text spells, and where it breaks the grammar.
use Rattle.std.specs.Prelude.{◌≡◌, Bool, true, false, if◌then◌else◌, ◌⊎◌, ◌<◌, ◌≤◌, ℕ, ◌+◌, List, [], ◌∷◌, ◌++◌, length}
use Rattle.std.specs.Prelude.{codes, Some, Ok}
use Rattle.hex.specs.Hex.{decode_of}
use Rattle.cjc_bytes.specs.Text.{TextLine, words, decimal, kept_lines}
use Rattle.cjc_bytes.specs.Refused.{refusal}
use Rattle.cjc_bytes.specs.declared.fault.Fault.{Fault}
use Rattle.cjc_bytes.specs.declared.fault.Fault.TheVariants as faults
use Rattle.cjc_bytes.specs.declared.fault.Refusal.{Refusal}
use Rattle.cjc_bytes.specs.declared.settings.FileLine.{FileLine}
use Rattle.cjc_bytes.specs.declared.settings.AppletLine.{AppletLine}
use Rattle.cjc_list.specs.declared.listing.List.{List as Listing}
use Rattle.cjc_list.specs.declared.line.Item.{Item}
use Rattle.cjc_list.specs.declared.line.Item.TheVariants.{Applet, File, Int}
use Rattle.cjc_list.specs.Grammar.{is_name, class_count, export_count}

-- The hexadecimal digits spell the AID, which has 5 to 16 bytes.
abbrev pub IsAid : List ℕ → List ℕ → Type 0
IsAid bytes digits = (decode_of digits ≡ Ok bytes) × (5 ≤ length bytes) × (length bytes ≤ 16)

-- The text is MAJOR.MINOR, two decimal numbers of at most 255 around a dot (46).
abbrev pub IsVersion : ℕ → ℕ → List ℕ → Type 0
IsVersion major minor text = (front back : List ℕ) × (text ≡ front ++ 46 ∷ back) × (decimal 255 front ≡ Some major)
    × (decimal 255 back ≡ Some minor)

-- The words are `package NAME AID MAJOR.MINOR` of the list.
abbrev pub SaysPackage : Listing → List (List ℕ) → Type 0
SaysPackage list ws = (digits numbers : List ℕ) × (ws ≡ codes "package" ∷ list.package ∷ digits ∷ numbers ∷ [])
    × (is_name list.package ≡ true) × IsAid list.aid digits × IsVersion list.major list.minor numbers

-- `class` for a class file and `export` for an export file
abbrev pub keyword : Bool → List ℕ
keyword true = codes "class"
keyword false = codes "export"

-- The words are `applet CLASS AID`, `class FILE`, `export FILE` or `int`, and say this.
abbrev pub Says : Item → List (List ℕ) → Type 0
Says (Applet a) ws = (digits : List ℕ) × (ws ≡ codes "applet" ∷ a.class ∷ digits ∷ []) × (is_name a.class ≡ true)
    × IsAid a.aid digits
Says (File f) ws = ws ≡ keyword f.class_file ∷ f.name ∷ []
Says Int ws = ws ≡ codes "int" ∷ []

-- The words of the line have the property.
abbrev pub HasWords : TextLine → (List (List ℕ) → Type 0) → Type 0
HasWords l P = (ws : List (List ℕ)) × (words l.text ≡ Some ws) × P ws

-- Each line says its item.
abbrev pub AllSay : List Item → List TextLine → Type 0
AllSay [] [] = Unit {0}
AllSay [] (l ∷ ls) = ⊥
AllSay (i ∷ is) [] = ⊥
AllSay (i ∷ is) (l ∷ ls) = HasWords l (Says i) × AllSay is ls

-- the applet lines among the items, in order
abbrev pub applets_of : List Item → List AppletLine
applets_of [] = []
applets_of (Applet a ∷ is) = a ∷ applets_of is
applets_of (File f ∷ is) = applets_of is
applets_of (Int ∷ is) = applets_of is

-- the class and export lines among the items, in order
abbrev pub files_of : List Item → List FileLine
files_of [] = []
files_of (Applet a ∷ is) = files_of is
files_of (File f ∷ is) = f ∷ files_of is
files_of (Int ∷ is) = files_of is

-- how many lines `int` are among the items
abbrev pub int_count : List Item → ℕ
int_count [] = 0
int_count (Applet a ∷ is) = int_count is
int_count (File f ∷ is) = int_count is
int_count (Int ∷ is) = int_count is + 1

-- At most 1,024 class files and 128 export files are named.
pub record Within (files : List FileLine) : Type 0 where
  pub classes : class_count files ≤ 1024
  pub exports : export_count files ≤ 128

-- A package line and the lines behind it spell the list of this name, with class lines or without. At most one line is
-- `int`, and the list allows int where one is.
pub record Spelt (name : List ℕ) (list : Listing) (first : TextLine) (rest : List TextLine) : Type 0 where
  pub items : List Item
  pub named : list.name ≡ name
  pub begins : HasWords first (SaysPackage list)
  pub says : AllSay items rest
  pub applets : list.applets ≡ applets_of items
  pub files : list.lines ≡ files_of items
  pub within : Within list.lines
  pub ints : int_count items ≡ (if list.ints then 1 else 0)

-- The lines are the beginning of some list.
abbrev pub IsBeginning : List ℕ → List TextLine → Type 0
IsBeginning name [] = Unit {0}
IsBeginning name (first ∷ rest) = (list : Listing) × Spelt name list first rest

-- The line at k is the first with which the lines are no longer the beginning of a list.
abbrev pub IsMalformedAt : List ℕ → List TextLine → ℕ → Type 0
IsMalformedAt name lines k =
    (before after : List TextLine) × (l : TextLine) × (lines ≡ before ++ l ∷ after) × IsBeginning name before
    × (¬ IsBeginning name (before ++ l ∷ [])) × (k ≡ l.at)

-- The text spells the list, but for a class line.
abbrev pub TextSpells : List ℕ → Listing → List ℕ → Type 0
TextSpells name list text = (first : TextLine) × (rest : List TextLine) × (kept_lines text ≡ first ∷ rest)
    × Spelt name list first rest

-- The text spells the list.
abbrev pub IsSpelt : List ℕ → Listing → List ℕ → Type 0
IsSpelt name list text = TextSpells name list text × (0 < class_count list.lines)

-- The text breaks rule 107 at its first malformed line, or at its end where it has no line, or it is well
-- formed, has no class line and breaks rule 108 at its end.
abbrev pub IsBroken : List ℕ → List ℕ → Refusal → Type 0
IsBroken name text r =
    ((k : ℕ) × IsMalformedAt name (kept_lines text) k × (r ≡ refusal name 107 k))
    ⊎ (((kept_lines text ≡ []) × (r ≡ refusal name 107 (length text)))
    ⊎ ((list : Listing) × TextSpells name list text × (class_count list.lines ≡ 0)
    × (r ≡ refusal name 108 (length text))))

-- The error says which rule the text breaks, or that memory ran out.
abbrev pub SaysBroken : List ℕ → List ℕ → Fault → Type 0
SaysBroken name text e = (e ≡ faults.NoMemory) ⊎ ((r : Refusal) × IsBroken name text r × (e ≡ faults.Refused r))
