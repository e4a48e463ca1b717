-- The grammar of one line of a list: what the words of a line say.
use Rattle.std.specs.Prelude.{Bool, true, false, not, ◌&&◌, ◌||◌, if◌then◌else◌, ◌==◌, nat_le, nat_lt, ℕ, ◌+◌, List, []}
use Rattle.std.specs.Prelude.{◌∷◌, ◌++◌, length, take, drop, position, count_by, codes, Option, Some, None, Result, Ok}
use Rattle.std.specs.Prelude.{Err}
use Rattle.std.specs.List.{slice_split, list_all}
use Rattle.std.specs.Str.{bytes_eq}
use Rattle.hex.specs.Hex.{decode_of}
use Rattle.hex.specs.declared.error.FromHexError.{FromHexError}
use Rattle.cjc_bytes.specs.Text.{is_filled, is_digit, decimal}
use Rattle.cjc_bytes.specs.declared.settings.FileLine.{FileLine}
use Rattle.cjc_list.specs.declared.listing.List.{List as Listing}
use Rattle.cjc_list.specs.declared.line.Item.{Item}
use Rattle.cjc_list.specs.declared.line.Item.TheVariants.{Applet, File, Int}

-- the value behind it, where there is one
infixl 10 ◌>>=◌
abbrev pub ◌>>=◌ : {A B : Type 0} → Option B → (B → Option A) → Option A
(Some x) >>= f = f x
None >>= f = None

-- a letter, a digit, `_` (95) or `$` (36)
abbrev pub is_name_byte : ℕ → Bool
is_name_byte c = (nat_le 97 c && nat_le c 122) || (nat_le 65 c && nat_le c 90) || is_digit c || (c == 95) || (c == 36)

-- one or more of them
abbrev pub is_name_part : List ℕ → Bool
is_name_part part = is_filled part && list_all is_name_byte part

-- such parts, joined by `/` (47)
unfoldable pub is_name : List ℕ → Bool
is_name name = list_all is_name_part (slice_split (λ b. b == 47) name)

-- 5 to 16 bytes
abbrev pub fit_for_aid : Result (List ℕ) FromHexError → Option (List ℕ)
fit_for_aid (Ok bytes) = if nat_le 5 (length bytes) && nat_le (length bytes) 16 then Some bytes else None
fit_for_aid (Err e) = None

-- the AID that hexadecimal digits spell
unfoldable pub aid_of : List ℕ → Option (List ℕ)
aid_of digits = fit_for_aid (decode_of digits)

-- the numbers before and behind the first dot (46), each of them at most 255
unfoldable pub version_of : List ℕ → Option (ℕ × ℕ)
version_of text = do
  dot ← position (λ b. b == 46) text
  major ← decimal 255 (take dot text)
  minor ← decimal 255 (drop (dot + 1) text)
  Some (major, minor)

-- the list of this name that the words of a package line begin
unfoldable pub begun : List ℕ → List ℕ → List ℕ → List ℕ → Option Listing
begun name owner digits numbers = do
  aid ← aid_of digits
  version ← version_of numbers
  if is_name owner then Some (record {
    name = name;
    «package» = owner;
    aid = aid;
    major = version.0;
    minor = version.1;
    ints = false;
    applets = [];
    lines = [];
  }) else None

-- the list of this name that begins with a package line of these words: the package, its AID and its version
unfoldable pub package_of : List ℕ → List (List ℕ) → Option Listing
package_of name (keyword ∷ owner ∷ digits ∷ numbers ∷ []) = if bytes_eq keyword (codes "package")
    then begun name owner digits numbers else None
package_of name _ = None

-- what an applet line says
unfoldable pub applet_of : List ℕ → List ℕ → Option Item
applet_of class digits = do
  aid ← aid_of digits
  if is_name class then Some (Applet (record { class = class; aid = aid })) else None

-- what the words of a line behind the package line say
unfoldable pub item_of : List (List ℕ) → Option Item
item_of (keyword ∷ []) = if bytes_eq keyword (codes "int") then Some Int else None
item_of (keyword ∷ file ∷ []) =
    if bytes_eq keyword (codes "class") then Some (File (record { class_file = true; name = file }))
    else if bytes_eq keyword (codes "export") then Some (File (record { class_file = false; name = file }))
    else None
item_of (keyword ∷ class ∷ digits ∷ []) = if bytes_eq keyword (codes "applet") then applet_of class digits else None
item_of _ = None

-- how many class files and export files are named
abbrev pub class_count : List FileLine → ℕ
class_count files = count_by (λ f. f.class_file) files

-- how many export files are named
abbrev pub export_count : List FileLine → ℕ
export_count files = count_by (λ f. not f.class_file) files

-- whether one file more of this kind is within the limit
abbrev pub has_room : Bool → List FileLine → Bool
has_room true files = nat_lt (class_count files) 1024
has_room false files = nat_lt (export_count files) 128

-- the list with what a further line says, where that line is within the limits; int is allowed once
unfoldable pub with_item : Listing → Item → Option Listing
with_item list (Applet a) = Some (record list { applets = list.applets ++ a ∷ [] })
with_item list (File f) = if has_room f.class_file list.lines then Some (record list { lines = list.lines ++ f ∷ [] })
    else None
with_item list Int = if list.ints then None else Some (record list { ints = true })

-- the list with one line more
unfoldable pub with_line : Listing → List (List ℕ) → Option Listing
with_line list ws = do
  item ← item_of ws
  with_item list item
