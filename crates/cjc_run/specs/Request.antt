-- What the words of a command line ask for, or that they are of no form.
use Rattle.std.specs.Prelude.{ℕ, ◌==◌, List, [], ◌∷◌, codes, bytes_eq, if◌then◌else◌, Option, Some, None}
use Rattle.std.specs.Prelude.{option_and_then, option_map}
use Rattle.cjc_shelf.specs.Bytes.Text.{short_decimal}

-- What is asked for.
pub data Request : Type 0 where
  -- convert LIST DIR
  convert : List ℕ → List ℕ → Request
  -- check LIST DIR
  check : List ℕ → List ℕ → Request
  -- jvm LIST SCRIPT N
  jvm : List ℕ → List ℕ → ℕ → Request
  -- card LIST DIR SCRIPT N
  card : List ℕ → List ℕ → List ℕ → ℕ → Request
  -- make NUMBER SIZE
  make : ℕ → ℕ → Request
  -- verify LIST DIR
  verify : List ℕ → List ℕ → Request
  -- link GROUP SCRIPT N
  link : List ℕ → List ℕ → ℕ → Request
  -- linkjvm GROUP SCRIPT N
  linkjvm : List ℕ → List ℕ → ℕ → Request
  -- compat OLD NEW
  compat : List ℕ → List ℕ → Request

-- how many instructions: one to ten decimal digits, with a value up to 3,000,000,000
abbrev pub count : List ℕ → Option ℕ
count word = short_decimal 10 3000000000 word

-- a number that a package is made from: one to ten decimal digits, with a value up to 4,294,967,295
abbrev pub number : List ℕ → Option ℕ
number word = short_decimal 10 4294967295 word

-- a number that is not 0
abbrev pub above_zero : ℕ → Option ℕ
above_zero n = if n == 0 then None else Some n

-- how many classes: one to three decimal digits, with a value from 1 to 250
abbrev pub size : List ℕ → Option ℕ
size word = option_and_then above_zero (short_decimal 3 250 word)

-- what the words after the program's name ask for, where they are of a form
abbrev pub request : List (List ℕ) → Option Request
request (verb ∷ list ∷ dir ∷ []) =
    if bytes_eq verb (codes "convert") then Some (convert list dir)
    else if bytes_eq verb (codes "check") then Some (check list dir)
    else if bytes_eq verb (codes "make") then option_and_then (λ n. option_map (make n) (size dir)) (number list)
    else if bytes_eq verb (codes "verify") then Some (verify list dir)
    else if bytes_eq verb (codes "compat") then Some (compat list dir)
    else None
request (verb ∷ list ∷ script ∷ n ∷ []) =
    if bytes_eq verb (codes "jvm") then option_map (jvm list script) (count n)
    else if bytes_eq verb (codes "link") then option_map (link list script) (count n)
    else if bytes_eq verb (codes "linkjvm") then option_map (linkjvm list script) (count n)
    else None
request (verb ∷ list ∷ dir ∷ script ∷ n ∷ []) = if bytes_eq verb (codes "card") then option_map (card list dir script)
    (count n) else None
request words = None
