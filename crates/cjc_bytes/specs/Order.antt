-- The order of refusals: the first that is broken is answered.
use Rattle.std.specs.Prelude.{◌≡◌, ◌⊎◌, ◌<◌, ◌+◌, ◌*◌, ◌^◌, ℕ, zero, suc, List, [], ◌∷◌, if◌then◌else◌}
use Rattle.cjc_bytes.specs.declared.order.FileKey.{FileKey}
use Rattle.cjc_bytes.specs.declared.order.FileKey.TheVariants as keys
use Rattle.cjc_bytes.specs.declared.order.GroupKey.{GroupKey}
use Rattle.cjc_bytes.specs.declared.order.GroupKey.TheVariants as groups
use Rattle.cjc_bytes.specs.declared.settings.FileLine.{FileLine}

-- The number by which files are compared: the list, then the files of its lines, the components by their tags, the
-- script. A list has fewer than 2^64 lines, and tags begin with 1.
abbrev pub file_number : FileKey → ℕ
file_number keys.List = 0
file_number (keys.Line i) = i + 1
file_number (keys.Component tag) = 2 ^ 64 + tag
file_number keys.Script = 2 ^ 64 + 256

-- Of several packages: the file that names them, then package by package, then the script. No file of a package has a
-- number of 2^65 or more, and no package an index of 256 or more.
abbrev pub group_number : GroupKey → ℕ
group_number groups.Group = 0
group_number (groups.Of p file) = (p + 1) * 2 ^ 65 + file_number file
group_number groups.Script = 257 * 2 ^ 65

-- a file, and its name as a refusal tells it
pub record FilePlace : Type 0 where
  pub key : FileKey
  pub name : List ℕ

-- The file of the class file of this number among those of these lines, where so many lines stand before them. Where
-- there is none it stands behind all files of the list, and has no name.
abbrev pub file_from : (before : ℕ) → List FileLine → (number : ℕ) → FilePlace
file_from n [] k = record { key = keys.Line n; name = [] }
file_from n (line ∷ lines) zero = if line.class_file then record { key = keys.Line n; name = line.name }
    else file_from (n + 1) lines zero
file_from n (line ∷ lines) (suc k) = if line.class_file then file_from (n + 1) lines k
    else file_from (n + 1) lines (suc k)

-- the file of the package's class of this number
abbrev pub file_of : List FileLine → ℕ → FilePlace
file_of lines number = file_from 0 lines number

-- Where a broken rule stands. The first number that differs decides.
pub record Rank : Type 0 where
  -- the hundreds digit of the rule
  pub family : ℕ
  -- by the file's number
  pub file : ℕ
  -- the class's place in its file, from 1; the empty class is 0
  pub class : ℕ
  -- the class itself is 0; then its fields, its methods, in the order of its file
  pub member : ℕ
  pub offset : ℕ
  pub rule : ℕ

-- the numbers by which two broken rules are compared, the weightiest first
abbrev pub numbers : Rank → List ℕ
numbers r = r.family ∷ r.file ∷ r.class ∷ r.member ∷ r.offset ∷ r.rule ∷ []

-- The first number that differs is the lower one.
abbrev pub AreUpTo : List ℕ → List ℕ → Type 0
AreUpTo [] ys = Unit {0}
AreUpTo (x ∷ xs) [] = ⊥
AreUpTo (x ∷ xs) (y ∷ ys) = (x < y) ⊎ ((x ≡ y) × AreUpTo xs ys)

-- One does not stand after the other.
abbrev pub NotAfter : Rank → Rank → Type 0
NotAfter a b = AreUpTo (numbers a) (numbers b)
