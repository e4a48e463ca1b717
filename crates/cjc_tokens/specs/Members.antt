-- Members by name and descriptor, and which methods are virtual.
use Rattle.std.specs.Prelude.{ℕ, List, [], ◌∷◌, ◌++◌, Bool, false, not, ◌&&◌, ◌||◌, if◌then◌else◌, Option, Some, None}
use Rattle.std.specs.Prelude.{codes}
use Rattle.std.specs.Str.{bytes_eq}
use Rattle.cjc_world.specs.Classes.{Member, Class}
use Rattle.cjc_bytes.specs.AccessFlags.{is_public, is_protected}
use Rattle.cjc_world.specs.Lookup.{is_called, is_selectable}

-- the name and the descriptor of a method
pub record Signature : Type 0 where
  pub name : List ℕ
  pub desc : List ℕ

-- the signature of a field or method
abbrev pub signature_of : Member → Signature
signature_of m = record { name = m.name; desc = m.desc }

-- both have the same name and the same descriptor
abbrev pub same : Signature → Signature → Bool
same s t = bytes_eq s.name t.name && bytes_eq s.desc t.desc

-- whether the signature is one of these
abbrev pub has : List Signature → Signature → Bool
has [] s = false
has (t ∷ ts) s = same t s || has ts s

-- the signatures of the methods that pass the test, in their order
abbrev pub signatures : (Member → Bool) → List Member → List Signature
signatures test [] = []
signatures test (m ∷ ms) = if test m then signature_of m ∷ signatures test ms else signatures test ms

-- public or protected
abbrev pub is_exposed : ℕ → Bool
is_exposed flags = is_public flags || is_protected flags

-- a constructor
abbrev pub is_constructor : List ℕ → Bool
is_constructor name = bytes_eq name (codes "<init>")

-- the initialiser of a class, which has no token
abbrev pub is_initialiser : List ℕ → Bool
is_initialiser name = bytes_eq name (codes "<clinit>")

-- neither static nor private, and no constructor
abbrev pub is_virtual_by : (flags : ℕ) → (name : List ℕ) → Bool
is_virtual_by flags name = is_selectable flags && not (is_constructor name || is_initialiser name)

-- the same of a method of a class
abbrev pub is_virtual : Member → Bool
is_virtual m = is_virtual_by m.flags m.name

-- a virtual method that is public or protected
abbrev pub is_shown : Member → Bool
is_shown m = is_exposed m.flags && is_virtual m

-- a virtual method that is package-visible
abbrev pub is_hidden : Member → Bool
is_hidden m = not (is_exposed m.flags) && is_virtual m

-- the methods of these classes, in turn
abbrev pub all_methods : List Class → List Member
all_methods [] = []
all_methods (c ∷ cs) = c.methods ++ all_methods cs

-- the member stands in the list
pub data In (m : Member) : List Member → Type 0 where
  first_of : {ms : List Member} → In m (m ∷ ms)
  later : {n : Member} {ms : List Member} → In m ms → In m (n ∷ ms)

-- the first method of the signature that passes the test
abbrev pub chosen : (Member → Bool) → Signature → List Member → Option Member
chosen test s [] = None
chosen test s (m ∷ ms) = if test m && is_called s.name s.desc m then Some m else chosen test s ms
