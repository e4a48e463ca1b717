-- The methods that an abstract class gets: one for each method of its interfaces that it neither declares nor
-- inherits from a superclass as a public or protected method that is not static.
use Rattle.std.specs.Prelude.{ℕ, zero, suc, ◌+◌, ◌==◌, List, [], ◌∷◌, ◌++◌, map, length, slice_get, Bool, true, false}
use Rattle.std.specs.Prelude.{not, ◌&&◌, ◌||◌, if◌then◌else◌, Option, Some, None, codes}
use Rattle.std.specs.List.{list_any}
use Rattle.std.specs.Str.{bytes_eq}
use Rattle.cjc_bytes.specs.declared.fault.MemberId.{MemberId}
use Rattle.cjc_classfile.specs.declared.tree.ClassTree.{ClassTree}
use Rattle.cjc_world.specs.Files.{Files}
use Rattle.cjc_world.specs.Classes.{Member, Class, declared, all_classes}
use Rattle.cjc_bytes.specs.AccessFlags.{is_public, is_protected, is_static, is_interface, is_abstract}
use Rattle.cjc_world.specs.Supertypes.{Supertypes, End, Unknown, Known, supertypes}
use Rattle.cjc_world.specs.Interfaces.{gathered, known}
use Rattle.cjc_world.specs.Lookup.{is_called}

-- an abstract class of the package that is no interface
abbrev pub takes_added : Class → Bool
takes_added c = not c.is_imported && is_abstract c.flags && not (is_interface c.flags)

-- public or protected, and not static
abbrev pub is_open : ℕ → Bool
is_open flags = (is_public flags || is_protected flags) && not (is_static flags)

-- whether the class declares a method of this name and descriptor that is public or protected and not static
abbrev pub declares_open : List ℕ → List ℕ → Class → Bool
declares_open name desc c = list_any (λ m. is_open m.flags && is_called name desc m) c.methods

-- ---- an interface's own methods by token

-- the first method of the token, alone, or none
abbrev pub with_token : ℕ → List Member → List Member
with_token token [] = []
with_token token (m ∷ ms) = if m.token == token then m ∷ [] else with_token token ms

-- so many tokens from one on
abbrev pub by_token : (count token : ℕ) → List Member → List Member
by_token zero token ms = []
by_token (suc count) token ms = with_token token ms ++ by_token count (token + 1) ms

-- <clinit> is no method of an interface that another class has
abbrev pub without_initialiser : List Member → List Member
without_initialiser [] = []
without_initialiser (m ∷ ms) = if bytes_eq m.name (codes "<clinit>") then without_initialiser ms
    else m ∷ without_initialiser ms

-- An interface of an export file has its methods by the tokens that stand there. One of the package has the order
-- of its class file.
unfoldable pub own_methods : Class → List Member
own_methods c = without_initialiser (if c.is_imported then by_token (length c.methods) 0 c.methods else c.methods)

-- The methods of interfaces in order. The superinterfaces of each stand before it, so its own are all that is new.
unfoldable pub methods_of : List Class → List Member
methods_of [] = []
methods_of (c ∷ cs) = own_methods c ++ methods_of cs

-- the methods of all interfaces, as far as some file has them, of a class with these supers and interfaces
unfoldable pub asked_by : (supers interfaces : Supertypes) → List Member
asked_by supers interfaces = methods_of (known (gathered false supers ++ gathered true interfaces))

-- ---- what a class has

-- whether one of the methods has the name and the descriptor
abbrev pub is_one_of : List Member → List ℕ → List ℕ → Bool
is_one_of ms name desc = list_any (λ m. is_called name desc m) ms

-- Whether some class of these or above declares such a method that is public or protected and not static, or gets it.
unfoldable pub has_open : List ℕ → List ℕ → Supertypes → Bool
has_open name desc End = false
has_open name desc (Unknown x next) = has_open name desc next
has_open name desc (Known c supers interfaces next) =
    declares_open name desc c || has_open name desc supers
    || (takes_added c && is_one_of (asked_by supers interfaces) name desc)
    || has_open name desc next

-- each name and descriptor once, of those that are not there
unfoldable pub lacking : (Member → Bool) → List Member → List Member → List Member
lacking is_there given [] = []
lacking is_there given (m ∷ ms) =
    if is_there m || is_one_of given m.name m.desc then lacking is_there given ms
    else m ∷ lacking is_there (given ++ m ∷ []) ms

-- The methods that a class gets, in the order of its interfaces and by token.
unfoldable pub added : List Class → Class → List Member
added w c =
    if takes_added c
    then lacking (λ m. declares_open m.name m.desc c || has_open m.name m.desc (supertypes w c.supers)) []
    (asked_by (supertypes w c.supers) (supertypes w c.interfaces))
    else []

-- a method of the class of this name, by its own name and its descriptor
abbrev pub named_by : List ℕ → Member → MemberId
named_by class m = record { class = class; name = m.name; desc = m.desc }

-- what the class of a file gets, by the name of the class
abbrev pub added_to : List Class → ℕ → Option ClassTree → List MemberId
added_to w number None = []
added_to w number (Some c) = map (named_by c.name) (added w (declared number c))

-- what a class of the package gets, by its place in list order
unfoldable pub added_at : Files → ℕ → List MemberId
added_at files number = added_to (all_classes files) number (slice_get files.classes number)
