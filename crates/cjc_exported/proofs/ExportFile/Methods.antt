-- The methods of a class as the code lends them.
use Rattle.std.proofs.Common.{◌≡◌, ℕ, zero, suc, ◌+◌, ◌-◌, ◌≤◌, refl, sym, ap, ◌∙◌, arith, ◌<◌, Bool, true, false, List}
use Rattle.std.proofs.Common.{[], ◌∷◌, drop, length, map}
use Rattle.std.specs.Prelude.{Option, Some, None, if◌then◌else◌, filter, is_some, nat_le, position, slice_get}
use Rattle.std.specs.Prelude.{option_map, unwrap_or, ◌||◌}
use Rattle.std.proofs.Math.ListN.{drop_of_length-le}
use Rattle.std.proofs.lemmas.Option.{slice_get-map}
use Rattle.cjc_world.specs.Bytes.AccessFlags.{is_interface}
use Rattle.cjc_world.specs.Files.{Files}
use Rattle.cjc_world.specs.Classes.{Member, Class, all_classes, class_at}
use Rattle.cjc_world.specs.Added.{added, added_at, added_to, named_by}
use Rattle.cjc_world.specs.declared.class.Known.{Known}
use Rattle.cjc_world.specs.declared.found.Found.{Found}
use Rattle.cjc_world.specs.Working.Known.{class_of}
use Rattle.cjc_world.specs.Lookup.{is_called, member_at}
use Rattle.cjc_components.specs.LowerTokens.Members.{Signature, has, signatures}
use Rattle.cjc_components.specs.LowerTokens.Lines.{line_at}
use Rattle.cjc_components.specs.LowerTokens.Methods.{interface_row}
use Rattle.cjc_components.specs.LowerTokens.Slots.{row}
use Rattle.cjc_components.specs.LowerTokens.Tokens.{assigned, public_in, public_methods_of}
use Rattle.cjc_components.specs.LowerTokens.declared.slot.Slot.{Slot}
use Rattle.cjc_components.specs.LowerTokens.Working.{signature_in, signs}
use Rattle.cjc_components.proofs.TokensFacts.{position-cons}
use Rattle.cjc_components.proofs.VTableNumbers.{at-kind, at-tree}
use Rattle.cjc_components.specs.Package.{Package}
use Rattle.cjc_components.specs.Descriptor.{as_added, methods_with_added, no_member}
use Rattle.cjc_components.specs.ExportFile.{added_from, method_entry, supers_from}
use Rattle.cjc_components.specs.Names.{member_token}
use Rattle.cjc_exported.specs.ExportFile.Working.Sources.{AreSources, IsNumbered, bare, given, given_from, is_of_kind}
use Rattle.cjc_exported.specs.ExportFile.Working.Sources.{world_in}
use Rattle.cjc_exported.specs.declared.export_file.source.Source.{Source}
use Rattle.cjc_exported.proofs.ExportFile.ByNumber.{of-number}
use Rattle.cjc_world.proofs.BytesGets.{get_back}
use Rattle.cjc_components.proofs.TokensMeans.{kept-at}

-- ---- the class of a number

pub numbered-at : (w : List Class) (b : Bool) (n : ℕ) (c : Class) → class_at w b n ≡ Some c
    → class_at w c.is_imported c.number ≡ Some c
numbered-at w b n c e = let k = at-kind w b n c e in ap (λ q. class_at w q c.number) k.0 ∙ ap (class_at w b) k.1 ∙ e

-- ---- methods that are added

pub given-behind : (n : List ℕ) (ms : List Member) (k : ℕ)
    → unwrap_or (option_map given (slice_get (map (named_by n) ms) k)) no_member
    ≡ bare (unwrap_or (slice_get (map as_added ms) k) no_member)
given-behind n [] k = refl
given-behind n (m ∷ ms) zero = refl
given-behind n (m ∷ ms) (suc k) = given-behind n ms k

-- the method at a place behind a class's own
pub given-place : (w : List Class) (c : Class) (place : ℕ) → length c.methods ≤ place
    → unwrap_or (option_map given (slice_get (map (named_by c.name) (added w c)) (place - length c.methods))) no_member
    ≡ bare (unwrap_or (slice_get (methods_with_added w c) place) no_member)
given-place w c place le =
    given-behind c.name (added w c) (place - length c.methods)
    ∙ ap (λ o. bare (unwrap_or o no_member)) (sym (get_back c.methods (map as_added (added w c)) place le))

pub given-added : (p : Package) (c : Class) (n : List ℕ) (i : ℕ) (ms : List Member)
    → given_from p c i (map (named_by n) ms) ≡ added_from p c i ms
given-added p c n i [] = refl
given-added p c n i (m ∷ ms) = ap (λ q. method_entry (member_token p (Some (member_at c i))) (as_added m)
    ∷ q) (given-added p c n (i + 1) ms)

pub added-declared : (files : Files) (c : Class) → class_at (all_classes files) false c.number ≡ Some c
    → added_at files c.number ≡ map (named_by c.name) (added (all_classes files) c)
unfolding added_at
added-declared files c there =
    let t = at-tree files c.number c there in
    ap (added_to (all_classes files) c.number) t.1
    ∙ ap (λ (q : Class). map (named_by q.name) (added (all_classes files) q)) (sym t.2)

-- ---- whether an interface declares a method

pub has-declared : (ms : List Member) (s : Signature) → is_some (position (λ m. is_called s.name s.desc m) ms)
    ≡ has (signatures (λ m. true) ms) s
has-declared [] s = refl
has-declared (m ∷ ms) s = ap is_some (position-cons (λ m. is_called s.name s.desc m) m ms)
    ∙ by (is_called s.name s.desc m) (position (λ m. is_called s.name s.desc m) ms) (has-declared ms s)
  where
    by : (b : Bool) (o : Option ℕ) → is_some o ≡ has (signatures (λ m. true) ms) s
        → is_some (if b then Some 0 else option_map suc o) ≡ (b || has (signatures (λ m. true) ms) s)
    by true o e = refl
    by false None e = e
    by false (Some i) e = e

-- ---- the methods that tokens mean

pub public-methods : (files : Files) (applets : Bool) (c : Class) → class_at (all_classes files) false c.number ≡ Some c
    → public_methods_of (assigned applets files) c.number ≡ (if is_interface c.flags
    then interface_row (all_classes files) c else row (line_at (all_classes files) c))
unfolding assigned
public-methods files applets c there =
    let t = at-tree files c.number c there in
    let r = kept-at files applets c.number t.0 t.1 in
    ap public_in r.1
    ∙ ap (λ (q : Class). if is_interface q.flags then interface_row (all_classes files) q
    else row (line_at (all_classes files) q)) (sym t.2)

-- ---- the code's classes by their numbers

pub class-by-number : (files : Files) (kind : Bool) (items : List Known) (n : ℕ)
    → map class_of items ≡ filter (is_of_kind kind) (all_classes files) → option_map class_of (slice_get items n)
    ≡ class_at (all_classes files) kind n
class-by-number files kind items n e = sym (slice_get-map class_of items n) ∙ ap (λ (xs : List Class). slice_get xs n) e
    ∙ of-number files kind n

pub declared-at : (s : Source) → AreSources s → (n : ℕ) (k : Known) → slice_get s.declared.items n ≡ Some k
    → IsNumbered s (class_of k) × ((class_of k).is_imported ≡ false)
declared-at s all n k e =
    let at : class_at (world_in s) false n ≡ Some (class_of k) =
    sym (class-by-number s.world.now false s.declared.items n all.declared) ∙ ap (option_map class_of) e in
    (numbered-at (world_in s) false n (class_of k) at, (at-kind (world_in s) false n (class_of k) at).0)

-- ---- the slots of an interface

pub slot-signed : (slots : List (Option Slot)) (ms : List Signature) (i : ℕ) (o : Option Slot)
    → signs slots ≡ map Some ms → slice_get slots i ≡ Some o → (s : Signature) × (option_map signature_in o ≡ Some s)
    × (slice_get ms i ≡ Some s)
slot-signed slots ms i o is at =
    by (slice_get ms i) refl
    (sym (slice_get-map (λ (s : Signature). Some s) ms i) ∙ ap (λ (xs : List (Option Signature)). slice_get xs i)
    (sym is) ∙ slice_get-map (option_map signature_in) slots i ∙ ap (option_map (option_map signature_in)) at)
  where
    by : (r : Option Signature) → slice_get ms i ≡ r → option_map (λ (s : Signature). Some s) r
        ≡ Some (option_map signature_in o) → (s : Signature) × (option_map signature_in o ≡ Some s)
        × (slice_get ms i ≡ Some s)
    by None g e = cc
    by (Some s) g e = let same_one : option_map signature_in o ≡ Some s = cc in (s, same_one, g)

pub supers-ended : (w : List Class) (c : Class) (ms : List Signature) (means : List (Option Found)) (i : ℕ)
    → (i < length ms → i < length means → ⊥) → supers_from w c i (drop i ms) (drop i means) ≡ []
supers-ended w c ms means i none = by (nat_le (length ms) i) (nat_le (length means) i) refl refl
  where
    nothing : (xs : List Signature) → supers_from w c i xs [] ≡ []
    nothing [] = refl
    nothing (x ∷ xs) = refl

    by : (a b : Bool) → nat_le (length ms) i ≡ a → nat_le (length means) i ≡ b
        → supers_from w c i (drop i ms) (drop i means) ≡ []
    by true b e f = let h : length ms ≤ i = grind arith
        in ap (λ (xs : List Signature). supers_from w c i xs (drop i means)) (drop_of_length-le ms h)
    by false true e f = let h : length means ≤ i = grind arith
        in ap (λ (ys : List (Option Found)). supers_from w c i (drop i ms) ys) (drop_of_length-le means h)
        ∙ nothing (drop i ms)
    by false false e f = let h : i < length ms = grind arith in let g : i < length means = grind arith
        in absurd (none h g)

pub own-number : (files : Files) (items : List Known) (n : ℕ) (k : Known)
    → map class_of items ≡ filter (is_of_kind false) (all_classes files) → slice_get items n ≡ Some k
    → class_at (all_classes files) false (class_of k).number ≡ Some (class_of k)
own-number files items n k e at =
    let there : class_at (all_classes files) false n ≡ Some (class_of k) = sym (class-by-number files false items n e)
    ∙ ap (option_map class_of) at in
    ap (class_at (all_classes files) false) (at-kind (all_classes files) false n (class_of k) there).1 ∙ there
