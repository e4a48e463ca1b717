-- The AID of an applet line has at most 16 bytes, as the grammar of lists asks.
use Rattle.std.proofs.Common.{◌≡◌, ◌⊎◌, inl, inr, ⊎_elim, ◌≤◌, ℕ, refl, sym, ap, subst, Bool, true, false, List, []}
use Rattle.std.proofs.Common.{◌∷◌, ◌++◌, length, Option, Some, None}
use Rattle.std.specs.Prelude.{Ok, codes, if◌then◌else◌}
use Rattle.std.specs.List.{AllByRecursion}
use Rattle.std.specs.Str.{bytes_eq}
use Rattle.cjc_bytes.specs.Text.{TextLine}
use Rattle.cjc_bytes.specs.declared.settings.AppletLine.{AppletLine}
use Rattle.cjc_bytes.specs.declared.settings.FileLine.{FileLine}
use Rattle.cjc_shape_proof.proofs.WrittenLaws.FittingLaws.Lists.{all_both}
use Rattle.cjc_shape_proof.specs.Written.LaidOut.{AidsAreShort}
use Rattle.cjc_judge.specs.Spelt.{IsRead}
use Rattle.cjc_components.specs.List.Grammar.{◌>>=◌, aid_of, applet_of, has_room, is_name, item_of, package_of}
use Rattle.cjc_components.specs.List.Grammar.{with_item}
use Rattle.cjc_components.specs.List.Grammar.{with_line}
use Rattle.cjc_components.specs.List.Listed.{ListTree, of_lines, said, with_lines}
use Rattle.cjc_components.proofs.List.Items.{aid_is, package_says}
use Rattle.cjc_components.proofs.List.Texts.{lines_are}
use Rattle.cjc_components.proofs.List.Wholes.{onward_ok, said_ok}

-- each has at most 16 bytes
abbrev IsShort : AppletLine → Type 0
IsShort a = length a.aid ≤ 16

-- ---- what a test lets through

if_then : {A B : Type 0} (c : Bool) (o : Option A) (f : A → Option B) (t : B) → ((if c then o else None) >>= f) ≡ Some t
    → (o >>= f) ≡ Some t
if_then true o f t e = e
if_then false o f t e = absurd cc

if_else : {A B : Type 0} (c : Bool) (o q : Option A) (f : A → Option B) (t : B) → ((if c then o else q) >>= f) ≡ Some t
    → ((o >>= f) ≡ Some t) ⊎ ((q >>= f) ≡ Some t)
if_else true o q f t e = inl e
if_else false o q f t e = inr e

with_aid : {A B : Type 0} (o : Option (List ℕ)) (g : List ℕ → Option A) (f : A → Option B) (t : B)
    → ((o >>= g) >>= f) ≡ Some t → (aid : List ℕ) × (o ≡ Some aid) × ((g aid >>= f) ≡ Some t)
with_aid None g f t e = absurd cc
with_aid (Some aid) g f t e = (aid, refl, e)

-- ---- lines

-- a file line leaves the applets as they are
file_kept : (list t : ListTree) (b : Bool) (lines : List FileLine) → (if b then Some (record list { lines = lines })
    else None) ≡ Some t → AllByRecursion IsShort list.applets → AllByRecursion IsShort t.applets
file_kept list t true lines e short = let same : record list { lines = lines } ≡ t = cc
    in subst (AllByRecursion IsShort) (ap (λ (l : ListTree). l.applets) same) short
file_kept list t false lines e short = absurd cc

-- and so does a line `int`
int_kept : (list t : ListTree) (b : Bool) → (if b then None else Some (record list { ints = true })) ≡ Some t
    → AllByRecursion IsShort list.applets → AllByRecursion IsShort t.applets
int_kept list t true e short = absurd cc
int_kept list t false e short = let same : record list { ints = true } ≡ t = cc
    in subst (AllByRecursion IsShort) (ap (λ (l : ListTree). l.applets) same) short

line_short : (list : ListTree) (ws : List (List ℕ)) (t : ListTree) → with_line list ws ≡ Some t
    → AllByRecursion IsShort list.applets → AllByRecursion IsShort t.applets
unfolding with_line item_of applet_of with_item
line_short list [] t e short = absurd cc
line_short list (keyword ∷ []) t e short = int_kept list t list.ints (if_then (bytes_eq keyword (codes "int")) _
    (with_item list) t e) short
line_short list (keyword ∷ file ∷ []) t e short =
    ⊎_elim
    (λ class. file_kept list t (has_room true list.lines) _ class short)
    (λ other. file_kept list t (has_room false list.lines) _ (if_then (bytes_eq keyword (codes "export")) _
    (with_item list) t other) short)
    (if_else (bytes_eq keyword (codes "class")) _ _ (with_item list) t e)
line_short list (keyword ∷ class ∷ digits ∷ []) t e short =
    let aid = with_aid (aid_of digits) _ (with_item list) t (if_then (bytes_eq keyword (codes "applet")) _
    (with_item list) t e) in
    let made = if_then (is_name class) _ (with_item list) t aid.2 in
    let one : AppletLine = record { class = class; aid = aid.0 } in
    let same : record list { applets = list.applets ++ one ∷ [] } ≡ t = cc in
    let fits = aid_is digits aid.0 aid.1 in
    subst (AllByRecursion IsShort) (ap (λ (l : ListTree). l.applets) same) (all_both IsShort list.applets (one
    ∷ []) short (fits.2, tt))
line_short list (a ∷ b ∷ c ∷ d ∷ ws) t e short = absurd cc

lines_short : (list : ListTree) (ls : List TextLine) (t : ListTree) → with_lines list ls ≡ Ok t
    → AllByRecursion IsShort list.applets → AllByRecursion IsShort t.applets
unfolding with_lines
lines_short list [] t e short = let same : list ≡ t = cc
    in subst (AllByRecursion IsShort) (ap (λ (l : ListTree). l.applets) same) short
lines_short list (l ∷ ls) t e short =
    let one = onward_ok (said (with_line list) l) (λ more. with_lines more ls) t e in
    let line = said_ok (with_line list) l one.0 one.1 in
    lines_short one.0 ls t one.2 (line_short list line.0 one.0 line.2 short)

pub aids_short : (list : ListTree) → IsRead list → AidsAreShort list
unfolding of_lines
aids_short list read =
    let spelt = read.2.0 in
    let one = onward_ok (said (package_of list.name) spelt.0) (λ more. with_lines more spelt.1) list
    (lines_are list.name 0 spelt.0 spelt.1 list spelt.3) in
    let line = said_ok (package_of list.name) spelt.0 one.0 one.1 in
    let begins = (package_says list.name line.0 one.0 line.2).1 in
    lines_short one.0 spelt.1 list one.2 (subst (AllByRecursion IsShort) (sym (ap (λ (l : ListTree). l.applets) begins))
    tt)
