-- The AIDs of applets, by the grammar of lists.
use Rattle.std.proofs.Common.{◌≡◌, ◌≤◌, ◌⊎◌, ℕ, Bool, true, false, List, [], ◌∷◌, ◌++◌, length, ap, codes, inl, inr}
use Rattle.std.proofs.Common.{◌∙◌, subst, sym, ⊎_elim, Option, Some, None}
use Rattle.std.specs.Prelude.{Ok, if◌then◌else◌}
use Rattle.std.specs.List.{AllByRecursion}
use Rattle.std.specs.Str.{bytes_eq}
use Rattle.std.proofs.lemmas.Option.{cond_some}
use Rattle.cjc_bytes.specs.Text.{TextLine}
use Rattle.cjc_bytes.specs.declared.settings.AppletLine.{AppletLine}
use Rattle.cjc_bytes.proofs.Options.{onward_ok, where_true}
use Rattle.cjc_bytes.proofs.Quantified.{all_both}
use Rattle.cjc_shape_proof.specs.Written.LaidOut.{AidsAreShort}
use Rattle.cjc_shape.specs.LowerJudge.Spelt.{IsRead}
use Rattle.cjc_components.proofs.ListItems.{aid_is, onward, package_says}
use Rattle.cjc_components.proofs.ListTexts.{lines_are}
use Rattle.cjc_components.proofs.ListWholes.{said_ok}
use Rattle.cjc_classes.specs.List.Grammar.{aid_of, applet_of, has_room, is_name, item_of, package_of, with_item}
use Rattle.cjc_classes.specs.List.Grammar.{with_line}
use Rattle.cjc_classes.specs.List.Listed.{ListTree, of_lines, said, with_lines}

abbrev IsShort : AppletLine → Type 0
IsShort a = length a.aid ≤ 16

either_if : {A : Type 0} (b : Bool) (x : A) (o : Option A) (y : A) → (if b then Some x else o) ≡ Some y → (x ≡ y)
    ⊎ (o ≡ Some y)
either_if true x o y e = inl (cc)
either_if false x o y e = inr e

-- ---- one line more

-- a line that names a file
file_keeps : (l m : ListTree) (keyword file : List ℕ) → with_line l (keyword ∷ file ∷ []) ≡ Some m
    → l.applets ≡ m.applets
unfolding with_line item_of with_item
file_keeps l m keyword file e =
    let r = onward (item_of (keyword ∷ file ∷ [])) (with_item l) m e in
    ⊎_elim
    (λ same. as_file true (ap (with_item l) same ∙ r.2))
    (λ other. ⊎_elim (λ same. as_file false (ap (with_item l) same ∙ r.2)) (λ none. absurd (cc))
    (either_if (bytes_eq keyword (codes "export")) _ None r.0 other))
    (either_if (bytes_eq keyword (codes "class")) _ _ r.0 r.1)
  where
    as_file : (b : Bool)
        → (if has_room b l.lines then Some (record l {
          lines = l.lines ++ (record { class_file = b; name = file })
              ∷ [];
        }) else None) ≡ Some m → l.applets ≡ m.applets
    as_file b f = let p = cond_some (has_room b l.lines) (record l {
      lines = l.lines
          ++ (record { class_file = b; name = file }) ∷ [];
    }) m f in ap (λ (t : ListTree). t.applets) p.1

-- a line `int`
int_keeps : (l m : ListTree) (keyword : List ℕ) → with_line l (keyword ∷ []) ≡ Some m → l.applets ≡ m.applets
unfolding with_line item_of with_item
int_keeps l m keyword e =
    let r = onward (item_of (keyword ∷ [])) (with_item l) m e in
    ⊎_elim (λ same. as_int l.ints (ap (with_item l) same ∙ r.2)) (λ none. absurd (cc))
    (either_if (bytes_eq keyword (codes "int")) _ None r.0 r.1)
  where
    as_int : (b : Bool) → (if b then None else Some (record l { ints = true })) ≡ Some m → l.applets ≡ m.applets
    as_int true f = absurd cc
    as_int false f = let same : record l { ints = true } ≡ m = cc in ap (λ (t : ListTree). t.applets) same

-- a line that names an applet
applet_keeps : (l m : ListTree) (keyword class digits : List ℕ) → with_line l (keyword ∷ class ∷ digits ∷ []) ≡ Some m
    → AllByRecursion IsShort l.applets → AllByRecursion IsShort m.applets
unfolding with_line item_of with_item applet_of
applet_keeps l m keyword class digits e short =
    let r = onward (item_of (keyword ∷ class ∷ digits ∷ [])) (with_item l) m e in
    let a = where_true (bytes_eq keyword (codes "applet")) (applet_of class digits) r.0 r.1 in
    let aid = onward (aid_of digits) _ r.0 a in
    let named = cond_some (is_name class) _ r.0 aid.2 in
    as_applet aid.0 (aid_is digits aid.0 aid.1).2 (ap (with_item l) named.1 ∙ r.2)
  where
    as_applet : (aid : List ℕ) → length aid ≤ 16
        → Some (record l { applets = l.applets ++ (record { class = class; aid = aid }) ∷ [] }) ≡ Some m
        → AllByRecursion IsShort m.applets
    as_applet aid le f =
        let same : record l { applets = l.applets ++ (record { class = class; aid = aid }) ∷ [] } ≡ m = cc in
        subst (λ (t : ListTree). AllByRecursion IsShort t.applets) same (all_both IsShort l.applets
        ((record { class = class; aid = aid }) ∷ []) short (le, tt))

line_keeps : (l m : ListTree) (ws : List (List ℕ)) → with_line l ws ≡ Some m → AllByRecursion IsShort l.applets
    → AllByRecursion IsShort m.applets
unfolding with_line item_of
line_keeps l m [] e short = absurd cc
line_keeps l m (a ∷ []) e short = subst (AllByRecursion IsShort) (int_keeps l m a e) short
line_keeps l m (a ∷ b ∷ []) e short = subst (AllByRecursion IsShort) (file_keeps l m a b e) short
line_keeps l m (a ∷ b ∷ c ∷ []) e short = applet_keeps l m a b c e short
line_keeps l m (a ∷ b ∷ c ∷ d ∷ ws) e short = absurd cc

lines_keep : (l m : ListTree) (ls : List TextLine) → with_lines l ls ≡ Ok m → AllByRecursion IsShort l.applets
    → AllByRecursion IsShort m.applets
unfolding with_lines
lines_keep l m [] e short = let same : l ≡ m = cc in subst (λ (t : ListTree). AllByRecursion IsShort t.applets) same
    short
lines_keep l m (t ∷ ls) e short =
    let r = onward_ok (said (with_line l) t) (λ more. with_lines more ls) m e in
    let s = said_ok (with_line l) t r.0 r.1 in
    lines_keep r.0 m ls r.2 (line_keeps l r.0 s.0 s.2 short)

-- ---- the whole list

spelt_short : (list : ListTree) (first : TextLine) (rest : List TextLine) → of_lines list.name 0 (first ∷ rest)
    ≡ Ok list → AidsAreShort list
unfolding of_lines
spelt_short list first rest e =
    let r = onward_ok (said (package_of list.name) first) (λ l. with_lines l rest) list e in
    let s = said_ok (package_of list.name) first r.0 r.1 in
    let fresh = (package_says list.name s.0 r.0 s.2).1 in
    lines_keep r.0 list rest r.2 (subst (λ (t : ListTree). AllByRecursion IsShort t.applets) (sym fresh) tt)

pub aids_short : (list : ListTree) → IsRead list → AidsAreShort list
aids_short list read = spelt_short list read.2.0.0 read.2.0.1 (lines_are list.name 0 read.2.0.0 read.2.0.1 list
    read.2.0.3)
