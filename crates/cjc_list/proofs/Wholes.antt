-- The lines behind the package line, as items and as a function.
use Rattle.std.proofs.Common.{◌≡◌, ℕ, ◌+◌, Bool, true, false, not, cond, List, [], ◌∷◌, ◌++◌, Option, Some, None}
use Rattle.std.proofs.Common.{Ok, Err, refl, sym, ap, ◌∙◌, subst, arith, append_assoc, ◌≤◌, ◌||◌, ltb}
use Rattle.std.specs.Prelude.{option_and_then}
use Rattle.std.proofs.lemmas.List.{append-nil}
use Rattle.std.proofs.lemmas.List.Sums.{sum_by-append, sum_by-cons}
use Rattle.std.proofs.lemmas.Bool.{ltb-true, lt-ltb}
use Rattle.std.proofs.lemmas.Option.{cond_some}
use Rattle.cjc_bytes.specs.declared.settings.AppletLine.{AppletLine}
use Rattle.cjc_bytes.specs.declared.settings.FileLine.{FileLine}
use Rattle.cjc_bytes.specs.Found.{kept}
use Rattle.cjc_bytes.specs.Text.{TextLine, words}
use Rattle.cjc_bytes.proofs.Options.{onward_ok, kept_ok, kept_err}
use Rattle.cjc_bytes.proofs.Bools.{or_true}
use Rattle.cjc_list.specs.declared.listing.List.{List as Listing}
use Rattle.cjc_list.specs.declared.line.Item.{Item}
use Rattle.cjc_list.specs.declared.line.Item.TheVariants.{Applet, File, Int}
use Rattle.cjc_list.specs.Grammar.{item_of, class_count, export_count, has_room, with_item, with_line}
use Rattle.cjc_list.specs.Listed.{said, with_lines}
use Rattle.cjc_list.specs.Spelling.{HasWords, AllSay, applets_of, files_of, int_count, Within}
use Rattle.cjc_list.proofs.Items.{item_says, item_of-says, onward}

-- the list with what these items say
abbrev pub gathered : Listing → List Item → Listing
gathered list items = record list {
  ints = list.ints || ltb 0 (int_count items);
  applets = list.applets ++ applets_of items;
  lines = list.lines ++ files_of items;
}

-- the lines `int` that it has and these items are, of which there is one at most
unfoldable pub IsOnce : Listing → List Item → Type 0
IsOnce list items = cond list.ints 1 0 + int_count items ≤ 1

pub or_none : (b : Bool) → (b || false) ≡ b
or_none true = refl
or_none false = refl

none_more : (b c : Bool) → ((b || false) || c) ≡ (b || c)
none_more true c = refl
none_more false c = refl

one_more_int : (b c : Bool) → ((b || true) || c) ≡ (b || true)
one_more_int true c = refl
one_more_int false c = refl

above_none : (n : ℕ) → ltb 0 (n + 1) ≡ true
above_none n = lt-ltb 0 (n + 1) (omega arith)

-- a list whose items are the same
same_list : (list : Listing) (i j : Bool) (a b : List AppletLine) (f g : List FileLine) → i ≡ j → a ≡ b → f ≡ g
    → ◌≡◌ {A = Listing} (record list { ints = i; applets = a; lines = f }) (record list {
      ints = j;
      applets = b;
      lines = g;
    })
same_list list i j a b f g ints applets lines =
    let made : Bool → List AppletLine → List FileLine → Listing = λ x y z. record list {
      ints = x;
      applets = y;
      lines = z;
    } in
    ap (λ (x : Bool). made x a f) ints ∙ ap (λ (y : List AppletLine). made j y f) applets
    ∙ ap (λ (z : List FileLine). made j b z) lines

pub gathered-none : (list : Listing) → gathered list [] ≡ list
gathered-none list = same_list list _ _ _ _ _ _ (or_none list.ints) (append-nil list.applets) (append-nil list.lines)

-- a list with one item
applet_one : (list : Listing) (a : AppletLine) → record list { applets = list.applets ++ a ∷ [] } ≡ gathered list
    (Applet a ∷ [])
applet_one list a = same_list list _ _ _ _ _ _ (sym (or_none list.ints)) refl (sym (append-nil list.lines))

file_one : (list : Listing) (f : FileLine) → record list { lines = list.lines ++ f ∷ [] } ≡ gathered list
    (File f ∷ [])
file_one list f = same_list list _ _ _ _ _ _ (sym (or_none list.ints)) (sym (append-nil list.applets)) refl

int_one : (list : Listing) → record list { ints = true } ≡ gathered list (Int ∷ [])
int_one list = same_list list _ _ _ _ _ _ (sym (or_true list.ints)) (sym (append-nil list.applets))
    (sym (append-nil list.lines))

pub gathered-more : (list : Listing) (i : Item) (items : List Item) → gathered (gathered list (i ∷ [])) items
    ≡ gathered list (i ∷ items)
gathered-more list (Applet a) items = same_list list _ _ _ _ _ _ (none_more list.ints (ltb 0 (int_count items)))
    (append_assoc list.applets (a ∷ []) (applets_of items)) (ap (λ ls. ls ++ files_of items) (append-nil list.lines))
gathered-more list (File f) items = same_list list _ _ _ _ _ _ (none_more list.ints (ltb 0 (int_count items)))
    (ap (λ xs. xs ++ applets_of items) (append-nil list.applets)) (append_assoc list.lines (f ∷ []) (files_of items))
gathered-more list Int items = same_list list _ _ _ _ _ _
    (one_more_int list.ints (ltb 0 (int_count items)) ∙ ap (λ b. list.ints || b) (sym (above_none (int_count items))))
    (ap (λ xs. xs ++ applets_of items) (append-nil list.applets))
    (ap (λ ls. ls ++ files_of items) (append-nil list.lines))

-- counts of files in a row
pub class_count-append : (xs ys : List FileLine) → class_count (xs ++ ys) ≡ class_count xs + class_count ys
class_count-append xs ys = sum_by-append (λ (f : FileLine). cond f.class_file 1 0) xs ys

pub export_count-append : (xs ys : List FileLine) → export_count (xs ++ ys) ≡ export_count xs + export_count ys
export_count-append xs ys = sum_by-append (λ (f : FileLine). cond (not f.class_file) 1 0) xs ys

class_count-cons : (f : FileLine) (fs : List FileLine) → class_count (f ∷ fs) ≡ cond f.class_file 1 0 + class_count fs
class_count-cons f fs = sum_by-cons (λ (f : FileLine). cond f.class_file 1 0) f fs

export_count-cons : (f : FileLine) (fs : List FileLine) → export_count (f ∷ fs) ≡ cond (not f.class_file) 1 0 +
    export_count fs
export_count-cons f fs = sum_by-cons (λ (f : FileLine). cond (not f.class_file) 1 0) f fs

-- a file more is within the limits where there was room
one_more : (b : Bool) (name : List ℕ) (fs : List FileLine) → has_room b fs ≡ true → Within fs
    → Within (fs ++ record { class_file = b; name = name } ∷ [])
one_more true name fs room w = record {
  classes = omega (arith, ltb-true _ _ room, class_count-append fs (record { class_file = true; name = name } ∷ []));
  exports = omega (arith, w.exports, export_count-append fs (record { class_file = true; name = name } ∷ []));
}
one_more false name fs room w = record {
  classes = omega (arith, w.classes, class_count-append fs (record { class_file = false; name = name } ∷ []));
  exports = omega (arith, ltb-true _ _ room, export_count-append fs (record { class_file = false; name = name } ∷ []));
}

-- and there is room where it is within the limits with more behind it
room_for : (b : Bool) (name : List ℕ) (fs gs : List FileLine) → Within (fs ++ record { class_file = b; name = name }
    ∷ gs) → has_room b fs ≡ true
room_for true name fs gs w =
    let f : FileLine = record { class_file = true; name = name } in
    lt-ltb _ _ (omega (arith, w.classes, class_count-append fs (f ∷ gs), class_count-cons f gs))
room_for false name fs gs w =
    let f : FileLine = record { class_file = false; name = name } in
    lt-ltb _ _ (omega (arith, w.exports, export_count-append fs (f ∷ gs), export_count-cons f gs))

-- the list that a line `int` makes, where there was none
int_is : (b : Bool) (x t : Listing) → cond b None (Some x) ≡ Some t → (b ≡ false) × (x ≡ t)
int_is true x t e = absurd cc
int_is false x t e = (refl, cc)

-- what one item does to a list
pub with_item_is : (list : Listing) (i : Item) (t : Listing) → with_item list i ≡ Some t → Within list.lines
    → (t ≡ gathered list (i ∷ [])) × Within t.lines
unfolding with_item
with_item_is list (Applet a) t e w =
    let P : Listing → Type 0 = λ t. (t ≡ gathered list (Applet a ∷ [])) × Within t.lines in
    let is : record list { applets = list.applets ++ a ∷ [] } ≡ t = cc in
    subst P is (applet_one list a, w)
with_item_is list (File f) t e w =
    let p = cond_some (has_room f.class_file list.lines) (record list { lines = list.lines ++ f ∷ [] }) t e in
    let P : Listing → Type 0 = λ t. (t ≡ gathered list (File f ∷ [])) × Within t.lines in
    subst P p.1 (file_one list f, one_more f.class_file f.name list.lines p.0 w)
with_item_is list Int t e w =
    let P : Listing → Type 0 = λ t. (t ≡ gathered list (Int ∷ [])) × Within t.lines in
    let is = int_is list.ints (record list { ints = true }) t e in
    subst P is.1 (int_one list, w)

-- it is one of one line `int` at most, before the item and behind it
once_before : (list : Listing) (i : Item) (items : List Item) (t : Listing) → with_item list i ≡ Some t
    → IsOnce t items → IsOnce list (i ∷ items)
unfolding with_item IsOnce
once_before list (Applet a) items t e once =
    let is : record list { applets = list.applets ++ a ∷ [] } ≡ t = cc in
    subst (λ (b : Bool). cond b 1 0 + int_count items ≤ 1) (sym (ap Listing.ints is)) once
once_before list (File f) items t e once =
    let p = cond_some (has_room f.class_file list.lines) (record list { lines = list.lines ++ f ∷ [] }) t e in
    subst (λ (b : Bool). cond b 1 0 + int_count items ≤ 1) (sym (ap Listing.ints p.1)) once
once_before list Int items t e once =
    let is = int_is list.ints (record list { ints = true }) t e in
    let one : cond true 1 0 + int_count items ≤ 1 = subst (λ (b : Bool). cond b 1 0 + int_count items ≤ 1)
    (sym (ap Listing.ints is.1)) once in
    subst (λ (b : Bool). cond b 1 0 + (int_count items + 1) ≤ 1) (sym is.0) (omega (arith, one))

once_behind : (list : Listing) (i : Item) (items : List Item) → IsOnce list (i ∷ items)
    → IsOnce (gathered list (i ∷ [])) items
unfolding IsOnce
once_behind list (Applet a) items once = subst (λ (b : Bool). cond b 1 0 + int_count items ≤ 1)
    (sym (or_none list.ints)) once
once_behind list (File f) items once = subst (λ (b : Bool). cond b 1 0 + int_count items ≤ 1) (sym (or_none list.ints))
    once
once_behind list Int items once = by list.ints once
  where
    by : (b : Bool) → cond b 1 0 + (int_count items + 1) ≤ 1 → cond (b || true) 1 0 + int_count items ≤ 1
    by true h = absurd (omega (arith, h))
    by false h = omega (arith, h)

where_on : (b : Bool) (x : Listing) → b ≡ true → cond b (Some x) None ≡ Some x
where_on true x e = refl
where_on false x e = absurd cc

where_off : (b : Bool) (x : Listing) → b ≡ false → cond b None (Some x) ≡ Some x
where_off true x e = absurd cc
where_off false x e = refl

none_before : (list : Listing) (items : List Item) → IsOnce list (Int ∷ items) → list.ints ≡ false
unfolding IsOnce
none_before list items once = by list.ints once
  where
    by : (b : Bool) → cond b 1 0 + (int_count items + 1) ≤ 1 → b ≡ false
    by true h = absurd (omega (arith, h))
    by false h = refl

pub with_item-fits : (list : Listing) (i : Item) (items : List Item) → Within (gathered list (i ∷ items)).lines
    → IsOnce list (i ∷ items) → with_item list i ≡ Some (gathered list (i ∷ []))
unfolding with_item
with_item-fits list (Applet a) items w once = ap Some (applet_one list a)
with_item-fits list (File f) items w once = where_on (has_room f.class_file list.lines) (record list {
  lines = list.lines ++ f ∷ [];
}) (room_for f.class_file f.name list.lines (files_of items) w) ∙ ap Some (file_one list f)
with_item-fits list Int items w once = where_off list.ints (record list { ints = true }) (none_before list items once)
    ∙ ap Some (int_one list)

-- a line that says something, or nothing
said_ok_at : (o : Option (List (List ℕ))) (reading : List (List ℕ) → Option Listing) (at : ℕ) (t : Listing)
    → kept at (option_and_then reading o) ≡ Ok t
    → (ws : List (List ℕ)) × (o ≡ Some ws) × (reading ws ≡ Some t)
said_ok_at (Some ws) reading at t e = (ws, refl, kept_ok (reading ws) at t e)
said_ok_at None reading at t e = absurd cc

pub said_ok : (reading : List (List ℕ) → Option Listing) (l : TextLine) (t : Listing) → said reading l ≡ Ok t
    → HasWords l (λ ws. reading ws ≡ Some t)
said_ok reading l t e = said_ok_at (words l.text) reading l.at t e

pub said_is : (reading : List (List ℕ) → Option Listing) (l : TextLine) (ws : List (List ℕ)) (t : Listing)
    → words l.text ≡ Some ws → reading ws ≡ Some t → said reading l ≡ Ok t
said_is reading l ws t e f =
    let step : option_and_then reading (words l.text) ≡ Some t = ap (option_and_then reading) e ∙ f in
    ap (kept l.at) step

pub said_err : (reading : List (List ℕ) → Option Listing) (l : TextLine) (k : ℕ) → said reading l ≡ Err k → k ≡ l.at
said_err reading l k e = kept_err (option_and_then reading (words l.text)) l.at k e

-- what the lines behind the package line add
pub record Added (list t : Listing) (ls : List TextLine) : Type 0 where
  pub items : List Item
  pub says : AllSay items ls
  pub is : t ≡ gathered list items
  pub within : Within t.lines
  pub once : IsOnce list items

once_none : (list : Listing) → IsOnce list []
unfolding IsOnce
once_none list = by list.ints
  where
    by : (b : Bool) → cond b 1 0 + 0 ≤ 1
    by true = omega arith
    by false = omega arith

pub with_lines_add : (list t : Listing) (ls : List TextLine) → with_lines list ls ≡ Ok t → Within list.lines
    → Added list t ls
unfolding with_lines with_line
with_lines_add list t [] e w =
    let is : list ≡ t = cc in
    let P : Listing → Type 0 = λ t. Added list t [] in
    subst P is (record {
      items = [];
      says = tt;
      is = sym (gathered-none list);
      within = w;
      once = once_none list;
    })
with_lines_add list t (l ∷ ls) e w =
    let one = onward_ok (said (with_line list) l) (λ more. with_lines more ls) t e in
    let line = said_ok (with_line list) l one.0 one.1 in
    let item = onward (item_of line.0) (with_item list) one.0 line.2 in
    let more = with_item_is list item.0 one.0 item.2 w in
    let rest = with_lines_add one.0 t ls one.2 more.1 in
    record {
      items = item.0 ∷ rest.items;
      says = ((line.0, line.1, item_says line.0 item.0 item.1), rest.says);
      is = rest.is ∙ ap (λ (z : Listing). gathered z rest.items) more.0 ∙ gathered-more list item.0 rest.items;
      within = rest.within;
      once = once_before list item.0 rest.items one.0 item.2 rest.once;
    }

pub with_lines_are : (list : Listing) (items : List Item) (ls : List TextLine) → AllSay items ls
    → Within (gathered list items).lines → IsOnce list items → with_lines list ls ≡ Ok (gathered list items)
unfolding with_lines with_line
with_lines_are list [] [] says w once = ap Ok (sym (gathered-none list))
with_lines_are list [] (l ∷ ls) says w once = absurd says
with_lines_are list (i ∷ items) [] says w once = absurd says
with_lines_are list (i ∷ items) (l ∷ ls) says w once =
    let ws : List (List ℕ) = says.0.0 in
    let read : with_line list ws ≡ Some (gathered list (i ∷ [])) =
    rw (item_of-says i ws says.0.2) (with_item-fits list i items w once) in
    let one : said (with_line list) l ≡ Ok (gathered list (i ∷ [])) =
    said_is (with_line list) l ws (gathered list (i ∷ [])) says.0.1 read in
    let W : Listing → Type 0 = λ t. Within t.lines in
    let rest = with_lines_are (gathered list (i ∷ [])) items ls says.1 (subst W (sym (gathered-more list i items)) w)
    (once_behind list i items once) in
    rw one (rest ∙ ap Ok (gathered-more list i items))
