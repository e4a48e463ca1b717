-- What stands in the table is where methods stand.
use Rattle.std.proofs.Common.{◌≡◌, ℕ, suc, ◌+◌, ◌≤◌, ◌<◌, ◌==◌, refl, sym, ap, ◌∙◌, arith, Bool, true, false, List, []}
use Rattle.std.proofs.Common.{◌∷◌, ◌++◌, length, get_or, drop, append_assoc, append-nil}
use Rattle.std.specs.Prelude.{map, slice_get, slice_set, Some, if◌then◌else◌}
use Rattle.std.proofs.lemmas.List.{drop_all}
use Rattle.cjc_classes.specs.NCode.declared.narrow.NMethod.{NMethod}
use Rattle.cjc_exported.specs.Components.Methods.{bytecode_count, extent_at, extent_from, handler_count, is_member}
use Rattle.cjc_exported.specs.Components.Methods.{method_size}
use Rattle.cjc_exported.specs.Components.Methods.{placed_from}
use Rattle.cjc_classes.specs.Layout.Layouts.{IsLayout}
use Rattle.cjc_exported.specs.Components.Package.{LaidMethod}
use Rattle.cjc_classes.specs.Descriptor.Made.{extent_by}
use Rattle.cjc_classes.specs.declared.descriptor.parts.Extent.{Extent}
use Rattle.cjc_exported.specs.World.declared.found.Found.{Found}
use Rattle.cjc_exported.specs.World.Files.{Files}
use Rattle.cjc_methods.specs.declared.layouts.laid.Laid.{Laid}
use Rattle.cjc_methods.specs.Layouts.Laid.{laid_method, with_layouts}
use Rattle.cjc_methods.specs.Layouts.Working.Offsets as kept
use Rattle.cjc_methods.proofs.LayoutsLaws.Standing.{same_handlers}
use Rattle.cjc_captree.specs.Working.Tables.{extent_by_layout, extents_by, found_in, table_of}
use Rattle.cjc_captree.proofs.ExtentsLaws.Setting.{set_table}
use Rattle.cjc_classes.proofs.BytesGets.{at_item}

same_extent : (at k : ℕ) (c : NMethod) (l : Laid) → IsLayout c l.layout → extent_by_layout at k l.layout
    ≡ extent_by (extent_at at k (laid_method c l))
same_extent at k c l is =
    ap (λ n. record {
      offset = at;
      bytecode_count = n;
      handler_count = kept.handlers_of l;
      first_handler = if kept.handlers_of l == 0 then 0 else k;
    }) is.length
    ∙ ap (λ n. record {
      offset = at;
      bytecode_count = bytecode_count (laid_method c l);
      handler_count = n;
      first_handler = if n == 0 then 0 else k;
    }) (sym (same_handlers c l is))

pub found_is : (at k : ℕ) (cs : List NMethod) (ls : List Laid) → length ls ≡ length cs
    → ((j : ℕ) (c : NMethod) (l : Laid) → slice_get cs j ≡ Some c → slice_get ls j ≡ Some l → IsLayout c l.layout)
    → (f : Found) → found_in ls (extents_by k (map (λ q. q.offset) (placed_from at (with_layouts cs ls))) ls) f
    ≡ extent_by (extent_from at k (with_layouts cs ls) f)
found_is at k [] [] count each f = refl
found_is at k [] (l ∷ ls) count each f = absurd (omega (arith, count))
found_is at k (c ∷ cs) [] count each f = absurd (omega (arith, count))
found_is at k (c ∷ cs) (l ∷ ls) count each f =
    by (is_member f (laid_method c l)) (λ n h. found_is n h cs ls (omega (arith, count)) (λ j x y e g. each (suc j) x y
    e g) f)
  where
    m : LaidMethod
    m = laid_method c l

    by : (t : Bool)
        → ((n h : ℕ) → found_in ls (extents_by h (map (λ q. q.offset) (placed_from n (with_layouts cs ls))) ls) f
        ≡ extent_by (extent_from n h (with_layouts cs ls) f))
        → (if t then extent_by_layout at k l.layout
        else found_in ls (extents_by (k + kept.handlers_of l) (map (λ q. q.offset) (placed_from (at + method_size m)
        (with_layouts cs ls))) ls) f)
        ≡ extent_by (if t then extent_at at k m else extent_from (at + method_size m) (k + handler_count m)
        (with_layouts cs ls) f)
    by true rest = same_extent at k c l (each 0 c l refl refl)
    by false rest =
        ap (λ n. found_in ls (extents_by (k + n) (map (λ q. q.offset) (placed_from (at + method_size m)
        (with_layouts cs ls))) ls) f) (sym (same_handlers c l (each 0 c l refl refl)))
        ∙ rest (at + method_size m) (k + handler_count m)

-- ---- one after the other

pub extents_more : (k h next at : ℕ) (os : List ℕ) (ls : List Laid) (l : Laid) (e : Extent) (row total : List Extent)
    → k < length os → k < length ls → at ≡ get_or os k at → l ≡ get_or ls k l → e ≡ extent_by_layout at h l.layout
    → next ≡ h + kept.handlers_of l
    → row ++ extents_by h (drop k os) (drop k ls) ≡ total → (row ++ e ∷ [])
    ++ extents_by next (drop (k + 1) os) (drop (k + 1) ls) ≡ total
extents_more k h next at os ls l e row total lt lt2 is is2 f n so_far =
    ap (λ a. (row ++ e ∷ []) ++ extents_by a (drop (k + 1) os) (drop (k + 1) ls)) n
    ∙ ap (λ x. (row ++ x ∷ []) ++ extents_by (h + kept.handlers_of l) (drop (k + 1) os) (drop (k + 1) ls)) f
    ∙ append_assoc row (extent_by_layout at h l.layout ∷ []) (extents_by (h + kept.handlers_of l) (drop (k + 1) os)
    (drop (k + 1) ls))
    ∙ ap (λ (ys : List Laid). row ++ extents_by h (at ∷ drop (k + 1) os) ys) (sym (at_item k l ls lt2 is2))
    ∙ ap (λ (ys : List ℕ). row ++ extents_by h ys (drop k ls)) (sym (at_item k at os lt is))
    ∙ so_far

pub extents_end : (k h : ℕ) (os : List ℕ) (ls : List Laid) (row total : List Extent) → length os ≤ k
    → row ++ extents_by h (drop k os) (drop k ls) ≡ total → row ≡ total
extents_end k h os ls row total le so_far =
    sym (append-nil row) ∙ ap (λ (ys : List ℕ). row ++ extents_by h ys (drop k ls)) (sym (drop_all k os le)) ∙ so_far

pub extents_long : (h : ℕ) (os : List ℕ) (ls : List Laid) → length os ≡ length ls → length (extents_by h os ls)
    ≡ length ls
extents_long h [] [] e = refl
extents_long h [] (l ∷ ls) e = absurd (omega (arith, e))
extents_long h (o ∷ os) [] e = absurd (omega (arith, e))
extents_long h (o ∷ os) (l ∷ ls) e = ap suc (extents_long (h + kept.handlers_of l) os ls (omega (arith, e)))

pub put_more : (files : Files) (k : ℕ) (ls : List Laid) (es : List Extent) (l : Laid) (e : Extent) (before after :
    List (List Extent)) → k < length ls → k < length es → l ≡ get_or ls k l → e ≡ get_or es k e
    → (let g = l.member in after ≡ slice_set before g.class (slice_set (get_or before g.class []) g.member e))
    → before ≡ table_of files (found_in (drop (k + 1) ls) (drop (k + 1) es))
    → after ≡ table_of files (found_in (drop k ls) (drop k es))
put_more files k ls es l e before after lt lt2 is is2 put so_far =
    let g = l.member in
    put
    ∙ ap (λ (rows : List (List Extent)). slice_set rows g.class (slice_set (get_or rows g.class []) g.member e)) so_far
    ∙ set_table files (found_in (drop (k + 1) ls) (drop (k + 1) es)) g.class g.member e
    ∙ ap (λ (ys : List Extent). table_of files (found_in (l ∷ drop (k + 1) ls) ys)) (sym (at_item k e es lt2 is2))
    ∙ ap (λ (ys : List Laid). table_of files (found_in ys (drop k es))) (sym (at_item k l ls lt is))
