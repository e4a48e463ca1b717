-- The class_refs that are noted are those of the package.
use Rattle.std.proofs.Common.{◌≡◌, ℕ, zero, suc, ◌+◌, ◌<◌, ◌≤◌, Bool, true, false, List, [], ◌∷◌, length, drop, map}
use Rattle.std.proofs.Common.{get_or}
use Rattle.std.proofs.Common.{refl, sym, ap, ◌∙◌, cond}
use Rattle.std.specs.Prelude.{if◌then◌else◌, Option, Some, None, option_and_then, option_map, position, slice_get}
use Rattle.std.specs.Prelude.{unwrap_or}
use Rattle.std.specs.Str.{bytes_eq}
use Rattle.cjc_bytes.proofs.Gets.{drop_next, drop_past}
use Rattle.cjc_capread.specs.declared.tree.ClassRef.{ClassRef}
use Rattle.cjc_capread.specs.declared.tree.ClassRef.TheVariants.{Inside}
use Rattle.cjc_card_acts.specs.CardSemantics.Machine.Classes.{Class as CardClass, External, Own, external_from}
use Rattle.cjc_card_acts.specs.CardSemantics.Machine.Classes.{or_else}
use Rattle.cjc_classes.proofs.ClassInfo.Noting.{else_inside, else_none}
use Rattle.cjc_classes.specs.declared.class_info.refs.ClassRefs.{ClassRefs}
use Rattle.cjc_classes.specs.ClassInfo.Infos.{is_named, number_named}
use Rattle.cjc_classes.specs.ClassInfo.Refs.{ref_in, ref_of}
use Rattle.cjc_classes.specs.LowerComponents.Names.{ref_to}
use Rattle.cjc_classes.proofs.TokensFacts.{position-cons}
use Rattle.cjc_classes.specs.ClassOrder.Classes.Numbers.{declared_at}
use Rattle.cjc_world.specs.ClassFile.declared.tree.ClassTree.{ClassTree}
use Rattle.cjc_world.specs.Files.{Files}
use Rattle.cjc_world.specs.Classes.{Class, all_classes}
use Rattle.cjc_world.specs.Order.{class_order}
use Rattle.cjc_verify.specs.Pairs.{Pair, class_ref, offset_of, starts, world}
use Rattle.cjc_verify.specs.Refs.{spot_by}

-- ---- one by one

pub spot_more : (trees : List ClassTree) (f g : List ℕ → Option ClassRef) (ns ss : List ℕ) (i n s : ℕ)
    → i < length ns → n ≡ get_or ns i n → i < length ss → s ≡ get_or ss i s
    → ((x : List ℕ) → g x ≡ or_else (f x) (cond (number_named trees n x) (Some (Inside s)) None)) → (x : List ℕ)
    → or_else (g x) (option_map Inside (spot_by trees (drop (i + 1) ns) (drop (i + 1) ss) x))
    ≡ or_else (f x) (option_map Inside (spot_by trees (drop i ns) (drop i ss) x))
spot_more trees f g ns ss i n s lt is lt_s is_s put x =
    let rest = spot_by trees (drop (i + 1) ns) (drop (i + 1) ss) x in
    ap (λ (o : Option ClassRef). or_else o (option_map Inside rest)) (put x)
    ∙ else_inside (f x) (number_named trees n x) s rest
    ∙ ap (λ (q : List ℕ). or_else (f x) (option_map Inside (spot_by trees q (s ∷ drop (i + 1) ss) x)))
    (sym (drop_next ns i n lt is))
    ∙ ap (λ (q : List ℕ). or_else (f x) (option_map Inside (spot_by trees (drop i ns) q x)))
    (sym (drop_next ss i s lt_s is_s))

no_start : (trees : List ClassTree) (ns : List ℕ) (x : List ℕ) → spot_by trees ns [] x ≡ None
no_start trees [] x = refl
no_start trees (n ∷ ns) x = refl

pub spot_short : (trees : List ClassTree) (f : List ℕ → Option ClassRef) (ns ss : List ℕ) (i : ℕ) → length ss ≤ i
    → (x : List ℕ) → or_else (f x) (option_map Inside (spot_by trees (drop i ns) (drop i ss) x)) ≡ f x
spot_short trees f ns ss i le x =
    ap (λ (q : List ℕ). or_else (f x) (option_map Inside (spot_by trees (drop i ns) q x))) (drop_past ss i le)
    ∙ ap (λ (o : Option ℕ). or_else (f x) (option_map Inside o)) (no_start trees (drop i ns) x)
    ∙ else_none (f x)

pub spot_end : (trees : List ClassTree) (f : List ℕ → Option ClassRef) (ns ss : List ℕ) (i : ℕ) → length ns ≤ i
    → (x : List ℕ) → or_else (f x) (option_map Inside (spot_by trees (drop i ns) (drop i ss) x)) ≡ f x
spot_end trees f ns ss i le x =
    ap (λ (q : List ℕ). or_else (f x) (option_map Inside (spot_by trees q (drop i ss) x))) (drop_past ns i le)
    ∙ else_none (f x)

-- ---- where the class of a name begins

abbrev at_name : (starts : List ℕ) → List Class → List ℕ → Option ℕ
at_name ss cs x = option_and_then (slice_get ss) (position (λ c. bytes_eq c.name x) cs)

nowhere : (o : Option ℕ) → option_and_then (slice_get {X = ℕ} []) o ≡ None
nowhere None = refl
nowhere (Some k) = refl

at_name-cons : (s : ℕ) (ss : List ℕ) (c : Class) (cs : List Class) (x : List ℕ) → at_name (s ∷ ss) (c ∷ cs) x
    ≡ (if bytes_eq c.name x then Some s else at_name ss cs x)
at_name-cons s ss c cs x =
    ap (option_and_then (slice_get (s ∷ ss))) (position-cons (λ (d : Class). bytes_eq d.name x) c cs)
    ∙ by (bytes_eq c.name x) (position (λ d. bytes_eq d.name x) cs)
  where
    by : (b : Bool) (o : Option ℕ) → option_and_then (slice_get (s ∷ ss)) (if b then Some 0 else option_map suc o)
        ≡ (if b then Some s else option_and_then (slice_get ss) o)
    by true o = refl
    by false None = refl
    by false (Some k) = refl

spots_are : (trees : List ClassTree) (ns : List ℕ) (cs : List Class) (ss : List ℕ) (x : List ℕ)
    → map Some cs ≡ map (declared_at trees) ns → spot_by trees ns ss x ≡ at_name ss cs x
spots_are trees [] [] ss x e = refl
spots_are trees [] (c ∷ cs) ss x e = cc
spots_are trees (n ∷ ns) [] ss x e = cc
spots_are trees (n ∷ ns) (c ∷ cs) [] x e = sym (nowhere (position (λ (d : Class). bytes_eq d.name x) (c ∷ cs)))
spots_are trees (n ∷ ns) (c ∷ cs) (s ∷ ss) x e =
    let first : Some c ≡ declared_at trees n = cc in
    let rest : map Some cs ≡ map (declared_at trees) ns = cc in
    ap (λ (o : Option Class). if is_named o x then Some s else spot_by trees ns ss x) (sym first)
    ∙ ap (λ (o : Option ℕ). if bytes_eq c.name x then Some s else o) (spots_are trees ns cs ss x rest)
    ∙ sym (at_name-cons s ss c cs x)

-- ---- all

joined : (s : Option ℕ) (e : Option CardClass) → unwrap_or (or_else (option_map Inside s) (option_map ref_to e))
    (Inside 0) ≡ ref_to (unwrap_or (or_else (option_map (Own 0) s) e) (Own 0 0))
joined (Some at) e = refl
joined None None = refl
joined None (Some c) = refl

-- what is noted first for classes of the package, then for those of export files
pub refs_are : (p : Pair) (files : Files) → p.files ≡ files → (ns ss : List ℕ) → ss ≡ starts p
    → map Some (class_order (all_classes files)) ≡ map (declared_at files.classes) ns → (none own all : ClassRefs)
    → ((x : List ℕ) → ref_in none x ≡ None)
    → ((x : List ℕ) → ref_in own x ≡ or_else (ref_in none x) (option_map Inside (spot_by files.classes ns ss x)))
    → ((x : List ℕ) → ref_in all x ≡ or_else (ref_in own x) (option_map ref_to (external_from 0 files.exports x)))
    → (x : List ℕ) → ref_of all x ≡ class_ref p x
unfolding ref_of
refs_are p files is ns ss begin order none own all first second third x =
    let outside = external_from 0 files.exports x in
    ap (λ (o : Option ClassRef). unwrap_or o (Inside 0)) (third x
    ∙ ap (λ (o : Option ClassRef). or_else o (option_map ref_to outside)) (second x
    ∙ ap (λ (o : Option ClassRef). or_else o (option_map Inside (spot_by files.classes ns ss x))) (first x)))
    ∙ joined (spot_by files.classes ns ss x) outside
    ∙ ap (λ (s : Option ℕ). ref_to (unwrap_or (or_else (option_map (Own 0) s) outside) (Own 0 0))) (spots_are
    files.classes ns (class_order (all_classes files)) ss x order
    ∙ ap (λ (q : List ℕ). at_name q (class_order (all_classes files)) x) begin)
    ∙ ap (λ (q : Files). ref_to (unwrap_or (or_else (option_map (Own 0) (at_name (starts p) (class_order (all_classes
    q))
    x)) (external_from 0 q.exports x)) (Own 0 0))) (sym is)
