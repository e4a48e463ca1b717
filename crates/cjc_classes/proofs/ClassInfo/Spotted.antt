-- Where the info of a class of the package begins, and that what is noted is its class_ref.
use Rattle.std.proofs.Common.{◌≡◌, ℕ, suc, ◌+◌, ◌*◌, refl, sym, ap, subst, ◌∙◌, arith, Bool, true, false, List, [], ◌∷◌}
use Rattle.std.proofs.Common.{◌++◌, length, map}
use Rattle.std.specs.Prelude.{⊤, if◌then◌else◌, Option, Some, None, option_map, option_and_then, unwrap_or, position}
use Rattle.std.specs.Prelude.{slice_get, sum_by}
use Rattle.std.specs.Str.{bytes_eq}
use Rattle.std.proofs.lemmas.List.{length-map}
use Rattle.std.proofs.lemmas.List.Sums.{sum_by-cons}
use Rattle.cjc_components.specs.LowerCapRead.declared.tree.ClassRef.{ClassRef}
use Rattle.cjc_components.specs.LowerCapRead.declared.tree.ClassRef.TheVariants.{Inside}
use Rattle.cjc_components.specs.LowerCapRead.declared.tree.InterfaceEntry.{InterfaceEntry}
use Rattle.cjc_components.specs.LowerCapRead.declared.tree.ClassEntry.{ClassEntry}
use Rattle.cjc_components.specs.LowerCheckRules.Spots.{placed, starts}
use Rattle.cjc_components.specs.LowerCheckRules.Complete.{class_size, interface_size, map_size}
use Rattle.cjc_components.specs.LowerCardSemantics.Machine.Classes.{Class as CardClass, Own, External, external_from}
use Rattle.cjc_components.specs.LowerCardSemantics.Machine.Classes.{or_else}
use Rattle.cjc_world.specs.ClassFile.declared.tree.ClassTree.{ClassTree}
use Rattle.cjc_world.specs.Files.{Files}
use Rattle.cjc_world.specs.Classes.{Class, all_classes}
use Rattle.cjc_world.specs.Order.{class_order, in_order}
use Rattle.cjc_tokens.proofs.Facts.{position-cons}
use Rattle.cjc_components.specs.LowerVTable.declared.table.ClassTable.{ClassTable}
use Rattle.cjc_components.specs.LowerVTable.declared.table.InterfaceMap.{InterfaceMap}
use Rattle.cjc_components.specs.LowerVTable.Tables.{class_tables, table_of}
use Rattle.cjc_components.specs.Package.{Package, world}
use Rattle.cjc_components.specs.Class.{class_entry, implemented, interface_entry, interfaces_of, table_entry}
use Rattle.cjc_components.specs.Methods.{method_offset}
use Rattle.cjc_components.specs.Names.{class_offset, ref_to}
use Rattle.cjc_components.specs.LowerClassOrder.Classes.Numbers.{declared_at}
use Rattle.cjc_classes.specs.declared.class_info.refs.ClassRefs.{ClassRefs}
use Rattle.cjc_classes.specs.ClassInfo.Refs.{AreRefs, ref_in, ref_of}
use Rattle.cjc_classes.specs.ClassInfo.Infos.{bytes_at, bytes_of, end_of, interface_bytes, is_named, map_bytes}
use Rattle.cjc_classes.specs.ClassInfo.Infos.{number_named, spot_in, table_bytes, table_named}
use Rattle.cjc_bytes.proofs.Numbers.{none_behind}

-- ---- classes and what is written for them, one beside the other

-- where the first class of a name begins
abbrev at_name : (starts : List ℕ) → List Class → List ℕ → Option ℕ
at_name starts cs x = option_and_then (slice_get starts) (position (λ c. bytes_eq c.name x) cs)

at_name-cons : (s : ℕ) (ss : List ℕ) (c : Class) (cs : List Class) (x : List ℕ) → at_name (s ∷ ss) (c ∷ cs) x
    ≡ (if bytes_eq c.name x then Some s else at_name ss cs x)
unfolding at_name
at_name-cons s ss c cs x = ap (option_and_then (slice_get (s ∷ ss))) (position-cons (λ (d : Class). bytes_eq d.name x) c
    cs) ∙ by (bytes_eq c.name x) (position (λ d. bytes_eq d.name x) cs)
  where
    by : (b : Bool) (o : Option ℕ) → option_and_then (slice_get (s ∷ ss)) (if b then Some 0 else option_map suc o)
        ≡ (if b then Some s else option_and_then (slice_get ss) o)
    by true o = refl
    by false None = refl
    by false (Some k) = refl

at_name-none : (x : List ℕ) → at_name [] [] x ≡ None
unfolding at_name
at_name-none x = refl

at_name-append : (ss ts : List ℕ) (cs ds : List Class) (x : List ℕ) → length ss ≡ length cs
    → at_name (ss ++ ts) (cs ++ ds) x ≡ or_else (at_name ss cs x) (at_name ts ds x)
at_name-append [] ts [] ds x e = ap (λ (o : Option ℕ). or_else o (at_name ts ds x)) (sym (at_name-none x))
at_name-append (s ∷ ss) ts [] ds x e = cc
at_name-append [] ts (c ∷ cs) ds x e = cc
at_name-append (s ∷ ss) ts (c ∷ cs) ds x e =
    at_name-cons s (ss ++ ts) c (cs ++ ds) x
    ∙ ap (λ (o : Option ℕ). if bytes_eq c.name x then Some s else o) (at_name-append ss ts cs ds x (omega arith))
    ∙ by (bytes_eq c.name x)
    ∙ ap (λ (o : Option ℕ). or_else o (at_name ts ds x)) (sym (at_name-cons s ss c cs x))
  where
    by : (b : Bool) → (if b then Some s else or_else (at_name ss cs x) (at_name ts ds x)) ≡ or_else (if b then Some s
        else at_name ss cs x) (at_name ts ds x)
    by true = refl
    by false = refl

plus_more : (e a b c s t : ℕ) → e ≡ a + b + s → t ≡ c + s → b ≡ c → e ≡ a + t
plus_more e a b c s t p q r = omega arith

module _ {A B : Type 0} (size : B → ℕ) (entry : Class → B) (named : A → List ℕ → Bool) (bytes : A → ℕ) where
  -- items that are of these classes, one for each
  abbrev pub Beside : List A → List Class → Type 0
  Beside [] [] = ⊤
  Beside [] (c ∷ cs) = ⊥
  Beside (a ∷ items) [] = ⊥
  Beside (a ∷ items) (c ∷ cs) = ((x : List ℕ) → named a x ≡ bytes_eq c.name x) × (bytes a ≡ size (entry c))
      × Beside items cs

  pub spots : (items : List A) (cs : List Class) → Beside items cs → (at : ℕ) (x : List ℕ)
      → spot_in named bytes at items x ≡ at_name (starts size at (map entry cs)) cs x
  unfolding spot_in placed
  spots [] [] b at x = refl
  spots [] (c ∷ cs) b at x = absurd b
  spots (a ∷ items) [] b at x = absurd b
  spots (a ∷ items) (c ∷ cs) b at x =
      ap (λ t. if t then Some at else spot_in named bytes (at + bytes a) items x) (b.0 x)
      ∙ ap (λ (o : Option ℕ). if bytes_eq c.name x then Some at else o) (spots items cs b.2 (at + bytes a) x
      ∙ ap (λ n. at_name (starts size (at + n) (map entry cs)) cs x) b.1)
      ∙ sym (at_name-cons at (starts size (at + size (entry c)) (map entry cs)) c cs x)

  pub end_at : (items : List A) (cs : List Class) → Beside items cs → (at : ℕ) → end_of bytes at items
      ≡ at + sum_by size (map entry cs)
  unfolding end_of
  end_at [] [] b at = none_behind at
  end_at [] (c ∷ cs) b at = absurd b
  end_at (a ∷ items) [] b at = absurd b
  end_at (a ∷ items) (c ∷ cs) b at =
      plus_more (end_of bytes (at + bytes a) items) at (bytes a) (size (entry c)) (sum_by size (map entry cs))
      (sum_by size (entry c ∷ map entry cs)) (end_at items cs b.2 (at + bytes a)) (sum_by-cons size (entry c)
      (map entry cs)) b.1

length-starts : {B : Type 0} (size : B → ℕ) (at : ℕ) (xs : List B) → length (starts size at xs) ≡ length xs
unfolding placed
length-starts size at [] = refl
length-starts size at (x ∷ xs) = ap suc (length-starts size (at + size x) xs)

-- ---- the infos of a package

module _ (p : Package) where
  none : List ℕ → ClassRef
  none name = Inside 0

  interface_at : Class → InterfaceEntry
  interface_at i = interface_entry none (world p) i

  class_with : Class → ClassEntry
  class_with c = class_entry none p c

  interfaces-beside : (trees : List ClassTree) (ns : List ℕ) (cs : List Class)
      → map Some cs ≡ map (declared_at trees) ns → Beside interface_size interface_at (number_named trees)
      (bytes_at (world p) trees) ns cs
  unfolding interface_at none
  interfaces-beside trees [] [] e = tt
  interfaces-beside trees [] (c ∷ cs) e = cc
  interfaces-beside trees (n ∷ ns) [] e = cc
  interfaces-beside trees (n ∷ ns) (c ∷ cs) e =
      let first : Some c ≡ declared_at trees n = cc in
      let rest : map Some cs ≡ map (declared_at trees) ns = cc in (
        λ x. ap (λ (o : Option Class). is_named o x) (sym first),
        ap (bytes_of (world p)) (sym first) ∙ sized c,
        interfaces-beside trees ns cs rest,
      )
    where
      sized : (i : Class) → interface_bytes (world p) i ≡ interface_size (interface_at i)
      sized i = ap (λ n. 1 + 2 * n) (sym (length-map (interfaces_of (world p) i) (λ (s : Class). none s.name)))

  maps-sum : (ms : List InterfaceMap) → sum_by map_bytes ms ≡ sum_by map_size (map (implemented none) ms)
  maps-sum [] = refl
  maps-sum (m ∷ ms) = sum_by-cons map_bytes m ms ∙ ap (λ n. map_bytes m + n) (maps-sum ms)
      ∙ sym (sum_by-cons map_size (implemented none m) (map (implemented none) ms))

  tables-sized : (t : ClassTable) → table_bytes t ≡ 10 + 2 * length (map (table_entry p) t.public) + 2 * length
      (map (method_offset p) t.«package») + sum_by map_size (map (implemented none) t.maps)
  tables-sized t =
      ap (λ n. 10 + 2 * n + 2 * length t.«package» + sum_by map_bytes t.maps)
      (sym (length-map t.public (table_entry p)))
      ∙ ap (λ n. 10 + 2 * length (map (table_entry p) t.public) + 2 * n + sum_by map_bytes t.maps)
      (sym (length-map t.«package» (method_offset p)))
      ∙ ap (λ n. 10 + 2 * length (map (table_entry p) t.public) + 2 * length (map (method_offset p) t.«package») + n)
      (maps-sum t.maps)

  classes-beside : (trees : List ClassTree) (cs : List Class) → map Some cs ≡ map (λ c. declared_at trees c.number) cs
      → Beside class_size class_with (table_named trees) table_bytes (map (table_of (world p)) cs) cs
  unfolding class_with none
  classes-beside trees [] e = tt
  classes-beside trees (c ∷ cs) e =
      let first : Some c ≡ declared_at trees c.number = cc in
      let rest : map Some cs ≡ map (λ (d : Class). declared_at trees d.number) cs = cc in (
        λ x. ap (λ (o : Option Class). is_named o x) (sym first),
        sized c,
        classes-beside trees cs rest,
      )
    where
      sized : (d : Class) → table_bytes (table_of (world p) d) ≡ class_size (class_with d)
      sized d = tables-sized (table_of (world p) d)

  -- the offset of a class
  offset-is : (ns : List ℕ) (ts : List ClassTable) → map Some (in_order (world p) true)
      ≡ map (declared_at p.files.classes) ns → map Some (in_order (world p) false)
      ≡ map (λ c. declared_at p.files.classes c.number) (in_order (world p) false) → ts ≡ class_tables (world p)
      → (x : List ℕ) → class_offset p x ≡ or_else (spot_in (number_named p.files.classes)
      (bytes_at (world p) p.files.classes) 2 ns x) (spot_in (table_named p.files.classes) table_bytes
      (end_of (bytes_at (world p) p.files.classes) 2 ns) ts x)
  unfolding class_order class_tables interface_at class_with none at_name
  offset-is ns ts interfaces classes tables x =
      let w = world p in
      let trees = p.files.classes in
      let is = in_order w true in
      let cs = in_order w false in
      let left = interfaces-beside trees ns is interfaces in
      let right = classes-beside trees cs classes in
      at_name-append (starts interface_size 2 (map interface_at is)) (starts class_size (2 + sum_by interface_size
      (map interface_at is)) (map class_with cs)) is cs x
      (length-starts interface_size 2 (map interface_at is) ∙ length-map is interface_at)
      ∙ ap (λ (o : Option ℕ). or_else o (at_name (starts class_size (2 + sum_by interface_size (map interface_at is))
      (map class_with cs)) cs x)) (sym (spots interface_size interface_at (number_named trees) (bytes_at w trees) ns
      is left 2 x))
      ∙ ap (λ (o : Option ℕ). or_else (spot_in (number_named trees) (bytes_at w trees) 2 ns x) o)
      (ap (λ n. at_name (starts class_size n (map class_with cs)) cs x)
      (sym (end_at interface_size interface_at (number_named trees) (bytes_at w trees) ns is left 2))
      ∙ sym (spots class_size class_with (table_named trees) table_bytes (map (table_of w) cs) cs right
      (end_of (bytes_at w trees) 2 ns) x)
      ∙ ap (λ (rows : List ClassTable). spot_in (table_named trees) table_bytes (end_of (bytes_at w trees) 2 ns) rows x)
      (sym tables))

-- ---- all that is noted

-- what is noted in turn: nothing, the interfaces, the classes, and the classes of export files
pub record AreNoted (files : Files) (ns : List ℕ) (ts : List ClassTable) (r0 r1 r2 r3 : List ℕ → Option ClassRef) :
    Type 0 where
  pub interfaces : map Some (in_order (all_classes files) true) ≡ map (declared_at files.classes) ns
  pub classes : map Some (in_order (all_classes files) false) ≡ map (λ c. declared_at files.classes c.number)
      (in_order (all_classes files) false)
  pub tables : ts ≡ class_tables (all_classes files)
  pub none : (x : List ℕ) → r0 x ≡ None
  pub first : (x : List ℕ)
      → r1 x ≡ or_else (r0 x) (option_map Inside (spot_in (number_named files.classes) (bytes_at (all_classes files)
      files.classes) 2 ns x))
  pub second : (x : List ℕ) → r2 x ≡ or_else (r1 x) (option_map Inside (spot_in (table_named files.classes) table_bytes
      (end_of (bytes_at (all_classes files) files.classes) 2 ns) ts x))
  pub third : (x : List ℕ) → r3 x ≡ or_else (r2 x) (option_map ref_to (external_from 0 files.exports x))

joined : (a b : Option ℕ) (f : Option CardClass)
    → unwrap_or (or_else (or_else (or_else None (option_map Inside a)) (option_map Inside b)) (option_map ref_to f))
    (Inside 0) ≡ ref_to (unwrap_or (or_else (option_map (Own 0) (or_else a b)) f) (Own 0 0))
joined (Some a) b f = refl
joined None (Some b) f = refl
joined None None (Some (Own q at)) = refl
joined None None (Some (External file token)) = refl
joined None None None = refl

own-refs : (p : Package) (ns : List ℕ) (ts : List ClassTable) (r0 r1 r2 : List ℕ → Option ClassRef) (r : ClassRefs)
    → AreNoted p.files ns ts r0 r1 r2 (ref_in r) → AreRefs p r
unfolding ref_of
own-refs p ns ts r0 r1 r2 r n x =
    let a = spot_in (number_named p.files.classes) (bytes_at (world p) p.files.classes) 2 ns x in
    let b = spot_in (table_named p.files.classes) table_bytes (end_of (bytes_at (world p) p.files.classes) 2 ns) ts x in
    let f = external_from 0 p.files.exports x in
    ap (λ (o : Option ClassRef). unwrap_or o (Inside 0))
    (n.third x ∙ ap (λ (o : Option ClassRef). or_else o (option_map ref_to f)) (n.second x
    ∙ ap (λ (o : Option ClassRef). or_else o (option_map Inside b)) (n.first x
    ∙ ap (λ (o : Option ClassRef). or_else o (option_map Inside a)) (n.none x))))
    ∙ joined a b f
    ∙ ap (λ (o : Option ℕ). ref_to (unwrap_or (or_else (option_map (Own 0) o) f) (Own 0 0)))
    (sym (offset-is p ns ts n.interfaces n.classes n.tables x))

pub refs-are : (p : Package) (files : Files) → p.files ≡ files → (ns : List ℕ) (ts : List ClassTable) (r0 r1 r2 : List ℕ
    → Option ClassRef) (r : ClassRefs) → AreNoted files ns ts r0 r1 r2 (ref_in r) → AreRefs p r
refs-are p files e ns ts r0 r1 r2 r n =
    own-refs p ns ts r0 r1 r2 r (subst (λ (f : Files). AreNoted f ns ts r0 r1 r2 (ref_in r)) (sym e) n)
