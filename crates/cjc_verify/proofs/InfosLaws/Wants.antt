-- The infos that code puts together are those that the package wants.
use Rattle.std.proofs.Common.{◌≡◌, ℕ, zero, suc, Bool, true, false, List, [], ◌∷◌, ◌++◌, length, map, refl, sym, ap}
use Rattle.std.proofs.Common.{subst}
use Rattle.std.proofs.Common.{◌∙◌}
use Rattle.std.specs.Prelude.{◌&&◌, if◌then◌else◌, not, Option, Some, None, option_map, option_to_list, slice_get}
use Rattle.std.specs.List.{AllByRecursion}
use Rattle.std.proofs.lemmas.List.{map-append}
use Rattle.cjc_bytes.specs.AccessFlags.{is_interface}
use Rattle.cjc_bytes.proofs.Bools.{both_front, not_true}
use Rattle.cjc_bytes.proofs.Lists.{map_same}
use Rattle.cjc_capread.specs.declared.tree.ClassRef.{ClassRef}
use Rattle.cjc_capread.specs.declared.tree.ClassEntry.{ClassEntry}
use Rattle.cjc_world.specs.ClassFile.declared.tree.ClassTree.{ClassTree}
use Rattle.cjc_world.specs.ClassFile.declared.tree.FieldTree.{FieldTree}
use Rattle.cjc_world.specs.declared.found.Found.{Found}
use Rattle.cjc_world.specs.Files.{Files}
use Rattle.cjc_world.specs.Classes.{Class, all_classes, declared}
use Rattle.cjc_world.specs.Order.{and_then, class_order, in_order, is_in, is_of_kind, lined_up, may_stand, next, waits}
use Rattle.cjc_methods.specs.Tokens.Fields.{instance_cells}
use Rattle.cjc_classes.specs.VTable.declared.table.ClassTable.{ClassTable}
use Rattle.cjc_classes.specs.VTable.Tables.{class_tables, table_of}
use Rattle.cjc_classes.specs.LowerComponents.Class.{fields_in, fields_of, first_reference_token, implemented}
use Rattle.cjc_classes.specs.LowerComponents.Class.{info_flags}
use Rattle.cjc_classes.specs.LowerComponents.Class.{interface_entry, reference_count}
use Rattle.cjc_classes.specs.ClassOrder.Classes.Numbers.{declared_at}
use Rattle.cjc_classes.specs.ClassInfo.Entries.{entry_by, entry_by_offset, with_numbers}
use Rattle.cjc_verify.specs.Infos.{public_entry}
use Rattle.cjc_verify.specs.Pairs.{Pair, class_ref, method_offset, world}
use Rattle.cjc_verify.specs.WantedBy.{class_where, classes_by, interface_by, interfaces_by}
use Rattle.cjc_verify.specs.WantedInfos.{wanted_entry, wanted_info, wanted_infos}
use Rattle.cjc_verify.specs.declared.infos.wanted.Wanted.{Wanted}
use Rattle.cjc_verify.specs.declared.infos.wanted.Wanted.TheVariants as wanted

-- ---- each class in the order of interfaces is one, and none in that of classes

middle : (a b c : Bool) → (a && b && c) ≡ true → b ≡ true
middle true true c e = refl
middle true false c e = cc
middle false b c e = cc

module _ (w : List Class) (i : Bool) where
  kind_of : (placed : List ℕ) (c : Class) → may_stand w i placed c ≡ true → is_of_kind i c ≡ true
  unfolding may_stand
  kind_of placed c e = middle (not c.is_imported) (is_of_kind i c) (not (is_in placed c.number)) (both_front
      (waits i placed c) _ e)

  next_kind : (placed : List ℕ) (cs : List Class) (c : Class) → next w i placed cs ≡ Some c → is_of_kind i c ≡ true
  unfolding next
  next_kind placed [] c e = cc
  next_kind placed (d ∷ cs) c e = by (may_stand w i placed d) refl e (next_kind placed cs c)
    where
      by : (b : Bool) → may_stand w i placed d ≡ b → (if b then Some d else next w i placed cs) ≡ Some c
          → (next w i placed cs ≡ Some c → is_of_kind i c ≡ true) → is_of_kind i c ≡ true
      by true m f rest = let is : d ≡ c = cc in subst (λ (x : Class). is_of_kind i x ≡ true) is (kind_of placed d m)
      by false m f rest = rest f

  lined_kind : (n : ℕ) (placed : List ℕ) → AllByRecursion (λ (c : Class). is_of_kind i c ≡ true) (lined_up w i n placed)
  unfolding lined_up
  lined_kind zero placed = tt
  lined_kind (suc n) placed = by (next w i placed w) refl (λ q. lined_kind n q)
    where
      by : (o : Option Class) → next w i placed w ≡ o
          → ((q : List ℕ) → AllByRecursion (λ (c : Class). is_of_kind i c ≡ true) (lined_up w i n q))
          → AllByRecursion (λ (c : Class). is_of_kind i c ≡ true) (and_then o (λ c. lined_up w i n (placed ++ c.number
          ∷ [])))
      by None e rest = tt
      by (Some c) e rest = (next_kind placed w c e, rest (placed ++ c.number ∷ []))

  order_kind : AllByRecursion (λ (c : Class). is_of_kind i c ≡ true) (in_order w i)
  unfolding in_order
  order_kind = lined_kind (length w) []

mapped_so : {A B : Type 0} (P : A → Type 0) (f g : A → B) → ((x : A) → P x → f x ≡ g x) → (xs : List A)
    → AllByRecursion P xs → map f xs ≡ map g xs
mapped_so P f g e [] all = refl
mapped_so P f g e (x ∷ xs) all = ap (λ y. y ∷ map f xs) (e x all.0) ∙ ap (λ ys. g x ∷ ys) (mapped_so P f g e xs all.1)

-- ---- interfaces

numbers_are : (trees : List ClassTree) (ns : List ℕ) (cs : List Class) → map Some cs ≡ map (declared_at trees) ns
    → with_numbers trees ns ≡ cs
numbers_are trees [] [] e = refl
numbers_are trees [] (c ∷ cs) e = cc
numbers_are trees (n ∷ ns) [] e = cc
numbers_are trees (n ∷ ns) (c ∷ cs) e =
    let first : Some c ≡ declared_at trees n = cc in
    let rest : map Some cs ≡ map (declared_at trees) ns = cc in
    ap (λ (o : Option Class). option_to_list o ++ with_numbers trees ns) (sym first)
    ∙ ap (λ q. c ∷ q) (numbers_are trees ns cs rest)

interface_so : (p : Pair) (c : Class) → is_of_kind true c ≡ true → interface_by (class_ref p) (world p) c
    ≡ wanted_info p c
interface_so p c kind =
    let either : Bool → Wanted = λ b. if b then wanted.Interface (interface_entry (class_ref p) (world p) c)
    else wanted.Class (wanted_entry p c) in
    sym (ap either kind)

-- ---- classes

entry_same : (p : Pair) (f : Option Found) → entry_by_offset (method_offset p) f ≡ public_entry p f
entry_same p None = refl
entry_same p (Some f) = refl

entry_so : (p : Pair) (n : ℕ) (tree : ClassTree) → slice_get p.files.classes n ≡ Some tree
    → entry_by (class_ref p) (method_offset p) (world p) (table_of (world p) (declared n tree)) tree
    ≡ wanted_entry p (declared n tree)
entry_so p n tree at =
    let w = world p in
    let c = declared n tree in
    let t = table_of w c in
    let all : List FieldTree → List ℕ → ClassEntry = λ fields public. record {
      flags = info_flags w c;
      superclass = class_ref p tree.superclass;
      declared_instance_size = instance_cells fields;
      first_reference_token = first_reference_token fields;
      reference_count = reference_count fields;
      public_base = t.public_base;
      package_base = t.package_base;
      public_methods = public;
      package_methods = map (method_offset p) t.«package»;
      interfaces = map (implemented (class_ref p)) t.maps;
    } in
    ap (λ (fields : List FieldTree). all fields (map (entry_by_offset (method_offset p)) t.public))
    (sym (ap fields_in at))
    ∙ ap (all (fields_of p.files c)) (map_same (entry_by_offset (method_offset p)) (public_entry p) (entry_same p)
    t.public)

class_so : (p : Pair) (n : ℕ) (tree : ClassTree) → slice_get p.files.classes n ≡ Some tree
    → is_interface tree.flags ≡ false
    → wanted.Class (entry_by (class_ref p) (method_offset p) (world p) (table_of (world p) (declared n tree)) tree)
    ≡ wanted_info p (declared n tree)
class_so p n tree at kind =
    let c = declared n tree in
    let either : Bool → Wanted = λ b. if b then wanted.Interface (interface_entry (class_ref p) (world p) c)
    else wanted.Class (wanted_entry p c) in
    ap wanted.Class (entry_so p n tree at) ∙ sym (ap either kind)

classes_so : (p : Pair) (cs : List Class) → AllByRecursion (λ (c : Class). is_of_kind false c ≡ true) cs
    → map Some cs ≡ map (λ c. declared_at p.files.classes c.number) cs
    → classes_by (class_ref p) (method_offset p) p.files (map (table_of (world p)) cs) ≡ map (wanted_info p) cs
classes_so p [] all e = refl
classes_so p (c ∷ cs) all e =
    let first : Some c ≡ declared_at p.files.classes c.number = cc in
    let rest : map Some cs ≡ map (λ (d : Class). declared_at p.files.classes d.number) cs = cc in
    by (classes_by (class_ref p) (method_offset p) p.files (map (table_of (world p)) cs))
    (slice_get p.files.classes c.number) refl first
    ∙ ap (λ (q : List Wanted). wanted_info p c ∷ q) (classes_so p cs all.1 rest)
  where
    by : (more : List Wanted) (o : Option ClassTree) → slice_get p.files.classes c.number ≡ o
        → Some c ≡ option_map (declared c.number) o
        → class_where (class_ref p) (method_offset p) (world p) (table_of (world p) c)
        (slice_get p.files.classes c.number) ++ more ≡ wanted_info p c ∷ more
    by more None at is = cc
    by more (Some tree) at is =
        let same : c ≡ declared c.number tree = cc in
        let kind : is_interface tree.flags ≡ false = ap (λ (d : Class). is_interface d.flags) (sym same)
        ∙ not_true (is_interface c.flags) all.0 in
        ap (λ (o : Option ClassTree). class_where (class_ref p) (method_offset p) (world p) (table_of (world p) c) o
        ++ more) at
        ∙ ap (λ (x : Wanted). x ∷ more) (subst (λ (d : Class). wanted.Class (entry_by (class_ref p) (method_offset p)
        (world p) (table_of (world p) d) tree) ≡ wanted_info p d) (sym same) (class_so p c.number tree at kind))

-- ---- all

by_package : (p : Pair) (ns : List ℕ) (ts : List ClassTable)
    → map Some (in_order (world p) true) ≡ map (declared_at p.files.classes) ns → ts ≡ class_tables (world p)
    → map Some (in_order (world p) false) ≡ map (λ c. declared_at p.files.classes c.number) (in_order (world p) false)
    → interfaces_by (class_ref p) p.files ns ++ classes_by (class_ref p) (method_offset p) p.files ts ≡ wanted_infos p
unfolding class_tables class_order
by_package p ns ts order tables numbers =
    let w = world p in
    ap (λ (cs : List Class). map (interface_by (class_ref p) w) cs ++ classes_by (class_ref p) (method_offset p) p.files
    ts) (numbers_are p.files.classes ns (in_order w true) order)
    ∙ ap (λ (is : List Wanted). is ++ classes_by (class_ref p) (method_offset p) p.files ts)
    (mapped_so (λ (c : Class). is_of_kind true c ≡ true) (interface_by (class_ref p) w) (wanted_info p) (interface_so p)
    (in_order w true) (order_kind w true))
    ∙ ap (λ (rows : List ClassTable). map (wanted_info p) (in_order w true)
    ++ classes_by (class_ref p) (method_offset p) p.files rows) tables
    ∙ ap (λ (cs : List Wanted). map (wanted_info p) (in_order w true) ++ cs) (classes_so p (in_order w false)
    (order_kind w false) numbers)
    ∙ sym (map-append (wanted_info p) (in_order w true) (in_order w false))

-- what is put together by class_refs and offsets that are the package's
pub wants_are : (p : Pair) (files : Files) → p.files ≡ files → (ref : List ℕ → ClassRef) (offset : Found → ℕ)
    → ((name : List ℕ) → ref name ≡ class_ref p name) → ((f : Found) → offset f ≡ method_offset p f)
    → (ns : List ℕ) (ts : List ClassTable)
    → map Some (in_order (all_classes files) true) ≡ map (declared_at files.classes) ns
    → ts ≡ class_tables (all_classes files)
    → map Some (in_order (all_classes files) false) ≡ map (λ c. declared_at files.classes c.number)
    (in_order (all_classes files) false)
    → interfaces_by ref files ns ++ classes_by ref offset files ts ≡ wanted_infos p
wants_are p files is ref offset refs offsets ns ts order tables numbers =
    let own : p.files ≡ files = is in
    ap (λ (r : List ℕ → ClassRef). interfaces_by r files ns ++ classes_by r offset files ts) (λ i name. refs name i)
    ∙ ap (λ (o : Found → ℕ). interfaces_by (class_ref p) files ns ++ classes_by (class_ref p) o files ts)
    (λ i f. offsets f i)
    ∙ ap (λ (q : Files). interfaces_by (class_ref p) q ns ++ classes_by (class_ref p) (method_offset p) q ts) (sym own)
    ∙ by_package p ns ts
    (subst (λ (q : Files). map Some (in_order (all_classes q) true) ≡ map (declared_at q.classes) ns) (sym own) order)
    (subst (λ (q : Files). ts ≡ class_tables (all_classes q)) (sym own) tables)
    (subst (λ (q : Files). map Some (in_order (all_classes q) false) ≡ map (λ c. declared_at q.classes c.number)
    (in_order (all_classes q) false)) (sym own) numbers)

-- ---- interfaces before classes

pub order_parts : (files : Files) (is cs all : List ℕ)
    → map Some (in_order (all_classes files) true) ≡ map (declared_at files.classes) is
    → map Some (in_order (all_classes files) false) ≡ map (declared_at files.classes) cs → all ≡ is ++ cs
    → map Some (class_order (all_classes files)) ≡ map (declared_at files.classes) all
unfolding class_order
order_parts files is cs all e f put =
    map-append (λ (c : Class). Some c) (in_order (all_classes files) true) (in_order (all_classes files) false)
    ∙ ap (λ (os : List (Option Class)). os ++ map Some (in_order (all_classes files) false)) e
    ∙ ap (λ (os : List (Option Class)). map (declared_at files.classes) is ++ os) f
    ∙ sym (map-append (declared_at files.classes) is cs)
    ∙ ap (map (declared_at files.classes)) (sym put)
