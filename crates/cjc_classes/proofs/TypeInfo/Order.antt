-- What a walk over the numbers of the classes in their order meets.
use Rattle.std.proofs.Common.{◌≡◌, ℕ, suc, ◌+◌, ◌*◌, Bool, true, false, List, [], ◌∷◌, ◌++◌, map, length, slice_get}
use Rattle.std.proofs.Common.{refl, sym, ap, ◌∙◌, append_assoc, Option, Some, None}
use Rattle.std.specs.Prelude.{if◌then◌else◌, option_map, codes}
use Rattle.std.specs.List.{flat_map}
use Rattle.std.specs.Str.{bytes_eq}
use Rattle.std.proofs.lemmas.List.{map-append}
use Rattle.cjc_bytes.specs.declared.fault.MemberId.{MemberId}
use Rattle.cjc_components.specs.LowerCapRead.declared.tree.ClassRef.{ClassRef}
use Rattle.cjc_world.specs.ClassFile.declared.tree.ClassTree.{ClassTree}
use Rattle.cjc_world.specs.ClassFile.declared.tree.MethodTree.{MethodTree}
use Rattle.cjc_world.specs.Files.{Files}
use Rattle.cjc_world.specs.Classes.{Class, Member, all_classes, declared, method_of_class}
use Rattle.cjc_world.specs.Added.{added, added_at, added_to, named_by, without_initialiser}
use Rattle.cjc_world.specs.Order.{class_order}
use Rattle.cjc_components.specs.LowerNCode.declared.narrow.PoolKey.{PoolKey}
use Rattle.cjc_components.specs.LowerClassOrder.Supers.Supers.{each_once}
use Rattle.cjc_components.specs.LowerClassOrder.Supers.Working.Walk.{with_all}
use Rattle.cjc_components.proofs.ClassOrderSets.{all_append, all_once}
use Rattle.cjc_components.specs.Class.{fields_in}
use Rattle.cjc_components.specs.Package.{Package, pool, world}
use Rattle.cjc_components.specs.Names.{class_ref}
use Rattle.cjc_components.specs.LowerCheckRules.Spots.{starts}
use Rattle.cjc_components.specs.LowerCheckRules.Complete.{type_size}
use Rattle.cjc_components.specs.Types.{all_descs, desc_of_field, desc_of_key, descs_of_class, nibbles_of}
use Rattle.cjc_components.specs.Types.{type_descriptor, type_starts, types_of}
use Rattle.cjc_classes.specs.TypeInfo.TypeTable.{AreOf, class_at, type_table}
use Rattle.cjc_classes.specs.TypeInfo.Working.Nibbles.{nibbles_in}
use Rattle.cjc_classes.specs.TypeInfo.Working.Descs.{all_nibbles, desc_of_added, desc_of_method, descs_at, descs_in}
use Rattle.cjc_classes.specs.TypeInfo.Working.Descs.{descs_where, nibbles_of_each}
use Rattle.cjc_classes.proofs.TypeInfo.Walks.{nibbles_of_all}

head_same : {A : Type 0} (x y : A) (xs ys : List A) → x ∷ xs ≡ y ∷ ys → x ≡ y
head_same x y xs ys e = cc

tail_same : {A : Type 0} (x y : A) (xs ys : List A) → x ∷ xs ≡ y ∷ ys → xs ≡ ys
tail_same x y xs ys e = cc

-- what numbers give is what their classes give
module _ {B : Type 0} (classes : List ClassTree) (f : ℕ → List B) (g : Class → List B) (same : (n : ℕ) (t : ClassTree)
    → slice_get classes n ≡ Some t → f n ≡ g (declared n t)) where
  at_number : (n : ℕ) (c : Class) (o : Option ClassTree) → slice_get classes n ≡ o → Some c ≡ option_map (declared n) o
      → f n ≡ g c
  at_number n c None e s = absurd cc
  at_number n c (Some t) e s = let is : declared n t ≡ c = cc in same n t e ∙ ap g is

  pub along_order : (cs : List Class) (ns : List ℕ) → map Some cs ≡ map (class_at classes) ns
      → flat_map f ns ≡ flat_map g cs
  along_order [] [] e = refl
  along_order [] (n ∷ ns) e = absurd cc
  along_order (c ∷ cs) [] e = absurd cc
  along_order (c ∷ cs) (n ∷ ns) e =
      let first = at_number n c (slice_get classes n) refl (head_same (Some c) (class_at classes n) (map Some cs)
      (map (class_at classes) ns) e) in
      let rest = along_order cs ns (tail_same (Some c) (class_at classes n) (map Some cs) (map (class_at classes) ns) e)
      in
      ap (λ xs. xs ++ flat_map f ns) first ∙ ap (λ xs. g c ++ xs) rest

-- ---- one class

own_descs : (ms : List MethodTree) → flat_map desc_of_method ms
    ≡ map (λ m. m.desc) (without_initialiser (map method_of_class ms))
own_descs [] = refl
own_descs (m ∷ ms) = by (own_descs ms) (bytes_eq m.name (codes "<clinit>"))
  where
    by : flat_map desc_of_method ms ≡ map (λ (k : Member). k.desc) (without_initialiser (map method_of_class ms))
        → (b : Bool) → (if b then [] else m.desc ∷ []) ++ flat_map desc_of_method ms ≡ map (λ (k : Member). k.desc)
        (if b then without_initialiser (map method_of_class ms) else method_of_class m
        ∷ without_initialiser (map method_of_class ms))
    by rest true = rest
    by rest false = ap (λ xs. m.desc ∷ xs) rest

added_descs : (class : List ℕ) (ms : List Member) → flat_map desc_of_added (map (named_by class) ms)
    ≡ map (λ m. m.desc) ms
added_descs class [] = refl
added_descs class (m ∷ ms) = ap (λ xs. m.desc ∷ xs) (added_descs class ms)

pub added_is : (files : Files) (n : ℕ) (t : ClassTree) → slice_get files.classes n ≡ Some t
    → added_at files n ≡ map (named_by t.name) (added (all_classes files) (declared n t))
unfolding added_at
added_is files n t e = ap (added_to (all_classes files) n) e

class_descs : (p : Package) (n : ℕ) (t : ClassTree) → slice_get (let files = p.files in files.classes) n ≡ Some t
    → descs_at p.files n ≡ descs_of_class p (declared n t)
class_descs p n t e =
    ap (descs_where (added_at p.files n)) e
    ∙ ap (λ xs. flat_map desc_of_field t.fields ++ (xs ++ flat_map desc_of_added (added_at p.files n)))
    (own_descs t.methods)
    ∙ ap (λ xs. flat_map desc_of_field t.fields
    ++ (map (λ m. m.desc) (without_initialiser (map method_of_class t.methods)) ++ xs)) (ap (flat_map desc_of_added)
    (added_is p.files n t e) ∙ added_descs t.name (added (world p) (declared n t)))
    ∙ ap (λ o. flat_map desc_of_field (fields_in o)
    ++ (map (λ m. m.desc) (without_initialiser (map method_of_class t.methods))
    ++ map (λ m. m.desc) (added (world p) (declared n t)))) (sym e)

-- ---- all types

pub types_are : (p : Package) (order : List ℕ) → map Some (class_order (world p)) ≡ map (class_at (let files = p.files
    in files.classes)) order
    → with_all (with_all [] (flat_map (nibbles_of_each (class_ref p) desc_of_key) (pool p)))
    (flat_map (nibbles_of_each (class_ref p) (descs_at p.files)) order) ≡ types_of p
types_are p order in_order =
    let ref = class_ref p in
    ap (λ xs. with_all (with_all [] xs) (flat_map (nibbles_of_each ref (descs_at p.files)) order))
    (sym (nibbles_of_all ref desc_of_key (pool p)))
    ∙ ap (λ xs. with_all (with_all [] (all_nibbles ref (flat_map desc_of_key (pool p)))) xs)
    (sym (nibbles_of_all ref (descs_at p.files) order))
    ∙ ap (λ xs. with_all (with_all [] (all_nibbles ref (flat_map desc_of_key (pool p)))) (all_nibbles ref xs))
    (along_order (let files = p.files in files.classes) (descs_at p.files) (descs_of_class p) (class_descs p)
    (class_order (world p)) order in_order)
    ∙ sym (all_append [] (all_nibbles ref (flat_map desc_of_key (pool p))) (all_nibbles ref (flat_map (descs_of_class p)
    (class_order (world p)))))
    ∙ ap (with_all []) (sym (map-append (nibbles_in ref) (flat_map desc_of_key (pool p)) (flat_map (descs_of_class p)
    (class_order (world p)))))
    ∙ all_once [] (map (nibbles_of p) (all_descs p))

-- the table of a package
pub table_is : (p : Package) (files : Files) (order : List ℕ) (keys : List PoolKey) (refs : List ℕ
    → ClassRef) (types : List (List ℕ)) (at : List ℕ) → AreOf p files order keys refs
    → types ≡ with_all (with_all [] (flat_map (nibbles_of_each refs desc_of_key) keys))
    (flat_map (nibbles_of_each refs (descs_at files)) order)
    → at ≡ starts type_size (2 + 2 * length keys) (map type_descriptor types) → record { types = types; starts = at }
    ≡ type_table p
table_is p files order keys refs types at h is_types is_starts =
    let t : types ≡ types_of p =
    is_types
    ∙ ap (λ (r : List ℕ → ClassRef). with_all (with_all [] (flat_map (nibbles_of_each r desc_of_key) keys))
    (flat_map (nibbles_of_each r (descs_at files)) order)) h.by_refs
    ∙ ap (λ (ks : List PoolKey). with_all (with_all [] (flat_map (nibbles_of_each (class_ref p) desc_of_key) ks))
    (flat_map (nibbles_of_each (class_ref p) (descs_at files)) order)) h.by_keys
    ∙ ap (λ (fs : Files). with_all (with_all [] (flat_map (nibbles_of_each (class_ref p) desc_of_key) (pool p)))
    (flat_map (nibbles_of_each (class_ref p) (descs_at fs)) order)) (sym h.by_files)
    ∙ types_are p order (h.in_order ∙ ap (λ (fs : Files). map (class_at fs.classes) order) (sym h.by_files)) in
    let s : at ≡ type_starts p =
    is_starts
    ∙ ap (λ (ks : List PoolKey). starts type_size (2 + 2 * length ks) (map type_descriptor types)) h.by_keys
    ∙ ap (λ (ts : List (List ℕ)). starts type_size (2 + 2 * length (pool p)) (map type_descriptor ts)) t in
    (λ i. record { types = t i; starts = s i })
