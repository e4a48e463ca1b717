-- Descriptors of members that entries of the constant pool name, as code looks for them.
use Rattle.std.proofs.Common.{◌≡◌, ℕ, zero, suc, ◌-◌, ◌<◌, ◌==◌, Bool, true, false, List, [], ◌∷◌, ◌++◌, append-nil}
use Rattle.std.proofs.Common.{length, map}
use Rattle.std.proofs.Common.{refl, sym, ap, ◌∙◌, Option, Some, None}
use Rattle.std.specs.Prelude.{if◌then◌else◌, is_some, option_and_then, option_map, position, slice_get, unwrap_or}
use Rattle.std.specs.List.{find}
use Rattle.cjc_bytes.proofs.Gets.{get_below, get_mapped}
use Rattle.cjc_bytes.proofs.Lists.{length_mapped, map_map}
use Rattle.cjc_bytes.specs.declared.fault.MemberId.{MemberId}
use Rattle.cjc_capread.specs.declared.tree.ClassRef.{ClassRef}
use Rattle.cjc_capread.specs.declared.tree.PoolEntry.{PoolEntry}
use Rattle.cjc_capread.specs.declared.tree.PoolEntry.TheVariants.{Classref, InstanceFieldref, StaticFieldref}
use Rattle.cjc_capread.specs.declared.tree.PoolEntry.TheVariants.{StaticMethodref, SuperMethodref, VirtualMethodref}
use Rattle.cjc_card_acts.specs.CardSemantics.Machine.Classes.{external, with_token}
use Rattle.cjc_card_acts.specs.CardSemantics.Machine.Dispatch.{exported_line}
use Rattle.cjc_card_acts.specs.CardSemantics.Machine.Loaded.{Loaded}
use Rattle.cjc_check_rules.specs.Classes.{imported as imported_class}
use Rattle.cjc_classes.specs.Descriptor.Keys.{key_cell}
use Rattle.cjc_classes.proofs.TokensFacts.{position-cons}
use Rattle.cjc_classes.proofs.VTableNumbers.{at-kind, at-tree}
use Rattle.cjc_classes.specs.LowerComponents.Descriptor.{as_added, method_in, no_member}
use Rattle.cjc_classes.specs.NCode.declared.narrow.PoolKey.{PoolKey}
use Rattle.cjc_classes.specs.NCode.declared.narrow.PoolKey.TheVariants.{StaticField}
use Rattle.cjc_classes.specs.LowerComponents.Statics.{cell_offset, cell_order}
use Rattle.cjc_world.specs.ExportFile.Supers.{classes_of, upwards}
use Rattle.cjc_world.specs.ExportFile.declared.tree.ExportClass.{ExportClass}
use Rattle.cjc_world.specs.ExportFile.declared.tree.ExportTree.{ExportTree}
use Rattle.cjc_classes.specs.ClassOrder.Classes.Numbers.{declared_at}
use Rattle.cjc_world.specs.Added.{added, added_at}
use Rattle.cjc_world.specs.ClassFile.declared.tree.ClassTree.{ClassTree}
use Rattle.cjc_world.specs.ClassFile.declared.tree.FieldTree.{FieldTree}
use Rattle.cjc_world.specs.Classes.{Class, Member, all_classes, declared, field_of_class, field_of_export}
use Rattle.cjc_world.specs.Classes.{imported, method_of_export}
use Rattle.cjc_world.specs.Classes as world_of
use Rattle.cjc_world.specs.Files.{Files}
use Rattle.cjc_world.specs.Order.{class_order}
use Rattle.cjc_world.specs.declared.image.StaticImage.{StaticImage}
use Rattle.cjc_verify.specs.Cells.{cell_desc, desc_of_key}
use Rattle.cjc_verify.specs.Entries.{desc_in_export, desc_of_own, is_class, own_method_desc, own_tree}
use Rattle.cjc_verify.specs.Named.{line_of, named_desc}
use Rattle.cjc_verify.specs.Pairs.{Described, Pair, class_at, class_ref, member_of, nibbles_of, starts, world}
use Rattle.cjc_verify.specs.WantedDescribed.{wanted_entry}
use Rattle.cjc_verify.specs.WantedMembers.{card_nibbles}
use Rattle.cjc_verify.specs.Working.Methods.{facts_of, member_by}
use Rattle.cjc_verify.specs.declared.described.wanted.WantedEntry.TheVariants as entries
use Rattle.cjc_verify.specs.declared.methods.KnownMethod.{KnownMethod}
use Rattle.cjc_verify.proofs.DescribedLaws.TypesFound.{one_later}
use Rattle.cjc_verify.proofs.KnownMethods.{desc_same}

-- ---- static fields by their cells

by_offset : (off : MemberId → ℕ) (fs : List MemberId) (offset : ℕ)
    → option_and_then desc_of_key (option_and_then (slice_get (map (λ (f : MemberId). StaticField f) fs)) (position
    (λ n. n == offset) (map off fs))) ≡ option_map (λ (f : MemberId). f.desc) (find (λ f. off f == offset) fs)
by_offset off [] offset = refl
by_offset off (f ∷ fs) offset =
    ap (λ (o : Option ℕ). option_and_then desc_of_key (option_and_then (slice_get (map (λ (g : MemberId). StaticField g)
    (f ∷ fs))) o)) (position-cons (λ n. n == offset) (off f) (map off fs))
    ∙ by (off f == offset) (by_offset off fs offset)
  where
    by : (b : Bool)
        → option_and_then desc_of_key (option_and_then (slice_get (map (λ (g : MemberId). StaticField g) fs)) (position
        (λ n. n == offset) (map off fs))) ≡ option_map (λ (g : MemberId). g.desc) (find (λ g. off g == offset) fs)
        → option_and_then desc_of_key (option_and_then (slice_get (map (λ (g : MemberId). StaticField g) (f ∷ fs)))
        (if b then Some 0 else option_map suc (position (λ n. n == offset) (map off fs))))
        ≡ option_map (λ (g : MemberId). g.desc) (if b then Some f else find (λ g. off g == offset) fs)
    by true e = refl
    by false e = ap (option_and_then desc_of_key) (sym (one_later (StaticField f) (map (λ (g : MemberId). StaticField g)
        fs) (position (λ n. n == offset) (map off fs)))) ∙ e

pub cells_are : (image : StaticImage) (keys : List PoolKey) (offsets : List ℕ)
    → keys ≡ map (λ (f : MemberId). StaticField f) (cell_order image)
    → offsets ≡ map (key_cell (cell_offset image)) keys → (offset : ℕ)
    → option_and_then desc_of_key (option_and_then (slice_get keys) (position (λ n. n == offset) offsets))
    ≡ cell_desc image offset
cells_are image keys offsets are at offset =
    let fs = cell_order image in
    let same : offsets ≡ map (cell_offset image) fs = at ∙ ap (map (key_cell (cell_offset image))) are
    ∙ map_map (key_cell (cell_offset image)) (λ (f : MemberId). StaticField f) fs in
    ap (λ (ks : List PoolKey). option_and_then desc_of_key (option_and_then (slice_get ks) (position (λ n. n == offset)
    offsets))) are
    ∙ ap (λ (ns : List ℕ). option_and_then desc_of_key (option_and_then (slice_get (map (λ (f : MemberId). StaticField
    f)
    fs)) (position (λ n. n == offset) ns))) same
    ∙ by_offset (cell_offset image) fs offset

-- ---- classes of the package

along : {A B : Type 0} (xs : List A) (g : B → Option A) (ns : List B) (k : ℕ) → map Some xs ≡ map g ns → slice_get xs k
    ≡ option_and_then g (slice_get ns k)
along [] g [] k e = refl
along [] g (n ∷ ns) k e = cc
along (x ∷ xs) g [] k e = cc
along (x ∷ xs) g (n ∷ ns) zero e = cc
along (x ∷ xs) g (n ∷ ns) (suc k) e = let rest : map Some xs ≡ map g ns = cc in along xs g ns k rest

number_found : (xs : List Class) (g : ℕ → Option Class) (ns : List ℕ) (k : Option ℕ) → map Some xs ≡ map g ns
    → option_and_then (slice_get xs) k ≡ option_and_then g (option_and_then (slice_get ns) k)
number_found xs g ns None e = refl
number_found xs g ns (Some k) e = along xs g ns k e

-- the number of the class whose info begins at an offset
pub number_is : (p : Pair) (begin order : List ℕ) (offset : ℕ) (k o : Option ℕ) → begin ≡ starts p
    → map Some (class_order (world p)) ≡ map (declared_at p.files.classes) order
    → k ≡ position (λ at. at == offset) begin → o ≡ option_and_then (slice_get order) k
    → class_at p offset ≡ option_and_then (declared_at p.files.classes) o
number_is p begin order offset k o are same at is =
    ap (option_and_then (slice_get (class_order (world p)))) (sym (at ∙ ap (position (λ at. at == offset)) are))
    ∙ number_found (class_order (world p)) (declared_at p.files.classes) order k same
    ∙ ap (option_and_then (declared_at p.files.classes)) (sym is)

-- the class of a number that is there
pub by_declared : {B : Type 0} (f : Class → Option B) (trees : List ClassTree) (n : ℕ) (t : ClassTree)
    → Some t ≡ slice_get trees n → f (declared n t) ≡ option_and_then f (declared_at trees n)
by_declared f trees n t e = ap (λ (o : Option ClassTree). option_and_then f (option_map (declared n) o)) e

pub by_none : {B : Type 0} (f : Class → Option B) (trees : List ClassTree) (n : ℕ) → None ≡ slice_get trees n
    → None ≡ option_and_then f (declared_at trees n)
by_none f trees n e = ap (λ (o : Option ClassTree). option_and_then f (option_map (declared n) o)) e

-- the descriptor of a field of its file
pub field_at : (t : ClassTree) (k : ℕ) → desc_of_own t k ≡ option_map (λ (m : Member). m.desc) (slice_get
    (map field_of_class t.fields) k)
field_at t k = by (slice_get t.fields k) ∙ sym (ap (option_map (λ (m : Member). m.desc)) (get_mapped field_of_class
    t.fields k))
  where
    by : (o : Option FieldTree) → option_map (λ (f : FieldTree). f.desc) o
        ≡ option_map (λ (m : Member). m.desc) (option_map field_of_class o)
    by None = refl
    by (Some f) = refl

-- ---- methods by the numbers of their classes

none_added : (w : List Class) (n : ℕ) (e : ExportClass) → added w (imported n e) ≡ []
unfolding added
none_added w n e = refl

-- of an imported class
pub listed_desc : (files : Files) (n k m : ℕ) (e : ExportClass)
    → Some (imported m e) ≡ world_of.class_at (all_classes files) true n → Some (desc_in_export e k)
    ≡ own_method_desc files true n k
listed_desc files n k m e is =
    let w = all_classes files in
    let c = imported m e in
    let methods = map method_of_export e.methods in
    let at : List Member → ℕ → Option (List ℕ) = λ ms i. Some (let x = unwrap_or (slice_get ms i) no_member in x.desc)
    in
    ap (λ (i : ℕ). at methods (k - i)) (sym (length_mapped field_of_export e.fields))
    ∙ ap (λ (ms : List Member). at ms (k - length (map field_of_export e.fields))) (sym (append-nil methods)
    ∙ ap (λ (ms : List Member). methods ++ map as_added ms) (sym (none_added w m e)))
    ∙ ap (λ (o : Option Class). option_map (λ (c : Class). let x = method_in w c k in x.desc) o) is

pub listed_never : (files : Files) (n k m : ℕ) (t : ClassTree)
    → Some (declared m t) ≡ world_of.class_at (all_classes files) true n → None ≡ own_method_desc files true n k
listed_never files n k m t is =
    let kind = at-kind (all_classes files) true n (declared m t) (sym is) in
    let e : false ≡ true = kind.0 in
    absurd (cc)

pub listed_none : (files : Files) (n k : ℕ) → None ≡ world_of.class_at (all_classes files) true n
    → None ≡ own_method_desc files true n k
listed_none files n k is = ap (λ (o : Option Class). option_map (λ (c : Class). let x = method_in (all_classes files)
    c k
    in x.desc) o) is

-- of a class of the package
own_there : (files : Files) (n : ℕ) (t : ClassTree) → Some t ≡ own_tree files n
    → (world_of.class_at (all_classes files) false n ≡ Some (declared n t)) × (Some t ≡ slice_get files.classes n)
own_there files n t at = by (world_of.class_at (all_classes files) false n) refl at
  where
    by : (o : Option Class) → world_of.class_at (all_classes files) false n ≡ o
        → Some t ≡ (if is_some o then slice_get files.classes n else None)
        → (world_of.class_at (all_classes files) false n ≡ Some (declared n t)) × (Some t ≡ slice_get files.classes n)
    by None e h = absurd cc
    by (Some c) e h =
        let (u, is_tree, is_class) = at-tree files n c e in
        let same : t ≡ u = (let g = h ∙ is_tree in cc) in
        (e ∙ ap Some (is_class ∙ ap (declared n) (sym same)), h)

pub own_below : (files : Files) (n : ℕ) (t : ClassTree) → Some t ≡ own_tree files n → n < length files.classes
own_below files n t at = get_below files.classes n t (sym (own_there files n t at).1)

pub declared_desc : (files : Files) (n k : ℕ) (t : ClassTree) (added : List MemberId) (desc : List ℕ)
    → Some t ≡ own_tree files n → added ≡ added_at files n → desc ≡ (let m = member_by t added k in m.desc)
    → Some desc ≡ own_method_desc files false n k
declared_desc files n k t added desc at gets is =
    let w = all_classes files in
    let there = own_there files n t at in
    ap Some (is ∙ ap (λ (ids : List MemberId). let m = member_by t ids k in m.desc) gets
    ∙ sym (desc_same files n t k (sym there.1)))
    ∙ ap (λ (o : Option Class). option_map (λ (x : Class). let m = method_in w x k in m.desc) o) (sym there.0)

pub declared_none : (files : Files) (n k : ℕ) → None ≡ own_tree files n → None ≡ own_method_desc files false n k
declared_none files n k at = by (world_of.class_at (all_classes files) false n) refl at
  where
    by : (o : Option Class) → world_of.class_at (all_classes files) false n ≡ o
        → None ≡ (if is_some o then slice_get files.classes n else None)
        → None ≡ option_map (λ (x : Class). let m = method_in (all_classes files) x k in m.desc) o
    by None e h = refl
    by (Some c) e h =
        let (u, is_tree, is_class) = at-tree files n c e in
        let none : None ≡ Some u = h ∙ is_tree in
        absurd cc

-- the method whose header stands at an offset
pub known_desc : (p : Pair) (o : Option Described) (k : KnownMethod) → Some k ≡ option_map (facts_of p) o
    → Some k.desc ≡ option_map (λ (d : Described). let m = member_of p d in m.desc) o
known_desc p None k e = cc
known_desc p (Some d) k e = let same : k ≡ facts_of p d = cc in ap (λ (x : KnownMethod). Some x.desc) same

pub known_none : (p : Pair) (o : Option Described) → None ≡ option_map (facts_of p) o
    → None ≡ option_map (λ (d : Described). let m = member_of p d in m.desc) o
known_none p None e = refl
known_none p (Some d) e = cc

-- ---- imported classes

with_found : (classes : List ExportClass) (token : ℕ) → with_token classes token ≡ find (λ (c : ExportClass). c.token
    == token) classes
with_found [] token = refl
with_found (c ∷ classes) token = by (c.token == token) (with_found classes token)
  where
    by : (b : Bool) → with_token classes token ≡ find (λ (x : ExportClass). x.token == token) classes
        → (if b then Some c else with_token classes token)
        ≡ (if b then Some c else find (λ (x : ExportClass). x.token == token) classes)
    by true e = refl
    by false e = e

external_is : (l : Loaded) (exports : List ExportTree) (import class : ℕ) → l.trees ≡ exports
    → external l import class ≡ imported_class exports import class
external_is l exports import class same =
    ap (λ (ts : List ExportTree). option_and_then (λ (t : ExportTree). with_token t.classes class) (slice_get ts
    import))
    same
    ∙ by (slice_get exports import)
  where
    by : (o : Option ExportTree) → option_and_then (λ (t : ExportTree). with_token t.classes class) o
        ≡ option_and_then (λ (t : ExportTree). find (λ (c : ExportClass). c.token == class) t.classes) o
    by None = refl
    by (Some t) = with_found t.classes class

line_same : (l : Loaded) (exports : List ExportTree) (c : Option ExportClass) → l.trees ≡ exports → exported_line l c
    ≡ line_of exports c
line_same l exports None same = refl
line_same l exports (Some c) same = ap (λ (ts : List ExportTree). c ∷ upwards (classes_of ts) c.supers) same

-- an imported class by its tokens, and what stands above it
pub line_is : (l : Loaded) (exports : List ExportTree) (import class : ℕ) → l.trees ≡ exports
    → exported_line l (external l import class) ≡ line_of exports (imported_class exports import class)
line_is l exports import class same =
    line_same l exports (external l import class) same
    ∙ ap (line_of exports) (external_is l exports import class same)

-- ---- entries

pub class_entry : (p : Pair) (e : PoolEntry) → is_class e ≡ true → entries.Class ≡ wanted_entry p e
class_entry p (Classref class) h = refl
class_entry p (InstanceFieldref class token) h = absurd cc
class_entry p (VirtualMethodref class token) h = absurd cc
class_entry p (SuperMethodref class token) h = absurd cc
class_entry p (StaticFieldref field) h = absurd cc
class_entry p (StaticMethodref method) h = absurd cc

pub member_entry : (p : Pair) (e : PoolEntry) (ref : List ℕ → ClassRef) (desc nibbles : Option (List ℕ))
    → ((name : List ℕ) → ref name ≡ class_ref p name) → is_class e ≡ false → desc ≡ named_desc p e
    → nibbles ≡ option_and_then (card_nibbles ref) desc → entries.Member nibbles ≡ wanted_entry p e
member_entry p e ref desc nibbles refs h named is =
    ap entries.Member (is
    ∙ ap (option_and_then (card_nibbles ref)) named
    ∙ ap (λ (r : List ℕ → ClassRef). option_and_then (card_nibbles r) (named_desc p e)) (λ i name. refs name i))
    ∙ by e h
  where
    by : (e : PoolEntry) → is_class e ≡ false → entries.Member (option_and_then (nibbles_of p) (named_desc p e))
        ≡ wanted_entry p e
    by (Classref class) h = absurd cc
    by (InstanceFieldref class token) h = refl
    by (VirtualMethodref class token) h = refl
    by (SuperMethodref class token) h = refl
    by (StaticFieldref field) h = refl
    by (StaticMethodref method) h = refl
