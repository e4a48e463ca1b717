-- What is kept of methods is what the definitions say of them.
use Rattle.std.proofs.Common.{◌≡◌, ℕ, zero, suc, ◌-◌, ◌≤◌, Bool, List, [], ◌∷◌, ◌++◌, length, map, refl, sym, ap, ◌∙◌}
use Rattle.std.proofs.Common.{append_assoc, append-nil, subst, arith, Option, Some, None, option_map, slice_get}
use Rattle.std.specs.Prelude.{unwrap_or}
use Rattle.cjc_bytes.proofs.Gets.{get_back, get_mapped, in_front}
use Rattle.cjc_bytes.proofs.Lists.{length_mapped, map_append, map_map}
use Rattle.cjc_bytes.specs.AccessFlags.{is_interface}
use Rattle.cjc_bytes.specs.declared.fault.MemberId.{MemberId}
use Rattle.cjc_capread.specs.declared.tree.ClassDescriptor.{ClassDescriptor}
use Rattle.cjc_capread.specs.declared.tree.ClassRef.{ClassRef}
use Rattle.cjc_capread.specs.declared.tree.MethodDescriptor.{MethodDescriptor}
use Rattle.cjc_classes.specs.LowerComponents.Descriptor.{as_added, method_in, no_member}
use Rattle.cjc_classes.specs.ClassOrder.Classes.Numbers.{declared_at}
use Rattle.cjc_world.specs.Added.{added, added_at, added_to, named_by}
use Rattle.cjc_world.specs.ClassFile.declared.tree.ClassTree.{ClassTree}
use Rattle.cjc_world.specs.ClassFile.declared.tree.MethodTree.{MethodTree}
use Rattle.cjc_world.specs.Classes.{Class, Member, all_classes, declared, field_of_class, method_of_class}
use Rattle.cjc_world.specs.Files.{Files}
use Rattle.cjc_world.specs.Order.{class_order, methods_of_class}
use Rattle.cjc_world.specs.declared.found.Found.{Found}
use Rattle.cjc_verify.specs.Pairs.{Pair, Described, described, described_among, described_in, world}
use Rattle.cjc_verify.specs.Working.Methods.{facts, facts_of, got_member, known_among, known_at, known_by, known_each}
use Rattle.cjc_verify.specs.Working.Methods.{known_where, member_by}
use Rattle.cjc_verify.specs.declared.methods.KnownMethod.{KnownMethod}

-- ---- a member by its place

past : {A : Type 0} (xs : List A) (k : ℕ) → slice_get xs k ≡ None → length xs ≤ k
past [] k e = omega arith
past (x ∷ xs) zero e = absurd cc
past (x ∷ xs) (suc k) e = let h = past xs k e in omega (arith, h)

-- it is one of the class file
pub own_member : (c : ClassTree) (added : List MemberId) (i place : ℕ) (m : MethodTree) → place ≡ i - length c.fields
    → slice_get c.methods place ≡ Some m → member_by c added i ≡ method_of_class m
own_member c added i place m at is =
    ap (λ (k : ℕ). unwrap_or (slice_get (map method_of_class c.methods ++ map got_member added) k) no_member) (sym at)
    ∙ ap (λ (o : Option Member). unwrap_or o no_member) (in_front (map method_of_class c.methods)
    (map got_member added) place (method_of_class m) (get_mapped method_of_class c.methods place
    ∙ ap (option_map method_of_class) is))

-- it is one that the class gets
pub other_member : (c : ClassTree) (added : List MemberId) (i place behind : ℕ) → place ≡ i - length c.fields
    → slice_get c.methods place ≡ None → behind ≡ place - length c.methods
    → member_by c added i ≡ unwrap_or (option_map got_member (slice_get added behind)) no_member
other_member c added i place behind at none is =
    let own = map method_of_class c.methods in
    let long : length own ≡ length c.methods = length_mapped method_of_class c.methods in
    let le = past c.methods place none in
    let far : length own ≤ place = omega (arith, le, long) in
    let same : place - length own ≡ behind = omega (arith, long, is) in
    ap (λ (k : ℕ). unwrap_or (slice_get (own ++ map got_member added) k) no_member) (sym at)
    ∙ ap (λ (o : Option Member). unwrap_or o no_member) (get_back own (map got_member added) place far
    ∙ ap (slice_get (map got_member added)) same
    ∙ get_mapped got_member added behind)

-- ---- members of a class by what is kept of them

bare : Member → Member
bare m = record m { token = 0 }

bare_got : (o : Option Member) → bare (unwrap_or o no_member) ≡ unwrap_or (option_map bare o) no_member
unfolding bare
bare_got None = refl
bare_got (Some m) = refl

bare_at : (xs : List Member) (k : ℕ) → bare (unwrap_or (slice_get xs k) no_member) ≡ unwrap_or (slice_get
    (map bare xs) k) no_member
bare_at xs k =
    bare_got (slice_get xs k) ∙ sym (ap (λ (o : Option Member). unwrap_or o no_member) (get_mapped bare xs k))

bare_added : (name : List ℕ) (xs : List Member) → map bare (map as_added xs) ≡ map bare (map got_member
    (map (named_by name) xs))
unfolding bare
bare_added name [] = refl
bare_added name (m ∷ xs) = ap (λ (ys : List Member). bare (as_added m) ∷ ys) (bare_added name xs)

added_is : (files : Files) (n : ℕ) (t : ClassTree) → slice_get files.classes n ≡ Some t → added_at files n
    ≡ map (named_by t.name) (added (all_classes files) (declared n t))
unfolding added_at
added_is files n t is = ap (added_to (all_classes files) n) is

bare_same : (files : Files) (n : ℕ) (t : ClassTree) (i : ℕ) → slice_get files.classes n ≡ Some t
    → bare (method_in (all_classes files) (declared n t) i) ≡ bare (member_by t (added_at files n) i)
bare_same files n t i is =
    let own = map method_of_class t.methods in
    let w = all_classes files in
    let more = map as_added (added w (declared n t)) in
    let gets = map got_member (added_at files n) in
    let k = i - length (map field_of_class t.fields) in
    let place : k ≡ i - length t.fields = ap (λ (l : ℕ). i - l) (length_mapped field_of_class t.fields) in
    let behind : map bare more ≡ map bare gets = bare_added t.name (added w (declared n t))
    ∙ ap (λ (ids : List MemberId). map bare (map got_member ids)) (sym (added_is files n t is)) in
    let all : map bare (own ++ more) ≡ map bare (own ++ gets) = map_append bare own more
    ∙ ap (λ (ys : List Member). map bare own ++ ys) behind
    ∙ sym (map_append bare own gets) in
    bare_at (own ++ more) k
    ∙ ap (λ (ys : List Member). unwrap_or (slice_get ys k) no_member) all
    ∙ sym (bare_at (own ++ gets) k)
    ∙ ap (λ (j : ℕ). bare (unwrap_or (slice_get (own ++ gets) j) no_member)) place

-- the descriptor of a member of a class of the package
pub desc_same : (files : Files) (n : ℕ) (t : ClassTree) (i : ℕ) → slice_get files.classes n ≡ Some t
    → (let m = method_in (all_classes files) (declared n t) i in m.desc) ≡ (let m = member_by t (added_at files n) i
    in m.desc)
unfolding bare
desc_same files n t i is = ap (λ (m : Member). m.desc) (bare_same files n t i is)

known_same : (interface : Bool) (holder : ClassRef) (d : MethodDescriptor) (a b : Member) → bare a ≡ bare b
    → known_by interface holder d a ≡ known_by interface holder d b
unfolding bare
known_same interface holder d a b same = ap (known_by interface holder d) same

-- ---- classes

in_class : (p : Pair) (n : ℕ) (t : ClassTree) (holder : ClassRef) (fs : List Found) (ms : List MethodDescriptor)
    → (let files = p.files in slice_get files.classes n ≡ Some t)
    → map (facts_of p) (described_in (declared n t) holder fs ms)
    ≡ known_each (is_interface t.flags) holder (member_by t (added_at p.files n)) fs ms
in_class p n t holder [] ms is = refl
in_class p n t holder (f ∷ fs) [] is = refl
in_class p n t holder (f ∷ fs) (m ∷ ms) is =
    ap (λ (ks : List KnownMethod). known_by (is_interface t.flags) holder m (method_in (world p) (declared n t)
    f.member) ∷ ks) (in_class p n t holder fs ms is)
    ∙ ap (λ (k : KnownMethod). k ∷ known_each (is_interface t.flags) holder (member_by t (added_at p.files n)) fs ms)
    (known_same (is_interface t.flags) holder m _ _ (bare_same p.files n t f.member is))

at_number : (p : Pair) (n : ℕ) (c : Class) (d : ClassDescriptor) (o : Option ClassTree)
    → (let files = p.files in slice_get files.classes n ≡ o) → Some c ≡ option_map (declared n) o
    → map (facts_of p) (described_in c d.this_class (methods_of_class (world p) c) d.methods)
    ≡ known_where p.files n d o
at_number p n c d None is e = absurd cc
at_number p n c d (Some t) is e =
    let same : c ≡ declared n t = cc in
    ap (λ (k : Class). map (facts_of p) (described_in k d.this_class (methods_of_class (world p) k) d.methods)) same
    ∙ in_class p n t d.this_class (methods_of_class (world p) (declared n t)) d.methods is

among : (p : Pair) (order : List Class) (ns : List ℕ) (ds : List ClassDescriptor)
    → (let files = p.files in map (λ (c : Class). Some c) order ≡ map (declared_at files.classes) ns)
    → map (facts_of p) (described_among (world p) order ds) ≡ known_among p.files ns ds
among p [] [] ds same = refl
among p [] (n ∷ ns) ds same = absurd cc
among p (c ∷ order) [] ds same = absurd cc
among p (c ∷ order) (n ∷ ns) [] same = refl
among p (c ∷ order) (n ∷ ns) (d ∷ ds) same =
    let files = p.files in
    let first : Some c ≡ declared_at files.classes n = cc in
    let rest : map (λ (c : Class). Some c) order ≡ map (declared_at files.classes) ns = cc in
    map_append (facts_of p) (described_in c d.this_class (methods_of_class (world p) c) d.methods)
    (described_among (world p) order ds)
    ∙ ap (λ (ks : List KnownMethod). ks ++ map (facts_of p) (described_among (world p) order ds)) (at_number p n c d
    (slice_get files.classes n) refl first)
    ∙ ap (λ (ks : List KnownMethod). known_at p.files n d ++ ks) (among p order ns ds rest)

-- what is put together is what the definitions say
pub facts_are : (p : Pair) (files : Files) (ns : List ℕ) (ds : List ClassDescriptor) → p.files ≡ files
    → (let c = p.components in let d = c.descriptor in d.classes ≡ ds)
    → map (λ (c : Class). Some c) (class_order (all_classes files)) ≡ map (declared_at files.classes) ns
    → known_among files ns ds ≡ facts p
facts_are p files ns ds is_files is_classes same =
    ap (λ (fs : Files). known_among fs ns ds) (sym is_files)
    ∙ ap (known_among p.files ns) (sym is_classes)
    ∙ sym (among p (class_order (world p)) ns (let c = p.components in let d = c.descriptor in d.classes)
    (subst (λ (fs : Files). map (λ (c : Class). Some c) (class_order (all_classes fs)) ≡ map (declared_at fs.classes)
    ns) (sym is_files) same))

-- ---- as they are put together

-- one more
pub each_next : (row new total : List KnownMethod) (known : KnownMethod) (more : List KnownMethod)
    → row ++ (known ∷ more) ≡ total → new ≡ row ++ known ∷ [] → new ++ more ≡ total
each_next row new total known more so_far is =
    ap (λ (ks : List KnownMethod). ks ++ more) is ∙ append_assoc row (known ∷ []) more ∙ so_far

-- those of one class more
pub among_next : (row new total some more : List KnownMethod) → row ++ (some ++ more) ≡ total → new ≡ row ++ some
    → new ++ more ≡ total
among_next row new total some more so_far is =
    ap (λ (ks : List KnownMethod). ks ++ more) is ∙ append_assoc row some more ∙ so_far

-- nothing more
pub known_end : (row total : List KnownMethod) → row ++ [] ≡ total → row ≡ total
known_end row total so_far = sym (append-nil row) ∙ so_far
