-- A package that is laid out has layouts of its methods and a pool, as those ask who emit them.
use Rattle.std.proofs.Common.{◌≡◌, ℕ, zero, suc, ◌+◌, ◌<◌, ◌≤◌, refl, sym, ap, subst, ◌∙◌, arith, Bool, true, false}
use Rattle.std.proofs.Common.{List, [], ◌∷◌, ◌++◌, length, map}
use Rattle.std.specs.Prelude.{◌||◌, Option, Some, None, option_and_then, option_map, position, slice_get}
use Rattle.std.specs.Prelude.{slice_index, if◌then◌else◌}
use Rattle.std.specs.List.{list_any}
use Rattle.std.proofs.lemmas.Bool.{ltb-false}
use Rattle.std.proofs.lemmas.Option.{slice_get-map}
use Rattle.cjc_bytes.specs.Breaks.{Break, at}
use Rattle.cjc_bytes.specs.declared.fault.MemberId.{MemberId}
use Rattle.cjc_bytes.proofs.Lists.{none_left, none_right}
use Rattle.cjc_bytes.proofs.Gets.{item_has, none_each}
use Rattle.cjc_bytes.proofs.Quantified.{any_both}
use Rattle.cjc_bytes.proofs.Numbers.{none_at}
use Rattle.cjc_components.specs.Limits.{form_breaks, in_class, is_too_long, layout_breaks, of_methods}
use Rattle.cjc_components.specs.Package.{LaidMethod, Package, world}
use Rattle.cjc_shape.specs.LowerJudge.declared.judged.Judged.{Judged}
use Rattle.cjc_classes.specs.Narrow.Keys.Working.Same.{same_member-Decides}
use Rattle.cjc_classes.specs.Layout.Handlers.{handlers_of, table_order}
use Rattle.cjc_classes.specs.Layout.Layouts.{IsLayout}
use Rattle.cjc_classes.specs.Layout.Legal.{IsLeast}
use Rattle.cjc_classes.specs.Layout.Sizes.{bytes_before, code_size}
use Rattle.cjc_classes.specs.Layout.declared.layout.Layout.{Layout}
use Rattle.cjc_shape.specs.LowerMethods.Ready.{IsOwn}
use Rattle.cjc_classes.specs.ClassOrder.Classes.Numbers.{class_count}
use Rattle.cjc_classes.specs.List.Listed.{ListTree}
use Rattle.cjc_narrow_proof.specs.NCode.PoolOrder.{pool_order, same_key, same_member}
use Rattle.cjc_narrow_proof.specs.NCode.declared.narrow.NInsn.{NInsn}
use Rattle.cjc_narrow_proof.specs.NCode.declared.narrow.NInsn.TheVariants as insns
use Rattle.cjc_narrow_proof.specs.NCode.declared.narrow.NMethod.{NMethod}
use Rattle.cjc_narrow_proof.specs.NCode.declared.narrow.PoolKey.TheVariants as keys
use Rattle.cjc_shape.specs.Pool.Pool.{IsPool, PoolView, calls, is_called, token_of}
use Rattle.cjc_tokens.proofs.Facts.{position-cons}
use Rattle.cjc_tokens.specs.Tokens.{Assigned, joined}
use Rattle.cjc_shape.proofs.PreparedLaws.Sound.{listed}
use Rattle.cjc_shape.proofs.WholeLaws.Codes.{draft_files, package_is_draft}
use Rattle.cjc_shape.proofs.WholeLaws.Ordered.{all_own}
use Rattle.cjc_shape.specs.Prepared.{IsSound}
use Rattle.cjc_shape.specs.Whole.Conversion.{IsPackageByModesOf}
use Rattle.cjc_world.specs.Classes.{Class, class_at}
use Rattle.cjc_world.specs.Files.{Files}
use Rattle.cjc_world.specs.Order.{method_order}
use Rattle.cjc_components.proofs.ListWholes.{or_none}

-- ---- the methods of interfaces that code calls

called_by : NInsn → List MemberId
called_by (insns.Interface nargs m) = m ∷ []
called_by _ = []

called_in : List NInsn → List MemberId
called_in [] = []
called_in (i ∷ is) = called_by i ++ called_in is

called_of : List NMethod → List MemberId
called_of [] = []
called_of (m ∷ ms) = called_in m.insns ++ called_of ms

insn_called : (id : MemberId) (i : NInsn) → calls id i ≡ list_any (same_member id) (called_by i)
unfolding called_by
insn_called id (insns.Interface nargs m) = sym (or_none (same_member id m))
insn_called id (insns.Op op) = refl
insn_called id (insns.Push op value) = refl
insn_called id (insns.Local op index) = refl
insn_called id (insns.Inc op index by) = refl
insn_called id (insns.Words op a b) = refl
insn_called id (insns.Jump op target) = refl
insn_called id (insns.Switch op other low cases) = refl
insn_called id (insns.Named op key) = refl
insn_called id (insns.NewArray kind) = refl
insn_called id (insns.TypeTest op kind class) = refl

insns_called : (id : MemberId) (is : List NInsn) → list_any (calls id) is ≡ list_any (same_member id) (called_in is)
unfolding called_in
insns_called id [] = refl
insns_called id (i ∷ is) = ap (λ b. b || list_any (calls id) is) (insn_called id i)
    ∙ ap (λ b. list_any (same_member id) (called_by i) || b) (insns_called id is)
    ∙ sym (any_both (same_member id) (called_by i) (called_in is))

all_called : (id : MemberId) (ms : List NMethod) → is_called ms id ≡ list_any (same_member id) (called_of ms)
unfolding called_of
all_called id [] = refl
all_called id (m ∷ ms) = ap (λ b. b || is_called ms id) (insns_called id m.insns)
    ∙ ap (λ b. list_any (same_member id) (called_in m.insns) || b) (all_called id ms)
    ∙ sym (any_both (same_member id) (called_in m.insns) (called_of ms))

-- what stands at the first place of the same name
found_first : (T : MemberId → Option ℕ) (id : MemberId) (ids : List MemberId)
    → option_and_then (λ i. joined (slice_get (map T ids) i)) (position (same_key (keys.Virtual id))
    (map keys.Virtual ids)) ≡ (if list_any (same_member id) ids then T id else None)
found_first T id [] = refl
found_first T id (x ∷ ids) =
    ap (option_and_then (λ i. joined (slice_get (T x ∷ map T ids) i))) (position-cons (same_key (keys.Virtual id))
    (keys.Virtual x) (map keys.Virtual ids))
    ∙ by (same_member id x) refl (position (same_key (keys.Virtual id)) (map keys.Virtual ids)) (found_first T id ids)
  where
    at : (o : Option (Option ℕ)) → o ≡ Some (T x) → joined o ≡ T x
    at o e = ap joined e

    by : (b : Bool) → same_member id x ≡ b → (o : Option ℕ) → option_and_then (λ i. joined (slice_get (map T ids) i)) o
        ≡ (if list_any (same_member id) ids then T id else None)
        → option_and_then (λ i. joined (slice_get (T x ∷ map T ids) i)) (if b then Some 0 else option_map suc o)
        ≡ (if b || list_any (same_member id) ids then T id else None)
    by true e o rest = let same : id ≡ x = (same_member-Decides id x).0 e in ap T (sym same)
    by false e None rest = rest
    by false e (Some i) rest = rest

-- the pool of these methods
pub pool_of : Files → Assigned → List NMethod → PoolView
pool_of files tokens methods = record {
  keys = pool_order methods;
  calls = map keys.Virtual (called_of methods);
  tokens = map (token_of files tokens) (called_of methods);
}

pub has_pool : (files : Files) (tokens : Assigned) (methods : List NMethod)
    → IsPool files tokens methods (pool_of files tokens methods)
unfolding pool_of
has_pool files tokens methods = record {
  keys = refl;
  token = λ id. found_first (token_of files tokens) id (called_of methods)
      ∙ sym (ap (λ b. if b then token_of files tokens id else None) (all_called id methods));
}

-- ---- layouts

offsets_from : (to : ℕ → ℕ) (k count : ℕ) → List ℕ
offsets_from to k zero = []
offsets_from to k (suc count) = to k ∷ offsets_from to (k + 1) count

offsets_count : (to : ℕ → ℕ) (k count : ℕ) → length (offsets_from to k count) ≡ count
unfolding offsets_from
offsets_count to k zero = refl
offsets_count to k (suc count) = ap suc (offsets_count to (k + 1) count)

offsets_each : (to : ℕ → ℕ) (k count j : ℕ) → j < count → slice_index (offsets_from to k count) j ≡ to (k + j)
unfolding offsets_from
offsets_each to k zero j l = absurd (omega (arith, l))
offsets_each to k (suc count) zero l = let at : k ≡ k + 0 = omega arith in ap to at
offsets_each to k (suc count) (suc j) l = let at : k + 1 + j ≡ k + suc j = omega arith
    in offsets_each to (k + 1) count j (omega (arith, l)) ∙ ap to at

pub layout_for : NMethod → List Bool → Layout
layout_for m wide = record {
  places = offsets_from (bytes_before m.insns wide) 0 (length m.insns);
  wide = wide;
  length = code_size m.insns wide;
  handlers = handlers_of (bytes_before m.insns wide) (table_order m.catches);
}

pub layout_is : (m : NMethod) (wide : List Bool) → IsLeast m.insns wide → IsLayout m (layout_for m wide)
unfolding layout_for
layout_is m wide least = record {
  wide = least;
  places = record {
    count = offsets_count (bytes_before m.insns wide) 0 (length m.insns);
    each = λ k l. let at : 0 + k ≡ k = omega arith in offsets_each (bytes_before m.insns wide) 0 (length m.insns) k l
        ∙ ap (bytes_before m.insns wide) at;
  };
  length = refl;
  handlers = refl;
}

pub layout_wide : (m : NMethod) (wide : List Bool) → (let l = layout_for m wide in l.wide ≡ wide)
unfolding layout_for
layout_wide m wide = refl

-- ---- what is broken of no method

-- a method is a member of a class of the package
pub members_own : (p : Package) → map (λ m. m.member) p.methods ≡ method_order (world p)
    → (let w = p.files in length w.classes ≤ class_count w.lines)
    → (k : ℕ) (m : LaidMethod) → slice_get p.methods k ≡ Some m → IsOwn p.files m.member
members_own p members listed k m e =
    let there : slice_get (method_order (world p)) k ≡ Some m.member =
    ap (λ fs. slice_get fs k) (sym members) ∙ slice_get-map (λ (x : LaidMethod). x.member) p.methods k
    ∙ ap (option_map (λ (x : LaidMethod). x.member)) e in
    item_has (IsOwn p.files) (method_order (world p)) k m.member (all_own p.files listed) there

module _ (p : Package) (own : (k : ℕ) (m : LaidMethod) → slice_get p.methods k ≡ Some m → IsOwn p.files m.member) where
  pub none_broken : (B : Class → LaidMethod → List Break) → of_methods p B ≡ [] → (k : ℕ) (m : LaidMethod)
      → (e : slice_get p.methods k ≡ Some m) → B (own k m e).class m ≡ []
  none_broken B none k m e =
      let f = m.member in
      let here : in_class B m (class_at (world p) f.imported f.class) ≡ [] =
      none_each (λ (x : LaidMethod). let g = x.member in in_class B x (class_at (world p) g.imported g.class)) p.methods
      k m none e in
      sym (ap (in_class B m) (own k m e).is_class) ∙ here

  -- 415
  pub none_long : form_breaks p ≡ [] → (k : ℕ) (m : LaidMethod) → slice_get p.methods k ≡ Some m
      → (let code = m.code in code.widest ≤ 32767)
  none_long forms k m e =
      let none = none_broken (layout_breaks p) (none_left (of_methods p (layout_breaks p)) _ forms) k m e in
      ltb-false 32767 (let code = m.code in code.widest) (none_at (is_too_long m) _ 415 (none_right _ _ none))

module _ (list : ListTree) (files : List (List ℕ)) (judged : Judged) (is : IsSound list files judged) (p : Package)
    (whole : IsPackageByModesOf list files p) where
  same_world : p.files ≡ judged.world
  same_world = draft_files list files judged is p (package_is_draft list files p whole)

  pub own_at : (k : ℕ) (m : LaidMethod) → slice_get p.methods k ≡ Some m → IsOwn p.files m.member
  own_at = members_own p whole.is_package.members (subst (λ (w : Files). length w.classes ≤ class_count w.lines)
      (sym same_world) (listed list files judged is))

  -- nothing of a method
  pub none_of_method : (B : Class → LaidMethod → List Break) → of_methods p B ≡ [] → (k : ℕ) (m : LaidMethod)
      → (e : slice_get p.methods k ≡ Some m) → B (own_at k m e).class m ≡ []
  none_of_method = none_broken p own_at

  -- 415
  pub short_at : form_breaks p ≡ [] → (k : ℕ) (m : LaidMethod) → slice_get p.methods k ≡ Some m
      → (let code = m.code in code.widest ≤ 32767)
  short_at = none_long p own_at
