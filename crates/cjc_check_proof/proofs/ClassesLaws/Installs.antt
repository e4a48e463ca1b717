-- The install method of an applet's class is a static method that Descriptor describes.
use Rattle.std.proofs.Common.{◌≡◌, ℕ, zero, suc, ◌+◌, ◌-◌, ◌*◌, ◌%◌, ◌<◌, ◌==◌, refl, sym, ap, subst, ◌∙◌, arith, Bool}
use Rattle.std.proofs.Common.{true, false, List, [], ◌∷◌, ◌++◌, length}
use Rattle.std.specs.Prelude.{not, ◌&&◌, ◌||◌, cond, Some, map, filter, bit_and, nat_lt, slice_get, sum_by, unwrap_or}
use Rattle.std.specs.Prelude.{if◌then◌else◌, codes}
use Rattle.std.specs.List.{list_any}
use Rattle.std.specs.Str.{bytes_eq}
use Rattle.std.proofs.lemmas.Bool.Decides.{nat_tests}
use Rattle.std.proofs.lemmas.Nat.{and_mod}
use Rattle.cjc_bytes.specs.AccessFlags.{has, is_static, acc_public, acc_private, acc_protected, acc_final, acc_abstract}
use Rattle.cjc_bytes.proofs.Numbers.{like_number}
use Rattle.cjc_bytes.proofs.Gets.{in_front}
use Rattle.cjc_capread.specs.declared.tree.ClassDescriptor.{ClassDescriptor}
use Rattle.cjc_capread.specs.declared.tree.MethodDescriptor.{MethodDescriptor}
use Rattle.cjc_check_rules.specs.Classes.{is_own_class}
use Rattle.cjc_check_rules.specs.Members.{class_methods, is_method_start, is_static_start}
use Rattle.cjc_world.specs.declared.found.Found.{Found}
use Rattle.cjc_world.specs.Classes.{Member, Class}
use Rattle.cjc_world.specs.Lookup.{member_at}
use Rattle.cjc_world.specs.Order.{class_order, in_order, method_order, methods_in_turn, methods_of_class, written}
use Rattle.cjc_tokens.specs.Members.{is_constructor}
use Rattle.cjc_vtable.proofs.Filed.{Has, at_front, behind, has-get}
use Rattle.cjc_components.specs.Package.{Package, world}
use Rattle.cjc_components.specs.Methods.{first_method, method_offset, method_size}
use Rattle.cjc_components.specs.Descriptor.{class_descriptor, method_descriptor, method_flags, methods_with_added}
use Rattle.cjc_components.specs.Descriptor.{method_in, no_member, as_added, flag_where}
use Rattle.cjc_world.specs.Added.{added}
use Rattle.cjc_token_proof.specs.Components.Methods.{HasMethods}
use Rattle.cjc_token_proof.specs.Components.OwnNames.{HaveOwnNames}
use Rattle.cjc_token_proof.specs.Components.Whole.{whole}
use Rattle.cjc_check_proof.proofs.ClassesLaws.Lists.{has-front, has-back, has-map, has-flat}
use Rattle.cjc_check_proof.proofs.ClassesLaws.Offsets.{all_left, offset_below, offset_some}
use Rattle.cjc_check_proof.proofs.ClassesLaws.Refs.{info, class_begins}

-- ---- lists

pub any_has : {A : Type 0} (test : A → Bool) (x : A) (xs : List A) → Has x xs → test x ≡ true → list_any test xs ≡ true
any_has test x [] h e = elim h [ ]
any_has test x (y ∷ xs) at_front e = ap (λ b. b || list_any test xs) e
any_has test x (y ∷ xs) (behind h) e = last (test y) (any_has test x xs h e)
  where
    last : (b : Bool) {c : Bool} → c ≡ true → (b || c) ≡ true
    last true f = refl
    last false f = f

has_kept : {A : Type 0} (test : A → Bool) (x : A) (xs : List A) → Has x xs → test x ≡ true → Has x (filter test xs)
has_kept test x [] h e = elim h [ ]
has_kept test x (y ∷ xs) at_front e = subst (λ b. Has x (cond b (x ∷ filter test xs) (filter test xs))) (sym e) at_front
has_kept test x (y ∷ xs) (behind h) e = by (test y) (has_kept test x xs h e)
  where
    by : (b : Bool) → Has x (filter test xs) → Has x (cond b (y ∷ filter test xs) (filter test xs))
    by true r = behind r
    by false r = r

-- ---- flags

sixteen : (n : ℕ) → n % 16 ≡ 8 → nat_lt 0 n ≡ true
sixteen n e = grind (arith, nat_tests, e)

low : (x n : ℕ) → n % 16 ≡ x → bit_and x 8 ≡ 8 → nat_lt 0 (bit_and n 8) ≡ true
low x n e f =
    let m : bit_and n 8 % 16 ≡ bit_and (n % 16) 8 = and_mod n 8 4 in
    sixteen (bit_and n 8) (m ∙ ap (λ k. bit_and k 8) e ∙ f)

times : (b : Bool) (n : ℕ) → (k : ℕ) × ((if b then n else 0) ≡ n * k)
times true n = (1, omega arith)
times false n = (0, omega arith)

static_flag : (a b c d e g : Bool) → is_static (((if a then 0x01 else 0) + (if b then 0x02 else 0) + (if c then 0x04
    else 0) + 0x08 + (if d then 0x10 else 0)) + (if e then 0x40 else 0) + (if g then 0x80 else 0)) ≡ true
static_flag a b c d e g = by a b c
  where
    x : ℕ
    x = (if d then 0x10 else 0) + (if e then 0x40 else 0) + (if g then 0x80 else 0)

    high : (y n : ℕ) → y < 16 → n ≡ y + x → n % 16 ≡ y
    high y n lt is =
        let p = times d 0x10 in
        let q = times e 0x40 in
        let r = times g 0x80 in
        let u = p.1 in
        let v = q.1 in
        let s = r.1 in
        omega (arith, lt, is, u, v, s)

    by : (a b c : Bool)
        → nat_lt 0 (bit_and (((if a then 0x01 else 0) + (if b then 0x02 else 0) + (if c then 0x04 else 0) + 0x08 + (if d
        then 0x10 else 0)) + (if e then 0x40 else 0) + (if g then 0x80 else 0)) 8) ≡ true
    by true true true = low 15 _ (high 15 _ (omega arith) (omega arith)) refl
    by true true false = low 11 _ (high 11 _ (omega arith) (omega arith)) refl
    by true false true = low 13 _ (high 13 _ (omega arith) (omega arith)) refl
    by true false false = low 9 _ (high 9 _ (omega arith) (omega arith)) refl
    by false true true = low 14 _ (high 14 _ (omega arith) (omega arith)) refl
    by false true false = low 10 _ (high 10 _ (omega arith) (omega arith)) refl
    by false false true = low 12 _ (high 12 _ (omega arith) (omega arith)) refl
    by false false false = low 8 _ (high 8 _ (omega arith) (omega arith)) refl

pub described_static : (m : Member) → is_static m.flags ≡ true → is_static (method_flags m) ≡ true
described_static m e =
    ap (λ s. is_static ((flag_where m.flags acc_public 0x01 + flag_where m.flags acc_private 0x02 + flag_where m.flags
    acc_protected 0x04 + (if s then 0x08 else 0) + flag_where m.flags acc_final 0x10) + flag_where m.flags
    acc_abstract 0x40 + (if is_constructor m.name then 0x80 else 0))) e
    ∙ static_flag (has m.flags acc_public) (has m.flags acc_private) (has m.flags acc_protected) (has m.flags acc_final)
    (has m.flags acc_abstract) (is_constructor m.name)

-- ---- where the method stands

pub written_has : (c : Class) (i : ℕ) (ms : List Member) (k : ℕ) (m : Member) → slice_get ms k ≡ Some m
    → bytes_eq m.name (codes "<clinit>") ≡ false → Has (member_at c (i + k)) (written c i ms)
written_has c i [] k m e plain = absurd (cc)
written_has c i (n ∷ ms) zero m e plain =
    let is : n ≡ m = cc in
    let none : i + 0 ≡ i = omega arith in
    let no : bytes_eq n.name (codes "<clinit>") ≡ false = ap (λ (q : Member). bytes_eq q.name (codes "<clinit>")) is
    ∙ plain in
    subst (λ j. Has (member_at c j) (if bytes_eq n.name (codes "<clinit>") then written c (i + 1) ms else member_at c i
    ∷ written c (i + 1) ms)) (sym none)
    (subst (λ b. Has (member_at c i) (if b then written c (i + 1) ms else member_at c i ∷ written c (i + 1) ms))
    (sym no) at_front)
written_has c i (n ∷ ms) (suc k) m e plain =
    let next : i + 1 + k ≡ i + suc k = omega arith in
    by (bytes_eq n.name (codes "<clinit>")) (subst (λ j. Has (member_at c j) (written c (i + 1) ms)) next
    (written_has c (i + 1) ms k m e plain))
  where
    by : (b : Bool) → Has (member_at c (i + suc k)) (written c (i + 1) ms) → Has (member_at c (i + suc k)) (if b
        then written c (i + 1) ms else member_at c i ∷ written c (i + 1) ms)
    by true h = h
    by false h = behind h

turn_has : (w : List Class) (c : Class) (cs : List Class) (f : Found) → Has c cs → Has f (methods_of_class w c)
    → Has f (methods_in_turn w cs)
turn_has w c [] f h g = elim h [ ]
turn_has w c (d ∷ cs) f at_front g = has-front f (methods_of_class w d) (methods_in_turn w cs) g
turn_has w c (d ∷ cs) f (behind h) g = has-back f (methods_of_class w d) (methods_in_turn w cs) (turn_has w c cs f h g)

module _ (p : Package) (own : HaveOwnNames (class_order (world p))) (methods : HasMethods p) where
  -- a method of a class of the package
  pub method_start : (c : Class) (f : Found) → Has c (in_order (world p) false) → Has f (methods_of_class (world p) c)
      → is_method_start (whole p) (method_offset p f) ≡ true
  unfolding class_order method_order
  method_start c f h there =
      let w = world p in
      let d = class_descriptor p c in
      let md = method_descriptor p c f in
      let some = offset_some p methods f (turn_has w c (in_order w false) f h there) in
      let g = has-get c (in_order w false) h in
      let kept = has_kept (λ (x : ClassDescriptor). is_own_class (info p) x.this_class) d (map (class_descriptor p)
      (in_order w true ++ in_order w false))
      (has-map (class_descriptor p) c (in_order w true ++ in_order w false) (has-back c (in_order w true)
      (in_order w false) h)) (class_begins p own g.0 c g.1) in
      let all : Has md (class_methods (whole p)) = has-flat (λ (x : ClassDescriptor). x.methods) d md _ kept
      (has-map (method_descriptor p c) f (methods_of_class w c) there) in
      let any = any_has (λ (x : MethodDescriptor). x.offset == method_offset p f) md (class_methods (whole p)) all
      (like_number (method_offset p f)) in
      let nonzero : (method_offset p f == 0) ≡ false = grind (arith, nat_tests, some) in
      ap (λ b. not b && list_any (λ (x : MethodDescriptor). x.offset == method_offset p f) (class_methods (whole p)))
      nonzero ∙ any

  -- its offset is below the end of Method
  pub start_below : (c : Class) (f : Found) → Has c (in_order (world p) false) → Has f (methods_of_class (world p) c)
      → method_offset p f < first_method p.methods + sum_by method_size p.methods
  unfolding method_order
  start_below c f h there = offset_below p (first_method p.methods) p.methods (methods_in_turn (world p)
      (in_order (world p) false)) f (all_left p methods) (turn_has (world p) c (in_order (world p) false) f h there)

  -- a static method of a class file, at its place
  pub static_start : (c : Class) (k : ℕ) (m : Member) → Has c (in_order (world p) false) → slice_get c.methods k
      ≡ Some m → bytes_eq m.name (codes "<clinit>") ≡ false → is_static m.flags ≡ true
      → is_static_start (whole p) (method_offset p (member_at c (length c.fields + k))) ≡ true
  unfolding class_order method_order
  static_start c k m h e plain static =
      let w = world p in
      let f = member_at c (length c.fields + k) in
      let there : Has f (methods_of_class w c) = has-front f (written c (length c.fields) c.methods) _
      (written_has c (length c.fields) c.methods k m e plain) in
      let d = class_descriptor p c in
      let md = method_descriptor p c f in
      let some = offset_some p methods f (turn_has w c (in_order w false) f h there) in
      let g = has-get c (in_order w false) h in
      let kept = has_kept (λ (x : ClassDescriptor). is_own_class (info p) x.this_class) d (map (class_descriptor p)
      (in_order w true ++ in_order w false))
      (has-map (class_descriptor p) c (in_order w true ++ in_order w false) (has-back c (in_order w true)
      (in_order w false) h)) (class_begins p own g.0 c g.1) in
      let all : Has md (class_methods (whole p)) = has-flat (λ (x : ClassDescriptor). x.methods) d md _ kept
      (has-map (method_descriptor p c) f (methods_of_class w c) there) in
      let back : length c.fields + k - length c.fields ≡ k = omega arith in
      let is : method_in w c (length c.fields + k) ≡ m =
      ap (λ j. unwrap_or (slice_get (methods_with_added w c) j) no_member) back
      ∙ ap (λ o. unwrap_or o no_member) (in_front c.methods (map as_added (added w c)) k m e) in
      let flag : is_static md.flags ≡ true = ap (λ (q : Member). is_static (method_flags q)) is
      ∙ described_static m static in
      let test : (md.offset == method_offset p f && is_static md.flags) ≡ true =
      ap (λ b. b && is_static md.flags) (like_number (method_offset p f)) ∙ flag in
      let any = any_has (λ (x : MethodDescriptor). x.offset == method_offset p f && is_static x.flags) md
      (class_methods (whole p)) all test in
      let nonzero : (method_offset p f == 0) ≡ false = grind (arith, nat_tests, some) in
      ap (λ b. not b && list_any (λ (x : MethodDescriptor). x.offset == method_offset p f && is_static x.flags)
      (class_methods (whole p))) nonzero ∙ any
