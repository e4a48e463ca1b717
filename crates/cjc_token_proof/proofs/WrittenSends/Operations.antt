-- What the operations of narrow code name is known.
use Rattle.std.proofs.Common.{◌≡◌, ℕ, zero, suc, ◌+◌, refl, sym, ap, subst, ◌∙◌, Bool, true, false, List, []}
use Rattle.std.proofs.Common.{◌∷◌, ◌++◌, inl, inr, ⊎_elim}
use Rattle.std.specs.Prelude.{Option, Some, None, flat_map, nat_le, slice_get, ◌==◌, ◌&&◌, ◌||◌, if◌then◌else◌, ℤ, pos}
use Rattle.std.specs.Prelude.{negsuc, option_map, ◌⊎◌}
use Rattle.std.specs.List.{list_any}
use Rattle.cjc_bytes.specs.AccessFlags.{is_private}
use Rattle.cjc_bytes.specs.declared.fault.MemberId.{MemberId}
use Rattle.cjc_bytes.proofs.Gets.{any_at, any_flat}
use Rattle.cjc_bytes.proofs.Numbers.{like_number, number_same}
use Rattle.cjc_card_semantics.specs.Bytecode.Effects.{Call, Letter}
use Rattle.cjc_card_semantics.specs.Bytecode.Effects as letters
use Rattle.cjc_card_semantics.specs.Bytecode.Meanings.{Meaning, Plain, Branches, Ranged, Paired, Touches, Uses}
use Rattle.cjc_card_semantics.specs.Bytecode.Meanings.{CallsInterface, MakesNumbers, Casts, Asks, Nothing, meaning}
use Rattle.cjc_card_semantics.specs.Bytecode.Renaming.{KnownOperation}
use Rattle.cjc_jvm_semantics.specs.Linked.{Method}
use Rattle.cjc_jvm_semantics.specs.OnePackage.{ResolvedMember, is_constructor, method_at, of_class}
use Rattle.cjc_token_proof.proofs.ByToken.Members.{member_tells, member_same}
use Rattle.cjc_token_proof.specs.ByToken.Cells.{fields, is_one_of, letter, letter_by, may_access, same_letter}
use Rattle.cjc_token_proof.specs.ByToken.Supers.{HasShape, has_class}
use Rattle.cjc_card_semantics.specs.Machine.ByToken.{letter_of}
use Rattle.cjc_world_proof.specs.Bytecode.declared.insn.JInsn.{JInsn}
use Rattle.cjc_world_proof.specs.Bytecode.declared.insn.JOp.{JOp}
use Rattle.cjc_world_proof.specs.Bytecode.declared.insn.JOp.TheVariants as jop
use Rattle.cjc_world_proof.specs.Bytecode.declared.method_code.MethodCode.{MethodCode}
use Rattle.cjc_components.specs.Methods.{first_method, method_size, placed_at, placed_from, placed_methods}
use Rattle.cjc_components.specs.Package.{LaidMethod, Package, pool, world}
use Rattle.cjc_components.specs.Written.{IsPackage, code_by}
use Rattle.cjc_components.specs.LowerList.Listed.{ListTree}
use Rattle.cjc_ncode.specs.Lowering.Agreement.{IsAmong, IsKnownCall}
use Rattle.cjc_ncode.specs.Lowering.Placed.{Placed}
use Rattle.cjc_components.specs.LowerNarrow.Rows.Resolved.{by_owner, constant_named, field_found, method_found}
use Rattle.cjc_components.specs.LowerNarrow.Rows.Resolved.{resolution}
use Rattle.cjc_components.specs.LowerNarrow.Rows.Resolved.{resolved_field}
use Rattle.cjc_components.specs.LowerNarrow.Rows.Resolved.{special_by}
use Rattle.cjc_components.specs.LowerNarrow.Rows.Selected.{near_fields}
use Rattle.cjc_ncode.specs.ByLabel.{Callee, Fixed, OnInterface, OnObject, OnSuper, Resolved, jumping, making, operation}
use Rattle.cjc_ncode.specs.ByLabel.{element_type, plain, switching, testing, type_by}
use Rattle.cjc_ncode.specs.ByLabel as label
use Rattle.cjc_ncode.specs.PoolOrder.{insn_keys, same_member}
use Rattle.cjc_ncode.specs.Written.{Resolution, call_by, field_access, local, low_of, nargs_of, on_stack, pair_cases}
use Rattle.cjc_ncode.specs.Written.{place_in, pushed, pushed_word, reached, static_access, static_by, switched}
use Rattle.cjc_ncode.specs.Written.{Access, accessed as access_of, on_this, table_cases, this_access, type_test}
use Rattle.cjc_ncode.specs.Written.{written, written_as}
use Rattle.cjc_ncode.specs.declared.narrow.PairRole.{PairRole}
use Rattle.cjc_ncode.proofs.WrittenCases.{written_cases}
use Rattle.cjc_components.proofs.NarrowRoles.{written_as_same}
use Rattle.cjc_components.specs.LowerNarrow.Pairs.Roles.{role_in, roles_of, with_pairs}
use Rattle.cjc_components.specs.LowerNarrow.Rows.Package.{code_of, flags_of, read_of}
use Rattle.cjc_components.specs.LowerNarrow.Written.Rows.{has_rows}
use Rattle.cjc_ncode.specs.declared.narrow.NCase.{NCase}
use Rattle.cjc_ncode.specs.declared.narrow.NInsn.{NInsn}
use Rattle.cjc_ncode.specs.declared.narrow.NMethod.{NMethod}
use Rattle.cjc_ncode.specs.declared.narrow.NInsn.TheVariants.{Op, Push, Local, Inc, Words, Jump, Switch, Named}
use Rattle.cjc_ncode.specs.declared.narrow.NInsn.TheVariants.{Interface, NewArray, TypeTest}
use Rattle.cjc_ncode.specs.declared.narrow.PoolKey.TheVariants as keys
use Rattle.cjc_script.specs.Sorts.{Element, Sort, Boolean, Byte, Short, Int, Reference, NoValue, Shape, OfClass}
use Rattle.cjc_script.specs.Sorts.{OfNumbers, OfReferences, Booleans, Bytes, Shorts, Ints, field_sort, shape_named}
use Rattle.cjc_token_proof.specs.Tables.Known.{may_name, order_of}
use Rattle.cjc_card_semantics.specs.Range.Words.{low_word}
use Rattle.cjc_world.specs.Classes.{Class}
use Rattle.cjc_token_proof.specs.WrittenCalls.Calls.{IsNamed, TakesWords}
use Rattle.cjc_token_proof.specs.WrittenSends.Named.{CallsAreNamed, CodeNamesAsWritten, IsTypeThere, NamesAsWritten}
use Rattle.cjc_token_proof.specs.WrittenSends.Named.{InstructionsNameWhatIsThere, NamesWhatIsThere, as_written}
use Rattle.cjc_token_proof.specs.WrittenSends.Named.{callee_in, calls_in, calls_of, is_called, known, known_tests}
use Rattle.cjc_token_proof.specs.WrittenSends.Named.{no_key, same_call}

-- ---- calls

call_itself : (m : Callee) → same_call m m ≡ true
call_itself (Fixed true m) = member_same m
call_itself (Fixed false m) = member_same m
call_itself (OnObject m) = member_same m
call_itself (OnSuper m) = member_same m
call_itself (OnInterface words m) = ap (λ t. t && same_member m m) (like_number words) ∙ member_same m

-- a call of a method that is written is one of the package
call_known : (p : Package) (k j : ℕ) (m : LaidMethod) (i : NInsn) → slice_get p.methods k ≡ Some m
    → slice_get m.code.insns j ≡ Some i → (c : Callee) → operation i ≡ Call c → is_called p c ≡ true
call_known p k j m i there at c is =
    any_flat (same_call c) (λ (l : LaidMethod). calls_in l.code.insns) p.methods k m there
    (any_flat (same_call c) (λ (n : NInsn). callee_in (operation n)) m.code.insns j i at
    (ap (λ o. list_any (same_call c) (callee_in o)) is ∙ ap (λ t. t || false) (call_itself c)))

-- the same call is one
call_tells : (m k : Callee) → same_call m k ≡ true → m ≡ k
call_tells (Fixed true m) (Fixed true k) e = ap (Fixed true) (member_tells m k e)
call_tells (Fixed false m) (Fixed false k) e = ap (Fixed false) (member_tells m k e)
call_tells (Fixed true m) (Fixed false k) e = absurd (cc)
call_tells (Fixed false m) (Fixed true k) e = absurd (cc)
call_tells (OnObject m) (OnObject k) e = ap OnObject (member_tells m k e)
call_tells (OnSuper m) (OnSuper k) e = ap OnSuper (member_tells m k e)
call_tells (OnInterface words m) (OnInterface count k) e = by (words == count) refl e
  where
    by : (t : Bool) → (words == count) ≡ t → (t && same_member m k) ≡ true → OnInterface words m ≡ OnInterface count k
    by false is h = absurd (cc)
    by true is h = let same : words ≡ count = number_same words count is in ap (λ n. OnInterface n m) same
        ∙ ap (OnInterface count) (member_tells m k h)
call_tells (Fixed on m) (OnObject k) e = absurd (cc)
call_tells (Fixed on m) (OnSuper k) e = absurd (cc)
call_tells (Fixed on m) (OnInterface count k) e = absurd (cc)
call_tells (OnObject m) (Fixed on k) e = absurd (cc)
call_tells (OnObject m) (OnSuper k) e = absurd (cc)
call_tells (OnObject m) (OnInterface count k) e = absurd (cc)
call_tells (OnSuper m) (Fixed on k) e = absurd (cc)
call_tells (OnSuper m) (OnObject k) e = absurd (cc)
call_tells (OnSuper m) (OnInterface count k) e = absurd (cc)
call_tells (OnInterface words m) (Fixed on k) e = absurd (cc)
call_tells (OnInterface words m) (OnObject k) e = absurd (cc)
call_tells (OnInterface words m) (OnSuper k) e = absurd (cc)

-- what the package calls is named
pub call_named : (p : Package) → CallsAreNamed p → (m : Callee) → IsKnownCall (known_tests p) m → IsNamed (world p) m
    × TakesWords (world p) m
call_named p named m is =
    let r = any_at (same_call m) (calls_of p) is in
    let same = call_tells m r.1 r.3 in
    named r.0 m (r.2 ∙ ap Some (sym same))

-- ---- lists that are joined

either_at : {A : Type 0} (xs ys : List A) (k : ℕ) (x : A) → slice_get (xs ++ ys) k ≡ Some x
    → ((j : ℕ) × (slice_get xs j ≡ Some x)) ⊎ ((j : ℕ) × (slice_get ys j ≡ Some x))
either_at [] ys k x e = inr (k, e)
either_at (y ∷ xs) ys zero x e = inl (0, e)
either_at (y ∷ xs) ys (suc k) x e = ⊎_elim (λ h. inl (suc h.0, h.1)) (λ h. inr h) (either_at xs ys k x e)

-- what stands in lists that are joined stands in one of them
pub flat_from : {A B : Type 0} (f : A → List B) (xs : List A) (k : ℕ) (y : B) → slice_get (flat_map f xs) k ≡ Some y
    → (i : ℕ) × (x : A) × (slice_get xs i ≡ Some x) × ((j : ℕ) × (slice_get (f x) j ≡ Some y))
flat_from f [] k y e = absurd cc
flat_from f (x ∷ xs) k y e = ⊎_elim
    (λ h. (0, x, refl, h))
    (λ h. let r = flat_from f xs h.0 y h.1 in (suc r.0, r.1, r.2, r.3))
    (either_at (f x) (flat_map f xs) k y e)

-- ---- operations

module _ (p : Package) where
  abbrev w : List Class
  w = world p

  abbrev KnownCall : Callee → Type 0
  KnownCall m = IsKnownCall (known_tests p) m

  abbrev Known : Resolved → Type 0
  Known o = KnownOperation (known p) KnownCall o

  -- known where what it calls is known
  abbrev IsKnown : Resolved → Type 0
  IsKnown o = ((c : Callee) → o ≡ Call c → KnownCall c) → Known o

  AllKnown : List NInsn → Type 0
  AllKnown [] = Unit {0}
  AllKnown (i ∷ insns) = IsKnown (operation i) × AllKnown insns

  none_known : AllKnown []
  unfolding AllKnown
  none_known = tt

  one : (i : NInsn) → IsKnown (operation i) → AllKnown (i ∷ [])
  unfolding AllKnown
  one i h = (h, tt)

  two : (i j : NInsn) → IsKnown (operation i) → IsKnown (operation j) → AllKnown (i ∷ j ∷ [])
  unfolding AllKnown
  two i j h g = (h, (g, tt))

  append : (xs ys : List NInsn) → AllKnown xs → AllKnown ys → AllKnown (xs ++ ys)
  unfolding AllKnown
  append [] ys h g = g
  append (x ∷ xs) ys h g = (h.0, append xs ys h.1 g)

  at : (xs : List NInsn) (k : ℕ) (i : NInsn) → AllKnown xs → slice_get xs k ≡ Some i → IsKnown (operation i)
  unfolding AllKnown
  at [] zero i h e = absurd (cc)
  at [] (suc k) i h e = absurd (cc)
  at (x ∷ xs) zero i h e = let same : x ≡ i = cc in subst (λ y. IsKnown (operation y)) same h.0
  at (x ∷ xs) (suc k) i h e = at xs k i h.1 e

  -- ---- operations that name nothing

  plain_known : (m : Meaning) (operands : List ℤ) → Known (plain m operands)
  plain_known (Plain calculation) operands = tt
  plain_known (Branches test) operands = tt
  plain_known (Ranged is_int) operands = tt
  plain_known (Paired is_int) operands = tt
  plain_known (Touches access) operands = tt
  plain_known (Uses how) operands = tt
  plain_known CallsInterface operands = tt
  plain_known MakesNumbers operands = tt
  plain_known Casts operands = tt
  plain_known Asks operands = tt
  plain_known Nothing operands = tt

  jump_known : (m : Meaning) (target : ℕ) → Known (jumping m target)
  jump_known (Plain calculation) target = tt
  jump_known (Branches test) target = tt
  jump_known (Ranged is_int) target = tt
  jump_known (Paired is_int) target = tt
  jump_known (Touches access) target = tt
  jump_known (Uses how) target = tt
  jump_known CallsInterface target = tt
  jump_known MakesNumbers target = tt
  jump_known Casts target = tt
  jump_known Asks target = tt
  jump_known Nothing target = tt

  switch_known : (m : Meaning) (other : ℕ) (low : ℤ) (cases : List NCase) → Known (switching m other low cases)
  switch_known (Plain calculation) other low cases = tt
  switch_known (Branches test) other low cases = tt
  switch_known (Ranged is_int) other low cases = tt
  switch_known (Paired is_int) other low cases = tt
  switch_known (Touches access) other low cases = tt
  switch_known (Uses how) other low cases = tt
  switch_known CallsInterface other low cases = tt
  switch_known MakesNumbers other low cases = tt
  switch_known Casts other low cases = tt
  switch_known Asks other low cases = tt
  switch_known Nothing other low cases = tt

  making_known : (element : Option Element) → Known (making element)
  making_known None = tt
  making_known (Some element) = tt

  -- ---- types

  shape_known : (s : Shape (List ℕ)) → HasShape w s → Rattle.cjc_card_semantics.specs.Bytecode.Renaming.KnownShape
      (known p) s
  shape_known (OfClass c) h = h
  shape_known (OfNumbers element) h = tt
  shape_known (OfReferences c) h = h

  test_known : (m : Meaning) (s : Shape (List ℕ)) → HasShape w s → Known (testing m (Some s))
  test_known (Plain calculation) s h = tt
  test_known (Branches test) s h = tt
  test_known (Ranged is_int) s h = tt
  test_known (Paired is_int) s h = tt
  test_known (Touches access) s h = tt
  test_known (Uses how) s h = tt
  test_known CallsInterface s h = tt
  test_known MakesNumbers s h = tt
  test_known Casts s h = shape_known s h
  test_known Asks s h = shape_known s h
  test_known Nothing s h = tt

  -- ---- fields

  accessed : (f : MemberId) (k : Letter) → is_one_of f (fields (order_of p.image)) ≡ true → letter f ≡ k
      → may_access (order_of p.image) k f ≡ true
  accessed f k there is = ap (λ t. t && same_letter (letter f) k) there ∙ ap (λ l. same_letter l k) is ∙ same k
    where
      same : (l : Letter) → same_letter l l ≡ true
      same letters.Reference = refl
      same letters.Byte = refl
      same letters.Short = refl
      same letters.Int = refl

  static_known : (put : Bool) (sort : Sort) (f : MemberId) → field_sort f.desc ≡ sort → letter_of sort ≡ Some (letter f)
      → is_one_of f (fields (order_of p.image)) ≡ true
      → Known (label.naming (meaning (static_access put sort)) (keys.StaticField f))
  unfolding meaning
  static_known true Boolean f e typed there = accessed f letters.Byte there (ap letter_by e)
  static_known true Byte f e typed there = accessed f letters.Byte there (ap letter_by e)
  static_known true Short f e typed there = accessed f letters.Short there (ap letter_by e)
  static_known true Int f e typed there = accessed f letters.Int there (ap letter_by e)
  static_known true (Reference shape) f e typed there = accessed f letters.Reference there (ap letter_by e)
  static_known true NoValue f e typed there = absurd (cc)
  static_known false Boolean f e typed there = accessed f letters.Byte there (ap letter_by e)
  static_known false Byte f e typed there = accessed f letters.Byte there (ap letter_by e)
  static_known false Short f e typed there = accessed f letters.Short there (ap letter_by e)
  static_known false Int f e typed there = accessed f letters.Int there (ap letter_by e)
  static_known false (Reference shape) f e typed there = accessed f letters.Reference there (ap letter_by e)
  static_known false NoValue f e typed there = absurd (cc)

  field_known : (put near : Bool) (sort : Sort) (f : MemberId) → may_name w f ≡ true
      → Known (label.naming (meaning (field_access put near sort)) (keys.Field f))
  unfolding meaning
  field_known true true Boolean f h = h
  field_known true true Byte f h = h
  field_known true true Short f h = h
  field_known true true Int f h = h
  field_known true true (Reference shape) f h = h
  field_known true true NoValue f h = h
  field_known true false Boolean f h = h
  field_known true false Byte f h = h
  field_known true false Short f h = h
  field_known true false Int f h = h
  field_known true false (Reference shape) f h = h
  field_known true false NoValue f h = h
  field_known false true Boolean f h = h
  field_known false true Byte f h = h
  field_known false true Short f h = h
  field_known false true Int f h = h
  field_known false true (Reference shape) f h = h
  field_known false true NoValue f h = h
  field_known false false Boolean f h = h
  field_known false false Byte f h = h
  field_known false false Short f h = h
  field_known false false Int f h = h
  field_known false false (Reference shape) f h = h
  field_known false false NoValue f h = h

  this_known : (put : Bool) (sort : Sort) (f : MemberId) → may_name w f ≡ true
      → Known (label.naming (meaning (this_access put sort)) (keys.Field f))
  unfolding meaning
  this_known true Boolean f h = h
  this_known true Byte f h = h
  this_known true Short f h = h
  this_known true Int f h = h
  this_known true (Reference shape) f h = h
  this_known true NoValue f h = h
  this_known false Boolean f h = h
  this_known false Byte f h = h
  this_known false Short f h = h
  this_known false Int f h = h
  this_known false (Reference shape) f h = h
  this_known false NoValue f h = h

  -- the descriptor of a field is that of the one that is found
  owner_desc : (f : MemberId) (o : Option ResolvedMember) → (by_owner f o).desc ≡ f.desc
  owner_desc f None = refl
  owner_desc f (Some hit) = refl

  resolved_desc : (f : MemberId) → (resolved_field w f).desc ≡ f.desc
  resolved_desc f = owner_desc f (field_found w f)

  -- ---- calls and classes

  virtual_key : (m : MemberId) → IsKnown (label.naming (meaning 0x8B) (keys.Virtual m))
  unfolding meaning
  virtual_key m calls = calls (OnObject m) refl

  super_key : (m : MemberId) → IsKnown (label.naming (meaning 0x8C) (keys.Super m))
  unfolding meaning
  super_key m calls = calls (OnSuper m) refl

  special_key : (m : MemberId) → IsKnown (label.naming (meaning 0x8C) (keys.StaticMethod m))
  unfolding meaning
  special_key m calls = calls (Fixed true m) refl

  static_key : (m : MemberId) → IsKnown (label.naming (meaning 0x8D) (keys.StaticMethod m))
  unfolding meaning
  static_key m calls = calls (Fixed false m) refl

  new_known : (c : List ℕ) → has_class w c ≡ true → Known (label.naming (meaning 0x8F) (keys.Class c))
  unfolding meaning
  new_known c h = h

  array_known : (c : List ℕ) → has_class w c ≡ true → Known (label.naming (meaning 0x91) (keys.Class c))
  unfolding meaning
  array_known c h = h

  -- ---- what is written

  module _ (near : List MemberId) (holder : List ℕ) where
    abbrev r : Resolution
    r = resolution p.files near holder

    special_named : (id : MemberId) (o : Option ResolvedMember)
        → IsKnown (label.naming (meaning 0x8C) (special_by holder id o))
    special_named id None = special_key id
    special_named id (Some hit) = by (is_constructor id.name || is_private hit.flags)
      where
        by : (b : Bool) → IsKnown (label.naming (meaning 0x8C) (if b then keys.StaticMethod (by_owner id (Some hit))
            else keys.Super (of_class holder id)))
        by true = special_key (by_owner id (Some hit))
        by false = super_key (of_class holder id)

    virtual_call : (m : MemberId) → IsKnown (operation (Named 0x8B (r.virtual m)))
    unfolding resolution
    virtual_call m = virtual_key _

    special_call : (m : MemberId) → IsKnown (operation (Named 0x8C (r.special m)))
    unfolding resolution
    special_call m = special_named m _

    static_call : (m : MemberId) → IsKnown (operation (Named 0x8D (r.static m)))
    unfolding resolution
    static_call m = static_key _

    if_known : (b : Bool) (x y : NInsn) → IsKnown (operation x) → IsKnown (operation y)
        → IsKnown (operation (if b then x else y))
    if_known true x y h g = h
    if_known false x y h g = g

    op_known : (op : ℕ) → IsKnown (operation (Op op))
    op_known op calls = plain_known (meaning op) []

    push_known : (op : ℕ) (z : ℤ) → IsKnown (operation (Push op z))
    push_known op z calls = plain_known (meaning op) (z ∷ [])

    local_is : (op l : ℕ) → IsKnown (operation (Local op l))
    local_is op l calls = plain_known (meaning op) (pos l ∷ [])

    words_known : (op m n : ℕ) → IsKnown (operation (Words op m n))
    words_known op m n calls = plain_known (meaning op) _

    goto_known : (op target : ℕ) → IsKnown (operation (Jump op target))
    goto_known op target calls = jump_known (meaning op) target

    word_known : (z : ℤ) → IsKnown (operation (pushed_word z))
    word_known (pos n) = if_known (nat_le n 5) (Op (0x03 + n)) (if nat_le n 127 then Push 0x10 (pos n)
        else Push 0x11 (pos n)) (op_known (0x03 + n)) (if_known (nat_le n 127) (Push 0x10 (pos n)) (Push 0x11 (pos n))
        (push_known 0x10 (pos n)) (push_known 0x11 (pos n)))
    word_known (negsuc n) = if_known (n == 0) (Op 0x02) (if nat_le n 127 then Push 0x10 (negsuc n)
        else Push 0x11 (negsuc n)) (op_known 0x02) (if_known (nat_le n 127) (Push 0x10 (negsuc n))
        (Push 0x11 (negsuc n)) (push_known 0x10 (negsuc n)) (push_known 0x11 (negsuc n)))

    pushed_known : (z : ℤ) → AllKnown (pushed z)
    pushed_known z = one (pushed_word (low_word z)) (word_known (low_word z))

    local_known : (short long l : ℕ) → AllKnown (local short long l)
    local_known short long l = one (if nat_le l 3 then Op (short + l) else Local long l) (if_known (nat_le l 3)
        (Op (short + l)) (Local long l) (op_known (short + l)) (local_is long l))

    stack_known : (op : ℕ) → IsKnown (operation (on_stack op))
    stack_known op = go (op == 0x57) (op == 0x58) (op == 0x59) (op == 0x5C) (op == 0x5A) (op == 0x5B) (op == 0x5D)
        (op == 0x5E)
      where
        go : (a b c d e f g h : Bool)
            → IsKnown (operation (if a then Op 0x3B else (if b then Op 0x3C else (if c then Op 0x3D
            else (if d then Op 0x3E
            else (if e then Words 0x3F 1 2 else (if f then Words 0x3F 1 3 else (if g then Words 0x3F 2 3
            else (if h then Words 0x3F 2 4 else Words 0x40 1 1)))))))))
        go true b c d e f g h = op_known 0x3B
        go false true c d e f g h = op_known 0x3C
        go false false true d e f g h = op_known 0x3D
        go false false false true e f g h = op_known 0x3E
        go false false false false true f g h = words_known 0x3F 1 2
        go false false false false false true g h = words_known 0x3F 1 3
        go false false false false false false true h = words_known 0x3F 2 3
        go false false false false false false false true = words_known 0x3F 2 4
        go false false false false false false false false = words_known 0x40 1 1

    narrow_known : (b : Bool) → AllKnown (if b then Op 0x5B ∷ [] else [])
    narrow_known true = one (Op 0x5B) (op_known 0x5B)
    narrow_known false = none_known

    switched_known : (op other : ℕ) (low : ℤ) (cases : List NCase) → AllKnown (switched op other low cases)
    switched_known op other low [] = two (Op 0x3B) (Jump 0x70 other) (op_known 0x3B) (goto_known 0x70 other)
    switched_known op other low (c ∷ cases) = one (Switch op other low (c ∷ cases)) (λ calls. switch_known (meaning op)
        other low (c ∷ cases))

    static_field : (put : Bool) (f : MemberId) (constant : Option ℤ)
        → (constant ≡ None → (is_one_of (resolved_field w f) (fields (order_of p.image)) ≡ true)
        × (letter_of (field_sort f.desc) ≡ Some (letter f))) → AllKnown (static_by r put f constant)
    unfolding resolution
    static_field put f (Some z) h = pushed_known z
    static_field put f None h =
        let same : field_sort (resolved_field w f).desc ≡ field_sort f.desc = ap field_sort (resolved_desc f) in
        one (Named (static_access put (field_sort f.desc)) (keys.StaticField (resolved_field w f)))
        (λ calls. static_known put (field_sort f.desc) (resolved_field w f) same ((h refl).1
        ∙ ap (λ s. Some (letter_by s)) (sym same)) (h refl).0)

    call_known_by : (op : ℕ) (m : MemberId) → AllKnown (call_by r op m)
    call_known_by op m = go (op == 0xB9) (op == 0xB6) (op == 0xB7)
      where
        go : (a b c : Bool) → AllKnown ((if a then Interface (nargs_of m) (r.interface m)
            else (if b then Named 0x8B (r.virtual m) else (if c then Named 0x8C (r.special m)
            else Named 0x8D (r.static m)))) ∷ [])
        go true b c = one (Interface (nargs_of m) (r.interface m))
            (λ calls. calls (OnInterface (nargs_of m) (r.interface m)) refl)
        go false true c = one (Named 0x8B (r.virtual m)) (virtual_call m)
        go false false true = one (Named 0x8C (r.special m)) (special_call m)
        go false false false = one (Named 0x8D (r.static m)) (static_call m)

    type_known : (op : ℕ) (type : Option (Shape (List ℕ))) → IsTypeThere w type → AllKnown (type_test op type)
    type_known op None h = none_known
    type_known op (Some (OfClass class)) h = one (TypeTest op 0 (Some class)) (λ calls. test_known (meaning op)
        (OfClass class) h)
    type_known op (Some (OfReferences class)) h = one (TypeTest op 14 (Some class)) (λ calls. test_known (meaning op)
        (OfReferences class) h)
    type_known op (Some (OfNumbers Booleans)) h = one (TypeTest op 10 None) (λ calls. test_known (meaning op)
        (OfNumbers Booleans) tt)
    type_known op (Some (OfNumbers Bytes)) h = one (TypeTest op 11 None) (λ calls. test_known (meaning op)
        (OfNumbers Bytes) tt)
    type_known op (Some (OfNumbers Shorts)) h = one (TypeTest op 12 None) (λ calls. test_known (meaning op)
        (OfNumbers Shorts) tt)
    type_known op (Some (OfNumbers Ints)) h = one (TypeTest op 13 None) (λ calls. test_known (meaning op)
        (OfNumbers Ints) tt)

    constant_is : (f : MemberId) → r.constant f ≡ constant_named p.files w f
    unfolding resolution
    constant_is f = refl

    field_is : (put : Bool) (f : MemberId) → may_name w (resolved_field w f) ≡ true
        → IsKnown (operation (Named (field_access put (r.is_near f) (field_sort f.desc)) (keys.Field (r.field f))))
    unfolding resolution
    field_is put f h calls = field_known put _ (field_sort f.desc) (resolved_field w f) h

    written_known : (to : ℕ → ℕ) (op : JOp) → NamesWhatIsThere p.files (order_of p.image) op
        → AllKnown (written r to op)
    written_known to jop.Nop h = none_known
    written_known to jop.Null h = one (Op 0x01) (op_known 0x01)
    written_known to (jop.Number z) h = pushed_known z
    written_known to (jop.Load false l) h = local_known 0x1C 0x16 l
    written_known to (jop.Load true l) h = local_known 0x18 0x15 l
    written_known to (jop.Store false l) h = local_known 0x2F 0x29 l
    written_known to (jop.Store true l) h = local_known 0x2B 0x28 l
    written_known to (jop.ArrayLoad op) h = one (Op _) (op_known _)
    written_known to (jop.ArrayStore op) h = one (Op _) (op_known _)
    written_known to (jop.Stack op) h = one (on_stack op) (stack_known op)
    written_known to (jop.Arith op) h = one (Op _) (op_known _)
    written_known to (jop.Inc l by) h = one (Inc _ l by) (λ calls. plain_known (meaning _) (pos l ∷ by ∷ []))
    written_known to (jop.Narrow op) h = narrow_known (op == 0x91)
    written_known to (jop.If op target) h = one (Jump _ (to target)) (goto_known _ (to target))
    written_known to (jop.Goto target) h = one (Jump 0x70 (to target)) (goto_known 0x70 (to target))
    written_known to (jop.TableSwitch other low ts) h = switched_known 0x73 (to other) (low_of (table_cases to low ts))
        (table_cases to low ts)
    written_known to (jop.LookupSwitch other cases) h = switched_known 0x75 (to other) (pos 0) (pair_cases to cases)
    written_known to (jop.Return op) h = one (Op _) (op_known _)
    written_known to (jop.Static put f) h = static_field put f (r.constant f) (λ none. h (sym (constant_is f) ∙ none))
    written_known to (jop.Field put f) h = one (Named _ (keys.Field (r.field f))) (field_is put f h)
    written_known to (jop.Call op m) h = call_known_by op m
    written_known to (jop.New class) h = one (Named 0x8F (keys.Class class)) (λ calls. new_known class h)
    written_known to (jop.NewArray kind) h = one (NewArray _) (λ calls. making_known _)
    written_known to (jop.ANewArray class) h = one (Named 0x91 (keys.Class class)) (λ calls. array_known class h)
    written_known to jop.ArrayLength h = one (Op 0x92) (op_known 0x92)
    written_known to jop.Throw h = one (Op 0x93) (op_known 0x93)
    written_known to (jop.CheckCast class) h = type_known 0x94 (shape_named class) h
    written_known to (jop.InstanceOf class) h = type_known 0x95 (shape_named class) h

    own_is : (put : Bool) (f : MemberId) → may_name w (resolved_field w f) ≡ true
        → IsKnown (operation (Named (this_access put (field_sort f.desc)) (keys.Field (r.field f))))
    unfolding resolution
    own_is put f h calls = this_known put (field_sort f.desc) (resolved_field w f) h

    -- in any roles
    module _ (role_at : ℕ → PairRole) where
      role_known : (to : ℕ → ℕ) (i : JInsn) → NamesWhatIsThere p.files (order_of p.image) i.op
          → AllKnown (written_as (role_at i.at) r to i.op)
      role_known to i h = written_cases AllKnown (role_at i.at) r to i.op (λ e. none_known) (written_known to i.op h)
          (λ a e. access i.op a e h)
        where
          access : (op : JOp) (a : Access) → access_of op ≡ Some a → NamesWhatIsThere p.files (order_of p.image) op
              → AllKnown (on_this r to op (Some a))
          access (jop.Field put f) a e h =
              subst (λ a. AllKnown (on_this r to (jop.Field put f) (Some a)))
              (let same : record { put = put; field = f } ≡ a = cc in same)
              (one (Named _ (keys.Field (r.field f))) (own_is put f h))
          access op a e h = cc

      code_known : (to : ℕ → ℕ) (kept : List JInsn) → ((j : ℕ) (i : JInsn) → slice_get kept j ≡ Some i
          → NamesWhatIsThere p.files (order_of p.image) i.op)
          → AllKnown (flat_map (λ i. written_as (role_at i.at) r to i.op) kept)
      code_known to [] h = none_known
      code_known to (i ∷ kept) h = append (written_as (role_at i.at) r to i.op)
          (flat_map (λ j. written_as (role_at j.at) r to j.op) kept) (role_known to i (h 0 i refl))
          (code_known to kept (λ j o e. h (suc j) o e))

  -- ---- methods

  -- a reached instruction is one of the method's
  reached_of : {A : Type 0} (insns : List JInsn) (rows : List (Option A)) (j : ℕ) (i : JInsn)
      → slice_get (reached insns rows) j ≡ Some i → (k : ℕ) × (slice_get insns k ≡ Some i)
  reached_of [] rows j i e = absurd (cc)
  reached_of (x ∷ insns) [] j i e = absurd (cc)
  reached_of (x ∷ insns) (None ∷ rows) j i e = let r = reached_of insns rows j i e in (suc r.0, r.1)
  reached_of (x ∷ insns) (Some row ∷ rows) zero i e = (0, e)
  reached_of (x ∷ insns) (Some row ∷ rows) (suc j) i e = let r = reached_of insns rows j i e in (suc r.0, r.1)

  placed_of : (at : ℕ) (ms : List LaidMethod) (j : ℕ) (q : Placed) → slice_get (placed_from at ms) j ≡ Some q
      → (m : LaidMethod) × (slice_get ms j ≡ Some m) × (q.method.insns ≡ m.code.insns)
  placed_of at [] j q e = absurd (cc)
  placed_of at (m ∷ ms) zero q e = let same : placed_at at m ≡ q = cc
      in (m, refl, ap (λ (x : Placed). x.method.insns) (sym same))
  placed_of at (m ∷ ms) (suc j) q e = placed_of (at + method_size m) ms j q e

  -- an instruction without a key names nothing
  none_tested : (m : Meaning) → Known (testing m None)
  none_tested (Plain calculation) = tt
  none_tested (Branches test) = tt
  none_tested (Ranged is_int) = tt
  none_tested (Paired is_int) = tt
  none_tested (Touches access) = tt
  none_tested (Uses how) = tt
  none_tested CallsInterface = tt
  none_tested MakesNumbers = tt
  none_tested Casts = tt
  none_tested Asks = tt
  none_tested Nothing = tt

  type_without : (m : Meaning) (kind : ℕ) → Known (testing m (type_by kind None))
  type_without m kind = by (kind == 0) (kind == 14) (element_type kind)
    where
      by : (a b : Bool) (element : Option Element) → Known (testing m (if a then None else (if b then None
          else option_map OfNumbers element)))
      by true b element = none_tested m
      by false true element = none_tested m
      by false false None = none_tested m
      by false false (Some element) = test_known m (OfNumbers element) tt

  no_key_known : (i : NInsn) → insn_keys i ≡ [] → Known (operation i)
  no_key_known (Op op) e = plain_known (meaning op) []
  no_key_known (Push op z) e = plain_known (meaning op) (z ∷ [])
  no_key_known (Local op l) e = plain_known (meaning op) (pos l ∷ [])
  no_key_known (Inc op l by) e = plain_known (meaning op) (pos l ∷ by ∷ [])
  no_key_known (Words op m n) e = plain_known (meaning op) _
  no_key_known (Jump op target) e = jump_known (meaning op) target
  no_key_known (Switch op other low cases) e = switch_known (meaning op) other low cases
  no_key_known (Named op key) e = absurd cc
  no_key_known (Interface nargs m) e = absurd cc
  no_key_known (NewArray kind) e = making_known _
  no_key_known (TypeTest op kind None) e = type_without (meaning op) kind
  no_key_known (TypeTest op kind (Some class)) e = absurd cc

  -- What an instruction of Method names is known.
  pub operations_known : (near : List MemberId) → CodeNamesAsWritten p near → InstructionsNameWhatIsThere p
      → (q : Placed) (k : ℕ) (i : NInsn) → IsAmong (placed_methods p) q → slice_get q.method.insns k ≡ Some i
      → Known (operation i)
  operations_known near names there q k i among e =
      let r = placed_of (first_method p.methods) p.methods among.place q among.there in
      let m = r.0 in
      let here : slice_get m.code.insns k ≡ Some i = ap (λ xs. slice_get xs k) (sym r.2) ∙ e in
      let one = names among.place m r.1 k i here in
      by m r.1 one.0 one.1 one.2 (λ c h. call_known p among.place k m i r.1 here c h)
    where
      by : (m : LaidMethod) → slice_get p.methods among.place ≡ Some m → (from : Method)
          → method_at p.files m.member ≡ Some from → NamesAsWritten (resolution p.files near from.id.class) from.insns i
          → ((c : Callee) → operation i ≡ Call c → KnownCall c) → Known (operation i)
      by m at_m from some (no_key none) calls = no_key_known i none
      by m at_m from some (as_written j l n role place has is) calls =
          at (written_as role (resolution p.files near from.id.class) place n.op) l i
          (role_known near from.id.class (λ _. role) place n (there among.place m at_m from some j n has)) is calls

  -- ---- code that is selected

  -- what is selected for a method names as it is written
  pub selected_names : {A : Type 0} (near : List MemberId) (rows : Method → List (Option A)) (from : Method) (k : ℕ)
      (i : NInsn) → slice_get (code_of p.files near rows from).insns k ≡ Some i
      → NamesAsWritten (resolution p.files near from.id.class) from.insns i
  unfolding with_pairs
  selected_names near rows from k i e =
      let r = resolution p.files near from.id.class in
      let kept = reached from.insns (rows from) in
      let b = read_of from (flags_of (method_found w from.id)) in
      let fs = has_rows (rows from) in
      let role_at = role_in from.insns (roles_of r b fs) in
      let place = place_in (with_pairs r b fs) kept in
      let code : (code_of p.files near rows from).insns
      ≡ flat_map (λ (j : JInsn). written_as (role_at j.at) r place j.op) kept =
      ap (λ (f : JInsn → List NInsn). flat_map f kept) (λ t j. written_as_same r role_at (role_at j.at) place j.op t) in
      let one = flat_from (λ (j : JInsn). written_as (role_at j.at) r place j.op) kept k i
      (ap (λ xs. slice_get xs k) (sym code) ∙ e) in
      let n = reached_of from.insns (rows from) one.0 one.1 one.2 in
      as_written n.0 one.3.0 one.1 (role_at one.1.at) place n.1 one.3.1

  pub code_names : {A : Type 0} (list : ListTree) (codes : List MethodCode) (rows : Method → List (Option A))
      → IsPackage list p.files codes rows p → CodeNamesAsWritten p (near_fields (pool p))
  code_names {A = A} list codes rows is k m at_m j i here = by (method_at p.files m.member) refl
    where
      code_is : (o : Option Method) → method_at p.files m.member ≡ o
          → m.code ≡ code_by p.files (near_fields (pool p)) rows m.member o
      code_is o e = let written_so = is.methods k m at_m in
          written_so.code ∙ ap (code_by p.files (near_fields (pool p)) rows m.member) e

      by : (o : Option Method) → method_at p.files m.member ≡ o → (from : Method)
          × (method_at p.files m.member ≡ Some from)
          × NamesAsWritten (resolution p.files (near_fields (pool p)) from.id.class) from.insns i
      by None none =
          let never : None ≡ Some i = ap (λ (x : NMethod). slice_get x.insns j) (sym (code_is None none)) ∙ here in
          absurd (cc)
      by (Some from) some = (
        from,
        some,
        selected_names (near_fields (pool p)) rows from j i
            (ap (λ (x : NMethod). slice_get x.insns j) (sym (code_is (Some from) some)) ∙ here),
      )
