-- The indices, words and tokens of what is selected fit, where the pool is small.
use Rattle.std.proofs.Common.{◌≡◌, ℕ, zero, suc, ◌+◌, ◌<◌, ◌≤◌, refl, sym, ap, subst, ◌∙◌, arith, Bool, true, false}
use Rattle.std.proofs.Common.{List, [], ◌∷◌, ◌++◌, length}
use Rattle.std.specs.Prelude.{Option, Some, None, flat_map, nat_le, slice_get, unwrap_or, ◌==◌, if◌then◌else◌, ℤ, pos}
use Rattle.std.specs.Prelude.{negsuc}
use Rattle.std.proofs.lemmas.Bool.{eqb-true, ltb-true}
use Rattle.std.proofs.lemmas.List.Quantifiers.{position-Some}
use Rattle.cjc_bytes.specs.declared.fault.MemberId.{MemberId}
use Rattle.cjc_script.specs.Sorts.{Sort, Boolean, Byte as ByteSort, Short, Int, Reference, NoValue, Shape, OfClass}
use Rattle.cjc_script.specs.Sorts.{OfNumbers, OfReferences, Booleans, Bytes, Shorts, Ints, field_sort, shape_named}
use Rattle.cjc_range.specs.Words.{low_word}
use Rattle.cjc_card_semantics.specs.CapRead.Opcodes.{Fields, Index1, Index2, form, forms}
use Rattle.cjc_code.specs.declared.insn.JInsn.{JInsn}
use Rattle.cjc_code.specs.declared.insn.JOp.{JOp}
use Rattle.cjc_code.specs.declared.insn.JOp.TheVariants as jop
use Rattle.cjc_narrow.specs.Keys.Index.{index_of}
use Rattle.cjc_ncode.specs.Lowering.Naming.{Naming}
use Rattle.cjc_narrow.specs.Rows.Resolved.{resolution, resolved_field}
use Rattle.cjc_narrow.specs.Rows.Selected.{near_fields, selected_code}
use Rattle.cjc_ncode.specs.declared.narrow.NCase.{NCase}
use Rattle.cjc_ncode.specs.declared.narrow.NInsn.{NInsn}
use Rattle.cjc_ncode.specs.declared.narrow.NInsn.TheVariants.{Op, Push, Local, Words, Named, Interface}
use Rattle.cjc_ncode.specs.declared.narrow.PoolKey.{PoolKey}
use Rattle.cjc_ncode.specs.declared.narrow.PoolKey.TheVariants as keys
use Rattle.cjc_ncode.specs.PoolOrder.{same_key}
use Rattle.cjc_ncode.specs.Written.{Resolution, call_by, field_access, local, low_of, nargs_of, on_stack, pair_cases}
use Rattle.cjc_ncode.specs.Written.{Access, accessed, is_load, on_this, place_in, reached, this_access, written_as}
use Rattle.cjc_ncode.specs.Written.{written_for}
use Rattle.cjc_ncode.specs.declared.narrow.PairRole.{PairRole}
use Rattle.cjc_ncode.specs.declared.narrow.PairRole.TheVariants.{Alone, Opens, Closes}
use Rattle.cjc_narrow.proofs.PairsLaws.Near.{closes_near}
use Rattle.cjc_narrow.proofs.PairsLaws.Roles.{written_as_same}
use Rattle.cjc_narrow.specs.Pairs.Roles.{keeps_this, role_in, roles_of, with_pairs}
use Rattle.cjc_narrow.specs.Written.Rows.{has_rows}
use Rattle.cjc_types.specs.Flow.{body_of}
use Rattle.cjc_types.specs.Marks.{marks_of}
use Rattle.cjc_code.specs.ClassFile.Code.{CodeTree}
use Rattle.cjc_code.specs.ClassFile.declared.tree.ClassTree.{ClassTree}
use Rattle.cjc_code.specs.ClassFile.declared.tree.MethodTree.{MethodTree}
use Rattle.cjc_ncode.specs.Written.{pushed_word, static_access, static_by, switched, table_cases, type_test, written}
use Rattle.cjc_narrow.specs.Select.Working.Names.{is_one_byte}
use Rattle.cjc_narrow.proofs.SelectLaws.Near.{near_by_index}
use Rattle.cjc_world.specs.Classes.{all_classes}
use Rattle.cjc_world.specs.Files.{Files}
use Rattle.cjc_narrow.specs.Written.Operands.{CanBeSaid, IsAscending}
use Rattle.cjc_narrow_proof.specs.Selected.Operands.{IndexFits, IsSmall, NumbersFit}

module _ (n : Naming) (ks : List PoolKey) (small : IsSmall n ks) where
  index_low : (key : PoolKey) → n.index key < 65536
  index_low key = go (index_of ks key) refl
    where
      few : length ks ≤ 16383
      few = small.few

      go : (o : Option ℕ) → index_of ks key ≡ o → n.index key < 65536
      go None e = let is : n.index key ≡ 0 = small.index key ∙ ap (λ o. unwrap_or o 0) e in omega (arith, is)
      go (Some i) e =
          let is : n.index key ≡ i = small.index key ∙ ap (λ o. unwrap_or o 0) e in
          let within = (position-Some (same_key key) ks i key e).0 in
          let most = few in
          omega (arith, is, within, most)

  -- an index of one byte, where the pool says so
  index_near : (key : PoolKey) → is_one_byte (index_of ks key) ≡ true → n.index key < 256
  index_near key h = go (index_of ks key) refl h
    where
      go : (o : Option ℕ) → index_of ks key ≡ o → is_one_byte o ≡ true → n.index key < 256
      go None e h = absurd cc
      go (Some i) e h =
          let is : n.index key ≡ i = small.index key ∙ ap (λ o. unwrap_or o 0) e in
          let lt = ltb-true i 256 h in
          omega (arith, is, lt)

  AllFit : List NInsn → Type 0
  AllFit [] = Unit {0}
  AllFit (i ∷ insns) = NumbersFit n i × AllFit insns

  one : (i : NInsn) → NumbersFit n i → AllFit (i ∷ [])
  unfolding AllFit
  one i h = (h, tt)

  append : (xs ys : List NInsn) → AllFit xs → AllFit ys → AllFit (xs ++ ys)
  unfolding AllFit
  append [] ys h g = g
  append (x ∷ xs) ys h g = (h.0, append xs ys h.1 g)

  at : (xs : List NInsn) (k : ℕ) (i : NInsn) → AllFit xs → slice_get xs k ≡ Some i → NumbersFit n i
  unfolding AllFit
  at [] k i h e = cc
  at (x ∷ xs) zero i h e = let same : x ≡ i = cc in subst (NumbersFit n) same h.0
  at (x ∷ xs) (suc k) i h e = at xs k i h.1 e

  if_fits : (b : Bool) (x y : NInsn) → NumbersFit n x → NumbersFit n y → NumbersFit n (if b then x else y)
  if_fits true x y h g = h
  if_fits false x y h g = g

  word_fits : (z : ℤ) → NumbersFit n (pushed_word z)
  word_fits (pos m) = if_fits (nat_le m 5) (Op (0x03 + m)) (if nat_le m 127 then Push 0x10 (pos m)
      else Push 0x11 (pos m)) tt (if_fits (nat_le m 127) (Push 0x10 (pos m)) (Push 0x11 (pos m)) tt tt)
  word_fits (negsuc m) = if_fits (m == 0) (Op 0x02) (if nat_le m 127 then Push 0x10 (negsuc m)
      else Push 0x11 (negsuc m)) tt (if_fits (nat_le m 127) (Push 0x10 (negsuc m)) (Push 0x11 (negsuc m)) tt tt)

  local_fits : (short long l : ℕ) → AllFit (local short long l)
  local_fits short long l = one (if nat_le l 3 then Op (short + l) else Local long l)
      (if_fits (nat_le l 3) (Op (short + l)) (Local long l) tt tt)

  stack_fits : (op : ℕ) → NumbersFit n (on_stack op)
  stack_fits op = go (op == 0x57) (op == 0x58) (op == 0x59) (op == 0x5C) (op == 0x5A) (op == 0x5B) (op == 0x5D) (op ==
      0x5E)
    where
      go : (a b c d e f g h : Bool) → NumbersFit n (if a then Op 0x3B else (if b then Op 0x3C else (if c then Op 0x3D
          else (if d then Op 0x3E
          else (if e then Words 0x3F 1 2 else (if f then Words 0x3F 1 3 else (if g then Words 0x3F 2 3
          else (if h then Words 0x3F 2 4 else Words 0x40 1 1))))))))
      go true b c d e f g h = tt
      go false true c d e f g h = tt
      go false false true d e f g h = tt
      go false false false true e f g h = tt
      go false false false false true f g h = tt
      go false false false false false true g h = tt
      go false false false false false false true h = tt
      go false false false false false false false true = tt
      go false false false false false false false false = tt

  narrow_fits : (b : Bool) → AllFit (if b then Op 0x5B ∷ [] else [])
  unfolding AllFit
  narrow_fits true = (tt, tt)
  narrow_fits false = tt

  switched_fits : (op other : ℕ) (low : ℤ) (cases : List NCase) → AllFit (switched op other low cases)
  unfolding AllFit
  switched_fits op other low [] = (tt, (tt, tt))
  switched_fits op other low (c ∷ cases) = (tt, tt)

  two_fits : (op : ℕ) (key : PoolKey) → form op ≡ Some (Fields (Index2 ∷ [])) → NumbersFit n (Named op key)
  two_fits op key e = subst (λ f. IndexFits f (n.index key)) (sym e) (index_low key)

  one_fits : (op : ℕ) (key : PoolKey) → form op ≡ Some (Fields (Index1 ∷ [])) → n.index key < 256
      → NumbersFit n (Named op key)
  one_fits op key e h = subst (λ f. IndexFits f (n.index key)) (sym e) h

  access_fits : (put : Bool) (sort : Sort) (key : PoolKey) → NumbersFit n (Named (static_access put sort) key)
  unfolding form forms
  access_fits true Boolean key = two_fits 0x80 key refl
  access_fits true ByteSort key = two_fits 0x80 key refl
  access_fits true Short key = two_fits 0x81 key refl
  access_fits true Int key = two_fits 0x82 key refl
  access_fits true (Reference shape) key = two_fits 0x7F key refl
  access_fits true NoValue key = two_fits 0x7F key refl
  access_fits false Boolean key = two_fits 0x7C key refl
  access_fits false ByteSort key = two_fits 0x7C key refl
  access_fits false Short key = two_fits 0x7D key refl
  access_fits false Int key = two_fits 0x7E key refl
  access_fits false (Reference shape) key = two_fits 0x7B key refl
  access_fits false NoValue key = two_fits 0x7B key refl

  field_fits : (put near : Bool) (sort : Sort) (key : PoolKey) → (near ≡ true → n.index key < 256)
      → NumbersFit n (Named (field_access put near sort) key)
  unfolding form forms
  field_fits true true Boolean key h = one_fits 0x88 key refl (h refl)
  field_fits true true ByteSort key h = one_fits 0x88 key refl (h refl)
  field_fits true true Short key h = one_fits 0x89 key refl (h refl)
  field_fits true true Int key h = one_fits 0x8A key refl (h refl)
  field_fits true true (Reference shape) key h = one_fits 0x87 key refl (h refl)
  field_fits true true NoValue key h = one_fits 0x87 key refl (h refl)
  field_fits true false Boolean key h = two_fits 0xB2 key refl
  field_fits true false ByteSort key h = two_fits 0xB2 key refl
  field_fits true false Short key h = two_fits 0xB3 key refl
  field_fits true false Int key h = two_fits 0xB4 key refl
  field_fits true false (Reference shape) key h = two_fits 0xB1 key refl
  field_fits true false NoValue key h = two_fits 0xB1 key refl
  field_fits false true Boolean key h = one_fits 0x84 key refl (h refl)
  field_fits false true ByteSort key h = one_fits 0x84 key refl (h refl)
  field_fits false true Short key h = one_fits 0x85 key refl (h refl)
  field_fits false true Int key h = one_fits 0x86 key refl (h refl)
  field_fits false true (Reference shape) key h = one_fits 0x83 key refl (h refl)
  field_fits false true NoValue key h = one_fits 0x83 key refl (h refl)
  field_fits false false Boolean key h = two_fits 0xAA key refl
  field_fits false false ByteSort key h = two_fits 0xAA key refl
  field_fits false false Short key h = two_fits 0xAB key refl
  field_fits false false Int key h = two_fits 0xAC key refl
  field_fits false false (Reference shape) key h = two_fits 0xA9 key refl
  field_fits false false NoValue key h = two_fits 0xA9 key refl

  this_fits : (put : Bool) (sort : Sort) (key : PoolKey) → n.index key < 256
      → NumbersFit n (Named (this_access put sort) key)
  unfolding form forms
  this_fits true Boolean key h = one_fits 0xB6 key refl h
  this_fits true ByteSort key h = one_fits 0xB6 key refl h
  this_fits true Short key h = one_fits 0xB7 key refl h
  this_fits true Int key h = one_fits 0xB8 key refl h
  this_fits true (Reference shape) key h = one_fits 0xB5 key refl h
  this_fits true NoValue key h = one_fits 0xB5 key refl h
  this_fits false Boolean key h = one_fits 0xAE key refl h
  this_fits false ByteSort key h = one_fits 0xAE key refl h
  this_fits false Short key h = one_fits 0xAF key refl h
  this_fits false Int key h = one_fits 0xB0 key refl h
  this_fits false (Reference shape) key h = one_fits 0xAD key refl h
  this_fits false NoValue key h = one_fits 0xAD key refl h

  tests_fit : (op : ℕ) (type : Option (Shape (List ℕ))) → AllFit (type_test op type)
  unfolding AllFit
  tests_fit op None = tt
  tests_fit op (Some (OfClass class)) = (index_low (keys.Class class), tt)
  tests_fit op (Some (OfReferences class)) = (index_low (keys.Class class), tt)
  tests_fit op (Some (OfNumbers Booleans)) = (tt, tt)
  tests_fit op (Some (OfNumbers Bytes)) = (tt, tt)
  tests_fit op (Some (OfNumbers Shorts)) = (tt, tt)
  tests_fit op (Some (OfNumbers Ints)) = (tt, tt)

  module _ (files : Files) (holder : List ℕ) (place : ℕ → ℕ) where
    abbrev r : Resolution
    r = resolution files (near_fields ks) holder

    near_low : (f : MemberId) → r.is_near f ≡ true → n.index (keys.Field (r.field f)) < 256
    unfolding resolution
    near_low f h = index_near (keys.Field (resolved_field (all_classes files) f))
        (sym (near_by_index (resolved_field (all_classes files) f) ks) ∙ h)

    static_fits : (put : Bool) (f : MemberId) (constant : Option ℤ) → AllFit (static_by r put f constant)
    static_fits put f (Some z) = one (pushed_word (low_word z)) (word_fits (low_word z))
    static_fits put f None = one (Named (static_access put (field_sort f.desc)) (keys.StaticField (r.field f)))
        (access_fits put (field_sort f.desc) (keys.StaticField (r.field f)))

    call_fits : (op : ℕ) (m : MemberId) → (op ≡ 0xB9 → nargs_of m < 256) → AllFit (call_by r op m)
    unfolding form forms
    call_fits op m said = go (op == 0xB9) refl (op == 0xB6) (op == 0xB7)
      where
        go : (a : Bool) → (op == 0xB9) ≡ a → (b c : Bool) → AllFit ((if a then Interface (nargs_of m) (r.interface m)
            else (if b then Named 0x8B (r.virtual m) else (if c then Named 0x8C (r.special m)
            else Named 0x8D (r.static m)))) ∷ [])
        go true e b c = one (Interface (nargs_of m) (r.interface m)) (
          said (eqb-true op 0xB9 e),
          index_low _,
          small.token (r.interface m),
        )
        go false e true c = one (Named 0x8B (r.virtual m)) (two_fits 0x8B (r.virtual m) refl)
        go false e false true = one (Named 0x8C (r.special m)) (two_fits 0x8C (r.special m) refl)
        go false e false false = one (Named 0x8D (r.static m)) (two_fits 0x8D (r.static m) refl)

    op_fits : (op : JOp) → CanBeSaid op → AllFit (written r place op)
    unfolding AllFit form forms
    op_fits jop.Nop h = tt
    op_fits jop.Null h = (tt, tt)
    op_fits (jop.Number z) h = (word_fits (low_word z), tt)
    op_fits (jop.Load false l) h = local_fits 0x1C 0x16 l
    op_fits (jop.Load true l) h = local_fits 0x18 0x15 l
    op_fits (jop.Store false l) h = local_fits 0x2F 0x29 l
    op_fits (jop.Store true l) h = local_fits 0x2B 0x28 l
    op_fits (jop.ArrayLoad op) h = (tt, tt)
    op_fits (jop.ArrayStore op) h = (tt, tt)
    op_fits (jop.Stack op) h = (stack_fits op, tt)
    op_fits (jop.Arith op) h = (tt, tt)
    op_fits (jop.Inc l by) h = (tt, tt)
    op_fits (jop.Narrow op) h = narrow_fits (op == 0x91)
    op_fits (jop.If op target) h = (tt, tt)
    op_fits (jop.Goto target) h = (tt, tt)
    op_fits (jop.TableSwitch other low ts) h = switched_fits 0x73 (place other) (low_of (table_cases place low ts))
        (table_cases place low ts)
    op_fits (jop.LookupSwitch other cases) h = switched_fits 0x75 (place other) (pos 0) (pair_cases place cases)
    op_fits (jop.Return op) h = (tt, tt)
    op_fits (jop.Static put f) h = static_fits put f (r.constant f)
    op_fits (jop.Field put f) h = (
      field_fits put (r.is_near f) (field_sort f.desc) (keys.Field (r.field f))
          (near_low f),
      tt,
    )
    op_fits (jop.Call op m) h = call_fits op m h
    op_fits (jop.New class) h = (two_fits 0x8F (keys.Class class) refl, tt)
    op_fits (jop.NewArray kind) h = (tt, tt)
    op_fits (jop.ANewArray class) h = (two_fits 0x91 (keys.Class class) refl, tt)
    op_fits jop.ArrayLength h = (tt, tt)
    op_fits jop.Throw h = (tt, tt)
    op_fits (jop.CheckCast class) h = tests_fit 0x94 (shape_named class)
    op_fits (jop.InstanceOf class) h = tests_fit 0x95 (shape_named class)

    -- by these roles, where a field instruction that closes a pair has an index of one byte
    module _ (role_at : ℕ → PairRole) where
      abbrev NearThere : JInsn → Type 0
      NearThere i = role_at i.at ≡ Closes → (a : Access) → accessed i.op ≡ Some a → r.is_near a.field ≡ true

      role_fits : (i : JInsn) → CanBeSaid i.op → NearThere i → AllFit (written_as (role_at i.at) r place i.op)
      unfolding AllFit
      role_fits i h near = by (role_at i.at) refl
        where
          closes : (o : Option Access) → accessed i.op ≡ o → role_at i.at ≡ Closes → AllFit (on_this r place i.op o)
          closes None e f = op_fits i.op h
          closes (Some a) e f = (
            (let field = a.field
                in this_fits a.put (field_sort field.desc) (keys.Field (r.field field)) (near_low field (near f a e))),
            tt,
          )

          opens : (b : Bool) → AllFit (if b then [] else written r place i.op)
          opens true = tt
          opens false = op_fits i.op h

          by : (role : PairRole) → role_at i.at ≡ role → AllFit (written_as role r place i.op)
          by Alone f = op_fits i.op h
          by Opens f = opens (is_load i.op)
          by Closes f = closes (accessed i.op) refl f

      code_fits : (kept : List JInsn) → ((k : ℕ) (i : JInsn) → slice_get kept k ≡ Some i → CanBeSaid i.op × NearThere i)
          → AllFit (flat_map (λ i. written_as (role_at i.at) r place i.op) kept)
      unfolding AllFit
      code_fits [] h = tt
      code_fits (i ∷ kept) h = append (written_as (role_at i.at) r place i.op)
          (flat_map (λ j. written_as (role_at j.at) r place j.op) kept) (role_fits i (h 0 i refl).0 (h 0 i refl).1)
          (code_fits kept (λ k j e. h (suc k) j e))

      pub all_fit : (kept : List JInsn) → ((k : ℕ) (i : JInsn) → slice_get kept k ≡ Some i
          → CanBeSaid i.op × NearThere i)
          → (k : ℕ) (i : NInsn) → slice_get (flat_map (written_for (record r { role = role_at }) place) kept) k ≡ Some i
          → NumbersFit n i
      all_fit kept h k i e = at (flat_map (λ j. written_as (role_at j.at) r place j.op) kept) k i (code_fits kept h)
          (ap (λ (f : JInsn → List NInsn). slice_get (flat_map f kept) k) (λ t j. sym (written_as_same r role_at
          (role_at j.at) place
          j.op) t) ∙ e)

  -- of a method whose instructions ascend
  pub selected_fit : {A : Type 0} (files : Files) (class : ClassTree) (method : MethodTree) (tree : CodeTree)
      (insns : List JInsn) (rows : List (Option A)) → IsAscending insns
      → ((k : ℕ) (i : JInsn) → slice_get (reached insns rows) k ≡ Some i → CanBeSaid i.op)
      → (k : ℕ) (i : NInsn) → slice_get (let m = selected_code files (near_fields ks) class method tree insns rows
      in m.insns) k ≡ Some i → NumbersFit n i
  unfolding with_pairs
  selected_fit files class method tree insns rows up said k i e =
      let b = body_of class method tree insns in
      let r = resolution files (near_fields ks) class.name in
      all_fit files class.name (place_in (with_pairs r b (has_rows rows)) (reached insns rows))
      (role_in insns (roles_of r b (has_rows rows))) (reached insns rows)
      (λ j x f. (
        said j x f,
        λ closes a g. closes_near (keeps_this b (has_rows rows)) r (marks_of b) b.catches false 0 0
            insns rows up j x f closes a g,
      )) k i e
