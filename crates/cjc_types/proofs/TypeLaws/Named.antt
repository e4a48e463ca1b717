-- The names of a method are among those of its file's texts.
use Rattle.std.proofs.Common.{◌≡◌, ℕ, ◌+◌, ◌*◌, ◌≤◌, ◌^◌, ◌==◌, Bool, true, false, cond, nat_lt, List, [], ◌∷◌, ◌++◌}
use Rattle.std.proofs.Common.{map, length, codes, slice_get, Option, Some, None, Ok, IfSome, refl, sym, ap}
use Rattle.std.proofs.Common.{subst, ◌∙◌, inl, inr, arith}
use Rattle.std.proofs.lemmas.Bool.{leb-true}
use Rattle.std.proofs.lemmas.Option.{slice_get-map}
use Rattle.std.specs.List.{AllByRecursion}
use Rattle.cjc_bytes.proofs.Inverse.{InBytes}
use Rattle.cjc_bytes.specs.AccessFlags.{is_static}
use Rattle.cjc_bytes.specs.Format.{FileSpells}
use Rattle.cjc_bytes.specs.Descriptor.{Part, Parts}
use Rattle.cjc_bytes.specs.Spots.{begins_method, gathered, part_of, types, parts_of, where_none, desc_of}
use Rattle.cjc_bytes.specs.declared.descriptor.Kind.{Kind}
use Rattle.cjc_bytes.proofs.Gets.{all_at, contains_at}
use Rattle.cjc_bytes.proofs.Options.{option_mapped}
use Rattle.cjc_bytes.specs.declared.descriptor.Kind.TheVariants as kinds
use Rattle.cjc_classfile.specs.ClassFile.{class_file}
use Rattle.cjc_classfile.specs.Code.{CodeTree}
use Rattle.cjc_classfile.specs.declared.tree.ClassTree.{ClassTree}
use Rattle.cjc_classfile.specs.declared.tree.MethodTree.{MethodTree}
use Rattle.cjc_code.specs.declared.insn.JInsn.{JInsn}
use Rattle.cjc_code.specs.declared.insn.JOp.{JOp}
use Rattle.cjc_code.specs.declared.insn.JOp.TheVariants as jop
use Rattle.cjc_code.specs.declared.method_code.MethodCode.{MethodCode}
use Rattle.cjc_code.specs.Cut.{cut}
use Rattle.cjc_code.specs.Decoded.{decoding, of_code, of_method}
use Rattle.cjc_code.specs.Named.{op_of}
use Rattle.cjc_code.specs.Rules.{with_names}
use Rattle.cjc_code.proofs.Decided.{decoded_is}
use Rattle.cjc_code.proofs.OneCut.{is_cut}
use Rattle.cjc_world.specs.Files.{Files}
use Rattle.cjc_types.specs.declared.cell.Cell.{Cell}
use Rattle.cjc_types.specs.declared.cell.Cell.TheVariants.{Refs}
use Rattle.cjc_types.specs.Names.{In, IsWithin}
use Rattle.cjc_types.specs.Cells.{most_names, IsNameSet}
use Rattle.cjc_types.specs.Types.{parts, parts_or_none, no_parts, cell_of, value_of, is_void, result_of, array_of}
use Rattle.cjc_types.specs.Types.{letter}
use Rattle.cjc_types.specs.Steps.{operand, gives, shuffled}
use Rattle.cjc_types.specs.Flow.{Body, body_of, arguments, caught_type}
use Rattle.cjc_types.specs.Among.{IsAmong, AreAmong, HasNames}
use Rattle.cjc_types.specs.Tables.{IsMethodOf}
use Rattle.cjc_types.proofs.TypeLaws.Spelt.{size, IsCatchNamed, IsCodeNamed, IsMethodNamed, IsClassNamed, spelt_texts}
use Rattle.cjc_types.proofs.TypeLaws.Rows.{IsOpNamed, row_named}
use Rattle.cjc_types.proofs.TypeLaws.Shapes.{cut_row}
use Rattle.cjc_types.proofs.TypeLaws.Chains.{in_left, in_right, weight, weight-append, closing, closing_is, class_in}
use Rattle.cjc_types.proofs.TypeLaws.Chains.{readings_of, all_readings, readings_have, readings_few, no_readings}

-- ---- names that no text is needed for

-- arrays of numbers, and the root of what is thrown
pub fixed : List (List ℕ)
fixed =
    codes "java/lang/Throwable" ∷ (91 ∷ 90 ∷ []) ∷ (91 ∷ 67 ∷ []) ∷ (91 ∷ 70 ∷ []) ∷ (91 ∷ 68 ∷ []) ∷ (91 ∷ 66 ∷ [])
    ∷ (91 ∷ 83 ∷ []) ∷ (91 ∷ 73 ∷ []) ∷ (91 ∷ 74 ∷ []) ∷ []

fixed_few : weight fixed ≤ 100
unfolding fixed weight
fixed_few = leb-true _ _ refl

abbrev IsFixed : ℕ → Type 0
IsFixed b = In (91 ∷ b ∷ []) fixed

either : (b : Bool) (x y : ℕ) → IsFixed x → IsFixed y → IsFixed (cond b x y)
either true x y h k = h
either false x y h k = k

letter_fixed : (number : ℕ) → IsFixed (letter number)
unfolding fixed
letter_fixed number =
    either (number == 4) _ _ (inr (inl refl))
    (either (number == 5) _ _ (inr (inr (inl refl)))
    (either (number == 6) _ _ (inr (inr (inr (inl refl))))
    (either (number == 7) _ _ (inr (inr (inr (inr (inl refl)))))
    (either (number == 8) _ _ (inr (inr (inr (inr (inr (inl refl))))))
    (either (number == 9) _ _ (inr (inr (inr (inr (inr (inr (inl refl)))))))
    (either (number == 10) _ _ (inr (inr (inr (inr (inr (inr (inr (inl refl))))))))
    (inr (inr (inr (inr (inr (inr (inr (inr (inl refl)))))))))))))))

throwable_fixed : In (codes "java/lang/Throwable") fixed
unfolding fixed
throwable_fixed = inl refl

-- ---- what a descriptor's types put into cells

module _ (names : List (List ℕ)) where
  append_among : (xs ys : List Cell) → AreAmong names xs → AreAmong names ys → AreAmong names (xs ++ ys)
  append_among [] ys h k = k
  append_among (x ∷ xs) ys h k = (h.0, append_among xs ys h.1 k)

  one_among : (n : List ℕ) → In n names → IsAmong names (Refs (n ∷ []))
  one_among n h m (inl same) = subst (λ (x : List ℕ). In x names) same h
  one_among n h m (inr none) = absurd none

  kind_among : (kind : Kind) (class : List ℕ) → In class names → IsAmong names (cell_of kind class)
  kind_among kinds.Bool class h = tt
  kind_among kinds.Byte class h = tt
  kind_among kinds.Short class h = tt
  kind_among kinds.Int class h = tt
  kind_among kinds.Other class h = tt
  kind_among kinds.Ref class h = one_among class h
  kind_among kinds.Void class h = tt

  result_among : (p : Part) → In p.class names → AreAmong names (result_of p)
  result_among p h = go (is_void p.kind)
    where
      go : (b : Bool) → AreAmong names (cond b [] (value_of p ∷ []))
      go true = tt
      go false = (kind_among p.kind p.class h, tt)

  abbrev PartsAmong : Parts → Type 0
  PartsAmong d = AreAmong names (map value_of d.params) × AreAmong names (result_of d.result)

  gathered_among : (is_method : Bool) (ts : List (List ℕ)) → IsWithin (map class_in ts) names
      → PartsAmong (gathered is_method (map part_of ts))
  gathered_among is_method [] h = (tt, tt)
  gathered_among is_method (a ∷ []) h = (tt, result_among (part_of a) (h (class_in a) (inl refl)))
  gathered_among is_method (a ∷ b ∷ ts) h =
      let rest = gathered_among is_method (b ∷ ts) (λ n is. h n (inr is)) in
      ((kind_among (part_of a).kind (class_in a) (h (class_in a) (inl refl)), rest.0), rest.1)

  desc_among : (desc : List ℕ) → IsWithin (map class_in (types desc)) names → PartsAmong (parts desc)
  unfolding parts desc_of parts_of
  desc_among desc h = go (nat_lt (length desc) (2 ^ 32)) _
    where
      go : (small : Bool) (bad : Option ℕ)
          → PartsAmong (cond small
          (parts_or_none (where_none bad (gathered (begins_method desc) (map part_of (types desc))))) no_parts)
      go true None = gathered_among (begins_method desc) (types desc) h
      go true (Some k) = (tt, tt)
      go false bad = (tt, tt)

  shuffled_among : (ks : List ℕ) → AreAmong names (map (operand []) ks)
  shuffled_among [] = tt
  shuffled_among (k ∷ ks) = (tt, shuffled_among ks)

-- Names that have what texts may be written for.
pub record AreNamesOf (ts names : List (List ℕ)) : Type 0 where
  pub fixed : IsWithin fixed names
  pub read : (t : List ℕ) → In t ts → IsWithin (readings_of t) names

module _ (ts names : List (List ℕ)) (h : AreNamesOf ts names) where
  text_there : (t : List ℕ) → In t ts → In t names
  text_there t is = h.read t is t (inl refl)

  parts_there : (desc : List ℕ) → In desc ts → PartsAmong names (parts desc)
  parts_there desc is = desc_among names desc (λ n there. h.read desc is n (inr (inr there)))

  result_there : (desc : List ℕ) (put : Bool) → In desc ts
      → AreAmong names (cond put [] (result_of (parts desc).result))
  result_there desc true is = tt
  result_there desc false is = (parts_there desc is).1

  gives_among : (op : JOp) → IsOpNamed ts op → AreAmong names (gives op [] [])
  gives_among jop.Null is = (λ n none. absurd none, tt)
  gives_among (jop.Load true k) is = (tt, tt)
  gives_among (jop.Load false k) is = (tt, tt)
  gives_among (jop.Stack opcode) is = shuffled_among names (shuffled opcode)
  gives_among (jop.Static put id) is = result_there id.desc put is
  gives_among (jop.Field put id) is = result_there id.desc put is
  gives_among (jop.Call opcode id) is = (parts_there id.desc is).1
  gives_among (jop.New class) is = (one_among names class (text_there class is), tt)
  gives_among (jop.NewArray number) is =
      (one_among names (91 ∷ letter number ∷ []) (h.fixed (91 ∷ letter number ∷ []) (letter_fixed number)), tt)
  gives_among (jop.ANewArray class) is =
      (one_among names (array_of class) (h.read class is (array_of class) (inr (inl refl))), tt)
  gives_among (jop.CheckCast class) is = (one_among names class (text_there class is), tt)
  gives_among (jop.Number z) is = (tt, tt)
  gives_among (jop.ArrayLoad opcode) is = (tt, tt)
  gives_among (jop.Arith opcode) is = (tt, tt)
  gives_among (jop.Narrow opcode) is = (tt, tt)
  gives_among jop.ArrayLength is = (tt, tt)
  gives_among (jop.InstanceOf class) is = (tt, tt)
  gives_among _ is = tt

-- ---- those of a method

arguments_among : (ts names : List (List ℕ)) (b : Body) → AreNamesOf ts names → In b.class ts → In b.desc ts
    → AreAmong names (arguments b)
arguments_among ts names b h class desc = append_among names _ _ (go (is_static b.flags)) (parts_there ts names h b.desc
    desc).0
  where
    go : (is : Bool) → AreAmong names (cond is [] (Refs (b.class ∷ []) ∷ []))
    go true = tt
    go false = (one_among names b.class (text_there ts names h b.class class), tt)

insn_named : (ts : List (List ℕ)) (class : ClassTree) (method : MethodTree) (tree : CodeTree) (insns : List JInsn)
    → IsClassNamed ts class → decoding class method tree ≡ Ok insns
    → (place : ℕ) (i : JInsn) → slice_get insns place ≡ Some i → IsOpNamed ([] ∷ ts) i.op
insn_named ts class method tree insns named found place i e =
    let are = (decoded_is class method tree insns found).insns_are in
    let there = slice_get-map (with_names class.pool) (cut tree.bytes).insns place in
    let raw = option_mapped (with_names class.pool) (slice_get (cut tree.bytes).insns place) i (sym there
    ∙ ap (λ (xs : List JInsn). slice_get xs place) (sym are) ∙ e) in
    let m = cut_row place 0 tree.bytes (cut tree.bytes).insns (cut tree.bytes).stop (is_cut tree.bytes) raw.0 raw.1 in
    let is = row_named ts m.0 class.pool raw.0.at raw.0.opcode raw.0.numbers (λ x there. named.items _ x there) in
    subst (λ (j : JInsn). IsOpNamed ([] ∷ ts) j.op) raw.2
    (subst (λ f. IsOpNamed ([] ∷ ts) (op_of class.pool raw.0.at raw.0.opcode f raw.0.numbers)) (sym m.1) is)

caught_there : (ts names : List (List ℕ)) → AreNamesOf ([] ∷ ts) names → (o : Option (List ℕ)) → IfSome o (λ t. In t ts)
    → In (caught_type o) names
caught_there ts names h None is = h.fixed _ throwable_fixed
caught_there ts names h (Some t) is = text_there ([] ∷ ts) names h t (inr is)

-- ---- all of them

readings_small : (ts : List (List ℕ)) → weight (all_readings ts) ≤ 4 * size ts
unfolding size
readings_small [] = let none = no_readings in omega (arith, none)
readings_small (t ∷ ts) =
    let first = readings_few t ts in
    let rest = readings_small ts in
    omega (arith, first, rest)

abbrev roots : List (List ℕ) → List (List ℕ)
roots ts = fixed ++ all_readings ([] ∷ ts)

roots_few : (ts : List (List ℕ)) → weight (roots ts) ≤ 105 + 4 * size ts
roots_few ts =
    let one = fixed_few in
    let both = weight-append fixed (all_readings ([] ∷ ts)) in
    let first = readings_few [] ts in
    let rest = readings_small ts in
    omega (arith, one, both, first, rest)

names_are : (ts : List (List ℕ)) → AreNamesOf ([] ∷ ts) (closing (roots ts))
names_are ts = record {
  fixed = λ n is. (closing_is (roots ts)).has n (in_left n fixed (all_readings ([] ∷ ts)) is);
  read = λ t is n there. (closing_is (roots ts)).has n (in_right n fixed (all_readings ([] ∷ ts)) (readings_have ([]
      ∷ ts) t n is there));
}

method_names : (ts : List (List ℕ)) (files : Files) (code : MethodCode) (class : ClassTree) (method : MethodTree)
    (tree : CodeTree) → IsClassNamed ts class → IsMethodOf files code class method tree
    → HasNames (closing (roots ts)) (body_of class method tree code.insns)
method_names ts files code class method tree named is = record {
  arguments = arguments_among ([] ∷ ts) (closing (roots ts)) (body_of class method tree code.insns) (names_are ts)
      (inr named.name) (inr own.desc);
  given = λ place i e. gives_among ([] ∷ ts) (closing (roots ts)) (names_are ts) i.op (insn_named ts class method tree
      code.insns named decoded place i e);
  caught = λ c there. caught_there ts (closing (roots ts)) (names_are ts) c.class (let k = contains_at tree.catches c
      there in all_at (IsCatchNamed ts) tree.catches k.0 c catches k.1);
  held = (closing_is (roots ts)).held;
}
  where
    own : IsMethodNamed ts method
    own = all_at (IsMethodNamed ts) class.methods code.method method named.methods is.is_method

    catches : AllByRecursion (IsCatchNamed ts) tree.catches
    catches = subst (IsCodeNamed ts) is.is_code own.catches

    decoded : decoding class method tree ≡ Ok code.insns
    decoded = sym (ap (of_code class method) is.is_code) ∙ sym (ap (of_method class) is.is_method) ∙ is.insns

pub names_exist : (files : Files) (code : MethodCode) (class : ClassTree) (method : MethodTree) (tree : CodeTree)
    (bytes : List ℕ) → InBytes bytes → length bytes ≤ 2 ^ 29 → FileSpells class_file class bytes
    → IsMethodOf files code class method tree → (names : List (List ℕ)) × IsNameSet names
    × HasNames names (body_of class method tree code.insns)
unfolding most_names
names_exist files code class method tree bytes ok short spelt is =
    let found = spelt_texts class bytes ok spelt in
    let small = found.few in
    let names = closing_is (roots found.texts) in
    let few = names.few in
    let all = roots_few found.texts in (
      closing (roots found.texts),
      record { set = names.set; few = omega (arith, short, small, few, all) },
      method_names found.texts files code class method tree found.named is,
    )
