-- Bytes that spell a tree show that it can be written, in no more bytes.
use Rattle.std.proofs.Common.{◌≡◌, ℕ, ℤ, zero, suc, ◌+◌, ◌<◌, ◌≤◌, ◌^◌, Bool, true, false, cond, ◌&&◌, not, List, []}
use Rattle.std.proofs.Common.{◌∷◌, ◌++◌, Option, Some, None, Ok, is_some, option_and_then, slice_get, get_or, length}
use Rattle.std.proofs.Common.{refl, sym, ap, subst, ◌∙◌, arith, FitsSigned, true≢false, length-append, append_assoc}
use Rattle.std.specs.Prelude.{codes, ◌==◌}
use Rattle.std.specs.List.{AllByRecursion, flat_map, list_any}
use Rattle.std.specs.Str.{bytes_eq}
use Rattle.std.specs.Int.{w8, w16, w32, to_be_bytes, cast_unsigned}
use Rattle.std.proofs.lemmas.Bool.Decides.{Decides-eqb}
use Rattle.std.proofs.lemmas.Option.{option_and_then_some}
use Rattle.std.proofs.lemmas.Slice.Eq.{bytes_eq-Decides}
use Rattle.std.proofs.lemmas.List.{append-nil}
use Rattle.std.proofs.lemmas.List.Elements.{recursion_from_All, All-from_get_or}
use Rattle.std.proofs.lemmas.List.Folds.{list_any-append}
use Rattle.std.proofs.lemmas.Bool.{or_right}
use Rattle.cjc_bytes.specs.Format.{Spells, FileSpells, repeated, iterated, Format}
use Rattle.cjc_bytes.specs.Descriptor.{Parts}
use Rattle.cjc_bytes.specs.Spots.{desc_of}
use Rattle.cjc_export.specs.declared.pool.Index.{Index}
use Rattle.cjc_export.specs.declared.tree.ExportField.{ExportField}
use Rattle.cjc_export.specs.declared.tree.ExportMethod.{ExportMethod}
use Rattle.cjc_export.specs.declared.tree.ExportClass.{ExportClass}
use Rattle.cjc_export.specs.declared.tree.ExportTree.{ExportTree}
use Rattle.cjc_export.specs.declared.file.Package.{Package}
use Rattle.cjc_export.specs.Words.{broken_where}
use Rattle.cjc_bytes.specs.AccessFlags.{is_interface}
use Rattle.cjc_export.specs.Entry.{Entry}
use Rattle.cjc_export.specs.Entry as entries
use Rattle.cjc_export.specs.Pool.{aid_length, as_text, as_class, text_at, class_name_at}
use Rattle.cjc_export.specs.Package.{package_of, package_at, package_field}
use Rattle.cjc_export.specs.Members.{grown, text_field, class_field, same_bool, as_desc, desc_at, desc_field}
use Rattle.cjc_export.specs.Members.{may_be_constant, is_constant, constant_name_at, as_integer, integer_at}
use Rattle.cjc_export.specs.Members.{attribute_content, attribute, no_token, where_constant, field, class_method}
use Rattle.cjc_export.specs.Members.{interface_token, not_special, interface_name_at, interface_method, method}
use Rattle.cjc_export.specs.ExportFile.{class_token, new_name, new_name_at, method_count, class_tree, front_part}
use Rattle.cjc_export.specs.ExportFile.{export_file}
use Rattle.cjc_export.specs.Root.{with_root}
use Rattle.cjc_export.specs.Constant.{Constant, text, integer, class, this, same}
use Rattle.cjc_export.specs.Working.Same.{same-Decides}
use Rattle.cjc_export.specs.Written.{value_name, class_needs, value_needs, field_needs, method_needs, class_tree_needs}
use Rattle.cjc_export.specs.Written.{needs, constants, class_ref, value_bytes, field_bytes, method_bytes, members_bytes}
use Rattle.cjc_export.specs.Written.{class_bytes, constant_bytes, package_bytes, index_bytes, head_bytes, bytes_over}
use Rattle.cjc_export.specs.Written.{written}
use Rattle.cjc_export.specs.Writable.{IsText, ValueFits, FieldFits, MethodStands, ClassFits, AreBytes, IsWritable}
use Rattle.cjc_export.specs.Writable.{EachAfter}
use Rattle.cjc_export.proofs.Numbering.{Has, all_append}
use Rattle.cjc_export.proofs.Worth.{total, worth_at_most}
use Rattle.cjc_bytes.proofs.Inverse.{InBytes, with_inner, number8, number16, number32, u1_is, u2_is, found_is}
use Rattle.cjc_bytes.proofs.Inverse.{here_is, given}
use Rattle.cjc_bytes.proofs.Gets.{all_at}
use Rattle.cjc_bytes.proofs.Options.{option_mapped}
use Rattle.cjc_export.proofs.Entries.{entry_sizes, EntryFits, cond_same, cond_other, chosen, entries_read, named, meant}
use Rattle.cjc_export.proofs.Entries.{size_of, one_each, meant_sizes, meant_ones}

-- ---- what is found in the pool

own : (c : Constant) (cs : List Constant) → Has (c ∷ cs) c
own c cs = let itself : same c c ≡ true = (same-Decides c c).1 refl in rw itself refl

no_token_is : (token : ℕ) → no_token token ≡ true → token ≡ 0xFF
no_token_is token e = (Decides-eqb token 0xFF).0 e

passes : (place : ℕ) (b : Bool) (x : Unit {0}) → broken_where place b ≡ Ok x → b ≡ false
passes place true x e = absurd cc
passes place false x e = refl

module _ (pool : List Entry) (mine : ℕ) where
  meanings : List Entry → List Constant
  meanings es = flat_map (meant pool mine) es

  there : (es : List Entry) (i : ℕ) (e : Entry) (c : Constant) → slice_get es i ≡ Some e → meant pool mine e ≡ c ∷ []
      → Has (meanings es) c
  unfolding meanings
  there [] i e c f m = absurd cc
  there (x ∷ xs) zero e c f m =
      let is : x ≡ e = cc in
      subst (λ (front : List Constant). Has (front ++ meanings xs) c) (sym (ap (meant pool mine) is ∙ m))
      (own c (meanings xs))
  there (x ∷ xs) (suc i) e c f m = list_any-append (same c) (meant pool mine x) (meanings xs)
      ∙ or_right (list_any (same c) (meant pool mine x)) (list_any (same c) (meanings xs)) (there xs i e c f m)

  abbrev InPool : Constant → Type 0
  InPool c = Has (meanings pool) c

  module _ (fit : AllByRecursion EntryFits pool) where
    text_entry : (i : ℕ) (x : Entry) (b : List ℕ) → slice_get pool i ≡ Some x → as_text x ≡ Some b → IsText b
        × InPool (text b)
    text_entry i (entries.text a) b is f =
        let same_text : a ≡ b = cc in
        subst (λ (t : List ℕ). IsText t × InPool (text t)) same_text (
          all_at EntryFits pool i (entries.text a) fit is,
          there pool i (entries.text a) (text a) is refl,
        )
    text_entry i (entries.integer n) b is f = absurd cc
    text_entry i (entries.class name) b is f = absurd cc
    text_entry i (entries.package_info library name minor major aid) b is f = absurd cc

    text_here : (i : ℕ) (b : List ℕ) → text_at pool i ≡ Some b → IsText b × InPool (text b)
    unfolding text_at
    text_here i b e = option_and_then_some as_text (slice_get pool i) b e (λ x is f. text_entry i x b is f)

    class_entry : (i : ℕ) (x : Entry) (name : Index) (n : List ℕ) → slice_get pool i ≡ Some x → as_class x ≡ Some name
        → text_at pool name.to ≡ Some n → IsText n × AllByRecursion InPool (class_needs n)
    unfolding named
    class_entry i (entries.class a) name n is f g =
        let same_index : a ≡ name = cc in
        let named_so : meant pool mine (entries.class a) ≡ class n ∷ [] = ap (λ (j : Index). named (text_at pool j.to))
        same_index ∙ ap named g in
        let t = text_here name.to n g in
        (t.0, (t.1, (there pool i (entries.class a) (class n) is named_so, tt)))
    class_entry i (entries.text a) name n is f g = absurd cc
    class_entry i (entries.integer a) name n is f g = absurd cc
    class_entry i (entries.package_info library a minor major aid) name n is f g = absurd cc

    class_here : (i : ℕ) (n : List ℕ) → class_name_at pool i ≡ Some n → IsText n × AllByRecursion InPool (class_needs n)
    unfolding class_name_at
    class_here i n e =
        option_and_then_some (λ (name : Index). text_at pool name.to) (option_and_then as_class (slice_get pool i)) n e
        (λ name is f. option_and_then_some as_class (slice_get pool i) name is (λ x there_is g. class_entry i x name n
        there_is g f))

    integer_entry : (i : ℕ) (x : Entry) (z : ℤ) → slice_get pool i ≡ Some x → as_integer x ≡ Some z → FitsSigned w32 z
        × InPool (integer (cast_unsigned w32 z))
    integer_entry i (entries.integer a) z is f =
        let same_value : a ≡ z = cc in
        subst (λ (n : ℤ). FitsSigned w32 n × InPool (integer (cast_unsigned w32 n))) same_value (
          all_at EntryFits pool i
              (entries.integer a) fit is,
          there pool i (entries.integer a) (integer (cast_unsigned w32 a)) is refl,
        )
    integer_entry i (entries.text a) z is f = absurd cc
    integer_entry i (entries.class a) z is f = absurd cc
    integer_entry i (entries.package_info library a minor major aid) z is f = absurd cc

    integer_here : (i : ℕ) (z : ℤ) → integer_at pool i ≡ Some z → FitsSigned w32 z
        × InPool (integer (cast_unsigned w32 z))
    unfolding integer_at
    integer_here i z e = option_and_then_some as_integer (slice_get pool i) z e (λ x is f. integer_entry i x z is f)

    constant_name : (so_far : Option ℤ) (name : List ℕ) (b : Bool) → bytes_eq name (codes "ConstantValue") ≡ b
        → cond b (cond (is_some so_far) None (Some true)) (Some false) ≡ Some true → InPool (text name)
        → InPool value_name
    unfolding value_name
    constant_name so_far name true is e h = subst (λ (t : List ℕ). InPool (text t))
        ((bytes_eq-Decides name (codes "ConstantValue")).0 is) h
    constant_name so_far name false is e h = absurd cc

    value_name_here : (so_far : Option ℤ) (i : ℕ) → constant_name_at pool so_far i ≡ Some true → InPool value_name
    unfolding constant_name_at
    value_name_here so_far i e = option_and_then_some (is_constant so_far) (text_at pool i) true e
        (λ name is f. constant_name so_far name (bytes_eq name (codes "ConstantValue")) refl f (text_here i name is).1)

    -- ---- attributes

    abbrev ValueIn : Option ℤ → Type 0
    ValueIn None = Unit {0}
    ValueIn (Some z) = FitsSigned w32 z × InPool value_name × InPool (integer (cast_unsigned w32 z))

    -- the bytes of the attribute of a value
    abbrev value_size : Option ℤ → ℕ
    value_size None = 0
    value_size (Some z) = 8

    -- a value after so many bytes: a new one only where that is allowed
    record ValueRead (so_far : Option ℤ) (fixed : Bool) (size : ℕ) (v : Option ℤ) : Type 0 where
      stands : ValueIn v
      sizes : value_size v ≤ value_size so_far + size
      kept : fixed ≡ true → v ≡ so_far

    content_value : (constant : Bool) (i : ℕ) (so_far : Option ℤ) (at : ℕ) (v : Option ℤ) (bytes : List ℕ)
        → InBytes bytes → ValueIn so_far → constant_name_at pool so_far i ≡ Some constant
        → Spells (attribute_content pool constant so_far) at v bytes
        → ValueRead so_far (not constant) (2 + length bytes) v
    unfolding attribute_content
    content_value true i so_far at v bytes ok h e g =
        with_inner _ _ _ _ _ ok g (λ size.
        let four = (number32 _ _ _ _ size.fronts size.one).sizes in
        with_inner _ _ _ _ _ size.backs size.rest (λ value.
        let k = number16 _ _ _ _ value.fronts value.one in
        let is = given _ _ _ _ value.rest in
        let found = integer_here k.n value.x k.is in
        let enough : 8 ≤ value_size so_far + (2 + length bytes) = eight _ _ _ _ _ (value_size so_far) size.sizes four
        value.sizes k.sizes in
        subst (λ (x : Option ℤ). ValueRead so_far false (2 + length bytes) x) is.0
        (record {
          stands = (found.0, value_name_here so_far i e, found.1);
          sizes = enough;
          kept = λ f. absurd (true≢false (sym f));
        })))
      where
        eight : (all four b two c s : ℕ) → all ≡ four + b → four ≡ 4 → b ≡ two + c → two ≡ 2 → 8 ≤ s + (2 + all)
        eight all four b two c s p q r t = omega arith
    content_value false i so_far at v bytes ok h e g =
        with_inner _ _ _ _ _ ok g (λ size.
        with_inner _ _ _ _ _ size.backs size.rest (λ skipped.
        let is = given _ _ _ _ skipped.rest in
        let enough : value_size so_far ≤ value_size so_far + (2 + length bytes) = omega arith in
        subst (λ (x : Option ℤ). ValueRead so_far true (2 + length bytes) x) is.0 (record {
          stands = h;
          sizes = enough;
          kept = λ f. refl;
        })))

    kept_where : (wrong constant : Bool) (so_far v : Option ℤ) → (wrong && constant) ≡ false → (not constant ≡ true
        → v ≡ so_far) → wrong ≡ true → v ≡ so_far
    kept_where true true so_far v e f w = absurd (true≢false e)
    kept_where true false so_far v e f w = f refl
    kept_where false constant so_far v e f w = absurd (true≢false (sym w))

    attribute_value : (place : ℕ) (wrong : Bool) (behind : ℕ) (so_far : Option ℤ) (at : ℕ) (v : Option ℤ)
        (bytes : List ℕ) → InBytes bytes → ValueIn so_far
        → Spells (attribute pool place wrong behind so_far) at v bytes → ValueRead so_far wrong (length bytes) v
    unfolding attribute
    attribute_value place wrong behind so_far at v bytes ok h g =
        with_inner _ _ _ _ _ ok g (λ name.
        let k = number16 _ _ _ _ name.fronts name.one in
        with_inner _ _ _ _ _ name.backs name.rest (λ test.
        let tested_so = found_is _ _ _ _ test.one in
        let r = content_value name.x k.n so_far _ v test.back test.backs h k.is test.rest in
        record {
          stands = r.stands;
          sizes = sum _ _ _ _ _ (value_size v) (value_size so_far) name.sizes k.sizes test.sizes tested_so.1 r.sizes;
          kept = kept_where wrong name.x so_far v (passes place (wrong && name.x) test.x tested_so.0) r.kept;
        }))
      where
        sum : (all two b none c v s : ℕ) → all ≡ two + b → two ≡ 2 → b ≡ none + c → none ≡ 0 → v ≤ s + (2 + c)
            → v ≤ s + all
        sum all two b none c v s p q r t u = omega arith

    attributes_value : (n place : ℕ) (wrong : Bool) (so_far : Option ℤ) (at : ℕ) (v : Option ℤ) (bytes : List ℕ)
        → InBytes bytes → ValueIn so_far
        → Spells (iterated n (attribute pool place wrong) so_far) at v bytes → ValueRead so_far wrong (length bytes) v
    unfolding iterated
    attributes_value zero place wrong so_far at v bytes ok h g =
        let is = given _ _ _ _ g in
        let enough : value_size so_far ≤ value_size so_far + length bytes = omega arith in
        subst (λ (x : Option ℤ). ValueRead so_far wrong (length bytes) x) is.0 (record {
          stands = h;
          sizes = enough;
          kept = λ f. refl;
        })
    attributes_value (suc n) place wrong so_far at v bytes ok h g =
        with_inner _ _ _ _ _ ok g (λ turn.
        let one = attribute_value place wrong n so_far _ turn.x turn.front turn.fronts h turn.one in
        let more = attributes_value n place wrong turn.x _ v turn.back turn.backs one.stands turn.rest in
        record {
          stands = more.stands;
          sizes = sum _ _ _ (value_size v) (value_size turn.x) (value_size so_far) turn.sizes one.sizes more.sizes;
          kept = λ f. more.kept f ∙ one.kept f;
        })
      where
        sum : (all a b v t s : ℕ) → all ≡ a + b → t ≤ s + a → v ≤ t + b → v ≤ s + all
        sum all a b v t s p q r = omega arith

    -- ---- fields

    as_desc_same : (m : Bool) (b d : List ℕ) → as_desc m b ≡ Some d → b ≡ d
    as_desc_same m b d e = chosen (λ (x : Parts). same_bool m x.is_method) (desc_of b) b d e

    desc_here : (m : Bool) (i : ℕ) (d : List ℕ) → desc_at pool m i ≡ Some d → IsText d × InPool (text d)
        × (as_desc m d ≡ Some d)
    unfolding desc_at
    desc_here m i d e =
        option_and_then_some (as_desc m) (text_at pool i) d e
        (λ b is f. let same_text : b ≡ d = as_desc_same m b d f in
        let t = text_here i d (is ∙ ap Some same_text) in
        (t.0, t.1, subst (λ (x : List ℕ). as_desc m x ≡ Some d) same_text f))

    text_field_here : (at : ℕ) (t : List ℕ) (bytes : List ℕ) → InBytes bytes → Spells (text_field pool) at t bytes
        → IsText t × InPool (text t) × (length bytes ≡ 2)
    unfolding text_field
    text_field_here at t bytes ok h =
        let k = number16 (text_at pool) at t bytes ok h in
        let found = text_here k.n t k.is in
        (found.0, found.1, k.sizes)

    desc_field_here : (m : Bool) (at : ℕ) (d : List ℕ) (bytes : List ℕ) → InBytes bytes
        → Spells (desc_field pool m) at d bytes → IsText d × InPool (text d) × (as_desc m d ≡ Some d)
        × (length bytes ≡ 2)
    unfolding desc_field
    desc_field_here m at d bytes ok h =
        let k = number16 (desc_at pool m) at d bytes ok h in
        let found = desc_here m k.n d k.is in
        (found.0, found.1, found.2, k.sizes)

    value_fits : (f : ExportField) (may token : Bool) (value : Option ℤ) → may_be_constant f.flags f.desc ≡ may
        → no_token f.token ≡ token → ValueIn value → ((may && not token) ≡ true → value ≡ None)
        → ValueFits f (where_constant may value)
    value_fits f true token None e t h kept = tt
    value_fits f true true (Some z) e t h kept = (h.0, e, no_token_is f.token t)
    value_fits f true false (Some z) e t h kept = absurd (some_none z (kept refl))
      where
        some_none : (n : ℤ) → Some n ≡ None → ⊥
        some_none n p = cc
    value_fits f false token value e t h kept = tt

    value_needed : (may : Bool) (value : Option ℤ) → ValueIn value
        → AllByRecursion InPool (value_needs (where_constant may value))
    value_needed true None h = tt
    value_needed true (Some z) h = (h.1, (h.2, tt))
    value_needed false value h = tt

    value_written : (cs : List Constant) (may : Bool) (value : Option ℤ)
        → length (value_bytes cs (where_constant may value)) ≤ 2 + value_size value
    value_written cs true None = omega arith
    value_written cs true (Some z) = omega arith
    value_written cs false value = small value
      where
        small : (o : Option ℤ) → 2 ≤ 2 + value_size o
        small None = omega arith
        small (Some z) = omega arith

    module _ (cs : List Constant) where
      record FieldRead (before : List ExportField) (size : ℕ) (f : ExportField) : Type 0 where
        fits : FieldFits before f
        needed : AllByRecursion InPool (field_needs f)
        sizes : length (field_bytes cs f) ≤ size

      field_size : (f : ExportField) → length (field_bytes cs f) ≡ 7 + length (value_bytes cs f.constant)
      unfolding field_bytes
      field_size f = omega arith

      field_read : (before : List ExportField) (at : ℕ) (f : ExportField) (bytes : List ℕ) → InBytes bytes
          → Spells (field pool before) at f bytes → FieldRead before (length bytes) f
      unfolding field
      field_read before at f bytes ok h =
          with_inner _ _ _ _ _ ok h (λ place.
          let p = here_is _ _ _ _ place.one in
          with_inner _ _ _ _ _ place.backs place.rest (λ token.
          let t = u1_is _ _ _ token.fronts token.one in
          with_inner _ _ _ _ _ token.backs token.rest (λ flags.
          let fl = u2_is _ _ _ flags.fronts flags.one in
          with_inner _ _ _ _ _ flags.backs flags.rest (λ first.
          let a = found_is _ _ _ _ first.one in
          with_inner _ _ _ _ _ first.backs first.rest (λ name.
          let n = text_field_here _ _ _ name.fronts name.one in
          with_inner _ _ _ _ _ name.backs name.rest (λ desc.
          let d = desc_field_here _ _ _ _ desc.fronts desc.one in
          with_inner _ _ _ _ _ desc.backs desc.rest (λ second.
          let b = found_is _ _ _ _ second.one in
          with_inner _ _ _ _ _ second.backs second.rest (λ count.
          let c = u2_is _ _ _ count.fronts count.one in
          with_inner _ _ _ _ _ count.backs count.rest (λ value.
          let v = attributes_value _ _ _ None _ _ _ value.fronts tt value.one in
          with_inner _ _ _ _ _ value.backs value.rest (λ third.
          let e = found_is _ _ _ _ third.one in
          let is = given _ _ _ _ third.rest in
          let may : Bool = may_be_constant flags.x desc.x in
          let made : ExportField = record {
            token = token.x;
            flags = flags.x;
            name = name.x;
            desc = desc.x;
            constant = where_constant may value.x;
          } in
          let behind = sum_behind _ _ _ _ _ _ _ (value_size value.x) second.sizes b.1 count.sizes c.1 value.sizes
          v.sizes in
          let all = sum_all _ _ _ _ _ _ _ _ _ _ _ _ _ _ place.sizes p token.sizes t.1 flags.sizes fl.1 first.sizes
          name.sizes n.2 desc.sizes d.3 behind in
          subst (λ (x : ExportField). FieldRead before (length bytes) x) is.0 (record {
            fits = record {
              token = t.0;
              flags = fl.0;
              name = n.0;
              desc = d.0;
              is_desc = d.2;
              value = value_fits made may (no_token token.x) value.x refl refl v.stands v.kept;
              apart = passes place.x _ third.x e.0;
            };
            needed = (n.1, (d.1, value_needed may value.x v.stands));
            sizes = in_all _ _ _ _ (field_size made) (value_written cs may value.x) all;
          })))))))))))
        where
          sum_behind : (all none b two c attrs d v : ℕ) → all ≡ none + b → none ≡ 0 → b ≡ two + c → two ≡ 2
              → c ≡ attrs + d → v ≤ 0 + attrs → 2 + v ≤ all
          sum_behind all none b two c attrs d v p q r t u w = omega arith

          sum_all : (all z a one b two c y d n e m f g : ℕ) → all ≡ z + a → z ≡ 0 → a ≡ one + b → one ≡ 1 → b ≡ two + c
              → two ≡ 2 → c ≡ y + d → d ≡ n + e → n ≡ 2 → e ≡ m + f → m ≡ 2 → g ≤ f → 7 + g ≤ all
          sum_all all z a one b two c y d n e m f g h i j k l o q r t u v w = omega arith

          in_all : (own v limit all : ℕ) → own ≡ 7 + v → v ≤ limit → 7 + limit ≤ all → own ≤ all
          in_all own v limit all p q r = omega arith

      -- ---- methods

      record MethodRead (interface : Bool) (count : ℕ) (before : List ExportMethod) (size : ℕ) (m : ExportMethod) :
          Type 0 where
        stands : MethodStands interface count before m
        needed : AllByRecursion InPool (method_needs m)
        sizes : length (method_bytes cs m) ≤ size

      method_size : (m : ExportMethod) (size : ℕ) → 7 ≤ size → length (method_bytes cs m) ≤ size
      unfolding method_bytes
      method_size m size h = omega arith

      class_method_read : (count : ℕ) (before : List ExportMethod) (at : ℕ) (m : ExportMethod) (bytes : List ℕ)
          → InBytes bytes → Spells (class_method pool before) at m bytes → MethodRead false count before (length bytes)
          m
      unfolding class_method
      class_method_read count before at m bytes ok h =
          with_inner _ _ _ _ _ ok h (λ place.
          let p = here_is _ _ _ _ place.one in
          with_inner _ _ _ _ _ place.backs place.rest (λ token.
          let t = u1_is _ _ _ token.fronts token.one in
          with_inner _ _ _ _ _ token.backs token.rest (λ flags.
          let fl = u2_is _ _ _ flags.fronts flags.one in
          with_inner _ _ _ _ _ flags.backs flags.rest (λ first.
          with_inner _ _ _ _ _ first.backs first.rest (λ name.
          let n = text_field_here _ _ _ name.fronts name.one in
          with_inner _ _ _ _ _ name.backs name.rest (λ second.
          let b = found_is _ _ _ _ second.one in
          with_inner _ _ _ _ _ second.backs second.rest (λ desc.
          let d = desc_field_here _ _ _ _ desc.fronts desc.one in
          let is = given _ _ _ _ desc.rest in
          let enough = sum _ _ _ _ _ _ _ _ _ _ _ _ _ _ _ place.sizes token.sizes t.1 flags.sizes fl.1 first.sizes
          name.sizes n.2 second.sizes desc.sizes d.3 in
          subst (λ (x : ExportMethod). MethodRead false count before (length bytes) x) is.0 (record {
            stands = (
              record { token = t.0; flags = fl.0; name = n.0; desc = d.0; is_desc = d.2 },
              passes place.x _ second.x b.0,
            );
            needed = (n.1, (d.1, tt));
            sizes = method_size _ _ enough;
          }))))))))
        where
          sum : (all z a one b two c y d n e x f m g : ℕ) → all ≡ z + a → a ≡ one + b → one ≡ 1 → b ≡ two + c → two ≡ 2
              → c ≡ y + d → d ≡ n + e → n ≡ 2 → e ≡ x + f → f ≡ m + g → m ≡ 2 → 7 ≤ all
          sum all z a one b two c y d n e x f m g h i j k l o q r t u v = omega arith

      token_same : (count : ℕ) (before : List ExportMethod) (n token : ℕ) → interface_token count before n ≡ Some token
          → n ≡ token
      token_same count before n token e = cond_same _ n token e

      special_same : (b name : List ℕ) → not_special b ≡ Some name → b ≡ name
      special_same b name e = cond_other _ b name e

      interface_method_read : (count : ℕ) (before : List ExportMethod) (at : ℕ) (m : ExportMethod) (bytes : List ℕ)
          → InBytes bytes → Spells (interface_method pool count before) at m bytes
          → MethodRead true count before (length bytes) m
      unfolding interface_method interface_name_at
      interface_method_read count before at m bytes ok h =
          with_inner _ _ _ _ _ ok h (λ token.
          let t = number8 (interface_token count before) _ _ _ token.fronts token.one in
          with_inner _ _ _ _ _ token.backs token.rest (λ flags.
          let fl = u2_is _ _ _ flags.fronts flags.one in
          with_inner _ _ _ _ _ flags.backs flags.rest (λ name.
          let k = number16 (interface_name_at pool) _ _ _ name.fronts name.one in
          let n = named_here k.n name.x k.is in
          with_inner _ _ _ _ _ name.backs name.rest (λ desc.
          let d = desc_field_here _ _ _ _ desc.fronts desc.one in
          let is = given _ _ _ _ desc.rest in
          let same_token : t.n ≡ token.x = token_same count before t.n token.x t.is in
          let small : token.x < 2 ^ 8 = subst (λ (x : ℕ). x < 2 ^ 8) same_token t.small in
          let stands_so : interface_token count before token.x ≡ Some token.x =
          subst (λ (x : ℕ). interface_token count before x ≡ Some token.x) same_token t.is in
          let enough = sum _ _ _ _ _ _ _ _ _ token.sizes t.sizes flags.sizes fl.1 name.sizes k.sizes desc.sizes d.3 in
          subst (λ (x : ExportMethod). MethodRead true count before (length bytes) x) is.0 (record {
            stands = (record { token = small; flags = fl.0; name = n.0; desc = d.0; is_desc = d.2 }, stands_so, n.2);
            needed = (n.1, (d.1, tt));
            sizes = method_size _ _ enough;
          })))))
        where
          named_here : (i : ℕ) (name : List ℕ) → interface_name_at pool i ≡ Some name → IsText name × InPool (text name)
              × (not_special name ≡ Some name)
          named_here i name e =
              option_and_then_some not_special (text_at pool i) name e
              (λ b is f. let same_text : b ≡ name = special_same b name f in
              let t = text_here i name (is ∙ ap Some same_text) in
              (t.0, t.1, subst (λ (x : List ℕ). not_special x ≡ Some name) same_text f))

          sum : (all one a two b n c m d : ℕ) → all ≡ one + a → one ≡ 1 → a ≡ two + b → two ≡ 2 → b ≡ n + c → n ≡ 2
              → c ≡ m + d → m ≡ 2 → 7 ≤ all
          sum all one a two b n c m d h i j k l o q r = omega arith

      method_read : (interface : Bool) (count : ℕ) (before : List ExportMethod) (at : ℕ) (m : ExportMethod)
          (bytes : List ℕ) → InBytes bytes → Spells (method pool interface count before) at m bytes
          → MethodRead interface count before (length bytes) m
      unfolding method
      method_read true count before at m bytes ok h = interface_method_read count before at m bytes ok h
      method_read false count before at m bytes ok h = class_method_read count before at m bytes ok h

      -- ---- classes

      -- items one after the other, and what each shows with those before it known
      record Items {A : Type 0} (P : List A → A → Type 0) (needs_of : A → List Constant) (bytes_of : A
          → List ℕ) (n : ℕ) (before xs : List A) (size : ℕ) : Type 0 where
        new : List A
        is : before ++ new ≡ xs
        count : length new ≡ n
        each : EachAfter P before new
        needed : AllByRecursion InPool (flat_map needs_of new)
        sizes : length (flat_map bytes_of new) ≤ size

      items_read : {A : Type 0} (p : List A → Format A) (P : List A → A → Type 0) (needs_of : A
          → List Constant) (bytes_of : A → List ℕ)
          → ((before : List A) (at : ℕ) (x : A) (bytes : List ℕ) → InBytes bytes → Spells (p before) at x bytes
          → P before x × AllByRecursion InPool (needs_of x) × (length (bytes_of x) ≤ length bytes))
          → (n : ℕ) (before : List A) (at : ℕ) (xs : List A) (bytes : List ℕ) → InBytes bytes
          → Spells (iterated n (grown p) before) at xs bytes → Items P needs_of bytes_of n before xs (length bytes)
      unfolding iterated grown
      items_read p P needs_of bytes_of one zero before at xs bytes ok h =
          let g = given _ _ _ _ h in
          record { new = []; is = append-nil before ∙ g.0; count = refl; each = tt; needed = tt; sizes = omega arith }
      items_read {A = A} p P needs_of bytes_of one (suc n) before at xs bytes ok h =
          with_inner _ _ _ _ _ ok h (λ turn.
          with_inner _ _ _ _ _ turn.fronts turn.one (λ x.
          let g = given _ _ _ _ x.rest in
          let first = one before _ x.x x.front x.fronts x.one in
          let next : Spells (iterated n (grown p) (before ++ x.x ∷ [])) (at + length turn.front) xs turn.back =
          subst (λ (ys : List A). Spells (iterated n (grown p) ys) (at + length turn.front) xs turn.back) (sym g.0)
          turn.rest in
          let more = items_read p P needs_of bytes_of one n (before ++ x.x ∷ []) _ xs turn.back turn.backs next in
          record {
            new = x.x ∷ more.new;
            is = sym (append_assoc before (x.x ∷ []) more.new) ∙ more.is;
            count = ap suc more.count;
            each = (first.0, more.each);
            needed = all_append InPool (needs_of x.x) (flat_map needs_of more.new) first.1 more.needed;
            sizes = sum _ _ _ _ _ _ _ _ (length-append (bytes_of x.x) (flat_map bytes_of more.new)) first.2 more.sizes
                turn.sizes x.sizes;
          }))
        where
          sum : (out own rest mine back all turn free : ℕ) → out ≡ own + rest → own ≤ mine → rest ≤ back
              → all ≡ turn + back → turn ≡ mine + free → out ≤ all
          sum out own rest mine back all turn free p q r t u = omega arith

      abbrev Names : ℕ → List (List ℕ) → ℕ → Type 0
      Names n xs size = (length xs ≡ n) × AllByRecursion IsText xs × AllByRecursion InPool (flat_map class_needs xs)
          × (length (flat_map (class_ref cs) xs) ≤ size)

      class_field_here : (at : ℕ) (t : List ℕ) (bytes : List ℕ) → InBytes bytes → Spells (class_field pool) at t bytes
          → IsText t × AllByRecursion InPool (class_needs t) × (length bytes ≡ 2)
      unfolding class_field
      class_field_here at t bytes ok h =
          let k = number16 (class_name_at pool) at t bytes ok h in
          let found = class_here k.n t k.is in
          (found.0, found.1, k.sizes)

      names_read : (n at : ℕ) (xs : List (List ℕ)) (bytes : List ℕ) → InBytes bytes
          → Spells (repeated n (class_field pool)) at xs bytes → Names n xs (length bytes)
      unfolding repeated
      names_read zero at xs bytes ok h = let g = given _ _ _ _ h
          in subst (λ (ys : List (List ℕ)). Names 0 ys (length bytes)) g.0 (refl, tt, tt, omega arith)
      names_read (suc n) at xs bytes ok h =
          with_inner _ _ _ _ _ ok h (λ x.
          with_inner _ _ _ _ _ x.backs x.rest (λ ys.
          let one = class_field_here _ x.x x.front x.fronts x.one in
          let more = names_read n _ ys.x ys.front ys.fronts ys.one in
          let g = given _ _ _ _ ys.rest in
          let size = sum _ _ _ _ _ _ _ (length-append (class_ref cs x.x) (flat_map (class_ref cs) ys.x)) x.sizes one.2
          ys.sizes more.3 in
          subst (λ (zs : List (List ℕ)). Names (suc n) zs (length bytes)) g.0 (
            ap suc more.0,
            (one.0, more.1),
            all_append InPool (class_needs x.x) (flat_map class_needs ys.x) one.1 more.2,
            size,
          )))
        where
          sum : (out rest all two back front free : ℕ) → out ≡ 2 + rest → all ≡ two + back → two ≡ 2
              → back ≡ front + free → rest ≤ front → out ≤ all
          sum out rest all two back front free p q r t u = omega arith

      abbrev AllItems : {A : Type 0} → (List A → A → Type 0) → (A → List Constant) → (A → List ℕ) → ℕ → List A → ℕ
          → Type 0
      AllItems P needs_of bytes_of n xs size = (length xs ≡ n) × EachAfter P [] xs
          × AllByRecursion InPool (flat_map needs_of xs) × (length (flat_map bytes_of xs) ≤ size)

      all_items : {A : Type 0} (P : List A → A → Type 0) (needs_of : A → List Constant) (bytes_of : A
          → List ℕ) (n : ℕ) (xs : List A) (size : ℕ) → Items P needs_of bytes_of n [] xs size
          → AllItems P needs_of bytes_of n xs size
      all_items {A = A} P needs_of bytes_of n xs size i = subst (λ (ys : List A). AllItems P needs_of bytes_of n ys
          size) i.is (i.count, i.each, i.needed, i.sizes)

      record ClassRead (before : List ExportClass) (size : ℕ) (c : ExportClass) : Type 0 where
        fits : ClassFits before c
        needed : AllByRecursion InPool (class_tree_needs c)
        sizes : length (class_bytes cs c) ≤ size

      class_needed : (c : ExportClass) → AllByRecursion InPool (class_needs c.name)
          → AllByRecursion InPool (flat_map class_needs c.listed)
          → AllByRecursion InPool (flat_map class_needs c.interfaces)
          → AllByRecursion InPool (flat_map field_needs c.fields)
          → AllByRecursion InPool (flat_map method_needs c.methods) → AllByRecursion InPool (class_tree_needs c)
      unfolding class_tree_needs
      class_needed c name supers interfaces fields methods =
          all_append InPool (class_needs c.name) _ name
          (all_append InPool (flat_map class_needs c.listed) _ supers
          (all_append InPool (flat_map class_needs c.interfaces) _ interfaces
          (all_append InPool (flat_map field_needs c.fields) (flat_map method_needs c.methods) fields methods)))

      class_size : (c : ExportClass) → length (class_bytes cs c) ≡ 12 + (length (flat_map (class_ref cs) c.listed) +
          length (flat_map (class_ref cs) c.interfaces) + length (flat_map (field_bytes cs) c.fields) + length
          (flat_map (method_bytes cs) c.methods))
      unfolding class_bytes members_bytes
      class_size c =
          let supers = length-append (flat_map (class_ref cs) c.listed) (to_be_bytes w8 (length c.interfaces)
          ++ (flat_map (class_ref cs) c.interfaces ++ members_bytes cs c)) in
          let interfaces = length-append (flat_map (class_ref cs) c.interfaces) (members_bytes cs c) in
          let fields = length-append (flat_map (field_bytes cs) c.fields) (to_be_bytes w16 (length c.methods)
          ++ flat_map (method_bytes cs) c.methods) in
          omega arith

      new_name_here : (before : List ExportClass) (i : ℕ) (name : List ℕ) → new_name_at pool before i ≡ Some name
          → IsText name × AllByRecursion InPool (class_needs name) × (new_name before name ≡ Some name)
      unfolding new_name_at
      new_name_here before i name e =
          option_and_then_some (new_name before) (class_name_at pool i) name e
          (λ b is f. let same_name : b ≡ name = cond_other _ b name f in
          let c = class_here i name (is ∙ ap Some same_name) in
          (c.0, c.1, subst (λ (x : List ℕ). new_name before x ≡ Some name) same_name f))

      own_token : (before : List ExportClass) (n token : ℕ) → class_token before n ≡ Some token → n ≡ token
      own_token before n token e = cond_other _ n token e

      same_count : (interface : Bool) (n count : ℕ) → method_count interface n ≡ Some count → n ≡ count
      same_count interface n count e = cond_other _ n count e

      fields_read : (n at : ℕ) (xs : List ExportField) (bytes : List ℕ) → InBytes bytes
          → Spells (iterated n (grown (field pool)) []) at xs bytes → AllItems FieldFits field_needs (field_bytes cs) n
          xs (length bytes)
      fields_read n at xs bytes ok h =
          all_items FieldFits field_needs (field_bytes cs) n xs (length bytes)
          (items_read (field pool) FieldFits field_needs (field_bytes cs) (λ before place x b in_bytes g. let r =
          field_read before place x b in_bytes g in (r.fits, r.needed, r.sizes)) n [] at xs bytes ok h)

      methods_read : (interface : Bool) (n at : ℕ) (xs : List ExportMethod) (bytes : List ℕ) → InBytes bytes
          → Spells (iterated n (grown (method pool interface n)) []) at xs bytes
          → AllItems (MethodStands interface n) method_needs (method_bytes cs) n xs (length bytes)
      methods_read interface n at xs bytes ok h =
          all_items (MethodStands interface n) method_needs (method_bytes cs) n xs (length bytes)
          (items_read (method pool interface n) (MethodStands interface n) method_needs (method_bytes cs)
          (λ before place x b in_bytes g. let r = method_read interface n before place x b in_bytes g
          in (r.stands, r.needed, r.sizes)) n [] at xs bytes ok h)

      -- the bytes of a class: its front, its interfaces, its fields and its methods
      front_sum : (all one a two b name c count d supers e : ℕ) → all ≡ one + a → one ≡ 1 → a ≡ two + b → two ≡ 2
          → b ≡ name + c → name ≡ 2 → c ≡ count + d → count ≡ 2 → d ≡ supers + e → all ≡ 7 + (supers + e)
      front_sum all one a two b name c count d supers e p q r t u v w x y = omega arith

      back_sum : (all one a interfaces b two c fields d count e methods f : ℕ) → all ≡ one + a → one ≡ 1
          → a ≡ interfaces + b → b ≡ two + c → two ≡ 2 → c ≡ fields + d → d ≡ count + e → count ≡ 2 → e ≡ methods + f
          → 5 + (interfaces + fields + methods) ≤ all
      back_sum all one a interfaces b two c fields d count e methods f p q r t u v w x y = omega arith

      whole_sum : (out s i f m supers interfaces fields methods behind all : ℕ) → out ≡ 12 + (s + i + f + m)
          → s ≤ supers → i ≤ interfaces → f ≤ fields → m ≤ methods → 5 + (interfaces + fields + methods) ≤ behind
          → all ≡ 7 + (supers + behind) → out ≤ all
      whole_sum out s i f m supers interfaces fields methods behind all p q r t u v w = omega arith

      class_read : (before : List ExportClass) (at : ℕ) (c : ExportClass) (bytes : List ℕ) → InBytes bytes
          → Spells (class_tree pool before) at c bytes → ClassRead before (length bytes) c
      unfolding class_tree
      class_read before at c bytes ok h =
          with_inner _ _ _ _ _ ok h (λ token.
          let t = number8 (class_token before) _ _ _ token.fronts token.one in
          with_inner _ _ _ _ _ token.backs token.rest (λ flags.
          let fl = u2_is _ _ _ flags.fronts flags.one in
          with_inner _ _ _ _ _ flags.backs flags.rest (λ name.
          let k = number16 (new_name_at pool before) _ _ _ name.fronts name.one in
          let n = new_name_here before k.n name.x k.is in
          with_inner _ _ _ _ _ name.backs name.rest (λ super_count.
          let sc = u2_is _ _ _ super_count.fronts super_count.one in
          with_inner _ _ _ _ _ super_count.backs super_count.rest (λ supers.
          let s = names_read _ _ _ _ supers.fronts supers.one in
          with_inner _ _ _ _ _ supers.backs supers.rest (λ interface_count.
          let ic = u1_is _ _ _ interface_count.fronts interface_count.one in
          with_inner _ _ _ _ _ interface_count.backs interface_count.rest (λ interfaces.
          let i = names_read _ _ _ _ interfaces.fronts interfaces.one in
          with_inner _ _ _ _ _ interfaces.backs interfaces.rest (λ field_count.
          let fc = u2_is _ _ _ field_count.fronts field_count.one in
          with_inner _ _ _ _ _ field_count.backs field_count.rest (λ fields.
          let f = fields_read _ _ _ _ fields.fronts fields.one in
          with_inner _ _ _ _ _ fields.backs fields.rest (λ count.
          let mc = number16 (method_count (is_interface flags.x)) _ _ _ count.fronts count.one in
          with_inner _ _ _ _ _ count.backs count.rest (λ methods.
          let m = methods_read (is_interface flags.x) _ _ _ _ methods.fronts methods.one in
          let is = given _ _ _ _ methods.rest in
          let same_token : t.n ≡ token.x = own_token before t.n token.x t.is in
          let small : token.x < 2 ^ 8 = subst (λ (x : ℕ). x < 2 ^ 8) same_token t.small in
          let own_so : class_token before token.x ≡ Some token.x = subst (λ (x : ℕ). class_token before x
          ≡ Some token.x) same_token t.is in
          let as_many : count.x ≡ length methods.x = sym m.0 in
          let counted_so : mc.n ≡ length methods.x = same_count (is_interface flags.x) mc.n count.x mc.is ∙ as_many in
          let made : ExportClass = record {
            token = token.x;
            flags = flags.x;
            name = name.x;
            listed = supers.x;
            supers = with_root name.x supers.x;
            interfaces = interfaces.x;
            fields = fields.x;
            methods = methods.x;
          } in
          let at_front = front_sum _ _ _ _ _ _ _ _ _ _ _ token.sizes t.sizes flags.sizes fl.1 name.sizes k.sizes
          super_count.sizes sc.1 supers.sizes in
          let at_back = back_sum _ _ _ _ _ _ _ _ _ _ _ _ _ interface_count.sizes ic.1 interfaces.sizes field_count.sizes
          fc.1 fields.sizes count.sizes mc.sizes methods.sizes in
          subst (λ (x : ExportClass). ClassRead before (length bytes) x) is.0 (record {
            fits = record {
              token = small;
              own_token = own_so;
              flags = fl.0;
              name = n.0;
              own_name = n.2;
              counts = record {
                listed = subst (λ (x : ℕ). x < 2 ^ 16) (sym s.0) sc.0;
                interfaces = subst (λ (x : ℕ). x < 2 ^ 8) (sym i.0) ic.0;
                fields = subst (λ (x : ℕ). x < 2 ^ 16) (sym f.0) fc.0;
                methods = subst (λ (x : ℕ). x < 2 ^ 16) counted_so mc.small;
              };
              listed = s.1;
              supers = refl;
              interfaces = i.1;
              fields = f.1;
              count = subst (λ (x : ℕ). method_count (is_interface flags.x) x ≡ Some (length methods.x)) counted_so
                  (mc.is ∙ ap Some as_many);
              methods = subst (λ (x : ℕ). EachAfter (MethodStands (is_interface flags.x) x) [] methods.x) as_many m.1;
            };
            needed = class_needed made n.1 s.2 i.2 f.2 m.2;
            sizes = whole_sum _ _ _ _ _ _ _ _ _ _ _ (class_size made) s.3 i.3 f.3 m.3 at_back at_front;
          }))))))))))))

-- ---- the package

record PackageFound (pool : List Entry) (p : Package) : Type 0 where
  name : IsText p.name
  named_so : Has (meanings pool (length p.aid) pool) (text p.name)
  itself : Has (meanings pool (length p.aid) pool) this
  aid : aid_length (length p.aid) ≡ Some (length p.aid)
  major : p.major < 2 ^ 8
  minor : p.minor < 2 ^ 8

package_entry : (pool : List Entry) → AllByRecursion EntryFits pool → (i : ℕ) (x : Entry) (p : Package)
    → slice_get pool i ≡ Some x → package_of pool x ≡ Some p → PackageFound pool p
package_entry pool fit i (entries.package_info library name minor major aid) p is f =
    let made = option_mapped (package_named library minor major aid) (text_at pool name.to) p f in
    let fits = all_at EntryFits pool i (entries.package_info library name minor major aid) fit is in
    let t = text_here pool (length aid) fit name.to made.0 made.1 in
    let mine : (length aid == length aid) ≡ true = (Decides-eqb (length aid) (length aid)).1 refl in
    let found = there pool (length aid) pool i (entries.package_info library name minor major aid) this is
    (ap (λ (b : Bool). cond b (this ∷ []) []) mine) in
    subst (λ (q : Package). PackageFound pool q) made.2 (record {
      name = t.0;
      named_so = t.1;
      itself = found;
      aid = fits.2;
      major = fits.1;
      minor = fits.0;
    })
  where
    package_named : Bool → ℕ → ℕ → List ℕ → List ℕ → Package
    package_named library minor major aid n = record {
      name = n;
      aid = aid;
      major = major;
      minor = minor;
      library = library;
    }
package_entry pool fit i (entries.text a) p is f = absurd cc
package_entry pool fit i (entries.integer a) p is f = absurd cc
package_entry pool fit i (entries.class a) p is f = absurd cc

package_found : (pool : List Entry) → AllByRecursion EntryFits pool → (at : ℕ) (p : Package) (bytes : List ℕ)
    → InBytes bytes → Spells (package_field pool) at p bytes → PackageFound pool p × (length bytes ≡ 2)
unfolding package_field package_at
package_found pool fit at p bytes ok h =
    let k = number16 (package_at pool) at p bytes ok h in (
      option_and_then_some (package_of pool) (slice_get pool k.n) p k.is (λ x is f. package_entry pool fit k.n x p is
          f),
      k.sizes,
    )

-- ---- the file

record PoolStands (size : ℕ) (pool : List Entry) : Type 0 where
  count : length pool < 2 ^ 16
  fit : AllByRecursion EntryFits pool
  sizes : size ≡ 8 + entry_sizes pool

front_read : (at : ℕ) (pool : List Entry) (bytes : List ℕ) → InBytes bytes → Spells front_part at pool bytes
    → PoolStands (length bytes) pool
unfolding front_part
front_read at pool bytes ok h =
    with_inner _ _ _ _ _ ok h (λ magic.
    with_inner _ _ _ _ _ magic.backs magic.rest (λ minor.
    with_inner _ _ _ _ _ minor.backs minor.rest (λ major.
    with_inner _ _ _ _ _ major.backs major.rest (λ count.
    let c = u2_is _ _ _ count.fronts count.one in
    let r = entries_read count.x _ pool count.back count.backs count.rest in
    record {
      count = subst (λ (n : ℕ). n < 2 ^ 16) (sym r.0) c.0;
      fit = r.1;
      sizes = sum _ _ _ _ _ _ _ _ _ _ magic.sizes (number32 _ _ _ _ magic.fronts magic.one).sizes minor.sizes
          (number8 _ _ _ _ minor.fronts minor.one).sizes major.sizes (number8 _ _ _ _ major.fronts major.one).sizes
          count.sizes c.1 r.2;
    }))))
  where
    sum : (all four a one b other c two d e : ℕ) → all ≡ four + a → four ≡ 4 → a ≡ one + b → one ≡ 1 → b ≡ other + c
        → other ≡ 1 → c ≡ two + d → two ≡ 2 → d ≡ e → all ≡ 8 + e
    sum all four a one b other c two d e p q r t u v w x y = omega arith

ones : (cs : List Constant) → total one_each cs ≡ length cs
ones [] = refl
ones (c ∷ cs) = let rest : total one_each cs ≡ length cs = ones cs in omega arith

constant_size : (t : ExportTree) (pool : List Constant) (c : Constant) → length (constant_bytes t pool c)
    ≡ size_of (length t.aid) c
unfolding constant_bytes package_bytes
constant_size t pool (text bytes) = omega arith
constant_size t pool (integer n) = omega arith
constant_size t pool (class name) = omega arith
constant_size t pool this = omega arith

constants_size : (t : ExportTree) (pool cs : List Constant) → length (flat_map (constant_bytes t pool) cs)
    ≡ total (size_of (length t.aid)) cs
constants_size t pool [] = refl
constants_size t pool (c ∷ cs) = length-append (constant_bytes t pool c) (flat_map (constant_bytes t pool) cs)
    ∙ both _ _ _ _ (constant_size t pool c) (constants_size t pool cs)
  where
    both : (a b c d : ℕ) → a ≡ b → c ≡ d → a + c ≡ b + d
    both a b c d p q = omega arith

file_size : (cs : List Constant) (t : ExportTree) → length (bytes_over cs t)
    ≡ 11 + (length (flat_map (constant_bytes t cs) cs) + length (flat_map (class_bytes cs) t.classes))
unfolding bytes_over head_bytes
file_size cs t =
    let pool = length-append (flat_map (constant_bytes t cs) cs) (index_bytes cs this
    ++ (to_be_bytes w8 (length t.classes) ++ flat_map (class_bytes cs) t.classes)) in
    omega arith

record TreeRead (size : ℕ) (t : ExportTree) : Type 0 where
  writable : IsWritable t
  sizes : length (written t) ≤ size

-- where each constant that the tree needs stands in the pool
tree_stands : (t : ExportTree) (pool : List Entry) (all front classes : ℕ) → PoolStands front pool
    → IsText t.name → aid_length (length t.aid) ≡ Some (length t.aid) → t.major < 2 ^ 8 → t.minor < 2 ^ 8
    → length t.classes < 2 ^ 8 → EachAfter ClassFits [] t.classes
    → Has (meanings pool (length t.aid) pool) (text t.name) → Has (meanings pool (length t.aid) pool) this
    → AllByRecursion (Has (meanings pool (length t.aid) pool)) (flat_map class_tree_needs t.classes)
    → length (flat_map (class_bytes (constants t)) t.classes) ≤ classes → front + (2 + (1 + classes)) ≤ all
    → TreeRead all t
unfolding needs written meanings
tree_stands t pool all front classes p name aid major minor count fits named_so itself needed class_sizes enough =
    let found : AllByRecursion (Has (meanings pool (length t.aid) pool)) (needs t) = (named_so, (itself, needed)) in
    let few = worth_at_most one_each (meanings pool (length t.aid) pool) (needs t) found in
    let small = worth_at_most (size_of (length t.aid)) (meanings pool (length t.aid) pool) (needs t) found in
    record {
      writable = record {
        name = name;
        aid = aid;
        major = major;
        minor = minor;
        count = count;
        classes = fits;
        constants = below _ _ _ _ (ones (constants t)) few (meant_ones pool (length t.aid) pool) p.count;
      };
      sizes = sum _ _ _ _ _ _ _ _ _ (file_size (constants t) t) (constants_size t (constants t) (constants t)) small
          (meant_sizes pool (length t.aid) pool) p.sizes class_sizes enough;
    }
  where
    below : (a b c d : ℕ) → a ≡ b → a ≤ c → c ≤ d → d < 2 ^ 16 → b < 2 ^ 16
    below a b c d p q r t = omega arith

    sum : (out pool_bytes w m es front own room all : ℕ) → out ≡ 11 + (pool_bytes + own) → pool_bytes ≡ w → w ≤ m
        → m ≤ es → front ≡ 8 + es → own ≤ room → front + (2 + (1 + room)) ≤ all → out ≤ all
    sum out pool_bytes w m es front own room all p q r t u v x = omega arith

tree_read : (t : ExportTree) (bytes : List ℕ) → InBytes bytes → FileSpells export_file t bytes
    → TreeRead (length bytes) t
unfolding export_file
tree_read t bytes ok h =
    with_inner _ _ _ _ _ ok h (λ pool.
    with_inner _ _ _ _ _ pool.backs pool.rest (λ tests.
    with_inner _ _ _ _ _ tests.backs tests.rest (λ described.
    with_inner _ _ _ _ _ described.backs described.rest (λ count.
    with_inner _ _ _ _ _ count.backs count.rest (λ classes.
    let p = front_read _ pool.x pool.front pool.fronts pool.one in
    let found = package_found pool.x p.fit _ described.x described.front described.fronts described.one in
    let c = u1_is _ _ _ count.fronts count.one in
    let is = given _ _ _ _ classes.rest in
    let made : ExportTree = record {
      name = described.x.name;
      aid = described.x.aid;
      major = described.x.major;
      minor = described.x.minor;
      library = described.x.library;
      classes = classes.x;
    } in
    let mine : ℕ = length described.x.aid in
    let cs : List Constant = constants made in
    let all =
    all_items pool.x mine p.fit cs ClassFits class_tree_needs (class_bytes cs) count.x classes.x (length classes.front)
    (items_read pool.x mine p.fit cs (class_tree pool.x) ClassFits class_tree_needs (class_bytes cs)
    (λ before place x b in_bytes g. let r = class_read pool.x mine p.fit cs before place x b in_bytes g
    in (r.fits, r.needed, r.sizes)) count.x [] _ classes.x classes.front
    classes.fronts classes.one) in
    let enough = sum _ _ _ _ _ _ _ _ _ _ _ pool.sizes tests.sizes described.sizes found.1 count.sizes c.1 classes.sizes
    in
    subst (λ (x : ExportTree). TreeRead (length bytes) x) is.0
    (tree_stands made pool.x (length bytes) (length pool.front) (length classes.front) p found.0.name found.0.aid
    found.0.major found.0.minor (subst (λ (n : ℕ). n < 2 ^ 8) (sym all.0) c.0) all.1 found.0.named_so found.0.itself
    all.2 all.3 enough))))))
  where
    sum : (all front a none b two c one d classes e : ℕ) → all ≡ front + a → a ≡ none + b → b ≡ two + c → two ≡ 2
        → c ≡ one + d → one ≡ 1 → d ≡ classes + e → front + (2 + (1 + classes)) ≤ all
    sum all front a none b two c one d classes e p q r t u v w = omega arith

in_bytes : (bytes : List ℕ) → AreBytes bytes → InBytes bytes
in_bytes bytes h = recursion_from_All (λ b. b < 256) bytes h

pub IsWritable-spelt : (t : ExportTree) (bytes : List ℕ) → AreBytes bytes → FileSpells export_file t bytes
    → IsWritable t
IsWritable-spelt t bytes ok h = (tree_read t bytes (in_bytes bytes ok) h).writable

pub length-written : (t : ExportTree) (bytes : List ℕ) → AreBytes bytes → FileSpells export_file t bytes
    → length (written t) ≤ length bytes
length-written t bytes ok h = (tree_read t bytes (in_bytes bytes ok) h).sizes

-- the bytes of a slice
pub AreBytes-slice : (bytes : List ℕ) → ((i : ℕ) → get_or bytes i 0 < 256) → AreBytes bytes
AreBytes-slice bytes h = All-from_get_or (λ b. b < 256) bytes 0 (λ i lt. h i)
