-- The fields of an exported class can stand in an export file.
use Rattle.std.proofs.Common.{◌≡◌, ℕ, suc, ◌+◌, ◌<◌, ◌≤◌, ◌^◌, refl, sym, ap, subst, ◌∙◌, Bool, true, false, List, []}
use Rattle.std.proofs.Common.{◌∷◌, ◌++◌, length, take, append_assoc, append-nil, arith, Option, Some, None}
use Rattle.std.specs.Prelude.{slice_get, unwrap_or, not, ◌==◌, ◌&&◌, ◌||◌, count_by, is_none, is_some, IfSome}
use Rattle.std.specs.Prelude.{FitsSigned, if◌then◌else◌, ℤ}
use Rattle.std.specs.List.{list_any}
use Rattle.std.specs.Int.{w32}
use Rattle.std.proofs.lemmas.List.{length-append, take_all}
use Rattle.std.proofs.lemmas.Option.{slice_get_within, get_or_from_slice_get}
use Rattle.std.proofs.lemmas.Bool.Decides.{nat_tests}
use Rattle.cjc_world.specs.Bytes.AccessFlags.{is_static}
use Rattle.cjc_world.specs.ClassFile.declared.tree.FieldTree.{FieldTree}
use Rattle.cjc_world.specs.ExportFile.declared.tree.ExportField.{ExportField}
use Rattle.cjc_world.specs.ExportFile.Members.{field_token_taken, may_be_constant, same_bool}
use Rattle.cjc_world.specs.ExportFile.Writable.{EachAfter, FieldFits, ValueFits}
use Rattle.cjc_world.specs.Classes.{Class}
use Rattle.cjc_world.specs.Lookup.{member_at}
use Rattle.cjc_components.specs.LowerTokens.Fields.{field_token, instance_cells, instance_token, is_constant}
use Rattle.cjc_components.specs.LowerTokens.Fields.{is_instance}
use Rattle.cjc_components.specs.LowerTokens.Fields.{is_open_static}
use Rattle.cjc_components.specs.LowerTokens.Members.{is_exposed}
use Rattle.cjc_components.specs.LowerTokens.Rules.{HasFewCells}
use Rattle.cjc_components.specs.Package.{Package}
use Rattle.cjc_components.specs.ExportFile.{field_entry, fields_from}
use Rattle.cjc_components.specs.Names.{member_token}
use Rattle.cjc_exported.specs.Exportable.{FieldIsRead, IsExportable}
use Rattle.cjc_exported.proofs.ExportLaws.Own.{IsOwn}
use Rattle.cjc_exported.proofs.ExportLaws.Tokens.{counted, few_statics, field_has, low_instance, other_instance}
use Rattle.cjc_world.proofs.BytesGets.{in_front}

-- ---- a field's token by its kind

abbrev token_of : Bool → Bool → (instance_one static_one : ℕ) → ℕ
token_of instance opened i s = if instance then i else if opened then s else 0xFF

told : (fs : List FieldTree) (k : ℕ) (f : FieldTree) → unwrap_or (field_token true fs k f) 0xFF
    ≡ token_of (is_instance f) (is_open_static f) (instance_token fs k f) (count_by is_open_static (take k fs))
unfolding field_token
told fs k f = by (is_instance f) (is_open_static f)
  where
    by : (a b : Bool) → unwrap_or (if a then Some (instance_token fs k f) else if (true && b)
        then Some (count_by is_open_static (take k fs)) else None) 0xFF ≡ token_of a b (instance_token fs k f)
        (count_by is_open_static (take k fs))
    by true b = refl
    by false true = refl
    by false false = refl

module _ (p : Package) (h : IsExportable p) (c : Class) (own : IsOwn p c) where
  abbrev fs : List FieldTree
  fs = let t = own.tree in t.fields

  cells_few : instance_cells fs ≤ 255
  cells_few =
      let files = p.files in
      let within = slice_get_within files.classes own.number own.tree own.is_tree in
      subst HasFewCells (get_or_from_slice_get files.classes own.number own.tree own.tree own.is_tree)
      (h.cells own.number own.tree within)

  statics_few : count_by is_open_static fs ≤ 255
  statics_few = few_statics p c own h.tokens

  token : (k : ℕ) (f : FieldTree) → slice_get fs k ≡ Some f → member_token p (Some (member_at c k))
      ≡ token_of (is_instance f) (is_open_static f) (instance_token fs k f) (count_by is_open_static (take k fs))
  token k f at = field_has p c own k f at ∙ told fs k f

  static_low : (k : ℕ) (f : FieldTree) → slice_get fs k ≡ Some f → is_open_static f ≡ true
      → count_by is_open_static (take k fs) + 1 ≤ 255
  static_low k f at is =
      let less = counted is_open_static fs k (length fs) f (slice_get_within fs k f at) at is in
      let all : count_by is_open_static (take (length fs) fs) ≡ count_by is_open_static fs =
      ap (count_by is_open_static) (take_all (length fs) fs (omega arith)) in
      let few = statics_few in
      omega (arith, less, all, few)

  token_low : (k : ℕ) (f : FieldTree) → slice_get fs k ≡ Some f → member_token p (Some (member_at c k)) < 2 ^ 8
  token_low k f at = subst (λ n. n < 2 ^ 8) (sym (token k f at)) (by (is_instance f) refl (is_open_static f) refl)
    where
      by : (a : Bool) → is_instance f ≡ a → (b : Bool) → is_open_static f ≡ b
          → token_of a b (instance_token fs k f) (count_by is_open_static (take k fs)) < 2 ^ 8
      by true e b g = let low = low_instance fs k f at e in let few = cells_few in omega (arith, low, few)
      by false e true g = let low = static_low k f at g in omega (arith, low)
      by false e false g = omega arith

  -- ---- a field by itself

  abbrev value : FieldTree → Option ℤ
  value f = if is_constant f then f.constant else None

  -- a constant has no token
  constant_token : (k : ℕ) (f : FieldTree) → slice_get fs k ≡ Some f → is_constant f ≡ true
      → member_token p (Some (member_at c k)) ≡ 0xFF
  constant_token k f at e = token k f at ∙ ap (λ a. token_of a (is_open_static f) (instance_token fs k f)
      (count_by is_open_static (take k fs))) (never (is_static f.flags) _ _ _ e)
      ∙ ap (λ b. token_of false b (instance_token fs k f) (count_by is_open_static (take k fs))) closed
    where
      never : (a b d g : Bool) → (a && b && d && g) ≡ true → not a ≡ false
      never true b d g e = refl
      never false b d g e = cc

      closed : is_open_static f ≡ false
      closed = ap (λ b. is_static f.flags && is_exposed f.flags && not b) e
          ∙ off (is_static f.flags) (is_exposed f.flags)
        where
          off : (a b : Bool) → (a && b && false) ≡ false
          off true true = refl
          off true false = refl
          off false b = refl

  value_fits : (k : ℕ) (f : FieldTree) → slice_get fs k ≡ Some f → FieldIsRead f
      → ValueFits (field_entry p c k f) (value f)
  value_fits k f at read = by (is_constant f) refl f.constant refl
    where
      first : (a b : Bool) → (a && b) ≡ true → a ≡ true
      first true b e = refl
      first false b e = cc

      by : (b : Bool) → is_constant f ≡ b → (o : Option ℤ) → f.constant ≡ o → ValueFits (field_entry p c k f) (if b
          then o else None)
      by true e None g = tt
      by true e (Some v) g = (
        subst (λ (x : Option ℤ). IfSome x (FitsSigned w32)) g read.constant,
        first (may_be_constant f.flags f.desc) (is_some f.constant) e,
        constant_token k f at e,
      )
      by false e o g = tt

  -- ---- fields apart

  -- the test of a field against one that stands before it
  abbrev takes : (flags token : ℕ) → ExportField → Bool
  takes flags token g = (g.token == token) && same_bool (is_static flags) (is_static g.flags) && is_none g.constant

  entry_takes : (j k : ℕ) (g f : FieldTree) → j < k → slice_get fs j ≡ Some g → slice_get fs k ≡ Some f
      → is_exposed g.flags ≡ true → is_exposed f.flags ≡ true → is_constant f ≡ false
      → takes f.flags (member_token p (Some (member_at c k))) (field_entry p c j g) ≡ false
  entry_takes j k g f lt gat fat gx fx plain = by (is_constant g) refl
    where
      -- another number
      numbers : (m n : ℕ) → (m ≡ n → ⊥) → (b d : Bool) → ((m == n) && b && d) ≡ false
      numbers m n ne b d = off (m == n) refl
        where
          off : (t : Bool) → (m == n) ≡ t → (t && b && d) ≡ false
          off true e = absurd (ne (grind (arith, nat_tests)))
          off false e = refl

      kinds : (t d : Bool) → (t && false && d) ≡ false
      kinds true d = refl
      kinds false d = refl

      open_one : (x : FieldTree) → is_static x.flags ≡ true → is_exposed x.flags ≡ true → is_constant x ≡ false
          → is_open_static x ≡ true
      open_one x s e n = ap (λ a. a && is_exposed x.flags && not (is_constant x)) s
          ∙ ap (λ a. a && not (is_constant x)) e ∙ ap not n

      both : (a b : Bool) → is_static f.flags ≡ a → is_static g.flags ≡ b → is_constant g ≡ false
          → ((member_token p (Some (member_at c j)) == member_token p (Some (member_at c k))) && same_bool a b
          && is_none (value g)) ≡ false
      both true false e d n = kinds (member_token p (Some (member_at c j)) == member_token p (Some (member_at c k)))
          (is_none (value g))
      both false true e d n = kinds (member_token p (Some (member_at c j)) == member_token p (Some (member_at c k)))
          (is_none (value g))
      both true true e d n =
          let go = open_one g d gx n in
          let fo = open_one f e fx plain in
          let gt : member_token p (Some (member_at c j)) ≡ count_by is_open_static (take j fs) = token j g gat
          ∙ ap (λ a. token_of (not a) (is_open_static g) (instance_token fs j g) (count_by is_open_static
          (take j fs))) d ∙ ap (λ a. token_of false a (instance_token fs j g) (count_by is_open_static (take j fs)))
          go in
          let ft : member_token p (Some (member_at c k)) ≡ count_by is_open_static (take k fs) = token k f fat
          ∙ ap (λ a. token_of (not a) (is_open_static f) (instance_token fs k f) (count_by is_open_static
          (take k fs))) e ∙ ap (λ a. token_of false a (instance_token fs k f) (count_by is_open_static (take k fs)))
          fo in
          let less = counted is_open_static fs j k g lt gat go in
          numbers (member_token p (Some (member_at c j))) (member_token p (Some (member_at c k))) (λ same. omega (
            arith,
            same,
            gt,
            ft,
            less,
          )) true (is_none (value g))
      both false false e d n =
          let gi : is_instance g ≡ true = ap not d in
          let fi : is_instance f ≡ true = ap not e in
          let gt : member_token p (Some (member_at c j)) ≡ instance_token fs j g = token j g gat
          ∙ ap (λ a. token_of a (is_open_static g) (instance_token fs j g) (count_by is_open_static (take j fs))) gi
          in
          let ft : member_token p (Some (member_at c k)) ≡ instance_token fs k f = token k f fat
          ∙ ap (λ a. token_of a (is_open_static f) (instance_token fs k f) (count_by is_open_static (take k fs))) fi
          in
          numbers (member_token p (Some (member_at c j))) (member_token p (Some (member_at c k)))
          (λ same. other_instance fs j k g f lt gat fat gi fi (sym gt ∙ same ∙ ft)) true (is_none (value g))

      last : (a b : Bool) → (a && b && false) ≡ false
      last true true = refl
      last true false = refl
      last false b = refl

      by : (b : Bool) → is_constant g ≡ b
          → ((member_token p (Some (member_at c j)) == member_token p (Some (member_at c k)))
          && same_bool (is_static f.flags) (is_static g.flags) && is_none (if b then g.constant else None)) ≡ false
      by true e =
          let valued : is_some g.constant ≡ true = second (may_be_constant g.flags g.desc) (is_some g.constant) e in
          ap (λ x. (member_token p (Some (member_at c j)) == member_token p (Some (member_at c k)))
          && same_bool (is_static f.flags) (is_static g.flags) && x) (none_not g.constant valued)
          ∙ last (member_token p (Some (member_at c j)) == member_token p (Some (member_at c k)))
          (same_bool (is_static f.flags) (is_static g.flags))
        where
          second : (a b : Bool) → (a && b) ≡ true → b ≡ true
          second true b e = e
          second false b e = cc

          none_not : (o : Option ℤ) → is_some o ≡ true → is_none o ≡ false
          none_not None e = cc
          none_not (Some v) e = refl
      by false e = subst (λ (o : Option ℤ). ((member_token p (Some (member_at c j)) ==
          member_token p (Some (member_at c k))) && same_bool (is_static f.flags) (is_static g.flags) && is_none o)
          ≡ false) (ap (λ b. if b then g.constant else None) e) (both (is_static f.flags) (is_static g.flags) refl refl
          e)

  -- ---- all

  push : (i : ℕ) (pre : List FieldTree) (f : FieldTree) → fields_from p c i (pre ++ f ∷ []) ≡ fields_from p c i pre
      ++ ((if is_exposed f.flags then field_entry p c (i + length pre) f ∷ [] else []) ++ [])
  push i [] f = let z : i ≡ i + 0 = omega arith in ap (λ n. (if is_exposed f.flags then field_entry p c n f ∷ []
      else []) ++ []) z
  push i (g ∷ pre) f =
      let s : i + 1 + length pre ≡ i + suc (length pre) = omega arith in
      ap (λ xs. (if is_exposed g.flags then field_entry p c i g ∷ [] else []) ++ xs) (push (i + 1) pre f
      ∙ ap (λ n. fields_from p c (i + 1) pre ++ ((if is_exposed f.flags then field_entry p c n f ∷ [] else [])
      ++ [])) s)
      ∙ sym (append_assoc (if is_exposed g.flags then field_entry p c i g ∷ [] else []) (fields_from p c (i + 1) pre)
      ((if is_exposed f.flags then field_entry p c (i + suc (length pre)) f ∷ [] else []) ++ []))

  none_in : (q : ExportField → Bool) (i : ℕ) (pre : List FieldTree) → ((j : ℕ) (g : FieldTree)
      → slice_get pre j ≡ Some g → is_exposed g.flags ≡ true → q (field_entry p c (i + j) g) ≡ false)
      → list_any q (fields_from p c i pre) ≡ false
  none_in q i [] all = refl
  none_in q i (g ∷ pre) all =
      let z : i + 0 ≡ i = omega arith in
      let rest = none_in q (i + 1) pre (λ j x at e. (let s : i + 1 + j ≡ i + suc j = omega arith
      in ap (λ n. q (field_entry p c n x)) s ∙ all (suc j) x at e)) in
      by (is_exposed g.flags) (λ e. ap (λ n. q (field_entry p c n g)) (sym z) ∙ all 0 g refl e) rest
    where
      by : (b : Bool) → (b ≡ true → q (field_entry p c i g) ≡ false) → list_any q (fields_from p c (i + 1) pre) ≡ false
          → list_any q ((if b then field_entry p c i g ∷ [] else []) ++ fields_from p c (i + 1) pre) ≡ false
      by true one rest = ap (λ t. t || list_any q (fields_from p c (i + 1) pre)) (one refl) ∙ rest
      by false one rest = rest

  apart : (pre rest : List FieldTree) (f : FieldTree) → pre ++ f ∷ rest ≡ fs → slice_get fs (length pre) ≡ Some f
      → is_exposed f.flags ≡ true
      → (field_token_taken (fields_from p c 0 pre) f.flags (member_token p (Some (member_at c (length pre))))
      && is_none (value f)) ≡ false
  apart pre rest f same at x = by (is_constant f) refl
    where
      by : (b : Bool) → is_constant f ≡ b
          → (field_token_taken (fields_from p c 0 pre) f.flags (member_token p (Some (member_at c (length pre))))
          && is_none (if b then f.constant else None)) ≡ false
      by true e = off (field_token_taken (fields_from p c 0 pre) f.flags
          (member_token p (Some (member_at c (length pre))))) f.constant (second (may_be_constant f.flags f.desc)
          (is_some f.constant) e)
        where
          second : (a b : Bool) → (a && b) ≡ true → b ≡ true
          second true b e = e
          second false b e = cc

          off : (a : Bool) (o : Option ℤ) → is_some o ≡ true → (a && is_none o) ≡ false
          off a None e = cc
          off true (Some v) e = refl
          off false (Some v) e = refl
      by false e =
          ap (λ a. a && true) (none_in (takes f.flags (member_token p (Some (member_at c (length pre))))) 0 pre
          (λ j g gat gx. (let z : 0 + j ≡ j = omega arith in
          let there : slice_get fs j ≡ Some g = ap (λ xs. slice_get xs j) (sym same) ∙ in_front pre (f ∷ rest) j g gat
          in
          ap (λ n. takes f.flags (member_token p (Some (member_at c (length pre)))) (field_entry p c n g)) z
          ∙ entry_takes j (length pre) g f (slice_get_within pre j g gat) there at gx x e)))

  here : (pre rest : List FieldTree) (f : FieldTree) → pre ++ f ∷ rest ≡ fs → slice_get fs (length pre) ≡ Some f
  here pre rest f same = ap (λ xs. slice_get xs (length pre)) (sym same) ∙ behind pre
    where
      behind : (xs : List FieldTree) → slice_get (xs ++ f ∷ rest) (length xs) ≡ Some f
      behind [] = refl
      behind (x ∷ xs) = behind xs

  fits : (pre rest : List FieldTree) (f : FieldTree) → pre ++ f ∷ rest ≡ fs → is_exposed f.flags ≡ true
      → FieldFits (fields_from p c 0 pre) (field_entry p c (length pre) f)
  fits pre rest f same x =
      let at = here pre rest f same in
      let class = h.classes own.number own.tree own.is_tree in
      let read = class.fields (length pre) f at in
      record {
        token = token_low (length pre) f at;
        flags = read.flags;
        name = read.name;
        desc = read.desc;
        is_desc = read.is_desc;
        value = value_fits (length pre) f at read;
        apart = apart pre rest f same at x;
      }

  from : (pre rest : List FieldTree) → pre ++ rest ≡ fs
      → EachAfter FieldFits (fields_from p c 0 pre) (fields_from p c (length pre) rest)
  from pre [] same = tt
  from pre (f ∷ rest) same =
      let joined : (pre ++ f ∷ []) ++ rest ≡ fs = append_assoc pre (f ∷ []) rest ∙ same in
      let long : length (pre ++ f ∷ []) ≡ length pre + 1 = length-append pre (f ∷ []) in
      let more = subst (λ n. EachAfter FieldFits (fields_from p c 0 (pre ++ f ∷ [])) (fields_from p c n rest)) long
      (from (pre ++ f ∷ []) rest joined) in
      let z : 0 + length pre ≡ length pre = omega arith in
      let grown = push 0 pre f ∙ ap (λ n. fields_from p c 0 pre ++ ((if is_exposed f.flags then field_entry p c n f ∷ []
      else []) ++ [])) z in
      by (is_exposed f.flags) (λ e. fits pre rest f same e) (subst (λ (xs : List ExportField). EachAfter FieldFits xs
      (fields_from p c (length pre + 1) rest)) grown more)
    where
      by : (b : Bool) → (b ≡ true → FieldFits (fields_from p c 0 pre) (field_entry p c (length pre) f))
          → EachAfter FieldFits (fields_from p c 0 pre ++ ((if b then field_entry p c (length pre) f ∷ [] else [])
          ++ [])) (fields_from p c (length pre + 1) rest)
          → EachAfter FieldFits (fields_from p c 0 pre) ((if b then field_entry p c (length pre) f ∷ [] else [])
          ++ fields_from p c (length pre + 1) rest)
      by true one more = (one refl, more)
      by false one more = subst (λ (xs : List ExportField). EachAfter FieldFits xs (fields_from p c (length pre + 1)
          rest)) (append-nil (fields_from p c 0 pre)) more

  pub fields_fit : EachAfter FieldFits [] (fields_from p c 0 fs)
  fields_fit = from [] fs refl
