-- How many words descriptors take that don't name int, and how long the descriptors of a class file are.
use Rattle.std.proofs.Common.{◌≡◌, ℕ, ◌+◌, ◌<◌, ◌≤◌, ◌^◌, refl, sym, ap, subst, ◌∙◌, inl, inr, arith, Bool, true, false}
use Rattle.std.proofs.Common.{◌&&◌, List, [], ◌∷◌, ◌++◌, map, length, slice_get, Option, Some, None}
use Rattle.std.specs.Prelude.{option_and_then, if◌then◌else◌}
use Rattle.std.specs.List.{list_any}
use Rattle.std.proofs.lemmas.Bool.{lt-ltb}
use Rattle.std.proofs.lemmas.Option.{slice_get-map}
use Rattle.cjc_bytes.specs.Descriptor.{Part, Parts}
use Rattle.cjc_bytes.specs.Spots.{desc_of}
use Rattle.cjc_bytes.specs.declared.fault.MemberId.{MemberId}
use Rattle.cjc_bytes.specs.declared.descriptor.Kind.{Kind}
use Rattle.cjc_bytes.proofs.Gets.{all_at}
use Rattle.cjc_bytes.proofs.Options.{option_mapped}
use Rattle.cjc_bytes.proofs.Bools.{or_left, or_right}
use Rattle.cjc_bytes.specs.declared.descriptor.Kind.TheVariants as kinds
use Rattle.cjc_code.specs.ClassFile.Code.{CodeTree}
use Rattle.cjc_code.specs.ClassFile.declared.tree.ClassTree.{ClassTree}
use Rattle.cjc_code.specs.ClassFile.declared.tree.MethodTree.{MethodTree}
use Rattle.cjc_code.specs.declared.insn.JInsn.{JInsn}
use Rattle.cjc_code.specs.declared.insn.JOp.TheVariants as jop
use Rattle.cjc_code.specs.declared.method_code.MethodCode.{MethodCode}
use Rattle.cjc_code.specs.Cut.{cut}
use Rattle.cjc_code.specs.Named.{op_of}
use Rattle.cjc_code.specs.Rules.{with_names}
use Rattle.cjc_code.specs.Unfit.{params_of}
use Rattle.cjc_code.proofs.OneCut.{is_cut}
use Rattle.cjc_script.specs.Sorts.{Shape, Signature, reference_to, result_by, shape_named, signature_by, signature_of}
use Rattle.cjc_script.specs.Sorts.{sort_by, sort_of}
use Rattle.cjc_card_semantics.specs.Bytecode.Arguments.{width, widths}
use Rattle.cjc_world.specs.Files.{Files}
use Rattle.cjc_narrow.specs.Rows.Resolved.{parameter_words}
use Rattle.cjc_ncode.specs.Written.{nargs_of, words_by}
use Rattle.cjc_vtable.specs.LowerSubset.Types.{is_any_int, is_int, is_int_desc, is_int_name, is_int_part}
use Rattle.cjc_types.specs.Names.{In}
use Rattle.cjc_types.specs.Tables.{IsMethodOf}
use Rattle.cjc_types.specs.Types.{no_parts, parts, parts_or_none}
use Rattle.cjc_types.proofs.TypeLaws.Rows.{IsOpNamed, row_named}
use Rattle.cjc_types.proofs.TypeLaws.Shapes.{cut_row}
use Rattle.cjc_types.proofs.TypeLaws.Spelt.{IsClassNamed, IsMethodNamed, size, spelt_texts}
use Rattle.cjc_narrow_proof.specs.Selected.Keeps.{IsSpelt}
use Rattle.cjc_narrow_proof.proofs.SelectedLaws.Cuts.{decoded}

-- ---- words

reference_word : (shape : Option (Shape (List ℕ))) → width (reference_to shape) ≡ 1
reference_word None = refl
reference_word (Some shape) = refl

part_word : (kind : Kind) (class : List ℕ) → is_int kind ≡ false → width (sort_by kind class) ≡ 1
part_word kinds.Bool class e = refl
part_word kinds.Byte class e = refl
part_word kinds.Short class e = refl
part_word kinds.Int class e = cc
part_word kinds.Other class e = refl
part_word kinds.Ref class e = reference_word (shape_named class)
part_word kinds.Void class e = refl

words_low : (params more : List Part) → list_any is_int_part (params ++ more) ≡ false
    → widths (map sort_of params) ≤ length params
words_low [] more e = omega arith
words_low (p ∷ params) more e =
    let here = or_left (is_int_part p) (list_any is_int_part (params ++ more)) e in
    let one = part_word p.kind p.class (or_left (is_int p.kind) (is_int_name p.class) here) in
    let rest = words_low params more (or_right (is_int_part p) (list_any is_int_part (params ++ more)) e) in
    omega (arith, one, rest)

signed_low : (d : Parts) → list_any is_int_part (d.params ++ d.result ∷ []) ≡ false
    → parameter_words (signature_by d) ≤ length d.params
signed_low d e = go d.is_method
  where
    go : (b : Bool) → parameter_words (if b then Some (record {
      params = map sort_of d.params;
      result = (let r = d.result in result_by r.kind r);
    }) else None) ≤ length d.params
    go true = words_low d.params (d.result ∷ []) e
    go false = omega arith

parameters_low : (found : Option Parts) → is_any_int found ≡ false
    → parameter_words (option_and_then signature_by found) ≤ params_of found
parameters_low None e = omega arith
parameters_low (Some d) e = signed_low d e

short_one : (desc : List ℕ) → length desc < 2 ^ 32 → is_int_desc desc ≡ false → is_any_int (desc_of desc) ≡ false
unfolding is_int_desc
short_one desc short e = ap (λ b. b && is_any_int (desc_of desc)) (sym (lt-ltb (length desc) (2 ^ 32) short)) ∙ e

-- no more words than parameters
pub words_few : (desc : List ℕ) → length desc < 2 ^ 32 → is_int_desc desc ≡ false
    → parameter_words (signature_of desc) ≤ params_of (desc_of desc)
words_few desc short e = parameters_low (desc_of desc) (short_one desc short e)

counted_params : (found : Option Parts) → length (parts_or_none found).params ≡ params_of found
counted_params None = refl
counted_params (Some d) = refl

pub params_counted : (desc : List ℕ) → length desc < 2 ^ 32 → length (parts desc).params ≡ params_of (desc_of desc)
unfolding parts
params_counted desc short =
    ap (λ b. length (if b then parts_or_none (desc_of desc) else no_parts).params) (lt-ltb (length desc) (2 ^ 32) short)
    ∙ counted_params (desc_of desc)

pub nargs_are : (m : MemberId) → nargs_of m ≡ 1 + parameter_words (signature_of m.desc)
nargs_are m = by (signature_of m.desc)
  where
    by : (types : Option Signature) → words_by types ≡ 1 + parameter_words types
    by None = refl
    by (Some types) = refl

-- ---- lengths

in_size : (t : List ℕ) (ts : List (List ℕ)) → In t ts → length t ≤ size ts
unfolding size
in_size t [] h = absurd h
in_size t (u ∷ ts) h = elim h [
  | inl same ↦ (let e = ap length same in omega (arith, e))
  | inr later ↦ (let le = in_size t ts later in omega (arith, le))
]

in_size_or : (t : List ℕ) (ts : List (List ℕ)) → In t ([] ∷ ts) → length t ≤ size ts
in_size_or t ts h = elim h [
  | inl same ↦ (let e = ap length same in omega (arith, e))
  | inr later ↦ in_size t ts later
]

module _ (files : Files) (code : MethodCode) (class : ClassTree) (method : MethodTree) (tree : CodeTree)
    (is : IsMethodOf files code class method tree) (bytes : List ℕ) (spelt : IsSpelt class bytes) where
  pub desc_short : length method.desc < 2 ^ 32
  desc_short =
      let found = spelt_texts class bytes spelt.in_bytes spelt.spelt in
      let own = all_at (IsMethodNamed found.texts) class.methods code.method method found.named.methods is.is_method in
      let le = in_size method.desc found.texts own.desc in
      let small = found.few in
      let short = spelt.short in
      omega (arith, le, small, short)

  op_named : (ts : List (List ℕ)) → IsClassNamed ts class → (place : ℕ) (i : JInsn) → slice_get code.insns place
      ≡ Some i → IsOpNamed ([] ∷ ts) i.op
  op_named ts named place i e =
      let are = (decoded files code class method tree is).insns_are in
      let there = slice_get-map (with_names class.pool) (cut tree.bytes).insns place in
      let raw = option_mapped (with_names class.pool) (slice_get (cut tree.bytes).insns place) i (sym there
      ∙ ap (λ (xs : List JInsn). slice_get xs place) (sym are) ∙ e) in
      let m = cut_row place 0 tree.bytes (cut tree.bytes).insns (cut tree.bytes).stop (is_cut tree.bytes) raw.0 raw.1 in
      let named_so = row_named ts m.0 class.pool raw.0.at raw.0.opcode raw.0.numbers (λ x there. named.items _ x there)
      in
      subst (λ (j : JInsn). IsOpNamed ([] ∷ ts) j.op) raw.2
      (subst (λ f. IsOpNamed ([] ∷ ts) (op_of class.pool raw.0.at raw.0.opcode f raw.0.numbers)) (sym m.1) named_so)

  pub call_short : (k opcode : ℕ) (i : JInsn) (m : MemberId) → slice_get code.insns k ≡ Some i
      → i.op ≡ jop.Call opcode m → length m.desc < 2 ^ 32
  call_short k opcode i m e kind =
      let found = spelt_texts class bytes spelt.in_bytes spelt.spelt in
      let named : In m.desc ([] ∷ found.texts) = subst (IsOpNamed ([] ∷ found.texts)) kind
      (op_named found.texts found.named k i e) in
      let le = in_size_or m.desc found.texts named in
      let small = found.few in
      let short = spelt.short in
      omega (arith, le, small, short)
