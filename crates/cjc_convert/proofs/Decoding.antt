-- Decoding the methods of a class, one after the other.
use Rattle.std.proofs.Common.{◌≡◌, ℕ, suc, ◌+◌, ◌<◌, ◌≤◌, ◌⊎◌, ⊎_elim, true, false, List, [], ◌∷◌, ◌++◌, Option, Some, None, is_some, Bool, Result, Ok, Err, inl, inr, length, take, get_or, refl, sym, ap, subst, ◌∙◌, append_assoc, append-nil, add-zero, arith}
use Rattle.std.specs.Prelude.{slice_get, IfSome}
use Rattle.std.proofs.lemmas.Bool.{cases_lt}
use Rattle.std.proofs.lemmas.List.{take_all, length-take-le}
use Rattle.std.proofs.lemmas.Option.{slice_get_past}
use borrow.Author.Count.{below_more}
use Rattle.cjc_bytes.proofs.Inverse.{all_at}
use Rattle.cjc_bytes.specs.declared.fault.Fault.{Fault}
use Rattle.cjc_bytes.specs.declared.fault.Fault.TheVariants as faults
use Rattle.cjc_bytes.specs.declared.fault.Refusal.{Refusal}
use Rattle.cjc_classfile.specs.Code.{CodeTree}
use Rattle.cjc_classfile.specs.Fits.{MethodFits, CodeFits, ClassFits}
use Rattle.cjc_classfile.specs.declared.tree.MethodTree.{MethodTree}
use Rattle.cjc_classfile.specs.declared.tree.ClassTree.{ClassTree}
use Rattle.cjc_code.specs.declared.decoding.Broken.{Broken}
use Rattle.cjc_code.specs.Cut.{cut}
use Rattle.cjc_code.specs.Decoded.{HasCode, least, unless_unfit, unless_foreign, decoding, of_code, of_method, decoding_at, refusal_of}
use Rattle.cjc_code.specs.Named.{all_named}
use Rattle.cjc_code.specs.Unfit.{unfit_code}
use Rattle.cjc_code.specs.declared.insn.JInsn.{JInsn}
use Rattle.cjc_code.specs.declared.method_code.MethodCode.{MethodCode}
use Rattle.cjc_convert.specs.Codes.{code_with, code_where, codes_of_methods}
use Rattle.cjc_convert.specs.Rules.{CodeBreaks}
use Rattle.cjc_convert.proofs.Lists.{item_at, front_more}
use Rattle.cjc_convert.specs.Trees.{BreaksBy, ForeignIn, earlier, DecodesMethod, DecodesClass}

-- ---- one method

foreign_rule : (found : Result (List JInsn) ℕ) (b : Broken) → unless_foreign found ≡ Err b → b.rule ≡ 303
foreign_rule (Ok insns) b e = absurd cc
foreign_rule (Err k) b e = let is : record { rule = 303; offset = k } ≡ b = cc in sym (ap (λ (x : Broken). x.rule) is)

unfit_rule : (o : Option ℕ) (found : Result (List JInsn) ℕ) (b : Broken) → unless_unfit o (unless_foreign found) ≡ Err b → (b.rule ≡ 103) ⊎ (b.rule ≡ 303)
unfit_rule (Some k) found b e = let is : record { rule = 103; offset = k } ≡ b = cc in inl (sym (ap (λ (x : Broken). x.rule) is))
unfit_rule None found b e = inr (foreign_rule found b e)

code_rule : (tree : ClassTree) (m : MethodTree) (o : Option CodeTree) (b : Broken) → of_code tree m o ≡ Err b → (b.rule ≡ 103) ⊎ (b.rule ≡ 303)
unfolding decoding
code_rule tree m None b e = absurd cc
code_rule tree m (Some code) b e = unfit_rule (least (unfit_code tree m code)) (all_named tree.pool (cut code.bytes).insns) b e

method_rule : (tree : ClassTree) (o : Option MethodTree) (b : Broken) → of_method tree o ≡ Err b → (b.rule ≡ 103) ⊎ (b.rule ≡ 303)
method_rule tree None b e = absurd cc
method_rule tree (Some m) b e = code_rule tree m m.code b e

-- what decode answered, as a refusal by its rule
breaks_by : (file : List ℕ) (tree : ClassTree) (k rule : ℕ) (r : Refusal) (b : Broken) → decoding_at tree k ≡ Err b → b.rule ≡ rule → faults.Refused r ≡ faults.Refused (refusal_of file tree k b) → BreaksBy file tree k rule r
breaks_by file tree k rule r b is same e =
    let whole : b ≡ record { rule = rule; offset = b.offset } = ap (λ n. let x : Broken = record { rule = n; offset = b.offset } in x) same in
    let refusal : r ≡ refusal_of file tree k b = cc in
    (b.offset, is ∙ ap Err whole, refusal ∙ ap (refusal_of file tree k) whole)

pub found_by : (file : List ℕ) (tree : ClassTree) (k : ℕ) (r : Refusal) → (faults.Refused r ≡ faults.NoMemory) ⊎ ((b : Broken) × (decoding_at tree k ≡ Err b) × (faults.Refused r ≡ faults.Refused (refusal_of file tree k b)))
    → BreaksBy file tree k 103 r ⊎ BreaksBy file tree k 303 r
found_by file tree k r (inl memory) = absurd cc
found_by file tree k r (inr (b, is, e)) = elim (method_rule tree (slice_get tree.methods k) b is) [
  | inl same ↦ inl (breaks_by file tree k 103 r b is same e)
  | inr same ↦ inr (breaks_by file tree k 303 r b is same e)
]

rule_of : (file : List ℕ) (tree : ClassTree) (k rule : ℕ) (r : Refusal) → BreaksBy file tree k rule r → r.rule.0 ≡ rule
rule_of file tree k rule r (offset, breaks, is) = ap (λ (x : Refusal). x.rule.0) is

pub unfit_by : (file : List ℕ) (tree : ClassTree) (k : ℕ) (r : Refusal) → (r.rule.0 ≡ 303 → ⊥) → BreaksBy file tree k 103 r ⊎ BreaksBy file tree k 303 r → BreaksBy file tree k 103 r
unfit_by file tree k r not (inl by) = by
unfit_by file tree k r not (inr by) = absurd (not (rule_of file tree k 303 r by))

pub foreign_by : (file : List ℕ) (tree : ClassTree) (k : ℕ) (r : Refusal) → r.rule.0 ≡ 303 → BreaksBy file tree k 103 r ⊎ BreaksBy file tree k 303 r → BreaksBy file tree k 303 r
foreign_by file tree k r is (inl by) = absurd (let e : 303 ≡ 103 = sym is ∙ rule_of file tree k 103 r by in omega arith)
foreign_by file tree k r is (inr by) = by

-- ---- a method at its place

some_fits : (o : Option CodeTree) (code : CodeTree) → IfSome o CodeFits → o ≡ Some code → CodeFits code
some_fits None code h e = absurd cc
some_fits (Some c) code h e = let same : c ≡ code = cc in subst CodeFits same h

pub has_code : (tree : ClassTree) (k : ℕ) (m : MethodTree) (code : CodeTree) → ClassFits tree → slice_get tree.methods k ≡ Some m → m.code ≡ Some code → HasCode tree k
has_code tree k m code fits is has =
    let method = all_at MethodFits tree.methods k m fits.methods is in
    let short = some_fits m.code code method.code has in
    let desc : length m.desc ≤ 65535 = method.desc in
    record { method = m; code = code; there = is; has = has; bytes = short.bytes; desc = omega arith }

codes_more : (class n : ℕ) (tree : ClassTree) (ms : List MethodTree) (m : MethodTree) → codes_of_methods class n tree (ms ++ m ∷ []) ≡ codes_of_methods class n tree ms ++ code_where class (n + length ms) tree m m.code
codes_more class n tree [] m = append-nil (code_where class n tree m m.code) ∙ ap (λ k. code_where class k tree m m.code) (sym (add-zero n))
codes_more class n tree (x ∷ xs) m =
    ap (λ cs. code_where class n tree x x.code ++ cs) (codes_more class (n + 1) tree xs m)
    ∙ sym (append_assoc (code_where class n tree x x.code) (codes_of_methods class (n + 1) tree xs) (code_where class (n + 1 + length xs) tree m m.code))
    ∙ ap (λ k. (code_where class n tree x x.code ++ codes_of_methods class (n + 1) tree xs) ++ code_where class k tree m m.code) (let e : n + 1 + length xs ≡ n + suc (length xs) = omega arith in e)

pub some_code : {A : Type 0} (b : Bool) (o : Option A) → b ≡ is_some o → b ≡ true → (a : A) × (o ≡ Some a)
some_code b None e f = absurd (let g : false ≡ true = sym e ∙ f in cc)
some_code b (Some a) e f = (a, refl)

pub no_code : {A : Type 0} (b : Bool) (o : Option A) → b ≡ is_some o → b ≡ false → o ≡ None
no_code b None e f = refl
no_code b (Some a) e f = absurd (let g : true ≡ false = sym e ∙ f in cc)

-- ---- the methods so far

-- The codes and the refusal are those of the first so many methods, none of which breaks rule 103.
pub record MethodsRead (file : List ℕ) (class : ℕ) (tree : ClassTree) (old new : List MethodCode) (bound : ℕ) (unsupported : Option Refusal) : Type 0 where
  pub codes : new ≡ old ++ codes_of_methods class 0 tree (take bound tree.methods)
  pub foreign : ForeignIn file tree bound unsupported
  pub fine : (k : ℕ) → k < bound → (offset : ℕ) → CodeBreaks tree k 103 offset → ⊥

pub none_read : (file : List ℕ) (class : ℕ) (tree : ClassTree) (old : List MethodCode) → MethodsRead file class tree old old 0 None
none_read file class tree old = record {
  codes = sym (append-nil old);
  foreign = λ k offset lt breaks. absurd (omega arith);
  fine = λ k lt offset breaks. absurd (omega arith);
}

pub all_read : (file : List ℕ) (class : ℕ) (tree : ClassTree) (items : List MethodTree) (old new : List MethodCode) (bound : ℕ) (u : Option Refusal) → items ≡ tree.methods → length items ≤ bound → bound ≤ length items
    → MethodsRead file class tree old new bound u → DecodesClass file class tree old new (Ok u)
all_read file class tree items old new bound u is below above r =
    let low : length tree.methods ≤ bound = omega (arith, ap length is) in
    let same : bound ≡ length tree.methods = omega (arith, ap length is) in (
      r.codes ∙ ap (λ ms. old ++ codes_of_methods class 0 tree ms) (take_all bound tree.methods low),
      subst (λ n. ForeignIn file tree n u) same r.foreign,
      λ k offset breaks. ⊎_elim (λ below. r.fine k (omega arith) offset breaks) (λ beyond. past tree k offset (omega arith) breaks) (cases_lt k (length tree.methods)),
    )
  where
    past_is : (tree : ClassTree) (o : Option MethodTree) (b : Broken) → o ≡ None → of_method tree o ≡ Err b → ⊥
    past_is tree None b e f = absurd cc
    past_is tree (Some m) b e f = absurd cc

    past : (tree : ClassTree) (k offset : ℕ) → length tree.methods ≤ k → CodeBreaks tree k 103 offset → ⊥
    past tree k offset le breaks = past_is tree (slice_get tree.methods k) _ (slice_get_past tree.methods k le) breaks

-- The method stands at this place of its class.
pub record Stands (tree : ClassTree) (k : ℕ) (m : MethodTree) : Type 0 where
  pub is : slice_get tree.methods k ≡ Some m
  pub front : take (k + 1) tree.methods ≡ take k tree.methods ++ m ∷ []
  pub size : length (take k tree.methods) ≡ k

pub stands : (tree : ClassTree) (items : List MethodTree) (k : ℕ) (m : MethodTree) → items ≡ tree.methods → k < length items → m ≡ get_or items k m → Stands tree k m
stands tree items k m same lt is =
    let low : k < length tree.methods = omega (arith, ap length same) in
    let at : m ≡ get_or tree.methods k m = is ∙ ap (λ ms. get_or ms k m) same in
    record { is = item_at tree.methods k m low at; front = front_more tree.methods k m low at; size = length-take-le k tree.methods (omega arith) }

module _ (file : List ℕ) (class : ℕ) (tree : ClassTree) (k : ℕ) (m : MethodTree) (here : Stands tree k m) where
  -- the codes with those of one method more
  put : (old mid new more : List MethodCode) → mid ≡ old ++ codes_of_methods class 0 tree (take k tree.methods) → new ≡ mid ++ more → code_where class k tree m m.code ≡ more
      → new ≡ old ++ codes_of_methods class 0 tree (take (k + 1) tree.methods)
  put old mid new more codes e own =
      let cs = codes_of_methods class 0 tree (take k tree.methods) in
      let at : 0 + length (take k tree.methods) ≡ k = omega (arith, here.size) in
      let whole : codes_of_methods class 0 tree (take (k + 1) tree.methods) ≡ cs ++ more =
      ap (codes_of_methods class 0 tree) here.front ∙ codes_more class 0 tree (take k tree.methods) m ∙ ap (λ n. cs ++ code_where class n tree m m.code) at ∙ ap (λ c. cs ++ c) own in
      e ∙ ap (λ c. c ++ more) codes ∙ append_assoc old cs more ∙ ap (λ c. old ++ c) (sym whole)

  -- what its code is, by what decoding it gives
  decoded_is : (code : CodeTree) (r : Result (List JInsn) Broken) → m.code ≡ Some code → decoding_at tree k ≡ r → code_where class k tree m m.code ≡ code_with class k r
  decoded_is code r has e =
      let at : decoding tree m code ≡ r = sym (ap (of_method tree) here.is ∙ ap (of_code tree m) has) ∙ e in
      ap (code_where class k tree m) has ∙ ap (code_with class k) at

  fine_more : (old new : List MethodCode) (u : Option Refusal) → MethodsRead file class tree old new k u → ((offset : ℕ) → CodeBreaks tree k 103 offset → ⊥) → (j : ℕ) → j < k + 1 → (offset : ℕ) → CodeBreaks tree j 103 offset → ⊥
  fine_more old new u r last = below_more (λ j. (offset : ℕ) → CodeBreaks tree j 103 offset → ⊥) k r.fine last

  same_broken : (a b : Broken) → decoding_at tree k ≡ Err a → decoding_at tree k ≡ Err b → a ≡ b
  same_broken a b e f = let g = sym e ∙ f in cc

  -- a method that decodes breaks nothing
  no_break : (r : List JInsn) (rule offset : ℕ) → decoding_at tree k ≡ Ok r → CodeBreaks tree k rule offset → ⊥
  no_break r rule offset e f = let g = sym e ∙ f in absurd cc

  -- without code there are no instructions
  pub step_abstract : (old new : List MethodCode) (u : Option Refusal) → m.code ≡ None → MethodsRead file class tree old new k u → MethodsRead file class tree old new (k + 1) u
  step_abstract old new u none r =
      let at : decoding_at tree k ≡ Ok [] = ap (of_method tree) here.is ∙ ap (of_code tree m) none in
      record {
        codes = put old new new [] r.codes (sym (append-nil new)) (ap (code_where class k tree m) none);
        foreign = kept u r.foreign at;
        fine = fine_more old new u r (λ offset. no_break [] 103 offset at);
      }
    where
      kept : (u : Option Refusal) → ForeignIn file tree k u → decoding_at tree k ≡ Ok [] → ForeignIn file tree (k + 1) u
      kept (Some x) f at = f
      kept None f at = λ j offset lt. below_more (λ j. (offset : ℕ) → CodeBreaks tree j 303 offset → ⊥) k (λ i le o. f i o le) (λ o. no_break [] 303 o at) j lt offset

  pub step_code : (code : CodeTree) (old mid new : List MethodCode) (u v : Option Refusal) → m.code ≡ Some code → MethodsRead file class tree old mid k u → DecodesMethod file class tree k mid new (Ok v)
      → MethodsRead file class tree old new (k + 1) (earlier u v)
  step_code code old mid new u None has r (insns, e, now) = record {
    codes = put old mid new (record { class = class; method = k; insns = insns } ∷ []) r.codes now (decoded_is code (Ok insns) has e);
    foreign = kept u r.foreign;
    fine = fine_more old mid u r (λ offset. no_break insns 103 offset e);
  }
    where
      kept : (u : Option Refusal) → ForeignIn file tree k u → ForeignIn file tree (k + 1) (earlier u None)
      kept (Some x) f = f
      kept None f = λ j offset lt. below_more (λ j. (offset : ℕ) → CodeBreaks tree j 303 offset → ⊥) k (λ i le o. f i o le) (λ o. no_break insns 303 o e) j lt offset
  step_code code old mid new u (Some x) has r (now, by) = record {
    codes = put old mid new [] r.codes (now ∙ sym (append-nil mid)) (decoded_is code (Err _) has by.1);
    foreign = kept u r.foreign;
    fine = fine_more old mid u r (λ offset breaks. let same = same_broken _ _ by.1 breaks in let rules : 303 ≡ 103 = ap (λ (b : Broken). b.rule) same in omega arith);
  }
    where
      kept : (u : Option Refusal) → ForeignIn file tree k u → ForeignIn file tree (k + 1) (earlier u (Some x))
      kept (Some y) f = f
      kept None f = record { method = k; breaks = by; first = λ j other lt breaks. f j other lt breaks }

-- the first method that breaks rule 103 stops the reading
pub first_unfit : (file : List ℕ) (class : ℕ) (tree : ClassTree) (old new mid : List MethodCode) (k : ℕ) (u : Option Refusal) (e : Fault) → MethodsRead file class tree old mid k u
    → DecodesMethod file class tree k mid new (Err e) → DecodesClass file class tree old new (Err e)
first_unfit file class tree old new mid k u (faults.Refused r) read by = record { method = k; breaks = by; first = λ j other lt breaks. read.fine j lt other breaks }
first_unfit file class tree old new mid k u faults.NoMemory read by = tt
