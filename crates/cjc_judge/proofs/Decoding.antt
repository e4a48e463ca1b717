-- Decoding the methods of a class, one after the other.
use Rattle.std.proofs.Common.{◌≡◌, ℕ, suc, ◌+◌, ◌<◌, ◌≤◌, ◌⊎◌, ⊎_elim, true, false, List, [], ◌∷◌, ◌++◌, Option, Some}
use Rattle.std.proofs.Common.{None, is_some, Bool, Result, Ok, Err, inl, inr, length, take, get_or, refl, sym, ap}
use Rattle.std.proofs.Common.{subst, ◌∙◌, append_assoc, append-nil, add-zero, arith}
use Rattle.std.specs.Prelude.{slice_get, IfSome}
use Rattle.std.proofs.lemmas.Bool.{cases_lt}
use Rattle.std.proofs.lemmas.List.{take_all, length-take-le}
use Rattle.std.proofs.lemmas.Option.{slice_get_past}
use borrow.Author.Count.{below_more}
use Rattle.cjc_bytes.specs.declared.fault.Fault.{Fault}
use Rattle.cjc_bytes.specs.declared.fault.Fault.TheVariants as faults
use Rattle.cjc_bytes.specs.declared.fault.Refusal.{Refusal}
use Rattle.cjc_world.specs.ClassFile.Code.{CodeTree}
use Rattle.cjc_world.specs.ClassFile.Fits.{MethodFits, CodeFits, ClassFits}
use Rattle.cjc_world.specs.ClassFile.declared.tree.MethodTree.{MethodTree}
use Rattle.cjc_world.specs.ClassFile.declared.tree.ClassTree.{ClassTree}
use Rattle.cjc_bytes.specs.declared.breaks.BrokenAt.{BrokenAt}
use Rattle.cjc_bytes.proofs.Gets.{all_at, slice_get_at}
use Rattle.cjc_clinit.specs.Bytecode.Cut.{cut}
use Rattle.cjc_clinit.specs.Bytecode.Decoded.{HasCode, least, unless_unfit, unless_unsupported, decoding, of_code}
use Rattle.cjc_clinit.specs.Bytecode.Decoded.{of_method}
use Rattle.cjc_clinit.specs.Bytecode.Decoded.{decoding_at, refusal_of}
use Rattle.cjc_clinit.specs.Bytecode.Named.{all_named}
use Rattle.cjc_clinit.specs.Bytecode.Unfit.{unfit_code}
use Rattle.cjc_clinit.specs.Bytecode.declared.insn.JInsn.{JInsn}
use Rattle.cjc_clinit.specs.Bytecode.declared.method_code.MethodCode.{MethodCode}
use Rattle.cjc_clinit.specs.Bytecode.PackageCodes.{code_with, where_code, of_methods}
use Rattle.cjc_judge.specs.Codes.{unsupported_with}
use Rattle.cjc_judge.specs.Rules.{CodeBreaks}
use Rattle.cjc_judge.proofs.Items.{front_more}
use Rattle.cjc_judge.specs.Working.Reading.{BreaksBy, DecodesMethod, DecodesClass}
use Rattle.cjc_judge.specs.declared.reading.UnsupportedInsn.{UnsupportedInsn}

-- ---- one method

unsupported_rule : (found : Result (List JInsn) ℕ) (b : BrokenAt) → unless_unsupported found ≡ Err b → b.rule ≡ 303
unsupported_rule (Ok insns) b e = absurd cc
unsupported_rule (Err k) b e = let is : record { rule = 303; offset = k } ≡ b = cc
    in sym (ap (λ (x : BrokenAt). x.rule) is)

unfit_rule : (o : Option ℕ) (found : Result (List JInsn) ℕ) (b : BrokenAt) → unless_unfit o (unless_unsupported found)
    ≡ Err b → (b.rule ≡ 103) ⊎ (b.rule ≡ 303)
unfit_rule (Some k) found b e = let is : record { rule = 103; offset = k } ≡ b = cc
    in inl (sym (ap (λ (x : BrokenAt). x.rule) is))
unfit_rule None found b e = inr (unsupported_rule found b e)

code_rule : (tree : ClassTree) (m : MethodTree) (o : Option CodeTree) (b : BrokenAt) → of_code tree m o ≡ Err b
    → (b.rule ≡ 103) ⊎ (b.rule ≡ 303)
unfolding decoding
code_rule tree m None b e = absurd cc
code_rule tree m (Some code) b e = unfit_rule (least (unfit_code tree m code))
    (all_named tree.pool (cut code.bytes).insns) b e

pub method_rule : (tree : ClassTree) (o : Option MethodTree) (b : BrokenAt) → of_method tree o ≡ Err b → (b.rule ≡ 103)
    ⊎ (b.rule ≡ 303)
method_rule tree None b e = absurd cc
method_rule tree (Some m) b e = code_rule tree m m.code b e

-- a rule that is not 303 is 103
pub unfit_by : (file : List ℕ) (tree : ClassTree) (k : ℕ) (b : BrokenAt) (r : Refusal) → decoding_at tree k ≡ Err b
    → (b.rule ≡ 303 → ⊥) → r ≡ refusal_of file tree k b → BreaksBy file tree k 103 r
unfit_by file tree k b r is not e = elim (method_rule tree (slice_get tree.methods k) b is) [
  | inl same ↦ (
      let whole : b ≡ record { rule = 103; offset = b.offset } = ap (λ n. let x : BrokenAt = record {
        rule = n;
        offset = b.offset;
      } in x) same in
      (b.offset, is ∙ ap Err whole, e ∙ ap (refusal_of file tree k) whole))
  | inr other ↦ absurd (not other)
]

-- ---- a method at its place

some_fits : (o : Option CodeTree) (code : CodeTree) → IfSome o CodeFits → o ≡ Some code → CodeFits code
some_fits None code h e = absurd cc
some_fits (Some c) code h e = let same : c ≡ code = cc in subst CodeFits same h

pub has_code : (tree : ClassTree) (k : ℕ) (m : MethodTree) (code : CodeTree) → ClassFits tree → slice_get tree.methods k
    ≡ Some m → m.code ≡ Some code → HasCode tree k
has_code tree k m code fits is has =
    let method = all_at MethodFits tree.methods k m fits.methods is in
    let short = some_fits m.code code method.code has in
    let desc : length m.desc ≤ 65535 = method.desc in
    record { method = m; code = code; there = is; has = has; bytes = short.bytes; desc = omega arith }

methods_more : {A : Type 0} (f : ℕ → ℕ → Result (List JInsn) BrokenAt → List A) (class n : ℕ) (tree : ClassTree)
    (ms : List MethodTree) (m : MethodTree)
    → of_methods f class n tree (ms ++ m ∷ []) ≡ of_methods f class n tree ms ++ where_code (f class (n + length ms))
    tree m m.code
methods_more f class n tree [] m = append-nil (where_code (f class n) tree m m.code)
    ∙ ap (λ k. where_code (f class k) tree m m.code) (sym (add-zero n))
methods_more f class n tree (x ∷ xs) m =
    ap (λ cs. where_code (f class n) tree x x.code ++ cs) (methods_more f class (n + 1) tree xs m)
    ∙ sym (append_assoc (where_code (f class n) tree x x.code) (of_methods f class (n + 1) tree xs)
    (where_code (f class (n + 1 + length xs)) tree m m.code))
    ∙ ap (λ k. (where_code (f class n) tree x x.code ++ of_methods f class (n + 1) tree xs)
    ++ where_code (f class k) tree m m.code) (let e : n + 1 + length xs ≡ n + suc (length xs) = omega arith in e)

pub some_code : {A : Type 0} (b : Bool) (o : Option A) → b ≡ is_some o → b ≡ true → (a : A) × (o ≡ Some a)
some_code b None e f = absurd (let g : false ≡ true = sym e ∙ f in cc)
some_code b (Some a) e f = (a, refl)

pub no_code : {A : Type 0} (b : Bool) (o : Option A) → b ≡ is_some o → b ≡ false → o ≡ None
no_code b None e f = refl
no_code b (Some a) e f = absurd (let g : true ≡ false = sym e ∙ f in cc)

-- ---- the methods so far

-- The codes and the places by rule 303 are those of the first so many methods, none of which breaks rule 103.
pub record MethodsRead (class : ℕ) (tree : ClassTree) (old new : List MethodCode) (from to : List UnsupportedInsn)
    (bound : ℕ) : Type 0 where
  pub codes : new ≡ old ++ of_methods code_with class 0 tree (take bound tree.methods)
  pub unsupported_insns : to ≡ from ++ of_methods unsupported_with class 0 tree (take bound tree.methods)
  pub fine : (k : ℕ) → k < bound → (offset : ℕ) → CodeBreaks tree k 103 offset → ⊥

pub none_read : (class : ℕ) (tree : ClassTree) (old : List MethodCode) (from : List UnsupportedInsn)
    → MethodsRead class tree old old from from 0
none_read class tree old from = record {
  codes = sym (append-nil old);
  unsupported_insns = sym (append-nil from);
  fine = λ k lt offset breaks. absurd (omega arith);
}

pub all_read : (file : List ℕ) (class : ℕ) (tree : ClassTree) (items : List MethodTree) (old new : List MethodCode)
    (from to : List UnsupportedInsn) (bound : ℕ) → items ≡ tree.methods → length items ≤ bound → bound ≤ length items
    → MethodsRead class tree old new from to bound → DecodesClass file class tree old new from to (Ok tt)
all_read file class tree items old new from to bound is below above r =
    let low : length tree.methods ≤ bound = omega (arith, ap length is) in
    let same : bound ≡ length tree.methods = omega (arith, ap length is) in (
      r.codes ∙ ap (λ ms. old ++ of_methods code_with class 0 tree ms) (take_all bound tree.methods low),
      r.unsupported_insns ∙ ap (λ ms. from ++ of_methods unsupported_with class 0 tree ms) (take_all bound tree.methods
          low),
      λ k offset breaks. ⊎_elim (λ below. r.fine k (omega arith) offset breaks) (λ beyond. past tree k offset
          (omega arith) breaks) (cases_lt k (length tree.methods)),
    )
  where
    past_is : (tree : ClassTree) (o : Option MethodTree) (b : BrokenAt) → o ≡ None → of_method tree o ≡ Err b → ⊥
    past_is tree None b e f = absurd cc
    past_is tree (Some m) b e f = absurd cc

    past : (tree : ClassTree) (k offset : ℕ) → length tree.methods ≤ k → CodeBreaks tree k 103 offset → ⊥
    past tree k offset le breaks = past_is tree (slice_get tree.methods k) _ (slice_get_past tree.methods k le) breaks

-- The method stands at this place of its class.
pub record Stands (tree : ClassTree) (k : ℕ) (m : MethodTree) : Type 0 where
  pub is : slice_get tree.methods k ≡ Some m
  pub front : take (k + 1) tree.methods ≡ take k tree.methods ++ m ∷ []
  pub size : length (take k tree.methods) ≡ k

pub stands : (tree : ClassTree) (items : List MethodTree) (k : ℕ) (m : MethodTree) → items ≡ tree.methods
    → k < length items → m ≡ get_or items k m → Stands tree k m
stands tree items k m same lt is =
    let low : k < length tree.methods = omega (arith, ap length same) in
    let at : m ≡ get_or tree.methods k m = is ∙ ap (λ ms. get_or ms k m) same in
    record {
      is = slice_get_at tree.methods k m low at;
      front = front_more tree.methods k m low at;
      size = length-take-le k tree.methods (omega arith);
    }

module _ (class : ℕ) (tree : ClassTree) (k : ℕ) (m : MethodTree) (here : Stands tree k m) where
  -- what was put of each method, with that of one more
  put : {A : Type 0} (f : ℕ → ℕ → Result (List JInsn) BrokenAt → List A) (old mid new more : List A) → mid ≡ old
      ++ of_methods f class 0 tree (take k tree.methods) → new ≡ mid ++ more → where_code (f class k) tree m m.code
      ≡ more
      → new ≡ old ++ of_methods f class 0 tree (take (k + 1) tree.methods)
  put f old mid new more codes e own =
      let cs = of_methods f class 0 tree (take k tree.methods) in
      let at : 0 + length (take k tree.methods) ≡ k = omega (arith, here.size) in
      let whole : of_methods f class 0 tree (take (k + 1) tree.methods) ≡ cs ++ more =
      ap (of_methods f class 0 tree) here.front ∙ methods_more f class 0 tree (take k tree.methods) m
      ∙ ap (λ n. cs ++ where_code (f class n) tree m m.code) at ∙ ap (λ c. cs ++ c) own in
      e ∙ ap (λ c. c ++ more) codes ∙ append_assoc old cs more ∙ ap (λ c. old ++ c) (sym whole)

  -- by what decoding it gives
  decoded_is : {A : Type 0} (f : ℕ → ℕ → Result (List JInsn) BrokenAt → List A) (code : CodeTree) → m.code ≡ Some code
      → where_code (f class k) tree m m.code ≡ f class k (decoding_at tree k)
  decoded_is f code has = ap (where_code (f class k) tree m) has ∙ ap (f class k) (sym (ap (of_method tree) here.is
      ∙ ap (of_code tree m) has))

  -- without code there are no instructions
  pub step_abstract : (old new : List MethodCode) (from to : List UnsupportedInsn) → m.code ≡ None
      → MethodsRead class tree old new from to k → MethodsRead class tree old new from to (k + 1)
  step_abstract old new from to none r =
      let at : decoding_at tree k ≡ Ok [] = ap (of_method tree) here.is ∙ ap (of_code tree m) none in
      record {
        codes = put code_with old new new [] r.codes (sym (append-nil new)) (ap (where_code (code_with class k) tree m)
            none);
        unsupported_insns = put unsupported_with from to to [] r.unsupported_insns (sym (append-nil to))
            (ap (where_code (unsupported_with class k) tree m) none);
        fine = below_more (λ j. (offset : ℕ) → CodeBreaks tree j 103 offset → ⊥) k r.fine (λ offset e. let g = sym at
            ∙ e in absurd cc);
      }

  pub step_code : (file : List ℕ) (code : CodeTree) (old mid new : List MethodCode) (from way to : List UnsupportedInsn)
      → m.code ≡ Some code → MethodsRead class tree old mid from way k → DecodesMethod file class tree k mid new way to
      (Ok tt)
      → MethodsRead class tree old new from to (k + 1)
  step_code file code old mid new from way to has r did = record {
    codes = put code_with old mid new _ r.codes did.0 (decoded_is code_with code has);
    unsupported_insns = put unsupported_with from way to _ r.unsupported_insns did.1 (decoded_is unsupported_with code
        has);
    fine = below_more (λ j. (offset : ℕ) → CodeBreaks tree j 103 offset → ⊥) k r.fine did.2;
  }

-- the first method that breaks rule 103 stops the reading
pub first_unfit : (file : List ℕ) (class : ℕ) (tree : ClassTree) (old new mid : List MethodCode) (from to way :
    List UnsupportedInsn) (k : ℕ) (e : Fault) → MethodsRead class tree old mid from way k
    → DecodesMethod file class tree k mid new way to (Err e) → DecodesClass file class tree old new from to (Err e)
first_unfit file class tree old new mid from to way k (faults.Refused r) read by = record {
  method = k;
  breaks = by;
  first = λ j other lt breaks. read.fine j lt other breaks;
}
first_unfit file class tree old new mid from to way k faults.NoMemory read by = tt

-- ---- what decoding one method answers

-- it has these instructions
pub decodes : (file : List ℕ) (class : ℕ) (tree : ClassTree) (k : ℕ) (insns : List JInsn) (old new : List MethodCode)
    (from : List UnsupportedInsn) → decoding_at tree k ≡ Ok insns
    → new ≡ old ++ record { class = class; method = k; insns = insns } ∷ []
    → DecodesMethod file class tree k old new from from (Ok tt)
decodes file class tree k insns old new from is put = (
  put ∙ ap (λ r. old ++ code_with class k r) (sym is),
  sym (append-nil from) ∙ ap (λ r. from ++ unsupported_with class k r) (sym is),
  λ offset e. let g = sym is ∙ e in absurd cc,
)

-- it breaks rule 303
pub refuses : (file : List ℕ) (class : ℕ) (tree : ClassTree) (k : ℕ) (r : Refusal) (old : List MethodCode)
    (from to : List UnsupportedInsn) → BreaksBy file tree k 303 r
    → to ≡ from ++ record { class = class; method = k; offset = r.place.offset } ∷ []
    → DecodesMethod file class tree k old old from to (Ok tt)
refuses file class tree k r old from to (offset, is, refused) put = (
  sym (append-nil old) ∙ ap (λ x. old ++ code_with class k x) (sym is),
  put ∙ ap (λ n. let x : UnsupportedInsn = record { class = class; method = k; offset = n } in from
      ++ x ∷ []) (ap (λ (x : Refusal). x.place.offset) refused) ∙ ap (λ x. from ++ unsupported_with class k x) (sym is),
  λ other e. let same : record { rule = 303; offset = offset } ≡ record { rule = 103; offset = other } =
      (let g = sym is ∙ e in cc) in let rules : 303 ≡ 103 = ap (λ (b : BrokenAt). b.rule) same in omega arith,
)
