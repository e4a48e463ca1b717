-- What the tests of the form find is all that can be found.
use Rattle.std.proofs.Common.{IfNone, subst, append-nil, ◌≡◌, ℕ, ◌+◌, ◌≤◌, take, drop, ◌<◌, List, [], ◌∷◌, ◌++◌, Option, Some, None, Result, Ok, Err, IfSome, get_or, length, refl, sym, ap, ◌∙◌, arith}
use Rattle.std.proofs.lemmas.List.{length-append, length-replicate, take-append-drop, take_at, drop_at}
use Rattle.cjc_classfile.specs.Code.{CodeTree}
use Rattle.cjc_classfile.specs.declared.tree.ClassTree.{ClassTree}
use Rattle.cjc_classfile.specs.declared.tree.MethodTree.{MethodTree}
use Rattle.cjc_bytes.specs.declared.breaks.BrokenAt.{BrokenAt}
use Rattle.cjc_code.specs.declared.insn.JInsn.{JInsn}
use Rattle.cjc_code.specs.Decoded.{decoding}
use Rattle.cjc_code.specs.declared.method_code.MethodCode.{MethodCode}
use Rattle.cjc_code.specs.PackageCodes.{code_with, where_code, of_methods, all_codes, first_insns}
use Rattle.cjc_first.specs.FirstForm.{PackageLine, IsFirstForm, IsSumCode, IsSumMethod, shorts}
use Rattle.cjc_first.specs.Tests.{HasPlainFrame, HasSum, IsSlashPart, IsInside, HasPlainClass, IsFormWith}

pub length-shorts : (n : ℕ) → length (shorts n) ≡ n + 3
length-shorts n = simp (length-append, length-replicate) (omega arith)

-- a descriptor has one number of parameters
pub shorts_once : (m n : ℕ) (desc : List ℕ) → desc ≡ shorts m → desc ≡ shorts n → m ≡ n
shorts_once m n desc a b = omega (arith, length-shorts m, length-shorts n, ap length (sym a ∙ b))

pub method_of : (m n : ℕ) (method : MethodTree) (code other : CodeTree) (insns : List JInsn) → IsSumMethod m method code insns → method.desc ≡ shorts n → method.code ≡ Some other → IsSumCode n other insns
method_of m n method code other insns h d e =
    let params : m ≡ n = shorts_once m n method.desc h.desc d in
    let same : code ≡ other = let a = h.has_code in cc in
    rw (← params, ← same) h.is_sum

-- a name is cut behind the package's
pub inside_to : (owner class front back : List ℕ) → front ≡ take (length owner) class → back ≡ drop (length owner) class → front ≡ owner → IsSlashPart back → IsInside owner class
inside_to owner class front back f b is (part, e, p) = record {
  part = part;
  name = sym (take-append-drop (length owner) class) ∙ ap (λ xs. xs ++ drop (length owner) class) (sym f ∙ is) ∙ ap (λ xs. owner ++ xs) (sym b ∙ e);
  is_part = p;
}

pub inside_front : (owner class front : List ℕ) → front ≡ take (length owner) class → IsInside owner class → front ≡ owner
inside_front owner class front f h = f ∙ ap (take (length owner)) h.name ∙ take_at owner (47 ∷ h.part) (length owner) refl

pub inside_back : (owner class back : List ℕ) → back ≡ drop (length owner) class → IsInside owner class → IsSlashPart back
inside_back owner class back b h = (h.part, b ∙ ap (drop (length owner)) h.name ∙ drop_at owner (47 ∷ h.part) (length owner) refl, h.is_part)

pub inside_long : (owner class : List ℕ) → IsInside owner class → length owner ≤ length class
inside_long owner class h = omega (arith, ap length h.name, length-append owner (47 ∷ h.part))

pub form_with : (line : PackageLine) (tree : ClassTree) (method : MethodTree) (params : ℕ) (code : CodeTree) (insns : List JInsn)
    → HasPlainClass line.name tree → tree.methods ≡ method ∷ [] → decoding tree method code ≡ Ok insns → IsSumMethod params method code insns → IsFormWith line tree params insns
form_with line tree method params code insns plain methods decoded sum = record {
  form = record {
    short_name = plain.short_name;
    major = plain.head.major;
    pool = plain.head.pool;
    flags = plain.head.flags;
    superclass = plain.head.superclass;
    interfaces = plain.alone.interfaces;
    fields = plain.alone.fields;
    part = plain.inside.part;
    name = plain.inside.name;
    name_length = plain.name_length;
    is_part = plain.inside.is_part;
    method = method;
    methods = methods;
    code = code;
    insns = insns;
    are_decoded = decoded;
    params = params;
    is_sum = sum;
  };
  params_are = refl;
  insns_are = refl;
}

pub plain_of : (line : PackageLine) (tree : ClassTree) → IsFirstForm line tree → HasPlainClass line.name tree
plain_of line tree form = record {
  short_name = form.short_name;
  name_length = form.name_length;
  head = record { major = form.major; pool = form.pool; flags = form.flags; superclass = form.superclass };
  alone = record { interfaces = form.interfaces; fields = form.fields };
  inside = record { part = form.part; name = form.name; is_part = form.is_part };
}

-- a list of one item
pub one_item : {A : Type 0} (xs : List A) (x : A) → 1 ≤ length xs → length xs < 2 → x ≡ get_or xs 0 x → xs ≡ x ∷ []
one_item [] x some few is = absurd (omega arith)
one_item (y ∷ []) x some few is = ap (λ z. z ∷ []) (sym is)
one_item (y ∷ z ∷ rest) x some few is = absurd (omega arith)

-- a code of the form is a plain frame and such instructions
pub sum_code : (params : ℕ) (code : CodeTree) (insns : List JInsn) → HasPlainFrame params code → HasSum params code.max_stack insns → IsSumCode params code insns
sum_code params code insns f s = record {
  length = f.length;
  is_sum = s.is_sum;
  some_stack = f.some_stack;
  stack_for_two = s.stack_for_two;
  stack = f.stack;
  params_fit = f.params_fit;
  locals = f.locals;
  size = s.size;
  catches = f.catches;
}

pub sum_of : (params : ℕ) (code : CodeTree) (insns : List JInsn) → IsSumCode params code insns → HasSum params code.max_stack insns
sum_of params code insns h = record { is_sum = h.is_sum; stack_for_two = h.stack_for_two; size = h.size }

-- ---- the instructions of the one method

-- where they are there, they are those that the code is decoded into
one_decoded : (tree : ClassTree) (m : MethodTree) (code : CodeTree) (x : MethodCode) (r : Result (List JInsn) BrokenAt) → decoding tree m code ≡ r → x ∷ [] ≡ code_with 0 0 r → decoding tree m code ≡ Ok x.insns
one_decoded tree m code x (Ok insns) is e = let same : insns ≡ x.insns = (let f : record { class = 0; method = 0; insns = insns } ≡ x = cc in ap (λ (c : MethodCode). c.insns) f) in is ∙ ap Ok same
one_decoded tree m code x (Err broken) is e = absurd cc

pub one_code : (tree : ClassTree) (m : MethodTree) (code : CodeTree) → tree.methods ≡ m ∷ [] → m.code ≡ Some code → all_codes (tree ∷ []) ≡ code_with 0 0 (decoding tree m code)
one_code tree m code methods has =
    ap (λ ms. of_methods code_with 0 0 tree ms ++ []) methods
    ∙ ap (λ c. (where_code (code_with 0 0) tree m c ++ []) ++ []) has
    ∙ append-nil (code_with 0 0 (decoding tree m code) ++ [])
    ∙ append-nil (code_with 0 0 (decoding tree m code))

pub form_found : (line : PackageLine) (tree : ClassTree) (method : MethodTree) (x : MethodCode) (codes : List MethodCode) (result : Option ℕ)
    → HasPlainClass line.name tree → tree.methods ≡ method ∷ [] → codes ≡ all_codes (tree ∷ []) → codes ≡ x ∷ [] → IfSome result (λ params. (code : CodeTree) × IsSumMethod params method code x.insns)
    → IfSome result (λ params. IsFormWith line tree params (first_insns codes))
form_found line tree method x codes None plain methods all one h = tt
form_found line tree method x codes (Some params) plain methods all one (code, sum) =
    let is : x ∷ [] ≡ code_with 0 0 (decoding tree method code) = sym one ∙ all ∙ one_code tree method code methods sum.has_code in
    rw one (form_with line tree method params code x.insns plain methods (one_decoded tree method code x (decoding tree method code) refl is) sum)

-- a form has its one code
pub form_codes : (line : PackageLine) (tree : ClassTree) (codes : List MethodCode) (form : IsFirstForm line tree) → codes ≡ all_codes (tree ∷ []) → codes ≡ record { class = 0; method = 0; insns = form.insns } ∷ []
form_codes line tree codes form all = all ∙ one_code tree form.method form.code form.methods form.is_sum.has_code ∙ ap (code_with 0 0) form.are_decoded

pub form_none : (line : PackageLine) (tree : ClassTree) (method : MethodTree) (x : MethodCode) (codes : List MethodCode) (result : Option ℕ)
    → tree.methods ≡ method ∷ [] → codes ≡ all_codes (tree ∷ []) → codes ≡ x ∷ [] → IfNone result ((params : ℕ) (code : CodeTree) → IsSumMethod params method code x.insns → ⊥)
    → IfNone result (IsFirstForm line tree → ⊥)
form_none line tree method x codes (Some params) methods all one h = tt
form_none line tree method x codes None methods all one h = λ form.
    let same : form.method ≡ method = (let e = form.methods in cc) in
    let both = sym (form_codes line tree codes form all) ∙ one in
    let item : record { class = 0; method = 0; insns = form.insns } ≡ x = cc in
    let insns : form.insns ≡ x.insns = ap (λ (c : MethodCode). c.insns) item in
    h form.params form.code (subst (λ (is : List JInsn). IsSumMethod form.params method form.code is) insns (subst (λ (m : MethodTree). IsSumMethod form.params m form.code form.insns) same form.is_sum))
