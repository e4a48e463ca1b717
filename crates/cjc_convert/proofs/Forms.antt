-- What the tests of the form find is all that can be found.
use Rattle.std.proofs.Common.{◌≡◌, ℕ, ◌+◌, ◌≤◌, take, drop, ◌<◌, List, [], ◌∷◌, ◌++◌, Option, Some, None, Result, Ok, Err, IfOk, IfSome, get_or, length, refl, sym, ap, ◌∙◌, arith}
use Rattle.std.proofs.lemmas.List.{length-append, length-replicate, take-append-drop, take_at, drop_at}
use Rattle.cjc_bytes.specs.declared.stop.NoMemory.{NoMemory}
use Rattle.cjc_classfile.specs.Code.{CodeTree}
use Rattle.cjc_classfile.specs.declared.tree.ClassTree.{ClassTree}
use Rattle.cjc_classfile.specs.declared.tree.MethodTree.{MethodTree}
use Rattle.cjc_code.specs.declared.insn.JInsn.{JInsn}
use Rattle.cjc_code.specs.Cut.{cut}
use Rattle.cjc_convert.specs.FirstForm.{PackageLine, IsFirstForm, IsSumCode, IsSumMethod, shorts}
use Rattle.cjc_convert.specs.Tests.{HasSum, IsSlashPart, IsInside, HasPlainClass, IsFormWith}

-- the instructions that were cut are those of the form
pub sum_of : (params : ℕ) (code : CodeTree) (insns others : List JInsn) → IsSumCode params code insns → cut code.bytes ≡ Ok others → HasSum params code.max_stack others
sum_of params code insns others h e =
    let same : insns ≡ others = let a = h.are_cut in cc in
    rw (← same) (record { is_sum = h.is_sum; stack_for_two = h.stack_for_two; size = h.size })

pub length-shorts : (n : ℕ) → length (shorts n) ≡ n + 3
length-shorts n = simp (length-append, length-replicate) (omega arith)

-- a descriptor has one number of parameters
pub shorts_once : (m n : ℕ) (desc : List ℕ) → desc ≡ shorts m → desc ≡ shorts n → m ≡ n
shorts_once m n desc a b = omega (arith, length-shorts m, length-shorts n, ap length (sym a ∙ b))

pub method_of : (m n : ℕ) (method : MethodTree) (code other : CodeTree) (insns : List JInsn) → IsSumMethod m method code insns → method.desc ≡ shorts n → method.code ≡ Some other → IsSumCode n other insns
method_of m n method code other insns h d e =
    let params : m ≡ n = shorts_once m n method.desc h.desc d in
    let same : code ≡ other = let a = h.has_code in cc in
    rw (← params, ← same) h.is_sum

-- a name is cut behind the package's
pub inside_to : (owner class front back : List ℕ) → front ≡ take (length owner) class → back ≡ drop (length owner) class → front ≡ owner → IsSlashPart back → IsInside owner class
inside_to owner class front back f b is (part, e, p) = record {
  part = part;
  name = sym (take-append-drop (length owner) class) ∙ ap (λ xs. xs ++ drop (length owner) class) (sym f ∙ is) ∙ ap (λ xs. owner ++ xs) (sym b ∙ e);
  is_part = p;
}

pub inside_front : (owner class front : List ℕ) → front ≡ take (length owner) class → IsInside owner class → front ≡ owner
inside_front owner class front f h = f ∙ ap (take (length owner)) h.name ∙ take_at owner (47 ∷ h.part) (length owner) refl

pub inside_back : (owner class back : List ℕ) → back ≡ drop (length owner) class → IsInside owner class → IsSlashPart back
inside_back owner class back b h = (h.part, b ∙ ap (drop (length owner)) h.name ∙ drop_at owner (47 ∷ h.part) (length owner) refl, h.is_part)

pub inside_long : (owner class : List ℕ) → IsInside owner class → length owner ≤ length class
inside_long owner class h = omega (arith, ap length h.name, length-append owner (47 ∷ h.part))

pub form_with : (line : PackageLine) (tree : ClassTree) (method : MethodTree) (params : ℕ) (code : CodeTree) (insns : List JInsn)
    → HasPlainClass line.name tree → tree.methods ≡ method ∷ [] → IsSumMethod params method code insns → IsFormWith line tree params insns
form_with line tree method params code insns plain methods sum = record {
  form = record {
    short_name = plain.short_name;
    major = plain.head.major;
    pool = plain.head.pool;
    flags = plain.head.flags;
    superclass = plain.head.superclass;
    interfaces = plain.alone.interfaces;
    fields = plain.alone.fields;
    attributes = plain.alone.attributes;
    part = plain.inside.part;
    name = plain.inside.name;
    name_length = plain.name_length;
    is_part = plain.inside.is_part;
    method = method;
    methods = methods;
    code = code;
    insns = insns;
    params = params;
    is_sum = sum;
  };
  params_are = refl;
  insns_are = refl;
}

pub plain_of : (line : PackageLine) (tree : ClassTree) → IsFirstForm line tree → HasPlainClass line.name tree
plain_of line tree form = record {
  short_name = form.short_name;
  name_length = form.name_length;
  head = record { major = form.major; pool = form.pool; flags = form.flags; superclass = form.superclass };
  alone = record { interfaces = form.interfaces; fields = form.fields; attributes = form.attributes };
  inside = record { part = form.part; name = form.name; is_part = form.is_part };
}

-- a list of one item
pub one_item : {A : Type 0} (xs : List A) (x : A) → 1 ≤ length xs → length xs < 2 → x ≡ get_or xs 0 x → xs ≡ x ∷ []
one_item [] x some few is = absurd (omega arith)
one_item (y ∷ []) x some few is = ap (λ z. z ∷ []) (sym is)
one_item (y ∷ z ∷ rest) x some few is = absurd (omega arith)

pub form_found : (line : PackageLine) (tree : ClassTree) (method : MethodTree) (result : Result (Option (ℕ × List JInsn)) NoMemory)
    → HasPlainClass line.name tree → tree.methods ≡ method ∷ [] → IfOk result (λ o. IfSome o (λ f. (code : CodeTree) × IsSumMethod f.0 method code f.1))
    → IfOk result (λ o. IfSome o (λ f. IsFormWith line tree f.0 f.1))
form_found line tree method (Ok None) plain methods h = tt
form_found line tree method (Ok (Some f)) plain methods h = form_with line tree method f.0 h.0 f.1 plain methods h.1
form_found line tree method (Err e) plain methods h = tt
