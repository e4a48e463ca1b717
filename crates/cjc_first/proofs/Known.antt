-- Both machines know the same classes.
use Rattle.std.proofs.Common.{◌≡◌, ℕ, ◌+◌, refl, sym, ap, ◌∙◌, arith, Bool, true, false, List, [], ◌∷◌, ◌++◌, drop}
use Rattle.std.specs.Prelude.{Option, Some, None, ◌==◌, ◌||◌, not, if◌then◌else◌, is_some, codes}
use Rattle.std.specs.List.{list_all}
use Rattle.std.proofs.lemmas.Bool.Decides.{nat_tests}
use Rattle.cjc_bytes.specs.declared.fault.MemberId.{MemberId}
use Rattle.cjc_capread.specs.declared.tree.ClassRef.{ClassRef}
use Rattle.cjc_capread.specs.declared.tree.ClassRef.TheVariants.{Inside, Outside}
use Rattle.cjc_first.specs.TokenMachine.Naming.{ClassName, name_with, name_in, class_name, token_with, found_outside, class_outside, class_with, is_super, is_of, is_plain, is_array}
use Rattle.cjc_code.specs.declared.insn.JInsn.{JInsn}
use Rattle.cjc_export.specs.declared.tree.ExportClass.{ExportClass}
use Rattle.cjc_export.specs.declared.tree.ExportTree.{ExportTree}
use Rattle.cjc_export.specs.Tokens.{has_token, own_tokens, HaveOwnTokens}
use Rattle.cjc_first.specs.NameMachine.Linked.{exported, lists_super, is_subtype, has_class, has_plain_class, is_interface}
use Rattle.cjc_first.specs.Scripts.Names.{same_text, is_among}
use Rattle.cjc_first.proofs.Acts.{KnowAlike, equal_true}
use Rattle.cjc_first.proofs.Codes.{and_true}
use Rattle.cjc_first.proofs.Lists.{get_here, next_here}
use Rattle.cjc_first.proofs.Steps.{text_same}
use Rattle.cjc_first.proofs.Steps

same_number : (n : ℕ) → (n == n) ≡ true
same_number n = grind (arith, nat_tests)

not_true : (b : Bool) → not b ≡ true → b ≡ false
not_true true e = cc
not_true false e = refl

or_left : (a b : Bool) → a ≡ true → (a || b) ≡ true
or_left true b e = refl
or_left false b e = cc

or_right : (a b : Bool) → b ≡ true → (a || b) ≡ true
or_right true b e = refl
or_right false b e = e

-- ---- one tree

token_there : (classes : List ExportClass) (name : List ℕ) (token : ℕ) → token_with classes name ≡ Some token → has_token token classes ≡ true
token_there [] name token e = cc
token_there (c ∷ classes) name token e = by (λ h. token_there classes name token h) (same_text c.name name) e
  where
    by : (token_with classes name ≡ Some token → has_token token classes ≡ true) → (t : Bool) → (if t then Some c.token else token_with classes name) ≡ Some token → (c.token == token || has_token token classes) ≡ true
    by again true e = let is : c.token ≡ token = cc in or_left (c.token == token) (has_token token classes) (ap (λ n. c.token == n) (sym is) ∙ same_number c.token)
    by again false e = or_right (c.token == token) (has_token token classes) (again e)

name_again : (classes : List ExportClass) (name : List ℕ) (token : ℕ) → own_tokens classes ≡ true → token_with classes name ≡ Some token → name_with token classes ≡ name
name_again [] name token own e = cc
name_again (c ∷ classes) name token own e = by (λ o h. name_again classes name token o h) (same_text c.name name) refl e
  where
    by : (own_tokens classes ≡ true → token_with classes name ≡ Some token → name_with token classes ≡ name) → (t : Bool) → same_text c.name name ≡ t → (if t then Some c.token else token_with classes name) ≡ Some token → (if c.token == token then c.name else name_with token classes) ≡ name
    by again true s e =
        let is : c.token ≡ token = cc in
        ap (λ t. if t then c.name else name_with token classes) (ap (λ n. c.token == n) (sym is) ∙ same_number c.token) ∙ text_same c.name name s
    by again false s e = other (c.token == token) refl
      where
        both : (not (has_token c.token classes) ≡ true) × (own_tokens classes ≡ true)
        both = and_true (not (has_token c.token classes)) (own_tokens classes) own

        other : (t : Bool) → (c.token == token) ≡ t → (if t then c.name else name_with token classes) ≡ name
        other false h = again both.1 e
        other true h =
            let is : c.token ≡ token = equal_true c.token token h in
            let no : has_token c.token classes ≡ false = not_true (has_token c.token classes) both.0 in
            let yes : has_token token classes ≡ true = token_there classes name token e in
            let bad : true ≡ false = sym yes ∙ ap (λ n. has_token n classes) (sym is) ∙ no in
            cc

class_there : (classes : List ExportClass) (name : List ℕ) → has_class classes name ≡ is_some (token_with classes name)
class_there [] name = refl
class_there (c ∷ classes) name = by (class_there classes name) (same_text c.name name)
  where
    by : has_class classes name ≡ is_some (token_with classes name) → (t : Bool) → (t || has_class classes name) ≡ is_some (if t then Some c.token else token_with classes name)
    by again true = refl
    by again false = again

-- ---- all trees

has_class-append : (xs ys : List ExportClass) (name : List ℕ) → has_class (xs ++ ys) name ≡ (has_class xs name || has_class ys name)
has_class-append [] ys name = refl
has_class-append (x ∷ xs) ys name = by (has_class-append xs ys name) (same_text x.name name)
  where
    by : has_class (xs ++ ys) name ≡ (has_class xs name || has_class ys name) → (t : Bool) → (t || has_class (xs ++ ys) name) ≡ ((t || has_class xs name) || has_class ys name)
    by again true = refl
    by again false = again

there_outside : (trees : List ExportTree) (n : ℕ) (name : List ℕ) → has_class (exported trees) name ≡ is_some (class_outside n trees name)
there_outside [] n name = refl
there_outside (t ∷ trees) n name =
    has_class-append t.classes (exported trees) name
    ∙ ap (λ b. b || has_class (exported trees) name) (class_there t.classes name)
    ∙ by (there_outside trees (n + 1) name) (token_with t.classes name)
  where
    by : has_class (exported trees) name ≡ is_some (class_outside (n + 1) trees name) → (o : Option ℕ) → (is_some o || has_class (exported trees) name) ≡ is_some (found_outside n o (class_outside (n + 1) trees name))
    by again None = again
    by again (Some token) = refl

named_outside : (classes : List ClassName) (all rest : List ExportTree) (n : ℕ) → drop n all ≡ rest → HaveOwnTokens rest → (name : List ℕ) (r : ClassRef) → class_outside n rest name ≡ Some r → class_name classes all r ≡ name
named_outside classes all [] n d own name r e = cc
named_outside classes all (t ∷ rest) n d own name r e =
    by (λ h. named_outside classes all rest (n + 1) (next_here all n t rest d) both.1 name r h) (token_with t.classes name) refl e
  where
    both : (own_tokens t.classes ≡ true) × HaveOwnTokens rest
    both = and_true (own_tokens t.classes) (list_all (λ t. own_tokens t.classes) rest) own

    by : (class_outside (n + 1) rest name ≡ Some r → class_name classes all r ≡ name) → (o : Option ℕ) → token_with t.classes name ≡ o → found_outside n o (class_outside (n + 1) rest name) ≡ Some r → class_name classes all r ≡ name
    by again None h e = again e
    by again (Some token) h e =
        let is : Outside n token ≡ r = cc in
        ap (class_name classes all) (sym is) ∙ ap (name_in token) (get_here all n t rest d) ∙ name_again t.classes name token both.0 h

plain_there : (classes : List ExportClass) (name : List ℕ) → is_plain classes name ≡ true → has_class classes name ≡ true
plain_there [] name e = cc
plain_there (c ∷ classes) name e = by (λ h. plain_there classes name h) (same_text c.name name) e
  where
    by : (is_plain classes name ≡ true → has_class classes name ≡ true) → (t : Bool) → (if t then not (is_interface c.flags) else is_plain classes name) ≡ true → (t || has_class classes name) ≡ true
    by again true e = refl
    by again false e = again e

same_plain : (classes : List ExportClass) (name : List ℕ) → has_plain_class classes name ≡ is_plain classes name
same_plain [] name = refl
same_plain (c ∷ classes) name = ap (λ b. if same_text c.name name then not (is_interface c.flags) else b) (same_plain classes name)

same_supers : (classes : List ExportClass) (sub sup : List ℕ) → lists_super classes sub sup ≡ is_super classes sub sup
same_supers [] sub sup = refl
same_supers (c ∷ classes) sub sup = ap (λ b. if same_text c.name sub then is_among sup c.supers || is_among sup c.interfaces else b) (same_supers classes sub sup)

same_subtype : (classes : List ExportClass) (sub sup : List ℕ) → is_subtype classes sub sup ≡ is_of classes sub sup
same_subtype classes sub sup = ap (λ b. same_text sub sup || (if is_array sub then same_text sup (codes "java/lang/Object") else b)) (same_supers classes sub sup)

module _ (exports : List ExportTree) (own : HaveOwnTokens exports) (class : List ℕ) (id : MemberId) (k room nlocals : ℕ) (insns : List JInsn) where
  abbrev pub there : List ℕ → Bool
  there name = (same_text class name || false) || has_class (exported exports) name

  abbrev names : List ClassName
  names = record { class = Inside 2; name = class } ∷ []

  named : (name : List ℕ) (r : ClassRef) → class_with names exports name ≡ Some r → class_name names exports r ≡ name
  named name r e = by (same_text class name) refl e
    where
      by : (t : Bool) → same_text class name ≡ t → (if t then Some (Inside 2) else class_outside 0 exports name) ≡ Some r → class_name names exports r ≡ name
      by true s e = let is : Inside 2 ≡ r = cc in ap (class_name names exports) (sym is) ∙ text_same class name s
      by false s e = named_outside names exports exports 0 refl own name r e

  is_there : (name : List ℕ) → there name ≡ is_some (class_with names exports name)
  is_there name = by (same_text class name)
    where
      by : (t : Bool) → ((t || false) || has_class (exported exports) name) ≡ is_some (if t then Some (Inside 2) else class_outside 0 exports name)
      by true = refl
      by false = there_outside exports 0 name

  is_known : (name : List ℕ) → is_plain (exported exports) name ≡ true → is_some (class_with names exports name) ≡ true
  is_known name e = sym (is_there name) ∙ or_right (same_text class name || false) (has_class (exported exports) name) (plain_there (exported exports) name e)

  pub known : KnowAlike (Steps.by_name exports class there id k room nlocals insns) (Steps.by_token exports class there id k room nlocals insns)
  known = record {
    named = named;
    is_there = is_there;
    subtype = λ i sub sup. same_subtype (exported exports) sub sup i;
    is_imported = same_plain (exported exports);
    is_known = is_known;
    no_fields = λ r. refl;
  }
