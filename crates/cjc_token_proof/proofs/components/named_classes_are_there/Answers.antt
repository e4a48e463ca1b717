use Rattle.std.proofs.Common.{◌≡◌, ℕ, zero, suc, ◌+◌, ◌==◌, Bool, true, false, List, [], ◌∷◌, ◌++◌, refl, ap, ◌∙◌}
use Rattle.std.proofs.Common.{arith}
use Rattle.std.specs.Prelude.{Option, Some, None, map, slice_get, position, option_map, option_and_then, is_some}
use Rattle.std.specs.Prelude.{unwrap_or, cond, ◌||◌, if◌then◌else◌}
use Rattle.std.specs.List.{find}
use Rattle.std.specs.Str.{bytes_eq}
use Rattle.std.proofs.lemmas.Bool.{or_right}
use Rattle.cjc_card_semantics.specs.CapRead.declared.tree.ClassRef.{ClassRef}
use Rattle.cjc_card_semantics.specs.CapRead.declared.tree.ClassRef.TheVariants.{Inside}
use Rattle.cjc_world.specs.ExportFile.declared.tree.ExportClass.{ExportClass}
use Rattle.cjc_world.specs.ExportFile.declared.tree.ExportTree.{ExportTree}
use Rattle.cjc_card_semantics.specs.Machine.Classes.{Class, Own, External, external_from, or_else, token_named}
use Rattle.cjc_components.specs.LowerCheckRules.Spots.{Placed, begins}
use Rattle.cjc_components.specs.LowerCheckRules.Classes.{imported, is_there, interfaces_at, classes_at, is_start}
use Rattle.cjc_components.specs.LowerCheckRules.Described.{all_starts}
use Rattle.cjc_world.specs.Order.{class_order}
use Rattle.cjc_components.specs.Package.{Package, world}
use Rattle.cjc_components.specs.Class.{class_info}
use Rattle.cjc_components.specs.Names.{class_ref, class_offset, info_starts, ref_to}
use Rattle.cjc_token_proof.proofs.ComponentsLaws.Starts.{infos_stand_alike}
use Rattle.cjc_bytes.proofs.Numbers.{like_number}
use Rattle.cjc_token_proof.proofs.components.named_classes_are_there.Goals as goal

-- ---- of the package

or_swap : (a b c : Bool) → (b || c) ≡ true → ((a || b) || c) ≡ true
or_swap true b c e = refl
or_swap false b c e = e

begin_second : {B : Type 0} (ys : List (Placed B)) (k s : ℕ) → slice_get (map (λ p. p.at) ys) k ≡ Some s
    → begins ys s ≡ true
begin_second [] zero s e = absurd (cc)
begin_second [] (suc k) s e = absurd (cc)
begin_second (y ∷ ys) zero s e = let same : y.at ≡ s = cc in ap (λ n. n == s || begins ys s) same
    ∙ ap (λ b. b || begins ys s) (like_number s)
begin_second (y ∷ ys) (suc k) s e = or_right (y.at == s) (begins ys s) (begin_second ys k s e)

begin_either : {A B : Type 0} (xs : List (Placed A)) (ys : List (Placed B)) (k s : ℕ) → slice_get (map (λ p. p.at) xs
    ++ map (λ p. p.at) ys) k ≡ Some s → (begins xs s || begins ys s) ≡ true
begin_either [] ys k s e = begin_second ys k s e
begin_either (x ∷ xs) ys zero s e = let same : x.at ≡ s = cc in ap (λ n. (n == s || begins xs s) || begins ys s) same
    ∙ ap (λ b. (b || begins xs s) || begins ys s) (like_number s)
begin_either (x ∷ xs) ys (suc k) s e = or_swap (x.at == s) (begins xs s) (begins ys s) (begin_either xs ys k s e)

starts_there : (p : Package) (at : Option ℕ) (start : ℕ) → option_and_then (slice_get (info_starts p)) at ≡ Some start
    → is_start (class_info (class_ref p) p) start ≡ true
starts_there p None start e = absurd (cc)
starts_there p (Some k) start e =
    let info = class_info (class_ref p) p in
    let here : slice_get (all_starts info) k ≡ Some start = ap (λ ss. slice_get ss k) (infos_stand_alike (class_ref p)
    (λ name. Inside 0) p) ∙ e in
    begin_either (interfaces_at info) (classes_at info) k start here

-- ---- of export files

token_step : (c : ExportClass) (token : ℕ) (named same : Bool) (rest : Option ℕ) (more : Option ExportClass)
    → same ≡ (c.token == token) → (if named then Some c.token else rest) ≡ Some token
    → (rest ≡ Some token → is_some more ≡ true) → is_some (cond same (Some c) more) ≡ true
token_step c token named true rest more te e h = refl
token_step c token true false rest more te e h =
    let same : c.token ≡ token = cc in
    let no : false ≡ true = te ∙ ap (λ n. n == token) same ∙ like_number token in
    absurd (cc)
token_step c token false false rest more te e h = h e

token_there : (classes : List ExportClass) (name : List ℕ) (token : ℕ) → token_named classes name ≡ Some token
    → is_some (find (λ c. c.token == token) classes) ≡ true
token_there [] name token e = absurd (cc)
token_there (c ∷ classes) name token e =
    token_step c token (bytes_eq c.name name) (c.token == token) (token_named classes name)
    (find (λ d. d.token == token) classes) refl e (token_there classes name token)

-- the class is one of these files, the first of which has this number
abbrev IsThere : (n : ℕ) → List ExportTree → Class → Type 0
IsThere n trees class = (k : ℕ) × (token : ℕ) × (class ≡ External (n + k) token)
    × (is_some (imported trees k token) ≡ true)

file_step : (n : ℕ) (t : ExportTree) (trees : List ExportTree) (name : List ℕ) (class : Class) (o : Option ℕ)
    → token_named t.classes name ≡ o → or_else (option_map (External n) o) (external_from (n + 1) trees name)
    ≡ Some class
    → (external_from (n + 1) trees name ≡ Some class → IsThere (n + 1) trees class) → IsThere n (t ∷ trees) class
file_step n t trees name class (Some token) is e h =
    let same : class ≡ External n token = cc in
    let zero_more : n ≡ n + 0 = omega arith in
    (0, token, same ∙ ap (λ m. External m token) zero_more, token_there t.classes name token is)
file_step n t trees name class None is e h =
    let r = h e in
    let more : n + 1 + r.0 ≡ n + suc r.0 = omega arith in
    (suc r.0, r.1, r.2 ∙ ap (λ m. External m r.1) more, r.3)

file_there : (n : ℕ) (trees : List ExportTree) (name : List ℕ) (class : Class) → external_from n trees name ≡ Some class
    → IsThere n trees class
file_there n [] name class e = absurd (cc)
file_there n (t ∷ trees) name class e = file_step n t trees name class (token_named t.classes name) refl e
    (file_there (n + 1) trees name class)

-- ---- of either

module _ (p : Package) (name : List ℕ) where
  abbrev exports : List ExportTree
  exports = let files = p.files in files.exports

  abbrev is_here : ClassRef → Bool
  is_here ref = is_there (class_info (class_ref p) p) exports ref

  in_files : (f : Option Class) → external_from 0 exports name ≡ f → is_some f ≡ true
      → is_here (ref_to (unwrap_or f (Own 0 0))) ≡ true
  in_files None is found = absurd (cc)
  in_files (Some class) is found =
      let r = file_there 0 exports name class is in
      let same : 0 + r.0 ≡ r.0 = omega arith in
      ap (λ c. is_here (ref_to c)) r.2 ∙ ap (λ m. is_some (imported exports m r.1)) same ∙ r.3

  in_either : (own : Option ℕ) → class_offset p name ≡ own
      → is_some (or_else (option_map (Own 0) own) (external_from 0 exports name)) ≡ true
      → is_here (ref_to (unwrap_or (or_else (option_map (Own 0) own) (external_from 0 exports name)) (Own 0 0))) ≡ true
  in_either (Some start) is found = starts_there p (position (λ c. bytes_eq c.name name) (class_order (world p))) start
      is
  in_either None is found = in_files (external_from 0 exports name) refl found

pub returns : goal.returns
returns c p name found = in_either p name (class_offset p name) refl found
