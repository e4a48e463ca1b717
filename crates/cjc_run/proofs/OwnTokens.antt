-- In an export file that bytes spell, each class has a token of its own.
use Rattle.std.proofs.Common.{◌≡◌, ℕ, zero, suc, ◌+◌, Bool, true, false, cond, List, [], ◌∷◌, ◌++◌, length, Option, Some, None, IsSomeAnd, rules, refl, sym, ap, subst}
use Rattle.std.specs.Prelude.{not, ◌==◌, ◌&&◌, ◌||◌}
use Rattle.std.specs.Int.{w8}
use Rattle.std.specs.FinMap.{get}
use Rattle.cjc_bytes.specs.Format.{Format, number, followed_by, gives, iterated, Spells, FileSpells}
use Rattle.cjc_bytes.specs.declared.settings.FileLine.{FileLine}
use Rattle.cjc_shelf.specs.Shelf.{Files}
use Rattle.cjc_export.specs.Entry.{Entry}
use Rattle.cjc_export.specs.ExportFile.{token_taken, class_token, class_tree, export_file}
use Rattle.cjc_export.specs.Members.{grown}
use Rattle.cjc_export.specs.Tokens.{has_token, own_tokens, HaveOwnTokens}
use Rattle.cjc_export.specs.declared.tree.ExportClass.{ExportClass}
use Rattle.cjc_export.specs.declared.tree.ExportTree.{ExportTree}
use Rattle.cjc_run.specs.Promise.{ExportStep, SpellExports}

-- ---- lists of classes

and_true : (a b : Bool) → (a && b) ≡ true → (a ≡ true) × (b ≡ true)
and_true true b e = (refl, e)
and_true false b e = absurd cc

or_false : (a b : Bool) → (a || b) ≡ false → (a ≡ false) × (b ≡ false)
or_false true b e = absurd cc
or_false false b e = (refl, e)

not_false : (b : Bool) → not b ≡ true → b ≡ false
not_false true e = absurd cc
not_false false e = refl

other_way : (a b : ℕ) → (a == b) ≡ false → (b == a) ≡ false
other_way a b e = search rules

still_new : (token : ℕ) (xs : List ExportClass) (c : ExportClass) → has_token token xs ≡ false → (c.token == token) ≡ false → has_token token (xs ++ c ∷ []) ≡ false
still_new token [] c h e = rw e refl
still_new token (d ∷ xs) c h e =
    let both = or_false (d.token == token) (has_token token xs) h in
    rw (both.0, still_new token xs c both.1 e) refl

own_more : (xs : List ExportClass) (c : ExportClass) → own_tokens xs ≡ true → token_taken xs c.token ≡ false → own_tokens (xs ++ c ∷ []) ≡ true
own_more [] c h e = refl
own_more (d ∷ xs) c h e =
    let both = and_true (not (has_token d.token xs)) (own_tokens xs) h in
    let apart = or_false (d.token == c.token) (token_taken xs c.token) e in
    let new = still_new d.token xs c (not_false (has_token d.token xs) both.0) (other_way d.token c.token apart.0) in
    rw (new, own_more xs c both.1 apart.1) refl

untaken : (xs : List ExportClass) (n token : ℕ) → class_token xs n ≡ Some token → token_taken xs token ≡ false
untaken xs n token e =
    elim (token_taken xs n) as (λ (b : Bool). token_taken xs n ≡ b → (cond b None (Some n)) ≡ Some token → token_taken xs token ≡ false) [
      | true ↦ λ is f. absurd cc
      | false ↦ λ is f. let same : n ≡ token = cc in subst (λ (t : ℕ). token_taken xs t ≡ false) same is
    ] refl e

-- ---- what is spelt

-- the two parts of a format that follows another
inner : {A B : Type 0} (p : Format B) (f : B → Format A) (at : ℕ) (a : A) (bytes : List ℕ) → Spells (followed_by p f) at a bytes
    → (x : B) × (place : ℕ) × (front back : List ℕ) × Spells p at x front × Spells (f x) place a back
unfolding Spells
inner p f at a bytes h = (h.0, at + length h.1, h.1, h.2, h.4, h.5)

given : {A : Type 0} (x : A) (at : ℕ) (a : A) (bytes : List ℕ) → Spells (gives x) at a bytes → x ≡ a
unfolding Spells
given x at a bytes h = h.1

tabled : (so_far : List ExportClass) (at token : ℕ) (bytes : List ℕ) → Spells (number w8 (class_token so_far)) at token bytes → token_taken so_far token ≡ false
unfolding Spells
tabled so_far at token bytes h = untaken so_far _ token h.1

token_of : (pool : List Entry) (so_far : List ExportClass) (at : ℕ) (c : ExportClass) (bytes : List ℕ) → Spells (class_tree pool so_far) at c bytes → token_taken so_far c.token ≡ false
unfolding class_tree
token_of pool so_far at c bytes h =
    let token = inner _ _ _ _ _ h in
    let flags = inner _ _ _ _ _ token.5 in
    let name = inner _ _ _ _ _ flags.5 in
    let super_count = inner _ _ _ _ _ name.5 in
    let supers = inner _ _ _ _ _ super_count.5 in
    let interface_count = inner _ _ _ _ _ supers.5 in
    let interfaces = inner _ _ _ _ _ interface_count.5 in
    let field_count = inner _ _ _ _ _ interfaces.5 in
    let fields = inner _ _ _ _ _ field_count.5 in
    let count = inner _ _ _ _ _ fields.5 in
    let methods = inner _ _ _ _ _ count.5 in
    let is = given _ _ _ _ methods.5 in
    let same : token.0 ≡ c.token = ap (λ (x : ExportClass). x.token) is in
    subst (λ (t : ℕ). token_taken so_far t ≡ false) same (tabled so_far _ token.0 _ token.4)

classes_own : (pool : List Entry) (n : ℕ) (so_far classes : List ExportClass) (at : ℕ) (bytes : List ℕ) → own_tokens so_far ≡ true
    → Spells (iterated n (grown (class_tree pool)) so_far) at classes bytes → own_tokens classes ≡ true
unfolding iterated grown
classes_own pool zero so_far classes at bytes own h = subst (λ (xs : List ExportClass). own_tokens xs ≡ true) (given so_far at classes bytes h) own
classes_own pool (suc n) so_far classes at bytes own h =
    let turn = inner _ _ _ _ _ h in
    let one = inner _ _ _ _ _ turn.4 in
    let more = own_more so_far one.0 own (token_of pool so_far _ one.0 _ one.4) in
    classes_own pool n turn.0 classes turn.1 turn.3 (subst (λ (xs : List ExportClass). own_tokens xs ≡ true) (given _ _ _ _ one.5) more) turn.5

tree_own : (e : ExportTree) (bytes : List ℕ) → FileSpells export_file e bytes → own_tokens e.classes ≡ true
unfolding export_file
tree_own e bytes h =
    let pool = inner _ _ _ _ _ h in
    let passed = inner _ _ _ _ _ pool.5 in
    let this = inner _ _ _ _ _ passed.5 in
    let count = inner _ _ _ _ _ this.5 in
    let classes = inner _ _ _ _ _ count.5 in
    let same : classes.0 ≡ e.classes = ap (λ (x : ExportTree). x.classes) (given _ _ _ _ classes.5) in
    subst (λ (xs : List ExportClass). own_tokens xs ≡ true) same (classes_own pool.0 count.0 [] classes.0 _ _ refl classes.4)

-- ---- the files of a list

some_own : (o : Option (List ℕ)) (e : ExportTree) → IsSomeAnd o (λ bytes. FileSpells export_file e bytes) → own_tokens e.classes ≡ true
some_own None e h = absurd h
some_own (Some bytes) e h = tree_own e bytes h

step_own : (c : Bool) (o : Option (List ℕ)) (rest : List ExportTree → Type 0) (trees : List ExportTree) → ((ts : List ExportTree) → rest ts → HaveOwnTokens ts) → ExportStep c o rest trees
    → HaveOwnTokens trees
step_own true o rest trees f h = f trees h
step_own false o rest [] f h = refl
step_own false o rest (tree ∷ trees) f h = rw (some_own o tree h.0, f trees h.1) refl

pub exports_own : (files : Files) (lines : List FileLine) (trees : List ExportTree) → SpellExports files lines trees → HaveOwnTokens trees
exports_own files [] trees h = subst (λ (ts : List ExportTree). HaveOwnTokens ts) (sym h) refl
exports_own files (line ∷ lines) trees h = step_own line.class_file (get files line.name) (SpellExports files lines) trees (λ ts r. exports_own files lines ts r) h
