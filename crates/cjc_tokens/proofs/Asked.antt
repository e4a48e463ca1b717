-- The methods of interfaces, in turn.
use Rattle.std.proofs.Common.{◌≡◌, ℕ, zero, suc, ◌+◌, ◌-◌, ◌<◌, ◌≤◌, refl, sym, ap, ◌∙◌, Bool, true, false, List, []}
use Rattle.std.proofs.Common.{◌∷◌, ◌++◌, append_assoc, append-nil, length, drop, get_or, arith, Bor}
use Rattle.std.specs.Prelude.{map, Option, Some, None, option_map, position, ◌==◌, if◌then◌else◌}
use Rattle.cjc_world.specs.ClassFile.declared.tree.MethodTree.{MethodTree}
use Rattle.cjc_world.specs.ExportFile.declared.tree.ExportMethod.{ExportMethod}
use Rattle.cjc_world.specs.Classes.{Member, Class, method_of_class, method_of_export}
use Rattle.cjc_world.specs.Supertypes.{supertypes}
use Rattle.cjc_world.specs.Interfaces.{Interface, gathered, known}
use Rattle.cjc_world.specs.Added.{asked_by, by_token, with_token, methods_of, own_methods, without_initialiser}
use Rattle.std.proofs.lemmas.List.{length-map}
use Rattle.cjc_world.specs.ClassFile.declared.tree.ClassTree.{ClassTree}
use Rattle.cjc_world.specs.ExportFile.declared.tree.ExportClass.{ExportClass}
use Rattle.cjc_world.specs.declared.class.Known.{Known as AnyClass}
use Rattle.cjc_world.specs.declared.class.Known.TheVariants as kinds
use Rattle.cjc_world.specs.Working.Known.{class_of}
use Rattle.cjc_world.proofs.Rising.{known-append}
use Rattle.cjc_world.proofs.Asking.{without-append}
use Rattle.cjc_tokens.specs.Methods.{interface_methods}
use Rattle.cjc_tokens.specs.Members.{Signature, signature_of, is_initialiser}
use Rattle.cjc_tokens.specs.Slots.{Slots, new_in, with_new}
use Rattle.cjc_tokens.specs.Working.{above_where, asked, listed_method}
use Rattle.cjc_tokens.proofs.Facts.{position-cons}
use Rattle.cjc_tokens.proofs.Offers.{offer-next, offer-end, with_new-append}
use Rattle.cjc_bytes.proofs.Gets.{drop_next, drop_past}
use Rattle.cjc_bytes.proofs.Lists.{map_append}

-- ---- one method more

without-cons : (m : Member) (ms : List Member) → map signature_of (without_initialiser (m ∷ ms))
    ≡ listed_method m.name m.desc ++ map signature_of (without_initialiser ms)
without-cons m ms = by (is_initialiser m.name)
  where
    by : (b : Bool) → map signature_of (if b then without_initialiser ms else m ∷ without_initialiser ms)
        ≡ (if b then [] else signature_of m ∷ []) ++ map signature_of (without_initialiser ms)
    by true = refl
    by false = refl

pub declared-next : (all more whole : Slots) (ms : List MethodTree) (i : ℕ) (m : MethodTree) (name desc : List ℕ)
    → i < length ms → m ≡ get_or ms i m → name ≡ m.name → desc ≡ m.desc
    → more ≡ with_new all (listed_method name desc)
    → with_new all (map signature_of (without_initialiser (map method_of_class (drop i ms)))) ≡ whole
    → with_new more (map signature_of (without_initialiser (map method_of_class (drop (i + 1) ms)))) ≡ whole
declared-next all more whole ms i m name desc lt is n d e inv =
    offer-next all more whole (listed_method name desc)
    (map signature_of (without_initialiser (map method_of_class (drop (i + 1) ms)))) e
    (ap (λ q. with_new all (listed_method q desc
    ++ map signature_of (without_initialiser (map method_of_class (drop (i + 1) ms))))) n
    ∙ ap (λ q. with_new all (listed_method m.name q
    ++ map signature_of (without_initialiser (map method_of_class (drop (i + 1) ms))))) d
    ∙ ap (with_new all) (sym (without-cons (method_of_class m) (map method_of_class (drop (i + 1) ms))))
    ∙ ap (λ q. with_new all (map signature_of (without_initialiser (map method_of_class q))))
    (sym (drop_next ms i m lt is))
    ∙ inv)

pub declared-end : (all whole : Slots) (ms : List MethodTree) (i : ℕ) → length ms ≤ i
    → with_new all (map signature_of (without_initialiser (map method_of_class (drop i ms)))) ≡ whole → all ≡ whole
declared-end all whole ms i le inv = sym (offer-end all)
    ∙ ap (λ q. with_new all (map signature_of (without_initialiser (map method_of_class q)))) (sym (drop_past ms i le))
    ∙ inv

-- ---- by token

pub with_token-some : (ms : List ExportMethod) (t i : ℕ) (m : ExportMethod) → position (λ n. n.token == t) ms ≡ Some i
    → m ≡ get_or ms i m → with_token t (map method_of_export ms) ≡ method_of_export m ∷ []
with_token-some [] t i m e is = cc
with_token-some (n ∷ ms) t i m e is = by (n.token == t) (position (λ k. k.token == t) ms) refl i
    (sym (position-cons (λ k. k.token == t) n ms) ∙ e) is (with_token-some ms t)
  where
    by : (b : Bool) (o : Option ℕ) → position (λ k. k.token == t) ms ≡ o → (i : ℕ)
        → (if b then Some 0 else option_map suc o) ≡ Some i → m ≡ get_or (n ∷ ms) i m
        → ((i : ℕ) (m : ExportMethod) → position (λ k. k.token == t) ms ≡ Some i → m ≡ get_or ms i m
        → with_token t (map method_of_export ms) ≡ method_of_export m ∷ [])
        → (if b then method_of_export n ∷ [] else with_token t (map method_of_export ms)) ≡ method_of_export m ∷ []
    by true o f zero e is rest = ap (λ (q : ExportMethod). method_of_export q ∷ []) (sym is)
    by true o f (suc i) e is rest = cc
    by false None f i e is rest = cc
    by false (Some k) f zero e is rest = cc
    by false (Some k) f (suc i) e is rest = let same_place : k ≡ i = cc in rest i m (f ∙ ap (λ q. Some q) same_place) is

pub with_token-none : (ms : List ExportMethod) (t : ℕ) → position (λ n. n.token == t) ms ≡ None
    → with_token t (map method_of_export ms) ≡ []
with_token-none [] t e = refl
with_token-none (n ∷ ms) t e = by (n.token == t) (position (λ k. k.token == t) ms) refl
    (sym (position-cons (λ k. k.token == t) n ms) ∙ e) (with_token-none ms t)
  where
    by : (b : Bool) (o : Option ℕ) → position (λ k. k.token == t) ms ≡ o → (if b then Some 0 else option_map suc o)
        ≡ None → (position (λ k. k.token == t) ms ≡ None → with_token t (map method_of_export ms) ≡ [])
        → (if b then method_of_export n ∷ [] else with_token t (map method_of_export ms)) ≡ []
    by true o f e rest = cc
    by false None f e rest = rest f
    by false (Some k) f e rest = cc

pub by_token-next : (all more whole : Slots) (ms : List Member) (n t : ℕ) → t < n
    → more ≡ with_new all (map signature_of (without_initialiser (with_token t ms)))
    → with_new all (map signature_of (without_initialiser (by_token (n - t) t ms))) ≡ whole
    → with_new more (map signature_of (without_initialiser (by_token (n - (t + 1)) (t + 1) ms))) ≡ whole
by_token-next all more whole ms n t lt e inv =
    let s : n - t ≡ suc (n - (t + 1)) = omega arith in
    offer-next all more whole (map signature_of (without_initialiser (with_token t ms)))
    (map signature_of (without_initialiser (by_token (n - (t + 1)) (t + 1) ms))) e
    (ap (with_new all) (sym (map_append signature_of (without_initialiser (with_token t ms))
    (without_initialiser (by_token (n - (t + 1)) (t + 1) ms))))
    ∙ ap (λ q. with_new all (map signature_of q)) (sym (without-append (with_token t ms) (by_token (n - (t + 1)) (t + 1)
    ms)))
    ∙ ap (λ k. with_new all (map signature_of (without_initialiser (by_token k t ms)))) (sym s)
    ∙ inv)

pub by_token-end : (all whole : Slots) (ms : List Member) (n t : ℕ) → n ≤ t
    → with_new all (map signature_of (without_initialiser (by_token (n - t) t ms))) ≡ whole → all ≡ whole
by_token-end all whole ms n t le inv =
    let z : n - t ≡ 0 = omega arith in
    sym (offer-end all) ∙ ap (λ k. with_new all (map signature_of (without_initialiser (by_token k t ms)))) (sym z)
    ∙ inv

-- ---- interfaces in turn

pub methods_of-append : (a b : List Class) → methods_of (a ++ b) ≡ methods_of a ++ methods_of b
unfolding methods_of
methods_of-append [] b = refl
methods_of-append (c ∷ a) b = ap (λ q. own_methods c ++ q) (methods_of-append a b)
    ∙ sym (append_assoc (own_methods c) (methods_of a) (methods_of b))

-- of some interfaces
unfoldable pub of : List Interface → List Signature
of is = map signature_of (methods_of (known is))

pub of-append : (is js : List Interface) → of (is ++ js) ≡ of is ++ of js
unfolding of
of-append is js =
    ap (λ q. map signature_of (methods_of q)) (known-append is js)
    ∙ ap (map signature_of) (methods_of-append (known is) (known js))
    ∙ map_append signature_of (methods_of (known is)) (methods_of (known js))

-- the method of a token
pub token-asked : (ms : List ExportMethod) (t i : ℕ) (m : ExportMethod) (name desc : List ℕ)
    → position (λ n. n.token == t) ms ≡ Some i → m ≡ get_or ms i m → name ≡ m.name → desc ≡ m.desc
    → listed_method name desc ≡ map signature_of (without_initialiser (with_token t (map method_of_export ms)))
token-asked ms t i m name desc e is n d =
    ap (λ q. listed_method q desc) n ∙ ap (listed_method m.name) d
    ∙ sym (append-nil (listed_method m.name m.desc))
    ∙ sym (without-cons (method_of_export m) [])
    ∙ ap (λ q. map signature_of (without_initialiser q)) (sym (with_token-some ms t i m e is))

pub own-declared : (k : AnyClass) (n : ℕ) (c : Bor ClassTree) → k ≡ kinds.Declared n c
    → without_initialiser (map method_of_class c.now.methods) ≡ own_methods (class_of k)
unfolding own_methods
own-declared k n c is = ap (λ (q : AnyClass). own_methods (class_of q)) (sym is)

pub own-imported : (k : AnyClass) (n : ℕ) (c : Bor ExportClass) → k ≡ kinds.Imported n c
    → without_initialiser (by_token (length c.now.methods) 0 (map method_of_export c.now.methods))
    ≡ own_methods (class_of k)
unfolding own_methods
own-imported k n c is =
    let e : length (map method_of_export c.now.methods) ≡ length c.now.methods =
    length-map c.now.methods method_of_export in
    ap (λ l. without_initialiser (by_token l 0 (map method_of_export c.now.methods))) (sym e)
    ∙ ap (λ (q : AnyClass). own_methods (class_of q)) (sym is)

-- what a class asks for, its supers' first
above-asked : (w : List Class) (c : Class) → asked false (supertypes w c.supers)
    ++ asked true (supertypes w c.interfaces) ≡ map signature_of (asked_by (supertypes w c.supers)
    (supertypes w c.interfaces))
unfolding asked_by of
above-asked w c = sym (of-append (gathered false (supertypes w c.supers)) (gathered true (supertypes w c.interfaces)))

pub methods-are : (w : List Class) (c : Class) (row one two : Slots) → row ≡ [] → one ≡ with_new row (above_where w c)
    → two ≡ with_new one (map signature_of (own_methods c)) → two ≡ map Some (interface_methods w c)
unfolding interface_methods
methods-are w c row one two z p q =
    q ∙ ap (λ r. with_new r (map signature_of (own_methods c))) (p ∙ ap (λ r. with_new r (above_where w c)) z)
    ∙ with_new-append [] (above_where w c) (map signature_of (own_methods c))
    ∙ by c.is_imported
  where
    by : (b : Bool) → with_new [] ((if b then [] else asked false (supertypes w c.supers)
        ++ asked true (supertypes w c.interfaces)) ++ map signature_of (own_methods c))
        ≡ map Some (new_in [] (map signature_of (if b then own_methods c
        else asked_by (supertypes w c.supers) (supertypes w c.interfaces) ++ own_methods c)))
    by true = refl
    by false = ap (λ r. with_new [] r) (ap (λ r. r ++ map signature_of (own_methods c)) (above-asked w c)
        ∙ sym (map_append signature_of (asked_by (supertypes w c.supers) (supertypes w c.interfaces)) (own_methods c)))
