-- What the words of one line say, as a relation and as a function.
use Rattle.std.proofs.Common.{◌≡◌, ℕ, ◌==◌, take, drop, Bool, true, false, cond, List, [], ◌∷◌, codes, Option, Some}
use Rattle.std.proofs.Common.{None, refl, sym, ap, ◌∙◌, subst}
use Rattle.std.specs.Prelude.{option_and_then, option_map, is_some, position}
use Rattle.std.specs.Str.{bytes_eq}
use Rattle.std.proofs.lemmas.Option.{cond_some}
use Rattle.cjc_list.specs.Bytes.declared.fault.MemberId.{MemberId}
use Rattle.cjc_list.specs.Grammar.{is_name}
use Rattle.cjc_script.specs.declared.script.Act.{Act}
use Rattle.cjc_script.specs.declared.script.Act.TheVariants.{Array, Object, Put}
use Rattle.cjc_script.specs.declared.script.Reply.{Reply}
use Rattle.cjc_script.specs.declared.script.Reply.TheVariants.{Give, Throw}
use Rattle.cjc_script.specs.declared.value.Value.{Value}
use Rattle.cjc_script.specs.declared.value.Value.TheVariants.{Obj}
use Rattle.cjc_script_text.specs.declared.item.Item.{Item}
use Rattle.cjc_script_text.specs.declared.item.Item.TheVariants as items
use Rattle.cjc_script_text.specs.Words.{number_of, reference_of, value_of, values_of, method_by, method_of, is_array}
use Rattle.cjc_script_text.specs.Grammar.{call_of, send_of, give_of, throw_of, array_act, object_act, put_act}
use Rattle.cjc_script_text.specs.Grammar.{act_or_reply_of, item_of}
use Rattle.cjc_script_text.specs.Spelling.{NamesMethod, SaysCall, SaysReply, SaysAct, Says}
use Rattle.cjc_list.proofs.BytesLists.{bytes_true}
use Rattle.cjc_list.proofs.BytesOptions.{some_shape}

-- ---- steps that gave a value

onward : {A B : Type 0} (o : Option B) (f : B → Option A) (a : A) → option_and_then f o ≡ Some a → (b : B)
    × (o ≡ Some b) × (f b ≡ Some a)
onward (Some b) f a e = (b, refl, e)
onward None f a e = absurd cc

made : {A B : Type 0} (o : Option B) (f : B → A) (a : A) → option_map f o ≡ Some a → (b : B) × (o ≡ Some b) × (f b ≡ a)
made (Some b) f a e = (b, refl, cc)
made None f a e = absurd cc

passed_on : {A : Type 0} (b : Bool) (o : Option A) (y : A) → cond b o None ≡ Some y → (b ≡ true) × (o ≡ Some y)
passed_on true o y e = (refl, e)
passed_on false o y e = absurd cc

-- ---- from the function to the relation

-- a method's class is the one that was asked for
class_by : (class name desc : List ℕ) (m : MemberId) → method_by class name desc ≡ Some m → class ≡ m.class
class_by class name desc m e = ap (λ (id : MemberId). id.class) (cond_some _ (record {
  class = class;
  name = name;
  desc = desc;
}) m e).1

names : (class word : List ℕ) (m : MemberId) → method_of class word ≡ Some m → (class ≡ m.class) × NamesMethod m word
unfolding method_of
names class word m e =
    let at = onward (position (λ b. b == 40) word) (λ n. method_by class (take n word) (drop n word)) m e in
    let is : class ≡ m.class = class_by class (take at.0 word) (drop at.0 word) m at.2 in
    (is, subst (λ (c : List ℕ). method_of c word ≡ Some m) is e)

call_says : (keyword : List ℕ) (ws : List (List ℕ)) (i : Item) → keyword ≡ codes "call" → call_of ws ≡ Some i
    → Says i (keyword ∷ ws)
unfolding call_of
call_says keyword [] i is e = absurd cc
call_says keyword (c ∷ []) i is e = absurd cc
call_says keyword (c ∷ word ∷ ws) i is e =
    let method = onward (method_of c word) (λ m. option_map (λ args. items.Call false m args) (values_of ws)) i e in
    let args = made (values_of ws) (λ args. items.Call false method.0 args) i method.2 in
    let named = names c word method.0 method.1 in
    let same : keyword ∷ c ∷ word ∷ ws ≡ codes "call" ∷ method.0.class ∷ word ∷ ws = cc in
    subst (λ (j : Item). Says j (keyword ∷ c ∷ word ∷ ws)) args.2 (word, ws, same, named.1, args.1)

-- an object is a value
object_value : (word : List ℕ) (k : ℕ) → reference_of word ≡ Some k → value_of word ≡ Some (Obj k)
object_value word k e = by_test (bytes_eq word (codes "null")) refl
  where
    by_test : (b : Bool) → bytes_eq word (codes "null") ≡ b → value_of word ≡ Some (Obj k)
    by_test true is =
        let no : reference_of (codes "null") ≡ Some k = subst (λ (w : List ℕ). reference_of w ≡ Some k)
        (bytes_true word (codes "null") is) e in
        absurd cc
    by_test false is = rw (is, e) refl

send_says : (keyword : List ℕ) (ws : List (List ℕ)) (i : Item) → keyword ≡ codes "send" → send_of ws ≡ Some i
    → Says i (keyword ∷ ws)
unfolding send_of values_of
send_says keyword [] i is e = absurd cc
send_says keyword (c ∷ []) i is e = absurd cc
send_says keyword (c ∷ word ∷ []) i is e = absurd cc
send_says keyword (c ∷ word ∷ r ∷ ws) i is e =
    let test = passed_on (is_some (reference_of r)) (option_and_then (λ m. option_map (λ args. items.Call true m args)
    (values_of (r ∷ ws))) (method_of c word)) i e in
    let object = some_shape (reference_of r) test.0 in
    let method = onward (method_of c word) (λ m. option_map (λ args. items.Call true m args) (values_of (r ∷ ws))) i
    test.1 in
    let args = made (values_of (r ∷ ws)) (λ args. items.Call true method.0 args) i method.2 in
    let first = onward (value_of r) (λ v. option_map (λ vs. v ∷ vs) (values_of ws)) args.0 args.1 in
    let others = made (values_of ws) (λ vs. first.0 ∷ vs) args.0 first.2 in
    let same_object : Some (Obj object.0) ≡ Some first.0 = sym (object_value r object.0 object.1) ∙ first.1 in
    let all : args.0 ≡ Obj object.0 ∷ others.0 = cc in
    let named = names c word method.0 method.1 in
    let same : keyword ∷ c ∷ word ∷ r ∷ ws ≡ codes "send" ∷ method.0.class ∷ word ∷ r ∷ ws = cc in
    subst (λ (j : Item). Says j (keyword ∷ c ∷ word ∷ r ∷ ws)) args.2 (
      word,
      r,
      ws,
      object.0,
      others.0,
      same,
      named.1,
      object.1,
      others.1,
      all,
    )

give_says : (keyword : List ℕ) (ws : List (List ℕ)) (i : Item) → keyword ≡ codes "give" → give_of ws ≡ Some i
    → Says i (keyword ∷ ws)
unfolding give_of
give_says keyword [] i is e =
    let item : items.Reply (Give None) ≡ i = cc in
    let same : keyword ∷ [] ≡ codes "give" ∷ [] = cc in
    subst (λ (j : Item). Says j (keyword ∷ [])) item same
give_says keyword (w ∷ []) i is e =
    let v = made (value_of w) (λ v. items.Reply (Give (Some v))) i e in
    let same : keyword ∷ w ∷ [] ≡ codes "give" ∷ w ∷ [] = cc in
    subst (λ (j : Item). Says j (keyword ∷ w ∷ [])) v.2 (w, same, v.1)
give_says keyword (w ∷ x ∷ ws) i is e = absurd cc

throw_says : (keyword : List ℕ) (ws : List (List ℕ)) (i : Item) → keyword ≡ codes "throw" → throw_of ws ≡ Some i
    → Says i (keyword ∷ ws)
unfolding throw_of
throw_says keyword [] i is e = absurd cc
throw_says keyword (c ∷ []) i is e =
    let named = cond_some (is_name c) (items.Reply (Throw c)) i e in
    let same : keyword ∷ c ∷ [] ≡ codes "throw" ∷ c ∷ [] = cc in
    subst (λ (j : Item). Says j (keyword ∷ c ∷ [])) named.1 (same, named.0)
throw_says keyword (c ∷ x ∷ ws) i is e = absurd cc

array_says : (keyword : List ℕ) (ws : List (List ℕ)) (i : Item) → keyword ≡ codes "array" → array_act ws ≡ Some i
    → Says i (keyword ∷ ws)
unfolding array_act
array_says keyword [] i is e = absurd cc
array_says keyword (d ∷ []) i is e = absurd cc
array_says keyword (d ∷ n ∷ []) i is e =
    let test = passed_on (is_array d) (option_map (λ z. items.Act (Array d z)) (number_of n)) i e in
    let z = made (number_of n) (λ z. items.Act (Array d z)) i test.1 in
    let same : keyword ∷ d ∷ n ∷ [] ≡ codes "array" ∷ d ∷ n ∷ [] = cc in
    subst (λ (j : Item). Says j (keyword ∷ d ∷ n ∷ [])) z.2 (n, same, test.0, z.1)
array_says keyword (d ∷ n ∷ x ∷ ws) i is e = absurd cc

object_says : (keyword : List ℕ) (ws : List (List ℕ)) (i : Item) → keyword ≡ codes "object" → object_act ws ≡ Some i
    → Says i (keyword ∷ ws)
unfolding object_act
object_says keyword [] i is e = absurd cc
object_says keyword (c ∷ []) i is e =
    let named = cond_some (is_name c) (items.Act (Object c)) i e in
    let same : keyword ∷ c ∷ [] ≡ codes "object" ∷ c ∷ [] = cc in
    subst (λ (j : Item). Says j (keyword ∷ c ∷ [])) named.1 (same, named.0)
object_says keyword (c ∷ x ∷ ws) i is e = absurd cc

put_says : (keyword : List ℕ) (ws : List (List ℕ)) (i : Item) → keyword ≡ codes "put" → put_act ws ≡ Some i
    → Says i (keyword ∷ ws)
unfolding put_act
put_says keyword [] i is e = absurd cc
put_says keyword (a ∷ []) i is e = absurd cc
put_says keyword (a ∷ n ∷ []) i is e = absurd cc
put_says keyword (a ∷ n ∷ w ∷ []) i is e =
    let k = onward (reference_of a) (λ k. option_and_then (λ z. option_map (λ v. items.Act (Put k z v)) (value_of w))
    (number_of n)) i e in
    let z = onward (number_of n) (λ z. option_map (λ v. items.Act (Put k.0 z v)) (value_of w)) i k.2 in
    let v = made (value_of w) (λ v. items.Act (Put k.0 z.0 v)) i z.2 in
    let same : keyword ∷ a ∷ n ∷ w ∷ [] ≡ codes "put" ∷ a ∷ n ∷ w ∷ [] = cc in
    subst (λ (j : Item). Says j (keyword ∷ a ∷ n ∷ w ∷ [])) v.2 (a, n, w, same, k.1, z.1, v.1)
put_says keyword (a ∷ n ∷ w ∷ x ∷ ws) i is e = absurd cc

-- by the keyword
act_or_reply_says : (isg ist isa iso isp : Bool) (k : List ℕ) (ws : List (List ℕ)) (i : Item)
    → bytes_eq k (codes "give") ≡ isg → bytes_eq k (codes "throw") ≡ ist → bytes_eq k (codes "array") ≡ isa
    → bytes_eq k (codes "object") ≡ iso → bytes_eq k (codes "put") ≡ isp
    → cond isg (give_of ws) (cond ist (throw_of ws) (cond isa (array_act ws) (cond iso (object_act ws)
    (cond isp (put_act ws) None)))) ≡ Some i → Says i (k ∷ ws)
act_or_reply_says true ist isa iso isp k ws i g t a o p e = give_says k ws i (bytes_true k (codes "give") g) e
act_or_reply_says false true isa iso isp k ws i g t a o p e = throw_says k ws i (bytes_true k (codes "throw") t) e
act_or_reply_says false false true iso isp k ws i g t a o p e = array_says k ws i (bytes_true k (codes "array") a) e
act_or_reply_says false false false true isp k ws i g t a o p e = object_says k ws i (bytes_true k (codes "object") o) e
act_or_reply_says false false false false true k ws i g t a o p e = put_says k ws i (bytes_true k (codes "put") p) e
act_or_reply_says false false false false false k ws i g t a o p e = absurd cc

says_by : (isc iss : Bool) (k : List ℕ) (ws : List (List ℕ)) (i : Item) → bytes_eq k (codes "call") ≡ isc
    → bytes_eq k (codes "send") ≡ iss
    → cond isc (call_of ws) (cond iss (send_of ws) (act_or_reply_of k ws)) ≡ Some i → Says i (k ∷ ws)
says_by true iss k ws i c s e = call_says k ws i (bytes_true k (codes "call") c) e
says_by false true k ws i c s e = send_says k ws i (bytes_true k (codes "send") s) e
says_by false false k ws i c s e = act_or_reply_says _ _ _ _ _ k ws i refl refl refl refl refl e

pub item_says : (ws : List (List ℕ)) (i : Item) → item_of ws ≡ Some i → Says i ws
item_says [] i e = absurd cc
item_says (k ∷ ws) i e = says_by _ _ k ws i refl refl e

-- ---- and back

act_is : (a : Act) (ws : List (List ℕ)) → SaysAct a ws → item_of ws ≡ Some (items.Act a)
unfolding array_act object_act put_act
act_is (Array d z) ws h = ap item_of h.1 ∙ rw (h.2, h.3) refl
act_is (Object c) ws h = ap item_of h.0 ∙ rw h.1 refl
act_is (Put k z v) ws h = ap item_of h.3 ∙ rw (h.4, h.5, h.6) refl

reply_is : (r : Reply) (ws : List (List ℕ)) → SaysReply r ws → item_of ws ≡ Some (items.Reply r)
unfolding give_of throw_of
reply_is (Give None) ws h = ap item_of h
reply_is (Give (Some v)) ws h = ap item_of h.1 ∙ rw h.2 refl
reply_is (Throw c) ws h = ap item_of h.0 ∙ rw h.1 refl

with_first : (r : List ℕ) (ws : List (List ℕ)) (v : Value) (others : List Value) → value_of r ≡ Some v
    → values_of ws ≡ Some others → values_of (r ∷ ws) ≡ Some (v ∷ others)
unfolding values_of
with_first r ws v others e f = rw (e, f) refl

call_is : (b : Bool) (m : MemberId) (args : List Value) (ws : List (List ℕ)) → SaysCall b m args ws
    → item_of ws ≡ Some (items.Call b m args)
unfolding call_of send_of
call_is false m args ws h = ap item_of h.2 ∙ rw (h.3, h.4) refl
call_is true m args ws h =
    let all : values_of (h.1 ∷ h.2) ≡ Some (Obj h.3 ∷ h.4) = with_first h.1 h.2 (Obj h.3) h.4 (object_value h.1 h.3 h.7)
    h.8 in
    let read : send_of (m.class ∷ h.0 ∷ h.1 ∷ h.2) ≡ Some (items.Call true m (Obj h.3 ∷ h.4)) = rw (h.7, h.6, all) refl
    in
    ap item_of h.5 ∙ (read ∙ ap (λ (vs : List Value). Some (items.Call true m vs)) (sym h.9))

pub says_item : (i : Item) (ws : List (List ℕ)) → Says i ws → item_of ws ≡ Some i
says_item (items.Act a) ws h = act_is a ws h
says_item (items.Call b m args) ws h = call_is b m args ws h
says_item (items.Reply r) ws h = reply_is r ws h
