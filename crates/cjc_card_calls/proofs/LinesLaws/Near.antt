-- Handlers with small offsets, and where they are.
use Rattle.std.proofs.Common.{◌≡◌, ℕ, zero, suc, ◌+◌, ◌<◌, ◌^◌, List, [], ◌∷◌, length, get_or, drop, sym, ap, ◌∙◌}
use Rattle.std.proofs.Common.{arith, true, false, Option, Some}
use Rattle.std.specs.Prelude.{option_and_then, slice_get, nat_lt}
use Rattle.std.proofs.lemmas.Bool.Decides.{nat_tests}
use Rattle.std.proofs.lemmas.List.{drop_more}
use Rattle.cjc_card_semantics.specs.CapRead.declared.tree.Handler.{Handler}
use Rattle.cjc_card_semantics.specs.Script.Sorts.{Shape}
use Rattle.cjc_card_semantics.specs.Machine.Loaded.{Part, Loaded}
use Rattle.cjc_card_semantics.specs.Machine.Classes.{Class}
use Rattle.cjc_card_semantics.specs.Machine.Methods.{Code, handler, handler_among, handler_in}
use Rattle.cjc_card_frame.specs.Kinds.{pool_in, pool_of}
use Rattle.cjc_card_calls.specs.Lines.Handlers.{are_near, are_parts_near}
use Rattle.cjc_card_semantics.proofs.BytesBools.{and_true}
use Rattle.cjc_card_semantics.proofs.BytesPlain.{the_same, none_is_some}

pub first_near : (h : Handler) (hs : List Handler) → are_near (h ∷ hs) ≡ true → (h.handler < 2 ^ 32)
    × (are_near hs ≡ true)
first_near h hs e =
    let p = and_true (nat_lt h.handler 0x100000000) (are_near hs) e in
    let q : nat_lt h.handler 0x100000000 ≡ true = p.0 in
    (grind (arith, nat_tests, q), p.1)

-- the next of them, and those behind it
next_near : (hs : List Handler) (i : ℕ) (d : Handler) → i < length hs → are_near (drop i hs) ≡ true
    → (let h = get_or hs i d in h.handler < 2 ^ 32) × (are_near (drop (i + 1) hs) ≡ true)
next_near hs i d lt e = first_near (get_or hs i d) (drop (i + 1) hs) (ap are_near (sym (drop_more hs i d lt)) ∙ e)

pub near_here : (hs : List Handler) (i : ℕ) (d : Handler) → i < length hs → are_near (drop i hs) ≡ true
    → (let h = get_or hs i d in h.handler < 2 ^ 32)
near_here hs i d lt e = (next_near hs i d lt e).0

no_handler : Handler
no_handler = record { start = 0; stop = false; length = 0; handler = 0; catch_index = 0 }

pub near_behind : (hs : List Handler) (i : ℕ) → i < length hs → are_near (drop i hs) ≡ true → are_near (drop (i + 1) hs)
    ≡ true
near_behind hs i lt e = (next_near hs i no_handler lt e).1

pub part_near : (parts : List Part) (n : ℕ) (part : Part) → slice_get parts n ≡ Some part → are_parts_near parts ≡ true
    → (let m = part.method in are_near m.handlers ≡ true)
part_near [] n part is near = absurd (none_is_some part is)
part_near (p ∷ parts) zero part is near =
    let m = p.method in
    ap (λ (q : Part). let k = q.method in are_near k.handlers) (sym (the_same p part is))
    ∙ (and_true (are_near m.handlers) (are_parts_near parts) near).0
part_near (p ∷ parts) (suc n) part is near =
    let m = p.method in
    part_near parts n part is (and_true (are_near m.handlers) (are_parts_near parts) near).1

-- the handlers of a package that is there
pub handler_here : (l : Loaded) (code : Code) (at : ℕ) (kind : Shape Class) (part : Part) (handlers : List Handler)
    → Some part ≡ slice_get l.parts code.part → handlers ≡ (let m = part.method in m.handlers)
    → handler_among l code.part (pool_of l code.part) handlers at kind ≡ handler l code at kind
handler_here l code at kind part handlers is same =
    let m = part.method in
    ap (λ (hs : List Handler). handler_among l code.part (pool_of l code.part) hs at kind) same
    ∙ ap (λ (o : Option Part). handler_among l code.part (pool_in o) m.handlers at kind) (sym is)
    ∙ ap (λ (o : Option Part). option_and_then (handler_in l code at kind) o) is
