-- One item after another.
use Rattle.std.proofs.Common.{◌≡◌, ℕ, ◌+◌, ◌<◌, ◌≤◌, Bool, true, false, cond, List, [], ◌∷◌, ◌++◌, length, drop, get_or}
use Rattle.std.proofs.Common.{Result, Ok, Err, sym, subst, refl, ap, ◌∙◌}
use Rattle.std.proofs.lemmas.List.{drop_all}
use Rattle.std.proofs.lemmas.List.Elements.{All-nil, All-cons, All-append}
use Rattle.cjc_shelf.specs.Shelf.{Shelved, longest_file}
use Rattle.cjc_shelf.specs.declared.command.status.Status.{Status}
use Rattle.cjc_shelf.specs.Command.Plan.{Plan, has, ◌>>=◌, for_each, read, read_behind}
use Rattle.cjc_shelf.specs.Command.Gather.{Gathers, IsSame, AreShort}
use Rattle.cjc_shelf.proofs.CommandLaws.Gathering.{gathers_then, gathers_end, gathers_has}
use Rattle.cjc_bytes.proofs.Gets.{drop_next}

-- Whatever is gathered of what is left is gathered of all.
abbrev pub GoesBack : {S : Type 0} → Plan S → Plan S → Shelved → Shelved → Type 0
GoesBack {S} whole left old now = (new : Shelved) (result : Result S Status) → Gathers left IsSame now new result
    → Gathers whole IsSame old new result

module _ {A S : Type 0} (is_last : S → Bool) (step : S → A → Plan S) (whole : Plan S) where
  one_step : (s : S) (a : A) (items rest : List A) → items ≡ a ∷ rest → is_last s ≡ false
      → for_each is_last step s items ≡ (step s a >>= λ t. for_each is_last step t rest)
  one_step s a items rest e goes_on = ap (for_each is_last step s) e
      ∙ ap (λ b. cond b (has s) (step s a >>= λ t. for_each is_last step t rest)) goes_on

  -- the item at hand is the end of all
  pub item_ends : (s : S) (items : List A) (i : ℕ) (a : A) (old now new : Shelved) (end : Status) → i < length items
      → a ≡ get_or items i a → is_last s ≡ false
      → GoesBack whole (for_each is_last step s (drop i items)) old now
      → Gathers {T = S} (step s a) IsSame now new (Err end) → Gathers {T = S} whole IsSame old new (Err end)
  item_ends s items i a old now new end lt is goes_on back g =
      let step_is = one_step s a (drop i items) (drop (i + 1) items) (drop_next items i a lt is) goes_on in
      back new (Err end) (subst (λ (p : Plan S). Gathers {T = S} p IsSame now new (Err end)) (sym step_is)
      (gathers_end (step s a) (λ t. for_each is_last step t (drop (i + 1) items)) IsSame now new end g))

  -- the items behind it go on from what it leaves
  pub item_next : (s : S) (items : List A) (i : ℕ) (a : A) (t : S) (old now mid : Shelved) → i < length items
      → a ≡ get_or items i a → is_last s ≡ false
      → GoesBack whole (for_each is_last step s (drop i items)) old now → Gathers (step s a) IsSame now mid (Ok t)
      → GoesBack whole (for_each is_last step t (drop (i + 1) items)) old mid
  item_next s items i a t old now mid lt is goes_on back g new result rest =
      let step_is = one_step s a (drop i items) (drop (i + 1) items) (drop_next items i a lt is) goes_on in
      back new result (subst (λ (p : Plan S). Gathers p IsSame now new result) (sym step_is)
      (gathers_then (step s a) (λ u. for_each is_last step u (drop (i + 1) items)) IsSame now mid new t result g rest))

  passed_over : (s : S) (items : List A) → is_last s ≡ true → for_each is_last step s items ≡ has s
  passed_over s [] e = refl
  passed_over s (a ∷ items) e = ap (λ b. cond b (has s) (step s a >>= λ t. for_each is_last step t items)) e

  -- what is left is passed over
  pub items_last : (s : S) (items : List A) (old now : Shelved) → is_last s ≡ true
      → GoesBack whole (for_each is_last step s items) old now → Gathers whole IsSame old now (Ok s)
  items_last s items old now e back =
      back now (Ok s) (subst (λ (p : Plan S). Gathers p IsSame now now (Ok s)) (sym (passed_over s items e))
      (gathers_has s IsSame now s refl))

  -- nothing is left
  pub items_none : (s : S) (items : List A) (i : ℕ) (old now : Shelved) → length items ≤ i
      → GoesBack whole (for_each is_last step s (drop i items)) old now
      → Gathers whole IsSame old now (Ok s)
  items_none s items i old now le back =
      let none : for_each is_last step s (drop i items) ≡ has s = ap (for_each is_last step s) (drop_all i items le) in
      back now (Ok s) (subst (λ (p : Plan S). Gathers p IsSame now now (Ok s)) (sym none) (gathers_has s IsSame now s
      refl))

-- ---- names that are read one after another

pub behind_read : (front : List (List ℕ)) (name bytes : List ℕ) (old new : Shelved)
    → Gathers (read name) IsSame old new (Ok bytes)
    → Gathers (read_behind front name) IsSame old new (Ok (front ++ bytes ∷ []))
behind_read front name bytes old new g =
    gathers_then (read name) (λ b. has (front ++ b ∷ [])) IsSame old new new bytes (Ok (front ++ bytes ∷ [])) g
    (gathers_has (front ++ bytes ∷ []) IsSame new (front ++ bytes ∷ []) refl)

pub behind_end : (front : List (List ℕ)) (name : List ℕ) (old new : Shelved) (end : Status)
    → Gathers {T = List ℕ} (read name) IsSame old new (Err end)
    → Gathers {T = List (List ℕ)} (read_behind front name) IsSame old new (Err end)
behind_end front name old new end g = gathers_end (read name) (λ b. has (front ++ b ∷ [])) IsSame old new end g

-- one more file that is not too long
pub short_more : (files : List (List ℕ)) (bytes : List ℕ) → AreShort files → length bytes ≤ longest_file
    → AreShort (files ++ bytes ∷ [])
short_more files bytes so_far one =
    let P = λ (b : List ℕ). length b ≤ longest_file in
    All-append P files (bytes ∷ []) so_far (All-cons P bytes [] one (All-nil P))
