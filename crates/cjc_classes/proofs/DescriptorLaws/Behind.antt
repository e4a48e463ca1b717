-- Cells that are put one behind the other.
use Rattle.std.proofs.Common.{◌≡◌, ℕ, ◌+◌, ◌<◌, ◌≤◌, Bool, true, false, List, [], ◌∷◌, ◌++◌, length, get_or, drop}
use Rattle.std.proofs.Common.{map, refl, sym, ap, ◌∙◌, append-nil, Option, Some, None}
use Rattle.std.specs.Prelude.{if◌then◌else◌, unwrap_or}
use Rattle.std.specs.Map.{lookup}
use Rattle.std.proofs.lemmas.List.{drop_more, drop_all}
use Rattle.cjc_bytes.specs.declared.fault.MemberId.{MemberId}
use Rattle.cjc_components.specs.LowerNCode.PoolOrder.{same_member}
use Rattle.cjc_components.specs.Statics.{offset_from, size_of_field}
use Rattle.cjc_classes.specs.Descriptor.Working.Cells.{HasCell, Placed, StandBehind, found, offset_before, offset_of}
use Rattle.cjc_classes.specs.Descriptor.Working.Cells.{or_else}

-- one cell more
one : (old new : Placed) (field : MemberId) → HasCell old field new → (rest : List MemberId) (f : MemberId)
    → offset_before new rest f ≡ offset_before old (field ∷ rest) f
one old new field h rest f =
    ap (λ o. unwrap_or o (offset_from new.end rest f)) (h.offsets f)
    ∙ ap (λ n. unwrap_or (or_else (found old f) (if same_member field f then Some old.end else None))
    (offset_from n rest f)) h.end
    ∙ by (found old f) (same_member field f)
  where
    by : (o : Option ℕ) (b : Bool) → unwrap_or (or_else o (if b then Some old.end else None))
        (offset_from (old.end + size_of_field field) rest f) ≡ unwrap_or o (if b then old.end
        else offset_from (old.end + size_of_field field) rest f)
    by (Some k) b = refl
    by None true = refl
    by None false = refl

module _ {A : Type 0} (field_of : A → MemberId) where
  pub behind_more : (first old new : Placed) (xs : List A) (i : ℕ) (x : A) → i < length xs → x ≡ get_or xs i x
      → HasCell old (field_of x) new
      → ((rest : List MemberId) (f : MemberId) → offset_before old (map field_of (drop i xs) ++ rest) f
      ≡ offset_before first (map field_of xs ++ rest) f)
      → ((rest : List MemberId) (f : MemberId) → offset_before new (map field_of (drop (i + 1) xs) ++ rest) f
      ≡ offset_before first (map field_of xs ++ rest) f)
  behind_more first old new xs i x lt is h so_far rest f =
      let d : drop i xs ≡ x ∷ drop (i + 1) xs = drop_more xs i x lt ∙ ap (λ (y : A). y ∷ drop (i + 1) xs) (sym is) in
      one old new (field_of x) h (map field_of (drop (i + 1) xs) ++ rest) f
      ∙ ap (λ (ys : List A). offset_before old (map field_of ys ++ rest) f) (sym d)
      ∙ so_far rest f

  pub behind_all : (first old : Placed) (xs : List A) (i : ℕ) → length xs ≤ i
      → ((rest : List MemberId) (f : MemberId) → offset_before old (map field_of (drop i xs) ++ rest) f
      ≡ offset_before first (map field_of xs ++ rest) f)
      → ((rest : List MemberId) (f : MemberId) → offset_before old rest f ≡ offset_before first (map field_of xs
      ++ rest) f)
  behind_all first old xs i le so_far rest f = ap (λ (ys : List A). offset_before old (map field_of ys ++ rest) f)
      (sym (drop_all i xs le)) ∙ so_far rest f

pub fields_more : (first old new : Placed) (xs : List MemberId) (i : ℕ) (x : MemberId) → i < length xs
    → x ≡ get_or xs i x → HasCell old x new
    → ((rest : List MemberId) (f : MemberId) → offset_before old (drop i xs ++ rest) f ≡ offset_before first (xs
    ++ rest) f)
    → ((rest : List MemberId) (f : MemberId) → offset_before new (drop (i + 1) xs ++ rest) f ≡ offset_before first (xs
    ++ rest) f)
fields_more first old new xs i x lt is h so_far rest f =
    let d : drop i xs ≡ x ∷ drop (i + 1) xs = drop_more xs i x lt ∙ ap (λ (y : MemberId). y ∷ drop (i + 1) xs) (sym is)
    in
    one old new x h (drop (i + 1) xs ++ rest) f
    ∙ ap (λ (ys : List MemberId). offset_before old (ys ++ rest) f) (sym d)
    ∙ so_far rest f

pub fields_all : (first old : Placed) (xs : List MemberId) (i : ℕ) → length xs ≤ i
    → ((rest : List MemberId) (f : MemberId) → offset_before old (drop i xs ++ rest) f ≡ offset_before first (xs
    ++ rest) f)
    → ((rest : List MemberId) (f : MemberId) → offset_before old rest f ≡ offset_before first (xs ++ rest) f)
fields_all first old xs i le so_far rest f = ap (λ (ys : List MemberId). offset_before old (ys ++ rest) f)
    (sym (drop_all i xs le)) ∙ so_far rest f

-- all of an image, from nothing on
pub all_behind : (a b c d e : Placed) (xs ys zs ws : List MemberId) → a.offsets ≡ [] → a.end ≡ 0 → StandBehind a xs b
    → StandBehind b ys c → StandBehind c zs d → StandBehind d ws e
    → (f : MemberId) → offset_of e f ≡ offset_from 0 (xs ++ (ys ++ (zs ++ ws))) f
all_behind a b c d e xs ys zs ws none start h1 h2 h3 h4 f =
    h4 [] f
    ∙ ap (λ (rest : List MemberId). offset_before d rest f) (append-nil ws)
    ∙ h3 ws f
    ∙ h2 (zs ++ ws) f
    ∙ h1 (ys ++ (zs ++ ws)) f
    ∙ ap (λ es. unwrap_or (lookup (same_member f) es) (offset_from a.end (xs ++ (ys ++ (zs ++ ws))) f)) none
    ∙ ap (λ n. offset_from n (xs ++ (ys ++ (zs ++ ws))) f) start
