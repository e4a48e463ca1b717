-- What a sink means, and what a put into it does.
use Rattle.std.specs.Prelude.{◌≡◌, ℕ, ◌≤◌, List, ◌++◌, take, Option, Some, IfSome, Result, Ok, Err}
use Rattle.cjc_shelf.specs.Count.{Rose}
use Rattle.cjc_shelf.specs.declared.sink.SinkFailed.{SinkFailed}

-- What is known of a sink at one moment.
pub record Sunk : Type 0 where
  -- what was put, where it tells it
  pub written : Option (List ℕ)
  -- how often the outside has failed
  pub faults : ℕ

-- Why a put ended as it did, over each sink: one that failed is counted.
abbrev pub PutCause : {T : Type 0} → Sunk → Sunk → Result T SinkFailed → Type 0
PutCause old new (Ok done) = Unit {0}
PutCause old new (Err failed) = Rose old.faults new.faults

-- all of the bytes are appended, or a prefix of them
abbrev pub PutTold : {T : Type 0} → List ℕ → List ℕ → Sunk → Result T SinkFailed → Type 0
PutTold written bytes new (Ok done) = new.written ≡ Some (written ++ bytes)
PutTold written bytes new (Err failed) = (count : ℕ) × (new.written ≡ Some (written ++ take count bytes))

-- A put ended so: the count of faults doesn't fall, and all or, at a fault, a prefix of the bytes is appended.
pub record Puts {T : Type 0} (bytes : List ℕ) (old new : Sunk) (result : Result T SinkFailed) : Type 0 where
  pub goes_on : old.faults ≤ new.faults
  pub cause : PutCause old new result
  pub told : IfSome old.written (λ written. PutTold written bytes new result)
