-- The fields of new objects, as look-ups answer them.
use Rattle.std.proofs.Common.{◌≡◌, List, map, ap, refl}
use Rattle.std.specs.Prelude.{Option, Some, None, option_map}
use Rattle.cjc_script.specs.Bytes.declared.fault.MemberId.{MemberId}
use Rattle.cjc_script.specs.declared.report.FieldValue.{FieldValue}
use Rattle.cjc_jvm_semantics.specs.Effects.{Effect, Stick, fresh_field, with_some}

pub made_some : (o : Option (List MemberId)) (fields : List FieldValue)
    → Some fields ≡ option_map (λ ids. map fresh_field ids) o → (go : List FieldValue → Effect)
    → with_some o (λ ids. go (map fresh_field ids)) ≡ go fields
made_some None fields e go = cc
made_some (Some ids) fields e go = let same : map fresh_field ids ≡ fields = cc in ap go same

pub made_none : (o : Option (List MemberId)) → None ≡ option_map (λ ids. map fresh_field ids) o
    → (go : List MemberId → Effect) → with_some o go ≡ Stick
made_none None e go = refl
made_none (Some ids) e go = cc
