-- Two theorems joined: what agrees with a machine agrees with one whose look-ups are the same under other names and
-- places.
use Rattle.std.proofs.Common.{ℕ, sym}
use Rattle.cjc_card_semantics.specs.Bytecode.Renaming.{Knows}
use Rattle.cjc_script.specs.declared.report.Report.{Report}
use Rattle.cjc_card_semantics.specs.Bytecode.Machine.{Setting, State}
use Rattle.cjc_card_semantics.specs.Bytecode.Machine
use Rattle.cjc_card_semantics.specs.Bytecode.Alike.{Names, state_as, KnownState, RunsAgree, RunsStickAlike}
use Rattle.cjc_card_semantics.specs.Bytecode.Runs.{Agree}
use Rattle.cjc_card_semantics.proofs.BytecodeLaws.Follows.{agree_through}

pub agree_renamed : {P C F S M X Q D G T N Y : Type 0} (n : Names P C F S M X Q D G T N Y) (known : Knows C F S X)
    (KnownCode : P → Type 0) (KnownMethod : M → Type 0) (set : Setting P C F S M X) (set' : Setting Q D G T N Y)
    (most : ℕ) (one : ℕ → Report) (s : State P C F X)
    → RunsAgree n known KnownCode KnownMethod set set' → KnownState n known KnownCode KnownMethod s
    → Agree most one (λ k. Machine.run set k s) → Agree most one (λ k. Machine.run set' k (state_as n s))
agree_renamed n known KnownCode KnownMethod set set' most one s same ks h = agree_through h (λ k free. same k s ks free)

-- the same the other way, where both are stuck alike
pub agree_renamed_back : {P C F S M X Q D G T N Y : Type 0} (n : Names P C F S M X Q D G T N Y) (known : Knows C F S X)
    (KnownCode : P → Type 0) (KnownMethod : M → Type 0) (set : Setting P C F S M X) (set' : Setting Q D G T N Y)
    (most : ℕ) (one : ℕ → Report) (s : State P C F X)
    → RunsAgree n known KnownCode KnownMethod set set' → RunsStickAlike n known KnownCode KnownMethod set set'
    → KnownState n known KnownCode KnownMethod s → Agree most one (λ k. Machine.run set' k (state_as n s))
    → Agree most one (λ k. Machine.run set k s)
agree_renamed_back n known KnownCode KnownMethod set set' most one s same stick ks h =
    agree_through h (λ k free. sym (same k s ks (stick k s ks free)))
