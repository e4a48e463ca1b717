use Rattle.cjc_types.proofs.TypeLaws.Standing as standing
use Rattle.cjc_types.proofs.type_laws.place_laws.Goals as goal

pub returns-clause-own : goal.returns-clause-own
returns-clause-own c = λ files code class method tree is at i e. standing.own_places files code class method tree is at
    i e

pub returns-clause-targets : goal.returns-clause-targets
returns-clause-targets c = λ files code class method tree is at i offset e there. standing.target_placed files code
    class method tree is at i offset e there

pub returns-clause-handlers : goal.returns-clause-handlers
returns-clause-handlers c = λ files code class method tree is h there. standing.handler_placed files code class method
    tree is h there

pub returns-clause-next : goal.returns-clause-next
returns-clause-next c = λ files code class method tree is at i e goes. standing.next_there files code class method tree
    is at i e goes

pub returns-clause-locals : goal.returns-clause-locals
returns-clause-locals c = λ files code class method tree is at i k e names. standing.local_there files code class method
    tree is at i k e names
