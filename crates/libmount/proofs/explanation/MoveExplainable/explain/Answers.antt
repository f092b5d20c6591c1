-- Two answers of the probe, one after the other.
use Rattle.std.proofs.Common.{◌∷◌, ◌++◌, [], List, ℕ}
use Rattle.std.specs.Prelude.{codes}
use Rattle.std.proofs.lemmas.Result.{IfOk-weaker}
use Rattle.libmount.specs.Explanations.{relocation_explanation, listed}
use Rattle.libmount.proofs.FactLemmas.{explains_both, explains_seen, explains_told}
use Rattle.libmount.proofs.explanation.MoveExplainable.explain.Goals as goal

pub returns-clause-told : goal.returns-clause-told
unfolding relocation_explanation
returns-clause-told g c =
    let all = explains_both {C = List ℕ} _ _ _ _
    (λ s t. listed ((codes "source" ++ (codes ": " ++ s))
    ∷ (codes "target" ++ (codes ": " ++ t)) ∷ [])) _ _ _ _ _
    c.exists-source.ensures.facts (explains_told _ _ _ _ _ _
    (rw c.source.ensures at c.exists-source.ensures.told))
    (explains_told _ _ _ _ _ _ (rw c.target.ensures at c.exists-target.ensures.told)) in
    IfOk-weaker c.tell_paths.result _ _ (λ text is. explains_seen _ _ (λ t. t) _ text.items _ _ is
    all) c.tell_paths.ensures
