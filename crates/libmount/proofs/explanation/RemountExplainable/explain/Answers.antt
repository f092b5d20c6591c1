-- Two answers of the probe, one after the other.
use Rattle.std.proofs.Common.{◌∷◌, ◌++◌, [], List, ℕ}
use Rattle.std.specs.Prelude.{codes}
use Rattle.std.proofs.lemmas.Result.{IfOk-weaker}
use Rattle.libmount.specs.Explanations.{remount_explanation, listed}
use Rattle.libmount.proofs.FactLemmas.{explains_both, explains_seen, explains_told}
use Rattle.libmount.proofs.explanation.RemountExplainable.explain.Goals as goal

pub returns-clause-told : goal.returns-clause-told
unfolding remount_explanation
returns-clause-told g c =
    let all = explains_both {C = List ℕ} _ _ _ _
    (λ s t. listed ((codes "path" ++ (codes ": " ++ s)) ∷ t ∷ [])) _ _ _ _ _
    c.exists-path.ensures.facts (explains_told _ _ _ _ _ _
    (rw c.path.ensures at c.exists-path.ensures.told))
    (explains_told _ _ _ _ _ _ c.user-user.ensures.told) in
    IfOk-weaker c.tell_path.result _ _ (λ text is. explains_seen _ _ (λ t. t) _ text.items _ _ is
    all) c.tell_path.ensures
