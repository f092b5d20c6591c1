-- What every call keeps, several calls keep; and what a fault leaves of a state whose tree stays.
use Rattle.std.proofs.Common.{◌≡◌, ◌⊎◌, ℕ, Result, Err, IsTrue, refl, sym, ap, ◌∙◌, subst, arith}
use Rattle.std.proofs.Common.{inl, inr, ⊎_elim}
use Rattle.port_base.specs.Faults.{Rose}
use Rattle.port_base.specs.declared.errno.TheConstants.{EIO}
use Rattle.tree_model.specs.Tree.{Tree}
use Rattle.fid_model.specs.Fids.{ServerState, IsTreeAlone}
use Rattle.fid_model.specs.Moments.{Moment, Keeps, Asks, Untouched}

pub keeps_refl : (m : Moment) → Keeps m m
keeps_refl m = record {
  fixed = refl;
  sized = refl;
  rises = omega arith;
  steady = refl;
  steadily =
      λ t. refl;
}

pub keeps_trans : {a b c : Moment} → Keeps a b → Keeps b c → Keeps a c
keeps_trans h k = record {
  fixed = k.fixed ∙ h.fixed;
  sized = k.sized ∙ h.sized;
  rises = omega (arith, k.rises, h.rises);
  steady = k.steady ∙ h.steady;
  steadily = λ t. k.steadily (subst IsTrue (sym h.steady) t) ∙ h.steadily t;
}

-- a state is as it was where its tree is, and nothing else changed
pub same_state : (s0 s1 : ServerState) → IsTreeAlone s0 s1 → s1.tree ≡ s0.tree → s1 ≡ s0
same_state s0 s1 alone same = alone ∙ ap (λ (t : Tree). let x : ServerState =
    record s0 { tree = t } in x) same

pub same_alone : (s0 s1 : ServerState) → s1 ≡ s0 → IsTreeAlone s0 s1
same_alone s0 s1 same = same ∙ sym (ap (λ (t : Tree). let x : ServerState =
    record s0 { tree = t } in x) (ap (λ (x : ServerState). x.tree) same))

-- a fault that leaves the tree leaves the state
pub asks_same : {A : Type 0} (told : Result A ℕ × ServerState) (answer : Result A ℕ)
    (s0 s1 : ServerState) (f0 f1 : ℕ) → Asks told Untouched answer s0 s1 f0 f1
    → ((answer, s1) ≡ told) ⊎ (Rose f0 f1 × (answer ≡ Err EIO) × (s1 ≡ s0))
asks_same told answer s0 s1 f0 f1 asks = ⊎_elim (λ e. inl e)
    (λ k. inr (k.0, k.1, same_state s0 s1 k.2 k.3)) asks
