-- BATCH_FORGET, pair by pair.
use Rattle.std.proofs.Common.{◌≡◌, ℕ, zero, suc, ◌+◌, ◌<◌, ◌≤◌, List, [], ◌∷◌, ◌++◌, length, take}
use Rattle.std.proofs.Common.{drop, refl, sym, ap, ◌∙◌, subst, arith, ⊎_elim}
use Rattle.tree_model.specs.Tree.{Tree}
use Rattle.tree_model.specs.Good.{IsGoodTree}
use Rattle.tree_machine.specs.State.{MachineState, kept_state}
use Rattle.tree_machine.specs.Forgetting.{forgotten, all_forgotten, pair_of, pairs_of}
use Rattle.tree_machine.specs.Messages.{gone}
use Rattle.tree_machine.proofs.Forgetting.{forgotten_fewer, all_fewer}
use Rattle.tree_machine.proofs.Batches.{all_rest, kept_between, gone_between}
use Rattle.tree_machine.proofs.Pairs.{no_pair, one_pair}
use Rattle.tree_machine.specs.Faults.{IsEither, IsAfterFront}
use Rattle.fid_model.specs.Fids.{IsGoodServer}
use Rattle.fid_model.specs.Moments.{Moment, Keeps}
use Rattle.fid_model.proofs.Moments.{keeps_refl, keeps_trans}
use Rattle.fuse_gate.specs.Standing.{IsInStep, machine_of}
use Rattle.fuse_gate.specs.Steps.{LetsGo}
use Rattle.fuse_gate.specs.declared.gate.Gate.{Gate}
use Rattle.fuse_gate.proofs.Standings.{stands_kept}

-- ---- lists

take_more : {A : Type 0} (n : ℕ) (xs : List A) (x : A) (rest : List A) → drop n xs ≡ x ∷ rest
    → take (suc n) xs ≡ take n xs ++ x ∷ []
take_more zero [] x rest h = absurd cc
take_more zero (y ∷ ys) x rest h = (let same : y ≡ x = cc in ap (λ z. z ∷ []) same)
take_more (suc n) [] x rest h = absurd cc
take_more (suc n) (y ∷ ys) x rest h = ap (λ zs. y ∷ zs) (take_more n ys x rest h)

drop_more : {A : Type 0} (n : ℕ) (xs : List A) (x : A) (rest : List A) → drop n xs ≡ x ∷ rest
    → drop (suc n) xs ≡ rest
drop_more zero [] x rest h = absurd cc
drop_more zero (y ∷ ys) x rest h = (let same : ys ≡ rest = cc in same)
drop_more (suc n) [] x rest h = absurd cc
drop_more (suc n) (y ∷ ys) x rest h = drop_more n ys x rest h

take_whole : {A : Type 0} (n : ℕ) (xs : List A) → drop n xs ≡ [] → take n xs ≡ xs
take_whole zero [] h = refl
take_whole zero (y ∷ ys) h = absurd cc
take_whole (suc n) [] h = refl
take_whole (suc n) (y ∷ ys) h = ap (λ zs. y ∷ zs) (take_whole n ys h)

-- ---- one pair more

last_forgotten : (m : MachineState) (ps : List (ℕ × ℕ)) (p : ℕ × ℕ)
    → all_forgotten m (ps ++ p ∷ []) ≡ forgotten (all_forgotten m ps) p.0 p.1
last_forgotten m [] p = refl
last_forgotten m (q ∷ ps) p = last_forgotten (forgotten m q.0 q.1) ps p

module _ (m : MachineState) (good : IsGoodTree m.tree) (ps : List (ℕ × ℕ)) (p : ℕ × ℕ) where
  abbrev so_far : MachineState
  so_far = all_forgotten m ps

  tree_good : IsGoodTree so_far.tree
  tree_good = subst IsGoodTree (sym (ap (λ (x : MachineState). x.tree) (all_rest m ps))) good

  between : kept_state (forgotten (kept_state so_far) p.0 p.1) ≡ kept_state
      (all_forgotten m (ps ++ p ∷ []))
  between = kept_between so_far (p ∷ []) tree_good ∙ ap kept_state (sym (last_forgotten m ps p))

  number : gone m (all_forgotten m (ps ++ p ∷ [])) ≡ gone m so_far + gone (kept_state so_far)
      (forgotten (kept_state so_far) p.0 p.1)
  number =
      let last = ap (λ (x : MachineState). gone m x) (last_forgotten m ps p) in
      let same = gone_between so_far (p ∷ []) in
      let fewer = all_fewer m ps in
      let less = forgotten_fewer so_far p.0 p.1 in
      omega (arith, last, same, fewer, less)

-- so many pairs of a batch were counted down, and these bytes are left
pub record Batching (g0 : Gate) (n0 : Moment) (g1 : Gate) (n1 : Moment) (pairs rest : List ℕ) : Type
    0 where
  pub done : ℕ
  pub left : drop done (pairs_of pairs) ≡ pairs_of rest
  pub went : LetsGo (all_forgotten (machine_of g0 n0.state) (take done (pairs_of pairs)))
      (gone (machine_of g0 n0.state) (all_forgotten (machine_of g0 n0.state)
      (take done (pairs_of pairs)))) (g0, n0) (g1, n1)
  pub kept : Keeps n0 n1

pub Batching-none : (g : Gate) (n : Moment) (pairs : List ℕ) → IsInStep g n.state
    → IsGoodServer n.state → Batching g n g n pairs pairs
Batching-none g n pairs st good = record {
  done = 0;
  left = refl;
  went = record {
    stands = st;
    state = sym (stands_kept st good);
    messages =
        record { frames = omega arith; asked = omega arith };
  };
  kept = keeps_refl n;
}

module _ {g0 : Gate} {n0 : Moment} {g1 : Gate} {n1 : Moment} {pairs rest : List ℕ}
    (good : IsGoodTree n0.state.tree) (b : Batching g0 n0 g1 n1 pairs rest) where
  abbrev m0 : MachineState
  m0 = machine_of g0 n0.state

  abbrev m1 : MachineState
  m1 = machine_of g1 n1.state

  abbrev ps : List (ℕ × ℕ)
  ps = pairs_of pairs

  module _ (p : ℕ × ℕ) (long : 16 ≤ length rest) (is : p ≡ pair_of (take 16 rest)) where
    next_is : drop b.done ps ≡ p ∷ pairs_of (drop 16 rest)
    next_is = b.left ∙ one_pair rest long ∙ ap (λ (q : ℕ × ℕ). q ∷ pairs_of (drop 16 rest)) (sym is)

    more_taken : take (suc b.done) ps ≡ take b.done ps ++ p ∷ []
    more_taken = take_more b.done ps p (pairs_of (drop 16 rest)) next_is

    one_state : kept_state (forgotten m1 p.0 p.1) ≡ kept_state
        (all_forgotten m0 (take (suc b.done) ps))
    one_state =
        ap (λ (x : MachineState). kept_state (forgotten x p.0 p.1)) b.went.state
        ∙ between m0 good (take b.done ps) p
        ∙ ap (λ qs. kept_state (all_forgotten m0 qs)) (sym more_taken)

    one_number : gone m0 (all_forgotten m0 (take (suc b.done) ps)) ≡ gone m0
        (all_forgotten m0 (take b.done ps)) + gone m1 (forgotten m1 p.0 p.1)
    one_number =
        ap (λ qs. gone m0 (all_forgotten m0 qs)) more_taken
        ∙ number m0 good (take b.done ps) p
        ∙ ap (λ (x : MachineState). gone m0 (all_forgotten m0 (take b.done ps)) + gone x
        (forgotten x p.0 p.1)) (sym b.went.state)

    pub Batching-more : (g2 : Gate) (n2 : Moment)
        → LetsGo (forgotten m1 p.0 p.1) (gone m1 (forgotten m1 p.0 p.1)) (g1, n1) (g2, n2)
        → Keeps n1 n2 → Batching g0 n0 g2 n2 pairs (drop 16 rest)
    Batching-more g2 n2 l kept =
        let before = b.went.messages.frames in
        let asked = b.went.messages.asked in
        let more = l.messages.frames in
        let handed = l.messages.asked in
        record {
          done = suc b.done;
          left = drop_more b.done ps p (pairs_of (drop 16 rest)) next_is;
          went = record {
            stands = l.stands;
            state = l.state ∙ one_state;
            messages = record {
              frames = omega (arith, before, more, one_number);
              asked =
                  omega (arith, asked, handed, one_number);
            };
          };
          kept = keeps_trans b.kept kept;
        }

    -- no memory in a pair
    pub Batching-part : (t : Tree) → IsEither n1.state.tree (kept_state (forgotten m1 p.0 p.1)).tree
        t → IsAfterFront (λ qs. (kept_state (all_forgotten m0 qs)).tree) ps t
    Batching-part t part = ⊎_elim
        (λ e. (b.done, e ∙ ap (λ (x : MachineState). x.tree) b.went.state))
        (λ e. (suc b.done, e ∙ ap (λ (x : MachineState). x.tree) one_state)) part

  pub Batching-whole : length rest < 16 → LetsGo (all_forgotten m0 ps)
      (gone m0 (all_forgotten m0 ps)) (g0, n0) (g1, n1)
  Batching-whole short =
      subst (λ qs. LetsGo (all_forgotten m0 qs) (gone m0 (all_forgotten m0 qs)) (g0, n0) (g1, n1))
      (take_whole b.done ps (b.left ∙ no_pair rest short)) b.went
