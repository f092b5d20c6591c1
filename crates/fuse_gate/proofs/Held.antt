-- What nodes and handles name is what fids name.
use Rattle.std.proofs.Common.{◌≡◌, ℕ, ◌+◌, ◌<◌, Bool, true, false, cond, List, [], ◌∷◌, refl, sym}
use Rattle.std.proofs.Common.{ap, ◌∙◌, subst, Option, Some, None, arith, nat_lt, ◌⊎◌, inl, inr}
use Rattle.std.proofs.Common.{⊎_elim}
use Rattle.std.specs.Prelude.{find}
use Rattle.std.proofs.lemmas.Bool.{false≢true, cases_eq}
use Rattle.std.proofs.lemmas.Bool.Decides.{nat_tests}
use Rattle.std.specs.Ordering.{nat_cmp}
use Rattle.std.specs.FinMap.{FinMap, get, entries}
use Rattle.tree_model.specs.Tree.{weigh}
use Rattle.tree_model.proofs.Counting.{weigh-remove}
use Rattle.tree_machine.proofs.First.{first_entry}
use Rattle.tree_machine.specs.State.{is_named, node_weight, handle_weight, Node as MachineNode}
use Rattle.tree_machine.specs.State.{Handle as MachineHandle}
use Rattle.fid_model.specs.Fids.{Fid, Fids, is_held, fid_weight, closed}
use Rattle.fuse_gate.specs.Mapped.{mapped}
use Rattle.fuse_gate.specs.Standing.{node_of, handle_of, fid_at, opened}
use Rattle.fuse_gate.specs.declared.gate.Node.{Node}
use Rattle.fuse_gate.specs.declared.gate.Handle.{Handle}
use Rattle.fuse_gate.proofs.MappedLemmas.{mapped_from, mapped_at}

-- ---- weights

module _ {X : Type 0} (w : X → ℕ) where
  weighs : ℕ × X → Bool
  weighs e = nat_lt 0 (w e.1)

  no_weight_more : (e : ℕ × X) (es : List (ℕ × X)) → (find weighs es ≡ None → weigh w es ≡ 0)
      → (b : Bool) → nat_lt 0 (w e.1) ≡ b → cond b (Some e) (find weighs es) ≡ None
      → w e.1 + weigh w es ≡ 0
  no_weight_more e es rest true is h = absurd cc
  no_weight_more e es rest false is h = let zero = rest h in let none : w e.1 ≡ 0 =
      grind (arith, nat_tests) in omega arith

  no_weight : (es : List (ℕ × X)) → find weighs es ≡ None → weigh w es ≡ 0
  unfolding weighs
  no_weight [] h = refl
  no_weight (e ∷ es) h = no_weight_more e es (no_weight es) (nat_lt 0 (w e.1)) refl h

  -- where there is a weight, a value has some of it
  pub some_weight : (m : FinMap nat_cmp X) → 0 < weigh w (entries m) → (k : ℕ) × (v : X)
      × (get m k ≡ Some v) × (0 < w v)
  unfolding weighs
  some_weight m h = by_found (find weighs (entries m)) refl where
    by_found : (o : Option (ℕ × X)) → find weighs (entries m) ≡ o → (k : ℕ) × (v : X)
        × (get m k ≡ Some v) × (0 < w v)
    by_found None is = absurd (let none = no_weight (entries m) is in omega arith)
    by_found (Some e) is = let at = first_entry weighs m e is
        in (e.0, e.1, at.0, grind (arith, nat_tests))

  pub weight_at : (m : FinMap nat_cmp X) (k : ℕ) (v : X) → get m k ≡ Some v → 0 < w v
      → 0 < weigh w (entries m)
  weight_at m k v at h = let step = weigh-remove w m k v at in omega arith

pub same_bool : (a b : Bool) → (a ≡ true → b ≡ true) → (b ≡ true → a ≡ true) → a ≡ b
same_bool true b f g = sym (f refl)
same_bool false true f g = absurd (false≢true (g refl))
same_bool false false f g = refl

tested : (n : ℕ) → nat_lt 0 n ≡ true → 0 < n
tested n h = grind (arith, nat_tests)

pub test : (n : ℕ) → 0 < n → nat_lt 0 n ≡ true
test n h = grind (arith, nat_tests)

sum_pos : (a b : ℕ) → 0 < a + b → (0 < a) ⊎ (0 < b)
sum_pos a b h = ⊎_elim (λ e. inr (omega arith)) (λ ne. inl (omega arith)) (cases_eq a 0)

module _ (nodes : FinMap nat_cmp Node) (handles : FinMap nat_cmp Handle) (fids : Fids)
    (are : (q : ℕ) → get fids q ≡ fid_at (get nodes q) (get handles q))
    (apart : (q : ℕ) (n : Node) → get nodes q ≡ Some n → get handles q ≡ None) (i : ℕ) where
  abbrev nodes_weigh : ℕ
  nodes_weigh = weigh (node_weight i) (entries (mapped node_of nodes))

  abbrev handles_weigh : ℕ
  handles_weigh = weigh (handle_weight i) (entries (mapped handle_of handles))

  from_fid : (q : ℕ) (f : Fid) → get fids q ≡ Some f → 0 < fid_weight i f → (0 < nodes_weigh)
      ⊎ (0 < handles_weigh)
  from_fid q f at h = by_both (get nodes q) (get handles q) refl refl where
    by_both : (n : Option Node) (o : Option Handle) → get nodes q ≡ n → get handles q ≡ o
        → (0 < nodes_weigh) ⊎ (0 < handles_weigh)
    by_both None None a b = absurd (let none : fid_at None None ≡ Some f = ap (fid_at None) (sym b)
        ∙ ap (λ n. fid_at n (get handles q)) (sym a) ∙ sym (are q) ∙ at in cc)
    by_both None (Some o) a b =
        let is : fid_at None (Some o) ≡ Some f = ap (fid_at None) (sym b)
        ∙ ap (λ n. fid_at n (get handles q)) (sym a) ∙ sym (are q) ∙ at in
        let same : fid_weight i f ≡ handle_weight i (handle_of o) =
        (let e : opened o ≡ f = cc in ap (λ (x : Fid). fid_weight i x) (sym e)) in
        inr (weight_at (handle_weight i) (mapped handle_of handles) q (handle_of o)
        (mapped_at handle_of handles q o b) (subst (λ n. 0 < n) same h))
    by_both (Some n) o a b =
        let is : fid_at (Some n) o ≡ Some f = ap (fid_at (Some n)) (sym b)
        ∙ ap (λ n. fid_at n (get handles q)) (sym a) ∙ sym (are q) ∙ at in
        let same : fid_weight i f ≡ node_weight i (node_of n) =
        (let e : closed n.ino ≡ f = cc in ap (λ (x : Fid). fid_weight i x) (sym e)) in
        inl (weight_at (node_weight i) (mapped node_of nodes) q (node_of n)
        (mapped_at node_of nodes q n a) (subst (λ n. 0 < n) same h))

  from_node : 0 < nodes_weigh → 0 < weigh (fid_weight i) (entries fids)
  from_node h =
      let s = some_weight (node_weight i) (mapped node_of nodes) h in
      let n = mapped_from node_of nodes s.0 s.1 s.2 in
      let w : 0 < node_weight i (node_of n.0) =
      subst (λ (v : MachineNode). 0 < node_weight i v) (sym n.2) s.3 in
      weight_at (fid_weight i) fids s.0 (closed n.0.ino)
      (are s.0 ∙ ap (λ o. fid_at o (get handles s.0)) n.1) w

  from_handle : 0 < handles_weigh → 0 < weigh (fid_weight i) (entries fids)
  from_handle h =
      let s = some_weight (handle_weight i) (mapped handle_of handles) h in
      let n = mapped_from handle_of handles s.0 s.1 s.2 in
      let w : 0 < handle_weight i (handle_of n.0) =
      subst (λ (v : MachineHandle). 0 < handle_weight i v) (sym n.2) s.3 in
      by_node s.0 n.0 n.1 w (get nodes s.0) refl where
        by_node : (q : ℕ) (n : Handle) → get handles q ≡ Some n → 0 < handle_weight i (handle_of n)
            → (o : Option Node) → get nodes q ≡ o → 0 < weigh (fid_weight i) (entries fids)
        by_node q n at w None is = weight_at (fid_weight i) fids q (opened n)
            (are q ∙ ap (λ o. fid_at o (get handles q)) is ∙ ap (fid_at None) at) w
        by_node q n at w (Some m) is = absurd
            (let none : None ≡ Some n = sym (apart q m is) ∙ at in cc)

  pub named_is_held : is_named (mapped node_of nodes) (mapped handle_of handles) i ≡ is_held fids i
  named_is_held = same_bool _ _
      (λ h. test _ (⊎_elim from_node from_handle (sum_pos _ _ (tested _ h))))
      (λ h. let s = some_weight (fid_weight i) fids (tested _ h) in test _
      (⊎_elim (λ a. omega arith) (λ b. omega arith) (from_fid s.0 s.1 s.2 s.3)))
