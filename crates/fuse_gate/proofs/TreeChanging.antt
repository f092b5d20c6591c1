-- A request that changes the tree by one message, and nothing else.
use Rattle.std.proofs.Common.{◌≡◌, ℕ, ◌≤◌, Bool, refl, sym, ap, ◌∙◌, subst, Option, None}
use Rattle.std.proofs.Common.{Result, Ok, Err, inl, inr, ⊎_elim}
use Rattle.port_base.specs.Faults.{Rose}
use Rattle.port_base.specs.declared.errno.TheConstants.{EIO}
use Rattle.tree_model.specs.Good.{IsGoodTree}
use Rattle.tree_model.specs.Tree.{Tree, keep}
use Rattle.tree_model.specs.Settings.{Settings}
use Rattle.fuse_wire.specs.Request.{Request}
use Rattle.tree_machine.specs.State.{MachineState, kept_state, is_named}
use Rattle.tree_machine.specs.Replies.{Reply}
use Rattle.tree_machine.specs.Replies.Reply.{Refused, Done}
use Rattle.tree_machine.specs.Refusals.{refused_or}
use Rattle.tree_machine.specs.Core.{changed_by}
use Rattle.tree_machine.specs.Requests.{refusal_before, effect_of}
use Rattle.tree_machine.specs.Messages.{effect_messages}
use Rattle.tree_machine.specs.Faults.{PartOf}
use Rattle.tree_machine.specs.Good.{IsGoodMachine}
use Rattle.tree_machine.specs.Kinds.{KeepsKinds}
use Rattle.tree_machine.proofs.KindsKept.{Leaves, leaves_kinds, stays_kind}
use Rattle.tree_machine.proofs.Setting.{Keeps as KeepsAll, set_to}
use Rattle.tree_machine.proofs.Directories.{changed_good}
use Rattle.fid_model.specs.Fids.{ServerState, IsGoodServer, is_held}
use Rattle.fid_model.specs.Moments.{Moment, AskedOne, Asks}
use Rattle.p9_client.specs.Changing.{changed, OldOrTold}
use Rattle.fuse_gate.specs.Standing.{IsInStep, ArePaired, machine_of, piece_of}
use Rattle.fuse_gate.specs.Steps.{Serves, ServesRequest}
use Rattle.fuse_gate.specs.Changes.{one_sent}
use Rattle.fuse_gate.specs.declared.gate.TheConstants.{LEAST_MSIZE}
use Rattle.fuse_gate.specs.declared.gate.Gate.{Gate}
use Rattle.fuse_gate.proofs.Standings.{named_held, sent_stands, stands_kept}
use Rattle.fuse_gate.proofs.Changing.{tree_paired}
use Rattle.fuse_gate.proofs.Serving.{SentAlone, one_alone, hurt, served_in_part}

-- in step with another tree, in which all that was stored keeps its kind
pub stands_with : {g : Gate} {s : ServerState} → IsInStep g s → (u : Tree) → KeepsAll s.tree u
    → IsInStep g (record s { tree = u })
stands_with {g = g} {s = s} st u k = record {
  good = set_to s.settings (machine_of g s) st.good u k;
  paired = tree_paired g s u st (stays_kind s.tree u k.kinds);
  roomy = st.roomy;
}

-- the reply without fields, or the refusal
abbrev pub done_reply : Result (Unit {0}) ℕ → Reply
done_reply (Ok u) = Done
done_reply (Err e) = Refused e

-- such a request: no refusal stands before the message, and what it tells is told of the tree, in
-- which all that is named stays
pub record ChangesTree (g : Gate) (n : Moment) (node : ℕ) (r : Request)
    (told : Result (Unit {0} × Tree) ℕ) : Type 0 where
  pub none : refusal_before n.state.settings (machine_of g n.state) node r ≡ None
  pub effect : effect_of n.state.settings (machine_of g n.state) node r
      ≡ changed_by (machine_of g n.state) told
  pub one : effect_messages (piece_of n.state) n.state.settings (machine_of g n.state) node r ≡ 1
  pub leaves : (u : Tree) → told ≡ Ok (tt, u) → IsGoodTree u
      × Leaves (is_named (machine_of g n.state).nodes (machine_of g n.state).handles) n.state.tree u

-- what nodes and handles name is what fids name
pub held_same : {g : Gate} (n : Moment) (st : IsInStep g n.state)
    → is_named (machine_of g n.state).nodes (machine_of g n.state).handles ≡ is_held n.state.fids
held_same {g = g} n st = λ j i. named_held g n.state st.paired st.good.apart i j

module _ {g : Gate} (n : Moment) (st : IsInStep g n.state) (good : IsGoodServer n.state)
    (node : ℕ) (r : Request) (told : Result (Unit {0} × Tree) ℕ) (w : ChangesTree g n node r told)
  where
    abbrev m : MachineState
    m = machine_of g n.state

    -- ---- after the message

    abbrev stand : Result (Unit {0} × Tree) ℕ → ServerState
    stand c = (changed n.state (λ u. u) c).1

    abbrev seen : Result (Unit {0} × Tree) ℕ → MachineState
    seen c = kept_state (changed_by m c).1

    -- both have the same tree
    same_state : (c : Result (Unit {0} × Tree) ℕ) → kept_state m ≡ m
        → machine_of g (stand c) ≡ seen c
    same_state (Ok (tt, u)) kept =
        ap (λ (h : ℕ → Bool). let x : MachineState = record m { tree = keep h u } in x)
        (sym (held_same n st))
    same_state (Err e) kept = sym kept

    after_paired : (c : Result (Unit {0} × Tree) ℕ) → told ≡ c → ArePaired g (stand c)
    after_paired (Ok (tt, u)) is =
        tree_paired g n.state (keep (is_held n.state.fids) u) st
        (subst (λ (h : ℕ → Bool). KeepsKinds n.state.tree (keep h u)) (held_same n st)
        (leaves_kinds (is_named m.nodes m.handles) n.state.tree u (w.leaves u is).1))
    after_paired (Err e) is = st.paired

    same_settings : (c : Result (Unit {0} × Tree) ℕ) → (stand c).settings ≡ n.state.settings
    same_settings (Ok (tt, u)) = refl
    same_settings (Err e) = refl

    same_size : (c : Result (Unit {0} × Tree) ℕ) → (stand c).msize ≡ n.state.msize
    same_size (Ok (tt, u)) = refl
    same_size (Err e) = refl

    stands_after : IsInStep g (stand told)
    stands_after = record {
      good = subst (λ (x : Settings). IsGoodMachine x (machine_of g (stand told)))
          (sym (same_settings told))
          (subst (IsGoodMachine n.state.settings) (sym (same_state told (stands_kept st good)))
          (changed_good n.state.settings m st.good told w.leaves));
      paired = after_paired told refl;
      roomy = subst (λ (size : ℕ). LEAST_MSIZE ≤ size) (sym (same_size told)) st.roomy;
    }

    abbrev part : Tree → Type 0
    part t = PartOf n.state.settings m node (Ok r) t

    -- all was done
    part_after : (t : Tree) → t ≡ (stand told).tree → part t
    part_after t is = inl (inr (is
        ∙ ap (λ (x : MachineState). x.tree) (same_state told (stands_kept st good))
        ∙ ap (λ (x : Reply × MachineState). (kept_state x.1).tree) (sym w.effect)
        ∙ ap (λ (o : Option ℕ). (kept_state
        (refused_or m o (effect_of n.state.settings m node r)).1).tree)
        (sym w.none)))

    view_of : (c : Result (Unit {0} × Tree) ℕ)
        → done_reply (changed n.state (λ u. u) c).0 ≡ (changed_by m c).0
    view_of (Ok (tt, u)) = refl
    view_of (Err e) = refl

    tree_alone : (c : Result (Unit {0} × Tree) ℕ)
        → (let x : ServerState = record n.state { tree = (stand c).tree } in x) ≡ stand c
    tree_alone (Ok (tt, u)) = refl
    tree_alone (Err e) = refl

    module _ (g1 : Gate) (n1 : Moment) (sent : g1 ≡ one_sent g) (asked : AskedOne n n1) where
      alone : SentAlone 1 g n g1 n1
      alone = one_alone g1 n1 sent asked

      module _ (same : n1.state ≡ stand told) where
        stands_at : IsInStep g1 n1.state
        stands_at = subst (IsInStep g1) (sym same)
            (subst (λ (x : Gate). IsInStep x (stand told)) (sym alone.gate)
            (sent_stands stands_after g1.nine_frames))

        machine_is : machine_of g1 n1.state ≡ seen told
        machine_is = ap (machine_of g1) same
            ∙ ap (λ (x : Gate). machine_of x (stand told)) alone.gate
            ∙ same_state told (stands_kept st good)

        went : (reply : Reply) → reply ≡ (changed_by m told).0
            → Serves (changed_by m told) 1 part (g, n) (g1, n1) reply
        went reply is = record {
          stands = stands_at;
          sent = 1;
          messages = alone.messages;
          outcome = inl (is, machine_is, refl);
        }

        -- a fault was met after all was done
        hurt_after : Rose n.faults n1.faults
            → Serves (changed_by m told) 1 part (g, n) (g1, n1) (Refused EIO)
        hurt_after rose = record {
          stands = stands_at;
          sent = 1;
          messages = alone.messages;
          outcome = inr (
            rose,
            refl,
            ap (λ (x : Gate). machine_of x n1.state) alone.gate,
            part_after n1.state.tree (ap (λ (x : ServerState). x.tree) same),
          );
        }

      by_asks : (answer : Result (Unit {0}) ℕ)
          → Asks (changed n.state (λ u. u) told) (OldOrTold (changed n.state (λ u. u) told))
          answer n.state n1.state n.faults n1.faults
          → Serves (changed_by m told) 1 part (g, n) (g1, n1) (done_reply answer)
      by_asks answer (inl q) =
          went (ap (λ (x : Result (Unit {0}) ℕ × ServerState). x.1) q) (done_reply answer)
          (ap (λ (x : Result (Unit {0}) ℕ × ServerState). done_reply x.0) q ∙ view_of told)
      by_asks answer (inr (rose, eio, only, inl same)) =
          subst (λ (x : Reply). Serves (changed_by m told) 1 part (g, n) (g1, n1) x)
          (sym (ap done_reply eio))
          (hurt st (changed_by m told) 1 part 1 g1 n1 alone
          (only ∙ ap (λ (t : Tree). let x : ServerState = record n.state { tree = t } in x) same)
          rose (inl (inl refl)))
      by_asks answer (inr (rose, eio, only, inr same)) =
          subst (λ (x : Reply). Serves (changed_by m told) 1 part (g, n) (g1, n1) x)
          (sym (ap done_reply eio))
          (hurt_after (only
          ∙ ap (λ (t : Tree). let x : ServerState = record n.state { tree = t } in x) same
          ∙ tree_alone told) rose)

      by_message : (answer : Result (Unit {0}) ℕ)
          → Asks (changed n.state (λ u. u) told) (OldOrTold (changed n.state (λ u. u) told))
          answer n.state n1.state n.faults n1.faults
          → ServesRequest node r (g, n) (g1, n1) (done_reply answer)
      by_message answer asks = served_in_part st good node r w.none (g1, n1) (done_reply answer)
          (subst (λ (k : ℕ). Serves (effect_of n.state.settings m node r) k part (g, n) (g1, n1)
          (done_reply answer)) (sym w.one)
          (subst (λ (x : Reply × MachineState). Serves x 1 part (g, n) (g1, n1) (done_reply answer))
          (sym w.effect) (by_asks answer asks)))

    -- ---- the server tells the same

    module _ (server : Result (Unit {0} × Tree) ℕ) (tells : server ≡ told) where
      -- what is left of the tree where the message wasn't answered
      pub change_part : (t : Tree)
          → OldOrTold (changed n.state (λ u. u) server) n.state.tree t → part t
      change_part t left = ⊎_elim (λ same. inl (inl same))
          (λ is. part_after t (is ∙ ap (λ c. (stand c).tree) tells)) left

      -- the message was answered so
      pub change_answered : (g1 : Gate) (n1 : Moment) → g1 ≡ one_sent g → AskedOne n n1
          → (x answer : Result (Unit {0}) ℕ) → x ≡ answer
          → Asks (changed n.state (λ u. u) server) (OldOrTold (changed n.state (λ u. u) server)) x
          n.state n1.state n.faults n1.faults
          → ServesRequest node r (g, n) (g1, n1) (done_reply answer)
      change_answered g1 n1 sent asked x answer is asks =
          by_message g1 n1 sent asked answer
          (subst (λ (c : Result (Unit {0} × Tree) ℕ). Asks (changed n.state (λ u. u) c)
          (OldOrTold (changed n.state (λ u. u) c)) answer n.state n1.state n.faults n1.faults)
          tells
          (subst (λ (y : Result (Unit {0}) ℕ). Asks (changed n.state (λ u. u) server)
          (OldOrTold (changed n.state (λ u. u) server)) y n.state n1.state n.faults n1.faults)
          is asks))
