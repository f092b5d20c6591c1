-- SETATTR: a message sets attributes step by step, and another asks for them all.
use Rattle.std.proofs.Common.{◌≡◌, ◌≢◌, ℕ, ◌≤◌, Bool, true, refl, sym, ap, ◌∙◌, subst, Option, Some}
use Rattle.std.proofs.Common.{None}
use Rattle.std.proofs.Common.{Result, Ok, Err, inl, inr, ⊎_elim, List, arith}
use Rattle.std.specs.FinMap.{get}
use Rattle.port_base.specs.Faults.{Rose}
use Rattle.port_base.specs.declared.errno.TheConstants.{EIO}
use Rattle.tree_model.specs.AttributeSteps.{Step, attribute_steps, run}
use Rattle.tree_model.specs.AttributeSteps.{IsAfterFront}
use Rattle.tree_model.specs.Attributes.{attr_or_missing}
use Rattle.tree_model.specs.Settings.{shown_told}
use Rattle.tree_model.specs.Tree.{Tree, Record, keep}
use Rattle.fuse_wire.specs.Request.{setattr}
use Rattle.fuse_wire.specs.declared.attr.FileAttr.{FileAttr}
use Rattle.fuse_wire.specs.declared.setattr.SetAttrIn.{SetAttrIn}
use Rattle.tree_machine.specs.State.{MachineState, kept_state, is_named}
use Rattle.tree_machine.specs.Replies.{Reply}
use Rattle.tree_machine.specs.Replies.Reply.{Refused}
use Rattle.tree_machine.specs.Refusals.{refused_or}
use Rattle.tree_machine.specs.Core.{attr_reply, getattr_ino, getattr_refusal, shown_at}
use Rattle.tree_machine.specs.Requests.{effect_of}
use Rattle.tree_machine.specs.Setting.{given_handle, is_read_alone, set_reply}
use Rattle.tree_machine.specs.Setting.{set_steps, set_through}
use Rattle.tree_machine.specs.Messages.{set_messages}
use Rattle.tree_machine.specs.Faults.{PartOf}
use Rattle.tree_machine.specs.Good.{IsGoodMachine}
use Rattle.tree_machine.proofs.KeptStates.{kept_at, kept_good}
use Rattle.tree_machine.proofs.KindsKept.{leaves_kinds}
use Rattle.tree_machine.proofs.Setting.{Keeps as KeepsAll, front_keeps, set_keeps, set_tame, set_to}
use Rattle.p9_tmsg.specs.declared.message.Tsetattr.{Tsetattr}
use Rattle.fid_model.specs.Fids.{ServerState, Fid, IsGoodServer, is_held, kept_state as kept_server}
use Rattle.fid_model.specs.Setattr.{is_open_to_read_alone, steps}
use Rattle.fid_model.specs.Setattr.{steps_at}
use Rattle.fid_model.specs.Moments.{Moment, AskedOne, Asks}
use Rattle.fid_model.proofs.FidCounts.{fid_count-named}
use Rattle.p9_client.specs.Changing.{changes_of, set_by, set_told, FrontOrTold}
use Rattle.fuse_gate.specs.Standing.{IsInStep, machine_of}
use Rattle.fuse_gate.specs.Steps.{Serves, ServesRequest}
use Rattle.fuse_gate.specs.Changes.{one_sent}
use Rattle.fuse_gate.specs.Replies.{attributes_reply, attributes_shown}
use Rattle.fuse_gate.specs.Setting.{set_message}
use Rattle.fuse_gate.specs.declared.gate.Gate.{Gate}
use Rattle.fuse_gate.proofs.Asking.{Tells}
use Rattle.fuse_gate.proofs.Attributes.{replied}
use Rattle.fuse_gate.proofs.Changing.{tree_paired}
use Rattle.fuse_gate.proofs.Held.{test}
use Rattle.fuse_gate.proofs.SettingBits.{same_attributes}
use Rattle.fuse_gate.proofs.Standings.{sent_stands}
use Rattle.fuse_gate.proofs.Serving.{SentAlone, one_alone, one_more_sent, served_in_part}
use Rattle.fuse_gate.proofs.TreeChanging.{held_same, stands_with}

-- the reply without more, or the refusal of a step
abbrev pub after_steps : Result (Unit {0}) ℕ → Reply → Reply
after_steps (Ok u) shown = shown
after_steps (Err e) shown = Refused e

-- what isn't refused was done
pub was_done : (r : Result (Unit {0}) ℕ) → ((e : ℕ) → r ≢ Err e) → r ≡ Ok tt
was_done (Ok u) never = refl
was_done (Err e) never = absurd (never e refl)

-- the same of a message that is known
pub asks_of : (n n1 : Moment) (r : Result (Unit {0}) ℕ) (x y : Tsetattr) → x ≡ y
    → Asks (set_told n.state (changes_of x) x.fid) (FrontOrTold n.state (changes_of x) x.fid) r
    n.state n1.state n.faults n1.faults
    → Asks (set_told n.state (changes_of y) y.fid) (FrontOrTold n.state (changes_of y) y.fid) r
    n.state n1.state n.faults n1.faults
asks_of n n1 r x y is h = subst (λ (m : Tsetattr). Asks (set_told n.state (changes_of m) m.fid)
    (FrontOrTold n.state (changes_of m) m.fid) r n.state n1.state n.faults n1.faults) is h

module _ {g : Gate} (n : Moment) (st : IsInStep g n.state) (good : IsGoodServer n.state)
    (node fid : ℕ) (asked : SetAttrIn) (f : Fid) (at : get n.state.fids fid ≡ Some f)
    (ino_is : f.ino ≡ getattr_ino (machine_of g n.state) node (given_handle asked))
    (open_is : is_open_to_read_alone f.open_state
    ≡ is_read_alone (set_through (machine_of g n.state) (given_handle asked)))
    (none : getattr_refusal (machine_of g n.state) node (given_handle asked) ≡ None) where
  abbrev m : MachineState
  m = machine_of g n.state

  abbrev ino : ℕ
  ino = getattr_ino m node (given_handle asked)

  abbrev message : Tsetattr
  message = set_message fid asked

  -- ---- the steps are the machine's

  same_steps : steps (changes_of message) f ≡ set_steps m node asked
  same_steps = λ j. attribute_steps (open_is j) (ino_is j) (same_attributes fid asked j)

  abbrev ran : Result (Unit {0}) ℕ × Tree
  ran = run (set_steps m node asked) m.tree

  abbrev held : ℕ → Bool
  held = is_named m.nodes m.handles

  abbrev after : ServerState
  after = record n.state { tree = keep (is_held n.state.fids) ran.1 }

  pub told_is : set_told n.state (changes_of message) fid ≡ (ran.0, after)
  told_is = ap (set_by n.state (changes_of message)) at
      ∙ (λ j. let x = run (same_steps j) n.state.tree in
      let y : Result (Unit {0}) ℕ × ServerState =
      (x.0, kept_server (record n.state { tree = x.1 })) in y)

  abbrev told : Reply × MachineState
  told = set_reply n.state.settings m ino ran

  told_state : (r : Result (Unit {0}) ℕ × Tree)
      → (set_reply n.state.settings m ino r).1 ≡ record m { tree = r.1 }
  told_state (Ok u, t) = refl
  told_state (Err e, t) = refl

  -- ---- where the gate and the server stand

  all_kept : KeepsAll m.tree ran.1
  all_kept = set_keeps n.state.settings m st.good node asked

  kept_alike : keep (is_held n.state.fids) ran.1 ≡ keep held ran.1
  kept_alike = ap (λ (h : ℕ → Bool). keep h ran.1) (sym (held_same n st))

  machine_after : machine_of g after ≡ kept_state told.1
  machine_after = ap (λ (t : Tree). let x : MachineState = record m { tree = t } in x) kept_alike
      ∙ ap kept_state (sym (told_state ran))

  -- after all of them
  stands_after : IsInStep g after
  stands_after = record {
    good = subst (IsGoodMachine n.state.settings) (sym machine_after)
        (subst (λ (x : MachineState). IsGoodMachine n.state.settings (kept_state x))
        (sym (told_state ran))
        (kept_good n.state.settings (record m { tree = ran.1 })
        (set_to n.state.settings m st.good ran.1 all_kept)));
    paired = tree_paired g n.state (keep (is_held n.state.fids) ran.1) st
        (leaves_kinds (is_held n.state.fids) n.state.tree ran.1 (ran.1, all_kept.kinds, inl refl));
    roomy = st.roomy;
  }

  -- ---- parts

  abbrev part : Tree → Type 0
  part t = PartOf n.state.settings m node (Ok (setattr asked)) t

  pub part_after : (t : Tree) → t ≡ after.tree → part t
  part_after t is = inl (inr (is ∙ ap (λ (x : MachineState). x.tree) machine_after
      ∙ ap (λ (o : Option ℕ). (kept_state
      (refused_or m o (effect_of n.state.settings m node (setattr asked))).1).tree) (sym none)))

  part_of_front : (t : Tree)
      → IsAfterFront (steps_at (changes_of message) (get n.state.fids fid)) n.state.tree t → part t
  part_of_front t front = inr
      (subst (λ (ss : List Step). IsAfterFront ss n.state.tree t) same_steps
      (subst (λ (o : Option Fid). IsAfterFront (steps_at (changes_of message) o) n.state.tree t) at
      front))

  -- what is left of the tree where the message wasn't answered
  pub set_part : (t : Tree) → FrontOrTold n.state (changes_of message) fid n.state.tree t → part t
  set_part t left = ⊎_elim
      (λ is. part_after t (is ∙ ap (λ (x : Result (Unit {0}) ℕ × ServerState). x.1.tree) told_is))
      (part_of_front t) left

  front_stands : (t : Tree) → FrontOrTold n.state (changes_of message) fid n.state.tree t
      → IsInStep g (record n.state { tree = t })
  front_stands t left = ⊎_elim
      (λ is. subst (λ (u : Tree). IsInStep g (record n.state { tree = u }))
      (sym (is ∙ ap (λ (x : Result (Unit {0}) ℕ × ServerState). x.1.tree) told_is)) stands_after)
      (λ front. stands_with st t
      (front_keeps (set_steps m node asked) (set_tame n.state.settings m st.good node asked) m.tree
      st.good.tree t
      (subst (λ (ss : List Step). IsAfterFront ss n.state.tree t) same_steps
      (subst (λ (o : Option Fid). IsAfterFront (steps_at (changes_of message) o) n.state.tree t) at
      front))))
      left

  -- ---- after the message

  module _ (g1 : Gate) (n1 : Moment) (sent : g1 ≡ one_sent g) (asked_one : AskedOne n n1) where
    alone : SentAlone 1 g n g1 n1
    alone = one_alone g1 n1 sent asked_one

    stands_at : (s : ServerState) → n1.state ≡ s → IsInStep g s → IsInStep g1 n1.state
    stands_at s same stands = subst (IsInStep g1) (sym same)
        (subst (λ (x : Gate). IsInStep x s) (sym alone.gate) (sent_stands stands g1.nine_frames))

    -- a fault was met, after so many messages
    hurt_by : (count : ℕ) (g2 : Gate) (n2 : Moment) → SentAlone count g n g2 n2
        → IsInStep g2 n2.state → Rose n.faults n2.faults
        → machine_of g2 n2.state ≡ record m { tree = n2.state.tree } → part n2.state.tree
        → (total : ℕ) → Serves told total part (g, n) (g2, n2) (Refused EIO)
    hurt_by count g2 n2 sends stands rose same left total = record {
      stands = stands;
      sent = count;
      messages = sends.messages;
      outcome = inr (rose, refl, same, left);
    }

    -- a step was refused, or a fault was met
    pub set_refused : (r : Result (Unit {0}) ℕ) (e : ℕ) → r ≡ Err e
        → Asks (set_told n.state (changes_of message) fid)
        (FrontOrTold n.state (changes_of message) fid) r n.state n1.state n.faults n1.faults
        → Serves told (set_messages ran.0) part (g, n) (g1, n1) (Refused e)
    set_refused r e is (inl q) =
        let both : (r, n1.state) ≡ (ran.0, after) = q ∙ told_is in
        let same : n1.state ≡ after = ap (λ (x : Result (Unit {0}) ℕ × ServerState). x.1) both in
        let refused : ran.0 ≡ Err e =
        sym (ap (λ (x : Result (Unit {0}) ℕ × ServerState). x.0) both) ∙ is in
        record {
          stands = stands_at after same stands_after;
          sent = 1;
          messages = alone.messages;
          outcome = inl (
            sym (ap (λ (x : Result (Unit {0}) ℕ).
                (set_reply n.state.settings m ino (x, ran.1)).0) refused),
            ap (machine_of g1) same ∙ ap (λ (x : Gate). machine_of x after) alone.gate
                ∙ machine_after,
            sym (ap set_messages refused),
          );
        }
    set_refused r e is (inr (rose, eio, only, left)) =
        let error : EIO ≡ e = (let clash : Err EIO ≡ Err e = sym eio ∙ is in cc) in
        subst (λ (k : ℕ). Serves told (set_messages ran.0) part (g, n) (g1, n1) (Refused k)) error
        (hurt_by 1 g1 n1 alone
        (stands_at (record n.state { tree = n1.state.tree }) only
        (front_stands n1.state.tree left)) rose
        (ap (machine_of g1) only
        ∙ ap (λ (x : Gate). machine_of x (record n.state { tree = n1.state.tree })) alone.gate)
        (set_part n1.state.tree left) (set_messages ran.0))

    -- all steps were done
    pub set_whole : (r : Result (Unit {0}) ℕ) → r ≡ Ok tt
        → Asks (set_told n.state (changes_of message) fid)
        (FrontOrTold n.state (changes_of message) fid) r n.state n1.state n.faults n1.faults
        → (ran.0 ≡ Ok tt) × (n1.state ≡ after)
    set_whole r is (inl q) =
        let both : (r, n1.state) ≡ (ran.0, after) = q ∙ told_is in (
          sym (ap (λ (x : Result (Unit {0}) ℕ × ServerState). x.0) both) ∙ is,
          ap (λ (x : Result (Unit {0}) ℕ × ServerState). x.1) both,
        )
    set_whole r is (inr (rose, eio, only, left)) =
        absurd (let clash : Err EIO ≡ Ok tt = sym eio ∙ is in cc)

    -- ---- and after the attributes were asked for

    module _ (whole : ran.0 ≡ Ok tt) (same : n1.state ≡ after) (rises : n.faults ≤ n1.faults) where
      -- what is held is shown as it is
      shown_alike : shown_at n.state.settings (keep (is_held n.state.fids) ran.1) ino
          ≡ shown_at n.state.settings ran.1 ino
      shown_alike = ap (λ (o : Option Record). shown_told n.state.settings (attr_or_missing ino o))
          (kept_at ran.1 (is_held n.state.fids) ino
          (subst (λ (i : ℕ). is_held n.state.fids i ≡ true) ino_is
          (test _ (fid_count-named n.state.fids fid f at))))

      told_whole : told.0 ≡ attr_reply (shown_at n.state.settings ran.1 ino)
      told_whole = ap (λ (x : Result (Unit {0}) ℕ).
          (set_reply n.state.settings m ino (x, ran.1)).0) whole

      part_now : (t : Tree) → t ≡ n1.state.tree → part t
      part_now t is = part_after t (is ∙ ap (λ (s : ServerState). s.tree) same)

      module _ (g2 : Gate) (n2 : Moment) (sent_again : g2 ≡ one_sent g1)
          (asked_again : AskedOne n1 n2) (rises_again : n1.faults ≤ n2.faults) where
        both_sent : SentAlone 2 g n g2 n2
        both_sent = one_more_sent alone g2 n2 sent_again asked_again

        stands_then : n2.state ≡ n1.state → IsInStep g2 n2.state
        stands_then stays = subst (IsInStep g2) (sym (stays ∙ same))
            (subst (λ (x : Gate). IsInStep x after) (sym both_sent.gate)
            (sent_stands stands_after g2.nine_frames))

        pub set_shown : (r : Result FileAttr ℕ)
            → Tells (attributes_shown n1.state f.ino) r n1 n2
            → Serves told (set_messages ran.0) part (g, n) (g2, n2) (attributes_reply r)
        set_shown r (inl e) =
            let stays : n2.state ≡ n1.state =
            ap (λ (x : Result FileAttr ℕ × ServerState). x.1) e in
            record {
              stands = stands_then stays;
              sent = 2;
              messages = both_sent.messages;
              outcome = inl (
                ap (λ (x : Result FileAttr ℕ × ServerState). attributes_reply x.0) e
                    ∙ ap (λ (s : ServerState). attributes_reply (attributes_shown s f.ino).0) same
                    ∙ replied (shown_at n.state.settings
                    (keep (is_held n.state.fids) ran.1) f.ino)
                    ∙ ap (λ (i : ℕ). attr_reply (shown_at n.state.settings
                    (keep (is_held n.state.fids) ran.1) i)) ino_is
                    ∙ ap attr_reply shown_alike ∙ sym told_whole,
                ap (machine_of g2) (stays ∙ same)
                    ∙ ap (λ (x : Gate). machine_of x after) both_sent.gate ∙ machine_after,
                sym (ap set_messages whole),
              );
            }
        set_shown r (inr (rose, eio, stays)) =
            subst (λ (x : Reply). Serves told (set_messages ran.0) part (g, n) (g2, n2) x)
            (sym (ap attributes_reply eio))
            (hurt_by 2 g2 n2 both_sent (stands_then stays) (omega (arith, rises, rose))
            (ap (λ (x : Gate). machine_of x n2.state) both_sent.gate
            ∙ ap (λ (s : ServerState). let x : MachineState =
            record (machine_of g s) { tree = n2.state.tree } in x) (stays ∙ same))
            (part_now n2.state.tree (ap (λ (s : ServerState). s.tree) stays))
            (set_messages ran.0))

  pub set_served : (new : Gate × Moment) (reply : Reply)
      → Serves told (set_messages ran.0) part (g, n) new reply
      → ServesRequest node (setattr asked) (g, n) new reply
  set_served new reply served =
      served_in_part st good node (setattr asked) none new reply served
