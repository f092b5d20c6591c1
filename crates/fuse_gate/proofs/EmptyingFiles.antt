-- A copy of a node's fid is opened, by flags that may empty its file, and becomes a handle; where
-- that is refused, the copy goes again.
use Rattle.std.proofs.Common.{◌≡◌, ℕ, ◌+◌, ◌≤◌, Bool, refl, sym, ap, ◌∙◌, subst, Result}
use Rattle.std.proofs.Common.{Ok, Err, arith, IsSome, ◌⊎◌, inl, inr, ⊎_elim}
use Rattle.std.specs.FinMap.{FinMap, get, insert}
use Rattle.port_base.specs.OpenFlags.{access, has_flag}
use Rattle.port_base.specs.declared.errno.TheConstants.{EIO}
use Rattle.port_base.specs.declared.oflag.TheConstants.{O_APPEND}
use Rattle.tree_model.specs.Tree.{Tree}
use Rattle.tree_model.specs.Attributes.{Qid}
use Rattle.tree_model.specs.OpenedFiles.{open_of}
use Rattle.tree_model.specs.Sound.{IsKept}
use Rattle.tree_model.proofs.Maps.{inserted, undone}
use Rattle.tree_machine.specs.State.{MachineState, Handle as MachineHandle, kept_state, is_named}
use Rattle.tree_machine.specs.Replies.{Reply}
use Rattle.tree_machine.specs.Replies.Reply.{Refused, Opened}
use Rattle.tree_machine.specs.Requests.{opened_to}
use Rattle.tree_machine.specs.Messages.{opened_messages}
use Rattle.tree_machine.proofs.Handles.{drawn_named}
use Rattle.tree_machine.proofs.Opening.{open_keeps, open_stays, open_stored, opened_good}
use Rattle.tree_machine.proofs.Setting.{Keeps as KeepsAll}
use Rattle.fid_model.specs.Fids.{ServerState, Fids, IsGoodServer, closed, is_held}
use Rattle.fid_model.specs.Answers.{opened as fid_opened, qid_at}
use Rattle.fid_model.specs.Calls.{clunked}
use Rattle.fid_model.specs.Moments.{Moment, Asks, FidAnswered, Untouched}
use Rattle.fid_model.proofs.Keeping.{kept_state_good}
use Rattle.p9_client.specs.Changing.{OldOrTold}
use Rattle.p9_client.specs.Views.{IsRoomy}
use Rattle.p9_client.specs.Opening.{copied_told, emptied_by, emptied_told, opened_or_emptied}
use Rattle.fuse_gate.specs.Standing.{IsInStep, ArePaired, machine_of, handle_of}
use Rattle.fuse_gate.specs.Changes.{MayOpen, ServesOpening, LeavesOpening, opening, handle_by}
use Rattle.fuse_gate.specs.Changes.{with_handle, without, one_sent}
use Rattle.fuse_gate.specs.declared.gate.TheConstants.{LEAST_MSIZE}
use Rattle.fuse_gate.specs.declared.gate.Node.{Node}
use Rattle.fuse_gate.specs.declared.gate.Handle.{Handle}
use Rattle.fuse_gate.specs.declared.gate.Gate.{Gate}
use Rattle.fuse_gate.proofs.MappedLemmas.{mapped-insert}
use Rattle.fuse_gate.proofs.Asking.{Tells, fid_tells, pair, tells_as}
use Rattle.fuse_gate.proofs.CopiedFids.{CopyTold, MayStay, copy_let_go, copy_part, left_part}
use Rattle.fuse_gate.proofs.CopiedFids.{left_stays, opened_copy}
use Rattle.fuse_gate.proofs.MakingDirectories.{kept_more}
use Rattle.fuse_gate.proofs.OpenEntries.{handle_added}
use Rattle.fuse_gate.proofs.Standings.{fid_free, next_free, next_no_handle, node_fid}
use Rattle.fuse_gate.proofs.Standings.{sent_stands}
use Rattle.fuse_gate.proofs.Serving.{SentAlone, one_alone, one_message, made}
use Rattle.fuse_gate.proofs.TreeChanging.{held_same, stands_with}

module _ {g : Gate} (n : Moment) {id : ℕ} {k : Node} {flags : ℕ} (h : MayOpen g n.state id k flags)
    (good : IsGoodServer n.state) where
  abbrev s : ServerState
  s = n.state

  abbrev m : MachineState
  m = machine_of g s

  abbrev told : Result (Unit {0} × Tree) ℕ
  told = open_of s.tree k.ino flags

  abbrev opens : Reply × MachineState
  opens = opening k flags (g, n)

  abbrev part : Tree → Type 0
  part t = LeavesOpening k flags (g, n) t

  -- ---- the copy

  abbrev copied : ServerState
  copied = record s { fids = insert s.fids g.next (closed k.ino) }

  abbrev view : {A : Type 0} → Result A ℕ → Reply
  view (Ok a) = Opened g.next
  view (Err e) = Refused e

  abbrev Copied : Result (Unit {0}) ℕ → Moment → Type 0
  Copied r n1 = FidAnswered (λ s f. copied_told s f.ino g.next) Untouched id r n n1

  copy_told : (r x : Result (Unit {0}) ℕ) (n1 : Moment) → r ≡ x → Copied r n1
      → Tells (copied_told s k.ino g.next) x n n1
  copy_told r x n1 is answer = tells_as (copied_told s k.ino g.next) r x n n1 is
      (fid_tells answer (closed k.ino) (node_fid h.stands id k h.known))

  pub copy_refused : (r : Result (Unit {0}) ℕ) (e : ℕ) (g1 : Gate) (n1 : Moment) → r ≡ Err e
      → Copied r n1 → g1 ≡ one_sent g → n.faults ≤ n1.faults
      → ServesOpening k flags (g, n) (g1, n1) (Refused e)
  copy_refused r e g1 n1 is answer sent rises =
      one_message h.stands opens (opened_messages told) part
      (copied_told s k.ino g.next) (Err e) view refl 1 g1 n1
      (one_alone g1 n1 sent answer.asked) rises (inl refl) (copy_told r (Err e) n1 is answer)
      (λ q. absurd (let clash : Err e ≡ Ok tt =
      ap (λ (x : Result (Unit {0}) ℕ × ServerState). x.0) q in cc))

  pub copy_is : (r : Result (Unit {0}) ℕ) (u : Unit {0}) (n1 : Moment) → r ≡ Ok u → Copied r n1
      → n1.state ≡ copied
  copy_is r u n1 is answer = ⊎_elim
      (λ q. ap (λ (x : Result (Unit {0}) ℕ × ServerState). x.1) q)
      (λ f. absurd (let clash = f.1 in cc)) (copy_told r (Ok u) n1 is answer)

  server_tells : emptied_told copied g.next flags
      ≡ opened_or_emptied copied g.next flags (closed k.ino) told
  server_tells = ap (emptied_by copied g.next flags) (inserted s.fids g.next (closed k.ino))

  -- ---- the copy is open

  module _ (u : Tree) (is : told ≡ Ok (tt, u)) where
    keeps : KeepsAll s.tree u
    keeps = open_keeps s.tree good.tree k.ino flags u is

    kept_now : IsKept u.records (is_held s.fids)
    kept_now = open_stays s.tree good.tree k.ino flags u is (is_held s.fids) good.kept

    abbrev s1 : ServerState
    s1 = record s { tree = u }

    stands_now : IsInStep g s1
    stands_now = stands_with h.stands u keeps

    good_now : IsGoodServer s1
    good_now = record {
      tree = keeps.good;
      kept = kept_now;
      stored = open_stored s.tree good.tree k.ino flags u is (is_held s.fids) good.stored;
      roomy = good.roomy;
      below = good.below;
    }

    abbrev drawn : MachineHandle
    drawn = record { ino = k.ino; access = access flags; append = has_flag O_APPEND flags }

    -- no record goes
    pub tree_after : (kept_state opens.1).tree ≡ u
    tree_after = ap (λ (c : Result (Unit {0} × Tree) ℕ).
        (kept_state (opened_to m k.ino flags c).1).tree) is
        ∙ kept_more u (is_named m.nodes m.handles)
        (is_named m.nodes (insert m.handles m.next drawn))
        (λ i. drawn_named s.settings m h.stands.good drawn i)
        (subst (λ (held : ℕ → Bool). IsKept u.records held) (sym (held_same n h.stands)) kept_now)

    told_part : (t : Tree) → t ≡ u → part t
    told_part t same = inr (same ∙ sym tree_after)

    abbrev s2 : ServerState
    s2 = record s1 { fids = insert s.fids g.next (fid_opened (closed k.ino) flags) }

    stand_is : (opened_or_emptied copied g.next flags (closed k.ino) (Ok (tt, u))).1 ≡ s2
    stand_is = opened_copy s.fids g.next (fid_free h.stands) (closed k.ino)
        (fid_opened (closed k.ino) flags) s1 kept_now

    abbrev new_handle : Handle
    new_handle = handle_by k flags

    abbrev last_gate : ℕ → Gate
    last_gate count = with_handle (record g { nine_frames = count }) new_handle

    -- the handle is paired with the fid
    all_paired : (count : ℕ) → ArePaired (last_gate count) s2
    all_paired count =
        let alone : without s2 g.next ≡ s1 =
        ap (λ (f : Fids). let x : ServerState = record s1 { fids = f } in x)
        (undone s.fids g.next (fid_opened (closed k.ino) flags) (fid_free h.stands)) in
        let first : Gate = record g { nine_frames = count } in
        handle_added first s2
        (subst (ArePaired first) (sym alone) (sent_stands stands_now count).paired) new_handle
        (inserted s.fids g.next (fid_opened (closed k.ino) flags)) (next_free h.stands)
        (next_no_handle h.stands)
        (λ r stored. stands_now.paired.node_kinds id k r h.known stored)

    module _ (n2 : Moment) (state : n2.state ≡ s2) where
      -- no memory for the handle
      pub open_part : part n2.state.tree
      open_part = told_part n2.state.tree (ap (λ (x : ServerState). x.tree) state)

      pub open_made : (g2 g3 : Gate) → SentAlone 2 g n g2 n2 → IsGoodServer n2.state
          → g3 ≡ with_handle g2 new_handle → ServesOpening k flags (g, n) (g3, n2) (Opened g.next)
      open_made g2 g3 two good_2 put =
          let count : ℕ = g2.nine_frames in
          let gate : g3 ≡ last_gate count =
          put ∙ ap (λ (x : Gate). with_handle x new_handle) two.gate in
          let opened : opens ≡ opened_to m k.ino flags (Ok (tt, u)) =
          ap (λ (c : Result (Unit {0} × Tree) ℕ). opened_to m k.ino flags c) is in
          let number : opened_messages told ≡ 2 = ap opened_messages is in
          let frames = two.messages.frames in
          let asked = two.messages.asked in
          subst (λ (x : Gate). ServesOpening k flags (g, n) (x, n2) (Opened g.next)) (sym gate)
          (made opens (opened_messages told) part (g, n) (last_gate count, n2) (Opened g.next)
          good_2 (subst (ArePaired (last_gate count)) (sym state) (all_paired count))
          (subst (λ (x : ServerState). LEAST_MSIZE ≤ x.msize) (sym state) h.stands.roomy)
          (ap (λ (x : ServerState). x.settings) state)
          (opened_good s.settings m h.stands.good flags k.ino h.room h.plain told refl)
          (sym (ap (λ (x : Reply × MachineState). x.0) opened))
          (ap (machine_of (last_gate count)) state
          ∙ ap (λ (x : FinMap _ MachineHandle). let y : MachineState =
          record m { tree = u; handles = x; next = g.next + 1 } in y)
          (mapped-insert handle_of g.handles g.next new_handle)
          ∙ sym (ap (λ (x : Reply × MachineState). x.1) opened))
          (record {
            frames = omega (arith, number, frames);
            asked =
                omega (arith, number, asked);
          }))

  -- ---- what the opening message told

  abbrev server : Result Qid ℕ × ServerState
  server = opened_or_emptied copied g.next flags (closed k.ino) told

  abbrev Refuses : ℕ → Type 0
  Refuses e = told ≡ Err e

  told_by : (c : Result (Unit {0} × Tree) ℕ) → told ≡ c
      → CopyTold n h.stands good g.next k.ino (fid_free h.stands) part (inl refl) Refuses
      (opened_or_emptied copied g.next flags (closed k.ino) c)
  told_by (Ok (tt, u)) is = inr (
    qid_at u k.ino,
    refl,
    subst (MayStay g s part) (sym (ap (λ (x : ServerState). x.tree) (stand_is u is))) (record {
      done = told_part u is u refl;
      stands = stands_now u is;
      whole = kept_state_good (s1 u is) (good_now u is);
    }),
  )
  told_by (Err e) is = inl (e, is, refl)

  -- no memory for the message
  pub message_part : (x : ServerState) → x ≡ copied → (t : Tree)
      → OldOrTold (emptied_told x g.next flags) x.tree t → part t
  message_part x is t left =
      copy_part n h.stands good g.next k.ino (fid_free h.stands) part (inl refl) Refuses server
      (told_by told refl) t
      (subst (λ (p : Result Qid ℕ × ServerState). OldOrTold p s.tree t) server_tells
      (subst (λ (y : ServerState). OldOrTold (emptied_told y g.next flags) y.tree t) is left))

  module _ (n1 n2 : Moment) (copy : n1.state ≡ copied) (x : Result Qid ℕ)
      (asks : Asks (emptied_told n1.state g.next flags) (OldOrTold (emptied_told n1.state g.next
      flags)) x n1.state n2.state n1.faults n2.faults) where
    asks_copied : Asks server (OldOrTold server) x copied n2.state n1.faults n2.faults
    asks_copied = subst (λ (p : Result Qid ℕ × ServerState).
        Asks p (OldOrTold p) x copied n2.state n1.faults n2.faults) server_tells
        (subst (λ (y : ServerState). Asks (emptied_told y g.next flags)
        (OldOrTold (emptied_told y g.next flags)) x y n2.state n1.faults n2.faults) copy asks)

    pub was_opened : (q : Qid) → x ≡ Ok q
        → (u : Tree) × (is : told ≡ Ok (tt, u)) × (n2.state ≡ s2 u is)
    was_opened q opened = ⊎_elim (λ e. by_told told refl e)
        (λ f. absurd (let clash : Ok q ≡ Err EIO = sym opened ∙ f.1 in cc)) asks_copied
      where
        by_told : (c : Result (Unit {0} × Tree) ℕ) → told ≡ c
            → pair x n2.state ≡ opened_or_emptied copied g.next flags (closed k.ino) c
            → (u : Tree) × (is : told ≡ Ok (tt, u)) × (n2.state ≡ s2 u is)
        by_told (Ok (tt, u)) is e =
            (u, is, ap (λ (y : Result Qid ℕ × ServerState). y.1) e ∙ stand_is u is)
        by_told (Err d) is e = absurd (let clash : Ok q ≡ Err d =
            sym opened ∙ ap (λ (y : Result Qid ℕ × ServerState). y.0) e in cc)

    -- ---- it isn't open

    module _ (e : ℕ) (refused : x ≡ Err e) where
      pub fid_stays : IsRoomy n2.state × IsSome (get n2.state.fids g.next)
      fid_stays = left_stays n h.stands good g.next k.ino (fid_free h.stands) part (inl refl)
          Refuses server (told_by told refl) n1 n2 x asks_copied e refused

      -- no memory while the copy goes
      pub open_left : (y : ServerState) → (y ≡ n2.state) ⊎ (y ≡ clunked n2.state g.next)
          → part y.tree
      open_left = left_part n h.stands good g.next k.ino (fid_free h.stands) part (inl refl)
          Refuses server (told_by told refl) n1 n2 x asks_copied e refused

      pub open_refused : (g3 : Gate) (n3 : Moment) → SentAlone 3 g n g3 n3 → n.faults ≤ n1.faults
          → n2.faults ≤ n3.faults → n3.state ≡ clunked n2.state g.next
          → ServesOpening k flags (g, n) (g3, n3) (Refused e)
      open_refused g3 n3 three rises later gone =
          copy_let_go n h.stands good g.next k.ino (fid_free h.stands) part (inl refl) Refuses
          server (told_by told refl) n1 n2 x asks_copied e refused g3 n3 three rises later gone
          opens (opened_messages told)
          (λ is. (
            sym (ap (λ (c : Result (Unit {0} × Tree) ℕ). (opened_to m k.ino flags c).0) is),
            ap (λ (c : Result (Unit {0} × Tree) ℕ). (opened_to m k.ino flags c).1) is,
            sym (ap opened_messages is),
          ))
