-- A fid that is copied under a new number and opened there, or goes again.
use Rattle.std.proofs.Common.{◌≡◌, ℕ, ◌≤◌, Bool, true, false, ◌||◌, refl, sym, ap, ◌∙◌, subst, None}
use Rattle.std.proofs.Common.{Result, Ok, Err, IsSome, ◌⊎◌, inl, inr, ⊎_elim, arith, nat_lt}
use Rattle.std.proofs.lemmas.Bool.Decides.{nat_tests}
use Rattle.std.specs.FinMap.{get, insert}
use Rattle.port_base.specs.Faults.{Rose}
use Rattle.port_base.specs.declared.errno.TheConstants.{EIO}
use Rattle.tree_model.specs.Attributes.{Qid}
use Rattle.tree_model.specs.Sound.{IsKept}
use Rattle.tree_model.specs.Tree.{Tree, is_linked}
use Rattle.tree_model.proofs.Maps.{inserted, insert_keeps, same_by, undone}
use Rattle.tree_machine.specs.State.{MachineState}
use Rattle.tree_machine.specs.Replies.{Reply}
use Rattle.tree_machine.specs.Replies.Reply.{Refused}
use Rattle.fid_model.specs.Fids.{ServerState, Fid, Fids, IsGoodServer, closed, fid_count, is_held}
use Rattle.fid_model.specs.Fids.{kept_state}
use Rattle.fid_model.specs.Calls.{clunked}
use Rattle.fid_model.specs.Moments.{Moment, Asks}
use Rattle.fid_model.proofs.FidCounts.{fid_count-new}
use Rattle.fid_model.proofs.Keeping.{kept_state_good, kept_state_kept}
use Rattle.p9_client.specs.Changing.{OldOrTold}
use Rattle.p9_client.specs.Views.{IsRoomy}
use Rattle.fuse_gate.specs.Standing.{IsInStep, machine_of}
use Rattle.fuse_gate.specs.Steps.{Serves}
use Rattle.fuse_gate.specs.declared.gate.Gate.{Gate}
use Rattle.fuse_gate.proofs.Asking.{pair}
use Rattle.fuse_gate.proofs.Standings.{sent_stands}
use Rattle.fuse_gate.proofs.Serving.{SentAlone, unchanged}

-- what is held by a fid more
more_held : (b c d : Bool) → (c ≡ true → d ≡ true) → (b || c) ≡ true → (b || d) ≡ true
more_held true c d m h = refl
more_held false c d m h = m h

module _ (fids : Fids) (number : ℕ) (free : get fids number ≡ None) (copy open_fid : Fid) where
  abbrev opened : Fids
  opened = insert fids number open_fid

  twice : insert (insert fids number copy) number open_fid ≡ opened
  twice = same_by _ _ number
      (inserted (insert fids number copy) number open_fid ∙ sym (inserted fids number open_fid))
      (λ q ne. insert_keeps (insert fids number copy) number open_fid q ne
      ∙ insert_keeps fids number copy q ne ∙ sym (insert_keeps fids number open_fid q ne))

  held_too : (i : ℕ) → is_held fids i ≡ true → is_held opened i ≡ true
  held_too i is =
      let step = fid_count-new fids number open_fid free i in
      more (fid_count fids i) (fid_count opened i) (omega (arith, step)) is
    where
      more : (a b : ℕ) → a ≤ b → nat_lt 0 a ≡ true → nat_lt 0 b ≡ true
      more a b low is = grind (arith, nat_tests)

  -- no record goes with it
  pub opened_copy : (s : ServerState) → IsKept s.tree.records (is_held fids)
      → (let x : ServerState = record s {
        fids = insert (insert fids number copy) number open_fid;
      } in kept_state x)
      ≡ (let x : ServerState = record s { fids = opened } in x)
  opened_copy s kept =
      ap (λ (f : Fids). let x : ServerState = record s { fids = f } in kept_state x) twice
      ∙ kept_state_kept (record s { fids = opened })
      (λ i some. more_held (is_linked s.tree.records i) (is_held fids i) (is_held opened i)
      (held_too i) (kept i some))

-- ---- a message on the copy is refused, and the copy goes again

-- a tree that may be left: in step, and nothing of it goes
pub record MayStay (g : Gate) (s : ServerState) (part : Tree → Type 0) (t : Tree) : Type 0 where
  pub done : part t
  pub stands : IsInStep g (record s { tree = t })
  pub whole : kept_state (record s { tree = t }) ≡ record s { tree = t }

module _ {g : Gate} (n : Moment) (st : IsInStep g n.state) (good : IsGoodServer n.state)
    (number ino : ℕ) (free : get n.state.fids number ≡ None) (part : Tree → Type 0)
    (before : part n.state.tree) where
  abbrev s : ServerState
  s = n.state

  abbrev copied : ServerState
  copied = record s { fids = insert s.fids number (closed ino) }

  copy_stays : (t : Tree) (x : ServerState) → x ≡ record copied { tree = t }
      → IsRoomy x × IsSome (get x.fids number)
  copy_stays t x is = subst (λ (x : ServerState). IsRoomy x × IsSome (get x.fids number)) (sym is) (
    record { enough = st.roomy },
    subst IsSome
        (sym (inserted s.fids number (closed ino))) refl,
  )

  copy_gone : (t : Tree) → clunked (record copied { tree = t }) number
      ≡ kept_state (record s { tree = t })
  copy_gone t = ap (λ (f : Fids). kept_state (record s { tree = t; fids = f }))
      (undone s.fids number (closed ino) free)

  as_before : MayStay g s part s.tree
  as_before = record { done = before; stands = st; whole = kept_state_good s good }

  -- what the message tells: a refusal that leaves the copy, or what leaves a tree
  abbrev pub CopyTold : (ℕ → Type 0) → Result Qid ℕ × ServerState → Type 0
  CopyTold Refuses told =
      ((e : ℕ) × Refuses e × (told ≡ pair (Err e) copied))
      ⊎ ((q : Qid) × (told.0 ≡ Ok q) × MayStay g s part told.1.tree)

  module _ (Refuses : ℕ → Type 0) (server : Result Qid ℕ × ServerState)
      (told : CopyTold Refuses server) where
    -- no memory for the message
    pub copy_part : (t : Tree) → OldOrTold server s.tree t → part t
    copy_part t (inl same) = subst part (sym same) before
    copy_part t (inr same) = by_told told where
      by_told : CopyTold Refuses server → part t
      by_told (inl (e, refuses, is)) = subst part
          (sym (same ∙ ap (λ (x : Result Qid ℕ × ServerState). x.1.tree) is)) before
      by_told (inr (q, is, stays)) = subst part (sym same) stays.done

    module _ (n1 n2 : Moment) (x : Result Qid ℕ)
        (asks : Asks server (OldOrTold server) x copied n2.state n1.faults n2.faults)
        (e : ℕ) (refused : x ≡ Err e) where
      -- the copy is still there, and the tree as before or after; the machine refuses so too, or a
      -- fault was met
      record Left (t : Tree) : Type 0 where
        pub state : n2.state ≡ record copied { tree = t }
        pub stays : MayStay g s part t
        pub why : (Refuses e × (t ≡ s.tree)) ⊎ (Rose n1.faults n2.faults × (e ≡ EIO))

      by_told : CopyTold Refuses server → pair x n2.state ≡ server → (t : Tree) × Left t
      by_told (inl (d, refuses, is)) p =
          let both : pair x n2.state ≡ pair (Err d) copied = p ∙ is in
          let one : d ≡ e = (let same : ◌≡◌ {A = Result Qid ℕ} (Err e) (Err d) =
          sym refused ∙ ap (λ (y : Result Qid ℕ × ServerState). y.0) both in cc) in (
            s.tree,
            record {
              state = ap (λ (y : Result Qid ℕ × ServerState). y.1) both;
              stays = as_before;
              why = inl (subst Refuses one refuses, refl);
            },
          )
      by_told (inr (q, is, stays)) p = absurd (let clash : Err e ≡ Ok q =
          sym refused ∙ ap (λ (y : Result Qid ℕ × ServerState). y.0) p ∙ is in cc)

      module _ (rose : Rose n1.faults n2.faults) (eio : e ≡ EIO)
          (only : n2.state ≡ record copied { tree = n2.state.tree }) where
        at_tree : (t : Tree) → MayStay g s part t → n2.state.tree ≡ t → (t : Tree) × Left t
        at_tree t stays same = (
          t,
          record {
            state = only ∙ ap (λ (t : Tree). let y : ServerState = record copied { tree = t } in y)
                same;
            stays = stays;
            why = inr (rose, eio);
          },
        )

        by_fault : CopyTold Refuses server → OldOrTold server s.tree n2.state.tree
            → (t : Tree) × Left t
        by_fault told (inl same) = at_tree s.tree as_before same
        by_fault (inl (d, refuses, is)) (inr same) = at_tree s.tree as_before
            (same ∙ ap (λ (y : Result Qid ℕ × ServerState). y.1.tree) is)
        by_fault (inr (q, is, stays)) (inr same) = at_tree server.1.tree stays same

      left : (t : Tree) × Left t
      left = ⊎_elim (λ p. by_told told p)
          (λ f. by_fault f.0 (let both : ◌≡◌ {A = Result Qid ℕ} (Err e) (Err EIO) =
          sym refused ∙ f.1 in cc) f.2 told f.3) asks

      pub left_stays : IsRoomy n2.state × IsSome (get n2.state.fids number)
      left_stays = copy_stays left.0 n2.state left.1.state

      gone_state : (y : ServerState) → y ≡ clunked n2.state number → y ≡ record s { tree = left.0 }
      gone_state y gone = gone ∙ ap (λ (x : ServerState). clunked x number) left.1.state
          ∙ copy_gone left.0 ∙ left.1.stays.whole

      -- no memory while the copy goes
      pub left_part : (y : ServerState) → (y ≡ n2.state) ⊎ (y ≡ clunked n2.state number)
          → part y.tree
      left_part y either = subst part
          (sym (⊎_elim
          (λ w. ap (λ (x : ServerState). x.tree) (w ∙ left.1.state))
          (λ w. ap (λ (x : ServerState). x.tree) (gone_state y w)) either)) left.1.stays.done

      module _ (g3 : Gate) (n3 : Moment) (three : SentAlone 3 g n g3 n3)
          (rises : n.faults ≤ n1.faults) (later : n2.faults ≤ n3.faults)
          (gone : n3.state ≡ clunked n2.state number) (answer : Reply × MachineState) (count : ℕ)
          (refuses : Refuses e → (Refused e ≡ answer.0) × (answer.1 ≡ machine_of g s)
          × (3 ≡ count)) where
        state_is : n3.state ≡ record s { tree = left.0 }
        state_is = gone_state n3.state gone

        pub copy_let_go : Serves answer count part (g, n) (g3, n3) (Refused e)
        copy_let_go = ⊎_elim
            (λ w.
            let so = refuses w.0 in
            subst (λ (k : ℕ). Serves answer k part (g, n) (g3, n3) (Refused e)) so.2
            (unchanged st answer 3 part good g3 n3 (Refused e) three
            (state_is ∙ ap (λ (t : Tree). let y : ServerState = record s { tree = t } in y) w.1)
            so.0 so.1))
            (λ f.
            let rose = f.0 in
            record {
              stands = subst (IsInStep g3) (sym state_is)
                  (subst (λ (x : Gate). IsInStep x (record s { tree = left.0 })) (sym three.gate)
                  (sent_stands left.1.stays.stands g3.nine_frames));
              sent = 3;
              messages = three.messages;
              outcome = inr (
                omega (arith, rises, rose, later),
                ap Refused f.1,
                ap (λ (x : Gate). machine_of x n3.state) three.gate,
                subst part (sym (ap (λ (x : ServerState). x.tree) state_is)) left.1.stays.done,
              );
            })
            left.1.why
