-- A file is made by a copy of a directory's fid, which then names it; where that is refused, the
-- copy goes again.
use Rattle.std.proofs.Common.{◌≡◌, ℕ, ◌+◌, ◌<◌, ◌≤◌, Bool, List}
use Rattle.std.proofs.Common.{refl, sym, ap, ◌∙◌, subst, Option, Some, None, Result, Ok, Err, arith}
use Rattle.std.proofs.Common.{IsSome, ◌⊎◌, inl, inr, ⊎_elim}
use Rattle.std.proofs.lemmas.Bool.{false≢true}
use Rattle.std.specs.FinMap.{get, insert, len}
use Rattle.port_base.specs.declared.errno.TheConstants.{EIO}
use Rattle.tree_model.specs.Tree.{Tree, Record}
use Rattle.tree_model.specs.Attributes.{Qid, attr_or_missing}
use Rattle.tree_model.specs.Good.{IsGoodTree}
use Rattle.tree_model.specs.Sound.{IsKept}
use Rattle.tree_model.proofs.Maps.{inserted, undone}
use Rattle.tree_machine.specs.State.{MachineState, kept_state, is_named}
use Rattle.tree_machine.specs.Replies.{Reply}
use Rattle.tree_machine.specs.Replies.Reply.{Refused}
use Rattle.tree_machine.specs.Core.{with_handle}
use Rattle.tree_machine.specs.Creating.{created, entered_open, with_node}
use Rattle.tree_machine.specs.Messages.{created_messages}
use Rattle.tree_machine.specs.Kinds.{KeepsKinds}
use Rattle.tree_machine.proofs.KindsKept.{Leaves, leaves_kinds}
use Rattle.tree_machine.proofs.MadeNames.{changed_tree_good}
use Rattle.tree_machine.proofs.CreatedFiles.{create_access, create_leaves, create_openable}
use Rattle.tree_machine.proofs.CreatedFiles.{create_keeps, create_stays, create_unknown}
use Rattle.tree_machine.proofs.CreatedFiles.{room_for_one, room_for_two, opened_named}
use Rattle.fid_model.specs.Fids.{ServerState, Fid, Fids, IsGoodServer, closed, is_held}
use Rattle.fid_model.specs.FidCalls.{by_fid}
use Rattle.tree_model.specs.OpenedFiles.{new_file_of}
use Rattle.fid_model.specs.Answers.{opened as fid_opened, qid_at, qid_told}
use Rattle.fid_model.specs.Calls.{clunked}
use Rattle.fid_model.specs.Moments.{Moment, AskedOne, Asks}
use Rattle.fid_model.proofs.Keeping.{keep_same, kept_state_good}
use Rattle.p9_client.specs.Changing.{OldOrTold}
use Rattle.p9_client.specs.Views.{IsRoomy}
use Rattle.p9_client.specs.Opening.{copied_told, created_told, created as client_created}
use Rattle.fuse_gate.specs.Standing.{IsInStep, machine_of}
use Rattle.fuse_gate.specs.Changes.{without, one_sent}
use Rattle.fuse_gate.specs.Creation.{HasOpen, MayCreate, ServesCreation, ServesOpenEntry}
use Rattle.fuse_gate.specs.Creation.{LeavesCreation, creation}
use Rattle.fuse_gate.specs.declared.gate.Node.{Node}
use Rattle.fuse_gate.specs.declared.gate.Gate.{Gate}
use Rattle.fuse_gate.proofs.Asking.{Tells, pair}
use Rattle.fuse_gate.proofs.Standings.{node_good, fids_below, sent_stands, in_all}
use Rattle.fuse_gate.proofs.Changing.{tree_paired}
use Rattle.fuse_gate.proofs.CopiedFids.{CopyTold, MayStay, copy_let_go, copy_part, left_part}
use Rattle.fuse_gate.proofs.CopiedFids.{left_stays, opened_copy}
use Rattle.fuse_gate.proofs.Serving.{SentAlone, one_alone, one_message}
use Rattle.fuse_gate.proofs.TreeChanging.{held_same}
use Rattle.fuse_gate.proofs.MakingDirectories.{kept_more}
use Rattle.fuse_gate.proofs.OpenEntries.{later_free}

abbrev view : {A : Type 0} → Result A ℕ → Reply
view (Ok a) = Refused EIO
view (Err e) = Refused e

module _ {g : Gate} (n : Moment) {id : ℕ} {k : Node} {name : List ℕ} (flags mode : ℕ)
    (h : MayCreate g n.state id k name) (good : IsGoodServer n.state) where
  abbrev s : ServerState
  s = n.state

  abbrev m : MachineState
  m = machine_of g s

  abbrev held : ℕ → Bool
  held = is_named m.nodes m.handles

  abbrev told : Result (ℕ × Tree) ℕ
  told = new_file_of s.tree k.ino name flags mode

  abbrev part : Tree → Type 0
  part t = LeavesCreation k name flags mode (g, n) t

  numbers : (len m.nodes + len m.handles + 2 ≤ s.settings.limit) × (g.next + 2 ≤ 4294967295)
  numbers = room_for_two s.settings m h.room

  pub low_number : g.next + 2 ≤ 4294967295
  low_number = numbers.1

  -- ---- the copy

  pub copy_fresh : get s.fids (g.next + 1) ≡ None
  copy_fresh = later_free h.stands (g.next + 1) (omega arith)

  pub copy_below : len s.fids < s.settings.limit
  copy_below = fids_below h.stands (room_for_one s.settings m h.room)

  abbrev copied : ServerState
  copied = record s { fids = insert s.fids (g.next + 1) (closed k.ino) }

  pub copy_refused : (e : ℕ) (g1 : Gate) (n1 : Moment) → g1 ≡ one_sent g → AskedOne n n1
      → n.faults ≤ n1.faults → Tells (copied_told s k.ino (g.next + 1)) (Err e) n n1
      → ServesCreation k name flags mode (g, n) (g1, n1) (Refused e)
  copy_refused e g1 n1 sent asked rises tells =
      one_message h.stands (creation k name flags mode (g, n)) (created_messages told) part
      (copied_told s k.ino (g.next + 1)) (Err e) view refl 1 g1 n1 (one_alone g1 n1 sent asked)
      rises (inl refl) tells
      (λ q. absurd (let clash : Err e ≡ Ok tt =
      ap (λ (x : Result (Unit {0}) ℕ × ServerState). x.0) q in cc))

  pub copy_is : (u : Unit {0}) (n1 : Moment)
      → Tells (copied_told s k.ino (g.next + 1)) (Ok u) n n1 → n1.state ≡ copied
  copy_is u n1 tells = ⊎_elim (λ q. ap (λ (x : Result (Unit {0}) ℕ × ServerState). x.1) q)
      (λ f. absurd (let clash = f.1 in cc)) tells

  -- ---- what the server tells is what the machine tells

  server_tells : created_told copied (g.next + 1) name flags mode
      ≡ client_created copied (g.next + 1) flags told
  server_tells = ap (λ (o : Option Fid). client_created copied (g.next + 1) flags
      (by_fid (λ f. new_file_of s.tree f.ino name flags mode) o))
      (inserted s.fids (g.next + 1) (closed k.ino))

  -- ---- a file was made

  module _ (ino : ℕ) (u : Tree) (is : told ≡ Ok (ino, u)) where
    all : IsGoodTree u × Leaves held s.tree u × IsSome (get u.records ino)
    all = create_leaves s.tree good.tree held name h.fine k.ino flags mode ino u is

    kept_named : IsKept u.records held
    kept_named = create_stays s.tree good.tree held name h.fine k.ino flags mode ino u is
        (subst (λ (h : ℕ → Bool). IsKept s.tree.records h) (sym (held_same n h.stands)) good.kept)

    kept_held : IsKept u.records (is_held s.fids)
    kept_held = subst (λ (h : ℕ → Bool). IsKept u.records h) (held_same n h.stands) kept_named

    abbrev s1 : ServerState
    s1 = record s { tree = u }

    stands_now : IsInStep g s1
    stands_now = record {
      good = changed_tree_good s.settings m h.stands.good u all.0 all.1;
      paired = tree_paired g s u h.stands
          (subst (λ (t : Tree). KeepsKinds s.tree t) (keep_same u held kept_named)
          (leaves_kinds held s.tree u all.1));
      roomy = h.stands.roomy;
    }

    good_now : IsGoodServer s1
    good_now = record {
      tree = all.0;
      kept = kept_held;
      stored = λ i is_held. create_keeps s.tree good.tree held name h.fine k.ino flags mode ino u
          is i (good.stored i is_held);
      roomy = good.roomy;
      below = good.below;
    }

    -- it is left, whatever is named besides
    made_part : (t : Tree) → t ≡ u → part t
    made_part t same =
        let x = with_handle (with_node (record m { tree = u }) ino) ino flags in
        inr (same
        ∙ sym (kept_more u held (is_named x.nodes x.handles)
        (λ i. opened_named s.settings m h.stands.good ino flags i) kept_named)
        ∙ ap (λ (c : Result (ℕ × Tree) ℕ). (kept_state (created s.settings m flags c).1).tree)
        (sym is))

    abbrev s2 : ServerState
    s2 = record s1 { fids = insert s.fids (g.next + 1) (fid_opened (closed ino) flags) }

    stand_is : (client_created copied (g.next + 1) flags (Ok (ino, u))).1 ≡ s2
    stand_is = opened_copy s.fids (g.next + 1) copy_fresh (closed k.ino)
        (fid_opened (closed ino) flags) s1 kept_held

    path_is : (qid_at u ino).1.1 ≡ ino
    path_is = by_record (get u.records ino) refl all.2 where
      by_record : (o : Option Record) → get u.records ino ≡ o → IsSome (get u.records ino)
          → (qid_at u ino).1.1 ≡ ino
      by_record None at had = absurd (let none = subst IsSome at had in cc)
      by_record (Some r) at had = ap (λ o. (qid_told (attr_or_missing ino o)).1.1) at

    unnamed : (o : Option ℕ) → get g.ids ino ≡ o → o ≡ None
    unnamed None at = refl
    unnamed (Some id) at =
        let known = h.stands.paired.ids ino id at in
        let stored = (node_good h.stands id known.0 known.1).stored in
        absurd (false≢true (subst IsSome
        (create_unknown s.tree good.tree held name h.fine k.ino flags mode ino u is)
        (subst (λ (i : ℕ). IsSome (get s.tree.records i)) known.2 stored)))

    has_open : (count : ℕ) → HasOpen (record g { nine_frames = count }) s2 ino (qid_at u ino) flags
    has_open count =
        let base : without s2 (g.next + 1) ≡ s1 =
        ap (λ (f : Fids). let x : ServerState = record s1 { fids = f } in x)
        (undone s.fids (g.next + 1) (fid_opened (closed ino) flags) copy_fresh) in
        record {
          stands = subst (IsInStep (record g { nine_frames = count })) (sym base)
              (sent_stands stands_now count);
          good = subst IsGoodServer (sym base) good_now;
          is_open = inserted s.fids (g.next + 1) (fid_opened (closed ino) flags);
          stored = all.2;
          named = refl;
          unnamed = unnamed (get g.ids ino) refl;
          room = h.room;
          few = (let all = in_all h.stands in let few = numbers.0 in let small = h.small in
              omega (arith, all, few, small));
          allowed = create_access s.tree good.tree held name h.fine k.ino flags mode ino u is;
          openable = create_openable s.tree good.tree held name h.fine k.ino flags mode ino u is;
        }

    module _ (g2 : Gate) (n2 : Moment) (two : SentAlone 2 g n g2 n2) (state : n2.state ≡ s2)
        (rises : n.faults ≤ n2.faults) (q : Qid) (told_qid : q ≡ qid_at u ino) where
      pub may_enter : HasOpen g2 n2.state q.1.1 q flags
      may_enter = subst (λ (x : Gate). HasOpen x n2.state q.1.1 q flags) (sym two.gate)
          (subst (λ (x : ServerState). HasOpen (record g { nine_frames = g2.nine_frames }) x q.1.1 q
          flags) (sym state)
          (subst (λ (x : Qid). HasOpen (record g { nine_frames = g2.nine_frames }) s2 x.1.1 x
          flags) (sym told_qid)
          (subst (λ (i : ℕ). HasOpen (record g { nine_frames = g2.nine_frames }) s2 i (qid_at u ino)
          flags) (sym path_is) (has_open g2.nine_frames))))

      abbrev m1 : MachineState
      m1 = record m { tree = u }

      same : machine_of g2 n2.state ≡ m1
      same = ap (machine_of g2) state ∙ ap (λ (x : Gate). machine_of x s2) two.gate

      settings : n2.state.settings ≡ s.settings
      settings = ap (λ (x : ServerState). x.settings) state

      answer_is : entered_open n2.state.settings (machine_of g2 n2.state) q.1.1 flags
          ≡ creation k name flags mode (g, n)
      answer_is = (λ j. entered_open (settings j) (same j) (told_qid j).1.1 flags)
          ∙ ap (λ (i : ℕ). entered_open s.settings m1 i flags) path_is
          ∙ ap (created s.settings m flags) (sym is)

      -- nothing but the file was made
      pub entry_part : (t : Tree) → t ≡ n2.state.tree → part t
      entry_part t same = made_part t (same ∙ ap (λ (x : ServerState). x.tree) state)

      pub entry_served : (new : Gate × Moment) (reply : Reply)
          → ServesOpenEntry q.1.1 flags (g2, n2) new reply
          → ServesCreation k name flags mode (g, n) new reply
      entry_served new reply served =
          let first = two.messages.frames in
          let handed = two.messages.asked in
          let more = served.messages.frames in
          let then = served.messages.asked in
          record {
            stands = served.stands;
            sent = 2 + served.sent;
            messages = record {
              frames = omega (arith, first, more);
              asked = omega (arith, handed, then);
            };
            outcome = ⊎_elim
                (λ e. inl (
                  e.0 ∙ ap (λ (x : Reply × MachineState). x.0) answer_is,
                  e.1 ∙ ap (λ (x : Reply × MachineState). kept_state x.1) answer_is,
                  ap (λ c. 2 + c) e.2 ∙ ap created_messages (sym is),
                ))
                (λ f. let rose = f.0 in inr (
                  omega (arith, rises, rose),
                  f.1,
                  f.2 ∙ ap (λ (x : MachineState). let y : MachineState =
                      record x { tree = new.1.state.tree } in y) same,
                  entry_part new.1.state.tree f.3,
                ))
                served.outcome;
          }

  -- ---- what the creating message told

  abbrev server : Result Qid ℕ × ServerState
  server = client_created copied (g.next + 1) flags told

  abbrev Refuses : ℕ → Type 0
  Refuses e = told ≡ Err e

  told_by : (c : Result (ℕ × Tree) ℕ) → told ≡ c
      → CopyTold n h.stands good (g.next + 1) k.ino copy_fresh part (inl refl) Refuses
      (client_created copied (g.next + 1) flags c)
  told_by (Ok (ino, u)) is = inr (
    qid_at u ino,
    refl,
    subst (MayStay g s part) (sym (ap (λ (x : ServerState). x.tree) (stand_is ino u is))) (record {
      done = made_part ino u is u refl;
      stands = stands_now ino u is;
      whole = kept_state_good (s1 ino u is) (good_now ino u is);
    }),
  )
  told_by (Err e) is = inl (e, is, refl)

  -- no memory for the message
  pub create_part : (x : ServerState) → x ≡ copied → (t : Tree)
      → OldOrTold (created_told x (g.next + 1) name flags mode) x.tree t → part t
  create_part x is t left =
      copy_part n h.stands good (g.next + 1) k.ino copy_fresh part (inl refl) Refuses server
      (told_by told refl) t
      (subst (λ (p : Result Qid ℕ × ServerState). OldOrTold p s.tree t) server_tells
      (subst (λ (y : ServerState). OldOrTold (created_told y (g.next + 1) name flags mode) y.tree t)
      is left))

  module _ (n1 n2 : Moment) (copy : n1.state ≡ copied) (x : Result Qid ℕ)
      (asks : Asks (created_told n1.state (g.next + 1) name flags mode)
      (OldOrTold (created_told n1.state (g.next + 1) name flags mode)) x n1.state n2.state n1.faults
      n2.faults) where
    asks_copied : Asks server (OldOrTold server) x copied n2.state n1.faults n2.faults
    asks_copied = subst (λ (p : Result Qid ℕ × ServerState).
        Asks p (OldOrTold p) x copied n2.state n1.faults n2.faults) server_tells
        (subst (λ (y : ServerState). Asks (created_told y (g.next + 1) name flags mode)
        (OldOrTold (created_told y (g.next + 1) name flags mode)) x y n2.state n1.faults n2.faults)
        copy asks)

    pub file_made : (q : Qid) → x ≡ Ok q
        → (ino : ℕ) × (u : Tree) × (is : told ≡ Ok (ino, u)) × (q ≡ qid_at u ino)
        × (n2.state ≡ s2 ino u is)
    file_made q made = ⊎_elim (λ e. by_told told refl e)
        (λ f. absurd (let clash : Ok q ≡ Err EIO = sym made ∙ f.1 in cc)) asks_copied
      where
        by_told : (c : Result (ℕ × Tree) ℕ) → told ≡ c
            → pair x n2.state ≡ client_created copied (g.next + 1) flags c
            → (ino : ℕ) × (u : Tree) × (is : told ≡ Ok (ino, u)) × (q ≡ qid_at u ino)
            × (n2.state ≡ s2 ino u is)
        by_told (Ok (ino, u)) is e = (
          ino,
          u,
          is,
          (let both : ◌≡◌ {A = Result Qid ℕ} (Ok q) (Ok (qid_at u ino)) =
              sym made ∙ ap (λ (y : Result Qid ℕ × ServerState). y.0) e in cc),
          ap (λ (y : Result Qid ℕ × ServerState). y.1) e ∙ stand_is ino u is,
        )
        by_told (Err d) is e = absurd (let clash : Ok q ≡ Err d =
            sym made ∙ ap (λ (y : Result Qid ℕ × ServerState). y.0) e in cc)

    -- ---- no file is told

    module _ (e : ℕ) (refused : x ≡ Err e) where
      pub fid_stays : IsRoomy n2.state × IsSome (get n2.state.fids (g.next + 1))
      fid_stays = left_stays n h.stands good (g.next + 1) k.ino copy_fresh part (inl refl) Refuses
          server (told_by told refl) n1 n2 x asks_copied e refused

      -- no memory while the copy goes
      pub create_left : (y : ServerState) → (y ≡ n2.state) ⊎ (y ≡ clunked n2.state (g.next + 1))
          → part y.tree
      create_left = left_part n h.stands good (g.next + 1) k.ino copy_fresh part (inl refl)
          Refuses server (told_by told refl) n1 n2 x asks_copied e refused

      pub create_refused : (g3 : Gate) (n3 : Moment) → SentAlone 3 g n g3 n3
          → n.faults ≤ n1.faults → n2.faults ≤ n3.faults
          → n3.state ≡ clunked n2.state (g.next + 1)
          → ServesCreation k name flags mode (g, n) (g3, n3) (Refused e)
      create_refused g3 n3 three rises later gone =
          copy_let_go n h.stands good (g.next + 1) k.ino copy_fresh part (inl refl) Refuses server
          (told_by told refl) n1 n2 x asks_copied e refused g3 n3 three rises later gone
          (creation k name flags mode (g, n)) (created_messages told)
          (λ is. (
            sym (ap (λ (c : Result (ℕ × Tree) ℕ). (created s.settings m flags c).0) is),
            ap (λ (c : Result (ℕ × Tree) ℕ). (created s.settings m flags c).1) is,
            sym (ap created_messages is),
          ))
