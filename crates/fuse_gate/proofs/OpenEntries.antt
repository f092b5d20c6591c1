-- The open fid of a new file: the file becomes a node, and the fid a handle; or both go again.
use Rattle.std.proofs.Common.{◌≡◌, ◌≢◌, ℕ, ◌+◌, ◌<◌, ◌≤◌, refl, sym, ap, ◌∙◌, subst, Option}
use Rattle.std.proofs.Common.{Some, None, Result, Ok, Err, arith, IsSome, ◌⊎◌, ⊎_elim}
use Rattle.std.proofs.lemmas.Bool.{cases_eq}
use Rattle.std.specs.FinMap.{get, insert, remove, len}
use Rattle.port_base.specs.Faults.{Rose}
use Rattle.port_base.specs.declared.errno.TheConstants.{EIO}
use Rattle.tree_model.specs.Tree.{Record}
use Rattle.tree_model.specs.Attributes.{Qid, kind_of, qid_type, attr_of, attr_or_missing}
use Rattle.tree_model.specs.Settings.{shown_of, shown_told}
use Rattle.tree_model.specs.declared.attributes.Attr.{Attr}
use Rattle.tree_model.proofs.Maps.{inserted, insert_keeps, removed, remove_keeps, undone}
use Rattle.tree_model.proofs.Maps.{same_gets}
use Rattle.tree_model.proofs.Counting.{put_back}
use Rattle.fuse_wire.specs.declared.attr.FileAttr.{FileAttr}
use Rattle.tree_machine.specs.declared.limits.TheConstants.{NUMBER_LIMIT}
use Rattle.tree_machine.specs.State.{MachineState}
use Rattle.tree_machine.specs.State.{kept_state}
use Rattle.tree_machine.specs.Replies.{Reply, fuse_attributes}
use Rattle.tree_machine.specs.Replies.Reply.{Refused, Created}
use Rattle.tree_machine.specs.Core.{shown_at}
use Rattle.tree_machine.specs.Creating.{entered_open, created_reply}
use Rattle.tree_machine.specs.Good.{IsGoodMachine}
use Rattle.tree_machine.proofs.CreatedFiles.{entered_open_good, room_for_two}
use Rattle.fid_model.specs.Fids.{ServerState, Fids, IsGoodServer, closed}
use Rattle.fid_model.specs.Fids.{kept_state as kept_server}
use Rattle.fid_model.specs.Answers.{opened as fid_opened, qid_told}
use Rattle.fid_model.specs.Calls.{clunked}
use Rattle.fid_model.specs.Moments.{Moment, Untouched}
use Rattle.fid_model.proofs.Keeping.{kept_state_good}
use Rattle.p9_client.specs.Views.{IsRoomy}
use Rattle.p9_client.specs.Opening.{copied_told}
use Rattle.fuse_gate.specs.Standing.{IsInStep, ArePaired, machine_of, node_of, handle_of, fid_at}
use Rattle.fuse_gate.specs.Standing.{opened}
use Rattle.fuse_gate.specs.Steps.{Serves}
use Rattle.fuse_gate.specs.Replies.{fuse_shown, attributes_shown}
use Rattle.fuse_gate.specs.Changes.{without, with_node, with_handle}
use Rattle.fuse_gate.specs.Creation.{HasOpen, ServesOpenEntry, open_by}
use Rattle.fuse_gate.specs.declared.gate.TheConstants.{LEAST_MSIZE}
use Rattle.fuse_gate.specs.declared.gate.Node.{Node}
use Rattle.fuse_gate.specs.declared.gate.Handle.{Handle}
use Rattle.fuse_gate.specs.declared.gate.Gate.{Gate}
use Rattle.fuse_gate.proofs.MappedLemmas.{mapped-insert}
use Rattle.fuse_gate.proofs.Known.{unknown_found}
use Rattle.fuse_gate.proofs.Asking.{Tells, state_same}
use Rattle.fuse_gate.proofs.Standings.{fid_free, sent_stands, in_all}
use Rattle.fuse_gate.proofs.Standings.{node_good, handle_good}
use Rattle.fuse_gate.proofs.Changing.{added_paired, insert_cases, len_new}
use Rattle.fuse_gate.proofs.Serving.{SentAlone, hurt, made}
use Rattle.fuse_gate.proofs.Showing.{some_value}

-- ---- the next number becomes a handle

module _ (g : Gate) (s : ServerState) (p : ArePaired g (without s g.next)) (h : Handle)
    (fresh : get s.fids g.next ≡ Some (opened h)) (no_node : get g.nodes g.next ≡ None)
    (no_handle : get g.handles g.next ≡ None)
    (is_kind : (r : Record) → get s.tree.records h.ino ≡ Some r
    → h.kind ≡ qid_type (kind_of r.body)) where
  pub handle_added : ArePaired (with_handle g h) s
  handle_added = record {
    fids = λ q. insert_cases g.handles g.next h q
        (λ o. get s.fids q ≡ fid_at (get g.nodes q) o)
        (λ e. ap (get s.fids) e ∙ fresh
        ∙ sym (ap (λ o. fid_at o (Some h)) (ap (get g.nodes) e ∙ no_node)))
        (λ ne. sym (remove_keeps s.fids g.next q ne) ∙ p.fids q);
    used = (let a = p.used in let b = ap len (sym (put_back s.fids g.next (opened h) fresh))
        ∙ len_new (remove s.fids g.next) g.next (opened h) (removed s.fids g.next) in omega arith);
    counted = (let a = p.counted in let b = len_new g.handles g.next h no_handle in omega arith);
    ids = p.ids;
    known = p.known;
    node_kinds = p.node_kinds;
    handle_kinds = λ q x r. insert_cases g.handles g.next h q
        (λ o. o ≡ Some x → get s.tree.records x.ino ≡ Some r → x.kind ≡ qid_type (kind_of r.body))
        (λ e here stored. let same : h ≡ x = cc in ap (λ (y : Handle). y.kind) (sym same)
        ∙ is_kind r (ap (λ (y : Handle). get s.tree.records y.ino) same ∙ stored))
        (λ ne here stored. p.handle_kinds q x r here stored);
  }

-- no number from the next one on is a fid
module _ {g : Gate} {s : ServerState} (st : IsInStep g s) (q : ℕ) (high : g.next ≤ q) where
  pub later_node : get g.nodes q ≡ None
  later_node = by_node (get g.nodes q) refl where
    by_node : (o : Option Node) → get g.nodes q ≡ o → get g.nodes q ≡ None
    by_node None at = at
    by_node (Some n) at = absurd (let low = (node_good st q n at).drawn in omega arith)

  pub later_handle : get g.handles q ≡ None
  later_handle = by_handle (get g.handles q) refl where
    by_handle : (o : Option Handle) → get g.handles q ≡ o → get g.handles q ≡ None
    by_handle None at = at
    by_handle (Some h) at = absurd (let low = (handle_good st q h at).drawn in omega arith)

  pub later_free : get s.fids q ≡ None
  later_free = st.paired.fids q ∙ ap (λ o. fid_at o (get g.handles q)) later_node
      ∙ ap (fid_at None) later_handle

next_differs : (k : ℕ) → k ≢ k + 1
next_differs k is = omega arith

module _ {g : Gate} (n : Moment) {ino : ℕ} {qid : Qid} {flags : ℕ}
    (h : HasOpen g n.state ino qid flags) (good : IsGoodServer n.state) where
  abbrev s : ServerState
  s = n.state

  abbrev base : ServerState
  base = without s (g.next + 1)

  abbrev first : Moment
  first = record n { state = base }

  abbrev told : Reply × MachineState
  told = entered_open s.settings (machine_of g s) ino flags

  numbers : (len (machine_of g s).nodes + len (machine_of g s).handles + 2 ≤ s.settings.limit)
      × (g.next + 2 ≤ NUMBER_LIMIT)
  numbers = room_for_two s.settings (machine_of g s) h.room

  pub low_next : g.next + 2 ≤ NUMBER_LIMIT
  low_next = numbers.1

  -- ---- the file's fid is copied to the next number

  pub node_free : get s.fids g.next ≡ None
  node_free = sym (remove_keeps s.fids (g.next + 1) g.next (next_differs g.next))
      ∙ fid_free h.stands

  pub node_below : len s.fids < s.settings.limit
  node_below =
      let back = ap len (sym (put_back s.fids (g.next + 1) (fid_opened (closed ino) flags)
      h.is_open))
      ∙ len_new (remove s.fids (g.next + 1)) (g.next + 1) (fid_opened (closed ino) flags)
      (removed s.fids (g.next + 1)) in
      let all = in_all h.stands in
      let used = h.stands.paired.used in
      let room = numbers.0 in
      omega (arith, back, all, used, room)

  pub open_there : IsSome (get s.fids (g.next + 1))
  open_there = subst IsSome (sym h.is_open) refl

  abbrev copied : ServerState
  copied = record s { fids = insert s.fids g.next (closed ino) }

  pub copy_is : (u : Unit {0}) (n1 : Moment) → Tells (copied_told s ino g.next) (Ok u) n n1
      → n1.state ≡ copied
  copy_is u n1 tells = ⊎_elim (λ q. ap (λ (x : Result (Unit {0}) ℕ × ServerState). x.1) q)
      (λ f. absurd (let clash = f.1 in cc)) tells

  pub copy_fault : (e : ℕ) (n1 : Moment) → Tells (copied_told s ino g.next) (Err e) n n1
      → Rose n.faults n1.faults × (e ≡ EIO) × (n1.state ≡ s)
  copy_fault e n1 tells = ⊎_elim
      (λ q. absurd (let clash : Err e ≡ Ok tt =
      ap (λ (x : Result (Unit {0}) ℕ × ServerState). x.0) q in cc))
      (λ f. (f.0, (let both : ◌≡◌ {A = Result (Unit {0}) ℕ} (Err e) (Err EIO) = f.1 in cc), f.2))
      tells

  open_gone : clunked s (g.next + 1) ≡ base
  open_gone = kept_state_good base h.good

  node_gone : clunked copied g.next ≡ s
  node_gone = ap (λ (f : Fids). kept_server (record s { fids = f }))
      (undone s.fids g.next (closed ino) node_free) ∙ kept_state_good s good

  -- the open fid is still there
  pub open_stays : (x : ServerState) → x ≡ s → IsRoomy x × IsSome (get x.fids (g.next + 1))
  open_stays x is = subst (λ (x : ServerState). IsRoomy x × IsSome (get x.fids (g.next + 1)))
      (sym is) (record { enough = h.stands.roomy }, open_there)

  pub copy_stays : (x : ServerState) → x ≡ copied → IsRoomy x × IsSome (get x.fids g.next)
  copy_stays x is = subst (λ (x : ServerState). IsRoomy x × IsSome (get x.fids g.next))
      (sym is) (
        record { enough = h.stands.roomy },
        subst IsSome (sym (inserted s.fids g.next (closed ino))) refl,
      )

  pub copy_at : (x : ServerState) → x ≡ copied → get x.fids g.next ≡ Some (closed ino)
  copy_at x is = ap (λ (x : ServerState). get x.fids g.next) is
      ∙ inserted s.fids g.next (closed ino)

  pub gone_node : (x y : ServerState) → x ≡ copied → y ≡ clunked x g.next → y ≡ s
  gone_node x y is gone = gone ∙ ap (λ (x : ServerState). clunked x g.next) is ∙ node_gone

  pub gone_open : (x y : ServerState) → x ≡ s → y ≡ clunked x (g.next + 1) → y ≡ base
  gone_open x y is gone = gone ∙ ap (λ (x : ServerState). clunked x (g.next + 1)) is ∙ open_gone

  pub open_left : (x y : ServerState) → x ≡ s → (y ≡ x) ⊎ (y ≡ clunked x (g.next + 1))
      → y.tree ≡ s.tree
  open_left x y is k = ⊎_elim
      (λ e. ap (λ (x : ServerState). x.tree) (e ∙ is))
      (λ e. ap (λ (x : ServerState). x.tree) (gone_open x y is e)) k

  pub node_left : (x y : ServerState) → x ≡ copied → (y ≡ x) ⊎ (y ≡ clunked x g.next)
      → y.tree ≡ s.tree
  node_left x y is k = ⊎_elim
      (λ e. ap (λ (x : ServerState). x.tree) (e ∙ is))
      (λ e. ap (λ (x : ServerState). x.tree) (gone_node x y is e)) k

  -- ---- what is served

  -- the clauses speak of the state with the fid
  with_fid : (new : Gate × Moment) (reply : Reply)
      → Serves told 2 (Untouched s.tree) (g, first) new reply
      → ServesOpenEntry ino flags (g, n) new reply
  with_fid new reply served = record {
    stands = served.stands;
    sent = served.sent;
    messages = record { frames = served.messages.frames; asked = served.messages.asked };
    outcome = served.outcome;
  }

  pub without_fid : {count : ℕ} (g1 : Gate) (n1 : Moment) → SentAlone count g n g1 n1
      → SentAlone count g first g1 n1
  without_fid g1 n1 a = record {
    gate = a.gate;
    messages = record { frames = a.messages.frames; asked = a.messages.asked };
  }

  -- a fault was met, and both fids are gone
  pub entry_hurt : (count e : ℕ) (g1 : Gate) (n1 : Moment) → SentAlone count g n g1 n1
      → n1.state ≡ base → Rose n.faults n1.faults → e ≡ EIO
      → ServesOpenEntry ino flags (g, n) (g1, n1) (Refused e)
  entry_hurt count e g1 n1 alone gone rose eio =
      subst (λ d. ServesOpenEntry ino flags (g, n) (g1, n1) (Refused d)) (sym eio)
      (with_fid (g1, n1) (Refused EIO)
      (hurt h.stands told 2 (Untouched s.tree) count g1 n1 (without_fid g1 n1 alone) gone rose
      refl))

  module _ (n1 n2 : Moment) (same : n1.state ≡ copied) (r : Result FileAttr ℕ)
      (tells : Tells (attributes_shown n1.state ino) r n1 n2) where
    pub shown_same : n2.state ≡ copied
    shown_same = state_same (attributes_shown n1.state ino).0 r n1 n2 tells ∙ same

    pub shown_tree : n2.state.tree ≡ s.tree
    shown_tree = ap (λ (x : ServerState). x.tree) shown_same

    pub shown_fault : (e : ℕ) → r ≡ Err e → Rose n1.faults n2.faults × (e ≡ EIO)
    shown_fault e is = ⊎_elim
        (λ q. absurd (
        let stored = some_value (get s.tree.records ino) h.stored in
        let clash : Err e ≡ Ok (fuse_attributes (shown_of s.settings (attr_of ino stored.0))) =
        sym is ∙ ap (λ (x : Result FileAttr ℕ × ServerState). x.0) q
        ∙ ap (λ (x : ServerState). (attributes_shown x ino).0) same
        ∙ ap (λ o. fuse_shown (shown_told s.settings (attr_or_missing ino o))) stored.1
        in cc))
        (λ k. (k.0, (let both : ◌≡◌ {A = Result FileAttr ℕ} (Err e) (Err EIO) = sym is ∙ k.1 in cc)))
        tells

    abbrev reply_by : Result FileAttr ℕ → Reply
    reply_by (Ok a) = Created g.next a (g.next + 1)
    reply_by (Err e) = Refused e

    reply_told : (x : Result Attr ℕ) → reply_by (fuse_shown x) ≡ created_reply g.next x
    reply_told (Ok a) = refl
    reply_told (Err e) = refl

    kind_is : (r : Record) → get s.tree.records ino ≡ Some r → qid.0 ≡ qid_type (kind_of r.body)
    kind_is r at = ap (λ (q : Qid). q.0) (h.named
        ∙ ap (λ o. qid_told (attr_or_missing ino o)) at)

    abbrev node_gate : ℕ → Gate
    node_gate k = with_node (record g { nine_frames = k }) ino qid.0

    abbrev last_gate : ℕ → Gate
    last_gate k = with_handle (node_gate k) (open_by ino qid.0 flags)

    -- without the open fid, the node is there
    node_state : without copied (g.next + 1)
        ≡ (let x : ServerState = record s {
          fids = insert (remove s.fids (g.next + 1)) g.next (closed ino);
        } in x)
    node_state = ap (λ (f : Fids). let x : ServerState = record s { fids = f } in x)
        (swapped s.fids)
      where
        swapped : (m : Fids) → remove (insert m g.next (closed ino)) (g.next + 1)
            ≡ insert (remove m (g.next + 1)) g.next (closed ino)
        swapped m = same_gets _ _ (λ q. ⊎_elim
            (λ e. ap (get (remove (insert m g.next (closed ino)) (g.next + 1))) e
            ∙ remove_keeps (insert m g.next (closed ino)) (g.next + 1) g.next
            (next_differs g.next) ∙ inserted m g.next (closed ino)
            ∙ sym (ap (get (insert (remove m (g.next + 1)) g.next (closed ino))) e
            ∙ inserted (remove m (g.next + 1)) g.next (closed ino)))
            (λ ne. ⊎_elim
            (λ e. ap (get (remove (insert m g.next (closed ino)) (g.next + 1))) e
            ∙ removed (insert m g.next (closed ino)) (g.next + 1)
            ∙ sym (insert_keeps (remove m (g.next + 1)) g.next (closed ino) q ne
            ∙ ap (get (remove m (g.next + 1))) e ∙ removed m (g.next + 1)))
            (λ other. remove_keeps (insert m g.next (closed ino)) (g.next + 1) q other
            ∙ insert_keeps m g.next (closed ino) q ne
            ∙ sym (insert_keeps (remove m (g.next + 1)) g.next (closed ino) q ne
            ∙ remove_keeps m (g.next + 1) q other))
            (cases_eq q (g.next + 1)))
            (cases_eq q g.next))

    abbrev with_node_alone : ServerState
    with_node_alone = record s {
      fids = insert (remove s.fids (g.next + 1)) g.next (closed ino);
    }

    node_paired : (k : ℕ) → ArePaired (node_gate k) with_node_alone
    node_paired k =
        let back : without with_node_alone g.next ≡ base =
        ap (λ (f : Fids). let x : ServerState = record s { fids = f } in x)
        (undone (remove s.fids (g.next + 1)) g.next (closed ino) (fid_free h.stands)) in
        added_paired (record g { nine_frames = k }) with_node_alone
        (subst (IsInStep (record g { nine_frames = k })) (sym back) (sent_stands h.stands k)) ino
        qid.0 (inserted (remove s.fids (g.next + 1)) g.next (closed ino)) h.unnamed kind_is

    all_paired : (k : ℕ) → ArePaired (last_gate k) copied
    all_paired k =
        handle_added (node_gate k) copied
        (subst (ArePaired (node_gate k)) (sym node_state) (node_paired k))
        (open_by ino qid.0 flags)
        (insert_keeps s.fids g.next (closed ino) (g.next + 1)
        (λ is. next_differs g.next (sym is)) ∙ h.is_open)
        (insert_keeps g.nodes g.next (record { ino = ino; count = 1; kind = qid.0 }) (g.next + 1)
        (λ is. next_differs g.next (sym is)) ∙ later_node h.stands (g.next + 1) (omega arith))
        (later_handle h.stands (g.next + 1) (omega arith)) kind_is

    told_good : IsGoodMachine s.settings (kept_state told.1)
    told_good = entered_open_good s.settings (machine_of g s) h.stands.good h.room ino h.stored
        (unknown_found h.stands ino h.unnamed) flags h.allowed h.openable

    -- both numbers are drawn
    pub entry_made : (a : FileAttr) → r ≡ Ok a → IsGoodServer n2.state → (g2 g3 : Gate)
        → SentAlone 2 g n g2 n2
        → g3 ≡ with_handle (with_node g2 ino qid.0) (open_by ino qid.0 flags)
        → ServesOpenEntry ino flags (g, n) (g3, n2) (Created g.next a (g.next + 1))
    entry_made a is good_2 g2 g3 alone drawn =
        let k : ℕ = g2.nine_frames in
        let gate : g3 ≡ last_gate k = drawn
        ∙ ap (λ (x : Gate). with_handle (with_node x ino qid.0) (open_by ino qid.0 flags))
        alone.gate in
        let shown : Created g.next a (g.next + 1)
        ≡ created_reply g.next (shown_at s.settings s.tree ino) = ⊎_elim
        (λ q. ap reply_by (sym is ∙ ap (λ (x : Result FileAttr ℕ × ServerState). x.0) q
        ∙ ap (λ (x : ServerState). (attributes_shown x ino).0) same)
        ∙ reply_told (shown_at s.settings s.tree ino))
        (λ f. absurd (let clash : Ok a ≡ Err EIO = sym is ∙ f.1 in cc)) tells in
        let nodes = mapped-insert node_of g.nodes g.next
        (record { ino = ino; count = 1; kind = qid.0 }) in
        let handles = mapped-insert handle_of g.handles (g.next + 1) (open_by ino qid.0 flags) in
        subst (λ (x : Gate). ServesOpenEntry ino flags (g, n) (x, n2)
        (Created g.next a (g.next + 1))) (sym gate)
        (with_fid (last_gate k, n2) (Created g.next a (g.next + 1))
        (made told 2 (Untouched s.tree) (g, first) (last_gate k, n2)
        (Created g.next a (g.next + 1)) good_2
        (subst (ArePaired (last_gate k)) (sym shown_same) (all_paired k))
        (subst (λ (x : ServerState). LEAST_MSIZE ≤ x.msize) (sym shown_same) h.stands.roomy)
        (ap (λ (x : ServerState). x.settings) shown_same) told_good shown
        (ap (machine_of (last_gate k)) shown_same
        ∙ (λ j. let m : MachineState = record (machine_of g s) {
          nodes = nodes j;
          handles = handles j;
          next = g.next + 1 + 1;
        } in m))
        (record { frames = alone.messages.frames; asked = alone.messages.asked })))
