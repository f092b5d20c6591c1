-- A new fid becomes a node, or goes again.
use Rattle.std.proofs.Common.{◌≡◌, ℕ, ◌+◌, ◌≤◌, refl, sym, ap, ◌∙◌, subst, Option, Some, None}
use Rattle.std.proofs.Common.{Result, Ok, Err, arith, IsSome, min, ◌⊎◌, ⊎_elim}
use Rattle.std.specs.FinMap.{FinMap, get, insert}
use Rattle.port_base.specs.declared.errno.TheConstants.{EIO}
use Rattle.tree_model.specs.Tree.{Record}
use Rattle.tree_model.specs.Attributes.{kind_of, qid_type, Qid, attr_of, attr_or_missing}
use Rattle.tree_model.specs.Settings.{shown_of, shown_told}
use Rattle.tree_model.specs.declared.attributes.Attr.{Attr}
use Rattle.fuse_wire.specs.declared.attr.FileAttr.{FileAttr}
use Rattle.tree_machine.specs.State.{MachineState, Node as MachineNode, kept_state, COUNT_LIMIT}
use Rattle.tree_machine.specs.Replies.{Reply, fuse_attributes}
use Rattle.tree_machine.specs.Replies.Reply.{Refused, Entry}
use Rattle.tree_machine.specs.Core.{node_of as node_found, node_for, looked_up, entered}
use Rattle.tree_machine.specs.Core.{entry_reply, shown_at}
use Rattle.tree_machine.specs.Good.{IsGoodMachine}
use Rattle.tree_machine.proofs.Steps.{given_good, kept_good}
use Rattle.fid_model.specs.Fids.{ServerState, IsGoodServer}
use Rattle.fid_model.specs.Answers.{qid_told}
use Rattle.fid_model.specs.Calls.{getattr_told, clunked}
use Rattle.fid_model.specs.Moments.{Moment, Untouched, AskedOne}
use Rattle.fid_model.proofs.Keeping.{kept_state_good}
use Rattle.p9_client.specs.Views.{IsRoomy}
use Rattle.fuse_gate.specs.Mapped.{mapped}
use Rattle.fuse_gate.specs.Standing.{ArePaired, machine_of, node_of}
use Rattle.fuse_gate.specs.Steps.{Serves}
use Rattle.fuse_gate.specs.Replies.{fuse_shown, attributes_shown}
use Rattle.fuse_gate.specs.Changes.{HasFresh, ServesEntry, without, counted_node, counted_by}
use Rattle.fuse_gate.specs.Changes.{counted_up, with_node, one_sent, entering_rest}
use Rattle.fuse_gate.specs.declared.gate.TheConstants.{LEAST_MSIZE}
use Rattle.fuse_gate.specs.declared.gate.Gate.{Gate}
use Rattle.fuse_gate.proofs.MappedLemmas.{mapped-insert}
use Rattle.fuse_gate.proofs.Known.{known_found, unknown_found}
use Rattle.fuse_gate.proofs.Asking.{Tells, state_same}
use Rattle.fuse_gate.proofs.Standings.{sent_stands}
use Rattle.fuse_gate.proofs.Serving.{SentAlone, one_alone, one_more_sent, hurt, made}
use Rattle.fuse_gate.proofs.Changing.{counted_paired, added_paired}
use Rattle.fuse_gate.proofs.Showing.{some_value}

abbrev pub entry_of : ℕ → Result FileAttr ℕ → Reply
entry_of node (Ok a) = Entry node a
entry_of node (Err e) = Refused e

pub replied : (node : ℕ) (x : Result Attr ℕ) → entry_of node (fuse_shown x) ≡ entry_reply node x
replied node (Ok a) = refl
replied node (Err e) = refl

module _ {g : Gate} (n : Moment) {ino : ℕ} {qid : Qid} (h : HasFresh g n.state ino qid) where
  abbrev s : ServerState
  s = n.state

  -- the same moment without the new fid
  abbrev base : Moment
  base = record n { state = without s g.next }

  gone_again : clunked s g.next ≡ without s g.next
  gone_again = kept_state_good (without s g.next) h.good

  abbrev told : Reply × MachineState
  told = looked_up s.settings (machine_of g s) (Ok ino)

  abbrev rest : ℕ
  rest = entering_rest (node_found (machine_of g s) ino)

  -- the clauses speak of the state with the fid
  with_fid : (new : Gate × Moment) (reply : Reply)
      → Serves told rest (Untouched s.tree) (g, base) new reply → ServesEntry ino (g, n) new reply
  with_fid new reply served = record {
    stands = served.stands;
    sent = served.sent;
    messages =
        record { frames = served.messages.frames; asked = served.messages.asked };
    outcome =
        served.outcome;
  }

  told_good : IsGoodMachine s.settings (kept_state told.1)
  told_good = kept_good s.settings (node_for (machine_of g s) ino
      (node_found (machine_of g s) ino)).1
      (given_good s.settings (machine_of g s) h.stands.good ino h.stored h.room
      (node_found (machine_of g s) ino) refl)

  told_is : (o : Option (ℕ × MachineNode)) → node_found (machine_of g s) ino ≡ o
      → told ≡ entered s.settings s.tree ino (node_for (machine_of g s) ino o)
  told_is o is = ap (λ o. entered s.settings s.tree ino (node_for (machine_of g s) ino o)) is

  -- the attributes were asked for
  module _ (g1 : Gate) (n1 : Moment) (r : Result FileAttr ℕ)
      (tells : Tells (attributes_shown s ino) r n n1) where
    pub shown_same : n1.state ≡ s
    shown_same = state_same (fuse_shown (getattr_told s ino).0) r n n1 tells

    pub fresh_stays : IsRoomy n1.state × IsSome (get n1.state.fids g.next)
    fresh_stays = subst (λ (x : ServerState). IsRoomy x × IsSome (get x.fids g.next))
        (sym shown_same) (record { enough = h.stands.roomy }, subst IsSome (sym h.fresh) refl)

    -- the second fid goes
    pub back : (n2 : Moment) → n2.state ≡ clunked n1.state g.next → n2.state ≡ without s g.next
    back n2 gone = gone ∙ ap (λ (x : ServerState). clunked x g.next) shown_same ∙ gone_again

    -- no memory while it goes
    pub clunk_tree : (n2 : Moment) → (n2.state ≡ n1.state) ⊎ (n2.state ≡ clunked n1.state g.next)
        → n2.state.tree ≡ s.tree
    clunk_tree n2 k = ⊎_elim
        (λ e. ap (λ (x : ServerState). x.tree) (e ∙ shown_same))
        (λ e. ap (λ (x : ServerState). x.tree) (back n2 e)) k

    module _ (sent : g1 ≡ one_sent g) (asked : AskedOne n n1) where
      alone : SentAlone 1 g base g1 n1
      alone = let a = one_alone {n = n} g1 n1 sent asked in record {
        gate = a.gate;
        messages = record {
          frames = a.messages.frames;
          asked =
              a.messages.asked;
        };
      }

      -- a fault
      pub enter_refused : (e : ℕ) → r ≡ Err e → (g2 : Gate) (n2 : Moment) → g2 ≡ one_sent g1
          → AskedOne n1 n2 → n1.faults ≤ n2.faults → n2.state ≡ clunked n1.state g.next
          → ServesEntry ino (g, n) (g2, n2) (Refused e)
      enter_refused e is g2 n2 more again later gone = ⊎_elim
          (λ q. absurd (
          let stored = some_value (get s.tree.records ino) h.stored in
          let clash : Err e ≡ Ok (fuse_attributes (shown_of s.settings (attr_of ino stored.0))) =
          sym is ∙ ap (λ (x : Result FileAttr ℕ × ServerState). x.0) q
          ∙ ap (λ o. fuse_shown (shown_told s.settings (attr_or_missing ino o))) stored.1
          in cc))
          (λ k.
          let same : Err e ≡ Err EIO = sym is ∙ k.1 in
          let eio : e ≡ EIO = cc in
          let rose = k.0 in
          subst (λ d. ServesEntry ino (g, n) (g2, n2) (Refused d)) (sym eio)
          (with_fid (g2, n2) (Refused EIO) (hurt h.stands told rest (Untouched s.tree) 2 g2 n2
          (one_more_sent alone g2 n2 more again) (back n2 gone) (omega (arith, later, rose))
          refl)))
          tells

      module _ (a : FileAttr) (is : r ≡ Ok a) where
        entry_is : (node : ℕ) → Entry node a ≡ entry_reply node (shown_at s.settings s.tree ino)
        entry_is node = ⊎_elim
            (λ q. ap (entry_of node) (sym is ∙ ap (λ (x : Result FileAttr ℕ × ServerState). x.0) q)
            ∙ replied node (shown_at s.settings s.tree ino))
            (λ k. absurd (let clash : Ok a ≡ Err EIO = sym is ∙ k.1 in cc)) tells

        -- an inode that has a node
        pub enter_known : (id : ℕ) → get g1.ids ino ≡ Some id → (g2 g3 : Gate) (n2 : Moment)
            → g2 ≡ one_sent g1 → g3 ≡ counted_up g2 id → AskedOne n1 n2
            → n2.state ≡ clunked n1.state g.next → ServesEntry ino (g, n) (g3, n2) (Entry id a)
        enter_known id there g2 g3 n2 more up again gone =
            let indexed : get g.ids ino ≡ Some id = ap (λ (x : Gate). get x.ids ino) (sym sent)
            ∙ there in
            let known = h.stands.paired.ids ino id indexed in
            let found = known_found h.stands ino id known.0 indexed known.1 known.2 in
            let two = one_more_sent alone g2 n2 more again in
            let k : ℕ = g2.nine_frames in
            let gate : g3 ≡ record g {
              nodes =
                  insert g.nodes id (counted_node known.0);
              nine_frames = k;
            } = up
            ∙ ap (λ (x : Gate). counted_up x id) two.gate
            ∙ ap (counted_by (record g { nine_frames = k }) id) known.1 in
            let nodes : mapped node_of (insert g.nodes id (counted_node known.0)) ≡ insert
            (mapped node_of g.nodes) id (record
            { ino = ino; count = min (known.0.count + 1) COUNT_LIMIT }) =
            mapped-insert node_of g.nodes id (counted_node known.0)
            ∙ ap (λ (i : ℕ). insert (mapped node_of g.nodes) id
            (let v : MachineNode = record
            { ino = i; count = min (known.0.count + 1) COUNT_LIMIT } in v)) known.2 in
            let state = back n2 gone in
            let number : rest ≡ 2 = ap entering_rest found in
            let is_told = told_is (Some (id, node_of known.0)) found in
            let frames = two.messages.frames in
            let handed = two.messages.asked in
            subst (λ (x : Gate). ServesEntry ino (g, n) (x, n2) (Entry id a)) (sym gate)
            (with_fid (
              record g {
                nodes = insert g.nodes id (counted_node known.0);
                nine_frames =
                    k;
              },
              n2,
            ) (Entry id a)
            (made told rest (Untouched s.tree) (g, base)
            (record g { nodes = insert g.nodes id (counted_node known.0); nine_frames = k }, n2)
            (Entry id a)
            (subst IsGoodServer (sym state) h.good)
            (subst (ArePaired (record g {
              nodes =
                  insert g.nodes id (counted_node known.0);
              nine_frames = k;
            })) (sym state)
            (counted_paired (record g { nine_frames = k }) (without s g.next)
            (sent_stands h.stands k) id known.0 known.1))
            (subst (λ (x : ServerState). LEAST_MSIZE ≤ x.msize) (sym state) h.stands.roomy)
            (ap (λ (x : ServerState). x.settings) state) told_good
            (entry_is id ∙ sym (ap (λ (x : Reply × MachineState). x.0) is_told))
            (ap (machine_of (record g {
              nodes =
                  insert g.nodes id (counted_node known.0);
              nine_frames = k;
            })) state
            ∙ ap (λ (x : FinMap _ MachineNode). let m : MachineState =
            record (machine_of g s) { nodes = x } in m) nodes
            ∙ sym (ap (λ (x : Reply × MachineState). x.1) is_told))
            (record {
              frames = omega (arith, frames, number);
              asked =
                  omega (arith, handed, number);
            })))

        kind_is : (r : Record) → get s.tree.records ino ≡ Some r → qid.0 ≡ qid_type (kind_of r.body)
        kind_is r at = ap (λ (q : Qid). q.0) (h.named
            ∙ ap (λ o. qid_told (attr_or_missing ino o)) at)

        -- an inode that has none
        pub enter_new : IsGoodServer n1.state → get g1.ids ino ≡ None → (g2 : Gate)
            → g2 ≡ with_node g1 ino qid.0 → ServesEntry ino (g, n) (g2, n1) (Entry g.next a)
        enter_new good there g2 added =
            let unknown : get g.ids ino ≡ None = ap (λ (x : Gate). get x.ids ino) (sym sent)
            ∙ there in
            let found = unknown_found h.stands ino unknown in
            let nodes = mapped-insert node_of g.nodes g.next
            (record { ino = ino; count = 1; kind = qid.0 }) in
            let state = shown_same in
            let number : rest ≡ 1 = ap entering_rest found in
            let is_told = told_is None found in
            let frames = alone.messages.frames in
            let handed = alone.messages.asked in
            let gate : g2 ≡ with_node (record g { nine_frames = g1.nine_frames }) ino qid.0 = added
            ∙ ap (λ (x : Gate). with_node x ino qid.0) alone.gate in
            subst (λ (x : Gate). ServesEntry ino (g, n) (x, n1) (Entry g.next a)) (sym gate)
            (with_fid (with_node (record g { nine_frames = g1.nine_frames }) ino qid.0, n1)
            (Entry g.next a)
            (made told rest (Untouched s.tree) (g, base)
            (with_node (record g { nine_frames = g1.nine_frames }) ino qid.0, n1)
            (Entry g.next a) good
            (subst (ArePaired (with_node (record g { nine_frames = g1.nine_frames }) ino qid.0))
            (sym state)
            (added_paired (record g { nine_frames = g1.nine_frames }) s
            (sent_stands h.stands g1.nine_frames) ino qid.0 h.fresh unknown kind_is))
            (subst (λ (x : ServerState). LEAST_MSIZE ≤ x.msize) (sym state) h.stands.roomy)
            (ap (λ (x : ServerState). x.settings) state) told_good
            (entry_is g.next ∙ sym (ap (λ (x : Reply × MachineState). x.0) is_told))
            (ap (machine_of (with_node (record g { nine_frames = g1.nine_frames }) ino qid.0)) state
            ∙ ap (λ (x : FinMap _ MachineNode). let m : MachineState =
            record (machine_of g s) { nodes = x; next = g.next + 1 } in m) nodes
            ∙ sym (ap (λ (x : Reply × MachineState). x.1) is_told))
            (record {
              frames = omega (arith, frames, number);
              asked =
                  omega (arith, handed, number);
            })))
