-- A node is shown, and counts one more.
use Rattle.std.proofs.Common.{◌≡◌, ℕ, ◌≤◌, refl, sym, ap, ◌∙◌, subst, Option, Some}
use Rattle.std.proofs.Common.{Result, Ok, Err, IsSome, ⊎_elim}
use Rattle.std.specs.FinMap.{FinMap, get, insert}
use Rattle.port_base.specs.declared.errno.TheConstants.{EIO}
use Rattle.tree_model.specs.Attributes.{attr_of, attr_or_missing}
use Rattle.tree_model.specs.Settings.{shown_of, shown_told}
use Rattle.fuse_wire.specs.declared.attr.FileAttr.{FileAttr}
use Rattle.tree_machine.specs.State.{MachineState, Node as MachineNode, kept_state}
use Rattle.tree_machine.specs.Replies.{Reply, fuse_attributes}
use Rattle.tree_machine.specs.Replies.Reply.{Refused, Entry}
use Rattle.tree_machine.specs.Core.{node_of as node_found, node_for, looked_up, entered}
use Rattle.tree_machine.specs.Core.{entry_reply, shown_at, node_ino}
use Rattle.tree_machine.specs.Good.{IsGoodMachine}
use Rattle.tree_machine.proofs.Steps.{given_good, kept_good}
use Rattle.fid_model.specs.Fids.{ServerState, IsGoodServer, closed}
use Rattle.fid_model.specs.Moments.{Moment, Untouched, AskedOne}
use Rattle.fuse_gate.specs.Standing.{ArePaired, machine_of, node_of}
use Rattle.fuse_gate.specs.Steps.{Serves}
use Rattle.fuse_gate.specs.Replies.{fuse_shown, attributes_shown}
use Rattle.fuse_gate.specs.Changes.{counted_node, counted_by, counted_up, one_sent}
use Rattle.fuse_gate.specs.Linking.{MayEnterAgain, ServesAgain}
use Rattle.fuse_gate.specs.declared.gate.TheConstants.{LEAST_MSIZE}
use Rattle.fuse_gate.specs.declared.gate.Node.{Node}
use Rattle.fuse_gate.specs.declared.gate.Gate.{Gate}
use Rattle.fuse_gate.proofs.MappedLemmas.{mapped-insert}
use Rattle.fuse_gate.proofs.Known.{known_found}
use Rattle.fuse_gate.proofs.Asking.{Tells, state_same}
use Rattle.fuse_gate.proofs.Standings.{sent_stands, node_good, node_seen, node_fid}
use Rattle.fuse_gate.proofs.Serving.{SentAlone, one_alone, hurt, made}
use Rattle.fuse_gate.proofs.Changing.{counted_paired}
use Rattle.fuse_gate.proofs.Showing.{some_value}
use Rattle.fuse_gate.proofs.Entering.{entry_of, replied}

module _ {g : Gate} (n : Moment) (id : ℕ) (h : MayEnterAgain g n.state id) where
  abbrev s : ServerState
  s = n.state

  abbrev m : MachineState
  m = machine_of g s

  pub there : (k : Node) × (get g.nodes id ≡ Some k)
  there = some_value (get g.nodes id) h.known

  pub again_fid : get s.fids id ≡ Some (closed there.0.ino)
  again_fid = node_fid h.stands id there.0 there.1

  pub again_known : IsSome (get s.fids id)
  again_known = subst IsSome (sym again_fid) refl

  abbrev told : Reply × MachineState
  told = looked_up s.settings m (Ok there.0.ino)

  stored : IsSome (get s.tree.records there.0.ino)
  stored = (node_good h.stands id there.0 there.1).stored

  found : node_found m there.0.ino ≡ Some (id, node_of there.0)
  found = known_found h.stands there.0.ino id there.0
      (h.stands.paired.known id there.0 there.1) there.1 refl

  told_is : told ≡ entered s.settings s.tree there.0.ino
      (node_for m there.0.ino (Some (id, node_of there.0)))
  told_is = ap (λ (o : Option (ℕ × MachineNode)). entered s.settings s.tree there.0.ino
      (node_for m there.0.ino o)) found

  told_good : IsGoodMachine s.settings (kept_state told.1)
  told_good = kept_good s.settings (node_for m there.0.ino (node_found m there.0.ino)).1
      (given_good s.settings m h.stands.good there.0.ino stored h.room
      (node_found m there.0.ino) refl)

  -- the clauses speak of the node's inode
  as_clause : (new : Gate × Moment) (reply : Reply)
      → Serves told 1 (Untouched s.tree) (g, n) new reply → ServesAgain id (g, n) new reply
  as_clause new reply served = subst (λ (o : Option MachineNode).
      Serves (looked_up s.settings m (Ok (node_ino o))) 1 (Untouched s.tree) (g, n) new reply)
      (sym (node_seen h.stands id (Some there.0) there.1)) served

  module _ (g1 : Gate) (n1 : Moment) (sent : g1 ≡ one_sent g) (asked : AskedOne n n1)
      (r : Result FileAttr ℕ) (tells : Tells (attributes_shown s there.0.ino) r n n1) where
    alone : SentAlone 1 g n g1 n1
    alone = one_alone g1 n1 sent asked

    same : n1.state ≡ s
    same = state_same (attributes_shown s there.0.ino).0 r n n1 tells

    -- a fault
    pub again_refused : (e : ℕ) → r ≡ Err e → ServesAgain id (g, n) (g1, n1) (Refused e)
    again_refused e is = ⊎_elim
        (λ q. absurd (
        let r1 = some_value (get s.tree.records there.0.ino) stored in
        let clash : Err e
        ≡ Ok (fuse_attributes (shown_of s.settings (attr_of there.0.ino r1.0))) =
        sym is ∙ ap (λ (x : Result FileAttr ℕ × ServerState). x.0) q
        ∙ ap (λ o. fuse_shown (shown_told s.settings (attr_or_missing there.0.ino o))) r1.1
        in cc))
        (λ k.
        let both : Err e ≡ Err EIO = sym is ∙ k.1 in
        let eio : e ≡ EIO = cc in
        subst (λ d. ServesAgain id (g, n) (g1, n1) (Refused d)) (sym eio)
        (as_clause (g1, n1) (Refused EIO)
        (hurt h.stands told 1 (Untouched s.tree) 1 g1 n1 alone k.2 k.0 refl)))
        tells

    -- it counts one more
    pub again_entered : (a : FileAttr) → r ≡ Ok a → IsGoodServer n1.state → (g2 : Gate)
        → g2 ≡ counted_up g1 id → ServesAgain id (g, n) (g2, n1) (Entry id a)
    again_entered a is good g2 up =
        let k : ℕ = g1.nine_frames in
        let after : Gate = record g {
          nodes = insert g.nodes id (counted_node there.0);
          nine_frames = k;
        } in
        let gate : g2 ≡ after = up ∙ ap (λ (x : Gate). counted_up x id) alone.gate
        ∙ ap (counted_by (record g { nine_frames = k }) id) there.1 in
        let nodes = mapped-insert node_of g.nodes id (counted_node there.0) in
        let shown : Entry id a ≡ entry_reply id (shown_at s.settings s.tree there.0.ino) = ⊎_elim
        (λ q. ap (entry_of id) (sym is ∙ ap (λ (x : Result FileAttr ℕ × ServerState). x.0) q)
        ∙ replied id (shown_at s.settings s.tree there.0.ino))
        (λ f. absurd (let clash : Ok a ≡ Err EIO = sym is ∙ f.1 in cc)) tells in
        subst (λ (x : Gate). ServesAgain id (g, n) (x, n1) (Entry id a)) (sym gate)
        (as_clause (after, n1) (Entry id a)
        (made told 1 (Untouched s.tree) (g, n) (after, n1) (Entry id a) good
        (subst (ArePaired after) (sym same)
        (counted_paired (record g { nine_frames = k }) s (sent_stands h.stands k) id there.0
        there.1))
        (subst (λ (x : ServerState). LEAST_MSIZE ≤ x.msize) (sym same) h.stands.roomy)
        (ap (λ (x : ServerState). x.settings) same) told_good
        (shown ∙ sym (ap (λ (x : Reply × MachineState). x.0) told_is))
        (ap (machine_of after) same
        ∙ ap (λ (x : FinMap _ MachineNode). let y : MachineState = record m { nodes = x } in y)
        nodes
        ∙ sym (ap (λ (x : Reply × MachineState). x.1) told_is))
        (record { frames = alone.messages.frames; asked = alone.messages.asked })))
