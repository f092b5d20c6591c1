-- GETATTR.
use Rattle.std.proofs.Common.{◌≡◌, ℕ, ◌≤◌, refl, sym, ap, ◌∙◌, Option, Some, None, Result, Ok, Err}
use Rattle.std.specs.FinMap.{get}
use Rattle.port_base.specs.declared.errno.TheConstants.{EBADF, ESTALE}
use Rattle.tree_model.specs.declared.attributes.Attr.{Attr}
use Rattle.fuse_wire.specs.declared.attr.FileAttr.{FileAttr}
use Rattle.fuse_wire.specs.Request.{getattr}
use Rattle.tree_machine.specs.State.{Node as MachineNode, Handle as MachineHandle}
use Rattle.tree_machine.specs.Refusals.{refused_unknown}
use Rattle.tree_machine.specs.Core.{node_ino, handle_ino, getattr_refusal, getattr_ino, attr_reply}
use Rattle.tree_machine.specs.Core.{shown_at}
use Rattle.tree_machine.specs.Setting.{is_read_alone}
use Rattle.fid_model.specs.Fids.{ServerState, Fid, IsGoodServer, closed}
use Rattle.fid_model.specs.Moments.{Moment, Untouched, AskedOne}
use Rattle.fuse_gate.specs.Standing.{IsInStep, machine_of, opened}
use Rattle.fuse_gate.specs.Steps.{ServesRequest}
use Rattle.fuse_gate.specs.Replies.{fuse_shown, attributes_shown, attributes_reply}
use Rattle.fuse_gate.specs.Changes.{IsSubject, one_sent}
use Rattle.fuse_gate.specs.declared.gate.Node.{Node}
use Rattle.fuse_gate.specs.declared.gate.Handle.{Handle}
use Rattle.fuse_gate.specs.declared.gate.Gate.{Gate}
use Rattle.fuse_gate.proofs.Asking.{Tells}
use Rattle.fuse_gate.proofs.Standings.{node_fid, handle_fid, node_seen, handle_seen}
use Rattle.fuse_gate.proofs.Serving.{one_alone, one_message, unchanged, served_after}

pub replied : (x : Result Attr ℕ) → attributes_reply (fuse_shown x) ≡ attr_reply x
replied (Ok a) = refl
replied (Err e) = refl

-- ---- the fid that is asked about

module _ {g : Gate} {s : ServerState} (st : IsInStep g s) (node : ℕ) where
  pub node_subject : (k : Node) → get g.nodes node ≡ Some k → IsSubject g s node None (Ok node)
  node_subject k at =
      let seen = node_seen st node (Some k) at in (
        ap (λ (o : Option MachineNode). refused_unknown o ESTALE) seen,
        (closed k.ino, node_fid st node k at, sym (ap node_ino seen), refl),
      )

  pub node_refused : get g.nodes node ≡ None → IsSubject g s node None (Err ESTALE)
  node_refused at = ap (λ (o : Option MachineNode). refused_unknown o ESTALE)
      (node_seen st node None at)

  pub handle_subject : (handle : ℕ) (h : Handle) → get g.handles handle ≡ Some h
      → IsSubject g s node (Some handle) (Ok handle)
  handle_subject handle h at =
      let seen = handle_seen st handle (Some h) at in (
        ap (λ (o : Option MachineHandle). refused_unknown o EBADF) seen,
        (
          opened h,
          handle_fid st handle h at,
          sym (ap handle_ino seen),
          sym (ap is_read_alone seen),
        ),
      )

  pub handle_refused : (handle : ℕ) → get g.handles handle ≡ None
      → IsSubject g s node (Some handle) (Err EBADF)
  handle_refused handle at = ap (λ (o : Option MachineHandle). refused_unknown o EBADF)
      (handle_seen st handle None at)

-- ---- its attributes

module _ {g : Gate} (n : Moment) (st : IsInStep g n.state) (good : IsGoodServer n.state) (node : ℕ)
    (handle : Option ℕ) where
  pub getattr_served : (none : getattr_refusal (machine_of g n.state) node handle ≡ None) (f : Fid)
      → f.ino ≡ getattr_ino (machine_of g n.state) node handle
      → (g1 : Gate) (n1 : Moment) (r : Result FileAttr ℕ) → g1 ≡ one_sent g → AskedOne n n1
      → n.faults ≤ n1.faults → Tells (attributes_shown n.state f.ino) r n n1
      → ServesRequest node (getattr handle) (g, n) (g1, n1) (attributes_reply r)
  getattr_served none f same g1 n1 r sent asked rises tells =
      let m = machine_of g n.state in
      let alone = one_alone g1 n1 sent asked in
      served_after st good node (getattr handle) none (g1, n1) (attributes_reply r)
      (one_message st (
        attr_reply (shown_at n.state.settings n.state.tree
            (getattr_ino m node handle)),
        m,
      ) 1 (Untouched n.state.tree)
      (attributes_shown n.state f.ino) r attributes_reply refl 1 g1 n1 alone rises refl tells
      (λ e. unchanged st (
        attr_reply (shown_at n.state.settings n.state.tree
            (getattr_ino m node handle)),
        m,
      ) 1 (Untouched n.state.tree) good g1 n1
      (attributes_reply r) alone (ap (λ (x : Result FileAttr ℕ × ServerState). x.1) e)
      (ap (λ (x : Result FileAttr ℕ × ServerState). attributes_reply x.0) e
      ∙ replied (shown_at n.state.settings n.state.tree f.ino)
      ∙ ap (λ i. attr_reply (shown_at n.state.settings n.state.tree i)) same) refl))
