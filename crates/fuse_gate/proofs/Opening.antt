-- OPEN: the refusals in order, and then the opening of a node.
use Rattle.std.proofs.Common.{◌≡◌, ◌≢◌, ℕ, ◌<◌, ◌^◌, Bool, true, false, [], ◌∷◌}
use Rattle.std.proofs.Common.{refl, sym, ap, ◌∙◌, subst, Option, Some, None, Result, Ok}
use Rattle.std.proofs.Common.{IsSome, inl, arith}
use Rattle.std.specs.Prelude.{◌==◌, option_map}
use Rattle.std.proofs.lemmas.Bool.{false≢true}
use Rattle.std.proofs.lemmas.Bool.Decides.{nat_tests}
use Rattle.std.specs.FinMap.{get}
use Rattle.port_base.specs.declared.errno.TheConstants.{EISDIR, ENFILE, ESTALE}
use Rattle.tree_model.specs.Tree.{Tree, Record, Body, body_at, is_directory_at}
use Rattle.tree_model.specs.Tree.Body.{File, Directory, Link}
use Rattle.tree_model.specs.Attributes.{kind_of, qid_type}
use Rattle.tree_model.specs.OpenedFiles.{open_of}
use Rattle.fuse_wire.specs.Request.{open_file}
use Rattle.tree_machine.specs.State.{MachineState, Node as MachineNode, is_at_limit, kept_state}
use Rattle.tree_machine.specs.Replies.{Reply}
use Rattle.tree_machine.specs.Refusals.{refused_if, first_refusal, refused_or}
use Rattle.tree_machine.specs.Core.{node_ino, open_refusal}
use Rattle.tree_machine.specs.Requests.{effect_of, opened_to, refusal_before}
use Rattle.tree_machine.specs.Messages.{opened_messages}
use Rattle.tree_machine.specs.Faults.{PartOf, IsEither}
use Rattle.fid_model.specs.Fids.{IsGoodServer}
use Rattle.fid_model.specs.Moments.{Moment}
use Rattle.fuse_gate.specs.Standing.{IsInStep, machine_of, node_of}
use Rattle.fuse_gate.specs.Steps.{Serves, ServesRequest}
use Rattle.fuse_gate.specs.Changes.{MayOpen, ServesOpening, LeavesOpening, opening}
use Rattle.fuse_gate.specs.declared.gate.Node.{Node}
use Rattle.fuse_gate.specs.declared.gate.Gate.{Gate}
use Rattle.fuse_gate.proofs.Standings.{node_good, node_seen, few_used}
use Rattle.fuse_gate.proofs.Showing.{some_value}
use Rattle.fuse_gate.proofs.Serving.{served_in_part, weaker}

-- ---- a directory by its qid's type

kind_tells : (b : Body) → (qid_type (kind_of b) == 128) ≡ is_directory_at (Some b)
kind_tells (File bytes) = refl
kind_tells (Directory es next above) = refl
kind_tells (Link target) = refl

pub equal_test : (a b : ℕ) → a ≡ b → (a == b) ≡ true
equal_test a b h = grind (arith, nat_tests)

pub differ_test : (a b : ℕ) → a ≢ b → (a == b) ≡ false
differ_test a b h = grind (arith, nat_tests)

pub directory_by : (t : Tree) (ino kind : ℕ) → IsSome (get t.records ino)
    → ((r : Record) → get t.records ino ≡ Some r → kind ≡ qid_type (kind_of r.body))
    → is_directory_at (body_at t.records ino) ≡ (kind == 128)
directory_by t ino kind stored is =
    let r = some_value (get t.records ino) stored in
    ap (λ o. is_directory_at (option_map (λ (x : Record). x.body) o)) r.1
    ∙ sym (kind_tells r.0.body) ∙ ap (λ k. k == 128) (sym (is r.0 r.1))

-- ---- the refusals, in order

module _ {g : Gate} (n : Moment) (st : IsInStep g n.state) (good : IsGoodServer n.state)
    (node flags : ℕ) where
  abbrev m : MachineState
  m = machine_of g n.state

  abbrev refusal : Option ℕ
  refusal = refusal_before n.state.settings m node (open_file flags)

  node_refusal : (o : Option Node) → get g.nodes node ≡ o
      → refusal ≡ open_refusal n.state.settings m (option_map node_of o)
  node_refusal o at = ap (λ (o : Option MachineNode). open_refusal n.state.settings m o)
      (node_seen st node o at)

  pub open_unknown : get g.nodes node ≡ None → refusal ≡ Some ESTALE
  open_unknown at = node_refusal None at

  module _ (k : Node) (at : get g.nodes node ≡ Some k) where
    by_tests : (full directory : Bool) → full ≡ is_at_limit n.state.settings m
        → directory ≡ is_directory_at (body_at n.state.tree.records k.ino)
        → refusal ≡ first_refusal (refused_if full ENFILE ∷ refused_if directory EISDIR ∷ [])
    by_tests full directory limited kind =
        node_refusal (Some k) at
        ∙ ap (λ (b : Bool). first_refusal (refused_if b ENFILE ∷ refused_if
        (is_directory_at (body_at n.state.tree.records k.ino)) EISDIR ∷ [])) (sym limited)
        ∙ ap (λ (b : Bool). first_refusal (refused_if full ENFILE ∷ refused_if b EISDIR ∷ []))
        (sym kind)

    pub open_full : true ≡ is_at_limit n.state.settings m → refusal ≡ Some ENFILE
    open_full full = by_tests true (is_directory_at (body_at n.state.tree.records k.ino)) full refl

    is_directory : is_directory_at (body_at n.state.tree.records k.ino) ≡ (k.kind == 128)
    is_directory = directory_by n.state.tree k.ino k.kind (node_good st node k at).stored
        (λ r stored. st.paired.node_kinds node k r at stored)

    pub open_directory : false ≡ is_at_limit n.state.settings m → k.kind ≡ 128
        → refusal ≡ Some EISDIR
    open_directory room kind = by_tests false true room
        (sym (is_directory ∙ equal_test k.kind 128 kind))

    module _ (room : false ≡ is_at_limit n.state.settings m) (kind : k.kind ≢ 128) where
      file : is_directory_at (body_at n.state.tree.records k.ino) ≡ false
      file = is_directory ∙ differ_test k.kind 128 kind

      pub may_open : n.state.settings.limit < 2 ^ 32 → MayOpen g n.state node k flags
      may_open small = record {
        stands = st;
        known = at;
        plain = λ is. absurd (false≢true (sym file ∙ is));
        room = sym room;
        few = few_used st (sym room) small;
      }

      none : refusal ≡ None
      none = by_tests false false room (sym file)

      -- ---- the opening

      abbrev told_by : Option MachineNode → Result (Unit {0} × Tree) ℕ
      told_by o = open_of n.state.tree (node_ino o) flags

      abbrev part : Tree → Type 0
      part t = PartOf n.state.settings m node (Ok (open_file flags)) t

      -- what the machine leaves, in the node's inode
      pub part_is : (t : Tree) → LeavesOpening k flags (g, n) t → part t
      part_is t left = inl (subst (λ (o : Option ℕ). IsEither n.state.tree (kept_state
          (refused_or m o (effect_of n.state.settings m node (open_file flags))).1).tree t)
          (sym none)
          (subst (λ (o : Option MachineNode). IsEither n.state.tree
          (kept_state (opened_to m (node_ino o) flags (told_by o)).1).tree t)
          (sym (node_seen st node (Some k) at)) left))

      pub open_served : (new : Gate × Moment) (reply : Reply)
          → ServesOpening k flags (g, n) new reply
          → ServesRequest node (open_file flags) (g, n) new reply
      open_served new reply served =
          served_in_part st good node (open_file flags) none new reply
          (subst (λ (o : Option MachineNode). Serves (opened_to m (node_ino o) flags (told_by o))
          (opened_messages (told_by o)) part (g, n) new reply)
          (sym (node_seen st node (Some k) at))
          (weaker (opening k flags (g, n))
          (opened_messages (open_of n.state.tree k.ino flags)) (LeavesOpening k flags (g, n)) part
          part_is (g, n) new reply served))
