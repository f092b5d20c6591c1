-- OPENDIR.
use Rattle.std.proofs.Common.{◌≡◌, ◌≢◌, ℕ, ◌<◌, ◌^◌, Bool, true, false, not, [], ◌∷◌, refl, sym, ap}
use Rattle.std.proofs.Common.{◌∙◌, subst, Option, Some, None, Result, Ok, ⊎_elim}
use Rattle.std.specs.Prelude.{◌==◌, option_map}
use Rattle.std.specs.FinMap.{get}
use Rattle.port_base.specs.declared.errno.TheConstants.{ENFILE, ENOTDIR, ESTALE}
use Rattle.port_base.specs.declared.oflag.TheConstants.{O_RDONLY}
use Rattle.tree_model.specs.Tree.{Tree, Body, body_at, is_directory_at}
use Rattle.tree_model.specs.Tree.Body.{File, Directory, Link}
use Rattle.tree_model.specs.Attributes.{kind_of}
use Rattle.tree_model.specs.OpenedFiles.{emptied_where, open_of}
use Rattle.tree_model.specs.Opening.{body_answer, unless, open_refused}
use Rattle.fuse_wire.specs.Request.{opendir}
use Rattle.tree_machine.specs.State.{MachineState, Node as MachineNode, is_at_limit}
use Rattle.tree_machine.specs.Replies.{Reply}
use Rattle.tree_machine.specs.Replies.Reply.{Opened}
use Rattle.tree_machine.specs.Refusals.{refused_if, first_refusal}
use Rattle.tree_machine.specs.Core.{node_ino, opendir_refusal, with_handle}
use Rattle.tree_machine.specs.Requests.{opened_to, refusal_before}
use Rattle.tree_machine.specs.Messages.{opened_messages}
use Rattle.fid_model.specs.Fids.{IsGoodServer}
use Rattle.fid_model.specs.Moments.{Moment, Untouched}
use Rattle.fuse_gate.specs.Standing.{IsInStep, machine_of, node_of}
use Rattle.fuse_gate.specs.Steps.{Serves, ServesRequest}
use Rattle.fuse_gate.specs.Changes.{MayOpen, ServesOpening, LeavesOpening, opening}
use Rattle.fuse_gate.specs.declared.gate.Node.{Node}
use Rattle.fuse_gate.specs.declared.gate.Gate.{Gate}
use Rattle.fuse_gate.proofs.Standings.{node_good, node_seen, few_used}
use Rattle.fuse_gate.proofs.EmptyingFiles.{tree_after}
use Rattle.fuse_gate.proofs.Opening.{directory_by, equal_test, differ_test}
use Rattle.fuse_gate.proofs.Serving.{served_after, weaker}

-- a directory is opened to be read
directory_checked : (o : Option Body) → is_directory_at o ≡ true
    → body_answer (λ b. unless (open_refused O_RDONLY (kind_of b))) o ≡ Ok tt
directory_checked None is = absurd cc
directory_checked (Some (File bytes)) is = absurd cc
directory_checked (Some (Directory es next above)) is = refl
directory_checked (Some (Link target)) is = absurd cc

module _ {g : Gate} (n : Moment) (st : IsInStep g n.state) (good : IsGoodServer n.state)
    (node : ℕ) where
  abbrev m : MachineState
  m = machine_of g n.state

  abbrev refusal : Option ℕ
  refusal = refusal_before n.state.settings m node (opendir 0)

  node_refusal : (o : Option Node) → get g.nodes node ≡ o
      → refusal ≡ opendir_refusal n.state.settings m (option_map node_of o)
  node_refusal o at = ap (λ (o : Option MachineNode). opendir_refusal n.state.settings m o)
      (node_seen st node o at)

  pub opendir_unknown : get g.nodes node ≡ None → refusal ≡ Some ESTALE
  opendir_unknown at = node_refusal None at

  module _ (k : Node) (at : get g.nodes node ≡ Some k) where
    by_tests : (full directory : Bool) → full ≡ is_at_limit n.state.settings m
        → directory ≡ is_directory_at (body_at n.state.tree.records k.ino)
        → refusal ≡ first_refusal
        (refused_if full ENFILE ∷ refused_if (not directory) ENOTDIR ∷ [])
    by_tests full directory limited kind =
        node_refusal (Some k) at
        ∙ ap (λ (b : Bool). first_refusal (refused_if b ENFILE ∷ refused_if
        (not (is_directory_at (body_at n.state.tree.records k.ino))) ENOTDIR ∷ []))
        (sym limited)
        ∙ ap (λ (b : Bool). first_refusal (refused_if full ENFILE ∷ refused_if (not b) ENOTDIR
        ∷ [])) (sym kind)

    pub opendir_full : true ≡ is_at_limit n.state.settings m → refusal ≡ Some ENFILE
    opendir_full full = by_tests true (is_directory_at (body_at n.state.tree.records k.ino)) full
        refl

    is_directory : is_directory_at (body_at n.state.tree.records k.ino) ≡ (k.kind == 128)
    is_directory = directory_by n.state.tree k.ino k.kind (node_good st node k at).stored
        (λ r stored. st.paired.node_kinds node k r at stored)

    pub opendir_file : false ≡ is_at_limit n.state.settings m → k.kind ≢ 128
        → refusal ≡ Some ENOTDIR
    opendir_file room kind = by_tests false false room
        (sym (is_directory ∙ differ_test k.kind 128 kind))

    module _ (room : false ≡ is_at_limit n.state.settings m) (kind : k.kind ≡ 128) where
      directory : is_directory_at (body_at n.state.tree.records k.ino) ≡ true
      directory = is_directory ∙ equal_test k.kind 128 kind

      pub may_open_directory : n.state.settings.limit < 2 ^ 32 → MayOpen g n.state node k O_RDONLY
      may_open_directory small = record {
        stands = st;
        known = at;
        plain = λ is. (refl, refl);
        room = sym room;
        few = few_used st (sym room) small;
      }

      told : open_of n.state.tree k.ino O_RDONLY ≡ Ok (tt, n.state.tree)
      told = ap (λ (r : Result (Unit {0}) ℕ). emptied_where r n.state.tree k.ino O_RDONLY)
          (directory_checked (body_at n.state.tree.records k.ino) directory)

      module _ (small : n.state.settings.limit < 2 ^ 32) where
        -- such an opening leaves the tree
        pub opendir_left : (t : Tree) → LeavesOpening k O_RDONLY (g, n) t → t ≡ n.state.tree
        opendir_left t left = ⊎_elim (λ same. same)
            (λ is. is ∙ tree_after n (may_open_directory small) good n.state.tree told) left

        pub opendir_opened : (new : Gate × Moment) (reply : Reply)
            → ServesOpening k O_RDONLY (g, n) new reply
            → ServesRequest node (opendir 0) (g, n) new reply
        opendir_opened new reply served =
            served_after st good node (opendir 0) (by_tests false true room (sym directory)) new
            reply
            (subst (λ (i : ℕ). Serves (Opened m.next, with_handle m i O_RDONLY) 2
            (Untouched n.state.tree) (g, n) new reply)
            (sym (ap node_ino (node_seen st node (Some k) at)))
            (subst (λ (c : Result (Unit {0} × Tree) ℕ). Serves (opened_to m k.ino O_RDONLY c)
            (opened_messages c) (Untouched n.state.tree) (g, n) new reply) told
            (weaker (opening k O_RDONLY (g, n))
            (opened_messages (open_of n.state.tree k.ino O_RDONLY))
            (LeavesOpening k O_RDONLY (g, n)) (Untouched n.state.tree) opendir_left (g, n) new
            reply served)))
