-- UNLINK, RMDIR, RENAME and RENAME2: a name goes or moves, and only the tree changes.
use Rattle.std.proofs.Common.{◌≡◌, ◌⊎◌, ℕ, Bool, false, not, [], ◌∷◌, List, refl, sym, ap, ◌∙◌, subst}
use Rattle.std.proofs.Common.{Option, Some, None}
use Rattle.std.specs.Prelude.{option_map, ◌==◌}
use Rattle.std.specs.FinMap.{get}
use Rattle.port_base.specs.Names.{name_fault}
use Rattle.port_base.specs.declared.errno.TheConstants.{EINVAL, ESTALE}
use Rattle.tree_model.specs.Renaming.{rename_of}
use Rattle.tree_model.specs.Unlinking.{unlink_of, rmdir_of}
use Rattle.fuse_wire.specs.Request.{unlink, rmdir, rename, rename2}
use Rattle.tree_machine.specs.State.{MachineState, Node as MachineNode, kept_state}
use Rattle.tree_machine.specs.Replies.{Reply}
use Rattle.tree_machine.specs.Refusals.{refused_if, first_refusal, refused_or, none_or}
use Rattle.tree_machine.specs.Core.{node_ino, name_refusal, unlink_told, changed_by}
use Rattle.tree_machine.specs.Naming.{rmdir_told, rename_refusal, rename2_refusal, rename_told}
use Rattle.tree_machine.specs.Faults.{IsEither}
use Rattle.tree_machine.proofs.Directories.{unlink_leaves, rmdir_leaves, rename_leaves}
use Rattle.fid_model.specs.declared.unlinkat.TheConstants.{P9_AT_REMOVEDIR}
use Rattle.fid_model.specs.Fids.{Fid, is_held}
use Rattle.fid_model.specs.Directories.{renameat_told, unlinkat_told, removed_by}
use Rattle.fid_model.specs.TreeCalls.{at_fid, unless_fault, unless_some}
use Rattle.fid_model.specs.Moments.{Moment}
use Rattle.fuse_gate.specs.Standing.{IsInStep, machine_of, node_of}
use Rattle.fuse_gate.specs.Steps.{Serves, ServesRequest, LeavesPartOf}
use Rattle.fuse_gate.specs.declared.gate.Node.{Node}
use Rattle.fuse_gate.specs.declared.gate.Gate.{Gate}
use Rattle.fuse_gate.proofs.Standings.{node_fid, node_seen}
use Rattle.fuse_gate.proofs.TreeChanging.{ChangesTree, held_same}

module _ {g : Gate} (n : Moment) (st : IsInStep g n.state) (node : ℕ) where
  abbrev m : MachineState
  m = machine_of g n.state

  -- ---- the refusals of a request that names an entry, in order

  module _ (name : List ℕ) where
    abbrev named : Option ℕ
    named = name_refusal name (get m.nodes node)

    named_as : (o : Option Node) → get g.nodes node ≡ o
        → named ≡ name_refusal name (option_map node_of o)
    named_as o at = ap (λ (o : Option MachineNode). name_refusal name o) (node_seen st node o at)

    pub named_unknown : get g.nodes node ≡ None → named ≡ Some ESTALE
    named_unknown at = named_as None at

    module _ (k : Node) (at : get g.nodes node ≡ Some k) where
      pub named_fault : (e : ℕ) → Some e ≡ name_fault name → named ≡ Some e
      named_fault e fault = named_as (Some k) at
          ∙ ap (λ (o : Option ℕ). first_refusal (o ∷ [])) (sym fault)

      module _ (fine : None ≡ name_fault name) where
        pub named_none : named ≡ None
        named_none = named_as (Some k) at
            ∙ ap (λ (o : Option ℕ). first_refusal (o ∷ [])) (sym fine)

        -- ---- a name that goes

        pub unlink_changes : ChangesTree g n node (unlink name) (unlink_told m k.ino name)
        unlink_changes = record {
          none = named_none;
          effect = ap (λ (o : Option MachineNode). changed_by m (unlink_told m (node_ino o) name))
              (node_seen st node (Some k) at);
          one = refl;
          leaves = unlink_leaves n.state.settings m st.good k.ino name;
        }

        pub rmdir_changes : ChangesTree g n node (rmdir name) (rmdir_told m k.ino name)
        rmdir_changes = record {
          none = named_none;
          effect = ap (λ (o : Option MachineNode). changed_by m (rmdir_told m (node_ino o) name))
              (node_seen st node (Some k) at);
          one = refl;
          leaves = rmdir_leaves n.state.settings m st.good k.ino name;
        }

        -- the server is asked for the same
        asked_by : (flags : ℕ) → unlinkat_told n.state node name flags
            ≡ removed_by flags (is_held n.state.fids) n.state.tree k.ino name
        asked_by flags =
            ap (λ (o : Option Fid). at_fid o (λ dir. unless_fault name
            (removed_by flags (is_held n.state.fids) n.state.tree dir name)))
            (node_fid st node k at)
            ∙ ap (λ (o : Option ℕ). unless_some o
            (removed_by flags (is_held n.state.fids) n.state.tree k.ino name)) (sym fine)

        pub unlink_tells : unlinkat_told n.state node name 0 ≡ unlink_told m k.ino name
        unlink_tells = asked_by 0
            ∙ ap (λ (h : ℕ → Bool). unlink_of h n.state.tree k.ino name) (sym (held_same n st))

        pub rmdir_tells : unlinkat_told n.state node name P9_AT_REMOVEDIR ≡ rmdir_told m k.ino name
        rmdir_tells = asked_by P9_AT_REMOVEDIR
            ∙ ap (λ (h : ℕ → Bool). rmdir_of h n.state.tree k.ino name) (sym (held_same n st))

  -- ---- a name that moves

  module _ (newdir : ℕ) (old new : List ℕ) where
    abbrev refusal : Option ℕ
    refusal = rename_refusal old new (get m.nodes node) (get m.nodes newdir)

    refusal_as : (o p : Option Node) → get g.nodes node ≡ o → get g.nodes newdir ≡ p
        → refusal ≡ rename_refusal old new (option_map node_of o) (option_map node_of p)
    refusal_as o p at there =
        ap (λ (x : Option MachineNode). rename_refusal old new x (get m.nodes newdir))
        (node_seen st node o at)
        ∙ ap (λ (x : Option MachineNode). rename_refusal old new (option_map node_of o) x)
        (node_seen st newdir p there)

    pub rename_unknown : get g.nodes node ≡ None → refusal ≡ Some ESTALE
    rename_unknown at = refusal_as None (get g.nodes newdir) at refl

    module _ (k : Node) (at : get g.nodes node ≡ Some k) where
      pub rename_nowhere : get g.nodes newdir ≡ None → refusal ≡ Some ESTALE
      rename_nowhere there = refusal_as (Some k) None at there

      module _ (l : Node) (there : get g.nodes newdir ≡ Some l) where
        pub rename_old_fault : (e : ℕ) → Some e ≡ name_fault old → refusal ≡ Some e
        rename_old_fault e fault = refusal_as (Some k) (Some l) at there
            ∙ ap (λ (o : Option ℕ). first_refusal (o ∷ name_fault new ∷ [])) (sym fault)

        module _ (old_fine : None ≡ name_fault old) where
          rename_named : refusal ≡ first_refusal (name_fault new ∷ [])
          rename_named = refusal_as (Some k) (Some l) at there
              ∙ ap (λ (o : Option ℕ). first_refusal (o ∷ name_fault new ∷ [])) (sym old_fine)

          pub rename_new_fault : (e : ℕ) → Some e ≡ name_fault new → refusal ≡ Some e
          rename_new_fault e fault = rename_named
              ∙ ap (λ (o : Option ℕ). first_refusal (o ∷ [])) (sym fault)

          module _ (new_fine : None ≡ name_fault new) where
            pub rename_changes : ChangesTree g n node (rename newdir old new)
                (rename_told m k.ino old l.ino new)
            rename_changes = record {
              none = rename_named
                  ∙ ap (λ (o : Option ℕ). first_refusal (o ∷ [])) (sym new_fine);
              effect = ap (λ (o : Option MachineNode). changed_by m (rename_told m (node_ino o) old
                  (node_ino (get m.nodes newdir)) new)) (node_seen st node (Some k) at)
                  ∙ ap (λ (o : Option MachineNode). changed_by m (rename_told m k.ino old
                  (node_ino o) new)) (node_seen st newdir (Some l) there);
              one = refl;
              leaves = rename_leaves n.state.settings m st.good k.ino old l.ino new
                  (sym new_fine);
            }

            pub rename_tells : renameat_told n.state node old newdir new
                ≡ rename_told m k.ino old l.ino new
            rename_tells =
                ap (λ (o : Option Fid). at_fid o (λ olddir. at_fid (get n.state.fids newdir)
                (λ dir. unless_fault old (unless_fault new
                (rename_of (is_held n.state.fids) n.state.tree olddir old dir new)))))
                (node_fid st node k at)
                ∙ ap (λ (o : Option Fid). at_fid o (λ dir. unless_fault old (unless_fault new
                (rename_of (is_held n.state.fids) n.state.tree k.ino old dir new))))
                (node_fid st newdir l there)
                ∙ ap (λ (o : Option ℕ). unless_some o (unless_fault new
                (rename_of (is_held n.state.fids) n.state.tree k.ino old l.ino new)))
                (sym old_fine)
                ∙ ap (λ (o : Option ℕ). unless_some o
                (rename_of (is_held n.state.fids) n.state.tree k.ino old l.ino new))
                (sym new_fine)
                ∙ ap (λ (h : ℕ → Bool). rename_of h n.state.tree k.ino old l.ino new)
                (sym (held_same n st))

    -- ---- RENAME2

    no_flags : (flags : ℕ) → (flags == 0) ≡ false → refused_if (not (flags == 0)) EINVAL
        ≡ Some EINVAL
    no_flags flags is = ap (λ (b : Bool). refused_if (not b) EINVAL) is

    pub rename2_flagged : (flags : ℕ) → (flags == 0) ≡ false
        → rename2_refusal flags old new (get m.nodes node) (get m.nodes newdir) ≡ Some EINVAL
    rename2_flagged flags is =
        ap (λ (o : Option ℕ). first_refusal (o ∷ refusal ∷ [])) (no_flags flags is)

    only : (o : Option ℕ) → o ≡ first_refusal (o ∷ [])
    only None = refl
    only (Some e) = refl

    -- without flags it is RENAME
    pub rename2_served : (x : Gate × Moment) (reply : Reply)
        → ServesRequest node (rename newdir old new) (g, n) x reply
        → ServesRequest node (rename2 newdir 0 old new) (g, n) x reply
    rename2_served x reply served =
        let effect = changed_by m (rename_told m (node_ino (get m.nodes node)) old
        (node_ino (get m.nodes newdir)) new) in
        subst (λ (o : Option ℕ). Serves (refused_or m o effect) (none_or o 1)
        (λ t. (IsEither n.state.tree
        (kept_state (refused_or m o effect).1).tree t) ⊎ ⊥)
        (g, n) x reply) (only refusal) served

    pub rename2_part : (n1 : Moment) → LeavesPartOf node (rename newdir old new) (g, n) n1
        → LeavesPartOf node (rename2 newdir 0 old new) (g, n) n1
    rename2_part n1 part =
        let effect = changed_by m (rename_told m (node_ino (get m.nodes node)) old
        (node_ino (get m.nodes newdir)) new) in
        subst (λ (o : Option ℕ). IsEither n.state.tree
        (kept_state (refused_or m o effect).1).tree
        n1.state.tree ⊎ ⊥) (only refusal) part
