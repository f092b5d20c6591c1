-- What a look-up is, up to the walk and after it.
use Rattle.std.proofs.Common.{◌≡◌, ℕ, ◌+◌, ◌<◌, ◌≤◌, ◌^◌, Bool, true, false, List, [], ◌∷◌, refl}
use Rattle.std.proofs.Common.{sym, ap, ◌∙◌, subst, Option, Some, None, Result, Ok, Err, IsSome}
use Rattle.std.proofs.Common.{⊎_elim}
use Rattle.std.specs.FinMap.{FinMap, get, insert}
use Rattle.port_base.specs.Names.{name_fault}
use Rattle.port_base.specs.declared.errno.TheConstants.{EIO, ENFILE, ESTALE}
use Rattle.tree_model.specs.Tree.{Record}
use Rattle.tree_model.specs.Finding.{find}
use Rattle.tree_model.specs.Attributes.{Qid, attr_or_missing}
use Rattle.tree_model.proofs.Maps.{inserted, undone}
use Rattle.tree_model.proofs.Naming.{found_is_named, named_is_stored}
use Rattle.fuse_wire.specs.Request.{lookup}
use Rattle.tree_machine.specs.State.{MachineState, Node as MachineNode, is_at_limit}
use Rattle.tree_machine.specs.Replies.{Reply}
use Rattle.tree_machine.specs.Replies.Reply.{Refused}
use Rattle.tree_machine.specs.Refusals.{refused_if, first_refusal}
use Rattle.tree_machine.specs.Core.{node_ino, lookup_refusal, looked_up, node_of as node_found}
use Rattle.tree_machine.specs.Messages.{found_messages, entering_messages}
use Rattle.fid_model.specs.Fids.{ServerState, Fid, IsGoodServer, closed}
use Rattle.fid_model.specs.Answers.{qid_at, qid_told}
use Rattle.fid_model.specs.Calls.{named, walk_one_told}
use Rattle.fid_model.specs.Moments.{Moment, Untouched, AskedOne}
use Rattle.fuse_gate.specs.Standing.{IsInStep, machine_of}
use Rattle.fuse_gate.specs.Steps.{Serves, ServesRequest}
use Rattle.fuse_gate.specs.Changes.{HasFresh, ServesEntry, without, one_sent, entering_rest}
use Rattle.fuse_gate.specs.declared.gate.Node.{Node}
use Rattle.fuse_gate.specs.declared.gate.Gate.{Gate}
use Rattle.fuse_gate.proofs.Asking.{Tells, pair}
use Rattle.fuse_gate.proofs.Standings.{fid_free, sent_stands, node_seen, few_used}
use Rattle.fuse_gate.proofs.Serving.{one_alone, one_message, unchanged, served_after, after}

more_messages : (o : Option (ℕ × MachineNode)) → 1 + entering_rest o ≡ entering_messages o
more_messages None = refl
more_messages (Some known) = refl

abbrev refused_as : Result Qid ℕ → Reply
refused_as (Ok q) = Refused EIO
refused_as (Err e) = Refused e

module _ {g : Gate} (n : Moment) (st : IsInStep g n.state) (good : IsGoodServer n.state) (node : ℕ)
    (name : List ℕ) where
  abbrev m : MachineState
  m = machine_of g n.state

  -- the refusals of a node that is there
  pub refusal_by : (k : Node) → get g.nodes node ≡ Some k → (fault : Option ℕ) (full : Bool)
      → fault ≡ name_fault name → full ≡ is_at_limit n.state.settings m
      → lookup_refusal n.state.settings m name (get m.nodes node) ≡ first_refusal
      (fault ∷ refused_if full ENFILE ∷ [])
  refusal_by k at fault full named limited =
      ap (λ (o : Option MachineNode). lookup_refusal n.state.settings m name o)
      (node_seen st node (Some k) at)
      ∙ ap (λ (o : Option ℕ). first_refusal (o ∷ refused_if (is_at_limit n.state.settings m) ENFILE
      ∷ [])) (sym named)
      ∙ ap (λ (b : Bool). first_refusal (fault ∷ refused_if b ENFILE ∷ [])) (sym limited)

  pub lookup_unknown : get g.nodes node ≡ None
      → lookup_refusal n.state.settings m name (get m.nodes node) ≡ Some ESTALE
  lookup_unknown at = ap (λ (o : Option MachineNode). lookup_refusal n.state.settings m name o)
      (node_seen st node None at)

  pub lookup_fault : (k : Node) → get g.nodes node ≡ Some k → (e : ℕ) → Some e ≡ name_fault name
      → lookup_refusal n.state.settings m name (get m.nodes node) ≡ Some e
  lookup_fault k at e fault = refusal_by k at (Some e) (is_at_limit n.state.settings m) fault refl

  pub lookup_full : (k : Node) → get g.nodes node ≡ Some k → None ≡ name_fault name
      → true ≡ is_at_limit n.state.settings m
      → lookup_refusal n.state.settings m name (get m.nodes node) ≡ Some ENFILE
  lookup_full k at named full = refusal_by k at None true named full

  module _ (k : Node) (at : get g.nodes node ≡ Some k) (no_fault : None ≡ name_fault name)
      (room : false ≡ is_at_limit n.state.settings m) where
    abbrev found : Result ℕ ℕ
    found = find n.state.settings.casefold n.state.tree k.ino name

    -- what is served of the found inode is served of the name
    of_found : (new : Gate × Moment) (reply : Reply)
        → Serves (looked_up n.state.settings m found) (found_messages m found)
        (Untouched n.state.tree) (g, n) new reply
        → ServesRequest node (lookup name) (g, n) new reply
    of_found new reply served =
        let by : Option MachineNode → Result ℕ ℕ =
        λ o. find n.state.settings.casefold n.state.tree (node_ino o) name in
        served_after st good node (lookup name) (refusal_by k at None false no_fault room) new reply
        (subst (λ (r : Result ℕ ℕ). Serves (looked_up n.state.settings m r) (found_messages m r)
        (Untouched n.state.tree) (g, n) new reply) (sym (ap by (node_seen st node (Some k) at)))
        served)

    module _ (g1 : Gate) (n1 : Moment) (sent : g1 ≡ one_sent g) (asked : AskedOne n n1)
        (rises : n.faults ≤ n1.faults) where
      -- the walk was refused
      pub lookup_refused : (e : ℕ) → Tells (walk_one_told n.state k.ino g.next name) (Err e) n n1
          → ServesRequest node (lookup name) (g, n) (g1, n1) (Refused e)
      lookup_refused e tells = of_found (g1, n1) (Refused e)
          (one_message st (looked_up n.state.settings m found) (found_messages m found)
          (Untouched n.state.tree) (named n.state g.next found) (Err e) refused_as refl 1 g1 n1
          (one_alone g1 n1 sent asked) rises refl tells (by_found found)) where
            by_found : (r : Result ℕ ℕ) → pair (Err e) n1.state ≡ named n.state g.next r
                → Serves (looked_up n.state.settings m r) (found_messages m r)
                (Untouched n.state.tree) (g, n) (g1, n1) (Refused e)
            by_found (Ok i) q = absurd (let clash : Err e ≡ Ok (qid_at n.state.tree i) =
                ap (λ (x : Result Qid ℕ × ServerState). x.0) q in cc)
            by_found (Err d) q =
                let is : e ≡ d = (let same : Err e ≡ Err d =
                ap (λ (x : Result Qid ℕ × ServerState). x.0) q in cc) in
                unchanged st (looked_up n.state.settings m (Err d)) 1 (Untouched n.state.tree) good
                g1 n1 (Refused e) (one_alone g1 n1 sent asked)
                (ap (λ (x : Result Qid ℕ × ServerState). x.1) q) (ap Refused is) refl

      -- the walk found an inode
      module _ (q : Qid) (tells : Tells (walk_one_told n.state k.ino g.next name) (Ok q) n n1) where
        abbrev with_fid : ℕ → ServerState
        with_fid i = record n.state { fids = insert n.state.fids g.next (closed i) }

        walked : (i : ℕ) × (found ≡ Ok i) × (q ≡ qid_at n.state.tree i) × (n1.state ≡ with_fid i)
        walked = ⊎_elim (by_found found refl) (λ f. absurd (let clash = f.1 in cc)) tells where
          by_found : (r : Result ℕ ℕ) → found ≡ r → pair (Ok q) n1.state ≡ named n.state g.next r
              → (i : ℕ) × (found ≡ Ok i) × (q ≡ qid_at n.state.tree i) × (n1.state ≡ with_fid i)
          by_found (Err d) is e = absurd (let clash : Ok q ≡ Err d =
              ap (λ (x : Result Qid ℕ × ServerState). x.0) e in cc)
          by_found (Ok i) is e = (
            i,
            is,
            (let same : Ok q ≡ Ok (qid_at n.state.tree i) =
                ap (λ (x : Result Qid ℕ × ServerState). x.0) e
                in (let one : q ≡ qid_at n.state.tree i = cc in one)),
            ap (λ (x : Result Qid ℕ × ServerState). x.1) e,
          )

        stored : IsSome (get n.state.tree.records walked.0)
        stored = named_is_stored n.state.tree good.tree walked.0
            (found_is_named n.state.settings.casefold n.state.tree k.ino name walked.0 walked.1)

        path_is : q.1.1 ≡ walked.0
        path_is = ap (λ (x : Qid). x.1.1) walked.2
            ∙ by_record (get n.state.tree.records walked.0) refl stored where
              by_record : (o : Option Record) → get n.state.tree.records walked.0 ≡ o
                  → IsSome (get n.state.tree.records walked.0)
                  → (qid_at n.state.tree walked.0).1.1 ≡ walked.0
              by_record None at had = absurd (let none = subst IsSome at had in cc)
              by_record (Some r) at had = ap (λ o. (qid_told (attr_or_missing walked.0 o)).1.1) at

        pub lookup_fresh : n.state.settings.limit < 2 ^ 32 → HasFresh g1 n1.state q.1.1 q
        lookup_fresh small =
            let i = walked.0 in
            let base : without (with_fid i) g.next ≡ n.state =
            ap (λ (f : FinMap _ Fid). let x : ServerState = record n.state { fids = f } in x)
            (undone n.state.fids g.next (closed i) (fid_free st)) in
            subst (λ (x : Gate). HasFresh x n1.state q.1.1 q) (sym sent)
            (subst (λ (x : ServerState). HasFresh (one_sent g) x q.1.1 q) (sym walked.3)
            (subst (λ (p : ℕ). HasFresh (one_sent g) (with_fid i) p q) (sym path_is) (record {
              stands = subst (IsInStep (one_sent g)) (sym base)
                  (sent_stands st (one_sent g).nine_frames);
              good = subst IsGoodServer (sym base) good;
              fresh = inserted n.state.fids g.next (closed i);
              stored = stored;
              named = walked.2;
              room = sym room;
              few = few_used st (sym room) small;
            })))

        pub lookup_tree : n1.state.tree ≡ n.state.tree
        lookup_tree = ap (λ (x : ServerState). x.tree) walked.3

        -- after the walk
        pub lookup_entered : (new : Gate × Moment) (reply : Reply)
            → ServesEntry q.1.1 (g1, n1) new reply
            → ServesRequest node (lookup name) (g, n) new reply
        lookup_entered new reply served =
            let i = walked.0 in
            let same : machine_of g1 n1.state ≡ m = ap (λ (x : Gate). machine_of x n1.state) sent
            ∙ ap (machine_of (one_sent g)) walked.3 in
            let settings : n1.state.settings ≡ n.state.settings =
            ap (λ (x : ServerState). x.settings) walked.3 in
            let told : looked_up n1.state.settings (machine_of g1 n1.state) (Ok q.1.1) ≡ looked_up
            n.state.settings m found =
            (λ j. looked_up (settings j) (same j) (Ok (path_is j)))
            ∙ ap (looked_up n.state.settings m) (sym walked.1) in
            let rest : entering_rest (node_found (machine_of g1 n1.state) q.1.1) ≡ entering_rest
            (node_found m i) = λ j. entering_rest (node_found (same j) (path_is j)) in
            let number : 1 + entering_rest (node_found (machine_of g1 n1.state) q.1.1)
            ≡ found_messages m found =
            ap (λ k. 1 + k) rest ∙ more_messages (node_found m i)
            ∙ ap (found_messages m) (sym walked.1) in
            of_found new reply
            (subst (λ (x : Reply × MachineState). Serves x (found_messages m found)
            (Untouched n.state.tree) (g, n) new reply) told
            (subst (λ k. Serves (looked_up n1.state.settings (machine_of g1 n1.state) (Ok q.1.1)) k
            (Untouched n.state.tree) (g, n) new reply) number
            (subst (λ t. Serves (looked_up n1.state.settings (machine_of g1 n1.state) (Ok q.1.1))
            (1 + entering_rest (node_found (machine_of g1 n1.state) q.1.1)) (Untouched t) (g, n)
            new reply) lookup_tree
            (after (looked_up n1.state.settings (machine_of g1 n1.state) (Ok q.1.1))
            (entering_rest (node_found (machine_of g1 n1.state) q.1.1))
            (Untouched n1.state.tree) 1 (g, n) (g1, n1) new reply
            (one_alone g1 n1 sent asked).messages rises same served))))
