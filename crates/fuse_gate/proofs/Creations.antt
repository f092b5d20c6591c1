-- CREATE: the refusals in order, and then the file that is made in a node.
use Rattle.std.proofs.Common.{◌≡◌, ℕ, ◌+◌, ◌<◌, ◌≤◌, ◌^◌, Bool, true, false, ◌||◌, List, [], ◌∷◌}
use Rattle.std.proofs.Common.{refl, sym, ap, ◌∙◌, subst, Option, Some, None, Result, Ok, arith}
use Rattle.std.proofs.Common.{nat_lt, inl}
use Rattle.std.proofs.lemmas.Bool.Decides.{nat_tests}
use Rattle.std.specs.FinMap.{get}
use Rattle.port_base.specs.Names.{name_fault}
use Rattle.port_base.specs.declared.errno.TheConstants.{ENFILE, ESTALE}
use Rattle.tree_model.specs.Tree.{Tree}
use Rattle.fuse_wire.specs.Request.{create}
use Rattle.tree_machine.specs.declared.limits.TheConstants.{NUMBER_LIMIT}
use Rattle.tree_machine.specs.State.{MachineState, Node as MachineNode, kept_state}
use Rattle.tree_machine.specs.Replies.{Reply}
use Rattle.tree_machine.specs.Refusals.{refused_if, first_refusal, refused_or}
use Rattle.tree_machine.specs.Core.{node_ino}
use Rattle.tree_model.specs.OpenedFiles.{new_file_of}
use Rattle.tree_machine.specs.Creating.{lacks_two, create_refusal, created}
use Rattle.tree_machine.specs.Messages.{created_messages}
use Rattle.tree_machine.specs.Faults.{PartOf, IsEither}
use Rattle.fid_model.specs.Fids.{ServerState, IsGoodServer}
use Rattle.fid_model.specs.Moments.{Moment}
use Rattle.fuse_gate.specs.Standing.{IsInStep, machine_of}
use Rattle.fuse_gate.specs.Steps.{Serves, ServesRequest}
use Rattle.fuse_gate.specs.Creation.{MayCreate, ServesCreation, LeavesCreation, creation}
use Rattle.fuse_gate.specs.declared.gate.Node.{Node}
use Rattle.fuse_gate.specs.declared.gate.Gate.{Gate}
use Rattle.fuse_gate.proofs.Standings.{node_seen, in_all}
use Rattle.fuse_gate.proofs.Serving.{served_in_part, weaker}

-- ---- two numbers, by what the gate counts

module _ {g : Gate} {s : ServerState} (st : IsInStep g s) where
  two_is : lacks_two s.settings (machine_of g s)
      ≡ (nat_lt s.settings.limit (g.used + 2) || nat_lt NUMBER_LIMIT (g.next + 2))
  two_is = ap (λ k. nat_lt s.settings.limit (k + 2) || nat_lt NUMBER_LIMIT (g.next + 2)) (in_all st)

  pub two_by : (limit : ℕ) → limit ≡ s.settings.limit → limit < g.used + 2
      → nat_lt limit (g.used + 2) ≡ lacks_two s.settings (machine_of g s)
  two_by limit is more = by_number limit s.settings.limit is more ∙ sym two_is where
    by_number : (a b : ℕ) → a ≡ b → a < g.used + 2
        → nat_lt a (g.used + 2) ≡ (nat_lt b (g.used + 2) || nat_lt NUMBER_LIMIT (g.next + 2))
    by_number a b is more =
        let left : nat_lt a (g.used + 2) ≡ true = grind (arith, nat_tests) in
        let right : nat_lt b (g.used + 2) ≡ true = grind (arith, nat_tests) in
        left ∙ sym (ap (λ t. t || nat_lt NUMBER_LIMIT (g.next + 2)) right)

  pub two_else : (limit : ℕ) → limit ≡ s.settings.limit → g.used + 2 ≤ limit
      → nat_lt 4294967293 g.next ≡ lacks_two s.settings (machine_of g s)
  two_else limit is few = by_number limit s.settings.limit is few ∙ sym two_is where
    by_next : (n : ℕ) → nat_lt 4294967293 n ≡ nat_lt 4294967295 (n + 2)
    by_next n = grind (arith, nat_tests)

    by_number : (a b : ℕ) → a ≡ b → g.used + 2 ≤ a
        → nat_lt 4294967293 g.next
        ≡ (nat_lt b (g.used + 2) || nat_lt NUMBER_LIMIT (g.next + 2))
    by_number a b is few =
        let none : nat_lt b (g.used + 2) ≡ false = grind (arith, nat_tests) in
        by_next g.next ∙ sym (ap (λ t. t || nat_lt NUMBER_LIMIT (g.next + 2)) none)

-- ---- the refusals

module _ {g : Gate} (n : Moment) (st : IsInStep g n.state) (good : IsGoodServer n.state) (node : ℕ)
    (flags mode : ℕ) (name : List ℕ) where
  abbrev m : MachineState
  m = machine_of g n.state

  abbrev refusal : Option ℕ
  refusal = create_refusal n.state.settings m name (get m.nodes node)

  pub create_unknown : get g.nodes node ≡ None → refusal ≡ Some ESTALE
  create_unknown at = ap (λ (o : Option MachineNode). create_refusal n.state.settings m name o)
      (node_seen st node None at)

  module _ (k : Node) (at : get g.nodes node ≡ Some k) where
    by : (fault : Option ℕ) (full : Bool) → fault ≡ name_fault name
        → full ≡ lacks_two n.state.settings m
        → refusal ≡ first_refusal (fault ∷ refused_if full ENFILE ∷ [])
    by fault full named limited =
        ap (λ (o : Option MachineNode). create_refusal n.state.settings m name o)
        (node_seen st node (Some k) at)
        ∙ ap (λ (o : Option ℕ). first_refusal (o ∷ refused_if (lacks_two n.state.settings m) ENFILE
        ∷ [])) (sym named)
        ∙ ap (λ (b : Bool). first_refusal (fault ∷ refused_if b ENFILE ∷ [])) (sym limited)

    pub create_fault : (e : ℕ) → Some e ≡ name_fault name → refusal ≡ Some e
    create_fault e fault = by (Some e) (lacks_two n.state.settings m) fault refl

    module _ (fine : None ≡ name_fault name) where
      pub create_full : true ≡ lacks_two n.state.settings m → refusal ≡ Some ENFILE
      create_full full = by None true fine full

      module _ (room : false ≡ lacks_two n.state.settings m) where
        pub may_create : n.state.settings.limit < 2 ^ 32 → MayCreate g n.state node k name
        may_create small = record {
          stands = st;
          known = at;
          fine = sym fine;
          room = sym room;
          small = small;
        }

        abbrev told_by : Option MachineNode → Result (ℕ × Tree) ℕ
        told_by o = new_file_of n.state.tree (node_ino o) name flags mode

        -- what the machine leaves, in the node's inode
        pub part_is : (t : Tree) → LeavesCreation k name flags mode (g, n) t
            → PartOf n.state.settings m node (Ok (create flags mode name)) t
        part_is t left = inl (subst (λ (o : Option ℕ). IsEither n.state.tree
            (kept_state (refused_or m o (created n.state.settings m flags
            (told_by (get m.nodes node)))).1).tree t) (sym (by None false fine room))
            (subst (λ (o : Option MachineNode). IsEither n.state.tree
            (kept_state (created n.state.settings m flags (told_by o)).1).tree t)
            (sym (node_seen st node (Some k) at)) left))

        pub create_served : (new : Gate × Moment) (reply : Reply)
            → ServesCreation k name flags mode (g, n) new reply
            → ServesRequest node (create flags mode name) (g, n) new reply
        create_served new reply served =
            served_in_part st good node (create flags mode name) (by None false fine room) new reply
            (subst (λ (o : Option MachineNode). Serves
            (created n.state.settings m flags (told_by o)) (created_messages (told_by o))
            (PartOf n.state.settings m node (Ok (create flags mode name))) (g, n) new reply)
            (sym (node_seen st node (Some k) at))
            (weaker (creation k name flags mode (g, n))
            (created_messages (new_file_of n.state.tree k.ino name flags mode))
            (LeavesCreation k name flags mode (g, n))
            (PartOf n.state.settings m node (Ok (create flags mode name))) part_is (g, n) new reply
            served))
