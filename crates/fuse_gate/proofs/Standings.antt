-- Gates and servers that stay in step.
use Rattle.std.proofs.Common.{◌≡◌, ℕ, ◌+◌, ◌<◌, ◌≤◌, ◌^◌, ◌||◌, true, false, refl, sym, ap, ◌∙◌}
use Rattle.std.proofs.Common.{Option, Some, None, arith, nat_le, is_some}
use Rattle.std.specs.Prelude.{option_map}
use Rattle.std.proofs.lemmas.Bool.{false≢true}
use Rattle.std.proofs.lemmas.Bool.Decides.{nat_tests}
use Rattle.std.specs.FinMap.{get, len}
use Rattle.tree_model.specs.Tree.{Tree}
use Rattle.tree_machine.specs.State.{MachineState, Node as MachineNode, kept_state, is_named}
use Rattle.tree_machine.specs.State.{is_at_limit}
use Rattle.tree_machine.specs.declared.limits.TheConstants.{NUMBER_LIMIT}
use Rattle.tree_machine.specs.Good.{IsGoodNode, IsGoodHandle}
use Rattle.fid_model.specs.Fids.{ServerState, is_held, IsGoodServer, closed}
use Rattle.fid_model.proofs.Keeping.{keep_same, keep_alike}
use Rattle.fuse_gate.specs.Mapped.{mapped}
use Rattle.fuse_gate.specs.Standing.{IsInStep, ArePaired, machine_of, node_of, handle_of, fid_at}
use Rattle.fuse_gate.specs.Standing.{opened}
use Rattle.fuse_gate.specs.declared.gate.Node.{Node}
use Rattle.fuse_gate.specs.declared.gate.Handle.{Handle}
use Rattle.fuse_gate.specs.declared.gate.Gate.{Gate}
use Rattle.fuse_gate.proofs.MappedLemmas.{get-mapped, len-mapped, mapped_at, mapped_none}
use Rattle.fuse_gate.proofs.Held.{named_is_held}

-- no number is a node and a handle
abbrev pub AreApart : MachineState → Type 0
AreApart m = (id : ℕ) (n : MachineNode) → get m.nodes id ≡ Some n → get m.handles id ≡ None

-- what nodes and handles name is what fids name
pub named_held : (g : Gate) (s : ServerState) → ArePaired g s → AreApart (machine_of g s) → (i : ℕ)
    → is_named (mapped node_of g.nodes) (mapped handle_of g.handles) i ≡ is_held s.fids i
named_held g s paired apart i = named_is_held g.nodes g.handles s.fids paired.fids
    (λ q n at. mapped_none handle_of g.handles q
    (apart q (node_of n) (mapped_at node_of g.nodes q n at))) i

-- nothing goes
pub kept_same : (g : Gate) (s : ServerState) → ArePaired g s → AreApart (machine_of g s)
    → IsGoodServer s → kept_state (machine_of g s) ≡ machine_of g s
kept_same g s paired apart good =
    ap (λ (t : Tree). let m : MachineState = record (machine_of g s) { tree = t } in m)
    (keep_alike s.tree (is_named (mapped node_of g.nodes) (mapped handle_of g.handles))
    (is_held s.fids)
    (named_held g s paired apart)
    ∙ keep_same s.tree (is_held s.fids) good.kept)

module _ {g : Gate} {s : ServerState} (st : IsInStep g s) where
  -- more messages were sent
  pub sent_stands : (k : ℕ) → IsInStep (record g { nine_frames = k }) s
  sent_stands k = record {
    good = st.good;
    paired = record {
      fids = st.paired.fids;
      used = st.paired.used;
      counted =
          st.paired.counted;
      ids = st.paired.ids;
      known = st.paired.known;
      node_kinds =
          st.paired.node_kinds;
      handle_kinds = st.paired.handle_kinds;
    };
    roomy = st.roomy;
  }

  pub stands_kept : IsGoodServer s → kept_state (machine_of g s) ≡ machine_of g s
  stands_kept good = kept_same g s st.paired st.good.apart good

  -- ---- which fids there are

  pub node_good : (id : ℕ) (n : Node) → get g.nodes id ≡ Some n
      → IsGoodNode (machine_of g s) id (node_of n)
  node_good id n at = st.good.nodes id (node_of n) (mapped_at node_of g.nodes id n at)

  pub handle_good : (id : ℕ) (h : Handle) → get g.handles id ≡ Some h
      → IsGoodHandle (machine_of g s) id (handle_of h)
  handle_good id h at = st.good.handles id (handle_of h) (mapped_at handle_of g.handles id h at)

  pub apart_at : (id : ℕ) (n : Node) → get g.nodes id ≡ Some n → get g.handles id ≡ None
  apart_at id n at = mapped_none handle_of g.handles id
      (st.good.apart id (node_of n) (mapped_at node_of g.nodes id n at))

  no_node : (o : Option Node) → get g.nodes g.next ≡ o → get g.nodes g.next ≡ None
  no_node None at = at
  no_node (Some n) at = absurd (let low = (node_good g.next n at).drawn in omega arith)

  no_handle : (o : Option Handle) → get g.handles g.next ≡ o → get g.handles g.next ≡ None
  no_handle None at = at
  no_handle (Some h) at = absurd (let low = (handle_good g.next h at).drawn in omega arith)

  pub next_free : get g.nodes g.next ≡ None
  next_free = no_node (get g.nodes g.next) refl

  pub next_no_handle : get g.handles g.next ≡ None
  next_no_handle = no_handle (get g.handles g.next) refl

  pub fid_free : get s.fids g.next ≡ None
  fid_free = st.paired.fids g.next ∙ ap (λ o. fid_at o (get g.handles g.next)) next_free
      ∙ ap (fid_at None) next_no_handle

  pub node_fid : (q : ℕ) (n : Node) → get g.nodes q ≡ Some n → get s.fids q ≡ Some (closed n.ino)
  node_fid q n at = st.paired.fids q ∙ ap (λ o. fid_at o (get g.handles q)) at

  -- a number that is a handle is no node
  no_node_at : (q : ℕ) (h : Handle) → get g.handles q ≡ Some h → (o : Option Node)
      → get g.nodes q ≡ o → get g.nodes q ≡ None
  no_node_at q h at None is = is
  no_node_at q h at (Some m) is = absurd (let none : None ≡ Some h = sym (apart_at q m is)
      ∙ at in cc)

  pub handle_fid : (q : ℕ) (h : Handle) → get g.handles q ≡ Some h → get s.fids q ≡ Some (opened h)
  handle_fid q h at = st.paired.fids q ∙ ap (λ o. fid_at o (get g.handles q))
      (no_node_at q h at (get g.nodes q) refl) ∙ ap (fid_at None) at

  pub node_below : (q : ℕ) (n : Node) → get g.nodes q ≡ Some n → q < 4294967296
  node_below q n at = let low = (node_good q n at).drawn in let end = st.good.next in omega arith

  pub handle_below : (q : ℕ) (h : Handle) → get g.handles q ≡ Some h → q < 4294967296
  handle_below q h at = let low = (handle_good q h at).drawn in let end =
      st.good.next in omega arith

  -- ---- the machine's nodes, handles and limit

  pub node_seen : (id : ℕ) (o : Option Node) → get g.nodes id ≡ o
      → get (machine_of g s).nodes id ≡ option_map node_of o
  node_seen id o at = get-mapped node_of g.nodes id ∙ ap (option_map node_of) at

  pub handle_seen : (id : ℕ) (o : Option Handle) → get g.handles id ≡ o
      → get (machine_of g s).handles id ≡ option_map handle_of o
  handle_seen id o at = get-mapped handle_of g.handles id ∙ ap (option_map handle_of) at

  pub in_all : len (machine_of g s).nodes + len (machine_of g s).handles ≡ g.used
  in_all = let a = len-mapped node_of g.nodes in let b = len-mapped handle_of g.handles in let c =
      st.paired.counted in omega arith

  pub limit_is : is_at_limit s.settings (machine_of g s)
      ≡ (nat_le s.settings.limit g.used || nat_le NUMBER_LIMIT g.next)
  limit_is = ap (λ k. nat_le s.settings.limit k || nat_le NUMBER_LIMIT g.next) in_all

  pub few_used : is_at_limit s.settings (machine_of g s) ≡ false → s.settings.limit < 2 ^ 32
      → g.used < 2 ^ 32
  few_used room small = by_test (sym limit_is ∙ room) where
    by_test : (nat_le s.settings.limit g.used || nat_le NUMBER_LIMIT g.next) ≡ false
        → g.used < 2 ^ 32
    by_test below = grind (arith, nat_tests, below)

  -- by the numbers that are counted
  pub full_by : (limit : ℕ) → limit ≡ s.settings.limit → limit ≤ g.used
      → nat_le limit g.used ≡ is_at_limit s.settings (machine_of g s)
  full_by limit is enough = by_number limit s.settings.limit is enough ∙ sym limit_is where
    by_number : (a b : ℕ) → a ≡ b → a ≤ g.used
        → nat_le a g.used ≡ (nat_le b g.used || nat_le NUMBER_LIMIT g.next)
    by_number a b is enough =
        let left : nat_le a g.used ≡ true = grind (arith, nat_tests) in
        let right : (nat_le b g.used || nat_le NUMBER_LIMIT g.next) ≡ true =
        grind (arith, nat_tests) in
        left ∙ sym right

  pub full_else : (limit : ℕ) → limit ≡ s.settings.limit → g.used < limit
      → nat_le NUMBER_LIMIT g.next ≡ is_at_limit s.settings (machine_of g s)
  full_else limit is few = sym (limit_is ∙ by_number limit s.settings.limit is few) where
    by_number : (a b : ℕ) → a ≡ b → g.used < a
        → (nat_le b g.used || nat_le NUMBER_LIMIT g.next) ≡ nat_le NUMBER_LIMIT g.next
    by_number a b is few = let none : nat_le b g.used ≡ false =
        grind (arith, nat_tests) in ap (λ t. t || nat_le NUMBER_LIMIT g.next) none

  -- there is room for a fid
  below : is_at_limit s.settings (machine_of g s) ≡ false
      → len (machine_of g s).nodes + len (machine_of g s).handles < s.settings.limit
  below room = grind (arith, nat_tests, room)

  pub fids_below : is_at_limit s.settings (machine_of g s) ≡ false → len s.fids < s.settings.limit
  fids_below room = let a = below room in let b = in_all in let c = st.paired.used in omega arith

pub none_there : {X : Type 0} (o : Option X) → is_some o ≡ false → o ≡ None
none_there None h = refl
none_there (Some x) h = absurd (false≢true (sym h))

pub some_there : {X : Type 0} (o : Option X) → is_some o ≡ true → (x : X) × (o ≡ Some x)
some_there None h = absurd (false≢true h)
some_there (Some x) h = (x, refl)
