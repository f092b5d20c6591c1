-- The beginning of a session.
use Rattle.std.proofs.Common.{◌≡◌, ◌≢◌, ◌⊎◌, ℕ, ◌+◌, ◌≤◌, Bool, true, false, cond, ◌||◌, refl, sym}
use Rattle.std.proofs.Common.{ap, ◌∙◌, subst, Option, Some, None, Result, Ok, Err, arith, IsSome}
use Rattle.std.proofs.Common.{is_some, nat_le, nat_lt, inl, inr, ⊎_elim}
use Rattle.std.specs.Prelude.{option_map}
use Rattle.std.proofs.lemmas.Bool.{cases_eq}
use Rattle.std.proofs.lemmas.Bool.Decides.{nat_tests}
use Rattle.std.specs.Ordering.{nat_cmp}
use Rattle.std.specs.Cmp.{nat_cmp_total}
use Rattle.std.specs.FinMap as map
use Rattle.std.specs.FinMap.{FinMap, get, insert, len, retain_keys, len-insert, get-empty}
use Rattle.port_base.specs.Faults.{Rose}
use Rattle.port_base.specs.declared.errno.TheConstants.{EIO, ENFILE}
use Rattle.tree_model.specs.Tree.{Tree, Record, Records, is_linked, keep, linked}
use Rattle.tree_model.specs.declared.attributes.TheConstants.{TOP}
use Rattle.fuse_wire.specs.declared.protocol.TheConstants.{FUSE_ROOT_ID}
use Rattle.tree_model.specs.Good.{IsGoodTree}
use Rattle.tree_model.specs.Finding.{root_of}
use Rattle.tree_model.specs.Attributes.{Qid, attr_or_missing}
use Rattle.tree_model.specs.Settings.{Settings}
use Rattle.tree_model.proofs.Keeping.{retained-is_linked}
use Rattle.tree_model.proofs.Maps.{inserted, insert_keeps, retained, same_gets}
use Rattle.tree_machine.specs.State.{Node as MachineNode, begun}
use Rattle.tree_machine.specs.Good.{IsGoodMachine}
use Rattle.tree_machine.proofs.Begun.{begun_good, root_is_directory, stored_by}
use Rattle.fid_model.specs.Fids.{ServerState, Fid, Fids, fid_count, is_held, cleared, closed}
use Rattle.fid_model.specs.Fids.{IsGoodServer}
use Rattle.fid_model.specs.Answers.{qid_at, qid_told}
use Rattle.fid_model.specs.Calls.{named, attach_told}
use Rattle.fid_model.specs.Moments.{Moment, AskedOne}
use Rattle.fid_model.proofs.FidCounts.{fid_count-few}
use Rattle.p9_wire.specs.declared.qid.Qid.{Qid as QidStruct}
use Rattle.p9_wire.specs.Qids.{qid_of}
use Rattle.fuse_gate.specs.Mapped.{mapped}
use Rattle.fuse_gate.specs.Standing.{ArePaired, machine_of, node_of, handle_of, phase_of, fid_at}
use Rattle.fuse_gate.specs.Attaching.{AttachedBy, Begins, IsCleared, IsGateAt, IsRefusal, refusal}
use Rattle.fuse_gate.specs.Attaching.{root_told}
use Rattle.fuse_gate.specs.declared.gate.TheConstants.{LEAST_MSIZE}
use Rattle.fuse_gate.specs.declared.gate.Node.{Node}
use Rattle.fuse_gate.specs.declared.gate.Handle.{Handle}
use Rattle.fuse_gate.specs.declared.gate.Gate.{Gate}
use Rattle.fuse_gate.specs.declared.gate.attach.AttachError.TheVariants.{Errno, NoMemory}
use Rattle.fuse_gate.proofs.Asking.{Tells, pair}
use Rattle.fuse_gate.proofs.MappedLemmas.{get-mapped, mapped-insert}

-- ---- nothing is held where there is no fid

none_held : (i : ℕ) → is_held map.empty i ≡ false
none_held i =
    let few = fid_count-few map.empty i in
    let none = map.len-empty nat_cmp Fid in
    zero_lt (fid_count map.empty i) (omega (arith, few, none)) where
      zero_lt : (n : ℕ) → n ≡ 0 → nat_lt 0 n ≡ false
      zero_lt n h = grind (arith, nat_tests)

or_false : (a b : Bool) → b ≡ false → (a || b) ≡ a
or_false true b h = refl
or_false false b h = h

pub keep_none : (t : Tree) → keep (is_held map.empty) t ≡ linked t
keep_none t = ap (λ (p : ℕ → Bool). let u : Tree =
    record t { records = retain_keys t.records p } in u)
    (λ j i. or_false (is_linked t.records i) (is_held map.empty i) (none_held i) j)

-- what is linked of a linked tree is all of it
cond_twice : (b c : Bool) (o : Option Record) → c ≡ b → cond c (cond b o None) None ≡ cond b o None
cond_twice true c o same = ap (λ x. cond x o None) same
cond_twice false c o same = ap (λ x. cond x None None) same

pub linked_twice : (t : Tree) → IsGoodTree t → linked (linked t) ≡ linked t
linked_twice t g = ap (λ (rs : Records). let u : Tree = record t { records = rs } in u)
    (same_gets _ _ (λ q.
    retained (linked t).records (is_linked (linked t).records) q
    ∙ ap (λ o. cond (is_linked (linked t).records q) o None)
    (retained t.records (is_linked t.records) q)
    ∙ cond_twice (is_linked t.records q) (is_linked (linked t).records q) (get t.records q)
    (retained-is_linked t g (is_linked t.records) (λ i live. live) q)
    ∙ sym (retained t.records (is_linked t.records) q)))

-- ---- maps of one key

module _ {X : Type 0} (m : FinMap nat_cmp X) (k : ℕ) (v : X) (is : m ≡ insert map.empty k v) where
  one_there : (q : ℕ) → q ≡ k → get m q ≡ Some v
  one_there q e = ap (λ m. get m q) is ∙ ap (get (insert map.empty k v)) e ∙ inserted map.empty k v

  one_none : (q : ℕ) → q ≢ k → get m q ≡ None
  one_none q ne = ap (λ m. get m q) is ∙ insert_keeps map.empty k v q ne
      ∙ get-empty {X = X} nat_cmp q

  one_only : (q : ℕ) (x : X) → get m q ≡ Some x → (q ≡ k) × (v ≡ x)
  one_only q x at = ⊎_elim
      (λ e. (e, (let same : Some v ≡ Some x = sym (one_there q e) ∙ at in cc)))
      (λ ne. absurd (let clash : None ≡ Some x = sym (one_none q ne) ∙ at in cc))
      (cases_eq q k)

  one_long : len m ≡ 1
  one_long = ap len is ∙ len-insert nat_cmp_total map.empty k v
      ∙ ap (λ (o : Option X). cond (is_some o) (len (map.empty {X = X} {R = nat_cmp}))
      (len (map.empty {X = X} {R = nat_cmp}) + 1)) (get-empty {X = X} nat_cmp k)
      ∙ ap (λ n. n + 1) (map.len-empty nat_cmp X)

mapped-empty : {X Y : Type 0} (f : X → Y) → mapped f map.empty ≡ map.empty
mapped-empty {X} {Y} f = same_gets _ _ (λ q. get-mapped f map.empty q
    ∙ ap (option_map f) (get-empty {X = X} nat_cmp q) ∙ sym (get-empty {X = Y} nat_cmp q))

positive : (n : ℕ) → nat_le n 0 ≡ false → 1 ≤ n
positive n t = grind (arith, nat_tests)

-- ---- what an attach answers

module _ (n0 n n1 : Moment) (is : n.state ≡ cleared n0.state) where
  abbrev s0 : ServerState
  s0 = n0.state

  abbrev s : ServerState
  s = n.state

  abbrev s1 : ServerState
  s1 = n1.state

  tree_is : s.tree ≡ linked s0.tree
  tree_is = ap (λ (x : ServerState). x.tree) is ∙ keep_none s0.tree

  fids_none : s.fids ≡ map.empty
  fids_none = ap (λ (x : ServerState). x.fids) is

  settings_is : s.settings ≡ s0.settings
  settings_is = ap (λ (x : ServerState). x.settings) is

  root_is : root_of s.tree s.settings.root ≡ root_of (linked s0.tree) s0.settings.root
  root_is = λ j. root_of (tree_is j) (settings_is j).root

  limit_is : nat_le s.settings.limit 0 ≡ nat_le s0.settings.limit 0
  limit_is = ap (λ (x : Settings). nat_le x.limit 0) settings_is

  abbrev by_limit : Bool → Result ℕ ℕ → Result ℕ ℕ
  by_limit b r = cond b (Err ENFILE) r

  abbrev told_by : Bool → Result ℕ ℕ → Result Qid ℕ × ServerState
  told_by b r = cond b (pair (Err ENFILE) s) (named s 1 r)

  told_is : by_limit (nat_le s.settings.limit 0) (root_of s.tree s.settings.root) ≡ root_told s0
  told_is = λ j. by_limit (limit_is j) (root_is j)

  refused_by : (b : Bool) (r : Result ℕ ℕ) (e : ℕ) → pair (Err e) s1 ≡ told_by b r → (s1 ≡ s)
      × (by_limit b r ≡ Err e)
  refused_by true r e h = (
    ap (λ (x : Result Qid ℕ × ServerState). x.1) h,
    (let same : e ≡ ENFILE = (let q = ap (λ (x : Result Qid ℕ × ServerState). x.0) h in cc) in ap
        Err (sym same)),
  )
  refused_by false (Ok i) e h = absurd (let clash : Err e ≡ Ok (qid_at s.tree i) =
      ap (λ (x : Result Qid ℕ × ServerState). x.0) h in cc)
  refused_by false (Err d) e h = (
    ap (λ (x : Result Qid ℕ × ServerState). x.1) h,
    (let same : e ≡ d = (let q = ap (λ (x : Result Qid ℕ × ServerState). x.0) h in cc) in ap Err
        (sym same)),
  )

  cleared_by : s1 ≡ s → IsCleared s0 s1
  cleared_by same = record {
    fids = ap (λ (x : ServerState). x.fids) same ∙ fids_none;
    tree =
        ap (λ (x : ServerState). x.tree) same ∙ tree_is;
  }

  refusal_by : (b : Bool) → nat_le s0.settings.limit 0 ≡ b → (d e f0 f1 : ℕ) → e ≡ cond b ENFILE d
      → (root_told s0 ≡ Err d) ⊎ (Rose f0 f1 × (d ≡ EIO)) → IsRefusal s0 f0 f1 e
  refusal_by true is d e f0 f1 same h = inl (ap
      (λ b. by_limit b (root_of (linked s0.tree) s0.settings.root)) is ∙ ap Err (sym same))
  refusal_by false is d e f0 f1 same h = ⊎_elim
      (λ told. inl (told ∙ ap Err (sym same)))
      (λ k. inr (k.0, same ∙ k.1, positive s0.settings.limit is)) h

  module _ (d e limit : ℕ) (same_faults : n.faults ≡ n0.faults) (same_asked : n.asked ≡ n0.asked)
      (counted : AskedOne n n1) (fixed : s1.settings ≡ s.settings)
      (told_limit : limit ≡ s1.settings.limit) (told_errno : e ≡ refusal limit d) where
    errno_is : e ≡ refusal s0.settings.limit d
    errno_is = told_errno ∙ ap (λ n. refusal n d)
        (told_limit ∙ ap (λ (x : Settings). x.limit) (fixed ∙ settings_is))

    refused : (root_told s0 ≡ Err d) ⊎ (Rose n0.faults n1.faults × (d ≡ EIO))
        → IsRefusal s0 n0.faults n1.faults e
    refused h = refusal_by (nat_le s0.settings.limit 0) refl d e n0.faults n1.faults errno_is h

    pub attach_refused : (r : Result Qid ℕ) → r ≡ Err d → Tells (attach_told s 1) r n n1
        → AttachedBy n0 n1 (Err (Errno e))
    attach_refused r answered tells = ⊎_elim
        (λ h. let w = refused_by (nat_le s.settings.limit 0) (root_of s.tree s.settings.root) d
        (ap (λ x. pair x s1) (sym answered) ∙ h)
        in (cleared_by w.0, refused (inl (sym told_is ∙ w.1)), omega arith))
        (λ k.
        let same : Err d ≡ Err EIO = sym answered ∙ k.1 in (
          cleared_by k.2,
          refused (inr (subst (λ f. Rose f n1.faults) same_faults k.0, cc)),
          omega
              arith,
        ))
        tells

  attached_by : (b : Bool) (r : Result ℕ ℕ) (q : Qid) → pair (Ok q) s1 ≡ told_by b r → (i : ℕ)
      × (b ≡ false) × (r ≡ Ok i) × (q ≡ qid_at s.tree i)
      × (s1 ≡ record s { fids = insert s.fids 1 (closed i) })
  attached_by true r q h = absurd (let clash : Ok q ≡ Err ENFILE =
      ap (λ (x : Result Qid ℕ × ServerState). x.0) h in cc)
  attached_by false (Ok i) q h = (
    i,
    refl,
    refl,
    (let e : Ok q ≡ Ok (qid_at s.tree i) = ap (λ (x : Result Qid ℕ × ServerState). x.0) h
        in (let same : q ≡ qid_at s.tree i = cc in same)),
    ap
        (λ (x : Result Qid ℕ × ServerState). x.1) h,
  )
  attached_by false (Err d) q h = absurd (let clash : Ok q ≡ Err d =
      ap (λ (x : Result Qid ℕ × ServerState). x.0) h in cc)

  found_by : (r : Result Qid ℕ) (q : Qid) → r ≡ Ok q → Tells (attach_told s 1) r n n1
      → (i : ℕ) × (nat_le s.settings.limit 0 ≡ false) × (root_of s.tree s.settings.root ≡ Ok i)
      × (q ≡ qid_at s.tree i) × (s1 ≡ record s { fids = insert s.fids 1 (closed i) })
  found_by r q answered tells = ⊎_elim
      (λ h. attached_by (nat_le s.settings.limit 0) (root_of s.tree s.settings.root) q
      (ap (λ x. pair x s1) (sym answered) ∙ h))
      (λ k. absurd (let clash : Ok q ≡ Err EIO = sym answered ∙ k.1 in cc))
      tells

  -- ---- no memory, after which the fids are taken away once more

  module _ (good : IsGoodServer s0) (n2 : Moment) (over : n2.state ≡ cleared s1) where
    pub attach_unfinished : s1.tree ≡ s.tree → AttachedBy n0 n2 (Err NoMemory)
    attach_unfinished same = record {
      fids = ap (λ (x : ServerState). x.fids) over;
      tree = ap (λ (x : ServerState). x.tree) over ∙ keep_none s1.tree ∙ ap linked (same ∙ tree_is)
          ∙ linked_twice s0.tree good.tree;
    }

    pub attach_wanting : (r : Result Qid ℕ) (q : Qid) → r ≡ Ok q → Tells (attach_told s 1) r n n1
        → AttachedBy n0 n2 (Err NoMemory)
    attach_wanting r q answered tells = attach_unfinished
        (ap (λ (x : ServerState). x.tree) (found_by r q answered tells).4)

  -- ---- the gate over the root

  module _ (good : IsGoodServer s) (roomy : LEAST_MSIZE ≤ s0.msize) (q : QidStruct) (g : Gate)
      (h : IsGateAt q.path q.ty g) (i : ℕ) (few : nat_le s.settings.limit 0 ≡ false)
      (found : root_of s.tree s.settings.root ≡ Ok i)
      (named_it : qid_of q ≡ qid_at s.tree i)
      (state : s1 ≡ record s { fids = insert s.fids 1 (closed i) }) where
    stored : IsSome (get s.tree.records i)
    stored = stored_by (get s.tree.records i)
        (root_is_directory s.tree s.settings.root (Ok TOP) i found)

    path_is : q.path ≡ i
    path_is = ap (λ (x : Qid). x.1.1) named_it ∙ by_record (get s.tree.records i) refl stored where
      by_record : (o : Option Record) → get s.tree.records i ≡ o → IsSome (get s.tree.records i)
          → (qid_at s.tree i).1.1 ≡ i
      by_record None at had = absurd (let none = subst IsSome at had in cc)
      by_record (Some r) at had = ap (λ o. (qid_told (attr_or_missing i o)).1.1) at

    abbrev root_node : Node
    root_node = record { ino = q.path; count = 1; kind = q.ty }

    fids_is : s1.fids ≡ insert map.empty 1 (closed i)
    fids_is = ap (λ (x : ServerState). x.fids) state
        ∙ ap (λ (m : Fids). insert m 1 (closed i)) fids_none

    no_handle : (id : ℕ) → get g.handles id ≡ None
    no_handle id = ap (λ (m : FinMap nat_cmp Handle). get m id) h.handles
        ∙ get-empty {X = Handle} nat_cmp id

    tree_same : s1.tree ≡ s.tree
    tree_same = ap (λ (x : ServerState). x.tree) state

    paired : ArePaired g s1
    paired = record {
      fids = λ id. ⊎_elim
          (λ e. one_there s1.fids 1 (closed i) fids_is id e
          ∙ ap (λ k. Some (closed k)) (sym path_is)
          ∙ sym (ap (λ o. fid_at o (get g.handles id))
          (one_there g.nodes 1 root_node h.nodes id e)))
          (λ ne. one_none s1.fids 1 (closed i) fids_is id ne
          ∙ sym (ap (λ o. fid_at o (get g.handles id))
          (one_none g.nodes 1 root_node h.nodes id ne) ∙ ap (fid_at None) (no_handle id)))
          (cases_eq id 1);
      used = h.used ∙ sym (one_long s1.fids 1 (closed i) fids_is);
      counted = (let a = one_long g.nodes 1 root_node h.nodes in let b : len g.handles ≡ 0 =
          ap len h.handles ∙ map.len-empty nat_cmp Handle in let c = h.used in omega arith);
      ids = λ ino id at. let one = one_only g.ids q.path 1 h.ids ino id at
          in (root_node, one_there g.nodes 1 root_node h.nodes id (sym one.1), sym one.0);
      known = λ id n at. let one = one_only g.nodes 1 root_node h.nodes id n at in ap
          (λ (x : Node). get g.ids x.ino) (sym one.1) ∙ one_there g.ids q.path 1 h.ids q.path refl
          ∙ ap Some (sym one.0);
      node_kinds = λ id n r at there.
          let one = one_only g.nodes 1 root_node h.nodes id n at in
          let here : get s.tree.records i ≡ Some r =
          ap (λ (t : Tree). get t.records i) (sym tree_same)
          ∙ ap (get s1.tree.records) (sym path_is)
          ∙ ap (λ (x : Node). get s1.tree.records x.ino) one.1 ∙ there in
          ap (λ (x : Node). x.kind) (sym one.1) ∙ ap (λ (x : Qid). x.0) named_it
          ∙ ap (λ o. (qid_told (attr_or_missing i o)).0) here;
      handle_kinds = λ id k r at there. absurd
          (let clash : None ≡ Some k = sym (no_handle id) ∙ at in cc);
    }

    nodes_is : mapped node_of g.nodes ≡ insert map.empty FUSE_ROOT_ID
        (record { ino = i; count = 1 })
    nodes_is = ap (mapped node_of) h.nodes ∙ mapped-insert node_of map.empty 1 root_node
        ∙ ap (λ (m : FinMap nat_cmp MachineNode). insert m 1 (node_of root_node))
        (mapped-empty node_of)
        ∙ ap (λ (k : ℕ). insert map.empty 1 (let v : MachineNode =
        record { ino = k; count = 1 } in v)) path_is

    handles_is : mapped handle_of g.handles ≡ map.empty
    handles_is = ap (mapped handle_of) h.handles ∙ mapped-empty handle_of

    machine_is : machine_of g s1 ≡ begun (linked s0.tree) i
    machine_is = λ j. record {
      phase = phase_of (h.phase j);
      tree = (tree_same ∙ tree_is) j;
      nodes =
          nodes_is j;
      handles = handles_is j;
      next = h.next j;
    }

    limit_some : 1 ≤ s0.settings.limit
    limit_some = positive s0.settings.limit (sym limit_is ∙ few)

    settings_same : s1.settings ≡ s0.settings
    settings_same = ap (λ (x : ServerState). x.settings) state ∙ settings_is

    begins : Begins g s0 s1
    begins =
        let begun_is = begun_good s0.settings (linked s0.tree) i
        (subst IsGoodTree tree_is good.tree) (sym root_is ∙ found) limit_some in
        record {
          stands = record {
            good = subst (λ (x : Settings). IsGoodMachine x (machine_of g s1)) (sym settings_same)
                (subst (IsGoodMachine s0.settings) (sym machine_is) begun_is);
            paired = paired;
            roomy = subst (λ k. LEAST_MSIZE ≤ k)
                (sym (ap (λ (x : ServerState). x.msize) state
                ∙ ap (λ (x : ServerState). x.msize) is)) roomy;
          };
          root = i;
          limit = limit_some;
          found = sym root_is ∙ found;
          state = machine_is;
          frames = h.frames;
        }

  pub attach_made : IsGoodServer s → LEAST_MSIZE ≤ s0.msize
      → (r : Result Qid ℕ) (q : QidStruct) (g : Gate) → r ≡ Ok (qid_of q) → n.asked ≡ n0.asked
      → Tells (attach_told s 1) r n n1 → AskedOne n n1
      → IsGateAt q.path q.ty g → AttachedBy n0 n1 (Ok g)
  attach_made good roomy r q g answered same_asked tells counted h =
      let w = found_by r (qid_of q) answered tells in
      (begins good roomy q g h w.0 w.1 w.2 w.3 w.4, omega arith)
