-- A fid goes, with the node or the handle that is its own: gate and server stay in step.
use Rattle.std.proofs.Common.{◌≡◌, ◌≢◌, ℕ, ◌+◌, ◌≤◌, Bool, true, false, cond, ◌||◌, refl, sym, ap}
use Rattle.std.proofs.Common.{◌∙◌, subst, Option, Some, None, arith, ⊎_elim}
use Rattle.std.proofs.lemmas.Bool.{cases_eq}
use Rattle.std.specs.Ordering.{nat_cmp}
use Rattle.std.specs.FinMap.{FinMap, get, remove, len}
use Rattle.tree_model.specs.Tree.{Tree, Record, is_linked, keep}
use Rattle.tree_model.specs.Attributes.{kind_of, qid_type}
use Rattle.tree_model.proofs.Maps.{retained, removed, remove_keeps}
use Rattle.tree_model.proofs.Counting.{put_back}
use Rattle.tree_machine.specs.State.{MachineState, kept_state, is_named}
use Rattle.tree_machine.specs.Good.{IsGoodMachine}
use Rattle.tree_machine.proofs.KeptStates.{kept_good}
use Rattle.fid_model.specs.Fids.{ServerState, is_held, closed}
use Rattle.fid_model.specs.Calls.{clunked}
use Rattle.fid_model.proofs.Keeping.{keep_alike}
use Rattle.fuse_gate.specs.Mapped.{mapped}
use Rattle.fuse_gate.specs.Standing.{IsInStep, ArePaired, machine_of, node_of, handle_of, fid_at}
use Rattle.fuse_gate.specs.Standing.{opened}
use Rattle.fuse_gate.specs.Changes.{without, without_node, without_handle}
use Rattle.fuse_gate.specs.declared.gate.TheConstants.{LEAST_MSIZE}
use Rattle.fuse_gate.specs.declared.gate.Node.{Node}
use Rattle.fuse_gate.specs.declared.gate.Handle.{Handle}
use Rattle.fuse_gate.specs.declared.gate.Gate.{Gate}
use Rattle.fuse_gate.proofs.Standings.{named_held, apart_at, handle_fid, node_fid}
use Rattle.fuse_gate.proofs.Changing.{len_new}

-- what is kept was there before
kept_before : (o : Option Record) (b : Bool) (r : Record) → cond b o None ≡ Some r → o ≡ Some r
kept_before o true r h = h
kept_before o false r h = absurd cc

pub was_stored : (t : Tree) (held : ℕ → Bool) (i : ℕ) (r : Record)
    → get (keep held t).records i ≡ Some r → get t.records i ≡ Some r
was_stored t held i r at = kept_before (get t.records i) (is_linked t.records i || held i) r
    (sym (retained t.records (λ q. is_linked t.records q || held q) i) ∙ at)

-- ---- what is left behind a clunk, where gate and server were paired without the fid

module _ (g : Gate) (s : ServerState) (fid : ℕ) (paired : ArePaired g (without s fid))
    (good : IsGoodMachine s.settings (machine_of g s)) (roomy : LEAST_MSIZE ≤ s.msize) where
  pub gone_state : machine_of g (clunked s fid) ≡ kept_state (machine_of g s)
  gone_state =
      ap (λ (t : Tree). let m : MachineState = record (machine_of g s) { tree = t } in m)
      (sym (keep_alike s.tree (is_named (mapped node_of g.nodes) (mapped handle_of g.handles))
      (is_held (remove s.fids fid)) (named_held g (without s fid) paired good.apart)))

  gone_paired : ArePaired g (clunked s fid)
  gone_paired = record {
    fids = paired.fids;
    used = paired.used;
    counted = paired.counted;
    ids = paired.ids;
    known = paired.known;
    node_kinds = λ id n r at there. paired.node_kinds id n r at
        (was_stored s.tree (is_held (remove s.fids fid)) n.ino r there);
    handle_kinds = λ id h r at there. paired.handle_kinds id h r at
        (was_stored s.tree (is_held (remove s.fids fid)) h.ino r there);
  }

  pub gone_stands : IsInStep g (clunked s fid)
  gone_stands = record {
    good = subst (IsGoodMachine s.settings) (sym gone_state)
        (kept_good s.settings (machine_of g s) good);
    paired = gone_paired;
    roomy = roomy;
  }

-- what is there after a removal
pub remove_cases : {X : Type 0} (m : FinMap nat_cmp X) (k q : ℕ) (P : Option X → Type 0)
    → (q ≡ k → P None) → (q ≢ k → P (get m q)) → P (get (remove m k) q)
remove_cases m k q P f h = ⊎_elim
    (λ e. subst P (sym (ap (get (remove m k)) e ∙ removed m k)) (f e))
    (λ ne. subst P (sym (remove_keeps m k q ne)) (h ne))
    (cases_eq q k)

len_less : {X : Type 0} (m : FinMap nat_cmp X) (k : ℕ) (v : X) → get m k ≡ Some v
    → len m ≡ len (remove m k) + 1
len_less m k v at = ap len (sym (put_back m k v at)) ∙ len_new (remove m k) k v (removed m k)

module _ {g : Gate} {s : ServerState} (st : IsInStep g s) where
  -- ---- a handle

  module _ (id : ℕ) (h : Handle) (at : get g.handles id ≡ Some h) where
    pub some_used : 1 ≤ g.used
    some_used = let a = st.paired.counted in let b = len_less g.handles id h at in omega arith

    no_node_at : (o : Option Node) → get g.nodes id ≡ o → get g.nodes id ≡ None
    no_node_at None is = is
    no_node_at (Some n) is = absurd (let none : None ≡ Some h = sym (apart_at st id n is)
        ∙ at in cc)

    pub handle_less : ArePaired (without_handle g id) (without s id)
    handle_less = record {
      fids = λ q. remove_cases s.fids id q (λ o. o ≡ fid_at (get g.nodes q)
          (get (remove g.handles id) q))
          (λ e. subst (λ k. None ≡ fid_at (get g.nodes k) (get (remove g.handles id) k)) (sym e)
          (sym (ap (λ n. fid_at n (get (remove g.handles id) id)) (no_node_at (get g.nodes id) refl)
          ∙ ap (fid_at None) (removed g.handles id))))
          (λ ne. st.paired.fids q ∙ ap (fid_at (get g.nodes q))
          (sym (remove_keeps g.handles id q ne)));
      used = (let a = st.paired.used in let b =
          len_less s.fids id (opened h) (handle_fid st id h at) in omega arith);
      counted = (let a = st.paired.counted in let b = len_less g.handles id h at in omega arith);
      ids = st.paired.ids;
      known = st.paired.known;
      node_kinds = st.paired.node_kinds;
      handle_kinds = λ q k r. remove_cases g.handles id q
          (λ o. o ≡ Some k → get s.tree.records k.ino ≡ Some r → k.kind ≡ qid_type (kind_of r.body))
          (λ e here. absurd (let clash : None ≡ Some k = here in cc))
          (λ ne here. st.paired.handle_kinds q k r here);
    }

  -- ---- a node

  module _ (id : ℕ) (n : Node) (at : get g.nodes id ≡ Some n) where
    pub used_some : 1 ≤ g.used
    used_some = let a = st.paired.counted in let b = len_less g.nodes id n at in omega arith

    pub node_less : ArePaired (without_node g id n.ino) (without s id)
    node_less = record {
      fids = λ q. remove_cases s.fids id q (λ o. o ≡ fid_at (get (remove g.nodes id) q)
          (get g.handles q))
          (λ e. subst (λ k. None ≡ fid_at (get (remove g.nodes id) k) (get g.handles k)) (sym e)
          (sym (ap (λ m. fid_at m (get g.handles id)) (removed g.nodes id)
          ∙ ap (fid_at None) (apart_at st id n at))))
          (λ ne. st.paired.fids q ∙ ap (λ m. fid_at m (get g.handles q))
          (sym (remove_keeps g.nodes id q ne)));
      used = (let a = st.paired.used in let b =
          len_less s.fids id (closed n.ino) (node_fid st id n at) in omega arith);
      counted = (let a = st.paired.counted in let b = len_less g.nodes id n at in omega arith);
      ids = λ ino q. remove_cases g.ids n.ino ino
          (λ o. o ≡ Some q → (m : Node) × (get (remove g.nodes id) q ≡ Some m) × (m.ino ≡ ino))
          (λ e here. absurd (let clash : None ≡ Some q = here in cc))
          (λ ne here. let m = st.paired.ids ino q here
          in (
            m.0,
            remove_keeps g.nodes id q
                (λ same. ne (sym m.2 ∙ (let one : Some m.0 ≡ Some n = sym m.1
                ∙ ap (get g.nodes) same
                ∙ at in let is : m.0 ≡ n = cc in ap (λ (x : Node). x.ino) is))) ∙ m.1,
            m.2,
          ));
      known = λ q m. remove_cases g.nodes id q
          (λ o. o ≡ Some m → get (remove g.ids n.ino) m.ino ≡ Some q)
          (λ e here. absurd (let clash : None ≡ Some m = here in cc))
          (λ ne here. remove_keeps g.ids n.ino m.ino
          (λ same. ne (let one : Some q ≡ Some id = sym (st.paired.known q m here)
          ∙ ap (get g.ids) same ∙ st.paired.known id n at in cc)) ∙ st.paired.known q m here);
      node_kinds = λ q m r. remove_cases g.nodes id q
          (λ o. o ≡ Some m → get s.tree.records m.ino ≡ Some r → m.kind ≡ qid_type (kind_of r.body))
          (λ e here. absurd (let clash : None ≡ Some m = here in cc))
          (λ ne here. st.paired.node_kinds q m r here);
      handle_kinds = st.paired.handle_kinds;
    }
