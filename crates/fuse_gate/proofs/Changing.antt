-- A node that counts one more, and a new node, stay paired with the server's fids.
use Rattle.std.proofs.Common.{◌≡◌, ◌≢◌, ℕ, ◌+◌, cond, refl, sym, ap, ◌∙◌, subst, Option, Some, None}
use Rattle.std.proofs.Common.{arith, is_some, IsSome, option_map, ⊎_elim}
use Rattle.std.proofs.lemmas.Bool.{cases_eq, false≢true}
use Rattle.std.specs.Ordering.{nat_cmp}
use Rattle.std.specs.Cmp.{nat_cmp_total}
use Rattle.std.specs.FinMap.{FinMap, get, insert, remove, len, len-insert}
use Rattle.tree_model.specs.Tree.{Tree, Record}
use Rattle.tree_machine.specs.State.{Handle as MachineHandle}
use Rattle.tree_machine.specs.Good.{IsOpenable}
use Rattle.tree_model.specs.Attributes.{kind_of, qid_type}
use Rattle.tree_model.proofs.Maps.{inserted, insert_keeps, removed, remove_keeps}
use Rattle.tree_model.proofs.Counting.{put_back}
use Rattle.fid_model.specs.Fids.{ServerState, closed}
use Rattle.fuse_gate.specs.Standing.{IsInStep, ArePaired, fid_at, handle_of}
use Rattle.tree_machine.specs.Kinds.{KeepsKinds}
use Rattle.fuse_gate.specs.Changes.{without, counted_node, with_node}
use Rattle.fuse_gate.specs.declared.gate.Node.{Node}
use Rattle.fuse_gate.specs.declared.gate.Gate.{Gate}
use Rattle.fuse_gate.proofs.Standings.{next_free, node_fid, node_good, handle_good}

-- what is there after an insertion
pub insert_cases : {X : Type 0} (m : FinMap nat_cmp X) (k : ℕ) (v : X) (q : ℕ)
    (P : Option X → Type 0) → (q ≡ k → P (Some v)) → (q ≢ k → P (get m q))
    → P (get (insert m k v) q)
insert_cases m k v q P f h = ⊎_elim
    (λ e. subst P (sym (ap (get (insert m k v)) e ∙ inserted m k v)) (f e))
    (λ ne. subst P (sym (insert_keeps m k v q ne)) (h ne))
    (cases_eq q k)

pub len_known : {X : Type 0} (m : FinMap nat_cmp X) (k : ℕ) (x v : X) → get m k ≡ Some x
    → len (insert m k v) ≡ len m
len_known m k x v at = len-insert nat_cmp_total m k v
    ∙ ap (λ o. cond (is_some o) (len m) (len m + 1)) at

pub len_new : {X : Type 0} (m : FinMap nat_cmp X) (k : ℕ) (v : X) → get m k ≡ None
    → len (insert m k v) ≡ len m + 1
len_new m k v at = len-insert nat_cmp_total m k v
    ∙ ap (λ o. cond (is_some o) (len m) (len m + 1)) at

-- ---- a node that keeps its inode and its kind

module _ (g : Gate) (s : ServerState) (st : IsInStep g s) (id : ℕ) (n v : Node)
    (at : get g.nodes id ≡ Some n) (same_ino : v.ino ≡ n.ino) (same_kind : v.kind ≡ n.kind) where
  pub changed_paired : ArePaired (record g { nodes = insert g.nodes id v }) s
  changed_paired = record {
    fids = λ q. insert_cases g.nodes id v q (λ o. get s.fids q ≡ fid_at o (get g.handles q))
        (λ e. subst (λ k. get s.fids k ≡ fid_at (Some v) (get g.handles k)) (sym e)
        (node_fid st id n at ∙ ap (λ (i : ℕ). Some (closed i)) (sym same_ino)))
        (λ ne. st.paired.fids q);
    used = st.paired.used;
    counted = ap (λ k. k + len g.handles) (len_known g.nodes id n v at) ∙ st.paired.counted;
    ids = λ ino q indexed. let m = st.paired.ids ino q indexed in insert_cases g.nodes id v q
        (λ o. (k : Node) × (o ≡ Some k) × (k.ino ≡ ino))
        (λ e. (
          v,
          refl,
          (let same : Some n ≡ Some m.0 = sym at ∙ ap (get g.nodes) (sym e)
              ∙ m.1 in let one : n ≡ m.0 = cc in same_ino ∙ ap (λ (x : Node). x.ino) one ∙ m.2),
        ))
        (λ ne. m);
    known = λ q m. insert_cases g.nodes id v q (λ o. o ≡ Some m → get g.ids m.ino ≡ Some q)
        (λ e here. let same : v ≡ m = cc in ap (λ (x : Node). get g.ids x.ino) (sym same)
        ∙ ap (get g.ids) same_ino ∙ st.paired.known id n at ∙ ap Some (sym e))
        (λ ne here. st.paired.known q m here);
    node_kinds = λ q m r. insert_cases g.nodes id v q
        (λ o. o ≡ Some m → get s.tree.records m.ino ≡ Some r → m.kind ≡ qid_type (kind_of r.body))
        (λ e here stored. let same : v ≡ m = cc in ap (λ (x : Node). x.kind) (sym same) ∙ same_kind
        ∙ st.paired.node_kinds id n r at (ap (get s.tree.records) (sym same_ino)
        ∙ ap (λ (x : Node). get s.tree.records x.ino) same ∙ stored))
        (λ ne here stored. st.paired.node_kinds q m r here stored);
    handle_kinds = st.paired.handle_kinds;
  }

pub counted_paired : (g : Gate) (s : ServerState) → IsInStep g s → (id : ℕ) (n : Node)
    → get g.nodes id ≡ Some n → ArePaired (record g { nodes = insert g.nodes id (counted_node n) })
    s
counted_paired g s st id n at = changed_paired g s st id n (counted_node n) at refl refl

-- ---- the next number becomes a node

module _ (g : Gate) (s : ServerState) (st : IsInStep g (without s g.next)) (ino kind : ℕ)
    (fresh : get s.fids g.next ≡ Some (closed ino)) (unknown : get g.ids ino ≡ None)
    (is_kind : (r : Record) → get s.tree.records ino ≡ Some r → kind ≡ qid_type
    (kind_of r.body)) where
  abbrev new_node : Node
  new_node = record { ino = ino; count = 1; kind = kind }

  len_more : len s.fids ≡ len (remove s.fids g.next) + 1
  len_more = ap len (sym (put_back s.fids g.next (closed ino) fresh))
      ∙ len_new (remove s.fids g.next) g.next (closed ino) (removed s.fids g.next)

  pub added_paired : ArePaired (with_node g ino kind) s
  added_paired = record {
    fids = λ q. insert_cases g.nodes g.next new_node q
        (λ o. get s.fids q ≡ fid_at o (get g.handles q))
        (λ e. ap (get s.fids) e ∙ fresh)
        (λ ne. sym (remove_keeps s.fids g.next q ne) ∙ st.paired.fids q);
    used = let a = st.paired.used in let b = len_more in omega arith;
    counted = let a = st.paired.counted in let b =
        len_new g.nodes g.next new_node (next_free st) in omega arith;
    ids = λ i q. insert_cases g.ids ino g.next i
        (λ o. o ≡ Some q → (n : Node) × (get (insert g.nodes g.next new_node) q ≡ Some n)
        × (n.ino ≡ i))
        (λ e here. let same : g.next ≡ q = cc
        in (
          new_node,
          ap (get (insert g.nodes g.next new_node)) (sym same)
              ∙ inserted g.nodes g.next new_node,
          sym e,
        ))
        (λ ne here. let m = st.paired.ids i q here
        in (
          m.0,
          insert_keeps g.nodes g.next new_node q
              (λ e. let low = (node_good st q m.0 m.1).drawn in omega arith) ∙ m.1,
          m.2,
        ));
    known = λ q m. insert_cases g.nodes g.next new_node q
        (λ o. o ≡ Some m → get (insert g.ids ino g.next) m.ino ≡ Some q)
        (λ e here. let same : new_node ≡ m = cc in ap
        (λ (x : Node). get (insert g.ids ino g.next) x.ino) (sym same)
        ∙ inserted g.ids ino g.next ∙ ap Some (sym e))
        (λ ne here. let indexed = st.paired.known q m here in insert_keeps g.ids ino g.next m.ino
        (λ e. let clash : None ≡ Some q = sym unknown ∙ ap (get g.ids) (sym e) ∙ indexed in cc)
        ∙ indexed);
    node_kinds = λ q m r. insert_cases g.nodes g.next new_node q
        (λ o. o ≡ Some m → get s.tree.records m.ino ≡ Some r → m.kind ≡ qid_type (kind_of r.body))
        (λ e here stored. let same : new_node ≡ m = cc in ap (λ (x : Node). x.kind) (sym same)
        ∙ is_kind r (ap (λ (x : Node). get s.tree.records x.ino) same ∙ stored))
        (λ ne here stored. st.paired.node_kinds q m r here stored);
    handle_kinds = st.paired.handle_kinds;
  }

-- ---- only the tree changes

is_there : (o : Option Record) (h : MachineHandle)
    → IsOpenable (option_map (λ (r : Record). r.body) o) h → IsSome o
is_there None h openable = absurd openable
is_there (Some r) h openable = refl

module _ (s : ServerState) (u : Tree) (kinds : KeepsKinds s.tree u) where
  kept : (i kind : ℕ) (r : Record) (o : Option Record) → get s.tree.records i ≡ o → IsSome o
      → get u.records i ≡ Some r
      → ((q : Record) → get s.tree.records i ≡ Some q → kind ≡ qid_type (kind_of q.body))
      → kind ≡ qid_type (kind_of r.body)
  kept i kind r None at there here before = absurd (false≢true there)
  kept i kind r (Some q) at there here before = before q at
      ∙ ap qid_type (sym (kinds i q r at here))

pub tree_paired : (g : Gate) (s : ServerState) (u : Tree) → IsInStep g s → KeepsKinds s.tree u
    → ArePaired g (record s { tree = u })
tree_paired g s u st kinds = record {
  fids = st.paired.fids;
  used = st.paired.used;
  counted = st.paired.counted;
  ids = st.paired.ids;
  known = st.paired.known;
  node_kinds = λ id n r at here. kept s u kinds n.ino n.kind r (get s.tree.records n.ino) refl
      (node_good st id n at).stored here (λ q stored. st.paired.node_kinds id n q at stored);
  handle_kinds = λ id h r at here. kept s u kinds h.ino h.kind r (get s.tree.records h.ino) refl
      (is_there (get s.tree.records h.ino) (handle_of h) (handle_good st id h at).openable) here
      (λ q stored. st.paired.handle_kinds id h q at stored);
}
