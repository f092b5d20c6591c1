-- What keeps its kind where the tree changes: all that was stored, and what a node or a handle names.
use Rattle.std.proofs.Common.{◌≡◌, ℕ, Bool, true, false, cond, ◌||◌, List, refl, sym, ap, ◌∙◌, subst}
use Rattle.std.proofs.Common.{Option, Some, None, Result, Ok, Err, IsSome, ◌⊎◌, inl, inr, ⊎_elim}
use Rattle.std.proofs.Common.{◌<◌, arith}
use Rattle.std.specs.Prelude.{option_map, not}
use Rattle.std.specs.Result.{result_ok}
use Rattle.std.proofs.lemmas.Bool.{cases_eq, false≢true}
use Rattle.std.specs.FinMap.{get, insert}
use Rattle.port_base.specs.declared.errno.TheConstants.{ENOENT, ENOTDIR}
use Rattle.tree_model.specs.declared.attributes.Kind.{Kind}
use Rattle.tree_model.specs.declared.attributes.Kind.TheVariants as kind
use Rattle.tree_model.specs.Tree.{Tree, Record, Records, Body, DirEntry, body_at, is_directory_at}
use Rattle.tree_model.specs.Tree.{keep, listed, is_linked}
use Rattle.tree_model.specs.Tree.Body.{File, Directory, Link}
use Rattle.tree_model.specs.Good.{IsGoodTree}
use Rattle.tree_model.specs.Attributes.{kind_of}
use Rattle.tree_model.specs.Creating.{stamped, with_new, with_name}
use Rattle.tree_model.specs.Finding.{lookup_of}
use Rattle.tree_model.specs.Making.{change, joined_by, with_entries, next_cookie, unless_refused}
use Rattle.tree_model.specs.Placing.{one_link_more}
use Rattle.tree_model.specs.Attributing.{restamped}
use Rattle.tree_model.specs.Renaming.{placed_below, moved_below, with_moved, without_replaced}
use Rattle.tree_model.specs.Renaming.{move_refused, same_ino, move_to, renamed_at, rename_of}
use Rattle.tree_model.specs.Settings.{Settings}
use Rattle.tree_model.specs.Unlinking.{without, without_entry, parted_by, one_name_less, removed_at}
use Rattle.tree_model.proofs.Changing.{change_at, change_keeps}
use Rattle.tree_model.proofs.Maps.{retained, inserted, insert_keeps}
use Rattle.tree_machine.specs.State.{MachineState, Handle, is_named}
use Rattle.tree_machine.specs.Kinds.{KeepsKinds}
use Rattle.tree_machine.specs.Good.{IsGoodMachine, IsOpenable}
use Rattle.tree_machine.proofs.KeptStates.{kept_at, node_is_named, handle_is_named}

-- ---- kinds

-- of what kind a record is, where there is one
abbrev pub kind_in : Option Record → Option Kind
kind_in o = option_map kind_of (option_map (λ (r : Record). r.body) o)

-- all that is stored is of the same kind in another tree
abbrev pub KindsStay : Records → Records → Type 0
KindsStay rs us = (i : ℕ) → IsSome (get rs i) → kind_in (get us i) ≡ kind_in (get rs i)

-- what is named of a tree is of the same kind in another
abbrev pub SameKinds : (ℕ → Bool) → Records → Records → Type 0
SameKinds held rs us =
    (i : ℕ) → held i ≡ true → IsSome (get rs i) → kind_in (get us i) ≡ kind_in (get rs i)

pub is_there : (o p : Option Record) → kind_in o ≡ kind_in p → IsSome p → IsSome o
is_there None None is some = absurd (false≢true some)
is_there None (Some p) is some = absurd cc
is_there (Some r) p is some = refl

-- whether what is of a kind may be open so
abbrev pub openable_kind : Option Kind → Handle → Type 0
openable_kind None h = ⊥
openable_kind (Some kind.File) h = Unit {0}
openable_kind (Some kind.Directory) h = (h.access ≡ 0) × (h.append ≡ false)
openable_kind (Some kind.Link) h = ⊥

by_kind : (o : Option Body) (h : Handle) → IsOpenable o h → openable_kind (option_map kind_of o) h
by_kind None h is = is
by_kind (Some (File bytes)) h is = is
by_kind (Some (Directory es next above)) h is = is
by_kind (Some (Link target)) h is = is

pub of_kind : (o : Option Body) (h : Handle) → openable_kind (option_map kind_of o) h → IsOpenable o h
of_kind None h is = is
of_kind (Some (File bytes)) h is = is
of_kind (Some (Directory es next above)) h is = is
of_kind (Some (Link target)) h is = is

-- what may be open is stored
is_stored : (o : Option Record) (h : Handle) → IsOpenable (option_map (λ (r : Record). r.body) o) h
    → IsSome o
is_stored None h openable = absurd openable
is_stored (Some r) h openable = refl

-- what may be open still may, where it is of the same kind
pub openable_still : (h : Handle) (o p : Option Record)
    → IsOpenable (option_map (λ (r : Record). r.body) o) h
    → (IsSome o → kind_in p ≡ kind_in o) → IsOpenable (option_map (λ (r : Record). r.body) p) h
openable_still h o p openable same =
    of_kind (option_map (λ (r : Record). r.body) p) h
    (subst (λ k. openable_kind k h) (sym (same (is_stored o h openable)))
    (by_kind (option_map (λ (r : Record). r.body) o) h openable))

-- ---- a change that keeps the kinds of what is named keeps a good state good

module _ (s : Settings) (m : MachineState) (g : IsGoodMachine s m) where
  pub tree_changed : (u : Tree) → IsGoodTree u
      → SameKinds (is_named m.nodes m.handles) m.tree.records u.records
      → IsGoodMachine s (record m { tree = u })
  tree_changed u good same = record {
    tree = good;
    root = g.root;
    nodes = λ id n at. let old = g.nodes id n at in record {
      positive = old.positive;
      drawn = old.drawn;
      counted = old.counted;
      stored = is_there (get u.records n.ino) (get m.tree.records n.ino)
          (same n.ino (node_is_named m.nodes m.handles id n at) old.stored) old.stored;
    };
    handles = λ id h at. let old = g.handles id h at in record {
      positive = old.positive;
      drawn = old.drawn;
      access = old.access;
      openable = openable_still h (get m.tree.records h.ino) (get u.records h.ino) old.openable
          (same h.ino (handle_is_named m.nodes m.handles id h at));
    };
    apart = g.apart;
    once = g.once;
    next = g.next;
    within = g.within;
  }

-- ---- one record that changes

entries_kind : (b : Body) (es : List DirEntry) (next : ℕ)
    → kind_of (with_entries b es next) ≡ kind_of b
entries_kind (File bytes) es next = refl
entries_kind (Directory fs n above) es next = refl
entries_kind (Link target) es next = refl

module _ (f : Record → Record) (kinds : (r : Record) → kind_of (f r).body ≡ kind_of r.body) where
  mapped_kind : (o : Option Record) → kind_in (option_map f o) ≡ kind_in o
  mapped_kind None = refl
  mapped_kind (Some r) = ap (λ (k : Kind). Some k) (kinds r)

  pub change_kind : (rs : Records) (i q : ℕ) → kind_in (get (change f rs i) q) ≡ kind_in (get rs q)
  change_kind rs i q = ⊎_elim
      (λ is. ap (λ k. kind_in (get (change f rs i) k)) is ∙ ap kind_in (change_at f rs i)
      ∙ mapped_kind (get rs i) ∙ ap (λ k. kind_in (get rs k)) (sym is))
      (λ ne. ap kind_in (change_keeps f rs i q ne))
      (cases_eq q i)

-- ---- a name that goes

pub without_kind : (t : Tree) (dir : ℕ) (name : List ℕ) (ino i : ℕ)
    → kind_in (get (without_entry t dir name ino).records i) ≡ kind_in (get t.records i)
without_kind t dir name ino i =
    change_kind (parted_by name t.moment)
    (λ r. entries_kind r.body (without name (listed r.body)) (next_cookie r.body))
    (change (one_name_less t.moment) t.records ino) dir i
    ∙ change_kind (one_name_less t.moment) (λ r. refl) t.records ino i

-- ---- what a change leaves: a tree of the same kinds, or what is kept of it

abbrev pub Leaves : (ℕ → Bool) → Tree → Tree → Type 0
Leaves held t u = (v : Tree) × KindsStay t.records v.records × ((u ≡ v) ⊎ (u ≡ keep held v))

module _ (held : ℕ → Bool) (t u : Tree) where
  -- what is held keeps its kind
  pub leaves_named : Leaves held t u → SameKinds held t.records u.records
  leaves_named (v, stay, either) i named stored = ⊎_elim
      (λ same. ap (λ (x : Tree). kind_in (get x.records i)) same ∙ stay i stored)
      (λ kept. ap (λ (x : Tree). kind_in (get x.records i)) kept
      ∙ ap kind_in (kept_at v held i named) ∙ stay i stored)
      either

-- what is kept was there
kept_was : (t : Tree) (held : ℕ → Bool) (i : ℕ) (r : Record) → get (keep held t).records i ≡ Some r
    → get t.records i ≡ Some r
kept_was t held i r at = by_test (is_linked t.records i || held i)
    (sym (retained t.records (λ q. is_linked t.records q || held q) i) ∙ at)
  where
    by_test : (b : Bool) → cond b (get t.records i) None ≡ Some r → get t.records i ≡ Some r
    by_test true is = is
    by_test false is = absurd cc

same_kind : (q r : Record) → kind_in (Some r) ≡ kind_in (Some q) → kind_of r.body ≡ kind_of q.body
same_kind q r is = cc

there : (o : Option Record) (q : Record) → o ≡ Some q → IsSome o
there None q is = absurd cc
there (Some r) q is = refl

pub stays_kind : (t v : Tree) → KindsStay t.records v.records → KeepsKinds t v
stays_kind t v stay i q r at here =
    same_kind q r (ap kind_in (sym here) ∙ stay i (there (get t.records i) q at) ∙ ap kind_in at)

-- and so does all that is stored, also where it is kept once more
pub leaves_kinds : (held : ℕ → Bool) (t u : Tree) → Leaves held t u → KeepsKinds t (keep held u)
leaves_kinds held t u (v, stay, either) i q r at here =
    let left = kept_was u held i r here in
    ⊎_elim
    (λ same. stays_kind t v stay i q r at (ap (λ (x : Tree). get x.records i) (sym same) ∙ left))
    (λ kept. stays_kind t v stay i q r at
    (kept_was v held i r (ap (λ (x : Tree). get x.records i) (sym kept) ∙ left)))
    either

abbrev pub tree_in : {A : Type 0} → Tree → Result (A × Tree) ℕ → Tree
tree_in u (Ok x) = x.1
tree_in u (Err e) = u

pub removed_leaves : (held : ℕ → Bool) (t u : Tree) (dir : ℕ) (name : List ℕ) (x : Result ℕ ℕ)
    → removed_at held t dir name x ≡ Ok (tt, u) → Leaves held t u
removed_leaves held t u dir name (Err e) is = absurd cc
removed_leaves held t u dir name (Ok ino) is = (
  without_entry t dir name ino,
  λ i stored. without_kind t dir name ino i,
  inr (sym (ap (tree_in u) is)),
)

-- ---- a record more, and one more name

joined_kind : (name : List ℕ) (ino : ℕ) (r : Record)
    → kind_of (joined_by name ino r).body ≡ kind_of r.body
joined_kind name ino r = entries_kind r.body _ _

module _ (t : Tree) (g : IsGoodTree t) (dir : ℕ) (name : List ℕ) (r : Record) where
  abbrev more : Records
  more = insert t.records t.next r

  new_kind : (i : ℕ) → kind_in (get (with_new t dir name r).records i) ≡ kind_in (get more i)
  new_kind i =
      change_kind (stamped t.moment) (λ r. refl) (change (joined_by name t.next) more dir) dir i
      ∙ change_kind (joined_by name t.next) (joined_kind name t.next) more dir i

  older : (i : ℕ) (o : Option Record) → get t.records i ≡ o → IsSome o → i < t.next
  older i None at some = absurd (false≢true some)
  older i (Some x) at some = (g.numbers i x at).1

  -- what was stored keeps its kind
  pub new_kinds : KindsStay t.records (with_new t dir name r).records
  new_kinds i some =
      let low = older i (get t.records i) refl some in
      new_kind i ∙ ap kind_in (insert_keeps t.records t.next r i (λ is. absurd (omega arith)))

  -- the record is there, and of its kind
  pub new_kind_is : kind_in (get (with_new t dir name r).records t.next) ≡ kind_in (Some r)
  new_kind_is = new_kind t.next ∙ ap kind_in (inserted t.records t.next r)

  pub new_there : IsSome (get (with_new t dir name r).records t.next)
  new_there = is_there (get (with_new t dir name r).records t.next) (Some r)
      new_kind_is refl

pub name_kinds : (t : Tree) (dir : ℕ) (name : List ℕ) (ino : ℕ)
    → KindsStay t.records (with_name t dir name ino).records
name_kinds t dir name ino i some =
    let linked = change one_link_more t.records ino in
    let joined = change (joined_by name ino) linked dir in
    change_kind (stamped t.moment) (λ r. refl)
    (change (restamped t.moment) joined ino) dir i
    ∙ change_kind (restamped t.moment) (λ r. refl) joined ino i
    ∙ change_kind (joined_by name ino) (joined_kind name ino) linked dir i
    ∙ change_kind one_link_more (λ r. refl) t.records ino i

-- ---- a name that moves

placed_kind : (dir : ℕ) (b : Body) → kind_of (placed_below dir b) ≡ kind_of b
placed_kind dir (File bytes) = refl
placed_kind dir (Directory es next up) = refl
placed_kind dir (Link target) = refl

module _ (t : Tree) (olddir : ℕ) (old : List ℕ) (newdir : ℕ) (new : List ℕ) (ino : ℕ) where
  replaced_kind : (o : Option ℕ) (i : ℕ)
      → kind_in (get (without_replaced t newdir new o).records i) ≡ kind_in (get t.records i)
  replaced_kind None i = refl
  replaced_kind (Some replaced) i = without_kind t newdir new replaced i

  moved_kind : (u : Tree) (i : ℕ)
      → kind_in (get (with_moved u olddir old newdir new ino).records i)
      ≡ kind_in (get u.records i)
  moved_kind u i =
      let parts = parted_by old u.moment in
      let joins = joined_by new ino in
      let parted = change parts u.records olddir in
      let joined = change joins parted newdir in
      change_kind (moved_below u.moment newdir) (λ r. placed_kind newdir r.body)
      (change (stamped u.moment) joined newdir) ino i
      ∙ change_kind (stamped u.moment) (λ r. refl) joined newdir i
      ∙ change_kind joins (joined_kind new ino) parted newdir i
      ∙ change_kind parts (λ r. entries_kind r.body (without old (listed r.body))
      (next_cookie r.body)) u.records olddir i

  module _ (held : ℕ → Bool) (u : Tree) where
    abbrev made : Option ℕ → Tree
    made o = with_moved (without_replaced t newdir new o) olddir old newdir new ino

    made_leaves : (o : Option ℕ) → keep held (made o) ≡ u → Leaves held t u
    made_leaves o is = (
      made o,
      λ i stored. moved_kind (without_replaced t newdir new o) i ∙ replaced_kind o i,
      inr (sym is),
    )

    by_refusal : (o : Option ℕ) (e : Option ℕ)
        → unless_refused {A = Unit {0}} e tt (keep held (made o)) ≡ Ok (tt, u) → Leaves held t u
    by_refusal o (Some e) is = absurd cc
    by_refusal o None is = made_leaves o (ap (tree_in u) is)

    by_same : (same : Bool) (o : Option ℕ)
        → cond same (Ok (tt, t))
        (unless_refused {A = Unit {0}} (move_refused t olddir newdir ino o) tt
        (keep held (made o))) ≡ Ok (tt, u)
        → Leaves held t u
    by_same true o is = (t, λ i stored. refl, inl (sym (ap (tree_in u) is)))
    by_same false o is = by_refusal o (move_refused t olddir newdir ino o) is

    by_link : (linked : Bool) (o : Option ℕ)
        → cond (not linked) (Err ENOENT) (move_to held t olddir old newdir new ino o)
        ≡ Ok (tt, u)
        → Leaves held t u
    by_link false o is = absurd cc
    by_link true o is = by_same (same_ino ino o) o is

module _ (held : ℕ → Bool) (t : Tree) (olddir : ℕ) (old : List ℕ) (newdir : ℕ) (new : List ℕ)
    (u : Tree) where
  by_found : (x : Result ℕ ℕ) → renamed_at held t olddir old newdir new x ≡ Ok (tt, u)
      → Leaves held t u
  by_found (Err e) is = absurd cc
  by_found (Ok ino) is = by_link t olddir old newdir new ino held u
      (is_linked t.records newdir) (result_ok (lookup_of t newdir new)) is

  by_kinds : (b : Bool) → cond b (Err ENOTDIR) (renamed_at held t olddir old newdir new
      (lookup_of t olddir old)) ≡ Ok (tt, u) → Leaves held t u
  by_kinds true is = absurd cc
  by_kinds false is = by_found (lookup_of t olddir old) is

  pub renamed_leaves : rename_of held t olddir old newdir new ≡ Ok (tt, u) → Leaves held t u
  renamed_leaves is = by_kinds (not (is_directory_at (body_at t.records olddir))
      || not (is_directory_at (body_at t.records newdir))) is
