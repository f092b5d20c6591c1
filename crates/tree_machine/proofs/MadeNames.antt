-- MKDIR leaves a good state: what is made is stored, is found by its name, and is entered as a node.
use Rattle.std.proofs.Common.{◌≡◌, ℕ, ◌+◌, ◌<◌, ◌≤◌, Bool, true, false, cond, List, [], ◌∷◌}
use Rattle.std.proofs.Common.{◌++◌, refl, sym, ap, ◌∙◌, subst, Option, Some, None, Result, Ok, Err}
use Rattle.std.proofs.Common.{IsSome, inl, arith, bytes_eq, is_some, nat_lt, min}
use Rattle.std.specs.Prelude.{option_map, option_and_then, ◌==◌}
use Rattle.std.proofs.lemmas.Bool.Decides.{nat_tests}
use Rattle.std.proofs.lemmas.Slice.Eq.{bytes_eq-Decides}
use borrow.Author.Tests.{eqb-true}
use Rattle.std.specs.FinMap.{get, insert, entries}
use Rattle.port_base.specs.Names.{name_fault}
use Rattle.port_base.specs.declared.errno.TheConstants.{ENFILE, ESTALE}
use Rattle.tree_model.specs.declared.attributes.Attr.{Attr}
use Rattle.tree_model.specs.Tree.{Tree, Record, Body, DirEntry, is_directory}
use Rattle.tree_model.specs.Tree.{listed, weigh, weight}
use Rattle.tree_model.specs.Tree.Body.{File, Directory, Link}
use Rattle.tree_model.specs.Sound.{IsKept}
use Rattle.tree_model.specs.Finding.{find, ino_among, ino_or_missing, entries_of, entry_named}
use Rattle.tree_model.specs.Finding.{entry_folded}
use Rattle.tree_model.specs.Good.{IsGoodTree}
use Rattle.tree_model.specs.Attributes.{attr_of}
use Rattle.tree_model.specs.Making.{create_refused, unless_refused, change, joined_by}
use Rattle.tree_model.specs.Making.{with_entries, next_cookie}
use Rattle.tree_model.specs.Creating.{with_new, empty_directory, stamped, mkdir_of}
use Rattle.tree_model.specs.Settings.{Settings}
use Rattle.tree_model.proofs.Changing.{change_at}
use Rattle.tree_model.proofs.Counting.{weigh-insert}
use Rattle.tree_model.proofs.Creating.{new_empty_directory, with_new_good, with_new_kept}
use Rattle.tree_model.proofs.Files.{let_in}
use Rattle.tree_model.proofs.Maps.{insert_keeps}
use Rattle.tree_machine.specs.State.{MachineState, Node, is_named, is_at_limit, node_weight}
use Rattle.tree_machine.specs.State.{handle_weight, COUNT_LIMIT}
use Rattle.tree_machine.specs.Refusals.{refused_if, refused_unknown}
use Rattle.tree_machine.specs.Core.{node_ino, node_for, node_of, looked_up, lookup_refusal}
use Rattle.tree_machine.specs.Naming.{made}
use Rattle.tree_machine.specs.Good.{IsGoodMachine}
use Rattle.tree_machine.proofs.KeptStates.{kept_good, Gives}
use Rattle.tree_machine.proofs.First.{first_entry}
use Rattle.tree_machine.proofs.Nodes.{given_good, fresh}
use Rattle.tree_machine.proofs.KindsKept.{Leaves, leaves_named, tree_changed, new_kinds, new_there}
use Rattle.tree_machine.proofs.Refusals.{passes, fails}

-- ---- no refusal stands

pub lookup_fine : (s : Settings) (m : MachineState) (name : List ℕ) (o : Option Node)
    → lookup_refusal s m name o ≡ None → (name_fault name ≡ None) × (is_at_limit s m ≡ false)
lookup_fine s m name o none =
    let known = passes (refused_unknown o ESTALE)
    (name_fault name ∷ refused_if (is_at_limit s m) ENFILE ∷ []) none in
    let faultless = passes (name_fault name) (refused_if (is_at_limit s m) ENFILE ∷ []) known.1 in
    let below = passes (refused_if (is_at_limit s m) ENFILE) [] faultless.1 in
    (faultless.0, fails (is_at_limit s m) ENFILE below.0)

-- ---- an entry behind all others

same_name : (name : List ℕ) → bytes_eq name name ≡ true
same_name name = (bytes_eq-Decides name name).1 refl

entry_last : (name : List ℕ) (es : List DirEntry) (e : DirEntry) → bytes_eq e.name name ≡ true
    → entry_named name es ≡ None → entry_named name (es ++ e ∷ []) ≡ Some e
entry_last name [] e is none = ap (λ (b : Bool). cond b (Some e) None) is
entry_last name (x ∷ es) e is none =
    by_test (bytes_eq x.name name) none (λ later. entry_last name es e is later)
  where
    by_test : (b : Bool) → cond b (Some x) (entry_named name es) ≡ None
        → (entry_named name es ≡ None → entry_named name (es ++ e ∷ []) ≡ Some e)
        → cond b (Some x) (entry_named name (es ++ e ∷ [])) ≡ Some e
    by_test true none later = absurd cc
    by_test false none later = later none

-- ---- what was made

pub unless_made : {A : Type 0} (o : Option ℕ) (x a : A) (t u : Tree)
    → unless_refused o x t ≡ Ok (a, u) → (o ≡ None) × (x ≡ a) × (t ≡ u)
unless_made (Some e) x a t u is = absurd cc
unless_made {A} None x a t u is =
    let both : ◌≡◌ {A = A × Tree} (x, t) (a, u) = cc in
    (refl, ap (λ (p : A × Tree). p.0) both, ap (λ (p : A × Tree). p.1) both)

module _ (t : Tree) (g : IsGoodTree t) (held : ℕ → Bool) (name : List ℕ)
    (fine : name_fault name ≡ None) where
  abbrev new_dir : ℕ → ℕ → Record
  new_dir mode dir = empty_directory t.moment mode dir

  new_found : (folded : Bool) (dir : ℕ) (r : Record) → create_refused t dir name ≡ None
      → find folded (with_new t dir name r) dir name ≡ Ok t.next
  new_found folded dir r free =
      let w = let_in t.records t.limits.entries t.next dir name free in
      let more = insert t.records t.next r in
      let joined = change (joined_by name t.next) more dir in
      let low : dir < t.next = (g.numbers dir w.d w.at).1 in
      let there : get (change (stamped t.moment) joined dir) dir
      ≡ Some (stamped t.moment (joined_by name t.next w.d)) =
      change_at (stamped t.moment) joined dir
      ∙ ap (option_map (stamped t.moment)) (change_at (joined_by name t.next) more dir
      ∙ ap (option_map (joined_by name t.next))
      (insert_keeps t.records t.next r dir (λ same. absurd (omega arith)) ∙ w.at)) in
      ap (λ (o : Option Record). ino_among folded name
      (option_and_then entries_of (option_map (λ (x : Record). x.body) o))) there
      ∙ in_body w.d.body w.directory w.new
    where
      in_body : (b : Body) → is_directory b ≡ true → entry_named name (listed b) ≡ None
          → ino_among folded name (entries_of (with_entries b
          (listed b ++ (record { cookie = next_cookie b; name = name; ino = t.next } ∷ []))
          (next_cookie b + 1))) ≡ Ok t.next
      in_body (File bytes) is none = absurd cc
      in_body (Directory es next up) is none =
          ap (λ (o : Option DirEntry). ino_or_missing (cond (is_some o) o
          (cond folded (entry_folded name (es ++ (last_entry next ∷ []))) None)))
          (entry_last name es (last_entry next) (same_name name) none)
        where
          last_entry : ℕ → DirEntry
          last_entry next = record { cookie = next; name = name; ino = t.next }
      in_body (Link target) is none = absurd cc

  -- the new directory is stored, and what was named stays
  pub mkdir_leaves : (dir mode : ℕ) (a : Attr) (u : Tree) → mkdir_of t dir name mode ≡ Ok (a, u)
      → IsGoodTree u × Leaves held t u × IsSome (get u.records a.ino)
  mkdir_leaves dir mode a u is =
      let r = new_dir mode dir in
      let made = unless_made (create_refused t dir name) (attr_of t.next r) a
      (with_new t dir name r) u is in (
        subst IsGoodTree made.2 (with_new_good t g dir name r
            (new_empty_directory t.moment mode dir g.moment) made.0 fine),
        (with_new t dir name r, new_kinds t g dir name r, inl (sym made.2)),
        subst (λ (v : Tree). IsSome (get v.records a.ino)) made.2
            (subst (λ (b : Attr). IsSome (get (with_new t dir name r).records b.ino)) made.1
            (new_there t g dir name r)),
      )

  -- it is found by its name
  pub mkdir_found : (folded : Bool) (dir mode : ℕ) (a : Attr) (u : Tree)
      → mkdir_of t dir name mode ≡ Ok (a, u) → find folded u dir name ≡ Ok a.ino
  mkdir_found folded dir mode a u is =
      let r = new_dir mode dir in
      let made = unless_made (create_refused t dir name) (attr_of t.next r) a
      (with_new t dir name r) u is in
      subst (λ (v : Tree). find folded v dir name ≡ Ok a.ino) made.2
      (new_found folded dir r made.0 ∙ ap (λ (b : Attr). Ok b.ino) made.1)

  -- and what was linked or held stays so
  pub mkdir_stays : (dir mode : ℕ) (a : Attr) (u : Tree) → mkdir_of t dir name mode ≡ Ok (a, u)
      → IsKept t.records held → IsKept u.records held
  mkdir_stays dir mode a u is kept =
      let r = new_dir mode dir in
      let made = unless_made (create_refused t dir name) (attr_of t.next r) a
      (with_new t dir name r) u is in
      subst (λ (v : Tree). IsKept v.records held) made.2
      (with_new_kept t g dir name r (new_empty_directory t.moment mode dir g.moment) made.0 fine
      held held (λ q ne. refl) kept)

-- ---- it is entered

module _ (s : Settings) (m : MachineState) (g : IsGoodMachine s m) where
  abbrev held : ℕ → Bool
  held = is_named m.nodes m.handles

  pub changed_tree_good : (u : Tree) → IsGoodTree u → Leaves held m.tree u
      → IsGoodMachine s (record m { tree = u })
  changed_tree_good u good leaves = tree_changed s m g u good (leaves_named held m.tree u leaves)

  pub entered_good : (u : Tree) (ino : ℕ) → IsGoodTree u → Leaves held m.tree u
      → IsSome (get u.records ino) → is_at_limit s m ≡ false
      → Gives s (looked_up s (record m { tree = u }) (Ok ino))
  entered_good u ino good leaves there room =
      let m1 : MachineState = record m { tree = u } in
      kept_good s (node_for m1 ino (node_of m1 ino)).1
      (given_good s m1 (changed_tree_good u good leaves) ino there room (node_of m1 ino) refl)

  made_good : (dir mode : ℕ) (name : List ℕ) → name_fault name ≡ None → is_at_limit s m ≡ false
      → (r : Result (Attr × Tree) ℕ) → mkdir_of m.tree dir name mode ≡ r → Gives s (made s m r)
  made_good dir mode name fine room (Err e) is = kept_good s m g
  made_good dir mode name fine room (Ok (a, u)) is =
      let all = mkdir_leaves m.tree g.tree held name fine dir mode a u is in
      entered_good u a.ino all.0 all.1 all.2 room

  pub mkdir_good : (mode : ℕ) (name : List ℕ) (o : Option Node) → lookup_refusal s m name o ≡ None
      → Gives s (made s m (mkdir_of m.tree (node_ino o) name mode))
  mkdir_good mode name o none =
      let fine = lookup_fine s m name o none in
      made_good (node_ino o) mode name fine.0 fine.1 (mkdir_of m.tree (node_ino o) name mode) refl

  -- ---- what was named is named where a node is given

  more_or_same : (a b c : ℕ) → a ≤ b → nat_lt 0 (a + c) ≡ true → nat_lt 0 (b + c) ≡ true
  more_or_same a b c low is = grind (arith, nat_tests)

  heavier : (i id : ℕ) (v : Node) → weight (node_weight i) (get m.nodes id) ≤ node_weight i v
      → held i ≡ true
      → is_named (insert m.nodes id v) m.handles i ≡ true
  heavier i id v low =
      more_or_same (weigh (node_weight i) (entries m.nodes))
      (weigh (node_weight i) (entries (insert m.nodes id v)))
      (weigh (handle_weight i) (entries m.handles))
      (let step = weigh-insert (node_weight i) m.nodes id v in omega arith)

  pub given_named : (ino i : ℕ) (o : Option (ℕ × Node)) → node_of m ino ≡ o → held i ≡ true
      → is_named (node_for m ino o).1.nodes (node_for m ino o).1.handles i ≡ true
  given_named ino i None at =
      let none = ap (weight (node_weight i)) (fresh s m g (get m.nodes m.next) refl) in
      heavier i m.next (record { ino = ino; count = 1 }) (omega arith)
  given_named ino i (Some e) at =
      let there = first_entry (λ (e : ℕ × Node). e.1.ino == ino) m.nodes e at in
      let same : ino ≡ e.1.ino = sym (eqb-true e.1.ino ino there.1) in
      let old = ap (weight (node_weight i)) there.0 in
      let equal : node_weight i e.1 ≡ node_weight i
      (let v : Node = record { ino = ino; count = min (e.1.count + 1) COUNT_LIMIT } in v) =
      ap (λ (k : ℕ). cond {A = ℕ} (k == i) 1 0) (sym same) in
      heavier i e.0 (record { ino = ino; count = min (e.1.count + 1) COUNT_LIMIT })
      (omega (arith, old, equal))
