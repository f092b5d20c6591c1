-- CREATE leaves a good state: what is made is stored, becomes a node, and is opened.
use Rattle.std.proofs.Common.{◌≡◌, ℕ, ◌+◌, ◌<◌, ◌≤◌, Bool, true, false, cond, ◌||◌, List, [], ◌∷◌}
use Rattle.std.proofs.Common.{refl, sym, ap, ◌∙◌, subst, Option, Some, None, Result, Ok, Err}
use Rattle.std.proofs.Common.{IsSome}
use Rattle.std.proofs.Common.{inl, arith, nat_lt, nat_le}
use Rattle.std.specs.Prelude.{not, ◌==◌, is_some}
use Rattle.std.specs.Cmp.{nat_cmp_total}
use Rattle.std.proofs.lemmas.Bool.{false≢true}
use Rattle.std.proofs.lemmas.Bool.Decides.{nat_tests}
use borrow.Author.Tests.{eqb-true}
use Rattle.std.specs.FinMap.{get, insert, entries, len, len-insert}
use Rattle.port_base.specs.Names.{name_fault}
use Rattle.port_base.specs.OpenFlags.{access, has_flag}
use Rattle.port_base.specs.declared.errno.TheConstants.{EINVAL, ENFILE, ENOTDIR, ESTALE}
use Rattle.port_base.specs.declared.oflag.TheConstants.{O_ACCMODE, O_APPEND}
use Rattle.tree_model.specs.Tree.{Tree, Record, body_at, is_directory_at, weigh, weight}
use Rattle.tree_model.specs.Sound.{IsKept}
use Rattle.tree_model.specs.Good.{IsGoodTree}
use Rattle.tree_model.specs.Making.{create_refused}
use Rattle.tree_model.specs.Creating.{with_new, empty_file, create_of}
use Rattle.tree_model.specs.Settings.{Settings}
use Rattle.tree_model.proofs.Counting.{weigh-insert}
use Rattle.tree_model.proofs.Creating.{new_file, with_new_good, with_new_kept}
use Rattle.tree_machine.specs.declared.limits.TheConstants.{NUMBER_LIMIT}
use Rattle.tree_machine.specs.State.{MachineState, Node, Handle, is_named, is_at_limit}
use Rattle.tree_machine.specs.State.{node_weight, handle_weight}
use Rattle.tree_machine.specs.Refusals.{refused_if, refused_unknown}
use Rattle.tree_machine.specs.Core.{node_ino, node_of, with_handle}
use Rattle.tree_model.specs.OpenedFiles.{new_file_of, unless_some}
use Rattle.tree_model.specs.Renaming.{first_of}
use Rattle.tree_machine.specs.Creating.{lacks_two, create_refusal, with_node}
use Rattle.tree_machine.specs.Creating.{entered_open, created}
use Rattle.tree_machine.specs.Good.{IsGoodMachine, IsOpenable}
use Rattle.tree_machine.proofs.KeptStates.{kept_good, Gives}
use Rattle.tree_machine.proofs.First.{first_entry}
use Rattle.tree_machine.proofs.Handles.{handle_drawn}
use Rattle.tree_machine.proofs.Nodes.{given_good, fresh}
use Rattle.tree_machine.proofs.KindsKept.{Leaves, new_kinds, new_there, new_kind_is}
use Rattle.tree_machine.proofs.KindsKept.{openable_kind, of_kind, is_there}
use Rattle.tree_machine.proofs.MadeNames.{unless_made, changed_tree_good}
use Rattle.tree_machine.proofs.Refusals.{passes, fails}

-- ---- no refusal stands

pub create_fine : (s : Settings) (m : MachineState) (name : List ℕ) (o : Option Node)
    → create_refusal s m name o ≡ None → (name_fault name ≡ None) × (lacks_two s m ≡ false)
create_fine s m name o none =
    let known = passes (refused_unknown o ESTALE)
    (name_fault name ∷ refused_if (lacks_two s m) ENFILE ∷ []) none in
    let faultless = passes (name_fault name) (refused_if (lacks_two s m) ENFILE ∷ []) known.1 in
    let below = passes (refused_if (lacks_two s m) ENFILE) [] faultless.1 in
    (faultless.0, fails (lacks_two s m) ENFILE below.0)

-- ---- what was made

allowed : (in_directory three : Bool) (fault : Option ℕ) (r : Result (ℕ × Tree) ℕ) (x : ℕ × Tree)
    → unless_some (cond (not in_directory) (Some ENOTDIR)
    (first_of fault (cond three (Some EINVAL) None))) r ≡ Ok x
    → (three ≡ false) × (r ≡ Ok x)
allowed false three fault r x is = absurd cc
allowed true three (Some e) r x is = absurd cc
allowed true true None r x is = absurd cc
allowed true false None r x is = (refl, is)

module _ (t : Tree) (g : IsGoodTree t) (held : ℕ → Bool) (name : List ℕ)
    (fine : name_fault name ≡ None) (dir flags mode ino : ℕ) (u : Tree)
    (is : new_file_of t dir name flags mode ≡ Ok (ino, u)) where
  abbrev file : Record
  file = empty_file t.moment mode

  parts : ((access flags == O_ACCMODE) ≡ false) × (create_of t dir name mode ≡ Ok (ino, u))
  parts = allowed (is_directory_at (body_at t.records dir)) (access flags == O_ACCMODE)
      (name_fault name) (create_of t dir name mode) (ino, u) is

  made : (create_refused t dir name ≡ None) × (t.next ≡ ino) × (with_new t dir name file ≡ u)
  made = unless_made (create_refused t dir name) t.next ino (with_new t dir name file) u parts.1

  pub create_access : access flags < 3
  create_access = below (access flags) (omega arith) parts.0 where
    below : (a : ℕ) → a < 4 → (a == 3) ≡ false → a < 3
    below a low other = grind (arith, nat_tests)

  -- the new file is stored, and what was named stays
  pub create_leaves : IsGoodTree u × Leaves held t u × IsSome (get u.records ino)
  create_leaves = (
    subst IsGoodTree made.2 (with_new_good t g dir name file
        (new_file t.moment mode dir g.moment) made.0 fine),
    (with_new t dir name file, new_kinds t g dir name file, inl (sym made.2)),
    subst (λ (v : Tree). IsSome (get v.records ino)) made.2
        (subst (λ (i : ℕ). IsSome (get (with_new t dir name file).records i)) made.1
        (new_there t g dir name file)),
  )

  -- it may be open with any access
  pub create_openable : (h : Handle) → IsOpenable (body_at u.records ino) h
  create_openable h = subst (λ (v : Tree). IsOpenable (body_at v.records ino) h) made.2
      (subst (λ (i : ℕ). IsOpenable (body_at (with_new t dir name file).records i) h) made.1
      (of_kind (body_at (with_new t dir name file).records t.next) h
      (subst (λ k. openable_kind k h) (sym (new_kind_is t g dir name file)) tt)))

  -- what was stored stays so
  pub create_keeps : (i : ℕ) → IsSome (get t.records i) → IsSome (get u.records i)
  create_keeps i some = subst (λ (v : Tree). IsSome (get v.records i)) made.2
      (is_there (get (with_new t dir name file).records i) (get t.records i)
      (new_kinds t g dir name file i some) some)

  -- and what was linked or held
  pub create_stays : IsKept t.records held → IsKept u.records held
  create_stays kept = subst (λ (v : Tree). IsKept v.records held) made.2
      (with_new_kept t g dir name file (new_file t.moment mode dir g.moment) made.0 fine held held
      (λ q ne. refl) kept)

  -- nothing was stored under its number
  pub create_unknown : get t.records ino ≡ None
  create_unknown = subst (λ (i : ℕ). get t.records i ≡ None) made.1
      (by_record (get t.records t.next) refl)
    where
      by_record : (o : Option Record) → get t.records t.next ≡ o → get t.records t.next ≡ None
      by_record None at = at
      by_record (Some r) at = absurd (let low = (g.numbers t.next r at).1 in omega arith)

-- ---- two numbers are drawn

module _ (s : Settings) (m : MachineState) (room : lacks_two s m ≡ false) where
  pub room_for_two : (len m.nodes + len m.handles + 2 ≤ s.limit) × (m.next + 2 ≤ NUMBER_LIMIT)
  room_for_two = grind (arith, nat_tests)

  pub room_for_one : is_at_limit s m ≡ false
  room_for_one =
      let both = room_for_two in
      let few = both.0 in
      let low = both.1 in
      grind (arith, nat_tests)

module _ (s : Settings) (m : MachineState) (g : IsGoodMachine s m) (room : lacks_two s m ≡ false)
    (ino : ℕ) (there : IsSome (get m.tree.records ino)) (none : node_of m ino ≡ None) where
  node_good : IsGoodMachine s (with_node m ino)
  node_good = given_good s m g ino there (room_for_one s m room) None none

  longer : len (with_node m ino).nodes ≡ len m.nodes + 1
  longer = len-insert nat_cmp_total m.nodes m.next (record { ino = ino; count = 1 })
      ∙ ap (λ (o : Option Node). cond (is_some o) (len m.nodes) (len m.nodes + 1))
      (fresh s m g (get m.nodes m.next) refl)

  still_room : is_at_limit s (with_node m ino) ≡ false
  still_room = by_numbers (len (with_node m ino).nodes) (len m.handles) (m.next + 1)
      (let both = room_for_two s m room in let few = both.0 in let more = longer in
      omega (arith, few, more))
      (let both = room_for_two s m room in let low = both.1 in omega (arith, low))
    where
      by_numbers : (a b c : ℕ) → a + b < s.limit → c < NUMBER_LIMIT
          → (nat_le s.limit (a + b) || nat_le NUMBER_LIMIT c) ≡ false
      by_numbers a b c few low = grind (arith, nat_tests)

  pub entered_open_good : (flags : ℕ) → access flags < 3
      → ((h : Handle) → IsOpenable (body_at m.tree.records ino) h)
      → Gives s (entered_open s m ino flags)
  entered_open_good flags low openable =
      let v : Handle = record
      { ino = ino; access = access flags; append = has_flag O_APPEND flags } in
      kept_good s (with_handle (with_node m ino) ino flags)
      (handle_drawn s (with_node m ino) node_good v low (openable v) still_room)

module _ (s : Settings) (m : MachineState) (g : IsGoodMachine s m) where
  abbrev held : ℕ → Bool
  held = is_named m.nodes m.handles

  -- no node names what isn't stored
  pub unnamed : (ino : ℕ) → get m.tree.records ino ≡ None → node_of m ino ≡ None
  unnamed ino none = by_node (node_of m ino) refl where
    by_node : (o : Option (ℕ × Node)) → node_of m ino ≡ o → o ≡ None
    by_node None at = refl
    by_node (Some e) at =
        let there = first_entry (λ (e : ℕ × Node). e.1.ino == ino) m.nodes e at in
        let stored = (g.nodes e.0 e.1 there.0).stored in
        absurd (false≢true (sym (ap is_some none)
        ∙ ap (λ (i : ℕ). is_some (get m.tree.records i)) (sym (eqb-true e.1.ino ino there.1))
        ∙ stored))

  created_good : (dir flags mode : ℕ) (name : List ℕ) → name_fault name ≡ None
      → lacks_two s m ≡ false
      → (r : Result (ℕ × Tree) ℕ) → new_file_of m.tree dir name flags mode ≡ r
      → Gives s (created s m flags r)
  created_good dir flags mode name fine room (Err e) is = kept_good s m g
  created_good dir flags mode name fine room (Ok (ino, u)) is =
      let all = create_leaves m.tree g.tree held name fine dir flags mode ino u is in
      let m1 : MachineState = record m { tree = u } in
      entered_open_good s m1 (changed_tree_good s m g u all.0 all.1) room ino all.2
      (unnamed ino (create_unknown m.tree g.tree held name fine dir flags mode ino u is))
      flags (create_access m.tree g.tree held name fine dir flags mode ino u is)
      (create_openable m.tree g.tree held name fine dir flags mode ino u is)

  pub create_good : (flags mode : ℕ) (name : List ℕ) (o : Option Node)
      → create_refusal s m name o ≡ None
      → Gives s (created s m flags (new_file_of m.tree (node_ino o) name flags mode))
  create_good flags mode name o none =
      let fine = create_fine s m name o none in
      created_good (node_ino o) flags mode name fine.0 fine.1
      (new_file_of m.tree (node_ino o) name flags mode) refl

  -- ---- what was named is named where both numbers are drawn

  no_handle : (o : Option Handle) → get m.handles (m.next + 1) ≡ o
      → get m.handles (m.next + 1) ≡ None
  no_handle None at = at
  no_handle (Some h) at = absurd (let low = (g.handles (m.next + 1) h at).drawn in omega arith)

  pub opened_named : (ino flags i : ℕ) → held i ≡ true
      → is_named (with_handle (with_node m ino) ino flags).nodes
      (with_handle (with_node m ino) ino flags).handles i ≡ true
  opened_named ino flags i is =
      let v : Node = record { ino = ino; count = 1 } in
      let h : Handle = record
      { ino = ino; access = access flags; append = has_flag O_APPEND flags } in
      let free = ap (weight (node_weight i)) (fresh s m g (get m.nodes m.next) refl) in
      let opened = ap (weight (handle_weight i)) (no_handle (get m.handles (m.next + 1)) refl) in
      let nodes = weigh-insert (node_weight i) m.nodes m.next v in
      let handles = weigh-insert (handle_weight i) m.handles (m.next + 1) h in
      more (weigh (node_weight i) (entries m.nodes))
      (weigh (node_weight i) (entries (insert m.nodes m.next v)))
      (weigh (handle_weight i) (entries m.handles))
      (weigh (handle_weight i) (entries (insert m.handles (m.next + 1) h)))
      (omega (arith, free, nodes)) (omega (arith, opened, handles)) is
    where
      more : (a b c d : ℕ) → a ≤ b → c ≤ d → nat_lt 0 (a + c) ≡ true → nat_lt 0 (b + d) ≡ true
      more a b c d low lower is = grind (arith, nat_tests)
