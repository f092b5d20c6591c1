-- OPENDIR, and names that go or move, leave a good state: what is named stays, and keeps its kind.
use Rattle.std.proofs.Common.{◌≡◌, ℕ, ◌+◌, Bool, true, false, not, List, [], ◌∷◌, refl}
use Rattle.std.proofs.Common.{Option, Some, None, Result, Ok, Err, arith}
use Rattle.std.specs.Prelude.{◌==◌}
use Rattle.std.specs.FinMap.{insert}
use Rattle.port_base.specs.Names.{name_fault}
use Rattle.port_base.specs.declared.errno.TheConstants.{EINVAL, ENFILE, ENOTDIR, ESTALE}
use Rattle.port_base.specs.declared.oflag.TheConstants.{O_RDONLY}
use Rattle.tree_model.specs.Tree.{Tree, Body, body_at, is_directory_at}
use Rattle.tree_model.specs.Tree.Body.{File, Directory, Link}
use Rattle.tree_model.specs.Good.{IsGoodTree}
use Rattle.tree_model.specs.Finding.{lookup_of}
use Rattle.tree_model.specs.Settings.{Settings}
use Rattle.tree_model.specs.Unlinking.{unless_directory, if_empty}
use Rattle.tree_model.proofs.Leaving.{file_only, empty_only, removed_good}
use Rattle.tree_model.proofs.Renaming.{renamed_good}
use Rattle.tree_machine.specs.State.{MachineState, Node, Handle, is_named, is_at_limit}
use Rattle.tree_machine.specs.Refusals.{refused_if, refused_unknown, first_refusal}
use Rattle.tree_machine.specs.Core.{node_ino, with_handle, opendir_refusal, unlink_told, changed_by}
use Rattle.tree_machine.specs.Naming.{rmdir_told, rename_refusal, rename2_refusal, rename_told}
use Rattle.tree_machine.specs.Good.{IsGoodMachine, IsOpenable}
use Rattle.tree_machine.specs.Replies.Reply.{Opened}
use Rattle.tree_machine.proofs.KeptStates.{kept_good, Gives}
use Rattle.tree_machine.proofs.Handles.{handle_drawn}
use Rattle.tree_machine.proofs.KindsKept.{Leaves, leaves_named, tree_changed, removed_leaves}
use Rattle.tree_machine.proofs.KindsKept.{renamed_leaves}
use Rattle.tree_machine.proofs.Refusals.{passes, fails}

-- no refusal stands, so neither name has a fault
pub rename_fine : (old new : List ℕ) (o p : Option Node) → rename_refusal old new o p ≡ None
    → name_fault new ≡ None
rename_fine old new o p none =
    let first = passes (refused_unknown o ESTALE)
    (refused_unknown p ESTALE ∷ name_fault old ∷ name_fault new ∷ []) none in
    let second = passes (refused_unknown p ESTALE) (name_fault old ∷ name_fault new ∷ []) first.1 in
    let third = passes (name_fault old) (name_fault new ∷ []) second.1 in
    (passes (name_fault new) [] third.1).0

module _ (s : Settings) (m : MachineState) (g : IsGoodMachine s m) where
  abbrev held : ℕ → Bool
  held = is_named m.nodes m.handles

  -- ---- a change of the tree by which what is named stays

  pub changed_good : (r : Result (Unit {0} × Tree) ℕ)
      → ((u : Tree) → r ≡ Ok (tt, u) → IsGoodTree u × Leaves held m.tree u)
      → Gives s (changed_by m r)
  changed_good (Err e) is = kept_good s m g
  changed_good (Ok (tt, u)) is =
      let both = is u refl in
      kept_good s (record m { tree = u })
      (tree_changed s m g u both.0 (leaves_named held m.tree u both.1))

  pub unlink_leaves : (dir : ℕ) (name : List ℕ) (u : Tree) → unlink_told m dir name ≡ Ok (tt, u)
      → IsGoodTree u × Leaves held m.tree u
  unlink_leaves dir name u is =
      let found = unless_directory m.tree.records (lookup_of m.tree dir name) in (
        removed_good held m.tree u g.tree dir name found
            (file_only m.tree.records (lookup_of m.tree dir name)) is,
        removed_leaves held m.tree u dir name found is,
      )

  pub rmdir_leaves : (dir : ℕ) (name : List ℕ) (u : Tree) → rmdir_told m dir name ≡ Ok (tt, u)
      → IsGoodTree u × Leaves held m.tree u
  rmdir_leaves dir name u is =
      let found = if_empty m.tree.records (lookup_of m.tree dir name) in (
        removed_good held m.tree u g.tree dir name found
            (empty_only m.tree.records (lookup_of m.tree dir name)) is,
        removed_leaves held m.tree u dir name found is,
      )

  pub rename_leaves : (olddir : ℕ) (old : List ℕ) (newdir : ℕ) (new : List ℕ)
      → name_fault new ≡ None → (u : Tree) → rename_told m olddir old newdir new ≡ Ok (tt, u)
      → IsGoodTree u × Leaves held m.tree u
  rename_leaves olddir old newdir new fine u is = (
    renamed_good held m.tree g.tree olddir old newdir new fine u is,
    renamed_leaves held m.tree olddir old newdir new u is,
  )

  pub unlink_good : (name : List ℕ) (o : Option Node)
      → Gives s (changed_by m (unlink_told m (node_ino o) name))
  unlink_good name o = changed_good (unlink_told m (node_ino o) name)
      (unlink_leaves (node_ino o) name)

  pub rmdir_good : (name : List ℕ) (o : Option Node)
      → Gives s (changed_by m (rmdir_told m (node_ino o) name))
  rmdir_good name o = changed_good (rmdir_told m (node_ino o) name)
      (rmdir_leaves (node_ino o) name)

  pub rename_good : (old new : List ℕ) (o p : Option Node) → rename_refusal old new o p ≡ None
      → Gives s (changed_by m (rename_told m (node_ino o) old (node_ino p) new))
  rename_good old new o p none = changed_good (rename_told m (node_ino o) old (node_ino p) new)
      (rename_leaves (node_ino o) old (node_ino p) new (rename_fine old new o p none))

  pub rename2_good : (flags : ℕ) (old new : List ℕ) (o p : Option Node)
      → rename2_refusal flags old new o p ≡ None
      → Gives s (changed_by m (rename_told m (node_ino o) old (node_ino p) new))
  rename2_good flags old new o p none =
      rename_good old new o p (only (rename_refusal old new o p)
      (passes (refused_if (not (flags == 0)) EINVAL) (rename_refusal old new o p ∷ []) none).1)
    where
      only : (r : Option ℕ) → first_refusal (r ∷ []) ≡ None → r ≡ None
      only r is = (passes r [] is).0

  -- ---- OPENDIR

  -- a directory is opened to be read
  directory_opened : (o : Option Body) (h : Handle) → h.access ≡ 0 → h.append ≡ false
      → is_directory_at o ≡ true → IsOpenable o h
  directory_opened None h access append is = absurd cc
  directory_opened (Some (File bytes)) h access append is = absurd cc
  directory_opened (Some (Directory es next above)) h access append is = (access, append)
  directory_opened (Some (Link target)) h access append is = absurd cc

  is_true : (b : Bool) → not b ≡ false → b ≡ true
  is_true true h = refl
  is_true false h = absurd cc

  pub opendir_good : (o : Option Node) → opendir_refusal s m o ≡ None
      → Gives s (Opened m.next, with_handle m (node_ino o) O_RDONLY)
  opendir_good o none =
      let test = is_directory_at (body_at m.tree.records (node_ino o)) in
      let v : Handle = record { ino = node_ino o; access = 0; append = false } in
      let known = passes (refused_unknown o ESTALE)
      (refused_if (is_at_limit s m) ENFILE ∷ refused_if (not test) ENOTDIR ∷ []) none in
      let below = passes (refused_if (is_at_limit s m) ENFILE) (refused_if (not test) ENOTDIR ∷ [])
      known.1 in
      let kind = passes (refused_if (not test) ENOTDIR) [] below.1 in
      kept_good s (record m { handles = insert m.handles m.next v; next = m.next + 1 })
      (handle_drawn s m g v (omega arith)
      (directory_opened (body_at m.tree.records (node_ino o)) v refl refl
      (is_true test (fails (not test) ENOTDIR kind.0)))
      (fails (is_at_limit s m) ENFILE below.0))
