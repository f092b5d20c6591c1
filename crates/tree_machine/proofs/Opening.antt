-- OPEN leaves a good state, and is refused by a core request's rule where it is one.
use Rattle.std.proofs.Common.{◌≡◌, ◌≢◌, ℕ, ◌+◌, ◌≤◌, ◌<◌, Bool, true, false, cond, not, ◌||◌, ◌&&◌}
use Rattle.std.proofs.Common.{refl, sym, ap, ◌∙◌, subst, Option, Some, None, Result, Ok, Err, arith}
use Rattle.std.proofs.Common.{◌⊎◌, inl, inr, ⊎_elim, [], ◌∷◌}
use Rattle.std.specs.Prelude.{◌==◌, ◌%◌, if◌then◌else◌}
use Rattle.std.proofs.lemmas.Bool.{false≢true}
use Rattle.std.proofs.lemmas.Bool.Decides.{nat_tests}
use borrow.Author.Tests.{eqb-true}
use Rattle.std.specs.FinMap.{get, insert}
use Rattle.port_base.specs.OpenFlags.{access, has_flag}
use Rattle.tree_model.specs.Tree.{Tree, Records, Body, body_at, is_directory_at}
use Rattle.tree_model.specs.Tree.Body.{File, Directory, Link}
use Rattle.tree_model.specs.Attributes.{kind_of}
use Rattle.tree_model.specs.Attributing.{len_refused, refused_at, resized, rewritten_at}
use Rattle.tree_model.specs.Attributing.{set_len_of, with_changed}
use Rattle.tree_model.specs.Good.{IsGoodTree}
use Rattle.tree_model.specs.Making.{change, unless_refused}
use Rattle.tree_model.specs.Sound.{AreStored, IsKept}
use Rattle.tree_model.proofs.Attributing.{amended_kept, amended_stored}
use Rattle.tree_model.proofs.Rewriting.{resized_good}
use Rattle.tree_model.specs.OpenedFiles.{emptied_where, open_of}
use Rattle.tree_model.specs.Opening.{body_answer, unless, open_refused, open_check_of}
use Rattle.tree_model.specs.Opening.{kind_refused, opens_to_change}
use Rattle.tree_model.specs.Settings.{Settings}
use Rattle.port_base.specs.declared.errno.TheConstants.{EEXIST, EINVAL, EISDIR, ELOOP, ENFILE}
use Rattle.port_base.specs.declared.errno.TheConstants.{ENOTDIR, ESTALE}
use Rattle.port_base.specs.declared.oflag.TheConstants.{O_ACCMODE, O_APPEND, O_CREAT, O_DIRECTORY}
use Rattle.port_base.specs.declared.oflag.TheConstants.{O_EXCL, O_RDONLY, O_RDWR, O_TRUNC, O_WRONLY}
use Rattle.tree_machine.specs.State.{MachineState, Node, Handle, is_at_limit}
use Rattle.tree_machine.specs.Refusals.{refused_if, refused_unknown}
use Rattle.tree_machine.specs.Core.{node_ino, opened, open_refusal, link_check}
use Rattle.tree_machine.specs.Requests.{opened_to, opens_to_read}
use Rattle.tree_machine.specs.Good.{IsGoodMachine, IsOpenable}
use Rattle.tree_machine.proofs.KeptStates.{kept_good, Gives}
use Rattle.tree_machine.proofs.Handles.{handle_drawn}
use Rattle.tree_machine.proofs.KindsKept.{openable_still}
use Rattle.tree_machine.proofs.KindsKept.{tree_in}
use Rattle.tree_machine.proofs.Setting.{Keeps, keeps_refl, length_tame, set_to}
use Rattle.tree_machine.proofs.Refusals.{passes, fails}

both : (a b : Bool) → (a && b) ≡ true → (a ≡ true) × (b ≡ true)
both true b h = (refl, h)
both false b h = absurd cc

link_refused : (a b : Bool) (x y z : ℕ) → unless (cond a (Some x) (cond b (Some y) (Some z))) ≡ Ok
    tt → ⊥
link_refused true b x y z h = cc
link_refused false true x y z h = cc
link_refused false false x y z h = cc

-- what is opened is a file, or a directory that is read alone
pub opened_is_openable : (o : Option Body) (flags : ℕ) (h : Handle)
    → (is_directory_at o ≡ true → (h.access ≡ 0) × (h.append ≡ false))
    → body_answer (λ b. unless (open_refused flags (kind_of b))) o ≡ Ok tt → IsOpenable o h
opened_is_openable None flags h plain ok = cc
opened_is_openable (Some (File bytes)) flags h plain ok = tt
opened_is_openable (Some (Directory es next above)) flags h plain ok = plain refl
opened_is_openable (Some (Link target)) flags h plain ok =
    link_refused (access flags == 3) (has_flag O_CREAT flags && has_flag O_EXCL flags) EINVAL EEXIST
    ELOOP ok

mod_less : (n : ℕ) → n % 4 < 4
mod_less n = omega arith

-- what is opened has an access below 3
opened_access : (o : Option Body) (flags : ℕ)
    → body_answer (λ b. unless (open_refused flags (kind_of b))) o ≡ Ok tt → access flags < 3
opened_access None flags ok = absurd cc
opened_access (Some b) flags ok = by_test (access flags == O_ACCMODE) refl ok where
  by_test : (x : Bool) → (access flags == O_ACCMODE) ≡ x
      → unless (cond x (Some EINVAL) (cond (has_flag O_CREAT flags && has_flag O_EXCL flags)
      (Some EEXIST) (kind_refused flags (kind_of b)))) ≡ Ok tt → access flags < 3
  by_test true is ok = absurd cc
  by_test false is ok = let low = mod_less flags in let other : access flags ≢ 3 =
      grind (arith, nat_tests) in omega arith

-- opened to be read, each body is refused as a link is
file_opened : (a c e d : Bool) → a ≡ false → c ≡ false → d ≡ false
    → unless (cond a (Some EINVAL) (cond (c && e) (Some EEXIST) (cond d (Some ENOTDIR) None))) ≡ Ok
    tt
file_opened a c e d no_access no_create no_directory = rw (no_access, no_create, no_directory) refl

directory_opened : (a c e w : Bool) → a ≡ false → c ≡ false → w ≡ false
    → unless (cond a (Some EINVAL) (cond (c && e) (Some EEXIST) (cond w (Some EISDIR) None))) ≡ Ok
    tt
directory_opened a c e w no_access no_create no_change = rw (no_access, no_create, no_change) refl

link_opened : (a c e : Bool) → a ≡ false → c ≡ false
    → unless (cond a (Some EINVAL) (cond (c && e) (Some EEXIST) (Some ELOOP))) ≡ Err ELOOP
link_opened a c e no_access no_create = rw (no_access, no_create) refl

pub record ToRead (flags : ℕ) : Type 0 where
  pub access : access flags ≡ 0
  pub create : has_flag O_CREAT flags ≡ false
  pub truncate : has_flag O_TRUNC flags ≡ false
  pub directory : has_flag O_DIRECTORY flags ≡ false

pub to_read : (flags : ℕ) → opens_to_read flags ≡ true → ToRead flags
to_read flags h =
    let parts = both (access flags == O_RDONLY)
    (not (has_flag O_CREAT flags || has_flag O_TRUNC flags || has_flag O_DIRECTORY flags)) h in
    let none = no_three (has_flag O_CREAT flags) (has_flag O_TRUNC flags)
    (has_flag O_DIRECTORY flags) parts.1 in
    record {
      access = eqb-true (access flags) O_RDONLY parts.0;
      create = none.0;
      truncate =
          none.1;
      directory = none.2;
    } where
      no_three : (c t d : Bool) → not (c || t || d) ≡ true → (c ≡ false) × (t ≡ false) × (d ≡ false)
      no_three false false false h = (refl, refl, refl)
      no_three true t d h = absurd cc
      no_three false true d h = absurd cc
      no_three false false true h = absurd cc

other : (flags k : ℕ) → access flags ≡ 0 → 1 ≤ k → (access flags == k) ≡ false
other flags k zero_is some = grind (arith, nat_tests)

pub checked_alike : (flags : ℕ) → opens_to_read flags ≡ true → (o : Option Body)
    → body_answer (λ b. unless (open_refused flags (kind_of b))) o ≡ link_check o
checked_alike flags h None = refl
checked_alike flags h (Some (File bytes)) =
    let r = to_read flags h in
    file_opened (access flags == O_ACCMODE) (has_flag O_CREAT flags) (has_flag O_EXCL flags)
    (has_flag O_DIRECTORY flags) (other flags 3 r.access (omega arith)) r.create r.directory
checked_alike flags h (Some (Directory es next above)) =
    let r = to_read flags h in
    directory_opened (access flags == O_ACCMODE) (has_flag O_CREAT flags) (has_flag O_EXCL flags)
    (opens_to_change flags) (other flags 3 r.access (omega arith)) r.create
    (no_change (access flags == O_WRONLY) (access flags == O_RDWR) (has_flag O_TRUNC flags)
    (has_flag O_CREAT flags) (other flags 1 r.access (omega arith))
    (other flags 2 r.access (omega arith)) r.truncate r.create) where
      no_change : (w b t c : Bool) → w ≡ false → b ≡ false → t ≡ false → c ≡ false
          → (w || b || t || c) ≡ false
      no_change w b t c no_w no_b no_t no_c = rw (no_w, no_b, no_t, no_c) refl
checked_alike flags h (Some (Link target)) =
    let r = to_read flags h in
    link_opened (access flags == O_ACCMODE) (has_flag O_CREAT flags) (has_flag O_EXCL flags)
    (other flags 3 r.access (omega arith)) r.create

-- what is opened to be read is emptied in no case
pub opened_alike : (m : MachineState) (ino flags : ℕ) → opens_to_read flags ≡ true
    → opened m ino flags (link_check (body_at m.tree.records ino))
    ≡ opened_to m ino flags (open_of m.tree ino flags)
opened_alike m ino flags h =
    ap (opened m ino flags) (sym (checked_alike flags h (body_at m.tree.records ino)))
    ∙ by_check (open_check_of m.tree ino flags)
  where
    by_check : (r : Result (Unit {0}) ℕ)
        → opened m ino flags r ≡ opened_to m ino flags (emptied_where r m.tree ino flags)
    by_check (Ok tt) = ap (λ (b : Bool). opened_to m ino flags
        (if b then set_len_of m.tree ino 0 else Ok (tt, m.tree)))
        (sym (to_read flags h).truncate)
    by_check (Err e) = refl

-- ---- what an open leaves

module _ (t : Tree) (g : IsGoodTree t) (ino flags : ℕ) (u : Tree)
    (is : open_of t ino flags ≡ Ok (tt, u)) where
  -- what is opened was allowed to be
  was_allowed : open_check_of t ino flags ≡ Ok tt
  was_allowed = by_check (open_check_of t ino flags) is where
    by_check : (r : Result (Unit {0}) ℕ) → emptied_where r t ino flags ≡ Ok (tt, u) → r ≡ Ok tt
    by_check (Ok tt) is = refl
    by_check (Err e) is = absurd cc

  -- the tree is as it was, or a file has no bytes
  left_or_emptied : (u ≡ t) ⊎ (set_len_of t ino 0 ≡ Ok (tt, u))
  left_or_emptied = by_check (open_check_of t ino flags) is where
    by_flag : (truncates : Bool)
        → (if truncates then set_len_of t ino 0 else Ok (tt, t)) ≡ Ok (tt, u)
        → (u ≡ t) ⊎ (set_len_of t ino 0 ≡ Ok (tt, u))
    by_flag true is = inr is
    by_flag false is = inl (sym (ap (tree_in u) is))

    by_check : (r : Result (Unit {0}) ℕ) → emptied_where r t ino flags ≡ Ok (tt, u)
        → (u ≡ t) ⊎ (set_len_of t ino 0 ≡ Ok (tt, u))
    by_check (Ok tt) is = by_flag (has_flag O_TRUNC flags) is
    by_check (Err e) is = absurd cc

  pub open_keeps : Keeps t u
  open_keeps = ⊎_elim (λ same. subst (Keeps t) (sym same) (keeps_refl t g))
      (λ told. length_tame ino 0 t u g told) left_or_emptied

  -- what holds of a tree, and of it with the file emptied, holds of what is left
  by_record : (P : Records → Type 0) → P t.records
      → (refused_at (len_refused t.limits.file 0) (body_at t.records ino) ≡ None
      → P (change (rewritten_at t.moment (resized 0)) t.records ino))
      → P u.records
  by_record P old new = ⊎_elim
      (λ same. subst (λ (x : Tree). P x.records) (sym same) old)
      (λ told. by_refusal (refused_at (len_refused t.limits.file 0) (body_at t.records ino)) told
      new)
      left_or_emptied
    where
      by_refusal : (o : Option ℕ)
          → unless_refused {A = Unit {0}} o tt
          (with_changed (rewritten_at t.moment (resized 0)) ino t) ≡ Ok (tt, u)
          → (o ≡ None → P (change (rewritten_at t.moment (resized 0)) t.records ino)) → P u.records
      by_refusal (Some e) is new = absurd cc
      by_refusal None is new = subst (λ (x : Tree). P x.records) (ap (tree_in u) is) (new refl)

  -- what is held stays stored, and what isn't linked or held isn't stored
  pub open_stays : (held : ℕ → Bool) → IsKept t.records held → IsKept u.records held
  open_stays held kept = by_record (λ rs. IsKept rs held) kept
      (λ free. amended_kept t g ino (len_refused t.limits.file 0)
      (rewritten_at t.moment (resized 0)) (resized_good t g ino 0) free held kept)

  pub open_stored : (held : ℕ → Bool) → AreStored t.records held → AreStored u.records held
  open_stored held stored = by_record (λ rs. AreStored rs held) stored
      (λ free. amended_stored t g ino (len_refused t.limits.file 0)
      (rewritten_at t.moment (resized 0)) (resized_good t g ino 0) free held stored)

module _ (s : Settings) (m : MachineState) (g : IsGoodMachine s m) where
  pub opened_good : (flags ino : ℕ) → is_at_limit s m ≡ false
      → (is_directory_at (body_at m.tree.records ino) ≡ true
      → (access flags ≡ 0) × (has_flag O_APPEND flags ≡ false))
      → (r : Result (Unit {0} × Tree) ℕ) → open_of m.tree ino flags ≡ r
      → Gives s (opened_to m ino flags r)
  opened_good flags ino open_limit plain (Err e) told = kept_good s m g
  opened_good flags ino open_limit plain (Ok (tt, u)) told =
      let keeps = open_keeps m.tree g.tree ino flags u told in
      let allowed = was_allowed m.tree g.tree ino flags u told in
      let changed : MachineState = record m { tree = u } in
      let v : Handle = record { ino = ino; access = access flags; append = has_flag O_APPEND flags }
      in
      kept_good s (record changed { handles = insert m.handles m.next v; next = m.next + 1 })
      (handle_drawn s changed (set_to s m g u keeps) v
      (opened_access (body_at m.tree.records ino) flags allowed)
      (openable_still v (get m.tree.records ino) (get u.records ino)
      (opened_is_openable (body_at m.tree.records ino) flags v plain allowed) (keeps.kinds ino))
      open_limit)

  pub open_good : (flags : ℕ) (o : Option Node) → open_refusal s m o ≡ None
      → Gives s (opened_to m (node_ino o) flags (open_of m.tree (node_ino o) flags))
  open_good flags o none =
      let known = passes (refused_unknown o ESTALE)
      (refused_if (is_at_limit s m) ENFILE
      ∷ refused_if (is_directory_at (body_at m.tree.records (node_ino o))) EISDIR ∷ []) none
      in
      let below = passes (refused_if (is_at_limit s m) ENFILE)
      (refused_if (is_directory_at (body_at m.tree.records (node_ino o))) EISDIR ∷ []) known.1
      in
      let plain = passes (refused_if (is_directory_at (body_at m.tree.records (node_ino o))) EISDIR)
      [] below.1 in
      opened_good flags (node_ino o)
      (fails (is_at_limit s m) ENFILE below.0)
      (λ is. absurd (false≢true (sym (fails (is_directory_at (body_at m.tree.records (node_ino o)))
      EISDIR plain.0) ∙ is)))
      (open_of m.tree (node_ino o) flags) refl
