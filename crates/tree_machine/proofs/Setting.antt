-- SETATTR leaves a good state: each of its steps keeps a good tree good, and all kinds.
use Rattle.std.proofs.Common.{◌≡◌, ℕ, Bool, true, false, List, [], ◌∷◌, ◌++◌, refl, sym, ap, ◌∙◌}
use Rattle.std.proofs.Common.{subst}
use Rattle.std.proofs.Common.{Option, Some, None, Result, Ok, Err, IsSome, inl, inr}
use Rattle.std.specs.Prelude.{unwrap_or, ◌%◌, MatchResult}
use Rattle.std.specs.FinMap.{get}
use Rattle.tree_model.specs.declared.attributes.TimeSet.{TimeSet}
use Rattle.tree_model.specs.Attributes.{kind_of}
use Rattle.tree_model.specs.Attributing.{len_refused, never, owned_by, refused_at, refused_for_link}
use Rattle.tree_model.specs.Attributing.{remoded, resized, restamped, retimed, rewritten_at}
use Rattle.tree_model.specs.Attributing.{set_len_of, set_mode_of, set_owner_of, set_times_of}
use Rattle.tree_model.specs.Attributing.{times_refused, touch_ctime_of, with_bytes, with_changed}
use Rattle.tree_model.specs.AttributeSteps.{NewAttributes, Step, attribute_steps, ctime_steps}
use Rattle.tree_model.specs.AttributeSteps.{mode_steps, owner_steps, resize_step, run, run_on}
use Rattle.tree_model.specs.AttributeSteps.{size_refused, size_steps, step_if, step_unless}
use Rattle.tree_model.specs.AttributeSteps.{times_steps, IsAfterFront}
use Rattle.tree_model.specs.Good.{IsGoodTree}
use Rattle.tree_model.specs.Making.{unless_refused}
use Rattle.tree_model.specs.Settings.{Settings}
use Rattle.tree_model.specs.Tree.{Tree, Record, Body, body_at}
use Rattle.tree_model.specs.Tree.Body.{File, Directory, Link}
use Rattle.tree_model.proofs.Attributing.{call_good, low_mode, mode_good, owned_good}
use Rattle.tree_model.proofs.Attributing.{restamped_good}
use Rattle.tree_model.proofs.Attributing.{retimed_good}
use Rattle.tree_model.proofs.Rewriting.{resized_good}
use Rattle.fuse_wire.specs.declared.setattr.SetAttrIn.{SetAttrIn}
use Rattle.tree_machine.specs.Good.{IsGoodMachine}
use Rattle.tree_machine.specs.Setting.{given_handle, is_read_alone, new_attributes, set_attributes}
use Rattle.tree_machine.specs.Setting.{set_reply, set_steps, set_through}
use Rattle.tree_machine.specs.Core.{getattr_ino}
use Rattle.tree_machine.specs.State.{MachineState}
use Rattle.tree_machine.proofs.KeptStates.{Gives, kept_good}
use Rattle.tree_machine.proofs.KindsKept.{KindsStay, change_kind, kind_in, tree_changed, tree_in}

-- ---- one step

-- what a step leaves: a good tree, in which all that was stored keeps its kind
pub record Keeps (t u : Tree) : Type 0 where
  pub good : IsGoodTree u
  pub kinds : KindsStay t.records u.records

abbrev pub IsTame : Step → Type 0
IsTame step = (t u : Tree) → IsGoodTree t → step t ≡ Ok (tt, u) → Keeps t u

-- a change of one record that keeps its kind
module _ (f : Record → Record) (kinds : (r : Record) → kind_of (f r).body ≡ kind_of r.body) where
  pub changed_kinds : {A : Type 0} (a b : A) (ino : ℕ) (t u : Tree) (o : Option ℕ)
      → unless_refused o a (with_changed f ino t) ≡ Ok (b, u)
      → KindsStay t.records u.records
  changed_kinds a b ino t u (Some e) is = absurd cc
  changed_kinds a b ino t u None is =
      let same : with_changed f ino t ≡ u = ap (tree_in u) is in
      λ i some. ap (λ (x : Tree). kind_in (get x.records i)) (sym same)
      ∙ change_kind f kinds t.records ino i

pub mode_tame : (ino mode : ℕ) → IsTame (λ t. set_mode_of t ino mode)
mode_tame ino mode t u g is = record {
  good = call_good t g ino refused_for_link (remoded mode t.moment)
      (λ r at free. mode_good t g ino (mode % 4096) (low_mode mode) r at) tt tt u is;
  kinds = changed_kinds (remoded mode t.moment) (λ r. refl) tt tt ino t u
      (refused_at refused_for_link (body_at t.records ino)) is;
}

pub owner_tame : (ino : ℕ) (uid gid : Option ℕ) → IsTame (λ t. set_owner_of t ino uid gid)
owner_tame ino uid gid t u g is = record {
  good = call_good t g ino never (owned_by uid gid t.moment)
      (λ r at free. owned_good t g ino (unwrap_or uid r.uid) (unwrap_or gid r.gid) r at) tt tt u is;
  kinds = changed_kinds (owned_by uid gid t.moment) (λ r. refl) tt tt ino t u
      (refused_at never (body_at t.records ino)) is;
}

pub times_tame : (ino : ℕ) (atime mtime : TimeSet) → IsTame (λ t. set_times_of t ino atime mtime)
times_tame ino atime mtime t u g is = record {
  good = call_good t g ino (times_refused atime mtime) (retimed atime mtime t.moment)
      (retimed_good t g ino atime mtime) tt tt u is;
  kinds = changed_kinds (retimed atime mtime t.moment) (λ r. refl) tt tt ino t u
      (refused_at (times_refused atime mtime) (body_at t.records ino)) is;
}

pub ctime_tame : (ino : ℕ) → IsTame (λ t. touch_ctime_of t ino)
ctime_tame ino t u g is = record {
  good = call_good t g ino never (restamped t.moment)
      (λ r at free. restamped_good t g ino r at) tt tt u is;
  kinds = changed_kinds (restamped t.moment) (λ r. refl) tt tt ino t u
      (refused_at never (body_at t.records ino)) is;
}

pub bytes_kind : (h : List ℕ → List ℕ) (b : Body) → kind_of (with_bytes h b) ≡ kind_of b
bytes_kind h (File bytes) = refl
bytes_kind h (Directory es next above) = refl
bytes_kind h (Link target) = refl

pub length_tame : (ino size : ℕ) → IsTame (λ t. set_len_of t ino size)
length_tame ino size t u g is = record {
  good = call_good t g ino (len_refused t.limits.file size) (rewritten_at t.moment (resized size))
      (resized_good t g ino size) tt tt u is;
  kinds = changed_kinds (rewritten_at t.moment (resized size))
      (λ r. bytes_kind (resized size) r.body) tt tt ino t u
      (refused_at (len_refused t.limits.file size) (body_at t.records ino)) is;
}

pub resize_tame : (alone : Bool) (ino size : ℕ) → IsTame (resize_step alone ino size)
resize_tame alone ino size t u g is =
    by_refusal (refused_at (size_refused alone) (body_at t.records ino)) is where
      by_refusal : (o : Option ℕ) → step_unless o (set_len_of t ino size) ≡ Ok (tt, u) → Keeps t u
      by_refusal (Some e) is = absurd cc
      by_refusal None is = length_tame ino size t u g is

-- ---- steps, one after another

abbrev pub AreTame : List Step → Type 0
AreTame [] = Unit {0}
AreTame (step ∷ steps) = IsTame step × AreTame steps

tame_if : (wanted : Bool) (step : Step) → IsTame step → AreTame (step_if wanted step)
tame_if true step tame = (tame, tt)
tame_if false step tame = tt

both_tame : (xs ys : List Step) → AreTame xs → AreTame ys → AreTame (xs ++ ys)
both_tame [] ys none tame = tame
both_tame (x ∷ xs) ys (one, more) tame = (one, both_tame xs ys more tame)

pub steps_tame : (alone : Bool) (ino : ℕ) (a : NewAttributes) → AreTame (attribute_steps alone ino a)
steps_tame alone ino a =
    both_tame _ (ctime_steps ino a)
    (both_tame _ (times_steps ino a)
    (both_tame _ (size_steps alone ino a)
    (both_tame (mode_steps ino a) (owner_steps ino a)
    (tame_if a.sets_mode _ (mode_tame ino a.mode))
    (tame_if a.sets_owner _ (owner_tame ino a.uid a.gid)))
    (tame_if a.sets_size _ (resize_tame alone ino a.size)))
    (tame_if a.sets_times _ (times_tame ino a.atime a.mtime)))
    (tame_if a.touches_ctime _ (ctime_tame ino))

pub keeps_refl : (t : Tree) → IsGoodTree t → Keeps t t
keeps_refl t g = record { good = g; kinds = λ i some. refl }

some_kind : (t u : Tree) → KindsStay t.records u.records → (i : ℕ) → IsSome (get t.records i)
    → IsSome (get u.records i)
some_kind t u stay i some = by_record (get u.records i) (get t.records i) (stay i some) some where
  by_record : (o p : Option Record) → kind_in o ≡ kind_in p → IsSome p → IsSome o
  by_record None None is some = absurd cc
  by_record None (Some p) is some = absurd cc
  by_record (Some r) p is some = refl

pub keeps_trans : (t u v : Tree) → Keeps t u → Keeps u v → Keeps t v
keeps_trans t u v one two = record {
  good = two.good;
  kinds = λ i some. two.kinds i (some_kind t u one.kinds i some) ∙ one.kinds i some;
}

pub run_keeps : (steps : List Step) → AreTame steps → (t : Tree) → IsGoodTree t
    → Keeps t (run steps t).1
run_keeps [] none t g = keeps_refl t g
run_keeps (step ∷ steps) (one, more) t g =
    by_step (step t) refl (λ u good. run_keeps steps more u good) where
      by_step : (r : Result (Unit {0} × Tree) ℕ) → step t ≡ r
          → ((u : Tree) → IsGoodTree u → Keeps u (run steps u).1)
          → Keeps t (run_on r t (run steps)).1
      by_step (Err e) is rest = keeps_refl t g
      by_step (Ok (tt, u)) is rest =
          let first = one t u g is in keeps_trans t u (run steps u).1 first (rest u first.good)

-- after a front part of them
pub front_keeps : (steps : List Step) → AreTame steps → (t : Tree) → IsGoodTree t → (u : Tree)
    → IsAfterFront steps t u → Keeps t u
front_keeps [] none t g u is = subst (Keeps t) (sym is) (keeps_refl t g)
front_keeps (step ∷ steps) (one, more) t g u (inl is) = subst (Keeps t) (sym is) (keeps_refl t g)
front_keeps (step ∷ steps) (one, more) t g u (inr rest) =
    by_step (step t) refl (λ v good left. front_keeps steps more v good u left) rest where
      by_step : (r : Result (Unit {0} × Tree) ℕ) → step t ≡ r
          → ((v : Tree) → IsGoodTree v → IsAfterFront steps v u → Keeps v u)
          → MatchResult r (λ done. IsAfterFront steps done.1 u) (λ e. ⊥) → Keeps t u
      by_step (Err e) is later rest = absurd rest
      by_step (Ok (tt, v)) is later rest =
          let first = one t v g is in keeps_trans t v u first (later v first.good rest)

-- ---- SETATTR

module _ (s : Settings) (m : MachineState) (g : IsGoodMachine s m) where
  pub set_tame : (node : ℕ) (a : SetAttrIn) → AreTame (set_steps m node a)
  set_tame node a = steps_tame (is_read_alone (set_through m (given_handle a)))
      (getattr_ino m node (given_handle a)) (new_attributes a)

  pub set_keeps : (node : ℕ) (a : SetAttrIn) → Keeps m.tree (run (set_steps m node a) m.tree).1
  set_keeps node a = run_keeps (set_steps m node a) (set_tame node a) m.tree g.tree

  pub set_to : (u : Tree) → Keeps m.tree u → IsGoodMachine s (record m { tree = u })
  set_to u k = tree_changed s m g u k.good (λ i named some. k.kinds i some)

  by_run : (ino : ℕ) (r : Result (Unit {0}) ℕ × Tree) → Keeps m.tree r.1
      → Gives s (set_reply s m ino r)
  by_run ino (Ok tt, u) k = kept_good s (record m { tree = u }) (set_to u k)
  by_run ino (Err e, u) k = kept_good s (record m { tree = u }) (set_to u k)

  pub set_good : (node : ℕ) (a : SetAttrIn) → Gives s (set_attributes s m node a)
  set_good node a = by_run (getattr_ino m node (given_handle a)) (run (set_steps m node a) m.tree)
      (set_keeps node a)
