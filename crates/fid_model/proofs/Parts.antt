-- What a message leaves that wasn't carried out whole: of one that changes no tree, the state as it
-- was.
use Rattle.std.proofs.Common.{◌≡◌, ◌⊎◌, ℕ, false, List, [], ◌∷◌, refl, ap, inl, inr, ⊎_elim}
use Rattle.std.specs.FinMap as map
use Rattle.port_base.specs.Faults.{Rose}
use Rattle.tree_model.specs.Tree.{Tree}
use Rattle.p9_tmsg.specs.Messages.{Message}
use Rattle.p9_tmsg.specs.Messages.Message.{lcreate, link, lopen, mkdir, renameat, setattr, unlinkat}
use Rattle.p9_tmsg.specs.Messages.Message.{write}
use Rattle.p9_rmsg.specs.Replies.{Reply}
use Rattle.fid_model.specs.Fids.{ServerState}
use Rattle.fid_model.specs.Answers.{answer}
use Rattle.tree_model.specs.AttributeSteps.{Step, IsAfterFront}
use Rattle.fid_model.specs.Setattr.{changes, steps_at}
use Rattle.fid_model.specs.Parts.{changes_tree, IsFrontDone, IsPartDone}
use Rattle.fid_model.specs.Handling.{Outcome, IsHurtReply, IsLeft}
use Rattle.fid_model.proofs.Moments.{same_state, same_alone}

-- no step is a front part of the steps
none_done : (steps : List Step) (t : Tree) → IsAfterFront steps t t
none_done [] t = refl
none_done (step ∷ steps) t = inl refl

nothing_done : (s : ServerState) (m : Message) → IsFrontDone s m s.tree
nothing_done s (setattr fid valid mode uid gid size a an b bn) =
    none_done (steps_at (changes valid mode uid gid size a an b bn) (map.get s.fids fid)) s.tree
nothing_done s _ = refl

-- where nothing changed, nothing was done
pub unchanged_left : (s : ServerState) (m : Message) (s1 : ServerState) → s1 ≡ s → IsLeft s m s1
unchanged_left s m s1 same = (
  same_alone s s1 same,
  rw (ap (λ (x : ServerState). x.tree) same)
      (nothing_done s m),
)

-- a front part is a part
pub front_part : (s : ServerState) (m : Message) (t : Tree) → IsFrontDone s m t → IsPartDone s m t
front_part s (lopen fid flags) t h = inl h
front_part s (lcreate fid name flags mode gid) t h = inl h
front_part s (link dfid fid name) t h = inl h
front_part s (mkdir dfid name mode gid) t h = inl h
front_part s (renameat olddirfid oldname newdirfid newname) t h = inl h
front_part s (unlinkat dirfd name flags) t h = inl h
front_part s (write fid offset payload) t h = inl h
front_part s _ t h = h

-- a message that changes no tree leaves it
pub tree_stays : (s : ServerState) (m : Message) (t : Tree) → changes_tree m ≡ false
    → IsPartDone s m t → t ≡ s.tree
tree_stays s (lopen fid flags) t keeps h = absurd cc
tree_stays s (lcreate fid name flags mode gid) t keeps h = absurd cc
tree_stays s (setattr fid valid mode uid gid size a an b bn) t keeps h = absurd cc
tree_stays s (link dfid fid name) t keeps h = absurd cc
tree_stays s (mkdir dfid name mode gid) t keeps h = absurd cc
tree_stays s (renameat olddirfid oldname newdirfid newname) t keeps h = absurd cc
tree_stays s (unlinkat dirfd name flags) t keeps h = absurd cc
tree_stays s (write fid offset payload) t keeps h = absurd cc
tree_stays s _ t keeps h = h

-- a fault of it leaves the state
pub fault_leaves_state : (s : ServerState) (m : Message) (reply : Reply) (s1 : ServerState)
    (f0 f1 : ℕ) → changes_tree m ≡ false → Outcome s m reply s1 f0 f1
    → ((reply, s1) ≡ answer s m) ⊎ (Rose f0 f1 × IsHurtReply s m reply × (s1 ≡ s))
fault_leaves_state s m reply s1 f0 f1 keeps o =
    ⊎_elim (λ e. inl e) (λ k. inr (
      k.0,
      k.1,
      same_state s s1 k.2
          (tree_stays s m s1.tree keeps k.3),
    )) o
