-- What calls are told that may change the tree.
use Rattle.std.proofs.Common.{◌≡◌, inl, inr, ⊎_elim, ℕ, List, Result, Ok, Err, Some, None}
use Rattle.std.proofs.Common.{Option}
use Rattle.std.proofs.Common.{refl, sym, ap, ◌∙◌, subst}
use Rattle.std.specs.FinMap as map
use Rattle.port_base.specs.declared.errno.TheConstants.{EIO}
use Rattle.tree_model.specs.Tree.{Tree}
use Rattle.p9_tmsg.specs.Messages.{Message, message_of}
use Rattle.p9_tmsg.specs.Messages.Message.{lcreate as t_lcreate, lopen as t_lopen}
use Rattle.p9_tmsg.specs.declared.message.Tmessage.TheVariants as variant
use Rattle.p9_tmsg.specs.declared.message.Tsetattr.{Tsetattr}
use Rattle.p9_rmsg.specs.Replies.{Reply}
use Rattle.p9_rmsg.specs.Replies.Reply.{lerror as r_lerror}
use Rattle.fid_model.specs.Fids.{Fid, ServerState, IsGoodServer, kept_state}
use Rattle.fid_model.specs.Answers.{answer, core, lcreate_answer, lopen_answer, lopen_by, open_of}
use Rattle.fid_model.specs.Answers.{setattr_by, setattr_reply}
use Rattle.fid_model.specs.Files.{new_file_of}
use Rattle.fid_model.specs.FidCalls.{by_fid, told_answer}
use Rattle.tree_model.specs.AttributeSteps.{run}
use Rattle.fid_model.specs.Setattr.{steps}
use Rattle.fid_model.specs.TreeCalls.{tree_answer}
use Rattle.fid_model.specs.Handling.{IsHurtReply}
use Rattle.fid_model.specs.Parts.{IsPartDone, IsBeforeOrAfter}
use Rattle.fid_model.specs.Moments.{Moment, Keeps, Untouched}
use Rattle.fid_model.proofs.Keeping.{kept_state_good}
use Rattle.fid_model.proofs.Moments.{keeps_refl}
use Rattle.p9_client.specs.Asking.{IsExchanged, IsUnfinishedAt}
use Rattle.p9_client.specs.Changing.{FrontOrTold, Gives, OldOrTold, changed, changes_of, done}
use Rattle.p9_client.specs.Changing.{set_by, set_told}
use Rattle.p9_client.specs.Opening.{created, created_told, emptied_by, emptied_told}
use Rattle.p9_client.specs.Opening.{opened_or_emptied}
use Rattle.p9_client.specs.Views.{create_view, open_view}
use Rattle.p9_client.proofs.Telling.{Tells, answered, unfinished}

-- all was done, or it was refused
abbrev pub done_view : Reply → Option (Result (Unit {0}) ℕ)
done_view r = Some (done r)

-- ---- a message about the tree

module _ {A B : Type 0} (s : ServerState) (g : IsGoodServer s) (m : Message) (reply : A → Reply)
    (view : A → B) (told : Result (A × Tree) ℕ) (is : core s m ≡ tree_answer s reply told)
    (seen_by : Reply → Option (Result B ℕ)) where
  abbrev seen_of : Reply × ServerState → Option (Result B ℕ)
  seen_of x = seen_by x.0

  abbrev left_of : Reply × ServerState → ServerState
  left_of x = kept_state x.1

  changed_left : (r : Result (A × Tree) ℕ)
      → kept_state (tree_answer s reply r).1 ≡ (changed s view r).1
  changed_left (Ok (a, t)) = refl
  changed_left (Err e) = kept_state_good s g

  after_is : (answer s m).1 ≡ (changed s view told).1
  after_is = ap left_of is ∙ changed_left told

  module _ (own : (a : A) → seen_by (reply a) ≡ Some (Ok (view a)))
      (refusal : (e : ℕ) → seen_by (r_lerror e) ≡ Some (Err e)) where
    changed_seen : (r : Result (A × Tree) ℕ)
        → seen_by (tree_answer s reply r).0 ≡ Some (changed s view r).0
    changed_seen (Ok (a, t)) = own a
    changed_seen (Err e) = refusal e

    pub change_tells : ((r : Reply) → IsHurtReply s m r → r ≡ r_lerror EIO)
        → ((t : Tree) → IsPartDone s m t → IsBeforeOrAfter s m t)
        → Tells seen_by s m (changed s view told) (OldOrTold (changed s view told))
    change_tells hurt leaves = record {
      seen = ap seen_of is ∙ changed_seen told;
      state = after_is;
      whole = inr refl;
      hurt = λ r h. ap seen_by (hurt r h) ∙ refusal EIO;
      leaves = λ t h. ⊎_elim (λ same. inl same)
          (λ e. inr (e ∙ ap (λ (x : ServerState). x.tree) after_is)) (leaves t h);
    }

-- ---- a message that leaves all as it is

module _ {A B : Type 0} (s : ServerState) (g : IsGoodServer s) (m : Message) (reply : A → Reply)
    (told : Result A ℕ) (is : core s m ≡ told_answer s reply told)
    (seen_by : Reply → Option (Result B ℕ)) (view : Result A ℕ → Result B ℕ)
    (seen : (r : Result A ℕ) → seen_by (told_answer s reply r).0 ≡ Some (view r)) where
  same_left : (r : Result A ℕ) → kept_state (told_answer s reply r).1 ≡ s
  same_left (Ok a) = kept_state_good s g
  same_left (Err e) = kept_state_good s g

  pub show_tells : ((r : Reply) → IsHurtReply s m r → seen_by r ≡ Some (Err EIO))
      → ((t : Tree) → IsPartDone s m t → t ≡ s.tree)
      → Tells seen_by s m (view told, s) Untouched
  show_tells hurt leaves = record {
    seen = ap (λ (x : Reply × ServerState). seen_by x.0) is ∙ seen told;
    state = ap (λ (x : Reply × ServerState). kept_state x.1) is ∙ same_left told;
    whole = refl;
    hurt = hurt;
    leaves = leaves;
  }

-- ---- what a call gives

module _ {R A E : Type 0} {view : R → Result A ℕ} {told : Result A ℕ × ServerState}
    {part : Tree → Tree → Type 0} {m sent : Message} {seen_by : Reply → Option (Result A ℕ)}
    {old new : Moment} (tells : Tells seen_by old.state m told part) (is : sent ≡ m) where
  pub gives_answer : {r : Reply} (given : R) → IsExchanged sent r old new
      → seen_by r ≡ Some (view given) → Keeps old new
      → Gives {E = E} view told part (Ok given) old new
  gives_answer {r} given e seen kept = record {
    answer = answered tells (subst (λ (m : Message). IsExchanged m r old new) is e) seen;
    unfinished = tt;
    kept = kept;
  }

  pub gives_unfinished : (result : Result R E) (e : E) → result ≡ Err e
      → IsUnfinishedAt sent old new → Keeps old new → Gives view told part result old new
  gives_unfinished result e failed left kept =
      let whole : IsUnfinishedAt m old new =
      subst (λ (m : Message). IsUnfinishedAt m old new) is left in
      subst (λ (r : Result R E). Gives view told part r old new) (sym failed) (record {
        answer = tt;
        unfinished = unfinished tells new.state old.faults new.faults whole;
        kept = kept;
      })

-- without memory for the message nothing was asked
pub gives_nothing : {R A E : Type 0} {view : R → Result A ℕ} {told : Result A ℕ × ServerState}
    {part : Tree → Tree → Type 0} {now : Moment} (result : Result R E) (e : E) → result ≡ Err e
    → part now.state.tree now.state.tree → Gives view told part result now now
gives_nothing {view = view} {told = told} {part = part} {now = now} result e failed same =
    subst (λ r. Gives view told part r now now) (sym failed)
    (record { answer = tt; unfinished = same; kept = keeps_refl now })

-- ---- files that are made, and attributes that are set

module _ (s : ServerState) (g : IsGoodServer s) (fid flags : ℕ) where
  created_seen : (r : Result (ℕ × Tree) ℕ)
      → create_view (lcreate_answer s fid flags r).0 ≡ Some (created s fid flags r).0
  created_seen (Ok (ino, t)) = refl
  created_seen (Err e) = refl

  created_left : (r : Result (ℕ × Tree) ℕ)
      → kept_state (lcreate_answer s fid flags r).1 ≡ (created s fid flags r).1
  created_left (Ok (ino, t)) = refl
  created_left (Err e) = kept_state_good s g

  pub create_tells : (name : List ℕ) (mode gid : ℕ)
      → Tells create_view s (t_lcreate fid name flags mode gid) (created_told s fid name flags mode)
      (OldOrTold (created_told s fid name flags mode))
  create_tells name mode gid =
      let r : Result (ℕ × Tree) ℕ = by_fid (λ f. new_file_of s.tree f.ino name flags mode)
      (map.get s.fids fid) in
      record {
        seen = created_seen r;
        state = created_left r;
        whole = inr refl;
        hurt = λ r h. ap create_view h;
        leaves = λ t h. ⊎_elim (λ same. inl same)
            (λ e. inr (e ∙ ap (λ (x : ServerState). x.tree) (created_left r))) h;
      }

  -- ---- files that may be emptied

  emptied_seen : (f : Fid) (r : Result (Unit {0} × Tree) ℕ)
      → open_view (lopen_answer s fid flags f r).0 ≡ Some (opened_or_emptied s fid flags f r).0
  emptied_seen f (Ok (u, t)) = refl
  emptied_seen f (Err e) = refl

  emptied_left : (f : Fid) (r : Result (Unit {0} × Tree) ℕ)
      → kept_state (lopen_answer s fid flags f r).1 ≡ (opened_or_emptied s fid flags f r).1
  emptied_left f (Ok (u, t)) = refl
  emptied_left f (Err e) = kept_state_good s g

  seen_of_fid : (o : Option Fid)
      → open_view (lopen_by s fid flags o).0 ≡ Some (emptied_by s fid flags o).0
  seen_of_fid None = refl
  seen_of_fid (Some f) = emptied_seen f (open_of s.tree f.ino flags)

  left_of_fid : (o : Option Fid)
      → kept_state (lopen_by s fid flags o).1 ≡ (emptied_by s fid flags o).1
  left_of_fid None = kept_state_good s g
  left_of_fid (Some f) = emptied_left f (open_of s.tree f.ino flags)

  pub emptied_tells : Tells open_view s (t_lopen fid flags) (emptied_told s fid flags)
      (OldOrTold (emptied_told s fid flags))
  emptied_tells = record {
    seen = seen_of_fid (map.get s.fids fid);
    state = left_of_fid (map.get s.fids fid);
    whole = inr refl;
    hurt = λ r h. ap open_view h;
    leaves = λ t h. ⊎_elim (λ same. inl same)
        (λ e. inr (e ∙ ap (λ (x : ServerState). x.tree) (left_of_fid (map.get s.fids fid)))) h;
  }

set_seen : (r : Result (Unit {0}) ℕ) → done (setattr_reply r) ≡ r
set_seen (Ok u) = refl
set_seen (Err e) = refl

module _ (s : ServerState) (g : IsGoodServer s) (m : Tsetattr) where
  all_seen : (o : Option Fid)
      → done_view (setattr_by s (changes_of m) o).0 ≡ Some (set_by s (changes_of m) o).0
  all_seen None = refl
  all_seen (Some f) = ap Some (set_seen (run (steps (changes_of m) f) s.tree).0)

  set_left : (o : Option Fid)
      → kept_state (setattr_by s (changes_of m) o).1 ≡ (set_by s (changes_of m) o).1
  set_left None = kept_state_good s g
  set_left (Some f) = refl

  pub set_tells : Tells done_view s (message_of (variant.SetAttr m))
      (set_told s (changes_of m) m.fid) (FrontOrTold s (changes_of m) m.fid)
  set_tells = record {
    seen = all_seen (map.get s.fids m.fid);
    state = set_left (map.get s.fids m.fid);
    whole = inl refl;
    hurt = λ r h. ap done_view h;
    leaves = λ t h. inr h;
  }
