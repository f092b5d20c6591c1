-- What a call is told: the machine's answer to its message, in the terms of the call.
use Rattle.std.proofs.Common.{◌≡◌, inl, inr, ⊎_elim, ℕ, true, Result, Ok, Err, Some, None, Option}
use Rattle.std.proofs.Common.{refl, sym, ap, ◌∙◌, subst, IsSome, OnErr}
use Rattle.std.proofs.lemmas.Bool.{false≢true}
use Rattle.std.proofs.lemmas.Option.{same_Some}
use Rattle.std.specs.FinMap as map
use Rattle.port_base.specs.declared.errno.TheConstants.{EIO}
use Rattle.tree_model.specs.Tree.{Tree}
use Rattle.p9_tmsg.specs.Messages.{Message}
use Rattle.p9_rmsg.specs.Replies.{Reply}
use Rattle.fid_model.specs.Fids.{ServerState, Fid, is_readable}
use Rattle.fid_model.specs.Answers.{answer}
use Rattle.fid_model.specs.Handling.{Outcome, IsHurtReply}
use Rattle.fid_model.specs.Parts.{IsPartDone}
use Rattle.fid_model.specs.Moments.{Moment, Asks, Answered, FidAnswered}
use Rattle.fid_model.proofs.Parts.{front_part}
use Rattle.p9_client.specs.Asking.{IsUnfinished, IsExchanged}
use Rattle.p9_client.specs.Opening.{is_readable_at}

-- by a view of replies, the machine's answer and state are those that are told, a fault is EIO, and
-- both leave a part of the tree
pub record Tells {A : Type 0} (view : Reply → Option (Result A ℕ)) (s : ServerState) (m : Message)
    (told : Result A ℕ × ServerState) (part : Tree → Tree → Type 0) : Type 0 where
  pub seen : view (answer s m).0 ≡ Some told.0
  pub state : (answer s m).1 ≡ told.1
  pub whole : part s.tree told.1.tree
  pub hurt : (r : Reply) → IsHurtReply s m r → view r ≡ Some (Err EIO)
  pub leaves : (t : Tree) → IsPartDone s m t → part s.tree t

module _ {A : Type 0} {view : Reply → Option (Result A ℕ)} {s : ServerState} {m : Message}
    {told : Result A ℕ × ServerState} {part : Tree → Tree → Type 0}
    (tells : Tells view s m told part) where
  -- a reply that is seen as an answer
  pub asks : (r : Reply) (s1 : ServerState) (f0 f1 : ℕ) → Outcome s m r s1 f0 f1
      → (given : Result A ℕ) → view r ≡ Some given → Asks told part given s s1 f0 f1
  asks r s1 f0 f1 o given seen = ⊎_elim
      (λ e.
      let same : given ≡ told.0 = same_Some given told.0
      (sym seen ∙ ap (λ (x : Reply × ServerState). view x.0) e ∙ tells.seen) in
      let after : s1 ≡ told.1 = ap (λ (x : Reply × ServerState). x.1) e ∙ tells.state in
      inl (λ j. (same j, after j)))
      (λ h. inr (
        h.0,
        same_Some given (Err EIO) (sym seen ∙ tells.hurt r h.1),
        h.2,
        tells.leaves
            s1.tree h.3,
      ))
      o

  -- no reply of another kind comes
  pub no_other : (r : Reply) (s1 : ServerState) (f0 f1 : ℕ) → Outcome s m r s1 f0 f1 → view r ≡ None
      → ⊥
  no_other r s1 f0 f1 o other = ⊎_elim
      (λ e. let none : Some told.0 ≡ None = sym tells.seen
      ∙ sym (ap (λ (x : Reply × ServerState). view x.0) e) ∙ other in absurd cc)
      (λ h. let eio : Some (Err EIO) ≡ None = sym (tells.hurt r h.1) ∙ other in absurd cc)
      o

  -- out of memory leaves a part of the tree too
  pub unfinished : (s1 : ServerState) (f0 f1 : ℕ) → IsUnfinished s m s1 f0 f1 → part s.tree s1.tree
  unfinished s1 f0 f1 u = ⊎_elim (λ left. tells.leaves s1.tree (front_part s m s1.tree left.1))
      (λ replied. ⊎_elim
      (λ e. subst (λ (x : ServerState). part s.tree x.tree)
      (sym (ap (λ (x : Reply × ServerState). x.1) e ∙ tells.state)) tells.whole)
      (λ h. tells.leaves s1.tree h.3)
      replied.1)
      u

-- ---- a message about a fid

abbrev pub FidTells : {A : Type 0} → (Reply → Option (Result A ℕ)) → ServerState → Message
    → (ServerState → Fid → Result A ℕ × ServerState) → (Tree → Tree → Type 0) → ℕ → Type 0
FidTells view s m told part fid = (f : Fid) → map.get s.fids fid ≡ Some f
    → Tells view s m (told s f) part

pub fid_answered : {A : Type 0} {view : Reply → Option (Result A ℕ)}
    {told : ServerState → Fid → Result A ℕ × ServerState} {part : Tree → Tree → Type 0} {fid : ℕ}
    {m : Message} {r : Reply} {old new : Moment} {given : Result A ℕ}
    → FidTells view old.state m told part fid → IsExchanged m r old new → view r ≡ Some given
    → FidAnswered told part fid given old new
fid_answered {r = r} {old = old} {new = new} {given = given} tells e seen = record {
  asks = λ f known. asks (tells f known) r new.state old.faults new.faults e.outcome given seen;
  asked = e.asked;
}

pub answered : {A : Type 0} {view : Reply → Option (Result A ℕ)} {told : Result A ℕ × ServerState}
    {part : Tree → Tree → Type 0} {m : Message} {r : Reply} {old new : Moment} {given : Result A ℕ}
    → Tells view old.state m told part → IsExchanged m r old new → view r ≡ Some given
    → Answered told part given old new
answered {r = r} {old = old} {new = new} {given = given} tells e seen =
    record {
      asks = asks tells r new.state old.faults new.faults e.outcome given seen;
      asked =
          e.asked;
    }

-- a fid that is there
pub fid_at : (o : Option Fid) → IsSome o → (f : Fid) × (o ≡ Some f)
fid_at None there = absurd (false≢true there)
fid_at (Some f) there = (f, refl)

-- a fid that is open to be read
pub readable_fid_at : (o : Option Fid) → is_readable_at o ≡ true → (f : Fid) × (o ≡ Some f)
    × (is_readable f.open_state ≡ true)
readable_fid_at None reads = absurd (false≢true reads)
readable_fid_at (Some f) reads = (f, refl, reads)

-- the goal of an error, by what holds of it
pub on_err : {A E : Type 0} (r : Result A E) (P : Type 0) → P → OnErr r P
on_err (Ok x) P h = tt
on_err (Err e) P h = h
