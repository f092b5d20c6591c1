-- Treaddir: the page of a directory that a fid has open, or all is as it was.
use Rattle.std.proofs.Common.{◌≡◌, ℕ, Bool, true, false, cond, not, List, ap, ◌∙◌, refl}
use Rattle.std.proofs.Common.{Some, Result, Ok, Err}
use Rattle.std.specs.Result.{IsErrAnd}
use Rattle.std.specs.FinMap.{get}
use Rattle.port_base.specs.declared.errno.TheConstants.{EBADF, ENOTDIR}
use Rattle.tree_model.specs.Tree.{Tree, body_at, is_directory_at}
use Rattle.tree_model.specs.Sound.{IsKept}
use Rattle.tree_model.specs.Settings.{Settings}
use Rattle.tree_model.specs.declared.attributes.HostError.{HostError}
use Rattle.tree_model.specs.declared.attributes.HostError.TheVariants.{Errno}
use Rattle.tree_host.specs.Host.{Answers}
use Rattle.tree_host.specs.Calls.{Causes}
use Rattle.p9_rmsg.specs.Replies.{Reply}
use Rattle.p9_rmsg.specs.Replies.Reply.{readdir as was_listed}
use Rattle.p9_tmsg.specs.Messages.Message.{readdir}
use Rattle.fid_model.specs.Fids.{Fids, Fid, ServerState, is_open, is_held as is_named}
use Rattle.fid_model.specs.FidCalls.{by_fid}
use Rattle.fid_model.specs.Listings.{listed_page, page_by, page_room}
use Rattle.p9_server.specs.Paging.{page_told}
use Rattle.p9_server.specs.Steps.{IsStep, server_state, ino_told, open_told}
use Rattle.p9_server.proofs.Showing.{passed_on}
use Rattle.p9_server.proofs.Asking.{by_known, told_step, refused_so, failed_step}

-- ---- by whether it is a directory, and is open

abbrev Told : Type 0
Told = Result (List ℕ) ℕ

abbrev answer_for : Bool → Bool → List ℕ → Told
answer_for directory opened page =
    cond (not directory) (Err ENOTDIR) (cond opened (Ok page) (Err EBADF))

abbrev page_for : Bool → List ℕ → Told
page_for directory page = cond directory (Ok page) (Err ENOTDIR)

no_page : (d o : Bool) (page : List ℕ) (k : ℕ) → page_for d page ≡ Err k
    → answer_for d o page ≡ Err k
no_page true o page k is = absurd (cc)
no_page false o page k is = is

abbrev open_for : Bool → ℕ → Result ℕ HostError
open_for o own = cond {A = Result ℕ HostError} o (Ok own) (Err (Errno EBADF))

a_page : (d o : Bool) (page bytes : List ℕ) (own ino : ℕ) → page_for d page ≡ Ok bytes
    → Ok ino ≡ open_for o own → answer_for d o page ≡ Ok bytes
a_page true true page bytes own ino is had = is
a_page true false page bytes own ino is had = absurd (cc)
a_page false o page bytes own ino is had = absurd (cc)

closed_page : (d o : Bool) (page bytes : List ℕ) (own : ℕ) (e : HostError)
    → page_for d page ≡ Ok bytes → Err e ≡ open_for o own
    → (answer_for d o page ≡ Err EBADF) × (e ≡ Errno EBADF)
closed_page true true page bytes own e is had = absurd (cc)
closed_page true false page bytes own e is had = let same : e ≡ Errno EBADF = cc in (refl, same)
closed_page false o page bytes own e is had = absurd (cc)

module _ (t : Tree) (fids : Fids) (msize : ℕ) (settings : Settings) (n offset count : ℕ)
    (kept : IsKept t.records (is_named fids)) (steady : Bool) (ino : ℕ)
    (known : Ok ino ≡ ino_told (get fids n)) (t' : Tree) (same : t' ≡ t) (f0 f1 : ℕ) where
  abbrev before : ServerState
  before = server_state t fids msize settings

  abbrev after : ServerState
  after = server_state t' fids msize settings

  pub after_listing : after ≡ before
  after_listing j = server_state (same j) fids msize settings

  abbrev room : ℕ
  room = page_room count msize

  abbrev told : Told
  told = by_fid (page_by before offset count) (get fids n)

  abbrev directory : Bool
  directory = is_directory_at (body_at t.records ino)

  abbrev page : List ℕ
  page = listed_page t ino offset room

  found : (f : Fid) × (get fids n ≡ Some f) × (told ≡ page_by before offset count f)
      × (f.ino ≡ ino)
  found = by_known (page_by before offset count) (get fids n) ino known

  abbrev is_opened : Bool
  is_opened = is_open (found.0).open_state

  told_is : told ≡ answer_for directory is_opened page
  told_is = found.2 ∙ ap (λ i. answer_for (is_directory_at (body_at t.records i)) is_opened
      (listed_page t i offset room)) found.3

  -- the host tells none
  pub no_listing_step : {A D : Type 0} (reply : A → Reply) (r : Result A HostError) (e : HostError)
      → IsErrAnd r (λ y. y ≡ e) → Answers (page_told t ino offset room) (Err e)
      → Causes {A = D} steady f0 f1 (Err e)
      → IsStep (readdir n offset count) reply before after steady f0 f1 r
  no_listing_step reply r e passed a c = passed_on
      (λ (r : Result _ HostError). IsStep (readdir n offset count) reply before after steady f0 f1
      r) r e passed
      (failed_step (readdir n offset count) reply was_listed before kept steady told refl after
      after_listing f0 f1 (page_told t ino offset room)
      (λ k none. told_is ∙ no_page directory is_opened page k none) refl e a c)

  module _ {A : Type 0} (reply : A → Reply) (bytes : List ℕ)
      (is : page_told t ino offset room ≡ Ok bytes) (calm : f1 ≡ f0) where
    -- the fid isn't open
    pub closed_listing_step : (r : Result A HostError) (e : HostError) → IsErrAnd r (λ y. y ≡ e)
        → Err e ≡ open_told is_open (get fids n)
        → IsStep (readdir n offset count) reply before after steady f0 f1 r
    closed_listing_step r e passed closed =
        let both = closed_page directory is_opened page bytes (found.0).ino e is
        (closed ∙ ap (open_told is_open) found.1) in
        passed_on (λ (r : Result A HostError). IsStep (readdir n offset count) reply before after
        steady f0 f1 r) r e passed
        (refused_so (readdir n offset count) reply was_listed before kept steady told refl after
        after_listing f0 f1 EBADF e (told_is ∙ both.0, both.1) calm)

    -- it is
    pub listing_step : (i : ℕ) → Ok i ≡ open_told is_open (get fids n) → (a : A)
        → reply a ≡ was_listed bytes
        → IsStep (readdir n offset count) reply before after steady f0 f1 (Ok a)
    listing_step i had a seen = told_step (readdir n offset count) reply was_listed before kept
        steady told refl after after_listing f0 f1 a bytes
        (told_is ∙ a_page directory is_opened page bytes (found.0).ino i is
        (had ∙ ap (open_told is_open) found.1)) seen calm
