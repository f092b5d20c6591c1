-- What a server tells of an inode has room in FUSE's fields.
use Rattle.std.proofs.Common.{◌≡◌, ℕ, refl, sym, ap, ◌∙◌, subst, Option, Some, None, Result, Ok}
use Rattle.std.proofs.Common.{arith, IsSome, ⊎_elim}
use Rattle.std.proofs.lemmas.Bool.{false≢true}
use Rattle.std.specs.FinMap.{get}
use Rattle.tree_model.specs.Tree.{Record}
use Rattle.tree_model.specs.Attributes.{attr_of, attr_or_missing}
use Rattle.tree_model.specs.Settings.{shown_of, shown_told}
use Rattle.p9_rmsg.specs.Replies.{Attributes}
use Rattle.fid_model.specs.Fids.{ServerState, Fid, IsGoodServer}
use Rattle.fid_model.specs.Answers.{attributes_of as attributes_shown}
use Rattle.fid_model.specs.Moments.{Moment}
use Rattle.fid_model.proofs.FidCounts.{fid_count-named}
use Rattle.p9_client.specs.Views.{attributes_told, laid_out}
use Rattle.fuse_gate.specs.Replies.{HasShortFields}
use Rattle.fuse_gate.proofs.Asking.{Tells, tells_as}
use Rattle.fuse_gate.proofs.Held.{test}

pub some_value : {X : Type 0} (o : Option X) → IsSome o → (x : X) × (o ≡ Some x)
some_value None h = absurd (false≢true h)
some_value (Some x) h = (x, refl)

module _ (s : ServerState) (good : IsGoodServer s) where
  -- what a fid names is stored
  pub fid_stored : (fid : ℕ) (f : Fid) → get s.fids fid ≡ Some f → (r : Record)
      × (get s.tree.records f.ino ≡ Some r)
  fid_stored fid f at = some_value _ (good.stored f.ino (test _ (fid_count-named s.fids fid f at)))

  shown_short : (i : ℕ) (r : Record) → get s.tree.records i ≡ Some r
      → HasShortFields (attributes_shown (shown_of s.settings (attr_of i r)))
  shown_short i r at =
      let ok = good.tree.records i r at in
      record {
        links = (let h = ok.links in omega arith);
        atime =
            (let h = ok.atime in omega arith);
        mtime = (let h = ok.mtime in omega arith);
        ctime =
            (let h = ok.ctime in omega arith);
      }

module _ (n n1 : Moment) (good : IsGoodServer n.state) (fid : ℕ) where
  told_short : (i : ℕ) (a : Attributes) (r : Record) → get n.state.tree.records i ≡ Some r
      → Tells (attributes_told n.state i) (Ok a) n n1 → HasShortFields a
  told_short i a r at tells = ⊎_elim
      (λ e.
      let is : Ok a ≡ Ok (attributes_shown (shown_of n.state.settings (attr_of i r))) =
      ap (λ (x : Result Attributes ℕ × ServerState). x.0) e
      ∙ ap (λ o. laid_out (shown_told n.state.settings (attr_or_missing i o))) at in
      let same : a ≡ attributes_shown (shown_of n.state.settings (attr_of i r)) = cc in
      subst HasShortFields (sym same) (shown_short n.state good i r at))
      (λ k. absurd (let clash = k.1 in cc)) tells

  pub short_fields : (answer : Result Attributes ℕ) (a : Attributes) → IsSome (get n.state.fids fid)
      → answer ≡ Ok a
      → ((f : Fid) → get n.state.fids fid ≡ Some f
      → Tells (attributes_told n.state f.ino) answer n n1) → HasShortFields a
  short_fields answer a known is tells =
      let f = some_value (get n.state.fids fid) known in
      let r = fid_stored n.state good fid f.0 f.1 in
      told_short f.0.ino a r.0 r.1 (tells_as (attributes_told n.state f.0.ino) answer (Ok a) n n1 is
      (tells f.0 f.1))
