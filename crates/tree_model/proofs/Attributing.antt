-- Calls on attributes leave a good tree.
use Rattle.std.proofs.Common.{◌≡◌, ℕ, ◌%◌, ◌<◌, Bool, true, false, cond, ◌&&◌, refl, sym, ap, ◌∙◌}
use Rattle.std.proofs.Common.{subst, Option, Some, None, Ok, arith}
use Rattle.std.specs.Prelude.{option_map}
use Rattle.std.proofs.lemmas.Bool.Decides.{nat_tests}
use Rattle.std.specs.FinMap.{get}
use Rattle.port_base.specs.declared.errno.TheConstants.{EINVAL}
use Rattle.tree_model.specs.declared.attributes.Stamp.{Stamp}
use Rattle.tree_model.specs.declared.attributes.TimeSet.{TimeSet}
use Rattle.tree_model.specs.declared.attributes.TimeSet.TheVariants.{Keep, Now, At}
use Rattle.tree_model.specs.Tree.{Tree, Record, Body, body_at, listed, is_directory}
use Rattle.tree_model.specs.Good.{IsAt, IsGoodStamp, IsGoodRecord, IsGoodTree, links_of}
use Rattle.tree_model.specs.Sound.{IsKept, AreStored}
use Rattle.tree_model.specs.Making.{changed, change, unless_refused}
use Rattle.tree_model.specs.Attributing.{with_changed, refused_at, is_timely, time_after}
use Rattle.tree_model.specs.Attributing.{times_refused, retimed}
use Rattle.tree_model.proofs.Altering.{IsAltered, altered_good, altered_kept, altered_stored}

-- a record whose body and links stay
pub same_body : (t : Tree) (ino : ℕ) (r r' : Record) → IsAt t.records ino r → r'.body ≡ r.body
    → r'.links ≡ r.links → IsGoodRecord r' → IsAltered t ino r r'
same_body t ino r r' at body links good = record {
  at = at;
  good = good;
  same_links = links;
  lists = ap listed body;
  shows = λ n linked. ap (λ b. links_of b n linked) body;
  directory = ap is_directory body;
  place = λ es n up is. sym body ∙ is;
  placed = λ es n up is. body ∙ is;
}

pub changed_good : (t : Tree) → IsGoodTree t → (f : Record → Record) (ino : ℕ)
    → ((r : Record) → IsAt t.records ino r → IsAltered t ino r (f r))
    → IsGoodTree (with_changed f ino t)
changed_good t g f ino alters = by_record (get t.records ino) refl where
  by_record : (o : Option Record) → get t.records ino ≡ o
      → IsGoodTree (record t { records = changed f o t.records ino })
  by_record None at = g
  by_record (Some r) at = altered_good t g ino r (f r) (alters r at)

pub changing_good : {A : Type 0} (a b : A) (f : Record → Record) (ino : ℕ) (t u : Tree)
    (o : Option ℕ) → unless_refused o a (with_changed f ino t) ≡ Ok (b, u)
    → IsGoodTree (with_changed f ino t) → IsGoodTree u
changing_good a b f ino t u (Some e) is good = absurd (cc)
changing_good {A} a b f ino t u None is good =
    let both : ◌≡◌ {A = A × Tree} (a, with_changed f ino t) (b, u) = cc in
    subst IsGoodTree (ap (λ (p : A × Tree). p.1) both) good

module _ (t : Tree) (g : IsGoodTree t) (ino : ℕ) where
  pub restamped_good : (r : Record) → IsAt t.records ino r
      → IsAltered t ino r (record r { ctime = t.moment })
  restamped_good r at = let w = g.records ino r at in
      same_body t ino r _ at refl refl (record {
        body = w.body;
        mode = w.mode;
        links = w.links;
        atime = w.atime;
        mtime = w.mtime;
        ctime =
            g.moment;
      })

  pub owned_good : (uid gid : ℕ) (r : Record) → IsAt t.records ino r
      → IsAltered t ino r (record r { uid = uid; gid = gid; ctime = t.moment })
  owned_good uid gid r at = let w = g.records ino r at in
      same_body t ino r _ at refl refl (record {
        body = w.body;
        mode = w.mode;
        links = w.links;
        atime = w.atime;
        mtime = w.mtime;
        ctime =
            g.moment;
      })

  pub mode_good : (mode : ℕ) → mode < 4096 → (r : Record) → IsAt t.records ino r
      → IsAltered t ino r (record r { mode = mode; ctime = t.moment })
  mode_good mode low r at = let w = g.records ino r at in
      same_body t ino r _ at refl refl (record {
        body = w.body;
        mode = low;
        links = w.links;
        atime = w.atime;
        mtime = w.mtime;
        ctime =
            g.moment;
      })

pub low_mode : (mode : ℕ) → mode % 4096 < 4096
low_mode mode = omega arith

-- ---- calls that may be refused

changing_free : {A : Type 0} (a b : A) (f : Record → Record) (ino : ℕ) (t u : Tree) (o : Option ℕ)
    → unless_refused o a (with_changed f ino t) ≡ Ok (b, u) → o ≡ None
changing_free a b f ino t u (Some e) is = absurd (cc)
changing_free a b f ino t u None is = refl

-- what isn't refused at an inode isn't refused for the body that is there
pub not_refused : (t : Tree) (ino : ℕ) (r : Record) (refused : Body → Option ℕ)
    → IsAt t.records ino r → refused_at refused (body_at t.records ino) ≡ None
    → refused r.body ≡ None
not_refused t ino r refused at free = sym (ap
    (λ o. refused_at refused (option_map (λ (r : Record). r.body) o)) at) ∙ free

-- a call that changes a record so that the tree stays good, wherever it isn't refused
abbrev pub Amends : Tree → ℕ → (Body → Option ℕ) → (Record → Record) → Type 0
Amends t ino refused f = (r : Record) → IsAt t.records ino r → refused r.body ≡ None
    → IsAltered t ino r (f r)

module _ (t : Tree) (g : IsGoodTree t) (ino : ℕ) (refused : Body → Option ℕ) (f : Record → Record)
    (amends : Amends t ino refused f) where
  pub call_good : {A : Type 0} (a b : A) (u : Tree)
      → unless_refused (refused_at refused (body_at t.records ino)) a (with_changed f ino t) ≡ Ok
      (b, u) → IsGoodTree u
  call_good a b u is =
      let free = changing_free a b f ino t u (refused_at refused (body_at t.records ino)) is in
      changing_good a b f ino t u (refused_at refused (body_at t.records ino)) is
      (changed_good t g f ino (λ r at. amends r at (not_refused t ino r refused at free)))

  module _ (free : refused_at refused (body_at t.records ino) ≡ None) where
    pub amended_good : IsGoodTree (with_changed f ino t)
    amended_good = changed_good t g f ino (λ r at. amends r at
        (not_refused t ino r refused at free))

    pub amended_kept : (held : ℕ → Bool) → IsKept t.records held
        → IsKept (change f t.records ino) held
    amended_kept held k = by_record (get t.records ino) refl where
      by_record : (o : Option Record) → get t.records ino ≡ o
          → IsKept (changed f o t.records ino) held
      by_record None at = k
      by_record (Some r) at = altered_kept t g ino r (f r)
          (amends r at (not_refused t ino r refused at free)) held k

    pub amended_stored : (held : ℕ → Bool) → AreStored t.records held
        → AreStored (change f t.records ino) held
    amended_stored held s = by_record (get t.records ino) refl where
      by_record : (o : Option Record) → get t.records ino ≡ o
          → AreStored (changed f o t.records ino) held
      by_record None at = s
      by_record (Some r) at = altered_stored t g ino r (f r)
          (amends r at (not_refused t ino r refused at free)) held s

-- ---- times

timely_good : (time : TimeSet) (moment old : Stamp) → is_timely time ≡ true → IsGoodStamp moment
    → IsGoodStamp old → IsGoodStamp (time_after time moment old)
timely_good Keep moment old is now was = was
timely_good Now moment old is now was = now
timely_good (At stamp) moment old is now was = grind (arith, nat_tests)

both_timely : (a m : Bool) → cond (a && m) None (Some EINVAL) ≡ None → (a ≡ true) × (m ≡ true)
both_timely true true is = (refl, refl)
both_timely true false is = absurd (cc)
both_timely false m is = absurd (cc)

pub retimed_good : (t : Tree) → IsGoodTree t → (ino : ℕ) (atime mtime : TimeSet)
    → Amends t ino (times_refused atime mtime) (retimed atime mtime t.moment)
retimed_good t g ino atime mtime r at free =
    let w = g.records ino r at in
    let both = both_timely (is_timely atime) (is_timely mtime) free in
    same_body t ino r _ at refl refl (record {
      body = w.body;
      mode = w.mode;
      links = w.links;
      atime = timely_good atime t.moment r.atime both.0 g.moment w.atime;
      mtime = timely_good mtime t.moment r.mtime both.1 g.moment w.mtime;
      ctime = g.moment;
    })
