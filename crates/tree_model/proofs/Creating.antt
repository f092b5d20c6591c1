-- A good tree stays good where a name is given and times are stamped.
use Rattle.std.proofs.Common.{◌≡◌, ◌≢◌, ℕ, Bool, List, refl, ap, subst, Option, Some, None, Ok}
use Rattle.std.proofs.Common.{arith}
use Rattle.std.specs.FinMap.{get}
use Rattle.port_base.specs.Names.{name_fault}
use Rattle.tree_model.specs.declared.attributes.Stamp.{Stamp}
use Rattle.tree_model.specs.Tree.{Tree, Record, body_at, is_linked}
use Rattle.tree_model.specs.Good.{IsAt, IsGoodStamp, IsGoodTree}
use Rattle.tree_model.specs.Sound.{IsKept, AreStored}
use Rattle.tree_model.specs.Placing.{IsNew, with_record, link_refused, with_link}
use Rattle.tree_model.specs.Making.{changed, unless_refused, create_refused}
use Rattle.tree_model.specs.Attributing.{with_changed, restamped}
use Rattle.tree_model.specs.Creating.{stamped, with_new, with_name, empty_file, empty_directory}
use Rattle.tree_model.proofs.Altering.{IsAltered, altered_kept, altered_stored}
use Rattle.tree_model.proofs.Attributing.{same_body, changed_good, restamped_good, low_mode}
use Rattle.tree_model.proofs.Placing.{new_directory, with_record_good, with_record_kept_more}
use Rattle.tree_model.proofs.Placing.{with_record_stored_more}
use Rattle.tree_model.proofs.Joining.{named_in, with_link_good, with_link_kept, with_link_stored}

pub stamped_alters : (t : Tree) → IsGoodTree t → (ino : ℕ) (r : Record) → IsAt t.records ino r
    → IsAltered t ino r (stamped t.moment r)
stamped_alters t g ino r at = let w = g.records ino r at in
    same_body t ino r _ at refl refl (record {
      body = w.body;
      mode = w.mode;
      links =
          w.links;
      atime = w.atime;
      mtime = g.moment;
      ctime = g.moment;
    })

pub made_good : {A : Type 0} (o : Option ℕ) (a b : A) (t u : Tree)
    → unless_refused o a t ≡ Ok (b, u) → (o ≡ None → IsGoodTree t) → IsGoodTree u
made_good (Some e) a b t u is good = absurd (cc)
made_good {A} None a b t u is good =
    let both : ◌≡◌ {A = A × Tree} (a, t) (b, u) = cc in
    subst IsGoodTree (ap (λ (p : A × Tree). p.1) both) (good refl)

pub new_file : (moment : Stamp) (mode dir : ℕ) → IsGoodStamp moment
    → IsNew dir (empty_file moment mode)
new_file moment mode dir stamp = record {
  good = record {
    body = omega arith;
    mode = low_mode mode;
    links = omega arith;
    atime =
        stamp;
    mtime = stamp;
    ctime = stamp;
  };
  lists = refl;
  shows = refl;
  under = λ es next up is. absurd (cc);
}

pub new_empty_directory : (moment : Stamp) (mode dir : ℕ) → IsGoodStamp moment
    → IsNew dir (empty_directory moment mode dir)
new_empty_directory moment mode dir stamp = new_directory moment _ 0 0 dir stamp (low_mode mode)

-- what is linked or held stays so where one record changes
module _ (t : Tree) (g : IsGoodTree t) (f : Record → Record) (ino : ℕ)
    (alters : (r : Record) → IsAt t.records ino r → IsAltered t ino r (f r)) (held : ℕ → Bool) where
  pub changed_kept : IsKept t.records held → IsKept (with_changed f ino t).records held
  changed_kept k = by_record (get t.records ino) refl where
    by_record : (o : Option Record) → get t.records ino ≡ o
        → IsKept (changed f o t.records ino) held
    by_record None at = k
    by_record (Some r) at = altered_kept t g ino r (f r) (alters r at) held k

  pub changed_stored : AreStored t.records held → AreStored (with_changed f ino t).records held
  changed_stored s = by_record (get t.records ino) refl where
    by_record : (o : Option Record) → get t.records ino ≡ o
        → AreStored (changed f o t.records ino) held
    by_record None at = s
    by_record (Some r) at = altered_stored t g ino r (f r) (alters r at) held s

-- ---- a record more

module _ (t : Tree) (g : IsGoodTree t) (dir : ℕ) (name : List ℕ) (r : Record) (new : IsNew dir r)
    (free : create_refused t dir name ≡ None) (fine : name_fault name ≡ None) where
  abbrev more : Tree
  more = with_record t dir name r

  more_good : IsGoodTree more
  more_good = with_record_good t g dir name free r new fine

  pub with_new_good : IsGoodTree (with_new t dir name r)
  with_new_good = changed_good more more_good (stamped t.moment) dir
      (stamped_alters more more_good dir)

  -- the holds that were there, and any of the new record
  module _ (held held' : ℕ → Bool) (other : (q : ℕ) → q ≢ t.next → held' q ≡ held q) where
    pub with_new_kept : IsKept t.records held → IsKept (with_new t dir name r).records held'
    with_new_kept k = changed_kept more more_good (stamped t.moment) dir
        (stamped_alters more more_good dir) held'
        (with_record_kept_more t g dir name free r new held held' other k)

    pub with_new_stored : AreStored t.records held → AreStored (with_new t dir name r).records held'
    with_new_stored s = changed_stored more more_good (stamped t.moment) dir
        (stamped_alters more more_good dir) held'
        (with_record_stored_more t g dir name free r new held held' other s)

-- ---- one more name

module _ (t : Tree) (g : IsGoodTree t) (dir ino : ℕ) (name : List ℕ)
    (free : link_refused (is_linked t.records dir) t.limits name (body_at t.records dir)
    (get t.records ino) ≡ None) (fine : name_fault name ≡ None) where
  abbrev joined : Tree
  joined = with_link t dir name ino

  joined_good : IsGoodTree joined
  joined_good = with_link_good t g dir ino name (named_in t.records t.limits dir ino name free) fine

  abbrev touched : Tree
  touched = with_changed (restamped t.moment) ino joined

  touched_good : IsGoodTree touched
  touched_good = changed_good joined joined_good (restamped t.moment) ino
      (restamped_good joined joined_good ino)

  pub with_name_good : IsGoodTree (with_name t dir name ino)
  with_name_good = changed_good touched touched_good (stamped t.moment) dir
      (stamped_alters touched touched_good dir)

  pub with_name_kept : (held : ℕ → Bool) → IsKept t.records held
      → IsKept (with_name t dir name ino).records held
  with_name_kept held k = changed_kept touched touched_good (stamped t.moment) dir
      (stamped_alters touched touched_good dir) held
      (changed_kept joined joined_good (restamped t.moment) ino
      (restamped_good joined joined_good ino) held
      (with_link_kept t g dir ino name (named_in t.records t.limits dir ino name free) held k))

  pub with_name_stored : (held : ℕ → Bool) → AreStored t.records held
      → AreStored (with_name t dir name ino).records held
  with_name_stored held s = changed_stored touched touched_good (stamped t.moment) dir
      (stamped_alters touched touched_good dir) held
      (changed_stored joined joined_good (restamped t.moment) ino
      (restamped_good joined joined_good ino) held
      (with_link_stored t g dir ino name (named_in t.records t.limits dir ino name free) held
      s))
