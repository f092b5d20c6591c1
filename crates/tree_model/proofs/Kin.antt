-- What is alike in the records of a tree before and after one record changes.
use Rattle.std.proofs.Common.{◌≡◌, ◌≢◌, ℕ, ◌+◌, Bool, List, refl, sym, ap, ◌∙◌, subst, Option, Some}
use Rattle.std.proofs.Common.{None, ◌⊎◌, inl, inr, ⊎_elim, arith}
use Rattle.std.specs.Prelude.{option_map, Contains}
use Rattle.std.proofs.lemmas.Bool.{cases_eq}
use Rattle.std.specs.FinMap.{get}
use Rattle.tree_model.specs.Tree.{Record, Records, DirEntry, listed, is_directory, name_count}
use Rattle.tree_model.specs.Tree.{names_in, count_names, weight}
use Rattle.tree_model.specs.Tree.Body.{Directory}
use Rattle.tree_model.specs.Good.{IsAt, IsGoodRecord, links_of}
use Rattle.tree_model.specs.Making.{change, changed}
use Rattle.tree_model.proofs.Changing.{change_at, change_keeps}
use Rattle.tree_model.proofs.Counting.{weigh-insert}
use Rattle.tree_model.proofs.Bodies.{same_some}

-- ---- one record changed

mapped_some : (f : Record → Record) (o : Option Record) (x : Record) → option_map f o ≡ Some x
    → (r : Record) × (o ≡ Some r) × (x ≡ f r)
mapped_some f None x is = absurd (cc)
mapped_some f (Some r) x is = (r, refl, sym (same_some (f r) x is))

-- what stands at a number after a change stood there before, changed or not
pub change_from : (f : Record → Record) (rs : Records) (i q : ℕ) (x : Record)
    → IsAt (change f rs i) q x → (r : Record) × IsAt rs q r
    × (((q ≡ i) × (x ≡ f r)) ⊎ ((q ≢ i) × (x ≡ r)))
change_from f rs i q x at = ⊎_elim
    (λ is.
    let was = mapped_some f (get rs i) x (sym (change_at f rs i) ∙ ap (get (change f rs i)) (sym is)
    ∙ at) in
    (was.0, ap (get rs) is ∙ was.1, inl (is, was.2)))
    (λ ne. (x, sym (change_keeps f rs i q ne) ∙ at, inr (ne, refl)))
    (cases_eq q i)

-- and what stood there stands there
pub change_to : (f : Record → Record) (rs : Records) (i q : ℕ) (r : Record) → IsAt rs q r
    → (x : Record) × IsAt (change f rs i) q x
change_to f rs i q r at = ⊎_elim
    (λ is. (
      f r,
      ap (get (change f rs i)) is ∙ change_at f rs i
          ∙ ap (option_map f) (sym (ap (get rs) is) ∙ at),
    ))
    (λ ne. (r, change_keeps f rs i q ne ∙ at))
    (cases_eq q i)

pub change_counts : (f : Record → Record) (rs : Records) (i q : ℕ) (r : Record) → IsAt rs i r
    → name_count (change f rs i) q + names_in q r ≡ name_count rs q + names_in q (f r)
change_counts f rs i q r at =
    let is = ap (λ o. name_count (changed f o rs i) q) at in
    let one = weigh-insert (names_in q) rs i (f r) in
    let had = ap (weight (names_in q)) at in
    omega arith

pub same_counts : (f : Record → Record) (rs : Records) (i q : ℕ)
    → ((r : Record) → names_in q (f r) ≡ names_in q r)
    → name_count (change f rs i) q ≡ name_count rs q
same_counts f rs i q same = by_record (get rs i) refl where
  by_record : (o : Option Record) → get rs i ≡ o → name_count (changed f o rs i) q ≡ name_count rs q
  by_record None at = refl
  by_record (Some r) at =
      let one = weigh-insert (names_in q) rs i (f r) in
      let had = ap (weight (names_in q)) at in
      let is = same r in
      omega arith

pub all_good : (f : Record → Record) (rs : Records) (i : ℕ)
    → ((q : ℕ) (r : Record) → IsAt rs q r → IsGoodRecord r)
    → ((r : Record) → IsAt rs i r → IsGoodRecord (f r)) → (q : ℕ) (x : Record)
    → IsAt (change f rs i) q x → IsGoodRecord x
all_good f rs i good makes q x at =
    let was = change_from f rs i q x at in
    ⊎_elim
    (λ is. subst IsGoodRecord (sym is.1) (makes was.0 (subst (λ q. IsAt rs q was.0) is.0 was.1)))
    (λ is. subst IsGoodRecord (sym is.1) (good q was.0 was.1))
    was.2

-- ---- what is alike in a record before and after

-- a record and what becomes of it: only the names of one inode may differ, only in two directories,
-- and only what moves may stand elsewhere
pub record IsKin (olddir newdir ino q : ℕ) (r x : Record) : Type 0 where
  pub directory : is_directory x.body ≡ is_directory r.body
  pub links : x.links ≡ r.links
  pub shows : (n : ℕ) (linked : Bool) → links_of x.body n linked ≡ links_of r.body n linked
  pub names : (i : ℕ) → i ≢ ino → names_in i x ≡ names_in i r
  pub entries : (e : DirEntry) → Contains (listed x.body) e → Contains (listed r.body) e
      ⊎ (e.ino ≡ ino)
  pub lists : q ≢ olddir → q ≢ newdir → listed x.body ≡ listed r.body
  pub place : q ≢ ino → (es : List DirEntry) (n up : ℕ) → x.body ≡ Directory es n up
      → (fs : List DirEntry) × (m : ℕ) × (r.body ≡ Directory fs m up)
  pub stays : q ≢ ino → (es : List DirEntry) (n up : ℕ) → r.body ≡ Directory es n up
      → (fs : List DirEntry) × (m : ℕ) × (x.body ≡ Directory fs m up)

module _ (olddir newdir ino q : ℕ) where
  -- the body stays
  pub same_kin : (r x : Record) → x.body ≡ r.body → x.links ≡ r.links
      → IsKin olddir newdir ino q r x
  same_kin r x body links = record {
    directory = ap is_directory body;
    links = links;
    shows = λ n linked. ap (λ b. links_of b n linked) body;
    names = λ i ne. ap (λ b. count_names i (listed b)) body;
    entries = λ e c. inl (subst (λ b. Contains (listed b) e) body c);
    lists = λ no nn. ap listed body;
    place = λ ne es n up is. (es, n, sym body ∙ is);
    stays = λ ne es n up is. (es, n, body ∙ is);
  }

  pub kin_trans : (r x y : Record) → IsKin olddir newdir ino q r x → IsKin olddir newdir ino q x y
      → IsKin olddir newdir ino q r y
  kin_trans r x y k l = record {
    directory = l.directory ∙ k.directory;
    links = l.links ∙ k.links;
    shows = λ n linked. l.shows n linked ∙ k.shows n linked;
    names = λ i ne. l.names i ne ∙ k.names i ne;
    entries = λ e c. ⊎_elim (λ c. k.entries e c) (λ is. inr is) (l.entries e c);
    lists = λ no nn. l.lists no nn ∙ k.lists no nn;
    place = λ ne es n up is. let mid = l.place ne es n up is in k.place ne mid.0 mid.1 up mid.2;
    stays = λ ne es n up is. let mid = k.stays ne es n up is in l.stays ne mid.0 mid.1 up mid.2;
  }

pub step_kin : (olddir newdir ino : ℕ) (f : Record → Record) (rs : Records) (i : ℕ)
    → ((r : Record) → IsAt rs i r → IsKin olddir newdir ino i r (f r))
    → (q : ℕ) (x : Record) → IsAt (change f rs i) q x → (r : Record) × IsAt rs q r
    × IsKin olddir newdir ino q r x
step_kin olddir newdir ino f rs i kin q x at =
    let was = change_from f rs i q x at in (
      was.0,
      was.1,
      ⊎_elim
          (λ is. subst (λ x. IsKin olddir newdir ino q was.0 x) (sym is.1)
          (subst (λ q. IsKin olddir newdir ino q was.0 (f was.0)) (sym is.0)
          (kin was.0 (subst (λ q. IsAt rs q was.0) is.0 was.1))))
          (λ is. same_kin olddir newdir ino q was.0 x (ap (λ (r : Record). r.body) is.1)
          (ap (λ (r : Record). r.links) is.1))
          was.2,
    )
