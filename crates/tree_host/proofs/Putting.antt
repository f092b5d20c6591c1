-- An entry that is put in the place of the one that has its name.
use Rattle.std.proofs.Common.{◌≡◌, ℕ, ◌+◌, false, cond, List, [], ◌∷◌, ◌++◌, refl, sym}
use Rattle.std.proofs.Common.{ap, ◌∙◌, subst, Option, Some, None, Result, Ok, Err, ⊎_elim}
use Rattle.std.specs.Prelude.{◌-◌, option_map, option_and_then}
use Rattle.std.specs.Result.{result_ok}
use Rattle.std.proofs.lemmas.Bool.{cases_eq}
use Rattle.std.specs.FinMap.{get}
use Rattle.tree_model.specs.declared.attributes.Stamp.{Stamp}
use Rattle.tree_model.specs.Tree.{Record, Records, Body, DirEntry, listed}
use Rattle.tree_model.specs.Tree.Body.{File, Directory, Link}
use Rattle.tree_model.specs.Finding.{entry_named, entries_at, entries_of, ino_among, found_among}
use Rattle.tree_model.specs.Finding.{ino_or_missing}
use Rattle.tree_model.specs.Making.{changed, change, joined_by, with_entries, next_cookie}
use Rattle.tree_model.specs.Creating.{stamped}
use Rattle.tree_model.specs.Unlinking.{without, parted_by, one_name_less}
use Rattle.tree_model.proofs.Maps.{same_gets}
use Rattle.tree_model.proofs.Changing.{change_at, change_keeps}
use Rattle.tree_model.proofs.Bodies.{with_entries-is_directory}
use Rattle.tree_model.proofs.Naming.{found_among-exact}
use Rattle.tree_host.specs.Kept.{IsFree, put_by, displaced_in, replaced_in}
use Rattle.tree_host.proofs.Moving.{parted_body, joined_body, changes_swap, replaced_later}
use Rattle.tree_host.proofs.Indexing.{without_free}

-- ---- where no entry has the name

put_is_joined : (name : List ℕ) (ino : ℕ) (r : Record) → entry_named name (listed r.body) ≡ None
    → put_by name ino r ≡ joined_by name ino r
put_is_joined name ino r free = ap (λ (es : List DirEntry). let made : Record = record r {
  body = with_entries r.body (es ++ (record
      { cookie = next_cookie r.body; name = name; ino = ino } ∷ []))
      (next_cookie r.body + 1);
} in made) (without_free name (listed r.body) free)

pub put_free : (rs : Records) (dir : ℕ) (name : List ℕ) (ino : ℕ) → IsFree rs dir name
    → change (put_by name ino) rs dir ≡ change (joined_by name ino) rs dir
put_free rs dir name ino free = by_record (get rs dir) refl free where
  by_record : (o : Option Record) → get rs dir ≡ o → IsFree rs dir name
      → changed (put_by name ino) o rs dir ≡ changed (joined_by name ino) o rs dir
  by_record None at free = refl
  by_record (Some r) at free = ap (λ r. changed (λ x. r) (Some r) rs dir)
      (put_is_joined name ino r (subst (λ (o : Option Record).
      option_and_then (λ b. entry_named name (listed b)) (option_map (λ (r : Record). r.body) o)
      ≡ None) at free))

-- ---- where the name is replaced

names_puts : (name : List ℕ) (ino : ℕ) (moment : Stamp) (r : Record)
    → one_name_less moment (put_by name ino r) ≡ put_by name ino (one_name_less moment r)
names_puts name ino moment r = ap (λ d. let left : Record = record r {
  body = (put_by name ino r).body;
  links = cond d 0 (r.links - 1);
  ctime = moment;
} in left) (with_entries-is_directory r.body _ _)

bodies_part : (name : List ℕ) (ino : ℕ) (b : Body)
    → with_entries b (without name (listed b)
    ++ (record { cookie = next_cookie b; name = name; ino = ino } ∷ [])) (next_cookie b + 1)
    ≡ joined_body name ino (parted_body name b)
bodies_part name ino (File bytes) = refl
bodies_part name ino (Directory es next up) = refl
bodies_part name ino (Link target) = refl

puts_by_parts : (name : List ℕ) (ino : ℕ) (moment : Stamp) (r : Record)
    → stamped moment (put_by name ino r) ≡ joined_by name ino (parted_by name moment r)
puts_by_parts name ino moment r = ap
    (λ (b : Body). let left : Record = record r { body = b; mtime = moment; ctime = moment }
    in left) (bodies_part name ino r.body)

-- two changes of one record, in the place of two others
fused : (f g h k : Record → Record) (rs : Records) (i : ℕ) → ((r : Record) → f (g r) ≡ h (k r))
    → change f (change g rs i) i ≡ change h (change k rs i) i
fused f g h k rs i same = same_gets _ _ (λ q. ⊎_elim
    (λ is.
    ap (get (change f (change g rs i) i)) is ∙ change_at f (change g rs i) i
    ∙ ap (option_map f) (change_at g rs i) ∙ both (get rs i)
    ∙ sym (ap (get (change h (change k rs i) i)) is ∙ change_at h (change k rs i) i
    ∙ ap (option_map h) (change_at k rs i)))
    (λ ne. change_keeps f (change g rs i) i q ne ∙ change_keeps g rs i q ne
    ∙ sym (change_keeps h (change k rs i) i q ne ∙ change_keeps k rs i q ne))
    (cases_eq q i)) where
      both : (o : Option Record) → option_map f (option_map g o) ≡ option_map h (option_map k o)
      both None = refl
      both (Some r) = ap (λ r. Some r) (same r)

missing_entry : (o : Option DirEntry) (e : ℕ) → ino_or_missing o ≡ Err e → o ≡ None
missing_entry None e is = refl
missing_entry (Some f) e is = absurd (cc)

not_listed : (b : Body) (name : List ℕ) (e : ℕ) → ino_among false name (entries_of b) ≡ Err e
    → entry_named name (listed b) ≡ None
not_listed (File bytes) name e is = refl
not_listed (Directory es next up) name e is = sym (found_among-exact name es)
    ∙ missing_entry (found_among false name es) e is
not_listed (Link target) name e is = refl

missing_is_free : (rs : Records) (dir : ℕ) (name : List ℕ) (e : ℕ)
    → ino_among false name (entries_at rs dir) ≡ Err e → IsFree rs dir name
missing_is_free rs dir name e = by_record (get rs dir) where
  by_record : (o : Option Record) → ino_among false name (option_and_then entries_of
      (option_map (λ (r : Record). r.body) o)) ≡ Err e
      → option_and_then (λ b. entry_named name (listed b)) (option_map (λ (r : Record). r.body) o)
      ≡ None
  by_record None is = refl
  by_record (Some r) is = not_listed r.body name e is

pub displaced : (rs : Records) (moment : Stamp) (dir : ℕ) (name : List ℕ) (ino : ℕ)
    (there : Option ℕ) → there ≡ result_ok (ino_among false name (entries_at rs dir))
    → displaced_in moment dir there (change (put_by name ino) rs dir)
    ≡ replaced_in moment dir name there (change (joined_by name ino) rs dir)
displaced rs moment dir name ino there told = subst
    (λ o. displaced_in moment dir o (change (put_by name ino) rs dir)
    ≡ replaced_in moment dir name o (change (joined_by name ino) rs dir)) (sym told)
    (by_answer (ino_among false name (entries_at rs dir)) refl) where
      by_answer : (r : Result ℕ ℕ) → ino_among false name (entries_at rs dir) ≡ r
          → displaced_in moment dir (result_ok r) (change (put_by name ino) rs dir)
          ≡ replaced_in moment dir name (result_ok r) (change (joined_by name ino) rs dir)
      by_answer (Err e) is = put_free rs dir name ino (missing_is_free rs dir name e is)
      by_answer (Ok i) is =
          ap (λ rs. change (stamped moment) rs dir)
          (changes_swap (one_name_less moment) (put_by name ino) rs dir i
          (λ r at same. names_puts name ino moment r))
          ∙ fused (stamped moment) (put_by name ino) (joined_by name ino) (parted_by name moment)
          (change (one_name_less moment) rs i) dir (puts_by_parts name ino moment)
          ∙ sym (replaced_later rs moment dir name ino (Ok i) is)
