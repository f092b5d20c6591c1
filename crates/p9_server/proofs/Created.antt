-- A new file, in a directory that a fid named.
use Rattle.std.proofs.Common.{◌≡◌, ◌≢◌, inl, inr, ⊎_elim, ℕ, ◌≤◌, Bool, true, false}
use Rattle.std.proofs.Common.{◌||◌, List, refl, sym, ap, ◌∙◌, subst, Option, Some, None}
use Rattle.std.proofs.Common.{Result, Ok, Err, IfOk, OnOk, OnErr, arith, nat_lt}
use Rattle.std.specs.Prelude.{option_map}
use Rattle.std.proofs.lemmas.Bool.{cases_eq}
use Rattle.std.proofs.lemmas.Bool.Decides.{nat_tests}
use Rattle.std.specs.FinMap.{get, insert}
use Rattle.port_base.specs.Names.{name_fault}
use Rattle.tree_model.specs.Tree.{Tree, Record, Body, body_at, is_directory_at, is_linked}
use Rattle.tree_model.specs.Tree.Body.{File, Directory, Link}
use Rattle.tree_model.specs.Good.{IsGoodTree}
use Rattle.tree_model.specs.Sound.{IsKept}
use Rattle.tree_model.specs.Making.{unless_refused, create_refused}
use Rattle.tree_model.specs.Creating.{create_of, with_new, empty_file}
use Rattle.tree_model.specs.Attributes.{stat_of, attr_or_missing, attr_of}
use Rattle.tree_model.specs.Opening.{unless}
use Rattle.tree_model.specs.Renaming.{first_of}
use Rattle.tree_model.specs.declared.attributes.Attr.{Attr}
use Rattle.tree_model.specs.declared.attributes.HostError.{HostError}
use Rattle.tree_model.specs.declared.attributes.HostError.TheVariants.{Errno, Fault, NoMemory}
use Rattle.tree_model.proofs.Creating.{with_new_kept, new_file}
use Rattle.tree_model.proofs.Files.{let_in}
use Rattle.tree_host.specs.Holds.{Holds, held_more, held_less, is_held}
use Rattle.tree_host.specs.Host.{Answers, Leaves}
use Rattle.fid_model.specs.TreeCalls.{unless_some}
use Rattle.fid_model.specs.Files.{new_file_refused, new_file_of}
use Rattle.fid_model.specs.Fids.{Fids, Fid, fid_count, fid_weight, is_held as is_named}
use Rattle.fid_model.proofs.FidCounts.{fid_count-replaced}
use Rattle.p9_server.specs.Creating.{is_directory_kind, Creates}
use Rattle.p9_server.proofs.HoldCounts.{kept_more, less_counts_of, more_counts_of, more_held}
use Rattle.p9_server.proofs.Taking.{told_ino}

-- ---- what refuses a new file

directory_by : (i : ℕ) (o : Option Record) (a : Attr) → attr_or_missing i o ≡ Ok a
    → is_directory_at (option_map (λ (r : Record). r.body) o) ≡ is_directory_kind a.kind
directory_by i None a is = absurd (cc)
directory_by i (Some r) a is = by_body r.body refl
    ∙ ap (λ (b : Attr). is_directory_kind b.kind) (let same : attr_of i r ≡ a = cc in same) where
      by_body : (b : Body) → r.body ≡ b → is_directory_at (Some r.body) ≡ is_directory_kind
          (attr_of i r).kind
      by_body (File bytes) is = ap (λ (b : Body). is_directory_at (Some b)) is
          ∙ sym (ap (λ (b : Body). is_directory_kind (attr_of i (record r { body = b })).kind) is)
      by_body (Directory es next above) is = ap (λ (b : Body). is_directory_at (Some b)) is
          ∙ sym (ap (λ (b : Body). is_directory_kind (attr_of i (record r { body = b })).kind) is)
      by_body (Link target) is = ap (λ (b : Body). is_directory_at (Some b)) is
          ∙ sym (ap (λ (b : Body). is_directory_kind (attr_of i (record r { body = b })).kind) is)

-- an attribute tells a directory
pub told_directory : (t : Tree) (i : ℕ) (a : Attr) → stat_of t i ≡ Ok a
    → is_directory_at (body_at t.records i) ≡ is_directory_kind a.kind
told_directory t i a is = directory_by i (get t.records i) a is

-- ---- what is made

made_by : (o : Option ℕ) (a b : ℕ) (t u : Tree) → unless_refused o a t ≡ Ok (b, u) → (o ≡ None)
    × (u ≡ t)
made_by (Some e) a b t u is = absurd (cc)
made_by None a b t u is = let both : ◌≡◌ {A = ℕ × Tree} (a, t) (b, u) =
    cc in (refl, sym (ap (λ (p : ℕ × Tree). p.1) both))

module _ (t : Tree) (good : IsGoodTree t) (dir : ℕ) (name : List ℕ) (mode ino : ℕ) (u : Tree)
    (fine : name_fault name ≡ None) (made : create_of t dir name mode ≡ Ok (ino, u)) where
  free : create_refused t dir name ≡ None
  free = (made_by (create_refused t dir name) t.next ino
      (with_new t dir name (empty_file t.moment mode)) u made).0

  -- what was linked or held is so beside the new file
  pub created_kept : (held : ℕ → Bool) → IsKept t.records held → IsKept u.records held
  created_kept held kept = subst (λ (v : Tree). IsKept v.records held)
      (sym (made_by (create_refused t dir name) t.next ino
      (with_new t dir name (empty_file t.moment mode)) u made).1)
      (with_new_kept t good dir name (empty_file t.moment mode)
      (new_file t.moment mode dir good.moment) free fine held held (λ q ne. refl) kept)

  -- the directory is linked
  pub created_linked : is_linked t.records dir ≡ true
  created_linked = (let_in t.records t.limits.entries t.next dir name free).live

-- ---- fids

or_true : (a b : Bool) → a ≡ true → (a || b) ≡ true
or_true true b is = refl
or_true false b is = absurd cc

or_more : (a b c : Bool) → (b ≡ true → c ≡ true) → (a || b) ≡ true → (a || c) ≡ true
or_more true b c h e = refl
or_more false b c h e = h e

-- a fid of a linked inode may go: what was linked or named is so without it
pub kept_without : (t : Tree) (fids : Fids) (n : ℕ) (old new : Fid) → get fids n ≡ Some old
    → is_linked t.records old.ino ≡ true → IsKept t.records (is_named fids)
    → IsKept t.records (is_named (insert fids n new))
kept_without t fids n old new at linked kept q stored = ⊎_elim
    (λ same. or_true (is_linked t.records q) (is_named (insert fids n new) q)
    (ap (is_linked t.records) same ∙ linked))
    (λ other. or_more (is_linked t.records q) (is_named fids q) (is_named (insert fids n new) q)
    (λ named. let step = fid_count-replaced fids n new old at q in let none : fid_weight q old ≡ 0 =
    not_own other in more (fid_count fids q) (fid_count (insert fids n new) q) (omega arith)
    named) (kept q stored))
    (cases_eq q old.ino) where
      not_own : q ≢ old.ino → fid_weight q old ≡ 0
      not_own other = grind (arith, nat_tests)

      more : (a b : ℕ) → a ≤ b → nat_lt 0 a ≡ true → nat_lt 0 b ≡ true
      more a b le h = grind (arith, nat_tests)

-- ---- what creating tells

module _ (t : Tree) (dir : ℕ) (name : List ℕ) (flags mode : ℕ) where
  abbrev refusal : Option ℕ
  refusal = new_file_refused (is_directory_at (body_at t.records dir)) name flags

  -- the refusal of the test before
  pub unchecked : (u : Tree) → u ≡ t → (e : HostError)
      → Answers {A = Unit {0}} (unless refusal) (Err e) → Creates t u dir name flags mode (Err e)
  unchecked u same (Errno e) a = record { exactly = (refused_by refusal e a.exactly, same) } where
    refused_by : (o : Option ℕ) (e : ℕ) → unless o ≡ Err e
        → unless_some o (create_of t dir name mode) ≡ Err e
    refused_by None e is = absurd (cc)
    refused_by (Some k) e is = let same : k ≡ e = cc in ap Err same
  unchecked u same Fault a = record { exactly = inl same }
  unchecked u same NoMemory a = record { exactly = same }

  module _ (may : unless refusal ≡ Ok tt) where
    made_so : new_file_of t dir name flags mode ≡ create_of t dir name mode
    made_so = checked_by refusal may where
      checked_by : (o : Option ℕ) → unless o ≡ Ok tt
          → unless_some o (create_of t dir name mode) ≡ create_of t dir name mode
      checked_by None is = refl
      checked_by (Some k) is = absurd (cc)

    -- the host makes none
    pub uncreated : (t1 u : Tree) → t1 ≡ t → (e : HostError)
        → Leaves {A = ℕ} (create_of t1 dir name mode) t1 u (Err e)
        → Creates t u dir name flags mode (Err e)
    uncreated t1 u same (Errno e) l = record {
      exactly = (
        made_so ∙ ap (λ (v : Tree). create_of v dir name mode) (sym same)
            ∙ l.exactly.0,
        l.exactly.1 ∙ same,
      );
    }
    uncreated t1 u same Fault l = record { exactly = inl (l.exactly ∙ same) }
    uncreated t1 u same NoMemory l = record { exactly = l.exactly ∙ same }

    -- what is told of the new file
    module _ (t1 u : Tree) (same : t1 ≡ t) (ino : ℕ)
        (l : Leaves (create_of t1 dir name mode) t1 u (Ok ino)) where
      created_so : new_file_of t dir name flags mode ≡ Ok (ino, u)
      created_so = made_so ∙ ap (λ (v : Tree). create_of v dir name mode) (sym same) ∙ l.exactly

      pub created_told : (v : Tree) → v ≡ u → (r : Result Attr HostError)
          → IfOk r (λ a. stat_of u ino ≡ Ok a) → OnErr r (r ≡ Err Fault)
          → Creates t v dir name flags mode r
      created_told v left (Ok a) told fault =
          record {
            exactly = (
              created_so ∙ (λ j. let x : Result (ℕ × Tree) ℕ =
                  Ok (sym (told_ino u ino a told) j, sym left j) in x),
              (λ j. stat_of (left j) (told_ino u ino a told j)) ∙ told,
            );
          }
      created_told v left (Err e) told fault = let is : e ≡ Fault =
          cc in subst (λ (e : HostError). Creates t v dir name flags mode (Err e)) (sym is)
          (record {
            exactly = inr (
              ino,
              created_so
                  ∙ (λ j. let x : Result (ℕ × Tree) ℕ = Ok (ino, sym left j) in x),
            );
          })

-- the name of a file that an open makes has no fault
pub fine_name : (in_directory : Bool) (name : List ℕ) (flags : ℕ)
    → unless (new_file_refused in_directory name flags) ≡ Ok tt → name_fault name ≡ None
fine_name true name flags is = first_none (name_fault name) _ is where
  first_none : (o p : Option ℕ) → unless (first_of o p) ≡ Ok tt → o ≡ None
  first_none None p is = refl
  first_none (Some k) p is = absurd (cc)
fine_name false name flags is = absurd (cc)

-- after the hold of a new file went again, the file is still there
pub still_created : (t u v : Tree) (h0 h1 h2 : Holds) (ino : ℕ) → h1 ≡ held_more h0 ino
    → (dir : ℕ) (name : List ℕ) (mode : ℕ) → IsGoodTree t → name_fault name ≡ None
    → create_of t dir name mode ≡ Ok (ino, u) → IsKept t.records (is_held h0)
    → (r : Result Attr HostError) → OnOk r (v ≡ u) → OnErr r (h2 ≡ held_less h1 ino)
    → OnErr r (IsKept u.records (is_held h2) → v ≡ u) → v ≡ u
still_created t u v h0 h1 h2 ino more dir name mode good fine made kept (Ok a) ok less stays = ok
still_created t u v h0 h1 h2 ino more dir name mode good fine made kept (Err e) ok less stays =
    stays (created_kept t good dir name mode ino u fine made (is_held h2)
    (kept_more t h0 h2 kept (λ i.
    let up = (more_counts_of h0 h1 ino more).counts i in
    let down = (less_counts_of h1 h2 ino (more_held h0 h1 ino (more_counts_of h0 h1 ino more))
    less).counts i in
    omega arith)))
