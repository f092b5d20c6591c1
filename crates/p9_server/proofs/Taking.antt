-- An inode whose hold was taken, and what is told of it; where nothing is told, the hold goes
-- again.
use Rattle.std.proofs.Common.{◌≡◌, ℕ, ◌<◌, Bool, true, refl, sym, ap, ◌∙◌, subst, Option, Some}
use Rattle.std.proofs.Common.{None, Result, Ok, Err, OnOk, OnErr, IfOk, arith, IsSome}
use Rattle.std.proofs.lemmas.Bool.{false≢true}
use Rattle.std.proofs.lemmas.Bool.Decides.{nat_tests}
use Rattle.std.specs.Prelude.{nat_lt}
use Rattle.std.specs.FinMap.{get}
use Rattle.tree_model.specs.Tree.{Tree, Record}
use Rattle.tree_model.specs.Sound.{IsKept, AreStored}
use Rattle.tree_model.specs.Attributes.{stat_of, attr_of, attr_or_missing}
use Rattle.tree_model.specs.declared.attributes.Attr.{Attr}
use Rattle.tree_model.specs.declared.attributes.HostError.{HostError}
use Rattle.tree_model.specs.declared.attributes.HostError.TheVariants.{Errno, Fault, NoMemory}
use Rattle.tree_host.specs.Holds.{Holds, hold_count, held_more, held_less, is_held}
use Rattle.tree_host.specs.Host.{Answers}
use Rattle.tree_host.specs.Calls.{Causes}
use Rattle.p9_server.specs.Holding.{IsMore, IsSame}
use Rattle.p9_server.specs.Walking.{Finds}
use Rattle.p9_server.proofs.HoldCounts.{more_counts_of, less_counts_of, more_held, kept_more}

held_test : (n : ℕ) → 0 < n → nat_lt 0 n ≡ true
held_test n more = grind (arith, nat_tests)

attr_there : (i e : ℕ) (o : Option Record) → IsSome o → attr_or_missing i o ≡ Err e → ⊥
attr_there i e None some is = false≢true some
attr_there i e (Some r) some is = cc

-- a held inode is stored, so the host only fails to tell of it by a fault
pub only_fault : (t : Tree) (h : Holds) (ino : ℕ) → AreStored t.records (is_held h)
    → 0 < hold_count h ino → (e : HostError)
    → Answers {A = Attr} (stat_of t ino) (Err e)
    → (◌≡◌ {A = Result Attr HostError} (Err e) (Err NoMemory) → ⊥)
    → ◌≡◌ {A = Result Attr HostError} (Err e) (Err Fault)
only_fault t h ino stored held (Errno e) a other =
    absurd (attr_there ino e (get t.records ino) (stored ino (held_test (hold_count h ino) held))
    a.exactly)
only_fault t h ino stored held Fault a other = refl
only_fault t h ino stored held NoMemory a other = absurd (other refl)

-- a fault answers whatever is asked
pub fault_answers : {B : Type 0} (told : Result B ℕ) (e : HostError)
    → ◌≡◌ {A = Result Attr HostError} (Err e) (Err Fault) → Answers told (Err e)
fault_answers told e is = let same : e ≡ Fault =
    cc in subst (λ (e : HostError). Answers told (Err e)) (sym same) (record { exactly = tt })

ino_by : (i : ℕ) (o : Option Record) (a : Attr) → attr_or_missing i o ≡ Ok a → a.ino ≡ i
ino_by i None a is = absurd (cc)
ino_by i (Some r) a is = let same : attr_of i r ≡ a = cc in sym (ap (λ (b : Attr). b.ino) same)

-- what is told of an inode has its number
pub told_ino : (t : Tree) (i : ℕ) (a : Attr) → stat_of t i ≡ Ok a → a.ino ≡ i
told_ino t i a is = ino_by i (get t.records i) a is

module _ (t0 t1 t2 : Tree) (h0 h1 h2 : Holds) (ino : ℕ) (same : t1 ≡ t0)
    (more : h1 ≡ held_more h0 ino) where
  pub took_positive : 0 < hold_count h1 ino
  took_positive = more_held h0 h1 ino (more_counts_of h0 h1 ino more)

  back : h2 ≡ held_less h1 ino → IsSame h0 h2
  back less = record {
    counts = λ i.
        let up = (more_counts_of h0 h1 ino more).counts i in
        let down = (less_counts_of h1 h2 ino took_positive less).counts i in
        omega arith;
  }

  back_tree : IsKept t0.records (is_held h0) → h2 ≡ held_less h1 ino
      → (IsKept t1.records (is_held h2) → t2 ≡ t1) → t2 ≡ t0
  back_tree kept less stays =
      stays (subst (λ (t : Tree). IsKept t.records (is_held h2)) (sym same)
      (kept_more t0 h0 h2 kept (λ i. let e = (back less).counts i in omega arith))) ∙ same

  pub took_tree : (r : Result Attr HostError) → IsKept t0.records (is_held h0) → OnOk r (t2 ≡ t1)
      → OnErr r (h2 ≡ held_less h1 ino) → OnErr r (IsKept t1.records (is_held h2) → t2 ≡ t1)
      → t2 ≡ t0
  took_tree (Ok a) kept ok less stays = ok ∙ same
  took_tree (Err e) kept ok less stays = back_tree kept less stays

  pub took_held : (r : Result Attr HostError) → OnOk r (h2 ≡ h1)
      → IfOk r (λ a. stat_of t1 ino ≡ Ok a) → IfOk r (λ a. IsMore h0 h2 a.ino)
  took_held (Ok a) ok told = subst (λ i. IsMore h0 h2 i) (sym (told_ino t1 ino a told))
      (more_counts_of h0 h2 ino (ok ∙ more))
  took_held (Err e) ok told = tt

  pub took_refused : (r : Result Attr HostError) → OnErr r (h2 ≡ held_less h1 ino)
      → OnErr r (IsSame h0 h2)
  took_refused (Ok a) less = tt
  took_refused (Err e) less = back less

  pub took_finds : (told : Result ℕ ℕ) → told ≡ Ok ino → (r : Result Attr HostError)
      → IfOk r (λ a. stat_of t1 ino ≡ Ok a) → OnErr r (r ≡ Err Fault) → Finds t0 told r
  took_finds told is (Ok a) tells failed =
      let number = told_ino t1 ino a tells in
      record {
        exactly = (
          is ∙ ap Ok (sym number),
          ap (λ (t : Tree). stat_of t a.ino) (sym same)
              ∙ ap (stat_of t1) number ∙ tells,
        );
      }
  took_finds told is (Err e) tells failed = subst (Finds t0 told) (sym failed)
      (record { exactly = tt })

-- the cause of a call after one that met no fault
pub later_cause : {A : Type 0} (s0 s1 : Bool) (f0 f1 f2 : ℕ) (r : Result A HostError) → s1 ≡ s0
    → f1 ≡ f0 → Causes s1 f1 f2 r → Causes s0 f0 f2 r
later_cause s0 s1 f0 f1 f2 r s f c = subst (λ (s : Bool). Causes s f0 f2 r) s
    (subst (λ (n : ℕ). Causes s1 n f2 r) f c)

-- the cause of a call of another answer
error_cause : {A B : Type 0} (s : Bool) (f0 f1 : ℕ) (e : HostError) → Causes {A = A} s f0 f1 (Err e)
    → Causes {A = B} s f0 f1 (Err e)
error_cause s f0 f1 (Errno e) c = record { counted = c.counted }
error_cause s f0 f1 Fault c = record { counted = c.counted }
error_cause s f0 f1 NoMemory c = record { counted = c.counted }

-- the cause of a call that failed between calls that met no fault
pub failed_cause : {A B : Type 0} (s0 s1 : Bool) (f0 f1 f2 f3 : ℕ) (e : HostError) → s1 ≡ s0
    → f1 ≡ f0 → f3 ≡ f2 → Causes {A = A} s1 f1 f2 (Err e) → Causes {A = B} s0 f0 f3 (Err e)
failed_cause {B = B} s0 s1 f0 f1 f2 f3 e s f g c =
    later_cause s0 s1 f0 f1 f3 (Err e) s f (subst (λ (n : ℕ). Causes {A = B} s1 f1 n (Err e))
    (sym g) (error_cause s1 f1 f2 e c))

-- a host's refusal
pub refusal_finds : (t : Tree) (told : Result ℕ ℕ) (e : HostError) → Answers {A = ℕ} told (Err e)
    → Finds t told (Err e)
refusal_finds t told (Errno e) a = record { exactly = a.exactly }
refusal_finds t told Fault a = record { exactly = tt }
refusal_finds t told NoMemory a = record { exactly = tt }

-- holds that are the same are so by their counts
pub same_counts : (h0 h1 : Holds) → h1 ≡ h0 → IsSame h0 h1
same_counts h0 h1 is = record { counts = λ i. ap (λ (h : Holds). hold_count h i) is }
