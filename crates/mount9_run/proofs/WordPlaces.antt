-- Words that take two values of one key, or of two keys, take them in either order.
use Rattle.std.proofs.Common.{◌≡◌, ℕ, Bool, true, false, List, Some, None, refl, sym, ap, ◌∙◌, cond}
use Rattle.std.proofs.Common.{is_some}
use Rattle.std.specs.Prelude.{option_map, option_and_then, ◌||◌}
use Rattle.std.specs.declared.option.Option.{Option}
use Rattle.std.specs.Ordering.{nat_cmp, eq_by_cmp}
use Rattle.std.specs.Cmp.{nat_cmp_total, eq_by_cmp_equiv}
use Rattle.std.specs.FinMap.{get, insert, get-insert, same_map, nat_cmp-IsAntisymmetric}
use Rattle.tree_model.specs.Settings.{IdMap}
use Rattle.p9_server.specs.ConfigTexts.{boolean_of}
use Rattle.mount9_run.specs.Paths.{is_path, is_root}
use Rattle.mount9_run.specs.Command.{Draft, once, text_in_form, number_in, with_owner, owners_of}

-- ---- a place in a draft, and what it takes

record Place (V : Type 0) : Type 1 where
  pub value : Draft → V
  pub put : V → Draft → Draft
  pub step : List ℕ → V → Option V

abbrev take_by : {V : Type 0} → Place V → (V → Option V) → Draft → Option Draft
take_by p f d = option_map (λ v. p.put v d) (f (p.value d))

abbrev take : {V : Type 0} → Place V → List ℕ → Draft → Option Draft
take p text d = take_by p (p.step text) d

abbrev both : {V : Type 0} → (V → Option V) → (V → Option V) → V → Option V
both f g v = option_and_then g (f v)

-- one place takes two values as its content takes them
taken : {V : Type 0} (p : Place V) → ((v : V) (d : Draft) → p.value (p.put v d) ≡ v)
    → ((v w : V) (d : Draft) → p.put w (p.put v d) ≡ p.put w d) → (f g : V → Option V) (d : Draft)
    → option_and_then (take_by p g) (take_by p f d) ≡ take_by p (both f g) d
taken p there over f g d = by_first (f (p.value d)) where
  by_first : (o : Option _) → option_and_then (take_by p g) (option_map (λ v. p.put v d) o)
      ≡ option_map (λ v. p.put v d) (option_and_then g o)
  by_first None = refl
  by_first (Some v) = λ i. option_map (λ w. over v w d i) (g (there v d i))

together : {V : Type 0} (p : Place V) → ((v : V) (d : Draft) → p.value (p.put v d) ≡ v)
    → ((v w : V) (d : Draft) → p.put w (p.put v d) ≡ p.put w d)
    → ((one other : List ℕ) (v : V) → both (p.step one) (p.step other) v
    ≡ both (p.step other) (p.step one) v) → (one other : List ℕ) (d : Draft)
    → option_and_then (take p other) (take p one d) ≡ option_and_then (take p one) (take p other d)
together p there over either one other d = taken p there over (p.step one) (p.step other) d
    ∙ ap (option_map (λ v. p.put v d)) (either one other (p.value d))
    ∙ sym (taken p there over (p.step other) (p.step one) d)

-- two places take their values in either order
apart : {V W : Type 0} (p : Place V) (q : Place W)
    → ((v : V) (d : Draft) → q.value (p.put v d) ≡ q.value d)
    → ((w : W) (d : Draft) → p.value (q.put w d) ≡ p.value d)
    → ((v : V) (w : W) (d : Draft) → q.put w (p.put v d) ≡ p.put v (q.put w d))
    → (one other : List ℕ) (d : Draft)
    → option_and_then (take q other) (take p one d) ≡ option_and_then (take p one) (take q other d)
apart p q keeps_q keeps_p either one other d =
    by_values (p.step one (p.value d)) (q.step other (q.value d)) refl refl where
      by_values : (a : Option _) (b : Option _) → p.step one (p.value d) ≡ a
          → q.step other (q.value d) ≡ b
          → option_and_then (take q other) (option_map (λ v. p.put v d) a)
          ≡ option_and_then (take p one) (option_map (λ w. q.put w d) b)
      by_values None None at there = refl
      by_values None (Some w) at there = sym (ap (option_map (λ v. p.put v (q.put w d)))
          (ap (p.step one) (keeps_p w d) ∙ at))
      by_values (Some v) None at there = ap (option_map (λ w. q.put w (p.put v d)))
          (ap (q.step other) (keeps_q v d) ∙ there)
      by_values (Some v) (Some w) at there =
          ap (option_map (λ w. q.put w (p.put v d))) (ap (q.step other) (keeps_q v d) ∙ there)
          ∙ ap Some (either v w d)
          ∙ sym (ap (option_map (λ v. p.put v (q.put w d))) (ap (p.step one) (keeps_p w d) ∙ at))

-- ---- contents

pub nothing : {A B : Type 0} (o : Option A) → option_and_then {U = B} (λ x. None) o ≡ None
nothing (Some x) = refl
nothing None = refl

-- no key of one value comes twice
twice : {A : Type 0} (new more old : Option A)
    → both (λ o. once o new) (λ o. once o more) old ≡ None
twice new more (Some x) = refl
twice None more None = refl
twice (Some v) more None = refl

once_swap : {A : Type 0} (read : List ℕ → Option A) (v w : List ℕ) (old : Option A)
    → both (λ o. once o (read v)) (λ o. once o (read w)) old
    ≡ both (λ o. once o (read w)) (λ o. once o (read v)) old
once_swap read v w old = twice (read v) (read w) old ∙ sym (twice (read w) (read v) old)

-- owners come in either order, and none twice
module _ (m : IdMap) (a x b y : ℕ) where
  inserted : is_some (get (insert m a x) b) ≡ (eq_by_cmp nat_cmp b a || is_some (get m b))
  inserted = ap is_some (get-insert nat_cmp_total m a x b) ∙ by_test (eq_by_cmp nat_cmp b a) where
    by_test : (e : Bool) → is_some (cond e (Some x) (get m b)) ≡ (e || is_some (get m b))
    by_test true = refl
    by_test false = refl

  pub after_one : option_and_then (λ n. with_owner n (Some (b, y))) (with_owner m (Some (a, x)))
      ≡ cond (is_some (get m a)) None (cond (eq_by_cmp nat_cmp b a || is_some (get m b)) None
      (Some (insert (insert m a x) b y)))
  after_one = by_test (is_some (get m a)) where
    by_test : (t : Bool) → option_and_then (λ n. with_owner n (Some (b, y)))
        (cond t None (Some (insert m a x))) ≡ cond t None
        (cond (eq_by_cmp nat_cmp b a || is_some (get m b)) None (Some (insert (insert m a x) b y)))
    by_test true = refl
    by_test false = ap (λ t. cond t None (Some (insert (insert m a x) b y))) inserted

module _ (m : IdMap) (a x b y : ℕ) where
  same_either : (e f g : Bool) → (e ≡ true → f ≡ true → g ≡ true) → g ≡ false → (o : Option ℕ)
      → cond e (Some y) (cond f (Some x) o) ≡ cond f (Some x) (cond e (Some y) o)
  same_either true true g both_true not o = absurd (let e = sym (both_true refl refl) ∙ not in cc)
  same_either true false g both_true not o = refl
  same_either false true g both_true not o = refl
  same_either false false g both_true not o = refl

  apart_inserts : eq_by_cmp nat_cmp b a ≡ false
      → insert (insert m a x) b y ≡ insert (insert m b y) a x
  apart_inserts differ = same_map nat_cmp_total nat_cmp-IsAntisymmetric _ _ (λ q.
      get-insert nat_cmp_total (insert m a x) b y q
      ∙ ap (cond (eq_by_cmp nat_cmp q b) (Some y)) (get-insert nat_cmp_total m a x q)
      ∙ same_either (eq_by_cmp nat_cmp q b) (eq_by_cmp nat_cmp q a) (eq_by_cmp nat_cmp b a)
      (λ e f. sym ((eq_by_cmp_equiv nat_cmp_total).congr q b a e) ∙ f) differ (get m q)
      ∙ sym (get-insert nat_cmp_total (insert m b y) a x q
      ∙ ap (cond (eq_by_cmp nat_cmp q a) (Some x)) (get-insert nat_cmp_total m b y q)))

  either_by : (s t e : Bool) → (e ≡ false → insert (insert m a x) b y ≡ insert (insert m b y) a x)
      → cond s None (cond (e || t) None (Some (insert (insert m a x) b y)))
      ≡ cond t None (cond (e || s) None (Some (insert (insert m b y) a x)))
  either_by true true e same = refl
  either_by true false true same = refl
  either_by true false false same = refl
  either_by false true true same = refl
  either_by false true false same = refl
  either_by false false true same = refl
  either_by false false false same = ap Some (same refl)

owners_swap : (p q : Option (ℕ × ℕ)) (m : IdMap)
    → both (λ n. with_owner n p) (λ n. with_owner n q) m
    ≡ both (λ n. with_owner n q) (λ n. with_owner n p) m
owners_swap None None m = refl
owners_swap None (Some q) m = sym (nothing (with_owner m (Some q)))
owners_swap (Some p) None m = nothing (with_owner m (Some p))
owners_swap (Some p) (Some q) m = after_one m p.0 p.1 q.0 q.1
    ∙ either_by m p.0 p.1 q.0 q.1 (is_some (get m p.0)) (is_some (get m q.0))
    (eq_by_cmp nat_cmp q.0 p.0) (apart_inserts m p.0 p.1 q.0 q.1)
    ∙ ap (λ e. cond (is_some (get m q.0)) None (cond (e || is_some (get m p.0)) None
    (Some (insert (insert m q.0 q.1) p.0 p.1)))) ((eq_by_cmp_equiv nat_cmp_total).symm q.0 p.0)
    ∙ sym (after_one m q.0 q.1 p.0 p.1)

-- ---- keys

abbrev target_place : Place (Option (List ℕ))
target_place = record {
  value = λ d. d.target;
  put = λ v d. record d { target = v };
  step = λ v old. once old (text_in_form is_path v);
}

abbrev root_place : Place (Option (List ℕ))
root_place = record {
  value = λ d. d.root;
  put = λ v d. record d { root = v };
  step = λ v old. once old (text_in_form is_root v);
}

abbrev msize_place : Place (Option ℕ)
msize_place = record {
  value = λ d. d.msize;
  put = λ v d. record d { msize = v };
  step = λ v old. once old (number_in 256 65560 v);
}

abbrev turns_place : Place (Option ℕ)
turns_place = record {
  value = λ d. d.turns;
  put = λ v d. record d { turns = v };
  step = λ v old. once old (number_in 1 8192 v);
}

abbrev ids_place : Place (Option ℕ)
ids_place = record {
  value = λ d. d.ids;
  put = λ v d. record d { ids = v };
  step = λ v old. once old (number_in 0 1000000 v);
}

abbrev uid_place : Place IdMap
uid_place = record {
  value = λ d. d.uid_map;
  put = λ v d. record d { uid_map = v };
  step = λ v old. with_owner old (owners_of v);
}

abbrev gid_place : Place IdMap
gid_place = record {
  value = λ d. d.gid_map;
  put = λ v d. record d { gid_map = v };
  step = λ v old. with_owner old (owners_of v);
}

abbrev casefold_place : Place (Option Bool)
casefold_place = record {
  value = λ d. d.casefold;
  put = λ v d. record d { casefold = v };
  step = λ v old. once old (boolean_of v);
}

pub data Key : Type 0 where
  target : Key
  root : Key
  msize : Key
  turns : Key
  ids : Key
  uid : Key
  gid : Key
  casefold : Key
  unknown : Key

abbrev pub with_kind : Key → List ℕ → Draft → Option Draft
with_kind target v d = take target_place v d
with_kind root v d = take root_place v d
with_kind msize v d = take msize_place v d
with_kind turns v d = take turns_place v d
with_kind ids v d = take ids_place v d
with_kind uid v d = take uid_place v d
with_kind gid v d = take gid_place v d
with_kind casefold v d = take casefold_place v d
with_kind unknown v d = None

-- words of two keys, or of one, are taken in either order
pub swapped : (j k : Key) (v w : List ℕ) (d : Draft)
    → option_and_then (with_kind k w) (with_kind j v d)
    ≡ option_and_then (with_kind j v) (with_kind k w d)
swapped unknown k v w d = sym (nothing (with_kind k w d))
swapped target unknown v w d = nothing (with_kind target v d)
swapped root unknown v w d = nothing (with_kind root v d)
swapped msize unknown v w d = nothing (with_kind msize v d)
swapped turns unknown v w d = nothing (with_kind turns v d)
swapped ids unknown v w d = nothing (with_kind ids v d)
swapped uid unknown v w d = nothing (with_kind uid v d)
swapped gid unknown v w d = nothing (with_kind gid v d)
swapped casefold unknown v w d = nothing (with_kind casefold v d)
swapped target target v w d = together target_place (λ v d. refl) (λ v w d. refl)
    (once_swap (text_in_form is_path)) v w d
swapped target root v w d = apart target_place root_place (λ v d. refl) (λ w d. refl)
    (λ v w d. refl) v w d
swapped target msize v w d = apart target_place msize_place (λ v d. refl) (λ w d. refl)
    (λ v w d. refl) v w d
swapped target turns v w d = apart target_place turns_place (λ v d. refl) (λ w d. refl)
    (λ v w d. refl) v w d
swapped target ids v w d = apart target_place ids_place (λ v d. refl) (λ w d. refl)
    (λ v w d. refl) v w d
swapped target uid v w d = apart target_place uid_place (λ v d. refl) (λ w d. refl)
    (λ v w d. refl) v w d
swapped target gid v w d = apart target_place gid_place (λ v d. refl) (λ w d. refl)
    (λ v w d. refl) v w d
swapped target casefold v w d = apart target_place casefold_place (λ v d. refl) (λ w d. refl)
    (λ v w d. refl) v w d
swapped root target v w d = apart root_place target_place (λ v d. refl) (λ w d. refl)
    (λ v w d. refl) v w d
swapped root root v w d = together root_place (λ v d. refl) (λ v w d. refl)
    (once_swap (text_in_form is_root)) v w d
swapped root msize v w d = apart root_place msize_place (λ v d. refl) (λ w d. refl)
    (λ v w d. refl) v w d
swapped root turns v w d = apart root_place turns_place (λ v d. refl) (λ w d. refl)
    (λ v w d. refl) v w d
swapped root ids v w d = apart root_place ids_place (λ v d. refl) (λ w d. refl)
    (λ v w d. refl) v w d
swapped root uid v w d = apart root_place uid_place (λ v d. refl) (λ w d. refl)
    (λ v w d. refl) v w d
swapped root gid v w d = apart root_place gid_place (λ v d. refl) (λ w d. refl)
    (λ v w d. refl) v w d
swapped root casefold v w d = apart root_place casefold_place (λ v d. refl) (λ w d. refl)
    (λ v w d. refl) v w d
swapped msize target v w d = apart msize_place target_place (λ v d. refl) (λ w d. refl)
    (λ v w d. refl) v w d
swapped msize root v w d = apart msize_place root_place (λ v d. refl) (λ w d. refl)
    (λ v w d. refl) v w d
swapped msize msize v w d = together msize_place (λ v d. refl) (λ v w d. refl)
    (once_swap (number_in 256 65560)) v w d
swapped msize turns v w d = apart msize_place turns_place (λ v d. refl) (λ w d. refl)
    (λ v w d. refl) v w d
swapped msize ids v w d = apart msize_place ids_place (λ v d. refl) (λ w d. refl)
    (λ v w d. refl) v w d
swapped msize uid v w d = apart msize_place uid_place (λ v d. refl) (λ w d. refl)
    (λ v w d. refl) v w d
swapped msize gid v w d = apart msize_place gid_place (λ v d. refl) (λ w d. refl)
    (λ v w d. refl) v w d
swapped msize casefold v w d = apart msize_place casefold_place (λ v d. refl) (λ w d. refl)
    (λ v w d. refl) v w d
swapped turns target v w d = apart turns_place target_place (λ v d. refl) (λ w d. refl)
    (λ v w d. refl) v w d
swapped turns root v w d = apart turns_place root_place (λ v d. refl) (λ w d. refl)
    (λ v w d. refl) v w d
swapped turns msize v w d = apart turns_place msize_place (λ v d. refl) (λ w d. refl)
    (λ v w d. refl) v w d
swapped turns turns v w d = together turns_place (λ v d. refl) (λ v w d. refl)
    (once_swap (number_in 1 8192)) v w d
swapped turns ids v w d = apart turns_place ids_place (λ v d. refl) (λ w d. refl)
    (λ v w d. refl) v w d
swapped turns uid v w d = apart turns_place uid_place (λ v d. refl) (λ w d. refl)
    (λ v w d. refl) v w d
swapped turns gid v w d = apart turns_place gid_place (λ v d. refl) (λ w d. refl)
    (λ v w d. refl) v w d
swapped turns casefold v w d = apart turns_place casefold_place (λ v d. refl) (λ w d. refl)
    (λ v w d. refl) v w d
swapped ids target v w d = apart ids_place target_place (λ v d. refl) (λ w d. refl)
    (λ v w d. refl) v w d
swapped ids root v w d = apart ids_place root_place (λ v d. refl) (λ w d. refl)
    (λ v w d. refl) v w d
swapped ids msize v w d = apart ids_place msize_place (λ v d. refl) (λ w d. refl)
    (λ v w d. refl) v w d
swapped ids turns v w d = apart ids_place turns_place (λ v d. refl) (λ w d. refl)
    (λ v w d. refl) v w d
swapped ids ids v w d = together ids_place (λ v d. refl) (λ v w d. refl)
    (once_swap (number_in 0 1000000)) v w d
swapped ids uid v w d = apart ids_place uid_place (λ v d. refl) (λ w d. refl)
    (λ v w d. refl) v w d
swapped ids gid v w d = apart ids_place gid_place (λ v d. refl) (λ w d. refl)
    (λ v w d. refl) v w d
swapped ids casefold v w d = apart ids_place casefold_place (λ v d. refl) (λ w d. refl)
    (λ v w d. refl) v w d
swapped uid target v w d = apart uid_place target_place (λ v d. refl) (λ w d. refl)
    (λ v w d. refl) v w d
swapped uid root v w d = apart uid_place root_place (λ v d. refl) (λ w d. refl)
    (λ v w d. refl) v w d
swapped uid msize v w d = apart uid_place msize_place (λ v d. refl) (λ w d. refl)
    (λ v w d. refl) v w d
swapped uid turns v w d = apart uid_place turns_place (λ v d. refl) (λ w d. refl)
    (λ v w d. refl) v w d
swapped uid ids v w d = apart uid_place ids_place (λ v d. refl) (λ w d. refl)
    (λ v w d. refl) v w d
swapped uid uid v w d = together uid_place (λ v d. refl) (λ v w d. refl)
    (λ v w. owners_swap (owners_of v) (owners_of w)) v w d
swapped uid gid v w d = apart uid_place gid_place (λ v d. refl) (λ w d. refl)
    (λ v w d. refl) v w d
swapped uid casefold v w d = apart uid_place casefold_place (λ v d. refl) (λ w d. refl)
    (λ v w d. refl) v w d
swapped gid target v w d = apart gid_place target_place (λ v d. refl) (λ w d. refl)
    (λ v w d. refl) v w d
swapped gid root v w d = apart gid_place root_place (λ v d. refl) (λ w d. refl)
    (λ v w d. refl) v w d
swapped gid msize v w d = apart gid_place msize_place (λ v d. refl) (λ w d. refl)
    (λ v w d. refl) v w d
swapped gid turns v w d = apart gid_place turns_place (λ v d. refl) (λ w d. refl)
    (λ v w d. refl) v w d
swapped gid ids v w d = apart gid_place ids_place (λ v d. refl) (λ w d. refl)
    (λ v w d. refl) v w d
swapped gid uid v w d = apart gid_place uid_place (λ v d. refl) (λ w d. refl)
    (λ v w d. refl) v w d
swapped gid gid v w d = together gid_place (λ v d. refl) (λ v w d. refl)
    (λ v w. owners_swap (owners_of v) (owners_of w)) v w d
swapped gid casefold v w d = apart gid_place casefold_place (λ v d. refl) (λ w d. refl)
    (λ v w d. refl) v w d
swapped casefold target v w d = apart casefold_place target_place (λ v d. refl) (λ w d. refl)
    (λ v w d. refl) v w d
swapped casefold root v w d = apart casefold_place root_place (λ v d. refl) (λ w d. refl)
    (λ v w d. refl) v w d
swapped casefold msize v w d = apart casefold_place msize_place (λ v d. refl) (λ w d. refl)
    (λ v w d. refl) v w d
swapped casefold turns v w d = apart casefold_place turns_place (λ v d. refl) (λ w d. refl)
    (λ v w d. refl) v w d
swapped casefold ids v w d = apart casefold_place ids_place (λ v d. refl) (λ w d. refl)
    (λ v w d. refl) v w d
swapped casefold uid v w d = apart casefold_place uid_place (λ v d. refl) (λ w d. refl)
    (λ v w d. refl) v w d
swapped casefold gid v w d = apart casefold_place gid_place (λ v d. refl) (λ w d. refl)
    (λ v w d. refl) v w d
swapped casefold casefold v w d = together casefold_place (λ v d. refl) (λ v w d. refl)
    (once_swap boolean_of) v w d
