-- What is written of a configuration is read back.
use Rattle.std.proofs.Common.{◌≡◌, ◌≢◌, ℕ, ◌<◌, ◌^◌, Bool, true, false, List, [], ◌∷◌, Some, None}
use Rattle.std.proofs.Common.{Ok, Option, Result, option_map, refl, sym, ap, ◌∙◌, subst, cond}
use Rattle.std.proofs.Common.{arith}
use Rattle.std.proofs.Common.{lt-ltb, eqb-true, Ordering, Less, Equal, Greater, nat_cmp}
use Rattle.std.specs.Prelude.{nat_lt, option_and_then, ok_or, fold, ⊤, T, map}
use Rattle.std.specs.List.{AllByRecursion}
use Rattle.std.specs.List.Sorted.{IsStrictlySortedBy}
use Rattle.std.specs.Ordering.{match_ordering, eq_by_cmp, is_lt}
use Rattle.std.specs.Cmp.{nat_cmp_total, unsigned_tied}
use Rattle.std.specs.Cmp.Lexicographic.{slice_cmp}
use Rattle.std.specs.FinMap.{insert, empty, from_entries, same_map, get, get-insert}
use Rattle.std.specs.FinMap.{nat_cmp-IsAntisymmetric, slice_cmp-IsAntisymmetric}
use Rattle.std.specs.Fmt.{decimal}
use Rattle.std.proofs.lemmas.Cmp.{tied_itself}
use Rattle.std.proofs.lemmas.Fmt.{decimal_injective}
use Rattle.std.proofs.lemmas.Option.{none-some}
use Rattle.port_base.specs.Decimals.{number_of}
use Rattle.port_base.proofs.DecimalTexts.{number_of_decimal}
use Rattle.serde_json.specs.Data.{Data, Members, member, no_members, put, number, unsigned}
use Rattle.tree_model.specs.Settings.{IdMap}
use Rattle.p9_server.specs.Configs.{Configuration, configuration}
use Rattle.p9_server.specs.ConfigJsons.{below_32, u32_of, id_of, ids_from, ids_of, with_pair}
use Rattle.p9_server.specs.ConfigJsons.{ids_json, config_json, config_of, ◌>>=◌, AreNumbers}
use Rattle.p9_server.specs.declared.config.Config.{Config}
use Rattle.p9_server.specs.declared.config_json.ConfigJsonError.{ConfigJsonError}
use Rattle.p9_server.specs.declared.config_json.ConfigJsonError.TheVariants as error

-- ---- numbers

pub small : (n : ℕ) → n < 2 ^ 32 → below_32 n ≡ Some n
small n lt = ap (λ (b : Bool). cond b (Some n) None) (lt-ltb n (2 ^ 32) lt)

some_below : (n m : ℕ) (b : Bool) → cond b (Some n) None ≡ Some m → Some n ≡ Some m
some_below n m true h = h
some_below n m false h = absurd (none-some m h)

below_some : (o : Option ℕ) (m : ℕ) → option_and_then below_32 o ≡ Some m → o ≡ Some m
below_some None m h = absurd (none-some m h)
below_some (Some n) m h = some_below n m (nat_lt n (2 ^ 32)) h

module _ (i : ℕ) (lt : i < 2 ^ 32) where
  id_of_decimal : id_of (decimal i) ≡ Some i
  id_of_decimal =
      ap (option_and_then below_32) ((number_of_decimal (decimal i) i (omega arith)).1 refl)
      ∙ small i lt

  decimal_of_id : (key : List ℕ) → id_of key ≡ Some i → key ≡ decimal i
  decimal_of_id key h =
      (number_of_decimal key i (omega arith)).0 (below_some (number_of key) i h)

-- ---- maps

swap_by : {X : Type 0} (a b : Bool) (x y z : X) → (a ≡ true → b ≡ true → ⊥)
    → cond a x (cond b y z) ≡ cond b y (cond a x z)
swap_by true true x y z apart = absurd (apart refl refl)
swap_by true false x y z apart = refl
swap_by false b x y z apart = refl

insert_swap : (m : IdMap) (i j v w : ℕ) → i ≢ j
    → insert (insert m i v) j w ≡ insert (insert m j w) i v
insert_swap m i j v w apart = same_map nat_cmp_total nat_cmp-IsAntisymmetric _ _ (λ q.
    get-insert nat_cmp_total (insert m i v) j w q
    ∙ ap (cond (eq_by_cmp nat_cmp q j) (Some w)) (get-insert nat_cmp_total m i v q)
    ∙ swap_by (eq_by_cmp nat_cmp q j) (eq_by_cmp nat_cmp q i) (Some w) (Some v) (get m q)
    (λ a b. apart (sym (eqb-true q i (sym (unsigned_tied q i) ∙ b))
    ∙ eqb-true q j (sym (unsigned_tied q j) ∙ a)))
    ∙ sym (get-insert nat_cmp_total (insert m j w) i v q
    ∙ ap (cond (eq_by_cmp nat_cmp q i) (Some v)) (get-insert nat_cmp_total m j w q)))

-- ---- members

-- no member has this key
abbrev Lacks : List ℕ → Members → Type 0
Lacks key no_members = ⊤
Lacks key (member l d ms) = (key ≢ l) × Lacks key ms

lacks_by : (o : Ordering) (key k l : List ℕ) (d e : Data) (ms : Members) → key ≢ k → key ≢ l
    → Lacks key ms → Lacks key (put k d ms)
    → Lacks key (match_ordering o (member k d (member l e ms)) (member l d ms)
    (member l e (put k d ms)))
lacks_by Less key k l d e ms a b rest more = (a, (b, rest))
lacks_by Equal key k l d e ms a b rest more = (b, rest)
lacks_by Greater key k l d e ms a b rest more = (b, more)

lacks_put : (key k : List ℕ) (d : Data) (ms : Members) → key ≢ k → Lacks key ms
    → Lacks key (put k d ms)
lacks_put key k d no_members a h = (a, tt)
lacks_put key k d (member l e ms) a h =
    lacks_by (slice_cmp nat_cmp k l) key k l d e ms a h.0 h.1 (lacks_put key k d ms a h.1)

-- one pair more, before all members and within them
module _ (i v : ℕ) (lt : i < 2 ^ 32) (small_v : v < 2 ^ 32) where
  abbrev with_it : IdMap → IdMap
  with_it m = insert m i v

  abbrev its : Data
  its = number (unsigned v)

  -- a member that is read before, and one that is read after
  before_by : (o p : Option ℕ) (m : IdMap) (ms : Members) → ((j : ℕ) → o ≡ Some j → i ≢ j)
      → ((n : IdMap) → ids_from (with_it n) ms ≡ option_map with_it (ids_from n ms))
      → option_and_then (λ j. option_and_then (λ w. ids_from (insert (with_it m) j w) ms) p) o
      ≡ option_map with_it
      (option_and_then (λ j. option_and_then (λ w. ids_from (insert m j w) ms) p) o)
  before_by None p m ms apart later = refl
  before_by (Some j) None m ms apart later = refl
  before_by (Some j) (Some w) m ms apart later =
      ap (λ (n : IdMap). ids_from n ms) (insert_swap m i j v w (apart j refl))
      ∙ later (insert m j w)

  insert_first : (m : IdMap) (ms : Members) → Lacks (decimal i) ms
      → ids_from (with_it m) ms ≡ option_map with_it (ids_from m ms)
  insert_first m no_members h = refl
  insert_first m (member l e ms) h = before_by (id_of l) (u32_of e) m ms
      (λ j is same. h.0 (sym (decimal_of_id i lt l (is ∙ ap (λ (n : ℕ). Some n) (sym same)))))
      (λ n. insert_first n ms h.1)

  here : (m : IdMap) (ms : Members)
      → ids_from m (member (decimal i) its ms) ≡ ids_from (with_it m) ms
  here m ms = ap (option_and_then (λ (j : ℕ). option_and_then
      (λ (w : ℕ). ids_from (insert m j w) ms) (u32_of its))) (id_of_decimal i lt)
      ∙ ap (option_and_then (λ (w : ℕ). ids_from (insert m i w) ms)) (small v small_v)

  after_by : (o p : Option ℕ) (m : IdMap) (ms ns : Members)
      → ((n : IdMap) → ids_from n ns ≡ option_map with_it (ids_from n ms))
      → option_and_then (λ j. option_and_then (λ w. ids_from (insert m j w) ns) p) o
      ≡ option_map with_it
      (option_and_then (λ j. option_and_then (λ w. ids_from (insert m j w) ms) p) o)
  after_by None p m ms ns later = refl
  after_by (Some j) None m ms ns later = refl
  after_by (Some j) (Some w) m ms ns later = later (insert m j w)

  place_by : (o : Ordering) (m : IdMap) (l : List ℕ) (e : Data) (ms : Members) → o ≢ Equal
      → Lacks (decimal i) (member l e ms)
      → ((n : IdMap) → ids_from n (put (decimal i) its ms) ≡ option_map with_it (ids_from n ms))
      → ids_from m (match_ordering o (member (decimal i) its (member l e ms)) (member l its ms)
      (member l e (put (decimal i) its ms)))
      ≡ option_map with_it (ids_from m (member l e ms))
  place_by Less m l e ms other h later = here m (member l e ms) ∙ insert_first m (member l e ms) h
  place_by Equal m l e ms other h later = absurd (other refl)
  place_by Greater m l e ms other h later =
      after_by (id_of l) (u32_of e) m ms (put (decimal i) its ms) later

  ids_from_put : (m : IdMap) (ms : Members) → Lacks (decimal i) ms
      → ids_from m (put (decimal i) its ms) ≡ option_map with_it (ids_from m ms)
  ids_from_put m no_members h = here m no_members
  ids_from_put m (member l e ms) h = place_by (slice_cmp nat_cmp (decimal i) l) m l e ms
      (λ same. h.0 (slice_cmp-IsAntisymmetric nat_cmp-IsAntisymmetric (decimal i) l same)) h
      (λ n. ids_from_put n ms h.1)

-- ---- pairs, whose keys rise

abbrev Pairs : Type 0
Pairs = List (ℕ × ℕ)

abbrev inserted : IdMap → ℕ × ℕ → IdMap
inserted m p = insert m p.0 p.1

less_apart : (k q : ℕ) → nat_cmp k q ≡ Less → k ≢ q
less_apart k q less same = subst (λ (r : Ordering). T (is_lt r))
    (sym less ∙ ap (nat_cmp k) (sym same) ∙ tied_itself nat_cmp_total k) tt

abbrev Above : ℕ → Pairs → Type 0
Above k ps = AllByRecursion (λ q. nat_cmp k q ≡ Less) (map (λ p. p.0) ps)

fold_swap : (ps : Pairs) (m : IdMap) (k v : ℕ) → Above k ps
    → fold inserted (insert m k v) ps ≡ insert (fold inserted m ps) k v
fold_swap [] m k v h = refl
fold_swap (p ∷ ps) m k v h =
    ap (λ (n : IdMap). fold inserted n ps) (insert_swap m k p.0 v p.1 (less_apart k p.0 h.0))
    ∙ fold_swap ps (insert m p.0 p.1) k v h.1

fold_entries : (ps : Pairs) → IsStrictlySortedBy nat_cmp (map (λ p. p.0) ps)
    → fold inserted empty ps ≡ from_entries ps
unfolding IsStrictlySortedBy
fold_entries [] h = refl
fold_entries (p ∷ ps) h = fold_swap ps empty p.0 p.1 h.0
    ∙ ap (λ (m : IdMap). insert m p.0 p.1) (fold_entries ps h.1)

abbrev AllLack : Members → Pairs → Type 0
AllLack ms ps = AllByRecursion (λ q. Lacks (decimal q.0) ms) ps

lack_more : (ps : Pairs) (ms : Members) (k : ℕ) (d : Data) → k < 2 ^ 32 → AreNumbers ps
    → Above k ps → AllLack ms ps → AllLack (put (decimal k) d ms) ps
lack_more [] ms k d lt small above h = tt
lack_more (p ∷ ps) ms k d lt small above h = (
  lacks_put (decimal p.0) (decimal k) d ms
      (λ same. less_apart k p.0 above.0
      (sym (decimal_injective p.0 k (below_64 p.0 small.0.0) (below_64 k lt) same))) h.0,
  lack_more ps ms k d lt small.1 above.1 h.1,
) where
  below_64 : (n : ℕ) → n < 2 ^ 32 → n < 2 ^ 64
  below_64 n lt = omega arith

pairs_back : (ps : Pairs) (ms : Members) (m : IdMap) → ids_from empty ms ≡ Some m → AreNumbers ps
    → IsStrictlySortedBy nat_cmp (map (λ p. p.0) ps) → AllLack ms ps
    → ids_from empty (fold with_pair ms ps) ≡ Some (fold inserted m ps)
unfolding IsStrictlySortedBy
pairs_back [] ms m from small sorted h = from
pairs_back (p ∷ ps) ms m from small sorted h =
    pairs_back ps (with_pair ms p) (inserted m p)
    (ids_from_put p.0 p.1 small.0.0 small.0.1 empty ms h.0
    ∙ ap (option_map (λ (n : IdMap). insert n p.0 p.1)) from)
    small.1 sorted.1 (lack_more ps ms p.0 (number (unsigned p.1)) small.0.0 small.1 sorted.0 h.1)

none_lack : (ps : Pairs) → AllLack no_members ps
none_lack [] = tt
none_lack (p ∷ ps) = (tt, none_lack ps)

pub ids_back : (ps : Pairs) → AreNumbers ps → IsStrictlySortedBy nat_cmp (map (λ p. p.0) ps)
    → ids_of (ids_json ps) ≡ Some (from_entries ps)
ids_back ps small sorted =
    pairs_back ps no_members empty refl small sorted (none_lack ps)
    ∙ ap (λ (m : IdMap). Some m) (fold_entries ps sorted)

-- ---- the whole

module _ (c : Config)
    (uids : ids_of (ids_json c.uid_map.entries) ≡ Some (from_entries c.uid_map.entries))
    (gids : ids_of (ids_json c.gid_map.entries) ≡ Some (from_entries c.gid_map.entries))
    (msize : c.msize < 2 ^ 32) (limit : c.fid_limit < 2 ^ 32) where
  abbrev told : Option ℕ → Option IdMap → Option IdMap → Option ℕ
      → Result Configuration ConfigJsonError
  told m u g f = do
    msize ← ok_or m (error.Key 2)
    uid_map ← ok_or u (error.Key 3)
    gid_map ← ok_or g (error.Key 4)
    fid_limit ← ok_or f (error.Key 6)
    Ok (record {
      root = c.root.items;
      msize = msize;
      uid_map = uid_map;
      gid_map = gid_map;
      ascii_casefold = c.ascii_casefold;
      fid_limit = fid_limit;
    })

  pub config_back : config_of (config_json c) ≡ Ok (configuration c)
  unfolding config_of
  config_back =
      ap (λ (m : Option ℕ). told m (ids_of (ids_json c.uid_map.entries))
      (ids_of (ids_json c.gid_map.entries)) (below_32 c.fid_limit)) (small c.msize msize)
      ∙ ap (λ (u : Option IdMap). told (Some c.msize) u (ids_of (ids_json c.gid_map.entries))
      (below_32 c.fid_limit)) uids
      ∙ ap (λ (g : Option IdMap). told (Some c.msize) (Some (from_entries c.uid_map.entries)) g
      (below_32 c.fid_limit)) gids
      ∙ ap (told (Some c.msize) (Some (from_entries c.uid_map.entries))
      (Some (from_entries c.gid_map.entries))) (small c.fid_limit limit)
