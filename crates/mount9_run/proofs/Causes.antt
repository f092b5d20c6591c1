-- Each answer of an outcome with its cause, and the other way round.
use Rattle.std.proofs.Common.{◌≡◌, ◌≢◌, ◌⊎◌, ⊎_elim, inl, inr, ℕ, ◌<◌, ◌≤◌, Bool, true, false, cond}
use Rattle.std.proofs.Common.{List, Option, Some, None, Result, Ok, Err, refl, sym, ap, ◌∙◌, subst}
use Rattle.std.proofs.Common.{arith, nat_lt, nat_le}
use Rattle.std.proofs.lemmas.Bool.Decides.{nat_tests}
use Rattle.std.specs.Prelude.{◌↔◌, option_map}
use Rattle.port_base.specs.Faults.{Faulted}
use Rattle.port_base.specs.declared.errno.TheConstants.{ENFILE}
use Rattle.fuse_gate.specs.declared.gate.TheConstants.{LEAST_MSIZE}
use Rattle.tree_model.specs.Tree.{Tree, linked}
use Rattle.tree_model.specs.Finding.{path_names, root_of}
use Rattle.fuse_wire.specs.Cuts.{Cut, cut, End}
use Rattle.fuse_wire.specs.Cuts.End.{done, turns_spent, torn, bad_length}
use Rattle.mount9_run.specs.Command.{Serve, command}
use Rattle.mount9_run.specs.Header.{HeaderRead, header}
use Rattle.mount9_run.specs.Outcome.{mount_refused, refusal, root_given, status_of, attached}
use Rattle.mount9_run.specs.Outcome.{played, mounted, run_of, outcome, outcome_by}
use Rattle.mount9_run.specs.Running.{RanBy, Ran}
use Rattle.mount9_run.specs.Causes.{IsAccepted, IsValidInput, IsStoppedInput, IsRefusedHeader}
use Rattle.frame_pump.specs.declared.outcome.BridgeError.TheVariants.{MsizeTooSmall, Mount}
use Rattle.mount9_run.specs.declared.run.Status.{Status}
use Rattle.mount9_run.specs.declared.run.Status.TheVariants.{Served, Stopped, Words, Header, Memory}
use Rattle.mount9_run.specs.declared.run.Status.TheVariants.{Input, Output}

below : (n : ℕ) → nat_lt n LEAST_MSIZE ≡ true → n < LEAST_MSIZE
below n h = grind (arith, nat_tests)

not_below : (n : ℕ) → nat_lt n LEAST_MSIZE ≡ false → LEAST_MSIZE ≤ n
not_below n h = grind (arith, nat_tests)

at_least : (n : ℕ) → LEAST_MSIZE ≤ n → nat_lt n LEAST_MSIZE ≡ false
at_least n h = grind (arith, nat_tests)

none_of : (n : ℕ) → nat_le n 0 ≡ true → n ≡ 0
none_of n h = grind (arith, nat_tests)

some_of : (n : ℕ) → nat_le n 0 ≡ false → 1 ≤ n
some_of n h = grind (arith, nat_tests)

positive : (n : ℕ) → 1 ≤ n → nat_le n 0 ≡ false
positive n h = grind (arith, nat_tests)

module _ (words : List (List ℕ)) (bytes : List ℕ) where
  abbrev Caused : Status → Type 0
  Caused Served = IsValidInput words bytes
  Caused Stopped = IsStoppedInput words bytes
  Caused Words = command words ≡ None
  Caused Header = IsRefusedHeader words bytes
  Caused Memory = ⊥
  Caused Input = ⊥
  Caused Output = ⊥

  abbrev answer : Status
  answer = (outcome words bytes).0

  -- ---- the answer to accepted words and a header

  abbrev by_mount : Option ℕ → Status → Status
  by_mount (Some e) x = Stopped
  by_mount None x = x

  abbrev by_root : Result ℕ ℕ → Status → Status
  by_root (Err e) x = Stopped
  by_root (Ok i) x = x

  module _ (a : IsAccepted words bytes) where
    abbrev t : Tree
    t = a.described.tree

    abbrev taken : Cut
    taken = cut a.serve.turns a.rest

    abbrev at_root : Result ℕ ℕ
    at_root = root_of (linked t) (path_names a.serve.root)

    refusal_is : (b : Bool) → nat_lt a.serve.msize LEAST_MSIZE ≡ b → (o : Option ℕ)
        → mount_refused a.serve.target a.described ≡ o
        → refusal a.serve a.described ≡ cond b (Some MsizeTooSmall) (option_map Mount o)
    refusal_is b short o mount = λ j. cond (short j) (Some MsizeTooSmall)
        (option_map Mount (mount j))

    served_by : (r : Result ℕ ℕ) → root_given a.serve (linked t) ≡ r
        → (mounted a.serve t a.rest None).0 ≡ by_root r (status_of taken.end)
    served_by (Err e) root = ap (λ x. (attached a.serve (linked t) x taken).0) root
    served_by (Ok i) root = ap (λ x. (attached a.serve (linked t) x taken).0) root

    run_by : (b : Bool) → nat_lt a.serve.msize LEAST_MSIZE ≡ b → (o : Option ℕ)
        → mount_refused a.serve.target a.described ≡ o → (r : Result ℕ ℕ)
        → root_given a.serve (linked t) ≡ r
        → (run_of a.serve a.described a.rest).0 ≡ cond b Stopped
        (by_mount o (by_root r (status_of taken.end)))
    run_by true short o mount r root = ap (λ x. (mounted a.serve t a.rest x).0)
        (refusal_is true short o mount)
    run_by false short (Some e) mount r root =
        ap (λ x. (mounted a.serve t a.rest x).0) (refusal_is false short (Some e) mount)
    run_by false short None mount r root = ap (λ x. (mounted a.serve t a.rest x).0)
        (refusal_is false short None mount) ∙ served_by r root

    -- where there may be a fid, the root decides
    given_by : (c : Bool) → nat_le a.serve.ids 0 ≡ c
        → root_given a.serve (linked t) ≡ cond c (Err ENFILE) at_root
    given_by c no_fid = ap (λ b. cond b (Err ENFILE) at_root) no_fid

    given_root : 1 ≤ a.serve.ids → root_given a.serve (linked t) ≡ at_root
    given_root some = given_by false (positive a.serve.ids some)

    no_root : (c : Bool) → nat_le a.serve.ids 0 ≡ c → (e : ℕ)
        → root_given a.serve (linked t) ≡ Err e → (a.serve.ids ≡ 0)
        ⊎ ((errno : ℕ) × (at_root ≡ Err errno))
    no_root true no_fid e root = inl (none_of a.serve.ids no_fid)
    no_root false no_fid e root = inr (e, sym (given_by false no_fid) ∙ root)

    some_root : (c : Bool) → nat_le a.serve.ids 0 ≡ c → (i : ℕ)
        → root_given a.serve (linked t) ≡ Ok i → (1 ≤ a.serve.ids) × (at_root ≡ Ok i)
    some_root true no_fid i root = let clash : ◌≡◌ {A = Result ℕ ℕ} (Err ENFILE) (Ok i) =
        sym (given_by true no_fid) ∙ root in absurd cc
    some_root false no_fid i root = (some_of a.serve.ids no_fid, sym (given_by false no_fid) ∙ root)

    accepted_answer : answer ≡ (run_of a.serve a.described a.rest).0
    accepted_answer = ap (λ o. (outcome_by o (header bytes)).0) a.commanded
        ∙ ap (λ r. (outcome_by (Some a.serve) r).0) a.headed

    -- ---- each answer has its cause

    ended_cause : LEAST_MSIZE ≤ a.serve.msize → mount_refused a.serve.target a.described ≡ None
        → (i : ℕ) → (1 ≤ a.serve.ids) × (at_root ≡ Ok i) → (e : End) → taken.end ≡ e
        → Caused (status_of e)
    ended_cause long is i root done at = record {
      accepted = a;
      long = long;
      let_in = is;
      some = root.0;
      root = i;
      found = root.1;
      whole =
          at;
    }
    ended_cause long is i root turns_spent at =
        record {
          accepted = a;
          cause = inr (inr
              (inr (inr (λ over. let clash : turns_spent ≡ done = sym at ∙ over in cc))));
        }
    ended_cause long is i root torn at = record {
      accepted = a;
      cause = inr (inr (inr
          (inr (λ over. let clash : torn ≡ done = sym at ∙ over in cc))));
    }
    ended_cause long is i root bad_length at =
        record {
          accepted = a;
          cause = inr (inr
              (inr (inr (λ over. let clash : bad_length ≡ done = sym at ∙ over in cc))));
        }

    root_cause : (a.serve.ids ≡ 0) ⊎ ((errno : ℕ) × (at_root ≡ Err errno)) → Caused Stopped
    root_cause why = ⊎_elim (λ none. record { accepted = a; cause = inr (inr (inl none)) })
        (λ away. record { accepted = a; cause = inr (inr (inr (inl away))) }) why

    run_cause : (b : Bool) → nat_lt a.serve.msize LEAST_MSIZE ≡ b → (o : Option ℕ)
        → mount_refused a.serve.target a.described ≡ o → (r : Result ℕ ℕ)
        → root_given a.serve (linked t) ≡ r
        → Caused (cond b Stopped (by_mount o (by_root r (status_of taken.end))))
    run_cause true short o mount r root = record
        { accepted = a; cause = inl (below a.serve.msize short) }
    run_cause false short (Some e) mount r root =
        record {
          accepted = a;
          cause = inr (inl
              (λ none. let clash : Some e ≡ None = sym mount ∙ none in cc));
        }
    run_cause false short None mount (Err e) root =
        root_cause (no_root (nat_le a.serve.ids 0) refl e root)
    run_cause false short None mount (Ok i) root =
        ended_cause (not_below a.serve.msize short) mount i
        (some_root (nat_le a.serve.ids 0) refl i root) taken.end refl

    accepted_cause : Caused (run_of a.serve a.described a.rest).0
    accepted_cause =
        subst Caused (sym (run_by (nat_lt a.serve.msize LEAST_MSIZE) refl
        (mount_refused a.serve.target a.described) refl (root_given a.serve (linked t)) refl))
        (run_cause (nat_lt a.serve.msize LEAST_MSIZE) refl
        (mount_refused a.serve.target a.described) refl (root_given a.serve (linked t)) refl)

  cause_by : (o : Option Serve) → command words ≡ o → (r : Result (HeaderRead × List ℕ) ℕ)
      → header bytes ≡ r → Caused (outcome_by o r).0
  cause_by None w r h = w
  cause_by (Some s) w (Err n) h = record { serve = s; commanded = w; line = n; refused = h }
  cause_by (Some s) w (Ok p) h = accepted_cause
      (record { serve = s; commanded = w; described = p.0; rest = p.1; headed = h })

  caused : (s : Status) → answer ≡ s → Caused s
  caused s is = subst Caused is (cause_by (command words) refl (header bytes) refl)

  -- ---- each cause has its answer

  told_words : command words ≡ None → answer ≡ Words
  told_words is = ap (λ o. (outcome_by o (header bytes)).0) is

  told_header : IsRefusedHeader words bytes → answer ≡ Header
  told_header h = ap (λ o. (outcome_by o (header bytes)).0) h.commanded
      ∙ ap (λ r. (outcome_by (Some h.serve) r).0) h.refused

  told_served : IsValidInput words bytes → answer ≡ Served
  told_served v =
      accepted_answer v.accepted
      ∙ run_by v.accepted false (at_least v.accepted.serve.msize v.long) None v.let_in (Ok v.root)
      (given_root v.accepted v.some ∙ v.found)
      ∙ ap status_of v.whole

  not_done : (e : End) → e ≢ done → status_of e ≡ Stopped
  not_done done other = absurd (other refl)
  not_done turns_spent other = refl
  not_done torn other = refl
  not_done bad_length other = refl

  told_stopped : IsStoppedInput words bytes → answer ≡ Stopped
  told_stopped v =
      accepted_answer v.accepted
      ∙ run_by v.accepted (nat_lt v.accepted.serve.msize LEAST_MSIZE) refl
      (mount_refused v.accepted.serve.target v.accepted.described) refl
      (root_given v.accepted.serve (linked v.accepted.described.tree)) refl
      ∙ stops (nat_lt v.accepted.serve.msize LEAST_MSIZE) refl
      (mount_refused v.accepted.serve.target v.accepted.described) refl
      (root_given v.accepted.serve (linked v.accepted.described.tree)) refl where
        rooted : (i : ℕ) → root_given v.accepted.serve (linked v.accepted.described.tree) ≡ Ok i
            → (1 ≤ v.accepted.serve.ids) × (root_of (linked v.accepted.described.tree)
            (path_names v.accepted.serve.root) ≡ Ok i)
        rooted i root = some_root v.accepted (nat_le v.accepted.serve.ids 0) refl i root

        stops : (b : Bool) → nat_lt v.accepted.serve.msize LEAST_MSIZE ≡ b → (o : Option ℕ)
            → mount_refused v.accepted.serve.target v.accepted.described ≡ o
            → (r : Result ℕ ℕ) → root_given v.accepted.serve (linked v.accepted.described.tree) ≡ r
            → cond b Stopped (by_mount o (by_root r
            (status_of (cut v.accepted.serve.turns v.accepted.rest).end))) ≡ Stopped
        stops true short o mount r root = refl
        stops false short (Some e) mount r root = refl
        stops false short None mount (Err e) root = refl
        stops false short None mount (Ok i) root = ⊎_elim
            (λ lt. absurd (let least = not_below v.accepted.serve.msize short in omega
            (arith, lt, least)))
            (λ others. ⊎_elim (λ some. absurd (some mount))
            (λ more. ⊎_elim (λ zero. absurd (let some =
            (rooted i root).0 in omega (arith, zero, some)))
            (λ last. ⊎_elim (λ away. absurd (let clash : ◌≡◌ {A = Result ℕ ℕ} (Err away.0) (Ok i) =
            sym away.1 ∙ (rooted i root).1 in cc))
            (λ other. not_done (cut v.accepted.serve.turns v.accepted.rest).end other) last) more)
            others)
            v.cause

  -- what valid input writes: the play of its frames
  pub served_outcome : (v : IsValidInput words bytes)
      → outcome words bytes ≡ played v.accepted.serve (linked v.accepted.described.tree) v.root
      (cut v.accepted.serve.turns v.accepted.rest)
  served_outcome v =
      let a : IsAccepted words bytes = v.accepted in
      ap (λ o. outcome_by o (header bytes)) a.commanded
      ∙ ap (λ r. outcome_by (Some a.serve) r) a.headed
      ∙ ap (mounted a.serve a.described.tree a.rest)
      (refusal_is a false (at_least a.serve.msize v.long) None v.let_in)
      ∙ ap (λ r. attached a.serve (linked a.described.tree) r (cut a.serve.turns a.rest))
      (given_root a v.some ∙ v.found)

  pub served_exactly : (answer ≡ Served) ↔ IsValidInput words bytes
  served_exactly = (caused Served, told_served)

  pub stopped_exactly : (answer ≡ Stopped) ↔ IsStoppedInput words bytes
  stopped_exactly = (caused Stopped, told_stopped)

  pub words_exactly : (answer ≡ Words) ↔ (command words ≡ None)
  words_exactly = (caused Words, told_words)

  pub header_exactly : (answer ≡ Header) ↔ IsRefusedHeader words bytes
  header_exactly = (caused Header, told_header)

  -- ---- a run whose streams don't fail answers so, or wants memory

  module _ (sent0 sent1 : Option (List ℕ)) (in0 in1 out0 out1 : ℕ) (quiet_in : Faulted in0 in1 → ⊥)
      (quiet_out : Faulted out0 out1 → ⊥) where
    quiet_by : (s : Status) → RanBy (outcome words) (Some bytes) sent0 sent1 in0 in1 out0 out1 s
        → (s ≡ answer) ⊎ (s ≡ Memory)
    quiet_by Served h = inl (sym h.2.0)
    quiet_by Stopped h = inl (sym h.2.0)
    quiet_by Words h = inl (sym h.2.0)
    quiet_by Header h = inl (sym h.2.0)
    quiet_by Memory h = inr refl
    quiet_by Input h = absurd (quiet_in h.0)
    quiet_by Output h = absurd (quiet_out h.1)

    pub answers_alike : (s : Status) → Ran (outcome words) (Some bytes) sent0 sent1 in0 in1 out0
        out1 s → (s ≡ answer) ⊎ (s ≡ Memory)
    answers_alike s h = quiet_by s h.answer
