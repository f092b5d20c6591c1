-- WRITE, piece by piece.
use Rattle.std.proofs.Common.{◌≡◌, ◌≢◌, ℕ, zero, suc, ◌+◌, ◌-◌, ◌^◌, ◌<◌, ◌≤◌, min, Bool, true}
use Rattle.std.proofs.Common.{false, cond}
use Rattle.std.proofs.Common.{List, ◌++◌, length, take, drop, Some, None, Option, Result, Ok, Err}
use Rattle.std.proofs.Common.{refl, sym, ap, ◌∙◌, subst, arith, ◌⊎◌, ⊎_elim, inl, inr}
use Rattle.std.proofs.Common.{append_assoc, length-take, length-drop}
use Rattle.std.specs.Prelude.{option_map}
use Rattle.std.specs.FinMap.{get}
use Rattle.std.proofs.lemmas.List.{drop-drop, take_all, take-append-drop}
use Rattle.std.proofs.Math.Seq.{take-add}
use Rattle.port_base.specs.declared.errno.TheConstants.{EBADF, EFBIG, EIO}
use Rattle.tree_model.specs.Attributes.{attr_or_missing}
use Rattle.tree_model.specs.Attributing.{write_of, write_refused, fitting, overwritten_at}
use Rattle.tree_model.specs.Attributing.{refused_at}
use Rattle.tree_model.specs.Attributing.{written}
use Rattle.tree_model.specs.OpenedFiles.{size_at, size_told}
use Rattle.tree_model.specs.Tree.{Tree, Record, body_at, keep}
use Rattle.tree_model.specs.Tree.Body.{File}
use Rattle.tree_model.specs.Sound.{IsKept}
use Rattle.tree_model.proofs.Attributing.{amended_kept}
use Rattle.tree_model.proofs.Rewriting.{overwritten_good}
use Rattle.tree_model.proofs.Writing.{at_most, behind_both, behind_bytes, cut_short, longer, more}
use Rattle.tree_model.proofs.Writing.{none_of_more, none_written, only_too_big, was_written}
use Rattle.tree_model.proofs.Writing.{ends_within, whole_file, whole_more}
use Rattle.tree_machine.specs.State.{MachineState, kept_state}
use Rattle.tree_machine.specs.Replies.{Reply}
use Rattle.tree_machine.specs.Replies.Reply.{Refused, Written}
use Rattle.tree_machine.specs.Messages.{pieces, write_messages, write_piece}
use Rattle.tree_machine.specs.Writing.{written_reply, written_tree}
use Rattle.tree_machine.proofs.Pieces.{last_short, last_whole, one_more}
use Rattle.tree_machine.proofs.Setting.{Keeps as KeepsAll, keeps_refl as tree_same}
use Rattle.tree_machine.proofs.Setting.{keeps_trans as tree_then}
use Rattle.tree_machine.proofs.WrittenFiles.{write_keeps}
use Rattle.fid_model.specs.FidCalls.{by_open_fid}
use Rattle.fid_model.specs.Fids.{ServerState, Fid, IsGoodServer, appends, is_held, is_writable}
use Rattle.fid_model.specs.Files.{write_place, write_told}
use Rattle.fid_model.specs.Moments.{Moment, Keeps, AskedOne, Asks}
use Rattle.fid_model.proofs.Keeping.{keep_same}
use Rattle.fid_model.proofs.Moments.{keeps_refl, keeps_trans}
use Rattle.p9_client.specs.Changing.{changed, OldOrTold}
use Rattle.fuse_gate.specs.Standing.{IsInStep, machine_of, piece_of}
use Rattle.fuse_gate.specs.Changes.{one_sent}
use Rattle.fuse_gate.specs.Writing.{WritesFile, LeavesFront, ServesWriting}
use Rattle.fuse_gate.specs.declared.gate.Gate.{Gate}
use Rattle.fuse_gate.proofs.Standings.{sent_stands, stands_kept}
use Rattle.fuse_gate.proofs.Serving.{SentAlone, none_sent, one_more_sent}
use Rattle.fuse_gate.proofs.TreeChanging.{stands_with}

-- ---- lists and counts

-- a front part, and a part behind it
front_then : (w k : ℕ) (bytes : List ℕ) → take w bytes ++ take k (drop w bytes) ≡ take (w + k) bytes
front_then w k bytes = sym (take-add w k bytes)

counts_last : (sent rest total : ℕ) → sent + rest ≡ total → rest ≡ 1 → total ≡ sent + 1
counts_last sent rest total is one = omega arith

counts_more : (sent rest left total : ℕ) → sent + rest ≡ total → rest ≡ 1 + left
    → sent + 1 + left ≡ total
counts_more sent rest left total is next = omega arith

-- a full piece, and the messages of what is behind it
full_piece : (piece size : ℕ) (u : Tree) (r : Result (ℕ × Tree) ℕ) → 1 ≤ piece → piece < size
    → ((n : ℕ) (v : Tree) → r ≡ Ok (n, v) → n ≤ size - piece)
    → write_messages piece size (more piece u r) ≡ 1 + write_messages piece (size - piece) r
full_piece piece size u (Ok (n, v)) some long low =
    let few = low n v refl in
    let same : piece + n - piece ≡ n = omega arith in
    one_more piece size (piece + n) some long (omega arith) (omega arith)
    ∙ ap (λ (k : ℕ). 1 + pieces piece (size - piece) k) same
full_piece piece size u (Err e) some long low =
    let none : piece - piece ≡ 0 = omega arith in
    one_more piece size piece some long (omega arith) (omega arith)
    ∙ ap (λ (k : ℕ). 1 + pieces piece (size - piece) k) none
    ∙ ap (λ (k : ℕ). 1 + k) (last_short piece (size - piece) 0 (omega arith))

-- what is told behind so many bytes
behind_ok : (w n : ℕ) (u v : Tree)
    → ◌≡◌ {A = Result (ℕ × Tree) ℕ} (behind_bytes w u (Ok (n, v))) (Ok (w + n, v))
behind_ok zero n u v =
    let all : n ≡ 0 + n = omega arith in
    ap (λ (k : ℕ). let x : Result (ℕ × Tree) ℕ = Ok (k, v) in x) all
behind_ok (suc w) n u v = refl

behind_err : (w : ℕ) (u : Tree) (e : ℕ) → 1 ≤ w
    → ◌≡◌ {A = Result (ℕ × Tree) ℕ} (behind_bytes w u (Err e)) (Ok (w, u))
behind_err zero u e some = absurd (omega (arith, some))
behind_err (suc w) u e some = refl

-- the tree behind so many bytes
behind_tree : (w : ℕ) (t u : Tree) (r : Result (ℕ × Tree) ℕ) → (w ≡ 0 → u ≡ t)
    → written_tree t (behind_bytes w u r) ≡ written_tree u r
behind_tree zero t u (Ok (n, v)) first = refl
behind_tree zero t u (Err e) first = sym (first refl)
behind_tree (suc w) t u (Ok (n, v)) first = refl
behind_tree (suc w) t u (Err e) first = refl

-- the size of a file
file_size : (t : Tree) (ino : ℕ) (bytes : List ℕ) → body_at t.records ino ≡ Some (File bytes)
    → size_at t ino ≡ length bytes
file_size t ino bytes = by_record (get t.records ino) where
  by_record : (o : Option Record) → option_map (λ (r : Record). r.body) o ≡ Some (File bytes)
      → size_told (attr_or_missing ino o) ≡ length bytes
  by_record None is = absurd cc
  by_record (Some r) is =
      let same : r.body ≡ File bytes = cc in
      ap (λ b. size_told (attr_or_missing ino (Some (record r { body = b })))) same

-- ---- what a write leaves

module _ (s : ServerState) (good : IsGoodServer s) (ino place : ℕ) (xs old : List ℕ)
    (file : body_at s.tree.records ino ≡ Some (File old)) where
  -- no record goes
  write_kept : (n : ℕ) (v : Tree) → write_of s.tree ino place xs ≡ Ok (n, v)
      → keep (is_held s.fids) v ≡ v
  write_kept n v is =
      let t = s.tree in
      let w = was_written t ino place old file xs n v is in
      let cut = fitting t.limits.file place xs in
      let free : refused_at (write_refused t.limits.file place xs) (body_at t.records ino) ≡ None =
      ap (refused_at (write_refused t.limits.file place xs)) file ∙ w.free in
      keep_same v (is_held s.fids)
      (subst (λ (x : Tree). IsKept x.records (is_held s.fids)) (sym w.tree)
      (amended_kept t good.tree ino (write_refused t.limits.file place xs)
      (overwritten_at t.moment place cut) (overwritten_good t good.tree ino place xs) free
      (is_held s.fids) good.kept))

-- ---- between two pieces

module _ (g : Gate) (n : Moment) (fid offset : ℕ) (bytes : List ℕ) where
  abbrev m : MachineState
  m = machine_of g n.state

  abbrev t0 : Tree
  t0 = n.state.tree

  abbrev ino_of : WritesFile n.state fid → ℕ
  ino_of o = o.f.ino

  abbrev place_of : WritesFile n.state fid → ℕ
  place_of o = write_place t0 o.f offset

  abbrev piece : ℕ
  piece = write_piece (piece_of n.state)

  abbrev told : Result (ℕ × Tree) ℕ
  told = write_told n.state fid offset bytes

  -- each piece so far was written whole, by one message
  pub record Writing (g1 : Gate) (n1 : Moment) (w : ℕ) : Type 0 where
    pub o : WritesFile n.state fid
    pub same : n1.state ≡ record n.state { tree = n1.state.tree }
    pub first : w ≡ 0 → n1.state.tree ≡ n.state.tree
    pub sent : ℕ
    pub alone : SentAlone sent g n g1 n1
    pub keeps : KeepsAll n.state.tree n1.state.tree
    pub old : List ℕ
    pub file : body_at n1.state.tree.records (ino_of o) ≡ Some (File old)
    pub fits : (w ≡ 0) ⊎ (place_of o + w ≤ 1073741824)
    pub within : (w ≡ 0) ⊎ (w < length bytes)
    pub at_end : appends o.f.open_state ≡ true → length old ≡ place_of o + w
    pub joins : (ys : List ℕ) → write_of n.state.tree (ino_of o) (place_of o) (take w bytes ++ ys)
        ≡ behind_bytes w n1.state.tree (write_of n1.state.tree (ino_of o) (place_of o + w) ys)
    pub counts : sent + write_messages piece (length bytes - w)
        (write_of n1.state.tree (ino_of o) (place_of o + w) (drop w bytes))
        ≡ write_messages piece (length bytes) (write_of n.state.tree (ino_of o) (place_of o) bytes)
    pub kept : Keeps n n1

  -- what is told by the fid, at any moment at which it is open
  pub told_by : (o : WritesFile n.state fid) (s : ServerState) → get s.fids fid ≡ Some o.f → (at : ℕ)
      (xs : List ℕ) → write_told s fid at xs ≡ write_of s.tree o.f.ino (write_place s.tree o.f at) xs
  told_by o s is at xs =
      ap (by_open_fid is_writable (λ (f : Fid). write_of s.tree f.ino (write_place s.tree f at) xs))
      is ∙ ap (λ (b : Bool). cond b (write_of s.tree o.f.ino (write_place s.tree o.f at) xs) (Err EBADF))
      o.writable

  pub begins : IsGoodServer n.state → WritesFile n.state fid → Writing g n 0
  begins good o =
      let place = place_of o in
      let ino = ino_of o in
      let here : place + 0 ≡ place = omega arith in record {
        o = o;
        same = refl;
        first = λ none. refl;
        sent = 0;
        alone = none_sent g n;
        keeps = tree_same t0 good.tree;
        old = o.bytes;
        file = o.file;
        fits = inl refl;
        within = inl refl;
        at_end = λ is. sym (file_size t0 ino o.bytes o.file)
            ∙ sym (ap (λ (b : Bool). cond b (size_at t0 ino) offset) is) ∙ sym here;
        joins = λ ys. ap (λ (k : ℕ). write_of t0 ino k ys) (sym here);
        counts =
            let all : length bytes - 0 ≡ length bytes = omega arith in
            zero_add (λ j. write_messages piece (all j) (write_of t0 ino (here j) bytes));
        kept = keeps_refl n;
      } where
        zero_add : {a b : ℕ} → a ≡ b → 0 + a ≡ b
        zero_add is = omega (arith, is)

  module _ (st : IsInStep g n.state) {g1 : Gate} {n1 : Moment} {w : ℕ} (r : Writing g1 n1 w)
      (good1 : IsGoodServer n1.state)
      (at size : ℕ) (at_is : at ≡ min (offset + w) (2 ^ 64 - 1)) (low : offset < 2 ^ 64)
      (size_is : size ≡ min (length bytes - w) piece)
      (xs : List ℕ) (xs_at : xs ≡ take (w + size - w) (drop w bytes)) where
    xs_is : xs ≡ take size (drop w bytes)
    xs_is =
        let from_w : w + size - w ≡ size = omega arith in
        xs_at ∙ ap (λ (i : ℕ). take i (drop w bytes)) from_w

    abbrev o : WritesFile n.state fid
    o = r.o

    abbrev ino : ℕ
    ino = ino_of r.o

    abbrev place : ℕ
    place = place_of r.o

    abbrev t1 : Tree
    t1 = n1.state.tree

    abbrev told1 : Result (ℕ × Tree) ℕ
    told1 = write_of t1 ino (place + w) xs

    abbrev seen : Result ℕ ℕ × ServerState
    seen = changed n1.state (λ k. k) told1

    place_now : write_place t1 o.f at ≡ place + w
    place_now = by_test (appends o.f.open_state) refl where
      by_test : (b : Bool) → appends o.f.open_state ≡ b → write_place t1 o.f at ≡ place + w
      by_test true is = ap (λ (b : Bool). cond b (size_at t1 ino) at) is
          ∙ file_size t1 ino r.old r.file ∙ r.at_end is
      by_test false is =
          let from : place ≡ offset = ap (λ (b : Bool). cond b (size_at t0 ino) offset) is in
          ap (λ (b : Bool). cond b (size_at t1 ino) at) is
          ∙ ⊎_elim (λ none. omega (arith, from, at_is, low, none))
          (λ fits. omega (arith, from, at_is, fits)) r.fits

    told_now : write_told n1.state fid at xs ≡ told1
    told_now = told_by o n1.state (ap (λ (s : ServerState). get s.fids fid) r.same ∙ o.at) at xs
        ∙ ap (λ (k : ℕ). write_of t1 ino k xs) place_now

    length_is : length xs ≡ size
    length_is =
        let cut = length-take size (drop w bytes) in
        let rest = length-drop w bytes in
        ap length xs_is ∙ omega (arith, cut, rest, size_is)

    -- the bytes to come are these and those behind them
    these_first : drop w bytes ≡ xs ++ drop size (drop w bytes)
    these_first = sym (take-append-drop size (drop w bytes))
        ∙ ap (λ (l : List ℕ). l ++ drop size (drop w bytes)) (sym xs_is)

    seen_ok : (k : ℕ) (v : Tree) → told1 ≡ Ok (k, v)
        → seen ≡ (Ok k, record n1.state { tree = v })
    seen_ok k v is = ap (changed n1.state (λ k. k)) is
        ∙ ap (λ (u : Tree). let x : Result ℕ ℕ × ServerState =
        (Ok k, record n1.state { tree = u }) in x)
        (write_kept n1.state good1 ino (place + w) xs r.old r.file k v is)

    -- ---- the tree after a front part of the bytes

    fronts : (k : ℕ) → written_tree t0 (write_told n.state fid offset (take (w + k) bytes))
        ≡ written_tree t1 (write_of t1 ino (place + w) (take k (drop w bytes)))
    fronts k = ap (written_tree t0) (told_by o n.state o.at offset (take (w + k) bytes)
        ∙ ap (write_of t0 ino place) (sym (front_then w k bytes)) ∙ r.joins (take k (drop w bytes)))
        ∙ behind_tree w t0 t1 (write_of t1 ino (place + w) (take k (drop w bytes))) r.first

    seen_tree : seen.1.tree ≡ written_tree t1 told1
    seen_tree = by_told told1 refl where
      by_told : (x : Result (ℕ × Tree) ℕ) → told1 ≡ x → seen.1.tree ≡ written_tree t1 told1
      by_told (Ok (k, v)) is =
          ap (λ (y : Result ℕ ℕ × ServerState). y.1.tree) (seen_ok k v is)
          ∙ sym (ap (written_tree t1) is)
      by_told (Err e) is =
          ap (λ (y : Result (ℕ × Tree) ℕ). (changed n1.state (λ k. k) y).1.tree) is
          ∙ sym (ap (written_tree t1) is)

    front_left : (u : Tree) → OldOrTold seen t1 u → LeavesFront fid offset bytes n.state u
    front_left u (inl is) = (
      w + 0,
      is ∙ sym (fronts 0
          ∙ ap (written_tree t1) (none_written t1 ino (place + w) r.old r.file)),
    )
    front_left u (inr is) = (
      w + size,
      is ∙ seen_tree ∙ sym (fronts size
          ∙ ap (λ (l : List ℕ). written_tree t1 (write_of t1 ino (place + w) l)) (sym xs_is)),
    )

    keeps_told : KeepsAll t0 (written_tree t1 told1)
    keeps_told = by_told told1 refl where
      by_told : (x : Result (ℕ × Tree) ℕ) → told1 ≡ x → KeepsAll t0 (written_tree t1 told1)
      by_told (Ok (k, v)) is = subst (λ y. KeepsAll t0 (written_tree t1 y)) (sym is)
          (tree_then t0 t1 v r.keeps (write_keeps t1 r.keeps.good ino (place + w) xs k v is))
      by_told (Err e) is = subst (λ y. KeepsAll t0 (written_tree t1 y)) (sym is) r.keeps

    keeps_left : (u : Tree) → OldOrTold seen t1 u → KeepsAll t0 u
    keeps_left u (inl is) = subst (KeepsAll t0) (sym is) r.keeps
    keeps_left u (inr is) = subst (KeepsAll t0) (sym (is ∙ seen_tree)) keeps_told

    -- what is left of the tree where the message wasn't answered
    pub unfinished : (u : Tree)
        → OldOrTold (changed n1.state (λ k. k) (write_told n1.state fid at xs)) t1 u
        → LeavesFront fid offset bytes n.state u
    unfinished u left = front_left u
        (subst (λ (x : Result (ℕ × Tree) ℕ). OldOrTold (changed n1.state (λ k. k) x) t1 u) told_now
        left)

    -- ---- the message was answered

    module _ (g2 : Gate) (n2 : Moment) (sent : g2 ≡ one_sent g1) (asked : AskedOne n1 n2)
        (kept : Keeps n1 n2) (good2 : IsGoodServer n2.state) (answer : Result ℕ ℕ)
        (asks : Asks (changed n1.state (λ k. k) (write_told n1.state fid at xs))
        (OldOrTold (changed n1.state (λ k. k) (write_told n1.state fid at xs))) answer
        n1.state n2.state n1.faults n2.faults) where
      asks_now : Asks seen (OldOrTold seen) answer n1.state n2.state n1.faults n2.faults
      asks_now = subst (λ (x : Result (ℕ × Tree) ℕ). Asks (changed n1.state (λ k. k) x)
          (OldOrTold (changed n1.state (λ k. k) x)) answer n1.state n2.state n1.faults n2.faults)
          told_now asks

      all_sent : SentAlone (r.sent + 1) g n g2 n2
      all_sent = one_more_sent r.alone g2 n2 sent asked

      stands_then : (v : Tree) → KeepsAll t0 v → n2.state ≡ record n.state { tree = v }
          → IsInStep g2 n2.state
      stands_then v k is = subst (IsInStep g2) (sym is)
          (subst (λ (x : Gate). IsInStep x (record n.state { tree = v })) (sym all_sent.gate)
          (sent_stands (stands_with st v k) g2.nine_frames))

      machine_then : (v : Tree) → n2.state ≡ record n.state { tree = v }
          → machine_of g2 n2.state ≡ record m { tree = v }
      machine_then v is = ap (machine_of g2) is
          ∙ ap (λ (x : Gate). machine_of x (record n.state { tree = v })) all_sent.gate

      -- the last message, and all is as it is told
      ends : (v : Tree) → KeepsAll t0 v → n2.state ≡ record n.state { tree = v } → (reply : Reply)
          → (x : Result (ℕ × Tree) ℕ) → told ≡ x → written_reply x ≡ reply
          → written_tree t0 x ≡ v → r.sent + 1 ≡ write_messages piece (length bytes) x
          → ServesWriting fid offset bytes (g, n) (g2, n2) reply
      ends v k is reply x told_is shown tree_is count =
          let stands = stands_then v k is in record {
            stands = stands;
            sent = r.sent + 1;
            messages = all_sent.messages;
            outcome = inl (
              sym (ap written_reply told_is ∙ shown),
              sym (stands_kept stands good2) ∙ ap kept_state (machine_then v is
                  ∙ ap (λ (u : Tree). let y : MachineState = record m { tree = u } in y)
                  (sym (ap (written_tree t0) told_is ∙ tree_is))),
              count ∙ ap (write_messages piece (length bytes)) (sym told_is),
            );
          }

      told_is : told ≡ behind_bytes w t1 (write_of t1 ino (place + w) (drop w bytes))
      told_is = told_by o n.state o.at offset bytes
          ∙ ap (write_of t0 ino place) (sym (take-append-drop w bytes)) ∙ r.joins (drop w bytes)

      -- the messages, where one more is the last
      count_is : (x : Result (ℕ × Tree) ℕ) → told ≡ x → (y : Result (ℕ × Tree) ℕ)
          → write_of t1 ino (place + w) (drop w bytes) ≡ y
          → write_messages piece (length bytes - w) y ≡ 1
          → r.sent + 1 ≡ write_messages piece (length bytes) x
      count_is x is y rest one =
          sym (counts_last r.sent _ _ r.counts
          (ap (write_messages piece (length bytes - w)) rest ∙ one))
          ∙ ap (write_messages piece (length bytes))
          (sym (told_by o n.state o.at offset bytes) ∙ is)

      -- ---- so many bytes were written

      record Went (k : ℕ) : Type 0 where
        pub v : Tree
        pub is : told1 ≡ Ok (k, v)
        pub state : n2.state ≡ record n1.state { tree = v }

      went : (k : ℕ) → answer ≡ Ok k → Went k
      went k is = ⊎_elim
          (λ q. by_told told1 refl q)
          (λ f. absurd (let clash : Err EIO ≡ Ok k = sym f.1 ∙ is in cc)) asks_now where
            by_told : (x : Result (ℕ × Tree) ℕ) → told1 ≡ x → (answer, n2.state) ≡ seen → Went k
            by_told (Ok (j, v)) told q =
                let both = q ∙ seen_ok j v told in
                let same : Ok k ≡ Ok j =
                sym is ∙ ap (λ (y : Result ℕ ℕ × ServerState). y.0) both in
                let equal : k ≡ j = cc in record {
                  v = v;
                  is = told
                      ∙ ap (λ (i : ℕ). let y : Result (ℕ × Tree) ℕ = Ok (i, v) in y) (sym equal);
                  state = ap (λ (y : Result ℕ ℕ × ServerState). y.1) both;
                }
            by_told (Err e) told q = absurd (
                let clash : Ok k ≡ Err e = sym is ∙ ap (λ (y : Result ℕ ℕ × ServerState). y.0) q
                ∙ ap (λ (y : Result (ℕ × Tree) ℕ). (changed n1.state (λ k. k) y).0) told in cc)

      module _ (k : ℕ) (is : answer ≡ Ok k) where
        abbrev q : Went k
        q = went k is

        few : k ≤ length xs
        few = at_most t1 ino (place + w) r.old r.file xs k q.v q.is

        keeps_all : KeepsAll t0 q.v
        keeps_all = tree_then t0 t1 q.v r.keeps
            (write_keeps t1 r.keeps.good ino (place + w) xs k q.v q.is)

        state_then : n2.state ≡ record n.state { tree = q.v }
        state_then = q.state ∙ ap (λ (s : ServerState). let y : ServerState =
            record s { tree = q.v } in y) r.same

        pub count_low : k ≤ size
        count_low = let is = length_is in let low = few in omega (arith, is, low)

        rest_told : (k < size) ⊎ (w + k ≡ length bytes)
            → write_of t1 ino (place + w) (drop w bytes) ≡ Ok (k, q.v)
        rest_told (inl short) =
            let long = length_is in
            ap (write_of t1 ino (place + w)) these_first
            ∙ cut_short t1 ino (place + w) r.old r.file xs (drop size (drop w bytes)) k q.v q.is
            (omega (arith, long, short))
        rest_told (inr whole) =
            let low = count_low in
            let rest = length-drop w bytes in
            ap (write_of t1 ino (place + w))
            (sym (xs_is ∙ take_all size (drop w bytes) (omega (arith, rest, low, whole))))
            ∙ q.is

        last_message : (k < size) ⊎ (w + k ≡ length bytes)
            → pieces piece (length bytes - w) k ≡ 1
        last_message (inl short) =
            last_short piece (length bytes - w) k (omega (arith, short, size_is))
        last_message (inr whole) =
            let low = count_low in
            let roomy = st.roomy in
            last_whole piece (length bytes - w) k (omega (arith, roomy))
            (omega (arith, whole, low, size_is)) (omega (arith, whole))

        pub finished : (k < size) ⊎ (w + k ≡ length bytes)
            → ServesWriting fid offset bytes (g, n) (g2, n2) (Written (w + k))
        finished last =
            let x : Result (ℕ × Tree) ℕ = Ok (w + k, q.v) in
            let all : told ≡ x = told_is ∙ ap (behind_bytes w t1) (rest_told last)
            ∙ behind_ok w k t1 q.v in
            ends q.v keeps_all state_then (Written (w + k)) x all refl refl
            (count_is x all (Ok (k, q.v)) (rest_told last) (last_message last))

        -- no more bytes are written than end by the limit
        pub written_low : w + k ≤ 1073741824
        written_low =
            let most = r.keeps.good.limits.0 in
            let cut = length-take (t1.limits.file - (place + w)) xs in
            let count = (was_written t1 ino (place + w) r.old r.file xs k q.v q.is).count in
            ⊎_elim (λ none. omega (arith, most, cut, count, none))
            (λ fits. omega (arith, most, cut, count, fits)) r.fits

        -- ---- the piece was written whole, and others are behind it

        module _ (full : size ≤ k) (open_end : w + k ≢ length bytes) where
          equal : k ≡ length xs
          equal = let low = few in let long = length_is in omega (arith, low, long, full)

          whole_is : told1 ≡ Ok (length xs, q.v)
          whole_is = q.is ∙ ap (λ (i : ℕ). let y : Result (ℕ × Tree) ℕ = Ok (i, q.v) in y) equal

          inside : w ≤ length bytes
          inside = ⊎_elim (λ none. omega (arith, none)) (λ less. omega (arith, less)) r.within

          some : 1 ≤ length xs
          some = let long = length_is in let roomy = st.roomy in let low = inside in
              let eq = equal in
              ⊎_elim (λ none. absurd (open_end (omega (arith, none, long, eq, size_is, roomy, low))))
              (λ ne. ne) (zero_or (length xs)) where
                zero_or : (i : ℕ) → (i ≡ 0) ⊎ (1 ≤ i)
                zero_or zero = inl refl
                zero_or (suc i) = inr (omega arith)

          piece_is : k ≡ piece
          piece_is = let long = length_is in let eq = equal in let low = inside in
              by_size (length bytes) w k piece open_end low (eq ∙ long ∙ size_is) where
                by_size : (all w k piece : ℕ) → w + k ≢ all → w ≤ all → k ≡ min (all - w) piece
                    → k ≡ piece
                by_size all w k piece ne low is = omega (arith, ne, low, is)

          behind_it : (ys : List ℕ) → write_of t1 ino (place + w) (xs ++ ys)
              ≡ more k q.v (write_of q.v ino (place + (w + k)) ys)
          behind_it ys =
              let at_k : place + w + length xs ≡ place + (w + k) =
              let eq = equal in omega (arith, eq) in
              whole_more t1 ino (place + w) r.old r.file xs q.v whole_is some ys
              ∙ (λ j. more (sym equal j) q.v (write_of q.v ino (at_k j) ys))

          front_is : take (w + k) bytes ≡ take w bytes ++ xs
          front_is =
              let eq = equal in let long = length_is in
              let size_k : k ≡ size = omega (arith, eq, long) in
              sym (front_then w k bytes)
              ∙ ap (λ (l : List ℕ). take w bytes ++ l)
              (ap (λ (i : ℕ). take i (drop w bytes)) size_k ∙ sym xs_is)

          rest_is : drop size (drop w bytes) ≡ drop (w + k) bytes
          rest_is =
              let eq = equal in let long = length_is in
              let all : w + size ≡ w + k = omega (arith, eq, long) in
              drop-drop size w bytes ∙ ap (λ (i : ℕ). drop i bytes) all

          few_behind : (i : ℕ) (u : Tree)
              → write_of q.v ino (place + (w + k)) (drop (w + k) bytes) ≡ Ok (i, u)
              → i ≤ length bytes - w - piece
          few_behind i u told =
              let low = at_most q.v ino (place + (w + k)) _ file_then (drop (w + k) bytes) i u told in
              let rest = length-drop (w + k) bytes in
              let p = piece_is in
              omega (arith, low, rest, p)
            where
              file_then : body_at q.v.records ino ≡ Some (File (written (place + w) xs r.old))
              file_then = whole_file t1 ino (place + w) r.old r.file xs q.v whole_is some

          next_messages : write_messages piece (length bytes - w)
              (write_of t1 ino (place + w) (drop w bytes))
              ≡ 1 + write_messages piece (length bytes - (w + k))
              (write_of q.v ino (place + (w + k)) (drop (w + k) bytes))
          next_messages =
              let p = piece_is in
              let roomy = st.roomy in
              let low = inside in
              let long = length_is in let eq = equal in
              let left : length bytes - w - piece ≡ length bytes - (w + k) = omega (arith, p) in
              ap (write_messages piece (length bytes - w))
              (ap (write_of t1 ino (place + w)) (these_first ∙ ap (λ (l : List ℕ). xs ++ l) rest_is)
              ∙ behind_it (drop (w + k) bytes)
              ∙ ap (λ (i : ℕ). more i q.v
              (write_of q.v ino (place + (w + k)) (drop (w + k) bytes))) p)
              ∙ full_piece piece (length bytes - w) q.v
              (write_of q.v ino (place + (w + k)) (drop (w + k) bytes)) (omega (arith, roomy))
              (open_more (length bytes) w k piece open_end low p (eq ∙ long ∙ size_is)) few_behind
              ∙ ap (λ (i : ℕ). 1 + write_messages piece i
              (write_of q.v ino (place + (w + k)) (drop (w + k) bytes))) left where
                open_more : (all w k piece : ℕ) → w + k ≢ all → w ≤ all → k ≡ piece
                    → k ≡ min (all - w) piece → piece < all - w
                open_more all w k piece ne low is least = omega (arith, ne, low, is, least)

          -- fewer bytes are left
          pub nearer : length bytes - (w + k) < length bytes - w
          nearer =
              let low = inside in
              let s = some in
              let eq = equal in
              let few = count_low in
              fewer (length bytes) w k size low (omega (arith, s, eq)) few size_is where
                fewer : (all w k size : ℕ) → w ≤ all → 1 ≤ k → k ≤ size → size ≡ min (all - w) piece
                    → all - (w + k) < all - w
                fewer all w k size low some few is = omega (arith, low, some, few, is)

          pub goes_on : Writing g2 n2 (w + k)
          goes_on =
              let ends = (let long = ends_within t1 ino (place + w) r.old r.file xs q.v whole_is some
              in let eq = equal in let most = r.keeps.good.limits.0 in
              let x : place + (w + k) ≤ 1073741824 = omega (arith, long, eq, most) in x) in
              let some_k : 1 ≤ k = (let s = some in let eq = equal in omega (arith, s, eq)) in
              let tree_is : n2.state.tree ≡ q.v = ap (λ (s : ServerState). s.tree) q.state in
              subst_tree tree_is ends some_k where
                below : (all w k size : ℕ) → w + k ≢ all → w ≤ all → k ≤ size
                    → size ≡ min (all - w) piece → w + k < all
                below all w k size ne low few is = omega (arith, ne, low, few, is)

                subst_tree : n2.state.tree ≡ q.v → place + (w + k) ≤ 1073741824 → 1 ≤ k
                    → Writing g2 n2 (w + k)
                subst_tree tree_is ends some_k = record {
                  o = r.o;
                  same = state_then ∙ ap (λ (u : Tree). let y : ServerState =
                      record n.state { tree = u } in y) (sym tree_is);
                  first = λ none. absurd (omega (arith, none, some_k));
                  sent = r.sent + 1;
                  alone = all_sent;
                  keeps = subst (KeepsAll t0) (sym tree_is) keeps_all;
                  old = written (place + w) xs r.old;
                  file = ap (λ (u : Tree). body_at u.records ino) tree_is
                      ∙ whole_file t1 ino (place + w) r.old r.file xs q.v whole_is some;
                  fits = inr ends;
                  within = inr (let low = inside in let c = count_low in
                      below (length bytes) w k size open_end low c size_is);
                  at_end = λ is. longer t1 ino (place + w) r.old r.file xs (r.at_end is)
                      ∙ (let eq = equal in omega (arith, eq));
                  joins = λ ys. ap (λ (l : List ℕ). write_of t0 ino place (l ++ ys)) front_is
                      ∙ ap (write_of t0 ino place) (append_assoc (take w bytes) xs ys)
                      ∙ r.joins (xs ++ ys) ∙ ap (behind_bytes w t1) (behind_it ys)
                      ∙ behind_both w k t1 q.v (write_of q.v ino (place + (w + k)) ys) some_k
                      ∙ ap (λ (u : Tree). behind_bytes (w + k) u (write_of u ino (place + (w + k)) ys))
                      (sym tree_is);
                  counts = ap (λ (u : Tree). r.sent + 1 + write_messages piece
                      (length bytes - (w + k)) (write_of u ino (place + (w + k))
                      (drop (w + k) bytes))) tree_is
                      ∙ counts_more r.sent _ _ _ r.counts next_messages;
                  kept = keeps_trans r.kept kept;
                }

      -- ---- the piece was refused

      module _ (e : ℕ) (is : answer ≡ Err e) where
        not_written : (answer, n2.state) ≡ seen → (told1 ≡ Err e) × (n2.state ≡ n1.state)
        not_written q = by_told told1 refl where
          by_told : (x : Result (ℕ × Tree) ℕ) → told1 ≡ x → (told1 ≡ Err e) × (n2.state ≡ n1.state)
          by_told (Ok (j, v)) told = absurd (
              let clash : Err e ≡ Ok j = sym is ∙ ap (λ (y : Result ℕ ℕ × ServerState). y.0)
              (q ∙ seen_ok j v told) in cc)
          by_told (Err d) told =
              let both = q ∙ ap (changed n1.state (λ k. k)) told in
              let clash : Err e ≡ Err d =
              sym is ∙ ap (λ (y : Result ℕ ℕ × ServerState). y.0) both in
              let equal : d ≡ e = cc in (
                told ∙ ap (λ (i : ℕ). let y : Result (ℕ × Tree) ℕ = Err i in y) equal,
                ap (λ (y : Result ℕ ℕ × ServerState). y.1) both,
              )

        rest_refused : told1 ≡ Err e → write_of t1 ino (place + w) (drop w bytes) ≡ Err e
        rest_refused told = ap (write_of t1 ino (place + w)) these_first
            ∙ none_of_more t1 ino (place + w) r.old r.file xs (drop size (drop w bytes)) e told

        tree_stays : n2.state ≡ n1.state → n2.state ≡ record n.state { tree = t1 }
        tree_stays stays = stays ∙ r.same

        -- behind others it ends the write
        pub ended : e ≡ EFBIG → 0 < w
            → ServesWriting fid offset bytes (g, n) (g2, n2) (Written w)
        ended big some = ⊎_elim
            (λ q. let k = not_written q in
            let x : Result (ℕ × Tree) ℕ = Ok (w, t1) in
            let all : told ≡ x = told_is ∙ ap (behind_bytes w t1) (rest_refused k.0)
            ∙ behind_err w t1 e some in
            ends t1 r.keeps (tree_stays k.1) (Written w) x all refl refl
            (count_is x all (Err e) (rest_refused k.0) refl))
            (λ f. absurd (let clash : Err EIO ≡ Err EFBIG =
            sym f.1 ∙ is ∙ ap (λ (i : ℕ). let y : Result ℕ ℕ = Err i in y) big in
            let no : EIO ≡ EFBIG = cc in omega (arith, no))) asks_now

        -- the first one, or a fault
        pub refused : (e ≡ EFBIG → w ≡ 0)
            → ServesWriting fid offset bytes (g, n) (g2, n2) (Refused e)
        refused alone = ⊎_elim
            (λ q. let k = not_written q in
            let none : w ≡ 0 =
            alone (only_too_big t1 ino (place + w) r.old r.file xs e k.0).0 in
            let x : Result (ℕ × Tree) ℕ = Err e in
            let all : told ≡ x = told_is ∙ ap (behind_bytes w t1) (rest_refused k.0)
            ∙ ap (λ (i : ℕ). behind_bytes i t1 (Err e)) none in
            ends t1 r.keeps (tree_stays k.1) (Refused e) x all refl (sym (r.first none))
            (count_is x all (Err e) (rest_refused k.0) refl))
            (λ f.
            let clash : Err EIO ≡ Err e = sym f.1 ∙ is in
            let eio : EIO ≡ e = cc in
            let rose = f.0 in
            let before = r.kept.rises in
            let left = f.3 in
            let here : n2.state ≡ record n.state { tree = n2.state.tree } =
            f.2 ∙ ap (λ (s : ServerState). let y : ServerState =
            record s { tree = n2.state.tree } in y) r.same in
            subst (λ (i : ℕ). ServesWriting fid offset bytes (g, n) (g2, n2) (Refused i)) eio
            (record {
              stands = stands_then n2.state.tree (keeps_left n2.state.tree left) here;
              sent = r.sent + 1;
              messages = all_sent.messages;
              outcome = inr (
                omega (arith, before, rose),
                refl,
                machine_then n2.state.tree here,
                front_left n2.state.tree left,
              );
            })) asks_now
