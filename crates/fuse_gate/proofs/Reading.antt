-- READ, piece by piece.
use Rattle.std.proofs.Common.{◌≡◌, ◌≢◌, ℕ, ◌+◌, ◌-◌, ◌^◌, ◌<◌, ◌≤◌, min, Bool, true, false, List}
use Rattle.std.proofs.Common.{[], ◌∷◌, ◌++◌, length, take, drop, Some, None, Option, Result, Ok}
use Rattle.std.proofs.Common.{Err, refl, sym, ap, ◌∙◌, subst, arith, ◌⊎◌, ⊎_elim, inl, inr}
use Rattle.std.specs.Prelude.{◌==◌, not, option_map, unwrap_or}
use Rattle.std.proofs.lemmas.Bool.Decides.{nat_tests}
use Rattle.std.specs.FinMap.{get}
use Rattle.std.proofs.lemmas.List.{length-take, take_min, length-append, length-drop, drop-drop}
use Rattle.std.proofs.Math.Seq.{take-add}
use Rattle.port_base.specs.declared.errno.TheConstants.{EBADF, EIO, EISDIR}
use Rattle.port_base.specs.declared.oflag.TheConstants.{O_WRONLY}
use Rattle.tree_model.specs.Tree.{Tree, Record, Body, body_at, is_directory_at}
use Rattle.tree_model.specs.Good.{IsGoodTree, IsGoodBody}
use Rattle.tree_model.specs.Tree.Body.{File, Directory, Link}
use Rattle.tree_model.specs.Attributes.{kind_of, qid_type}
use Rattle.tree_model.specs.Opening.{body_answer, read_body}
use Rattle.tree_model.specs.Reading.{part, bytes_of, bytes_at}
use Rattle.fuse_wire.specs.Request.{read}
use Rattle.fuse_wire.specs.declared.protocol.TheConstants.{MAX_READ}
use Rattle.tree_machine.specs.State.{MachineState, Handle as MachineHandle}
use Rattle.tree_machine.specs.Replies.{Reply}
use Rattle.tree_machine.specs.Replies.Reply.{Refused, Bytes}
use Rattle.tree_machine.specs.Refusals.{refused_if, first_refusal}
use Rattle.tree_machine.specs.Core.{read_refusal, bytes_read, bytes_reply}
use Rattle.tree_machine.specs.Good.{IsOpenable}
use Rattle.tree_machine.specs.Messages.{pieces, read_messages}
use Rattle.tree_machine.proofs.Pieces.{last_short, last_whole, one_more}
use Rattle.p9_wire.specs.declared.data.Data.{Data}
use Rattle.p9_client.specs.Opening.{read_told}
use Rattle.fid_model.specs.Fids.{ServerState, Fid, IsGoodServer}
use Rattle.fid_model.specs.Moments.{Moment, Keeps, Untouched, AskedOne}
use Rattle.fid_model.proofs.Moments.{keeps_refl, keeps_trans}
use Rattle.p9_wire.specs.declared.protocol.TheConstants.{RREAD_HEADER_SIZE}
use Rattle.fuse_gate.specs.Standing.{IsInStep, machine_of, piece_of, handle_of, opened}
use Rattle.fuse_gate.specs.Steps.{Serves, ServesRequest}
use Rattle.fuse_gate.specs.Changes.{ServesReading, one_sent}
use Rattle.fuse_gate.specs.Files.{file_at, ReadsFile}
use Rattle.fuse_gate.specs.declared.gate.Gate.{Gate}
use Rattle.fuse_gate.specs.declared.gate.Handle.{Handle}
use Rattle.fuse_gate.proofs.Asking.{Tells}
use Rattle.fuse_gate.proofs.Standings.{handle_fid, handle_good, handle_seen}
use Rattle.fuse_gate.proofs.Serving.{SentAlone, none_sent, one_more_sent, hurt, unchanged}
use Rattle.fuse_gate.proofs.Serving.{served_after}

-- ---- parts of a list

drop_add : (offset n : ℕ) (file : List ℕ) → drop (offset + n) file ≡ drop n (drop offset file)
drop_add offset n file = sym (drop-drop n offset file)

-- a part, and the part behind it
joined : (file : List ℕ) (offset n count : ℕ) → part file offset n
    ++ part file (offset + n) count ≡ part file offset (n + count)
joined file offset n count = ap (λ xs. part file offset n ++ take count xs) (drop_add offset n file)
    ∙ sym (take-add n count (drop offset file))

-- parts that end at one place
same_part : (file : List ℕ) (offset j k : ℕ) → min j (length (drop offset file)) ≡ min k
    (length (drop offset file)) → part file offset j ≡ part file offset k
same_part file offset j k is = sym (take_min j (drop offset file))
    ∙ ap (λ m. take m (drop offset file)) is ∙ take_min k (drop offset file)

by_length : (file : List ℕ) (offset k : ℕ) (bytes : List ℕ) → bytes ≡ part file offset k
    → bytes ≡ part file offset (length bytes)
by_length file offset k bytes is =
    let long : length bytes ≡ min k (length (drop offset file)) = ap length is
    ∙ length-take k (drop offset file) in
    is ∙ same_part file offset k (length bytes) (omega arith)

-- ---- how many messages are to come

last_one : (all n size piece count got there : ℕ) → 1 ≤ piece → n ≤ size → n ≤ all
    → count ≡ min (size - n) piece → got ≡ min count (all - n) → there ≡ min size all
    → (got < count) ⊎ (n + got ≡ size) → pieces piece (size - n) (there - n) ≡ 1
last_one all n size piece count got there some within long asks is told ends =
    ⊎_elim (λ short. last_short piece (size - n) (there - n) (omega arith))
    (λ whole. last_whole piece (size - n) (there - n) some (omega arith) (omega arith)) ends

after_one : (all n size piece count got there : ℕ) → 1 ≤ piece → n ≤ size → n ≤ all
    → count ≡ min (size - n) piece → got ≡ min count (all - n) → there ≡ min size all
    → count ≤ got → n + got ≢ size → pieces piece (size - n) (there - n) ≡ 1 + pieces piece
    (size - (n + got)) (there - (n + got))
after_one all n size piece count got there some within long asks is told full more =
    let whole : got ≡ piece = omega arith in
    let left : size - n - piece ≡ size - (n + got) = omega arith in
    let rest : there - n - piece ≡ there - (n + got) = omega arith in
    let first = one_more piece (size - n) (there - n) some (omega arith) (omega arith) (omega arith)
    in
    first ∙ ap (λ k. 1 + pieces piece k (there - n - piece)) left
    ∙ ap (λ k. 1 + pieces piece (size - (n + got)) k) rest

-- ---- one piece

module _ (n : Moment) {fid : ℕ} {file : List ℕ} (o : ReadsFile n.state fid file) where
  told_file : (offset count : ℕ) → count ≤ n.state.msize - RREAD_HEADER_SIZE
      → (read_told n.state o.f.ino offset count).0 ≡ Ok (part file offset count)
  told_file offset count few =
      let all : min count (n.state.msize - RREAD_HEADER_SIZE) ≡ count = omega arith in
      ap (λ b. body_answer (read_body offset (min count (n.state.msize - RREAD_HEADER_SIZE))) b)
      o.body ∙ ap (λ k. Ok (part file offset k)) all

  -- what a message brought
  pub brought : (offset count : ℕ) (n1 : Moment) (payload : Data)
      → count ≤ n.state.msize - RREAD_HEADER_SIZE
      → Tells (read_told n.state o.f.ino offset count) (Ok payload.0.items) n n1
      → (n1.state ≡ n.state) × (payload.0.items ≡ part file offset count)
  brought offset count n1 payload few tells = ⊎_elim
      (λ e.
      let same : Ok payload.0.items ≡ Ok (part file offset count) =
      ap (λ (x : Result (List ℕ) ℕ × ServerState). x.0) e ∙ told_file offset count few in
      (ap (λ (x : Result (List ℕ) ℕ × ServerState). x.1) e, cc))
      (λ k. absurd (let no = k.1 in cc)) tells

-- a file's length is far below the end of its numbers
file_short : (t : Tree) → IsGoodTree t → (ino : ℕ) (file : List ℕ)
    → body_at t.records ino ≡ Some (File file) → length file ≤ 1073741824
file_short t good ino file = by_record (get t.records ino) refl where
  by_record : (r : Option Record) → get t.records ino ≡ r
      → option_map (λ (r : Record). r.body) r ≡ Some (File file) → length file ≤ 1073741824
  by_record None at is = absurd (cc)
  by_record (Some r) at is = let body : r.body ≡ File file =
      cc in subst IsGoodBody body (good.records ino r at).body

-- ---- between two pieces

-- each piece so far was full, and each took one message
pub record Reading (file : List ℕ) (offset size : ℕ) (g0 : Gate) (n0 : Moment) (g1 : Gate)
    (n1 : Moment) (bytes : List ℕ) : Type 0 where
  pub same : n1.state ≡ n0.state
  pub sent : ℕ
  pub alone : SentAlone sent g0 n0 g1 n1
  pub so_far : bytes ≡ part file offset (length bytes)
  pub more : (length bytes ≡ 0) ⊎ (length bytes < size)
  pub rest : sent + pieces (piece_of n0.state) (size - length bytes)
      (length (part file offset size) - length bytes) ≡ pieces (piece_of n0.state) size
      (length (part file offset size))
  pub kept : Keeps n0 n1

all_left : (piece size there : ℕ) → pieces piece (size - 0) (there - 0) ≡ pieces piece size there
all_left piece size there =
    let left : size - 0 ≡ size = omega arith in
    let rest : there - 0 ≡ there = omega arith in
    ap (λ k. pieces piece k (there - 0)) left ∙ ap (λ k. pieces piece size k) rest

zero_more : (a b : ℕ) → a ≡ b → 0 + a ≡ b
zero_more a b is = omega arith

pub begins : (file : List ℕ) (offset size : ℕ) (g : Gate) (n : Moment) (bytes : List ℕ) → bytes ≡ []
    → Reading file offset size g n g n bytes
begins file offset size g n bytes none =
    subst (λ (bytes : List ℕ). Reading file offset size g n g n bytes) (sym none) (record {
      same = refl;
      sent = 0;
      alone = none_sent g n;
      so_far = refl;
      more = inl refl;
      rest = zero_more (pieces (piece_of n.state) (size - 0) (length (part file offset size) - 0)) _
          (all_left (piece_of n.state) size (length (part file offset size)));
      kept = keeps_refl n;
    })

-- ---- counting

counts_last : (sent rest total : ℕ) → sent + rest ≡ total → rest ≡ 1 → total ≡ sent + 1
counts_last sent rest total is one = omega arith

counts_more : (sent rest left total : ℕ) → sent + rest ≡ total → rest ≡ 1 + left
    → sent + 1 + left ≡ total
counts_more sent rest left total is more = omega arith

within : (n size : ℕ) → (n ≡ 0) ⊎ (n < size) → n ≤ size
within n size more = ⊎_elim (λ none. omega arith) (λ less. omega arith) more

few_asked : (count left msize : ℕ) → count ≡ min left (min msize 65560 - 11) → count ≤ msize - 11
few_asked count left msize asks = omega arith

some_piece : (msize : ℕ) → 4352 ≤ msize → 1 ≤ min msize 65560 - 11
some_piece msize roomy = omega arith

long_part : (file bytes : List ℕ) (offset : ℕ) → bytes ≡ part file offset (length bytes)
    → length bytes ≤ length (drop offset file)
long_part file bytes offset is =
    let long : length bytes ≡ min (length bytes) (length (drop offset file)) = ap length is
    ∙ length-take (length bytes) (drop offset file) in
    by_min (length bytes) (length (drop offset file)) long where
      by_min : (n all : ℕ) → n ≡ min n all → n ≤ all
      by_min n all is = omega arith

got_length : (file got : List ℕ) (offset n count : ℕ) → got ≡ part file (offset + n) count
    → length got ≡ min count (length (drop offset file) - n)
got_length file got offset n count is =
    ap length is ∙ length-take count (drop (offset + n) file)
    ∙ ap (λ k. min count k) (ap length (drop_add offset n file)
    ∙ length-drop n (drop offset file))

-- the end of what is read is the end of what was asked for
ends_alike : (all n size piece count got : ℕ) → n ≤ size → n ≤ all → count ≡ min (size - n) piece
    → got ≡ min count (all - n) → (got < count) ⊎ (n + got ≡ size)
    → min (n + count) all ≡ min size all
ends_alike all n size piece count got within long asks told ends =
    ⊎_elim (λ short. omega arith) (λ whole. omega arith) ends

still_within : (all n size piece count got : ℕ) → n ≤ size → count ≡ min (size - n) piece
    → got ≡ min count (all - n) → n + got ≢ size → n + got < size
still_within all n size piece count got within asks told more = omega arith

pub offset_fits : (file bytes : List ℕ) (offset : ℕ) → length file ≤ 1073741824
    → bytes ≡ part file offset (length bytes) → offset < 2 ^ 64 → offset + length bytes < 2 ^ 64
offset_fits file bytes offset short is low =
    by_numbers (length file) (length (drop offset file)) (length bytes) short
    (length-drop offset file) (long_part file bytes offset is) where
      by_numbers : (all rest n : ℕ) → all ≤ 1073741824 → rest ≡ all - offset → n ≤ rest
          → offset + n < 2 ^ 64
      by_numbers all rest n short is long = omega arith

-- what is left to be asked for gets less
pub shrinks : (had got size count piece new : ℕ) → 1 ≤ piece → count ≡ min (size - had) piece
    → count ≤ got → new ≡ had + got → new ≢ size → (new ≡ 0) ⊎ (new < size)
    → size - new < size - had
shrinks had got size count piece new some asks full is other more =
    ⊎_elim (λ none. omega arith) (λ less. omega arith) more

-- ---- the next piece

module _ {g : Gate} (n : Moment) (st : IsInStep g n.state) {fid : ℕ} {file : List ℕ}
    (o : ReadsFile n.state fid file) where
  pub reading_fits : (bytes : List ℕ) (offset : ℕ) → bytes ≡ part file offset (length bytes)
      → offset < 2 ^ 64 → offset + length bytes < 2 ^ 64
  reading_fits bytes offset is low = offset_fits file bytes offset
      (file_short n.state.tree st.good.tree o.f.ino file o.body) is low

  module _ (offset size : ℕ) {g1 : Gate} {n1 : Moment} {bytes : List ℕ}
      (r : Reading file offset size g n g1 n1 bytes)
      (at count : ℕ) (is_at : at ≡ offset + length bytes)
      (asks : count ≡ min (size - length bytes) (piece_of n.state))
      (g2 : Gate) (n2 : Moment) (sent : g2 ≡ one_sent g1) (asked : AskedOne n1 n2)
      (kept : Keeps n1 n2)
      (answer : Result (List ℕ) ℕ) (told : (f : Fid) → get n1.state.fids fid ≡ Some f
      → Tells (read_told n1.state f.ino at count) answer n1 n2) where
    abbrev told_all : Reply × MachineState
    told_all = (Bytes (part file offset size), machine_of g n.state)

    abbrev all_messages : ℕ
    all_messages = pieces (piece_of n.state) size (length (part file offset size))

    abbrev AllServed : Reply → Type 0
    AllServed reply = Serves told_all all_messages (Untouched n.state.tree) (g, n) (g2, n2) reply

    open_now : ReadsFile n1.state fid file
    open_now = subst (λ (x : ServerState). ReadsFile x fid file) (sym r.same) o

    few_now : count ≤ n1.state.msize - RREAD_HEADER_SIZE
    few_now = subst (λ (x : ServerState). count ≤ x.msize - RREAD_HEADER_SIZE) (sym r.same)
        (few_asked count (size - length bytes) n.state.msize asks)

    tells : Tells (read_told n1.state open_now.f.ino at count) answer n1 n2
    tells = told open_now.f open_now.at

    all_kept : Keeps n n2
    all_kept = keeps_trans r.kept kept

    all_sent : SentAlone (r.sent + 1) g n g2 n2
    all_sent = one_more_sent r.alone g2 n2 sent asked

    pub refused : (errno : ℕ) → answer ≡ Err errno → AllServed (Refused errno)
    refused errno is = ⊎_elim
        (λ e. absurd (let no : Err errno ≡ Ok (part file at count) = sym is
        ∙ ap (λ (x : Result (List ℕ) ℕ × ServerState). x.0) e
        ∙ told_file n1 open_now at count few_now in cc))
        (λ k.
        let same : Err errno ≡ Err EIO = sym is ∙ k.1 in
        let eio : errno ≡ EIO = cc in
        let rose = k.0 in
        let before = r.kept.rises in
        subst (λ e. AllServed (Refused e)) (sym eio)
        (hurt st told_all all_messages (Untouched n.state.tree) (r.sent + 1) g2 n2 all_sent
        (k.2 ∙ r.same) (omega (arith, before, rose)) refl))
        tells

    module _ (payload : Data) (is : answer ≡ Ok payload.0.items) (new : List ℕ)
        (longer : new ≡ bytes ++ payload.0.items) where
      came : (n2.state ≡ n1.state) × (payload.0.items ≡ part file at count)
      came = brought n1 open_now at count n2 payload few_now
          (subst (λ x. Tells (read_told n1.state open_now.f.ino at count) x n1 n2) is tells)

      part_got : payload.0.items ≡ part file (offset + length bytes) count
      part_got = came.1 ∙ ap (λ k. part file k count) is_at

      state_now : n2.state ≡ n.state
      state_now = came.0 ∙ r.same

      part_new : new ≡ part file offset (length bytes + count)
      part_new = longer ∙ ap (λ (xs : List ℕ). xs ++ payload.0.items) r.so_far
          ∙ ap (λ (xs : List ℕ). part file offset (length bytes) ++ xs) part_got
          ∙ joined file offset (length bytes) count

      new_length : length new ≡ length bytes + length payload.0.items
      new_length = ap length longer ∙ length-append bytes payload.0.items

      size_is : length bytes ≤ size
      size_is = within (length bytes) size r.more

      long : length bytes ≤ length (drop offset file)
      long = long_part file bytes offset r.so_far

      got_is : length payload.0.items ≡ min count (length (drop offset file) - length bytes)
      got_is = got_length file payload.0.items offset (length bytes) count part_got

      pub finished : IsGoodServer n.state → (length payload.0.items < count) ⊎ (length new ≡ size)
          → AllServed (Bytes new)
      finished good ends =
          let last : (length payload.0.items < count)
          ⊎ (length bytes + length payload.0.items ≡ size) =
          ⊎_elim (λ short. inl short) (λ whole. inr (sym new_length ∙ whole)) ends in
          let alike = ends_alike (length (drop offset file)) (length bytes) size (piece_of n.state)
          count (length payload.0.items) size_is long asks got_is last in
          let one = last_one (length (drop offset file)) (length bytes) size (piece_of n.state)
          count (length payload.0.items) (length (part file offset size))
          (some_piece n.state.msize st.roomy) size_is long asks got_is
          (length-take size (drop offset file)) last in
          let total : all_messages ≡ r.sent + 1 = counts_last r.sent _ all_messages r.rest one in
          subst (λ count. Serves told_all count (Untouched n.state.tree) (g, n) (g2, n2)
          (Bytes new)) (sym total)
          (unchanged st told_all (r.sent + 1) (Untouched n.state.tree) good g2 n2 (Bytes new)
          all_sent state_now (ap Bytes (part_new
          ∙ same_part file offset (length bytes + count) size alike)) refl)

      pub goes_on : count ≤ length payload.0.items → length new ≢ size
          → Reading file offset size g n g2 n2 new
      goes_on full more =
          let other : length bytes + length payload.0.items ≢ size = λ e. more (new_length ∙ e) in
          let after = after_one (length (drop offset file)) (length bytes) size (piece_of n.state)
          count (length payload.0.items) (length (part file offset size))
          (some_piece n.state.msize st.roomy) size_is long asks got_is
          (length-take size (drop offset file)) full other in
          record {
            same = state_now;
            sent = r.sent + 1;
            alone = all_sent;
            so_far = by_length file offset (length bytes + count) new part_new;
            more = inr (subst (λ k. k < size) (sym new_length)
                (still_within (length (drop offset file)) (length bytes) size (piece_of n.state)
                count (length payload.0.items) size_is asks got_is other));
            rest = counts_more r.sent _ _ all_messages r.rest
                (after ∙ ap (λ k. 1 + pieces (piece_of n.state) (size - k)
                (length (part file offset size) - k)) (sym new_length));
            kept = all_kept;
          }

-- ---- a handle that is read

not_one : (access : ℕ) → access ≢ 1 → (access == 1) ≡ false
not_one access ne = grind (arith, nat_tests)

module _ {g : Gate} {s : ServerState} (st : IsInStep g s) (handle : ℕ) where
  -- what is open is a directory or a file, as its kind says
  abbrev IsOfKind : ℕ → Option Body → Type 0
  IsOfKind kind b = ((kind ≡ 128) × (is_directory_at b ≡ true))
      ⊎ ((kind ≢ 128) × ((file : List ℕ) × (b ≡ Some (File file))))

  kind_is : (h : Handle) → get g.handles handle ≡ Some h
      → IsOfKind h.kind (body_at s.tree.records h.ino)
  kind_is h at = by_record (get s.tree.records h.ino) refl
      (handle_good st handle h at).openable where
        by_body : (b : Body) → h.kind ≡ qid_type (kind_of b) → IsOpenable (Some b) (handle_of h)
            → IsOfKind h.kind (Some b)
        by_body (File bytes) kind able = inr (
          (λ is. let none : 0 ≡ 128 = sym kind
              ∙ is in absurd (omega arith)),
          (bytes, refl),
        )
        by_body (Directory es next above) kind able = inl (kind, refl)
        by_body (Link target) kind able = absurd able

        by_record : (r : Option Record) → get s.tree.records h.ino ≡ r
            → IsOpenable (option_map (λ (r : Record). r.body) r) (handle_of h)
            → IsOfKind h.kind (option_map (λ (r : Record). r.body) (get s.tree.records h.ino))
        by_record None is able = absurd able
        by_record (Some r) is able = subst (λ (o : Option Record). IsOfKind h.kind
            (option_map (λ (r : Record). r.body) o)) (sym is)
            (by_body r.body (st.paired.handle_kinds handle h r at is) able)

  pub directory_at_handle : (h : Handle) → get g.handles handle ≡ Some h → h.kind ≡ 128
      → is_directory_at (body_at s.tree.records h.ino) ≡ true
  directory_at_handle h at kind = ⊎_elim (λ d. d.1) (λ f. absurd (f.0 kind)) (kind_is h at)

  pub file_body : (h : Handle) → get g.handles handle ≡ Some h → h.kind ≢ 128 → (file : List ℕ)
      × (body_at s.tree.records h.ino ≡ Some (File file))
  file_body h at kind = ⊎_elim (λ d. absurd (kind d.0)) (λ f. f.1) (kind_is h at)

-- ---- the refusals, and then the file

module _ {g : Gate} (n : Moment) (st : IsInStep g n.state) (handle offset size : ℕ) where
  abbrev m : MachineState
  m = machine_of g n.state

  abbrev refusal : Option ℕ
  refusal = read_refusal m (get m.handles handle)

  pub read_unknown : get g.handles handle ≡ None → refusal ≡ Some EBADF
  read_unknown at = ap (λ (o : Option MachineHandle). read_refusal m o)
      (handle_seen st handle None at)

  module _ (h : Handle) (at : get g.handles handle ≡ Some h) where
    by_tests : (directory write : Bool) → is_directory_at (body_at n.state.tree.records h.ino)
        ≡ directory → (h.access == O_WRONLY) ≡ write
        → refusal ≡ first_refusal (refused_if directory EISDIR ∷ refused_if write EBADF ∷ [])
    by_tests directory write kind access =
        ap (λ (o : Option MachineHandle). read_refusal m o) (handle_seen st handle (Some h) at)
        ∙ ap (λ (b : Bool). first_refusal (refused_if b EISDIR
        ∷ refused_if (h.access == O_WRONLY) EBADF ∷ [])) kind
        ∙ ap (λ (b : Bool). first_refusal (refused_if directory EISDIR ∷ refused_if b EBADF ∷ []))
        access

    pub read_directory : h.kind ≡ 128 → refusal ≡ Some EISDIR
    read_directory kind = by_tests true (h.access == O_WRONLY) (directory_at_handle st handle h at kind)
        refl

    plain : h.kind ≢ 128 → is_directory_at (body_at n.state.tree.records h.ino) ≡ false
    plain kind = ap (λ b. is_directory_at b) (file_body st handle h at kind).1

    pub read_write_only : h.kind ≢ 128 → h.access ≡ 1 → refusal ≡ Some EBADF
    read_write_only kind one = by_tests false true (plain kind) (ap (λ k. k == O_WRONLY) one)

    module _ (kind : h.kind ≢ 128) (access : h.access ≢ 1) where
      file_is : file_at n.state handle ≡ (file_body st handle h at kind).0
      file_is = ap (λ (o : Option Fid). unwrap_or
          (option_map (λ (f : Fid). bytes_at n.state.tree f.ino) o) []) (handle_fid st handle h at)
          ∙ ap (λ b. unwrap_or (option_map bytes_of b) []) (file_body st handle h at kind).1

      body_is : body_at n.state.tree.records h.ino ≡ Some (File (file_at n.state handle))
      body_is = (file_body st handle h at kind).1 ∙ ap (λ xs. Some (File xs)) (sym file_is)

      pub reads_file : ReadsFile n.state handle (file_at n.state handle)
      reads_file = record {
        f = opened h;
        at = handle_fid st handle h at;
        readable =
            ap not (not_one h.access access);
        body = body_is;
      }

      told_is : bytes_read m offset size (get m.handles handle) ≡ Ok
          (part (file_at n.state handle) offset (min size MAX_READ))
      told_is =
          ap (λ (o : Option MachineHandle). bytes_read m offset size o)
          (handle_seen st handle (Some h) at)
          ∙ ap (λ b. body_answer (read_body offset (min size MAX_READ)) b) body_is

      pub read_served : IsGoodServer n.state → (most : ℕ) → most ≡ min size MAX_READ
          → (new : Gate × Moment) (reply : Reply)
          → ServesReading handle offset most (g, n) new reply
          → ServesRequest 0 (read handle offset size 0 None) (g, n) new reply
      read_served good most is new reply served =
          served_after st good 0 (read handle offset size 0 None)
          (by_tests false false (plain kind) (not_one h.access access)) new reply
          (subst (λ (r : Result (List ℕ) ℕ). Serves (bytes_reply r, m)
          (read_messages (piece_of n.state) (min size MAX_READ) r) (Untouched n.state.tree)
          (g, n) new reply) (sym told_is)
          (subst (λ k. ServesReading handle offset k (g, n) new reply) is served))
