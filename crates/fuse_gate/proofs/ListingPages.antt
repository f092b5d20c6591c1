-- A listing between two messages, and at its end.
use Rattle.std.proofs.Common.{◌≡◌, ◌≢◌, ℕ, zero, suc, ◌+◌, ◌-◌, ◌<◌, ◌≤◌, min, Bool, true, false}
use Rattle.std.proofs.Common.{cond, List, [], ◌∷◌, ◌++◌, length, Some, None, Option, Result, Ok, Err}
use Rattle.std.proofs.Common.{refl, sym, ap, ◌∙◌, subst, arith, ⊎_elim, append_assoc, append-nil}
use Rattle.std.proofs.Common.{nat_lt}
use Rattle.std.specs.Prelude.{map as each, sum_by, drop, not}
use Rattle.std.specs.List.{flat_map}
use Rattle.std.proofs.lemmas.Bool.{cases_lt}
use Rattle.std.proofs.lemmas.Bool.Decides.{nat_tests}
use Rattle.std.proofs.lemmas.List.{length-append}
use Rattle.std.proofs.lemmas.List.Concat.{flat_map-append}
use Rattle.std.proofs.lemmas.List.Sums.{sum_by-cons}
use Rattle.port_base.specs.declared.errno.TheConstants.{EBADF, EIO, ENOTDIR}
use Rattle.tree_model.specs.Tree.{Tree, body_at, is_directory_at}
use Rattle.tree_model.specs.Reading.{Entry}
use Rattle.tree_model.specs.Pages.{front_within, page_of, last_cookie}
use Rattle.p9_rmsg.specs.Dirents.{Entry as Dirent}
use Rattle.p9_client.specs.Listing.{entries_by, entries_told}
use Rattle.fid_model.specs.Listings.{entry_told}
use Rattle.fid_model.specs.Fids.{ServerState, IsGoodServer, is_open}
use Rattle.fid_model.specs.FidCalls.{by_fid}
use Rattle.fid_model.specs.Moments.{Moment, Keeps, Untouched, Answered}
use Rattle.fid_model.proofs.Moments.{keeps_refl, keeps_trans}
use Rattle.p9_wire.specs.declared.protocol.TheConstants.{RREAD_HEADER_SIZE}
use Rattle.tree_machine.specs.State.{MachineState}
use Rattle.tree_machine.specs.Replies.{Reply}
use Rattle.tree_machine.specs.Replies.Reply.{Refused, Bytes}
use Rattle.tree_machine.specs.Listing.{entry_size, entry_bytes, listing_bytes}
use Rattle.tree_machine.specs.Messages.{dirent_size, is_last, listing_messages}
use Rattle.tree_machine.proofs.Listing.{length-listing_bytes}
use Rattle.fuse_gate.specs.Standing.{IsInStep, machine_of, piece_of}
use Rattle.fuse_gate.specs.Steps.{Serves}
use Rattle.fuse_gate.specs.Changes.{one_sent}
use Rattle.fuse_gate.specs.Listings.{told_size, told_bytes, last_told, next_told}
use Rattle.fuse_gate.specs.Listings.{ListsDirectory}
use Rattle.fuse_gate.specs.declared.gate.Gate.{Gate}
use Rattle.fuse_gate.proofs.Asking.{Tells, answered_tells}
use Rattle.fuse_gate.proofs.Serving.{SentAlone, none_sent, one_more_sent, hurt, unchanged}
use Rattle.fuse_gate.proofs.Paging.{ShortNames, came_none, none_is_last, whole}
use Rattle.fuse_gate.proofs.Paging.{came_full, full_is_last, left_goes_on, later_is}
use Rattle.fuse_gate.proofs.Paging.{left_length, all_not_last}
use Rattle.fuse_gate.proofs.Listings.{listing_is, front_is, length_is, last_is}

-- the entries so far were listed, each message but the last brought one, and the rest is left
pub record Paging (t : Tree) (dir piece offset size : ℕ) (g0 : Gate) (n0 : Moment) (g1 : Gate)
    (n1 : Moment) (cookie : ℕ) (bytes : List ℕ) : Type 0 where
  pub same : n1.state ≡ n0.state
  pub sent : ℕ
  pub alone : SentAlone sent g0 n0 g1 n1
  pub steps : ℕ
  pub enough : length (page_of entry_size (size - length bytes) t dir cookie) < steps
  pub whole : bytes ++ listing_bytes (page_of entry_size (size - length bytes) t dir cookie)
      ≡ listing_bytes (page_of entry_size size t dir offset)
  pub count : sent + listing_messages steps piece t dir cookie
      (page_of entry_size (size - length bytes) t dir cookie)
      ≡ listing_messages (length (page_of entry_size size t dir offset) + 1) piece t dir offset
      (page_of entry_size size t dir offset)
  pub kept : Keeps n0 n1

zero_more : (a b : ℕ) → a ≡ b → 0 + a ≡ b
zero_more a b is = omega arith

pub begins : (t : Tree) (dir piece offset size : ℕ) (g : Gate) (n : Moment) (bytes : List ℕ)
    → bytes ≡ [] → Paging t dir piece offset size g n g n offset bytes
begins t dir piece offset size g n bytes none =
    let page = page_of entry_size size t dir offset in
    let room : size - length bytes ≡ size = (let long = ap length none in omega arith) in
    let same : page_of entry_size (size - length bytes) t dir offset ≡ page =
    ap (λ (k : ℕ). page_of entry_size k t dir offset) room in
    record {
      same = refl;
      sent = 0;
      alone = none_sent g n;
      steps = length page + 1;
      enough = subst (λ (es : List Entry). length es < length page + 1) (sym same) (omega arith);
      whole = ap (λ (xs : List ℕ). xs ++ listing_bytes
          (page_of entry_size (size - length bytes) t dir offset)) none
          ∙ ap listing_bytes same;
      count = zero_more _ _ (ap (λ (es : List Entry). listing_messages (length page + 1) piece
          t dir offset es) same);
      kept = keeps_refl n;
    }

-- ---- counting

last_step : (piece : ℕ) (t : Tree) (dir cookie steps : ℕ) (page : List Entry) → 1 ≤ steps
    → is_last (page_of dirent_size piece t dir cookie) page ≡ true
    → listing_messages steps piece t dir cookie page ≡ 1
last_step piece t dir cookie zero page some is = absurd (omega arith)
last_step piece t dir cookie (suc k) page some is =
    let run = page_of dirent_size piece t dir cookie in
    ap (λ (b : Bool). cond b 1
    (1 + listing_messages k piece t dir (last_cookie cookie run) (drop (length run) page))) is

next_step : (piece : ℕ) (t : Tree) (dir cookie k : ℕ) (page : List Entry)
    → is_last (page_of dirent_size piece t dir cookie) page ≡ false
    → listing_messages (suc k) piece t dir cookie page
    ≡ 1 + listing_messages k piece t dir
    (last_cookie cookie (page_of dirent_size piece t dir cookie))
    (drop (length (page_of dirent_size piece t dir cookie)) page)
next_step piece t dir cookie k page is =
    let run = page_of dirent_size piece t dir cookie in
    ap (λ (b : Bool). cond b 1
    (1 + listing_messages k piece t dir (last_cookie cookie run) (drop (length run) page))) is

counts_last : (sent rest total : ℕ) → sent + rest ≡ total → rest ≡ 1 → total ≡ sent + 1
counts_last sent rest total is one = omega arith

counts_more : (sent rest later total : ℕ) → sent + rest ≡ total → rest ≡ 1 + later
    → sent + 1 + later ≡ total
counts_more sent rest later total is more = omega arith

whole_piece : (msize : ℕ) → min (min msize 65560 - 11) (msize - 11) ≡ min msize 65560 - 11
whole_piece msize = omega arith

some_piece : (msize : ℕ) → 4352 ≤ msize → 4341 ≤ min msize 65560 - 11
some_piece msize roomy = omega arith

-- ---- a message

module _ {g : Gate} (n : Moment) (st : IsInStep g n.state) {fid dir : ℕ}
    (o : ListsDirectory n.state fid dir) (short : ShortNames n.state.tree dir) where
  abbrev t : Tree
  t = n.state.tree

  abbrev piece : ℕ
  piece = piece_of n.state

  abbrev comes : ℕ → List Entry
  comes cookie = page_of dirent_size piece t dir cookie

  -- what the server tells
  told_page : (cookie : ℕ) → entries_told n.state fid cookie piece
      ≡ Ok (each entry_told (comes cookie))
  told_page cookie =
      ap (by_fid (entries_by n.state cookie piece)) o.at
      ∙ ap (λ (d : ℕ). cond (not (is_directory_at (body_at t.records d))) (Err ENOTDIR)
      (cond (is_open o.f.open_state) (Ok (each entry_told (page_of dirent_size
      (min piece (n.state.msize - RREAD_HEADER_SIZE)) t d cookie))) (Err EBADF))) o.names
      ∙ ap (λ (b : Bool). cond (not b) (Err ENOTDIR)
      (cond (is_open o.f.open_state) (Ok (each entry_told (page_of dirent_size
      (min piece (n.state.msize - RREAD_HEADER_SIZE)) t dir cookie))) (Err EBADF))) o.directory
      ∙ ap (λ (b : Bool). cond b (Ok (each entry_told (page_of dirent_size
      (min piece (n.state.msize - RREAD_HEADER_SIZE)) t dir cookie))) (Err EBADF)) o.open_now
      ∙ ap (λ (k : ℕ). Ok (each entry_told (page_of dirent_size k t dir cookie)))
      (whole_piece n.state.msize)

  module _ (offset size : ℕ) {g1 : Gate} {n1 : Moment} {cookie : ℕ} {bytes : List ℕ}
      (r : Paging n.state.tree dir (piece_of n.state) offset size g n g1 n1 cookie bytes)
      (g2 : Gate) (n2 : Moment) (sent : g2 ≡ one_sent g1) (kept : Keeps n1 n2)
      (count : ℕ) (asks : count ≡ piece_of n.state) (answer : Result (List Dirent) ℕ)
      (told : Answered (entries_told n1.state fid cookie count, n1.state) Untouched answer n1 n2)
    where
      abbrev page : List Entry
      page = page_of entry_size size t dir offset

      abbrev told_all : Reply × MachineState
      told_all = (Bytes (listing_bytes page), machine_of g n.state)

      abbrev all_messages : ℕ
      all_messages = listing_messages (length page + 1) piece t dir offset page

      abbrev AllServed : Reply → Type 0
      AllServed reply = Serves told_all all_messages (Untouched n.state.tree) (g, n) (g2, n2) reply

      abbrev room : ℕ
      room = size - length bytes

      tells : Tells (Ok (each entry_told (comes cookie)), n1.state) answer n1 n2
      tells = subst (λ (x : Result (List Dirent) ℕ). Tells (x, n1.state) answer n1 n2)
          (ap (entries_told n1.state fid cookie) asks
          ∙ ap (λ (s : ServerState). entries_told s fid cookie piece) r.same ∙ told_page cookie)
          (answered_tells told)

      all_kept : Keeps n n2
      all_kept = keeps_trans r.kept kept

      all_sent : SentAlone (r.sent + 1) g n g2 n2
      all_sent = one_more_sent r.alone g2 n2 sent told.asked

      some : 4341 ≤ piece
      some = some_piece n.state.msize st.roomy

      pub refused : (errno : ℕ) → answer ≡ Err errno → AllServed (Refused errno)
      refused errno is = ⊎_elim
          (λ e. absurd (let no : Err errno ≡ Ok (each entry_told (comes cookie)) = sym is
          ∙ ap (λ (x : Result (List Dirent) ℕ × ServerState). x.0) e in cc))
          (λ k.
          let same : Err errno ≡ Err EIO = sym is ∙ k.1 in
          let eio : errno ≡ EIO = cc in
          let rose = k.0 in
          let before = r.kept.rises in
          subst (λ e. AllServed (Refused e)) (sym eio)
          (hurt st told_all all_messages (Untouched n.state.tree) (r.sent + 1) g2 n2 all_sent
          (k.2 ∙ r.same) (omega (arith, before, rose)) refl))
          tells

      module _ (ds : List Dirent) (is : answer ≡ Ok ds) where
        came : (n2.state ≡ n1.state) × (ds ≡ each entry_told (comes cookie))
        came = ⊎_elim
            (λ e.
            let same : Ok ds ≡ Ok (each entry_told (comes cookie)) = sym is
            ∙ ap (λ (x : Result (List Dirent) ℕ × ServerState). x.0) e in
            (ap (λ (x : Result (List Dirent) ℕ × ServerState). x.1) e, cc))
            (λ k. absurd (let no : Ok ds ≡ Err EIO = sym is ∙ k.1 in cc)) tells

        state_now : n2.state ≡ n.state
        state_now = came.0 ∙ r.same

        finished : IsGoodServer n.state → (new : List ℕ) → new ≡ listing_bytes page
            → is_last (comes cookie) (page_of entry_size room t dir cookie) ≡ true
            → AllServed (Bytes new)
        finished good new is_all last =
            let low = r.enough in
            let one = last_step piece t dir cookie r.steps
            (page_of entry_size room t dir cookie) (omega arith) last in
            let total : all_messages ≡ r.sent + 1 = counts_last r.sent _ all_messages r.count one in
            subst (λ count. Serves told_all count (Untouched n.state.tree) (g, n) (g2, n2)
            (Bytes new)) (sym total)
            (unchanged st told_all (r.sent + 1) (Untouched n.state.tree) good g2 n2 (Bytes new)
            all_sent state_now (ap Bytes is_all) refl)

        none_came : ds ≡ [] → comes cookie ≡ []
        none_came none = by_list (comes cookie) (sym came.1 ∙ none) where
          by_list : (es : List Entry) → each entry_told es ≡ [] → es ≡ []
          by_list [] is = refl
          by_list (e ∷ es) is = absurd cc

        -- nothing came
        pub ended : IsGoodServer n.state → ds ≡ [] → AllServed (Bytes bytes)
        ended good none =
            let nothing = came_none t st.good.tree dir piece short some cookie room (none_came none)
            in
            finished good bytes
            (sym (append-nil bytes)
            ∙ ap (λ (es : List Entry). bytes ++ listing_bytes es) (sym nothing) ∙ r.whole)
            (none_is_last t st.good.tree dir piece short some cookie room (none_came none))

        module _ (new : List ℕ) (next : Option ℕ)
            (items : new ≡ bytes ++ flat_map told_bytes (front_within told_size room ds))
            (says : next ≡ next_told (front_within told_size room ds) ds) where
          abbrev listed : List Entry
          listed = front_within entry_size room (comes cookie)

          listed_is : front_within told_size room ds ≡ each entry_told listed
          listed_is = ap (front_within told_size room) came.1 ∙ front_is room (comes cookie)

          bytes_new : new ≡ bytes ++ listing_bytes listed
          bytes_new = items
              ∙ ap (λ (xs : List Dirent). bytes ++ flat_map told_bytes xs) listed_is
              ∙ ap (λ (xs : List ℕ). bytes ++ xs) (listing_is listed)

          next_is : next ≡ cond (nat_lt (length listed) (length (comes cookie))) None
              (Some (last_cookie 0 (comes cookie)))
          next_is = says ∙ ap (λ (xs : List Dirent). next_told xs ds) listed_is
              ∙ ap (λ (xs : List Dirent). next_told (each entry_told listed) xs) came.1
              ∙ ap (λ (k : ℕ). cond (nat_lt k (length (each entry_told (comes cookie)))) None
              (Some (last_told 0 (each entry_told (comes cookie))))) (length_is listed)
              ∙ ap (λ (k : ℕ). cond (nat_lt (length listed) k) None
              (Some (last_told 0 (each entry_told (comes cookie))))) (length_is (comes cookie))
              ∙ ap (λ (k : ℕ). cond (nat_lt (length listed) (length (comes cookie))) None (Some k))
              (last_is 0 (comes cookie))

          -- an entry has no room
          pub filled : IsGoodServer n.state → next ≡ None → AllServed (Bytes new)
          filled good full = ⊎_elim
              (λ less.
              let all = came_full t st.good.tree dir piece short some cookie room less in
              finished good new
              (bytes_new ∙ ap (λ (es : List Entry). bytes ++ listing_bytes es) (sym all) ∙ r.whole)
              (full_is_last t st.good.tree dir piece short some cookie room less))
              (λ enough.
              let test : nat_lt (length listed) (length (comes cookie)) ≡ false =
              grind (arith, nat_tests) in
              absurd (let clash : None ≡ Some (last_cookie 0 (comes cookie)) = sym full ∙ next_is
              ∙ ap (λ (b : Bool). cond b None (Some (last_cookie 0 (comes cookie)))) test in
              cc))
              (cases_lt (length listed) (length (comes cookie)))

          less_room : (size n m all : ℕ) → all ≡ n + m → size - all ≡ (size - n) - m
          less_room size n m all is = omega arith

          fewer_left : (left run rest k : ℕ) → left ≡ run + rest → 0 < run → left < suc k → rest < k
          fewer_left left run rest k is some low = omega arith

          same_last : (a b : ℕ) (es : List Entry) → es ≢ [] → last_cookie a es ≡ last_cookie b es
          same_last a b [] some = absurd (some refl)
          same_last a b (e ∷ es) some = refl

          long : (es : List Entry) → es ≢ [] → 0 < length es
          long [] some = absurd (some refl)
          long (e ∷ es) some = omega arith

          module _ (c : ℕ) (on : next ≡ Some c) (more : ds ≢ []) where
            some_came : comes cookie ≢ []
            some_came none = more (came.1 ∙ ap (each entry_told) none)

            by_steps : length (comes cookie) ≤ length listed
                → c ≡ last_cookie cookie (comes cookie) → (k : ℕ) → r.steps ≡ k
                → Paging n.state.tree dir (piece_of n.state) offset size g n g2 n2 c new
            by_steps enough at zero is = absurd (let low = r.enough in omega arith)
            by_steps enough at (suc k) is =
                let all = whole t st.good.tree dir piece short some cookie room enough in
                let rest : List Entry =
                page_of entry_size (room - sum_by entry_size (comes cookie)) t dir
                (last_cookie cookie (comes cookie)) in
                let grown : length new
                ≡ length bytes + sum_by entry_size (comes cookie) =
                ap length bytes_new ∙ length-append bytes (listing_bytes listed)
                ∙ ap (λ (m : ℕ). length bytes + m) (length-listing_bytes listed
                ∙ ap (sum_by entry_size) all) in
                let smaller : size - length new
                ≡ room - sum_by entry_size (comes cookie) =
                less_room size (length bytes) (sum_by entry_size (comes cookie))
                (length new) grown in
                let now : page_of entry_size (size - length new) t dir c ≡ rest =
                ap (λ (m : ℕ). page_of entry_size m t dir c) smaller
                ∙ ap (λ (m : ℕ). page_of entry_size
                (room - sum_by entry_size (comes cookie)) t dir m) at in
                let split = left_goes_on t st.good.tree dir piece short some cookie room enough in
                let counted = left_length t st.good.tree dir piece short some cookie room enough in
                let one = long (comes cookie) some_came in
                let step = ap (λ (m : ℕ). listing_messages m piece t dir cookie
                (page_of entry_size room t dir cookie)) is
                ∙ next_step piece t dir cookie k (page_of entry_size room t dir cookie)
                (all_not_last t st.good.tree dir piece short some cookie room enough one)
                ∙ ap (λ (es : List Entry). 1 + listing_messages k piece t dir
                (last_cookie cookie (comes cookie)) es)
                (later_is t st.good.tree dir piece short some cookie room enough)
                ∙ ap (λ (m : ℕ). 1 + listing_messages k piece t dir m rest) (sym at)
                ∙ ap (λ (es : List Entry). 1 + listing_messages k piece t dir c es) (sym now) in
                record {
                  same = state_now;
                  sent = r.sent + 1;
                  alone = all_sent;
                  steps = k;
                  enough = subst (λ (es : List Entry). length es < k) (sym now)
                      (fewer_left _ _ _ _ counted one (subst (λ (m : ℕ). length (page_of entry_size room t dir cookie) < m) is r.enough));
                  whole = ap (λ (es : List Entry). new ++ listing_bytes es) now
                      ∙ ap (λ (xs : List ℕ). xs ++ listing_bytes rest) (bytes_new
                      ∙ ap (λ (es : List Entry). bytes ++ listing_bytes es) all)
                      ∙ append_assoc bytes (listing_bytes (comes cookie)) (listing_bytes rest)
                      ∙ ap (λ (xs : List ℕ). bytes ++ xs)
                      (sym (flat_map-append entry_bytes (comes cookie) rest)
                      ∙ ap listing_bytes (sym split))
                      ∙ r.whole;
                  count = counts_more r.sent _ _ all_messages r.count step;
                  kept = all_kept;
                }

            went : length (comes cookie) ≤ length listed
                → Paging n.state.tree dir (piece_of n.state) offset size g n g2 n2 c new
            went enough =
                let test : nat_lt (length listed) (length (comes cookie)) ≡ false =
                grind (arith, nat_tests) in
                let told_on : Some c ≡ Some (last_cookie 0 (comes cookie)) = sym on ∙ next_is
                ∙ ap (λ (b : Bool). cond b None (Some (last_cookie 0 (comes cookie)))) test in
                let on_is : c ≡ last_cookie 0 (comes cookie) = cc in
                by_steps enough (on_is ∙ same_last 0 cookie (comes cookie) some_came) r.steps refl

            some_size : (es : List Entry) → es ≢ [] → 0 < sum_by entry_size es
            some_size [] some = absurd (some refl)
            some_size (e ∷ es) some = let sum = sum_by-cons entry_size e es in omega (arith, sum)

            -- something was listed
            pub grows : length bytes < length new
            grows = ⊎_elim
                (λ less.
                let test : nat_lt (length listed) (length (comes cookie)) ≡ true =
                grind (arith, nat_tests) in
                absurd (let clash : Some c ≡ None = sym on ∙ next_is
                ∙ ap (λ (b : Bool). cond b None (Some (last_cookie 0 (comes cookie)))) test
                in cc))
                (λ enough.
                let all = whole t st.good.tree dir piece short some cookie room enough in
                let grown = ap length bytes_new ∙ length-append bytes (listing_bytes listed)
                ∙ ap (λ (m : ℕ). length bytes + m) (length-listing_bytes listed
                ∙ ap (sum_by entry_size) all) in
                let more = some_size (comes cookie) some_came in
                omega (arith, grown, more))
                (cases_lt (length listed) (length (comes cookie)))

            -- all that came was listed
            pub goes_on : Paging n.state.tree dir (piece_of n.state) offset size g n g2 n2 c
                new
            goes_on = ⊎_elim
                (λ less.
                let test : nat_lt (length listed) (length (comes cookie)) ≡ true =
                grind (arith, nat_tests) in
                absurd (let clash : Some c ≡ None = sym on ∙ next_is
                ∙ ap (λ (b : Bool). cond b None (Some (last_cookie 0 (comes cookie)))) test
                in cc))
                (λ enough. went enough)
                (cases_lt (length listed) (length (comes cookie)))
