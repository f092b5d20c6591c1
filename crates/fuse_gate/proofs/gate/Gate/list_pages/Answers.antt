-- The first message, the next ones, and each end.
use Rattle.std.proofs.Common.{◌-◌, List, ap, ◌∙◌, arith, subst, sym, refl, Some}
use Rattle.std.proofs.Common.{None}
use Rattle.std.specs.Prelude.{map as each}
use Rattle.p9_rmsg.specs.Dirents.{dirent_of}
use Rattle.p9_rmsg.specs.declared.dirent.Dirent.{Dirent as DirentStruct}
use Rattle.p9_client.specs.Listing.{entries_answer}
use Rattle.fuse_wire.specs.Answers.{listed_by, rest_of}
use Rattle.fuse_gate.specs.Desks.{room_of}
use Rattle.fuse_gate.specs.Listings.{AddsFront}
use Rattle.fuse_gate.proofs.Asking.{on_err}
use Rattle.fuse_gate.proofs.Desks.{rest_none, behind_none, rest_long}
use Rattle.fuse_gate.proofs.Listings.{none_of, some_of, listed_more, listed_behind, listed_next}
use Rattle.fuse_gate.proofs.Paging.{names_short}
use Rattle.fuse_gate.proofs.ListingPages.{begins, refused, ended, filled, grows, goes_on}
use Rattle.fuse_gate.proofs.gate.Gate.list_pages.Goals as goal

pub pages-init : goal.pages-init
pages-init g c = record {
  paging = begins _ _ _ c.args.offset (room_of c.args.builder.now) c.args.self.now
      (g.N.Nine.at c.args.nine.now) _ (rest_none (listed_by c.args.builder.now.entries.now));
  behind = behind_none (listed_by c.args.builder.now.entries.now);
  end = refl;
  reference = refl;
}

pub returns-in-Err-clause-served : goal.returns-in-Err-clause-served
returns-in-Err-clause-served g c =
    refused (g.N.Nine.at c.args.nine.now) c.requires.stands c.requires.opened
    (names_short (g.N.Nine.at c.args.nine.now).state.tree c.requires.stands.good.tree _)
    c.args.offset (room_of c.args.builder.now) c.pages.invariant.paging c.count_message.new.self
    (g.N.Nine.at c.read_entries.new.nine) c.count_message.ensures c.in_ok-told.ensures.kept
    (c.min-piece.result - 11) (omega (arith, c.min-piece.ensures, c.msize.ensures))
    (entries_answer c.in_ok-told.told) c.in_ok-told.ensures.answer
    c.in-Err.errno (ap entries_answer c.in-Err.is)

-- what was listed so far begins the listing
pub returns-in-Err-clause-front : goal.returns-in-Err-clause-front
returns-in-Err-clause-front g c = (_, sym c.pages.invariant.paging.whole)

pub returns-in_err-told-clause-front : goal.returns-in_err-told-clause-front
returns-in_err-told-clause-front g c = on_err c.from_residual.result _
    (_, sym c.pages.invariant.paging.whole)

pub returns-then-is_empty-clause-served : goal.returns-then-is_empty-clause-served
returns-then-is_empty-clause-served g c =
    ended (g.N.Nine.at c.args.nine.now) c.requires.stands c.requires.opened
    (names_short (g.N.Nine.at c.args.nine.now).state.tree c.requires.stands.good.tree _)
    c.args.offset (room_of c.args.builder.now) c.pages.invariant.paging c.count_message.new.self
    (g.N.Nine.at c.read_entries.new.nine) c.count_message.ensures c.in_ok-told.ensures.kept
    (c.min-piece.result - 11) (omega (arith, c.min-piece.ensures, c.msize.ensures))
    (entries_answer c.in_ok-told.told) c.in_ok-told.ensures.answer
    (each dirent_of c.in-Ok.entries.items) (ap entries_answer c.in-Ok.is)
    (g.met.N.Nine.good c.args.nine.now)
    (none_of c.in-Ok.entries.items _ c.if-is_empty.ensures
    (omega (arith, c.in-Ok.entries.ok.0)))

pub returns-in-None-clause-served : goal.returns-in-None-clause-served
returns-in-None-clause-served g c =
    let adds = (subst (λ (ds : List DirentStruct). AddsFront c.pages.builder.end
    (listed_by c.pages.builder.entries.now) (listed_by c.add_entries.new.builder.entries.now)
    (each dirent_of ds) None) c.deref.ensures.value c.in-None.ensures.added) in
    filled (g.N.Nine.at c.args.nine.now) c.requires.stands c.requires.opened
    (names_short (g.N.Nine.at c.args.nine.now).state.tree c.requires.stands.good.tree _)
    c.args.offset (room_of c.args.builder.now) c.pages.invariant.paging c.count_message.new.self
    (g.N.Nine.at c.read_entries.new.nine) c.count_message.ensures c.in_ok-told.ensures.kept
    (c.min-piece.result - 11) (omega (arith, c.min-piece.ensures, c.msize.ensures))
    (entries_answer c.in_ok-told.told) c.in_ok-told.ensures.answer
    (each dirent_of c.in-Ok.entries.items) (ap entries_answer c.in-Ok.is)
    (rest_of (listed_by c.args.builder.now.entries.now)
    (listed_by c.add_entries.new.builder.entries.now)) None
    (listed_more (listed_by c.args.builder.now.entries.now) (listed_by c.pages.builder.entries.now)
    (listed_by c.add_entries.new.builder.entries.now) c.pages.invariant.behind
    c.args.builder.now.end c.pages.builder.end c.pages.invariant.end
    (each dirent_of c.in-Ok.entries.items) None adds)
    (listed_next (listed_by c.args.builder.now.entries.now) (listed_by c.pages.builder.entries.now)
    (listed_by c.add_entries.new.builder.entries.now) c.pages.invariant.behind
    c.args.builder.now.end c.pages.builder.end c.pages.invariant.end
    (each dirent_of c.in-Ok.entries.items) None adds)
    (g.met.N.Nine.good c.args.nine.now) refl

pub returns-in-None-clause-added : goal.returns-in-None-clause-added
returns-in-None-clause-added g c =
    listed_behind (listed_by c.args.builder.now.entries.now) (listed_by c.pages.builder.entries.now)
    (listed_by c.add_entries.new.builder.entries.now) c.pages.invariant.behind
    c.args.builder.now.end c.pages.builder.end c.pages.invariant.end
    (each dirent_of c.in-Ok.entries.items) None
    (subst (λ (ds : List DirentStruct). AddsFront c.pages.builder.end
    (listed_by c.pages.builder.entries.now) (listed_by c.add_entries.new.builder.entries.now)
    (each dirent_of ds) None) c.deref.ensures.value c.in-None.ensures.added)

pub pages-smaller : goal.pages-smaller
pages-smaller g c =
    let adds = (subst (λ (ds : List DirentStruct). AddsFront c.pages.builder.end
    (listed_by c.pages.builder.entries.now) (listed_by c.add_entries.new.builder.entries.now)
    (each dirent_of ds) (Some c.in-Some.next)) c.deref.ensures.value c.in-Some.ensures.added) in
    let more = grows (g.N.Nine.at c.args.nine.now) c.requires.stands c.requires.opened
    (names_short (g.N.Nine.at c.args.nine.now).state.tree c.requires.stands.good.tree _)
    c.args.offset (room_of c.args.builder.now) c.pages.invariant.paging c.count_message.new.self
    (g.N.Nine.at c.read_entries.new.nine) c.count_message.ensures c.in_ok-told.ensures.kept
    (c.min-piece.result - 11) (omega (arith, c.min-piece.ensures, c.msize.ensures))
    (entries_answer c.in_ok-told.told) c.in_ok-told.ensures.answer
    (each dirent_of c.in-Ok.entries.items) (ap entries_answer c.in-Ok.is)
    (rest_of (listed_by c.args.builder.now.entries.now)
    (listed_by c.add_entries.new.builder.entries.now)) (Some c.in-Some.next)
    (listed_more (listed_by c.args.builder.now.entries.now) (listed_by c.pages.builder.entries.now)
    (listed_by c.add_entries.new.builder.entries.now) c.pages.invariant.behind
    c.args.builder.now.end c.pages.builder.end c.pages.invariant.end
    (each dirent_of c.in-Ok.entries.items) (Some c.in-Some.next) adds)
    (listed_next (listed_by c.args.builder.now.entries.now) (listed_by c.pages.builder.entries.now)
    (listed_by c.add_entries.new.builder.entries.now) c.pages.invariant.behind
    c.args.builder.now.end c.pages.builder.end c.pages.invariant.end
    (each dirent_of c.in-Ok.entries.items) (Some c.in-Some.next) adds)
    c.in-Some.next refl (some_of c.in-Ok.entries.items _ c.if-is_empty.ensures
    (omega (arith, c.in-Ok.entries.ok.0))) in
    let was = rest_long (listed_by c.args.builder.now.entries.now)
    (listed_by c.pages.builder.entries.now) c.pages.invariant.behind in
    let now = rest_long (listed_by c.args.builder.now.entries.now)
    (listed_by c.add_entries.new.builder.entries.now) (listed_behind (listed_by c.args.builder.now.entries.now) (listed_by c.pages.builder.entries.now)
    (listed_by c.add_entries.new.builder.entries.now) c.pages.invariant.behind
    c.args.builder.now.end c.pages.builder.end c.pages.invariant.end
    (each dirent_of c.in-Ok.entries.items) (Some c.in-Some.next) adds) in
    omega (
      arith,
      more,
      was,
      now,
      c.in-Some.ensures.end,
      c.add_entries.new.builder.before,
      c.add_entries.new.builder.entries.now.bytes.ok.0,
    )

pub pages-preserved : goal.pages-preserved
pages-preserved g c =
    let adds = (subst (λ (ds : List DirentStruct). AddsFront c.pages.builder.end
    (listed_by c.pages.builder.entries.now) (listed_by c.add_entries.new.builder.entries.now)
    (each dirent_of ds) (Some c.in-Some.next)) c.deref.ensures.value c.in-Some.ensures.added) in
    record {
      paging = goes_on (g.N.Nine.at c.args.nine.now) c.requires.stands c.requires.opened
          (names_short (g.N.Nine.at c.args.nine.now).state.tree c.requires.stands.good.tree _)
          c.args.offset (room_of c.args.builder.now) c.pages.invariant.paging c.count_message.new.self
          (g.N.Nine.at c.read_entries.new.nine) c.count_message.ensures c.in_ok-told.ensures.kept
          (c.min-piece.result - 11) (omega (arith, c.min-piece.ensures, c.msize.ensures))
          (entries_answer c.in_ok-told.told) c.in_ok-told.ensures.answer
          (each dirent_of c.in-Ok.entries.items) (ap entries_answer c.in-Ok.is)
          (rest_of (listed_by c.args.builder.now.entries.now)
          (listed_by c.add_entries.new.builder.entries.now)) (Some c.in-Some.next)
          (listed_more (listed_by c.args.builder.now.entries.now) (listed_by c.pages.builder.entries.now)
          (listed_by c.add_entries.new.builder.entries.now) c.pages.invariant.behind
          c.args.builder.now.end c.pages.builder.end c.pages.invariant.end
          (each dirent_of c.in-Ok.entries.items) (Some c.in-Some.next) adds)
          (listed_next (listed_by c.args.builder.now.entries.now) (listed_by c.pages.builder.entries.now)
          (listed_by c.add_entries.new.builder.entries.now) c.pages.invariant.behind
          c.args.builder.now.end c.pages.builder.end c.pages.invariant.end
          (each dirent_of c.in-Ok.entries.items) (Some c.in-Some.next) adds)
          c.in-Some.next refl (some_of c.in-Ok.entries.items _ c.if-is_empty.ensures
          (omega (arith, c.in-Ok.entries.ok.0)));
      behind = listed_behind (listed_by c.args.builder.now.entries.now) (listed_by c.pages.builder.entries.now)
          (listed_by c.add_entries.new.builder.entries.now) c.pages.invariant.behind
          c.args.builder.now.end c.pages.builder.end c.pages.invariant.end
          (each dirent_of c.in-Ok.entries.items) (Some c.in-Some.next) adds;
      end = c.in-Some.ensures.end ∙ c.pages.invariant.end;
      reference = c.in-Some.ensures.same_reference ∙ c.pages.invariant.reference;
    }
