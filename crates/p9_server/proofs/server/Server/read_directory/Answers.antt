-- A page of what a fid has open, or all is as it was.
use Rattle.std.proofs.Common.{◌≡◌, Vec, ℕ, List, Ok, Err, refl, subst, rules}
use Rattle.tree_host.specs.Host.{Answers}
use Rattle.p9_tmsg.specs.Messages.Message.{readdir}
use Rattle.p9_rmsg.specs.Replies.Reply.{readdir as was_listed}
use Rattle.fid_model.specs.Listings.{page_by, page_room}
use Rattle.p9_server.specs.Paging.{page_told}
use Rattle.p9_server.specs.Steps.{server_state}
use Rattle.p9_server.proofs.HoldCounts.{kept_named}
use Rattle.p9_server.proofs.Showing.{named_held}
use Rattle.p9_server.proofs.Asking.{unknown_step}
use Rattle.p9_server.proofs.ListingSteps.{no_listing_step, closed_listing_step, listing_step}
use Rattle.p9_server.proofs.server.Server.read_directory.Goals as goal

pub returns-in_err-ino-clause-step : goal.returns-in_err-ino-clause-step
returns-in_err-ino-clause-step g c =
    let s = c.args.self.now in
    let tree = g.H.Host.tree s.host in
    let kept = kept_named (g.H.Host.holds s.host) s.fids s.sound.held tree
    (g.met.H.Host.stored s.host).kept in
    let before = server_state tree s.fids s.msize s.share in
    unknown_step (readdir c.args.fid c.args.offset c.args.count) (λ (v : Vec _ _).
    was_listed v.items) was_listed before kept (g.H.Host.calls s.host).steady
    (page_by before c.args.offset c.args.count) c.args.fid (g.H.Host.calls s.host).faults
    c.from_residual.result c.in_err-ino.field-0.0 c.from_residual.ensures.1 refl
    c.in_err-ino.ensures

pub list_page-requires : goal.list_page-requires
list_page-requires g c = let s = c.args.self.now in named_held (g.H.Host.holds s.host) s.fids
    s.sound.held c.args.fid c.in_ok-ino.ino c.in_ok-ino.ensures

pub returns-in_err-bytes-clause-step : goal.returns-in_err-bytes-clause-step
returns-in_err-bytes-clause-step g c =
    let s = c.args.self.now in
    let tree = g.H.Host.tree s.host in
    let kept = kept_named (g.H.Host.holds s.host) s.fids s.sound.held tree
    (g.met.H.Host.stored s.host).kept in
    let room : c.min-room.result ≡ page_room c.args.count s.msize = search rules in
    let e = c.in_err-bytes.ensures in
    no_listing_step tree s.fids s.msize s.share c.args.fid c.args.offset c.args.count kept
    (g.H.Host.calls s.host).steady c.in_ok-ino.ino c.in_ok-ino.ensures
    (g.H.Host.tree c.list_page.new.host) e.tree (g.H.Host.calls s.host).faults
    (g.H.Host.calls c.list_page.new.host).faults
    {D = Vec _ _} (λ v. was_listed v.items) c.from_residual-in_err-bytes.result
    c.in_err-bytes.field-0.0 c.from_residual-in_err-bytes.ensures.1
    (subst (λ (n : ℕ). Answers {A = List ℕ} (page_told tree c.in_ok-ino.ino c.args.offset n)
    (Err c.in_err-bytes.field-0.0)) room e.answer) e.cause

pub returns-in_err-open_ino-clause-step : goal.returns-in_err-open_ino-clause-step
returns-in_err-open_ino-clause-step g c =
    let s = c.args.self.now in
    let tree = g.H.Host.tree s.host in
    let kept = kept_named (g.H.Host.holds s.host) s.fids s.sound.held tree
    (g.met.H.Host.stored s.host).kept in
    let room : c.min-room.result ≡ page_room c.args.count s.msize = search rules in
    let e = c.in_ok-bytes.ensures in
    closed_listing_step tree s.fids s.msize s.share c.args.fid c.args.offset c.args.count kept
    (g.H.Host.calls s.host).steady c.in_ok-ino.ino c.in_ok-ino.ensures
    (g.H.Host.tree c.list_page.new.host) e.tree (g.H.Host.calls s.host).faults
    (g.H.Host.calls c.list_page.new.host).faults
    (λ (v : Vec _ _). was_listed v.items) c.in_ok-bytes.bytes.items
    (subst (λ (n : ℕ). page_told tree c.in_ok-ino.ino c.args.offset n
    ≡ Ok c.in_ok-bytes.bytes.items) room e.answer.exactly) e.cause.counted
    c.from_residual-in_err-open_ino.result c.in_err-open_ino.field-0.0
    c.from_residual-in_err-open_ino.ensures.1 c.in_err-open_ino.ensures

pub returns-clause-step : goal.returns-clause-step
returns-clause-step g c =
    let s = c.args.self.now in
    let tree = g.H.Host.tree s.host in
    let kept = kept_named (g.H.Host.holds s.host) s.fids s.sound.held tree
    (g.met.H.Host.stored s.host).kept in
    let room : c.min-room.result ≡ page_room c.args.count s.msize = search rules in
    let e = c.in_ok-bytes.ensures in
    listing_step tree s.fids s.msize s.share c.args.fid c.args.offset c.args.count kept
    (g.H.Host.calls s.host).steady c.in_ok-ino.ino c.in_ok-ino.ensures
    (g.H.Host.tree c.list_page.new.host) e.tree (g.H.Host.calls s.host).faults
    (g.H.Host.calls c.list_page.new.host).faults
    (λ (v : Vec _ _). was_listed v.items) c.in_ok-bytes.bytes.items
    (subst (λ (n : ℕ). page_told tree c.in_ok-ino.ino c.args.offset n
    ≡ Ok c.in_ok-bytes.bytes.items) room e.answer.exactly) e.cause.counted
    c.in_ok-open_ino.field-0 c.in_ok-open_ino.ensures c.in_ok-bytes.bytes refl
