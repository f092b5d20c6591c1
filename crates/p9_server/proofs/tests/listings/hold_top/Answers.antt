-- Nothing was held, and the top is held then.
use Rattle.std.proofs.Common.{◌≡◌, ◌∙◌, ℕ, ap, Option, arith}
use Rattle.std.specs.Prelude.{unwrap_or}
use Rattle.std.specs.Ordering.{nat_cmp}
use Rattle.std.specs.FinMap.{get-empty}
use Rattle.tree_host.specs.Holds.{Holds, hold_count}
use Rattle.p9_server.proofs.HoldCounts.{more_counts_of, more_held}
use Rattle.p9_server.proofs.tests.listings.hold_top.Goals as goal

pub attach_path-requires-clause-room : goal.attach_path-requires-clause-room
attach_path-requires-clause-room c i =
    let none : hold_count c.args.host.now.holds i ≡ 0 =
    ap (λ (h : Holds). hold_count h i) c.requires
    ∙ ap (λ (o : Option ℕ). unwrap_or o 0) (get-empty {X = ℕ} nat_cmp i) in
    omega arith

pub returns-in-Ok : goal.returns-in-Ok
returns-in-Ok c =
    more_held c.args.host.now.holds c.attach_path.new.self.holds c.in-Ok.top
    (more_counts_of c.args.host.now.holds c.attach_path.new.self.holds c.in-Ok.top
    c.in-Ok.ensures.held)
