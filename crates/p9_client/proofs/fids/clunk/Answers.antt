-- The fid goes whatever is answered.
use Rattle.p9_client.proofs.Telling.{fid_at, on_err}
use Rattle.p9_client.proofs.Answering.{clunk_done, clunk_unfinished}
use Rattle.p9_client.proofs.fids.clunk.Goals as goal

pub returns-clause-gone : goal.returns-clause-gone
returns-clause-gone g c =
    let f = fid_at _ c.requires.known in
    record {
      state = clunk_done (g.N.Nine.at c.args.nine.now).state
          (g.met.N.Nine.good c.args.nine.now) c.args.fid f.0 f.1 _ _ _ _
          c.in_ok-exchange.ensures.outcome.outcome;
      asked = c.in_ok-exchange.ensures.outcome.asked;
    }

pub returns-in_err-exchange-clause-unfinished : goal.returns-in_err-exchange-clause-unfinished
returns-in_err-exchange-clause-unfinished g c =
    let f = fid_at _ c.requires.known in
    on_err c.from_residual.result _ (clunk_unfinished (g.N.Nine.at c.args.nine.now).state
    (g.met.N.Nine.good c.args.nine.now) c.args.fid f.0 f.1 _ _ _ c.in_err-exchange.ensures.err)
