-- Each entry of another name is passed, and the first of this name, in any case, is told.
use Rattle.std.proofs.Common.{◌∙◌, refl, arith, rules}
use Rattle.tree_model.proofs.Folding.{scan_starts, scan_passes, scan_finds, scan_ends}
use Rattle.tree_model.proofs.Folding.{folded_name_good}
use Rattle.p9_server.proofs.Folded.{folded_test, entry_next, entry_none}
use Rattle.p9_server.proofs.lookup.folded_name.Goals as goal

pub loop-entry-init : goal.loop-entry-init
loop-entry-init g c = record {
  passed = scan_starts (g.H.Host.tree c.args.host.now) (g.met.H.Host.good c.args.host.now)
      c.args.dir c.args.name.now;
  below = omega arith;
  tree = refl;
  holds = refl;
  faults = refl;
  steady = refl;
}

pub returns-then-eq_ignore_ascii_case-clause-answer :
    goal.returns-then-eq_ignore_ascii_case-clause-answer
returns-then-eq_ignore_ascii_case-clause-answer g c =
    let l = c.loop-entry in
    let next = entry_next _ _ _ _ l.invariant.tree c.in_ok-entry.ensures.answer c.in-Some.is
    c.entry.view_is in
    let same = folded_test _ _ _ _ c.deref.ensures.value c.eq_ignore_ascii_case.ensures.test
    ∙ c.if-eq_ignore_ascii_case.true in
    record {
      exactly = scan_finds (g.H.Host.tree c.args.host.now)
          (g.met.H.Host.good c.args.host.now) c.args.dir c.args.name.now l.cookie _ next
          l.invariant.passed same;
    }

pub returns-then-eq_ignore_ascii_case-clause-named :
    goal.returns-then-eq_ignore_ascii_case-clause-named
returns-then-eq_ignore_ascii_case-clause-named g c =
    let l = c.loop-entry in
    let next = entry_next _ _ _ _ l.invariant.tree c.in_ok-entry.ensures.answer c.in-Some.is
    c.entry.view_is in
    let same = folded_test _ _ _ _ c.deref.ensures.value c.eq_ignore_ascii_case.ensures.test
    ∙ c.if-eq_ignore_ascii_case.true in
    let t = g.H.Host.tree c.args.host.now in
    let good = g.met.H.Host.good c.args.host.now in
    folded_name_good t good c.args.dir c.args.name.now _ (scan_finds t good c.args.dir
    c.args.name.now l.cookie _ next l.invariant.passed same)

pub loop-entry-smaller : goal.loop-entry-smaller
loop-entry-smaller g c =
    let l = c.loop-entry in
    let next = entry_next _ _ _ _ l.invariant.tree c.in_ok-entry.ensures.answer c.in-Some.is
    c.entry.view_is in
    let other = folded_test _ _ _ _ c.deref.ensures.value c.eq_ignore_ascii_case.ensures.test
    ∙ c.if-eq_ignore_ascii_case.false in
    let past = scan_passes (g.H.Host.tree c.args.host.now)
    (g.met.H.Host.good c.args.host.now) c.args.dir c.args.name.now l.cookie _ next
    l.invariant.passed other in
    let above = past.0 in
    let bound = l.invariant.below in
    omega arith

pub loop-entry-preserved : goal.loop-entry-preserved
loop-entry-preserved g c =
    let l = c.loop-entry in
    let e = c.in_ok-entry.ensures in
    let next = entry_next _ _ _ _ l.invariant.tree e.answer c.in-Some.is c.entry.view_is in
    let other = folded_test _ _ _ _ c.deref.ensures.value c.eq_ignore_ascii_case.ensures.test
    ∙ c.if-eq_ignore_ascii_case.false in
    let past = scan_passes (g.H.Host.tree c.args.host.now)
    (g.met.H.Host.good c.args.host.now) c.args.dir c.args.name.now l.cookie _ next
    l.invariant.passed other in
    record {
      passed = past.1;
      below = search rules;
      tree = e.tree ∙ l.invariant.tree;
      holds = e.holds ∙ l.invariant.holds;
      faults = e.caused.cause.counted ∙ l.invariant.faults;
      steady = e.caused.steady ∙ l.invariant.steady;
    }

pub returns-clause-answer : goal.returns-clause-answer
returns-clause-answer g c =
    let l = c.loop-entry in
    let none = entry_none _ _ _ _ l.invariant.tree c.in_ok-entry.ensures.answer c.in_default.is in
    record {
      exactly = scan_ends (g.H.Host.tree c.args.host.now)
          (g.met.H.Host.good c.args.host.now) c.args.dir c.args.name.now l.cookie none
          l.invariant.passed;
    }
