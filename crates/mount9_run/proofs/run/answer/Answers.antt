-- The words, the header, and what follows them.
use Rattle.std.proofs.Common.{◌≡◌, ℕ, true, List, IfSome, Ok, Err, sym, ap, ◌∙◌, subst}
use Rattle.mount9_run.specs.Command.{Serve}
use Rattle.mount9_run.specs.CommandViews.{serve_view}
use Rattle.mount9_run.specs.Outcome.{run_of}
use Rattle.mount9_run.specs.Running.{Ran}
use Rattle.mount9_run.specs.Header.{header_of}
use Rattle.mount9_run.specs.HeaderViews.{header_view, TakesTextBy}
use Rattle.mount9_run.specs.Reading.{lines_of, Fails}
use Rattle.mount9_run.specs.declared.header.error.HeaderError.{HeaderError}
use Rattle.mount9_run.specs.declared.header.text.TextError.{TextError}
use Rattle.mount9_run.proofs.Mounting.{Ran-endless, Ran-line, Ran-header, commanded}
use Rattle.tree_host.specs.TreeHosts.{tree, holds}
use Rattle.mount9_run.proofs.Reporting.{linked_whole}
use Rattle.mount9_run.proofs.Ends.{not_served}
use Rattle.mount9_run.proofs.Heading.{headed_by}
use Rattle.mount9_run.specs.Outcome.{refusal}
use Rattle.mount9_run.specs.Taken.{Took, mounted_taken}
use Rattle.mount9_run.proofs.Ran.{always}
use Rattle.mount9_run.proofs.TakenInput.{endless, took_endless, took_header, took_nothing}
use Rattle.port_base.specs.Paths.{is_rooted_path}
use Rattle.mount9_run.proofs.Rooted.{command_rooted}
use Rattle.mount9_run.proofs.run.answer.Goals as goal

pub returns-in-Err-NoEnd-clause-ran : goal.returns-in-Err-NoEnd-clause-ran
returns-in-Err-NoEnd-clause-ran g c =
    let t = subst (λ (e : TextError). TakesTextBy (g.S.Source.left c.args.input.now)
    (g.S.Source.left c.take_text.new.source) (g.S.Source.faults c.args.input.now)
    (g.S.Source.faults c.take_text.new.source) c.take_text.new.text.items (Err e))
    c.in-Err-NoEnd.field-0-is c.in-Err-NoEnd.ensures.takes.answer in
    Ran-endless c.args.words.now (serve_view c.in-Ok.command) c.in-Ok.ensures _
    (g.S.Source.left c.args.input.now) _ _ _ _ _ _ _ t.0 (endless _ _ t.1) c.tell_line.ensures

pub returns-in-Ok-read_text-clause-ran : goal.returns-in-Ok-read_text-clause-ran
returns-in-Ok-read_text-clause-ran g c =
    let t = c.in-Ok-take_text.ensures.takes.answer in
    let read = ap (λ (x : List ℕ). header_of (lines_of x)) (sym c.deref.ensures.value)
    ∙ c.in-Ok-read_text.ensures.value in
    let ran = subst (λ (x : Serve). Ran (run_of x (header_view c.in-Ok-read_text.header))
    (g.S.Source.left c.take_text.new.source) (g.K.Sink.sent c.args.out.now)
    (g.K.Sink.sent c.mount.new.out) (g.S.Source.faults c.take_text.new.source)
    (g.S.Source.faults c.mount.new.input) (g.K.Sink.faults c.args.out.now)
    (g.K.Sink.faults c.mount.new.out) c.mount.result) c.share.ensures c.mount.ensures.ran in
    Ran-header c.args.words.now (serve_view c.in-Ok.command) c.in-Ok.ensures _ _ _ _ _ _ _ _ _
    c.take_text.new.text.items t.1 t.2 (header_view c.in-Ok-read_text.header) _ read t.0 ran

pub returns-in-Err-Line-clause-ran : goal.returns-in-Err-Line-clause-ran
returns-in-Err-Line-clause-ran g c =
    let t = c.in-Ok-take_text.ensures.takes.answer in
    let told = subst (λ (e : HeaderError). Fails e (header_of (lines_of c.deref.result.now)))
    c.in-Err-Line.field-0-is c.in-Err-Line.ensures.value in
    let read = ap (λ (x : List ℕ). header_of (lines_of x)) (sym c.deref.ensures.value) ∙ told in
    Ran-line c.args.words.now (serve_view c.in-Ok.command) c.in-Ok.ensures _ _ _ _ _ _ _ _ _
    c.take_text.new.text.items t.1 t.2 c.in-Err-Line.line read t.0
    c.tell_line-in-Err-Line.ensures

-- ---- the words are accepted

pub returns-in-Err-NoEnd-clause-unread : goal.returns-in-Err-NoEnd-clause-unread
returns-in-Err-NoEnd-clause-unread g c = λ none. absurd (commanded _ _ c.in-Ok.ensures none)

pub returns-in-Err-NoEnd-clause-refused : goal.returns-in-Err-NoEnd-clause-refused
returns-in-Err-NoEnd-clause-refused g c = λ none. absurd (commanded _ _ c.in-Ok.ensures none)

pub returns-in-Ok-read_text-clause-unread : goal.returns-in-Ok-read_text-clause-unread
returns-in-Ok-read_text-clause-unread g c = λ none. absurd (commanded _ _ c.in-Ok.ensures none)

pub returns-in-Ok-read_text-clause-refused : goal.returns-in-Ok-read_text-clause-refused
returns-in-Ok-read_text-clause-refused g c = λ none. absurd (commanded _ _ c.in-Ok.ensures none)

pub returns-in-Err-Line-clause-unread : goal.returns-in-Err-Line-clause-unread
returns-in-Err-Line-clause-unread g c = λ none. absurd (commanded _ _ c.in-Ok.ensures none)

pub returns-in-Err-Line-clause-refused : goal.returns-in-Err-Line-clause-refused
returns-in-Err-Line-clause-refused g c = λ none. absurd (commanded _ _ c.in-Ok.ensures none)

-- ---- a refused header isn't served

pub returns-in-Err-NoEnd-clause-ended : goal.returns-in-Err-NoEnd-clause-ended
returns-in-Err-NoEnd-clause-ended g c = λ served. absurd
    (not_served _ (λ e. absurd cc) c.tell_line.ensures served)

pub returns-in-Err-Line-clause-ended : goal.returns-in-Err-Line-clause-ended
returns-in-Err-Line-clause-ended g c = λ served. absurd
    (not_served _ (λ e. absurd cc) c.tell_line-in-Err-Line.ensures served)

pub returns-in-Err-NoEnd-clause-headed : goal.returns-in-Err-NoEnd-clause-headed
returns-in-Err-NoEnd-clause-headed g c = λ served. absurd
    (not_served _ (λ e. absurd cc) c.tell_line.ensures served)

pub returns-in-Err-Line-clause-headed : goal.returns-in-Err-Line-clause-headed
returns-in-Err-Line-clause-headed g c = λ served. absurd
    (not_served _ (λ e. absurd cc) c.tell_line-in-Err-Line.ensures served)

-- the tree of the header that was read is whole, since nothing is held of it
pub returns-in-Ok-read_text-clause-headed : goal.returns-in-Ok-read_text-clause-headed
returns-in-Ok-read_text-clause-headed g c = λ served.
    let t = c.in-Ok-take_text.ensures.takes.answer in
    let host = c.in-Ok-read_text.header.host in
    let read = ap (λ (x : List ℕ). header_of (lines_of x)) (sym c.deref.ensures.value)
    ∙ c.in-Ok-read_text.ensures.value in
    headed_by (g.S.Source.left c.args.input.now) (g.S.Source.left c.take_text.new.source)
    c.take_text.new.text.items t.1 t.2 (header_view c.in-Ok-read_text.header) read
    (record {
      good = host.good;
      whole = linked_whole (tree host) (holds host)
          c.in-Ok-read_text.ensures.fresh.holds host.stored;
    })

-- ---- what was taken of the input

pub returns-in-Err-NoEnd-clause-takes : goal.returns-in-Err-NoEnd-clause-takes
returns-in-Err-NoEnd-clause-takes g c = λ told.
    let t = subst (λ (e : TextError). TakesTextBy (g.S.Source.left c.args.input.now)
    (g.S.Source.left c.take_text.new.source) (g.S.Source.faults c.args.input.now)
    (g.S.Source.faults c.take_text.new.source) c.take_text.new.text.items (Err e))
    c.in-Err-NoEnd.field-0-is c.in-Err-NoEnd.ensures.takes.answer in
    took_endless c.args.words.now (serve_view c.in-Ok.command) c.in-Ok.ensures _ _ t.1

pub returns-in-Err-Line-clause-takes : goal.returns-in-Err-Line-clause-takes
returns-in-Err-Line-clause-takes g c = λ told.
    let t = c.in-Ok-take_text.ensures.takes.answer in
    let line = subst (λ (e : HeaderError). Fails e (header_of (lines_of c.deref.result.now)))
    c.in-Err-Line.field-0-is c.in-Err-Line.ensures.value in
    let read = ap (λ (x : List ℕ). header_of (lines_of x)) (sym c.deref.ensures.value) ∙ line in
    took_header c.args.words.now (serve_view c.in-Ok.command) c.in-Ok.ensures
    c.take_text.new.text.items _ t.2 read _ _ _ t.1
    (always (g.S.Source.left c.take_text.new.source)
    (λ rest. took_nothing (g.S.Source.left c.take_text.new.source)))

pub returns-in-Ok-read_text-clause-takes : goal.returns-in-Ok-read_text-clause-takes
returns-in-Ok-read_text-clause-takes g c = λ told.
    let t = c.in-Ok-take_text.ensures.takes.answer in
    let read = ap (λ (x : List ℕ). header_of (lines_of x)) (sym c.deref.ensures.value)
    ∙ c.in-Ok-read_text.ensures.value in
    let took = subst (λ (x : Serve). IfSome (g.S.Source.left c.take_text.new.source)
    (λ rest. Took (mounted_taken x (tree c.in-Ok-read_text.header.host) rest
    (refusal x (header_view c.in-Ok-read_text.header))) (g.S.Source.left c.take_text.new.source)
    (g.S.Source.left c.mount.new.input))) c.share.ensures (c.mount.ensures.takes told) in
    took_header c.args.words.now (serve_view c.in-Ok.command) c.in-Ok.ensures
    c.take_text.new.text.items (Ok (header_view c.in-Ok-read_text.header)) t.2 read _ _ _ t.1
    took

-- the root that the words name is in form
pub mount-requires-clause-rooted : goal.mount-requires-clause-rooted
mount-requires-clause-rooted g c = subst (λ (x : Serve). is_rooted_path x.root ≡ true)
    (sym c.share.ensures) (command_rooted c.args.words.now (serve_view c.in-Ok.command)
    c.in-Ok.ensures)
