-- A record's lines go by its kind.
use Rattle.std.proofs.Common.{sym, ap, ◌∙◌}
use Rattle.mount9_run.specs.ReportLines.{link_line}
use Rattle.tree_host.specs.TreeHosts.{tree}
use Rattle.mount9_run.proofs.Sequences.{Wrote-at}
use Rattle.mount9_run.proofs.WalkLemmas.{stored_text-file, stored_text-directory, stored_text-link}
use Rattle.mount9_run.proofs.report.walk.write_stored.Goals as goal

pub returns-in-File : goal.returns-in-File
returns-in-File g c = Wrote-at (sym (stored_text-file (tree c.args.host.now) c.args.attr.now
    c.requires c.in-File.is)) c.write_file.ensures

pub returns-in-Directory : goal.returns-in-Directory
returns-in-Directory g c = Wrote-at (sym (stored_text-directory (tree c.args.host.now)
    c.args.attr.now c.requires c.in-Directory.is)) c.write_directory.ensures

pub returns-in-Link : goal.returns-in-Link
returns-in-Link g c = Wrote-at (ap (link_line c.args.attr.now) c.peek_target.ensures
    ∙ sym (stored_text-link (tree c.args.host.now) c.args.attr.now c.requires c.in-Link.is))
    c.write_link_line.ensures
