-- The directories, the upper and the work directory, the count and the user, one after the other.
use Rattle.std.proofs.Common.{◌∙◌, sym}
use Rattle.std.proofs.lemmas.List.{length-map}
use Rattle.libmount.proofs.FactLemmas.{explains_told}
use Rattle.libmount.proofs.OverlayLemmas.{overlay_whole}
use Rattle.libmount.proofs.overlay.telling.OverlayExplainable.explain.Goals as goal

pub returns-clause-told : goal.returns-clause-told
returns-clause-told g c =
    rw (← c.self.view_is) (overlay_whole _ _ _ _ _ _ _ _ _ _ _ _ _ _ _ _ _
    c.new-out.ensures.items c.as_slice-dirs.ensures (sym (length-map _ _))
    c.tell_dirs.ensures.facts
    (c.tell_upper.ensures.facts ∙ c.tell_dirs.ensures.facts) c.in_ok-tell_dirs.ensures.told
    (rw c.deref.ensures.value at c.in_ok-tell_upper.ensures.told) c.count_text.ensures
    c.in_ok-push.ensures
    (explains_told _ _ _ _ _ _ c.user.ensures.told)
    (rw c.as_bytes.ensures.value at c.in_ok-push-2.ensures))
