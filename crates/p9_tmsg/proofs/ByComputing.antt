-- Frames as bytes, computed.
use Rattle.std.specs.Prelude.{◌≡◌, [], ◌∷◌, refl}
use Rattle.p9_wire.specs.Frames.{frame}
use Rattle.p9_tmsg.specs.Messages.Message.{walk, clunk}
use Rattle.p9_tmsg.specs.Frames.{message_frame}

-- fid 1, newfid 2, the one name `a`
pub twalk_example : message_frame 3 (walk 1 2 ((97 ∷ []) ∷ [])) ≡ 20 ∷ 0 ∷ 0 ∷ 0 ∷ 110 ∷ 3 ∷ 0 ∷ 1
    ∷ 0 ∷ 0 ∷ 0 ∷ 2 ∷ 0 ∷ 0 ∷ 0 ∷ 1 ∷ 0 ∷ 1 ∷ 0 ∷ 97 ∷ []
unfolding frame
twalk_example = refl

pub tclunk_example : message_frame 258 (clunk 5) ≡ 11 ∷ 0 ∷ 0 ∷ 0 ∷ 120 ∷ 2 ∷ 1 ∷ 5 ∷ 0 ∷ 0 ∷ 0 ∷ []
unfolding frame
tclunk_example = refl
