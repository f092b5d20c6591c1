-- Frames as bytes, computed.
use Rattle.std.specs.Prelude.{◌≡◌, [], ◌∷◌, refl}
use Rattle.p9_wire.specs.Frames.{frame}
use Rattle.p9_rmsg.specs.Replies.Reply.{lerror, walk}
use Rattle.p9_rmsg.specs.Frames.{reply_frame}

-- ENOENT
pub rlerror_example : reply_frame 258 (lerror 2) ≡ 11 ∷ 0 ∷ 0 ∷ 0 ∷ 7 ∷ 2 ∷ 1 ∷ 2 ∷ 0 ∷ 0 ∷ 0 ∷ []
unfolding frame
rlerror_example = refl

-- one directory
pub rwalk_example : reply_frame 3 (walk ((128, (1, 2)) ∷ [])) ≡ 22 ∷ 0 ∷ 0 ∷ 0 ∷ 111 ∷ 3 ∷ 0 ∷ 1
    ∷ 0 ∷ 128 ∷ 1 ∷ 0 ∷ 0 ∷ 0 ∷ 2 ∷ 0 ∷ 0 ∷ 0 ∷ 0 ∷ 0 ∷ 0 ∷ 0 ∷ []
unfolding frame
rwalk_example = refl
