use Rattle.lapi_capture.proofs.ActFrames.{frames-told}
use Rattle.lapi_capture.proofs.laws.landings_are_told.Goals as goal

pub returns : goal.returns
returns c = λ script rules acts valid few v room.
    frames-told c.spelling_laws.ensures.round_trip c.spelling_laws.ensures.cut c.spelling_laws.ensures.longest script rules valid few acts v room
