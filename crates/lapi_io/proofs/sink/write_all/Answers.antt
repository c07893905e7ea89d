use Rattle.std.proofs.Common.{rules, ◌++◌, take}
use Rattle.std.proofs.KnownBytes.{Appends-trans}
use Rattle.lapi_io.proofs.Pieces.{still_whole}
use Rattle.lapi_io.proofs.sink.write_all.Goals as goal

pub loop-rest-preserved : goal.loop-rest-preserved
loop-rest-preserved g c =
    let w = c.loop-rest.invariant.written in
    record {
      written = (w.0 ++ take c.in_ok-n.n c.loop-rest.rest.now, rw c.split_at.ensures.back (still_whole c.args.piece.now w.0 c.loop-rest.rest.now c.in_ok-n.n w.1), Appends-trans _ _ _ w.0 _ w.2 c.in_ok-n.ensures.bytes);
      later = search rules;
      room = search rules;
    }
