use Rattle.std.proofs.Common.{[], refl, arith}
use Rattle.lapi_tool.proofs.Feeding.{nothing-consumed, nothing-fed}
use Rattle.lapi_tool.proofs.landings.feed_all.Goals as goal

pub loop-fed-init : goal.loop-fed-init
loop-fed-init g c = record {
  read = ([], nothing-consumed (g.S.Source.left c.args.source.now), c.requires, refl);
  sound = nothing-fed c.args.reader.now (c.captures_are_read.ensures.fault c.args.reader.now [] c.requires) c.requires;
  later = omega arith;
}
